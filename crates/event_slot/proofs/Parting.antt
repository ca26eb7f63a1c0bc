-- An `Arc` with a claim, apart from its bytes and what it shares, and together at another value or state. Assumes `Logic`.
use Rattle.event_slot.proofs.Names.{◌≡◌, ℕ, [], ◌∷◌, ◌++◌, Option, Ura, full_share, SProp, ent, sep, Fml, fsep, Logic, sem, ‵, ◌⊛◌, ◌$◌, ◌∵◌, !, qed, by, move, split, fsplit, fsplit3, fjoin, use1, done, RattleType, part_at}
use types.RcWeak.{part}
use denote.Struct.Owning.{shape}
use denote.Struct.OwningLaws.{part_out, part_in}
use denote.Struct.Struct.{Struct}
use Rattle.counted_slot.specs.Counting.{fact}
use Rattle.std.specs.declared.alloc.Allocator.{Ghosts as Freeing}
use Rattle.event_slot.specs.Holding.{claim_owns}
use Rattle.event_slot.specs.declared.rule.Ruled.{Ghosts}
use Rattle.event_slot.specs.contracts.owned.Owned as owned

module _ (P R Q B V Kr : RattleType) (g : Ghosts R.Denot Q.Denot V.Denot Kr.Denot) (f : Freeing B.Denot) where
  abbrev pub Or : RattleType
  Or = owned.the_row P R Q B V Kr g f

  -- the bytes
  abbrev pub D : RattleType
  D = Struct (shape (owned.the_type P R Q B V Kr g f))

  module _ {M : Type 1} {𝓤 : Ura M} (𝓛 : Logic 𝓤) (b o : ℕ) (ho : Or.Denot) where
    abbrev ⟦◌⟧ : Fml → SProp 𝓤
    ⟦ P' ⟧ = sem 𝓛 P'

    abbrev pub Raw : Fml
    Raw = part_at D full_share (ho.slot, (ho.arc, tt)) b o

    abbrev Same : Fml
    Same = fact (ho.arc.of ≡ ho.of)

    abbrev pub Bytes : Fml
    Bytes = fsep Raw Same

    abbrev pub Token : Fml
    Token = part 63 ho.arc.life

    abbrev pub Claim : ℕ → Option R.Denot → Option Q.Denot → Fml
    Claim = claim_owns V.coded.code ho.name R Q g.counts (g.holds ho.key) (ho.arc.life ∷ (P.lives ++ (R.lives ++ Q.lives))) ho.slot

    abbrev pub at : Option R.Denot → Option Q.Denot → Or.Denot
    at v s = record { slot = ho.slot; arc = ho.arc; of = ho.of; name = ho.name; key = ho.key; right = ho.right; value = v; state = s }

    pub apart : ent 𝓤 ⟦ part_at Or full_share ho b o ⟧ (sep 𝓤 ⟦ Bytes ⟧ (sep 𝓤 ⟦ Token ⟧ ⟦ Claim ho.right ho.value ho.state ⟧))
    apart = qed 𝓛 (‵ (part_at Or full_share ho b o) ∷ []) ∵ use1 𝓛 (‵ Raw ⊛ ‵ (fsep Same (fsep Token (Claim ho.right ho.value ho.state)))) (part_out 𝓛 (owned.the_type P R Q B V Kr g f) full_share ho b o) $ split ! $ move ! (1 ∷ []) $ fsplit3 ! $
        move ! (3 ∷ 0 ∷ []) $ fjoin ! $ done !

    pub again : (v : Option R.Denot) (s : Option Q.Denot) → ent 𝓤 (sep 𝓤 ⟦ Bytes ⟧ (sep 𝓤 ⟦ Token ⟧ ⟦ Claim ho.right v s ⟧)) ⟦ part_at Or full_share (at v s) b o ⟧
    again v s = qed 𝓛 (‵ Bytes ∷ ‵ Token ∷ ‵ (Claim ho.right v s) ∷ []) ∵ fsplit ! $ move ! (2 ∷ 3 ∷ []) $ fjoin ! $ move ! (2 ∷ 0 ∷ []) $ fjoin ! $ move ! (1 ∷ []) $ by ! (part_in 𝓛 (owned.the_type P R Q B V Kr g f) full_share (at v s) b o)

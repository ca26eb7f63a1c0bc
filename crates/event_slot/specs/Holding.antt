-- What a slot shares, and what a claim and a writer hold: the value and its word as a counted slot has them, the state that lies beside the value, and the views of the marks, of which the rule holds.
use Rattle.std.specs.Prelude.{◌≡◌, ℕ, zero, suc, ◌+◌, List, [], ◌∷◌, Option, Some, None}
use base.Stored.{Gv, Coded, coded×, coded_ℕ, coded_via}
use base.Fml.{Lft, GName, Fml, ftrue, ffalse, fsep, fex, fobs, fbor}
use prog.Memory.{up, align}
use types.Na.{out}
use types.SemTy.{Body}
use denote.Memory.{mem, shared_of, lone}
use denote.RattleType.{RattleType}
use denote.RawPtr.{Ptr, block_ptr, null_ptr}
use denote.Sharing.{said, beside, some, ends, always, within}
use Rattle.core.specs.Sync.RawAtomic.{word}
use Rattle.atomic_table.specs.Marked.{mark_owns}
use Rattle.atomic_table.specs.Seated.{roster}
use Rattle.counted_slot.specs.Counting.{fact, Id, State, reads, offset}
use Rattle.counted_slot.specs.Counting as counting

-- what a clause sees of a slot: its name, and its key, which no step changes
pub record Named (K : Type 0) : Type 0 where
  pub name : ℕ
  pub key : K

-- how such a value is kept as ghost state
abbrev pub named_coded : {K : Type 0} → Coded K → Coded (Named K)
named_coded c = coded_via (coded× coded_ℕ c) (λ d. (d.name, d.key)) (λ d e same i. record { name = (same i).0; key = (same i).1 })

-- nothing is asked of the value itself
abbrev pub any : {X : Type 0} → X → Type 0
any x = Unit {0}

-- the lifetime for which the slot is shared, the names of its count, and the name that says what the state is
abbrev pub Names : Type 0
Names = Lft × GName × GName × GName

abbrev pub count : Names → Id
count t = (t.0, t.1, t.2)

module _ (R : RattleType) (b o : ℕ) where
  -- where the value lies, in the block b
  abbrev pub place : ℕ
  place = o + offset R

  -- the value's borrow for α under a name that says what the value is
  abbrev pub tracked : Lft → R.Denot → Fml
  tracked α x = fex GName (λ δ. fsep (fobs δ (R.coded.code x)) (fbor α (Body (mem R) b place δ)))

  module _ (t : Names) where
    -- who writes has the one token that says *out*, and the value x
    abbrev pub writer : R.Denot → Fml
    writer x = fsep (out t.2) (tracked t.0 x)

    -- the same of a value that a claim knows; none can't be
    abbrev pub writes : Option R.Denot → Fml
    writes (Some x) = writer x
    writes None = ffalse

    -- what the right 0, 1 or 2 consists of: nothing, a reader's part of the count, the writer's token with the value
    abbrev pub right_to : ℕ → Option R.Denot → Fml
    right_to zero v = ftrue
    right_to (suc zero) v = reads R any b o (count t) v
    right_to (suc (suc k)) v = writes v

  -- what readers share: x lies in its place for that lifetime
  abbrev pub seen : R.Denot → Lft → Fml
  seen x = shared_of R x b place

-- the state lies behind the value
module _ (R Q : RattleType) (b o : ℕ) where
  -- where the state lies, in the block b
  abbrev pub behind : ℕ
  behind = o + up (align (lone Q.mir)) (offset R + (mem R).size)

  -- the state where it lies, and the name that says what it is
  abbrev pub stored : GName → Fml
  stored δ = Body (mem Q) b behind δ

  -- what whoever has the state has: it may change it where it lies
  abbrev pub lies : Names → Option Q.Denot → Fml
  lies t (Some s) = fsep (fobs t.3 (Q.coded.code s)) (fbor t.0 (stored t.3))
  lies t None = ftrue

-- of a slot that nobody shares: the state is what was at home, if it was
abbrev pub Agrees : {S : Type 0} → Option S → S → Type 0
Agrees (Some at_home) s = at_home ≡ s
Agrees None s = Unit {0}

module _ {W : Type 0} (e : W → Gv) (γ : ℕ) where
  module _ {S : Type 0} (holds : ℕ → Option S → List W → Type 0) where
    -- the views of all marks, of which the rule holds at the word n, with what `home` says of the state at home
    abbrev pub knowing : (Option S → Fml) → ℕ → Fml
    knowing home n = fex (Option S × List W) (λ p. fsep (home p.0) (fsep (roster e γ 0 p.1) (fact (holds n p.0 p.1))))

    -- a slot that nobody shares: its fields, and the views
    abbrev pub slot_owns : {X : Type 0} → (ℕ → X → S → Fml) → Fml
    slot_owns {X} fields = fex (ℕ × X × S) (λ z. fsep (fields z.0 z.1 z.2) (knowing (λ home. fact (Agrees home z.2)) z.0))

  module _ (R Q : RattleType) (counts : ℕ → ℕ) (holds : ℕ → Option Q.Denot → List W → Type 0) where
    module _ (b o : ℕ) (t : Names) where
      -- the marks' side of the invariant at the word n: the state lies at home, or is out
      abbrev pub views : ℕ → Fml
      views n = knowing holds (lies R Q b o t) n

      -- both sides at the word n: who has the value, as the word counts it, and the marks'
      abbrev pub both : ℕ → Fml
      both n = fsep (State R any b o (count t) (counts n)) (views n)

      -- the invariant: some word, and both sides at it
      abbrev pub Inv : Fml
      Inv = fex ℕ (λ n. fsep (word b (o + 0) n) (both n))

      -- whoever has a slot for β has this: β ends before the slot does, and the invariant holds until then
      abbrev pub kept : Lft → Fml
      kept = beside (ends t.0) (always (fbor t.0 Inv))

    -- P holds of the slot at p, which lives for β
    abbrev pub held : Lft → Ptr → (ℕ → ℕ → Names → Fml) → Fml
    held β (block_ptr b o) P = fex Names (λ t. fsep (kept b o t β) (P b o t))
    held β null_ptr P = ffalse

    -- what a `&` to a slot shows
    abbrev pub slot_shares : Ptr → Lft → Fml
    slot_shares (block_ptr b o) = some Names (kept b o)
    slot_shares null_ptr = said ffalse

    -- what a claim owns: the slot, its right, and the state if that is out
    abbrev pub claim_owns : Lft → Ptr → ℕ → Option R.Denot → Option Q.Denot → Fml
    claim_owns β p right v s = held β p (λ b o t. fsep (right_to R b o t right v) (lies R Q b o t s))

    -- what a writer owns
    abbrev pub writing_owns : Lft → Ptr → R.Denot → Fml
    writing_owns β p x = held β p (λ b o t. writer R b o t x)

    -- and what it owns with a fact φ of what is beside it
    abbrev pub tied_owns : Lft → Ptr → R.Denot → Type 0 → Fml
    tied_owns β p x φ = fsep (writing_owns β p x) (fact φ)

-- what a `&` to a reader's claim, and to a writer, shows
abbrev pub claim_shares : Lft → (R : RattleType) → Ptr → ℕ → Option R.Denot → Lft → Fml
claim_shares β R p right v κ = counting.claim_shares β R any p right v κ

abbrev pub writing_shares : Lft → (R : RattleType) → Ptr → R.Denot → Lft → Fml
writing_shares β R (block_ptr b o) x = within β (seen R b o x)
writing_shares β R null_ptr x = said ffalse

-- and where the value is a U, which lies where it does: the U
abbrev pub inner_shares : Lft → (R U : RattleType) → Ptr → U.Denot → Lft → Fml
inner_shares β R U (block_ptr b o) y = within β (shared_of U y b (place R b o))
inner_shares β R U null_ptr y = said ffalse

-- a mark at rest, or none
abbrev pub rest_owns : {W : Type 0} → (W → Gv) → ℕ → ℕ → List W → Fml
rest_owns e slot id [] = ftrue
rest_owns e slot id (w ∷ ws) = mark_owns e slot id w

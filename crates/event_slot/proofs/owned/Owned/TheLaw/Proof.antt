-- A `&` to an `Arc` with a claim holds some of its token, and shows what its reader or its writer sees. Assumes `Logic`.
use mathlib.Core.List.{[], ◌++◌}
use base.Fml.{Lft, Incl, Incl-trans}
use contract.BorrowLft.{⊑_meet, meet_⊑_left, meet_⊑_right}
use denote.RattleType.{RattleType}
use denote.Shares.{Shares-less}
use denote.Param.Laws.{Laws}
use denote.Param.Shared.{copy_shared}
use denote.Struct.Field.{RawPtr-field}
use denote.Struct.Laws.{RawPtr-copy}
use denote.Struct.Lending.{of_Lends}
use Rattle.std.specs.declared.alloc.Allocator.{Ghosts as Freeing}
use Rattle.event_slot.specs.declared.rule.Ruled.{Ghosts}
use Rattle.event_slot.specs.contracts.leased.Leased as leased
use Rattle.event_slot.specs.contracts.owned.Owned as C
use Rattle.event_slot.proofs.leased.Leased.TheLaws as leased_laws
use Rattle.event_slot.proofs.owned.Owned.TheLaw.Statement.{statement}
use Rattle.event_slot.proofs.Owning.{owned_laws, Lends-owned}

pub shares : (T X Q A V Y : RattleType) (g : Ghosts X.Denot Q.Denot V.Denot Y.Denot) (f : Freeing A.Denot) (LT : Laws T) (LX : Laws X) (LQ : Laws Q) (LA : Laws A) (LV : Laws V) (LY : Laws Y) → statement T X Q A V Y g f LT LX LQ LA LV LY
shares T X Q A V Y g f LT LX LQ LA LV LY =
    let l = (C.the_row T X Q A V Y g f).lives in let ρ : Lft = T.lives ++ (X.lives ++ Q.lives) in let rest : Lft = A.lives ++ (V.lives ++ (Y.lives ++ [])) in
    let types : Incl l (T.lives ++ (X.lives ++ (Q.lives ++ rest))) = meet_⊑_left (T.lives ++ (X.lives ++ (Q.lives ++ rest))) _ in
    let in_X : Incl l X.lives = Incl-trans types (Incl-trans (meet_⊑_right T.lives (X.lives ++ (Q.lives ++ rest))) (meet_⊑_left X.lives (Q.lives ++ rest))) in
    let in_Q : Incl l Q.lives = Incl-trans types (Incl-trans (meet_⊑_right T.lives (X.lives ++ (Q.lives ++ rest))) (Incl-trans (meet_⊑_right X.lives (Q.lives ++ rest)) (meet_⊑_left Q.lives rest))) in
    of_Lends (C.struct T X Q A V Y g f) (C.the_codes T.Denot X.Denot Q.Denot A.Denot V.Denot Y.Denot T.coded X.coded Q.coded A.coded V.coded Y.coded (leased.the_row T A f).coded) (C.the_heap T X Q A V Y g f) (C.the_lent T X Q A V Y g f)
    (λ d p. owned_laws X LX.shr_laws ρ d.arc.life d.slot d.right d.value d.state)
    (copy_shared RawPtr-field RawPtr-copy, (leased_laws.the_field_shared T A f LT LA, tt)) (λ M 𝓤 𝓛 d p.
    Lends-owned 𝓛 V.coded d.name X Q g.counts (g.holds d.key) LX.shr_laws ρ d.arc.life d.slot d.right d.value d.state _ l (⊑_meet l T.lives (X.lives ++ Q.lives) (Incl-trans types (meet_⊑_left T.lives (X.lives ++ (Q.lives ++ rest)))) (⊑_meet l X.lives Q.lives in_X in_Q)) (Shares-less 𝓛 X X.lives l in_X (LX.shares 𝓛)))

-- A `&` to a writer shows the value as it is. Assumes `Logic`.
use mathlib.Core.List.{[], ◌++◌}
use base.Fml.{Incl-trans}
use contract.BorrowLft.{meet_⊑_left, meet_⊑_right}
use denote.RattleType.{RattleType}
use denote.Ref.{NamedLft, ShrRef}
use denote.Shares.{Shares-less}
use denote.Param.Laws.{Laws}
use denote.Param.Shared.{copy_shared}
use denote.Struct.Field.{RawPtr-field}
use denote.Struct.Laws.{RawPtr-copy, field_copy}
use denote.Struct.Lending.{of_Lends}
use Rattle.core.specs.contracts.marker.PhantomData as P
use Rattle.event_slot.specs.declared.rule.Ruled.{Ghosts}
use Rattle.event_slot.specs.contracts.writing.Writing as C
use Rattle.event_slot.proofs.writing.Writing.TheLaw.Statement.{statement}
use Rattle.event_slot.proofs.Lending.{writing_laws, Lends-writing}

pub shares : (a : NamedLft) (T Q V Y : RattleType) (g : Ghosts T.Denot Q.Denot V.Denot Y.Denot) (L : Laws T) (J : Laws Q) (K : Laws V) (N : Laws Y) → statement a T Q V Y g L J K N
shares a T Q V Y g L J K N = let s = (ShrRef a.mir a.lft T).lives in let l = (C.the_row a T Q V Y g).lives in
    of_Lends (C.struct a T Q V Y g) (C.the_codes T.Denot Q.Denot V.Denot Y.Denot T.coded Q.coded V.coded Y.coded (P.the_row (ShrRef a.mir a.lft T)).coded) (C.the_heap a.lft T Q V Y g) (C.the_lent a.lft T Q V Y g) (λ d p. writing_laws a.lft T L.shr_laws d.slot d.value)
    (copy_shared RawPtr-field RawPtr-copy, (copy_shared (P.the_field (ShrRef a.mir a.lft T)) (field_copy (P.the_type (ShrRef a.mir a.lft T)) tt), tt)) (λ M 𝓤 𝓛 d p.
    Lends-writing 𝓛 V.coded d.name T Q g.counts (g.holds d.key) a.lft l (Incl-trans (meet_⊑_right (T.lives ++ (Q.lives ++ (V.lives ++ (Y.lives ++ [])))) (((s ++ []) ++ []) ++ [])) (Incl-trans (meet_⊑_left ((s ++ []) ++ []) []) (Incl-trans (meet_⊑_left (s ++ []) [])
    (Incl-trans (meet_⊑_left s []) (meet_⊑_left a.lft T.lives))))) (Shares-less 𝓛 T T.lives l (Incl-trans (meet_⊑_left (T.lives ++ (Q.lives ++ (V.lives ++ (Y.lives ++ [])))) _) (meet_⊑_left T.lives (Q.lives ++ (V.lives ++ (Y.lives ++ []))))) (L.shares 𝓛)) d.slot d.value)

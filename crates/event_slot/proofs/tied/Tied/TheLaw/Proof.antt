-- A `&` to a writer with what is beside it shows the value as it is. Assumes `Logic`.
use mathlib.Core.List.{[], ◌++◌}
use base.Fml.{Incl-trans}
use contract.BorrowLft.{meet_⊑_left, meet_⊑_right}
use denote.RattleType.{RattleType}
use denote.Ref.{NamedLft, ShrRef}
use denote.Shares.{Shares-less}
use denote.Param.Laws.{Laws, row_shared}
use denote.Param.Shared.{copy_shared}
use denote.Struct.Field.{RawPtr-field}
use denote.Struct.Laws.{RawPtr-copy, field_copy}
use denote.Struct.Lending.{of_Lends, Lends-first}
use Rattle.core.specs.contracts.marker.PhantomData as P
use Rattle.counted_slot.specs.Counting.{fact}
use Rattle.event_slot.specs.Holding.{writing_owns, writing_shares}
use Rattle.event_slot.specs.declared.rule.Ruled.{Ghosts}
use Rattle.event_slot.specs.declared.tied.Ties.{Ghosts as Tying}
use Rattle.event_slot.specs.contracts.tied.Tied as C
use Rattle.event_slot.proofs.tied.Tied.TheLaw.Statement.{statement}
use Rattle.event_slot.proofs.Lending.{writing_laws, Lends-writing}

pub shares : (a : NamedLft) (T Q B V Y : RattleType) (g : Ghosts T.Denot Q.Denot V.Denot Y.Denot) (h : Tying B.Denot) (L : Laws T) (J : Laws Q) (N : Laws B) (K : Laws V) (I : Laws Y) → statement a T Q B V Y g h L J N K I
shares a T Q B V Y g h L J N K I = let s = (ShrRef a.mir a.lft T).lives in let l = (C.the_row a T Q B V Y g h).lives in
    of_Lends (C.struct a T Q B V Y g h) (C.the_codes T.Denot Q.Denot B.Denot V.Denot Y.Denot T.coded Q.coded B.coded V.coded Y.coded (P.the_row (ShrRef a.mir a.lft T)).coded) (C.the_heap a.lft T Q B V Y g h) (C.the_lent a.lft T Q B V Y g h) (λ d p. writing_laws a.lft T L.shr_laws d.slot d.value)
    (copy_shared RawPtr-field RawPtr-copy, (copy_shared (P.the_field (ShrRef a.mir a.lft T)) (field_copy (P.the_type (ShrRef a.mir a.lft T)) tt), (row_shared B N, tt))) (λ M 𝓤 𝓛 d p.
    Lends-first 𝓛 (writing_owns V.coded.code d.name T Q g.counts (g.holds d.key) a.lft d.slot d.value) (fact (h.ties d.beside d.name)) (writing_shares a.lft T d.slot d.value) l
    (Lends-writing 𝓛 V.coded d.name T Q g.counts (g.holds d.key) a.lft l (Incl-trans (meet_⊑_right (T.lives ++ (Q.lives ++ (B.lives ++ (V.lives ++ (Y.lives ++ []))))) (((s ++ []) ++ []) ++ (B.lives ++ []))) (Incl-trans (meet_⊑_left ((s ++ []) ++ []) (B.lives ++ [])) (Incl-trans (meet_⊑_left (s ++ []) [])
    (Incl-trans (meet_⊑_left s []) (meet_⊑_left a.lft T.lives))))) (Shares-less 𝓛 T T.lives l (Incl-trans (meet_⊑_left (T.lives ++ (Q.lives ++ (B.lives ++ (V.lives ++ (Y.lives ++ []))))) _) (meet_⊑_left T.lives (Q.lives ++ (B.lives ++ (V.lives ++ (Y.lives ++ [])))))) (L.shares 𝓛)) d.slot d.value))

-- A `&` to it shows the value as it is. Assumes `Logic`.
use mathlib.Core.List.{[], ◌++◌}
use base.Fml.{Incl-trans}
use contract.BorrowLft.{meet_⊑_left, meet_⊑_right}
use denote.RattleType.{RattleType}
use denote.Ref.{NamedLft, ShrRef}
use denote.Shares.{Shares-less}
use denote.Param.Laws.{Laws, row_shared}
use denote.Param.Shared.{copy_shared}
use denote.Struct.Field.{RawPtr-field}
use denote.Struct.Laws.{RawPtr-copy, field_copy}
use denote.Struct.Lending.{of_Lends, Lends-first}
use Rattle.core.specs.contracts.marker.PhantomData as P
use Rattle.counted_slot.specs.Counting.{fact}
use Rattle.event_slot.specs.Holding.{writing_owns, inner_shares}
use Rattle.event_slot.specs.declared.tied.Ties.{Ghosts as Tying}
use Rattle.event_slot.proofs.Lending.{inner_laws, Lends-inner}
use Rattle.event_slot.specs.contracts.exclusive.Exclusive as exclusive
use Rattle.event_word.specs.Word.{Holds, counts_of}
use Rattle.event_word.specs.declared.word.kept.Kept.{Ghosts}
use Rattle.event_word.specs.contracts.word.rule.View as view
use Rattle.event_word.specs.contracts.word.writer.Writer as C
use Rattle.event_word.proofs.Placing.{Row, splits}
use Rattle.event_word.proofs.word.writer.Writer.TheLaw.Statement.{statement}

pub shares : (a : NamedLft) (T Q B : RattleType) (g : Ghosts Q.Denot) (h : Tying B.Denot) (L : Laws T) (J : Laws Q) (N : Laws B) → statement a T Q B g h L J N
shares a T Q B g h L J N = let X : RattleType = Row T in let s = (ShrRef a.mir a.lft X).lives in let l = (C.the_row a T Q B g h).lives in let V : RattleType = view.the_row in
    of_Lends (C.struct a T Q B g h) (C.the_codes T.Denot Q.Denot B.Denot T.coded Q.coded B.coded (P.the_row (ShrRef a.mir a.lft X)).coded X.coded (exclusive.the_row T).coded) (C.the_heap a.lft T Q B g h) (C.the_lent a.lft T Q B g h) (λ d p. inner_laws a.lft X T L.shr_laws d.slot d.value)
    (copy_shared RawPtr-field RawPtr-copy, (copy_shared (P.the_field (ShrRef a.mir a.lft X)) (field_copy (P.the_type (ShrRef a.mir a.lft X)) tt), (row_shared B N, tt))) (λ M 𝓤 𝓛 d p. let x : X.Denot = record { value = d.value } in
    Lends-first 𝓛 (writing_owns V.coded.code d.name X Q (counts_of g.rules) (Holds g.rules) a.lft d.slot x) (fact (h.ties d.beside d.name)) (inner_shares a.lft X T d.slot d.value) l
    (Lends-inner 𝓛 V.coded d.name X Q (counts_of g.rules) (Holds g.rules) a.lft T (λ (z : X.Denot). z.value) (splits T L 𝓛) l (Incl-trans (meet_⊑_right (T.lives ++ (Q.lives ++ (B.lives ++ []))) (((s ++ []) ++ []) ++ (B.lives ++ []))) (Incl-trans (meet_⊑_left ((s ++ []) ++ []) (B.lives ++ [])) (Incl-trans (meet_⊑_left (s ++ []) [])
    (Incl-trans (meet_⊑_left s []) (meet_⊑_left a.lft X.lives))))) (Shares-less 𝓛 T T.lives l (Incl-trans (meet_⊑_left (T.lives ++ (Q.lives ++ (B.lives ++ []))) _) (meet_⊑_left T.lives (Q.lives ++ (B.lives ++ [])))) (L.shares 𝓛)) d.slot x))

-- A `&` to it holds some of the token, and shows the value as it is. Assumes `Logic`.
use mathlib.Core.List.{[], ◌++◌}
use base.Fml.{Lft, Incl, Incl-trans}
use contract.BorrowLft.{⊑_meet, meet_⊑_left, meet_⊑_right}
use denote.RattleType.{RattleType}
use denote.Shares.{Shares-less}
use denote.Sharing.{one}
use denote.SharingLaws.{one_shr_laws, beside_shr_laws}
use denote.Param.Laws.{Laws}
use denote.Param.Shared.{copy_shared}
use denote.Struct.Field.{RawPtr-field}
use denote.Struct.Laws.{RawPtr-copy}
use denote.Struct.Lending.{of_Lends}
use Rattle.std.specs.contracts.alloc.Global as Heap
use Rattle.std.specs.contracts.impls.GlobalAllocator.TheImpl.{ghosts}
use Rattle.std.proofs.alloc.Global.TheLaws as heap
use Rattle.event_slot.specs.Holding.{inner_shares}
use Rattle.event_slot.specs.declared.exclusive.Exclusive as Exclusive
use Rattle.event_slot.specs.declared.owned.Inside.{Ghosts as Insides}
use Rattle.event_slot.specs.contracts.exclusive.Exclusive as exclusive
use Rattle.event_slot.specs.contracts.leased.Leased as leased
use Rattle.event_slot.proofs.leased.Leased.TheLaws as leased_laws
use Rattle.event_slot.proofs.Lending.{inner_laws}
use Rattle.event_slot.proofs.Owning.{Lends-owned_inner}
use Rattle.event_slot.proofs.exclusive.Exclusive.TheLaws as exclusive_laws
use Rattle.event_word.specs.Word.{Holds, counts_of}
use Rattle.event_word.specs.declared.word.kept.Kept.{Ghosts}
use Rattle.event_word.specs.declared.word.rule.Place as Place
use Rattle.event_word.specs.declared.word.rule.View as View
use Rattle.event_word.specs.contracts.word.rule.View as view
use Rattle.event_word.specs.contracts.word.writer_arc.WriterArc as C
use Rattle.event_word.proofs.Placing.{Row, lives_in, splits}
use Rattle.event_word.proofs.word.rule.Place.TheLaws as place_laws
use Rattle.event_word.proofs.word.writer_arc.WriterArc.TheLaw.Statement.{statement}

pub shares : (P T Q : RattleType) (h : Insides P.Denot (Place.Place (Exclusive.Exclusive T.Denot)) Q.Denot View.View (Unit {0})) (g : Ghosts Q.Denot) (LP : Laws P) (LT : Laws T) (LQ : Laws Q) → statement P T Q h g LP LT LQ
shares P T Q h g LP LT LQ = let X : RattleType = Row T in let l = (C.the_row P T Q h g).lives in let ρ : Lft = P.lives ++ (X.lives ++ Q.lives) in
    let types : Incl l (P.lives ++ (T.lives ++ (Q.lives ++ []))) = meet_⊑_left (P.lives ++ (T.lives ++ (Q.lives ++ []))) _ in let later : Incl l (T.lives ++ (Q.lives ++ [])) = Incl-trans types (meet_⊑_right P.lives (T.lives ++ (Q.lives ++ []))) in
    let in_P : Incl l P.lives = Incl-trans types (meet_⊑_left P.lives (T.lives ++ (Q.lives ++ []))) in let in_T : Incl l T.lives = Incl-trans later (meet_⊑_left T.lives (Q.lives ++ [])) in
    let in_Q : Incl l Q.lives = Incl-trans later (Incl-trans (meet_⊑_right T.lives (Q.lives ++ [])) (meet_⊑_left Q.lives [])) in
    of_Lends (C.struct P T Q h g) (C.the_codes P.Denot T.Denot Q.Denot P.coded T.coded Q.coded (leased.the_row P Heap.the_row ghosts).coded Heap.the_row.coded) (C.the_heap P T Q h g) (C.the_lent P T Q h g)
    (λ d p. beside_shr_laws (one _) (inner_shares _ X T d.slot d.value) (one_shr_laws _) (inner_laws _ X T LT.shr_laws d.slot d.value))
    (copy_shared RawPtr-field RawPtr-copy, (leased_laws.the_field_shared P Heap.the_row ghosts LP heap.the_row_laws, tt)) (λ M 𝓤 𝓛 d p.
    Lends-owned_inner 𝓛 view.the_row.coded d.name X Q (counts_of g.rules) (Holds g.rules) T (λ (z : X.Denot). z.value) (splits T LT 𝓛) (place_laws.the_row_laws (exclusive.the_row T) (exclusive_laws.the_row_laws T LT)).shr_laws ρ d.arc.life d.slot (record { value = d.value }) _ l (⊑_meet l P.lives (X.lives ++ Q.lives) in_P (⊑_meet l X.lives Q.lives (lives_in T l in_T) in_Q)) (Shares-less 𝓛 T T.lives l in_T (LT.shares 𝓛)))

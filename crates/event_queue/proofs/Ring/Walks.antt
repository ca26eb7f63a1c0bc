-- What the walks of a ring share. Assumes `Logic`.
--     heap_val, ring_val      the machine values of the heap's handle and of a ring that stands at a pointer
--     Fields, fields_stored, fields_made      the ring's own fields: their row, how it is stored, and that it is made of nothing
--     word_stored, word_made      a value of one pointer
--     edge_out, edge_in, path_cut, path_glue, nodes_cut, nodes_glue      the links and the nodes are taken apart and put together
--     none_of_path      a node whose links are room is none of a path's
use mathlib.Core.Path.{◌≡◌, refl, ap, subst, ◌∙◌}
use mathlib.Core.Bool.{true, false}
use Prim.Native.Nat.{ℕ, ◌+◌}
use native.Mathlib.Omega.{arith}
use mathlib.Core.List.{List, [], ◌∷◌, ◌++◌}
use seplogic.Ra.Ura.{Ura}
use base.Fraction.{full_share}
use mir.Syntax.{Ty, ty_ptr}
use mir.Val.{Val, vunit, vstruct, vcons, vnil, of_list}
use base.Logic.{SProp, ent, sep, emp, ex, guard, via, never, never_e, fst∗, snd∗, id⊢}
use base.Fml.{Fml, Lft, Share, ftrue, feq, fat, froom, flft}
use prog.Model.{Model}
use types.Logic.{Logic, sem}
use contract.Monad.{fact, fact_i, fact_use}
use types.Kit.{Item, Goal, Seq, Step, Soaks, step, mean, prop, ‵, raw, some, ◌⊛◌, ◌$◌, ◌∵◌, !, qed, by, move, keep, drop, use0, use1, use2, pick, split, check, show, fsplit, fjoin}
use types.Kit.{fpick, fpack, feq_i, feq_l, rewrite, done}
use denote.RattleType.{RattleType, Valss}
use denote.Laws.{Typed, Is, shows}
use denote.Opens.{Shut}
use denote.Copied.{plain_Copied}
use denote.Param.{param, layout}
use denote.Param.Laws.{Laws, param_laws}
use denote.Memory.{cell_at, part_at, hidden_shr}
use denote.RawPtr.{Ptr, RawPtr, block_ptr, null_ptr, ptr_val, coded_ptr, ptr_own, rawptr_pure, lies_at, room_for}
use denote.Shadow.{makes_shadow}
use denote.Steps.{nothing, only, peeks, looks, shuts}
use denote.Struct.Laws.{RawPtr-laws}
use denote.Struct.Struct.{Shape, Struct, within, as_fields}
use denote.Struct.Owning.{shape}
use denote.Struct.Declared as Declared
use denote.Struct.Tuple.{Tuple, tuple_type}
use denote.Struct.Lending.{lent_at}
use borrow.Table.OneValue.{part_in, part_out}
use Rattle.std.proofs.RcSteps.{Good, Ptr-Good, word}
use Rattle.std.specs.declared.alloc.Global.{Global}
use Rattle.std.specs.contracts.alloc.Global as Heap
use Rattle.std.proofs.alloc.Global.TheLaws as Heap'
use Rattle.event_queue.specs.Ring.{Placed, is_same_place}
use Rattle.event_queue.specs.RingMemory.{next_of, previous_of, link_room, edge, path, edge_lent, path_lent, entry_of, node_owns, nodes_own, nodes_lent}
use Rattle.event_queue.specs.contracts.node.ring.pointers.Ring as ring
use Rattle.event_queue.proofs.Ring.Places.{last_from, IsNew, is_same_place-eq}

abbrev pub heap_val : Val
heap_val = vstruct (vcons (vstruct (vcons vunit vnil)) vnil)

pub heap_Good : Good (layout Heap.the_row) heap_val
heap_Good = (tt, ((tt, tt), tt))

abbrev pub ring_val : Ptr → Val
ring_val p = vstruct (vcons (ptr_val p) (vcons heap_val vnil))

-- the heap's handle as a field: it is one value
abbrev pub Handle : RattleType
Handle = Heap.the_field.row

abbrev pub handle : Handle.Denot
handle = ((tt, tt), tt)

pub ring_Good : (R : RattleType) (p : Ptr) → Good (layout (ring.the_row R)) (ring_val p)
ring_Good R p = as_fields (ty_ptr ∷ layout Heap.the_row ∷ []) (ptr_val p ∷ heap_val ∷ []) (Ptr-Good p, (heap_Good, tt))

heap_stored : (vs : List Val) → Is Handle handle vs → vs ≡ heap_val ∷ []
heap_stored = Heap'.the_field_laws.tells handle

module _ (R : RattleType) where
  abbrev pub Fields : RattleType
  Fields = Struct (shape (ring.the_type R))

  pub fields_stored : (p : Ptr) (vs : List Val) → Is Fields (p, (handle, tt)) vs → vs ≡ ring_val p ∷ []
  fields_stored p vs is = is.1.0 ∙ ap (λ (ws : List Val). vstruct (of_list (ws ++ (is.0.1.0 ++ []))) ∷ []) is.1.1.0
      ∙ ap (λ (ws : List Val). vstruct (of_list (ptr_val p ∷ (ws ++ []))) ∷ []) (heap_stored is.0.1.0 is.1.1.1.0)

  pub fields_made : {M : Type 1} {𝓤 : Ura M} (𝓛 : Logic 𝓤) (p : Ptr) → ent 𝓤 (emp 𝓤) (sem 𝓛 (Fields.own_val (p, (handle, tt)) (ring_val p ∷ [])))
  fields_made 𝓛 p = makes_shadow 𝓛 (Fields.own_val (p, (handle, tt)) (ring_val p ∷ [])) (λ vss. (tt, (tt, ((λ us. (tt, ((λ ws. (tt, (tt, tt))), tt))), tt))))
      ((ptr_val p ∷ [], (heap_val ∷ [], tt)), (refl, (refl, (((vstruct (vcons vunit vnil) ∷ [], tt), (refl, (((vunit ∷ [], tt), (refl, (refl, tt))), tt))), tt))))

abbrev one_field : Shape
one_field = record { name = []; args = []; types = []; fields = RawPtr ∷ [] }

abbrev pub Word : RattleType
Word = Struct one_field

module _ {M : Type 1} {𝓤 : Ura M} {𝓛 : Logic 𝓤} {K : Type 0} {Γ : List (Item 𝓤)} {G : Goal 𝓤 𝓛.H} where
  pub word_stored : K → (p : Ptr) (vs : List Val) → (vs ≡ word p ∷ [] → Seq K 𝓛 Γ G) → Seq K 𝓛 (‵ (Word.own_val (p, tt) vs) ∷ Γ) G
  word_stored t p vs k = fpick t (λ vss. fsplit t $ feq_l t (λ ev. fsplit t $ feq_l t (λ e. drop t $ k (subst (λ (ws : List Val). vs ≡ vstruct (of_list (ws ++ [])) ∷ []) e ev))))

  pub word_made : K → (p : Ptr) → Step K 𝓛 (‵ (Word.own_val (p, tt) (word p ∷ [])) ∷ Γ) G Γ G
  word_made t p = step (λ s.
      nothing t $ feq_i t (List Val) (ptr_val p ∷ []) (ptr_val p ∷ []) refl $ fjoin t $ feq_i t (List Val) (word p ∷ []) (word p ∷ []) refl $ fjoin t $
      fpack t (Valss (RawPtr ∷ [])) (within one_field (p, tt) (word p ∷ [])) (ptr_val p ∷ [], tt) $ s)

  -- a fact that an entry shows is learned, and the entry stays
  pub learn_fact : K → {i : Item 𝓤} (φ : Type 0) → ent 𝓤 (mean 𝓛 i) (fact 𝓤 φ) → (φ → Seq K 𝓛 (i ∷ Γ) G) → Seq K 𝓛 (i ∷ Γ) G
  learn_fact t {i} φ h k =
      let shown : Seq K 𝓛 (i ∷ Γ) (prop (fact 𝓤 φ)) = use1 𝓛 (raw (fact 𝓤 φ)) h $ keep t (0 ∷ []) $ done t in
      record { prf = fact_use 𝓤 φ shown.prf (λ x. (k x).prf) }

  -- a fact that two entries show is learned, and they stay
  pub learn_fact_of_two : K → {i j : Item 𝓤} (φ : Type 0) → ent 𝓤 (sep 𝓤 (mean 𝓛 i) (mean 𝓛 j)) (fact 𝓤 φ) → (φ → Seq K 𝓛 (i ∷ j ∷ Γ) G) → Seq K 𝓛 (i ∷ j ∷ Γ) G
  learn_fact_of_two t {i} {j} φ h k =
      let shown : Seq K 𝓛 (i ∷ j ∷ Γ) (prop (fact 𝓤 φ)) = use2 𝓛 (raw (fact 𝓤 φ)) h $ keep t (0 ∷ []) $ done t in
      record { prf = fact_use 𝓤 φ shown.prf (λ x. (k x).prf) }

abbrev pub link_cell : ℕ → ℕ → Ptr → Fml
link_cell b o p = fat full_share ty_ptr b o (ptr_val p)

module _ {M : Type 1} {𝓤 : Ura M} {𝓛 : Logic 𝓤} {K : Type 0} {Γ : List (Item 𝓤)} {G : Goal 𝓤 𝓛.H} where
  pub link_out : K → (p : Ptr) (b o : ℕ) → Step K 𝓛 (‵ (link_cell b o p) ∷ Γ) G (‵ (part_at RawPtr full_share p b o) ∷ Γ) G
  link_out t p b o = use1 𝓛 (‵ (link_cell b o p)) (qed 𝓛 (‵ (part_at RawPtr full_share p b o) ∷ []) {P = sem 𝓛 (link_cell b o p)} (
      use1 𝓛 (some (λ (v : Val). ‵ (fat full_share ty_ptr b o v) ⊛ ‵ (feq (List Val) (v ∷ []) (ptr_val p ∷ [])))) (part_out 𝓛 RawPtr refl full_share p b o) $
      pick ! (λ v. split ! $ move ! (1 ∷ []) $ feq_l ! (λ e.
      rewrite ! 0 (λ (w : Val). ‵ (fat full_share ty_ptr b o w)) (ap only e) refl $ done !))))

  pub link_in : K → (p : Ptr) (b o : ℕ) → Step K 𝓛 (‵ (part_at RawPtr full_share p b o) ∷ Γ) G (‵ (link_cell b o p) ∷ Γ) G
  link_in t p b o = step (λ s.
      feq_i t (List Val) (ptr_val p ∷ []) (ptr_val p ∷ []) refl $ move t (1 ∷ 0 ∷ []) $ use2 𝓛 (‵ (part_at RawPtr full_share p b o)) (part_in 𝓛 RawPtr refl full_share p b o (ptr_val p)) $ s)

  -- a link's cell, whatever it holds, is room
  pub link_to_room : K → (p : Ptr) (b o : ℕ) → Step K 𝓛 (‵ (froom ty_ptr b o) ∷ Γ) G (‵ (link_cell b o p) ∷ Γ) G
  link_to_room t p b o = use1 𝓛 (‵ (froom ty_ptr b o)) (𝓛.laws.at_room ty_ptr b o (ptr_val p))

module _ {M : Type 1} {𝓤 : Ura M} {𝓛 : Logic 𝓤} {K : Type 0} {Γ : List (Item 𝓤)} {G : Goal 𝓤 𝓛.H} where
  -- [a's next; b's previous]
  pub edge_out : K → (ab ao bb bo : ℕ) → Step K 𝓛 (‵ (link_cell ab (ao + 0) (block_ptr bb bo)) ∷ ‵ (link_cell bb (bo + 8) (block_ptr ab ao)) ∷ Γ) G (‵ (edge (block_ptr ab ao) (block_ptr bb bo)) ∷ Γ) G
  edge_out t ab ao bb bo = step (λ s. fsplit t $ move t (1 ∷ []) $ link_out t (block_ptr ab ao) bb (bo + 8) $ move t (1 ∷ []) $ link_out t (block_ptr bb bo) ab (ao + 0) $ s)

  pub edge_in : K → (ab ao bb bo : ℕ) → Step K 𝓛 (‵ (edge (block_ptr ab ao) (block_ptr bb bo)) ∷ Γ) G (‵ (link_cell ab (ao + 0) (block_ptr bb bo)) ∷ ‵ (link_cell bb (bo + 8) (block_ptr ab ao)) ∷ Γ) G
  edge_in t ab ao bb bo = step (λ s. move t (1 ∷ []) $ link_in t (block_ptr ab ao) bb (bo + 8) $ move t (1 ∷ []) $ link_in t (block_ptr bb bo) ab (ao + 0) $ fjoin t $ s)

  -- a link behind a `&`
  pub link_looks : K → Soaks G → {κ : Lft} {q : Share} (p : Ptr) (b o : ℕ)
      → ((part : Share) → Seq K 𝓛 (‵ (fat part ty_ptr b o (ptr_val p)) ∷ Shut 𝓛 κ q (part_at RawPtr part p b o) ∷ Γ) G) → Seq K 𝓛 (‵ (hidden_shr RawPtr κ p b o) ∷ ‵ (flft κ q) ∷ Γ) G
  link_looks t z p b o k =
      looks t z RawPtr (plain_Copied 𝓛 Ptr coded_ptr (ty_ptr ∷ []) ptr_own rawptr_pure ptr_val RawPtr-laws.tells).opens p b o (λ part vs. move t (1 ∷ []) $ feq_l t (λ e.
      rewrite t 0 (λ (us : List Val). ‵ (cell_at part RawPtr.mir us b o)) e refl $ move t (2 ∷ []) $ drop t $ k part))

  pub link_shuts : K → Soaks G → {κ : Lft} {q part : Share} (p : Ptr) (b o : ℕ)
      → Step K 𝓛 (‵ (flft κ q) ∷ Γ) G (‵ (fat part ty_ptr b o (ptr_val p)) ∷ Shut 𝓛 κ q (part_at RawPtr part p b o) ∷ Γ) G
  link_shuts t z {part = part} p b o = step (λ s.
      feq_i t (List Val) (ptr_val p ∷ []) (ptr_val p ∷ []) refl $ move t (1 ∷ 0 ∷ []) $ shuts t z RawPtr part p (ptr_val p ∷ []) b o $ s)

module _ {M : Type 1} {𝓤 : Ura M} {𝓛 : Logic 𝓤} {K : Type 0} {Γ : List (Item 𝓤)} where
  -- an `ensures` of two facts, and of three
  pub ensure_two : K → (φ ψ : Type 0) → φ → ψ → {G : Goal 𝓤 𝓛.H} → Step K 𝓛 (raw (sep 𝓤 (fact 𝓤 φ) (fact 𝓤 ψ)) ∷ Γ) G Γ G
  ensure_two t φ ψ x y = use0 𝓛 (raw (sep 𝓤 (fact 𝓤 φ) (fact 𝓤 ψ))) (qed 𝓛 [] {P = sep 𝓤 (fact 𝓤 φ) (fact 𝓤 ψ)} (
      use0 𝓛 (raw (fact 𝓤 ψ)) (fact_i 𝓤 ψ (emp 𝓤) y) $ use0 𝓛 (raw (fact 𝓤 φ)) (fact_i 𝓤 φ (emp 𝓤) x) $ done !))

  pub ensure_three : K → (φ ψ χ : Type 0) → φ → ψ → χ → {G : Goal 𝓤 𝓛.H} → Step K 𝓛 (raw (sep 𝓤 (fact 𝓤 φ) (sep 𝓤 (fact 𝓤 ψ) (fact 𝓤 χ))) ∷ Γ) G Γ G
  ensure_three t φ ψ χ x y z = use0 𝓛 (raw (sep 𝓤 (fact 𝓤 φ) (sep 𝓤 (fact 𝓤 ψ) (fact 𝓤 χ)))) (qed 𝓛 [] {P = sep 𝓤 (fact 𝓤 φ) (sep 𝓤 (fact 𝓤 ψ) (fact 𝓤 χ))} (
      use0 𝓛 (raw (fact 𝓤 χ)) (fact_i 𝓤 χ (emp 𝓤) z) $ use0 𝓛 (raw (fact 𝓤 ψ)) (fact_i 𝓤 ψ (emp 𝓤) y) $ use0 𝓛 (raw (fact 𝓤 φ)) (fact_i 𝓤 φ (emp 𝓤) x) $ done !))

module _ {M : Type 1} {𝓤 : Ura M} (𝓛 : Logic 𝓤) where
  -- nothing is linked from or to null
  pub no_edge_from_null : (b : Ptr) → ent 𝓤 (sem 𝓛 (edge null_ptr b)) (never 𝓤)
  no_edge_from_null b = fst∗ 𝓤 (never 𝓤) (sem 𝓛 (lies_at RawPtr full_share (previous_of b) null_ptr))

  pub no_edge_to_null : (a : Ptr) → ent 𝓤 (sem 𝓛 (edge a null_ptr)) (never 𝓤)
  no_edge_to_null a = snd∗ 𝓤 (sem 𝓛 (lies_at RawPtr full_share (next_of a) null_ptr)) (never 𝓤)

  pub path_cut : (a : Ptr) (xs ys : List Ptr) → ent 𝓤 (sem 𝓛 (path a (xs ++ ys))) (sep 𝓤 (sem 𝓛 (path a xs)) (sem 𝓛 (path (last_from a xs) ys)))
  path_cut a [] ys = qed 𝓛 (‵ (path a ys) ∷ []) ∵ nothing ! $ done !
  path_cut a (x ∷ xs) ys = qed 𝓛 (‵ (path a (x ∷ xs ++ ys)) ∷ []) ∵ fsplit ! $ move ! (1 ∷ []) $
      use1 𝓛 (‵ (path x xs) ⊛ ‵ (path (last_from x xs) ys)) (path_cut x xs ys) $ split ! $ move ! (2 ∷ 0 ∷ []) $ fjoin ! $ done !

  pub path_glue : (a : Ptr) (xs ys : List Ptr) → ent 𝓤 (sep 𝓤 (sem 𝓛 (path a xs)) (sem 𝓛 (path (last_from a xs) ys))) (sem 𝓛 (path a (xs ++ ys)))
  path_glue a [] ys = qed 𝓛 (‵ ftrue ∷ ‵ (path a ys) ∷ []) ∵ drop ! $ done !
  path_glue a (x ∷ xs) ys = qed 𝓛 (‵ (path a (x ∷ xs)) ∷ ‵ (path (last_from x xs) ys) ∷ []) ∵ fsplit ! $ move ! (1 ∷ 2 ∷ []) $
      use2 𝓛 (‵ (path x (xs ++ ys))) (path_glue x xs ys) $ move ! (1 ∷ 0 ∷ []) $ fjoin ! $ done !

  -- behind a `&`, the edge from p to q
  pub edge_seen : (κ : Lft) (a : Ptr) (xs : List Ptr) (p q : Ptr) (ys : List Ptr) → ent 𝓤 (sem 𝓛 (path_lent a (xs ++ p ∷ q ∷ ys) κ)) (sem 𝓛 (edge_lent p q κ))
  edge_seen κ a [] p q ys = via 𝓤 (sem 𝓛 (path_lent p (q ∷ ys) κ)) (snd∗ 𝓤 (sem 𝓛 (edge_lent a p κ)) (sem 𝓛 (path_lent p (q ∷ ys) κ))) (fst∗ 𝓤 (sem 𝓛 (edge_lent p q κ)) (sem 𝓛 (path_lent q ys κ)))
  edge_seen κ a (x ∷ xs) p q ys = via 𝓤 (sem 𝓛 (path_lent x (xs ++ p ∷ q ∷ ys) κ)) (snd∗ 𝓤 (sem 𝓛 (edge_lent a x κ)) (sem 𝓛 (path_lent x (xs ++ p ∷ q ∷ ys) κ))) (edge_seen κ x xs p q ys)

  module _ (R : RattleType) where
    pub node_seen : (κ : Lft) (xs : List (Placed R.Denot)) (n : Placed R.Denot) (ys : List (Placed R.Denot))
        → ent 𝓤 (sem 𝓛 (nodes_lent R (xs ++ n ∷ ys) κ)) (sem 𝓛 (lent_at R (entry_of R n.at) n.entry κ))
    node_seen κ [] n ys = fst∗ 𝓤 (sem 𝓛 (lent_at R (entry_of R n.at) n.entry κ)) (sem 𝓛 (nodes_lent R ys κ))
    node_seen κ (x ∷ xs) n ys = via 𝓤 (sem 𝓛 (nodes_lent R (xs ++ n ∷ ys) κ)) (snd∗ 𝓤 (sem 𝓛 (lent_at R (entry_of R x.at) x.entry κ)) (sem 𝓛 (nodes_lent R (xs ++ n ∷ ys) κ))) (node_seen κ xs n ys)

    module _ (a : Global) where
      abbrev Own : List (Placed R.Denot) → Fml
      Own = nodes_own R a

      pub nodes_cut : (xs : List (Placed R.Denot)) (n : Placed R.Denot) (ys : List (Placed R.Denot)) → ent 𝓤 (sem 𝓛 (Own (xs ++ n ∷ ys))) (sep 𝓤 (sem 𝓛 (node_owns R a n)) (sem 𝓛 (Own (xs ++ ys))))
      nodes_cut [] n ys = id⊢ 𝓤 _
      nodes_cut (x ∷ xs) n ys = qed 𝓛 (‵ (Own (x ∷ xs ++ n ∷ ys)) ∷ []) ∵ fsplit ! $ move ! (1 ∷ []) $
          use1 𝓛 (‵ (node_owns R a n) ⊛ ‵ (Own (xs ++ ys))) (nodes_cut xs n ys) $ split ! $ move ! (2 ∷ 1 ∷ []) $ fjoin ! $ move ! (1 ∷ []) $ done !

      pub nodes_glue : (xs : List (Placed R.Denot)) (n : Placed R.Denot) (ys : List (Placed R.Denot)) → ent 𝓤 (sep 𝓤 (sem 𝓛 (node_owns R a n)) (sem 𝓛 (Own (xs ++ ys)))) (sem 𝓛 (Own (xs ++ n ∷ ys)))
      nodes_glue [] n ys = id⊢ 𝓤 _
      nodes_glue (x ∷ xs) n ys = qed 𝓛 (‵ (node_owns R a n) ∷ ‵ (Own (x ∷ xs ++ ys)) ∷ []) ∵ move ! (1 ∷ []) $ fsplit ! $ move ! (2 ∷ 1 ∷ []) $
          use2 𝓛 (‵ (Own (xs ++ n ∷ ys))) (nodes_glue xs n ys) $ move ! (1 ∷ 0 ∷ []) $ fjoin ! $ done !

module _ {M : Type 1} {𝓤 : Ura M} (𝓛 : Logic 𝓤) (𝓜 : Model 𝓤 𝓛.H) where
  room_and_link : (p x : Ptr) → ent 𝓤 (sep 𝓤 (sem 𝓛 (room_for ty_ptr p)) (sem 𝓛 (lies_at RawPtr full_share p x))) (never 𝓤)
  room_and_link (block_ptr b o) x = qed 𝓛 (‵ (froom ty_ptr b o) ∷ ‵ (part_at RawPtr full_share x b o) ∷ []) ∵ move ! (1 ∷ []) $ link_out ! x b o $ move ! (1 ∷ []) $
      by ! (𝓜.room_at ty_ptr ty_ptr b o o o full_share (ptr_val x) (omega arith, omega arith) (omega arith, omega arith))
  room_and_link null_ptr x = fst∗ 𝓤 (never 𝓤) (never 𝓤)

  -- what cannot be owned at one pointer shows two
  other_place : (p q : Ptr) (F : Ptr → SProp 𝓤) → ent 𝓤 (F p) (never 𝓤) → ent 𝓤 (F q) (fact 𝓤 (is_same_place p q ≡ false))
  other_place p q F h = (elim (is_same_place p q) as (λ y. is_same_place p q ≡ y → ent 𝓤 (F q) (fact 𝓤 (is_same_place p q ≡ false))) [
    | true ↦ λ e. via 𝓤 (never 𝓤) (subst (λ r. ent 𝓤 (F r) (never 𝓤)) (is_same_place-eq p q e) h) (never_e 𝓤 _)
    | false ↦ λ e. fact_i 𝓤 (is_same_place p q ≡ false) (F q) e
  ]) refl

  not_the_source : (p a b : Ptr) → ent 𝓤 (sep 𝓤 (sem 𝓛 (link_room p)) (sem 𝓛 (edge a b))) (fact 𝓤 (is_same_place p a ≡ false))
  not_the_source p a b = other_place p a (λ r. sep 𝓤 (sem 𝓛 (link_room p)) (sep 𝓤 (sem 𝓛 (lies_at RawPtr full_share (next_of r) b)) (sem 𝓛 (lies_at RawPtr full_share (previous_of b) a))))
      (qed 𝓛 (‵ (link_room p) ∷ ‵ (lies_at RawPtr full_share (next_of p) b) ∷ ‵ (lies_at RawPtr full_share (previous_of b) a) ∷ []) ∵ fsplit ! $ keep ! (0 ∷ 2 ∷ []) $
      by ! (room_and_link (next_of p) b))

  pub none_of_path : (p a : Ptr) (ps : List Ptr) (t : Ptr) → ent 𝓤 (sep 𝓤 (sem 𝓛 (link_room p)) (sem 𝓛 (path a (ps ++ t ∷ [])))) (fact 𝓤 (IsNew p (a ∷ ps)))
  none_of_path p a [] t = qed 𝓛 (‵ (link_room p) ∷ ‵ (path a (t ∷ [])) ∷ []) ∵
      move ! (1 ∷ []) $ fsplit ! $ move ! (2 ∷ 0 ∷ []) $ learn_fact_of_two ! (is_same_place p a ≡ false) (not_the_source p a t) (λ here. by ! (fact_i 𝓤 (IsNew p (a ∷ [])) _ (here, tt)))
  none_of_path p a (x ∷ ps) t = qed 𝓛 (‵ (link_room p) ∷ ‵ (path a (x ∷ (ps ++ t ∷ []))) ∷ []) ∵
      move ! (1 ∷ []) $ fsplit ! $ move ! (2 ∷ 0 ∷ []) $ learn_fact_of_two ! (is_same_place p a ≡ false) (not_the_source p a x) (λ here.
      move ! (0 ∷ 2 ∷ []) $ learn_fact_of_two ! (IsNew p (x ∷ ps)) (none_of_path p x ps t) (λ rest. by ! (fact_i 𝓤 (IsNew p (a ∷ x ∷ ps)) _ (here, rest))))

module _ (i : ℕ) (X : RattleType) (L : Laws X) {M : Type 1} {𝓤 : Ura M} (𝓛 : Logic 𝓤) where
  open 𝓛 use {H}

  -- an entry in memory is a machine value in a cell, with what that value owns
  pub entry_out : (x : X.Denot) (b o : ℕ) → ent 𝓤 (sem 𝓛 (part_at (param i X) full_share x b o))
      (ex 𝓤 (λ (v : Val). guard 𝓤 (Good (layout X) v) (sep 𝓤 (H.at full_share (layout X) b o v) (sem 𝓛 (X.own_val x (v ∷ []))))))
  entry_out x b o = qed 𝓛 (‵ (part_at (param i X) full_share x b o) ∷ []) ∵
      use1 𝓛 (some (λ (v : Val). ‵ (fat full_share (layout X) b o v) ⊛ ‵ (X.own_val x (v ∷ [])))) (part_out 𝓛 (param i X) refl full_share x b o) $ pick ! (λ v. split ! $ move ! (1 ∷ []) $
      peeks ! (param i X) (Is (param i X)) (shows 𝓛 (param i X)) x (v ∷ []) (λ p.
      show ! (λ (w : Val). guard 𝓤 (Good (layout X) w) (sep 𝓤 (H.at full_share (layout X) b o w) (sem 𝓛 (X.own_val x (w ∷ []))))) v $
      check ! (((param_laws i X L).lawful 𝓛).typed x (v ∷ []) p).0 $ move ! (1 ∷ 0 ∷ []) $ done !))

  pub entry_in : (x : X.Denot) (b o : ℕ) (v : Val) → ent 𝓤 (sep 𝓤 (H.at full_share (layout X) b o v) (sem 𝓛 (X.own_val x (v ∷ [])))) (sem 𝓛 (part_at (param i X) full_share x b o))
  entry_in x b o v = part_in 𝓛 (param i X) refl full_share x b o v

one_machine_value : (τ : Ty) (vs : List Val) → Typed (τ ∷ []) vs → (v : Val) × ((vs ≡ v ∷ []) × Good τ v)
one_machine_value τ [] t = absurd t
one_machine_value τ (v ∷ []) t = (v, (refl, t.0))
one_machine_value τ (v ∷ w ∷ vs) t = absurd t.1

module _ (X : RattleType) (L : Laws X) {M : Type 1} {𝓤 : Ura M} {𝓛 : Logic 𝓤} {K : Type 0} {Γ : List (Item 𝓤)} {G : Goal 𝓤 𝓛.H} where
  -- what is owned of an entry is one machine value, of its type
  pub entry_is_one_value : K → (x : X.Denot) (vs : List Val) → ((v : Val) → vs ≡ v ∷ [] → Good (layout X) v → Seq K 𝓛 (‵ (X.own_val x (v ∷ [])) ∷ Γ) G) → Seq K 𝓛 (‵ (X.own_val x vs) ∷ Γ) G
  entry_is_one_value t x vs k =
      peeks t (param 0 X) (Is (param 0 X)) (shows 𝓛 (param 0 X)) x vs (λ is.
      let one = one_machine_value (layout X) vs (((param_laws 0 X L).lawful 𝓛).typed x vs is) in
      rewrite t 0 (λ (us : List Val). ‵ (X.own_val x us)) one.1.0 refl $ k one.0 one.1.0 one.1.1)

abbrev pub pair_val : Val → Val → Val
pair_val u v = vstruct (vcons u (vcons v vnil))

pub pair_of : {M : Type 1} {𝓤 : Ura M} (𝓛 : Logic 𝓤) (R S : RattleType) (x : R.Denot) (y : S.Denot) (u v : Val)
    → ent 𝓤 (sep 𝓤 (sem 𝓛 (R.own_val x (u ∷ []))) (sem 𝓛 (S.own_val y (v ∷ [])))) (sem 𝓛 ((Tuple (R ∷ S ∷ [])).own_val (x, y) (pair_val u v ∷ [])))
pair_of 𝓛 R S x y u v =
    qed 𝓛 (‵ (R.own_val x (u ∷ [])) ∷ ‵ (S.own_val y (v ∷ [])) ∷ []) ∵ nothing ! $ move ! (2 ∷ 0 ∷ []) $ fjoin ! $ move ! (1 ∷ 0 ∷ []) $ fjoin ! $
    feq_i ! (List Val) (pair_val u v ∷ []) (pair_val u v ∷ []) refl $ fjoin ! $
    fpack ! (Valss (R ∷ S ∷ [])) (within (Declared.shape (tuple_type (R ∷ S ∷ []))) (x, (y, tt)) (pair_val u v ∷ [])) (u ∷ [], (v ∷ [], tt)) $ done !

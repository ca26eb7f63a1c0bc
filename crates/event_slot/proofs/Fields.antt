-- The bytes of a claim, of a writer, of a mark and of one at rest. Assumes `Logic`.
use Rattle.std.specs.Prelude.{IsSome}
use Rattle.event_slot.proofs.Names.{El, Good, one, lawful, shows, peeks, param, rewrite, drop, by, feq_l, ◌≡◌, ℕ, zero, suc, ◌<◌, arith, T, List, [], ◌∷◌, ◌++◌, refl, ap, ◌∙◌, Option, Some, None, Ura, Val, vstruct, vcons, vnil, of_list, has_ty, WT, Coded, SProp, ent, emp, ex, ex_i, guard, guard_i, via, never_e, Lft, Fml, shown, fact_i, Logic, sem, ‵, ◌$◌, ◌∵◌, !, qed, move, keep, fsplit, fjoin, fpick, fpack, use0, feq_i, nothing, done, RattleType, Valss, Is, NamedLft, ShrRef, Opens, Ptr, InBlock, block_ptr, null_ptr, ptr_val}
use mir.Syntax.{ty_ptr, ty_struct, tcons, tnil}
use denote.Copied.{Struct-Copied}
use denote.Shadow.{makes_shadow}
use denote.Struct.Field.{RawPtr-field, row_field, rows}
use denote.Struct.Laws.{RawPtr-copy, field_copy}
use denote.Struct.Struct.{Shape, Struct, within}
use denote.Struct.Owning.{shape}
use Rattle.core.specs.contracts.marker.PhantomData as marker
use Rattle.event_slot.specs.Holding.{Names, writer, writes, right_to, held, claim_shares, writing_shares, inner_shares}
use Rattle.event_slot.specs.contracts.rest.Rest as rest
use Rattle.event_slot.specs.contracts.rule.Mark as mark

-- a claim and a writer are a pointer and nothing else
abbrev pub pointing : Ptr → Val
pointing p = vstruct (vcons (ptr_val p) (vcons (vstruct vnil) vnil))

pub points : (p : Ptr) → InBlock p → T (has_ty (ty_struct [] (tcons ty_ptr (tcons (ty_struct [] tnil) tnil))) (pointing p)) × WT (pointing p)
points (block_ptr b o) i = (tt, (tt, (tt, tt)))
points null_ptr i = absurd i

-- s is the form of either
module _ (s : Shape) (a : NamedLft) (R : RattleType) where
  abbrev form : Shape
  form = record { name = s.name; args = s.args; types = s.types; fields = rows (RawPtr-field ∷ marker.the_field (ShrRef a.mir a.lft R) ∷ []) }

  abbrev pub Pointing : RattleType
  Pointing = Struct form

  pub pointing_told : (p : Ptr) (vs : List Val) → Is Pointing (p, (tt, tt)) vs → vs ≡ pointing p ∷ []
  pointing_told p vs is = is.1.0 ∙ ap (λ (ws : List Val). vstruct (of_list (ws ++ (is.0.1.0 ++ []))) ∷ []) is.1.1.0 ∙ ap (λ (ws : List Val). vstruct (of_list (ptr_val p ∷ (ws ++ []))) ∷ []) is.1.1.1.0.1.0

  module _ {M : Type 1} {𝓤 : Ura M} (𝓛 : Logic 𝓤) where
    pub pointing_made : (p : Ptr) → ent 𝓤 (emp 𝓤) (sem 𝓛 (Pointing.own_val (p, (tt, tt)) (pointing p ∷ [])))
    pointing_made p = makes_shadow 𝓛 (Pointing.own_val (p, (tt, tt)) (pointing p ∷ [])) (λ vss. (tt, (tt, ((λ uss. (tt, tt)), tt)))) ((ptr_val p ∷ [], (vstruct vnil ∷ [], tt)), (refl, (refl, ((tt, (refl, tt)), tt))))

    pub pointing_opens : Opens 𝓛 Pointing
    pointing_opens = (Struct-Copied 𝓛 form (refl, (refl, tt)) (RawPtr-copy.copied M 𝓤 𝓛, ((field_copy (marker.the_type (ShrRef a.mir a.lft R)) tt).copied M 𝓤 𝓛, tt))).opens

-- a writer with what is beside it
abbrev pub carrying : Ptr → Val → Val
carrying p v = vstruct (vcons (ptr_val p) (vcons (vstruct vnil) (vcons v vnil)))

abbrev pub around : Ptr → List Val → Val
around p ws = vstruct (vcons (ptr_val p) (vcons (vstruct vnil) (of_list (ws ++ []))))

module _ (s : Shape) (a : NamedLft) (R B : RattleType) where
  abbrev pub Phantom : RattleType
  Phantom = marker.the_row (ShrRef a.mir a.lft R)

  abbrev three : Shape
  three = record { name = s.name; args = s.args; types = s.types; fields = rows (RawPtr-field ∷ marker.the_field (ShrRef a.mir a.lft R) ∷ row_field B ∷ []) }

  abbrev pub Carrying : RattleType
  Carrying = Struct three

  pub carrying_told : (p : Ptr) (l : B.Denot) (vs : List Val) → Is Carrying (p, (tt, (l, tt))) vs → (ws : List Val) × Is B l ws × (vs ≡ around p ws ∷ [])
  carrying_told p l vs is = (
    is.0.1.1.0,
    is.1.1.1.1.0,
    is.1.0 ∙ ap (λ (ws : List Val). vstruct (of_list (ws ++ (is.0.1.0 ++ (is.0.1.1.0 ++ [])))) ∷ []) is.1.1.0 ∙ ap (λ (ws : List Val). vstruct (of_list (ptr_val p ∷ (ws ++ (is.0.1.1.0 ++ [])))) ∷ []) is.1.1.1.0.1.0,
  )

  pub carrying_made : {M : Type 1} {𝓤 : Ura M} (𝓛 : Logic 𝓤) (p : Ptr) (l : B.Denot) (v : Val) → ent 𝓤 (sem 𝓛 (B.own_val l (v ∷ []))) (sem 𝓛 (Carrying.own_val (p, (tt, (l, tt))) (carrying p v ∷ [])))
  carrying_made {𝓤 = 𝓤} 𝓛 p l v = qed 𝓛 (‵ (B.own_val l (v ∷ [])) ∷ []) ∵ nothing ! $ move ! (1 ∷ 0 ∷ []) $ fjoin ! $ use0 𝓛 (‵ (Phantom.own_val (record {}) (vstruct vnil ∷ []))) (makes_shadow 𝓛 (Phantom.own_val (record {}) (vstruct vnil ∷ [])) (λ uss. (tt, tt)) (tt, (refl, tt))) $ fjoin ! $
      feq_i ! (List Val) (ptr_val p ∷ []) (ptr_val p ∷ []) refl $ fjoin ! $ feq_i ! (List Val) (carrying p v ∷ []) (carrying p v ∷ []) refl $ fjoin ! $
      fpack ! (Valss three.fields) (within three (p, (tt, (l, tt))) (carrying p v ∷ [])) (ptr_val p ∷ [], (vstruct vnil ∷ [], (v ∷ [], tt))) $ done !

module _ (s : Shape) (a : NamedLft) (R : RattleType) (E : El) (i : ℕ) where
  abbrev B : RattleType
  B = param i E.row

  abbrev Ph : RattleType
  Ph = Phantom s a R B

  pub carrying_shown : {M : Type 1} {𝓤 : Ura M} (𝓛 : Logic 𝓤) (p : Ptr) (l : E.row.Denot) (vs : List Val)
      → ent 𝓤 (sem 𝓛 ((Carrying s a R B).own_val (p, (tt, (l, tt))) vs)) (ex 𝓤 (λ (v : Val). guard 𝓤 ((vs ≡ carrying p v ∷ []) × Good E v) (sem 𝓛 (B.own_val l (v ∷ [])))))
  carrying_shown {𝓤 = 𝓤} 𝓛 p l vs = qed 𝓛 (‵ ((Carrying s a R B).own_val (p, (tt, (l, tt))) vs) ∷ []) ∵ fpick ! (λ vss. fsplit ! $ feq_l ! (λ ev. fsplit ! $ feq_l ! (λ en. fsplit ! $ peeks ! Ph (Is Ph) (shows 𝓛 Ph) (record {}) vss.1.0 (λ ph. drop ! $ fsplit ! $
      peeks ! B (Is B) (shows 𝓛 B) l vss.1.1.0 (λ is. let got = one E vss.1.1.0 ((lawful E 𝓛).typed l vss.1.1.0 is) in let Own : Val → SProp 𝓤 = λ v. sem 𝓛 (B.own_val l (v ∷ [])) in let Told : Val → Type 0 = λ v. (vs ≡ carrying p v ∷ []) × Good E v in
      rewrite ! 0 (λ (ws : List Val). ‵ (B.own_val l ws)) got.1 refl $ keep ! (0 ∷ []) $
      by ! (via 𝓤 _ (guard_i 𝓤 (Told got.0) (Own got.0) (ev ∙ (λ j. vstruct (of_list (en j ++ (ph.1.0 j ++ (got.1 j ++ [])))) ∷ []), got.2)) (ex_i 𝓤 (λ (v : Val). guard 𝓤 (Told v) (Own v)) got.0)))))))

abbrev pub token : Val
token = vstruct (vcons (vstruct vnil) vnil)

module _ (V : RattleType) where
  abbrev pub Token : RattleType
  Token = Struct (shape (mark.the_type V))

  pub token_made : {M : Type 1} {𝓤 : Ura M} (𝓛 : Logic 𝓤) → ent 𝓤 (emp 𝓤) (sem 𝓛 (Token.own_val (tt, tt) (token ∷ [])))
  token_made 𝓛 = makes_shadow 𝓛 (Token.own_val (tt, tt) (token ∷ [])) (λ vss. (tt, ((λ uss. (tt, tt)), tt))) ((vstruct vnil ∷ [], tt), (refl, ((tt, (refl, tt)), tt)))

  pub token_told : (vs : List Val) → Is Token (tt, tt) vs → vs ≡ token ∷ []
  token_told vs is = is.1.0 ∙ ap (λ (ws : List Val). vstruct (of_list (ws ++ [])) ∷ []) is.1.1.0.1.0

  abbrev pub Resting : RattleType
  Resting = Struct (shape (rest.the_type V))

  pub resting_made : {M : Type 1} {𝓤 : Ura M} (𝓛 : Logic 𝓤) → ent 𝓤 (emp 𝓤) (sem 𝓛 (Resting.own_val (tt, tt) (token ∷ [])))
  resting_made 𝓛 = makes_shadow 𝓛 (Resting.own_val (tt, tt) (token ∷ [])) (λ vss. (tt, ((λ uss. (tt, tt)), tt))) ((vstruct vnil ∷ [], tt), (refl, ((tt, (refl, tt)), tt)))

  pub resting_told : (vs : List Val) → Is Resting (tt, tt) vs → vs ≡ token ∷ []
  resting_told vs is = is.1.0 ∙ ap (λ (ws : List Val). vstruct (of_list (ws ++ [])) ∷ []) is.1.1.0.1.0

-- whoever holds a slot, or sees its value, has its address
module _ {M : Type 1} {𝓤 : Ura M} (𝓛 : Logic 𝓤) {W : Type 0} (cw : Coded W) (γ : ℕ) (R Q : RattleType) (c : ℕ → ℕ) (holds : ℕ → Option Q.Denot → List W → Type 0) (β : Lft) where
  pub held_placed : (p : Ptr) (P : ℕ → ℕ → Names → Fml) → ent 𝓤 (sem 𝓛 (held cw.code γ R Q c holds β p P)) (shown 𝓤 (InBlock p))
  held_placed (block_ptr b o) P = fact_i 𝓤 (Unit {0}) _ tt
  held_placed null_ptr P = never_e 𝓤 _

module _ {M : Type 1} {𝓤 : Ura M} (𝓛 : Logic 𝓤) (β : Lft) (R : RattleType) where
  pub reader_sees : (p : Ptr) (v : Option R.Denot) (κ : Lft) → ent 𝓤 (sem 𝓛 (claim_shares β R p 1 v κ)) (shown 𝓤 (InBlock p × ((x : R.Denot) × (v ≡ Some x))))
  reader_sees (block_ptr b o) (Some x) κ = fact_i 𝓤 (Unit {0} × ((y : R.Denot) × (Some x ≡ Some y))) _ (tt, (x, refl))
  reader_sees (block_ptr b o) None κ = never_e 𝓤 _
  reader_sees null_ptr v κ = never_e 𝓤 _

  pub writer_sees : (p : Ptr) (x : R.Denot) (κ : Lft) → ent 𝓤 (sem 𝓛 (writing_shares β R p x κ)) (shown 𝓤 (InBlock p))
  writer_sees (block_ptr b o) x κ = fact_i 𝓤 (Unit {0}) _ tt
  writer_sees null_ptr x κ = never_e 𝓤 _

  pub inner_sees : (U : RattleType) (p : Ptr) (y : U.Denot) (κ : Lft) → ent 𝓤 (sem 𝓛 (inner_shares β R U p y κ)) (shown 𝓤 (InBlock p))
  inner_sees U (block_ptr b o) y κ = fact_i 𝓤 (Unit {0}) _ tt
  inner_sees U null_ptr y κ = never_e 𝓤 _

  pub writes_some : (b o : ℕ) (t : Names) (v : Option R.Denot) → ent 𝓤 (sem 𝓛 (writes R b o t v)) (ex 𝓤 (λ (x : R.Denot). guard 𝓤 (Some x ≡ v) (sem 𝓛 (writer R b o t x))))
  writes_some b o t (Some x) = via 𝓤 _ (guard_i 𝓤 (Some x ≡ Some x) (sem 𝓛 (writer R b o t x)) refl) (ex_i 𝓤 (λ (z : R.Denot). guard 𝓤 (Some z ≡ Some x) (sem 𝓛 (writer R b o t z))) x)
  writes_some b o t None = never_e 𝓤 _

  -- whoever has a right has a value
  pub right_has : (b o : ℕ) (t : Names) (k : ℕ) (v : Option R.Denot) → ent 𝓤 (sem 𝓛 (right_to R b o t k v)) (shown 𝓤 (0 < k → IsSome v))
  right_has b o t zero v = fact_i 𝓤 (0 < 0 → IsSome v) _ (λ l. absurd (omega arith))
  right_has b o t (suc zero) (Some x) = fact_i 𝓤 (0 < 1 → IsSome (Some x)) _ (λ l. refl)
  right_has b o t (suc zero) None = never_e 𝓤 _
  right_has b o t (suc (suc k)) (Some x) = fact_i 𝓤 (0 < suc (suc k) → IsSome (Some x)) _ (λ l. refl)
  right_has b o t (suc (suc k)) None = never_e 𝓤 _

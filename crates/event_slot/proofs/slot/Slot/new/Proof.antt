-- `new` lays the word, the value and the state side by side, and begins the views; the key is only looked at.
use Rattle.event_slot.proofs.Names.{◌≡◌, ℕ, ◌^◌, ◌<◌, ◌&&◌, T, true, List, [], ◌∷◌, ◌++◌, sym, refl, subst, Option, Some, w64, a_type, dcons, dnil, Val, vint, vstruct, vcons, vnil, of_list, has_ty, WT, inst_fn, Coded, SProp, ent, emp, id⊢, ftrue, fsep, feq, shown, fact_i, tables, WpFn, ‵, raw, ◌⊛◌, some, later, ◌$◌, ◌∵◌, !, qed, by, move, keep, drop, split, fsplit, fjoin, fjoin3, fpack, pick, use0, await, rewrite, feq_i, flt_i, suffices, of_opd, no_more, and_then, returns, enter, alloc_all, pass_all, free_all, look_at, get, sets, agg, yes, no, RattleType, Valss, owns, types_at, plain, nothing, heard, Typed, param, layout, bounded, u64, alive, Stays, stay_dropped, walk_of, Goes-dropped, RefOf, shr_Tells, named, vptr, El, lawful, Good, one, proved_at, leaves}
use denote.Struct.Struct.{within}
use mir.Facts.{yes_and}
use Rattle.std.proofs.ResultValues.{and_tt}
use Rattle.atomic_table.specs.Seated.{roster}
use Rattle.atomic_table.specs.Marked.{mark_owns}
use Rattle.atomic_table.proofs.Marking.{begins}
use Rattle.counted_slot.specs.Counting.{fact}
use Rattle.event_slot.specs.Holding.{Named, Agrees, knowing}
use Rattle.event_slot.specs.contracts.slot.Slot as slot
use Rattle.event_slot.specs.contracts.slot.Slot.TheInside as inside
use Rattle.event_slot.specs.contracts.rule.Mark as mark
use Rattle.event_slot.proofs.Fields.{token, Token, token_made}
use Rattle.event_slot.specs.contracts.slot.Slot.new.{ended, clauses}
use Rattle.event_slot.specs.contracts.slot.Slot.new.Key.{name as #self}
use Rattle.event_slot.proofs.slot.Slot.new.Statement.{statement}
use Rattle.event_slot.proofs.slot.Slot.new.Code as code

pub new_spec : {M : Type 1} → statement M
new_spec 𝓤 𝓛 𝓜 𝓡 wired X S Y Ky L K _ _ g d _ =
    let H = 𝓛.H in let 𝓣 = tables 𝓤 H 𝓜 𝓡 𝓡.env in let R : RattleType = param 0 X in let Q : RattleType = param 1 S in let V : RattleType = param 2 Y in let Kr : RattleType = param 3 Ky in let En = ended X S Y Ky g d in let c = clauses X S Y Ky g d 𝓛 𝓜.mem 𝓡.returns in
    let E : El = record { row = X; laws = L } in let B : El = record { row = S; laws = K } in let cw : Coded Y.Denot = V.coded in let inst = bounded (a_type ∷ a_type ∷ a_type ∷ a_type ∷ []) (X, (S, (Y, (Ky, tt)))) (dcons d dnil) in let fn = inst_fn inst code.function in
    let item = plain (λ _. R) in let beside = plain (λ _. Q) in let number = plain (λ _. u64) in let noted = RefOf (0 ∷ []) tt (plain (λ _. Kr)) (λ _. tt) in let hs : Stays En.signature.params En.kept = (stay_dropped item no, (stay_dropped beside no, (stay_dropped number yes, (stay_dropped noted yes, tt)))) in
    let Row : RattleType = slot.the_row R Q V Kr g in let Mr : RattleType = mark.the_row V in let F : RattleType = inside.the_row R Q V Kr g in let D = denote.Struct.Declared.shape (inside.the_type R Q V Kr g) in
    proved_at 𝓛 En hs c 𝓜 𝓡 (Goes-dropped 𝓛 5 item no (λ κs x f. refl), (Goes-dropped 𝓛 5 beside no (λ κs x f. refl), (Goes-dropped 𝓛 5 number yes (λ κs x f. refl), (Goes-dropped 𝓛 5 noted yes (λ κs x f. refl), tt)))) (#self inst) fn (code.unfolded 𝓤 H 𝓜 𝓡 wired (X, (S, (Y, (Ky, tt)))) d) (λ z are.
    let x : X.Denot = z.0.3.0 in let y : S.Denot = z.0.3.1.0 in let n : ℕ = z.0.3.1.1.0 in let kept = z.0.3.1.1.1.0 in let key : Ky.Denot = kept.now in let vk : Val = vptr kept.ref_ptr.0 kept.ref_ptr.1 in let said = shr_Tells (named 0) z.0.0.0 Kr kept z.0.4.1.1.1.0 are.1.1.1.0 in let fits : n < 2 ^ 64 = are.1.1.0.1 in let w : Y.Denot = (g.first key) in let got = one E z.0.4.0 ((lawful E 𝓛).typed x z.0.4.0 are.0) in let vx : Val = got.0 in let fx : Good E vx = got.2 in
    let had = one B z.0.4.1.0 ((lawful B 𝓛).typed y z.0.4.1.0 are.1.0) in let vy : Val = had.0 in let fy : Good B vy = had.2 in
    let v : Val = vstruct (vcons (vint w64 n) (vcons vx (vcons vy vnil))) in let r : Val = vstruct (vcons v (vcons token vnil)) in
    let Post : Val → SProp 𝓤 = (walk_of 𝓛 En hs c).post z in let Run : List Val → SProp 𝓤 = λ ws. WpFn 𝓤 H 𝓣.C 𝓣.Λ fn ws Post in let args : List Val = vx ∷ vy ∷ vint w64 n ∷ vk ∷ [] in
    let two : T (has_ty (layout X) vx && (has_ty (layout S) vy && true)) = yes_and (has_ty (layout X) vx) (has_ty (layout S) vy && true) fx.0 (and_tt (has_ty (layout S) vy) fy.0) in let typed : T (has_ty (layout X) vx && (has_ty (layout S) vy && true)) × WT v = (two, (record { fits = fits }, (fx.1, (fy.1, tt)))) in
    let Held : Type 0 = (g.holds key) n (Some y) (w ∷ []) in
    qed 𝓛 ((raw (alive 𝓛 En.signature z.0.0 z.0.1) ⊛ ‵ (owns (types_at En.signature.params z.0.0) z.0.3 z.0.4)) ∷ raw (shown 𝓤 _) ∷ raw (shown 𝓤 _) ∷ raw (shown 𝓤 _) ∷ raw (shown 𝓤 _) ∷ raw (shown 𝓤 Held) ∷ []) ∵
    keep ! (5 ∷ 0 ∷ []) $ heard ! Held (λ rule. split ! $ move ! (1 ∷ []) $ fsplit ! $ move ! (1 ∷ []) $ fsplit ! $ move ! (1 ∷ []) $ drop ! $ rewrite ! 0 (λ (ws : List Val). ‵ (Q.own_val y ws)) had.1 refl $ rewrite ! 1 (λ (ws : List Val). ‵ (R.own_val x ws)) got.1 refl $
    suffices ! (Run args) (subst (λ (ws : List Val). ent 𝓤 (Run args) (Run ws)) (sym (λ i. got.1 i ++ (had.1 i ++ (are.1.1.0.0 i ++ (said i ++ []))))) (id⊢ 𝓤 (Run args))) $
    enter ! 𝓣.C 𝓣.Λ fn args Post $ alloc_all ! (λ l. pass_all ! refl (fx, (fy, ((tt, record { fits = fits }), ((tt, tt), tt)))) $
    sets ! (of_opd ! (get ! refl)) refl fx $ sets ! (of_opd ! (get ! refl)) refl fy $ sets ! (agg ! (and_then ! (get ! refl) (and_then ! (get ! refl) (and_then ! (get ! refl) (no_more !))))) refl typed $ sets ! (agg ! (no_more !)) refl (tt, tt) $ sets ! (agg ! (and_then ! (get ! refl) (no_more !))) refl (tt, (tt, tt)) $
    sets ! (agg ! (and_then ! (get ! refl) (and_then ! (get ! refl) (no_more !)))) refl (and_tt (has_ty (layout X) vx && (has_ty (layout S) vy && true)) typed.0, (typed.1, ((tt, tt), tt))) $
    use0 𝓛 (later (some (λ (γ : ℕ). ‵ (roster cw.code γ 0 (w ∷ [])) ⊛ ‵ (mark_owns cw.code γ 0 w)))) (begins 𝓛 cw w) $ await ! tt $ pick ! (λ γ. split ! $
    -- [the views; the mark; the state; the value; the tokens]
    nothing ! $ fpack ! Held (λ _. ftrue) rule $ nothing ! $ fpack ! (y ≡ y) (λ _. ftrue) refl $ move ! (0 ∷ 2 ∷ 1 ∷ []) $ fjoin3 ! $
    fpack ! (Option S.Denot × List Y.Denot) (λ p. fsep (fact (Agrees p.0 y)) (fsep (roster cw.code γ 0 p.1) (fact ((g.holds key) n p.0 p.1)))) (Some y, w ∷ []) $
    nothing ! $ move ! (3 ∷ 0 ∷ []) $ fjoin ! $ move ! (3 ∷ []) $ flt_i ! n (2 ^ 64) fits $ feq_i ! (List Val) (vint w64 n ∷ []) (vint w64 n ∷ []) refl $ fjoin ! $ move ! (0 ∷ 1 ∷ 2 ∷ []) $ fjoin3 ! $
    feq_i ! (List Val) (v ∷ []) (v ∷ []) refl $ fjoin ! $ fpack ! (Valss (u64 ∷ R ∷ Q ∷ [])) (within D (n, (x, (y, tt))) (v ∷ [])) (vint w64 n ∷ [], (vx ∷ [], (vy ∷ [], tt))) $ move ! (0 ∷ 1 ∷ []) $ fjoin ! $
    fpack ! (ℕ × X.Denot × S.Denot) (λ s. fsep (F.own_val (record { word = s.0; value = s.1; state = s.2 }) (v ∷ [])) (knowing cw.code γ (g.holds key) (λ home. fact (Agrees home s.2)) s.0)) (n, x, y) $ nothing ! $ fpack ! (Typed F.mir (v ∷ [])) (λ _. ftrue) (typed, tt) $ fjoin ! $
    -- [the slot; the mark; the tokens]
    let d₀ : Named Ky.Denot = record { name = γ; key = key } in let m : Mr.Denot = record { marker = record {}; slot = γ; id = 0; view = w } in move ! (1 ∷ []) $ use0 𝓛 (‵ ((Token V).own_val (tt, tt) (token ∷ []))) (token_made V 𝓛) $ fjoin ! $ nothing ! $ move ! (2 ∷ 1 ∷ 0 ∷ []) $ fjoin3 ! $
    feq_i ! (List Val) (r ∷ []) (r ∷ []) refl $ fjoin ! $ fpack ! (Valss (Row ∷ Mr ∷ [])) (λ vss. fsep (feq (List Val) (r ∷ []) (vstruct (of_list (vss.0 ++ (vss.1.0 ++ []))) ∷ [])) (owns (Row ∷ Mr ∷ []) (d₀, (m, tt)) vss)) (v ∷ [], (token ∷ [], tt)) $
    let Told : Type 0 = (key ≡ key) × (γ ≡ γ) × (m.id ≡ 0) × (w ≡ w) in use0 𝓛 (raw (shown 𝓤 Told)) (fact_i 𝓤 Told (emp 𝓤) (refl, refl, refl, refl)) $ nothing ! $ nothing ! $ fjoin ! $ nothing ! $ fjoin ! $ nothing ! $ fjoin ! $ nothing ! $ fjoin ! $
    returns ! (look_at ! 0 refl) $ free_all ! refl $ keep ! (3 ∷ 0 ∷ 2 ∷ 1 ∷ []) $ by ! (leaves 𝓛 En hs c z r (d₀, m) (tt, (tt, (tt, (tt, tt)))) (tt, (tt, (tt, (tt, tt)))))))))

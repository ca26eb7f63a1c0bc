-- `new` lays the word and the value side by side; the key is only looked at.
use Rattle.event_slot.proofs.Names.{◌≡◌, ℕ, ◌^◌, ◌<◌, ◌&&◌, T, true, List, [], ◌∷◌, ◌++◌, sym, refl, subst, w64, a_type, dcons, dnil, Val, vint, vstruct, vcons, vnil, has_ty, WT, inst_fn, SProp, ent, emp, id⊢, ftrue, fsep, shown, fact_i, tables, WpFn, ‵, raw, ◌⊛◌, ◌$◌, ◌∵◌, !, qed, by, move, keep, drop, split, fsplit, fjoin, fpack, use0, rewrite, feq_i, flt_i, suffices, of_opd, no_more, and_then, returns, enter, alloc_all, pass_all, free_all, look_at, get, sets, agg, yes, no, RattleType, Valss, owns, types_at, plain, nothing, heard, Typed, param, layout, bounded, u64, alive, Stays, stay_dropped, walk_of, Goes-dropped, RefOf, shr_Tells, named, vptr, El, lawful, Good, one, proved_at, leaves}
use denote.Struct.Struct.{within}
use Rattle.std.proofs.ResultValues.{and_tt}
use Rattle.counted_slot.specs.Counting.{fact}
use Rattle.event_slot.specs.contracts.write_once.WriteOnce.TheInside as inside
use Rattle.event_slot.specs.contracts.write_once.WriteOnce.new.{ended, clauses}
use Rattle.event_slot.specs.contracts.write_once.WriteOnce.new.Key.{name as #self}
use Rattle.event_slot.proofs.write_once.WriteOnce.new.Statement.{statement}
use Rattle.event_slot.proofs.write_once.WriteOnce.new.Code as code

pub new_spec : {M : Type 1} → statement M
new_spec 𝓤 𝓛 𝓜 𝓡 wired X Ky L _ g d _ =
    let H = 𝓛.H in let 𝓣 = tables 𝓤 H 𝓜 𝓡 𝓡.env in let R : RattleType = param 0 X in let Kr : RattleType = param 1 Ky in let En = ended X Ky g d in let c = clauses X Ky g d 𝓛 𝓜.mem 𝓡.returns in
    let E : El = record { row = X; laws = L } in let inst = bounded (a_type ∷ a_type ∷ []) (X, (Ky, tt)) (dcons d dnil) in let fn = inst_fn inst code.function in
    let number = plain (λ _. u64) in let item = plain (λ _. R) in let noted = RefOf (0 ∷ []) tt (plain (λ _. Kr)) (λ _. tt) in let hs : Stays En.signature.params En.kept = (stay_dropped number yes, (stay_dropped item no, (stay_dropped noted yes, tt))) in
    let F : RattleType = inside.the_row R Kr g in let D = denote.Struct.Declared.shape (inside.the_type R Kr g) in
    proved_at 𝓛 En hs c 𝓜 𝓡 (Goes-dropped 𝓛 3 number yes (λ κs x f. refl), (Goes-dropped 𝓛 3 item no (λ κs x f. refl), (Goes-dropped 𝓛 3 noted yes (λ κs x f. refl), tt))) (#self inst) fn (code.unfolded 𝓤 H 𝓜 𝓡 wired (X, (Ky, tt)) d) (λ z are.
    let n : ℕ = z.0.3.0 in let x : X.Denot = z.0.3.1.0 in let kept = z.0.3.1.1.0 in let key : Ky.Denot = kept.now in let vk : Val = vptr kept.ref_ptr.0 kept.ref_ptr.1 in let said = shr_Tells (named 0) z.0.0.0 Kr kept z.0.4.1.1.0 are.1.1.0 in let fits : n < 2 ^ 64 = are.0.1 in
    let got = one E z.0.4.1.0 ((lawful E 𝓛).typed x z.0.4.1.0 are.1.0) in let vx : Val = got.0 in let fx : Good E vx = got.2 in let v : Val = vstruct (vcons (vint w64 n) (vcons vx vnil)) in
    let Post : Val → SProp 𝓤 = (walk_of 𝓛 En hs c).post z in let Run : List Val → SProp 𝓤 = λ ws. WpFn 𝓤 H 𝓣.C 𝓣.Λ fn ws Post in let args : List Val = vint w64 n ∷ vx ∷ vk ∷ [] in
    let typed : T (has_ty (layout X) vx && true) × WT v = (and_tt (has_ty (layout X) vx) fx.0, (record { fits = fits }, (fx.1, tt))) in let Held : Type 0 = g.fits key x in
    qed 𝓛 ((raw (alive 𝓛 En.signature z.0.0 z.0.1) ⊛ ‵ (owns (types_at En.signature.params z.0.0) z.0.3 z.0.4)) ∷ raw (shown 𝓤 _) ∷ raw (shown 𝓤 _) ∷ raw (shown 𝓤 Held) ∷ []) ∵
    keep ! (3 ∷ 0 ∷ []) $ heard ! Held (λ holds. split ! $ move ! (1 ∷ []) $ fsplit ! $ drop ! $ fsplit ! $ move ! (1 ∷ []) $ drop ! $ rewrite ! 0 (λ (ws : List Val). ‵ (R.own_val x ws)) got.1 refl $
    suffices ! (Run args) (subst (λ (ws : List Val). ent 𝓤 (Run args) (Run ws)) (sym (λ i. are.0.0 i ++ (got.1 i ++ (said i ++ [])))) (id⊢ 𝓤 (Run args))) $
    enter ! 𝓣.C 𝓣.Λ fn args Post $ alloc_all ! (λ l. pass_all ! refl ((tt, record { fits = fits }), (fx, ((tt, tt), tt))) $
    sets ! (of_opd ! (get ! refl)) refl fx $ sets ! (agg ! (and_then ! (get ! refl) (and_then ! (get ! refl) (no_more !)))) refl typed $
    -- [the value; the tokens]
    nothing ! $ move ! (1 ∷ 0 ∷ []) $ fjoin ! $ flt_i ! n (2 ^ 64) fits $ feq_i ! (List Val) (vint w64 n ∷ []) (vint w64 n ∷ []) refl $ fjoin ! $ fjoin ! $
    feq_i ! (List Val) (v ∷ []) (v ∷ []) refl $ fjoin ! $ fpack ! (Valss (u64 ∷ R ∷ [])) (within D (n, (x, tt)) (v ∷ [])) (vint w64 n ∷ [], (vx ∷ [], tt)) $ nothing ! $ fpack ! Held (λ _. ftrue) holds $ move ! (1 ∷ 0 ∷ []) $ fjoin ! $
    fpack ! (ℕ × X.Denot) (λ s. fsep (F.own_val (record { word = s.0; value = s.1 }) (v ∷ [])) (fact (g.fits key s.1))) (n, x) $ nothing ! $ fpack ! (Typed F.mir (v ∷ [])) (λ _. ftrue) (typed, tt) $ fjoin ! $
    let Told : Type 0 = key ≡ key in use0 𝓛 (raw (shown 𝓤 Told)) (fact_i 𝓤 Told (emp 𝓤) refl) $ nothing ! $ nothing ! $ fjoin ! $ nothing ! $ fjoin ! $ nothing ! $ fjoin ! $
    returns ! (look_at ! 0 refl) $ free_all ! refl $ keep ! (3 ∷ 0 ∷ 2 ∷ 1 ∷ []) $ by ! (leaves 𝓛 En hs c z v key (tt, (tt, (tt, tt))) (tt, (tt, (tt, tt)))))))

use Rattle.std.proofs.Common.{rules, arith, inl, inr, ◌≡◌, ◌⊎◌, ◌*◌, ◌+◌, ◌<◌, subst}
use Rattle.event_word.specs.Word.{number_of}
use Rattle.event_word.proofs.WordKeeps.{puts, due_puts, home_with, is_number}
use Rattle.event_word.proofs.word.held.Held.try_to_put_back.Goals.{then-is_owed, else-is_owed}
use Rattle.event_word.proofs.word.held.Held.try_to_put_back.Goals as goal

pub exchange-found-requires-clause-keeps : goal.exchange-found-requires-clause-keeps
exchange-found-requires-clause-keeps g c =
    let kept = g.S.Kept.rules in
    let aim = c.marked-aim.result in
    let code = c.if-is_owed.code in
    let t = c.settle-is_owed.ensures.stands in
    let h = t.4 in
    let turn : (code ≡ 2) ⊎ ((code ≡ 0) × g.S.Kept.rules.quiet t.1) = elim c.if-is_owed.branch [ then-is_owed w ↦ inl w.code-is | else-is_owed w ↦ inr (w.code-is, h.3 w.if-is_owed.false) ] in
    let low : code < 4 = elim turn [ inl is ↦ omega (arith, is) | inr is ↦ omega (arith, is.0) ] in
    let is : aim ≡ number_of (aim * 4 + code) = is_number aim code low in
    (search rules, puts kept _ _ _ t.1 _ _ _ t.2 t.3 (home_with kept aim code t.1 turn h.2) (subst kept.fits is c.marked-aim.ensures.number.1))

pub exchange-found-requires-clause-owes : goal.exchange-found-requires-clause-owes
exchange-found-requires-clause-owes g c = due_puts _ _ _ _ _ c.settle-is_owed.ensures.stands.2

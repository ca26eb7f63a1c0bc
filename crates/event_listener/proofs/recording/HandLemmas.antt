-- Whose hands are.
use Rattle.std.proofs.Common.{◌≤◌, ℕ, zero, suc, [], All, refl, arith}
use Rattle.std.proofs.lemmas.List.Elements.{All-push}
use Rattle.event_listener.specs.Noting.{HandNotes, Owns, new_hands}

-- an event owns the hands that it was made with
pub new_hands_are_owned : {T : Type 0} (number hands count : ℕ) → count ≤ hands → All (λ (hand : HandNotes T). Owns (record { number = number; hands = hands }) hand) (new_hands number count)
new_hands_are_owned number hands zero within = λ k d below. absurd (omega (arith, below))
new_hands_are_owned {T} number hands (suc count) within =
    let last : HandNotes T = record { number = count; event_number = number; notes = [] } in
    let owned : Owns (record { number = number; hands = hands }) last = record { same_event = refl; is_below = omega (arith, within) } in
    All-push (Owns (record { number = number; hands = hands })) (new_hands number count) last (new_hands_are_owned number hands count (omega (arith, within))) owned

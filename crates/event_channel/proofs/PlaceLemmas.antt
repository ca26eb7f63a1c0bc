-- Which place a hand's calls leave it.
use Rattle.std.proofs.Common.{◌≡◌, ◌∙◌, refl, sym, ap, subst, inl, inr, Bool, true, false, List, [], ◌∷◌, ◌++◌, Option, Some, None, Result, Ok, Err, ℕ}
use Rattle.std.specs.Prelude.{IsSome}
use Rattle.event_queue.specs.declared.key.Key.{Key}
use Rattle.event_history.specs.declared.history.View.{View}
use Rattle.event_history.specs.History.{KeepsTo, Leads, Looks, Machine, Extends, Makes, newcomer}
use Rattle.event_channel.specs.declared.call.ChannelCall.{ChannelCall}
use Rattle.event_channel.specs.Calls.{rests_on_none}
use Rattle.event_channel.specs.Places.{Follow, Place, WaitsAt, WaitsNowhere, came_by, left_at, receiver_at, sender_at}

-- one that has no key has no place
pub nowhere_to_send : (key : Option Key) → ¬ IsSome key → sender_at key ≡ None
nowhere_to_send None out = refl
nowhere_to_send (Some key) out = absurd (out refl)

pub nowhere_to_receive : (is_stream : Bool) (key : Option Key) → ¬ IsSome key → receiver_at is_stream key ≡ None
nowhere_to_receive is_stream None out = refl
nowhere_to_receive is_stream (Some key) out = absurd (out refl)

-- what a hand knows
abbrev Knows : Type 0 → Type 0 → Type 0
Knows S T = View S (ChannelCall T)

module _ {T : Type 0} where
  -- a call comes by the one place, and leaves the other
  abbrev pub Moves : Option Place → ChannelCall T → Option Place → Type 0
  Moves from c to = (came_by c ≡ from) × (left_at c ≡ to)

  -- one call more
  pub follow_on : (from : Option Place) (cs : List (ChannelCall T)) (c : ChannelCall T) (mid to : Option Place) → Follow from cs mid → Moves mid c to → Follow from (cs ++ c ∷ []) to
  follow_on from [] c mid to is (came, left) = (came ∙ is, sym left)
  follow_on from (x ∷ xs) c mid to (first, rest) moves = (first, follow_on (left_at x) xs c mid to rest moves)

  -- the last call left that place
  pub last_left : (from : Option Place) (cs : List (ChannelCall T)) (c : ChannelCall T) (to : Option Place) → Follow from (cs ++ c ∷ []) to → to ≡ left_at c
  last_left from [] c to (first, is) = is
  last_left from (x ∷ xs) c to (first, rest) = last_left (left_at x) xs c to rest

  module _ {P R : ChannelCall T → Type 0} where
    -- a call of a request whose hand waits where it does
    pub keeping : (old from to new : Option Place) → old ≡ from → new ≡ to → (c : ChannelCall T) × P c × Moves from c to × R c → (c : ChannelCall T) × P c × KeepsTo rests_on_none (WaitsAt old) c (WaitsAt new) × R c
    keeping old from to new came left (c, is, moves, does) =
        (c, is, (λ mine waits. (tt, follow_on None mine c old new waits (moves.0 ∙ sym came, moves.1 ∙ sym left))), does)

    -- a mere attempt, which one makes that has no place
    pub trying : (place_of : Option Key → Option Place) → place_of None ≡ None → (old new : Option Key) → old ≡ new → (c : ChannelCall T) × P c × Moves None c None × R c
        → (c : ChannelCall T) × P c × KeepsTo rests_on_none (WaitsAt (place_of old)) c (λ mine. ¬ IsSome new → WaitsAt (place_of new) mine) × R c
    trying place_of none old None is (c, said, moves, does) =
        (c, said, (λ mine waits. (tt, λ out. subst (λ (p : Option Place). WaitsAt p (mine ++ c ∷ [])) (sym none) (follow_on None mine c None None (subst (λ (p : Option Place). WaitsAt p mine) (ap place_of is ∙ none) waits) moves))), does)
    trying place_of none old (Some key) is (c, said, moves, does) = (c, said, (λ mine waits. (tt, λ out. absurd (out refl))), does)

module _ {S T : Type 0} where
  -- a hand that made no call
  pub new_waits_nowhere : (v : Knows S T) → v ≡ newcomer v.seen → WaitsNowhere v.mine
  new_waits_nowhere v is = subst (λ (u : Knows S T). WaitsNowhere u.mine) (sym is) refl

  module _ (machine : Machine S (ChannelCall T)) where
    -- one that waits nowhere made a call by which none waits
    pub led_nowhere : (v w : Knows S T) (c : ChannelCall T) (before after : S) → Leads machine v c before after w → Moves None c None → WaitsNowhere v.mine → WaitsNowhere w.mine
    led_nowhere v w c before after led moves nowhere = subst WaitsNowhere (sym led.mine) (follow_on None v.mine c None None nowhere moves)

    pub still_nowhere : (v w : Knows S T) (c : ChannelCall T) → Extends machine v c w → Moves None c None → WaitsNowhere v.mine → WaitsNowhere w.mine
    still_nowhere v w c (before, after, led) moves nowhere = led_nowhere v w c before after led moves nowhere

    -- after a call by which none waits one waits nowhere, wherever it is
    pub made_last : (v w : Knows S T) (is : ChannelCall T → Type 0) → ((c : ChannelCall T) → is c → left_at c ≡ None) → Makes machine v is w → (place : Option Place) → WaitsAt place w.mine → WaitsNowhere w.mine
    made_last v w is none (c, said, (before, after, led)) place waits =
        subst (λ (p : Option Place). WaitsAt p w.mine) (last_left None v.mine c place (subst (WaitsAt place) led.mine waits) ∙ none c said) waits

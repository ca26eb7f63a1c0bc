-- The waiters of a queue that starve: each was notified and found nothing, twice at least.
use Rattle.std.specs.Prelude.{ℕ, ◌+◌, ◌-◌, ◌*◌, ◌^◌, ◌==◌, min, not, if◌then◌else◌, Option, Some, None, List, [], ◌∷◌, ◌++◌, filter}
use Rattle.event_queue.specs.declared.key.Key.{Key}
use Rattle.event_queue.specs.Key.{is_key}

-- a waiter that starves, and for how many newcomers beside the last it is forborne with: so many are refused for its sake
abbrev pub Starving : Type 0
Starving = Key × ℕ

-- the waiters that starve but this one, if it is one
abbrev pub but : Option Key → List Starving → List Starving
but None starving = starving
but (Some key) starving = filter (λ one. not (is_key key one.0)) starving

-- the waiters that starve once one has joined, which starves if it is forborne with
abbrev pub counted_in : Key → Option ℕ → List Starving → List Starving
counted_in key None starving = starving
counted_in key (Some forborne) starving = starving ++ (key, forborne) ∷ []

-- for how many newcomers beside the last one is forborne with that has lost so often: 64 with it, twice as many after each loss more,
-- and a million at most
abbrev pub forborne_with : ℕ → ℕ
forborne_with losses = 64 * 2 ^ min (losses - 2) 14 - 1

-- the first of the waiters that starve once a newcomer was refused for its sake: forborne with for one fewer
abbrev pub less_forborne : List Starving → List Starving
less_forborne [] = []
less_forborne (one ∷ others) = (one.0, one.1 - 1) ∷ others

-- the first, if that newcomer is the last one
abbrev pub struck_off : List Starving → Option Key
struck_off [] = None
struck_off (one ∷ others) = if one.1 == 0 then Some one.0 else None

-- how many newcomers are refused at most for the sake of these
abbrev pub refusals_for : List Starving → ℕ
refusals_for [] = 0
refusals_for (one ∷ others) = one.1 + 1 + refusals_for others

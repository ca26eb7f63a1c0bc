-- What a contract sees of the state under a barrier's lock.
use Rattle.std.specs.Prelude.{◌≡◌, ℕ, ◌+◌, ◌≤◌, max, length}
use Rattle.event_queue.specs.Queue.{Queue}

-- for how many it is, how many have arrived in this round, and the queue of those that wait
pub record State (W : Type 0) : Type 0 where
  pub parties : ℕ
  pub arrived : ℕ
  pub line : Queue (Unit {0}) W

module _ {W : Type 0} where
  pub record NobodyWaitsInVain (s : State W) : Type 0 where
    -- just those wait that have arrived, and one at least has not
    pub waiting : length s.line.waiting ≡ s.arrived
    pub open_round : s.arrived + 1 ≤ max 1 s.parties

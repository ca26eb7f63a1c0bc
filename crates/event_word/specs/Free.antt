-- What is free for those that compete, and what holds of it and of their queue. The number of a lock is what is free, 2 ^ 60 more once it is closed, or of a mutex while its value is parked, and 2 ^ 61 more while newcomers are shut out.
use Rattle.std.specs.Prelude.{◌≡◌, ◌⊎◌, ℕ, ◌+◌, ◌%◌, ◌^◌, ◌<◌, ◌≤◌, ◌-◌, Bool, true, false, List, [], length}
use Rattle.std.specs.List.{list_any}
use Rattle.std.specs.Map.{keys_of}
use Rattle.event_wait.specs.FairQueue.{State, is_among, woken_tasks}

-- how many are free by this number
abbrev pub free_of : ℕ → ℕ
free_of n = n % 2 ^ 60

-- the number without what shuts newcomers out
abbrev pub unshut_of : ℕ → ℕ
unshut_of n = n % 2 ^ 61

-- newcomers may take what is free
abbrev pub IsOpen : ℕ → Type 0
IsOpen n = n < 2 ^ 60

abbrev pub IsShut : ℕ → Type 0
IsShut n = 2 ^ 61 ≤ n

-- nobody may take anything any more, if it is of a lock that may be closed
abbrev pub IsClosed : ℕ → Type 0
IsClosed n = (2 ^ 60 ≤ n) × (n < 2 ^ 61)

-- of a lock that may be closed
abbrev pub Closes : Bool → ℕ → Type 0
Closes closes n = (closes ≡ true) × IsClosed n

-- none is free, or one that was not notified may take none
abbrev pub NoneFor : Bool → ℕ → Type 0
NoneFor notified n = (free_of n ≡ 0) ⊎ (notified ≡ false × IsShut n)

module _ {W : Type 0} where
  -- whether one that starves is notified
  abbrev pub one_starving_is_told : State W → Bool
  one_starving_is_told s = list_any (is_among (keys_of s.queue.told)) (keys_of s.starving)

  -- while one that starves is notified, newcomers are shut out, and as many are free as are notified, and these more
  abbrev pub ServesWith : ℕ → ℕ → State W → Type 0
  ServesWith more n s = one_starving_is_told s ≡ true → IsShut n × (length s.queue.told + more ≤ free_of n)

  abbrev pub ServesTheStarving : ℕ → State W → Type 0
  ServesTheStarving n s = ServesWith 0 n s

  -- while fewer are notified than are free, nobody waits
  abbrev pub NobodyWaitsInVain : ℕ → State W → Type 0
  NobodyWaitsInVain n s = length s.queue.told < free_of n → length s.queue.waiting ≡ 0

  -- nobody has to be notified of what becomes free: nobody waits; or at most one is free at a time, and one is notified already
  abbrev pub NobodyIsOwed : Bool → State W → Type 0
  NobodyIsOwed many s = (length s.queue.waiting ≡ 0) ⊎ ((many ≡ false) × (0 < length s.queue.told))

  -- nobody is in the queue, notified or not
  abbrev pub NobodyIsThere : State W → Type 0
  NobodyIsThere s = (s.queue.told ≡ []) × (s.queue.waiting ≡ []) × (s.starving ≡ [])

  -- the tasks of all that wait: no queue has more
  abbrev pub all_tasks : State W → List W
  all_tasks s = woken_tasks (2 ^ 64 - 1) s

  -- newcomers are shut out exactly while one starves
  pub record ShutsForTheStarving (n : ℕ) (s : State W) : Type 0 where
    pub only_then : IsShut n → 0 < length s.starving
    pub shut : 0 < length s.starving → IsShut n

  -- the number of one that is not closed shows newcomers whether they are shut out
  abbrev pub TellsNewcomers : Bool → ℕ → State W → Type 0
  TellsNewcomers closes n s = (Closes closes n → ⊥) → ShutsForTheStarving n s

  -- what holds of the number and of the queue between any two steps, of a lock that is closed some day or never is
  pub record StandsIf (closes : Bool) (n : ℕ) (s : State W) : Type 0 where
    pub nobody : NobodyWaitsInVain n s
    pub shuts : ShutsForTheStarving n s
    pub serves : ServesTheStarving n s
    pub closed : Closes closes n → NobodyIsThere s

  abbrev pub Stands : ℕ → State W → Type 0
  Stands n s = StandsIf true n s

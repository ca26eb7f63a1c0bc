-- What a contract sees of a `ClientLine`: the clients in a queue of listeners, by their numbers.
use Rattle.std.specs.Prelude.{◌≡◌, ℕ, zero, suc, ◌+◌, ◌-◌, ◌^◌, ◌<◌, min, Bool, true, false, ◌||◌, eqb, nat_lt, if◌then◌else◌, List, [], ◌∷◌, ◌++◌, length, get_or, set, replicate}
use Rattle.std.specs.List.{list_any}
use Rattle.std.specs.Map.{keys_of, remove_entry, set_value}

-- the clients notified, and the clients waiting, each with whether it is registered, both in order of joining; for
-- each client whether it has a wake-up; the serial of the next that joins; whether all notifications are additional
pub record Line : Type 0 where
  pub told : List ℕ
  pub waiting : List (ℕ × Bool)
  pub awake : List Bool
  pub next : ℕ
  pub additional : Bool

-- an empty line for that many clients, whose notifications are of that kind
abbrev pub empty_line : Bool → ℕ → ℕ → Line
empty_line additional clients first = record {
  told = [];
  waiting = [];
  awake = replicate clients false;
  next = first;
  additional = additional;
}

-- whether the client is notified
abbrev pub is_told : ℕ → Line → Bool
is_told client line = list_any (eqb client) line.told

-- whether the client waits
abbrev pub is_waiting : ℕ → Line → Bool
is_waiting client line = list_any (eqb client) (keys_of line.waiting)

-- whether the client is notified or waits
abbrev pub is_in_line : ℕ → Line → Bool
is_in_line client line = is_told client line || is_waiting client line

-- whether the client has a wake-up
abbrev pub has_wake : ℕ → Line → Bool
has_wake client line = get_or line.awake client false

-- whether the next serial is below the greatest `u64`, so that one more may join
abbrev pub has_serial_left : Line → Bool
has_serial_left line = nat_lt (line.next + 1) (2 ^ 64)

-- a client joins: its wake-up is cleared, and it waits at the end, not registered
abbrev pub joined : ℕ → Line → Line
joined client line = record line {
  waiting = line.waiting ++ (client, false) ∷ [];
  awake = set line.awake client false;
  next = line.next + 1;
}

-- a waiting client is registered
abbrev pub registered : ℕ → Line → Line
registered client line = record line { waiting = set_value (eqb client) line.waiting true }

-- the clients without this one
abbrev pub without : ℕ → List ℕ → List ℕ
without client [] = []
without client (first ∷ rest) = if eqb client first then rest else first ∷ without client rest

-- a notified client leaves, and propagates nothing
abbrev pub told_left : ℕ → Line → Line
told_left client line = record line { told = without client line.told }

-- a waiting client leaves
abbrev pub waiting_left : ℕ → Line → Line
waiting_left client line = record line { waiting = remove_entry (eqb client) line.waiting }

-- a client loses its wake-up
abbrev pub wake_lost : ℕ → Line → Line
wake_lost client line = record line { awake = set line.awake client false }

-- the wake-ups once this client, if it is registered, has got one
abbrev pub woken : ℕ → Bool → List Bool → List Bool
woken client is_registered awake = if is_registered then set awake client true else awake

-- the first waiting client, if there is one, goes to the end of those notified, and gets a wake-up if it is registered
abbrev pub first_told_of : List (ℕ × Bool) → Line → Line
first_told_of [] line = line
first_told_of (first ∷ rest) line = record line {
  told = line.told ++ first.0 ∷ [];
  waiting = rest;
  awake = woken first.0 first.1 line.awake;
}

abbrev pub first_told : Line → Line
first_told line = first_told_of line.waiting line

-- that many waiting clients are notified, one after another
abbrev pub tell : ℕ → Line → Line
tell zero line = line
tell (suc count) line = tell count (first_told line)

-- how many a notification of `count` clients notifies anew: those notified already count towards a default one
abbrev pub wanted : ℕ → Line → ℕ
wanted count line = if line.additional then count else count - length line.told

-- as many as a notification can be for
abbrev pub everybody : ℕ
everybody = 2 ^ 64 - 1

-- a notification of that many clients
abbrev pub notified : ℕ → Line → Line
notified count line = tell (min (wanted count line) (length line.waiting)) line

-- a client leaves; a notified one propagates its notification, which is of one
abbrev pub dropped : ℕ → Line → Line
dropped client line =
    if is_told client line then notified 1 (told_left client line) else waiting_left client line

-- what each line keeps: a `usize` holds the number of the clients that stand in it
pub record IsLine (line : Line) : Type 0 where
  pub clients_fit : length line.told + length line.waiting < 2 ^ 64

-- what a call answers, and the line that it leaves
pub record Leaves (answer : Bool) (left : Line) (result : Bool) (new : Line) : Type 0 where
  pub answered : result ≡ answer
  pub line : new ≡ left

-- What a key names, and how it is looked for.
use Rattle.std.specs.Prelude.{ℕ, Bool, ◌==◌, ◌&&◌, not, List, map, filter}
use Rattle.event_queue.specs.declared.key.Key.{Key}

-- the other key has the same slot and the same serial
abbrev pub is_key : Key → Key → Bool
is_key key other = key.slot == other.slot && key.serial == other.serial

-- the keys but this one
abbrev pub without : Key → List Key → List Key
without key keys = filter (λ other. not (is_key key other)) keys

-- their serials
abbrev pub serials : List Key → List ℕ
serials keys = map (λ key. key.serial) keys

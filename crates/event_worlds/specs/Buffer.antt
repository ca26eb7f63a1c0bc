-- What a contract sees of the messages of a channel.
use Rattle.std.specs.Prelude.{ℕ, ◌≤◌, List, length}

-- how many there may be, and those there are, the oldest first
pub record Buffer : Type 0 where
  pub capacity : ℕ
  pub messages : List ℕ

-- what each buffer keeps: no more messages than there may be
pub record IsBuffer (buffer : Buffer) : Type 0 where
  pub fits : length buffer.messages ≤ buffer.capacity

-- The measures of loops over the messages of a receiver.
use Rattle.std.specs.Prelude.{ℕ}
use Rattle.std.specs.Sync.Forever.{forever_left}
use Rattle.event_channel.specs.declared.iter.Iter.{Iter}
use Rattle.event_channel.specs.declared.iter.TryIter.{TryIter}

abbrev pub iter_left : {T R : Type 0} → Iter T R → ℕ
iter_left s = forever_left s.turns

abbrev pub try_iter_left : {T R : Type 0} → TryIter T R → ℕ
try_iter_left s = forever_left s.turns

use Rattle.std.proofs.Common.{◌≡◌, drop}
use Rattle.event_listener.specs.recording.Replay.{empty_shape, replay_from}
use Rattle.event_listener.proofs.recorded.replay.replays.Given as goal

abbrev pub invariant-loop-entry : goal.invariant-loop-entry
invariant-loop-entry g l =
    replay_from g.T.PartialEq.eq empty_shape l.entries ≡ replay_from g.T.PartialEq.eq l.queue (drop l.entry-index l.entries)

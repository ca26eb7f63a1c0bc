use Rattle.std.proofs.Common.{◌≡◌, ◌+◌}
use Rattle.event_queue.proofs.NotifyLemmas.{ToldSoFar}
use Rattle.event_queue.proofs.list.List.notify_by.Given as goal

abbrev pub invariant-loop-told : goal.invariant-loop-told
invariant-loop-told g l = record {
  told : ToldSoFar g.N.Notification.tag_gives g.N.Notification.can_tag g.S.WakeSink.woke l.additional l.initial.self l.initial.n l.initial.sink l.told l.self l.n l.sink;
  visits : g.K.Count.visits l.steps ≡ g.K.Count.visits l.initial.steps + l.told;
  looks : g.K.Count.looks l.steps ≡ g.K.Count.looks l.initial.steps;
}

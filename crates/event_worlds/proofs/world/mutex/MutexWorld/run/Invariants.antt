use Rattle.std.proofs.Common.{◌≡◌, ◌+◌, ◌≤◌, drop}
use Rattle.event_worlds.specs.Mutex.{after_all, taken}
use Rattle.event_worlds.proofs.world.mutex.MutexWorld.run.Given as goal

-- what is left of the schedule leads to where all of it does, and has the steps that are not counted yet
abbrev pub invariant-loop-step : goal.invariant-loop-step
invariant-loop-step l = record {
  state : after_all (drop l.step-index l.steps) l.self ≡ after_all l.steps l.initial.self;
  counted : l.taken + taken (drop l.step-index l.steps) l.self ≡ taken l.steps l.initial.self;
  few : l.taken ≤ l.step-index;
}

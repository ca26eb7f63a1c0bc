use Rattle.std.proofs.Common.{rules, Some}
use Rattle.event_listener.proofs.recorded.step.StepCallMakesStep.make.Goals as goal

pub returns-in-Register-clause-is_step : goal.returns-in-Register-clause-is_step
returns-in-Register-clause-is_step g c = record { task = Some c.in-Register.task; step = Prim.search (rules) }

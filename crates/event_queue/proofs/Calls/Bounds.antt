-- How many visits a registration makes at most, whatever it answers.
use Rattle.std.proofs.Common.{◌≤◌, arith}
use Rattle.event_queue.specs.declared.reply.RegisterResult.{RegisterResult}
use Rattle.event_queue.specs.declared.reply.RegisterResult.TheVariants.{Notified, Registered, NeverInserted}
use Rattle.event_queue.specs.Visits.{visits_of_registration}

pub visits_of_registration-most : {T : Type 0} (answer : RegisterResult T) → visits_of_registration answer ≤ 3
visits_of_registration-most (Notified tag) = omega arith
visits_of_registration-most Registered = omega arith
visits_of_registration-most NeverInserted = omega arith

use Rattle.event_history.proofs.LawsUntil.{told_run, told_stands, told_at_call, told_at_look}
use Rattle.event_history.proofs.laws.told_until_own_call.Goals as goal

pub returns-clause-run : goal.returns-clause-run
returns-clause-run g c = told_run

pub returns-clause-stands : goal.returns-clause-stands
returns-clause-stands g c = told_stands

pub returns-clause-called : goal.returns-clause-called
returns-clause-called g c = told_at_call

pub returns-clause-looked : goal.returns-clause-looked
returns-clause-looked g c = told_at_look

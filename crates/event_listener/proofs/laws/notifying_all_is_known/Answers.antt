use Rattle.std.proofs.Common.{◌≢◌}
use Rattle.std.specs.Bool.{⊤}
use Rattle.event_listener.specs.Heard.{AllNotified}
use Rattle.event_listener.proofs.HeardLemmas.{notified, notified_on, knows_joined, knows_forked, knows_kept, knows_before, removed, removed_by, polled, waited}
use Rattle.event_wait.specs.declared.lock.limit.Limit.TheVariants.{Never}
use Rattle.event_listener.proofs.laws.notifying_all_is_known.Goals as goal

pub returns-clause-notified : goal.returns-clause-notified
returns-clause-notified g c = notified

pub returns-clause-joined : goal.returns-clause-joined
returns-clause-joined g c = knows_joined AllNotified notified_on

pub returns-clause-forked : goal.returns-clause-forked
returns-clause-forked g c = knows_forked AllNotified notified_on

pub returns-clause-kept : goal.returns-clause-kept
returns-clause-kept g c = knows_kept AllNotified notified_on

pub returns-clause-before_a_call : goal.returns-clause-before_a_call
returns-clause-before_a_call g c = knows_before AllNotified notified_on

pub returns-clause-removed : goal.returns-clause-removed
returns-clause-removed g c = removed c.told_by_another.ensures.removed

pub returns-clause-removed_by : goal.returns-clause-removed_by
returns-clause-removed_by g c = removed_by c.told_by_another.ensures.removed

pub returns-clause-polled : goal.returns-clause-polled
returns-clause-polled g c = polled c.told_by_another.ensures.registered

pub returns-clause-waited : goal.returns-clause-waited
returns-clause-waited g c = λ key its. waited c.told_by_another.ensures.registered key its ⊤

pub returns-clause-waited_until : goal.returns-clause-waited_until
returns-clause-waited_until g c = λ key its limit. waited c.told_by_another.ensures.registered key its (limit ≢ Never)

use Rattle.event_listener.proofs.recording.RunLemmas.{run_replays, replayed_is_run}
use Rattle.event_listener.proofs.recorded.laws.replays_exactly_the_runs.Goals as goal

pub returns-clause-run_replays : goal.returns-clause-run_replays
returns-clause-run_replays g c = run_replays g.T.PartialEq.eq

pub returns-clause-replayed_is_run : goal.returns-clause-replayed_is_run
returns-clause-replayed_is_run g c = replayed_is_run g.T.PartialEq.eq

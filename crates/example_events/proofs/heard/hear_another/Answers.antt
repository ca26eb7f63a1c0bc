use Rattle.std.proofs.Common.{rules}
use Rattle.example_events.proofs.heard.hear_another.Goals as goal

pub returns : goal.returns
returns g c =
    let listened = c.listening_is_known.ensures.listened _ _ _ c.in_ok-listener.ensures.listens in
    let observed = c.listening_is_known.ensures.joined _ _ _ _ c.observe.ensures.looks listened in
    let forked = c.listening_is_known.ensures.forked _ _ _ c.in_ok-other.ensures.told.0 observed in
    let notified = c.notifying_all_is_known.ensures.notified _ _ _ c.join-other.ensures.second.1 forked in
    let heard = c.notifying_all_is_known.ensures.joined _ _ _ _ c.join.ensures.looks notified in
    c.notifying_all_is_known.ensures.removed _ _ _ c.join.new.self (search rules) (c.join.ensures.owns (search rules)) heard (c.discard.ensures.removed (search rules))

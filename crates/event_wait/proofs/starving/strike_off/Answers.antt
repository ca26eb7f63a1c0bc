use Rattle.std.proofs.Common.{rules, not}
use Rattle.std.proofs.lemmas.Fn.{filter_same}
use Rattle.event_queue.specs.Key.{is_key}
use Rattle.event_wait.specs.Starving.{Starving}
use Rattle.event_wait.proofs.starving.strike_off.Goals as goal

pub returns : goal.returns
returns c =
    filter_same _ (λ (one : Starving). not (is_key c.args.key one.0)) _ (λ x b f' called. search rules) _ _ c.retain.ensures.filtered

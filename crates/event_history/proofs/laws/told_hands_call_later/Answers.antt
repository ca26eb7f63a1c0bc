use Rattle.std.proofs.Common.{◌∙◌, append_assoc, ◌∷◌, ◌++◌, []}
use Rattle.event_history.specs.History.{entry, met_of}
use Rattle.event_history.proofs.HandLemmas.{begins_last}
use Rattle.event_history.proofs.laws.told_hands_call_later.Goals as goal

pub returns-clause-seen : goal.returns-clause-seen
returns-clause-seen g c = λ start v w call x. let l = x.2 in (l.between ++ entry l.number call ∷ [], l.seen ∙ append_assoc v.seen l.between _)

pub returns-clause-took_in : goal.returns-clause-took_in
returns-clause-took_in g c = λ start v other w l. begins_last w.seen l.others w.met (met_of other) v.met l.idle.2 l.met

pub returns-clause-later : goal.returns-clause-later
returns-clause-later g c = λ start v w call x. let l = x.2 in (l.between, l.number, l.seen)

use Rattle.std.proofs.Common.{◌∷◌, [], Ok, rules, refl, false}
use Rattle.event_history.proofs.RestsOnLemmas.{all_front}
use Rattle.event_history.specs.declared.queue_call.QueueCall.TheVariants.{Insert, Remove}
use Rattle.event_listener.proofs.listener.place.PlaceRequestListTask.leave.Goals as goal

pub returns-in-Some-Notified-clause-goes : goal.returns-in-Some-Notified-clause-goes
returns-in-Some-Notified-clause-goes g c =
    let r = c.remove_uncounted in
    (Remove c.args.self.now.key false r.result, (r.result, (c.in-Some-Notified.field-0-0, Prim.search (rules)), refl), λ mine among. (among, all_front (Insert (Ok c.args.self.now.key) ∷ []) mine (Remove c.args.self.now.key false r.result ∷ []) among), (r.ensures.step, r.ensures.queue))

pub returns-in-Some-Created-clause-goes : goal.returns-in-Some-Created-clause-goes
returns-in-Some-Created-clause-goes g c =
    let r = c.remove_uncounted in
    (Remove c.args.self.now.key false r.result, (r.result, Prim.search (rules), refl), λ mine among. (among, all_front (Insert (Ok c.args.self.now.key) ∷ []) mine (Remove c.args.self.now.key false r.result ∷ []) among), (r.ensures.step, r.ensures.queue))

pub returns-clause-goes : goal.returns-clause-goes
returns-clause-goes g c =
    let r = c.remove_uncounted in
    (Remove c.args.self.now.key false r.result, (r.result, Prim.search (rules), refl), λ mine among. (among, all_front (Insert (Ok c.args.self.now.key) ∷ []) mine (Remove c.args.self.now.key false r.result ∷ []) among), (r.ensures.step, r.ensures.queue))

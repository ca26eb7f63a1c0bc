use Rattle.std.proofs.Common.{◌∷◌, [], Ok, rules, refl}
use Rattle.event_queue.specs.declared.reply.RegisterResult.TheVariants as register
use Rattle.event_history.specs.declared.queue_call.QueueCall.TheVariants.{Insert, Register}
use Rattle.event_history.proofs.RestsOnLemmas.{all_front}
use Rattle.event_listener.proofs.listener.place.PlaceRequestListTask.attempt_or_wait.Goals as goal

pub returns-in-Registered-clause-goes : goal.returns-in-Registered-clause-goes
returns-in-Registered-clause-goes g c =
    (Register c.args.self.now.key register.Registered, refl, (λ mine among. (among, all_front (Insert (Ok c.args.self.now.key) ∷ []) mine (Register c.args.self.now.key register.Registered ∷ []) among)), search rules)

pub returns-in-Notified-clause-goes : goal.returns-in-Notified-clause-goes
returns-in-Notified-clause-goes g c =
    (Register c.args.self.now.key (register.Notified c.in-Notified.tag), refl, (λ mine among. (among, all_front (Insert (Ok c.args.self.now.key) ∷ []) mine (Register c.args.self.now.key (register.Notified c.in-Notified.tag) ∷ []) among)), search rules)

pub returns-in-NeverInserted-clause-goes : goal.returns-in-NeverInserted-clause-goes
returns-in-NeverInserted-clause-goes g c =
    (Register c.args.self.now.key register.NeverInserted, refl, (λ mine among. (among, all_front (Insert (Ok c.args.self.now.key) ∷ []) mine (Register c.args.self.now.key register.NeverInserted ∷ []) among)), search rules)

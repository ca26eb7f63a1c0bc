use Rattle.std.proofs.Common.{◌≡◌, rules}
use Rattle.event_channel.proofs.HandLemmas.{ends_refused, ends_sent, ends_unsent}
use Rattle.event_channel.proofs.sender.Sender.send_until.Goals as goal

pub returns-in-Ok-Some-Ok-clause-calls : goal.returns-in-Ok-Some-Ok-clause-calls
returns-in-Ok-Some-Ok-clause-calls g c never =
    let h = c.in-Ok-Some-Ok in
    let same : c.deref.result.now.lock.start ≡ c.args.self.now.capacity = Prim.search (rules) in
    let was : c.args.hand.now ≡ c.hand.inside.hand = Prim.search (rules) in
    rw was (ends_sent c.args.self.now.capacity c.deref.result.now.lock.start same _ _ _ _ _ h.field-0-is h.field-0-0-is (h.ensures.calls c.args.message c.new-sending.ensures.message never))

pub returns-in-Ok-Some-Err-clause-calls : goal.returns-in-Ok-Some-Err-clause-calls
returns-in-Ok-Some-Err-clause-calls g c never =
    let h = c.in-Ok-Some-Err in
    let same : c.deref.result.now.lock.start ≡ c.args.self.now.capacity = Prim.search (rules) in
    let was : c.args.hand.now ≡ c.hand.inside.hand = Prim.search (rules) in
    rw was (ends_unsent c.args.self.now.capacity c.deref.result.now.lock.start same _ _ _ h.reason _ _ _ _ _ h.field-0-is h.field-0-0-is c.refuse.ensures.reason h.ensures.gets (h.ensures.calls c.args.message c.new-sending.ensures.message never))

pub returns-clause-calls : goal.returns-clause-calls
returns-clause-calls g c never =
    let same : c.deref.result.now.lock.start ≡ c.args.self.now.capacity = Prim.search (rules) in
    let was : c.args.hand.now ≡ c.hand.inside.hand = Prim.search (rules) in
    rw was (ends_refused c.args.self.now.capacity c.deref.result.now.lock.start same c.args.message c.in-Err.error _ _ _ _ c.refuse-in-Err.ensures.reason (c.in-Err.ensures.calls c.args.message c.new-sending.ensures.message never))

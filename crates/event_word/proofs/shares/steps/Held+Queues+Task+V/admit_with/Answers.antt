use Rattle.std.proofs.Common.{ℕ, subst}
use Rattle.event_slot.specs.Ruling.{Becomes}
use Rattle.event_word.specs.Queues.{Admits, counted_in}
use Rattle.event_word.proofs.shares.steps.Held+Queues+Task+V.admit_with.Goals as goal

pub new-requires : goal.new-requires
new-requires g c =
    let t = c.requires.admits in
    let k = c.turn-made.result.1.right in
    let became : Becomes 0 (counted_in c.args.seen) (counted_in c.word_with-new.result) k = subst (λ (r : ℕ). Becomes r (counted_in c.args.seen) (counted_in c.word_with-new.result) k) c.claim.ensures.2 (c.turn-made.ensures.made c.if-made.true).0 in
    (c.word_with-new.ensures.has k became t.1 (subst (λ (n : ℕ). Admits g.K.Right.COUNTS n t.1) t.4.0 t.4.1), c.turn-made.ensures.own.1)

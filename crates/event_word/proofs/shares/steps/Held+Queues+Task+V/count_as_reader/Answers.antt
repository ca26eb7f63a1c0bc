use Rattle.std.proofs.Common.{rules, ◌∙◌, ◌≡◌, ◌+◌, ◌%◌, ◌-◌, ◌<◌, ◌≤◌, ◌*◌, ℕ, Bool, Some, refl, ap, ne_eqb, arith}
use Rattle.std.specs.Prelude.{if◌then◌else◌}
use mathlib.Core.Logic.{dite}
use native.Mathlib.Decide.{ℕ_discrete}
use Rattle.event_word.specs.Count.{IsCount, active_readers_of, counted, writers_of}
use Rattle.event_word.specs.Queues.{CountsOne}
use Rattle.event_word.specs.Word.{number_of}
use Rattle.event_word.proofs.QueuesLemmas.{since}
use Rattle.event_word.proofs.shares.steps.Held+Queues+Task+V.count_as_reader.Goals as goal

-- the word counts a reader in the place of its writer
counts_on : (w : ℕ) → IsCount (number_of w) → 4 ≤ w % 8 → number_of (w - 4 + 8) ≡ number_of w + writers_of (number_of w)
counts_on w fits high =
    let some : 0 < writers_of (number_of w) = omega (arith, high) in
    let nobody = fits.alone some in
    omega (arith, high, nobody, fits.one)

-- the writer finds that the word counts it
written : (w : ℕ) → CountsOne 2 w → 4 ≤ w % 8
written w h = dite (ℕ_discrete (number_of w % 2) 1) (λ odd. omega (arith, odd)) (λ even.
    let free : counted (number_of w) ≡ 1 + 4 * active_readers_of (number_of w) = ap (λ (b : Bool). if b then 3 else 1 + 4 * active_readers_of (number_of w)) (ne_eqb (number_of w % 2) 1 even) in
    absurd (omega (arith, h.0.1 refl, free)))

pub loop-preserved : goal.loop-preserved
loop-preserved g c = (search rules, search rules, search rules, search rules, since _ _ _ c.loop.invariant.4 (record { others = _; eases = c.look_alone_holding-seen.ensures.eases; made = search rules }))

pub returns-then-made-clause-counts : goal.returns-then-made-clause-counts
returns-then-made-clause-counts g c = since _ _ _ c.loop.invariant.4 (record { others = _; eases = c.look_alone_holding-seen.ensures.eases; made = (c.turn-made.ensures.made c.if-made.true).1 ∙ ap (λ (m : ℕ). Some m) (counts_on c.look_alone_holding-seen.result.0 c.look_alone_holding-seen.ensures.word.1.1 (written c.look_alone_holding-seen.result.0 c.look_alone_holding-seen.ensures.word.1)) })

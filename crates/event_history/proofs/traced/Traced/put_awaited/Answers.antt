use Rattle.std.proofs.Common.{rules, eqb, sym, subst}
use prog.Atomic.{either}
use Rattle.event_slot.specs.Ruling.{MayTrade}
use Rattle.event_history.specs.History.{machine_from, machine_of}
use Rattle.event_history.specs.Rule.{Kept, put_awaited}
use Rattle.event_history.proofs.Keeps.{puts_awaited}
use Rattle.event_history.proofs.traced.Traced.put_awaited.Goals as goal

pub exchange-claim-requires-clause-keeps : goal.exchange-claim-requires-clause-keeps
exchange-claim-requires-clause-keeps g c =
    let s = c.requires.step in
    let mark = c.args.mark.now in
    let out = c.args.claim.state in (
      search rules,
      subst (λ key. MayTrade (Kept (machine_of g.S.Steps key)) mark.id mark.view out (λ n. either (eqb n 2) 0 n) (put_awaited (machine_from g.S.Steps g.B.Begins.begins) g.K.Made.made 2 0 mark.view out)) (sym c.requires.claim.1)
          (puts_awaited (machine_of g.S.Steps c.args.self.now.slot.key) g.B.Begins.begins c.requires.begins g.K.Made.made mark.id mark.view s.1 s.2 s.0 s.3 s.4 s.6 s.7 s.8 c.requires.owes out s.5),
    )

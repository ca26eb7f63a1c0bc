use Rattle.event_history.proofs.traced.Traced.give_back.Given as goal

abbrev pub ghosts-put_back : goal.ghosts-put_back
ghosts-put_back g a = record { begins = g.S.Steps.starts a.self.now.slot.key }

abbrev pub ghosts-put_awaited : goal.ghosts-put_awaited
ghosts-put_awaited g a = record { begins = g.S.Steps.starts a.self.now.slot.key }

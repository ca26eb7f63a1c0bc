use Rattle.event_history.proofs.traced.Traced.join.Given as goal

abbrev pub ghosts-look : goal.ghosts-look
ghosts-look g a = record { begins = g.S.Steps.starts a.self.now.slot.key }

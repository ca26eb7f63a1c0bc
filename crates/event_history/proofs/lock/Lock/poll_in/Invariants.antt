use Rattle.event_history.proofs.lock.Lock.poll_in.Given as goal

abbrev pub ghosts-attempt_named : goal.ghosts-attempt_named
ghosts-attempt_named g a = record { named = g.Q.Request.attempting a.request.now }

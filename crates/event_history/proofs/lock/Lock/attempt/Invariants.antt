use Rattle.event_history.proofs.lock.Lock.attempt.Given as goal

abbrev pub ghosts-try_named : goal.ghosts-try_named
ghosts-try_named g a = record { named = g.Q.Attempt.trying a.request.now }

use Rattle.event_history.proofs.lock.by_hand.LockWaitableByHand.attempt_or_wait.Given as goal

abbrev pub ghosts-attempt_named : goal.ghosts-attempt_named
ghosts-attempt_named g a = record { named = g.Q.Request.attempting a.request.now }

use Rattle.event_history.proofs.lock.by_hand.LockWaitableByHand.leave.Given as goal

abbrev pub ghosts-leave_named : goal.ghosts-leave_named
ghosts-leave_named g a = record { named = g.Q.Request.leaving a.request.now }

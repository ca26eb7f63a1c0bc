use Rattle.event_history.proofs.lock.Lock.give_up.Given as goal

abbrev pub ghosts-give_up_named : goal.ghosts-give_up_named
ghosts-give_up_named g a = record { named = λ answer. g.Q.Attempt.giving_up a.request.now }

use Rattle.example_events.proofs.queue.counted.leave_counted.Given as goal

abbrev pub ghosts-leave_from : goal.ghosts-leave_from
ghosts-leave_from a = record { name = a.blank.name; parts = a.blank.parts }

use Rattle.example_events.proofs.queue.counted.admit_counted.Given as goal

abbrev pub ghosts-admit_from : goal.ghosts-admit_from
ghosts-admit_from a = record { name = a.blank.name; parts = a.blank.parts }

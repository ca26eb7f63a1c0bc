use Rattle.std.specs.Prelude.{◌≡◌}
use Rattle.event_history.proofs.traced.Traced.end.Given as goal

abbrev pub ghosts-give_back : goal.ghosts-give_back
ghosts-give_back g a = record { made = λ call. call ≡ g.K.Step.call a.maker.now.value a.answer.now }

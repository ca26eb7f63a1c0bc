use Rattle.std.specs.Prelude.{[], ◌∷◌, ◌++◌}
use Rattle.event_history.proofs.lock.Lock.attempt_named.Given as goal

abbrev pub ghosts-give_back : goal.ghosts-give_back
ghosts-give_back g a = record { made = λ call. g.N.Named.named a.answer.now call × g.Q.Request.follows a.maker.now (a.mark.now.view.mine ++ call ∷ []) }

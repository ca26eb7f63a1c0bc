-- What a client has after it tried twice.
use Rattle.std.specs.Prelude.{⊤}
use Rattle.std.specs.declared.clone.Clone.{Ghosts}
use Rattle.example_events.specs.declared.locks.contended.Turn.{Turn}
use Rattle.example_events.specs.declared.locks.contended.Turn.TheVariants.{Holds, Waits}

-- if it took something, that is so
abbrev pub IfHolds : {V R : Type 0} → {clones : Ghosts R} → Turn V R clones → (V → Type 0) → Type 0
IfHolds (Holds held) P = P held.taken
IfHolds (Waits waiting) P = ⊤

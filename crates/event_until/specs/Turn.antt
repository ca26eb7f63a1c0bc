-- What came of an attempt that was made while a listener was in the queue.
use Rattle.std.specs.Prelude.{⊤}
use Rattle.event_until.specs.declared.until.turn.Turn.{Turn}
use Rattle.event_until.specs.declared.until.turn.Turn.TheVariants.{Succeeded, Listens}

-- if it left a listener, that has this property
abbrev pub IfListens : {T L : Type 0} → Turn T L → (L → Type 0) → Type 0
IfListens (Succeeded output) P = ⊤
IfListens (Listens listener) P = P listener

-- one attempt succeeded, or failed and left a listener
abbrev pub Attempted : {S T L : Type 0} → (S → S → Type 0) → (S → T → S → Type 0) → S → Turn T L → S → Type 0
Attempted fails succeeds before (Succeeded output) after = succeeds before output after
Attempted fails succeeds before (Listens listener) after = fails before after

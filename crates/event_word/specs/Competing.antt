-- The rules of a lock whose number counts what is free for those that compete.
use Rattle.std.specs.Prelude.{ℕ, Bool, if◌then◌else◌}
use Rattle.event_word.specs.Free.{unshut_of, NobodyIsOwed, ServesTheStarving, StandsIf, TellsNewcomers}
use Rattle.event_word.specs.Rules.{Rules}
use Rattle.event_word.specs.declared.competing.Competing.{Competing}

-- Of the number, without what shuts newcomers out, the first holds at any time, and the second says whether one has the right to the value. The third says whether it may be closed, and the fourth whether more than one may be free at a time.
abbrev pub rules_of : {C : Type 0} → (ℕ → Type 0) → (ℕ → Bool) → Bool → Bool → Rules (Competing C)
rules_of fits taken closes many = record {
  fits = λ number. fits (unshut_of number);
  stands = λ number state. StandsIf closes number state.line;
  quiet = λ state. NobodyIsOwed many state.line;
  promised = λ number state. ServesTheStarving number state.line;
  tells = λ number state. TellsNewcomers closes number state.line;
  counts = λ number. if taken (unshut_of number) then 3 else 0;
}

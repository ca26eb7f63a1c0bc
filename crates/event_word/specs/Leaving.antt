-- How one goes who has the value of a read-write lock.
use Rattle.std.specs.Prelude.{ℕ}
use Rattle.event_word.specs.declared.shares.number.Leaving.{Leaving}
use Rattle.event_word.specs.declared.shares.number.Leaving.TheVariants.{Going, Taking}

-- what holds of the word that one leaves who goes, if nobody is to be let in by that
abbrev pub IfGoing : Leaving → (ℕ → Type 0) → Type 0
IfGoing (Going new) P = P new
IfGoing (Taking new) P = Unit {0}

-- what holds of it if the queues are taken out
abbrev pub IfTaking : Leaving → (ℕ → Type 0) → Type 0
IfTaking (Going new) P = Unit {0}
IfTaking (Taking new) P = P new

-- the word that one leaves who goes
abbrev pub becomes : Leaving → ℕ
becomes (Going new) = new
becomes (Taking new) = new

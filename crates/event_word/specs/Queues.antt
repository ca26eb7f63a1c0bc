-- The queues of a read-write lock, and what holds of them and of the number that counts who has the value.
use Rattle.std.specs.Prelude.{◌≡◌, ℕ, zero, suc, ◌+◌, ◌%◌, ◌<◌, ◌≤◌, ◌^◌, ◌⊎◌, ◌↔◌, IsTrue, IsFalse, Option, Some, None, Result, Ok, Err, length}
use Rattle.event_queue.specs.declared.key.Key.{Key}
use Rattle.event_queue.specs.declared.reply.ListenError.{ListenError}
use Rattle.event_queue.specs.Insert.{Inserts}
use Rattle.event_queue.specs.Queue.{listeners_of}
use Rattle.event_wait.specs.declared.lock.task.Task.{Task}
use Rattle.event_word.specs.Count.{IsCount, counted, readers_of, writers_of}
use Rattle.event_wait.specs.Line.{HandsOut}
use Rattle.event_word.specs.Rules.{Rules}
use Rattle.event_word.specs.declared.word.rule.View.{View}
use Rattle.event_word.specs.Word.{Changes, EasesFrom, Passes, Shows, Takes, counts_of}
use Rattle.event_wait.specs.declared.error.LockError.{LockError}
use Rattle.event_wait.specs.declared.error.LockError.TheVariants.{Listen, Memory, TooManyReaders, Finished}
use Rattle.event_word.specs.declared.shares.queues.Queues.{Queues}
use Rattle.event_word.specs.declared.shares.queues.Next.{Next}
use Rattle.event_word.specs.declared.shares.queues.Next.TheVariants.{Nobody, Readers, Writer}

-- what that wait in a queue led to
abbrev pub joined_by : Result Key ListenError → Result Key LockError
joined_by (Ok key) = Ok key
joined_by (Err error) = Err (Listen error)

module _ {W : Type 0} where
  -- the readers and the writers that have the value or were let in
  abbrev pub reading : ℕ → Queues W → ℕ
  reading n q = readers_of n + length q.read_line.told

  abbrev pub writing : ℕ → Queues W → ℕ
  writing n q = writers_of n + length q.write_line.told

  -- a writer has the value, was let in or waits; none does
  abbrev pub IsAWriterThere : ℕ → Queues W → Type 0
  IsAWriterThere n q = 0 < writing n q + length q.write_line.waiting

  abbrev pub NoWriterIsThere : ℕ → Queues W → Type 0
  NoWriterIsThere n q = writing n q + length q.write_line.waiting ≡ 0

  -- nobody has the value or was let in
  abbrev pub NobodyIsIn : ℕ → Queues W → Type 0
  NobodyIsIn n q = reading n q + writing n q ≡ 0

  -- a reader or a writer waits
  abbrev pub SomebodyWaits : Queues W → Type 0
  SomebodyWaits q = 0 < length q.read_line.waiting + length q.write_line.waiting

  -- one reader is in, no other one was let in, and no writer waits
  pub record MayUpgrade (n : ℕ) (q : Queues W) : Type 0 where
    pub alone : n ≡ 2
    pub nobody : length q.read_line.told ≡ 0
    pub no_writer : length q.write_line.waiting ≡ 0

  -- nobody waits, and nobody was let in who has not come yet
  abbrev pub IsQuiet : Queues W → Type 0
  IsQuiet q = listeners_of q.read_line + listeners_of q.write_line ≡ 0

  -- all that read or wait to read are as many as can be counted, with one more and a writer
  abbrev pub HasNoRoom : ℕ → Queues W → Type 0
  HasNoRoom n q = 2 ^ 29 ≤ reading n q + length q.read_line.waiting + 2

  -- why a reader was refused: it could not be put into the queue, or no reader more can be counted
  abbrev pub RefusesReader : LockError → ℕ → Queues W → Queues W → Type 0
  RefusesReader (Listen error) n old new = Inserts old.read_line (Err error) new.read_line
  RefusesReader (Memory error) n old new = ⊥
  RefusesReader TooManyReaders n old new = HasNoRoom n old
  RefusesReader Finished n old new = ⊥

  -- who writes is alone, where so many have come to read and so many to write
  pub record AreExclusive (readers writers : ℕ) (q : Queues W) : Type 0 where
    -- one writer, or readers
    pub exclusive : 0 < readers + length q.read_line.told → writers + length q.write_line.told ≡ 0
    pub one : writers + length q.write_line.told ≤ 1
    -- all that read or wait to read can be counted, and all that wait to read beside a writer who reads from here on
    pub fits : readers + length q.read_line.told + length q.read_line.waiting < 2 ^ 29
    pub spare : length q.read_line.waiting + 1 < 2 ^ 29

  -- who writes is alone, where this number counts those that have come
  abbrev pub IsExclusive : ℕ → Queues W → Type 0
  IsExclusive n q = AreExclusive (readers_of n) (writers_of n) q

  -- who writes is alone, and nobody waits for nothing
  pub record NobodyWaitsInVain (n : ℕ) (q : Queues W) : Type 0 where
    pub alone : IsExclusive n q
    -- a reader waits only if a writer writes or waits, and a writer only if somebody has the value
    pub reader_waits : 0 < length q.read_line.waiting → IsAWriterThere n q
    pub writer_waits : 0 < length q.write_line.waiting → 0 < reading n q + writing n q
    -- the readers go first after a writer, and a writer after readers
    pub turns : SomebodyWaits q → IsTrue q.readers_first ↔ (0 < writing n q)

  -- so many more may be counted, readers or a writer: they were let in, and have left their queue
  abbrev pub Admits : ℕ → ℕ → Queues W → Type 0
  Admits more n q = AreExclusive (readers_of n + readers_of more) (writers_of n + writers_of more) q

  -- readers and turn are as they were; writers and turn are
  abbrev pub ReadersStay : Queues W → Queues W → Type 0
  ReadersStay old new = (new.read_line ≡ old.read_line) × (new.readers_first ≡ old.readers_first)

  abbrev pub WritersStay : Queues W → Queues W → Type 0
  WritersStay old new = (new.write_line ≡ old.write_line) × (new.readers_first ≡ old.readers_first)

  -- who is let in next: nobody while a writer is in, or while readers are and a writer waits; all readers that wait, if no
  -- writer is in or waits, or if the readers go first and nobody is in; else the first writer
  abbrev pub IsNext : Next → ℕ → Queues W → Type 0
  IsNext Nobody n q = (0 < writing n q) ⊎ ((0 < reading n q) × (0 < length q.write_line.waiting))
  IsNext Readers n q = NoWriterIsThere n q ⊎ (NobodyIsIn n q × IsTrue q.readers_first × (0 < length q.read_line.waiting))
  IsNext Writer n q =
      NobodyIsIn n q × (0 < length q.write_line.waiting) × (IsFalse q.readers_first ⊎ (length q.read_line.waiting ≡ 0))

  -- what a read-write lock says of its number and its queues
  abbrev pub lock_rules : Rules (Queues W)
  lock_rules = record {
    fits = IsCount;
    stands = NobodyWaitsInVain;
    quiet = IsQuiet;
    promised = IsExclusive;
    tells = λ _ _. Unit {0};
    counts = counted;
  }

  module _ {S : Type 0} (woke : S → W → S → Type 0) where
    -- nobody was let in
    abbrev pub LetsNobodyIn : Queues W → Queues W → S → S → Type 0
    LetsNobodyIn old new sink sink' = (new.read_line ≡ old.read_line) × (new.write_line ≡ old.write_line) × (sink' ≡ sink)

    -- all readers that waited were let in, and nobody else
    abbrev pub LetsReadersIn : Queues W → Queues W → S → S → Type 0
    LetsReadersIn old new sink sink' =
        HandsOut woke (length old.read_line.waiting) old.read_line new.read_line sink sink' × (new.write_line ≡ old.write_line)

    -- the first writer that waited was let in, and nobody else
    abbrev pub LetsAWriterIn : Queues W → Queues W → S → S → Type 0
    LetsAWriterIn old new sink sink' =
        HandsOut woke 1 old.write_line new.write_line sink sink' × (new.read_line ≡ old.read_line)

    -- those were let in who are next
    pub record LetsNextIn (n : ℕ) (old new : Queues W) (sink sink' : S) : Type 0 where
      -- nobody, while a writer has the value or was let in, and while readers are and a writer waits
      pub written : 0 < writing n old → LetsNobodyIn old new sink sink'
      pub behind : 0 < reading n old → 0 < length old.write_line.waiting → LetsNobodyIn old new sink sink'
      -- all readers that wait, where no writer has the value, was let in or waits
      pub readers : NoWriterIsThere n old → LetsReadersIn old new sink sink'
      -- where nobody has the value: the readers after a writer, a writer after readers, and whoever waits if the others do not
      pub after_a_writer : NobodyIsIn n old → IsTrue old.readers_first → 0 < length old.read_line.waiting → LetsReadersIn old new sink sink'
      pub after_readers : NobodyIsIn n old → IsFalse old.readers_first → 0 < length old.write_line.waiting → LetsAWriterIn old new sink sink'
      pub else_a_writer : NobodyIsIn n old → length old.read_line.waiting ≡ 0 → 0 < length old.write_line.waiting → LetsAWriterIn old new sink sink'

-- who has the value by this word, as a slot counts it
abbrev pub counted_in : ℕ → ℕ
counted_in w = counts_of (lock_rules {W = Task}) w

-- the word may become this one, which counts others, and nobody is to be let in by that; one who has this right has the other then
pub record Recounts (right left : ℕ) (old new : ℕ) : Type 0 where
  pub changes : Changes (lock_rules {W = Task}) old new
  pub passes : Passes (lock_rules {W = Task}) right left old new

-- the word counts a holder with this right
abbrev pub CountsOne : ℕ → ℕ → Type 0
CountsOne right word = Shows (lock_rules {W = Task}) right word

-- the same by a step that takes the queues out
pub record RecountsAndTakes (right left : ℕ) (old new : ℕ) : Type 0 where
  pub home : old % 2 ≡ 0
  pub away : new % 4 ≡ 1
  pub takes : Takes (lock_rules {W = Task}) old new
  pub passes : Passes (lock_rules {W = Task}) right left old new

-- whoever has the queues made this of the number to which others had brought it meanwhile
pub record Renumbers (by : ℕ → ℕ) (before after : View) : Type 0 where
  pub others : ℕ
  pub eases : EasesFrom (lock_rules {W = Task}) before.number others
  pub made : after.number ≡ Some (by others)

-- how many were given
abbrev pub given : {G : Type 0} → Option G → ℕ
given None = 0
given (Some grant) = 1

-- so much if there is any, else nothing
abbrev pub if_any : ℕ → ℕ → ℕ
if_any zero n = 0
if_any (suc m) n = n

-- it counts so many more
abbrev pub CountsMore : ℕ → View → View → Type 0
CountsMore more before after = Renumbers (λ n. n + more) before after

-- it counts a reader in place of the writer, if there was one
abbrev pub CountsAsReader : View → View → Type 0
CountsAsReader before after = Renumbers (λ n. n + writers_of n) before after

-- it counts a writer in place of the only reader
pub record CountsAsWriter (before after : View) : Type 0 where
  pub eases : EasesFrom (lock_rules {W = Task}) before.number 2
  pub made : after.number ≡ Some 1

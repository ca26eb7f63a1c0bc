-- What an error is where another kind of error is asked for.
use Rattle.std.specs.Prelude.{◌≡◌}
use Rattle.std.specs.declared.alloc.AllocError.{AllocError}
use Rattle.event_queue.specs.declared.reply.ListenError.{ListenError}
use Rattle.event_wait.specs.declared.lock.wait.Refused.{Refused}
use Rattle.event_wait.specs.declared.lock.wait.Refused.TheVariants.{Memory as NoParker, Request}
use Rattle.event_wait.specs.declared.error.LockError.{LockError}
use Rattle.event_wait.specs.declared.error.LockError.TheVariants.{Listen as LockListen, Memory as LockMemory, Finished as LockFinished}
use Rattle.event_monitor.specs.declared.error.WaitError.{WaitError}
use Rattle.event_monitor.specs.declared.error.WaitError.TheVariants.{Listen as WaitListen, Memory as WaitMemory}
use Rattle.event_monitor.specs.declared.error.PollError.{PollError}
use Rattle.event_monitor.specs.declared.error.PollError.TheVariants.{Listen as PollListen, Finished as PollFinished}
use Rattle.event_monitor.specs.declared.error.BlockError.{BlockError}
use Rattle.event_monitor.specs.declared.error.BlockError.TheVariants.{Listen as BlockListen, Memory as BlockMemory, Finished as BlockFinished}

-- why a thread could not wait
abbrev pub IsWhy : Refused ListenError → WaitError → Type 0
IsWhy NoParker error = (refused : AllocError) × (error ≡ WaitMemory refused)
IsWhy (Request reason) error = error ≡ WaitListen reason

abbrev pub block_error : WaitError → BlockError
block_error (WaitListen reason) = BlockListen reason
block_error (WaitMemory reason) = BlockMemory reason

-- the same as errors of a lock
abbrev pub of_wait : WaitError → LockError
of_wait (WaitListen reason) = LockListen reason
of_wait (WaitMemory reason) = LockMemory reason

abbrev pub of_poll : PollError → LockError
of_poll (PollListen reason) = LockListen reason
of_poll PollFinished = LockFinished

abbrev pub of_block : BlockError → LockError
of_block (BlockListen reason) = LockListen reason
of_block (BlockMemory reason) = LockMemory reason
of_block BlockFinished = LockFinished

-- Which reasons a send can give.
use Rattle.event_channel.specs.declared.error.SendReason.{SendReason}
use Rattle.event_channel.specs.declared.error.SendReason.TheVariants.{Closed, Full, TimedOut, Memory, WaitFailed}

-- why a message is not sent: the channel is closed, or there is no memory; beside these it can be full, or have been so for
-- too long, or a wait can be refused, only where that is said
abbrev pub Unsent : Type 0 → Type 0 → Type 0 → SendReason → Type 0
Unsent full late refused Closed = Unit {0}
Unsent full late refused Full = full
Unsent full late refused TimedOut = late
Unsent full late refused Memory = Unit {0}
Unsent full late refused (WaitFailed error) = refused

-- by a call that makes room, by one that does not wait, by one that waits, and by one whose wait has a limit
abbrev pub IsUnsent : SendReason → Type 0
IsUnsent = Unsent ⊥ ⊥ ⊥

abbrev pub IsUnsentAtOnce : SendReason → Type 0
IsUnsentAtOnce = Unsent (Unit {0}) ⊥ ⊥

abbrev pub IsUnsentByWaiting : SendReason → Type 0
IsUnsentByWaiting = Unsent ⊥ ⊥ (Unit {0})

abbrev pub IsUnsentInTime : SendReason → Type 0
IsUnsentInTime = Unsent ⊥ (Unit {0}) (Unit {0})

-- What the semaphore world keeps in its type: each step of the table keeps it, and what `SemaphoreSafety` says
-- follows. No public clause cites this module.
use Rattle.std.specs.Prelude.{◌≡◌, ℕ, false, slice_get, IfSome}
use Rattle.event_worlds.specs.declared.world.semaphore.SemaphoreClient.{SemaphoreClient}
use Rattle.event_worlds.specs.Semaphore.{SemaphoreState}
use Rattle.event_worlds.specs.SemaphoreSafety.{places_of, all_owed, PermitsAddUp, NotifiesAdditional}
use Rattle.event_worlds.specs.Served.{is_inside, is_releasing, IsServed}

-- a client holds permits while it is inside alone, and owes notifications while it is releasing alone
pub record OwnFits (own : SemaphoreClient) : Type 0 where
  pub held : is_inside own.place ≡ false → own.held ≡ 0
  pub owed : is_releasing own.place ≡ false → own.owed ≡ 0

pub record IsSound (state : SemaphoreState) : Type 0 where
  pub served : IsServed state.free (all_owed state) (places_of state.clients) state.line
  pub added : PermitsAddUp state
  pub owns : (client : ℕ) → IfSome (slice_get state.clients client) OwnFits
  pub kind : NotifiesAdditional state

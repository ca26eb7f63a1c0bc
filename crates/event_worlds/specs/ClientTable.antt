-- The table of a client of a lock: where each news takes it from each place.
use Rattle.std.specs.Prelude.{Bool, true, false, Option, Some, None}
use Rattle.event_worlds.specs.declared.world.place.Place.{Place}
use Rattle.event_worlds.specs.declared.world.place.Place.TheVariants.{Idle, First, ToListen, Second, Ending, ToRegister, Parked, Holding, Releasing}
use Rattle.event_worlds.specs.declared.world.place.News.{News}
use Rattle.event_worlds.specs.declared.world.place.News.TheVariants.{Begin, Got, Busy, Listening, Refused, Told, Registered, Woke, TimedOut, Dropped, Freed, Notified}

-- the place of a client after this news; none where the news can't come at this place
abbrev pub place_after : Place → News → Option Place
place_after Idle Begin = Some (First false)
place_after (First woken) Got = Some Holding
place_after (First woken) Busy = Some ToListen
place_after ToListen Listening = Some Second
place_after ToListen Refused = Some Idle
place_after Second Got = Some Ending
place_after Second Busy = Some ToRegister
place_after Ending Dropped = Some Holding
place_after ToRegister Told = Some (First true)
place_after ToRegister Registered = Some Parked
place_after ToRegister Dropped = Some Idle
place_after Parked Woke = Some ToRegister
place_after Parked Told = Some (First true)
place_after Parked TimedOut = Some Idle
place_after Parked Dropped = Some Idle
place_after Holding Freed = Some Releasing
place_after Releasing Notified = Some Idle
place_after _ _ = None

-- a client at this place has a listener
abbrev pub is_listening : Place → Bool
is_listening Second = true
is_listening Ending = true
is_listening ToRegister = true
is_listening Parked = true
is_listening _ = false

-- a notification brought a client at this place to try
abbrev pub is_woken : Place → Bool
is_woken (First woken) = woken
is_woken _ = false

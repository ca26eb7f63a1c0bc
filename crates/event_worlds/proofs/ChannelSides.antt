-- Each step of the channel world's table keeps what both sides keep: that of the client who takes it, and the other.
use Rattle.std.proofs.Common.{◌≡◌, ℕ, ◌+◌, ◌-◌, ◌≤◌, Bool, true, false, cond, nat_lt, List, length, set, slice_get, Option, Some, None, IfSome, option_map, refl, sym, ap, ◌∙◌, subst, inl, arith}
use Rattle.std.proofs.lemmas.List.{map-set, length-map}
use Rattle.std.proofs.lemmas.Bool.{cond_both}
use Rattle.event_worlds.specs.declared.world.acts.Act.{Act}
use Rattle.event_worlds.specs.declared.world.acts.Act.TheVariants as act
use Rattle.event_worlds.specs.declared.world.acts.ChannelAct.{ChannelAct}
use Rattle.event_worlds.specs.declared.world.acts.ChannelAct.TheVariants.{Go, Send, Poll, TimeOut, Cancel}
use Rattle.event_worlds.specs.declared.world.channel.ChannelClient.{ChannelClient}
use Rattle.event_worlds.specs.declared.world.channel.Found.{Found}
use Rattle.event_worlds.specs.declared.world.channel.Found.TheVariants.{One, Nothing, Over}
use Rattle.event_worlds.specs.declared.world.place.Place.{Place}
use Rattle.event_worlds.specs.declared.world.place.Place.TheVariants.{Idle, First, ToListen, Second, Ending, ToRegister, Holding}
use Rattle.event_worlds.specs.ClientTable.{is_listening, is_woken}
use Rattle.event_worlds.specs.Line.{Line, notified, dropped}
use Rattle.event_worlds.specs.Served.{is_inside, is_parked, is_past_second, IsServed}
use Rattle.event_worlds.specs.Waiting.{waits}
use Rattle.event_worlds.specs.Channel.{Side, from, message_in, passed, looked, moved, paid}
use Rattle.event_worlds.specs.ChannelSafety.{place_of, places_of, all_owed}
use Rattle.event_worlds.specs.ChannelInvariant.{OwnFits, IsSideSound}
use Rattle.event_worlds.proofs.MadeLemmas.{each_some}
use Rattle.event_worlds.proofs.PlacedClients.{place-at, sum-set, all-set, all-at}
use Rattle.event_worlds.proofs.ServedSteps.{IsTry, first_try, second_try, served-owes, served-goes_on, served-gets, served-finds_none, served-waits, served-notified, Waited, waited}
use Rattle.event_worlds.proofs.StandingLemmas.{notified-flags, notified-kind}

-- how many may be taken now, and how many may be then
abbrev pub Lowers : (ℕ → Type 0) → (ℕ → Type 0) → Type 0
Lowers Then Now = (free : ℕ) → Then free → (had : ℕ) × Now had × (free ≤ had - 1)

-- what each result of a look says of those that may be taken, `Own` by the side whose client looks and `Far` by the
-- other, once that was passed
abbrev pub Says : (Option ℕ → ℕ → Type 0) → (Option ℕ → ℕ → Type 0) → Found → Type 0
Says Own Far (One message) =
    Lowers (Own (Some message)) (Own None) × ((free : ℕ) → Far (Some message) free → Far None (free - 1))
Says Own Far Nothing = (free : ℕ) → Own None free → free ≡ 0
Says Own Far Over = Lowers (Own None) (Own None)

module _ (Own Far : Option ℕ → ℕ → Type 0) (own_none : (message : Option ℕ) → Own message 0) (side far : Side) (client : ℕ) (own : ChannelClient) (at : slice_get side.clients client ≡ Some own) (sound : IsSideSound (Own None) (all_owed far) side) (far_sound : IsSideSound (Far None) (all_owed side) far) where
  fits : OwnFits own
  fits = all-at OwnFits side.clients client own at sound.owns

  abbrev places : List Place
  places = places_of side.clients

  at_place : slice_get places client ≡ Some own.place
  at_place = place-at place_of side.clients client own at

  abbrev after : ChannelClient × Line × Line → Side
  after to = record { clients = set side.clients client to.0; line = to.1 }

  abbrev far_after : ChannelClient × Line × Line → Side
  far_after to = record { clients = far.clients; line = to.2 }

  -- both sides are sound after the step, if that was passed
  abbrev pub Leads : Option ℕ → ChannelClient × Line × Line → Type 0
  Leads message to =
      IsSideSound (Own message) (all_owed far) (after to)
      × IsSideSound (Far message) (all_owed (after to)) (far_after to)

  -- the client and both lines have changed
  sides-go : (message : Option ℕ) (new : ChannelClient) (line other : Line) → ((free : ℕ) → Own message free → IsServed free (all_owed far) (set places client new.place) line) → ((free owed : ℕ) → Far message free → owed + own.owed ≡ all_owed side + new.owed → IsServed free owed (places_of far.clients) other) → OwnFits new → line.additional ≡ true → other.additional ≡ true → length other.awake ≡ length far.line.awake → Leads message (new, line, other)
  sides-go message new line other served far_served fits_new kind far_kind flags =
      let is = map-set place_of side.clients client new in (
        record {
          served = λ free may. subst (λ (ps : List Place). IsServed free (all_owed far) ps line) (sym is) (served free may);
          owns = all-set OwnFits side.clients client own new at sound.owns fits_new;
          flags =
              (served 0 (own_none message)).flags
              ∙ (ap length (sym is) ∙ length-map (set side.clients client new) place_of);
          kind = kind;
        },
        record {
          served =
              λ free may.
              far_served free (all_owed (after (new, line, other))) may (sum-set {C = ChannelClient} (λ c. c.owed) side.clients client own new at);
          owns = far_sound.owns;
          flags = flags ∙ far_sound.flags;
          kind = far_kind;
        },
      )

  -- the client goes, and owes what it did
  sides-move : (new : ChannelClient) (line : Line) → new.owed ≡ own.owed → (is_inside new.place ≡ false → own.owed ≡ 0) → ((free : ℕ) → Own None free → IsServed free (all_owed far) (set places client new.place) line) → line.additional ≡ true → Leads None (new, line, far.line)
  sides-move new line same still served kind =
      sides-go None new line far.line served (λ free owed may sum.
      served-owes free (all_owed side) free owed (places_of far.clients) far.line (omega arith) (far_sound.served free may)) (record {
        owed = λ outside. same ∙ still outside;
      }) kind far_sound.kind refl

  sides-waits : (act : Act) (to : Place × Line) → waits act own.place client side.line ≡ Some to → Leads None (moved own far.line to)
  sides-waits act to is =
      let keeps : Waited client own.place side.line to = waited client side.line act own.place to is in
      sides-move (record own { place = to.0 }) to.1 refl (λ outside. fits.owed (sym keeps.inside ∙ outside)) (λ free may.
      served-waits free (all_owed far) places side.line client (sound.served free may) act own.place at_place (inl sound.kind) to is) (keeps.kind ∙ sound.kind)

  -- a look
  sides-look : (got busy : Place) → IsTry own.place got busy → (found : Found) → Says Own Far found → Leads (message_in found) (looked got busy own found, side.line, far.line)
  sides-look got busy try (One message) says =
      let none = fits.owed try.inside in
      sides-go (Some message) (record { place = got; owed = 1; message = message }) side.line far.line (λ free may.
      let (had, now, less) = says.0 free may in
      served-gets had (all_owed far) places side.line client (sound.served had now) own.place at_place got busy try free (all_owed far) less (omega arith)) (λ free owed may sum.
      served-owes (free - 1) (all_owed side) free owed (places_of far.clients) far.line (omega arith) (far_sound.served (free - 1) (says.1 free may))) (record {
        owed = λ out. absurd (cc);
      }) sound.kind far_sound.kind refl
  sides-look got busy try Nothing says =
      sides-move (record own { place = busy }) side.line refl (λ _. fits.owed try.inside) (λ free may.
      served-finds_none free (all_owed far) places side.line client (sound.served free may) own.place at_place got busy try free (all_owed far) (says free may)) sound.kind
  sides-look got busy try Over says =
      sides-move (record own { place = got }) side.line refl (λ _. fits.owed try.inside) (λ free may.
      let (had, now, less) = says free may in
      served-gets had (all_owed far) places side.line client (sound.served had now) own.place at_place got busy try free (all_owed far) less (omega arith)) sound.kind

  module _ (p : Place) (is : own.place ≡ p) where
    there : slice_get places client ≡ Some p
    there = at_place ∙ ap (λ (q : Place). Some q) is

    waits_here : (act : Act) → waits act own.place client side.line ≡ waits act p client side.line
    waits_here act = ap (λ (q : Place). waits act q client side.line) is

    all_wait : (act : Act) → IfSome (option_map (moved own far.line) (waits act p client side.line)) (Leads None)
    all_wait act =
        each_some (moved own far.line) (Leads None) (waits act p client side.line) (λ to leads. sides-waits act to (waits_here act ∙ leads))

    all_look : (got busy : Place) → IsTry p got busy → (found : Found) → Says Own Far found → Leads (message_in found) (looked got busy own found, side.line, far.line)
    all_look got busy try =
        sides-look got busy (subst (λ (q : Place). IsTry q got busy) (sym is) try)

    -- the client notifies the other side of what it owes
    sides-pay : (q : Place) → is_woken p ≡ false → is_listening q ≡ is_listening p → is_parked q ≡ is_parked p → is_woken q ≡ false → is_past_second q ≡ false → Leads None (paid q own, side.line, notified own.owed far.line)
    sides-pay q was_unwoken listens parks unwoken unpast =
        let none : cond {A = ℕ} (is_woken p) 1 0 ≡ 0 = ap (λ (b : Bool). cond {A = ℕ} b 1 0) was_unwoken in
        sides-go None (paid q own) side.line (notified own.owed far.line) (λ free may.
        served-goes_on free (all_owed far) places side.line client (sound.served free may) p there q free (all_owed far) listens parks unwoken unpast (λ ways had. omega arith)) (λ free owed may sum.
        served-notified free owed own.owed (places_of far.clients) far.line (inl far_sound.kind) (served-owes free (all_owed side) free (owed + own.owed) (places_of far.clients) far.line (omega arith) (far_sound.served free may))) (record {
          owed = λ _. refl;
        }) sound.kind (notified-kind own.owed far.line ∙ far_sound.kind) (notified-flags own.owed far.line)

  sides-begin : (message : ℕ) → own.place ≡ Idle → Leads None (record own { place = First false; message = message }, side.line, far.line)
  sides-begin message is =
      let none = fits.owed (ap is_inside is) in
      sides-move (record own { place = First false; message = message }) side.line refl (λ _. none) (λ free may.
      served-goes_on free (all_owed far) places side.line client (sound.served free may) Idle (there Idle is) (First false) free (all_owed far) refl refl refl refl (λ ways had. omega arith)) sound.kind

  sides-end : own.place ≡ Ending → (found : Found) → IfSome (from Go Ending true client own found side.line far.line) (Leads None)
  sides-end is found =
      cond_both (nat_lt 0 own.owed) (Some (paid Ending own, side.line, notified own.owed far.line)) (Some (record own { place = Holding }, dropped client side.line, far.line)) (λ (o : Option (ChannelClient × Line × Line)). IfSome o (Leads None)) (λ _. sides-pay Ending is Ending refl refl refl refl refl) (λ _. sides-waits act.Go (Holding, dropped client side.line) (waits_here Ending is act.Go))

  from-keeps : (act : ChannelAct) (place : Place) (sends : Bool) (found : Found) → own.place ≡ place → Says Own Far found → IfSome (from act place sends client own found side.line far.line) (Leads (passed act place found))
  from-keeps Go Idle true found is says = tt
  from-keeps Go Idle false found is says = sides-waits act.Go (First false, side.line) (waits_here Idle is act.Go)
  from-keeps Go (First woken) sends found is says =
      all_look (First woken) is Holding ToListen (first_try woken) found says
  from-keeps Go Second sends found is says = all_look Second is Ending ToRegister second_try found says
  from-keeps Go Ending sends found is says = sides-end is found
  from-keeps Go Holding sends found is says = sides-pay Holding is Idle refl refl refl refl refl
  from-keeps (Send message) Idle true found is says = sides-begin message is
  from-keeps (Send message) Idle false found is says = tt
  from-keeps (Send message) _ sends found is says = tt
  from-keeps Go place sends found is says = all_wait place is act.Go
  from-keeps Poll place sends found is says = all_wait place is act.Poll
  from-keeps TimeOut place sends found is says = all_wait place is act.TimeOut
  from-keeps Cancel place sends found is says = all_wait place is act.Cancel

  -- what a step of the table leads to
  pub sides-keep : (act : ChannelAct) (sends : Bool) (found : Found) (to : ChannelClient × Line × Line) → Says Own Far found → from act own.place sends client own found side.line far.line ≡ Some to → Leads (passed act own.place found) to
  sides-keep act sends found to says is =
      subst (λ (o : Option (ChannelClient × Line × Line)). IfSome o (Leads (passed act own.place found))) is (from-keeps act own.place sends found refl says)

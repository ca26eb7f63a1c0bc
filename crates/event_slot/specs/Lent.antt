-- A writer, alone or with what is beside it, a claim with the state, and an `Arc` with a claim, after a write through what it lent.
use Rattle.std.specs.Prelude.{Some}
use Rattle.event_slot.specs.declared.claim.Claim.{Claim}
use Rattle.event_slot.specs.declared.owned.Owned.{Owned}
use Rattle.event_slot.specs.declared.tied.Tied.{Tied}
use Rattle.event_slot.specs.declared.writing.Writing.{Writing}

abbrev pub writing_with : {X S W K : Type 0} → Writing X S W K → X → Writing X S W K
writing_with it x = record { slot = it.slot; marker = it.marker; name = it.name; key = it.key; value = x }

abbrev pub tied_with : {X L S W K : Type 0} → Tied X S L W K → X → Tied X S L W K
tied_with it x = record { slot = it.slot; marker = it.marker; beside = it.beside; name = it.name; key = it.key; value = x }

abbrev pub claim_with : {X S W K : Type 0} → Claim X S W K → S → Claim X S W K
claim_with it s = record { slot = it.slot; marker = it.marker; name = it.name; key = it.key; right = it.right; value = it.value; state = Some s }

module _ {T X S A W K : Type 0} where
  -- after a write of the value
  abbrev pub owned_with : Owned T X S A W K → X → Owned T X S A W K
  owned_with it x = record { slot = it.slot; arc = it.arc; of = it.of; name = it.name; key = it.key; right = it.right; value = Some x; state = it.state }

  -- after a write of the state
  abbrev pub owned_with_state : Owned T X S A W K → S → Owned T X S A W K
  owned_with_state it s = record { slot = it.slot; arc = it.arc; of = it.of; name = it.name; key = it.key; right = it.right; value = it.value; state = Some s }

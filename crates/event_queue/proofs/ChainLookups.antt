-- What a look-up by key in a chain says of the key that it finds.
use Rattle.std.proofs.Common.{◌≡◌, true, eqb, sym, ap₂}
use Rattle.std.proofs.lemmas.Bool.{eqb-true, and_parts}
use Rattle.event_queue.specs.declared.key.Key.{Key}
use Rattle.event_queue.specs.Key.{is_key}

pub same_key : (key other : Key) → is_key key other ≡ true → other ≡ key
same_key key other passes =
    let parts = and_parts (eqb key.slot other.slot) (eqb key.serial other.serial) passes in
    let slot : other.slot ≡ key.slot = sym (eqb-true key.slot other.slot parts.0) in
    let serial : other.serial ≡ key.serial = sym (eqb-true key.serial other.serial parts.1) in
    ap₂ {C = Key} (λ a b. record { slot = a; serial = b }) slot serial

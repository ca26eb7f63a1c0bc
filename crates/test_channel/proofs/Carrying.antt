-- A send that is not done carries a message.
use Rattle.std.proofs.Common.{◌≡◌, refl, ℕ, Option, Some, None, IsSome, rules}

pub carried : (message : Option ℕ) → IsSome message → (x : ℕ) × (message ≡ Some x)
carried (Some x) is = (x, refl)
carried None is = search rules

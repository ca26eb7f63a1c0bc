-- What an `Arc` is while its token is out.
use Rattle.std.specs.Prelude.{◌≡◌, ℕ}
use base.Stored.{Coded, coded×, coded_ℕ, coded_via}
use base.Fml.{Fml, fex, fwand}
use types.RcWeak.{part}

-- what a clause sees of it: the lifetime for which its value is shared, and that value
pub record Lease (T : Type 0) : Type 0 where
  pub life : ℕ
  pub of : T

abbrev pub lease_coded : {T : Type 0} → Coded T → Coded (Lease T)
lease_coded c = coded_via (coded× coded_ℕ c) (λ d. (d.life, d.of)) (λ d e same i. record { life = (same i).0; of = (same i).1 })

-- with its part of the token it is an `Arc` of that value
abbrev pub leased_owns : {T : Type 0} → Lease T → (I : Type 0) → (I → T) → (I → Fml) → Fml
leased_owns d I of own = fex I (λ i. fex (of i ≡ d.of) (λ _. fwand (part 63 d.life) (own i)))

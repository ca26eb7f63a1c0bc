-- What an `Arc` with a claim on the slot in its value holds: its part of the token, and a claim for the lifetime of that token, as far as the types live.
use Rattle.std.specs.Prelude.{ℕ, zero, suc, List, [], ◌∷◌, Option, Some, None}
use base.Stored.{Gv}
use base.Fml.{Lft, Fml, ffalse, fsep, flft}
use types.RcWeak.{part}
use denote.RattleType.{RattleType}
use denote.RawPtr.{Ptr}
use denote.Sharing.{nothing, said, one, beside}
use Rattle.counted_slot.specs.Counting.{fact}
use Rattle.event_slot.specs.Holding.{claim_owns, claim_shares, writing_shares}

-- φ says that the `Arc` shares what it is said to share
abbrev pub owned_owns : {W : Type 0} → (W → Gv) → ℕ → (R Q : RattleType) → (ℕ → ℕ) → (ℕ → Option Q.Denot → List W → Type 0) → Lft → ℕ → Ptr → ℕ → Option R.Denot → Option Q.Denot → Type 0 → Fml
owned_owns e γ R Q counts holds l a p right v s φ = fsep (fact φ) (fsep (part 63 a) (claim_owns e γ R Q counts holds (a ∷ l) p right v s))

-- what a reader lends, and a writer if the state is not out
abbrev pub lent_by : {S : Type 0} → Lft → (R : RattleType) → Ptr → ℕ → Option R.Denot → Option S → Lft → Fml
lent_by β R p zero v s = nothing
lent_by β R p (suc zero) v s = claim_shares β R p 1 v
lent_by β R p (suc (suc k)) (Some x) None = writing_shares β R p x
lent_by β R p (suc (suc k)) None None = said ffalse
lent_by β R p (suc (suc k)) v (Some s) = nothing

-- a `&` to it holds some of the token, too
abbrev pub owned_shares : {S : Type 0} → (R : RattleType) → Lft → ℕ → Ptr → ℕ → Option R.Denot → Option S → Lft → Fml
owned_shares R l a p right v s = beside (one (λ q. flft (a ∷ []) q)) (lent_by (a ∷ l) R p right v s)

-- What the shared slot holds, and a right to its value, name no thread.
use Rattle.std.proofs.Common.{ℕ, zero, suc, List, Option, Some, None, [], ◌∷◌, ◌++◌}
use base.Fraction.{full_share}
use base.Fml.{Lft}
use base.Shift.{Keyless}
use base.Stored.{Gv}
use denote.RattleType.{RattleType}
use denote.RawPtr.{Ptr, block_ptr, null_ptr}
use denote.Param.Send.{IsSend, IsSync, Common, part_keyless}
use Rattle.core.proofs.atomic.Sent.{chain-Keyless}
use types.Keyed.{entry_keyless}
use Rattle.atomic_table.specs.Seated.{halved}
use Rattle.atomic_table.proofs.Sent.{roster_keyless}
use Rattle.counted_slot.specs.Counting.{Id, Phase, free, away, shared, state}
use Rattle.event_slot.specs.Holding.{any, Names, count, place, behind, lies, writer, right_to, kept, claim_owns, writing_owns, claim_shares, writing_shares, inner_shares, rest_owns}
use Rattle.event_slot.specs.Owning.{lent_by, owned_shares}
use Rattle.event_slot.specs.contracts.leased.Leased as leased
use Rattle.event_slot.specs.contracts.leased.Leased.TheInside as Inside
use Rattle.std.specs.declared.alloc.Allocator.{Ghosts}
use Rattle.std_alloc.proofs.SendSync.{Arc-send}
use denote.Param.Send.{Frees, struct_send}
use denote.Struct.Declared as declared

module _ (R : RattleType) (s : IsSend R) (y : IsSync R) where
  pub state_keyless : (b o : ℕ) (t : Id) (n : ℕ) (p : Phase R.Denot) → Keyless (state R any b o t n p)
  state_keyless b o t n free = ((λ _. tt), ((λ _. tt), ((tt, tt), λ x. (part_keyless R s full_share x b (place R b o), λ _. tt))))
  state_keyless b o t n away = ((λ _. tt), λ _. tt)
  state_keyless b o t n (shared a m x) =
      ((λ _. tt), ((λ e c. (tt, tt)), ((tt, tt), (((λ _. tt), y.shared x b (place R b o) (a ∷ t.0)), λ z. (part_keyless R s full_share z b (place R b o), λ _. tt)))))

  writer_keyless : (b o : ℕ) (t : Names) (x : R.Denot) → Keyless (writer R b o t x)
  writer_keyless b o t x = ((tt, tt), λ δ. (tt, λ z. (part_keyless R s full_share z b (place R b o), tt)))

  right_keyless : (b o : ℕ) (t : Names) (right : ℕ) (v : Option R.Denot) → Keyless (right_to R b o t right v)
  right_keyless b o t zero v = tt
  right_keyless b o t (suc zero) (Some x) = λ a. ((λ e c. (tt, tt)), ((λ _. tt), y.shared x b (place R b o) (a ∷ t.0)))
  right_keyless b o t (suc zero) None = tt
  right_keyless b o t (suc (suc k)) (Some x) = writer_keyless b o t x
  right_keyless b o t (suc (suc k)) None = tt

  module _ (Q : RattleType) (sq : IsSend Q) where
    lies_keyless : (b o : ℕ) (t : Names) (h : Option Q.Denot) → Keyless (lies R Q b o t h)
    lies_keyless b o t (Some x) = (tt, λ z. (part_keyless Q sq full_share z b (behind R Q b o), tt))
    lies_keyless b o t None = tt

    module _ {W : Type 0} (e : W → Gv) (γ : ℕ) (c : ℕ → ℕ) (holds : ℕ → Option Q.Denot → List W → Type 0) (β : Lft) where
      pub kept_keyless : (b o : ℕ) (t : Names) → Keyless (kept e γ R Q c holds b o t β)
      kept_keyless b o t = ((λ νs. chain-Keyless νs β t.0), λ n. (tt, (state_keyless b o (count t) (c n), λ p. (lies_keyless b o t p.0, (roster_keyless e γ 0 p.1, λ _. tt)))))

      pub claim_keyless : (p : Ptr) (right : ℕ) (v : Option R.Denot) (h : Option Q.Denot) → Keyless (claim_owns e γ R Q c holds β p right v h)
      claim_keyless (block_ptr b o) right v h = λ t. (kept_keyless b o t, (right_keyless b o t right v, lies_keyless b o t h))
      claim_keyless null_ptr right v h = tt

      pub writing_keyless : (p : Ptr) (x : R.Denot) → Keyless (writing_owns e γ R Q c holds β p x)
      writing_keyless (block_ptr b o) x = λ t. (kept_keyless b o t, writer_keyless b o t x)
      writing_keyless null_ptr x = tt

-- what a `&` to either shows, too
module _ (β : Lft) (R : RattleType) (y : IsSync R) where
  pub claim_common : (p : Ptr) (right : ℕ) (v : Option R.Denot) → Common (claim_shares β R p right v)
  claim_common (block_ptr b o) zero v κ = tt
  claim_common (block_ptr b o) (suc zero) (Some x) κ = ((λ _. tt), y.shared x b (place R b o) (κ ++ β))
  claim_common (block_ptr b o) (suc zero) None κ = tt
  claim_common (block_ptr b o) (suc (suc k)) v κ = tt
  claim_common null_ptr right v κ = tt

  pub writing_common : (p : Ptr) (x : R.Denot) → Common (writing_shares β R p x)
  writing_common (block_ptr b o) x κ = y.shared x b (place R b o) (κ ++ β)
  writing_common null_ptr x κ = tt

  pub inner_common : (O : RattleType) (p : Ptr) (x : R.Denot) → Common (inner_shares β O R p x)
  inner_common O (block_ptr b o) x κ = y.shared x b (place O b o) (κ ++ β)
  inner_common O null_ptr x κ = tt

-- and to an `Arc` with a claim
module _ (R : RattleType) (y : IsSync R) {S : Type 0} where
  lent_common : (β : Lft) (p : Ptr) (right : ℕ) (v : Option R.Denot) (s : Option S) → Common (lent_by β R p right v s)
  lent_common β p zero v s κ = tt
  lent_common β p (suc zero) v s κ = claim_common β R y p 1 v κ
  lent_common β p (suc (suc k)) (Some x) None κ = writing_common β R y p x κ
  lent_common β p (suc (suc k)) None None κ = tt
  lent_common β p (suc (suc k)) (Some x) (Some s) κ = tt
  lent_common β p (suc (suc k)) None (Some s) κ = tt

  pub owned_common : (l : Lft) (a : ℕ) (p : Ptr) (right : ℕ) (v : Option R.Denot) (s : Option S) → Common (owned_shares R l a p right v s)
  owned_common l a p right v s κ = ((λ q. tt), lent_common (a ∷ l) p right v s κ)

-- the `Arc` in it, too, while its token is out
module _ (T A : RattleType) (g : Ghosts A.Denot) where
  pub leased_send : IsSend T → IsSend A → IsSync T → IsSync A → Frees g g.dealloc_token → IsSend (leased.the_row T A g)
  leased_send s sa y ya f = let shared = Arc-send T A g s y f sa ya in record {
    owned = λ d vs. ((λ _. tt), λ i e. ((λ q c. tt), (struct_send (declared.shape (Inside.the_type T A g)) (shared, tt)).owned (i.arc, tt) vs));
    leaving = λ k d w. tt;
  }

  pub leased_sync : IsSync (leased.the_row T A g)
  leased_sync = record { shared = λ t b o κ. tt }

pub rest_keyless : {W : Type 0} (e : W → Gv) (slot id : ℕ) (ws : List W) → Keyless (rest_owns e slot id ws)
rest_keyless e slot id [] = tt
rest_keyless e slot id (w ∷ ws) = entry_keyless halved slot id _

use Rattle.std.proofs.Common.{ℕ, zero, suc}
use base.Fraction.{full_share}
use base.Fml.{Lft}
use base.Shift.{Keyless}
use denote.RattleType.{RattleType}
use denote.Param.Send.{IsSend, IsSync, part_keyless}
use Rattle.core.proofs.atomic.Sent.{chain-Keyless}
use Rattle.event_slot.specs.Written.{place, stands}
use Rattle.event_slot.specs.declared.write_once.Fits.{Ghosts}
use Rattle.event_slot.specs.contracts.write_once.WriteOnce.{the_row}

stands_keyless : (R : RattleType) (ok : R.Denot → Type 0) → IsSend R → IsSync R → (b o : ℕ) (α : Lft) (n : ℕ) → Keyless (stands R ok b o α n)
stands_keyless R ok s y b o α zero = λ x. (part_keyless R s full_share x b (place R ok b o), λ _. tt)
stands_keyless R ok s y b o α (suc zero) = tt
stands_keyless R ok s y b o α (suc (suc k)) = λ x. (y.shared x b (place R ok b o) α, λ _. tt)

pub sync : (T Y : RattleType) (g : Ghosts T.Denot Y.Denot) → IsSend T → IsSync T → IsSync (the_row T Y g)
sync T Y g s y = record { shared = λ d b o κ α. ((λ νs. chain-Keyless νs κ α), λ n. (tt, stands_keyless T (g.fits d) s y b o α n)) }

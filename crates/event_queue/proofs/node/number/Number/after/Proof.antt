-- `after` makes the empty struct, with the number after the one behind the `&`. Assumes `Logic`.
use Rattle.std.proofs.Common.{◌≡◌, ◌+◌, refl}
use base.Logic.{emp}
use contract.Monad.{fact_i}
use Rattle.event_queue.specs.contracts.node.number.Number as Number
use Rattle.event_queue.specs.contracts.node.number.Number.after.{clauses}
use Rattle.event_queue.specs.contracts.node.number.Number.after.Key.{name as #self}
use Rattle.event_queue.proofs.node.number.Number.after.Statement as stated
use Rattle.event_queue.proofs.node.number.Number.after.Code as code
use Rattle.event_queue.proofs.Numbers.{makes}

pub after_spec : {M : Type 1} → stated.statement M
after_spec 𝓤 𝓛 𝓜 𝓡 wired =
    makes Number.the_row 𝓛 𝓜 𝓡 (clauses 𝓛 𝓜.mem 𝓡.returns) (λ n. record { number = n.number + 1 })
    (λ κs a g. fact_i 𝓤 (a.0.now.number + 1 ≡ a.0.now.number + 1) (emp 𝓤) refl) #self (code.unfolded 𝓤 𝓛.H 𝓜 𝓡 wired)

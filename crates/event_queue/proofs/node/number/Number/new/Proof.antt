-- `new` makes the empty struct, with the number behind the `&`. Assumes `Logic`.
use Rattle.std.proofs.Common.{◌≡◌, refl}
use base.Logic.{emp}
use contract.Monad.{fact_i}
use denote.Builtin.{u64}
use Rattle.event_queue.specs.contracts.node.number.Number.new.{clauses}
use Rattle.event_queue.specs.contracts.node.number.Number.new.Key.{name as #self}
use Rattle.event_queue.proofs.node.number.Number.new.Statement as stated
use Rattle.event_queue.proofs.node.number.Number.new.Code as code
use Rattle.event_queue.proofs.Numbers.{makes}

pub new_spec : {M : Type 1} → stated.statement M
new_spec 𝓤 𝓛 𝓜 𝓡 wired =
    makes u64 𝓛 𝓜 𝓡 (clauses 𝓛 𝓜.mem 𝓡.returns) (λ n. record { number = n })
    (λ κs a g. fact_i 𝓤 (a.0.now ≡ a.0.now) (emp 𝓤) refl) #self (code.unfolded 𝓤 𝓛.H 𝓜 𝓡 wired)

-- A `&` to a number leads to nothing more, so it may go to another thread.
use denote.Param.Send.{IsSync, owning_send, part_keyless}
use Rattle.event_queue.specs.contracts.node.number.Number.{the_row, the_type}

pub sync : IsSync the_row
sync = record {
  shared = λ d b o κ q. part_keyless the_row (owning_send the_type tt (λ d. tt) (λ k x w. tt)) q d b o;
}

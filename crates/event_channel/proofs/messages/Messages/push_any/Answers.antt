use Rattle.std.proofs.Common.{rules}
use Rattle.event_queue.proofs.TellingLemmas.{FoldsTo-append}
use Rattle.event_channel.proofs.messages.Messages.push_any.Goals as goal

pub returns-in-Ok-clause-wakes : goal.returns-in-Ok-clause-wakes
returns-in-Ok-clause-wakes g c =
    let both = FoldsTo-append _ _ _ _ _ _ c.tell_more.ensures.wakes c.tell_all.ensures.wakes in search (rules, both)

use Rattle.event_queue.proofs.TellingLemmas.{FoldsTo-append}
use Rattle.event_channel.proofs.messages.Messages.close.Goals as goal

pub returns-clause-wakes : goal.returns-clause-wakes
returns-clause-wakes g c =
    let both = FoldsTo-append _ _ _ _ _ _ c.tell_all.ensures.wakes c.tell_all-2.ensures.wakes in
    rw (← c.self.view_is) (λ _. FoldsTo-append _ _ _ _ _ _ both c.tell_all-3.ensures.wakes)

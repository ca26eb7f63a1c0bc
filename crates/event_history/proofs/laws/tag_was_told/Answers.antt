use Rattle.event_history.proofs.LawsTold.{tag_taken, tag_stood, was_told, all_listened}
use Rattle.event_history.proofs.laws.tag_was_told.Goals as goal

pub returns-clause-taken : goal.returns-clause-taken
returns-clause-taken g c = tag_taken

pub returns-clause-stood : goal.returns-clause-stood
returns-clause-stood g c = tag_stood

pub returns-clause-told : goal.returns-clause-told
returns-clause-told g c = was_told

pub returns-clause-listened : goal.returns-clause-listened
returns-clause-listened g c = all_listened

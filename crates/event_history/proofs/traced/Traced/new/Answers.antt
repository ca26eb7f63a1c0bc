use Rattle.event_history.proofs.Keeps.{opens}
use Rattle.event_history.proofs.traced.Traced.new.Goals as goal

pub new-slot-requires : goal.new-slot-requires
new-slot-requires g c = opens _ c.args.state c.requires.starts

use Rattle.test_channel.proofs.Carrying.{carried}
use Rattle.test_channel.proofs.waiting.poll_send.Goals as goal

pub poll-requires : goal.poll-requires
poll-requires g c = carried _ c.args.unsent.carries

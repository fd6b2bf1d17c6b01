use Rattle.game.specs.Frames.{slot}
use Rattle.players.proofs.SlotLaws.{grown_one}
use Rattle.players.proofs.slots.Slots.with.Goals as goal

-- src/slots.rt:90:5
pub returns : goal.returns
returns c = grown_one c.args.self (slot c.args.port c.args.follower c.args.at c.args.len) c.requires.0 c.requires.1

use Rattle.layout.proofs.Laws.{arm}
use Rattle.game.specs.Frames.{slot_blocks}
use Rattle.players.proofs.slots.blocks.Goals as goal

pub returns-in-Pre : goal.returns-in-Pre
returns-in-Pre c = (arm (slot_blocks _) c.in-Pre.is c.slot_count.ensures.0, c.slot_count.ensures.1)

pub returns-in-Post : goal.returns-in-Post
returns-in-Post c = (arm (slot_blocks _) c.in-Post.is c.slot_count-in-Post.ensures.0, c.slot_count-in-Post.ensures.1)

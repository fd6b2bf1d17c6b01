-- What the functions ask of a plan that is not refused.
-- Assumes nothing.
use Rattle.std.specs.Prelude.{ℕ, ◌+◌, ◌≤◌}
use Rattle.format.specs.declared.event.Event.TheVariants.{FramePre, FramePost, FrameStart, Item, FrameEnd, FodPlatform, DreamlandWhispy, StadiumTransformation}
use Rattle.players.specs.Inner.{Modest}
use Rattle.room.specs.Room.{event_room, counted}
use Rattle.room.specs.declared.Plan.{Plan}

pub record Bounded (p : Plan) : Type 0 where
  pub modest : Modest (counted p)
  pub slots : p.slots ≤ 8
  pub block : p.block ≤ 65535
  pub codes : p.codes ≤ 16777216
  pub metadata : p.metadata ≤ 65535

-- the events of the frames
abbrev pub frames_room : Plan → ℕ
frames_room p =
    event_room p FrameStart
    + (event_room p FramePre
    + (event_room p FodPlatform
    + (event_room p DreamlandWhispy
    + (event_room p StadiumTransformation
    + (event_room p Item + (event_room p FramePost + event_room p FrameEnd))))))

-- The counts of a game as a plan, and which games take all the room of theirs.
-- Assumes nothing.
use Rattle.std.specs.Prelude.{ℕ, ◌<◌, ◌≡◌, true, length, get_or}
use Rattle.format.specs.Mark.{yes}
use Rattle.format.specs.Version.{has_codes}
use Rattle.game.specs.Frames.{no_slot, slots_of}
use Rattle.game.specs.Stores.{Stores}
use Rattle.game.specs.declared.Game.{Game}
use Rattle.players.specs.Presence.{present_at}
use Rattle.ser.specs.Write.{given_bytes, file, refusal}
use Rattle.room.specs.Room.{room_of, AtMost}
use Rattle.room.specs.declared.Plan.{Plan}

-- version, block, slots and rows as they are; codes and metadata that are not given have no bytes
abbrev pub plan_of : Game → Stores → Plan
plan_of g s = record {
  version = g.frames.version;
  block = length s.template;
  slots = length (slots_of g.frames);
  counts = g.frames.counts;
  codes = given_bytes g.codes_given s.codes;
  metadata = given_bytes g.metadata_given s.metadata;
}

-- everybody is present, the end is doubled, metadata is given, and codes are given where the version has them
pub record Fullest (g : Game) (s : Stores) : Type 0 where
  pub everybody : (k i : ℕ) → k < length (slots_of g.frames) → i < g.frames.counts.frames
      → present_at s.lent.presence (get_or (slots_of g.frames) k no_slot) i ≡ true
  pub ended : yes g.end.given ≡ true
  pub doubled : yes g.double_end ≡ true
  pub metadata : yes g.metadata_given ≡ true
  pub codes : has_codes g.frames.version ≡ true → yes g.codes_given ≡ true

-- there is a game that takes all the room of a plan: it is accepted, no count of it is above the plan's, and its file has as many bytes as are reserved
pub record TakesAll (p : Plan) : Type 0 where
  pub game : Game
  pub stores : Stores
  pub accepted : refusal game stores (room_of p) ≡ 0
  pub within : AtMost (plan_of game stores) p
  pub fullest : Fullest game stores
  pub all : length (file game stores) ≡ room_of p

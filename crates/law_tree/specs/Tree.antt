-- The tree of a game: its productions, of which proofs/Same.antt says that their events are the game's.
-- Assumes nothing.
use Rattle.std.specs.Prelude.{ℕ, ◌+◌, ◌-◌, ◌*◌, Bool, not, ◌||◌, List, [], ◌∷◌, ◌++◌, eqb, length, get_or}
use Rattle.wire.specs.Wire.{part, ranged, keep}
use Rattle.format.specs.Version.{has_initiator, has_placements}
use Rattle.format.specs.Mark.{yes}
use Rattle.format.specs.declared.version.Version.{Version}
use Rattle.layout.specs.Columns.{has_family, widths_of}
use Rattle.layout.specs.declared.columns.Family.{Family}
use Rattle.layout.specs.declared.columns.Family.TheVariants.{Pre, Post, FrameStart, Item, FrameEnd, FodPlatform, DreamlandWhispy, StadiumTransformation}
use Rattle.record.specs.Record.{cells_bytes}
use Rattle.game.specs.Frames.{no_slot, slots_of, rows_of}
use Rattle.game.specs.Stores.{Lent, cells_of, offsets_of, Stores}
use Rattle.players.specs.Presence.{present_at}
use Rattle.game.specs.declared.frames.Frames.{Frames}
use Rattle.start.specs.Block.{start_block}
use Rattle.codes.specs.Blocks.{block_count, used}
use Rattle.ending.specs.End.{initiator_bytes, placements_of}
use Rattle.game.specs.declared.end.End.{End}
use Rattle.events.specs.Events.{id_of}
use Rattle.game.specs.declared.Game.{Game}
use Rattle.grammar.specs.Productions.{Player, Frame, Block, Replay}

module _ (f : Frames) (lent : Lent) where
  -- a row's cells as bytes
  abbrev pub bytes_of : Family → ℕ → ℕ → List ℕ
  bytes_of family block row =
      let widths = widths_of family f.version in
      let rows = rows_of f family in
      cells_bytes widths (cells_of lent.cells family) rows (block * (length widths * rows) + row)

  -- frame i's rows of a family with offsets
  unfoldable pub rows_in : Family → ℕ → List (List ℕ)
  rows_in family i =
      let offsets = offsets_of lent.offsets family in
      keep (has_family f.version family) (ranged (λ j. bytes_of family 0 j ∷ []) (get_or offsets i 0) (get_or offsets (i + 1) 0 - get_or offsets i 0))

  abbrev pub player_at : ℕ → ℕ → Player
  player_at i k = let s = get_or (slots_of f) k no_slot in record { port = s.port; follower = s.follower; pre = bytes_of Pre k i; post = bytes_of Post k i }

  -- the players that are present in frame i
  unfoldable pub players_in : ℕ → List Player
  players_in i = ranged (λ k. keep (present_at lent.presence (get_or (slots_of f) k no_slot) i) (player_at i k ∷ [])) 0 (length (slots_of f))

  abbrev pub frame_of : ℕ → Frame
  frame_of i = record {
    id = id_of lent i;
    start = bytes_of FrameStart 0 i;
    players = players_in i;
    fods = rows_in FodPlatform i;
    whispys = rows_in DreamlandWhispy i;
    stadiums = rows_in StadiumTransformation i;
    items = rows_in Item i;
    end = bytes_of FrameEnd 0 i;
  }

  -- before 2.2 a frame with nobody in it has no events, and is not there
  unfoldable pub shows : ℕ → Bool
  shows i = has_family f.version FrameStart || not (eqb (length (players_in i)) 0)

  unfoldable pub frames_of : List Frame
  frames_of = ranged (λ i. keep (shows i) (frame_of i ∷ [])) 0 f.counts.frames

-- the blocks of codes that are given
unfoldable pub blocks_of : Bool → List ℕ → ℕ → List Block
blocks_of given codes actual = keep given (ranged (λ b. record { bytes = part codes (512 * b) 512; used = used actual b } ∷ []) 0 (block_count actual))

-- the payload of an end, and those of the ends
abbrev pub end_bytes : Version → End → List ℕ
end_bytes v e = e.method ∷ (keep (has_initiator v) (initiator_bytes e) ++ keep (has_placements v) (placements_of e))

unfoldable pub ends_of : Version → End → ℕ → List (List ℕ)
ends_of v e double = keep (yes e.given) (end_bytes v e ∷ keep (yes double) (end_bytes v e ∷ []))

unfoldable pub replay_of : Game → Stores → Replay
replay_of g s = record {
  block = start_block g.frames.version g.start s.template;
  codes = blocks_of (yes g.codes_given) s.codes g.actual_size;
  frames = frames_of g.frames s.lent;
  ends = ends_of g.frames.version g.end g.double_end;
}

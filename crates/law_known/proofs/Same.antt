-- The same frames and ends say the same at a newer version as at 3.18.0, but for the version's numbers.
-- Assumes nothing.
use Prim.Native.Nat.{ℕ}
use mathlib.Core.Path.{◌≡◌, refl, sym, ap, ap₂, ◌∙◌}
use mathlib.Core.Bool.{true}
use mathlib.Core.List.{List, [], ◌∷◌, ◌++◌, map}
use native.Mathlib.Omega.{arith}
use lib.ListN.{length}
use Rattle.wire.specs.Wire.{keep}
use Rattle.format.specs.Version.{gte_of, above, has_initiator, has_placements}
use Rattle.format.specs.declared.version.Version.{Version}
use Rattle.layout.specs.declared.columns.Family.{Family}
use Rattle.layout.specs.declared.columns.Family.TheVariants.{Pre, Post, FrameStart, Item, FrameEnd, FodPlatform, DreamlandWhispy, StadiumTransformation}
use Rattle.game.specs.Frames.{Slot, slots_of, ports_of}
use Rattle.game.specs.Stores.{lent, cells, offsets}
use Rattle.grammar.specs.Productions.{Frame, events_of_frame, events_of_frames}
use Rattle.columns.specs.Columns.{rows_here, rows_there, cell_columns, slots_cells, slot_row, slot_number, players_cells, rows_cells, totals, offsets_read, ids_read, slots_presence, frames_read, lent_read}
use Rattle.read_outline.specs.End.{end_in, initiator_in, placed_in, placements_in}
use Rattle.measure.specs.Game.{end_read}
use Rattle.known.specs.Known.{is_newer}
use Rattle.known.proofs.Newest.{newer_is, has_gate}
use Rattle.law_known.specs.Made.{last, with_version}
use Rattle.law_known.proofs.Late.{same_family, same_widths}

last_placements : has_placements last ≡ true
unfolding gte_of above
last_placements = refl

module _ (v : Version) (newer : is_newer v ≡ true) where
  -- ---- events

  frame_same : (f : Frame) → events_of_frame v f ≡ events_of_frame last f
  unfolding events_of_frame
  frame_same f = rw (same_family v newer FrameStart, same_family v newer FrameEnd)

  pub frames_same : (fs : List Frame) → events_of_frames v fs ≡ events_of_frames last fs
  unfolding events_of_frames
  frames_same [] = refl
  frames_same (f ∷ fs) = ap₂ ◌++◌ (frame_same f) (frames_same fs)

  -- ---- rows

  here_same : (family : Family) (f : Frame) → rows_here v family f ≡ rows_here last family f
  here_same FrameStart f = rw (same_family v newer FrameStart)
  here_same FrameEnd f = rw (same_family v newer FrameEnd)
  here_same FodPlatform f = refl
  here_same DreamlandWhispy f = refl
  here_same StadiumTransformation f = refl
  here_same Item f = refl
  here_same Pre f = refl
  here_same Post f = refl

  there_same : (family : Family) (fs : List Frame) → rows_there v family fs ≡ rows_there last family fs
  unfolding rows_there
  there_same family [] = refl
  there_same family (f ∷ fs) = ap₂ ◌++◌ (here_same family f) (there_same family fs)

  -- ---- the frame input: all but the version

  pub frames_read_lem : (fs : List Frame) → frames_read v fs ≡ with_version v (frames_read last fs)
  unfolding frames_read
  frames_read_lem fs = λ i. record {
    version = v;
    counts = record {
      frames = length fs;
      items = length (there_same Item fs i);
      fods = length (there_same FodPlatform fs i);
      whispys = length (there_same DreamlandWhispy fs i);
      stadiums = length (there_same StadiumTransformation fs i);
    };
    ports = (frames_read last fs).ports;
    port_count = (frames_read last fs).port_count;
  }

  slots_same : (fs : List Frame) → slots_of (frames_read v fs) ≡ slots_of (frames_read last fs)
  unfolding slots_of ports_of frames_read
  slots_same fs = refl

  -- ---- the stores

  rows_same : (family : Family) (fs : List Frame) → rows_cells v family fs ≡ rows_cells last family fs
  rows_same family fs = ap₂ cell_columns (same_widths v newer family) (there_same family fs)

  blocks_same : (family : Family) (fs : List Frame) (ss : List Slot) → slots_cells v family fs ss ≡ slots_cells last family fs ss
  unfolding slots_cells
  blocks_same family fs [] = refl
  blocks_same family fs (s ∷ ss) =
      ap₂ ◌++◌ (ap (λ (ws : List ℕ). cell_columns ws (map (λ f. slot_row family (slot_number s) f.players) fs)) (same_widths v newer family)) (blocks_same family fs ss)

  players_same : (family : Family) (fs : List Frame) → players_cells v family fs ≡ players_cells last family fs
  players_same family fs = blocks_same family fs (slots_of (frames_read v fs)) ∙ ap (slots_cells last family fs) (slots_same fs)

  counts_same : (family : Family) (fs : List Frame) → map (λ f. length (rows_here v family f)) fs ≡ map (λ f. length (rows_here last family f)) fs
  counts_same family [] = refl
  counts_same family (f ∷ fs) = λ i. length (here_same family f i) ∷ counts_same family fs i

  offsets_same : (family : Family) (fs : List Frame) → offsets_read v family fs ≡ offsets_read last family fs
  unfolding offsets_read
  offsets_same family fs = λ i. keep (same_family v newer family i) (totals 0 (counts_same family fs i))

  pub stores_same : (fs : List Frame) → lent_read v fs ≡ lent_read last fs
  unfolding lent_read
  stores_same fs = λ i. lent
      (cells (ids_read fs) (rows_same FrameStart fs i) (players_same Pre fs i) (players_same Post fs i) (rows_same FrameEnd fs i) (rows_same Item fs i)
      (rows_same FodPlatform fs i) (rows_same DreamlandWhispy fs i) (rows_same StadiumTransformation fs i))
      (offsets (offsets_same Item fs i) (offsets_same FodPlatform fs i) (offsets_same DreamlandWhispy fs i) (offsets_same StadiumTransformation fs i))
      (slots_presence fs (slots_same fs i))

  -- ---- the end

  initiator_same : has_initiator v ≡ has_initiator last
  unfolding gte_of above
  initiator_same = rw (newer_is v newer).0

  placements_same : has_placements v ≡ has_placements last
  placements_same = has_gate v newer 13 (omega arith) ∙ sym last_placements

  end_same : (bytes : List ℕ) → end_in v bytes ≡ end_in last bytes
  unfolding end_in initiator_in placed_in placements_in
  end_same bytes = rw (initiator_same, placements_same)

  pub ends_same : (ends : List (List ℕ)) → end_read v ends ≡ end_read last ends
  ends_same [] = refl
  ends_same (bytes ∷ ends) = end_same bytes

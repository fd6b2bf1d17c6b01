-- The row of a whole frame.
-- Assumes nothing.
use Rattle.std.specs.Prelude.{ℕ, ◌+◌, ◌-◌, cond, List, [], ◌∷◌, pos, get_or}
use Rattle.std.specs.Int.{w32}
use Rattle.std.proofs.Common.{to_z}
use Rattle.layout.specs.Columns.{has_family}
use Rattle.layout.specs.declared.columns.Family.{Family}
use Rattle.layout.specs.declared.columns.Family.TheVariants as family
use Rattle.game.specs.Stores.{Offsets, Lent}
use Rattle.game.specs.declared.frames.Frames.{Frames}
use Rattle.rows.specs.Rows.{frame_start_of, frame_end_of, no_frame_start, no_frame_end, no_version}
use Rattle.transpose.specs.Records.{cells_at}
use Rattle.transpose.specs.Ports.{no_port_data, ports_at}
use Rattle.transpose.specs.declared.frame.Range.{Range}
use Rattle.transpose.specs.declared.frame.Frame.{Frame}

abbrev pub no_range : Range
no_range = record { first = 0; count = 0 }

-- the rows of a family that belong to a frame: 0 and 0 where the version lacks the family
unfoldable pub range_at : Frames → Family → List ℕ → ℕ → Range
range_at f family os index = cond (has_family f.version family) (record { first = get_or os index 0; count = get_or os (index + 1) 0 - get_or os index 0 }) no_range

abbrev pub no_frame : Frame
no_frame = record {
  version = no_version;
  id = pos 0;
  port_count = 0;
  ports = no_port_data ∷ no_port_data ∷ no_port_data ∷ no_port_data ∷ [];
  start = no_frame_start;
  end = no_frame_end;
  items = no_range;
  fod_platforms = no_range;
  dreamland_whispys = no_range;
  stadium_transformations = no_range;
}

abbrev pub frame_of : Frames → (ids starts pres posts ends : List ℕ) → Offsets → (presence : List ℕ) → ℕ → Frame
frame_of f ids starts pres posts ends o presence index = record {
  version = f.version;
  id = to_z w32 (get_or ids index 0);
  port_count = f.port_count;
  ports = ports_at f pres posts presence index;
  start = frame_start_of (cells_at f family.FrameStart starts 0 index) f.version;
  end = frame_end_of (cells_at f family.FrameEnd ends 0 index) f.version;
  items = range_at f family.Item o.items index;
  fod_platforms = range_at f family.FodPlatform o.fods index;
  dreamland_whispys = range_at f family.DreamlandWhispy o.whispys index;
  stadium_transformations = range_at f family.StadiumTransformation o.stadiums index;
}

abbrev pub frame_at : Frames → Lent → ℕ → Frame
frame_at f s index = frame_of f s.cells.ids s.cells.starts s.cells.pres s.cells.posts s.cells.ends s.offsets s.presence index

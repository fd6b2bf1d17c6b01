-- What functions promise each other of what is read.
-- Assumes nothing.
use Rattle.std.specs.Prelude.{ℕ, ◌+◌, ◌-◌, ◌*◌, ◌/◌, ◌≤◌, ◌≡◌, Bool, cond, ◌||◌, ◌&&◌, List, [], ◌∷◌, ◌++◌, length, replicate, drop, eqb, ltb}
use Rattle.wire.specs.Wire.{ranged, keep, part}
use Rattle.format.specs.declared.version.Version.{Version}
use Rattle.layout.specs.Columns.{has_family, widths_of}
use Rattle.layout.specs.declared.columns.Family.{Family}
use Rattle.layout.specs.declared.columns.Family.TheVariants.{Pre, Post, FrameStart, Item, FrameEnd, FodPlatform, DreamlandWhispy, StadiumTransformation}
use Rattle.game.specs.Frames.{no_port, slots_of, slot_blocks, rows_of, is_marked}
use Rattle.game.specs.declared.frames.PortColumn.{PortColumn}
use Rattle.game.specs.declared.frames.Counts.{Counts}
use Rattle.game.specs.declared.frames.Frames.{Frames}
use Rattle.measure.specs.declared.lengths.Ports.{Ports}
use Rattle.measure.specs.declared.lengths.Lengths.{Lengths}
use Rattle.format.specs.Refusal.{one_of}
use Rattle.format.specs.Version.{has_codes}
use Rattle.layout.specs.Payloads.{end_size}
use Rattle.game.specs.Zero.{no_end}
use Rattle.game.specs.declared.end.End.{End}
use Rattle.players.specs.Inner.{Modest}
use Rattle.read_outline.specs.End.{end_in}
use Rattle.read_judge.specs.declared.parts.Parts.{Parts}
use Rattle.read_judge.specs.Inner.{counts_by}
use Rattle.measure.specs.Game.{tail_kind}
use Rattle.measure.specs.declared.Places.{Places}

-- the column of port n; it is there where its leader or its follower is marked
abbrev pub column_by : ℕ → Bool → ℕ → PortColumn
column_by n follows bytes = record { port = n; follower = cond follows 1 0; leader_presence = bytes; follower_presence = cond follows bytes 0 }

unfoldable pub port_by : ℕ → ℕ → ℕ → List PortColumn
port_by slots bytes n = keep (is_marked slots (2 * n) || is_marked slots (2 * n + 1)) (column_by n (is_marked slots (2 * n + 1)) bytes ∷ [])

-- four places have these columns, and then none
pub record Listing (xs : List PortColumn) (p : Ports) : Type 0 where
  pub ports : p.ports ≡ xs ++ replicate (4 - length xs) no_port
  pub count : p.count ≡ length xs

abbrev pub ports_by : ℕ → ℕ → List PortColumn
ports_by slots bytes = ranged (port_by slots bytes) 0 4

unfoldable pub frames_by : Version → Counts → ℕ → Frames
frames_by v counts slots = let ports = ports_by slots ((counts.frames + 7) / 8) in record {
  version = v;
  counts = counts;
  ports = ports ++ replicate (4 - length ports) no_port;
  port_count = length ports;
}

-- a family's store, and its offsets
unfoldable pub store_by : Frames → Family → ℕ
store_by f family = slot_blocks f family * (length (widths_of family f.version) * rows_of f family)

unfoldable pub offsets_by : Frames → Family → ℕ
offsets_by f family = cond (has_family f.version family) (f.counts.frames + 1) 0

abbrev pub lengths_by : Frames → ℕ → Lengths
lengths_by f codes = record {
  ids = f.counts.frames;
  starts = store_by f FrameStart;
  pres = store_by f Pre;
  posts = store_by f Post;
  ends = store_by f FrameEnd;
  items = store_by f Item;
  fods = store_by f FodPlatform;
  whispys = store_by f DreamlandWhispy;
  stadiums = store_by f StadiumTransformation;
  item_offsets = offsets_by f Item;
  fod_offsets = offsets_by f FodPlatform;
  whispy_offsets = offsets_by f DreamlandWhispy;
  stadium_offsets = offsets_by f StadiumTransformation;
  presence = length (slots_of f) * ((f.counts.frames + 7) / 8);
  codes = codes;
}

-- ---- by the parts of a replay

unfoldable pub frames_in : Parts → Frames
frames_in p = frames_by p.version (counts_by p.tally) p.tally.slots

unfoldable pub lengths_in : Parts → Lengths
lengths_in p = lengths_by (frames_in p) (512 * p.blocks)

-- the mark of codes, by how many bytes an event of code 3D has
unfoldable pub codes_by : Version → ℕ → ℕ
codes_by v gecko = cond (has_codes v && ltb 0 gecko) 1 0

-- what the first end says
unfoldable pub end_by : List ℕ → Parts → End
end_by f p = cond (eqb p.ends 0) no_end (end_in p.version (part f (p.ends_at + 1) (end_size p.version)))

-- the counts are within their maxima
pub record Small (p : Parts) : Type 0 where
  pub frames : p.tally.frames ≤ 1048576
  pub modest : Modest (frames_in p)
  pub codes : 512 * p.blocks ≤ 16777216
  pub actual : p.actual ≤ 16777216

-- ---- the file

-- the places of a file whose events go from one place to another, with a start block of so many bytes
abbrev pub places_by : List ℕ → ℕ → ℕ → ℕ → Places
places_by f first stop len = let kind = tail_kind (drop stop f) in record {
  block_at = first + 1;
  block_len = len;
  tail = kind;
  metadata_at = cond (eqb kind 1) (stop + 11) 0;
  metadata_len = cond (eqb kind 1) (length f - stop - 13) 0;
}

-- ---- the stores

-- one of the lengths is under what is needed
unfoldable pub short_by : Lengths → Lengths → Bool
short_by given needed =
    one_of
    (ltb given.ids needed.ids
    ∷ ltb given.starts needed.starts
    ∷ ltb given.pres needed.pres
    ∷ ltb given.posts needed.posts
    ∷ ltb given.ends needed.ends
    ∷ ltb given.items needed.items
    ∷ ltb given.fods needed.fods
    ∷ ltb given.whispys needed.whispys
    ∷ ltb given.stadiums needed.stadiums
    ∷ ltb given.item_offsets needed.item_offsets
    ∷ ltb given.fod_offsets needed.fod_offsets
    ∷ ltb given.whispy_offsets needed.whispy_offsets
    ∷ ltb given.stadium_offsets needed.stadium_offsets
    ∷ ltb given.presence needed.presence
    ∷ ltb given.codes needed.codes
    ∷ [])

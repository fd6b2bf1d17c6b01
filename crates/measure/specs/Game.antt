-- The game of a replay, its stores, and where its parts stand in the file.
-- Assumes nothing.
use Rattle.std.specs.Prelude.{ℕ, ◌+◌, ◌-◌, Bool, cond, ◌&&◌, List, [], ◌∷◌, eqb, leb, ltb, length, get_or, drop}
use Rattle.format.specs.Version.{has_codes}
use Rattle.format.specs.declared.version.Version.{Version}
use Rattle.game.specs.Stores.{Lent}
use Rattle.game.specs.Zero.{no_end}
use Rattle.game.specs.declared.Game.{Game}
use Rattle.game.specs.declared.end.End.{End}
use Rattle.ending.specs.Tail.{metadata_key}
use Rattle.head.specs.Table.{stop_of, table_of, first_place, starts_with}
use Rattle.grammar.specs.Productions.{Replay, used_in, codes_bytes}
use Rattle.columns.specs.Columns.{frames_read, lent_read}
use Rattle.read_start.specs.Start.{start_in}
use Rattle.read_outline.specs.End.{end_in}
use Rattle.read_judge.specs.Found.{gecko_span, version_of}
use Rattle.measure.specs.declared.Places.{Places}
use Rattle.measure.specs.declared.lengths.Lengths.{Lengths}

-- ---- the tail, which is what stands after the event data

-- one brace
unfoldable pub bare : List ℕ → Bool
bare tail = eqb (length tail) 1 && eqb (get_or tail 0 0) 0x7d

-- the metadata's key, a body of at most 65,535 bytes, two braces
unfoldable pub has_body : List ℕ → Bool
has_body tail =
    let n = length tail in
    leb 13 n && (leb n 65548 && (starts_with metadata_key tail && (eqb (get_or tail (n - 2) 0) 0x7d && eqb (get_or tail (n - 1) 0) 0x7d)))

-- 0 for one brace, 1 for metadata, 2 for anything else
unfoldable pub tail_kind : List ℕ → ℕ
tail_kind tail = cond (bare tail) 0 (cond (has_body tail) 1 2)

abbrev pub tail_in : List ℕ → ℕ
tail_in f = tail_kind (drop (stop_of f) f)

abbrev pub has_metadata : List ℕ → Bool
has_metadata f = eqb (tail_in f) 1

-- ---- places

-- the start block stands behind the first event's code; the body behind its key
abbrev pub places_in : List ℕ → Replay → Places
places_in f r = record {
  block_at = first_place (table_of f) + 1;
  block_len = length r.block;
  tail = tail_in f;
  metadata_at = cond (has_metadata f) (stop_of f + 11) 0;
  metadata_len = cond (has_metadata f) (length f - stop_of f - 13) 0;
}

-- ---- the game

-- what the ends say: the first, which the second is like
abbrev pub end_read : Version → List (List ℕ) → End
end_read v [] = no_end
end_read v (bytes ∷ ends) = end_in v bytes

abbrev pub is_double : List (List ℕ) → ℕ
is_double ends = cond (eqb (length ends) 2) 1 0

-- codes are given from 3.3, where 3D is listed
abbrev pub codes_mark : List ℕ → Version → ℕ
codes_mark f v = cond (has_codes v && ltb 0 (gecko_span f)) 1 0

abbrev pub game_read : List ℕ → Replay → Game
game_read f r = let v = version_of f in record {
  frames = frames_read v r.frames;
  start = start_in v r.block;
  end = end_read v r.ends;
  double_end = is_double r.ends;
  codes_given = codes_mark f v;
  metadata_given = cond (has_metadata f) 1 0;
  actual_size = used_in r.codes;
}

-- ---- the stores: those of the frames, and the codes

pub record Kept : Type 0 where
  pub lent : Lent
  pub codes : List ℕ

abbrev pub kept : Lent → List ℕ → Kept
kept l codes = record { lent = l; codes = codes }

abbrev pub kept_read : Version → Replay → Kept
kept_read v r = kept (lent_read v r.frames) (codes_bytes r.codes)

-- how long each of them is
abbrev pub lengths_of : Kept → Lengths
lengths_of k = let c = k.lent.cells in let o = k.lent.offsets in record {
  ids = length c.ids;
  starts = length c.starts;
  pres = length c.pres;
  posts = length c.posts;
  ends = length c.ends;
  items = length c.items;
  fods = length c.fods;
  whispys = length c.whispys;
  stadiums = length c.stadiums;
  item_offsets = length o.items;
  fod_offsets = length o.fods;
  whispy_offsets = length o.whispys;
  stadium_offsets = length o.stadiums;
  presence = length k.lent.presence;
  codes = length k.codes;
}

-- ---- values that say nothing

abbrev pub no_places : Places
no_places = record { block_at = 0; block_len = 0; tail = 0; metadata_at = 0; metadata_len = 0 }

abbrev pub no_lengths : Lengths
no_lengths = record {
  ids = 0;
  starts = 0;
  pres = 0;
  posts = 0;
  ends = 0;
  items = 0;
  fods = 0;
  whispys = 0;
  stadiums = 0;
  item_offsets = 0;
  fod_offsets = 0;
  whispy_offsets = 0;
  stadium_offsets = 0;
  presence = 0;
  codes = 0;
}

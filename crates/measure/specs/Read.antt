-- What `measure` and `read` answer, and what the stores are afterwards.
-- Assumes nothing.
use Rattle.std.specs.Prelude.{ℕ, ◌≡◌, Bool, true, false, cond, List, [], ◌∷◌, ltb, length}
use Rattle.wire.specs.Wire.{splice}
use Rattle.format.specs.Refusal.{one_of}
use Rattle.format.specs.Version.{accepted_of}
use Rattle.format.specs.declared.version.Version.{Version}
use Rattle.game.specs.Zero.{no_frames, no_game}
use Rattle.game.specs.Stores.{lent, cells, offsets}
use Rattle.grammar.specs.Productions.{Replay, used_in}
use Rattle.columns.specs.Columns.{frames_read}
use Rattle.read_judge.specs.Found.{version_of, refusal_offset, Found, too_big}
use Rattle.newer_judge.specs.Opening.{opening_refusal}
use Rattle.measure.specs.Game.{Kept, kept, kept_read, lengths_of, places_in, game_read, codes_mark, no_places, no_lengths}
use Rattle.measure.specs.declared.Measured.{Measured}
use Rattle.measure.specs.declared.Opened.{Opened}

-- ---- answers

-- a newer recorder's game is marked: only what 3.18 knows of it was read
abbrev pub partly_of : Version → ℕ
partly_of v = cond (accepted_of v) 0 1

abbrev pub unmeasured : ℕ → ℕ → Measured
unmeasured number offset = record {
  refused = number;
  partly = 0;
  offset = offset;
  frames = no_frames;
  codes_given = 0;
  actual_size = 0;
  lengths = no_lengths;
  places = no_places;
}

abbrev pub measured_in : List ℕ → Replay → Measured
measured_in f r = let v = version_of f in record {
  refused = 0;
  partly = partly_of v;
  offset = 0;
  frames = frames_read v r.frames;
  codes_given = codes_mark f v;
  actual_size = used_in r.codes;
  lengths = lengths_of (kept_read v r);
  places = places_in f r;
}

abbrev pub unopened : ℕ → ℕ → Opened
unopened number offset = record { refused = number; partly = 0; offset = offset; game = no_game; places = no_places }

abbrev pub opened_in : List ℕ → Replay → Opened
opened_in f r = record { refused = 0; partly = partly_of (version_of f); offset = 0; game = game_read f r; places = places_in f r }

-- ---- stores

-- one is shorter than what is to go there
abbrev pub too_short : List ℕ → List ℕ → Bool
too_short given needed = ltb (length given) (length needed)

unfoldable pub kept_short : Kept → Kept → Bool
kept_short given needed =
    let a = given.lent in
    let b = needed.lent in
    one_of
    (too_short a.cells.ids b.cells.ids
    ∷ too_short a.cells.starts b.cells.starts
    ∷ too_short a.cells.pres b.cells.pres
    ∷ too_short a.cells.posts b.cells.posts
    ∷ too_short a.cells.ends b.cells.ends
    ∷ too_short a.cells.items b.cells.items
    ∷ too_short a.cells.fods b.cells.fods
    ∷ too_short a.cells.whispys b.cells.whispys
    ∷ too_short a.cells.stadiums b.cells.stadiums
    ∷ too_short a.offsets.items b.offsets.items
    ∷ too_short a.offsets.fods b.offsets.fods
    ∷ too_short a.offsets.whispys b.offsets.whispys
    ∷ too_short a.offsets.stadiums b.offsets.stadiums
    ∷ too_short a.presence b.presence
    ∷ too_short given.codes needed.codes
    ∷ [])

-- what is read at the start of each, and the rest as it was
abbrev pub laid_over : List ℕ → List ℕ → List ℕ
laid_over given read = splice given 0 read

unfoldable pub kept_over : Kept → Kept → Kept
kept_over given read =
    let a = given.lent in
    let b = read.lent in
    kept
    (lent
    (cells (laid_over a.cells.ids b.cells.ids) (laid_over a.cells.starts b.cells.starts) (laid_over a.cells.pres b.cells.pres) (laid_over a.cells.posts b.cells.posts)
    (laid_over a.cells.ends b.cells.ends) (laid_over a.cells.items b.cells.items) (laid_over a.cells.fods b.cells.fods) (laid_over a.cells.whispys b.cells.whispys)
    (laid_over a.cells.stadiums b.cells.stadiums))
    (offsets (laid_over a.offsets.items b.offsets.items) (laid_over a.offsets.fods b.offsets.fods) (laid_over a.offsets.whispys b.offsets.whispys)
    (laid_over a.offsets.stadiums b.offsets.stadiums))
    (laid_over a.presence b.presence))
    (laid_over given.codes read.codes)

-- ---- the calls

-- measure: refused before there is a replay; 19 where there is none; 2; or what `read` will need
pub data MeasureOutcome (f : List ℕ) (m : Measured) : Type 0 where
  early : (opening_refusal f ≡ 0 → ⊥) → m ≡ unmeasured (opening_refusal f) (refusal_offset f) → MeasureOutcome f m
  none : opening_refusal f ≡ 0 → (Found f → ⊥) → m ≡ unmeasured 19 0 → MeasureOutcome f m
  big : opening_refusal f ≡ 0 → (x : Found f) → too_big (version_of f) x.replay ≡ true → m ≡ unmeasured 2 0 → MeasureOutcome f m
  found : opening_refusal f ≡ 0 → (x : Found f) → too_big (version_of f) x.replay ≡ false → m ≡ measured_in f x.replay → MeasureOutcome f m

-- read: so too, and 12 for a store that is too short. Where it is refused no store changes
pub data ReadOutcome (f : List ℕ) (given : Kept) (r : Opened) (left : Kept) : Type 0 where
  early : (opening_refusal f ≡ 0 → ⊥) → r ≡ unopened (opening_refusal f) (refusal_offset f) → left ≡ given → ReadOutcome f given r left
  none : opening_refusal f ≡ 0 → (Found f → ⊥) → r ≡ unopened 19 0 → left ≡ given → ReadOutcome f given r left
  big : opening_refusal f ≡ 0 → (x : Found f) → too_big (version_of f) x.replay ≡ true → r ≡ unopened 2 0 → left ≡ given → ReadOutcome f given r left
  short : opening_refusal f ≡ 0 → (x : Found f) → too_big (version_of f) x.replay ≡ false → kept_short given (kept_read (version_of f) x.replay) ≡ true → r ≡ unopened 12 0
      → left ≡ given → ReadOutcome f given r left
  found : opening_refusal f ≡ 0 → (x : Found f) → too_big (version_of f) x.replay ≡ false → kept_short given (kept_read (version_of f) x.replay) ≡ false → r ≡ opened_in f x.replay
      → left ≡ kept_over given (kept_read (version_of f) x.replay) → ReadOutcome f given r left

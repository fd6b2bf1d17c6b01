-- The replay that a file holds (2026-01): the one whose events the reader finds in it. Of a newer recorder's events those that are known are taken (2026-12).
-- Assumes nothing.
use Rattle.std.specs.Prelude.{ℕ, ◌≡◌, Bool, true, not, ◌||◌, List, [], ◌∷◌, eqb, ltb, length, get_or}
use Rattle.format.specs.Event.{code_of}
use Rattle.format.specs.File.{Ev}
use Rattle.format.specs.Refusal.{refuse, lowest}
use Rattle.format.specs.Version.{version, accepted_of}
use Rattle.format.specs.declared.event.Event.TheVariants.{GameStart, GeckoCodes}
use Rattle.format.specs.declared.version.Version.{Version}
use Rattle.head.specs.Table.{all_present, table_of, span_of}
use Rattle.de.specs.Walk.{walk_of}
use Rattle.de.specs.Numbers.{walk_numbers}
use Rattle.de.specs.Cut.{events_read}
use Rattle.frames.specs.Judge.{too_many}
use Rattle.grammar.specs.Productions.{Replay, events_of, used_in, codes_bytes}
use Rattle.grammar.specs.Readable.{Readable}
use Rattle.columns.specs.Columns.{frames_read}
use Rattle.known.specs.Known.{taken}
use Rattle.read_outline.specs.Listed.{listed_right}

-- ---- what is asked before there is a replay

-- the first event is not a GameStart of at least four bytes
unfoldable pub opens_wrong : List Ev → Bool
opens_wrong [] = true
opens_wrong (e ∷ es) = not (eqb e.code (code_of GameStart)) || ltb (length e.payload) 4

-- the version that it says
unfoldable pub version_said : List Ev → Version
version_said [] = version 0 0 0
version_said (e ∷ es) = version (get_or e.payload 0 0) (get_or e.payload 1 0) (get_or e.payload 2 0)

abbrev pub version_of : List ℕ → Version
version_of f = version_said (events_read f)

-- the walk's refusal, 14 to 17; 19 for the first event; 1 for the version
unfoldable pub early_refusal : List ℕ → ℕ
early_refusal f =
    let w = walk_numbers (walk_of f) in
    lowest (refuse w.number (eqb w.kind 1) ∷ refuse 19 (opens_wrong (events_read f)) ∷ refuse 1 (not (accepted_of (version_of f))) ∷ [])

-- the offset of a walk's refusal; 0 for others
abbrev pub refusal_offset : List ℕ → ℕ
refusal_offset f = (walk_numbers (walk_of f)).offset

-- ---- the replay

-- how many bytes an event of code 3D has by the table, its code included; 0 where it is not listed
abbrev pub gecko_span : List ℕ → ℕ
gecko_span f = span_of (code_of GeckoCodes) (table_of f)

-- the event data is whole; its events, as they are taken, are those of a replay that can be read back; 3D is listed as the code blocks say
pub record Found (f : List ℕ) : Type 0 where
  pub replay : Replay
  pub whole : all_present f ≡ true
  pub events_are : taken (version_of f) (events_read f) ≡ events_of (version_of f) replay
  pub readable : Readable (version_of f) replay
  pub listed : listed_right (version_of f) (gecko_span f) (length replay.codes) (used_in replay.codes) ≡ true

-- 2: a count exceeds its maximum
abbrev pub too_big : Version → Replay → Bool
too_big v r = too_many (frames_read v r.frames) (length (codes_bytes r.codes)) 0

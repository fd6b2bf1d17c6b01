-- What stands after the event data, computed: 0 for one brace, 1 for metadata, 2 for anything else, which is not refused.
-- Assumes nothing.
use Prim.Native.Nat.{ℕ}
use mathlib.Core.Path.{◌≡◌, refl}
use mathlib.Core.Bool.{true, false}
use mathlib.Core.List.{List, [], ◌∷◌, ◌++◌, map}
use lib.ListN.{take, replicate}
use Rattle.wire.specs.Wire.{be, more, part, keep}
use Rattle.format.specs.File.{entries_bytes, table_bytes, events_bytes, file_of}
use Rattle.format.specs.Version.{gte_of}
use Rattle.ending.specs.Tail.{metadata_of, tail_of}
use Rattle.grammar.specs.Productions.{start_event, codes_events, events_of_frames, events_of, used_in}
use Rattle.read_outline.specs.Listed.{listed_right}
use Rattle.head.specs.Table.{starts_with, stop_of, entries_in, table_of}
use Rattle.read_judge.specs.Found.{Found}
use Rattle.read_judge.proofs.Opens.{opens_early}
use Rattle.measure.specs.Game.{bare, has_body, tail_kind, places_in}
use Rattle.case_files.proofs.Files.{table, block}
use Rattle.case_files.proofs.Smallest.{empty, empty_readable}

-- one brace; metadata with an empty body, and with one of two bytes; no byte; two braces; metadata without its last brace, and with a byte behind
kinds : map tail_kind
    (tail_of false []
    ∷ tail_of true []
    ∷ tail_of true (0x61 ∷ 0x62 ∷ [])
    ∷ []
    ∷ (0x7d ∷ 0x7d ∷ [])
    ∷ take 12 (tail_of true [])
    ∷ (tail_of true [] ++ (0 ∷ [])) ∷ [])
    ≡ 0 ∷ 1 ∷ 1 ∷ 2 ∷ 2 ∷ 2 ∷ 2 ∷ []
unfolding tail_kind bare has_body starts_with tail_of metadata_of keep
kinds = refl

-- with no tail at all, or with nine stray bytes, the smallest file still holds its replay
abbrev ending : List ℕ → List ℕ
ending tail = file_of table (start_event block ∷ []) tail

found_bare : Found (ending [])
unfolding opens_early codes_events events_of_frames events_of listed_right gte_of used_in
found_bare = record { replay = empty; whole = refl; events_are = refl; readable = empty_readable; listed = refl }

found_stray : Found (ending (replicate 9 1))
unfolding opens_early codes_events events_of_frames events_of listed_right gte_of used_in
found_stray = record { replay = empty; whole = refl; events_are = refl; readable = empty_readable; listed = refl }

places_stray : map (λ (tail : List ℕ). (places_in (ending tail) empty).tail) ([] ∷ replicate 9 1 ∷ []) ≡ 2 ∷ 2 ∷ []
unfolding file_of table_bytes entries_bytes events_bytes be part more starts_with stop_of entries_in table_of tail_kind bare has_body
places_stray = refl

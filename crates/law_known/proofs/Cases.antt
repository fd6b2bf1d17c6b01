-- Computed: at 3.19.7, events with bytes added behind their payloads and unknown ones after each of them; what is none; which versions are newer.
-- Assumes nothing.
use Prim.Native.Nat.{ℕ}
use mathlib.Core.Path.{◌≡◌, refl}
use mathlib.Core.Bool.{true, false}
use mathlib.Core.List.{List, [], ◌∷◌}
use lib.ListN.{replicate}
use Rattle.wire.specs.Wire.{be, keep, more, part}
use Rattle.format.specs.File.{Ev}
use Rattle.format.specs.Refusal.{one_of}
use Rattle.format.specs.Version.{version, above, gte_of, accepted_of}
use Rattle.format.specs.declared.version.Version.{Version}
use Rattle.layout.specs.Columns.{has_family, columns_of, chosen, sum}
use Rattle.layout.specs.Payloads.{end_size}
use Rattle.layout.specs.declared.columns.Family.TheVariants.{Pre, Post, FrameStart, Item, FrameEnd, FodPlatform, DreamlandWhispy, StadiumTransformation}
use Rattle.start.specs.Length.{length_of, reached}
use Rattle.grammar.specs.Productions.{start_event, row_event, block_event, end_event}
use Rattle.grammar.specs.WellFormed.{ascending, nobody, may_precede, may_come}
use Rattle.grammar.specs.Machine.{family_of, is_next, closed, in_frame, player, orderly, allowed, due_after, on_family, rest}
use Rattle.grammar.specs.Whole.{says_version, is_start, is_block, is_last, is_full, blocks_rest, codes_rest, is_end, are_ends, on_some, is_replay}
use Rattle.read_judge.specs.Found.{opens_wrong}
use Rattle.known.specs.Known.{is_newer, is_known, known_size, known_of, taken}
use Rattle.law_known.specs.Made.{last, longer, Extended, none, behind, mixed}

-- ---- versions

first_newer : is_newer (version 3 18 1) ≡ true
unfolding is_newer accepted_of above
first_newer = refl

not_newer : is_newer last ≡ false
unfolding is_newer accepted_of above
not_newer = refl

other_major : is_newer (version 4 0 0) ≡ false
unfolding is_newer accepted_of above
other_major = refl

-- ---- events

abbrev newer : Version
newer = version 3 19 7

-- an event of an unknown code
abbrev odd : Ev
odd = record { code = 0x42; payload = 9 ∷ [] }

-- n bytes more behind each payload, and an unknown event after each event
unfoldable grow : ℕ → List Ev → List Ev
grow n [] = []
grow n (e ∷ es) = longer e (replicate n 7) ∷ odd ∷ grow n es

-- so events are made newer
so : (n : ℕ) (es : List Ev) → Extended es (grow n es)
unfolding grow is_known one_of
so n [] = none
so n (e ∷ es) = behind e (replicate n 7) (mixed odd refl (so n es))

abbrev start : Version → ℕ → Ev
start v n = start_event (v.major ∷ v.minor ∷ v.patch ∷ replicate n 0)

-- a block of codes, a frame of two ports with a row of each family, two ends; each Pre has so many bytes behind its head
abbrev plain : ℕ → List Ev
plain pre =
    block_event 1 (record { bytes = replicate 512 5; used = 8 })
    ∷ row_event FrameStart 5 (replicate 8 1)
    ∷ row_event Pre 5 (0 ∷ 0 ∷ replicate pre 2)
    ∷ row_event Pre 5 (1 ∷ 0 ∷ replicate pre 2)
    ∷ row_event FodPlatform 5 (replicate 5 6)
    ∷ row_event DreamlandWhispy 5 (replicate 1 6)
    ∷ row_event StadiumTransformation 5 (replicate 4 6)
    ∷ row_event Item 5 (replicate 40 6)
    ∷ row_event Post 5 (0 ∷ 0 ∷ replicate 78 3)
    ∷ row_event Post 5 (1 ∷ 0 ∷ replicate 78 3)
    ∷ row_event FrameEnd 5 (replicate 4 4)
    ∷ end_event (replicate 6 0)
    ∷ end_event (replicate 6 0)
    ∷ []

-- the plain events are those of a 3.18.0 replay
plain_reads : is_replay last ascending (start last 757 ∷ plain 60) ≡ true
unfolding be part more is_replay is_start says_version is_block is_last is_full blocks_rest codes_rest on_some is_end are_ends rest on_family family_of allowed orderly closed in_frame player nobody is_next due_after may_come may_precede has_family gte_of above length_of reached end_size columns_of chosen sum
plain_reads = refl

-- ---- at 3.19.7, with bytes behind each payload, the start's too, the plain events are taken, and they are a replay's

one_more : taken newer (start newer 758 ∷ odd ∷ grow 1 (plain 60)) ≡ start newer 758 ∷ plain 60
unfolding grow taken known_of is_known known_size keep one_of accepted_of above be on_family family_of gte_of end_size columns_of chosen sum
one_more = refl

one_reads : is_replay newer ascending (start newer 758 ∷ plain 60) ≡ true
unfolding be part more is_replay is_start says_version is_block is_last is_full blocks_rest codes_rest on_some is_end are_ends rest on_family family_of allowed orderly closed in_frame player nobody is_next due_after may_come may_precede has_family gte_of above length_of reached end_size columns_of chosen sum
one_reads = refl

seven_more : taken newer (start newer 764 ∷ odd ∷ grow 7 (plain 60)) ≡ start newer 764 ∷ plain 60
unfolding grow taken known_of is_known known_size keep one_of accepted_of above be on_family family_of gte_of end_size columns_of chosen sum
seven_more = refl

seven_reads : is_replay newer ascending (start newer 764 ∷ plain 60) ≡ true
unfolding be part more is_replay is_start says_version is_block is_last is_full blocks_rest codes_rest on_some is_end are_ends rest on_family family_of allowed orderly closed in_frame player nobody is_next due_after may_come may_precede has_family gte_of above length_of reached end_size columns_of chosen sum
seven_reads = refl

hundreds_more : taken newer (start newer 1057 ∷ odd ∷ grow 300 (plain 60)) ≡ start newer 1057 ∷ plain 60
unfolding grow taken known_of is_known known_size keep one_of accepted_of above be on_family family_of gte_of end_size columns_of chosen sum
hundreds_more = refl

hundreds_reads : is_replay newer ascending (start newer 1057 ∷ plain 60) ≡ true
unfolding be part more is_replay is_start says_version is_block is_last is_full blocks_rest codes_rest on_some is_end are_ends rest on_family family_of allowed orderly closed in_frame player nobody is_next due_after may_come may_precede has_family gte_of above length_of reached end_size columns_of chosen sum
hundreds_reads = refl

-- ---- what is none

-- events with unknown ones among them, as they are
as_they_are : is_replay newer ascending (start newer 757 ∷ odd ∷ plain 60) ≡ false
unfolding be part more is_replay is_start says_version is_block is_last is_full blocks_rest codes_rest on_some is_end are_ends rest on_family family_of allowed orderly closed in_frame player nobody is_next due_after may_come may_precede has_family gte_of above length_of reached end_size columns_of chosen sum
as_they_are = refl

-- a Pre one byte shorter than 3.18's
short_taken : taken newer (start newer 757 ∷ grow 0 (plain 59)) ≡ start newer 757 ∷ plain 59
unfolding grow taken known_of is_known known_size keep one_of accepted_of above be on_family family_of gte_of end_size columns_of chosen sum
short_taken = refl

short_pre : is_replay newer ascending (start newer 757 ∷ plain 59) ≡ false
unfolding be part more is_replay is_start says_version is_block is_last is_full blocks_rest codes_rest on_some is_end are_ends rest on_family family_of allowed orderly closed in_frame player nobody is_next due_after may_come may_precede has_family gte_of above length_of reached end_size columns_of chosen sum
short_pre = refl

-- 3D and 35 are known codes, and no events of a replay
abbrev known : ℕ → Ev
known code = record { code = code; payload = [] }

kept_3d : taken newer (start newer 757 ∷ known 0x3D ∷ plain 60) ≡ start newer 757 ∷ known 0x3D ∷ plain 60
unfolding grow taken known_of is_known known_size keep one_of accepted_of above be on_family family_of gte_of end_size columns_of chosen sum
kept_3d = refl

none_3d : is_replay newer ascending (start newer 757 ∷ known 0x3D ∷ plain 60) ≡ false
unfolding be part more is_replay is_start says_version is_block is_last is_full blocks_rest codes_rest on_some is_end are_ends rest on_family family_of allowed orderly closed in_frame player nobody is_next due_after may_come may_precede has_family gte_of above length_of reached end_size columns_of chosen sum
none_3d = refl

kept_35 : taken newer (start newer 757 ∷ known 0x35 ∷ plain 60) ≡ start newer 757 ∷ known 0x35 ∷ plain 60
unfolding grow taken known_of is_known known_size keep one_of accepted_of above be on_family family_of gte_of end_size columns_of chosen sum
kept_35 = refl

none_35 : is_replay newer ascending (start newer 757 ∷ known 0x35 ∷ plain 60) ≡ false
unfolding be part more is_replay is_start says_version is_block is_last is_full blocks_rest codes_rest on_some is_end are_ends rest on_family family_of allowed orderly closed in_frame player nobody is_next due_after may_come may_precede has_family gte_of above length_of reached end_size columns_of chosen sum
none_35 = refl

-- an unknown event before GameStart: the first event is asked of the events as they are
odd_first : opens_wrong (odd ∷ start newer 757 ∷ plain 60) ≡ true
unfolding opens_wrong
odd_first = refl

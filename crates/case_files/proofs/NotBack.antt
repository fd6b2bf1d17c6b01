-- 19 because a well-formed replay cannot be read back, a file for each reason: seat types, ids before 2.2, ends. None is refused before.
-- Assumes nothing.
use Prim.Native.Nat.{ℕ, ◌≤◌}
use mathlib.Core.Path.{◌≡◌, refl, sym}
use mathlib.Core.Bool.{true, false}
use mathlib.Core.List.{List, [], ◌∷◌, ◌++◌, head-eq_of_cons-eq}
use native.Mathlib.Omega.{arith}
use lib.Dec.{lit<, lit≤}
use lib.ListN.{replicate}
use Rattle.wire.specs.Wire.{keep}
use Rattle.format.specs.File.{file_of}
use Rattle.format.specs.Version.{version, above, gte_of}
use Rattle.format.proofs.Versions.{no_way}
use Rattle.layout.specs.Columns.{has_family}
use Rattle.layout.specs.Payloads.{end_size}
use Rattle.start.specs.Length.{length_of, reached}
use Rattle.ending.specs.End.{initiator_wrong}
use Rattle.grammar.specs.Productions.{Replay, start_event, pre_event, post_event, end_event, codes_events, events_of_frame, events_of_frames, events_of}
use Rattle.grammar.specs.WellFormed.{Each, ascending, GoodCodes, WellFormed}
use Rattle.grammar.specs.Readable.{Changing, Alike}
use Rattle.case_files.proofs.Files.{Nineteen, entry, table, brace, seated, block, over, old}
use Rattle.case_files.proofs.Taken.{can_be_read}
use Rattle.case_files.proofs.OneFrame.{one_seat, one, frame, good_frame}
use Rattle.read_judge.proofs.Opens.{opens_early}
use Rattle.newer_judge.specs.Opening.{opening_refusal}

-- ---- a seat type of 4

abbrev fourth : Replay
fourth = record { block = seated 0 1 0 4; codes = []; frames = []; ends = [] }

abbrev fourth_file : List ℕ
fourth_file = file_of table (start_event (seated 0 1 0 4) ∷ []) brace

fourth_well : WellFormed (version 0 1 0) ascending fourth
unfolding Each GoodCodes length_of reached gte_of above
fourth_well = record { version = refl; block = lit≤ tt; short = lit< tt; codes = tt; frames = tt; few = lit≤ tt; ends = tt }

seat_four : Nineteen fourth_file
unfolding opens_early opening_refusal codes_events events_of_frames events_of_frame events_of has_family gte_of keep
seat_four = (
  refl,
  λ x.
      let r = can_be_read fourth_file (version 0 1 0) fourth refl fourth_well refl x in
      let n : 4 ≤ 3 = r.seats 0 (lit< tt) in
      absurd (omega arith),
)

-- ---- two ends that are unlike: their methods are 1 and 2

abbrev unlike : Replay
unlike = record { block = block; codes = []; frames = []; ends = (1 ∷ []) ∷ (2 ∷ []) ∷ [] }

unlike_well : WellFormed (version 0 1 0) ascending unlike
unfolding Each GoodCodes length_of reached end_size gte_of above
unlike_well = record { version = refl; block = lit≤ tt; short = lit< tt; codes = tt; frames = tt; few = lit≤ tt; ends = (refl, (refl, tt)) }

ends_unlike : Nineteen (old (over 1 ∷ over 2 ∷ []))
unfolding opens_early opening_refusal codes_events events_of_frames events_of_frame events_of has_family gte_of keep Alike
ends_unlike = (
  refl,
  λ x.
      let r = can_be_read (old (over 1 ∷ over 2 ∷ [])) (version 0 1 0) unlike refl unlike_well refl x in
      let n : ◌≡◌ {A = ℕ} 1 2 = head-eq_of_cons-eq r.alike.0 in
      absurd (omega arith),
)

-- ---- from 2.0, an end whose initiator is 4

abbrev named : Replay
named = record { block = seated 2 0 0 3 ++ replicate 98 0; codes = []; frames = []; ends = (1 ∷ 4 ∷ []) ∷ [] }

abbrev named_file : List ℕ
named_file = file_of (entry 0x36 418 ∷ entry 0x39 2 ∷ []) (start_event (seated 2 0 0 3 ++ replicate 98 0) ∷ end_event (1 ∷ 4 ∷ []) ∷ []) brace

named_well : WellFormed (version 2 0 0) ascending named
unfolding Each GoodCodes length_of reached end_size gte_of above
named_well = record { version = refl; block = lit≤ tt; short = lit< tt; codes = tt; frames = tt; few = lit≤ tt; ends = (refl, tt) }

initiator_four : Nineteen named_file
unfolding opens_early opening_refusal codes_events events_of_frames events_of_frame events_of has_family gte_of keep Each initiator_wrong
initiator_four = (refl, λ x. let r = can_be_read named_file (version 2 0 0) named refl named_well refl x in let n : true ≡ false = (r.initiators refl).0 in no_way (sym n))

-- ---- before 2.2, two neighbouring frames of one id

abbrev again : Replay
again = record { block = one_seat; codes = []; frames = frame ∷ frame ∷ []; ends = [] }

abbrev again_file : List ℕ
again_file =
    file_of table
    (start_event one_seat ∷ pre_event 0xffffff85 one ∷ post_event 0xffffff85 one ∷ pre_event 0xffffff85 one ∷ post_event 0xffffff85 one ∷ []) brace

again_well : WellFormed (version 0 1 0) ascending again
unfolding Each GoodCodes length_of reached gte_of above
again_well = record { version = refl; block = lit≤ tt; short = lit< tt; codes = tt; frames = (good_frame, (good_frame, tt)); few = lit≤ tt; ends = tt }

same_ids : Nineteen again_file
unfolding opens_early opening_refusal codes_events events_of_frames events_of_frame events_of has_family gte_of keep Changing
same_ids = (refl, λ x. ((can_be_read again_file (version 0 1 0) again refl again_well refl x).changing refl).0 refl)

-- The reader's worked cases, computed: 0.1.0 with a start block of 320 bytes and nothing else, and that file cut at 28, 29, 349 and 350;
-- the same with a length that was never filled in, and with one that is too small.
-- Assumes nothing.
use Prim.Native.Nat.{ℕ}
use mathlib.Core.Path.{◌≡◌, refl}
use mathlib.Core.Bool.{true, false}
use mathlib.Core.List.{List, [], ◌∷◌, map}
use lib.ListN.{length, take, replicate}
use Rattle.wire.specs.Wire.{be, more, part, splice}
use Rattle.format.specs.Refusal.{lowest}
use Rattle.format.specs.File.{Entry, entries_bytes, table_bytes, events_bytes, file_of}
use Rattle.head.specs.Table.{starts_with, declared, stop_of, all_present, entries_in, table_of, span_of, code_twice, table_missing, unsigned, untabled, head_refusal}
use Rattle.head.specs.Step.{event_in, step_in, step_of}
use Rattle.de.specs.Walk.{run, walk_of}
use Rattle.de.specs.Cut.{zeroed}
use Rattle.de.specs.declared.Walked.TheVariants.{Done, Refused}

entry : ℕ → ℕ → Entry
entry c n = record { code = c; size = n }

file : List ℕ
file =
    file_of (entry 0x36 320 ∷ entry 0x37 58 ∷ entry 0x38 33 ∷ entry 0x39 1 ∷ [])
    (record { code = 0x36; payload = 0 ∷ 1 ∷ replicate 318 0 } ∷ []) (0x7d ∷ [])

lengths : declared file ∷ length file ∷ [] ≡ 335 ∷ 351 ∷ []
unfolding file entry file_of table_bytes entries_bytes events_bytes be part more
lengths = refl

-- uncut, and cut at 28, 29, 349 and 350
cases : map walk_of (file ∷ take 28 file ∷ take 29 file ∷ take 349 file ∷ take 350 file ∷ [])
    ≡ Done 1 0 true 350 ∷ Refused 15 15 ∷ Done 0 0 false 29 ∷ Done 0 320 false 29 ∷ Done 1 0 true 350 ∷ []
unfolding file entry file_of table_bytes entries_bytes events_bytes be part more lowest starts_with stop_of all_present entries_in table_of span_of code_twice table_missing unsigned untabled head_refusal event_in step_in step_of run walk_of
cases = refl

-- its length zeroed: cut at 28, 29, 349 and 350, and uncut, where its tail's byte is judged as an event
unfilled : map (λ (n : ℕ). walk_of (take n (zeroed file))) (28 ∷ 29 ∷ 349 ∷ 350 ∷ 351 ∷ [])
    ≡ Refused 15 15 ∷ Done 0 0 false 29 ∷ Done 0 320 false 29 ∷ Done 1 0 false 350 ∷ Refused 16 350 ∷ []
unfolding file entry file_of table_bytes entries_bytes events_bytes be part more lowest starts_with stop_of all_present entries_in table_of span_of code_twice table_missing unsigned untabled head_refusal event_in step_in step_of run walk_of zeroed splice
unfilled = refl

-- a length of 1, of one byte less than the table has, and of the table's bytes
too_small : map (λ (n : ℕ). walk_of (splice file 11 (be 4 n))) (1 ∷ 13 ∷ 14 ∷ []) ≡ Refused 15 15 ∷ Refused 15 15 ∷ Done 0 0 true 29 ∷ []
unfolding file entry file_of table_bytes entries_bytes events_bytes be part more lowest starts_with stop_of all_present entries_in table_of span_of code_twice table_missing unsigned untabled head_refusal event_in step_in step_of run walk_of splice
too_small = refl

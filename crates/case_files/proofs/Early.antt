-- What is asked of a file before there is a replay: its number, computed for small files.
-- Assumes nothing.
use Prim.Native.Nat.{ℕ}
use mathlib.Core.Path.{◌≡◌, refl, ap}
use mathlib.Core.List.{List, [], ◌∷◌, map}
use lib.ListN.{get_or, take}
use Rattle.wire.specs.Wire.{be, splice}
use Rattle.format.specs.File.{Ev, file_of}
use Rattle.de.specs.Walk.{walk_of}
use Rattle.read_judge.specs.Found.{early_refusal, refusal_offset}
use Rattle.newer_judge.specs.Opening.{opening_refusal}
use Rattle.case_files.proofs.Files.{entry, brace}
use Rattle.de.proofs.Opens.{opens_steps}
use Rattle.read_judge.proofs.Opens.{opens_early}

abbrev event : ℕ → List ℕ → Ev
event c bytes = record { code = c; payload = bytes }

abbrev start : ℕ → ℕ → ℕ → Ev
start a b c = event 0x36 (a ∷ b ∷ c ∷ 0 ∷ [])

-- files whose table lists a start of four bytes and an end of one
abbrev small : List Ev → List ℕ
small es = file_of (entry 0x36 4 ∷ entry 0x39 1 ∷ []) es brace

-- 14: a file of no byte, and one of 14
short_file : map opening_refusal ([] ∷ take 14 (small (start 0 1 0 ∷ [])) ∷ []) ≡ 14 ∷ 14 ∷ []
unfolding opens_early opening_refusal
short_file = refl

-- 15: cut before the table is whole; a code that is listed twice
no_table : map opening_refusal (take 15 (small (start 0 1 0 ∷ [])) ∷ file_of (entry 0x36 4 ∷ entry 0x36 4 ∷ []) (start 0 1 0 ∷ []) brace ∷ []) ≡ 15 ∷ 15 ∷ []
unfolding opens_early opening_refusal
no_table = refl

-- 16: a code that the table lacks, wherever it stands: behind a start; behind a first event that is no start, which would be 19; behind a start of 4.0.0, which would be 1
unlisted_code : map opening_refusal
    (small (start 0 1 0 ∷ event 0x37 (0 ∷ []) ∷ [])
    ∷ small (event 0x39 (0 ∷ []) ∷ event 0x37 (0 ∷ []) ∷ [])
    ∷ small (start 4 0 0 ∷ event 0x37 (0 ∷ []) ∷ []) ∷ [])
    ≡ 16 ∷ 16 ∷ 16 ∷ []
unfolding opens_early opening_refusal
unlisted_code = refl

-- the offset is that of the code: the table ends at 23, and an event of two bytes stands before it
abbrev pub unlisted : List ℕ
unlisted = small (event 0x39 (0 ∷ []) ∷ event 0x37 (0 ∷ []) ∷ [])

pub unlisted_is : opening_refusal unlisted ≡ 16
unlisted_is = ap (λ (l : List ℕ). get_or l 1 0) unlisted_code

pub unlisted_place : refusal_offset unlisted ≡ 25
unfolding opens_steps walk_of
unlisted_place = refl

-- 17: the declared length is that of the table and of all bytes of the start but the last; with the last, it is not refused
past_the_length : map (λ (n : ℕ). opening_refusal (splice (small (start 0 1 0 ∷ [])) 11 (be 4 n))) (12 ∷ 13 ∷ []) ≡ 17 ∷ 0 ∷ []
unfolding opens_early opening_refusal splice
past_the_length = refl

-- 19: no event; a first event that is no start; a start of three bytes
opens_wrong_lem : map opening_refusal
    (small []
    ∷ small (event 0x39 (0 ∷ []) ∷ start 0 1 0 ∷ [])
    ∷ file_of (entry 0x36 3 ∷ []) (event 0x36 (0 ∷ 1 ∷ 0 ∷ []) ∷ []) brace ∷ [])
    ≡ 19 ∷ 19 ∷ 19 ∷ []
unfolding opens_early opening_refusal
opens_wrong_lem = refl

-- 1: a version whose major number is above 3; those above 3.18.0 are not refused before there is a replay
too_new_lem : map (λ (e : Ev). opening_refusal (small (e ∷ []))) (start 4 0 0 ∷ start 255 0 0 ∷ start 3 18 1 ∷ start 3 19 0 ∷ start 3 18 0 ∷ start 3 17 255 ∷ start 0 1 0 ∷ [])
    ≡ 1 ∷ 1 ∷ 0 ∷ 0 ∷ 0 ∷ 0 ∷ 0 ∷ []
unfolding opens_early opening_refusal
too_new_lem = refl

-- the check refuses a version above 3.18.0, by any of its numbers; 3.18.0 it does not
too_new_to_check : map (λ (e : Ev). early_refusal (small (e ∷ []))) (start 3 18 1 ∷ start 3 19 0 ∷ start 4 0 0 ∷ start 3 18 0 ∷ start 3 17 255 ∷ start 0 1 0 ∷ [])
    ≡ 1 ∷ 1 ∷ 1 ∷ 0 ∷ 0 ∷ 0 ∷ []
unfolding opens_early
too_new_to_check = refl

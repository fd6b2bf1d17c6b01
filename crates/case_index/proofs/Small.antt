-- Small files, computed: an index with an id twice, each refusal, a cut, and lookups.
-- Assumes nothing.
use Prim.Native.Nat.{ℕ, ◌<◌}
use mathlib.Core.Path.{◌≡◌, refl}
use mathlib.Core.Bool.{false}
use mathlib.Core.List.{List, [], ◌∷◌, map}
use borrow.Author.Tests.{lt-ltb}
use lib.ListN.{length, take, set}
use Rattle.wire.specs.Wire.{be, more, part, splice, keep}
use Rattle.format.specs.Refusal.{lowest}
use Rattle.format.specs.Version.{above, gte_of}
use Rattle.format.specs.File.{Entry, Ev, file_of}
use Rattle.head.specs.Table.{starts_with}
use Rattle.de.specs.Walk.{walk_of}
use Rattle.de.specs.Numbers.{walk_numbers}
use Rattle.de.specs.Cut.{events_read}
use Rattle.read_judge.specs.Found.{opens_wrong, version_said, refusal_offset}
use Rattle.index_form.specs.Form.{row_bytes, rows_bytes, index_bytes, bad_index}
use Rattle.index_form.specs.Find.{last_among, no_moment, moment_in}
use Rattle.index_passes.specs.Rows.{index_rows, rows_in, index_in, far}
use Rattle.index_calls.specs.Index.{short_start, unindexed, too_large, replay_refusal, write_refusal, same_bytes, accept_refusal}
use Rattle.de.proofs.Opens.{opens_steps}

entry : ℕ → ℕ → Entry
entry c n = record { code = c; size = n }

event : ℕ → List ℕ → Ev
event c bytes = record { code = c; payload = bytes }

-- frames 7, 8 and 7 again, of a version
file : ℕ → ℕ → List ℕ
file major minor =
    file_of (entry 0x36 4 ∷ entry 0x3A 4 ∷ [])
    (event 0x36 (major ∷ minor ∷ 0 ∷ 0 ∷ []) ∷ event 0x3A (0 ∷ 0 ∷ 0 ∷ 7 ∷ []) ∷ event 0x3A (0 ∷ 0 ∷ 0 ∷ 8 ∷ []) ∷ event 0x3A (0 ∷ 0 ∷ 0 ∷ 7 ∷ []) ∷ []) (0x7d ∷ [])

-- its index
index : List ℕ
index = 0x53 ∷ 0x50 ∷ 0x58 ∷ 0 ∷ 1 ∷ 0 ∷ 0 ∷ 0 ∷ 3 ∷ 0 ∷ 0 ∷ 0 ∷ 7 ∷ 0 ∷ 0 ∷ 0 ∷ 28 ∷ 0 ∷ 0 ∷ 0 ∷ 8 ∷ 0 ∷ 0 ∷ 0 ∷ 33 ∷ 0 ∷ 0 ∷ 0 ∷ 7 ∷ 0 ∷ 0 ∷ 0 ∷ 38 ∷ []

index_is : index_in (file 2 2) ≡ index
unfolding opens_steps file entry event index row_bytes rows_bytes index_bytes index_rows keep
index_is = refl

-- its length zeroed, cut at the end of the events; with its length, cut there, a byte before, at the end of the second FrameStart, a byte before, and before the first
cuts : length (rows_in (take 43 (splice (file 3 19) 11 (0 ∷ 0 ∷ 0 ∷ 0 ∷ [])))) ∷ map (λ (n : ℕ). length (rows_in (take n (file 3 19)))) (43 ∷ 42 ∷ 38 ∷ 37 ∷ 28 ∷ []) ≡ 3 ∷ 3 ∷ 2 ∷ 2 ∷ 1 ∷ 0 ∷ []
unfolding opens_steps file entry event index_rows keep splice
cuts = refl

-- none; under 15 bytes; a cut table; a code that is not listed; an event that overruns; 2.1; a version above 3.18; the GameStart is cut; a FrameStart first; a FrameStart of three bytes, listed and then present
numbers : map replay_refusal (file 2 2 ∷ take 14 (file 2 2) ∷ take 20 (file 2 2) ∷ set (file 2 2) 33 0x11 ∷ splice (file 2 2) 11 (be 4 27) ∷ file 2 1 ∷ file 4 0 ∷ take 27 (file 2 2) ∷ set (file 2 2) 23 0x3A
    ∷ file_of (entry 0x36 4 ∷ entry 0x3A 3 ∷ []) (event 0x36 (2 ∷ 2 ∷ 0 ∷ 0 ∷ []) ∷ []) [] ∷ file_of (entry 0x36 4 ∷ entry 0x3A 3 ∷ []) (event 0x36 (2 ∷ 2 ∷ 0 ∷ 0 ∷ []) ∷ event 0x3A (0 ∷ 0 ∷ 0 ∷ []) ∷ []) [] ∷ [])
    ≡ 0 ∷ 14 ∷ 15 ∷ 16 ∷ 17 ∷ 24 ∷ 0 ∷ 24 ∷ 24 ∷ 0 ∷ 24 ∷ []
unfolding opens_steps file entry event walk_of index_rows keep splice replay_refusal unindexed too_large short_start far opens_wrong version_said events_read above gte_of
numbers = refl

-- with their offsets
offsets : map refusal_offset (file 2 2 ∷ take 20 (file 2 2) ∷ set (file 2 2) 33 0x11 ∷ splice (file 2 2) 11 (be 4 27) ∷ file 2 1 ∷ []) ≡ 0 ∷ 15 ∷ 33 ∷ 38 ∷ 0 ∷ []
unfolding opens_steps file entry event walk_of splice
offsets = refl

-- the output just long enough, and a byte short
rooms : map (write_refusal (file 2 2)) (33 ∷ 32 ∷ 0 ∷ []) ≡ 0 ∷ 12 ∷ 12 ∷ []
unfolding opens_steps file entry event walk_of index_rows keep replay_refusal unindexed too_large short_start far opens_wrong version_said events_read above gte_of write_refusal row_bytes rows_bytes index_bytes
rooms = refl

-- its own; a byte short; mark, version and count changed; an id and an offset changed
accepted : map (accept_refusal (file 2 2)) (index ∷ take 32 index ∷ set index 2 0x59 ∷ set index 4 2 ∷ set index 8 2 ∷ set index 12 9 ∷ set index 16 29 ∷ []) ≡ 0 ∷ 25 ∷ 25 ∷ 25 ∷ 25 ∷ 26 ∷ 26 ∷ []
unfolding opens_steps file entry event index walk_of index_rows keep replay_refusal unindexed too_large short_start far opens_wrong version_said events_read above gte_of accept_refusal bad_index same_bytes row_bytes rows_bytes index_bytes
accepted = refl

-- the last row of an id that is there twice, one that is there once, one that is not, and no index
lookups : moment_in index 7 ∷ moment_in index 8 ∷ moment_in index 9 ∷ moment_in (take 32 index) 7 ∷ []
    ≡ record { refused = 0; row = 2; offset = 38; id = 7 } ∷ record { refused = 0; row = 1; offset = 33; id = 8 } ∷ no_moment 27 ∷ no_moment 25 ∷ []
unfolding index part more starts_with bad_index last_among moment_in
lookups = refl

-- over 1,048,576 frames, or an offset over 32 bits: 2, once nothing before it applies
too_many_lem : (f : List ℕ) → (walk_numbers (walk_of f)).number ≡ 0 → unindexed f ≡ false → 1048576 < length (rows_in f) → replay_refusal f ≡ 2
unfolding replay_refusal too_large lowest
too_many_lem f w u h = rw (w, u, lt-ltb 1048576 (length (rows_in f)) h)

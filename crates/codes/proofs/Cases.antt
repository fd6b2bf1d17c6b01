-- Worked examples of code blocks, as computed tables.
-- Assumes nothing.
use mathlib.Core.Path.{◌≡◌, refl}
use mathlib.Core.Bool.{true, false}
use mathlib.Core.List.{List, [], ◌∷◌, map}
use Prim.Native.Nat.{ℕ}
use Rattle.wire.specs.Wire.{tabulate}
use Rattle.format.specs.Version.{version, above, gte_of}
use Rattle.codes.specs.Blocks.{block_count, used, last_flag, codes_wrong}

-- the lengths and the flags of all blocks
abbrev lengths : ℕ → List ℕ
lengths actual = tabulate (block_count actual) (used actual)

abbrev flags : ℕ → List ℕ
flags actual = tabulate (block_count actual) (last_flag actual)

block_counts : map block_count (0 ∷ 1 ∷ 512 ∷ 513 ∷ 1024 ∷ 65536 ∷ 16777216 ∷ []) ≡ 0 ∷ 1 ∷ 1 ∷ 2 ∷ 2 ∷ 128 ∷ 32768 ∷ []
unfolding block_count
block_counts = refl

all_lengths : map lengths (0 ∷ 1 ∷ 512 ∷ 513 ∷ 1024 ∷ []) ≡ [] ∷ (1 ∷ []) ∷ (512 ∷ []) ∷ (512 ∷ 1 ∷ []) ∷ (512 ∷ 512 ∷ []) ∷ []
unfolding block_count used tabulate
all_lengths = refl

all_flags : map flags (0 ∷ 1 ∷ 512 ∷ 513 ∷ 1024 ∷ []) ≡ [] ∷ (1 ∷ []) ∷ (1 ∷ []) ∷ (0 ∷ 1 ∷ []) ∷ (0 ∷ 1 ∷ []) ∷ []
unfolding block_count last_flag tabulate
all_flags = refl

-- of the 128 blocks of 65,536 bytes: the second to last and the last
last_flags : map (last_flag 65536) (126 ∷ 127 ∷ []) ≡ 0 ∷ 1 ∷ []
unfolding block_count last_flag
last_flags = refl

-- codes before 3.3; none given; too few, just right and too many bytes for an actual size of 1, and of 0
wrong_codes :
    codes_wrong (version 3 2 9) true [] 0
    ∷ codes_wrong (version 3 2 9) false (7 ∷ []) 0
    ∷ codes_wrong (version 3 3 0) true [] 1
    ∷ codes_wrong (version 3 3 0) true [] 0
    ∷ codes_wrong (version 3 3 0) true (7 ∷ []) 0
    ∷ []
    ≡ true ∷ false ∷ true ∷ false ∷ true ∷ []
unfolding codes_wrong block_count gte_of above
wrong_codes = refl

-- What a function promises of a player's bits in neighbouring frames.
-- Assumes nothing.
use Rattle.std.specs.Prelude.{ℕ, zero, suc, ◌+◌, ◌*◌, ◌/◌, ◌%◌, ◌^◌, List, get_or, set}

-- the bit of frame i in a block of presence bytes
abbrev pub bit_at : ℕ → ℕ → ℕ → List ℕ → List ℕ
bit_at block frames i xs = let j = block * ((frames + 7) / 8) + i / 8 in set xs j ((get_or xs j 0 + 2 ^ (i % 8)) % 256)

-- the bits of n frames from frame i on
unfoldable pub bits_put : ℕ → ℕ → ℕ → ℕ → List ℕ → List ℕ
bits_put block frames zero i xs = xs
bits_put block frames (suc n) i xs = bit_at block frames (i + n) (bits_put block frames n i xs)

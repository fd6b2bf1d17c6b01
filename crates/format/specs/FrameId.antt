-- Frame ids: from -123 on.
-- Assumes nothing.
use Rattle.std.specs.Prelude.{ℕ, ◌+◌, ◌-◌, Bool, cond, ltb, ℤ, pos, negsuc}
use Rattle.std.specs.Int.Signed.{le_z}

-- the first id and the last
abbrev pub first_index : ℤ
first_index = negsuc 122

abbrev pub last_index : ℤ
last_index = pos 1048452

abbrev pub in_range : ℤ → Bool
in_range i = cond (le_z first_index i) (le_z i last_index) (le_z first_index i)

-- how far an id stands from the first; 1,048,576, the number of them all, for one out of range
unfoldable pub place_of : ℤ → ℕ
place_of (pos n) = cond (ltb 1048452 n) 1048576 (n + 123)
place_of (negsuc n) = cond (ltb 122 n) 1048576 (122 - n)

-- Marks: a byte that says yes or no. 0 is no, anything else is yes.
-- Assumes nothing.
use Rattle.std.specs.Prelude.{ℕ, Bool, not, cond, eqb}

abbrev pub no : ℕ → Bool
no mark = eqb mark 0

abbrev pub yes : ℕ → Bool
yes mark = not (no mark)

-- a mark that says whether: 1 or 0
abbrev pub mark_if : Bool → ℕ
mark_if b = cond b 1 0

-- a mark as it is written: 1 for yes, 0 for no
abbrev pub flag_of : ℕ → ℕ
flag_of mark = cond (yes mark) 1 0

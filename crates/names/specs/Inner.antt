-- What the functions promise each other: texts in one list of bytes, each a line with a line end behind it.
-- Assumes nothing.
use Rattle.std.specs.Prelude.{ℕ, zero, suc, ◌+◌, cond, List, [], ◌∷◌, eqb, ltb, length, drop, get_or}
use Rattle.layout.specs.declared.columns.Family.{Family}
use Rattle.names.specs.Bytes.{bytes, filled}
use Rattle.names.specs.Names.{called_in, unsigned_cells}
use Rattle.names.specs.declared.columns.Called.{Called}

-- the bytes before the first line end, or all of them
unfoldable pub first_line : List ℕ → List ℕ
first_line [] = []
first_line (b ∷ bs) = cond (eqb b 10) [] (b ∷ first_line bs)

-- what stands from line n on
unfoldable pub lines_from : ℕ → List ℕ → List ℕ
lines_from zero xs = xs
lines_from (suc n) xs = lines_from n (drop (length (first_line xs) + 1) xs)

unfoldable pub line : ℕ → List ℕ → List ℕ
line n xs = first_line (lines_from n xs)

-- what a list of lines says of a number: its line, or what is said of every number past the last
unfoldable pub unknown : List ℕ
unknown = bytes "for a reason that is not known here"

unfoldable pub said : List ℕ → ℕ → ℕ → List ℕ
said list last n = cond (ltb last n) unknown (line n list)

-- a column by its line: its kind, a space, its name
unfoldable pub called_as : List ℕ → Called
called_as l = record { kind = get_or l 0 0; name = filled 32 (drop 2 l) }

unfoldable pub called_of : Family → ℕ → Called
called_of f n = let c = get_or (called_in f) n (unsigned_cells "") in record { kind = c.kind; name = filled 32 (bytes c.name) }

-- What the runs of the cases promise: their rows have the table's numbers.
-- Assumes nothing.
use Rattle.std.specs.Prelude.{ℕ, ◌+◌, ◌≡◌, cond, List, [], ◌∷◌, eqb, length, take}
use Rattle.format.specs.File.{Ev}
use Rattle.game.specs.declared.Game.{Game}
use Rattle.game.specs.Stores.{Stores}
use Rattle.ser.specs.Write.{file, refusal, left}
use Rattle.case_table.specs.Table.{writes}
use Rattle.case_calls.specs.declared.row.Row.{Row}

abbrev pub shown : Row → List ℕ
shown r = take r.len r.numbers

-- a game was written, or refused, and its row says so
pub record WriteRow (g : Game) (s : Stores) (out : List ℕ) (r : Row) (out' : List ℕ) : Type 0 where
  pub numbers_are : shown r ≡ writes g s (length out)
  pub out_is : out' ≡ left (refusal g s (length out)) out (file g s)

-- how many events have a code
unfoldable pub count_code : ℕ → List Ev → ℕ
count_code c [] = 0
count_code c (e ∷ es) = cond (eqb e.code c) 1 0 + count_code c es

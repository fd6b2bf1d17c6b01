-- The rows of a run: rows a up to b of one family and slot, as cells, row after row.
-- Assumes nothing.
use Rattle.std.specs.Prelude.{ℕ, ◌+◌, ◌*◌, ◌-◌, ◌≡◌, Bool, true, false, cond, List, [], ◌∷◌, ◌++◌, ltb, leb, length, get_or}
use Rattle.wire.specs.Wire.{splice, ranged, keep, tabulate}
use Rattle.format.specs.Refusal.{Refusal, refuse, lowest, one_of}
use Rattle.format.specs.declared.version.Version.{Version}
use Rattle.layout.specs.Columns.{widths_of}
use Rattle.layout.specs.declared.columns.Family.{Family}
use Rattle.layout.specs.declared.columns.Family.TheVariants.{Pre, Post, FrameStart, Item, FrameEnd, FodPlatform, DreamlandWhispy, StadiumTransformation}
use Rattle.game.specs.Frames.{rows_of, slot_blocks}
use Rattle.game.specs.Stores.{Lent, families, cells_of}
use Rattle.game.specs.declared.frames.Frames.{Frames}
use Rattle.frames.specs.Judge.{refusals}
use Rattle.transpose.specs.Records.{mark_at}
use Rattle.transpose.specs.Answers.{unless_refused}
use Rattle.rows_run.specs.declared.run.Run.{Run}

-- the families are numbered by their stores
abbrev pub family_at : ℕ → Family
family_at n = get_or families n StadiumTransformation

-- the families whose rows are a player's
abbrev pub of_players : Family → Bool
of_players Pre = true
of_players Post = true
of_players FrameStart = false
of_players Item = false
of_players FrameEnd = false
of_players FodPlatform = false
of_players DreamlandWhispy = false
of_players StadiumTransformation = false

-- how many cells a row has: one a column of the version, and for a player's row one more, the mark
abbrev pub row_length : Version → Family → ℕ
row_length v family = length (widths_of family v) + cond (of_players family) 1 0

-- a row's cells in column order, and the mark behind those of a player's row
unfoldable pub run_row : Frames → Family → (cells presence : List ℕ) → ℕ → ℕ → List ℕ
run_row f family cells presence slot index =
    let columns = length (widths_of family f.version) in
    tabulate columns (λ k. get_or cells ((slot * columns + k) * rows_of f family + index) 0)
    ++ keep (of_players family) (mark_at f presence slot index ∷ [])

-- the rows from a on and before b
abbrev pub run_cells : Frames → Lent → Family → ℕ → ℕ → ℕ → List ℕ
run_cells f s family slot a b = ranged (run_row f family (cells_of s.cells family) s.presence slot) a (b - a)

abbrev pub run_length : Frames → Family → ℕ → ℕ → ℕ
run_length f family a b = (b - a) * row_length f.version family

-- 13: no such family, no such slot (families without players have slot 0), or a range that is reversed or goes past the rows
unfoldable pub no_run : Frames → ℕ → ℕ → ℕ → ℕ → Bool
no_run f number slot a b = one_of (ltb 7 number ∷ leb (slot_blocks f (family_at number)) slot ∷ ltb b a ∷ ltb (rows_of f (family_at number)) b ∷ [])

-- 1 to 7 as a game is refused, then 13, then 12: a store that is too short
abbrev pub run_refusals : Frames → Lent → ℕ → ℕ → ℕ → ℕ → ℕ → List Refusal
run_refusals f s number slot a b room =
    refusals f s 0 0 ++ (refuse 13 (no_run f number slot a b) ∷ refuse 12 (ltb room (run_length f (family_at number) a b)) ∷ [])

unfoldable pub rows_run_refusal : Frames → Lent → ℕ → ℕ → ℕ → ℕ → ℕ → ℕ
rows_run_refusal f s number slot a b room = lowest (run_refusals f s number slot a b room)

-- the answer: a refusal's number, or 0 and how many cells there are
abbrev pub run_answer : ℕ → ℕ → Run
run_answer refused cells = record { refused = refused; len = unless_refused refused cells 0 }

-- what is answered and what the store has afterwards: the rows' cells at its start and nothing else changed, or all as it was
pub record RowsOutcome (f : Frames) (s : Lent) (number slot a b : ℕ) (out : List ℕ) (r : Run) (out' : List ℕ) : Type 0 where
  pub answer_is : r ≡ run_answer (rows_run_refusal f s number slot a b (length out)) (run_length f (family_at number) a b)
  pub out_is : out' ≡ unless_refused (rows_run_refusal f s number slot a b (length out)) (splice out 0 (run_cells f s (family_at number) slot a b)) out

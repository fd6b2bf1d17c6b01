-- No second outcome of a run fits, and every input has one.
-- Assumes nothing.
use mathlib.Core.Path.{◌≡◌, refl, sym, ◌∙◌}
use mathlib.Core.List.{List}
use Prim.Native.Nat.{ℕ}
use lib.ListN.{length}
use Rattle.wire.specs.Wire.{splice}
use Rattle.game.specs.Stores.{Lent}
use Rattle.game.specs.declared.frames.Frames.{Frames}
use Rattle.transpose.specs.Answers.{unless_refused}
use Rattle.rows_run.specs.Run.{family_at, run_length, run_cells, rows_run_refusal, run_answer, RowsOutcome}
use Rattle.rows_run.specs.declared.run.Run.{Run}

module _ (f : Frames) (s : Lent) (number slot a b : ℕ) (out : List ℕ) where
  pub only : (q r : Run) (x y : List ℕ) → RowsOutcome f s number slot a b out q x → RowsOutcome f s number slot a b out r y → (q ≡ r) × (x ≡ y)
  only q r x y h k = (h.answer_is ∙ sym k.answer_is, h.out_is ∙ sym k.out_is)

  pub some : RowsOutcome f s number slot a b out (run_answer (rows_run_refusal f s number slot a b (length out)) (run_length f (family_at number) a b))
      (unless_refused (rows_run_refusal f s number slot a b (length out)) (splice out 0 (run_cells f s (family_at number) slot a b)) out)
  some = record { answer_is = refl; out_is = refl }

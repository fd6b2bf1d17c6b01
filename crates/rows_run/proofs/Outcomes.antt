-- From the arms of a family to any family, and from what was put to what the call answers.
-- Assumes nothing.
use mathlib.Core.Path.{◌≡◌, sym, ap, subst, ◌∙◌}
use mathlib.Core.Bool.{false}
use mathlib.Core.List.{List, []}
use Prim.Native.Nat.{ℕ, ◌-◌}
use native.Mathlib.Omega.{arith}
use lib.ListN.{length}
use Rattle.wire.specs.Wire.{Room, Wrote, ranged}
use Rattle.wire.proofs.Writers.{room_as, wrote_as}
use Rattle.layout.specs.declared.columns.Family.{Family}
use Rattle.game.specs.Stores.{Cells, Lent, cells_of}
use Rattle.game.specs.declared.frames.Frames.{Frames}
use Rattle.transpose.specs.Answers.{unless_refused}
use Rattle.transpose.proofs.Shown.{given_none, given_row}
use Rattle.rows_run.specs.Run.{family_at, of_players, run_length, run_row, run_cells, rows_run_refusal, RowsOutcome}
use Rattle.rows_run.specs.Inner.{Running}
use Rattle.rows_run.proofs.Runs.{plain_any, length_rows}
use Rattle.rows_run.proofs.Judged.{run_room, running}

module _ (f : Frames) (c : Cells) (family k : Family) (slot a : ℕ) (e : family ≡ k) where
  pub arm_running : {b : ℕ} → Running f family (cells_of c family) slot a b → Running f k (cells_of c k) slot a b
  arm_running {b} h = subst (λ (x : Family). Running f x (cells_of c x) slot a b) e h

  module _ (presence out : List ℕ) (n : ℕ) where
    pub arm_room : Room out 0 (ranged (run_row f family (cells_of c family) presence slot) a n) → Room out 0 (ranged (run_row f k (cells_of c k) presence slot) a n)
    arm_room h = subst (λ (x : Family). Room out 0 (ranged (run_row f x (cells_of c x) presence slot) a n)) e h

    pub arm_wrote : {after : List ℕ} {r : ℕ} → Wrote out after 0 r (ranged (run_row f k (cells_of c k) presence slot) a n)
        → Wrote out after 0 r (ranged (run_row f family (cells_of c family) presence slot) a n)
    arm_wrote {after} {r} h = subst (λ (x : Family). Wrote out after 0 r (ranged (run_row f x (cells_of c x) presence slot) a n)) (sym e) h

    -- without players
    pub plain_room : of_players k ≡ false → Room out 0 (ranged (run_row f family (cells_of c family) presence slot) a n) → Room out 0 (ranged (run_row f k (cells_of c k) [] slot) a n)
    plain_room q h = room_as (plain_any f k (cells_of c k) presence [] slot a n q) (arm_room h)

    pub plain_wrote : {after : List ℕ} {r : ℕ} → of_players k ≡ false → Wrote out after 0 r (ranged (run_row f k (cells_of c k) [] slot) a n)
        → Wrote out after 0 r (ranged (run_row f family (cells_of c family) presence slot) a n)
    plain_wrote q h = arm_wrote (wrote_as (plain_any f k (cells_of c k) [] presence slot a n q) h)

-- ---- the public call
module _ (f : Frames) (s : Lent) (number slot a b : ℕ) (out : List ℕ) where
  pub refused_run : {n : ℕ} → n ≡ rows_run_refusal f s number slot a b (length out) → (n ≡ 0 → ⊥) → RowsOutcome f s number slot a b out (record { refused = n; len = 0 }) out
  refused_run {n} e ne =
      let no : rows_run_refusal f s number slot a b (length out) ≡ 0 → ⊥ = λ z. ne (e ∙ z) in
      let none : ◌≡◌ {A = ℕ} 0 (unless_refused (rows_run_refusal f s number slot a b (length out)) (run_length f (family_at number) a b) 0) = given_none (rows_run_refusal f s number slot a b (length out)) (run_length f (family_at number) a b) 0 no in
      record {
        answer_is = λ i. record { refused = e i; len = none i };
        out_is = given_none _ _ _ no;
      }

  module _ (z : rows_run_refusal f s number slot a b (length out) ≡ 0) (family : Family) (e : family ≡ family_at number) where
    stored : cells_of s.cells family ≡ cells_of s.cells (family_at number)
    stored = ap (cells_of s.cells) e

    same_rows : ranged (run_row f family (cells_of s.cells family) s.presence slot) a (b - a) ≡ run_cells f s (family_at number) slot a b
    same_rows =
        ap (λ (xs : List ℕ). ranged (run_row f family xs s.presence slot) a (b - a)) stored
        ∙ ap (λ (k : Family). ranged (run_row f k (cells_of s.cells (family_at number)) s.presence slot) a (b - a)) e

    rows_length : length (run_cells f s (family_at number) slot a b) ≡ run_length f (family_at number) a b
    rows_length = length_rows f (family_at number) (cells_of s.cells (family_at number)) s.presence slot a (b - a)

    pub run_running : Running f family (cells_of s.cells family) slot a b
    run_running = rw (stored, e) (running f s number slot a b (length out) z)

    pub run_has_room : Room out 0 (ranged (run_row f family (cells_of s.cells family) s.presence slot) a (b - a))
    run_has_room = room_as (sym same_rows) (record { fits = omega (arith, rows_length, run_room f s number slot a b (length out) z) })

    pub written_run : {after : List ℕ} {r : ℕ} → Wrote out after 0 r (ranged (run_row f family (cells_of s.cells family) s.presence slot) a (b - a))
        → RowsOutcome f s number slot a b out (record { refused = 0; len = r }) after
    written_run {after} {r} w =
        let put = wrote_as same_rows w in
        let len : r ≡ run_length f (family_at number) a b = omega (arith, put.next_is, rows_length) in
        let shown : r ≡ unless_refused (rows_run_refusal f s number slot a b (length out)) (run_length f (family_at number) a b) 0 = len ∙ given_row (rows_run_refusal f s number slot a b (length out)) (run_length f (family_at number) a b) 0 z in
        record {
          answer_is = λ i. record { refused = sym z i; len = shown i };
          out_is = put.after_is ∙ given_row _ _ _ z;
        }

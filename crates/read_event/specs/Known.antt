-- What functions promise each other of what is known before the pass: the widths of several families in one table.
-- Assumes nothing.
use Rattle.std.specs.Prelude.{ℕ, ◌-◌, ◌≤◌, List, length, take, drop}
use Rattle.read_event.specs.Parts.{RowPlan, row_plan}
use Rattle.read_event.specs.declared.known.Borders.{Borders}
use Rattle.read_event.specs.declared.known.Known.{Known}

-- from one index of a table to another
abbrev pub between : List ℕ → ℕ → ℕ → List ℕ
between ws a b = take (b - a) (drop a ws)

-- each family's widths begin where those before them end
pub record Parted (b : Borders) (ws : List ℕ) : Type 0 where
  pub end : b.start ≤ b.end
  pub item : b.end ≤ b.item
  pub fod : b.item ≤ b.fod
  pub whispy : b.fod ≤ b.whispy
  pub stadium : b.whispy ≤ b.stadium
  pub inside : b.stadium ≤ length ws

abbrev pub plan_in : Known → List ℕ → RowPlan
plan_in k ws =
    let b = k.borders in
    row_plan (take b.start ws) (between ws b.start b.end) (between ws b.end b.item) (between ws b.item b.fod) (between ws b.fod b.whispy)
    (between ws b.whispy b.stadium) k.course.start k.item k.stage k.course.counts

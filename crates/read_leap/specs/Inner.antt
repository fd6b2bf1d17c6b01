-- What functions promise each other of eight frames a step apart that have players' events alone between FrameStart and FrameEnd.
-- Assumes nothing.
use Rattle.std.specs.Prelude.{ℕ, zero, suc, ◌+◌, ◌*◌, ◌≤◌, ◌<◌, ◌≡◌, Bool, true, cond, List, get_or, drop}
use Rattle.record.specs.Record.{read_back}
use Rattle.read_event.specs.Inner.{told_at, marked, offset_marked}
use Rattle.read_event.specs.Alike.{Same, Ahead}
use Rattle.read_event.specs.Parts.{SomeBy, LeftBy, RowPlan, RowSpans, Rowing, go_rows}
use Rattle.read_event.specs.declared.seen.Seen.{Seen}
use Rattle.read_event.specs.declared.spans.Spans.{Spans}

-- ---- n frames into their stores, the first of which is the n-th

unfoldable pub ids_put : List ℕ → ℕ → ℕ → ℕ → ℕ → List ℕ → List ℕ
ids_put file at step zero n xs = xs
ids_put file at step (suc t) n xs = marked true (n + t) (told_at file (at + t * step)).id (ids_put file at step t n xs)

-- no frame of them has a row of a family with offsets, so that its offsets are one number
unfoldable pub offsets_put : Bool → ℕ → ℕ → ℕ → List ℕ → List ℕ
offsets_put on zero n k xs = xs
offsets_put on (suc t) n k xs = offset_marked on (n + t) k (offsets_put on t n k xs)

unfoldable pub rows_put : List ℕ → List ℕ → ℕ → ℕ → ℕ → List ℕ → ℕ → ℕ → List ℕ
rows_put ws file at step zero cells stride row = cells
rows_put ws file at step (suc t) cells stride row = read_back ws (drop (at + t * step + 5) file) (rows_put ws file at step t cells stride row) stride (row + t)

-- the id of the frame that began last
unfoldable pub last_id : List ℕ → ℕ → ℕ → ℕ → ℕ → ℕ
last_id file at step zero id = id
last_id file at step (suc n) id = (told_at file (at + n * step)).id

-- what was seen then
abbrev pub seen_then : List ℕ → ℕ → ℕ → Bool → ℕ → Seen → Seen
seen_then file at step on n s =
    let x = s.next in
    record {
      opened = record { frames = s.opened.frames + n; id = last_id file at step n s.opened.id };
      next = record { starts = x.starts + n; ends = cond on (x.ends + n) x.ends; items = x.items; fods = x.fods; whispys = x.whispys; stadiums = x.stadiums };
    }

-- ---- what is found of them

-- the events of each of them from its FrameStart to a place bring these stores nothing
pub record Quiet (z : Spans) (file : List ℕ) (at stop step e : ℕ) : Type 0 where
  pub some : SomeBy z file e stop
  pub inside : e ≤ at + step
  pub leads : (t : ℕ) → t < 8 → (q : RowPlan) → RowSpans z q → q.has_start ≡ true → (x all : Rowing) → LeftBy (go_rows q) z file (at + z.start + t * step) stop x all
      → LeftBy (go_rows q) z file (e + t * step) stop x all

-- there the next frame begins, or a FrameEnd stands
pub record Leapt (z : Spans) (start : Bool) (file : List ℕ) (at stop step was frames e : ℕ) : Type 0 where
  pub ahead : Ahead z start file at stop step (was + 1) frames
  pub quiet : Quiet z file at stop step e
  pub code : e < at + step → get_or file e 0 ≡ 0x3C
  pub same : e < at + step → Same file step e
  pub end : e < at + step → e + z.end ≡ at + step

-- and the stores have their rows
pub record Leaps (z : Spans) (start : Bool) (file : List ℕ) (at stop step : ℕ) (s : Seen) (frames e : ℕ) : Type 0 where
  pub leapt : Leapt z start file at stop step s.opened.frames frames e
  pub modest : s.opened.frames ≤ 1048576
  pub starts : s.next.starts + 8 ≤ frames
  pub ends : s.next.ends + 8 ≤ frames

-- The laws of the columns of a version: six lists of widths in one table are a plan's.
-- Assumes nothing.
use mathlib.Core.Path.{◌≡◌, refl, sym, ap, subst, ◌∙◌}
use mathlib.Core.List.{List, [], ◌++◌, append_assoc, append-nil}
use Prim.Native.Nat.{ℕ, ◌+◌, ◌-◌, ◌≤◌}
use native.Mathlib.Omega.{arith}
use lib.ListN.{length, take, drop, replicate, length-replicate}
use lib.Seq.{take_at, drop_at, length-take-le}
use Rattle.wire.specs.Wire.{Wrote}
use Rattle.wire.proofs.Laws.{splice_is}
use Rattle.wire.proofs.Writers.{wrote_then, wrote_as, wrote_length}
use Rattle.format.specs.File.{Ev}
use Rattle.format.specs.declared.version.Version.{Version}
use Rattle.layout.specs.Columns.{has_family, widths_of}
use Rattle.layout.specs.declared.columns.Family.TheVariants.{FrameStart, Item, FrameEnd, FodPlatform, DreamlandWhispy, StadiumTransformation}
use Rattle.game.specs.declared.frames.Frames.{Frames}
use Rattle.read_event.specs.Inner.{Plan, plan_of, spans_of}
use Rattle.read_event.specs.Known.{between, plan_in}
use Rattle.read_event.specs.Parts.{Rows, RowPlan, RowSpans, RowRooms, rows_run, row_plan_of}
use Rattle.read_event.specs.declared.known.Borders.{Borders}
use Rattle.read_event.specs.declared.known.Known.{Known}
use Rattle.read_event.specs.declared.spans.Spans.{Spans}
use Rattle.read_lists.specs.Inner.{Tabled}

-- ---- the table

-- what was written first stands there
wrote_first : {t u : List ℕ} {p q : ℕ} (x rest : List ℕ) → Wrote t u p q (x ++ rest) → q ≤ length t → (n : ℕ) → n ≡ p + length x → between u p n ≡ x
wrote_first {t} {u} {p} {q} x rest w h n e =
    let room : p + length (x ++ rest) ≤ length t = omega (arith, w.next_is, h) in
    let u-is : u ≡ take p t ++ ((x ++ rest) ++ drop (p + length (x ++ rest)) t) = w.after_is ∙ splice_is t p (x ++ rest) room in
    let d-is : drop p u ≡ x ++ (rest ++ drop (p + length (x ++ rest)) t) =
    ap (drop p) u-is ∙ drop_at (take p t) ((x ++ rest) ++ drop (p + length (x ++ rest)) t) p (length-take-le p t (omega (arith, room))) ∙ append_assoc x rest (drop (p + length (x ++ rest)) t) in
    let m : length x ≡ n - p = omega (arith, e) in
    ap (take (n - p)) d-is ∙ take_at x (rest ++ drop (p + length (x ++ rest)) t) (n - p) m

first_of : (u : List ℕ) (n : ℕ) (x : List ℕ) → between u 0 n ≡ x → take n u ≡ x
first_of u n x e =
    let a : n ≡ n - 0 = omega arith in
    let d : u ≡ drop 0 u = sym (drop_at [] u 0 refl) in
    ap (λ (k : ℕ). take k u) a ∙ ap (take (n - 0)) d ∙ e

pub table_long : (at : ℕ) → 192 ≤ length (replicate 192 at)
table_long at = rw (length-replicate 192 at) (omega arith)

module _ (v : Version) (b : Borders) {t0 t1 t2 t3 t4 t5 t6 : List ℕ}
    (w1 : Wrote t0 t1 0 b.start (widths_of FrameStart v)) (w2 : Wrote t1 t2 b.start b.end (widths_of FrameEnd v)) (w3 : Wrote t2 t3 b.end b.item (widths_of Item v))
    (w4 : Wrote t3 t4 b.item b.fod (widths_of FodPlatform v)) (w5 : Wrote t4 t5 b.fod b.whispy (widths_of DreamlandWhispy v))
    (w6 : Wrote t5 t6 b.whispy b.stadium (widths_of StadiumTransformation v)) (room : b.stadium ≤ length t0) where
  pub tabled : Tabled v b t6
  tabled =
      let r6 : Wrote t5 t6 b.whispy b.stadium (widths_of StadiumTransformation v ++ []) = wrote_as (sym (append-nil (widths_of StadiumTransformation v))) w6 in
      let r5 = wrote_then w5 r6 in
      let r4 = wrote_then w4 r5 in
      let r3 = wrote_then w3 r4 in
      let r2 = wrote_then w2 r3 in
      let r1 = wrote_then w1 r2 in
      let l1 = wrote_length w1 in
      let l2 = wrote_length w2 in
      let l3 = wrote_length w3 in
      let l4 = wrote_length w4 in
      let l5 = wrote_length w5 in
      let l6 = wrote_length w6 in
      record {
        parted = record {
          end = omega (arith, w2.next_is);
          item = omega (arith, w3.next_is);
          fod = omega (arith, w4.next_is);
          whispy = omega (arith, w5.next_is);
          stadium = omega (arith, w6.next_is);
          inside = omega (arith, l1, l2, l3, l4, l5, l6, room);
        };
        start = first_of t6 b.start _ (wrote_first _ _ r1 room b.start w1.next_is);
        end = wrote_first _ _ r2 (omega (arith, l1, room)) _ w2.next_is;
        item = wrote_first _ _ r3 (omega (arith, l1, l2, room)) _ w3.next_is;
        fod = wrote_first _ _ r4 (omega (arith, l1, l2, l3, room)) _ w4.next_is;
        whispy = wrote_first _ _ r5 (omega (arith, l1, l2, l3, l4, room)) _ w5.next_is;
        stadium = wrote_first _ _ r6 (omega (arith, l1, l2, l3, l4, l5, room)) _ w6.next_is;
      }

-- ---- the plan

pub row_plan_is : (f : Frames) (k : Known) (ws : List ℕ) → Tabled f.version k.borders ws
    → k.course.start ≡ has_family f.version FrameStart → k.item ≡ has_family f.version Item → k.stage ≡ has_family f.version FodPlatform → k.course.counts ≡ f.counts
    → plan_in k ws ≡ row_plan_of (plan_of f)
row_plan_is f k ws l a b c d = λ i. record {
  start = l.start i;
  end = l.end i;
  item = l.item i;
  fod = l.fod i;
  whispy = l.whispy i;
  stadium = l.stadium i;
  has_start = a i;
  has_item = b i;
  has_stage = c i;
  counts = d i;
}

pub row_spans_are : (p : Plan) (z : Spans) (q : RowPlan) → z ≡ spans_of p → q ≡ row_plan_of p → RowSpans z q
row_spans_are p z q e d = subst (RowSpans z) (sym d) (record {
  start = ap (λ (x : Spans). x.start) e;
  end = ap (λ (x : Spans). x.end) e;
  item = ap (λ (x : Spans). x.item) e;
  fod = ap (λ (x : Spans). x.fod) e;
  whispy = ap (λ (x : Spans). x.whispy) e;
  stadium = ap (λ (x : Spans). x.stadium) e;
})

pub row_rooms_as : (q p : RowPlan) (w : Rows) → q ≡ p → RowRooms p w → RowRooms q w
row_rooms_as q p w e = subst (λ (x : RowPlan). RowRooms x w) (sym e)

pub rows_run_as : (q p : RowPlan) (es : List Ev) (w : Rows) → q ≡ p → rows_run q es w ≡ rows_run p es w
rows_run_as q p es w e = ap (λ (x : RowPlan). rows_run x es w) e

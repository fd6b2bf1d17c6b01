-- The laws of events that begin no frame: which do not where the version has no FrameStart, and that one of a player brings the stores that are no player's nothing.
-- Assumes nothing.
use mathlib.Core.Path.{◌≡◌, sym, ◌∙◌}
use mathlib.Core.Bool.{Bool, true, false, ◌&&◌}
use Prim.Native.Nat.{ℕ, ◌≤◌, ◌<◌}
use native.Mathlib.Omega.{arith}
use borrow.Author.Tests.{eqb-true, eq-eqb, ne_eqb}
use lib.Dec.{eqb}
use Rattle.read_event.specs.Inner.{Told, opens, next_after}
use Rattle.read_event.specs.Parts.{Rows, RowPlan, first_by, rowing, go_rows}
use Rattle.read_event.specs.declared.seen.Open.{Open}
use Rattle.read_event.specs.declared.seen.Seen.{Seen}
use Rattle.read_event.proofs.Leaves.{opened_off, mark_off, first_other}
use Rattle.read_event.proofs.Dispatch.{quiet_row, quiet_next}

-- without a FrameStart only a Pre of another id begins a frame
module _ (start : Bool) (frames : ℕ) (o : Open) (code id : ℕ) where
  pub stay_other : start ≡ false → (code ≡ 0x37 → ⊥) → opens start frames o code id ≡ false
  stay_other e n = sym (first_other start frames o code id e n)

  pub stay_same : start ≡ false → code ≡ 0x37 → (o.frames ≡ 0 → ⊥) → {r : ℕ} → r ≡ id → eqb r o.id ≡ true → opens start frames o code id ≡ false
  unfolding opens
  stay_same e c n {r} i h =
      let same : o.id ≡ id = sym (eqb-true r o.id h) ∙ i in
      rw (e, eq-eqb code 0x37 c, ne_eqb o.frames 0 n, eq-eqb o.id id same)

and_off : (a b : Bool) → a ≡ false → (a && b) ≡ false
and_off a b e = rw e

pub player_quiet : (q : RowPlan) (s : Seen) (w : Rows) (t : Told) → (t.code < 0x3A) × (first_by q.has_start q.counts.frames s.opened t ≡ false) → rowing s w ≡ go_rows q (rowing s w) t
unfolding go_rows next_after
player_quiet q s w t (h, f) =
    let k = q.counts in
    let m = s.next in
    let n = s.opened.frames in
    let code = t.code in
    let op = opened_off (first_by q.has_start k.frames s.opened t) t.id s.opened f in
    let ids = mark_off (first_by q.has_start k.frames s.opened t) n t.id w.ids f in
    let off : (x : ℕ) → 0x3A ≤ x → code ≡ x → ⊥ = λ x g c. omega (arith, h, g, c) in
    let starts = quiet_row code 0x3A (off 0x3A (omega arith)) q.start t.body k.frames m.starts w.starts in
    let ends = quiet_row code 0x3C (off 0x3C (omega arith)) q.end t.body k.frames m.ends w.ends in
    let items = quiet_row code 0x3B (off 0x3B (omega arith)) q.item t.body k.items m.items w.items in
    let fods = quiet_row code 0x3F (off 0x3F (omega arith)) q.fod t.body k.fods m.fods w.fods in
    let whispys = quiet_row code 0x40 (off 0x40 (omega arith)) q.whispy t.body k.whispys m.whispys w.whispys in
    let stadiums = quiet_row code 0x41 (off 0x41 (omega arith)) q.stadium t.body k.stadiums m.stadiums w.stadiums in
    let a = quiet_next code 0x3A (off 0x3A (omega arith)) k.frames m.starts in
    let b = quiet_next code 0x3C (off 0x3C (omega arith)) k.frames m.ends in
    let c = quiet_next code 0x3B (off 0x3B (omega arith)) k.items m.items in
    let d = quiet_next code 0x3F (off 0x3F (omega arith)) k.fods m.fods in
    let g = quiet_next code 0x40 (off 0x40 (omega arith)) k.whispys m.whispys in
    let j = quiet_next code 0x41 (off 0x41 (omega arith)) k.stadiums m.stadiums in
    let on = first_by q.has_start k.frames s.opened t in
    let item = mark_off (on && q.has_item) n _ w.item_offsets (and_off on q.has_item f) in
    let fod = mark_off (on && q.has_stage) n _ w.fod_offsets (and_off on q.has_stage f) in
    let whispy = mark_off (on && q.has_stage) n _ w.whispy_offsets (and_off on q.has_stage f) in
    let stadium = mark_off (on && q.has_stage) n _ w.stadium_offsets (and_off on q.has_stage f) in
    λ i. record {
      seen = record { opened = op i; next = record { starts = a i; ends = b i; items = c i; fods = d i; whispys = g i; stadiums = j i } };
      rows = record {
        ids = ids i;
        starts = starts i;
        ends = ends i;
        items = items i;
        fods = fods i;
        whispys = whispys i;
        stadiums = stadiums i;
        item_offsets = item i;
        fod_offsets = fod i;
        whispy_offsets = whispy i;
        stadium_offsets = stadium i;
      };
    }

use mathlib.Core.Path.{sym, ◌∙◌}
use native.Mathlib.Omega.{arith}
use lib.Seq.{length-take-le}
use Rattle.read_event.proofs.Dispatch.{quiet_row, next_starts, next_ends, next_items, next_stage}
use Rattle.read_event.proofs.rows.put_rows.Goals as goal

pub slice_bounds-put_row-end : goal.slice_bounds-put_row-end
slice_bounds-put_row-end c = let p = c.requires.1 in sym (length-take-le _ _ (omega (arith, p.end, p.item, p.fod, p.whispy, p.stadium, p.inside)))

pub put_row-row-requires : goal.put_row-row-requires
put_row-row-requires c = let h = c.requires in (h.0, h.2.0, h.2.1)

pub returns-then-code-eq-FRAME_START : goal.returns-then-code-eq-FRAME_START
returns-then-code-eq-FRAME_START c =
    let code = c.args.code in
    let e = c.if-code-eq-FRAME_START.true in
    let r = c.put_row-row.ensures in (
      next_starts _ _ _ e r.1,
      r.0,
      quiet_row code 0x3C (λ z. absurd (omega (arith, e, z))) _ _ _ _ _,
      quiet_row code 0x3B (λ z. absurd (omega (arith, e, z))) _ _ _ _ _,
      quiet_row code 0x3F (λ z. absurd (omega (arith, e, z))) _ _ _ _ _,
      quiet_row code 0x40 (λ z. absurd (omega (arith, e, z))) _ _ _ _ _,
      quiet_row code 0x41 (λ z. absurd (omega (arith, e, z))) _ _ _ _ _,
    )

pub slice_bounds-put_row-count : goal.slice_bounds-put_row-count
slice_bounds-put_row-count c = let p = c.requires.1 in omega (arith, p.end, p.item, p.fod, p.whispy, p.stadium, p.inside)

pub slice_bounds-put_row-start : goal.slice_bounds-put_row-start
slice_bounds-put_row-start c = let p = c.requires.1 in omega (arith, p.end, p.item, p.fod, p.whispy, p.stadium, p.inside)

pub slice_bounds-put_row-end-then-code-eq-FRAME_END : goal.slice_bounds-put_row-end-then-code-eq-FRAME_END
slice_bounds-put_row-end-then-code-eq-FRAME_END c = let p = c.requires.1 in omega (arith, p.end, p.item, p.fod, p.whispy, p.stadium, p.inside)

pub put_row-row-requires-then-code-eq-FRAME_END : goal.put_row-row-requires-then-code-eq-FRAME_END
put_row-row-requires-then-code-eq-FRAME_END c = let h = c.requires in (h.0, h.3.0, h.3.1)

pub returns-then-code-eq-FRAME_END : goal.returns-then-code-eq-FRAME_END
returns-then-code-eq-FRAME_END c =
    let code = c.args.code in
    let e = c.if-code-eq-FRAME_END.true in
    let r = c.put_row-row-then-code-eq-FRAME_END.ensures in (
      next_ends _ _ _ e r.1,
      quiet_row code 0x3A (λ z. absurd (omega (arith, e, z))) _ _ _ _ _,
      r.0,
      quiet_row code 0x3B (λ z. absurd (omega (arith, e, z))) _ _ _ _ _,
      quiet_row code 0x3F (λ z. absurd (omega (arith, e, z))) _ _ _ _ _,
      quiet_row code 0x40 (λ z. absurd (omega (arith, e, z))) _ _ _ _ _,
      quiet_row code 0x41 (λ z. absurd (omega (arith, e, z))) _ _ _ _ _,
    )

pub slice_bounds-put_row-count-then-code-eq-ITEM : goal.slice_bounds-put_row-count-then-code-eq-ITEM
slice_bounds-put_row-count-then-code-eq-ITEM c = let p = c.requires.1 in omega (arith, p.end, p.item, p.fod, p.whispy, p.stadium, p.inside)

pub slice_bounds-put_row-start-then-code-eq-ITEM : goal.slice_bounds-put_row-start-then-code-eq-ITEM
slice_bounds-put_row-start-then-code-eq-ITEM c = let p = c.requires.1 in omega (arith, p.end, p.item, p.fod, p.whispy, p.stadium, p.inside)

pub slice_bounds-put_row-end-then-code-eq-ITEM : goal.slice_bounds-put_row-end-then-code-eq-ITEM
slice_bounds-put_row-end-then-code-eq-ITEM c = let p = c.requires.1 in omega (arith, p.end, p.item, p.fod, p.whispy, p.stadium, p.inside)

pub put_row-row-requires-then-code-eq-ITEM : goal.put_row-row-requires-then-code-eq-ITEM
put_row-row-requires-then-code-eq-ITEM c = let h = c.requires in (h.0, h.4.0, h.4.1)

pub returns-then-code-eq-ITEM : goal.returns-then-code-eq-ITEM
returns-then-code-eq-ITEM c =
    let code = c.args.code in
    let e = c.if-code-eq-ITEM.true in
    let r = c.put_row-row-then-code-eq-ITEM.ensures in (
      next_items _ _ _ e r.1,
      quiet_row code 0x3A (λ z. absurd (omega (arith, e, z))) _ _ _ _ _,
      quiet_row code 0x3C (λ z. absurd (omega (arith, e, z))) _ _ _ _ _,
      r.0,
      quiet_row code 0x3F (λ z. absurd (omega (arith, e, z))) _ _ _ _ _,
      quiet_row code 0x40 (λ z. absurd (omega (arith, e, z))) _ _ _ _ _,
      quiet_row code 0x41 (λ z. absurd (omega (arith, e, z))) _ _ _ _ _,
    )

pub put_stage-requires : goal.put_stage-requires
put_stage-requires c = let h = c.requires in (h.0, h.1, h.5, h.6, h.7)

pub returns : goal.returns
returns c =
    let a = c.if-code-eq-FRAME_START.false in
    let b = c.if-code-eq-FRAME_END.false in
    let d = c.if-code-eq-ITEM.false in
    let r = c.put_stage.ensures in
    (r.0 ∙ next_stage _ _ _ a b d, quiet_row _ 0x3A a _ _ _ _ _, quiet_row _ 0x3C b _ _ _ _ _, quiet_row _ 0x3B d _ _ _ _ _, r.1, r.2, r.3)

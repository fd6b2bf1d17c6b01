use mathlib.Core.Path.{ap, ◌∙◌}
use mathlib.Core.Bool.{cond}
use Prim.Native.Nat.{ℕ, ◌<◌}
use native.Mathlib.Omega.{arith}
use Rattle.transpose.specs.Records.{mark_at}
use Rattle.transpose.proofs.Marks.{asked}
use Rattle.transpose.proofs.Shown.{shown_row, shown_none, one_or_zero}
use Rattle.transpose.proofs.fetch.mark_at.Goals as goal
use Rattle.transpose.proofs.fetch.mark_at.Goals.{After-slots_of-s}

pub returns-then-not-shown : goal.returns-then-not-shown
returns-then-not-shown c = shown_none _ _ _ c.if-not-shown.true

pub slots_of-s-requires : goal.slots_of-s-requires
slots_of-s-requires c = let h = c.requires c.if-not-shown.false in (h.modest, h.even)

-- the slot is one of those held
held : (c : After-slots_of-s) → c.args.slot < c.slots_of-s.result.count
held c = omega (arith, (c.requires c.if-not-shown.false).slot_in, c.slots_of-s.ensures.count)

pub offset_bounds-s-slot : goal.offset_bounds-s-slot
offset_bounds-s-slot c = omega (arith, held c, c.slots_of-s.ensures.few)

pub bounds-s-slot : goal.bounds-s-slot
bounds-s-slot c = omega (arith, held c, c.slots_of-s.ensures.few, c.slots_of-s.ensures.eight.at)

pub offset_bounds-s-slot-2 : goal.offset_bounds-s-slot-2
offset_bounds-s-slot-2 c = omega (arith, held (goal.at.offset_bounds-s-slot-2 c).After-slots_of-s, c.slots_of-s.ensures.few)

pub bounds-s-slot-2 : goal.bounds-s-slot-2
bounds-s-slot-2 c = omega (arith, held (goal.at.bounds-s-slot-2 c).After-slots_of-s, c.slots_of-s.ensures.few, c.slots_of-s.ensures.eight.len)

pub returns : goal.returns
unfolding mark_at
returns c =
    c.from.ensures ∙ one_or_zero _ ∙ ap (λ b. cond {A = ℕ} b 1 0) (asked _ _ _ _ c.slots_of-s.result c.slots_of-s.ensures (held (goal.at.returns c).After-slots_of-s) c.is_present.ensures)
    ∙ shown_row _ _ _ c.if-not-shown.false

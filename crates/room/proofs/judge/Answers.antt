-- `room::judge` meets its contract: each test that is passed leaves the answer to those after it.
use mathlib.Core.Path.{sym, ap, ◌∙◌}
use borrow.Author.Tests.{lt-ltb, le-ltb}
use Rattle.format.proofs.Refusals.{skip, here, none}
use Rattle.frames.specs.Judge.{too_new}
use Rattle.room.specs.Room.{room_refusals}
use Rattle.room.proofs.Laws.{many_as}
use Rattle.room.proofs.judge.Goals as goal

pub returns-then-too_new : goal.returns-then-too_new
unfolding room_refusals
returns-then-too_new c =
    here _ _ _ (sym (c.too_new.ensures ∙ ap too_new c.input-f.ensures) ∙ c.if-too_new.true)

pub returns-then-too_many : goal.returns-then-too_many
unfolding room_refusals
returns-then-too_many c =
    skip _ _ _ _ (sym (c.too_new.ensures ∙ ap too_new c.input-f.ensures) ∙ c.if-too_new.false)
    (here _ _ _ (sym (many_as c.args.p _ _ _ c.input-f.ensures c.too_many.ensures) ∙ c.if-too_many.true))

pub returns-then-p-gt-MAX_SLOTS : goal.returns-then-p-gt-MAX_SLOTS
unfolding room_refusals
returns-then-p-gt-MAX_SLOTS c =
    skip _ _ _ _ (sym (c.too_new.ensures ∙ ap too_new c.input-f.ensures) ∙ c.if-too_new.false)
    (skip _ _ _ _ (sym (many_as c.args.p _ _ _ c.input-f.ensures c.too_many.ensures) ∙ c.if-too_many.false)
    (here _ _ _ (lt-ltb _ _ c.if-p-gt-MAX_SLOTS.true)))

pub returns-then-block_wrong : goal.returns-then-block_wrong
unfolding room_refusals
returns-then-block_wrong c =
    skip _ _ _ _ (sym (c.too_new.ensures ∙ ap too_new c.input-f.ensures) ∙ c.if-too_new.false)
    (skip _ _ _ _ (sym (many_as c.args.p _ _ _ c.input-f.ensures c.too_many.ensures) ∙ c.if-too_many.false)
    (skip _ _ _ _ (le-ltb _ _ c.if-p-gt-MAX_SLOTS.false)
    (here _ _ _ (sym c.block_wrong.ensures ∙ c.if-block_wrong.true))))

pub returns : goal.returns
unfolding room_refusals
returns c =
    skip _ _ _ _ (sym (c.too_new.ensures ∙ ap too_new c.input-f.ensures) ∙ c.if-too_new.false)
    (skip _ _ _ _ (sym (many_as c.args.p _ _ _ c.input-f.ensures c.too_many.ensures) ∙ c.if-too_many.false)
    (skip _ _ _ _ (le-ltb _ _ c.if-p-gt-MAX_SLOTS.false)
    (skip _ _ _ _ (sym c.block_wrong.ensures ∙ c.if-block_wrong.false) none)))

-- Each test that is passed leaves the answer to those after it.
use mathlib.Core.Path.{sym, ◌∙◌}
use Rattle.format.proofs.Refusals.{skip, here, none}
use Rattle.frames.specs.Judge.{refusals}
use Rattle.frames.proofs.Accepted.{counted}
use Rattle.frames.proofs.judge.judge.Goals as goal

pub returns-then-too_new : goal.returns-then-too_new
unfolding refusals
returns-then-too_new c =
    here _ _ _ (sym c.too_new.ensures ∙ c.if-too_new.true)

pub returns-then-too_many : goal.returns-then-too_many
unfolding refusals
returns-then-too_many c =
    skip _ _ _ _ (sym c.too_new.ensures ∙ c.if-too_new.false)
    (here _ _ _ (sym c.too_many.ensures ∙ c.if-too_many.true))

pub returns-then-stores_misfit : goal.returns-then-stores_misfit
unfolding refusals
returns-then-stores_misfit c =
    skip _ _ _ _ (sym c.too_new.ensures ∙ c.if-too_new.false)
    (skip _ _ _ _ (sym c.too_many.ensures ∙ c.if-too_many.false)
    (here _ _ _ (sym c.stores_misfit.ensures ∙ c.if-stores_misfit.true)))

pub returns-then-cells_exceed : goal.returns-then-cells_exceed
unfolding refusals
returns-then-cells_exceed c =
    skip _ _ _ _ (sym c.too_new.ensures ∙ c.if-too_new.false)
    (skip _ _ _ _ (sym c.too_many.ensures ∙ c.if-too_many.false)
    (skip _ _ _ _ (sym c.stores_misfit.ensures ∙ c.if-stores_misfit.false)
    (here _ _ _ (sym c.cells_exceed.ensures ∙ c.if-cells_exceed.true))))

pub returns-then-offsets_mislead : goal.returns-then-offsets_mislead
unfolding refusals
returns-then-offsets_mislead c =
    skip _ _ _ _ (sym c.too_new.ensures ∙ c.if-too_new.false)
    (skip _ _ _ _ (sym c.too_many.ensures ∙ c.if-too_many.false)
    (skip _ _ _ _ (sym c.stores_misfit.ensures ∙ c.if-stores_misfit.false)
    (skip _ _ _ _ (sym c.cells_exceed.ensures ∙ c.if-cells_exceed.false)
    (here _ _ _ (sym c.offsets_mislead.ensures ∙ c.if-offsets_mislead.true)))))

pub returns-then-presence_wrong : goal.returns-then-presence_wrong
unfolding refusals
returns-then-presence_wrong c =
    skip _ _ _ _ (sym c.too_new.ensures ∙ c.if-too_new.false)
    (skip _ _ _ _ (sym c.too_many.ensures ∙ c.if-too_many.false)
    (skip _ _ _ _ (sym c.stores_misfit.ensures ∙ c.if-stores_misfit.false)
    (skip _ _ _ _ (sym c.cells_exceed.ensures ∙ c.if-cells_exceed.false)
    (skip _ _ _ _ (sym c.offsets_mislead.ensures ∙ c.if-offsets_mislead.false)
    (here _ _ _ (sym c.presence_wrong.ensures ∙ c.if-presence_wrong.true))))))

pub returns-then-ports_wrong : goal.returns-then-ports_wrong
unfolding refusals
returns-then-ports_wrong c =
    skip _ _ _ _ (sym c.too_new.ensures ∙ c.if-too_new.false)
    (skip _ _ _ _ (sym c.too_many.ensures ∙ c.if-too_many.false)
    (skip _ _ _ _ (sym c.stores_misfit.ensures ∙ c.if-stores_misfit.false)
    (skip _ _ _ _ (sym c.cells_exceed.ensures ∙ c.if-cells_exceed.false)
    (skip _ _ _ _ (sym c.offsets_mislead.ensures ∙ c.if-offsets_mislead.false)
    (skip _ _ _ _ (sym c.presence_wrong.ensures ∙ c.if-presence_wrong.false)
    (here _ _ _ (sym c.ports_wrong.ensures ∙ c.if-ports_wrong.true)))))))

pub returns : goal.returns
unfolding refusals
returns c =
    skip _ _ _ _ (sym c.too_new.ensures ∙ c.if-too_new.false)
    (skip _ _ _ _ (sym c.too_many.ensures ∙ c.if-too_many.false)
    (skip _ _ _ _ (sym c.stores_misfit.ensures ∙ c.if-stores_misfit.false)
    (skip _ _ _ _ (sym c.cells_exceed.ensures ∙ c.if-cells_exceed.false)
    (skip _ _ _ _ (sym c.offsets_mislead.ensures ∙ c.if-offsets_mislead.false)
    (skip _ _ _ _ (sym c.presence_wrong.ensures ∙ c.if-presence_wrong.false)
    (skip _ _ _ _ (sym c.ports_wrong.ensures ∙ c.if-ports_wrong.false)
    (none)))))))

pub stores_misfit-requires : goal.stores_misfit-requires
stores_misfit-requires c = (counted _ _ _ (sym c.too_many.ensures ∙ c.if-too_many.false)).0

pub cells_exceed-requires : goal.cells_exceed-requires
cells_exceed-requires c = sym c.stores_misfit.ensures ∙ c.if-stores_misfit.false

pub offsets_mislead-requires : goal.offsets_mislead-requires
offsets_mislead-requires c = (counted _ _ _ (sym c.too_many.ensures ∙ c.if-too_many.false)).0

pub presence_wrong-requires : goal.presence_wrong-requires
presence_wrong-requires c = (counted _ _ _ (sym c.too_many.ensures ∙ c.if-too_many.false)).0

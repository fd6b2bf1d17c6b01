use mathlib.Core.Path.{refl, sym, ◌∙◌}
use native.Mathlib.Omega.{arith}
use Rattle.index_form.proofs.Laws.{rows_held, held, moment_good, moment_bad}
use Rattle.index_form.proofs.find_frame.Goals as goal

pub overflow_sub-n : goal.overflow_sub-n
overflow_sub-n c =
    let h = rows_held c.args.index.now (sym c.is_index.ensures ∙ c.if-is_index.true) in
    omega (arith, h.1)

pub last_row-requires : goal.last_row-requires
last_row-requires c =
    held c.args.index.now _ (λ i. (c.shared_slice_known-1.given i).fits) (sym c.is_index.ensures ∙ c.if-is_index.true) refl

pub moment_at-requires : goal.moment_at-requires
moment_at-requires c = (
  held c.args.index.now _ (λ i. (c.shared_slice_known-1.given i).fits) (sym c.is_index.ensures ∙ c.if-is_index.true) refl,
  c.in-Some.ensures.1,
)

pub returns-in-Some : goal.returns-in-Some
returns-in-Some c =
    let a = c.args in
    moment_good a.index.now a.id _ _ _ (sym c.is_index.ensures ∙ c.if-is_index.true) refl (sym c.in-Some.ensures.0) c.moment_at.ensures

pub returns-in-None : goal.returns-in-None
returns-in-None c =
    let a = c.args in
    moment_good a.index.now a.id _ 0 _ (sym c.is_index.ensures ∙ c.if-is_index.true) refl (sym c.in-None.ensures) c.none.ensures

pub returns : goal.returns
returns c = c.none-2.ensures ∙ moment_bad _ _ (sym c.is_index.ensures ∙ c.if-is_index.false)

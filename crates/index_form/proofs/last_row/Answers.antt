use Prim.Native.Nat.{◌+◌, ◌*◌, ◌-◌}
use mathlib.Core.Path.{refl, sym, ◌∙◌}
use native.Mathlib.Omega.{arith}
use Rattle.index_form.specs.Form.{id_at}
use Rattle.index_form.proofs.Laws.{last_found, last_passed, last_none, other_low}
use Rattle.index_form.proofs.last_row.Goals as goal

pub returns-then-get_be-id : goal.returns-then-get_be-id
returns-then-get_be-id c =
    let a = c.args in
    (c.loop-i.invariant ∙ sym (last_found (id_at a.index.now) a.id c.loop-i.i (omega arith) (sym c.get_be.ensures ∙ c.if-get_be-id.true)), omega arith)

pub loop-i-preserved-else-get_be-id : goal.loop-i-preserved-else-get_be-id
loop-i-preserved-else-get_be-id c =
    let a = c.args in
    c.loop-i.invariant ∙ last_passed (id_at a.index.now) a.id c.loop-i.i (omega arith) (λ e. c.if-get_be-id.false (c.get_be.ensures ∙ e))

pub loop-i-preserved : goal.loop-i-preserved
loop-i-preserved c =
    let a = c.args in
    c.loop-i.invariant ∙ last_passed (id_at a.index.now) a.id c.loop-i.i (omega arith)
    (other_low a.index.now (9 + 8 * (c.loop-i.i - 1)) a.id (λ j. (c.shared_slice_known-in-loop-i-1.given j).fits) (omega arith) c.if-index-at.false)

pub returns : goal.returns
returns c = c.loop-i.invariant ∙ last_none _ _ _ (omega arith)

pub loop-i-init : goal.loop-i-init
loop-i-init c = refl

pub get_be-requires : goal.get_be-requires
get_be-requires c = (omega arith, omega arith)

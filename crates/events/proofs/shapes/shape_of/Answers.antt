use mathlib.Core.Path.{refl, ap, ◌∙◌}
use Prim.Native.Nat.{◌*◌, ◌≤◌}
use native.Mathlib.Omega.{arith}
use Rattle.format.specs.Event.{code_of}
use Rattle.players.proofs.CountLaws.{rows_most, product_small}
use Rattle.events.proofs.shapes.shape_of.Goals as goal
use Rattle.events.proofs.shapes.shape_of.Goals.{After-struct_known-1}

-- a block has few cells
small : (c : After-struct_known-1) → c.widths-listing.result.count * c.rows-rows.result ≤ 134217728
small c =
    let most = rows_most c.args.f c.args.family c.requires in
    let few : c.rows-rows.result ≤ 4194304 = omega (arith, most, c.rows-rows.ensures) in
    (product_small {a = 0} (omega arith) c.widths-listing.ensures.few few).0

pub overflow_mul-result : goal.overflow_mul-result
overflow_mul-result c = omega (arith, small c)

pub returns : goal.returns
returns c = record {
  given = c.exists-given.ensures;
  code = c.code-code.ensures ∙ ap code_of c.event_of-event.ensures;
  rows = c.rows-rows.ensures;
  columns = c.widths-listing.ensures;
  block = refl;
  small = small c;
}

use mathlib.Core.Path.{◌≡◌, refl, sym, ap, ◌∙◌}
use Prim.Native.Nat.{ℕ}
use native.Mathlib.Omega.{arith}
use lib.ListN.{take, length-set}
use Rattle.layout.specs.Inner.{expand}
use Rattle.layout.proofs.Runs.{runs_more}
use Rattle.layout.proofs.listing.runs_of.Goals as goal

pub loop-k-init : goal.loop-k-init
unfolding expand
loop-k-init c = (omega arith, omega arith, refl, refl, refl)

pub slice_bounds-alike-end : goal.slice_bounds-alike-end
slice_bounds-alike-end c = sym c.widths-c.ensures.room

pub alike-m-requires : goal.alike-m-requires
alike-m-requires c = omega (arith, c.widths-c.ensures.room)

pub loop-k-preserved : goal.loop-k-preserved
loop-k-preserved c =
    let l = c.loop-k in (
      omega arith,
      omega arith,
      simp length-set l.invariant.2,
      simp length-set l.invariant.3,
      runs_more _ l.widths l.lengths l.runs l.k _ (omega arith) (omega arith) l.invariant.4 c.alike-m.ensures.2,
    )

pub returns : goal.returns
returns c =
    let l = c.loop-k in
    let e = c.widths-c.ensures in
    let all : l.k ≡ c.widths-c.result.count = omega arith in
    record {
      columns = e.columns;
      each = l.invariant.4 ∙ ap (λ (k : ℕ). take k c.widths-c.result.widths) all ∙ e.each;
      few = omega arith;
      widths_room = l.invariant.2;
      lengths_room = l.invariant.3;
    }

use mathlib.Core.Path.{◌≡◌, sym, ap, ◌∙◌}
use Prim.Native.Nat.{ℕ, ◌+◌, ◌<◌}
use mathlib.Core.List.{List}
use native.Mathlib.Nat.{zero-add}
use native.Mathlib.Omega.{arith}
use lib.ListN.{length, get_or}
use Rattle.game.specs.Stores.{offsets}
use Rattle.spread.specs.Inner.{place_at}
use Rattle.spread.proofs.Laws.{place_is, strewn_start, strewn_step, strewn_skip, strewn_length, strewn_done, sown_none}
use Rattle.events.specs.Eights.{middle_on}
use Rattle.game.specs.Held.{offsets_in}
use Rattle.events.proofs.PlaceLaws.{none_there}
use Rattle.events.proofs.middle.put_middles.Goals as goal
use Rattle.events.proofs.middle.put_middles.Goals.{Start, then-p-places, else-p-places}

pub returns-then-calm : goal.returns-then-calm
returns-then-calm c = record { next_is = c.requires.4; after_is = (sown_none _ _ _ (c.requires.5 c.if-calm.true)).after_is }

pub loop-t-init : goal.loop-t-init
loop-t-init c = (omega arith, strewn_start)

-- the rows of a frame
abbrev rows : (c : Start) → ℕ → List ℕ
rows c =
    let a = c.args in
    middle_on a.shapes a.lent.now.cells.items.now a.lent.now.cells.fods.now a.lent.now.cells.whispys.now a.lent.now.cells.stadiums.now (offsets_in a.lent.now.offsets) a.lent.now.cells.ids.now a.i

-- where they begin, by the table
front : (c : Start) (t : ℕ) → place_at c.args.places.now 0 c.args.off t ≡ get_or c.args.places.now t 0 + c.args.off
front c t = place_is c.args.places.now 0 c.args.off t ∙ ap (λ (k : ℕ). get_or c.args.places.now k 0 + c.args.off) (zero-add t)

-- and where they end
back : (c : Start) (t : ℕ) → t < 8 → get_or c.args.places.now (8 + t) 0 ≡ get_or c.args.places.now t 0 + c.args.off + length (rows c t)
back c t h = omega (arith, c.requires.4 t h, front c t, place_is c.args.places.now 8 0 t)

pub put_middle-requires : goal.put_middle-requires
unfolding middle_on
put_middle-requires c =
    let t = c.loop-t.t in
    let h = c.loop-t-test.true in
    (c.requires.0, omega (arith, c.requires.1, h), record { fits = omega (arith, c.requires.3.fits t h, front (goal.at.put_middle-requires c).Start t, strewn_length t c.loop-t.invariant.1) })

pub loop-t-preserved : goal.loop-t-preserved
unfolding middle_on
loop-t-preserved c =
    let t = c.loop-t.t in
    let h = c.loop-t-test.true in
    let s = (goal.at.loop-t-preserved c).Start in
    elim c.if-p-places.branch [
      | then-p-places w ↦ rw w.out-is (omega (arith, h), strewn_step t c.loop-t.invariant.1 w.put_middle.ensures (sym (front s t)))
      | else-p-places w ↦ rw w.out-is (omega (arith, h), strewn_skip t c.loop-t.invariant.1 (none_there (rows s t) (omega (arith, back s t h, w.if-p-places.false))))
    ]

pub shape_of-out : goal.shape_of-out
shape_of-out c = strewn_length c.loop-t.t c.loop-t.invariant.1

pub returns : goal.returns
returns c =
    let l = c.loop-t in
    record { next_is = c.requires.4; after_is = (strewn_done l.t l.invariant.1 l.invariant.0 c.loop-t-test.false).after_is }

pub overflow_add-p : goal.overflow_add-p
overflow_add-p c = omega (
  arith,
  c.loop-t-test.true,
  c.requires.3.fits c.loop-t.t c.loop-t-test.true,
  front ((goal.at.overflow_add-p c).Start)
      c.loop-t.t,
  c.well_formed,
)

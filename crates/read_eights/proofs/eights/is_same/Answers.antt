use mathlib.Core.Path.{◌≡◌, ap, ◌∙◌}
use Prim.Native.Nat.{◌+◌, ◌-◌}
use native.Mathlib.Omega.{arith}
use Rattle.format.proofs.Versions.{no_way}
use Rattle.read_places.specs.Inner.{is_players}
use Rattle.read_places.proofs.Scans.{each_get}
use Rattle.read_eights.proofs.Places.{player_seven, Heads, heads_one, heads_more, heads_all}
use Rattle.read_eights.proofs.eights.is_same.Reads as reads
use Rattle.read_eights.proofs.eights.is_same.Lts as lts
use Rattle.read_eights.proofs.eights.is_same.Goals as goal

pub offset_bounds-places-i : goal.offset_bounds-places-i
offset_bounds-places-i c = omega (arith, c.requires.0, c.well_formed)

pub bounds-places-i : goal.bounds-places-i
bounds-places-i c = omega (arith, c.requires.0)

pub bounds-file-at : goal.bounds-file-at
bounds-file-at c = let w = each_get _ _ c.args.i c.requires.1 (omega (arith, c.requires.0)) in omega (arith, w.long, w.inside)

pub overflow_add-port : goal.overflow_add-port
overflow_add-port c =
    let w = player_seven _ _ _ (each_get _ _ c.args.i c.requires.1 (omega (arith, c.requires.0))) c.requires.2 c.requires.3 c.requires.4 in
    omega (arith, w, c.well_formed)

pub bounds-file-at-2 : goal.bounds-file-at-2
bounds-file-at-2 c =
    let w = player_seven _ _ _ (each_get _ _ c.args.i c.requires.1 (omega (arith, c.requires.0))) c.requires.2 c.requires.3 c.requires.4 in
    omega (arith, w)

pub overflow_add-follower : goal.overflow_add-follower
overflow_add-follower c =
    let w = player_seven _ _ _ (each_get _ _ c.args.i c.requires.1 (omega (arith, c.requires.0))) c.requires.2 c.requires.3 c.requires.4 in
    omega (arith, w, c.well_formed)

pub bounds-file-at-3 : goal.bounds-file-at-3
bounds-file-at-3 c =
    let w = player_seven _ _ _ (each_get _ _ c.args.i c.requires.1 (omega (arith, c.requires.0))) c.requires.2 c.requires.3 c.requires.4 in
    omega (arith, w)

pub loop-t-init : goal.loop-t-init
loop-t-init c = heads_one _ _ _

pub overflow_add-p : goal.overflow_add-p
overflow_add-p c = omega (arith, c.requires.0, c.well_formed, c.loop-t-test.true)

pub offset_bounds-places-i-in-loop-t : goal.offset_bounds-places-i-in-loop-t
offset_bounds-places-i-in-loop-t c = omega (arith, c.requires.0, c.well_formed, c.loop-t-test.true)

pub bounds-places-i-in-loop-t : goal.bounds-places-i-in-loop-t
bounds-places-i-in-loop-t c = omega (arith, c.requires.0, c.loop-t-test.true)

pub bounds-file-p : goal.bounds-file-p
bounds-file-p c =
    let w = each_get _ _ (c.args.i + c.loop-t.t) c.requires.1 (omega (arith, c.requires.0, c.loop-t-test.true)) in omega (arith, w.long, w.inside)

pub returns-then-file-p : goal.returns-then-file-p
returns-then-file-p c = λ e. no_way e

pub overflow_add-p-in-loop-t : goal.overflow_add-p-in-loop-t
overflow_add-p-in-loop-t c =
    let w = player_seven _ _ _ (each_get _ _ (c.args.i + c.loop-t.t) c.requires.1 (omega (arith, c.requires.0, c.loop-t-test.true))) c.requires.2 c.requires.3 (ap is_players c.if-file-p.false ∙ c.requires.4) in omega (arith, w, c.well_formed)

pub bounds-file-p-in-loop-t : goal.bounds-file-p-in-loop-t
bounds-file-p-in-loop-t c =
    let w = player_seven _ _ _ (each_get _ _ (c.args.i + c.loop-t.t) c.requires.1 (omega (arith, c.requires.0, c.loop-t-test.true))) c.requires.2 c.requires.3 (ap is_players c.if-file-p.false ∙ c.requires.4) in omega (arith, w)

pub returns-then-file-p-2 : goal.returns-then-file-p-2
returns-then-file-p-2 c = λ e. no_way e

pub overflow_add-p-in-loop-t-2 : goal.overflow_add-p-in-loop-t-2
overflow_add-p-in-loop-t-2 c =
    let w = player_seven _ _ _ (each_get _ _ (c.args.i + c.loop-t.t) c.requires.1 (omega (arith, c.requires.0, c.loop-t-test.true))) c.requires.2 c.requires.3 (ap is_players c.if-file-p.false ∙ c.requires.4) in omega (arith, w, c.well_formed)

pub bounds-file-p-in-loop-t-2 : goal.bounds-file-p-in-loop-t-2
bounds-file-p-in-loop-t-2 c =
    let w = player_seven _ _ _ (each_get _ _ (c.args.i + c.loop-t.t) c.requires.1 (omega (arith, c.requires.0, c.loop-t-test.true))) c.requires.2 c.requires.3 (ap is_players c.if-file-p.false ∙ c.requires.4) in omega (arith, w)

pub returns-then-file-p-3 : goal.returns-then-file-p-3
returns-then-file-p-3 c = λ e. no_way e

pub overflow_add-t : goal.overflow_add-t
overflow_add-t c = omega (arith, c.loop-t-test.true)

pub loop-t-smaller : goal.loop-t-smaller
loop-t-smaller c = omega (arith, c.loop-t-test.true)

pub loop-t-preserved : goal.loop-t-preserved
loop-t-preserved c = heads_more _ _ _ c.loop-t.invariant c.if-file-p.false c.if-file-p-2.false c.if-file-p-3.false

pub returns : goal.returns
returns c = λ e. heads_all _ _ _ c.loop-t.invariant c.loop-t-test.false

use native.Mathlib.Omega.{arith}
use Rattle.read_event.specs.Parts.{WholeBy}
use Rattle.read_event.proofs.Parts.{some_whole}
use Rattle.read_turn.proofs.Turns.{nothing_first, nothing_more}
use Rattle.read_turn.proofs.quiet.after_quiet.Goals as goal
use Rattle.read_turn.proofs.quiet.after_quiet.Goals.{In-loop-e}

pub loop-e-init : goal.loop-e-init
loop-e-init c = nothing_first _ _ _ _ _ _ c.requires

-- a turn's event
whole : (c : In-loop-e) → let a = c.args in WholeBy a.z a.file.now c.loop-e.e
whole c = some_whole _ _ _ _ c.loop-e.invariant.some c.loop-e-test.true

pub is_quiet-requires : goal.is_quiet-requires
is_quiet-requires c = let w = whole c in omega (arith, w.long, w.inside)

pub bounds-file-e : goal.bounds-file-e
bounds-file-e c = let w = whole (goal.at.bounds-file-e c).In-loop-e in omega (arith, w.long, w.inside)

pub player_span-e-requires : goal.player_span-e-requires
player_span-e-requires c = (c.is_quiet.ensures c.if-is_quiet.true).0

pub overflow_add-e : goal.overflow_add-e
overflow_add-e c = let w = whole (goal.at.overflow_add-e c).In-loop-e in omega (arith, w.inside, c.player_span-e.ensures, c.well_formed)

pub loop-e-smaller : goal.loop-e-smaller
loop-e-smaller c = let w = whole (goal.at.loop-e-smaller c).In-loop-e in omega (arith, w.long, c.player_span-e.ensures, c.loop-e-test.true)

pub loop-e-preserved : goal.loop-e-preserved
loop-e-preserved c = nothing_more _ _ _ _ _ _ c.loop-e.invariant c.loop-e-test.true c.player_span-e.ensures (c.is_quiet.ensures c.if-is_quiet.true)

pub returns-else-is_quiet : goal.returns-else-is_quiet
returns-else-is_quiet c = c.loop-e.invariant

pub returns : goal.returns
returns c = c.loop-e.invariant

use Prim.Native.Nat.{◌≤◌, ◌<◌, ◌-◌, ◌+◌, suc}
use mathlib.Core.Path.{◌≡◌, sym, ◌∙◌}
use native.Mathlib.Nat.{sub-zero, zero-add, add-zero}
use native.Mathlib.Omega.{arith}
use lib.ListN.{length}
use Rattle.de.proofs.Runs.{run_event, run_stop, no_event}
use Rattle.de.proofs.walk_events.Goals as goal
use Rattle.de.proofs.walk_events.Goals.{In-Event}

pub loop-next-init : goal.loop-next-init
loop-next-init c =
    (omega arith, omega arith, rw (sub-zero, zero-add, c.requires.first_is))

-- an event that was found goes on after it
advanced : (c : In-Event) → (c.loop-next.place < c.in-Event.next)
    × (c.in-Event.next ≤ c.args.stop)
advanced c = rw c.in-Event.is at c.in_data-last.ensures.1

pub loop-next-preserved : goal.loop-next-preserved
loop-next-preserved c =
    let h = advanced c in
    let f = c.args.file.now in
    let k : length f - c.loop-next.events ≡ suc (length f - (c.loop-next.events + 1)) = omega arith in
    (omega arith, omega arith, rw k at c.loop-next.invariant.2 ∙ run_event _ _ _ _ _ _ _ _ _ (sym c.in_data-last.ensures.0 ∙ c.in-Event.is))

pub returns : goal.returns
returns c =
    let e = run_stop (length c.args.file.now - c.loop-next.events) _ _ _ (no_event c.in_data-last.result c.in_default.not-Event) (sym c.in_data-last.ensures.0) in
    (sym (c.loop-next.invariant.2 ∙ rw (e, add-zero)), omega arith)

pub in_data-last-requires : goal.in_data-last-requires
in_data-last-requires c = c.requires

pub overflow_add-events : goal.overflow_add-events
overflow_add-events c = let h = advanced c in omega arith

pub loop-next-smaller : goal.loop-next-smaller
loop-next-smaller c = let h = advanced c in omega arith

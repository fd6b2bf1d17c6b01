-- No second value fits what the calls promise; what stands at a value is the covered step; and moving a value to the next place of its event is the walk.
-- Assumes nothing.
use Prim.Native.Nat.{ℕ, suc}
use mathlib.Core.Path.{◌≡◌, sym, ap, ◌∙◌}
use mathlib.Core.List.{List}
use denote.Ref.{Bor}
use Rattle.head.specs.Step.{step_of}
use Rattle.head.specs.Numbers.{step_numbers}
use Rattle.head.specs.declared.Step.{Step}
use Rattle.head.specs.declared.Step.TheVariants.{Event}
use Rattle.head.proofs.Only.{step_told}
use Rattle.de.specs.Walk.{after, turn, run}
use Rattle.replay.specs.Value.{held_at}
use Rattle.replay.specs.declared.Replay.{Replay}

-- of `new` and `moved`
pub one_value : (file : Bor (List ℕ)) (at : ℕ) (r q : Replay) → r ≡ held_at file at → q ≡ held_at file at → r ≡ q
one_value file at r q p s = p ∙ sym s

-- `next_event` of what `new` or `moved` gave is `step_at` of the file
pub made_step : (file : Bor (List ℕ)) (at : ℕ) (r : Replay) (s : Step) → r ≡ held_at file at → step_numbers s ≡ step_numbers (step_of r.bytes.now r.at) → s ≡ step_of file.now at
made_step file at r s p e = step_told s (step_of r.bytes.now r.at) e ∙ ap (λ (x : Replay). step_of x.bytes.now x.at) p

-- a value whose step is an event, moved to the event's next place, goes on where the walk of its file goes on
pub moved_on : (r q : Replay) (code at payload len next n : ℕ)
    → step_numbers (Event code at payload len next) ≡ step_numbers (step_of r.bytes.now r.at) → q ≡ held_at r.bytes next
    → run (suc n) r.bytes.now r.at ≡ after (Event code at payload len next) (run n q.bytes.now q.at)
unfolding run
moved_on r q code at payload len next n e p =
    ap (λ (s : Step). turn s (run n r.bytes.now) r.at) (sym (step_told (Event code at payload len next) (step_of r.bytes.now r.at) e))
    ∙ ap (λ (x : Replay). after (Event code at payload len next) (run n x.bytes.now x.at)) (sym p)

use mathlib.Core.Path.{◌≡◌, refl, sym, ◌∙◌}
use Rattle.std.proofs.lemmas.Result.{err_from_is_err_and}
use Prim.Native.Nat.{ℕ}
use Rattle.format.specs.Refused.{number_of}
use Rattle.format.specs.declared.refusal.Refusal.{Refusal}
use Rattle.format.proofs.Numbers.{not_zero}
use Rattle.format.proofs.Refusals.{skip, here, none}
use Rattle.game.specs.declared.frames.Frames.{Frames}
use Rattle.layout.specs.declared.columns.Family.{Family}
use Rattle.transpose.specs.Inner.{place_refusal}
use Rattle.transpose.proofs.Shown.{given_none, given_row}
use Rattle.transpose.proofs.judge.place_judged.Goals as goal

judged_first : (r : Refusal) (f : Frames) (family : Family) (block row : ℕ) → number_of r ≡ place_refusal (number_of r) f family block row
unfolding place_refusal
judged_first r f family block row = given_none (number_of r) _ (number_of r) (not_zero r)

pub returns-in_err-judged : goal.returns-in_err-judged
returns-in_err-judged c =
    let p = err_from_is_err_and c.from_residual.result c.from_residual.ensures.1 in rw (p.1, p.2, c.in_err-judged.was) (judged_first _ _ _ _ _)

pub returns-then-is_outside : goal.returns-then-is_outside
unfolding place_refusal
returns-then-is_outside c = rw c.in_ok-judged.was (here _ _ _ (sym c.is_outside.ensures ∙ c.if-is_outside.true) ∙ given_row 0 _ _ refl)

pub returns : goal.returns
unfolding place_refusal
returns c = rw c.in_ok-judged.was (skip _ _ _ _ (sym c.is_outside.ensures ∙ c.if-is_outside.false) none ∙ given_row 0 _ _ refl)

use Prim.Native.Nat.{◌+◌}
use native.Mathlib.Omega.{arith}
use mathlib.Core.Path.{◌≡◌, refl, sym, ◌∙◌}
use mathlib.Core.Bool.{Bool, true, false, not, beq}
use Rattle.players.specs.Presence.{marked}
use Rattle.places.proofs.Laws.{never, below_step, steady_all}
use Rattle.places.proofs.team.is_steady.Goals as goal

pub returns-then-len-eq0 : goal.returns-then-len-eq0
returns-then-len-eq0 c = λ e. steady_all _ _ _ _ c.if-len-eq0.true

pub loop-t-init : goal.loop-t-init
loop-t-init c = (omega arith, λ u h. absurd (omega arith))

equal : (a b : Bool) → not (beq a b) ≡ false → a ≡ b
equal true true e = refl
equal true false e = never (sym e)
equal false true e = never (sym e)
equal false false e = refl

pub loop-t-preserved : goal.loop-t-preserved
loop-t-preserved c =
    let l = c.loop-t in
    let a = c.args in
    let this = sym c.is_present.ensures ∙ (equal _ _ c.if-is_present-here.false ∙ c.is_present-here.ensures) in
    (omega arith, below_step (λ u. marked a.presence.now a.at a.len (a.i + u) ≡ marked a.presence.now a.at a.len a.i) l.t l.invariant.1 this)

pub returns-then-is_present-here : goal.returns-then-is_present-here
returns-then-is_present-here c = λ e. never e

pub returns : goal.returns
returns c = λ e. record { mark = λ t h. c.loop-t.invariant.1 t (omega arith) }

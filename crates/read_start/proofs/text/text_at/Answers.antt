use mathlib.Core.Path.{◌≡◌, ◌∙◌}
use Prim.Native.Nat.{ℕ, ◌-◌, ◌≤◌}
use native.Mathlib.Omega.{arith}
use lib.ListN.{length, length-set, length-replicate}
use Rattle.read_start.specs.Start.{text_at}
use Rattle.read_start.proofs.Texts.{ends, left, text_start, text_step, text_stop_lem, text_done}
use Rattle.read_start.proofs.text.text_at.Goals as goal

pub loop-i-init : goal.loop-i-init
loop-i-init c = let a = c.args in (omega arith, length-replicate {A = ℕ} 50 0, text_start a.block.now a.at a.limit c.requires.0)

pub returns-then-b-eq0 : goal.returns-then-b-eq0
returns-then-b-eq0 c =
    let a = c.args in
    text_stop_lem a.block.now a.at a.limit c.loop-i.i c.loop-i.bytes c.loop-i.invariant.2 (omega arith) (omega arith) c.if-b-eq0.true

pub loop-i-preserved : goal.loop-i-preserved
loop-i-preserved c =
    let a = c.args in (
      omega arith,
      length-set c.loop-i.bytes c.loop-i.i _ ∙ c.loop-i.invariant.1,
      text_step a.block.now a.at a.limit c.loop-i.i c.loop-i.bytes c.loop-i.invariant.2 (omega arith) (omega arith) c.if-b-eq0.false,
    )

pub returns : goal.returns
returns c =
    let a = c.args in
    text_done a.block.now a.at a.limit c.loop-i.i c.loop-i.bytes c.loop-i.invariant.2 (omega arith)

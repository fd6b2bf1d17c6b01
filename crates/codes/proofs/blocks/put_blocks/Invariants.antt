use Prim.Native.Nat.{◌-◌, ◌≤◌}
use Rattle.wire.specs.Wire.{ranged}
use Rattle.wire.proofs.Writers.{Left}
use Rattle.format.specs.File.{event_bytes, events_bytes}
use Rattle.codes.specs.Blocks.{code_block, code_blocks}
use Rattle.codes.proofs.blocks.put_blocks.Given as goal

abbrev pub invariant-loop-b : goal.invariant-loop-b
invariant-loop-b l =
    (l.b ≤ l.n) × Left l.initial.out l.at (events_bytes (code_blocks l.codes l.actual)) l.out l.p (ranged (λ i. event_bytes (code_block l.codes l.actual i)) l.b (l.n - l.b))

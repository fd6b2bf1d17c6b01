use Prim.Native.Nat.{◌-◌, ◌≤◌}
use Rattle.wire.specs.Wire.{ranged}
use Rattle.wire.proofs.Writers.{Left}
use Rattle.read_outline.proofs.Laws.{block_bytes}
use Rattle.read_outline.proofs.copy_codes.Given as goal

abbrev pub invariant-loop-b : goal.invariant-loop-b
invariant-loop-b l = (l.b ≤ l.blocks) × Left l.initial.codes 0 (ranged (block_bytes l.file l.first) 0 l.blocks) l.codes l.p (ranged (block_bytes l.file l.first) l.b (l.blocks - l.b))

use Rattle.std.proofs.Common.{rules}
use Rattle.walk_line.proofs.Streams.{read_more}
use Rattle.walk_line.proofs.read_input.Goals as goal

pub loop-done-preserved : goal.loop-done-preserved
loop-done-preserved g c = let r = c.in_ok-n.ensures in
    (search rules, read_more _ _ _ _ _ _ _ _ c.loop-done.invariant.0 r.bound.0 c.loop-done.invariant.1 r.bytes.0)

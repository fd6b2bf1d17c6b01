use Rattle.std.proofs.Common.{◌<◌}
use Rattle.case_replay.proofs.agreed.Given as goal

abbrev pub invariant-loop-cut : goal.invariant-loop-cut
invariant-loop-cut l = l.n < l.cut

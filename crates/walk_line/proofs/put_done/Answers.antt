use native.Mathlib.Omega.{arith}
use Rattle.walk_line.proofs.Laws.{put_done}
use Rattle.walk_line.proofs.put_done.Goals as goal

pub returns : goal.returns
returns c =
    let p = c.put_pair-q.ensures in
    let s = c.put_state.ensures in
    (put_done _ p.0 s.0, omega (arith, p.1, s.1))

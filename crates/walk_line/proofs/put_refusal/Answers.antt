use native.Mathlib.Omega.{arith}
use Rattle.walk_line.proofs.Laws.{put_refused}
use Rattle.walk_line.proofs.put_refusal.Goals as goal

pub returns : goal.returns
returns c =
    let w = c.put_bytes-p.ensures in
    let p = c.put_pair-q.ensures in
    let e = c.put_u8.ensures in
    (put_refused w p.0 e, omega (arith, w.next_is, p.1, e.next_is))

use native.Mathlib.Omega.{arith}
use Rattle.walk_line.proofs.Laws.{put_pair}
use Rattle.walk_line.proofs.put_pair.Goals as goal

pub returns : goal.returns
returns c =
    let a = c.put_decimal-p.ensures in
    let s = c.put_u8-q.ensures in
    let b = c.put_decimal.ensures in
    (put_pair a.0 s b.0, omega (arith, a.1, s.next_is, b.1))

use native.Mathlib.Omega.{arith}
use Rattle.walk_line.proofs.Laws.{at_most_20, put_decimal}
use Rattle.walk_line.proofs.put_decimal.Goals as goal

pub put_bytes-requires : goal.put_bytes-requires
put_bytes-requires c =
    let d = c.decimal-k.ensures in
    record { fits = omega (arith, d.in_bounds.1, at_most_20 _ _ (omega arith) d.len) }

pub returns : goal.returns
returns c =
    let d = c.decimal-k.ensures in
    let w = c.put_bytes.ensures in
    (put_decimal _ _ _ d.len d.digits w, omega (arith, w.next_is, d.in_bounds.1, at_most_20 _ _ (omega arith) d.len))

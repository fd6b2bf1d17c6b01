use native.Mathlib.Omega.{arith}
use Rattle.walk_line.proofs.Streams.{answered}
use Rattle.walk_line.proofs.answer.Goals as goal

pub returns : goal.returns
returns g c =
    let r = c.in_ok-n.ensures in let w = c.report_read-k.ensures in
    answered _ c.read_input.new.buffer _ _ _ _ _ (omega (arith, c.requires, c.read_input.auto.buffer)) r.prefix_len.0 r.taken r.ended w.put w.prefix_len.0 c.write_all.ensures.bytes

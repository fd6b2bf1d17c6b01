-- Assumes nothing.
use Rattle.rows.proofs.Nan.{above, not_above, nan_made}
use Rattle.rows.proofs.float.float_of.Goals as goal

pub float_from_bits-result : goal.float_from_bits-result
float_from_bits-result c = rw (not_above c.args.bits c.if-bits-gt2139095040.false) tt

pub returns-then-bits-gt2139095040 : goal.returns-then-bits-gt2139095040
returns-then-bits-gt2139095040 c = rw (above c.args.bits c.if-bits-gt2139095040.true) nan_made

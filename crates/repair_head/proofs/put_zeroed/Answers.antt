use borrow.Author.Rules.{rules}
use mathlib.Core.Path.{ap}
use native.Mathlib.Omega.{arith}
use lib.ListN.{length}
use Rattle.wire.proofs.Laws.{length_splice, length_be}
use Rattle.repair_head.proofs.Laws.{copied}
use Rattle.repair_head.proofs.put_zeroed.Goals as goal

pub put_bytes-end-requires : goal.put_bytes-end-requires
put_bytes-end-requires c = record { fits = omega (arith, c.requires.0) }

pub put_u32-behind-requires : goal.put_u32-behind-requires
put_u32-behind-requires c =
    record { fits = omega (arith, ap length c.put_bytes-end.ensures.after_is, length_splice c.args.room.now 0 c.args.file.now, c.requires.0, c.requires.1, length_be 4 0) }

pub returns : goal.returns
returns c = copied _ _ _ _ _ _ c.requires.0 c.put_bytes-end.ensures c.put_u32-behind.ensures

-- `ser::length::raw_len` meets its contract: the parts, added up.
use native.Mathlib.Omega.{arith}
use borrow.Author.Rules.{rules}
use Rattle.ser.proofs.Sums.{raw_is}
use Rattle.ser.proofs.length.raw_len.Goals as goal

pub returns : goal.returns
returns c =
    let a = c.args in (
      raw_is a.g a.presence.now a.block _ _ _ _ _ c.is_given-given.ensures c.table_len-table.ensures.0 c.codes_len-codes.ensures.0 c.frames_len-frames.ensures.0 c.ends_len-ends.ensures.0,
      omega arith,
    )

-- `final_file::length::raw_len` meets its contract: the parts, added up.
use native.Mathlib.Omega.{arith}
use Rattle.game.specs.Stores.{offsets}
use Rattle.game.specs.Held.{offsets_in}
use Rattle.final_file.proofs.Lengths.{kept_raw_is}
use borrow.Author.Rules.{rules}
use Rattle.final_file.proofs.length.raw_len.Goals as goal

pub returns : goal.returns
returns c =
    let a = c.args in (
      kept_raw_is a.g a.ids.now (offsets_in a.offsets.now) a.presence.now a.block _ _ _ _ _
          c.is_given-given.ensures c.table_len-table.ensures.0 c.codes_len-codes.ensures.0 c.kept_len-frames.ensures.0 c.ends_len-ends.ensures.0,
      omega arith,
    )

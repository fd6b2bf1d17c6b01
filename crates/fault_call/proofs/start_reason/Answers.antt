use Rattle.start.specs.Length.{length_of}
use mathlib.Core.Path.{refl}
use borrow.Author.Tests.{le-leb, lt-leb}
use native.Mathlib.Omega.{arith}
use Rattle.fault_reason.proofs.Laws.{if_so, if_not}
use borrow.Author.Rules.{rules}
use Rattle.fault_call.proofs.start_reason.Goals as goal

pub returns-then-block_length-len : goal.returns-then-block_length-len
returns-then-block_length-len c = if_so _ _ _ _ (le-leb (length_of c.args.v) c.args.len (omega (arith, c.block_length.ensures))) refl

pub returns : goal.returns
returns c = if_not _ _ _ _ (lt-leb (length_of c.args.v) c.args.len (omega (arith, c.block_length.ensures))) refl

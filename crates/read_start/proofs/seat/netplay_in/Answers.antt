use native.Mathlib.Omega.{arith}
use borrow.Author.Rules.{rules}
use Rattle.start.proofs.Lengths.{long_enough}
use Rattle.read_start.proofs.seat.netplay_in.Goals as goal

pub text_if-requires : goal.text_if-requires
text_if-requires c = (omega arith, λ on. omega (arith, c.requires, long_enough c.args.v 3 on))

pub text_if-requires-2 : goal.text_if-requires-2
text_if-requires-2 c = (omega arith, λ on. omega (arith, c.requires, long_enough c.args.v 3 on))

pub text_if-requires-3 : goal.text_if-requires-3
text_if-requires-3 c = (omega arith, λ on. omega (arith, c.requires, long_enough c.args.v 2 on))

pub returns : goal.returns
returns c =
    λ i. record {
      given = c.mark_of.ensures i;
      name = c.text_if.ensures i;
      code = c.text_if-2.ensures i;
      suid_given = c.mark_of-2.ensures i;
      suid = c.text_if-3.ensures i;
    }

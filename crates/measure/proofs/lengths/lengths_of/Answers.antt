use borrow.Author.Rules.{rules}
use native.Mathlib.Omega.{arith}
use Rattle.measure.proofs.LengthLaws.{bits_small}
use Rattle.measure.proofs.lengths.lengths_of.Goals as goal

pub overflow_mul-result : goal.overflow_mul-result
overflow_mul-result c =
    omega (arith, bits_small c.slot_count-slots.result c.args.f c.slot_count-slots.ensures.1 c.requires)

pub returns : goal.returns
returns c =
    rw (
      c.slot_count-slots.ensures.0,
      c.store.ensures,
      c.store-2.ensures,
      c.store-3.ensures,
      c.store-4.ensures,
      c.store-5.ensures,
      c.store-6.ensures,
      c.store-7.ensures,
      c.store-8.ensures,
      c.offsets.ensures,
      c.offsets-2.ensures,
      c.offsets-3.ensures,
      c.offsets-4.ensures,
    )

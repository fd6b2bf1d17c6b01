-- `record::get_low` meets its contract: 1 << 8 w is 256 ^ w, and the remainder is the last w bytes' number.
use mathlib.Core.Path.{◌≡◌, ◌∙◌}
use Prim.Native.Nat.{ℕ, ◌%◌, ◌^◌, ◌*◌, ◌≤◌}
use native.Mathlib.Nat.{one-mul, mod-le}
use native.Mathlib.Omega.{arith}
use lib.Dec.{lit<}
use lib.Pow.{shl_exact, pow_pos}
use Rattle.wire.proofs.Laws.{pow_8}
use Rattle.record.proofs.Numbers.{low_is}
use Rattle.record.proofs.get_low.Goals as goal

shifted : (w : ℕ) → w ≤ 4 → 1 * 2 ^ (8 * w) % 2 ^ 64 ≡ 2 ^ (8 * w)
shifted w h = shl_exact 1 (8 * w) 64 (lit< tt) (omega arith) ∙ one-mul (2 ^ (8 * w))

pub nonzero_rem-result : goal.nonzero_rem-result
nonzero_rem-result c = rw (shifted c.args.width c.requires.0) (pow_pos (8 * c.args.width))

pub overflow_cast-result-2 : goal.overflow_cast-result-2
overflow_cast-result-2 c = omega (arith, mod-le c.get_four-v.result (1 * 2 ^ (8 * c.args.width) % 2 ^ 64), c.get_four-v.type_inv)

pub returns : goal.returns
returns c =
    let a = c.args in
    rw (shifted a.width c.requires.0, pow_8 a.width, c.get_four-v.ensures)
    (low_is a.s.now a.end a.width (λ i. omega (arith, c.shared_slice_known-1.given i)) c.requires.0 c.requires.1 c.requires.2)

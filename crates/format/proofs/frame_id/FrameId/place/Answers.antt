-- `format::frame_id::FrameId::place` meets its contract: an id in range, less the first, is its place.
use mathlib.Core.Path.{◌≡◌, refl}
use Prim.Native.Nat.{◌≤◌}
use native.Mathlib.Omega.{arith}
use borrow.Author.Rules.{rules}
use mir.Facts.{to_z-of_z, to_z_pos}
use mir.Syntax.{w32}
use mir.Val.{to_z, of_z}
use lib.IntN.{pos, negsuc, ◌-ℤ◌}
use Rattle.format.specs.FrameId.{place_of}
use Rattle.format.proofs.Bits.{low, high, sum}
use Rattle.format.proofs.frame_id.FrameId.place.Goals as goal
use Rattle.format.proofs.frame_id.FrameId.place.Goals.{After-struct_told-1, Else-index-gt-LAST_INDEX}

-- the index, read back from its bits
back : (c : After-struct_told-1) → to_z w32 (of_z w32 c.args.self.index) ≡ c.args.self.index
back c = to_z-of_z {w = w32} (search rules)

back_later : (c : Else-index-gt-LAST_INDEX) → to_z w32 (of_z w32 c.args.self.index) ≡ c.args.self.index
back_later c = to_z-of_z {w = w32} (search rules)

added : (c : Else-index-gt-LAST_INDEX)
    → let i = c.args.self.index in (to_z w32 (of_z w32 i) -ℤ negsuc 122 ≡ pos (place_of i)) × (place_of i ≤ 1048575)
added c =
    rw (back_later c) (sum c.args.self.index (rw (back_later c) at c.if-index-lt-FIRST_INDEX.false) (rw (back_later c) at c.if-index-gt-LAST_INDEX.false))

-- and the place, read back
half : (c : Else-index-gt-LAST_INDEX) → let p = place_of c.args.self.index in to_z w32 p ≡ pos p
half c = to_z_pos w32 (omega (arith, (added c).1))

pub returns-then-index-lt-FIRST_INDEX : goal.returns-then-index-lt-FIRST_INDEX
returns-then-index-lt-FIRST_INDEX c = (low c.args.self.index (rw (back (goal.at.returns-then-index-lt-FIRST_INDEX c).After-struct_told-1) at c.if-index-lt-FIRST_INDEX.true), omega arith)

pub returns-then-index-gt-LAST_INDEX : goal.returns-then-index-gt-LAST_INDEX
returns-then-index-gt-LAST_INDEX c = (high c.args.self.index (rw (back (goal.at.returns-then-index-gt-LAST_INDEX c).After-struct_told-1) at c.if-index-gt-LAST_INDEX.true), omega arith)

pub overflow_sub-result : goal.overflow_sub-result
overflow_sub-result c = rw (added c).0 (record { sfits = omega (arith, (added c).1) })

pub overflow_cast-result : goal.overflow_cast-result
overflow_cast-result c = rw ((added c).0, half c) (tt, omega (arith, (added c).1))

pub returns : goal.returns
returns c = rw ((added c).0, half c) (refl, omega (arith, (added c).1))

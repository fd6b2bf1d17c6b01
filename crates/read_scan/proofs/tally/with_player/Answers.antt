-- `read_scan::tally::with_player` meets its contract: 1 << k is 2 ^ k.
use mathlib.Core.Path.{◌≡◌, ap, ◌∙◌}
use Prim.Native.Nat.{ℕ, ◌*◌, ◌%◌, ◌^◌, ◌<◌}
use native.Mathlib.Nat.{one-mul}
use native.Mathlib.Omega.{arith}
use lib.Bits.{bit_or}
use lib.Dec.{lit<}
use lib.Pow.{shl_exact}
use Rattle.read_scan.specs.Counts.{tally}
use Rattle.read_scan.proofs.Counting.{player_few}
use Rattle.read_scan.proofs.tally.with_player.Goals as goal

pub overflow_shl-result : goal.overflow_shl-result
overflow_shl-result c = let (a, b) = player_few c.args.w c.requires in omega (arith, c.slot.ensures)

shifted : (k : ℕ) → k < 64 → 1 * 2 ^ k % 2 ^ 64 ≡ 2 ^ k
shifted k h = shl_exact 1 k 64 (lit< tt) (omega arith) ∙ one-mul (2 ^ k)

pub returns : goal.returns
returns c =
    let a = c.args in
    let k = c.slot in
    let (x, y) = player_few a.w c.requires in
    ap (λ (n : ℕ). tally a.t.frames a.t.items a.t.fods a.t.whispys a.t.stadiums (bit_or a.t.slots n) a.t.changing)
    (shifted k.result (omega (arith, k.ensures)) ∙ ap (λ (n : ℕ). 2 ^ n) k.ensures)

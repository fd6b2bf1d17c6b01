-- The file of the final frames is no longer than that of all rows.
-- Assumes nothing.
use mathlib.Core.Path.{◌≡◌, refl}
use mathlib.Core.Bool.{cond}
use mathlib.Core.List.{List}
use Prim.Native.Nat.{ℕ, ◌+◌, ◌-◌, ◌≤◌}
use native.Mathlib.Omega.{arith}
use lib.ListN.{length}
use Rattle.format.specs.Mark.{yes}
use Rattle.format.specs.Refusal.{lowest}
use Rattle.game.specs.Stores.{Stores, Offsets}
use Rattle.game.specs.declared.Game.{Game}
use Rattle.ser.specs.Length.{raw_length}
use Rattle.ser.specs.Write.{file, given_bytes}
use Rattle.ser.proofs.Outcomes.{passes}
use Rattle.ser.proofs.Steps as ser
use Rattle.final_file.specs.Write.{final_file, judged_first}
use Rattle.final_file.specs.Inner.{kept_raw}
use Rattle.final_file.proofs.Outcomes.{ready}
use Rattle.final_file.proofs.Steps.{total_is}

less : (t b c f l e : ℕ) → t + (b + (c + (f - l + e))) ≤ t + (b + (c + (f + e)))
less t b c f l e = omega arith

raw_less : (g : Game) (ids : List ℕ) (o : Offsets) (bits : List ℕ) (block : ℕ) → kept_raw g ids o bits block ≤ raw_length g bits block
unfolding kept_raw raw_length
raw_less g ids o bits block = less _ _ _ _ _ _

pub no_longer : (g : Game) (s : Stores) (scratch : ℕ) → lowest (judged_first g s scratch) ≡ 0 → length (final_file g s) ≤ length (file g s)
no_longer g s scratch e =
    let r = ready g s scratch e in
    let bits = s.lent.presence in
    let block = length s.template in
    let tail = cond (yes g.metadata_given) (13 + given_bytes g.metadata_given s.metadata) 1 in
    let kept = total_is r _ refl tail refl in
    let all = ser.total_is (passes g s r.eleven) (raw_length g bits block) refl tail _ _ refl refl refl in
    omega (arith, kept, all, raw_less g s.lent.cells.ids s.lent.offsets bits block)

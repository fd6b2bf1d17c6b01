-- The laws of the start block.
-- Assumes nothing.
use mathlib.Core.Path.{◌≡◌}
use mathlib.Core.List.{List, ◌++◌}
use Prim.Native.Nat.{ℕ, ◌+◌, ◌-◌, ◌≤◌}
use lib.ListN.{length, take, drop}
use Rattle.wire.specs.Wire.{Room, Wrote}
use Rattle.wire.proofs.Writers.{wrote_as, part_is, part_again}
use Rattle.format.specs.declared.version.Version.{Version}
use Rattle.game.specs.declared.start.Start.{Start}
use Rattle.patch.specs.Patch.{patched}
use Rattle.patch.specs.Inner.{Patched}
use Rattle.start.specs.Block.{fields, start_block}
use Rattle.patch.proofs.Patches.{length_patched}

module _ (v : Version) (s : Start) where
  -- the block is as long as its template
  pub length_start_block : (t : List ℕ) → length (start_block v s t) ≡ length t
  unfolding start_block
  length_start_block t = length_patched t (fields v s)

  -- room for the template is room for the block
  pub room_for_block : (out : List ℕ) (at : ℕ) (t : List ℕ) → at + length t ≤ length out → Room out at (start_block v s t)
  room_for_block out at t h = record { fits = rw length_start_block h }

  module _ {out : List ℕ} {at : ℕ} (t : List ℕ) (room : Room out at (start_block v s t)) where
    pub block_room : Room out at t
    block_room = record { fits = rw length_start_block at room.fits }

    -- the template was written, and then patched where it lies
    pub block_written : {mid after : List ℕ} {next : ℕ} → Wrote out mid at next t → Patched (take (next - at) (drop at mid)) after (fields v s)
        → Wrote out (take at mid ++ (after ++ drop (next - at) (drop at mid))) at next (start_block v s t)
    unfolding start_block
    block_written {after = after} w p =
        let e : after ≡ patched t (fields v s) = rw (part_is block_room w) at p.after_is in
        wrote_as e (part_again block_room w after (rw e (length_patched t (fields v s))))

-- A loop over the seats.
-- Assumes nothing.
use mathlib.Core.Path.{◌≡◌}
use mathlib.Core.List.{List, ◌∷◌}
use Prim.Native.Nat.{ℕ, ◌+◌, ◌≤◌, ◌<◌}
use native.Mathlib.Numerals.{add-one}
use lib.ListN.{length, drop, get_or, drop_of_length-le}
use lib.Seq.{drop-cons}
use Rattle.wire.specs.Wire.{keep}
use Rattle.format.specs.declared.version.Version.{Version}
use Rattle.format.specs.Mark.{yes}
use Rattle.game.specs.declared.start.Seat.{Seat}
use Rattle.patch.specs.Patch.{patched}
use Rattle.patch.specs.Inner.{Patched}
use Rattle.patch.proofs.Patches.{patched_append}
use Rattle.start.specs.Block.{port_fields, seats_fields}

drop_next : {A : Type 0} (xs : List A) (n : ℕ) (d : A) → n < length xs → drop n xs ≡ get_or xs n d ∷ drop (n + 1) xs
drop_next xs n d h = rw (drop-cons xs n d h, add-one)

-- ---- a loop over the seats: a turn, and its end
module _ (v : Version) (seats : List Seat) (n : ℕ) {block all : List ℕ} (left : patched block (seats_fields v n (drop n seats)) ≡ all) where
  pub seats_step : {after : List ℕ} (d : Seat) → n < length seats
      → Patched block after (keep (yes (get_or seats n d).given) (port_fields v n (get_or seats n d)))
      → patched after (seats_fields v (n + 1) (drop (n + 1) seats)) ≡ all
  unfolding seats_fields
  seats_step d h p = rw (p.after_is, ← patched_append) (rw (drop_next seats n d h) at left)

  pub seats_done : length seats ≤ n → block ≡ all
  unfolding seats_fields patched
  seats_done h = rw (drop_of_length-le seats h) at left

-- Presence decides the mark of a player's row and nothing else: every named field and every bit is the cells', whoever is there.
-- Assumes nothing.
use Prim.Native.Nat.{ℕ}
use mathlib.Core.Path.{◌≡◌, refl}
use mathlib.Core.List.{List}
use Rattle.game.specs.Stores.{Lent}
use Rattle.game.specs.declared.frames.Frames.{Frames}
use Rattle.transpose.specs.Records.{mark_at}
use Rattle.transpose.specs.Ports.{data_at}
use Rattle.transpose.specs.Answers.{unless_refused, pre_row, post_row}
use Rattle.law_card.specs.Marks.{marked_pre, marked_post}
use Rattle.law_card.proofs.Forms.{with_presence}

-- the calls for single rows, where neither is refused
module _ (f : Frames) (s : Lent) (bits : List ℕ) (slot index : ℕ) where
  pub pre_values : (pre_row f s slot index).refused ≡ 0 → (pre_row f (with_presence s bits) slot index).refused ≡ 0
      → (pre_row f (with_presence s bits) slot index).row ≡ marked_pre (mark_at f bits slot index) (pre_row f s slot index).row
  unfolding unless_refused
  pre_values x y = rw (x, y)

  pub post_values : (post_row f s slot index).refused ≡ 0 → (post_row f (with_presence s bits) slot index).refused ≡ 0
      → (post_row f (with_presence s bits) slot index).row ≡ marked_post (mark_at f bits slot index) (post_row f s slot index).row
  unfolding unless_refused
  post_values x y = rw (x, y)

-- a player in the row of a whole frame
pub player_values : (f : Frames) (pres posts a b : List ℕ) (slot index : ℕ)
    → ((data_at f pres posts b slot index).pre ≡ marked_pre (mark_at f b slot index) (data_at f pres posts a slot index).pre)
    × ((data_at f pres posts b slot index).post ≡ marked_post (mark_at f b slot index) (data_at f pres posts a slot index).post)
player_values f pres posts a b slot index = (refl, refl)

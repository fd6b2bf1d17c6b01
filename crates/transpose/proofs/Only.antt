-- No second outcome fits: two answers that meet a call's contract on equal inputs are equal. Every input has one, since the contracts are equations.
-- Assumes nothing.
use mathlib.Core.Path.{◌≡◌, sym, ◌∙◌}
use Prim.Native.Nat.{ℕ}
use Rattle.game.specs.Stores.{Lent}
use Rattle.game.specs.declared.frames.Frames.{Frames}
use Rattle.transpose.specs.Answers.{frame_row, pre_row, post_row, item_row, fod_platform_row, dreamland_whispy_row, stadium_transformation_row}
use Rattle.transpose.specs.declared.frame.FrameRow.{FrameRow}
use Rattle.transpose.specs.declared.records.PreRow.{PreRow}
use Rattle.transpose.specs.declared.records.PostRow.{PostRow}
use Rattle.transpose.specs.declared.records.ItemRow.{ItemRow}
use Rattle.transpose.specs.declared.records.FodPlatformRow.{FodPlatformRow}
use Rattle.transpose.specs.declared.records.DreamlandWhispyRow.{DreamlandWhispyRow}
use Rattle.transpose.specs.declared.records.StadiumTransformationRow.{StadiumTransformationRow}

only : {A : Type 0} {x q r : A} → q ≡ x → r ≡ x → q ≡ r
only a b = a ∙ sym b

module _ (f : Frames) (s : Lent) (slot index : ℕ) where
  pub only_pre : {q r : PreRow} → q ≡ pre_row f s slot index → r ≡ pre_row f s slot index → q ≡ r
  only_pre = only

  pub only_post : {q r : PostRow} → q ≡ post_row f s slot index → r ≡ post_row f s slot index → q ≡ r
  only_post = only

module _ (f : Frames) (s : Lent) (index : ℕ) where
  pub only_frame : {q r : FrameRow} → q ≡ frame_row f s index → r ≡ frame_row f s index → q ≡ r
  only_frame = only

  pub only_item : {q r : ItemRow} → q ≡ item_row f s index → r ≡ item_row f s index → q ≡ r
  only_item = only

  pub only_fod_platform : {q r : FodPlatformRow} → q ≡ fod_platform_row f s index → r ≡ fod_platform_row f s index → q ≡ r
  only_fod_platform = only

  pub only_dreamland_whispy : {q r : DreamlandWhispyRow} → q ≡ dreamland_whispy_row f s index → r ≡ dreamland_whispy_row f s index → q ≡ r
  only_dreamland_whispy = only

  pub only_stadium_transformation : {q r : StadiumTransformationRow} → q ≡ stadium_transformation_row f s index → r ≡ stadium_transformation_row f s index → q ≡ r
  only_stadium_transformation = only

-- What each public call answers: a row and 0, or a refusal's number and a row of zeros.
-- Assumes nothing.
use Rattle.std.specs.Prelude.{ℕ, zero, suc}
use Rattle.layout.specs.declared.columns.Family.TheVariants as family
use Rattle.game.specs.Stores.{Lent}
use Rattle.game.specs.declared.frames.Frames.{Frames}
use Rattle.rows.specs.Rows.{pre_of, no_pre, post_of, no_post, item_of, no_item, fod_platform_of, no_fod_platform, dreamland_whispy_of, no_dreamland_whispy, stadium_transformation_of, no_stadium_transformation}
use Rattle.transpose.specs.Judge.{row_refusal}
use Rattle.transpose.specs.Records.{cells_at, mark_at}
use Rattle.transpose.specs.Frame.{no_frame, frame_at}
use Rattle.transpose.specs.declared.frame.Frame.{Frame}
use Rattle.transpose.specs.declared.frame.FrameRow.{FrameRow}
use Rattle.rows.specs.declared.pre.Pre.{Pre}
use Rattle.transpose.specs.declared.records.PreRow.{PreRow}
use Rattle.rows.specs.declared.post.Post.{Post}
use Rattle.transpose.specs.declared.records.PostRow.{PostRow}
use Rattle.rows.specs.declared.item.Item.{Item}
use Rattle.transpose.specs.declared.records.ItemRow.{ItemRow}
use Rattle.rows.specs.declared.small.FodPlatform.{FodPlatform}
use Rattle.transpose.specs.declared.records.FodPlatformRow.{FodPlatformRow}
use Rattle.rows.specs.declared.small.DreamlandWhispy.{DreamlandWhispy}
use Rattle.transpose.specs.declared.records.DreamlandWhispyRow.{DreamlandWhispyRow}
use Rattle.rows.specs.declared.small.StadiumTransformation.{StadiumTransformation}
use Rattle.transpose.specs.declared.records.StadiumTransformationRow.{StadiumTransformationRow}

-- the row where nothing is refused, and the row of zeros where something is
unfoldable pub unless_refused : {A : Type 0} → ℕ → A → A → A
unless_refused zero row none = row
unless_refused (suc k) row none = none

-- an answer: the refusal's number beside the row, or beside zeros
abbrev pub row_answer : {A R : Type 0} → (ℕ → A → R) → ℕ → A → A → R
row_answer answer n row none = answer n (unless_refused n row none)

abbrev pub pre_answer : ℕ → Pre → PreRow
pre_answer n row = record { refused = n; row = row }

abbrev pub pre_row : Frames → Lent → ℕ → ℕ → PreRow
pre_row f s slot index =
    row_answer pre_answer (row_refusal f s family.Pre slot index)
    (pre_of (cells_at f family.Pre s.cells.pres slot index) f.version (mark_at f s.presence slot index)) no_pre

abbrev pub post_answer : ℕ → Post → PostRow
post_answer n row = record { refused = n; row = row }

abbrev pub post_row : Frames → Lent → ℕ → ℕ → PostRow
post_row f s slot index =
    row_answer post_answer (row_refusal f s family.Post slot index)
    (post_of (cells_at f family.Post s.cells.posts slot index) f.version (mark_at f s.presence slot index)) no_post

abbrev pub item_answer : ℕ → Item → ItemRow
item_answer n row = record { refused = n; row = row }

abbrev pub item_row : Frames → Lent → ℕ → ItemRow
item_row f s index =
    row_answer item_answer (row_refusal f s family.Item 0 index)
    (item_of (cells_at f family.Item s.cells.items 0 index) f.version) no_item

abbrev pub fod_platform_answer : ℕ → FodPlatform → FodPlatformRow
fod_platform_answer n row = record { refused = n; row = row }

abbrev pub fod_platform_row : Frames → Lent → ℕ → FodPlatformRow
fod_platform_row f s index =
    row_answer fod_platform_answer (row_refusal f s family.FodPlatform 0 index)
    (fod_platform_of (cells_at f family.FodPlatform s.cells.fods 0 index) f.version) no_fod_platform

abbrev pub dreamland_whispy_answer : ℕ → DreamlandWhispy → DreamlandWhispyRow
dreamland_whispy_answer n row = record { refused = n; row = row }

abbrev pub dreamland_whispy_row : Frames → Lent → ℕ → DreamlandWhispyRow
dreamland_whispy_row f s index =
    row_answer dreamland_whispy_answer (row_refusal f s family.DreamlandWhispy 0 index)
    (dreamland_whispy_of (cells_at f family.DreamlandWhispy s.cells.whispys 0 index) f.version) no_dreamland_whispy

abbrev pub stadium_transformation_answer : ℕ → StadiumTransformation → StadiumTransformationRow
stadium_transformation_answer n row = record { refused = n; row = row }

abbrev pub stadium_transformation_row : Frames → Lent → ℕ → StadiumTransformationRow
stadium_transformation_row f s index =
    row_answer stadium_transformation_answer (row_refusal f s family.StadiumTransformation 0 index)
    (stadium_transformation_of (cells_at f family.StadiumTransformation s.cells.stadiums 0 index) f.version) no_stadium_transformation

abbrev pub frame_answer : ℕ → Frame → FrameRow
frame_answer n row = record { refused = n; row = row }

-- a frame has one row in the family of frame starts, whether or not the version has its records
abbrev pub frame_row : Frames → Lent → ℕ → FrameRow
frame_row f s index = row_answer frame_answer (row_refusal f s family.FrameStart 0 index) (frame_at f s index) no_frame

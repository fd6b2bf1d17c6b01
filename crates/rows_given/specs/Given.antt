-- Rows of cells that are given, whatever they are: what each field is of them.
-- Assumes nothing.
use Rattle.std.specs.Prelude.{ℕ, ◌%◌, ◌^◌, List, length, get_or}
use Rattle.format.specs.Mark.{flag_of}
use Rattle.format.specs.declared.version.Version.{Version}
use Rattle.layout.specs.Columns.{widths_of}
use Rattle.layout.specs.declared.columns.Family.{Family}
use Rattle.layout.specs.declared.columns.Family.TheVariants as family
use Rattle.rows.specs.Cells.{first_cells}
use Rattle.rows.specs.Rows.{pre_of, post_of, item_of, frame_start_of, frame_end_of, fod_platform_of, dreamland_whispy_of, stadium_transformation_of}
use Rattle.rows.specs.declared.pre.Pre.{Pre}
use Rattle.rows.specs.declared.post.Post.{Post}
use Rattle.rows.specs.declared.item.Item.{Item}
use Rattle.rows.specs.declared.small.FrameStart.{FrameStart}
use Rattle.rows.specs.declared.small.FrameEnd.{FrameEnd}
use Rattle.rows.specs.declared.small.FodPlatform.{FodPlatform}
use Rattle.rows.specs.declared.small.DreamlandWhispy.{DreamlandWhispy}
use Rattle.rows.specs.declared.small.StadiumTransformation.{StadiumTransformation}

-- a record's cells: missing ones are 0, those past the version's columns are not looked at, and of a cell over its width the low bytes count
unfoldable pub given_cells : Family → Version → List ℕ → List ℕ
given_cells family v cells = first_cells (λ k. get_or cells k 0 % 256 ^ get_or (widths_of family v) k 0) (length (widths_of family v))

abbrev pub pre_given : List ℕ → Version → ℕ → Pre
pre_given cells v mark = pre_of (given_cells family.Pre v cells) v (flag_of mark)

abbrev pub post_given : List ℕ → Version → ℕ → Post
post_given cells v mark = post_of (given_cells family.Post v cells) v (flag_of mark)

abbrev pub item_given : List ℕ → Version → Item
item_given cells v = item_of (given_cells family.Item v cells) v

abbrev pub frame_start_given : List ℕ → Version → FrameStart
frame_start_given cells v = frame_start_of (given_cells family.FrameStart v cells) v

abbrev pub frame_end_given : List ℕ → Version → FrameEnd
frame_end_given cells v = frame_end_of (given_cells family.FrameEnd v cells) v

abbrev pub fod_platform_given : List ℕ → Version → FodPlatform
fod_platform_given cells v = fod_platform_of (given_cells family.FodPlatform v cells) v

abbrev pub dreamland_whispy_given : List ℕ → Version → DreamlandWhispy
dreamland_whispy_given cells v = dreamland_whispy_of (given_cells family.DreamlandWhispy v cells) v

abbrev pub stadium_transformation_given : List ℕ → Version → StadiumTransformation
stadium_transformation_given cells v = stadium_transformation_of (given_cells family.StadiumTransformation v cells) v

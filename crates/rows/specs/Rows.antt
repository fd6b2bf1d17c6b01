-- The rows: what each field is of a record's cells, in column order.
-- Assumes nothing.
use Rattle.std.specs.Prelude.{ℕ, List, get_or, replicate}
use Rattle.std.specs.Int.{w8, w32}
use Rattle.std.proofs.Common.{to_z}
use Rattle.format.specs.Version.{version}
use Rattle.format.specs.declared.version.Version.{Version}
use Rattle.rows.specs.Parts.{float, position_of, velocity_of, triggers_of, velocities_of, flags_of, misc_of}
use Rattle.rows.specs.declared.pre.Pre.{Pre}
use Rattle.rows.specs.declared.post.Post.{Post}
use Rattle.rows.specs.declared.item.Item.{Item}
use Rattle.rows.specs.declared.small.FrameStart.{FrameStart}
use Rattle.rows.specs.declared.small.FrameEnd.{FrameEnd}
use Rattle.rows.specs.declared.small.FodPlatform.{FodPlatform}
use Rattle.rows.specs.declared.small.DreamlandWhispy.{DreamlandWhispy}
use Rattle.rows.specs.declared.small.StadiumTransformation.{StadiumTransformation}

-- of a player also whether it is in the frame: 1, or 0
abbrev pub pre_of : List ℕ → Version → ℕ → Pre
pre_of raw v present = record {
  version = v;
  present = present;
  bits = raw;
  random_seed = get_or raw 0 0;
  state = get_or raw 1 0;
  position = position_of (get_or raw 2 0) (get_or raw 3 0);
  direction = float (get_or raw 4 0);
  joystick = position_of (get_or raw 5 0) (get_or raw 6 0);
  cstick = position_of (get_or raw 7 0) (get_or raw 8 0);
  triggers = float (get_or raw 9 0);
  buttons = get_or raw 10 0;
  buttons_physical = get_or raw 11 0;
  triggers_physical = triggers_of (get_or raw 12 0) (get_or raw 13 0);
  raw_analog_x = to_z w8 (get_or raw 14 0);
  percent = float (get_or raw 15 0);
  raw_analog_y = to_z w8 (get_or raw 16 0);
  raw_analog_cstick_x = to_z w8 (get_or raw 17 0);
  raw_analog_cstick_y = to_z w8 (get_or raw 18 0);
}

abbrev pub post_of : List ℕ → Version → ℕ → Post
-- the field's name is also a tactic's: the line that names its type says that the field is meant
post_of raw v present = let ground : ℕ = get_or raw 19 0 in record {
  version = v;
  present = present;
  bits = raw;
  character = get_or raw 0 0;
  state = get_or raw 1 0;
  position = position_of (get_or raw 2 0) (get_or raw 3 0);
  direction = float (get_or raw 4 0);
  percent = float (get_or raw 5 0);
  shield = float (get_or raw 6 0);
  last_attack_landed = get_or raw 7 0;
  combo_count = get_or raw 8 0;
  last_hit_by = get_or raw 9 0;
  stocks = get_or raw 10 0;
  state_age = float (get_or raw 11 0);
  state_flags = flags_of (get_or raw 12 0) (get_or raw 13 0) (get_or raw 14 0) (get_or raw 15 0) (get_or raw 16 0);
  misc_as = float (get_or raw 17 0);
  airborne = get_or raw 18 0;
  ground = ground;
  jumps = get_or raw 20 0;
  l_cancel = get_or raw 21 0;
  hurtbox_state = get_or raw 22 0;
  velocities = velocities_of (get_or raw 23 0) (get_or raw 24 0) (get_or raw 25 0) (get_or raw 26 0) (get_or raw 27 0);
  hitlag = float (get_or raw 28 0);
  animation_index = get_or raw 29 0;
  last_hit_by_instance = get_or raw 30 0;
  instance_id = get_or raw 31 0;
}

abbrev pub item_of : List ℕ → Version → Item
item_of raw v = record {
  version = v;
  bits = raw;
  type_id = get_or raw 0 0;
  state = get_or raw 1 0;
  direction = float (get_or raw 2 0);
  velocity = velocity_of (get_or raw 3 0) (get_or raw 4 0);
  position = position_of (get_or raw 5 0) (get_or raw 6 0);
  damage = get_or raw 7 0;
  timer = float (get_or raw 8 0);
  id = get_or raw 9 0;
  misc = misc_of (get_or raw 10 0) (get_or raw 11 0) (get_or raw 12 0) (get_or raw 13 0);
  owner = to_z w8 (get_or raw 14 0);
  instance_id = get_or raw 15 0;
}

abbrev pub frame_start_of : List ℕ → Version → FrameStart
frame_start_of raw v = record { version = v; bits = raw; random_seed = get_or raw 0 0; scene_frame_counter = get_or raw 1 0 }

abbrev pub frame_end_of : List ℕ → Version → FrameEnd
frame_end_of raw v = record { version = v; bits = raw; latest_finalized_frame = to_z w32 (get_or raw 0 0) }

abbrev pub fod_platform_of : List ℕ → Version → FodPlatform
fod_platform_of raw v = record { version = v; bits = raw; platform = get_or raw 0 0; height = float (get_or raw 1 0) }

abbrev pub dreamland_whispy_of : List ℕ → Version → DreamlandWhispy
dreamland_whispy_of raw v = record { version = v; bits = raw; direction = get_or raw 0 0 }

abbrev pub stadium_transformation_of : List ℕ → Version → StadiumTransformation
stadium_transformation_of raw v = record { version = v; bits = raw; event = get_or raw 0 0; type_id = get_or raw 1 0 }

-- ---- the rows that stand for none: all zero, and absent

abbrev pub no_cells : List ℕ
no_cells = replicate 32 0

abbrev pub no_version : Version
no_version = version 0 0 0

abbrev pub no_pre : Pre
no_pre = pre_of no_cells no_version 0

abbrev pub no_post : Post
no_post = post_of no_cells no_version 0

abbrev pub no_item : Item
no_item = item_of no_cells no_version

abbrev pub no_frame_start : FrameStart
no_frame_start = frame_start_of no_cells no_version

abbrev pub no_frame_end : FrameEnd
no_frame_end = frame_end_of no_cells no_version

abbrev pub no_fod_platform : FodPlatform
no_fod_platform = fod_platform_of no_cells no_version

abbrev pub no_dreamland_whispy : DreamlandWhispy
no_dreamland_whispy = dreamland_whispy_of no_cells no_version

abbrev pub no_stadium_transformation : StadiumTransformation
no_stadium_transformation = stadium_transformation_of no_cells no_version

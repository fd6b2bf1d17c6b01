-- The columns of the eight families of frame records: each with its width in bytes and the first version that has it.
-- Assumes nothing.
use Rattle.std.specs.Prelude.{ℕ, ◌+◌, Bool, cond, List, [], ◌∷◌}
use Rattle.format.specs.Version.{version, gte_of}
use Rattle.format.specs.declared.version.Version.{Version}
use Rattle.layout.specs.declared.columns.Column.{Column}
use Rattle.layout.specs.declared.columns.Family.{Family}
use Rattle.layout.specs.declared.columns.Family.TheVariants.{Pre, Post, FrameStart, Item, FrameEnd, FodPlatform, DreamlandWhispy, StadiumTransformation}

-- width, and the version since when
abbrev pub col : ℕ → ℕ → ℕ → Column
col w a b = record { width = w; major = a; minor = b }

-- every column that a family ever had, in the order of its record
unfoldable pub columns_of : Family → List Column
columns_of Pre =
    col 4 0 0 ∷  -- random_seed
    col 2 0 0 ∷  -- state
    col 4 0 0 ∷  -- position.x
    col 4 0 0 ∷  -- position.y
    col 4 0 0 ∷  -- direction
    col 4 0 0 ∷  -- joystick.x
    col 4 0 0 ∷  -- joystick.y
    col 4 0 0 ∷  -- cstick.x
    col 4 0 0 ∷  -- cstick.y
    col 4 0 0 ∷  -- triggers
    col 4 0 0 ∷  -- buttons
    col 2 0 0 ∷  -- buttons_physical
    col 4 0 0 ∷  -- triggers_physical.l
    col 4 0 0 ∷  -- triggers_physical.r
    col 1 1 2 ∷  -- raw_analog_x
    col 4 1 4 ∷  -- percent
    col 1 3 15 ∷  -- raw_analog_y
    col 1 3 17 ∷  -- raw_analog_cstick_x
    col 1 3 17 ∷  -- raw_analog_cstick_y
    []
columns_of Post =
    col 1 0 0 ∷  -- character
    col 2 0 0 ∷  -- state
    col 4 0 0 ∷  -- position.x
    col 4 0 0 ∷  -- position.y
    col 4 0 0 ∷  -- direction
    col 4 0 0 ∷  -- percent
    col 4 0 0 ∷  -- shield
    col 1 0 0 ∷  -- last_attack_landed
    col 1 0 0 ∷  -- combo_count
    col 1 0 0 ∷  -- last_hit_by
    col 1 0 0 ∷  -- stocks
    col 4 0 2 ∷  -- state_age
    col 1 2 0 ∷  -- state_flags.0
    col 1 2 0 ∷  -- state_flags.1
    col 1 2 0 ∷  -- state_flags.2
    col 1 2 0 ∷  -- state_flags.3
    col 1 2 0 ∷  -- state_flags.4
    col 4 2 0 ∷  -- misc_as
    col 1 2 0 ∷  -- airborne
    col 2 2 0 ∷  -- ground
    col 1 2 0 ∷  -- jumps
    col 1 2 0 ∷  -- l_cancel
    col 1 2 1 ∷  -- hurtbox_state
    col 4 3 5 ∷  -- velocities.self_x_air
    col 4 3 5 ∷  -- velocities.self_y
    col 4 3 5 ∷  -- velocities.knockback_x
    col 4 3 5 ∷  -- velocities.knockback_y
    col 4 3 5 ∷  -- velocities.self_x_ground
    col 4 3 8 ∷  -- hitlag
    col 4 3 11 ∷  -- animation_index
    col 2 3 16 ∷  -- last_hit_by_instance
    col 2 3 16 ∷  -- instance_id
    []
columns_of FrameStart =
    col 4 2 2 ∷  -- random_seed
    col 4 3 10 ∷  -- scene_frame_counter
    []
columns_of Item =
    col 2 3 0 ∷  -- type
    col 1 3 0 ∷  -- state
    col 4 3 0 ∷  -- direction
    col 4 3 0 ∷  -- velocity.x
    col 4 3 0 ∷  -- velocity.y
    col 4 3 0 ∷  -- position.x
    col 4 3 0 ∷  -- position.y
    col 2 3 0 ∷  -- damage
    col 4 3 0 ∷  -- timer
    col 4 3 0 ∷  -- id
    col 1 3 2 ∷  -- misc.0
    col 1 3 2 ∷  -- misc.1
    col 1 3 2 ∷  -- misc.2
    col 1 3 2 ∷  -- misc.3
    col 1 3 6 ∷  -- owner
    col 2 3 16 ∷  -- instance_id
    []
columns_of FrameEnd =
    col 4 3 7 ∷  -- latest_finalized_frame
    []
columns_of FodPlatform =
    col 1 3 18 ∷  -- platform
    col 4 3 18 ∷  -- height
    []
columns_of DreamlandWhispy =
    col 1 3 18 ∷  -- direction
    []
columns_of StadiumTransformation =
    col 2 3 18 ∷  -- event
    col 2 3 18 ∷  -- type
    []

-- the first version with a family; FrameEnd is there before its first column
abbrev pub first_version : Family → Version
first_version Pre = version 0 0 0
first_version Post = version 0 0 0
first_version FrameStart = version 2 2 0
first_version Item = version 3 0 0
first_version FrameEnd = version 3 0 0
first_version FodPlatform = version 3 18 0
first_version DreamlandWhispy = version 3 18 0
first_version StadiumTransformation = version 3 18 0

unfoldable pub has_family : Version → Family → Bool
has_family v f = gte_of v (first_version f).major (first_version f).minor

-- f of each element that passes the test p, in order
unfoldable pub chosen : {A B : Type 0} → (A → Bool) → (A → B) → List A → List B
chosen p f [] = []
chosen p f (x ∷ xs) = cond (p x) (f x ∷ chosen p f xs) (chosen p f xs)

-- the widths of those columns that a version has
abbrev pub since : Version → List Column → List ℕ
since v cs = chosen (λ c. gte_of v c.major c.minor) (λ c. c.width) cs

unfoldable pub sum : List ℕ → ℕ
sum [] = 0
sum (x ∷ xs) = x + sum xs

-- the widths of the columns of a version's record, and their sum
abbrev pub widths_of : Family → Version → List ℕ
widths_of f v = since v (columns_of f)

abbrev pub size_of : Family → Version → ℕ
size_of f v = sum (widths_of f v)

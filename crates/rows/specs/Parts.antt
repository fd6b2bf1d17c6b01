-- The parts that rows are made of: floats by their bits.
-- Assumes nothing.
use Rattle.std.specs.Prelude.{ℕ, Float}
use Rattle.std.specs.Float.Ieee.{of_bits}
use Rattle.std.specs.Float.{binary32}
use Rattle.rows.specs.declared.parts.Position.{Position}
use Rattle.rows.specs.declared.parts.Velocity.{Velocity}
use Rattle.rows.specs.declared.parts.TriggersPhysical.{TriggersPhysical}
use Rattle.rows.specs.declared.parts.Velocities.{Velocities}
use Rattle.rows.specs.declared.parts.StateFlags.{StateFlags}
use Rattle.rows.specs.declared.parts.ItemMisc.{ItemMisc}

-- the float that a cell's bits stand for
abbrev pub float : ℕ → Float
float n = of_bits binary32 n

abbrev pub position_of : ℕ → ℕ → Position
position_of a b = record { x = float a; y = float b }

abbrev pub velocity_of : ℕ → ℕ → Velocity
velocity_of a b = record { x = float a; y = float b }

abbrev pub triggers_of : ℕ → ℕ → TriggersPhysical
triggers_of a b = record { l = float a; r = float b }

abbrev pub velocities_of : ℕ → ℕ → ℕ → ℕ → ℕ → Velocities
velocities_of a b c d e = record {
  self_x_air = float a;
  self_y = float b;
  knockback_x = float c;
  knockback_y = float d;
  self_x_ground = float e;
}

abbrev pub flags_of : ℕ → ℕ → ℕ → ℕ → ℕ → StateFlags
flags_of a b c d e = (a, b, c, d, e)

abbrev pub misc_of : ℕ → ℕ → ℕ → ℕ → ItemMisc
misc_of a b c d = (a, b, c, d)

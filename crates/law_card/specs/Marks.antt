-- A player's row with another mark: whether the player is in the frame, and nothing else.
-- Assumes nothing.
use Rattle.std.specs.Prelude.{ℕ}
use Rattle.rows.specs.declared.pre.Pre.{Pre}
use Rattle.rows.specs.declared.post.Post.{Post}

abbrev pub marked_pre : ℕ → Pre → Pre
marked_pre mark r = record {
  version = r.version;
  present = mark;
  bits = r.bits;
  random_seed = r.random_seed;
  state = r.state;
  position = r.position;
  direction = r.direction;
  joystick = r.joystick;
  cstick = r.cstick;
  triggers = r.triggers;
  buttons = r.buttons;
  buttons_physical = r.buttons_physical;
  triggers_physical = r.triggers_physical;
  raw_analog_x = r.raw_analog_x;
  percent = r.percent;
  raw_analog_y = r.raw_analog_y;
  raw_analog_cstick_x = r.raw_analog_cstick_x;
  raw_analog_cstick_y = r.raw_analog_cstick_y;
}

abbrev pub marked_post : ℕ → Post → Post
marked_post mark r = record r { present = mark }

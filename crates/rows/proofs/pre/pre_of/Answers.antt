-- `rows::pre::pre_of` meets its contract: the row, with what each call ensures in its field.
use lib.ListN.{get_or}
use Rattle.layout.specs.Columns.{columns_of}
use Rattle.rows.specs.Inner.{width_at}
use Rattle.rows.proofs.Records.{byte_field}
use Rattle.rows.proofs.pre.pre_of.Goals as goal

pub returns : goal.returns
unfolding width_at columns_of
returns c =
    let a = c.args in
    let raw = a.raw in
    λ i. record {
      version = a.version;
      present = a.present;
      bits = raw;
      random_seed = get_or raw 0 0;
      state = get_or raw 1 0;
      position = c.position_of.ensures i;
      direction = c.float_of.ensures i;
      joystick = c.position_of-2.ensures i;
      cstick = c.position_of-3.ensures i;
      triggers = c.float_of-2.ensures i;
      buttons = get_or raw 10 0;
      buttons_physical = get_or raw 11 0;
      triggers_physical = c.triggers_of.ensures i;
      raw_analog_x = byte_field raw 14 (record { sfits = c.signed8.type_inv }) c.signed8.ensures (c.requires 14) i;
      percent = c.float_of-3.ensures i;
      raw_analog_y = byte_field raw 16 (record { sfits = c.signed8-2.type_inv }) c.signed8-2.ensures (c.requires 16) i;
      raw_analog_cstick_x = byte_field raw 17 (record { sfits = c.signed8-3.type_inv }) c.signed8-3.ensures (c.requires 17) i;
      raw_analog_cstick_y = byte_field raw 18 (record { sfits = c.signed8-4.type_inv }) c.signed8-4.ensures (c.requires 18) i;
    }

pub overflow_cast-result : goal.overflow_cast-result
unfolding width_at columns_of
overflow_cast-result c = record { fits = c.requires 1 }

pub overflow_cast-result-2 : goal.overflow_cast-result-2
unfolding width_at columns_of
overflow_cast-result-2 c = record { fits = c.requires 11 }

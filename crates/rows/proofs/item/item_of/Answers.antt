-- `rows::item::item_of` meets its contract: the row, with what each call ensures in its field.
use lib.ListN.{get_or}
use Rattle.layout.specs.Columns.{columns_of}
use Rattle.rows.specs.Inner.{width_at}
use Rattle.rows.specs.Parts.{misc_of}
use Rattle.rows.proofs.Records.{byte_field}
use Rattle.rows.proofs.item.item_of.Goals as goal

pub returns : goal.returns
unfolding width_at columns_of
returns c =
    let a = c.args in
    let raw = a.raw in
    λ i. record {
      version = a.version;
      bits = raw;
      type_id = get_or raw 0 0;
      state = get_or raw 1 0;
      direction = c.float_of.ensures i;
      velocity = c.velocity_of.ensures i;
      position = c.position_of.ensures i;
      damage = get_or raw 7 0;
      timer = c.float_of-2.ensures i;
      id = get_or raw 9 0;
      misc = misc_of (get_or raw 10 0) (get_or raw 11 0) (get_or raw 12 0) (get_or raw 13 0);
      owner = byte_field raw 14 (record { sfits = c.signed8.type_inv }) c.signed8.ensures (c.requires 14) i;
      instance_id = get_or raw 15 0;
    }

pub overflow_cast-result : goal.overflow_cast-result
unfolding width_at columns_of
overflow_cast-result c = record { fits = c.requires 0 }

pub overflow_cast-result-2 : goal.overflow_cast-result-2
unfolding width_at columns_of
overflow_cast-result-2 c = record { fits = c.requires 1 }

pub overflow_cast-result-3 : goal.overflow_cast-result-3
unfolding width_at columns_of
overflow_cast-result-3 c = record { fits = c.requires 7 }

pub overflow_cast-result-4 : goal.overflow_cast-result-4
unfolding width_at columns_of
overflow_cast-result-4 c = record { fits = c.requires 10 }

pub overflow_cast-result-5 : goal.overflow_cast-result-5
unfolding width_at columns_of
overflow_cast-result-5 c = record { fits = c.requires 11 }

pub overflow_cast-result-6 : goal.overflow_cast-result-6
unfolding width_at columns_of
overflow_cast-result-6 c = record { fits = c.requires 12 }

pub overflow_cast-result-7 : goal.overflow_cast-result-7
unfolding width_at columns_of
overflow_cast-result-7 c = record { fits = c.requires 13 }

pub overflow_cast-result-8 : goal.overflow_cast-result-8
unfolding width_at columns_of
overflow_cast-result-8 c = record { fits = c.requires 15 }

use Prim.Native.Nat.{◌+◌}
use native.Mathlib.Omega.{arith}
use Rattle.read_event.proofs.Leaves.{in_only}
use Rattle.read_leap.proofs.Leaps.{eight_long, table_long, table_reach, table_rows}
use Rattle.read_leap.proofs.leap.put_stepped.Goals as goal

pub get_records-requires : goal.get_records-requires
get_records-requires c =
    let h = c.requires in
    let a = c.args in
    let p = c.put_steps.ensures in
    (omega arith, omega (arith, h.2), in_only a.widths.now a.cells.now a.stride (a.row + 7) h.1 (omega (arith, h.2)), table_long a.file.now _ _ _ _ p (eight_long a.at), table_reach a.file.now _ _ _ _ p (eight_long a.at) _ h.0)

pub returns : goal.returns
returns c = table_rows _ _ _ _ _ c.put_steps.ensures (eight_long c.args.at) _ _ _ _ _ c.get_records.ensures

-- `head::table::table_missing` meets its contract: each test, in the order of the definition.
use borrow.Author.Tests.{lt-ltb, le-ltb, eq-eqb, ne_eqb}
use native.Mathlib.Omega.{arith}
use mathlib.Core.Path.{sym}
use Prim.Native.Nat.{◌%◌}
use lib.ListN.{get_or}
use Rattle.head.specs.Table.{stop_of, table_missing}
use Rattle.head.proofs.table.table_missing.Goals as goal

pub returns-then-stop-lt17 : goal.returns-then-stop-lt17
unfolding table_missing
returns-then-stop-lt17 c =
    let f = c.args.file.now in
    sym (simp (lt-ltb (stop_of f) 17 (omega arith)))

pub returns-then-file-ne-PAYLOADS : goal.returns-then-file-ne-PAYLOADS
unfolding table_missing
returns-then-file-ne-PAYLOADS c =
    let f = c.args.file.now in
    sym (simp (le-ltb (stop_of f) 17 (omega arith), ne_eqb (get_or f 15 0) 0x35 (omega arith)))

pub returns-then-size-ne1 : goal.returns-then-size-ne1
unfolding table_missing
returns-then-size-ne1 c =
    let f = c.args.file.now in
    sym (simp (le-ltb (stop_of f) 17 (omega arith), eq-eqb (get_or f 15 0) 0x35 (omega arith), ne_eqb (get_or f 16 0 % 3) 1 (omega arith)))

pub returns : goal.returns
unfolding table_missing
returns c =
    let f = c.args.file.now in
    sym
    (simp (le-ltb (stop_of f) 17 (omega arith), eq-eqb (get_or f 15 0) 0x35 (omega arith), eq-eqb (get_or f 16 0 % 3) 1 (omega arith), c.requires.0, c.wide-size.ensures.0))

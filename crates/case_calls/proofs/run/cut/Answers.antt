use mathlib.Core.Path.{sym, ap, ◌∙◌}
use mathlib.Core.List.{List}
use Prim.Native.Nat.{ℕ}
use lib.Dec.{lit<}
use lib.ListN.{take}
use lib.Seq.{take_all, length-take-le}
use native.Mathlib.Omega.{arith}
use borrow.Author.Rules.{rules}
use Rattle.de.specs.Walk.{walk_of}
use Rattle.de.specs.Numbers.{walk_numbers}
use Rattle.case_table.specs.Table.{listed, cases}
use Rattle.case_table.proofs.Computed.{case_holds}
use Rattle.case_calls.proofs.RowLaws.{whole_file}
use Rattle.case_calls.proofs.run.cut.Goals as goal

-- cut after its end, which is whole
pub returns-then-n-gt351 : goal.returns-then-n-gt351
unfolding cases
returns-then-n-gt351 c =
    let w = c.write_least in
    let n = c.args.n in
    let uncut = take_all n w.new.out (omega (arith, w.auto.out, c.if-n-gt351.true)) in
    c.walk_row.ensures
    ∙ ap (λ (l : List ℕ). listed (walk_numbers (walk_of l))) (sym uncut)
    ∙ ap (λ (l : List ℕ). listed (walk_numbers (walk_of (take n l)))) (whole_file 335 w.ensures (case_holds 0 (lit< tt)))

pub slice_bounds-walk_row-end-2 : goal.slice_bounds-walk_row-end-2
slice_bounds-walk_row-end-2 c = sym (length-take-le _ _ (omega (arith, c.write_least.auto.out, c.if-n-gt351.false)))

pub returns : goal.returns
unfolding cases
returns c =
    let w = c.write_least in
    let n = c.args.n in
    c.walk_row-2.ensures ∙ ap (λ (l : List ℕ). listed (walk_numbers (walk_of (take n l)))) (whole_file 335 w.ensures (case_holds 0 (lit< tt)))

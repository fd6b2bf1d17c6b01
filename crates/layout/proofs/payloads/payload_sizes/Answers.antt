use mathlib.Core.Path.{refl, sym, ap, ap₂, ◌∙◌}
use mathlib.Core.List.{map}
use Prim.Native.Nat.{ℕ}
use native.Mathlib.Omega.{arith}
use lib.ListN.{length, length-map, length-set}
use lib.Seq.{length-take-le}
use Rattle.layout.specs.Inner.{entry_as}
use Rattle.layout.specs.declared.payloads.PayloadSize.{PayloadSize}
use Rattle.layout.proofs.Laws.{collect_start, collect_take, collect_skip, collect_done}
use Rattle.layout.proofs.Entries.{entries_are}
use Rattle.layout.proofs.payloads.payload_sizes.Goals as goal
use Rattle.layout.proofs.payloads.payload_sizes.Goals.{then-is_listed, else-is_listed}

pub loop-e-init : goal.loop-e-init
loop-e-init c = (omega arith, refl, collect_start _ _ _ _ _)

pub loop-e-preserved : goal.loop-e-preserved
loop-e-preserved c =
    let l = c.loop-e in
    elim c.if-is_listed.branch [
      | then-is_listed w ↦
          rw (w.len-is, w.entries-is) (
            omega arith,
            simp length-set l.invariant.1,
            collect_take _ _ _ _ l.e-index l.len l.entries _ _ (omega arith) (omega arith)
                (ap₂ (λ (code size : ℕ). let e : PayloadSize = record { code = code; size = size } in e) w.code.ensures w.payload_size.ensures.0)
                c.is_listed.ensures w.if-is_listed.true l.invariant.2,
          )
      | else-is_listed w ↦
          rw (w.len-is, w.entries-is)
          (omega arith, l.invariant.1, collect_skip _ _ _ _ l.e-index l.len l.entries _ (omega arith) c.is_listed.ensures w.if-is_listed.false l.invariant.2)
    ]

pub returns : goal.returns
returns c =
    let l = c.loop-e in
    let a = c.args in
    let each = ap (map entry_as) (collect_done _ _ _ _ l.e-index l.len l.entries (omega arith) l.invariant.2) ∙ entries_are a.v a.block a.given a.actual in
    record {
      count = sym (length-map _ entry_as ∙ length-take-le l.len l.entries (omega arith)) ∙ ap length each;
      each = each;
      few = omega arith;
      room = l.invariant.1;
    }

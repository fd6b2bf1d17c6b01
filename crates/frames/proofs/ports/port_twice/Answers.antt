use mathlib.Core.Path.{refl}
use mathlib.Core.List.{map}
use Prim.Native.Nat.{ℕ, ◌+◌}
use native.Mathlib.Omega.{arith}
use lib.Dec.{eqb}
use lib.ListN.{drop}
use Rattle.format.proofs.Tests.{tested}
use Rattle.format.specs.Refusal.{one_of}
use Rattle.frames.specs.Judge.{port_numbers}
use Rattle.frames.proofs.PortLaws.{length_numbers, twice_here, twice_skip, twice_none}
use Rattle.frames.proofs.ports.port_twice.Goals as goal

pub loop-k-init : goal.loop-k-init
loop-k-init c = (omega arith, refl)

pub port_number-port-requires : goal.port_number-port-requires
port_number-port-requires c = omega (arith, length_numbers c.args.f)

pub returns-then-port_again : goal.returns-then-port_again
returns-then-port_again c =
    let ns = port_numbers c.args.f in
    twice_here _ _ c.loop-k.k (omega (arith, length_numbers c.args.f)) (tested (λ (n : ℕ). one_of (map (eqb n) (drop (c.loop-k.k + 1) ns))) c.port_number-port.ensures c.port_again.ensures c.if-port_again.true) c.loop-k.invariant.1

pub loop-k-preserved : goal.loop-k-preserved
loop-k-preserved c =
    let ns = port_numbers c.args.f in
    (omega arith, twice_skip _ _ c.loop-k.k (omega (arith, length_numbers c.args.f)) (tested (λ (n : ℕ). one_of (map (eqb n) (drop (c.loop-k.k + 1) ns))) c.port_number-port.ensures c.port_again.ensures c.if-port_again.false) c.loop-k.invariant.1)

pub returns : goal.returns
returns c = twice_none _ _ c.loop-k.k (omega (arith, length_numbers c.args.f)) c.loop-k.invariant.1

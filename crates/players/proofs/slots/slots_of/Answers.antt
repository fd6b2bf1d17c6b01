use mathlib.Core.Path.{◌≡◌, ap, ◌∙◌}
use Prim.Native.Nat.{◌≤◌}
use native.Mathlib.Omega.{arith}
use lib.ListN.{length}
use Rattle.wire.proofs.Laws.{tabulate_length}
use Rattle.game.specs.Frames.{port_bytes}
use Rattle.players.specs.Inner.{slot_in, slots_in}
use Rattle.players.proofs.SlotLaws.{gather_start, gather_step, gather_done, few_slots, even_bytes}
use Rattle.players.proofs.slots.slots_of.Goals as goal
use Rattle.players.proofs.slots.slots_of.Goals.{After-port-p}

pub loop-k-init : goal.loop-k-init
loop-k-init c = (omega arith, omega arith, omega arith, c.none-s.ensures.1, gather_start _ c.none-s.result c.none-s.ensures.0)

-- the port column that was read has few presence bytes
few_bytes : (c : After-port-p) → port_bytes c.port-p.result ≤ 262144
few_bytes c =
    omega (arith, ap port_bytes c.port-p.ensures, even_bytes c.args.f c.requires.0 c.requires.1 c.loop-k.k (omega arith))

pub with_port-s-requires : goal.with_port-s-requires
with_port-s-requires c = (omega arith, c.loop-k.invariant.3, omega (arith, few_bytes c))

pub bytes-at-requires : goal.bytes-at-requires
bytes-at-requires c = omega (arith, few_bytes (goal.at.bytes-at-requires c).After-port-p)

pub overflow_add-at : goal.overflow_add-at
overflow_add-at c = omega (arith, few_bytes (goal.at.overflow_add-at c).After-port-p)

pub loop-k-preserved : goal.loop-k-preserved
loop-k-preserved c =
    let p = c in
    let g = c.with_port-s.ensures in (
      omega arith,
      omega (arith, g.count, few_slots p.loop-k.at p.port-p.result),
      omega (arith, few_bytes (goal.at.loop-k-preserved c).After-port-p),
      g.eight,
      rw c.bytes-at.ensures (gather_step _ p.loop-k.k p.loop-k.at p.loop-k.s _ _ (omega arith) p.port-p.ensures g p.loop-k.invariant.4),
    )

pub returns : goal.returns
returns c =
    let f = c.args.f in
    let all = gather_done f c.loop-k.k c.loop-k.at c.loop-k.s (omega arith) c.loop-k.invariant.4 in
    let count : c.loop-k.s.count ≡ length (slots_in c.loop-k.s) = omega (arith, tabulate_length c.loop-k.s.count (slot_in c.loop-k.s)) in
    record { count = count ∙ ap length all; few = omega arith; listed = all; eight = c.loop-k.invariant.3 }

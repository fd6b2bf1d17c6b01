use mathlib.Core.Path.{ap}
use Prim.Native.Nat.{◌≤◌}
use native.Mathlib.Omega.{arith}
use Rattle.game.specs.Frames.{ports_of, port_bytes}
use Rattle.players.proofs.SlotLaws.{even_bytes}
use Rattle.frames.proofs.PortLaws.{sum_step, sum_done}
use Rattle.frames.proofs.ports.presence_bytes.Goals as goal
use Rattle.frames.proofs.ports.presence_bytes.Goals.{After-port}

pub loop-k-init : goal.loop-k-init
loop-k-init c = (omega arith, omega arith, omega arith)

few_bytes : (c : After-port) → port_bytes c.port.result ≤ 262144
few_bytes c =
    omega (arith, ap port_bytes c.port.ensures, even_bytes c.args.f c.requires.0 c.requires.1 c.loop-k.k (omega arith))

pub bytes-n-requires : goal.bytes-n-requires
bytes-n-requires c = omega (arith, few_bytes c)

pub overflow_add-n : goal.overflow_add-n
overflow_add-n c = omega (arith, few_bytes (goal.at.overflow_add-n c).After-port)

pub loop-k-preserved : goal.loop-k-preserved
loop-k-preserved c =
    let p = c in
    let ps = ports_of p.args.f in
    (omega arith, omega (arith, few_bytes (goal.at.loop-k-preserved c).After-port), omega (arith, p.loop-k.invariant.2, c.bytes-n.ensures, ap port_bytes p.port.ensures, sum_step port_bytes ps p.loop-k.k (omega arith)))

pub returns : goal.returns
returns c = omega (arith, c.loop-k.invariant.2, sum_done port_bytes (ports_of c.args.f) c.loop-k.k (omega arith))

use mathlib.Core.Path.{◌≡◌, ap}
use mathlib.Core.List.{List}
use Prim.Native.Nat.{ℕ, ◌+◌, ◌-◌, ◌≤◌}
use native.Mathlib.Omega.{arith}
use lib.ListN.{drop}
use Rattle.game.specs.Frames.{Slot}
use Rattle.players.specs.Inner.{slots_in}
use Rattle.players.proofs.PresenceLaws.{slot_covered}
use Rattle.events.specs.Length.{players_over}
use Rattle.append.proofs.Lengths.{covers_fewer, over_step, over_done, over_few}
use Rattle.append.proofs.length.players_between.Goals as goal
use Rattle.append.proofs.length.players_between.Goals.{After-present_between-n, Start}

pub loop-k-init : goal.loop-k-init
loop-k-init c = (omega arith, c.requires.1.few, omega arith)

pub present_between-n-requires : goal.present_between-n-requires
present_between-n-requires c =
    (covers_fewer _ (slot_covered c.args.f c.args.presence.now c.args.s c.requires.2 c.requires.1 c.loop-k.k (omega arith)) c.requires.4, c.requires.3)

-- the players of all slots are few
all : (c : Start) → players_over c.args.presence.now (slots_in c.args.s) c.args.a (c.args.b - c.args.a) ≤ 8388608
all c =
    let players : List Slot → ℕ = λ ss. players_over c.args.presence.now ss c.args.a (c.args.b - c.args.a) in
    omega (arith, ap players c.requires.1.listed, over_few c.args.f c.args.presence.now c.args.a (c.args.b - c.args.a) (omega (arith, c.requires.0.frames, c.requires.4)))

-- one slot more
more : (c : After-present_between-n)
    → let x = c.args in
    c.loop-k.n + c.present_between-n.result + players_over x.presence.now (drop (c.loop-k.k + 1) (slots_in x.s)) x.a (x.b - x.a)
    ≡ players_over x.presence.now (slots_in x.s) x.a (x.b - x.a)
more c =
    omega (arith, c.loop-k.invariant.2, c.present_between-n.ensures, over_step c.args.presence.now c.args.a (c.args.b - c.args.a) c.args.s c.loop-k.k (omega arith))

pub overflow_add-n : goal.overflow_add-n
overflow_add-n c = omega (arith, more c, all (goal.at.overflow_add-n c).Start)

pub loop-k-preserved : goal.loop-k-preserved
loop-k-preserved c = (omega arith, c.loop-k.invariant.1, more c)

pub returns : goal.returns
returns c =
    let players : List Slot → ℕ = λ ss. players_over c.args.presence.now ss c.args.a (c.args.b - c.args.a) in
    let done = over_done c.args.presence.now c.args.a (c.args.b - c.args.a) c.args.s c.loop-k.k (omega arith) in
    (omega (arith, c.loop-k.invariant.2, done, ap players c.requires.1.listed), omega (arith, c.loop-k.invariant.2, all (goal.at.returns c).Start))

use mathlib.Core.Path.{◌≡◌, ap}
use mathlib.Core.List.{List}
use Prim.Native.Nat.{ℕ, ◌+◌, ◌*◌, ◌≤◌}
use native.Mathlib.Omega.{arith}
use lib.ListN.{drop}
use Rattle.game.specs.Frames.{Slot}
use Rattle.players.specs.Inner.{slots_in}
use Rattle.players.specs.Presence.{players_present}
use Rattle.players.proofs.PresenceLaws.{slot_covered, players_step, players_done, players_few}
use Rattle.players.proofs.presence.players_present.Goals as goal
use Rattle.players.proofs.presence.players_present.Goals.{After-present_in-n, Start}

pub loop-k-init : goal.loop-k-init
loop-k-init c = (omega arith, c.requires.1.few, omega arith)

pub present_in-n-requires : goal.present_in-n-requires
present_in-n-requires c =
    slot_covered c.args.f c.args.presence.now c.args.s c.requires.2 c.requires.1 c.loop-k.k (omega arith)

-- the players of all slots, and that they are few
all : (c : Start) → players_present c.args.presence.now (slots_in c.args.s) c.args.f.counts.frames ≤ 8 * c.args.f.counts.frames
all c =
    let players : List Slot → ℕ = λ ss. players_present c.args.presence.now ss c.args.f.counts.frames in
    omega (arith, ap players c.requires.1.listed, players_few c.args.f c.args.presence.now c.args.f.counts.frames)

-- one slot more
more : (c : After-present_in-n)
    → c.loop-k.n + c.present_in-n.result
    + players_present c.args.presence.now (drop (c.loop-k.k + 1) (slots_in c.args.s)) c.args.f.counts.frames
    ≡ players_present c.args.presence.now (slots_in c.args.s) c.args.f.counts.frames
more c =
    omega (arith, c.loop-k.invariant.2, c.present_in-n.ensures, players_step c.args.presence.now c.args.f.counts.frames c.args.s c.loop-k.k (omega arith))

pub overflow_add-n : goal.overflow_add-n
overflow_add-n c =
    omega (arith, more c, all (goal.at.overflow_add-n c).Start, c.requires.0.frames)

pub loop-k-preserved : goal.loop-k-preserved
loop-k-preserved c = (omega arith, c.loop-k.invariant.1, more c)

pub returns : goal.returns
returns c =
    let players : List Slot → ℕ = λ ss. players_present c.args.presence.now ss c.args.f.counts.frames in
    let done = players_done c.args.presence.now c.args.f.counts.frames c.args.s c.loop-k.k (omega arith) in
    (omega (arith, c.loop-k.invariant.2, done, ap players c.requires.1.listed), omega (arith, c.loop-k.invariant.2, all (goal.at.returns c).Start))

use mathlib.Core.Path.{ap, ◌∙◌}
use mathlib.Core.Bool.{cond}
use Prim.Native.Nat.{ℕ}
use Rattle.std.specs.Option.{unwrap_or}
use Rattle.transpose.specs.Ports.{data_of}
use Rattle.transpose.specs.Inner.{nobody}
use Rattle.transpose.proofs.Shown.{mark_shown, one_or_zero}
use Rattle.transpose.proofs.Slotting.{attends, playing, port_from, port_shown}
use Rattle.transpose.proofs.ports.port_at.Goals as goal

pub mark_of-first-requires : goal.mark_of-first-requires
mark_of-first-requires c = λ e. let h = c.seat_at-s.ensures.leader e in attends _ (c.requires h.0) h.1

pub mark_of-second-requires : goal.mark_of-second-requires
mark_of-second-requires c = λ e. let h = c.seat_at-s.ensures.follower e in attends _ (c.requires h.0) h.1

pub data_at-leader-requires : goal.data_at-leader-requires
data_at-leader-requires c = λ e. let h = c.seat_at-s.ensures.leader e in playing _ (c.requires h.0) h.1

pub data_at-follower-requires : goal.data_at-follower-requires
data_at-follower-requires c = λ e. let h = c.seat_at-s.ensures.follower e in playing _ (c.requires h.0) h.1

pub returns : goal.returns
returns c =
    let a = c.args in
    let s = c.seat_at-s in
    let player = λ (slot : ℕ). data_of a.f a.pres.now a.posts.now slot a.index in
    let leader = c.data_at-leader.ensures ∙ mark_shown (player (unwrap_or s.result.leader 0)) nobody _ _ c.mark_of-first.ensures in
    let follower = c.data_at-follower.ensures ∙ mark_shown (player (unwrap_or s.result.follower 0)) nobody _ _ c.mark_of-second.ensures in
    let given = c.from.ensures ∙ one_or_zero _ ∙ ap (λ b. cond {A = ℕ} b 1 0) c.is_some.ensures in
    (λ i. record { port = s.result.port; follower_given = given i; leader = leader i; follower = follower i })
    ∙ ap (port_from a.f a.pres.now a.posts.now a.presence.now a.index) s.ensures.is
    ∙ port_shown a.f a.pres.now a.posts.now a.presence.now a.index a.k a.shown

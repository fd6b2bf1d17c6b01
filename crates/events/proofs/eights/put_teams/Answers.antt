use mathlib.Core.Path.{◌≡◌, sym, ◌∙◌}
use Prim.Native.Nat.{◌+◌, ◌*◌}
use native.Mathlib.Omega.{arith}
use Rattle.spread.proofs.Laws.{rest_start, rest_skip, rest_room, rest_step, rest_done, rooms_as, sown_as}
use Rattle.events.specs.Eights.{player_on, players_from}
use Rattle.events.proofs.Laws.{row_in, first_small}
use Rattle.events.proofs.EightLaws.{players_start, players_step, players_done, player_here, player_gone}
use Rattle.events.proofs.eights.put_teams.Goals as goal
use Rattle.events.proofs.eights.put_teams.Goals.{then-is_present, else-is_present}

pub loop-k-init : goal.loop-k-init
loop-k-init c = (omega arith, rest_skip _ rest_start (λ t h. players_start _ _ _ _ _ _ t))

pub overflow_mul-row : goal.overflow_mul-row
overflow_mul-row c = omega (arith, first_small c.args.m.block c.loop-k.k c.args.i (omega arith) c.requires.0.small (omega arith))

pub overflow_add-row : goal.overflow_add-row
overflow_add-row c = omega (arith, first_small c.args.m.block c.loop-k.k c.args.i (omega arith) c.requires.0.small (omega arith))

pub put_eight_rows-p-requires : goal.put_eight_rows-p-requires
put_eight_rows-p-requires c =
    let a = c.args in
    let l = c.loop-k in
    let q = c.requires.0 in
    let t = c.loop-k-test.true in
    let here = sym c.is_present.ensures ∙ c.if-is_present.true in
    let inside = row_in a.m a.cells.now a.s.count l.k (a.i + 7) q t (omega arith) in
    let e : l.k * a.m.block + a.i + 7 ≡ l.k * a.m.block + (a.i + 7) = omega arith in
    let room = rest_room (player_on a.m a.s a.cells.now a.presence.now a.ids.now a.i l.k) (players_from a.m a.s a.cells.now a.presence.now a.ids.now a.i (l.k + 1)) l.invariant.1 (λ j h. players_step a.m a.s a.cells.now
    a.presence.now a.ids.now a.i l.k t j) c.requires.7 in
    (q.few, q.total, rw e inside, c.requires.4, c.requires.5, rooms_as _ (player_here a.m a.s a.cells.now a.presence.now a.ids.now a.i l.k t c.requires.6 here) room)

pub loop-k-preserved : goal.loop-k-preserved
loop-k-preserved c =
    let a = c.args in
    let l = c.loop-k in
    let t = c.loop-k-test.true in
    let on = player_on a.m a.s a.cells.now a.presence.now a.ids.now a.i l.k in
    let rest = players_from a.m a.s a.cells.now a.presence.now a.ids.now a.i (l.k + 1) in
    elim c.if-is_present.branch [
      | then-is_present w ↦
          let here = sym c.is_present.ensures ∙ w.if-is_present.true in
          let sown = sown_as on (λ j h. sym (player_here a.m a.s a.cells.now a.presence.now a.ids.now a.i l.k t c.requires.6 here j h)) w.put_eight_rows-p.ensures in
          rw (w.out-is, w.p-is) (omega arith, rest_step on rest l.invariant.1 (λ j h. players_step a.m a.s a.cells.now a.presence.now a.ids.now a.i l.k t j) c.requires.7 sown)
      | else-is_present w ↦
          let gone = sym c.is_present.ensures ∙ w.if-is_present.false in
          rw (w.out-is, w.p-is) (omega arith, rest_skip rest l.invariant.1 (player_gone a.m a.s a.cells.now a.presence.now a.ids.now a.i l.k t c.requires.6 gone))
    ]

pub shape_of-out : goal.shape_of-out
shape_of-out c = c.loop-k.invariant.1.same

pub returns : goal.returns
returns c = rest_done c.loop-k.invariant.1 (λ t h. players_done _ _ _ _ _ _ _ c.loop-k-test.false t)

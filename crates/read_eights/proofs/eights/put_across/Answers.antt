use mathlib.Core.Path.{refl, sym, ◌∙◌}
use native.Mathlib.Omega.{arith}
use Rattle.read_places.proofs.Scans.{each_get}
use Rattle.read_eights.proofs.Places.{player_seven, spans_seven, reach_pre, reach_post, across_as}
use borrow.Author.Rules.{rules}
use Rattle.read_eights.proofs.eights.put_across.Reads as reads
use Rattle.read_eights.proofs.eights.put_across.Lts as lts
use Rattle.read_eights.proofs.eights.is_same.Reads as is-same-reads
use Rattle.read_eights.proofs.eights.put_each.Reads as put-each-reads
use Rattle.read_eights.proofs.eights.put_seat.Reads as put-seat-reads
use Rattle.read_places.proofs.scan.is_players.Reads as is-players-reads
use Rattle.read_eights.proofs.eights.put_across.Goals as goal

pub bounds-file-places : goal.bounds-file-places
bounds-file-places c =
    let w = each_get _ _ c.args.i c.requires.1 (omega (arith, c.requires.0)) in omega (arith, w.long, w.inside)

pub is_same-requires : goal.is_same-requires
is_same-requires c = let h = c.requires in let z = spans_seven _ _ h.2 in (h.0, h.1, z.0, z.1, sym c.is_players.ensures ∙ c.if-is_players.true)

pub put_seat-requires : goal.put_seat-requires
put_seat-requires c =
    let h = c.requires in
    let z = spans_seven _ _ h.2 in
    let p = sym c.is_players.ensures ∙ c.if-is_players.true in
    let s = c.is_same.ensures c.if-is_same.true in
    (refl, p, s, h.0, player_seven _ _ _ (each_get _ _ c.args.i h.1 (omega (arith, h.0))) z.0 z.1 p, reach_pre _ _ h.2 _ _ _ h.0 h.1 s, reach_post _ _ h.2 _ _ _ h.0 h.1 s, h.3, omega (arith, h.4, h.5))

pub returns-then-is_same : goal.returns-then-is_same
returns-then-is_same c =
    c.put_seat.ensures ∙ across_as _ _ _ _ _ _ _ (omega (arith, c.requires.4))

pub put_each-requires : goal.put_each-requires
put_each-requires c = let h = c.requires in (h.0, h.1, h.2, h.3, omega (arith, h.5))

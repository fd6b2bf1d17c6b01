use mathlib.Core.Path.{refl, ◌∙◌}
use mathlib.Core.Bool.{true}
use Rattle.read_event.specs.Inner.{plan_of}
use Rattle.read_event.specs.Parts.{seats}
use Rattle.read_event.proofs.Plans.{widths_cut, numbers_cut}
use Rattle.read_eights.proofs.Passing.{seating_is, seat_spans_are, seat_rooms_as, seats_run_as}
use borrow.Author.Rules.{rules}
use Rattle.newer_fill.proofs.seats.fill_players.Reads as reads
use Rattle.newer_fill.proofs.seats.fill_players.Lts as lts
use Rattle.newer_fill.proofs.seats.pass.Reads as pass-reads
use Rattle.layout.proofs.listing.widths.Reads as widths-reads
use Rattle.newer_fill.proofs.seats.fill_players.Goals as goal

pub slice_bounds-pass-end : goal.slice_bounds-pass-end
slice_bounds-pass-end c = (widths_cut _ _ _ _ _ c.widths-pre.ensures).1

pub slice_bounds-pass-end-2 : goal.slice_bounds-pass-end-2
slice_bounds-pass-end-2 c = (widths_cut _ _ _ _ _ c.widths-post.ensures).1

pub slice_bounds-pass-end-3 : goal.slice_bounds-pass-end-3
slice_bounds-pass-end-3 c = (numbers_cut _ _ _ c.requires.1).1

pub pass-requires : goal.pass-requires
pass-requires c =
    let h = c.requires in
    let e = seating_is c.args.f _ _ _ _ c.widths-pre.ensures c.widths-post.ensures h.1 in
    (seat_spans_are (plan_of c.args.f) _ _ h.0 e, h.2, h.3, seat_rooms_as _ _ _ e h.4)

pub returns : goal.returns
returns c =
    let a = c.args in
    let e = seating_is a.f _ _ _ _ c.widths-pre.ensures c.widths-post.ensures c.requires.1 in
    λ es x. c.pass.ensures es x ∙ seats_run_as true true _ _ es (seats a.pres.now a.posts.now a.presence.now) refl e

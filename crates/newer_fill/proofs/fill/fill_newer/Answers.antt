use mathlib.Core.Path.{◌∙◌}
use Rattle.game.specs.Stores.{cells, offsets, lent}
use Rattle.known.specs.Known.{known_of}
use Rattle.read_event.specs.Inner.{plan_of}
use Rattle.read_event.proofs.Plans.{rooms_players}
use Rattle.read_pass.proofs.Parts.{row_rooms, seat_rooms}
use Rattle.newer_fill.proofs.Parts.{known_in, some_known, filled_newer}
use borrow.Author.Rules.{rules}
use Rattle.newer_fill.proofs.fill.fill_newer.Reads as reads
use Rattle.newer_fill.proofs.fill.fill_newer.Lts as lts
use Rattle.newer_fill.proofs.seats.fill_players.Reads as fill-players-reads
use Rattle.read_event.proofs.numbers.numbers_of.Reads as numbers-of-reads
use Rattle.read_event.proofs.zeros.clear_players.Reads as clear-players-reads
use Rattle.newer_fill.proofs.fill.spans_of.Reads as spans-of-reads
use Rattle.newer_rows.proofs.fill.fill_rows.Reads as fill-rows-reads
use Rattle.players.proofs.slots.slots_of.Reads as slots-of-reads
use Rattle.newer_fill.proofs.fill.fill_newer.Goals as goal

pub clear_players-requires : goal.clear_players-requires
clear_players-requires c =
    let h = c.requires in
    let s = c.slots_of-s.ensures in
    let r = rooms_players _ _ h.5 in
    (s.count, s.few, h.0.frames, r.0, r.1, r.2)

pub fill_players-requires : goal.fill_players-requires
fill_players-requires c =
    let f = c.args.f in
    let h = c.requires in
    let k = c.clear_players.auto in
    let z = c.spans_of-z.ensures in
    (z, c.numbers_of-numbers.ensures, h.3, some_known f _ _ _ _ _ z h.4, seat_rooms (plan_of f) _ _ _ _ h.5 k.pres k.posts k.presence)

pub fill_rows-requires : goal.fill_rows-requires
fill_rows-requires c =
    let f = c.args.f in
    let h = c.requires in
    let z = c.spans_of-z.ensures in
    (z, h.2, h.3, some_known f _ _ _ _ _ z h.4, row_rooms (plan_of f) _ h.5)

pub shape_of-pres : goal.shape_of-pres
shape_of-pres c =
    c.fill_players.auto.pres ∙ c.clear_players.auto.pres

pub shape_of-posts : goal.shape_of-posts
shape_of-posts c =
    c.fill_players.auto.posts ∙ c.clear_players.auto.posts

pub shape_of-presence : goal.shape_of-presence
shape_of-presence c =
    c.fill_players.auto.presence ∙ c.clear_players.auto.presence

pub returns : goal.returns
returns c =
    let a = c.args in
    let f = a.f in
    let z = c.spans_of-z.ensures in
    let k = cells a.ids.now a.starts.now a.pres.now a.posts.now a.ends.now a.items.now a.fods.now a.whispys.now a.stadiums.now in
    let o = offsets a.item_offsets.now a.fod_offsets.now a.whispy_offsets.now a.stadium_offsets.now in
    λ raw q.
    let x = known_in f _ _ _ _ _ raw z q in
    let es = known_of f.version raw in
    filled_newer f c.requires.2 es (lent k o a.presence.now) _ _ _ _ _ c.clear_players.ensures (c.fill_players.ensures es x) (c.fill_rows.ensures es x)

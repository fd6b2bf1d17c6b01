use borrow.Author.Rules.{rules}
use mathlib.Core.Path.{refl}
use Rattle.game.specs.Stores.{cells, offsets, lent}
use Rattle.measure.specs.Game.{kept}
use Rattle.measure.proofs.Answers.{small}
use Rattle.measure.proofs.Outcomes.{first_room, short_as, held_short, held_opened}
use Rattle.read_fill.proofs.Rooms.{long_as}
use Rattle.read_held.proofs.read_held.Goals as goal

pub lengths_in-requires : goal.lengths_in-requires
lengths_in-requires c = let a = c.args in small a.file.now a.first a.stop a.p c.requires

pub returns-then-short : goal.returns-then-short
returns-then-short c =
    let a = c.args in
    let k = kept (lent (cells a.ids.now a.starts.now a.pres.now a.posts.now a.ends.now a.items.now a.fods.now a.whispys.now a.stadiums.now)
    (offsets a.item_offsets.now a.fod_offsets.now a.whispy_offsets.now a.stadium_offsets.now) a.presence.now) a.codes.now in
    let b = c.short in
    let n = c.lengths_in in
    held_short a.file.now a.first a.stop a.p k _ _ c.requires b.result
    (short_as a.file.now a.first a.stop a.p k k c.not_opened.result c.requires b.result _ n.result b.ensures refl n.ensures) c.if-short.true c.not_opened.ensures refl

pub read_shown-requires : goal.read_shown-requires
read_shown-requires c =
    let b = c.short in
    let n = c.lengths_in in
    (c.requires, long_as b.result _ n.result _ b.ensures n.ensures c.if-short.false)

pub gecko_span-requires : goal.gecko_span-requires
gecko_span-requires c =
    let a = c.args in first_room a.file.now a.first a.stop a.p c.requires

pub opened-requires : goal.opened-requires
opened-requires c =
    (c.gecko_span.ensures, c.requires)

pub shape_of-ids : goal.shape_of-ids
shape_of-ids c =
    c.read_shown.auto.ids

pub shape_of-starts : goal.shape_of-starts
shape_of-starts c =
    c.read_shown.auto.starts

pub shape_of-pres : goal.shape_of-pres
shape_of-pres c =
    c.read_shown.auto.pres

pub shape_of-posts : goal.shape_of-posts
shape_of-posts c =
    c.read_shown.auto.posts

pub shape_of-ends : goal.shape_of-ends
shape_of-ends c =
    c.read_shown.auto.ends

pub shape_of-items : goal.shape_of-items
shape_of-items c =
    c.read_shown.auto.items

pub shape_of-fods : goal.shape_of-fods
shape_of-fods c =
    c.read_shown.auto.fods

pub shape_of-whispys : goal.shape_of-whispys
shape_of-whispys c =
    c.read_shown.auto.whispys

pub shape_of-stadiums : goal.shape_of-stadiums
shape_of-stadiums c =
    c.read_shown.auto.stadiums

pub returns : goal.returns
returns c =
    let a = c.args in
    let k = kept (lent (cells a.ids.now a.starts.now a.pres.now a.posts.now a.ends.now a.items.now a.fods.now a.whispys.now a.stadiums.now)
    (offsets a.item_offsets.now a.fod_offsets.now a.whispy_offsets.now a.stadium_offsets.now) a.presence.now) a.codes.now in
    let b = c.short in
    let n = c.lengths_in in
    held_opened a.file.now a.first a.stop a.p k _ _ c.requires b.result
    (short_as a.file.now a.first a.stop a.p k k c.opened.result c.requires b.result _ n.result b.ensures refl n.ensures) c.if-short.false (c.opened.ensures c.requires)
    (c.read_shown.ensures c.requires)

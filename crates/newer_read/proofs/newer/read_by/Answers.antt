use borrow.Author.Rules.{rules}
use Rattle.game.specs.Stores.{cells, offsets, lent}
use Rattle.measure.specs.Game.{kept}
use Rattle.measure.proofs.Answers.{small}
use Rattle.newer_read.proofs.Rooms.{asked, some_blocks, codes_fit, frames_within, learnt}
use Rattle.newer_read.proofs.newer.read_by.Goals as goal

pub frames_in-f-requires : goal.frames_in-f-requires
frames_in-f-requires c =
    let a = c.args in
    small a.file.now a.first a.stop a.p c.requires.0

pub fill_newer-requires : goal.fill_newer-requires
fill_newer-requires c =
    let a = c.args in
    let g = c.frames_in-f in
    asked a.file.now a.first a.stop a.p c.requires.0 c.requires.1 a.spans.now c.requires.2
    (kept (lent (cells a.ids.now a.starts.now a.pres.now a.posts.now a.ends.now a.items.now a.fods.now a.whispys.now a.stadiums.now)
    (offsets a.item_offsets.now a.fod_offsets.now a.whispy_offsets.now a.stadium_offsets.now) a.presence.now) a.codes.now) c.requires.3 g.result g.ensures

pub copy_codes-requires : goal.copy_codes-requires
copy_codes-requires c =
    let a = c.args in
    let k = (kept (lent (cells a.ids.now a.starts.now a.pres.now a.posts.now a.ends.now a.items.now a.fods.now a.whispys.now a.stadiums.now)
    (offsets a.item_offsets.now a.fod_offsets.now a.whispy_offsets.now a.stadium_offsets.now) a.presence.now) a.codes.now) in (
      c.requires.2.many,
      frames_within a.file.now a.first a.stop a.p c.requires.0 c.requires.1 a.spans.now c.requires.2 k c.requires.3,
      some_blocks a.file.now a.first a.stop a.p c.requires.0 c.requires.1 a.spans.now c.requires.2 k c.requires.3,
      codes_fit a.file.now a.first a.stop a.p c.requires.0 c.requires.1 a.spans.now c.requires.2 k c.requires.3,
    )

pub shape_of-ids : goal.shape_of-ids
shape_of-ids c =
    c.fill_newer.auto.ids

pub shape_of-starts : goal.shape_of-starts
shape_of-starts c =
    c.fill_newer.auto.starts

pub shape_of-pres : goal.shape_of-pres
shape_of-pres c =
    c.fill_newer.auto.pres

pub shape_of-posts : goal.shape_of-posts
shape_of-posts c =
    c.fill_newer.auto.posts

pub shape_of-ends : goal.shape_of-ends
shape_of-ends c =
    c.fill_newer.auto.ends

pub shape_of-items : goal.shape_of-items
shape_of-items c =
    c.fill_newer.auto.items

pub shape_of-fods : goal.shape_of-fods
shape_of-fods c =
    c.fill_newer.auto.fods

pub shape_of-whispys : goal.shape_of-whispys
shape_of-whispys c =
    c.fill_newer.auto.whispys

pub shape_of-stadiums : goal.shape_of-stadiums
shape_of-stadiums c =
    c.fill_newer.auto.stadiums

pub returns : goal.returns
returns c x =
    let a = c.args in
    let g = c.frames_in-f in
    learnt a.file.now a.first a.stop a.p x c.requires.1 a.spans.now c.requires.2
    (kept (lent (cells a.ids.now a.starts.now a.pres.now a.posts.now a.ends.now a.items.now a.fods.now a.whispys.now a.stadiums.now)
    (offsets a.item_offsets.now a.fod_offsets.now a.whispy_offsets.now a.stadium_offsets.now) a.presence.now) a.codes.now) c.requires.3 _ _ g.result g.ensures c.fill_newer.ensures c.copy_codes.ensures

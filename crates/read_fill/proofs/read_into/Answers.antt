use borrow.Author.Rules.{rules}
use Rattle.game.specs.Stores.{cells, offsets, lent}
use Rattle.measure.specs.Game.{kept}
use Rattle.measure.proofs.Answers.{small}
use Rattle.newer_judge.proofs.Steps.{held_tells}
use Rattle.read_fill.proofs.Rooms.{asked, codes_asked, learnt}
use Rattle.read_fill.proofs.read_into.Goals as goal

pub frames_in-f-requires : goal.frames_in-f-requires
frames_in-f-requires c =
    let a = c.args in
    small a.file.now a.first a.stop a.p (held_tells a.file.now a.first a.stop a.p c.requires.0)

pub fill_events-requires : goal.fill_events-requires
fill_events-requires c =
    let a = c.args in
    let g = c.frames_in-f in
    asked a.file.now a.first a.stop a.p c.requires.0
    (kept (lent (cells a.ids.now a.starts.now a.pres.now a.posts.now a.ends.now a.items.now a.fods.now a.whispys.now a.stadiums.now) (offsets a.item_offsets.now a.fod_offsets.now a.whispy_offsets.now a.stadium_offsets.now)
    a.presence.now) a.codes.now) c.requires.1 g.result g.ensures

pub copy_codes-requires : goal.copy_codes-requires
copy_codes-requires c =
    let a = c.args in
    codes_asked a.file.now a.first a.stop a.p c.requires.0
    (kept (lent (cells a.ids.now a.starts.now a.pres.now a.posts.now a.ends.now a.items.now a.fods.now a.whispys.now a.stadiums.now) (offsets a.item_offsets.now a.fod_offsets.now a.whispy_offsets.now a.stadium_offsets.now)
    a.presence.now) a.codes.now) c.requires.1

pub shape_of-ids : goal.shape_of-ids
shape_of-ids c =
    c.fill_events.auto.ids

pub shape_of-starts : goal.shape_of-starts
shape_of-starts c =
    c.fill_events.auto.starts

pub shape_of-pres : goal.shape_of-pres
shape_of-pres c =
    c.fill_events.auto.pres

pub shape_of-posts : goal.shape_of-posts
shape_of-posts c =
    c.fill_events.auto.posts

pub shape_of-ends : goal.shape_of-ends
shape_of-ends c =
    c.fill_events.auto.ends

pub shape_of-items : goal.shape_of-items
shape_of-items c =
    c.fill_events.auto.items

pub shape_of-fods : goal.shape_of-fods
shape_of-fods c =
    c.fill_events.auto.fods

pub shape_of-whispys : goal.shape_of-whispys
shape_of-whispys c =
    c.fill_events.auto.whispys

pub shape_of-stadiums : goal.shape_of-stadiums
shape_of-stadiums c =
    c.fill_events.auto.stadiums

pub returns : goal.returns
returns c x =
    let a = c.args in
    let g = c.frames_in-f in
    learnt a.file.now a.first a.stop a.p x
    (kept (lent (cells a.ids.now a.starts.now a.pres.now a.posts.now a.ends.now a.items.now a.fods.now a.whispys.now a.stadiums.now) (offsets a.item_offsets.now a.fod_offsets.now a.whispy_offsets.now a.stadium_offsets.now)
    a.presence.now) a.codes.now) c.requires.1 _ _ g.result g.ensures
    c.fill_events.ensures
    c.copy_codes.ensures

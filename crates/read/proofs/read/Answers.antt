use borrow.Author.Rules.{rules}
use mathlib.Core.Path.{refl}
use Rattle.game.specs.Stores.{cells, offsets, lent}
use Rattle.measure.specs.Game.{kept}
use Rattle.measure.proofs.Outcomes.{refuses, accepts, not_opened}
use Rattle.read.proofs.read.Goals as goal

pub read_held-requires : goal.read_held-requires
read_held-requires c =
    let j = c.judge-v in
    accepts _ j.result _ _ _ c.in-Held.is j.ensures

pub returns-in-Refused : goal.returns-in-Refused
returns-in-Refused c =
    let a = c.args in
    let j = c.judge-v in
    not_opened a.file.now _ _ (kept (lent (cells a.ids.now a.starts.now a.pres.now a.posts.now a.ends.now a.items.now a.fods.now a.whispys.now a.stadiums.now) (offsets a.item_offsets.now a.fod_offsets.now a.whispy_offsets.now
    a.stadium_offsets.now) a.presence.now) a.codes.now) _ c.not_opened.result (refuses a.file.now j.result _ _ c.in-Refused.is j.ensures) c.not_opened.ensures refl

pub shape_of-ids : goal.shape_of-ids
shape_of-ids c = c.read_held.auto.ids

pub shape_of-starts : goal.shape_of-starts
shape_of-starts c = c.read_held.auto.starts

pub shape_of-pres : goal.shape_of-pres
shape_of-pres c = c.read_held.auto.pres

pub shape_of-posts : goal.shape_of-posts
shape_of-posts c = c.read_held.auto.posts

pub shape_of-ends : goal.shape_of-ends
shape_of-ends c =
    c.read_held.auto.ends

pub shape_of-items : goal.shape_of-items
shape_of-items c =
    c.read_held.auto.items

pub shape_of-fods : goal.shape_of-fods
shape_of-fods c =
    c.read_held.auto.fods

pub shape_of-whispys : goal.shape_of-whispys
shape_of-whispys c =
    c.read_held.auto.whispys

pub shape_of-stadiums : goal.shape_of-stadiums
shape_of-stadiums c =
    c.read_held.auto.stadiums

pub shape_of-item_offsets : goal.shape_of-item_offsets
shape_of-item_offsets c =
    c.read_held.auto.item_offsets

pub shape_of-fod_offsets : goal.shape_of-fod_offsets
shape_of-fod_offsets c =
    c.read_held.auto.fod_offsets

pub shape_of-whispy_offsets : goal.shape_of-whispy_offsets
shape_of-whispy_offsets c =
    c.read_held.auto.whispy_offsets

pub shape_of-stadium_offsets : goal.shape_of-stadium_offsets
shape_of-stadium_offsets c =
    c.read_held.auto.stadium_offsets

pub shape_of-presence : goal.shape_of-presence
shape_of-presence c =
    c.read_held.auto.presence

pub shape_of-codes : goal.shape_of-codes
shape_of-codes c =
    c.read_held.auto.codes

pub returns-in-Held : goal.returns-in-Held
returns-in-Held c = c.read_held.ensures

use borrow.Author.Rules.{rules}
use mathlib.Core.Path.{sym, ◌∙◌}
use Rattle.newer_read.proofs.Rooms.{plainly, kept_as}
use Rattle.newer_read.proofs.read_shown.Goals as goal

pub read_into-requires : goal.read_into-requires
read_into-requires c =
    let a = c.args in
    ((plainly a.file.now a.first a.stop a.p c.requires.0 (sym c.accepted.ensures ∙ c.if-accepted.true)).accepts, c.requires.1)

pub shape_of-ids-then-accepted : goal.shape_of-ids-then-accepted
shape_of-ids-then-accepted c =
    c.read_into.auto.ids

pub shape_of-starts-then-accepted : goal.shape_of-starts-then-accepted
shape_of-starts-then-accepted c =
    c.read_into.auto.starts

pub shape_of-pres-then-accepted : goal.shape_of-pres-then-accepted
shape_of-pres-then-accepted c =
    c.read_into.auto.pres

pub shape_of-posts-then-accepted : goal.shape_of-posts-then-accepted
shape_of-posts-then-accepted c =
    c.read_into.auto.posts

pub shape_of-ends-then-accepted : goal.shape_of-ends-then-accepted
shape_of-ends-then-accepted c =
    c.read_into.auto.ends

pub shape_of-items-then-accepted : goal.shape_of-items-then-accepted
shape_of-items-then-accepted c =
    c.read_into.auto.items

pub shape_of-fods-then-accepted : goal.shape_of-fods-then-accepted
shape_of-fods-then-accepted c =
    c.read_into.auto.fods

pub shape_of-whispys-then-accepted : goal.shape_of-whispys-then-accepted
shape_of-whispys-then-accepted c =
    c.read_into.auto.whispys

pub shape_of-stadiums-then-accepted : goal.shape_of-stadiums-then-accepted
shape_of-stadiums-then-accepted c =
    c.read_into.auto.stadiums

pub shape_of-item_offsets-then-accepted : goal.shape_of-item_offsets-then-accepted
shape_of-item_offsets-then-accepted c =
    c.read_into.auto.item_offsets

pub shape_of-fod_offsets-then-accepted : goal.shape_of-fod_offsets-then-accepted
shape_of-fod_offsets-then-accepted c =
    c.read_into.auto.fod_offsets

pub shape_of-whispy_offsets-then-accepted : goal.shape_of-whispy_offsets-then-accepted
shape_of-whispy_offsets-then-accepted c =
    c.read_into.auto.whispy_offsets

pub shape_of-stadium_offsets-then-accepted : goal.shape_of-stadium_offsets-then-accepted
shape_of-stadium_offsets-then-accepted c =
    c.read_into.auto.stadium_offsets

pub shape_of-presence-then-accepted : goal.shape_of-presence-then-accepted
shape_of-presence-then-accepted c =
    c.read_into.auto.presence

pub shape_of-codes-then-accepted : goal.shape_of-codes-then-accepted
shape_of-codes-then-accepted c =
    c.read_into.auto.codes

pub returns-then-accepted : goal.returns-then-accepted
returns-then-accepted c x =
    let a = c.args in
    let p = plainly a.file.now a.first a.stop a.p x (sym c.accepted.ensures ∙ c.if-accepted.true) in
    kept_as a.file.now a.first a.stop a.p _ p _ _ (c.read_into.ensures p.accepts)

pub read_newer-requires : goal.read_newer-requires
read_newer-requires c =
    (c.requires.0, sym c.accepted.ensures ∙ c.if-accepted.false, c.requires.1)

pub shape_of-ids : goal.shape_of-ids
shape_of-ids c =
    c.read_newer.auto.ids

pub shape_of-starts : goal.shape_of-starts
shape_of-starts c =
    c.read_newer.auto.starts

pub shape_of-pres : goal.shape_of-pres
shape_of-pres c =
    c.read_newer.auto.pres

pub shape_of-posts : goal.shape_of-posts
shape_of-posts c =
    c.read_newer.auto.posts

pub shape_of-ends : goal.shape_of-ends
shape_of-ends c =
    c.read_newer.auto.ends

pub shape_of-items : goal.shape_of-items
shape_of-items c =
    c.read_newer.auto.items

pub shape_of-fods : goal.shape_of-fods
shape_of-fods c =
    c.read_newer.auto.fods

pub shape_of-whispys : goal.shape_of-whispys
shape_of-whispys c =
    c.read_newer.auto.whispys

pub shape_of-stadiums : goal.shape_of-stadiums
shape_of-stadiums c =
    c.read_newer.auto.stadiums

pub shape_of-item_offsets : goal.shape_of-item_offsets
shape_of-item_offsets c =
    c.read_newer.auto.item_offsets

pub shape_of-fod_offsets : goal.shape_of-fod_offsets
shape_of-fod_offsets c =
    c.read_newer.auto.fod_offsets

pub shape_of-whispy_offsets : goal.shape_of-whispy_offsets
shape_of-whispy_offsets c =
    c.read_newer.auto.whispy_offsets

pub shape_of-stadium_offsets : goal.shape_of-stadium_offsets
shape_of-stadium_offsets c =
    c.read_newer.auto.stadium_offsets

pub shape_of-presence : goal.shape_of-presence
shape_of-presence c =
    c.read_newer.auto.presence

pub shape_of-codes : goal.shape_of-codes
shape_of-codes c =
    c.read_newer.auto.codes

pub returns : goal.returns
returns c =
    c.read_newer.ensures

-- `slp::read_calls::slp_read` meets its contract: what `read` keeps of each store, and its outcome.
use borrow.Author.Rules.{rules}
use Rattle.slp.proofs.read_calls.slp_read.Goals as goal

pub shape_of-ids : goal.shape_of-ids
shape_of-ids c =
    c.read.auto.ids

pub shape_of-starts : goal.shape_of-starts
shape_of-starts c =
    c.read.auto.starts

pub shape_of-pres : goal.shape_of-pres
shape_of-pres c =
    c.read.auto.pres

pub shape_of-posts : goal.shape_of-posts
shape_of-posts c =
    c.read.auto.posts

pub shape_of-ends : goal.shape_of-ends
shape_of-ends c =
    c.read.auto.ends

pub shape_of-items : goal.shape_of-items
shape_of-items c =
    c.read.auto.items

pub shape_of-fods : goal.shape_of-fods
shape_of-fods c =
    c.read.auto.fods

pub shape_of-whispys : goal.shape_of-whispys
shape_of-whispys c =
    c.read.auto.whispys

pub shape_of-stadiums : goal.shape_of-stadiums
shape_of-stadiums c =
    c.read.auto.stadiums

pub shape_of-item_offsets : goal.shape_of-item_offsets
shape_of-item_offsets c =
    c.read.auto.item_offsets

pub shape_of-fod_offsets : goal.shape_of-fod_offsets
shape_of-fod_offsets c =
    c.read.auto.fod_offsets

pub shape_of-whispy_offsets : goal.shape_of-whispy_offsets
shape_of-whispy_offsets c =
    c.read.auto.whispy_offsets

pub shape_of-stadium_offsets : goal.shape_of-stadium_offsets
shape_of-stadium_offsets c =
    c.read.auto.stadium_offsets

pub shape_of-presence : goal.shape_of-presence
shape_of-presence c =
    c.read.auto.presence

pub shape_of-codes : goal.shape_of-codes
shape_of-codes c =
    c.read.auto.codes

pub returns : goal.returns
returns c = c.read.ensures

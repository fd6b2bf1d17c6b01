use borrow.Author.Rules.{rules}
use Rattle.newer_read.proofs.Rooms.{spans_are}
use Rattle.newer_read.proofs.newer.read_newer.Goals as goal

pub read_by-requires : goal.read_by-requires
read_by-requires c =
    let a = c.args in
    let h = c.parse_head in
    let bytes = c.shared_slice_known-1 in
    (c.requires.0, c.requires.1, spans_are a.file.now a.first a.stop a.p c.requires.0 c.requires.1 _ h.result h.ensures (λ i. (bytes.given i).fits), c.requires.2)

pub shape_of-ids : goal.shape_of-ids
shape_of-ids c =
    c.read_by.auto.ids

pub shape_of-starts : goal.shape_of-starts
shape_of-starts c =
    c.read_by.auto.starts

pub shape_of-pres : goal.shape_of-pres
shape_of-pres c =
    c.read_by.auto.pres

pub shape_of-posts : goal.shape_of-posts
shape_of-posts c =
    c.read_by.auto.posts

pub shape_of-ends : goal.shape_of-ends
shape_of-ends c =
    c.read_by.auto.ends

pub shape_of-items : goal.shape_of-items
shape_of-items c =
    c.read_by.auto.items

pub shape_of-fods : goal.shape_of-fods
shape_of-fods c =
    c.read_by.auto.fods

pub shape_of-whispys : goal.shape_of-whispys
shape_of-whispys c =
    c.read_by.auto.whispys

pub shape_of-stadiums : goal.shape_of-stadiums
shape_of-stadiums c =
    c.read_by.auto.stadiums

pub shape_of-item_offsets : goal.shape_of-item_offsets
shape_of-item_offsets c =
    c.read_by.auto.item_offsets

pub shape_of-fod_offsets : goal.shape_of-fod_offsets
shape_of-fod_offsets c =
    c.read_by.auto.fod_offsets

pub shape_of-whispy_offsets : goal.shape_of-whispy_offsets
shape_of-whispy_offsets c =
    c.read_by.auto.whispy_offsets

pub shape_of-stadium_offsets : goal.shape_of-stadium_offsets
shape_of-stadium_offsets c =
    c.read_by.auto.stadium_offsets

pub shape_of-presence : goal.shape_of-presence
shape_of-presence c =
    c.read_by.auto.presence

pub shape_of-codes : goal.shape_of-codes
shape_of-codes c =
    c.read_by.auto.codes

pub returns : goal.returns
returns c =
    c.read_by.ensures

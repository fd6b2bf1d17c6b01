use mathlib.Core.Path.{sym}
use lib.Seq.{length-take-le}
use Rattle.wire.proofs.Writers.{room_first_of, wrote_first_of}
use Rattle.patch.proofs.put_first.Goals as goal

pub slice_bounds-put_bytes-end : goal.slice_bounds-put_bytes-end
slice_bounds-put_bytes-end c = sym (length-take-le c.args.n c.args.src.now c.requires.0)

pub put_bytes-requires : goal.put_bytes-requires
put_bytes-requires c =
    room_first_of _ c.args.src.now _ c.args.n c.requires.0 c.requires.1

pub returns : goal.returns
returns c =
    let w = c.put_bytes.ensures in
    (w, wrote_first_of c.args.src.now c.args.n c.requires.0 w)

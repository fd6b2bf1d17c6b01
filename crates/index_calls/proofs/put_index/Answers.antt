use borrow.Author.Rules.{rules}
use Rattle.wire.proofs.Writers.{wrote_length}
use Rattle.index_calls.proofs.Laws.{index_first, index_second, index_third, index_wrote}
use Rattle.index_calls.proofs.put_index.Goals as goal

pub put_bytes-count-requires : goal.put_bytes-count-requires
put_bytes-count-requires c = index_first _ 0 c.requires.3

pub put_u32-rows-requires : goal.put_u32-rows-requires
put_u32-rows-requires c = let s = c.requires in index_second _ _ s.1 s.3 c.put_bytes-count.ensures

pub put_rows-requires : goal.put_rows-requires
put_rows-requires c =
    let s = c.requires in (s.0, index_third _ _ s.1 s.3 c.put_bytes-count.ensures c.put_u32-rows.ensures)

pub shape_of-out : goal.shape_of-out
shape_of-out c =
    let s = c.requires in wrote_length (index_wrote _ _ s.1 c.put_bytes-count.ensures c.put_u32-rows.ensures c.put_rows.ensures)

pub returns : goal.returns
returns c =
    let s = c.requires in index_wrote _ _ s.1 c.put_bytes-count.ensures c.put_u32-rows.ensures c.put_rows.ensures

use mathlib.Core.Path.{sym}
use native.Mathlib.Omega.{arith}
use Rattle.places.proofs.Laws.{middle_is}
use Rattle.places.proofs.table.middle_len.Goals as goal

pub returns-then-calm : goal.returns-then-calm
returns-then-calm c = sym (c.requires.3 c.if-calm.true)

pub rows_len-fod-requires : goal.rows_len-fod-requires
rows_len-fod-requires c = (c.requires.0.fod, c.requires.1.fod, c.requires.2)

pub rows_len-whispy-requires : goal.rows_len-whispy-requires
rows_len-whispy-requires c = (c.requires.0.whispy, c.requires.1.whispy, c.requires.2)

pub rows_len-stadium-requires : goal.rows_len-stadium-requires
rows_len-stadium-requires c = (c.requires.0.stadium, c.requires.1.stadium, c.requires.2)

pub rows_len-item-requires : goal.rows_len-item-requires
rows_len-item-requires c = (c.requires.0.item, c.requires.1.item, c.requires.2)

pub returns : goal.returns
returns c = middle_is _ _ _ _ _ _ _ c.rows_len-fod.ensures.0 c.rows_len-whispy.ensures.0 c.rows_len-stadium.ensures.0 c.rows_len-item.ensures.0

pub overflow_add-result : goal.overflow_add-result
overflow_add-result c = omega (arith, c.rows_len-item.ensures.1, c.rows_len-stadium.ensures.1)

pub overflow_add-result-2 : goal.overflow_add-result-2
overflow_add-result-2 c = omega (arith, c.rows_len-item.ensures.1, c.rows_len-stadium.ensures.1, c.rows_len-whispy.ensures.1)

pub overflow_add-result-3 : goal.overflow_add-result-3
overflow_add-result-3 c = omega (arith, c.rows_len-item.ensures.1, c.rows_len-stadium.ensures.1, c.rows_len-whispy.ensures.1, c.rows_len-fod.ensures.1)

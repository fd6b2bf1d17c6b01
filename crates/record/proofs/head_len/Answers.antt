use mathlib.Core.Path.{sym}
use mathlib.Core.Bool.{true, false}
use Rattle.record.proofs.Laws.{head_length_lem}
use Rattle.record.proofs.head_len.Goals as goal

pub returns-then-h : goal.returns-then-h
returns-then-h c = sym (head_length_lem _ true c.if-h.true)

pub returns-else-h : goal.returns-else-h
returns-else-h c = sym (head_length_lem _ false c.if-h.false)

use borrow.Author.Rules.{rules}
use Rattle.index_calls.proofs.Laws.{accept_judged, accept_bad, accept_other, accept_same, marked}
use Rattle.index_calls.proofs.accept_events.Goals as goal

pub judge-j-requires : goal.judge-j-requires
judge-j-requires c = c.requires

pub returns-then-j-ne0 : goal.returns-then-j-ne0
returns-then-j-ne0 c = accept_judged c.judge-j.result c.judge-j.ensures c.if-j-ne0.true _

pub equals-requires : goal.equals-requires
equals-requires c =
    let j = c.judge-j in let e = c.if-j-ne0.false in let g = c.args in (j.ensures.ready e, j.ensures.rows_are e, j.ensures.few e, marked g.file.now g.index.now c.is_index.result c.is_index.ensures c.if-is_index.true)

pub returns-then-equals : goal.returns-then-equals
returns-then-equals c =
    let j = c.judge-j in
    let e = c.if-j-ne0.false in
    let g = c.args in
    let i = c.is_index in
    accept_same j.result j.ensures e g.index.now i.result i.ensures c.if-is_index.true c.equals.result c.equals.ensures c.if-equals.true

pub returns-then-is_index : goal.returns-then-is_index
returns-then-is_index c =
    let j = c.judge-j in
    let e = c.if-j-ne0.false in
    let g = c.args in
    let i = c.is_index in
    accept_other j.result j.ensures e g.index.now i.result i.ensures c.if-is_index.true c.equals.result c.equals.ensures c.if-equals.false

pub returns : goal.returns
returns c = let j = c.judge-j in let e = c.if-j-ne0.false in accept_bad j.result j.ensures e _ c.is_index.result c.is_index.ensures c.if-is_index.false

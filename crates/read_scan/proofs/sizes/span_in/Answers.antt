use Rattle.read_scan.proofs.Spans.{span_has, span_lacks}
use Rattle.read_scan.proofs.sizes.span_in.Goals as goal

pub returns-then-exists : goal.returns-then-exists
returns-then-exists c =
    let a = c.args in
    let x = c.exists in
    span_has a.v a.family x.result c.record_size.result x.ensures c.if-exists.true c.record_size.ensures.0

pub returns : goal.returns
returns c = let a = c.args in let x = c.exists in span_lacks a.v a.family x.result x.ensures c.if-exists.false

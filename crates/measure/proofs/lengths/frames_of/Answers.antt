use borrow.Author.Rules.{rules}
use Rattle.measure.proofs.LengthLaws.{frames_are}
use Rattle.measure.proofs.lengths.frames_of.Goals as goal

pub returns : goal.returns
returns c =
    let a = c.args in
    frames_are a.version a.counts a.slots c.ports_of-p.result c.ports_of-p.ensures

use mathlib.Core.Path.{ap, ◌∙◌}
use borrow.Author.Rules.{rules}
use Rattle.measure.specs.Inner.{frames_by, frames_in}
use Rattle.measure.proofs.answer.frames_in.Goals as goal

pub frames_of-requires : goal.frames_of-requires
frames_of-requires c = rw c.counts_by.ensures c.requires.frames

pub returns : goal.returns
unfolding frames_in
returns c =
    let p = c.args.p in
    c.frames_of.ensures ∙ ap (λ n. frames_by p.version n p.tally.slots) c.counts_by.ensures

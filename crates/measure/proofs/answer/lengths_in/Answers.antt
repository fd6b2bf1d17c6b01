use mathlib.Core.Path.{sym, ap, subst, ◌∙◌}
use Prim.Native.Nat.{◌*◌}
use borrow.Author.Rules.{rules}
use Rattle.players.specs.Inner.{Modest}
use Rattle.measure.specs.Inner.{lengths_by, lengths_in}
use Rattle.measure.proofs.answer.lengths_in.Goals as goal

pub lengths_of-requires : goal.lengths_of-requires
lengths_of-requires c = subst Modest (sym c.frames_in.ensures) c.requires.modest

pub returns : goal.returns
unfolding lengths_in
returns c =
    let p = c.args.p in
    c.lengths_of.ensures ∙ ap (λ f. lengths_by f (512 * p.blocks)) c.frames_in.ensures

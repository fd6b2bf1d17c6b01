use mathlib.Core.Path.{sym, ap, ◌∙◌}
use native.Mathlib.Omega.{arith}
use borrow.Author.Tests.{leb-true}
use Rattle.read_scan.specs.Inner.{span_in}
use Rattle.read_scan.specs.Counts.{counted_of}
use Rattle.read_scan.proofs.Turns.{kind_frame}
use Rattle.grammar.specs.Machine.{family_of, after}
use Rattle.newer_order.specs.Inner.{state_of}
use Rattle.newer_scan.proofs.Tries.{kind_other, five, takes_not, takes_is, short_not, seated}
use borrow.Author.Rules.{rules}
use Rattle.newer_scan.proofs.event.try_event.Goals as goal

pub returns-then-is_known : goal.returns-then-is_known
returns-then-is_known c =
    let a = c.args in
    (kind_other (family_of a.code) (sym c.kind_of-k.ensures ∙ c.in_default.is), sym c.is_known.ensures ∙ c.if-is_known.true)

pub returns-in_default : goal.returns-in_default
returns-in_default c =
    let a = c.args in
    (kind_other (family_of a.code) (sym c.kind_of-k.ensures ∙ c.in_default.is), sym c.is_known.ensures ∙ c.if-is_known.false)

pub word_at-w-requires : goal.word_at-w-requires
word_at-w-requires c =
    let family = c.in-Frame.family in
    let i = c.is_whole in
    omega (arith, five c.args.v family, leb-true (span_in c.args.v family) c.args.n (sym i.ensures ∙ c.if-is_whole.true), c.requires.3)

pub moved-stage-requires : goal.moved-stage-requires
moved-stage-requires c =
    (c.requires.0, sym c.may.ensures ∙ c.if-may.true)

pub count-counts-requires : goal.count-counts-requires
count-counts-requires c =
    (c.requires.1, seated c.args.m c.word_at-w.result c.in-Frame.family (sym c.may.ensures ∙ c.if-may.true))

pub returns-then-may : goal.returns-then-may
returns-then-may c =
    let a = c.args in
    let w = c.word_at-w in
    let b = c.may in
    let i = c.is_whole in
    let to = c.moved-stage.ensures in
    record {
      family = c.in-Frame.family;
      family_is = kind_frame (family_of a.code) c.in-Frame.family (sym c.kind_of-k.ensures ∙ c.in-Frame.is);
      takes =
          takes_is a.v a.file.now a.m a.at a.n c.in-Frame.family w.result w.ensures b.result b.ensures i.result i.ensures c.if-is_whole.true
          c.if-may.true;
      state_is = to.state_is ∙ ap (after (state_of a.m) c.in-Frame.family) w.ensures;
      fair = to.fair;
      counts_are = c.count-counts.ensures ∙ ap (counted_of a.t a.m.rank a.m.id c.in-Frame.family) w.ensures;
    }

pub returns-else-may : goal.returns-else-may
returns-else-may c =
    let a = c.args in
    let w = c.word_at-w in
    let b = c.may in
    let i = c.is_whole in
    record {
      family = c.in-Frame.family;
      family_is = kind_frame (family_of a.code) c.in-Frame.family (sym c.kind_of-k.ensures ∙ c.in-Frame.is);
      fails =
          takes_not a.v a.file.now a.m a.at a.n c.in-Frame.family w.result w.ensures b.result b.ensures i.result i.ensures c.if-is_whole.true c.if-may.false;
    }

pub returns-else-is_whole : goal.returns-else-is_whole
returns-else-is_whole c =
    let a = c.args in
    let i = c.is_whole in
    record {
      family = c.in-Frame.family;
      family_is = kind_frame (family_of a.code) c.in-Frame.family (sym c.kind_of-k.ensures ∙ c.in-Frame.is);
      fails = short_not a.v a.file.now a.m a.at a.n c.in-Frame.family i.result i.ensures c.if-is_whole.false;
    }

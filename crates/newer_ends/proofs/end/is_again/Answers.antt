use native.Mathlib.Omega.{arith}
use Rattle.newer_ends.proofs.Tests.{end_next}
use Rattle.newer_ends.proofs.Found.{again_other, again_unlike, again_as}
use borrow.Author.Rules.{rules}
use Rattle.newer_ends.proofs.end.is_again.Goals as goal

pub same_text-requires : goal.same_text-requires
same_text-requires c =
    let h = c.requires in
    let n = c.end_size-n.ensures.0 in
    let b = c.is_end.ensures.1 c.if-is_end.true in
    (omega (arith, h.1, n), omega (arith, b.0, b.1, h.0.within, n))

pub next_known-requires : goal.next_known-requires
next_known-requires c = end_next _ _ _ _ _ c.requires.0 _ c.is_end.ensures.0 c.if-is_end.true _ c.span_of.ensures.0

pub returns-then-same_text : goal.returns-then-same_text
returns-then-same_text c =
    λ raw d k.
    again_as c.args.v _ _ _ _ c.args.payload c.requires.1 raw d k _ c.end_size-n.ensures.0 _ c.same_text.ensures _ c.is_end.ensures.0
    c.if-is_end.true
    c.if-same_text.true
    _
    _
    c.span_of.ensures.0
    c.next_known.ensures.2

pub returns-else-same_text : goal.returns-else-same_text
returns-else-same_text c =
    λ raw d k.
    again_unlike c.args.v _ _ _ _ c.args.payload c.requires.1 raw d k _ c.end_size-n.ensures.0 _ c.same_text.ensures c.if-same_text.false

pub returns-else-is_end : goal.returns-else-is_end
returns-else-is_end c =
    λ raw d k. again_other c.args.v _ _ _ _ c.args.payload c.requires.1 raw d k _ c.is_end.ensures.0 c.if-is_end.false

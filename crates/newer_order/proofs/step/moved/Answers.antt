use mathlib.Core.Path.{refl}
use Rattle.layout.specs.declared.columns.Family.TheVariants.{Pre, Post, FrameStart, Item, FrameEnd, FodPlatform, DreamlandWhispy, StadiumTransformation}
use Rattle.newer_order.proofs.Laws.{start_after, fod_after, whispy_after, stadium_after, item_after, end_after, asked_as, after_as}
use borrow.Author.Rules.{rules}
use Rattle.newer_order.proofs.step.moved.Goals as goal

pub with_pre-requires : goal.with_pre-requires
with_pre-requires c = let a = c.args in let h = c.requires in (h.0, asked_as a.m a.w a.family Pre c.in-Pre.is h.1)

pub with_post-requires : goal.with_post-requires
with_post-requires c = let a = c.args in let h = c.requires in (h.0, asked_as a.m a.w a.family Post c.in-Post.is h.1)

pub returns-in-Pre : goal.returns-in-Pre
returns-in-Pre c =
    let a = c.args in
    let h = c.requires in
    after_as a.m a.w a.family Pre c.in-Pre.is c.with_pre.result _ (refl) c.with_pre.ensures

pub returns-in-Post : goal.returns-in-Post
returns-in-Post c =
    let a = c.args in
    let h = c.requires in
    after_as a.m a.w a.family Post c.in-Post.is c.with_post.result _ (refl) c.with_post.ensures

pub returns-in-FrameStart : goal.returns-in-FrameStart
returns-in-FrameStart c =
    let a = c.args in
    let h = c.requires in
    after_as a.m a.w a.family FrameStart c.in-FrameStart.is c.with_start.result _ c.with_start.ensures (start_after a.m a.w h.0 (asked_as a.m a.w a.family FrameStart c.in-FrameStart.is h.1))

pub returns-in-FodPlatform : goal.returns-in-FodPlatform
returns-in-FodPlatform c =
    let a = c.args in
    let h = c.requires in
    after_as a.m a.w a.family FodPlatform c.in-FodPlatform.is c.with_row.result _ c.with_row.ensures (fod_after a.m a.w h.0)

pub returns-in-DreamlandWhispy : goal.returns-in-DreamlandWhispy
returns-in-DreamlandWhispy c =
    let a = c.args in
    let h = c.requires in
    after_as a.m a.w a.family DreamlandWhispy c.in-DreamlandWhispy.is c.with_row-in-DreamlandWhispy.result _ c.with_row-in-DreamlandWhispy.ensures (whispy_after a.m a.w h.0)

pub returns-in-StadiumTransformation : goal.returns-in-StadiumTransformation
returns-in-StadiumTransformation c =
    let a = c.args in
    let h = c.requires in
    after_as a.m a.w a.family StadiumTransformation c.in-StadiumTransformation.is c.with_row-in-StadiumTransformation.result _ c.with_row-in-StadiumTransformation.ensures (stadium_after a.m a.w h.0)

pub returns-in-Item : goal.returns-in-Item
returns-in-Item c =
    let a = c.args in
    let h = c.requires in
    after_as a.m a.w a.family Item c.in-Item.is c.with_row-in-Item.result _ c.with_row-in-Item.ensures (item_after a.m a.w h.0)

pub returns-in-FrameEnd : goal.returns-in-FrameEnd
returns-in-FrameEnd c =
    let a = c.args in
    let h = c.requires in
    after_as a.m a.w a.family FrameEnd c.in-FrameEnd.is c.with_row-in-FrameEnd.result _ c.with_row-in-FrameEnd.ensures (end_after a.m a.w h.0)

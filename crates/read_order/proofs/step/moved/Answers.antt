use native.Mathlib.Omega.{arith}
use Rattle.layout.specs.declared.columns.Family.TheVariants.{Pre, Post, FrameStart, Item, FrameEnd, FodPlatform, DreamlandWhispy, StadiumTransformation}
use Rattle.read_order.proofs.Steps.{ready_as, after_as, row_after, keeps_start, keeps_fod, keeps_whispy, keeps_stadium, keeps_item, keeps_end}
use Rattle.read_order.proofs.step.moved.Goals as goal

pub with_pre-requires : goal.with_pre-requires
with_pre-requires c =
    let a = c.args in
    ready_as a.file.now a.span a.m a.w a.at a.next a.family Pre c.in-Pre.is c.requires.0

pub with_post-requires : goal.with_post-requires
with_post-requires c =
    let a = c.args in
    let h = ready_as a.file.now a.span a.m a.w a.at a.next a.family Post c.in-Post.is c.requires.0 in
    (h.0, h.1, c.requires.1)

pub with_row-requires : goal.with_row-requires
with_row-requires c =
    let a = c.args in
    (λ x. ready_as a.file.now a.span a.m a.w a.at a.next a.family FrameStart c.in-FrameStart.is c.requires.0, c.requires.1)

pub with_row-requires-in-FodPlatform : goal.with_row-requires-in-FodPlatform
with_row-requires-in-FodPlatform c = (λ x. absurd (omega arith), c.requires.1)

pub with_row-requires-in-DreamlandWhispy : goal.with_row-requires-in-DreamlandWhispy
with_row-requires-in-DreamlandWhispy c = (λ x. absurd (omega arith), c.requires.1)

pub with_row-requires-in-StadiumTransformation : goal.with_row-requires-in-StadiumTransformation
with_row-requires-in-StadiumTransformation c = (λ x. absurd (omega arith), c.requires.1)

pub with_row-requires-in-Item : goal.with_row-requires-in-Item
with_row-requires-in-Item c = (λ x. absurd (omega arith), c.requires.1)

pub with_row-requires-in-FrameEnd : goal.with_row-requires-in-FrameEnd
with_row-requires-in-FrameEnd c = (λ x. absurd (omega arith), c.requires.1)

pub returns-in-Pre : goal.returns-in-Pre
returns-in-Pre c =
    let a = c.args in
    after_as a.file.now a.span a.m a.w a.next a.family Pre c.with_pre.result c.in-Pre.is c.with_pre.ensures

pub returns-in-Post : goal.returns-in-Post
returns-in-Post c =
    let a = c.args in
    after_as a.file.now a.span a.m a.w a.next a.family Post c.with_post.result c.in-Post.is c.with_post.ensures

pub returns-in-FrameStart : goal.returns-in-FrameStart
returns-in-FrameStart c =
    let a = c.args in
    after_as a.file.now a.span a.m a.w a.next a.family FrameStart c.with_row.result c.in-FrameStart.is
    (row_after a.file.now a.span a.m a.w a.next FrameStart c.with_row.result keeps_start c.with_row.ensures)

pub returns-in-FodPlatform : goal.returns-in-FodPlatform
returns-in-FodPlatform c =
    let a = c.args in
    after_as a.file.now a.span a.m a.w a.next a.family FodPlatform c.with_row-in-FodPlatform.result c.in-FodPlatform.is
    (row_after a.file.now a.span a.m a.w a.next FodPlatform c.with_row-in-FodPlatform.result keeps_fod c.with_row-in-FodPlatform.ensures)

pub returns-in-DreamlandWhispy : goal.returns-in-DreamlandWhispy
returns-in-DreamlandWhispy c =
    let a = c.args in
    after_as a.file.now a.span a.m a.w a.next a.family DreamlandWhispy c.with_row-in-DreamlandWhispy.result c.in-DreamlandWhispy.is
    (row_after a.file.now a.span a.m a.w a.next DreamlandWhispy c.with_row-in-DreamlandWhispy.result keeps_whispy c.with_row-in-DreamlandWhispy.ensures)

pub returns-in-StadiumTransformation : goal.returns-in-StadiumTransformation
returns-in-StadiumTransformation c =
    let a = c.args in
    after_as a.file.now a.span a.m a.w a.next a.family StadiumTransformation c.with_row-in-StadiumTransformation.result c.in-StadiumTransformation.is
    (row_after a.file.now a.span a.m a.w a.next StadiumTransformation c.with_row-in-StadiumTransformation.result keeps_stadium c.with_row-in-StadiumTransformation.ensures)

pub returns-in-Item : goal.returns-in-Item
returns-in-Item c =
    let a = c.args in
    after_as a.file.now a.span a.m a.w a.next a.family Item c.with_row-in-Item.result c.in-Item.is
    (row_after a.file.now a.span a.m a.w a.next Item c.with_row-in-Item.result keeps_item c.with_row-in-Item.ensures)

pub returns-in-FrameEnd : goal.returns-in-FrameEnd
returns-in-FrameEnd c =
    let a = c.args in
    after_as a.file.now a.span a.m a.w a.next a.family FrameEnd c.with_row-in-FrameEnd.result c.in-FrameEnd.is
    (row_after a.file.now a.span a.m a.w a.next FrameEnd c.with_row-in-FrameEnd.result keeps_end c.with_row-in-FrameEnd.ensures)

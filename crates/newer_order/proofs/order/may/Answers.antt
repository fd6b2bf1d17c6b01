use mathlib.Core.Path.{◌∙◌}
use Rattle.layout.proofs.Laws.{arm}
use Rattle.grammar.specs.WellFormed.{ascending}
use Rattle.grammar.specs.Machine.{orderly}
use Rattle.read_order.specs.Inner.{said_of}
use Rattle.newer_order.specs.Inner.{newest, state_of}
use Rattle.newer_order.proofs.Laws.{start_asks, fod_asks, whispy_asks, stadium_asks, item_asks}
use borrow.Author.Rules.{rules}
use Rattle.newer_order.proofs.order.may.Goals as goal

pub returns-in-FrameStart : goal.returns-in-FrameStart
returns-in-FrameStart c =
    let a = c.args in
    arm (λ f. orderly newest ascending (state_of a.m) f (said_of a.w)) c.in-FrameStart.is (c.is_closed.ensures ∙ start_asks a.m a.w)

pub returns-in-Pre : goal.returns-in-Pre
returns-in-Pre c =
    let a = c.args in
    arm (λ f. orderly newest ascending (state_of a.m) f (said_of a.w)) c.in-Pre.is c.pre_may.ensures

pub returns-in-FodPlatform : goal.returns-in-FodPlatform
returns-in-FodPlatform c =
    let a = c.args in
    arm (λ f. orderly newest ascending (state_of a.m) f (said_of a.w)) c.in-FodPlatform.is (c.is_inside.ensures ∙ fod_asks a.m a.w)

pub returns-in-DreamlandWhispy : goal.returns-in-DreamlandWhispy
returns-in-DreamlandWhispy c =
    let a = c.args in
    arm (λ f. orderly newest ascending (state_of a.m) f (said_of a.w)) c.in-DreamlandWhispy.is (c.is_inside-in-DreamlandWhispy.ensures ∙ whispy_asks a.m a.w)

pub returns-in-StadiumTransformation : goal.returns-in-StadiumTransformation
returns-in-StadiumTransformation c =
    let a = c.args in
    arm (λ f. orderly newest ascending (state_of a.m) f (said_of a.w)) c.in-StadiumTransformation.is (c.is_inside-in-StadiumTransformation.ensures ∙ stadium_asks a.m a.w)

pub returns-in-Item : goal.returns-in-Item
returns-in-Item c =
    let a = c.args in
    arm (λ f. orderly newest ascending (state_of a.m) f (said_of a.w)) c.in-Item.is (c.is_inside-in-Item.ensures ∙ item_asks a.m a.w)

pub returns-in-Post : goal.returns-in-Post
returns-in-Post c =
    let a = c.args in
    arm (λ f. orderly newest ascending (state_of a.m) f (said_of a.w)) c.in-Post.is c.post_may.ensures

pub returns-in-FrameEnd : goal.returns-in-FrameEnd
returns-in-FrameEnd c =
    let a = c.args in
    arm (λ f. orderly newest ascending (state_of a.m) f (said_of a.w)) c.in-FrameEnd.is c.end_may.ensures

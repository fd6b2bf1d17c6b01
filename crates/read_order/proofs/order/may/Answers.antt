use Rattle.layout.proofs.Laws.{arm}
use Rattle.grammar.specs.Machine.{orderly}
use Rattle.read_order.specs.Inner.{order_of, state_in, said_of}
use Rattle.read_order.proofs.Steps.{start_arm, fod_arm, whispy_arm, stadium_arm, item_arm, post_arm, end_arm}
use Rattle.read_order.proofs.order.may.Goals as goal

pub returns-in-FrameStart : goal.returns-in-FrameStart
returns-in-FrameStart c =
    let a = c.args in
    arm (λ f. orderly a.v (order_of a.order) (state_in a.file.now a.span a.m) f (said_of a.w)) c.in-FrameStart.is
    (start_arm a.v _ a.file.now a.span a.m a.w c.is_closed.result c.is_closed.ensures)

pub returns-in-Pre : goal.returns-in-Pre
returns-in-Pre c =
    let a = c.args in
    arm (λ f. orderly a.v (order_of a.order) (state_in a.file.now a.span a.m) f (said_of a.w)) c.in-Pre.is c.pre_may.ensures

pub returns-in-FodPlatform : goal.returns-in-FodPlatform
returns-in-FodPlatform c =
    let a = c.args in
    arm (λ f. orderly a.v (order_of a.order) (state_in a.file.now a.span a.m) f (said_of a.w)) c.in-FodPlatform.is
    (fod_arm a.v _ a.file.now a.span a.m a.w c.is_inside.result c.is_inside.ensures)

pub returns-in-DreamlandWhispy : goal.returns-in-DreamlandWhispy
returns-in-DreamlandWhispy c =
    let a = c.args in
    arm (λ f. orderly a.v (order_of a.order) (state_in a.file.now a.span a.m) f (said_of a.w)) c.in-DreamlandWhispy.is
    (whispy_arm a.v _ a.file.now a.span a.m a.w c.is_inside-in-DreamlandWhispy.result c.is_inside-in-DreamlandWhispy.ensures)

pub returns-in-StadiumTransformation : goal.returns-in-StadiumTransformation
returns-in-StadiumTransformation c =
    let a = c.args in
    arm (λ f. orderly a.v (order_of a.order) (state_in a.file.now a.span a.m) f (said_of a.w)) c.in-StadiumTransformation.is
    (stadium_arm a.v _ a.file.now a.span a.m a.w c.is_inside-in-StadiumTransformation.result c.is_inside-in-StadiumTransformation.ensures)

pub returns-in-Item : goal.returns-in-Item
returns-in-Item c =
    let a = c.args in
    arm (λ f. orderly a.v (order_of a.order) (state_in a.file.now a.span a.m) f (said_of a.w)) c.in-Item.is
    (item_arm a.v _ a.file.now a.span a.m a.w c.is_inside-in-Item.result c.is_inside-in-Item.ensures)

pub returns-in-Post : goal.returns-in-Post
returns-in-Post c =
    let a = c.args in
    arm (λ f. orderly a.v (order_of a.order) (state_in a.file.now a.span a.m) f (said_of a.w)) c.in-Post.is
    (post_arm a.v _ a.file.now a.span a.m a.w c.post_may.result c.post_may.ensures)

pub returns-in-FrameEnd : goal.returns-in-FrameEnd
returns-in-FrameEnd c =
    let a = c.args in
    arm (λ f. orderly a.v (order_of a.order) (state_in a.file.now a.span a.m) f (said_of a.w)) c.in-FrameEnd.is
    (end_arm a.v _ a.file.now a.span a.m a.w c.end_may.result c.end_may.ensures)

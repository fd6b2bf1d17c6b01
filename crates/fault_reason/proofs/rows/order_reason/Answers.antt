use Rattle.fault_reason.proofs.Laws.{start_arm, pre_arm, fod_arm, whispy_arm, stadium_arm, item_arm, post_arm, end_arm, arm_as}
use borrow.Author.Rules.{rules}
use Rattle.fault_reason.proofs.rows.order_reason.Goals as goal

pub returns-in-FrameStart : goal.returns-in-FrameStart
returns-in-FrameStart c =
    let a = c.args in
    arm_as a.v a.file.now a.span a.m a.w c.open_reason.result a.family _ c.in-FrameStart.is (start_arm a.v a.file.now a.span a.m a.w c.open_reason.result c.open_reason.ensures)

pub returns-in-Pre : goal.returns-in-Pre
returns-in-Pre c =
    let a = c.args in
    arm_as a.v a.file.now a.span a.m a.w c.pre_reason.result a.family _ c.in-Pre.is (pre_arm a.v a.file.now a.span a.m a.w c.pre_reason.result c.pre_reason.ensures)

pub returns-in-FodPlatform : goal.returns-in-FodPlatform
returns-in-FodPlatform c =
    let a = c.args in
    arm_as a.v a.file.now a.span a.m a.w c.place_reason.result a.family _ c.in-FodPlatform.is (fod_arm a.v a.file.now a.span a.m a.w c.place_reason.result c.place_reason.ensures)

pub returns-in-DreamlandWhispy : goal.returns-in-DreamlandWhispy
returns-in-DreamlandWhispy c =
    let a = c.args in
    arm_as a.v a.file.now a.span a.m a.w c.place_reason-in-DreamlandWhispy.result a.family _ c.in-DreamlandWhispy.is (whispy_arm a.v a.file.now a.span a.m a.w c.place_reason-in-DreamlandWhispy.result c.place_reason-in-DreamlandWhispy.ensures)

pub returns-in-StadiumTransformation : goal.returns-in-StadiumTransformation
returns-in-StadiumTransformation c =
    let a = c.args in
    arm_as a.v a.file.now a.span a.m a.w c.place_reason-in-StadiumTransformation.result a.family _ c.in-StadiumTransformation.is (stadium_arm a.v a.file.now a.span a.m a.w c.place_reason-in-StadiumTransformation.result c.place_reason-in-StadiumTransformation.ensures)

pub returns-in-Item : goal.returns-in-Item
returns-in-Item c =
    let a = c.args in
    arm_as a.v a.file.now a.span a.m a.w c.place_reason-in-Item.result a.family _ c.in-Item.is (item_arm a.v a.file.now a.span a.m a.w c.place_reason-in-Item.result c.place_reason-in-Item.ensures)

pub returns-in-Post : goal.returns-in-Post
returns-in-Post c =
    let a = c.args in
    arm_as a.v a.file.now a.span a.m a.w c.post_reason.result a.family _ c.in-Post.is (post_arm a.v a.file.now a.span a.m a.w c.post_reason.result c.post_reason.ensures)

pub returns-in-FrameEnd : goal.returns-in-FrameEnd
returns-in-FrameEnd c =
    let a = c.args in
    arm_as a.v a.file.now a.span a.m a.w c.last_reason.result a.family _ c.in-FrameEnd.is (end_arm a.v a.file.now a.span a.m a.w c.last_reason.result c.last_reason.ensures)

-- `room::how_many` meets its contract, arm by arm.
use mathlib.Core.Path.{refl}
use native.Mathlib.Omega.{arith}
use borrow.Author.Rules.{rules}
use Rattle.layout.proofs.Laws.{arm}
use Rattle.room.specs.Room.{how_many}
use Rattle.room.proofs.Laws.{players_few}
use Rattle.room.proofs.how_many.Goals as goal

pub enum_told-1 : goal.enum_told-1
unfolding how_many
enum_told-1 c = search rules

pub enum_told-in-GameStart : goal.enum_told-in-GameStart
unfolding how_many
enum_told-in-GameStart c = search rules

pub enum_told-in-FramePre : goal.enum_told-in-FramePre
unfolding how_many
enum_told-in-FramePre c = search rules

pub overflow_mul-result : goal.overflow_mul-result
unfolding how_many
overflow_mul-result c = omega (arith, players_few c.args.p c.requires)

pub enum_told-in-FramePost : goal.enum_told-in-FramePost
unfolding how_many
enum_told-in-FramePost c = search rules

pub overflow_mul-result-in-FramePost : goal.overflow_mul-result-in-FramePost
unfolding how_many
overflow_mul-result-in-FramePost c = omega (arith, players_few c.args.p c.requires)

pub enum_told-in-GameEnd : goal.enum_told-in-GameEnd
unfolding how_many
enum_told-in-GameEnd c = search rules

pub enum_told-in-FrameStart : goal.enum_told-in-FrameStart
unfolding how_many
enum_told-in-FrameStart c = search rules

pub enum_told-in-Item : goal.enum_told-in-Item
unfolding how_many
enum_told-in-Item c = search rules

pub rows_with_frames-requires : goal.rows_with_frames-requires
unfolding how_many
rows_with_frames-requires c = search rules

pub enum_told-in-FrameEnd : goal.enum_told-in-FrameEnd
unfolding how_many
enum_told-in-FrameEnd c = search rules

pub enum_told-in-GeckoCodes : goal.enum_told-in-GeckoCodes
unfolding how_many
enum_told-in-GeckoCodes c = search rules

pub enum_told-in-MessageSplitter : goal.enum_told-in-MessageSplitter
unfolding how_many
enum_told-in-MessageSplitter c = search rules

pub enum_told-in-FodPlatform : goal.enum_told-in-FodPlatform
unfolding how_many
enum_told-in-FodPlatform c = search rules

pub rows_with_frames-requires-in-FodPlatform : goal.rows_with_frames-requires-in-FodPlatform
unfolding how_many
rows_with_frames-requires-in-FodPlatform c = search rules

pub enum_told-in-DreamlandWhispy : goal.enum_told-in-DreamlandWhispy
unfolding how_many
enum_told-in-DreamlandWhispy c = search rules

pub rows_with_frames-requires-in-DreamlandWhispy : goal.rows_with_frames-requires-in-DreamlandWhispy
unfolding how_many
rows_with_frames-requires-in-DreamlandWhispy c = search rules

pub enum_told-in-StadiumTransformation : goal.enum_told-in-StadiumTransformation
unfolding how_many
enum_told-in-StadiumTransformation c = search rules

pub rows_with_frames-requires-in-StadiumTransformation : goal.rows_with_frames-requires-in-StadiumTransformation
unfolding how_many
rows_with_frames-requires-in-StadiumTransformation c = search rules

pub returns-in-Payloads : goal.returns-in-Payloads
unfolding how_many
returns-in-Payloads c = (arm (how_many c.args.p) c.in-Payloads.is refl, omega arith)

pub returns-in-GameStart : goal.returns-in-GameStart
unfolding how_many
returns-in-GameStart c = (arm (how_many c.args.p) c.in-GameStart.is refl, omega arith)

pub returns-in-FramePre : goal.returns-in-FramePre
unfolding how_many
returns-in-FramePre c = (arm (how_many c.args.p) c.in-FramePre.is refl, players_few c.args.p c.requires)

pub returns-in-FramePost : goal.returns-in-FramePost
unfolding how_many
returns-in-FramePost c = (arm (how_many c.args.p) c.in-FramePost.is refl, players_few c.args.p c.requires)

pub returns-in-GameEnd : goal.returns-in-GameEnd
unfolding how_many
returns-in-GameEnd c = (arm (how_many c.args.p) c.in-GameEnd.is refl, omega arith)

pub returns-in-FrameStart : goal.returns-in-FrameStart
unfolding how_many
returns-in-FrameStart c = (arm (how_many c.args.p) c.in-FrameStart.is refl, omega arith)

pub returns-in-Item : goal.returns-in-Item
unfolding how_many
returns-in-Item c = (arm (how_many c.args.p) c.in-Item.is c.rows_with_frames.ensures.0, omega arith)

pub returns-in-FrameEnd : goal.returns-in-FrameEnd
unfolding how_many
returns-in-FrameEnd c = (arm (how_many c.args.p) c.in-FrameEnd.is refl, omega arith)

pub returns-in-GeckoCodes : goal.returns-in-GeckoCodes
unfolding how_many
returns-in-GeckoCodes c = (arm (how_many c.args.p) c.in-GeckoCodes.is refl, omega arith)

pub returns-in-MessageSplitter : goal.returns-in-MessageSplitter
unfolding how_many
returns-in-MessageSplitter c = (arm (how_many c.args.p) c.in-MessageSplitter.is refl, omega arith)

pub returns-in-FodPlatform : goal.returns-in-FodPlatform
unfolding how_many
returns-in-FodPlatform c = (arm (how_many c.args.p) c.in-FodPlatform.is c.rows_with_frames-in-FodPlatform.ensures.0, omega arith)

pub returns-in-DreamlandWhispy : goal.returns-in-DreamlandWhispy
unfolding how_many
returns-in-DreamlandWhispy c = (arm (how_many c.args.p) c.in-DreamlandWhispy.is c.rows_with_frames-in-DreamlandWhispy.ensures.0, omega arith)

pub returns-in-StadiumTransformation : goal.returns-in-StadiumTransformation
unfolding how_many
returns-in-StadiumTransformation c = (arm (how_many c.args.p) c.in-StadiumTransformation.is c.rows_with_frames-in-StadiumTransformation.ensures.0, omega arith)

-- `names::columns::of_family` meets its contract: each of the code's lists is the definition's.
use Rattle.names.specs.Bytes.{bytes}
use Rattle.names.specs.Names.{called_in}
use Rattle.names.proofs.Called.{joined, lines, line_asks, line_says}
use Rattle.names.proofs.columns.of_family.Goals as goal

pub on_line-requires : goal.on_line-requires
unfolding joined lines called_in bytes
on_line-requires c = line_asks _ _ c.args.n c.in-Pre.is c.requires

pub returns-in-Pre : goal.returns-in-Pre
unfolding joined lines called_in bytes
returns-in-Pre c = line_says _ _ c.args.n c.in-Pre.is c.requires c.on_line.ensures

pub on_line-requires-in-Post : goal.on_line-requires-in-Post
unfolding joined lines called_in bytes
on_line-requires-in-Post c = line_asks _ _ c.args.n c.in-Post.is c.requires

pub returns-in-Post : goal.returns-in-Post
unfolding joined lines called_in bytes
returns-in-Post c = line_says _ _ c.args.n c.in-Post.is c.requires c.on_line-in-Post.ensures

pub on_line-requires-in-FrameStart : goal.on_line-requires-in-FrameStart
unfolding joined lines called_in bytes
on_line-requires-in-FrameStart c = line_asks _ _ c.args.n c.in-FrameStart.is c.requires

pub returns-in-FrameStart : goal.returns-in-FrameStart
unfolding joined lines called_in bytes
returns-in-FrameStart c = line_says _ _ c.args.n c.in-FrameStart.is c.requires c.on_line-in-FrameStart.ensures

pub on_line-requires-in-Item : goal.on_line-requires-in-Item
unfolding joined lines called_in bytes
on_line-requires-in-Item c = line_asks _ _ c.args.n c.in-Item.is c.requires

pub returns-in-Item : goal.returns-in-Item
unfolding joined lines called_in bytes
returns-in-Item c = line_says _ _ c.args.n c.in-Item.is c.requires c.on_line-in-Item.ensures

pub on_line-requires-in-FrameEnd : goal.on_line-requires-in-FrameEnd
unfolding joined lines called_in bytes
on_line-requires-in-FrameEnd c = line_asks _ _ c.args.n c.in-FrameEnd.is c.requires

pub returns-in-FrameEnd : goal.returns-in-FrameEnd
unfolding joined lines called_in bytes
returns-in-FrameEnd c = line_says _ _ c.args.n c.in-FrameEnd.is c.requires c.on_line-in-FrameEnd.ensures

pub on_line-requires-in-FodPlatform : goal.on_line-requires-in-FodPlatform
unfolding joined lines called_in bytes
on_line-requires-in-FodPlatform c = line_asks _ _ c.args.n c.in-FodPlatform.is c.requires

pub returns-in-FodPlatform : goal.returns-in-FodPlatform
unfolding joined lines called_in bytes
returns-in-FodPlatform c = line_says _ _ c.args.n c.in-FodPlatform.is c.requires c.on_line-in-FodPlatform.ensures

pub on_line-requires-in-DreamlandWhispy : goal.on_line-requires-in-DreamlandWhispy
unfolding joined lines called_in bytes
on_line-requires-in-DreamlandWhispy c = line_asks _ _ c.args.n c.in-DreamlandWhispy.is c.requires

pub returns-in-DreamlandWhispy : goal.returns-in-DreamlandWhispy
unfolding joined lines called_in bytes
returns-in-DreamlandWhispy c = line_says _ _ c.args.n c.in-DreamlandWhispy.is c.requires c.on_line-in-DreamlandWhispy.ensures

pub on_line-requires-in-StadiumTransformation : goal.on_line-requires-in-StadiumTransformation
unfolding joined lines called_in bytes
on_line-requires-in-StadiumTransformation c = line_asks _ _ c.args.n c.in-StadiumTransformation.is c.requires

pub returns-in-StadiumTransformation : goal.returns-in-StadiumTransformation
unfolding joined lines called_in bytes
returns-in-StadiumTransformation c = line_says _ _ c.args.n c.in-StadiumTransformation.is c.requires c.on_line-in-StadiumTransformation.ensures

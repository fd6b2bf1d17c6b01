use mathlib.Core.Path.{◌≡◌}
use mathlib.Core.Bool.{false}
use Rattle.format.proofs.Tests.{one_or, one_last}
use Rattle.layout.specs.declared.columns.Family.{Family}
use Rattle.layout.specs.declared.columns.Family.TheVariants.{Pre, Post, FrameStart, Item, FrameEnd, FodPlatform, DreamlandWhispy, StadiumTransformation}
use Rattle.game.specs.Stores.{cells_of}
use Rattle.game.specs.Held.{cells_in}
use Rattle.frames.specs.Judge.{misfits, cells_exceed}
use Rattle.frames.proofs.CellLaws.{stores_fit}
use Rattle.frames.proofs.stores.cells_exceed.Goals as goal
use Rattle.frames.proofs.stores.cells_exceed.Goals.{Start}

-- each family's store fits
fit : (s : Start) (family : Family)
    → misfits s.args.f family
    (cells_of (cells_in s.args.cells.now) family)
    ≡ false
fit s = stores_fit _ _ s.requires

-- the function's entry, before the nine stores are known
pub returns : goal.returns
unfolding cells_exceed
returns c =
    one_or _ _ _ _ c.store_exceeds-start.ensures
    (one_or _ _ _ _ c.store_exceeds-pre.ensures
    (one_or _ _ _ _ c.store_exceeds-post.ensures
    (one_or _ _ _ _ c.store_exceeds-end.ensures
    (one_or _ _ _ _ c.store_exceeds-item.ensures
    (one_or _ _ _ _ c.store_exceeds-fod.ensures (one_or _ _ _ _ c.store_exceeds-whispy.ensures (one_last _ _ c.store_exceeds-stadium.ensures)))))))

pub store_exceeds-start-requires : goal.store_exceeds-start-requires
store_exceeds-start-requires c = fit (goal.at.store_exceeds-start-requires c).Start FrameStart

pub store_exceeds-pre-requires : goal.store_exceeds-pre-requires
store_exceeds-pre-requires c = fit (goal.at.store_exceeds-pre-requires c).Start Pre

pub store_exceeds-post-requires : goal.store_exceeds-post-requires
store_exceeds-post-requires c = fit (goal.at.store_exceeds-post-requires c).Start Post

pub store_exceeds-end-requires : goal.store_exceeds-end-requires
store_exceeds-end-requires c = fit (goal.at.store_exceeds-end-requires c).Start FrameEnd

pub store_exceeds-item-requires : goal.store_exceeds-item-requires
store_exceeds-item-requires c = fit (goal.at.store_exceeds-item-requires c).Start Item

pub store_exceeds-fod-requires : goal.store_exceeds-fod-requires
store_exceeds-fod-requires c = fit (goal.at.store_exceeds-fod-requires c).Start FodPlatform

pub store_exceeds-whispy-requires : goal.store_exceeds-whispy-requires
store_exceeds-whispy-requires c = fit (goal.at.store_exceeds-whispy-requires c).Start DreamlandWhispy

pub store_exceeds-stadium-requires : goal.store_exceeds-stadium-requires
store_exceeds-stadium-requires c = fit (goal.at.store_exceeds-stadium-requires c).Start StadiumTransformation

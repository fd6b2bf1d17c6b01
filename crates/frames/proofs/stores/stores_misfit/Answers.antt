use mathlib.Core.Path.{refl}
use Rattle.format.proofs.Tests.{one_or, one_last}
use Rattle.frames.specs.Judge.{stores_misfit}
use Rattle.frames.proofs.stores.stores_misfit.Goals as goal

pub returns : goal.returns
unfolding stores_misfit
returns c =
    one_or _ _ _ _ refl
    (one_or _ _ _ _ c.store_misfits-start.ensures
    (one_or _ _ _ _ c.store_misfits-pre.ensures
    (one_or _ _ _ _ c.store_misfits-post.ensures
    (one_or _ _ _ _ c.store_misfits-end.ensures
    (one_or _ _ _ _ c.store_misfits-item.ensures
    (one_or _ _ _ _ c.store_misfits-fod.ensures (one_or _ _ _ _ c.store_misfits-whispy.ensures (one_last _ _ c.store_misfits-stadium.ensures))))))))

pub store_misfits-start-requires : goal.store_misfits-start-requires
store_misfits-start-requires c = c.requires

pub store_misfits-pre-requires : goal.store_misfits-pre-requires
store_misfits-pre-requires c = c.requires

pub store_misfits-post-requires : goal.store_misfits-post-requires
store_misfits-post-requires c = c.requires

pub store_misfits-end-requires : goal.store_misfits-end-requires
store_misfits-end-requires c = c.requires

pub store_misfits-item-requires : goal.store_misfits-item-requires
store_misfits-item-requires c = c.requires

pub store_misfits-fod-requires : goal.store_misfits-fod-requires
store_misfits-fod-requires c = c.requires

pub store_misfits-whispy-requires : goal.store_misfits-whispy-requires
store_misfits-whispy-requires c = c.requires

pub store_misfits-stadium-requires : goal.store_misfits-stadium-requires
store_misfits-stadium-requires c = c.requires

-- A version that has FrameStart and FrameEnd has the order of 3.18.0.
-- Assumes nothing.
use mathlib.Core.Path.{◌≡◌, refl}
use mathlib.Core.Bool.{true}
use Rattle.format.specs.Version.{above, gte_of}
use Rattle.format.specs.declared.version.Version.{Version}
use Rattle.layout.specs.Columns.{has_family}
use Rattle.layout.specs.declared.columns.Family.{Family}
use Rattle.layout.specs.declared.columns.Family.TheVariants.{Pre, Post, FrameStart, Item, FrameEnd, FodPlatform, DreamlandWhispy, StadiumTransformation}
use Rattle.grammar.specs.WellFormed.{Order}
use Rattle.grammar.specs.Machine.{State, Said, closed, orderly}
use Rattle.newer_order.specs.Inner.{newest}

pub starts_newest : has_family newest FrameStart ≡ true
unfolding has_family gte_of above
starts_newest = refl

pub ends_newest : has_family newest FrameEnd ≡ true
unfolding has_family gte_of above
ends_newest = refl

module _ (v : Version) (starts : has_family v FrameStart ≡ true) (ends : has_family v FrameEnd ≡ true) (s : State) where
  pub closed_newest : closed newest s ≡ closed v s
  unfolding closed
  closed_newest = rw (ends, ends_newest)

  pub orderly_newest : (o : Order) (family : Family) (w : Said) → orderly newest o s family w ≡ orderly v o s family w
  unfolding orderly
  orderly_newest o Pre w = rw (starts, starts_newest)
  orderly_newest o Post w = refl
  orderly_newest o FrameStart w = closed_newest
  orderly_newest o Item w = refl
  orderly_newest o FrameEnd w = refl
  orderly_newest o FodPlatform w = refl
  orderly_newest o DreamlandWhispy w = refl
  orderly_newest o StadiumTransformation w = refl

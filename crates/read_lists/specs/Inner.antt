-- What functions promise each other of the columns of a version: the widths of six families in one table.
-- Assumes nothing.
use Rattle.std.specs.Prelude.{◌≡◌, List, ℕ, take}
use Rattle.format.specs.declared.version.Version.{Version}
use Rattle.layout.specs.Columns.{widths_of}
use Rattle.layout.specs.declared.columns.Family.TheVariants.{FrameStart, Item, FrameEnd, FodPlatform, DreamlandWhispy, StadiumTransformation}
use Rattle.read_event.specs.Known.{between, Parted}
use Rattle.read_event.specs.declared.known.Borders.{Borders}

pub record Tabled (v : Version) (b : Borders) (ws : List ℕ) : Type 0 where
  pub parted : Parted b ws
  pub start : take b.start ws ≡ widths_of FrameStart v
  pub end : between ws b.start b.end ≡ widths_of FrameEnd v
  pub item : between ws b.end b.item ≡ widths_of Item v
  pub fod : between ws b.item b.fod ≡ widths_of FodPlatform v
  pub whispy : between ws b.fod b.whispy ≡ widths_of DreamlandWhispy v
  pub stadium : between ws b.whispy b.stadium ≡ widths_of StadiumTransformation v

-- The columns of a newer version: six lists of widths in one table are a plan's, and every family is there.
-- Assumes nothing.
use mathlib.Core.Path.{◌≡◌, refl, sym}
use mathlib.Core.Bool.{true}
use mathlib.Core.List.{List}
use Prim.Native.Nat.{ℕ}
use Rattle.layout.specs.declared.columns.Family.TheVariants.{FrameStart, Item, FodPlatform}
use Rattle.game.specs.declared.frames.Frames.{Frames}
use Rattle.known.specs.Known.{is_newer}
use Rattle.known.proofs.Newest.{has_family_lem}
use Rattle.read_event.specs.Inner.{plan_of}
use Rattle.read_event.specs.Known.{plan_in}
use Rattle.read_event.specs.Parts.{row_plan_of}
use Rattle.read_event.specs.declared.known.Borders.{Borders}
use Rattle.read_event.specs.declared.known.Known.{Known}
use Rattle.read_event.specs.declared.spans.Spans.{Spans}
use Rattle.read_lists.specs.Inner.{Tabled}
use Rattle.read_lists.proofs.Lists.{row_plan_is}

-- what is known of a newer recorder's file
abbrev pub newer_known : Frames → Spans → Borders → Known
newer_known f z b = record { course = record { spans = z; start = true; counts = f.counts }; item = true; stage = true; borders = b }

pub newer_plan : (f : Frames) (z : Spans) (b : Borders) (ws : List ℕ) → Tabled f.version b ws → is_newer f.version ≡ true → plan_in (newer_known f z b) ws ≡ row_plan_of (plan_of f)
newer_plan f z b ws l n =
    let v = f.version in
    row_plan_is f (newer_known f z b) ws l (sym (has_family_lem v n FrameStart)) (sym (has_family_lem v n Item)) (sym (has_family_lem v n FodPlatform)) refl

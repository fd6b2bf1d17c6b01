-- A newer version of major 3 has every family and gate that 3.18 has; up to 3.18.0 events are taken as they are.
-- Assumes nothing.
use Prim.Native.Nat.{ℕ, ◌≤◌, ◌<◌}
use mathlib.Core.Path.{◌≡◌, sym, ap, ◌∙◌}
use mathlib.Core.Bool.{Bool, true, false, not, cond}
use mathlib.Core.List.{List}
use native.Mathlib.Decide.{dec_lt}
use native.Mathlib.Omega.{arith}
use borrow.Author.Tests.{le-leb, lt-ltb, eqb-true, not-true}
use lib.Dec.{eqb}
use Rattle.format.specs.File.{Ev}
use Rattle.format.specs.Version.{above, gte_of, accepted_of}
use Rattle.format.specs.declared.version.Version.{Version}
use Rattle.layout.specs.Columns.{has_family}
use Rattle.layout.specs.declared.columns.Family.{Family}
use Rattle.layout.specs.declared.columns.Family.TheVariants.{Pre, Post, FrameStart, Item, FrameEnd, FodPlatform, DreamlandWhispy, StadiumTransformation}
use Rattle.grammar.proofs.Tests.{both}
use Rattle.known.specs.Known.{is_newer, known_of, taken}

-- up to 3.18.0 nothing moves
pub same_events : (v : Version) (es : List Ev) → accepted_of v ≡ true → taken v es ≡ es
unfolding taken
same_events v es e = rw e

module _ (v : Version) (newer : is_newer v ≡ true) where
  parts : (eqb v.major 3 ≡ true) × (not (accepted_of v) ≡ true)
  unfolding is_newer
  parts = both (eqb v.major 3) (not (accepted_of v)) newer

  pub not_accepted : accepted_of v ≡ false
  not_accepted = not-true (accepted_of v) parts.1

  pub taken_newer : (es : List Ev) → taken v es ≡ known_of v es
  unfolding taken
  taken_newer es = rw not_accepted

  three : v.major ≡ 3
  three = eqb-true v.major 3 parts.0

  early : v.minor < 18 → accepted_of v ≡ true
  unfolding accepted_of above
  early l = rw (three, lt-ltb v.minor 18 l)

  pub newer_is : (v.major ≡ 3) × (18 ≤ v.minor)
  newer_is = (
    three,
    elim (dec_lt v.minor 18) [
      | yes l ↦ absurd (let z : ◌≡◌ {A = ℕ} 0 1 = ap (λ (b : Bool). cond b 0 1) (sym (early l) ∙ not_accepted) in omega arith)
      | no l ↦ omega arith
    ],
  )

  pub has_gate : (b : ℕ) → b ≤ 18 → gte_of v 3 b ≡ true
  unfolding gte_of above
  has_gate b h = let late = newer_is.1 in rw (three, le-leb b v.minor (omega arith))

  pub has_family_lem : (family : Family) → has_family v family ≡ true
  unfolding has_family gte_of above
  has_family_lem Pre = rw three
  has_family_lem Post = rw three
  has_family_lem FrameStart = rw three
  has_family_lem Item = has_gate 0 (omega arith)
  has_family_lem FrameEnd = has_gate 0 (omega arith)
  has_family_lem FodPlatform = has_gate 18 (omega arith)
  has_family_lem DreamlandWhispy = has_gate 18 (omega arith)
  has_family_lem StadiumTransformation = has_gate 18 (omega arith)

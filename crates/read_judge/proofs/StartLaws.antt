-- The laws of a file's first event, and of what is asked of its start.
-- Assumes nothing.
use mathlib.Core.Path.{◌≡◌, refl, sym, ap, ◌∙◌}
use mathlib.Core.Bool.{Bool, true, false, not, ◌&&◌}
use mathlib.Core.List.{List}
use Prim.Native.Nat.{ℕ, ◌+◌, ◌-◌, ◌≤◌, ◌<◌}
use native.Mathlib.Omega.{arith}
use borrow.Author.Tests.{lt-ltb, le-ltb, le-leb, lt-leb, eq-eqb, ne_eqb}
use lib.ListN.{length, get_or}
use Rattle.wire.specs.Wire.{part}
use Rattle.format.specs.Version.{version}
use Rattle.format.specs.declared.version.Version.{Version}
use Rattle.layout.specs.Columns.{has_family}
use Rattle.layout.specs.declared.columns.Family.TheVariants.{FrameStart}
use Rattle.start.specs.Length.{length_of}
use Rattle.read_start.specs.Start.{seats_fit}
use Rattle.read_scan.specs.declared.tally.Tally.{Tally}
use Rattle.read_outline.proofs.Laws.{length_part}
use Rattle.read_judge.specs.Inner.{opens_at, first_at, start_fits, changes}
use Rattle.read_judge.specs.declared.first.First.TheVariants.{Opens, Other}

-- ---- the first event

and_no : (a : Bool) → (a && false) ≡ false
and_no true = refl
and_no false = refl

module _ (f spans : List ℕ) (first stop : ℕ) where
  pub no_room : stop ≤ first → Other ≡ first_at f spans first stop
  unfolding first_at opens_at
  no_room h = rw (le-ltb first stop h)

  pub other_code : first < stop → (get_or f first 0 ≡ 0x36 → ⊥) → Other ≡ first_at f spans first stop
  unfolding first_at opens_at
  other_code h n = rw (lt-ltb first stop h, ne_eqb (get_or f first 0) 0x36 n)

  module _ (inside : first < stop) (code : get_or f first 0 ≡ 0x36) (span : ℕ) (span_is : span ≡ get_or spans 0x36 0) where
    pub too_short_lem : span < 5 → Other ≡ first_at f spans first stop
    unfolding first_at opens_at
    too_short_lem h = rw (lt-ltb first stop inside, eq-eqb (get_or f first 0) 0x36 code, ← span_is, lt-leb 5 span h)

    pub not_whole : 5 ≤ span → stop - first < span → Other ≡ first_at f spans first stop
    unfolding first_at opens_at
    not_whole k h = rw (lt-ltb first stop inside, eq-eqb (get_or f first 0) 0x36 code, ← span_is, le-leb 5 span k, lt-leb (first + span) stop (omega arith))

    pub opens : 5 ≤ span → span ≤ stop - first → (v : Version) → v ≡ version (get_or f (first + 1) 0) (get_or f (first + 2) 0) (get_or f (first + 3) 0)
        → Opens v (span - 1) ≡ first_at f spans first stop
    unfolding first_at opens_at
    opens k h v v-is =
        rw (lt-ltb first stop inside, eq-eqb (get_or f first 0) 0x36 code, ← span_is, le-leb 5 span k, le-leb (first + span) stop (omega arith))
        (ap (λ (w : Version). Opens w (span - 1)) v-is)

-- ---- what is asked of the start

module _ (v : Version) (f : List ℕ) (at len : ℕ) (within : at + len ≤ length f) where
  pub start_short : len < length_of v → false ≡ start_fits v (part f at len)
  unfolding start_fits
  start_short h = rw (length_part f at len within, lt-leb (length_of v) len h)

  pub start_long : length_of v ≤ len → (r : Bool) → r ≡ seats_fit (part f at len) → r ≡ start_fits v (part f at len)
  unfolding start_fits
  start_long h r e = rw (length_part f at len within, le-leb (length_of v) len h) e

module _ (v : Version) (t : Tally) (b : Bool) (b-is : b ≡ has_family v FrameStart) where
  pub changes_has : b ≡ true → true ≡ changes v t
  unfolding changes
  changes_has e = rw (sym b-is ∙ e)

  pub changes_lacks : b ≡ false → t.changing ≡ changes v t
  unfolding changes
  changes_lacks e = rw (sym b-is ∙ e)

-- ---- tests turned round

pub not_taken : (b : Bool) → not b ≡ true → b ≡ false
not_taken true e = sym e
not_taken false e = refl

pub not_left : (b : Bool) → not b ≡ false → b ≡ true
not_left true e = refl
not_left false e = sym e

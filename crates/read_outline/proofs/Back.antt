-- What an end says, written back, and what is written, read back.
-- Assumes nothing.
use mathlib.Core.Path.{◌≡◌, refl, sym, ◌∙◌}
use mathlib.Core.Bool.{Bool, true, false, cond, ◌&&◌, ◌||◌}
use mathlib.Core.List.{List, [], ◌∷◌}
use Prim.Native.Nat.{ℕ}
use native.Mathlib.Decide.{ℕ_discrete}
use native.Mathlib.Omega.{arith}
use borrow.Author.Tests.{eq-eqb, ne_eqb}
use lib.ListN.{length, get_or}
use Rattle.wire.specs.Wire.{ranged, keep}
use Rattle.format.specs.Version.{has_initiator, has_placements}
use Rattle.format.specs.Mark as mark
use Rattle.format.specs.declared.version.Version.{Version}
use Rattle.layout.specs.Payloads.{end_size}
use Rattle.ending.specs.End.{placement_of, placements_of, end_of, initiator_wrong, end_wrong}
use Rattle.ending.proofs.Lengths.{length_end}
use Rattle.game.specs.declared.end.End.{End}
use Rattle.read_outline.specs.End.{mark_by, value_by, four_zeros, initiator_in, placed_in, placements_in, end_in}

-- ---- a payload

byte_back : (b : ℕ) → cond (mark.no (mark_by b)) 0xFF (value_by b) ≡ b
unfolding mark_by value_by
byte_back b =
    elim (ℕ_discrete b 255) [
      | yes e ↦ rw (eq-eqb b 255 e) (sym e)
      | no e ↦ rw (ne_eqb b 255 e)
    ]

module _ (v : Version) where
  written_1 : (p : List ℕ) → has_placements v ≡ false → has_initiator v ≡ false → length p ≡ 1 → (end_of v (end_in v p)).payload ≡ p
  unfolding end_of end_in keep
  written_1 [] s t n = absurd (omega arith)
  written_1 (a ∷ []) s t n = rw (s, t)
  written_1 (a ∷ b ∷ p) s t n = absurd (omega arith)

  written_2 : (p : List ℕ) → has_placements v ≡ false → has_initiator v ≡ true → length p ≡ 2 → (end_of v (end_in v p)).payload ≡ p
  unfolding end_of end_in initiator_in keep
  written_2 [] s t n = absurd (omega arith)
  written_2 (a ∷ []) s t n = absurd (omega arith)
  written_2 (a ∷ b ∷ []) s t n = rw (s, t)
  written_2 (a ∷ b ∷ c ∷ p) s t n = absurd (omega arith)

  written_6 : (p : List ℕ) → has_placements v ≡ true → has_initiator v ≡ true → length p ≡ 6 → (end_of v (end_in v p)).payload ≡ p
  unfolding end_of end_in initiator_in placed_in placements_in placements_of placement_of ranged keep
  written_6 [] s t n = absurd (omega arith)
  written_6 (a ∷ []) s t n = absurd (omega arith)
  written_6 (a ∷ b ∷ []) s t n = absurd (omega arith)
  written_6 (a ∷ b ∷ c ∷ []) s t n = absurd (omega arith)
  written_6 (a ∷ b ∷ c ∷ d ∷ []) s t n = absurd (omega arith)
  written_6 (a ∷ b ∷ c ∷ d ∷ e ∷ []) s t n = absurd (omega arith)
  written_6 (a ∷ b ∷ c ∷ d ∷ e ∷ f ∷ g ∷ p) s t n = absurd (omega arith)
  written_6 (a ∷ b ∷ c ∷ d ∷ e ∷ f ∷ []) s t n = rw (s, t) (λ i. a ∷ b ∷ byte_back c i ∷ byte_back d i ∷ byte_back e i ∷ byte_back f i ∷ [])

  -- no version places players without naming an initiator
  both_or : (e : End) → has_placements v ≡ true → has_initiator v ≡ false → ⊥
  unfolding end_of end_size placements_of ranged keep
  both_or e s t = let q : ◌≡◌ {A = ℕ} 5 6 = rw (s, t) at (length_end v e) in omega arith

  -- what a payload of the version's size says is written as that payload
  pub written_back : (p : List ℕ) → length p ≡ end_size v → (end_of v (end_in v p)).payload ≡ p
  unfolding end_size
  written_back p n = go (has_placements v) refl (has_initiator v) refl
    where
      go : (s : Bool) → has_placements v ≡ s → (t : Bool) → has_initiator v ≡ t → (end_of v (end_in v p)).payload ≡ p
      go true x true y = written_6 p x y (n ∙ rw x)
      go true x false y = absurd (both_or (end_in v p) x y)
      go false x true y = written_2 p x y (n ∙ rw (x, y))
      go false x false y = written_1 p x y (n ∙ rw (x, y))

  -- and is not refused, where it names an initiator that it may
  pub not_wrong : (p : List ℕ) (double : ℕ) → (has_initiator v ≡ true → initiator_wrong (get_or p 1 0) ≡ false) → end_wrong v (end_in v p) double ≡ false
  unfolding end_wrong end_in initiator_in
  not_wrong p double h = go (has_initiator v) refl (mark.yes double)
    where
      go : (t : Bool) → has_initiator v ≡ t → (d : Bool) → ((d && false) || (true && (t && initiator_wrong (cond t (get_or p 1 0) 0xFF)))) ≡ false
      go true x true = h x
      go true x false = h x
      go false x true = refl
      go false x false = refl

  -- ---- an end

  -- as it comes back: the initiator and the placements where the version has them. One who was not placed, and a placement FF, come back as none
  abbrev pub end_again : End → End
  end_again e = record {
    given = 1;
    method = e.method;
    initiator = cond (has_initiator v) e.initiator 0xFF;
    placed = cond (has_placements v) (mark_by (placement_of e 0) ∷ mark_by (placement_of e 1) ∷ mark_by (placement_of e 2) ∷ mark_by (placement_of e 3) ∷ []) four_zeros;
    placements = cond (has_placements v) (value_by (placement_of e 0) ∷ value_by (placement_of e 1) ∷ value_by (placement_of e 2) ∷ value_by (placement_of e 3) ∷ []) four_zeros;
  }

  pub read_back_lem : (e : End) → end_in v (end_of v e).payload ≡ end_again e
  unfolding end_of end_in initiator_in placed_in placements_in placements_of ranged keep
  read_back_lem e = go (has_placements v) refl (has_initiator v) refl
    where
      go : (s : Bool) → has_placements v ≡ s → (t : Bool) → has_initiator v ≡ t → end_in v (end_of v e).payload ≡ end_again e
      go true x true y = rw (x, y)
      go true x false y = absurd (both_or e x y)
      go false x true y = rw (x, y)
      go false x false y = rw (x, y)

-- a placement as it comes back
module _ (e : End) (i : ℕ) where
  pub again_absent : get_or e.placed i 0 ≡ 0 → (mark_by (placement_of e i) ≡ 0) × (value_by (placement_of e i) ≡ 0)
  unfolding placement_of mark_by value_by
  again_absent h = (rw (eq-eqb (get_or e.placed i 0) 0 h), rw (eq-eqb (get_or e.placed i 0) 0 h))

  module _ (h : get_or e.placed i 0 ≡ 0 → ⊥) where
    pub again_nowhere : get_or e.placements i 0 ≡ 255 → (mark_by (placement_of e i) ≡ 0) × (value_by (placement_of e i) ≡ 0)
    unfolding placement_of mark_by value_by
    again_nowhere q =
        (rw (ne_eqb (get_or e.placed i 0) 0 h, eq-eqb (get_or e.placements i 0) 255 q), rw (ne_eqb (get_or e.placed i 0) 0 h, eq-eqb (get_or e.placements i 0) 255 q))

    pub again_placed : (get_or e.placements i 0 ≡ 255 → ⊥) → (mark_by (placement_of e i) ≡ 1) × (value_by (placement_of e i) ≡ get_or e.placements i 0)
    unfolding placement_of mark_by value_by
    again_placed q =
        (rw (ne_eqb (get_or e.placed i 0) 0 h, ne_eqb (get_or e.placements i 0) 255 q), rw (ne_eqb (get_or e.placed i 0) 0 h, ne_eqb (get_or e.placements i 0) 255 q))

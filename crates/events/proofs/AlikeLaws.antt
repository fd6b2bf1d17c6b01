-- The laws of runs of eight frames.
-- Assumes nothing.
use mathlib.Core.Path.{◌≡◌, sym, ap, ◌∙◌}
use mathlib.Core.List.{List, ◌++◌, append_assoc}
use Prim.Native.Nat.{ℕ, zero, suc, ◌+◌, ◌-◌, ◌≤◌}
use native.Mathlib.Nat.{add-zero, zero-add}
use native.Mathlib.Omega.{arith}
use Rattle.wire.specs.Wire.{ranged, Room, Wrote}
use Rattle.wire.proofs.Writers.{Left, left_room, left_step}

-- ---- a loop over frames: eight at once
pub ranged_split : {A : Type 0} (f : ℕ → List A) (i a b : ℕ) → ranged f i (a + b) ≡ ranged f i a ++ ranged f (i + a) b
unfolding ranged
ranged_split f i zero b = rw (zero-add, add-zero)
ranged_split {A} f i (suc a) b =
    let e : suc a + b ≡ suc (a + b) = omega arith in
    let g : i + 1 + a ≡ i + suc a = omega arith in
    ap (λ (k : ℕ). ranged f i k) e
    ∙ ap (λ (l : List A). f i ++ l) (ranged_split f (i + 1) a b ∙ ap (λ (k : ℕ). ranged f (i + 1) a ++ ranged f k b) g)
    ∙ sym (append_assoc (f i) (ranged f (i + 1) a) (ranged f (i + suc a) b))

split_eight : (f : ℕ → List ℕ) (i n : ℕ) → i + 8 ≤ n → ranged f i (n - i) ≡ ranged f i 8 ++ ranged f (i + 8) (n - (i + 8))
split_eight f i n h = let e : n - i ≡ 8 + (n - (i + 8)) = omega arith in ap (λ (k : ℕ). ranged f i k) e ∙ ranged_split f i 8 (n - (i + 8))

module _ (f : ℕ → List ℕ) (i n : ℕ) (h : i + 8 ≤ n) {first all now : List ℕ} {at p : ℕ} where
  pub eights_room : Left first at all now p (ranged f i (n - i)) → Room first at all → Room now p (ranged f i 8)
  eights_room l r = left_room (ranged f (i + 8) (n - (i + 8))) l (split_eight f i n h) r

  pub eights_step : {after : List ℕ} {next : ℕ} → Left first at all now p (ranged f i (n - i)) → Wrote now after p next (ranged f i 8) → Left first at all after next (ranged f (i + 8) (n - (i + 8)))
  eights_step l w = left_step l (split_eight f i n h) w

-- Running totals, and the rows between two of them: those of one frame.
-- Assumes nothing.
use mathlib.Core.Path.{◌≡◌, refl, sym, ap, ap₂, ◌∙◌}
use mathlib.Core.Bool.{true}
use mathlib.Core.List.{List, [], ◌∷◌, ◌++◌, map}
use Prim.Native.Nat.{ℕ, zero, suc, ◌+◌, ◌-◌, ◌≤◌, ◌<◌}
use native.Mathlib.Nat.{zero-add}
use native.Mathlib.Omega.{arith}
use lib.ListN.{length, get_or, take, drop, length-append, length-map, get_or-append}
use lib.Seq.{take-append_seam, drop-append-add, get_or-drop}
use Rattle.wire.specs.Wire.{keep}
use Rattle.format.specs.declared.version.Version.{Version}
use Rattle.layout.specs.Columns.{sum, has_family}
use Rattle.layout.specs.declared.columns.Family.{Family}
use Rattle.grammar.specs.Productions.{Frame}
use Rattle.columns.specs.Columns.{rows_here, rows_there, totals, offsets_read}
use Rattle.columns.proofs.Laws.{map_at_lem}

-- ---- totals

pub totals_length : (n : ℕ) (ks : List ℕ) → length (totals n ks) ≡ length ks + 1
unfolding totals
totals_length n [] = refl
totals_length n (k ∷ ks) = omega (arith, totals_length (n + k) ks)

pub totals_first : (n : ℕ) (ks : List ℕ) → get_or (totals n ks) 0 0 ≡ n
unfolding totals
totals_first n [] = refl
totals_first n (k ∷ ks) = refl

pub totals_at : (n : ℕ) (ks : List ℕ) (i : ℕ) → i ≤ length ks → get_or (totals n ks) i 0 ≡ n + sum (take i ks)
unfolding totals sum
totals_at n [] zero h = omega arith
totals_at n [] (suc i) h = absurd (omega arith)
totals_at n (k ∷ ks) zero h = omega arith
totals_at n (k ∷ ks) (suc i) h = omega (arith, totals_at (n + k) ks i (omega arith))

pub totals_next : (n : ℕ) (ks : List ℕ) (i : ℕ) → i < length ks → get_or (totals n ks) (i + 1) 0 ≡ get_or (totals n ks) i 0 + get_or ks i 0
unfolding totals
totals_next n [] i h = absurd (omega arith)
totals_next n (k ∷ ks) zero h = totals_first (n + k) ks
totals_next n (k ∷ ks) (suc i) h =
    let e : suc i + 1 ≡ suc (i + 1) = omega arith in
    ap (λ (j : ℕ). get_or (n ∷ totals (n + k) ks) j 0) e ∙ totals_next (n + k) ks i (omega arith)

pub totals_rise : (n : ℕ) (ks : List ℕ) (i : ℕ) → i < length ks → get_or (totals n ks) i 0 ≤ get_or (totals n ks) (i + 1) 0
totals_rise n ks i h = omega (arith, totals_next n ks i h)

pub totals_last : (n : ℕ) (ks : List ℕ) → get_or (totals n ks) (length ks) 0 ≡ n + sum ks
unfolding totals sum
totals_last n [] = omega arith
totals_last n (k ∷ ks) = omega (arith, totals_last (n + k) ks)

-- ---- rows by frames

module _ (v : Version) (family : Family) where
  -- how many rows each frame has
  abbrev pub counts : List Frame → List ℕ
  counts fs = map (λ f. length (rows_here v family f)) fs

  pub rows_length : (fs : List Frame) → length (rows_there v family fs) ≡ sum (counts fs)
  unfolding rows_there sum
  rows_length [] = refl
  rows_length (f ∷ fs) = length-append (rows_here v family f) (rows_there v family fs) ∙ ap (λ (n : ℕ). length (rows_here v family f) + n) (rows_length fs)

  -- what stands from frame i on is its rows, and then those of the frames after it
  rows_from_lem : (d : Frame) (fs : List Frame) (i : ℕ) → i < length fs
      → drop (sum (take i (counts fs))) (rows_there v family fs) ≡ rows_here v family (get_or fs i d) ++ rows_there v family (drop (suc i) fs)
  unfolding rows_there sum
  rows_from_lem d [] i h = absurd (omega arith)
  rows_from_lem d (f ∷ fs) zero h = refl
  rows_from_lem d (f ∷ fs) (suc i) h = drop-append-add (rows_here v family f) (rows_there v family fs) (sum (take i (counts fs))) ∙ rows_from_lem d fs i (omega arith)

  module _ (d : Frame) (fs : List Frame) (i : ℕ) (h : i < length fs) where
    abbrev from : ℕ
    from = get_or (totals 0 (counts fs)) i 0

    abbrev to : ℕ
    to = get_or (totals 0 (counts fs)) (i + 1) 0

    counted : length (counts fs) ≡ length fs
    counted = length-map fs (λ f. length (rows_here v family f))

    from_is : from ≡ sum (take i (counts fs))
    from_is = totals_at 0 (counts fs) i (omega (arith, counted)) ∙ zero-add (sum (take i (counts fs)))

    -- as many as the frame has
    pub frame_count : to ≡ from + length (rows_here v family (get_or fs i d))
    frame_count =
        totals_next 0 (counts fs) i (omega (arith, counted))
        ∙ ap (λ (n : ℕ). from + n) (map_at_lem (λ f. length (rows_here v family f)) fs i d 0 h)

    -- the rows between a frame's offset and the next are the frame's
    pub frame_rows : take (to - from) (drop from (rows_there v family fs)) ≡ rows_here v family (get_or fs i d)
    frame_rows =
        let here = rows_here v family (get_or fs i d) in
        let n : to - from ≡ length here = omega (arith, frame_count) in
        ap₂ (λ (k : ℕ) (l : List (List ℕ)). take k l) n (ap (λ (k : ℕ). drop k (rows_there v family fs)) from_is ∙ rows_from_lem d fs i h)
        ∙ take-append_seam here (rows_there v family (drop (suc i) fs))

    -- the r-th of them
    pub frame_row_lem : (r : ℕ) → r < length (rows_here v family (get_or fs i d)) → get_or (rows_there v family fs) (from + r) [] ≡ get_or (rows_here v family (get_or fs i d)) r []
    frame_row_lem r l =
        let here = rows_here v family (get_or fs i d) in
        sym (get_or-drop from (rows_there v family fs) r [])
        ∙ ap (λ (xs : List (List ℕ)). get_or xs r []) (ap (λ (k : ℕ). drop k (rows_there v family fs)) from_is ∙ rows_from_lem d fs i h)
        ∙ get_or-append here (rows_there v family (drop (suc i) fs)) [] r l

  -- the offsets of a version that has the family
  pub offsets_are : (fs : List Frame) → has_family v family ≡ true → offsets_read v family fs ≡ totals 0 (counts fs)
  unfolding offsets_read keep
  offsets_are fs e = rw e refl

  pub offsets_length : (fs : List Frame) → has_family v family ≡ true → length (offsets_read v family fs) ≡ length fs + 1
  offsets_length fs e = ap length (offsets_are fs e) ∙ totals_length 0 (counts fs) ∙ ap (λ (n : ℕ). n + 1) (length-map fs (λ f. length (rows_here v family f)))

  -- the last is how many rows there are
  pub offsets_last : (fs : List Frame) → has_family v family ≡ true → get_or (offsets_read v family fs) (length fs) 0 ≡ length (rows_there v family fs)
  offsets_last fs e =
      ap (λ (os : List ℕ). get_or os (length fs) 0) (offsets_are fs e)
      ∙ ap (λ (n : ℕ). get_or (totals 0 (counts fs)) n 0) (sym (length-map fs (λ f. length (rows_here v family f))))
      ∙ totals_last 0 (counts fs)
      ∙ omega (arith, rows_length fs)

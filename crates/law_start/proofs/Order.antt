-- The fields of a block by owners: what is stored for one owner does not touch what is stored for another, nor one field the next of its owner. So all stand in the end.
-- Assumes nothing.
use mathlib.Core.Path.{◌≡◌, refl, ◌∙◌}
use mathlib.Core.Bool.{Bool, true, false, cond}
use mathlib.Core.List.{List, [], ◌∷◌, ◌++◌}
use Prim.Native.Nat.{ℕ, ◌+◌, ◌-◌, ◌*◌, ◌/◌, ◌≤◌, ◌<◌}
use native.Mathlib.Omega.{arith}
use borrow.Author.Tests.{lt-ltb, le-ltb}
use lib.Dec.{ltb}
use lib.ListN.{length}
use Rattle.wire.specs.Wire.{splice, keep}
use Rattle.wire.proofs.Laws.{length_splice, part_splice}
use Rattle.patch.specs.Patch.{Patch, patch, patched}
use Rattle.patch.proofs.Positions.{Misses, part_clear}
use Rattle.law_start.proofs.Stand.{Standing}

-- ---- whose byte stands at an index: the game's numbers 0, its bit fields 1, the player's of port n 2 + n, the modes' 6, the match's 7

abbrev head : ℕ → ℕ
head i = cond (ltb i 4) 0 (cond (ltb i 8) 1 (cond (ltb i 39) 0 (cond (ltb i 44) 1 0)))

unfoldable pub owner : ℕ → ℕ
owner i =
    cond (ltb i 100) (head i)
    (cond (ltb i 244) (2 + (i - 100) / 36)
    (cond (ltb i 320) 0
    (cond (ltb i 352) (2 + (i - 320) / 8)
    (cond (ltb i 416) (2 + (i - 352) / 16)
    (cond (ltb i 420) 6
    (cond (ltb i 544) (2 + (i - 420) / 31)
    (cond (ltb i 584) (2 + (i - 544) / 10)
    (cond (ltb i 700) (2 + (i - 584) / 29)
    (cond (ltb i 701) 6 7)))))))))

module _ (i : ℕ) where
  pub own_first : i < 4 → owner i ≡ 0
  unfolding owner
  own_first h = rw (lt-ltb i 100 (omega arith), lt-ltb i 4 (omega arith))

  pub own_bits : 4 ≤ i → i < 8 → owner i ≡ 1
  unfolding owner
  own_bits a b = rw (lt-ltb i 100 (omega arith), le-ltb i 4 (omega arith), lt-ltb i 8 (omega arith))

  pub own_second : 8 ≤ i → i < 39 → owner i ≡ 0
  unfolding owner
  own_second a b = rw (lt-ltb i 100 (omega arith), le-ltb i 4 (omega arith), le-ltb i 8 (omega arith), lt-ltb i 39 (omega arith))

  pub own_items : 39 ≤ i → i < 44 → owner i ≡ 1
  unfolding owner
  own_items a b = rw (lt-ltb i 100 (omega arith), le-ltb i 4 (omega arith), le-ltb i 8 (omega arith), le-ltb i 39 (omega arith), lt-ltb i 44 (omega arith))

  pub own_third : 44 ≤ i → i < 100 → owner i ≡ 0
  unfolding owner
  own_third a b = rw (lt-ltb i 100 (omega arith), le-ltb i 4 (omega arith), le-ltb i 8 (omega arith), le-ltb i 39 (omega arith), le-ltb i 44 (omega arith))

  pub own_fourth : 244 ≤ i → i < 320 → owner i ≡ 0
  unfolding owner
  own_fourth a b = rw (le-ltb i 100 (omega arith), le-ltb i 244 (omega arith), lt-ltb i 320 (omega arith))

  pub own_player : (n : ℕ) → n < 4 → 100 + 36 * n ≤ i → i < 136 + 36 * n → owner i ≡ 2 + n
  unfolding owner
  own_player n h a b = rw (le-ltb i 100 (omega arith), lt-ltb i 244 (omega arith)) (omega arith)

  pub own_ucf : (n : ℕ) → n < 4 → 320 + 8 * n ≤ i → i < 328 + 8 * n → owner i ≡ 2 + n
  unfolding owner
  own_ucf n h a b = rw (le-ltb i 100 (omega arith), le-ltb i 244 (omega arith), le-ltb i 320 (omega arith), lt-ltb i 352 (omega arith)) (omega arith)

  pub own_tag : (n : ℕ) → n < 4 → 352 + 16 * n ≤ i → i < 368 + 16 * n → owner i ≡ 2 + n
  unfolding owner
  own_tag n h a b =
      rw (le-ltb i 100 (omega arith), le-ltb i 244 (omega arith), le-ltb i 320 (omega arith), le-ltb i 352 (omega arith), lt-ltb i 416 (omega arith)) (omega arith)

  pub own_modes : 416 ≤ i → i < 420 → owner i ≡ 6
  unfolding owner
  own_modes a b =
      rw (le-ltb i 100 (omega arith), le-ltb i 244 (omega arith), le-ltb i 320 (omega arith), le-ltb i 352 (omega arith), le-ltb i 416 (omega arith), lt-ltb i 420 (omega arith))

  pub own_name : (n : ℕ) → n < 4 → 420 + 31 * n ≤ i → i < 451 + 31 * n → owner i ≡ 2 + n
  unfolding owner
  own_name n h a b =
      rw
      (le-ltb i 100 (omega arith), le-ltb i 244 (omega arith), le-ltb i 320 (omega arith), le-ltb i 352 (omega arith), le-ltb i 416 (omega arith), le-ltb i 420 (omega arith), lt-ltb i 544 (omega arith))
      (omega arith)

  pub own_code : (n : ℕ) → n < 4 → 544 + 10 * n ≤ i → i < 554 + 10 * n → owner i ≡ 2 + n
  unfolding owner
  own_code n h a b =
      rw
      (le-ltb i 100 (omega arith), le-ltb i 244 (omega arith), le-ltb i 320 (omega arith), le-ltb i 352 (omega arith), le-ltb i 416 (omega arith), le-ltb i 420 (omega arith), le-ltb i 544 (omega arith), lt-ltb i 584 (omega arith))
      (omega arith)

  pub own_suid : (n : ℕ) → n < 4 → 584 + 29 * n ≤ i → i < 613 + 29 * n → owner i ≡ 2 + n
  unfolding owner
  own_suid n h a b =
      rw
      (le-ltb i 100 (omega arith), le-ltb i 244 (omega arith), le-ltb i 320 (omega arith), le-ltb i 352 (omega arith), le-ltb i 416 (omega arith), le-ltb i 420 (omega arith), le-ltb i 544 (omega arith), le-ltb i 584 (omega arith), lt-ltb i 700 (omega arith))
      (omega arith)

  pub own_language : i ≡ 700 → owner i ≡ 6
  unfolding owner
  own_language e = rw e refl

  pub own_match : 701 ≤ i → owner i ≡ 7
  unfolding owner
  own_match a =
      rw (le-ltb i 100 (omega arith), le-ltb i 244 (omega arith), le-ltb i 320 (omega arith), le-ltb i 352 (omega arith), le-ltb i 416 (omega arith), le-ltb i 420 (omega arith), le-ltb i 544 (omega arith), le-ltb i 584 (omega arith), le-ltb i 700 (omega arith), le-ltb i 701 (omega arith))

-- ---- patches in the order of their owners, and of their indices

unfoldable pub rank : ℕ → ℕ
rank i = owner i * 1000 + i

-- patches of a block of n bytes, each at higher ranks than those before it, all from a on and below b
unfoldable pub Spans : ℕ → ℕ → List Patch → ℕ → Type 0
Spans n a [] b = a ≤ b
Spans n a (p ∷ ps) b =
    (c : ℕ)
    × ((p.offset + length p.bytes ≤ n)
    × ((i : ℕ) → p.offset ≤ i → i < p.offset + length p.bytes → a ≤ rank i)
    × ((i : ℕ) → p.offset ≤ i → i < p.offset + length p.bytes → rank i < c)
    × (a ≤ c)
    × Spans n c ps b)

module _ (n : ℕ) where
  pub spans_up : (a : ℕ) (ps : List Patch) (b : ℕ) → Spans n a ps b → a ≤ b
  unfolding Spans
  spans_up a [] b h = h
  spans_up a (p ∷ ps) b h = let (c, (room, from, to, up, rest)) = h in omega (arith, up, spans_up c ps b rest)

  pub spans_from : (a a' : ℕ) (ps : List Patch) (b : ℕ) → a ≤ a' → Spans n a' ps b → Spans n a ps b
  unfolding Spans
  spans_from a a' [] b l h = omega arith
  spans_from a a' (p ∷ ps) b l h = let (c, (room, from, to, up, rest)) = h in (c, (room, λ i x y. omega (arith, from i x y), to, omega arith, rest))

  pub spans_append : (a : ℕ) (ps : List Patch) (b : ℕ) (qs : List Patch) (c : ℕ) → Spans n a ps b → Spans n b qs c → Spans n a (ps ++ qs) c
  unfolding Spans
  spans_append a [] b qs c g h = spans_from a b qs c g h
  spans_append a (p ∷ ps) b qs c g h = let (d, (room, from, to, up, rest)) = g in (d, (room, from, to, up, spans_append d ps b qs c rest h))

  pub spans_kept : (on : Bool) (a : ℕ) (ps : List Patch) (b : ℕ) → a ≤ b → (on ≡ true → Spans n a ps b) → Spans n a (keep on ps) b
  unfolding Spans keep
  spans_kept true a ps b l h = h refl
  spans_kept false a ps b l h = l

  pub span_end : (a b : ℕ) → a ≤ b → Spans n a [] b
  unfolding Spans
  span_end a b l = l

  -- a patch of one owner, and those after it
  pub span_next : (o at w : ℕ) (bytes : List ℕ) (a : ℕ) (ps : List Patch) (b : ℕ) → length bytes ≤ w → at + w ≤ n → ((i : ℕ) → at ≤ i → i < at + w → owner i ≡ o)
      → a ≤ o * 1000 + at → Spans n (o * 1000 + (at + w)) ps b → Spans n a (patch at bytes ∷ ps) b
  unfolding Spans rank
  span_next o at w bytes a ps b short room own l rest = (
    o * 1000 + (at + w),
    (
      omega arith,
      λ i x y. let e = own i x (omega arith) in rw e (omega arith),
      λ i x y. let e = own i x (omega arith) in rw e (omega arith),
      omega arith,
      rest,
    ),
  )

  -- one patch, where a test holds
  pub span_if : (on : Bool) (o at w : ℕ) (bytes : List ℕ) (a : ℕ) → (on ≡ true → length bytes ≤ w) → (on ≡ true → at + w ≤ n)
      → ((i : ℕ) → at ≤ i → i < at + w → owner i ≡ o) → a ≤ o * 1000 + at → Spans n a (keep on (patch at bytes ∷ [])) (o * 1000 + (at + w))
  unfolding Spans
  span_if on o at w bytes a short room own l =
      spans_kept on a (patch at bytes ∷ []) (o * 1000 + (at + w)) (omega arith)
      (λ e. span_next o at w bytes a [] (o * 1000 + (at + w)) (short e) (room e) own l (omega arith))

  -- ---- a byte of another rank is missed

  pub misses_below : (a : ℕ) (ps : List Patch) (b i : ℕ) → Spans n a ps b → rank i < a → Misses i ps
  unfolding Spans Misses
  misses_below a [] b i h l = tt
  misses_below a (p ∷ ps) b i h l = let (c, (room, from, to, up, rest)) = h in (λ x y. omega (arith, from i x y), misses_below c ps b i rest (omega arith))

  pub misses_above : (a : ℕ) (ps : List Patch) (b i : ℕ) → Spans n a ps b → b ≤ rank i → Misses i ps
  unfolding Spans Misses
  misses_above a [] b i h l = tt
  misses_above a (p ∷ ps) b i h l = let (c, (room, from, to, up, rest)) = h in (λ x y. omega (arith, to i x y, spans_up c ps b rest), misses_above c ps b i rest l)

  -- ---- so each stands in the end

  pub all_stand : (block : List ℕ) (a : ℕ) (ps : List Patch) (b : ℕ) → n ≤ length block → Spans n a ps b → Standing (patched block ps) ps
  unfolding Spans Standing patched
  all_stand block a [] b long h = tt
  all_stand block a (p ∷ ps) b long h =
      let (c, (room, from, to, up, rest)) = h in
      let after = splice block p.offset p.bytes in
      let kept = part_clear after ps p.offset (length p.bytes) (λ i x y. misses_below c ps b i rest (to i x y)) in (
        record { stands = kept ∙ part_splice block p.offset p.bytes (omega arith) },
        all_stand after c ps b (rw (length_splice block p.offset p.bytes) long) rest,
      )

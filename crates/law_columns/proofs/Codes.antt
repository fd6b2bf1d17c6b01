-- Blocks of codes, joined and cut again; and a game's codes, cut and joined again.
-- Assumes nothing.
use mathlib.Core.Path.{◌≡◌, refl, sym, ap, ◌∙◌}
use mathlib.Core.Bool.{Bool, true, false, cond}
use mathlib.Core.List.{List, [], ◌∷◌, ◌++◌}
use Prim.Native.Nat.{ℕ, zero, suc, ◌+◌, ◌-◌, ◌*◌, ◌≤◌, ◌<◌}
use native.Mathlib.Nat.{zero-add, sub-zero}
use native.Mathlib.Decide.{dec_lt}
use native.Mathlib.Omega.{arith}
use borrow.Author.Tests.{lt-ltb, le-ltb}
use lib.Dec.{ltb}
use lib.ListN.{length, get_or, take, drop, length-append, take-append-drop, drop_of_length-le}
use lib.Seq.{take_at, drop-append-add, drop-drop}
use Rattle.wire.specs.Wire.{part, ranged, keep}
use Rattle.format.specs.Version.{gte_of}
use Rattle.format.specs.declared.version.Version.{Version}
use Rattle.format.proofs.Tests.{same}
use Rattle.codes.specs.Blocks.{block_count, used, codes_wrong}
use Rattle.codes.proofs.Laws.{right_codes}
use Rattle.grammar.specs.Productions.{Block, used_in, codes_bytes}
use Rattle.grammar.specs.WellFormed.{GoodCodes}
use Rattle.law_tree.specs.Tree.{blocks_of}
use Rattle.law_tree.proofs.Same.{block_at}
use Rattle.law_columns.proofs.Ranges.{ranged_list}

abbrev no_block : Block
no_block = record { bytes = []; used = 0 }

module _ (v : Version) where
  -- ---- how many they are

  some_used : (b : Block) (bs : List Block) → GoodCodes v (b ∷ bs) → 0 < used_in (b ∷ bs)
  unfolding GoodCodes used_in
  some_used b [] h = omega (arith, h.2)
  some_used b (c ∷ bs) h = omega (arith, h.1)

  pub counted : (bs : List Block) → GoodCodes v bs → block_count (used_in bs) ≡ length bs
  unfolding GoodCodes used_in block_count
  counted [] h = refl
  counted (b ∷ []) h = omega (arith, h.2, h.3)
  counted (b ∷ c ∷ bs) h = omega (arith, h.1, counted (c ∷ bs) h.2)

  pub length_joined : (bs : List Block) → GoodCodes v bs → length (codes_bytes bs) ≡ 512 * length bs
  unfolding GoodCodes codes_bytes
  length_joined [] h = refl
  length_joined (b ∷ []) h = omega (arith, length-append b.bytes [], h.1)
  length_joined (b ∷ c ∷ bs) h = omega (arith, length-append b.bytes (codes_bytes (c ∷ bs)), h.0, length_joined (c ∷ bs) h.2)

  -- ---- one of them

  first_bytes : (b : List ℕ) (rest : List ℕ) → length b ≡ 512 → part (b ++ rest) 0 512 ≡ b
  unfolding part
  first_bytes b rest e = take_at b rest 512 e

  later_bytes : (b rest : List ℕ) (j : ℕ) → length b ≡ 512 → part (b ++ rest) (512 * suc j) 512 ≡ part rest (512 * j) 512
  unfolding part
  later_bytes b rest j e =
      let q : 512 * suc j ≡ length b + 512 * j = omega arith in
      ap (take 512) (ap (λ (n : ℕ). drop n (b ++ rest)) q ∙ drop-append-add b rest (512 * j))

  last_used : (n : ℕ) → n ≤ 512 → used (n + 0) 0 ≡ n
  unfolding used
  last_used n l = rw (le-ltb 512 (n + 0 - 512 * 0) (omega arith)) (omega arith)

  full_used : (n m : ℕ) → n ≡ 512 → 0 < m → used (n + m) 0 ≡ n
  unfolding used
  full_used n m e l = rw (lt-ltb 512 (n + m - 512 * 0) (omega arith)) (omega arith)

  later_used : (n m j : ℕ) → n ≡ 512 → used (n + m) (suc j) ≡ used m j
  unfolding used
  later_used n m j e = let q : n + m - 512 * suc j ≡ m - 512 * j = omega arith in ap (λ (rest : ℕ). cond (ltb 512 rest) 512 rest) q

  block_back : (bs : List Block) → GoodCodes v bs → (j : ℕ) → j < length bs → block_at (codes_bytes bs) (used_in bs) j ≡ get_or bs j no_block
  unfolding GoodCodes codes_bytes used_in
  block_back [] h j l = absurd (omega arith)
  block_back (b ∷ []) h zero l =
      let p = first_bytes b.bytes [] h.1 in
      let q = last_used b.used h.3 in
      λ i. record { bytes = p i; used = q i }
  block_back (b ∷ []) h (suc j) l = absurd (omega arith)
  block_back (b ∷ c ∷ bs) h zero l =
      let p = first_bytes b.bytes (codes_bytes (c ∷ bs)) h.0 in
      let q = full_used b.used (used_in (c ∷ bs)) h.1 (some_used c bs h.2) in
      λ i. record { bytes = p i; used = q i }
  block_back (b ∷ c ∷ bs) h (suc j) l =
      let p = later_bytes b.bytes (codes_bytes (c ∷ bs)) j h.0 in
      let q = later_used b.used (used_in (c ∷ bs)) j h.1 in
      let same : block_at (codes_bytes (b ∷ c ∷ bs)) (used_in (b ∷ c ∷ bs)) (suc j) ≡ block_at (codes_bytes (c ∷ bs)) (used_in (c ∷ bs)) j = λ i. record { bytes = p i; used = q i } in
      same ∙ block_back (c ∷ bs) h.2 j (omega arith)

  -- ---- all of them

  pub codes_back : (bs : List Block) → GoodCodes v bs → blocks_of true (codes_bytes bs) (used_in bs) ≡ bs
  unfolding blocks_of keep
  codes_back bs h =
      ap (λ (n : ℕ). ranged (λ b. block_at (codes_bytes bs) (used_in bs) b ∷ []) 0 n) (counted bs h)
      ∙ ranged_list no_block (λ b. block_at (codes_bytes bs) (used_in bs) b ∷ []) bs 0
      (λ j l. ap (λ (n : ℕ). block_at (codes_bytes bs) (used_in bs) n ∷ []) (zero-add j) ∙ ap (λ (b : Block). b ∷ []) (block_back bs h j l))

  -- given or not, if there are none where they are not given
  pub given_back : (given : Bool) (bs : List Block) → GoodCodes v bs → (given ≡ false → bs ≡ []) → blocks_of given (codes_bytes bs) (used_in bs) ≡ bs
  unfolding blocks_of keep
  given_back true bs h none = codes_back bs h
  given_back false bs h none = sym (none refl)

  -- blocks are there from 3.3 on
  pub codes_since : (b : Block) (bs : List Block) → GoodCodes v (b ∷ bs) → gte_of v 3 3 ≡ true
  unfolding GoodCodes
  codes_since b [] h = h.0
  codes_since b (c ∷ bs) h = codes_since c bs h.2

  -- they are not refused
  pub codes_right : (given : Bool) (bs : List Block) → GoodCodes v bs → (given ≡ true → gte_of v 3 3 ≡ true) → codes_wrong v given (codes_bytes bs) (used_in bs) ≡ false
  unfolding codes_wrong
  codes_right false bs h since = refl
  codes_right true bs h since =
      let n : length (codes_bytes bs) ≡ 512 * block_count (used_in bs) = omega (arith, length_joined bs h, counted bs h) in
      rw (since refl) (same (length (codes_bytes bs)) (512 * block_count (used_in bs)) n)

-- ---- a game's codes: what is joined is what was cut

module _ (codes : List ℕ) (actual : ℕ) (whole : length codes ≡ 512 * block_count actual) where
  joined_from : (i n : ℕ) → i + n ≡ block_count actual → codes_bytes (ranged (λ b. block_at codes actual b ∷ []) i n) ≡ drop (512 * i) codes
  unfolding codes_bytes ranged part
  joined_from i zero e = sym (drop_of_length-le codes {i = 512 * i} (omega arith))
  joined_from i (suc n) e =
      let q : 512 * (i + 1) ≡ 512 * i + 512 = omega arith in
      ap (λ (l : List ℕ). take 512 (drop (512 * i) codes) ++ l) (joined_from (i + 1) n (omega arith) ∙ ap (λ (k : ℕ). drop k codes) q ∙ sym (drop-drop 512 (512 * i) codes))
      ∙ take-append-drop 512 (drop (512 * i) codes)

  used_step : (i : ℕ) → used actual i + (actual - 512 * (i + 1)) ≡ actual - 512 * i
  unfolding used
  used_step i = elim (dec_lt 512 (actual - 512 * i)) [
    | yes l ↦ rw (lt-ltb 512 (actual - 512 * i) l) (omega arith)
    | no l ↦ rw (le-ltb 512 (actual - 512 * i) (omega arith)) (omega arith)
  ]

  used_from : (i n : ℕ) → i + n ≡ block_count actual → used_in (ranged (λ b. block_at codes actual b ∷ []) i n) ≡ actual - 512 * i
  unfolding used_in ranged block_count
  used_from i zero e = omega arith
  used_from i (suc n) e = omega (arith, used_from (i + 1) n (omega arith), used_step i)

  pub joined_blocks : codes_bytes (blocks_of true codes actual) ≡ codes
  unfolding blocks_of keep
  joined_blocks = joined_from 0 (block_count actual) (zero-add (block_count actual))

  pub used_blocks : used_in (blocks_of true codes actual) ≡ actual
  unfolding blocks_of keep
  used_blocks = used_from 0 (block_count actual) (zero-add (block_count actual)) ∙ sub-zero actual

-- of a game that is not refused: the codes that were given come back, and none where they were not given
pub codes_returned : (v : Version) (given : Bool) (codes : List ℕ) (actual : ℕ) → codes_wrong v given codes actual ≡ false
    → (codes_bytes (blocks_of given codes actual) ≡ keep given codes) × (used_in (blocks_of given codes actual) ≡ cond given actual 0)
unfolding keep blocks_of codes_bytes used_in
codes_returned v true codes actual h =
    let (since, whole) = right_codes v true codes actual h refl in
    (joined_blocks codes actual whole, used_blocks codes actual whole)
codes_returned v false codes actual h = (refl, refl)

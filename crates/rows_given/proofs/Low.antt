-- Cells that are given: the low bytes of the version's columns are the definition's cells, within their widths.
-- Assumes nothing.
use mathlib.Core.Path.{◌≡◌, refl, sym, ap, ◌∙◌}
use mathlib.Core.Bool.{Bool, true, false, cond}
use mathlib.Core.List.{List, ◌++◌}
use Prim.Native.Nat.{ℕ, zero, suc, ◌+◌, ◌-◌, ◌%◌, ◌^◌, ◌≤◌, ◌<◌, min}
use native.Mathlib.Nat.{mod-lt, mod-one, mod-eq_of_lt, pow-suc, pow-le-pow_right, lt_of_lt_of_le}
use native.Mathlib.Decide.{dec_lt}
use native.Mathlib.Omega.{arith}
use borrow.Author.Tests.{eqb-true, ne_eqb, lt-ltb, le-ltb}
use lib.Dec.{ltb, eqb, lit<}
use lib.ListN.{length, get_or, get_or-eq_default, take, drop, replicate, length-append, length-drop, length-replicate, get_or-append, get_or-replicate}
use lib.Seq.{length-take-le, get_or-take, get_or-drop}
use Rattle.std.proofs.lemmas.List.{get_or-append_right}
use Rattle.wire.proofs.Laws.{tabulate_ext, tabulated}
use Rattle.format.specs.declared.version.Version.{Version}
use Rattle.layout.specs.Columns.{widths_of}
use Rattle.layout.specs.declared.columns.Family.{Family}
use Rattle.layout.proofs.Laws.{few_widths}
use Rattle.rows.specs.Cells.{first_cells}
use Rattle.rows.specs.Inner.{width_at, Within}
use Rattle.rows.proofs.Records.{first_in, first_out, width_first, within_record}
use Rattle.rows_given.specs.Given.{given_cells}
use Rattle.rows_given.specs.Inner.{KeptCells, low_of, narrowed}

-- ---- the first cells, of which some may be missing
pub first_enough : (cells : List ℕ) (n m : ℕ) → m ≡ min n (length cells) → first_cells (λ k. get_or cells k 0) m ≡ first_cells (λ k. get_or cells k 0) n
unfolding first_cells
first_enough cells n m e = tabulate_ext 32 _ _ (λ k _. one k)
  where
    one : (k : ℕ) → cond (ltb k m) (get_or cells k 0) 0 ≡ cond (ltb k n) (get_or cells k 0) 0
    one k =
        elim (dec_lt k m) [
          | yes l ↦ rw (lt-ltb k m l, lt-ltb k n (omega (arith, e, l)))
          | no r ↦ rw (le-ltb k m (omega arith))
              (elim (dec_lt k n) [
                | yes l ↦ rw (lt-ltb k n l) (sym (get_or-eq_default cells 0 {n = k} (omega (arith, e, l))))
                | no q ↦ rw (le-ltb k n (omega arith)) refl
              ])
        ]

-- cells that are there, over zeros
pub first_filled : (cells : List ℕ) (n m : ℕ) → n ≤ 32 → m ≡ min n (length cells) → take m cells ++ drop m (replicate 32 0) ≡ first_cells (λ k. get_or cells k 0) n
unfolding first_cells
first_filled cells n m h e = there ∙ first_enough cells n m e
  where
    zeros : List ℕ
    zeros = drop m (replicate 32 0)

    long : length (take m cells) ≡ m
    long = length-take-le m cells (omega (arith, e))

    one : (k : ℕ) → k < 32 → get_or (take m cells ++ zeros) k 0 ≡ cond (ltb k m) (get_or cells k 0) 0
    one k l =
        elim (dec_lt k m) [
          | yes q ↦ rw (lt-ltb k m q) (get_or-append (take m cells) zeros 0 k (omega (arith, long, q)) ∙ get_or-take m cells k 0 q)
          | no r ↦ rw (le-ltb k m (omega arith)) (get_or-append_right (take m cells) zeros m k 0 long (omega arith) ∙ get_or-drop m (replicate 32 0) (k - m) 0 ∙ get_or-replicate 32 (m + (k - m)) 0 0 (omega arith))
        ]

    there : take m cells ++ zeros ≡ first_cells (λ k. get_or cells k 0) m
    there = tabulated 0 (take m cells ++ zeros) 32 (λ k. cond (ltb k m) (get_or cells k 0) 0) (omega (arith, length-append (take m cells) zeros, long, length-drop {A = ℕ} m (replicate 32 0), length-replicate {A = ℕ} 32 0, e, h)) one

-- ---- low bytes
low_is : (w x : ℕ) → x < 0x1_0000_0000 → low_of w x ≡ x % 256 ^ w
low_is w x h =
    elim (dec_lt w 4) [
      | yes l ↦ rw (lt-ltb w 4 l) (go (eqb w 0) refl)
      | no r ↦
          let wide : 256 ^ 4 ≤ 256 ^ w = pow-le-pow_right {n = 256} (lit< tt) {i = 4} {j = w} (omega arith) in
          rw (ne_eqb w 0 (omega arith), le-ltb w 4 (omega arith)) (sym (mod-eq_of_lt (lt_of_lt_of_le h wide)))
    ]
  where
    go : (b : Bool) → eqb w 0 ≡ b → cond b 0 (x % 256 ^ w) ≡ x % 256 ^ w
    go true e = rw (eqb-true w 0 e) (sym (mod-one x))
    go false e = refl

pow_positive : (k : ℕ) → 0 < 256 ^ k
pow_positive zero = omega arith
pow_positive (suc k) = rw pow-suc (omega (arith, pow_positive k))

low_zero : (w : ℕ) → low_of w 0 ≡ 0
low_zero w = low_is w 0 (lit< tt) ∙ mod-eq_of_lt (pow_positive w)

module _ (family : Family) (v : Version) (cells : List ℕ) (fits : (k : ℕ) → get_or cells k 0 < 0x1_0000_0000) where
  abbrev columns : ℕ
  columns = length (widths_of family v)

  abbrev low : ℕ → ℕ
  low k = get_or cells k 0 % 256 ^ get_or (widths_of family v) k 0

  low_at : (k : ℕ) → low_of (width_at family k) (get_or (first_cells (λ j. get_or cells j 0) columns) k 0) ≡ cond (ltb k columns) (low k) 0
  low_at k =
      elim (dec_lt k columns) [
        | yes l ↦ rw (lt-ltb k columns l, first_in (λ j. get_or cells j 0) columns k l (few_widths family v), width_first family v k l) (low_is (width_at family k) (get_or cells k 0) (fits k))
        | no r ↦ rw (le-ltb k columns (omega arith), first_out (λ j. get_or cells j 0) columns k (omega arith)) (low_zero (width_at family k))
      ]

  low_cells : narrowed family (first_cells (λ j. get_or cells j 0) columns) ≡ given_cells family v cells
  unfolding narrowed given_cells first_cells
  low_cells = tabulate_ext 32 _ _ (λ k _. low_at k)

  low_within : Within family (given_cells family v cells)
  unfolding given_cells
  low_within = within_record family v low (λ k _. mod-lt (get_or cells k 0) (pow_positive (get_or (widths_of family v) k 0)))

  pub kept : {n : ℕ} {raw low-raw : List ℕ} → n ≡ columns → raw ≡ first_cells (λ j. get_or cells j 0) n → low-raw ≡ narrowed family raw → KeptCells family v cells low-raw
  kept {n} {raw} {low-raw} en er el =
      let is : low-raw ≡ given_cells family v cells = el ∙ ap (narrowed family) (er ∙ ap (first_cells (λ j. get_or cells j 0)) en) ∙ low_cells in
      record { is = is; within = rw is low_within }

-- The judge of rows: its tests, a turn of its loop, and lengths told up to a bound.
-- Assumes nothing.
use mathlib.Core.Path.{◌≡◌, refl, sym, ap, ap₂, ◌∙◌}
use mathlib.Core.List.{List, [], ◌∷◌, ◌++◌}
use Prim.Native.Nat.{ℕ, zero, suc, ◌+◌, ◌-◌, ◌*◌, ◌/◌, ◌≤◌, ◌<◌}
use native.Mathlib.Nat.{zero-add, add-zero, add_comm}
use native.Mathlib.Omega.{arith}
use native.Mathlib.Decide.{dec_lt}
use borrow.Author.Tests.{eq-eqb, ne_eqb, le-leb, lt-leb, lt-ltb, le-ltb}
use lib.ListN.{length, length-append}
use Rattle.wire.specs.Wire.{part}
use Rattle.wire.proofs.Laws.{length_be}
use Rattle.format.proofs.Refusals.{skip, here, none}
use Rattle.map.specs.Map.{Value, map, Map, empty, entry, text_bytes, value_bytes, body_of}
use Rattle.map.specs.Rows.{cell_of, key_of, plain_of, worse, stored, text_wrong, value_wrong, row_wrong, Grown, Sprout, plain_at, nested_at, value_at, entries_at, below, map_at}
use Rattle.map.specs.Inner.{cap_of}
use Rattle.map.proofs.Laws.{Row, row_right, length_part, text_value, number_value, worse_first, worse_second, worse_none, worse_assoc}
use Rattle.map.proofs.Turns.{unroll, ran_out, value_plain, value_nested, below_is}

-- lengths up to a bound
pub cap_over : (n : ℕ) → 65535 < n → 65536 ≡ cap_of n
unfolding cap_of
cap_over n h = rw (lt-ltb 65535 n h)

pub cap_under : (n : ℕ) → n ≤ 65535 → n ≡ cap_of n
unfolding cap_of
cap_under n h = rw (le-ltb 65535 n h)

cap_add : (a b : ℕ) → cap_of (cap_of a + b) ≡ cap_of (a + b)
cap_add a b = elim (dec_lt 65535 a) [
  | yes l ↦
      let e = cap_over a l in
      ap (λ k. cap_of (k + b)) (sym e) ∙ sym (cap_over (65536 + b) (omega arith)) ∙ cap_over (a + b) (omega arith)
  | no n ↦ ap (λ k. cap_of (k + b)) (sym (cap_under a (omega arith)))
]

cap_small : (n : ℕ) → n ≤ 65536 → cap_of n ≡ n
cap_small n h = elim (dec_lt 65535 n) [
  | yes l ↦ let e : 65536 ≡ n = omega arith in sym (cap_over n l) ∙ e
  | no r ↦ sym (cap_under n (omega arith))
]

-- tests of a text and of a row
module _ (texts : List ℕ) (at len : ℕ) where
  pub text_long : 255 < len → 21 ≡ text_wrong texts at len
  unfolding text_wrong
  text_long h = here 21 _ _ (lt-ltb 255 len h)

  module _ (h : len ≤ 255) where
    pub text_away : length texts < at + len → 23 ≡ text_wrong texts at len
    unfolding text_wrong stored
    text_away l = skip 21 23 _ _ (le-ltb 255 len h) (here 23 _ _ (rw (lt-leb (at + len) (length texts) l)))

    pub text_fine : at + len ≤ length texts → 0 ≡ text_wrong texts at len
    unfolding text_wrong stored
    text_fine l = skip 21 0 _ _ (le-ltb 255 len h) (skip 23 0 _ _ (rw (le-leb (at + len) (length texts) l)) none)

module _ (rows texts : List ℕ) (k : ℕ) {kind : ℕ} (e : kind ≡ cell_of rows k 0) where
  pub wrong_text : {x y r : ℕ} → kind ≡ 0 → x ≡ cell_of rows k 3 → y ≡ cell_of rows k 4 → r ≡ text_wrong texts x y → r ≡ value_wrong rows texts k
  unfolding value_wrong
  wrong_text z ex ey er = er ∙ ap₂ (text_wrong texts) ex ey ∙ sym (rw (eq-eqb (cell_of rows k 0) 0 (sym e ∙ z)))

  module _ (n : kind ≡ 0 → ⊥) where
    pub wrong_none : kind ≤ 2 → 0 ≡ value_wrong rows texts k
    unfolding value_wrong
    wrong_none h = rw (ne_eqb (cell_of rows k 0) 0 (λ q. n (e ∙ q)), le-leb (cell_of rows k 0) 2 (omega (arith, e, h)))

    pub wrong_kind : 2 < kind → 23 ≡ value_wrong rows texts k
    unfolding value_wrong
    wrong_kind h = rw (ne_eqb (cell_of rows k 0) 0 (λ q. n (e ∙ q)), lt-leb (cell_of rows k 0) 2 (omega (arith, e, h)))

pub row_as : (rows texts : List ℕ) (k : ℕ) {x y a b r : ℕ} → x ≡ cell_of rows k 1 → y ≡ cell_of rows k 2 → a ≡ text_wrong texts x y → b ≡ value_wrong rows texts k → r ≡ worse a b → r ≡ row_wrong rows texts k
unfolding row_wrong
row_as rows texts k ex ey ea eb er = er ∙ ap₂ worse (ea ∙ ap₂ (text_wrong texts) ex ey) eb

-- lengths
pub length_text : (t : List ℕ) → length (text_bytes t) ≡ 2 + length t
unfolding text_bytes
length_text t = omega arith

pub map_length : (m : Map) → length (value_bytes (map m)) ≡ 2 + length (body_of m)
unfolding value_bytes
map_length m = omega (arith, length-append (body_of m) (0x7d ∷ []))

pub entry_length : (k : List ℕ) (v : Value) (m : Map) → length (body_of (entry k v m)) ≡ 2 + length k + (length (value_bytes v) + length (body_of m))
unfolding body_of
entry_length k v m = omega (arith, length-append (text_bytes k) (value_bytes v ++ body_of m), length-append (value_bytes v) (body_of m), length_text k)

-- the size of a plain value
pub text_size : (rows : List ℕ) (k : ℕ) {kind n : ℕ} → 5 * k + 4 < length rows → kind ≡ cell_of rows k 0 → kind ≡ 0 → n ≡ cell_of rows k 4
    → (texts : List ℕ) → row_wrong rows texts k ≡ 0 → 3 + n ≡ length (value_bytes (plain_of rows texts k))
text_size rows k h e z f texts w =
    let (in_store, short) = (row_right rows texts k h w).text (sym e ∙ z) in
    let l = ap length (text_value rows texts k e z refl refl) in
    let t = length_text (part texts (cell_of rows k 3) (cell_of rows k 4)) in
    let p = length_part texts (cell_of rows k 3) (cell_of rows k 4) in_store in
    omega (arith, l, t, p, f)

pub number_size : (rows : List ℕ) (k : ℕ) {kind : ℕ} → kind ≡ cell_of rows k 0 → (kind ≡ 0 → ⊥) → (texts : List ℕ) → row_wrong rows texts k ≡ 0 → 5 ≡ length (value_bytes (plain_of rows texts k))
number_size rows k e z texts w = let l = ap length (number_value rows texts k e z refl) in omega (arith, l, length_be 4 (cell_of rows k 3))

-- ---- the loop
pub record Judging (rows texts : List ℕ) (d i count k left bytes wrong : ℕ) : Type 0 where
  pub refusal_is : worse wrong (map_at rows texts d k left).refusal ≡ (map_at rows texts d i count).refusal
  pub next_is : (map_at rows texts d k left).next ≡ (map_at rows texts d i count).next
  pub bytes_is : (map_at rows texts d i count).refusal ≡ 0 → cap_of (bytes + length (body_of (map_at rows texts d k left).map)) ≡ cap_of (length (body_of (map_at rows texts d i count).map))
  pub small : bytes ≤ 65536

pub judging_start : (rows texts : List ℕ) (d i count : ℕ) → Judging rows texts d i count i count 0 0
judging_start rows texts d i count = record {
  refusal_is = sym (worse_first 0 (map_at rows texts d i count).refusal refl);
  next_is = refl;
  bytes_is = λ z. ap cap_of (zero-add (length (body_of (map_at rows texts d i count).map)));
  small = omega arith;
}

key_length : (rows texts : List ℕ) (k : ℕ) → Row rows texts k → length (key_of rows texts k) ≡ cell_of rows k 2
unfolding key_of
key_length rows texts k r = length_part texts (cell_of rows k 1) (cell_of rows k 2) r.key

none_below : (rows texts : List ℕ) (d k n : ℕ) → d ≡ 0 → below rows texts d k n ≡ record { map = empty; next = k; refusal = 20 }
unfolding below
none_below rows texts d k n e = rw e

module _ {rows texts : List ℕ} {d i count k left bytes wrong : ℕ} (g : Judging rows texts d i count k left bytes wrong) (h : 0 < left) where
  pub judging_out : {r : ℕ} → length rows / 5 ≤ k → r ≡ worse wrong 23
      → (r ≡ (map_at rows texts d i count).refusal) × (k ≡ (map_at rows texts d i count).next) × (r ≡ 0 → 0 ≡ cap_of (length (body_of (map_at rows texts d i count).map))) × (0 ≤ 65536)
  judging_out {r} l e =
      let u = ran_out rows texts d k left h (omega arith) in
      let total = e ∙ ap (λ (w : Grown). worse wrong w.refusal) (sym u) ∙ g.refusal_is in
      (total, sym (ap (λ (w : Grown). w.next) u) ∙ g.next_is, (λ z. let bad = (worse_none wrong 23 (sym e ∙ z)).1 in absurd (omega (arith, bad))), omega arith)

  module _ (row : k < length rows / 5) where
    -- an entry whose value is v
    good : (v : Sprout) {w size next len : ℕ} → value_at (below rows texts d) rows texts k ≡ v → (v.refusal ≡ 0 → row_wrong rows texts k ≡ 0) → len ≡ cell_of rows k 2
        → w ≡ worse wrong v.refusal → (v.refusal ≡ 0 → size ≡ cap_of (bytes + 2 + len + length (value_bytes v.value))) → size ≤ 65536 → next ≡ v.after
        → Judging rows texts d i count next (left - 1) size w
    good v {w} {size} {next} {len} q right el ew s small e =
        let there : 5 * k + 4 < length rows = omega arith in
        let u = unroll rows texts d k left v h there q in
        let rest = map_at rows texts d v.after (left - 1) in
        let total : worse w rest.refusal ≡ (map_at rows texts d i count).refusal =
        ap (λ n. worse n rest.refusal) ew ∙ worse_assoc wrong v.refusal rest.refusal ∙ ap (λ (x : Grown). worse wrong x.refusal) (sym u) ∙ g.refusal_is in
        rw e (record {
          refusal_is = total;
          next_is = sym (ap (λ (x : Grown). x.next) u) ∙ g.next_is;
          bytes_is = λ z.
              let (a, b) = worse_none w rest.refusal (total ∙ z) in
              let ok = (worse_none wrong v.refusal (sym ew ∙ a)).1 in
              let r = row_right rows texts k there (right ok) in
              let l = ap (λ (x : Grown). length (body_of x.map)) u ∙ entry_length (key_of rows texts k) v.value rest.map in
              let n = key_length rows texts k r in
              let B = bytes + 2 + len + length (value_bytes v.value) in
              let sum : B + length (body_of rest.map) ≡ bytes + length (body_of (map_at rows texts d k left).map) = omega (arith, l, n, el) in
              ap (λ k. cap_of (k + length (body_of rest.map))) (s ok) ∙ cap_add B (length (body_of rest.map)) ∙ ap cap_of sum ∙ g.bytes_is z;
          small = small;
        })

    module _ {len kind own-wrong w1 : ℕ} (el : len ≡ cell_of rows k 2) (e : kind ≡ cell_of rows k 0) (eo : own-wrong ≡ row_wrong rows texts k) (ew : w1 ≡ worse wrong own-wrong) where
      first_wrong : w1 ≡ worse wrong (row_wrong rows texts k)
      first_wrong = ew ∙ ap (worse wrong) eo

      pub judging_plain : {size total : ℕ} → (kind ≡ 2 → ⊥) → ((t : List ℕ) → row_wrong rows t k ≡ 0 → size ≡ length (value_bytes (plain_of rows t k)))
          → total ≡ cap_of (bytes + 2 + len + size) → total ≤ 65536 → Judging rows texts d i count (k + 1) (left - 1) total w1
      judging_plain n es et small =
          good (plain_at rows texts k) (value_plain rows texts d k (λ q. n (e ∙ q))) (λ z. z) el first_wrong (λ z. et ∙ ap (λ x. cap_of (bytes + 2 + len + x)) (es texts z)) small refl

      module _ (two : kind ≡ 2) where
        pub judging_deep : {w : ℕ} → d ≡ 0 → w ≡ worse w1 20 → Judging rows texts d i count (k + 1) (left - 1) bytes w
        judging_deep z ew2 =
            let b = none_below rows texts d (k + 1) (cell_of rows k 3) z in
            let v = nested_at rows texts k (record { map = empty; next = k + 1; refusal = 20 }) in
            good v (value_nested rows texts d k (sym e ∙ two) ∙ ap (nested_at rows texts k) b) (λ q. (worse_none (row_wrong rows texts k) 20 q).0) el
            (ew2 ∙ ap (λ n. worse n 20) first_wrong ∙ worse_assoc wrong (row_wrong rows texts k) 20)
            (λ q. let bad = (worse_none (row_wrong rows texts k) 20 q).1 in absurd (omega (arith, bad))) g.small refl

        pub judging_nested : {own w next inner total r : ℕ} → (d ≡ 0 → ⊥) → own ≡ cell_of rows k 3 → r ≡ (map_at rows texts (d - 1) (k + 1) own).refusal
            → next ≡ (map_at rows texts (d - 1) (k + 1) own).next → (r ≡ 0 → inner ≡ cap_of (length (body_of (map_at rows texts (d - 1) (k + 1) own).map)))
            → w ≡ worse w1 r → total ≡ cap_of (bytes + 2 + len + 2 + inner) → total ≤ 65536 → Judging rows texts d i count next (left - 1) total w
        judging_nested {own} {inner = inner} {r = r} deep eown er en ei ew2 et small =
            let m = map_at rows texts (d - 1) (k + 1) own in
            let same : below rows texts d (k + 1) (cell_of rows k 3) ≡ m = below_is rows texts d (k + 1) (cell_of rows k 3) (omega arith) ∙ ap (map_at rows texts (d - 1) (k + 1)) (sym eown) in
            let L = length (body_of m.map) in
            let A = bytes + 2 + len + 2 in
            let sum : bytes + 2 + len + length (value_bytes (map m.map)) ≡ A + L = omega (arith, map_length m.map) in
            good (nested_at rows texts k m) (value_nested rows texts d k (sym e ∙ two) ∙ ap (nested_at rows texts k) same) (λ q. (worse_none (row_wrong rows texts k) m.refusal q).0) el
            (ew2 ∙ ap₂ worse first_wrong er ∙ worse_assoc wrong (row_wrong rows texts k) m.refusal)
            (λ q. et ∙ ap (λ x. cap_of (A + x)) (ei (er ∙ (worse_none (row_wrong rows texts k) m.refusal q).1)) ∙ ap cap_of (add_comm A (cap_of L)) ∙ cap_add L A ∙ ap cap_of (add_comm L A) ∙ ap cap_of (sym sum))
            small en

pub judging_done : {rows texts : List ℕ} {d i count k left bytes wrong : ℕ} → Judging rows texts d i count k left bytes wrong → left ≤ 0
    → (wrong ≡ (map_at rows texts d i count).refusal) × (k ≡ (map_at rows texts d i count).next) × (wrong ≡ 0 → bytes ≡ cap_of (length (body_of (map_at rows texts d i count).map))) × (bytes ≤ 65536)
unfolding entries_at body_of
judging_done {rows} {texts} {d} {i} {count} {k} {left} {bytes} {wrong} g h =
    let e : left ≡ 0 = omega arith in
    let s : worse wrong 0 ≡ (map_at rows texts d i count).refusal = rw e at g.refusal_is in
    let n = rw e at g.next_is in
    let total : wrong ≡ (map_at rows texts d i count).refusal = nothing wrong ∙ s in
    (total, n, (λ t. let b : cap_of (bytes + 0) ≡ cap_of (length (body_of (map_at rows texts d i count).map)) = rw e at (g.bytes_is (sym total ∙ t)) in sym (cap_small bytes g.small) ∙ ap cap_of (sym (add-zero bytes)) ∙ b), g.small)
  where
    nothing : (w : ℕ) → w ≡ worse w 0
    nothing zero = worse_first 0 0 refl
    nothing (suc w) = worse_second (suc w) 0 (λ q. absurd (omega arith)) refl

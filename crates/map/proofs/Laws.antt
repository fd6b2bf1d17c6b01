-- What is known of a row, and the parts of a text, a value and a map's body.
-- Assumes nothing.
use mathlib.Core.Path.{◌≡◌, refl, sym, ap, ◌∙◌}
use mathlib.Core.Bool.{Bool, true, false, not, ◌&&◌}
use mathlib.Core.List.{List, [], ◌∷◌, ◌++◌}
use Prim.Native.Nat.{ℕ, ◌+◌, ◌-◌, ◌*◌, ◌≤◌, ◌<◌}
use native.Mathlib.Omega.{arith}
use native.Mathlib.Decide.{dec_lt, ℕ_discrete}
use borrow.Author.Tests.{eq-eqb, ne_eqb, eqb-true, leb-true, lt-ltb, le-ltb, ltb-true, ltb-false, not-false}
use lib.Dec.{eqb, leb, ltb}
use lib.ListN.{length, take, drop, length-drop}
use lib.Seq.{length-take-le}
use Rattle.std.specs.Prelude.{Option, Some, None}
use Rattle.wire.specs.Wire.{be, part}
use Rattle.format.specs.Refused.{number_of}
use Rattle.format.specs.declared.refusal.Refusal.{Refusal}
use Rattle.map.specs.Map.{text_bytes, value_bytes}
use Rattle.format.proofs.Versions.{no_way}
use Rattle.format.proofs.Refusals.{passed}
use Rattle.map.proofs.Numbers.{some_number}
use Rattle.map.specs.Rows.{cell_of, there, key_of, plain_of, worse, stored, text_wrong, value_wrong, row_wrong}
use Rattle.map.specs.Inner.{number_if, inside}

-- one less is left
pub one_less : (n k : ℕ) → n - (k + 1) ≡ n - k - 1
one_less n k = omega arith

pub both : (a b : Bool) → (a && b) ≡ true → (a ≡ true) × (b ≡ true)
both true b e = (refl, e)
both false b e = no_way e

-- the lower of two refusals
module _ (a b : ℕ) where
  pub worse_first : a ≡ 0 → b ≡ worse a b
  unfolding worse
  worse_first e = rw (eq-eqb a 0 e)

  module _ (n : a ≡ 0 → ⊥) where
    pub worse_second : b ≡ 0 → a ≡ worse a b
    unfolding worse
    worse_second e = rw (ne_eqb a 0 n, eq-eqb b 0 e)

    module _ (m : b ≡ 0 → ⊥) where
      pub worse_low : b < a → b ≡ worse a b
      unfolding worse
      worse_low h = rw (ne_eqb a 0 n, ne_eqb b 0 m, lt-ltb b a h)

      pub worse_high : a ≤ b → a ≡ worse a b
      unfolding worse
      worse_high h = rw (ne_eqb a 0 n, ne_eqb b 0 m, le-ltb b a h)

-- the same of refusals
module _ {a : Option Refusal} (b : Option Refusal) where
  pub lower_first : a ≡ None → number_if b ≡ worse (number_if a) (number_if b)
  lower_first e = worse_first (number_if a) (number_if b) (ap number_if e)

module _ {a b : Option Refusal} where
  module _ {x : Refusal} (e : a ≡ Some x) where
    pub lower_second : b ≡ None → number_of x ≡ worse (number_if a) (number_if b)
    lower_second f = rw e (worse_second (number_of x) (number_if b) (some_number x) (ap number_if f))

    module _ {y : Refusal} (f : b ≡ Some y) {m n : ℕ} (em : m ≡ number_of y) (en : n ≡ number_of x) where
      pub lower_low : m < n → number_of y ≡ worse (number_if a) (number_if b)
      lower_low h = rw (e, f) (worse_low (number_of x) (number_of y) (some_number x) (some_number y) (omega (arith, h, em, en)))

      pub lower_high : n ≤ m → number_of x ≡ worse (number_if a) (number_if b)
      lower_high h = rw (e, f) (worse_high (number_of x) (number_of y) (some_number x) (some_number y) (omega (arith, h, em, en)))

pub lower_none : (a : Option Refusal) {b : Option Refusal} → b ≡ None → number_if a ≡ worse (number_if a) (number_if b)
lower_none None {b} f = sym (ap number_if f) ∙ worse_first 0 (number_if b) refl
lower_none (Some x) f = lower_second refl f

pub worse_none : (a b : ℕ) → worse a b ≡ 0 → (a ≡ 0) × (b ≡ 0)
worse_none a b e = elim (ℕ_discrete a 0) [
  | yes x ↦ (x, worse_first a b x ∙ e)
  | no n ↦ elim (ℕ_discrete b 0) [
    | yes y ↦ absurd (n (worse_second a b n y ∙ e))
    | no m ↦ elim (dec_lt b a) [
      | yes l ↦ absurd (m (worse_low a b n m l ∙ e))
      | no l ↦ absurd (n (worse_high a b n m (omega arith) ∙ e))
    ]
  ]
]

-- two in a row, and none of no refusals
data Least (a b : ℕ) : Type 0 where
  first : a ≡ 0 → worse a b ≡ b → Least a b
  second : (a ≡ 0 → ⊥) → b ≡ 0 → worse a b ≡ a → Least a b
  low : (a ≡ 0 → ⊥) → (b ≡ 0 → ⊥) → b < a → worse a b ≡ b → Least a b
  high : (a ≡ 0 → ⊥) → (b ≡ 0 → ⊥) → a ≤ b → worse a b ≡ a → Least a b

least : (a b : ℕ) → Least a b
least a b = elim (ℕ_discrete a 0) [
  | yes x ↦ first x (sym (worse_first a b x))
  | no n ↦ elim (ℕ_discrete b 0) [
    | yes y ↦ second n y (sym (worse_second a b n y))
    | no m ↦ elim (dec_lt b a) [
      | yes l ↦ low n m l (sym (worse_low a b n m l))
      | no l ↦ high n m (omega arith) (sym (worse_high a b n m (omega arith)))
    ]
  ]
]

pub worse_assoc : (a b c : ℕ) → worse (worse a b) c ≡ worse a (worse b c)
worse_assoc a b c = go (least a b) (least b c)
  where
    go : Least a b → Least b c → worse (worse a b) c ≡ worse a (worse b c)
    go (first x e) l = ap (λ k. worse k c) e ∙ worse_first a (worse b c) x
    go (second n y e) l = ap (λ k. worse k c) e ∙ ap (worse a) (worse_first b c y)
    go (low n m l e) (first x f) = absurd (m x)
    go (low n m l e) (second n2 y f) = ap (λ k. worse k c) e ∙ f ∙ sym e ∙ ap (worse a) (sym f)
    go (low n m l e) (low n2 m2 l2 f) = ap (λ k. worse k c) e ∙ f ∙ worse_low a c n m2 (omega arith) ∙ ap (worse a) (sym f)
    go (low n m l e) (high n2 m2 l2 f) = ap (λ k. worse k c) e ∙ f ∙ sym e ∙ ap (worse a) (sym f)
    go (high n m l e) (first x f) = absurd (m x)
    go (high n m l e) (second n2 y f) = ap (λ k. worse k c) e ∙ sym (worse_second a c n y) ∙ sym e ∙ ap (worse a) (sym f)
    go (high n m l e) (low n2 m2 l2 f) = ap (λ k. worse k c) e ∙ ap (worse a) (sym f)
    go (high n m l e) (high n2 m2 l2 f) = ap (λ k. worse k c) e ∙ sym (worse_high a c n m2 (omega arith)) ∙ sym e ∙ ap (worse a) (sym f)

-- a text with nothing wrong
pub text_right : (texts : List ℕ) (at len : ℕ) → text_wrong texts at len ≡ 0 → (at + len ≤ length texts) × (len < 256)
unfolding text_wrong stored
text_right texts at len e =
    let (short, rest) = passed 20 (ltb 255 len) _ e in
    let (in_store, done) = passed 22 (not (leb (at + len) (length texts))) [] rest in
    (leb-true (at + len) (length texts) (not-false _ in_store), (let l = ltb-false 255 len short in omega arith))

-- a row that is there, with nothing wrong
pub record Row (rows texts : List ℕ) (k : ℕ) : Type 0 where
  pub row : 5 * k + 4 < length rows
  pub key : cell_of rows k 1 + cell_of rows k 2 ≤ length texts
  pub key_short : cell_of rows k 2 < 256
  pub text : cell_of rows k 0 ≡ 0 → (cell_of rows k 3 + cell_of rows k 4 ≤ length texts) × (cell_of rows k 4 < 256)

pub row_right : (rows texts : List ℕ) (k : ℕ) → 5 * k + 4 < length rows → row_wrong rows texts k ≡ 0 → Row rows texts k
unfolding row_wrong value_wrong
row_right rows texts k h e =
    let (a, b) = worse_none (text_wrong texts (cell_of rows k 1) (cell_of rows k 2)) _ e in
    let (key_in, short) = text_right texts (cell_of rows k 1) (cell_of rows k 2) a in
    record {
      row = h;
      key = key_in;
      key_short = short;
      text = λ z. text_right texts (cell_of rows k 3) (cell_of rows k 4) (rw (eq-eqb (cell_of rows k 0) 0 z) at b);
    }

pub row_of : (rows texts : List ℕ) (k : ℕ) → inside rows texts k ≡ true → Row rows texts k
unfolding inside
row_of rows texts k e =
    let (a, b) = both (there rows k) (eqb (row_wrong rows texts k) 0) e in
    row_right rows texts k (ltb-true (5 * k + 4) (length rows) a) (eqb-true (row_wrong rows texts k) 0 b)

pub inside_is : (rows texts : List ℕ) (k : ℕ) → 5 * k + 4 < length rows → row_wrong rows texts k ≡ 0 → inside rows texts k ≡ true
unfolding inside
inside_is rows texts k h e = rw (lt-ltb (5 * k + 4) (length rows) h, eq-eqb (row_wrong rows texts k) 0 e)

pub length_part : (xs : List ℕ) (at n : ℕ) → at + n ≤ length xs → length (part xs at n) ≡ n
unfolding part
length_part xs at n h = length-take-le n (drop at xs) (rw length-drop (omega arith))

-- a text's parts as they are written: the mark, the length, the bytes
pub text_parts : (texts : List ℕ) (from len : ℕ) → from + len ≤ length texts
    → text_bytes (part texts from len) ≡ (0x55 ∷ []) ++ ((len ∷ []) ++ take (from + len - from) (drop from texts))
unfolding text_bytes part
text_parts texts from len h =
    let e : from + len - from ≡ len = omega arith in
    let n = length-take-le len (drop from texts) (rw length-drop (omega arith)) in
    rw (e, n)

pub key_at_lem : (rows texts : List ℕ) (k : ℕ) {a n : ℕ} → a ≡ cell_of rows k 1 → n ≡ cell_of rows k 2 → text_bytes (key_of rows texts k) ≡ text_bytes (part texts a n)
unfolding key_of
key_at_lem rows texts k e f = rw (e, f)

pub text_value : (rows texts : List ℕ) (k : ℕ) {kind a n : ℕ} → kind ≡ cell_of rows k 0 → kind ≡ 0 → a ≡ cell_of rows k 3 → n ≡ cell_of rows k 4
    → value_bytes (plain_of rows texts k) ≡ (0x53 ∷ []) ++ text_bytes (part texts a n)
unfolding plain_of value_bytes
text_value rows texts k f z e g = rw (eq-eqb (cell_of rows k 0) 0 (sym f ∙ z), e, g)

pub number_value : (rows texts : List ℕ) (k : ℕ) {kind v : ℕ} → kind ≡ cell_of rows k 0 → (kind ≡ 0 → ⊥) → v ≡ cell_of rows k 3
    → value_bytes (plain_of rows texts k) ≡ (0x6c ∷ []) ++ be 4 v
unfolding plain_of value_bytes
number_value rows texts k f z e = rw (ne_eqb (cell_of rows k 0) 0 (λ q. z (f ∙ q)), e)

-- The laws of a file's tail and of its table's entry for codes.
-- Assumes nothing.
use mathlib.Core.Path.{◌≡◌, sym, ap, ◌∙◌}
use mathlib.Core.Bool.{Bool, true, false, cond}
use mathlib.Core.List.{List}
use Prim.Native.Nat.{ℕ, zero, suc, ◌+◌, ◌-◌, ◌/◌, ◌≤◌, ◌<◌}
use native.Mathlib.Nat.{add-zero}
use native.Mathlib.Omega.{arith}
use borrow.Author.Tests.{lt-leb, le-leb, eq-eqb, ne_eqb}
use lib.Dec.{eqb, leb}
use lib.ListN.{length, get_or, take, drop, length-drop}
use lib.Seq.{take_all, get_or-drop, drop-drop}
use Rattle.wire.specs.Wire.{number, part}
use Rattle.ending.specs.Tail.{metadata_key}
use Rattle.head.specs.Table.{starts_with, entries_in, table_of, first_place, span_of}
use Rattle.head.proofs.Heads.{entries_length}
use Rattle.read_judge.specs.Found.{gecko_span}
use Rattle.measure.specs.Game.{bare, has_body, tail_kind}
use Rattle.measure.specs.Inner.{places_by}
use Rattle.measure.specs.declared.Places.{Places}

-- ---- the tail

-- a part up to a list's end
pub whole_tail : (f : List ℕ) (stop n : ℕ) → n ≡ length f → take (n - stop) (drop stop f) ≡ drop stop f
whole_tail f stop n e = take_all (n - stop) (drop stop f) (omega (arith, length-drop stop f))

module _ (t : List ℕ) where
  pub body_short : length t < 13 → false ≡ has_body t
  unfolding has_body
  body_short h = rw (lt-leb 13 (length t) h)

  module _ (long : 13 ≤ length t) where
    pub body_long : 65548 < length t → false ≡ has_body t
    unfolding has_body
    body_long h = rw (le-leb 13 (length t) long, lt-leb (length t) 65548 h)

    module _ (fits : length t ≤ 65548) (key : Bool) (key-is : key ≡ starts_with metadata_key t) where
      pub body_other : key ≡ false → false ≡ has_body t
      unfolding has_body
      body_other e = rw (le-leb 13 (length t) long, le-leb (length t) 65548 fits, sym key-is ∙ e)

      pub body_open : key ≡ true → (get_or t (length t - 2) 0 ≡ 0x7d → ⊥) → false ≡ has_body t
      unfolding has_body
      body_open e h = rw (le-leb 13 (length t) long, le-leb (length t) 65548 fits, sym key-is ∙ e, ne_eqb (get_or t (length t - 2) 0) 0x7d h)

      pub body_as : key ≡ true → get_or t (length t - 2) 0 ≡ 0x7d → eqb (get_or t (length t - 1) 0) 0x7d ≡ has_body t
      unfolding has_body
      body_as e h = rw (le-leb 13 (length t) long, le-leb (length t) 65548 fits, sym key-is ∙ e, eq-eqb (get_or t (length t - 2) 0) 0x7d h)

  pub bare_as : length t ≡ 1 → eqb (get_or t 0 0) 0x7d ≡ bare t
  unfolding bare
  bare_as n = rw (eq-eqb (length t) 1 n)

  pub bare_long : (length t ≡ 1 → ⊥) → false ≡ bare t
  unfolding bare
  bare_long n = rw (ne_eqb (length t) 1 n)

  pub kind_bare : bare t ≡ true → 0 ≡ tail_kind t
  unfolding tail_kind
  kind_bare e = rw e

  module _ (e : bare t ≡ false) (b : Bool) (b-is : b ≡ has_body t) where
    pub kind_body : b ≡ true → 1 ≡ tail_kind t
    unfolding tail_kind
    kind_body h = rw (e, sym b-is ∙ h)

    pub kind_other : b ≡ false → 2 ≡ tail_kind t
    unfolding tail_kind
    kind_other h = rw (e, sym b-is ∙ h)

-- what stands in a file from a place on
pub kind_in : (f : List ℕ) (stop n : ℕ) → n ≡ length f → (kind : ℕ)
    → (kind ≡ tail_kind (take (n - stop) (drop stop f))) × (kind ≡ 1 → 13 ≤ length (take (n - stop) (drop stop f)))
    → (kind ≡ tail_kind (drop stop f)) × (kind ≡ 1 → stop + 13 ≤ length f)
kind_in f stop n e kind (k, l) =
    let whole = whole_tail f stop n e in
    (k ∙ ap tail_kind whole, λ q. omega (arith, l q, ap length whole, length-drop stop f))

-- ---- places

module _ (f : List ℕ) (first stop len kind : ℕ) (e : kind ≡ tail_kind (drop stop f)) where
  pub places_body : kind ≡ 1
      → ◌≡◌ {A = Places} (record { block_at = first + 1; block_len = len; tail = kind; metadata_at = stop + 11; metadata_len = length f - stop - 13 }) (places_by f first stop len)
  places_body h = rw (← e, eq-eqb kind 1 h)

  pub places_none : (kind ≡ 1 → ⊥)
      → ◌≡◌ {A = Places} (record { block_at = first + 1; block_len = len; tail = kind; metadata_at = 0; metadata_len = 0 }) (places_by f first stop len)
  places_none h = rw (← e, ne_eqb kind 1 h)

-- ---- the table

-- the entries from a place on
abbrev pub span_from : List ℕ → ℕ → ℕ → ℕ
span_from f at n = span_of 0x3D (entries_in n (drop at f))

module _ (f : List ℕ) where
  pub span_all : (first : ℕ) → first ≡ first_place (table_of f) → gecko_span f ≡ span_from f 17 ((first - 17) / 3)
  unfolding table_of
  span_all first e =
      let n = get_or f 16 0 / 3 in
      let few : (first - 17) / 3 ≡ n = omega (arith, e, entries_length n (drop 17 f)) in
      ap (λ (k : ℕ). span_from f 17 k) (sym few)

  -- one entry
  span_step : (at n : ℕ) → span_from f at (suc n) ≡ cond (eqb (get_or f at 0) 0x3D) (1 + number (part f (at + 1) 2)) (span_from f (at + 3) n)
  unfolding entries_in span_of part
  span_step at n = simp (get_or-drop, drop-drop, add-zero)

  module _ (all at left : ℕ) (some : 0 < left) (e : all ≡ span_from f at left) where
    left_is : suc (left - 1) ≡ left
    left_is = omega arith

    step_is : all ≡ cond (eqb (get_or f at 0) 0x3D) (1 + number (part f (at + 1) 2)) (span_from f (at + 3) (left - 1))
    step_is = e ∙ ap (λ (k : ℕ). span_from f at k) (sym left_is) ∙ span_step at (left - 1)

    pub span_here_lem : (n : ℕ) → get_or f at 0 ≡ 0x3D → n ≡ number (part f (at + 1) 2) → 1 + n ≡ all
    span_here_lem n h k = sym (step_is ∙ rw (eq-eqb (get_or f at 0) 0x3D h, k))

    pub span_next : (get_or f at 0 ≡ 0x3D → ⊥) → all ≡ span_from f (at + 3) (left - 1)
    span_next h = step_is ∙ rw (ne_eqb (get_or f at 0) 0x3D h)

  pub span_none : (all at left : ℕ) → left ≤ 0 → all ≡ span_from f at left → 0 ≡ all
  unfolding entries_in span_of
  span_none all at zero h e = sym e
  span_none all at (suc n) h e = absurd (omega arith)

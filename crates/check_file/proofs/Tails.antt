-- The test of a tail, and which files pass it.
-- Assumes nothing.
use Prim.Native.Nat.{ℕ, ◌+◌, ◌-◌, ◌≤◌}
use mathlib.Core.Path.{◌≡◌, refl, sym, ap, ap₂, ◌∙◌}
use mathlib.Core.Bool.{Bool, true, false, cond}
use mathlib.Core.List.{List}
use native.Mathlib.Omega.{arith}
use borrow.Author.Tests.{eq-eqb, ne_eqb, eqb-true}
use lib.Dec.{eqb}
use lib.ListN.{length, take, drop, length-drop}
use lib.Seq.{drop-drop}
use Rattle.wire.specs.Wire.{part}
use Rattle.map_reader.specs.Read.{Seen, map_read_at}
use Rattle.map_reader.specs.Answer.{whole_map}
use Rattle.map_reader.proofs.Answers.{whole_refused, whole_yes, whole_more}
use Rattle.map_reader.proofs.Steps.{other_some}
use Rattle.measure.specs.Game.{tail_kind}
use Rattle.check_file.specs.Inner.{is_body, is_tail}

-- ---- a body

module _ (b : List ℕ) (n stop : ℕ) (n-is : n ≡ (map_read_at b 8 0).refusal) (stop_is : stop ≡ (map_read_at b 8 0).stop) where
  pub body_refused : (n ≡ 0 → ⊥) → false ≡ is_body b
  unfolding is_body
  body_refused h = sym (ne_eqb (whole_map b).refusal 0 (λ z. h (n-is ∙ sym (ap (λ (g : Seen). g.refusal) (whole_refused b (λ q. h (n-is ∙ q)))) ∙ z)))

  pub body_as : n ≡ 0 → (l : ℕ) → l ≡ length b → eqb stop l ≡ is_body b
  unfolding is_body
  body_as z l e = go (eqb stop l) refl
    where
      ok : (map_read_at b 8 0).refusal ≡ 0
      ok = sym n-is ∙ z

      go : (c : Bool) → eqb stop l ≡ c → c ≡ eqb (whole_map b).refusal 0
      go true q =
          let s : (map_read_at b 8 0).stop ≡ length b = sym stop_is ∙ eqb-true stop l q ∙ e in
          sym (eq-eqb (whole_map b).refusal 0 (ap (λ (g : Seen). g.refusal) (whole_yes b ok s) ∙ ok))
      go false q =
          let s : (map_read_at b 8 0).stop ≡ length b → ⊥ = λ x. (let y : ◌≡◌ {A = ℕ} 0 1 = ap (λ (c : Bool). cond c 1 0) (sym q ∙ eq-eqb stop l (stop_is ∙ x ∙ sym e)) in omega arith) in
          sym (ne_eqb (whole_map b).refusal 0 (λ x. other_some b (map_read_at b 8 0).stop (sym (ap (λ (g : Seen). g.refusal) (whole_more b ok s)) ∙ x)))

-- ---- a tail that stands in a file

module _ (f : List ℕ) (stop kind : ℕ) (k : kind ≡ tail_kind (drop stop f)) where
  pub tail_bare : kind ≡ 0 → true ≡ is_tail (drop stop f)
  unfolding is_tail
  tail_bare e = rw (← k, eq-eqb kind 0 e)

  pub tail_body : kind ≡ 1 → stop + 13 ≤ length f → (r : Bool) → r ≡ is_body (take (length f - 2 - (stop + 11)) (drop (stop + 11) f)) → r ≡ is_tail (drop stop f)
  unfolding is_tail part
  tail_body e l r q =
      let n : length f - 2 - (stop + 11) ≡ length (drop stop f) - 13 = omega (arith, length-drop stop f) in
      rw (← k, eq-eqb kind 1 e, ne_eqb kind 0 (λ z. omega arith))
      (q ∙ ap₂ (λ (m : ℕ) (l : List ℕ). is_body (take m l)) n (sym (drop-drop 11 stop f)))

  pub tail_odd : (kind ≡ 0 → ⊥) → (kind ≡ 1 → ⊥) → false ≡ is_tail (drop stop f)
  unfolding is_tail
  tail_odd a b = rw (← k, ne_eqb kind 0 a, ne_eqb kind 1 b)

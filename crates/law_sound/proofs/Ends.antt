-- The test of ends over bytes is the one over events.
-- Assumes nothing.
use Prim.Native.Nat.{ℕ, suc, ◌+◌, ◌≤◌}
use mathlib.Core.Path.{◌≡◌, refl, sym, ap, subst, ◌∙◌}
use mathlib.Core.Bool.{Bool, true, false, ◌&&◌, ◌||◌}
use mathlib.Core.List.{List, [], ◌∷◌, map}
use native.Mathlib.Omega.{arith}
use borrow.Author.Tests.{eq-eqb, ne_eqb, eqb-true}
use lib.Dec.{eqb}
use lib.ListN.{length}
use Rattle.format.specs.Event.{code_of}
use Rattle.format.specs.File.{Ev, events_bytes}
use Rattle.format.specs.declared.event.Event.TheVariants.{GameEnd}
use Rattle.format.specs.declared.version.Version.{Version}
use Rattle.layout.specs.Payloads.{end_size}
use Rattle.grammar.specs.Productions.{end_event}
use Rattle.grammar.specs.WellFormed.{Each}
use Rattle.grammar.specs.Whole.{is_end, are_ends}
use Rattle.grammar.proofs.Tests.{both}
use Rattle.read_outline.proofs.Stands.{Stands, size_of, next_stands, end_stands}
use Rattle.read_outline.specs.Inner.{end_here}
use Rattle.check_parts.specs.Inner.{ends_fill}

and_false : (a : Bool) → (a && false) ≡ false
and_false true = refl
and_false false = refl

module _ (v : Version) (file spans : List ℕ) (stop : ℕ) (tail : List ℕ) where
  abbrev At : ℕ → List Ev → Type 0
  At at es = Stands file spans stop tail at es

  -- one end
  end_at_lem : (at : ℕ) (e : Ev) (es : List Ev) → At at (e ∷ es) → end_here v file spans stop at ≡ is_end v e
  end_at_lem at e es s = end_stands file spans stop tail at e es s v

  end_size_lem : (e : Ev) → is_end v e ≡ true → length e.payload ≡ end_size v
  unfolding is_end
  end_size_lem e q = eqb-true (length e.payload) (end_size v) (both (eqb e.code (code_of GameEnd)) (eqb (length e.payload) (end_size v)) q).1

  not_end : (at : ℕ) (e : Ev) (es : List Ev) → At at (e ∷ es) → at ≡ stop → ⊥
  not_end at e es s q = omega (arith, size_of file spans stop tail at e es s)

  -- behind one end, of whatever bytes
  next_at_lem : (at : ℕ) (e : Ev) (es : List Ev) → At at (e ∷ es) → is_end v e ≡ true → At (at + (1 + end_size v)) es
  next_at_lem at e es s q =
      let z : at + suc (length e.payload) ≡ at + (1 + end_size v) = omega (arith, end_size_lem e q) in
      subst (λ (n : ℕ). At n es) z (next_stands file spans stop tail at e es s)

  abbrev second : List Ev → Bool
  second [] = true
  second (e ∷ []) = is_end v e
  second (e ∷ g ∷ es) = false

  second_at_lem : (at : ℕ) (es : List Ev) → At at es → (eqb at stop || (end_here v file spans stop at && eqb (at + (1 + end_size v)) stop)) ≡ second es
  unfolding events_bytes
  second_at_lem at [] s = rw (eq-eqb at stop (omega (arith, s.long)))
  second_at_lem at (e ∷ []) s =
      rw (ne_eqb at stop (not_end at e [] s), end_at_lem at e [] s) (go (is_end v e) refl (size_of file spans stop tail at e [] s))
    where
      go : (b : Bool) → is_end v e ≡ b → stop ≡ at + suc (length e.payload) + 0 → (b && eqb (at + (1 + end_size v)) stop) ≡ b
      go true q l = eq-eqb (at + (1 + end_size v)) stop (omega (arith, end_size_lem e q))
      go false q l = refl
  second_at_lem at (e ∷ g ∷ es) s =
      rw (ne_eqb at stop (not_end at e (g ∷ es) s), end_at_lem at e (g ∷ es) s) (go (is_end v e) refl)
    where
      go : (b : Bool) → is_end v e ≡ b → (b && eqb (at + (1 + end_size v)) stop) ≡ false
      go true q = ne_eqb (at + (1 + end_size v)) stop (not_end (at + (1 + end_size v)) g es (next_at_lem at e (g ∷ es) s q))
      go false q = refl

  ends_are : (e : Ev) (es : List Ev) (b : Bool) → is_end v e ≡ b → (b && second es) ≡ are_ends v (e ∷ es)
  unfolding are_ends
  ends_are e [] true q = sym q
  ends_are e [] false q = sym q
  ends_are e (g ∷ []) b q = ap (λ (x : Bool). x && is_end v g) (sym q)
  ends_are e (g ∷ h ∷ es) b q = and_false b

  pub ends_same : (at : ℕ) (es : List Ev) → At at es → ends_fill v file spans stop at ≡ are_ends v es
  unfolding ends_fill are_ends events_bytes
  ends_same at [] s = rw (eq-eqb at stop (omega (arith, s.long)))
  ends_same at (e ∷ es) s = rw (ne_eqb at stop (not_end at e es s), end_at_lem at e es s) (go (is_end v e) refl ∙ ends_are e es (is_end v e) refl)
    where
      go : (b : Bool) → is_end v e ≡ b
          → (b && (eqb (at + (1 + end_size v)) stop || (end_here v file spans stop (at + (1 + end_size v)) && eqb (at + (1 + end_size v) + (1 + end_size v)) stop))) ≡ (b && second es)
      go true q = second_at_lem (at + (1 + end_size v)) es (next_at_lem at e es s q)
      go false q = refl

-- at most two payloads of the version's size are ends
pub ends_taken : (v : Version) (ends : List (List ℕ)) → length ends ≤ 2 → Each (λ bytes. length bytes ≡ end_size v) ends → are_ends v (map end_event ends) ≡ true
unfolding Each are_ends is_end
ends_taken v [] n h = refl
ends_taken v (a ∷ []) n h = rw (eq-eqb (length a) (end_size v) h.0)
ends_taken v (a ∷ b ∷ []) n h = rw (eq-eqb (length a) (end_size v) h.0, eq-eqb (length b) (end_size v) h.1.0)
ends_taken v (a ∷ b ∷ c ∷ ends) n h = absurd (omega arith)

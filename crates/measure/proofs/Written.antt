-- What is found in a tail as it is written.
-- Assumes nothing.
use Prim.Native.Nat.{ℕ, ◌+◌, ◌-◌, ◌≤◌}
use mathlib.Core.Path.{◌≡◌, refl, sym, ap, ◌∙◌}
use mathlib.Core.Bool.{Bool, true, false, cond}
use mathlib.Core.List.{List, [], ◌∷◌, ◌++◌, append_assoc}
use native.Mathlib.Omega.{arith}
use borrow.Author.Tests.{le-leb, eq-eqb, ne_eqb}
use lib.ListN.{length, get_or, take, drop, length-append, length-drop}
use lib.Seq.{take_at, get_or_at, drop-drop}
use Rattle.wire.specs.Wire.{part, keep}
use Rattle.ending.specs.Tail.{metadata_key, metadata_of, tail_of}
use Rattle.ending.proofs.Lengths.{length_tail}
use Rattle.head.specs.Table.{starts_with}
use Rattle.measure.specs.Game.{bare, has_body, tail_kind}

module _ (body : List ℕ) where
  abbrev front : List ℕ
  front = metadata_key ++ body

  two_braces : tail_of true body ≡ front ++ (0x7d ∷ 0x7d ∷ [])
  unfolding tail_of metadata_of keep
  two_braces = ap (λ (l : List ℕ). metadata_key ++ l) (append_assoc body (0x7d ∷ []) (0x7d ∷ []))

  three_parts : tail_of true body ≡ (front ++ (0x7d ∷ [])) ++ (0x7d ∷ [])
  unfolding tail_of metadata_of keep
  three_parts = refl

  begins : starts_with metadata_key (tail_of true body) ≡ true
  unfolding starts_with tail_of metadata_of keep
  begins = refl

  long : length (tail_of true body) ≡ 13 + length body
  long = length_tail true body

  front_long : length front ≡ 11 + length body
  front_long = length-append metadata_key body

  last_but_one : get_or (tail_of true body) (length (tail_of true body) - 2) 0 ≡ 0x7d
  last_but_one =
      let at : length front ≡ length (tail_of true body) - 2 = omega (arith, long, front_long) in
      ap (λ (l : List ℕ). get_or l (length (tail_of true body) - 2) 0) two_braces ∙ get_or_at front 0x7d (0x7d ∷ []) 0 _ at

  last : get_or (tail_of true body) (length (tail_of true body) - 1) 0 ≡ 0x7d
  last =
      let at : length (front ++ (0x7d ∷ [])) ≡ length (tail_of true body) - 1 = omega (arith, long, front_long, length-append front (0x7d ∷ [])) in
      ap (λ (l : List ℕ). get_or l (length (tail_of true body) - 1) 0) three_parts ∙ get_or_at (front ++ (0x7d ∷ [])) 0x7d [] 0 _ at

  not_bare : bare (tail_of true body) ≡ false
  unfolding bare
  not_bare = rw (ne_eqb (length (tail_of true body)) 1 (λ q. omega (arith, long, q)))

  has_body_lem : length body ≤ 65535 → has_body (tail_of true body) ≡ true
  unfolding has_body
  has_body_lem few =
      rw (
        le-leb 13 (length (tail_of true body)) (omega (arith, long)),
        le-leb (length (tail_of true body)) 65548 (omega (arith, long)),
        begins,
        eq-eqb (get_or (tail_of true body) (length (tail_of true body) - 2) 0) 0x7d last_but_one,
        eq-eqb (get_or (tail_of true body) (length (tail_of true body) - 1) 0) 0x7d last,
      )

bare_brace : (body : List ℕ) → bare (tail_of false body) ≡ true
unfolding bare tail_of keep
bare_brace body = refl

-- metadata that is given is found, and none where it is not
pub tail_kind_lem : (given : Bool) (body : List ℕ) → (given ≡ true → length body ≤ 65535) → tail_kind (tail_of given body) ≡ cond given 1 0
unfolding tail_kind
tail_kind_lem true body few = rw (not_bare body, has_body_lem body (few refl))
tail_kind_lem false body few = rw (bare_brace body)

-- the body in it
pub body_found : (f : List ℕ) (stop : ℕ) (given : Bool) (body : List ℕ) → drop stop f ≡ tail_of given body
    → part f (cond given (stop + 11) 0) (cond given (length f - stop - 13) 0) ≡ keep given body
unfolding part keep
body_found f stop true body e =
    let len : length f - stop - 13 ≡ length body = omega (arith, length-drop stop f, ap length e, long body) in
    ap (λ (k : ℕ). take k (drop (stop + 11) f)) len ∙ ap (take (length body)) (sym (drop-drop 11 stop f) ∙ ap (drop 11) (e ∙ two_braces body)) ∙ take_at body (0x7d ∷ 0x7d ∷ []) (length body) refl
body_found f stop false body e = refl

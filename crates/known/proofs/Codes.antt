-- Known events of a list, one at a time and in two parts; known codes and the families'.
-- Assumes nothing.
use Prim.Native.Nat.{ℕ}
use mathlib.Core.Path.{◌≡◌, refl, sym, ap, ◌∙◌}
use mathlib.Core.Bool.{Bool, true, false}
use mathlib.Core.List.{List, [], ◌∷◌, ◌++◌, append_assoc}
use mathlib.Core.Option.{none, some, none-ne-some}
use lib.Dec.{eqb}
use Rattle.wire.specs.Wire.{keep}
use Rattle.format.specs.File.{Ev}
use Rattle.format.specs.declared.version.Version.{Version}
use Rattle.format.proofs.Tests.{one_passed}
use Rattle.layout.specs.declared.columns.Family.{Family}
use Rattle.grammar.specs.Machine.{family_of}
use Rattle.known.specs.Known.{is_known, front, known_of}

-- ---- events

pub known_one : (v : Version) (e : Ev) (es : List Ev) → is_known e.code ≡ true → known_of v (e ∷ es) ≡ front v e ∷ known_of v es
unfolding known_of keep
known_one v e es k = rw k

pub unknown_one : (v : Version) (e : Ev) (es : List Ev) → is_known e.code ≡ false → known_of v (e ∷ es) ≡ known_of v es
unfolding known_of keep
unknown_one v e es k = rw k

pub known_both : (v : Version) (xs ys : List Ev) → known_of v (xs ++ ys) ≡ known_of v xs ++ known_of v ys
unfolding known_of
known_both v [] ys = refl
known_both v (x ∷ xs) ys =
    let here = keep (is_known x.code) (front v x ∷ []) in
    ap (λ (l : List Ev). here ++ l) (known_both v xs ys) ∙ sym (append_assoc here (known_of v xs) (known_of v ys))

-- ---- codes

-- an unknown code is none of a frame's
pub record Unlike (c : ℕ) : Type 0 where
  pub pre : eqb c 0x37 ≡ false
  pub post : eqb c 0x38 ≡ false
  pub end : eqb c 0x39 ≡ false
  pub frame : eqb c 0x3A ≡ false
  pub item : eqb c 0x3B ≡ false
  pub last : eqb c 0x3C ≡ false
  pub splitter : eqb c 0x10 ≡ false
  pub fod : eqb c 0x3F ≡ false
  pub whispy : eqb c 0x40 ≡ false
  pub stadium : eqb c 0x41 ≡ false

pub unlike : (c : ℕ) → is_known c ≡ false → Unlike c
unfolding is_known
unlike c e =
    let (payloads, e) = one_passed _ _ e in
    let (game, e) = one_passed _ _ e in
    let (pre, e) = one_passed _ _ e in
    let (post, e) = one_passed _ _ e in
    let (end, e) = one_passed _ _ e in
    let (frame, e) = one_passed _ _ e in
    let (item, e) = one_passed _ _ e in
    let (last, e) = one_passed _ _ e in
    let (gecko, e) = one_passed _ _ e in
    let (splitter, e) = one_passed _ _ e in
    let (fod, e) = one_passed _ _ e in
    let (whispy, e) = one_passed _ _ e in
    let (stadium, e) = one_passed _ _ e in
    record { pre = pre; post = post; end = end; frame = frame; item = item; last = last; splitter = splitter; fod = fod; whispy = whispy; stadium = stadium }

pub unknown_family : (c : ℕ) → is_known c ≡ false → family_of c ≡ none
unfolding family_of
unknown_family c e = let u = unlike c e in rw (u.pre, u.post, u.frame, u.item, u.last, u.fod, u.whispy, u.stadium)

pub known_family : (c : ℕ) (family : Family) → family_of c ≡ some family → is_known c ≡ true
known_family c family e = go (is_known c) refl
  where
    go : (b : Bool) → is_known c ≡ b → is_known c ≡ true
    go true q = q
    go false q = absurd (none-ne-some _ (sym (unknown_family c q) ∙ e))

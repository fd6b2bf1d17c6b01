-- A file whose events are sound is sound exactly where the test of its tail passes.
-- Assumes nothing.
use Prim.Native.Nat.{ℕ, suc, ◌+◌, ◌-◌, ◌≤◌, ◌<◌}
use mathlib.Core.Path.{◌≡◌, refl, sym, ap, ap₂, subst, ◌∙◌}
use mathlib.Core.Bool.{Bool, true, false, cond, ◌&&◌}
use mathlib.Core.List.{List, [], ◌∷◌, ◌++◌, append_assoc}
use native.Mathlib.Omega.{arith}
use borrow.Author.Tests.{eq-eqb, eqb-true, leb-true}
use lib.Dec.{eqb, leb}
use lib.ListN.{length, get_or, take, drop, length-take, take-append-drop}
use lib.Seq.{drop-drop, drop-cons, drop-length, get_or-drop}
use Rattle.wire.specs.Wire.{part, keep}
use Rattle.format.proofs.Versions.{no_way}
use Rattle.ending.specs.Tail.{metadata_key, metadata_of, tail_of}
use Rattle.head.specs.Table.{starts_with, stop_of}
use Rattle.map_reader.specs.Read.{Seen}
use Rattle.map_reader.specs.Answer.{whole_map}
use Rattle.map_reader.proofs.Places.{part_bytes}
use Rattle.law_map.proofs.Complete.{back}
use Rattle.law_map.proofs.Round.{whole_body}
use Rattle.grammar.specs.Sound.{SoundEvents, Metadata, Sound}
use Rattle.grammar.proofs.Tests.{both, Or, left_is, right_is, either}
use Rattle.read_judge.specs.Inner.{Bytes}
use Rattle.measure.specs.Game.{bare, has_body, tail_kind}
use Rattle.check_table.proofs.Laws.{starts_is}
use Rattle.law_sound.proofs.Read.{tail_is}
use Rattle.check_file.specs.Inner.{is_body, is_tail}
use Rattle.measure.proofs.Written.{tail_kind_lem, body_found}

-- ---- a tail, by its kind

one_byte : (t : List ℕ) → length t ≡ 1 → t ≡ get_or t 0 0 ∷ []
one_byte [] e = absurd (omega arith)
one_byte (x ∷ []) e = refl
one_byte (x ∷ y ∷ t) e = absurd (omega arith)

bare_is : (t : List ℕ) → bare t ≡ true → t ≡ tail_of false []
unfolding bare tail_of keep
bare_is t q =
    let (a, b) = both (eqb (length t) 1) (eqb (get_or t 0 0) 0x7d) q in
    one_byte t (eqb-true (length t) 1 a) ∙ ap (λ (x : ℕ). x ∷ []) (eqb-true (get_or t 0 0) 0x7d b)

abbrev pub body_in : List ℕ → List ℕ
body_in t = part t 11 (length t - 13)

body_is : (t : List ℕ) → has_body t ≡ true → (t ≡ tail_of true (body_in t)) × (length (body_in t) ≤ 65535)
unfolding has_body tail_of metadata_of keep part
body_is t q =
    let n = length t in
    let (a, q) = both (leb 13 n) (leb n 65548 && (starts_with metadata_key t && (eqb (get_or t (n - 2) 0) 0x7d && eqb (get_or t (n - 1) 0) 0x7d))) q in
    let (b, q) = both (leb n 65548) (starts_with metadata_key t && (eqb (get_or t (n - 2) 0) 0x7d && eqb (get_or t (n - 1) 0) 0x7d)) q in
    let (c, q) = both (starts_with metadata_key t) (eqb (get_or t (n - 2) 0) 0x7d && eqb (get_or t (n - 1) 0) 0x7d) q in
    let (d, e) = both (eqb (get_or t (n - 2) 0) 0x7d) (eqb (get_or t (n - 1) 0) 0x7d) q in
    let long = leb-true 13 n a in
    let few = leb-true n 65548 b in
    let body = take (n - 13) (drop 11 t) in
    let x : 11 + (n - 13) ≡ n - 2 = omega arith in
    let y : suc (n - 2) ≡ n - 1 = omega arith in
    let z : suc (n - 1) ≡ n = omega arith in
    let last : drop (n - 1) t ≡ 0x7d ∷ [] = drop-cons t (n - 1) 0 (omega arith) ∙ ap₂ (λ (k : ℕ) (l : List ℕ). k ∷ l) (eqb-true (get_or t (n - 1) 0) 0x7d e) (ap (λ (k : ℕ). drop k t) z ∙ drop-length t) in
    let two : drop (n - 2) t ≡ 0x7d ∷ 0x7d ∷ [] = drop-cons t (n - 2) 0 (omega arith) ∙ ap₂ (λ (k : ℕ) (l : List ℕ). k ∷ l) (eqb-true (get_or t (n - 2) 0) 0x7d d) (ap (λ (k : ℕ). drop k t) y ∙ last) in
    let behind : drop 11 t ≡ body ++ (0x7d ∷ 0x7d ∷ []) = sym (take-append-drop (n - 13) (drop 11 t)) ∙ ap (λ (l : List ℕ). body ++ l) (drop-drop (n - 13) 11 t ∙ ap (λ (k : ℕ). drop k t) x ∙ two) in (
      starts_is metadata_key t c ∙ ap (λ (l : List ℕ). metadata_key ++ l) (behind ∙ sym (append_assoc body (0x7d ∷ []) (0x7d ∷ []))),
      omega (arith, length-take (n - 13) (drop 11 t)),
    )

kind_none : (t : List ℕ) → tail_kind t ≡ 0 → bare t ≡ true
unfolding tail_kind
kind_none t q = go (bare t) (has_body t) q
  where
    go : (a b : Bool) → ◌≡◌ {A = ℕ} (cond a 0 (cond b 1 2)) 0 → a ≡ true
    go true b q = refl
    go false true q = absurd (omega arith)
    go false false q = absurd (omega arith)

kind_some : (t : List ℕ) → tail_kind t ≡ 1 → has_body t ≡ true
unfolding tail_kind
kind_some t q = go (bare t) (has_body t) q
  where
    go : (a b : Bool) → ◌≡◌ {A = ℕ} (cond a 0 (cond b 1 2)) 1 → b ≡ true
    go true b q = absurd (omega arith)
    go false true q = refl
    go false false q = absurd (omega arith)

-- a tail of kind 1 is the key, a body and two braces; that such a tail is of kind 1 is `tail_kind_lem`
pub kind_one : (t : List ℕ) → tail_kind t ≡ 1 → (t ≡ tail_of true (body_in t)) × (length (body_in t) ≤ 65535)
kind_one t q = body_is t (kind_some t q)

-- ---- bodies

metadata_of_lem : (b : List ℕ) → Bytes b → length b ≤ 65535 → is_body b ≡ true → Metadata b
unfolding is_body
metadata_of_lem b bytes few q =
    let (p, e) = whole_body b bytes (eqb-true (whole_map b).refusal 0 q) in
    record { map = (whole_map b).map; proper = p; small = few; body_is = sym e }

body_of : (b : List ℕ) → Metadata b → is_body b ≡ true
unfolding is_body
body_of b m = eq-eqb (whole_map b).refusal 0 (ap (λ (l : List ℕ). (whole_map l).refusal) m.body_is ∙ ap (λ (g : Seen). g.refusal) (back m.map m.proper))

-- a tail with such a body, or none
tail_taken : (given : Bool) (body : List ℕ) → (given ≡ true → Metadata body) → is_tail (tail_of given body) ≡ true
unfolding is_tail keep
tail_taken false body m = rw (tail_kind_lem false body (λ z. no_way z))
tail_taken true body m =
    let f = tail_of true body in
    let n : length f - 13 ≡ length f - 0 - 13 = omega arith in
    let e : part f 11 (length f - 13) ≡ body = ap (part f 11) n ∙ body_found f 0 true body refl in
    rw (tail_kind_lem true body (λ z. (m refl).small)) (ap is_body e ∙ body_of body (m refl))

-- ---- files

drop_bytes : (f : List ℕ) → Bytes f → (n : ℕ) → Bytes (drop n f)
drop_bytes f b n i = subst (λ (x : ℕ). x < 256) (sym (get_or-drop n f i 0)) (b (n + i))

module _ (f : List ℕ) where
  abbrev t : List ℕ
  t = drop (stop_of f) f

  -- the file's tail is that of its sound events
  with_tail : (x : SoundEvents f) (given : Bool) (body : List ℕ) → t ≡ tail_of given body → (given ≡ true → Metadata body) → Sound f
  with_tail x given body e m = record { events = x; proper = record { given = given; body = body; metadata = m; tail_is = sym (tail_is f x) ∙ e } }

  pub tail_yes : Bytes f → SoundEvents f → is_tail t ≡ true → Sound f
  unfolding is_tail
  tail_yes bytes x q = go (either (eqb (tail_kind t) 0) (eqb (tail_kind t) 1 && is_body (body_in t)) q)
    where
      go : Or (eqb (tail_kind t) 0) (eqb (tail_kind t) 1 && is_body (body_in t)) → Sound f
      go (left_is e) = with_tail x false [] (bare_is t (kind_none t (eqb-true (tail_kind t) 0 e))) (λ z. no_way z)
      go (right_is e) =
          let (a, b) = both (eqb (tail_kind t) 1) (is_body (body_in t)) e in
          let (is, few) = kind_one t (eqb-true (tail_kind t) 1 a) in
          with_tail x true (body_in t) is (λ z. metadata_of_lem (body_in t) (part_bytes t 11 (length t - 13) (drop_bytes f bytes (stop_of f))) few b)

  pub tail_right : Sound f → is_tail t ≡ true
  tail_right x = let p = x.proper in ap is_tail (tail_is f x.events ∙ p.tail_is) ∙ tail_taken p.given p.body p.metadata

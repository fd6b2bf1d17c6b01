-- Whatever map fits is read from its body, entry by entry.
-- Assumes nothing.
use mathlib.Core.Path.{◌≡◌, refl, sym, ap, ap₂, ◌∙◌}
use mathlib.Core.Bool.{false, ◌||◌}
use mathlib.Core.List.{List, [], ◌∷◌, ◌++◌, append-nil}
use Prim.Native.Nat.{ℕ, zero, suc, ◌+◌, ◌-◌, ◌^◌, ◌<◌}
use native.Mathlib.Nat.{add-zero, zero-add}
use native.Mathlib.Omega.{arith}
use borrow.Author.Tests.{eqb-false}
use lib.ListN.{length, get_or, length-append}
use lib.Seq.{get_or-drop}
use Rattle.wire.specs.Wire.{be, part, number as number_of}
use Rattle.wire.proofs.Laws.{length_be, number_be}
use Rattle.map.specs.Map.{Value, text, number, map, Map, empty, entry, text_bytes, value_bytes, body_of, fits_value, fits, has, twice_value, twice_in, Proper}
use Rattle.map_reader.specs.Read.{text_stop, text_of, Seen, SeenValue, closed_map, joined, map_entries_in, inside, map_read_at, value_read_at}
use Rattle.format.proofs.Tests.{or_none}
use Rattle.map.proofs.Judging.{length_text}
use Rattle.map_reader.specs.Answer.{whole_map}
use Rattle.map_reader.proofs.Answers.{whole_yes}
use Rattle.map_reader.proofs.Places.{Stands, first_is, second_is, part_is}
use Rattle.map_reader.proofs.Steps.{text_yes, value_text, value_number, value_map, closed_yes, inside_is, entries_none, entries_more}

moved : {b : List ℕ} {p q : ℕ} {xs rest : List ℕ} → p ≡ q → Stands b p xs rest → Stands b q xs rest
moved e s = rw e at s

-- a text that stands at p
pub record Texted (b : List ℕ) (p : ℕ) (t rest : List ℕ) : Type 0 where
  pub mark : get_or b p 0 ≡ 0x55
  pub stop : text_stop b p ≡ p + 2 + length t
  pub is : text_of b p ≡ t

pub text_complete : (b : List ℕ) (p : ℕ) (t rest : List ℕ) → Stands b p (text_bytes t) rest → Texted b p t rest
unfolding text_bytes text_of
text_complete b p t rest s =
    let (mark, in1, s1) = first_is 0x55 (length t ∷ t) s in
    let (len, in2, s2) = first_is (length t) t s1 in
    let (same, fit) = part_is {p = p + 2} t (moved (omega arith) s2) in
    record {
      mark = mark;
      stop = sym (text_yes b p (sym mark) (sym len) refl fit);
      is = ap (part b (p + 2)) len ∙ same;
    }

-- values
value_text_complete : (t : List ℕ) (b : List ℕ) (d p : ℕ) (rest : List ℕ) → Stands b p (value_bytes (text t)) rest
    → value_read_at b d p ≡ record { value = text t; stop = p + length (value_bytes (text t)); refusal = 0 }
unfolding value_bytes
value_text_complete t b d p rest s =
    let (mark, in1, s1) = first_is 0x53 (text_bytes t) s in
    let x = text_complete b (p + 1) t rest s1 in
    let n : text_stop b (p + 1) ≡ p + suc (length (text_bytes t)) = x.stop ∙ omega (arith, length_text t) in
    value_text b d p (sym mark) refl (sym n) (λ z. absurd (omega arith)) ∙ ap (λ l. record { value = text l; stop = p + suc (length (text_bytes t)); refusal = 0 }) x.is

value_number_complete : (n : ℕ) (b : List ℕ) (d p : ℕ) (rest : List ℕ) → n < 2 ^ 32 → Stands b p (value_bytes (number n)) rest
    → value_read_at b d p ≡ record { value = number n; stop = p + length (value_bytes (number n)); refusal = 0 }
unfolding value_bytes
value_number_complete n b d p rest h s =
    let (mark, in1, s1) = first_is 0x6c (be 4 n) s in
    let (same, fit) = part_is (be 4 n) s1 in
    let four : length (be 4 n) ≡ 4 = length_be 4 n in
    let is : number_of (part b (p + 1) 4) ≡ n = ap number_of (ap (part b (p + 1)) (sym four) ∙ same) ∙ number_be 4 n h in
    let to : p + 5 ≡ p + suc (length (be 4 n)) = omega arith in
    value_number b d p (sym mark) (eqb-false 0x6c 0x53 refl) refl (omega arith) ∙ ap₂ (λ k l. record { value = number k; stop = l; refusal = 0 }) is to

-- a map's value, where its body is read
value_map_complete : (m : Map) (b : List ℕ) (d p : ℕ) (rest : List ℕ) → Stands b p (value_bytes (map m)) rest
    → (Stands b (p + 1) (body_of m) (0x7d ∷ rest) → map_read_at b d (p + 1) ≡ record { map = m; stop = p + 1 + length (body_of m); refusal = 0 })
    → value_read_at b (suc d) p ≡ record { value = map m; stop = p + length (value_bytes (map m)); refusal = 0 }
unfolding value_bytes
value_map_complete m b d p rest s inner =
    let (mark, in1, s1) = first_is 0x7b (body_of m ++ (0x7d ∷ [])) s in
    let (s2, s3) = second_is (body_of m) (0x7d ∷ []) s1 in
    let (end, in2, s4) = first_is 0x7d [] s3 in
    let g = inner s2 in
    let less : suc d - 1 ≡ d = omega arith in
    let to : p + 1 + length (body_of m) + 1 ≡ p + suc (length (body_of m ++ (0x7d ∷ []))) = omega (arith, length-append (body_of m) (0x7d ∷ [])) in
    value_map b (suc d) p (sym mark) (eqb-false 0x7b 0x53 refl) (eqb-false 0x7b 0x6c refl) refl
    ∙ ap (closed_map b) (inside_is b (suc d) p (λ z. absurd (omega arith)) ∙ ap (λ k. map_read_at b k (p + 1)) less ∙ g)
    ∙ closed_yes b (record { map = m; stop = p + 1 + length (body_of m); refusal = 0 }) refl refl refl (sym end) refl
    ∙ ap (λ l. record { value = map m; stop = l; refusal = 0 }) to

-- an entry, where its value and the others are read
entry_complete : (k : List ℕ) (v : Value) (m : Map) (b : List ℕ) (d p most : ℕ) (keys : List (List ℕ)) (rest : List ℕ) → has keys k ≡ false → Stands b p (body_of (entry k v m)) rest
    → ((q : ℕ) → Stands b q (value_bytes v) (body_of m ++ rest) → value_read_at b d q ≡ record { value = v; stop = q + length (value_bytes v); refusal = 0 })
    → ((q : ℕ) → Stands b q (body_of m) rest → p < q → map_entries_in (inside b d) b (keys ++ (k ∷ [])) most q ≡ record { map = m; stop = q + length (body_of m); refusal = 0 })
    → map_entries_in (inside b d) b keys (suc most) p ≡ record { map = entry k v m; stop = p + length (body_of (entry k v m)); refusal = 0 }
unfolding body_of
entry_complete k v m b d p most keys rest f s value others =
    let (s1, s2) = second_is (text_bytes k) (value_bytes v ++ body_of m) s in
    let (s3, s4) = second_is (value_bytes v) (body_of m) s2 in
    let x = text_complete b p k ((value_bytes v ++ body_of m) ++ rest) s1 in
    let q : text_stop b p ≡ p + length (text_bytes k) = x.stop ∙ omega (arith, length_text k) in
    let w = ap (λ i. value_read_at b d i) q ∙ value (p + length (text_bytes k)) s3 in
    let far : p < p + length (text_bytes k) + length (value_bytes v) = omega (arith, length_text k) in
    let r = ap₂ (λ (l : List ℕ) (i : SeenValue). map_entries_in (inside b d) b (keys ++ (l ∷ [])) most i.stop) x.is w ∙ others (p + length (text_bytes k) + length (value_bytes v)) s4 far in
    let to : p + length (text_bytes k) + length (value_bytes v) + length (body_of m) ≡ p + length (text_bytes k ++ (value_bytes v ++ body_of m)) =
    omega (arith, length-append (text_bytes k) (value_bytes v ++ body_of m), length-append (value_bytes v) (body_of m)) in
    entries_more (inside b d) b keys most p x.mark (λ z. absurd (omega (arith, q, length_text k))) (ap (has keys) x.is ∙ f) (ap (λ (i : SeenValue). i.refusal) w)
    ∙ ap₂ (λ (i : SeenValue) (j : Seen). joined (text_of b p) i j) w r
    ∙ ap₂ (λ i l. record { map = entry i v m; stop = l; refusal = 0 }) x.is to

empty_complete : (b : List ℕ) (d p most : ℕ) (keys : List (List ℕ)) (rest : List ℕ) → Stands b p [] rest → (get_or rest 0 0 ≡ 0x55 → ⊥)
    → map_entries_in (inside b d) b keys (suc most) p ≡ record { map = empty; stop = p + 0; refusal = 0 }
empty_complete b d p most keys rest s n =
    let first : get_or b p 0 ≡ get_or rest 0 0 = ap (λ k. get_or b k 0) (sym (add-zero p)) ∙ sym (get_or-drop p b 0 0) ∙ ap (λ l. get_or l 0 0) s.bytes in
    entries_none (inside b d) b keys most p (λ e. n (sym first ∙ e)) ∙ ap (λ l. record { map = empty; stop = l; refusal = 0 }) (sym (add-zero p))

mutual
  unfolding fits body_of twice_in

  pub value_complete : (v : Value) (b : List ℕ) (d p : ℕ) (rest : List ℕ) → fits_value v d → twice_value v ≡ false → Stands b p (value_bytes v) rest
      → value_read_at b d p ≡ record { value = v; stop = p + length (value_bytes v); refusal = 0 }
  value_complete (text t) b d p rest f o s = value_text_complete t b d p rest s
  value_complete (number n) b d p rest f o s = value_number_complete n b d p rest f s
  value_complete (map m) b zero p rest f o s = absurd f
  value_complete (map m) b (suc d) p rest f o s =
      value_map_complete m b d p rest s (λ t. body_complete m b d (p + 1) (suc (length b)) [] (0x7d ∷ rest) f o t (eqb-false 0x7d 0x55 refl) (omega arith))

  pub body_complete : (m : Map) (b : List ℕ) (d p most : ℕ) (keys : List (List ℕ)) (rest : List ℕ) → fits m d → twice_in keys m ≡ false → Stands b p (body_of m) rest → (get_or rest 0 0 ≡ 0x55 → ⊥) → length b < p + most
      → map_entries_in (inside b d) b keys most p ≡ record { map = m; stop = p + length (body_of m); refusal = 0 }
  body_complete empty b d p zero keys rest f o s n h = absurd (omega (arith, s.place))
  body_complete empty b d p (suc most) keys rest f o s n h = empty_complete b d p most keys rest s n
  body_complete (entry k v m) b d p zero keys rest f o s n h = absurd (omega (arith, s.place))
  body_complete (entry k v m) b d p (suc most) keys rest f o s n h =
      let (o1, o2) = or_none (has keys k) (twice_value v || twice_in (keys ++ (k ∷ [])) m) o in
      let (o3, o4) = or_none (twice_value v) (twice_in (keys ++ (k ∷ [])) m) o2 in
      entry_complete k v m b d p most keys rest o1 s
      (λ q t. value_complete v b d q (body_of m ++ rest) f.1 o3 t)
      (λ q t far. body_complete m b d q most (keys ++ (k ∷ [])) rest f.2 o4 t n (omega arith))

-- what was written is read back: the same entries in the same order
pub back_at : (m : Map) (d : ℕ) → fits m d → twice_in [] m ≡ false → map_read_at (body_of m) d 0 ≡ record { map = m; stop = length (body_of m); refusal = 0 }
back_at m d f o =
    let b = body_of m in
    body_complete m b d 0 (suc (length b)) [] [] f o (record { place = omega arith; bytes = sym (append-nil b) }) (eqb-false 0 0x55 refl) (omega arith)
    ∙ ap (λ l. record { map = m; stop = l; refusal = 0 }) (zero-add (length b))

pub back : (m : Map) → Proper m → whole_map (body_of m) ≡ record { map = m; stop = length (body_of m); refusal = 0 }
back m p =
    let e = back_at m 8 p.fit p.once in
    whole_yes (body_of m) (ap (λ (s : Seen). s.refusal) e) (ap (λ (s : Seen). s.stop) e) ∙ e

-- two maps with one body are equal
pub one_map : (m n : Map) → Proper m → Proper n → body_of m ≡ body_of n → m ≡ n
one_map m n f g e = sym (ap (λ (s : Seen). s.map) (back m f)) ∙ ap (λ l. (whole_map l).map) e ∙ ap (λ (s : Seen). s.map) (back n g)

-- The reader's steps: what each test of the code says of the definition.
-- Assumes nothing.
use mathlib.Core.Path.{◌≡◌, refl, sym, ap, ap₂, ◌∙◌}
use mathlib.Core.Bool.{Bool, true, false, cond, ◌&&◌}
use mathlib.Core.List.{List, [], ◌∷◌, ◌++◌}
use Prim.Native.Nat.{ℕ, zero, suc, ◌+◌, ◌-◌, ◌*◌, ◌^◌, ◌≤◌, ◌<◌}
use native.Mathlib.Nat.{add-zero}
use native.Mathlib.Numerals.{sub-one}
use native.Mathlib.Omega.{arith}
use borrow.Author.Tests.{eq-eqb, ne_eqb, le-leb, lt-leb, lt-ltb, le-ltb}
use lib.Dec.{eqb, leb, ltb}
use lib.ListN.{length, get_or}
use Rattle.wire.specs.Wire.{part, more, number as number_of}
use Rattle.format.specs.Refusal.{one_of}
use Rattle.format.proofs.Tests.{one_skip, one_none, one_last}
use Rattle.map.specs.Map.{text, number, map, empty, has}
use Rattle.map.proofs.Laws.{length_part}
use Rattle.map.proofs.KeyLaws.{part_cons, part_none}
use Rattle.map_reader.specs.Read.{Bytes, text_stop, text_of, says, says_more, other_wrong, no_text_refusal, Seen, refused, stopped, closed_map, value_in, key_wrong, joined, map_entries_in, inside, map_read_at, value_read_at}
use Rattle.map_reader.proofs.Places.{more_is, part_bytes}

-- a text
module _ (b : List ℕ) (p : ℕ) {mark len : ℕ} (m : mark ≡ get_or b p 0) (l : len ≡ get_or b (p + 1) 0) where
  pub text_yes : mark ≡ 0x55 → p + 2 + len ≤ length b → p + 2 + len ≡ text_stop b p
  unfolding text_stop
  text_yes e h = rw (l, eq-eqb (get_or b p 0) 0x55 (sym m ∙ e), le-leb (p + 2 + get_or b (p + 1) 0) (length b) (omega arith))

  pub text_cut : length b < p + 2 + len → 0 ≡ text_stop b p
  unfolding text_stop
  text_cut h = go (eqb (get_or b p 0) 0x55)
    where
      go : (t : Bool) → 0 ≡ cond t (cond (leb (p + 2 + get_or b (p + 1) 0) (length b)) (p + 2 + get_or b (p + 1) 0) 0) 0
      go true = rw (lt-leb (p + 2 + get_or b (p + 1) 0) (length b) (omega arith))
      go false = refl

pub text_no : (b : List ℕ) (p : ℕ) {mark : ℕ} → mark ≡ get_or b p 0 → (mark ≡ 0x55 → ⊥) → 0 ≡ text_stop b p
unfolding text_stop
text_no b p m n = rw (ne_eqb (get_or b p 0) 0x55 (λ e. n (m ∙ e)))

-- a length by another mark
module _ (b : List ℕ) (p w : ℕ) where
  pub long_cut : length b < p + 1 + w → false ≡ says b p w
  unfolding says
  long_cut h = rw (lt-leb (p + 1 + w) (length b) h)

  module _ (h : p + 1 + w ≤ length b) where
    pub long_negative : 128 ≤ get_or b (p + 1) 0 → false ≡ says b p w
    unfolding says
    long_negative n = rw (le-leb (p + 1 + w) (length b) h, le-ltb (get_or b (p + 1) 0) 128 n)

    pub long_is : {v : ℕ} → get_or b (p + 1) 0 < 128 → v ≡ number_of (part b (p + 1) w) → ltb 255 v ≡ says b p w
    unfolding says
    long_is n e = rw (le-leb (p + 1 + w) (length b) h, lt-ltb (get_or b (p + 1) 0) 128 n, e)

more_parts : (b : List ℕ) (m n x a : ℕ) → x + m ≤ length b → more a (part b x (m + n)) ≡ more (more a (part b x m)) (part b (x + m) n)
unfolding more
more_parts b zero n x a h =
    let z : 0 + n ≡ n = omega arith in
    ap (λ k. more a (part b x k)) z ∙ ap₂ (λ (k : ℕ) (l : List ℕ). more (more a l) (part b k n)) (sym (add-zero x)) (sym (part_none b x))
more_parts b (suc m) n x a h =
    let s : suc m + n ≡ suc (m + n) = omega arith in
    let t : x + 1 + m ≡ x + suc m = omega arith in
    ap (λ k. more a (part b x k)) s ∙ ap (more a) (part_cons b x (m + n) (omega arith)) ∙ more_parts b m n (x + 1) (a * 256 + get_or b x 0) (omega arith)
    ∙ ap₂ (λ (k : ℕ) (l : List ℕ). more (more a l) (part b k n)) t (sym (part_cons b x m (omega arith)))

eight_is : (b : List ℕ) (p : ℕ) → Bytes b → p + 1 + 8 ≤ length b → number_of (part b (p + 1) 8) ≡ number_of (part b (p + 1) 4) * 256 ^ 4 + number_of (part b (p + 5) 4)
eight_is b p h l =
    let four : p + 1 + 4 ≡ p + 5 = omega arith in
    more_parts b 4 4 (p + 1) 0 (omega arith) ∙ (more_is (number_of (part b (p + 1) 4)) (part b (p + 1 + 4) 4) (part_bytes b (p + 1 + 4) 4 h)).0
    ∙ ap₂ (λ (k n : ℕ). number_of (part b (p + 1) 4) * 256 ^ n + number_of (part b k 4)) four (length_part b (p + 1 + 4) 4 (omega arith))

module _ (b : List ℕ) (p : ℕ) (h : Bytes b) (l : p + 1 + 8 ≤ length b) (s : get_or b (p + 1) 0 < 128) {u : ℕ} (eu : u ≡ number_of (part b (p + 1) 4)) where
  pub longer_high : 0 < u → true ≡ says b p 8
  longer_high n = sym (lt-ltb 255 (number_of (part b (p + 1) 8)) (omega (arith, eight_is b p h l, eu))) ∙ long_is b p 8 l s refl

  pub longer_low : {v : ℕ} → u ≤ 0 → v ≡ number_of (part b (p + 5) 4) → ltb 255 v ≡ says b p 8
  longer_low {v} n ev = let e : v ≡ number_of (part b (p + 1) 8) = omega (arith, eight_is b p h l, eu, ev) in long_is b p 8 l s e

first_of : {r : Bool} (t : Bool) (ts : List Bool) → r ≡ t → false ≡ one_of ts → r ≡ one_of (t ∷ ts)
unfolding one_of
first_of true ts e f = e
first_of false ts e f = e ∙ f

module _ (b : List ℕ) (p : ℕ) {mark : ℕ} (m : mark ≡ get_or b p 0) where
  is : (n : ℕ) → mark ≡ n → eqb (get_or b p 0) n ≡ true
  is n e = eq-eqb (get_or b p 0) n (sym m ∙ e)

  is_not : (n : ℕ) → (mark ≡ n → ⊥) → eqb (get_or b p 0) n ≡ false
  is_not n x = ne_eqb (get_or b p 0) n (λ q. x (m ∙ q))

  other_mark : (n w : ℕ) → (mark ≡ n → ⊥) → (eqb (get_or b p 0) n && says b p w) ≡ false
  other_mark n w x = ap (λ t. t && says b p w) (is_not n x)

  this_mark : (n w : ℕ) {r : Bool} → mark ≡ n → r ≡ says b p w → r ≡ (eqb (get_or b p 0) n && says b p w)
  this_mark n w e f = f ∙ sym (ap (λ t. t && says b p w) (is n e))

  pub more_two : {r : Bool} → mark ≡ 0x49 → r ≡ says b p 2 → r ≡ says_more b p
  unfolding says_more
  more_two e f =
      first_of _ _ (this_mark 0x49 2 e f) (one_skip false _ _ (other_mark 0x6c 4 (λ q. absurd (omega (arith, q, e)))) (one_skip false _ _ (other_mark 0x4c 8 (λ q. absurd (omega (arith, q, e)))) one_none))

  module _ (n1 : mark ≡ 0x49 → ⊥) where
    pub more_four : {r : Bool} → mark ≡ 0x6c → r ≡ says b p 4 → r ≡ says_more b p
    unfolding says_more
    more_four {r} e f = one_skip r _ _ (other_mark 0x49 2 n1) (first_of _ _ (this_mark 0x6c 4 e f) (one_skip false _ _ (other_mark 0x4c 8 (λ q. absurd (omega (arith, q, e)))) one_none))

    module _ (n2 : mark ≡ 0x6c → ⊥) where
      pub more_eight : {r : Bool} → mark ≡ 0x4c → r ≡ says b p 8 → r ≡ says_more b p
      unfolding says_more
      more_eight {r} e f = one_skip r _ _ (other_mark 0x49 2 n1) (one_skip r _ _ (other_mark 0x6c 4 n2) (one_last r _ (this_mark 0x4c 8 e f)))

      pub more_none : (mark ≡ 0x4c → ⊥) → false ≡ says_more b p
      unfolding says_more
      more_none n3 = one_skip false _ _ (other_mark 0x49 2 n1) (one_skip false _ _ (other_mark 0x6c 4 n2) (one_skip false _ _ (other_mark 0x4c 8 n3) one_none))

module _ (b : List ℕ) (p : ℕ) {r : Bool} (e : r ≡ says_more b p) where
  pub other_long : r ≡ true → (21 ≡ other_wrong b p) × (0 < 21)
  unfolding other_wrong
  other_long t = (rw (← e, t), omega arith)

  pub other_bad : r ≡ false → (23 ≡ other_wrong b p) × (0 < 23)
  unfolding other_wrong
  other_bad f = (rw (← e, f), omega arith)

pub other_some : (b : List ℕ) (p : ℕ) → other_wrong b p ≡ 0 → ⊥
unfolding other_wrong
other_some b p = go (says_more b p)
  where
    go : (t : Bool) → ◌≡◌ {A = ℕ} (cond t 21 23) 0 → ⊥
    go true e = absurd (omega arith)
    go false e = absurd (omega arith)

module _ (b : List ℕ) (p : ℕ) {mark : ℕ} (m : mark ≡ get_or b p 0) where
  pub text_short : mark ≡ 0x55 → (23 ≡ no_text_refusal b p) × (0 < 23)
  unfolding no_text_refusal
  text_short e = (rw (eq-eqb (get_or b p 0) 0x55 (sym m ∙ e)), omega arith)

  pub text_other : {r : ℕ} → (mark ≡ 0x55 → ⊥) → r ≡ other_wrong b p → r ≡ no_text_refusal b p
  unfolding no_text_refusal
  text_other n e = rw (ne_eqb (get_or b p 0) 0x55 (λ q. n (m ∙ q)), e)

pub text_some : (b : List ℕ) (p : ℕ) → no_text_refusal b p ≡ 0 → ⊥
unfolding no_text_refusal
text_some b p = go (eqb (get_or b p 0) 0x55)
  where
    go : (t : Bool) → cond t 23 (other_wrong b p) ≡ 0 → ⊥
    go true e = absurd (omega arith)
    go false e = other_some b p e

-- a value, by its mark
module _ (b : List ℕ) (d p : ℕ) {mark : ℕ} (m : mark ≡ get_or b p 0) where
  pub value_text : {s : ℕ} → mark ≡ 0x53 → s ≡ text_stop b (p + 1) → (s ≡ 0 → ⊥) → value_read_at b d p ≡ record { value = text (text_of b (p + 1)); stop = s; refusal = 0 }
  unfolding value_in
  value_text e s n = rw (eq-eqb (get_or b p 0) 0x53 (sym m ∙ e), ne_eqb (text_stop b (p + 1)) 0 (λ z. n (s ∙ z)), s)

  pub value_no_text : {s r : ℕ} → mark ≡ 0x53 → s ≡ text_stop b (p + 1) → s ≡ 0 → r ≡ no_text_refusal b (p + 1) → value_read_at b d p ≡ refused r (p + 1)
  unfolding value_in
  value_no_text e s z er = rw (eq-eqb (get_or b p 0) 0x53 (sym m ∙ e), eq-eqb (text_stop b (p + 1)) 0 (sym s ∙ z), er)

  module _ (n1 : mark ≡ 0x53 → ⊥) where
    pub value_number : mark ≡ 0x6c → p + 5 ≤ length b → value_read_at b d p ≡ record { value = number (number_of (part b (p + 1) 4)); stop = p + 5; refusal = 0 }
    unfolding value_in
    value_number e h = rw (ne_eqb (get_or b p 0) 0x53 (λ q. n1 (m ∙ q)), eq-eqb (get_or b p 0) 0x6c (sym m ∙ e), le-leb (p + 5) (length b) h)

    pub value_no_number : mark ≡ 0x6c → length b < p + 5 → value_read_at b d p ≡ refused 23 p
    unfolding value_in
    value_no_number e h = rw (ne_eqb (get_or b p 0) 0x53 (λ q. n1 (m ∙ q)), eq-eqb (get_or b p 0) 0x6c (sym m ∙ e), lt-leb (p + 5) (length b) h)

    module _ (n2 : mark ≡ 0x6c → ⊥) where
      pub value_none : (mark ≡ 0x7b → ⊥) → value_read_at b d p ≡ refused 23 p
      unfolding value_in
      value_none n3 = rw (ne_eqb (get_or b p 0) 0x53 (λ q. n1 (m ∙ q)), ne_eqb (get_or b p 0) 0x6c (λ q. n2 (m ∙ q)), ne_eqb (get_or b p 0) 0x7b (λ q. n3 (m ∙ q)))

      pub value_map : mark ≡ 0x7b → value_read_at b d p ≡ closed_map b (inside b d p)
      unfolding value_in
      value_map e = rw (ne_eqb (get_or b p 0) 0x53 (λ q. n1 (m ∙ q)), ne_eqb (get_or b p 0) 0x6c (λ q. n2 (m ∙ q)), eq-eqb (get_or b p 0) 0x7b (sym m ∙ e))

-- maps inside
pub inside_none : (b : List ℕ) (d p : ℕ) → d ≡ 0 → inside b d p ≡ stopped 20 p
unfolding inside
inside_none b d p e = rw e

pub inside_is : (b : List ℕ) (d p : ℕ) → (d ≡ 0 → ⊥) → inside b d p ≡ map_read_at b (d - 1) (p + 1)
unfolding inside
inside_is b zero p n = absurd (n refl)
inside_is b (suc d) p n = rw sub-one

module _ (b : List ℕ) (g : Seen) {r s : ℕ} (er : r ≡ g.refusal) (es : s ≡ g.stop) where
  pub closed_refused : (r ≡ 0 → ⊥) → closed_map b g ≡ refused r s
  unfolding closed_map
  closed_refused n = rw (er, es, ne_eqb g.refusal 0 (λ q. n (er ∙ q)))

  pub closed_open : {mark x : ℕ} → r ≡ 0 → mark ≡ get_or b s 0 → (mark ≡ 0x7d → ⊥) → x ≡ other_wrong b s → closed_map b g ≡ refused x s
  unfolding closed_map
  closed_open z m n e = rw (eq-eqb g.refusal 0 (sym er ∙ z), ne_eqb (get_or b g.stop 0) 0x7d (λ q. n (m ∙ ap (λ k. get_or b k 0) es ∙ q)), e, es)

  pub closed_yes : {mark : ℕ} → r ≡ 0 → mark ≡ get_or b s 0 → mark ≡ 0x7d → closed_map b g ≡ record { value = map g.map; stop = s + 1; refusal = 0 }
  unfolding closed_map
  closed_yes z m e = rw (eq-eqb g.refusal 0 (sym er ∙ z), eq-eqb (get_or b g.stop 0) 0x7d (sym (ap (λ k. get_or b k 0) es) ∙ sym m ∙ e), es)

module _ (b : List ℕ) (d p : ℕ) {mark : ℕ} (m : mark ≡ get_or b p 0) (n1 : mark ≡ 0x53 → ⊥) (n2 : mark ≡ 0x6c → ⊥) (e : mark ≡ 0x7b) where
  pub map_deep : d ≡ 0 → value_read_at b d p ≡ refused 20 p
  unfolding closed_map
  map_deep z = value_map b d p m n1 n2 e ∙ ap (closed_map b) (inside_none b d p z)

  module _ (n : d ≡ 0 → ⊥) {r s : ℕ} (er : r ≡ (map_read_at b (d - 1) (p + 1)).refusal) (es : s ≡ (map_read_at b (d - 1) (p + 1)).stop) where
    pub map_here : value_read_at b d p ≡ closed_map b (map_read_at b (d - 1) (p + 1))
    map_here = value_map b d p m n1 n2 e ∙ ap (closed_map b) (inside_is b d p n)

    pub map_refused : (r ≡ 0 → ⊥) → value_read_at b d p ≡ refused r s
    map_refused q = map_here ∙ closed_refused b _ er es q

    pub map_open : {k x : ℕ} → r ≡ 0 → k ≡ get_or b s 0 → (k ≡ 0x7d → ⊥) → x ≡ other_wrong b s → value_read_at b d p ≡ refused x s
    map_open z k q f = map_here ∙ closed_open b _ er es z k q f

    pub map_closed : {k : ℕ} → r ≡ 0 → k ≡ get_or b s 0 → k ≡ 0x7d → value_read_at b d p ≡ record { value = map (map_read_at b (d - 1) (p + 1)).map; stop = s + 1; refusal = 0 }
    map_closed z k q = map_here ∙ closed_yes b _ er es z k q

-- entries: nothing more at p, or a text, and then a value
module _ (inner : ℕ → Seen) (b : List ℕ) (keys : List (List ℕ)) (most p : ℕ) where
  pub entries_none : (get_or b p 0 ≡ 0x55 → ⊥) → map_entries_in inner b keys (suc most) p ≡ record { map = empty; stop = p; refusal = 0 }
  unfolding map_entries_in
  entries_none n = rw (ne_eqb (get_or b p 0) 0x55 n)

  module _ (e : get_or b p 0 ≡ 0x55) where
    pub entries_cut : text_stop b p ≡ 0 → map_entries_in inner b keys (suc most) p ≡ stopped 23 p
    unfolding map_entries_in key_wrong
    entries_cut z = rw (eq-eqb (get_or b p 0) 0x55 e, eq-eqb (text_stop b p) 0 z)

    module _ (n : text_stop b p ≡ 0 → ⊥) where
      pub entries_twice : has keys (text_of b p) ≡ true → map_entries_in inner b keys (suc most) p ≡ stopped 22 p
      unfolding map_entries_in key_wrong
      entries_twice t = rw (eq-eqb (get_or b p 0) 0x55 e, ne_eqb (text_stop b p) 0 n, t)

      module _ (f : has keys (text_of b p) ≡ false) where
        pub entries_bad : ((value_in inner b (text_stop b p)).refusal ≡ 0 → ⊥)
            → map_entries_in inner b keys (suc most) p ≡ stopped (value_in inner b (text_stop b p)).refusal (value_in inner b (text_stop b p)).stop
        unfolding map_entries_in key_wrong
        entries_bad q = rw (eq-eqb (get_or b p 0) 0x55 e, ne_eqb (text_stop b p) 0 n, f, ne_eqb (value_in inner b (text_stop b p)).refusal 0 q)

        pub entries_more : (value_in inner b (text_stop b p)).refusal ≡ 0 → map_entries_in inner b keys (suc most) p
            ≡ joined (text_of b p) (value_in inner b (text_stop b p)) (map_entries_in inner b (keys ++ (text_of b p ∷ [])) most (value_in inner b (text_stop b p)).stop)
        unfolding map_entries_in key_wrong
        entries_more q = rw (eq-eqb (get_or b p 0) 0x55 e, ne_eqb (text_stop b p) 0 n, f, eq-eqb (value_in inner b (text_stop b p)).refusal 0 q)

-- The events between two places of a file, from the first on: what its bytes say of the next one, and that there are no others.
-- Assumes nothing.
use mathlib.Core.Path.{◌≡◌, refl, sym, ap, ap₂, subst, ◌∙◌}
use mathlib.Core.List.{List, [], ◌∷◌, ◌++◌, append_assoc}
use Prim.Native.Nat.{ℕ, suc, ◌+◌, ◌≤◌, ◌<◌}
use native.Mathlib.Nat.{add-zero}
use native.Mathlib.Omega.{arith}
use lib.ListN.{length, get_or, take, drop, length-append, get_or-append}
use lib.Seq.{get_or-drop, drop-drop, drop_at, take_at, take-append-le}
use Rattle.wire.specs.Wire.{number, part}
use Rattle.format.specs.File.{Ev, event_bytes, events_bytes}
use Rattle.grammar.specs.WellFormed.{Each}
use Rattle.grammar.specs.Machine.{id_in, port_in, follower_in, said_by}
use Rattle.read_scan.specs.Inner.{said_at, span_at}
use Rattle.read_judge.specs.Inner.{Covers}
use Rattle.newer_events.specs.Some.{SomeCovers}

pub events_both : (xs ys : List Ev) → events_bytes (xs ++ ys) ≡ events_bytes xs ++ events_bytes ys
unfolding events_bytes
events_both [] ys = refl
events_both (x ∷ xs) ys = ap (λ (l : List ℕ). event_bytes x ++ l) (events_both xs ys) ∙ sym (append_assoc (event_bytes x) (events_bytes xs) (events_bytes ys))

-- as many bytes as both have
pub length_both : (xs ys : List Ev) → length (events_bytes (xs ++ ys)) ≡ length (events_bytes xs) + length (events_bytes ys)
length_both xs ys = ap length (events_both xs ys) ∙ length-append (events_bytes xs) (events_bytes ys)

pub length_next : (e : Ev) (es : List Ev) → length (events_bytes (e ∷ es)) ≡ suc (length e.payload) + length (events_bytes es)
unfolding events_bytes
length_next e es = length-append (event_bytes e) (events_bytes es)

module _ (f spans : List ℕ) (place stop : ℕ) where
  -- ---- the first event, and those behind it

  module _ (e : Ev) (es : List Ev) (c : Covers f spans place stop (e ∷ es)) where
    abbrev behind : List ℕ
    behind = events_bytes es ++ drop stop f

    here : drop place f ≡ event_bytes e ++ behind
    unfolding events_bytes
    here = c.bytes_are ∙ append_assoc (event_bytes e) (events_bytes es) (drop stop f)

    pub next_covers : Covers f spans (place + suc (length e.payload)) stop es
    unfolding Each
    next_covers = record {
      bytes_are = sym (drop-drop (suc (length e.payload)) place f) ∙ ap (drop (suc (length e.payload))) here ∙ drop_at (event_bytes e) behind (suc (length e.payload)) refl;
      long = omega (arith, c.long, length_next e es);
      spanned = c.spanned.1;
      bytes = c.bytes.1;
    }

    -- it is whole before stop
    pub ends_before : place + suc (length e.payload) ≤ stop
    ends_before = omega (arith, next_covers.long)

    there : drop (place + 1) f ≡ e.payload ++ behind
    there = sym (drop-drop 1 place f) ∙ ap (drop 1) here

    -- its payload stands behind its code
    pub payload_stands : part f (place + 1) (length e.payload) ≡ e.payload
    unfolding part
    payload_stands = ap (take (length e.payload)) there ∙ take_at e.payload behind (length e.payload) refl

    -- and so does the front of it
    pub front_stands : (n : ℕ) → n ≤ length e.payload → part f (place + 1) n ≡ take n e.payload
    unfolding part
    front_stands n h = ap (take n) there ∙ take-append-le n e.payload behind h

    pub byte_stands : (k : ℕ) → k < length e.payload → get_or f (place + 1 + k) 0 ≡ get_or e.payload k 0
    byte_stands k h = sym (get_or-drop (place + 1) f k 0) ∙ ap (λ (l : List ℕ). get_or l k 0) there ∙ get_or-append e.payload behind 0 k h

    pub code_stands : get_or f place 0 ≡ e.code
    code_stands = ap (λ (n : ℕ). get_or f n 0) (sym (add-zero place)) ∙ sym (get_or-drop place f 0 0) ∙ ap (λ (l : List ℕ). get_or l 0 0) here

    -- as many bytes as the table says
    pub span_stands : span_at spans f place ≡ suc (length e.payload)
    unfolding Each
    span_stands = ap (λ (n : ℕ). get_or spans n 0) code_stands ∙ c.spanned.0

    pub id_stands : 4 ≤ length e.payload → number (part f (place + 1) 4) ≡ id_in e
    id_stands h = ap number (front_stands 4 h)

    pub port_stands : 5 ≤ length e.payload → get_or f (place + 5) 0 ≡ port_in e
    port_stands h = let z : place + 5 ≡ place + 1 + 4 = omega arith in ap (λ (n : ℕ). get_or f n 0) z ∙ byte_stands 4 (omega arith)

    pub follower_stands : 6 ≤ length e.payload → get_or f (place + 6) 0 ≡ follower_in e
    follower_stands h = let z : place + 6 ≡ place + 1 + 5 = omega arith in ap (λ (n : ℕ). get_or f n 0) z ∙ byte_stands 5 (omega arith)

    pub said_stands : 6 ≤ length e.payload → said_at f place ≡ said_by e
    said_stands h = λ z. record { id = id_stands (omega arith) z; port = port_stands (omega arith) z; follower = follower_stands h z }

  -- ---- where there is one

  -- the first of the events, and those behind it
  pub record First (es : List Ev) : Type 0 where
    pub event : Ev
    pub others : List Ev
    pub events_are : es ≡ event ∷ others
    pub covers : Covers f spans place stop (event ∷ others)

  pub first_event : (es : List Ev) → Covers f spans place stop es → place < stop → First es
  unfolding events_bytes
  first_event [] c h = absurd (omega (arith, c.long))
  first_event (e ∷ es) c h = record { event = e; others = es; events_are = refl; covers = c }

  pub no_event : (es : List Ev) → Covers f spans place stop es → stop ≤ place → es ≡ []
  unfolding events_bytes
  no_event [] c h = refl
  no_event (e ∷ es) c h = absurd (omega (arith, c.long, length_next e es))

  -- stop is not before the place
  pub place_before : (es : List Ev) → Covers f spans place stop es → place ≤ stop
  place_before es c = omega (arith, c.long)

-- ---- parts of the events

pub covers_part : (f spans : List ℕ) (place stop : ℕ) (xs ys : List Ev) → Covers f spans place stop (xs ++ ys) → Covers f spans (place + length (events_bytes xs)) stop ys
unfolding events_bytes
covers_part f spans place stop [] ys c =
    let z : place ≡ place + 0 = omega arith in
    subst (λ (n : ℕ). Covers f spans n stop ys) z c
covers_part f spans place stop (x ∷ xs) ys c =
    let z : place + suc (length x.payload) + length (events_bytes xs) ≡ place + length (events_bytes (x ∷ xs)) = omega (arith, length_next x xs) in
    subst (λ (n : ℕ). Covers f spans n stop ys) z (covers_part f spans (place + suc (length x.payload)) stop xs ys (next_covers f spans place stop x (xs ++ ys) c))

-- ---- there are no others

same_event : (a b : Ev) → a.code ≡ b.code → a.payload ≡ b.payload → a ≡ b
same_event a b p q = λ i. record { code = p i; payload = q i }

pub same_covers : (f spans : List ℕ) (place stop : ℕ) (xs ys : List Ev) → Covers f spans place stop xs → Covers f spans place stop ys → xs ≡ ys
unfolding events_bytes
same_covers f spans place stop [] ys c d = sym (no_event f spans place stop ys d (omega (arith, c.long)))
same_covers f spans place stop (x ∷ xs) [] c d = absurd (omega (arith, d.long, c.long, length_next x xs))
same_covers f spans place stop (x ∷ xs) (y ∷ ys) c d =
    let l : length x.payload ≡ length y.payload = omega (arith, span_stands f spans place stop x xs c, span_stands f spans place stop y ys d) in
    let p = sym (payload_stands f spans place stop x xs c) ∙ ap (part f (place + 1)) l ∙ payload_stands f spans place stop y ys d in
    let same = same_event x y (sym (code_stands f spans place stop x xs c) ∙ code_stands f spans place stop y ys d) p in
    let n : place + suc (length y.payload) ≡ place + suc (length x.payload) = omega (arith, l) in
    let others =
    same_covers f spans (place + suc (length x.payload)) stop xs ys (next_covers f spans place stop x xs c) (subst (λ (k : ℕ). Covers f spans k stop ys) n (next_covers f spans place stop y ys d)) in
    ap₂ (λ (e : Ev) (es : List Ev). e ∷ es) same others

-- what holds of those that some are holds of all
pub of_all : (P : List Ev → Type 0) (f spans : List ℕ) (place stop : ℕ) (some : SomeCovers f spans place stop) → P some.raw → (raw : List Ev) → Covers f spans place stop raw → P raw
of_all P f spans place stop some p raw c = subst P (same_covers f spans place stop some.raw raw some.covers c) p

-- Places among events, unknown ones of which are passed over.
-- Assumes nothing.
use Prim.Native.Nat.{ℕ, suc, ◌+◌, ◌≤◌, ◌<◌}
use mathlib.Core.Path.{◌≡◌, refl, sym, ap, subst, ◌∙◌}
use mathlib.Core.Bool.{Bool, true, false}
use mathlib.Core.List.{List, [], ◌∷◌, ◌++◌, append_assoc}
use native.Mathlib.Omega.{arith}
use lib.ListN.{length, get_or, take, drop, length-drop, get_or-append, take-append-drop}
use lib.Seq.{get_or-drop, drop-drop, take-append-le, drop-append-le}
use Rattle.wire.specs.Wire.{part}
use Rattle.format.specs.File.{Ev, event_bytes, events_bytes}
use Rattle.format.specs.declared.version.Version.{Version}
use Rattle.grammar.specs.WellFormed.{Each}
use Rattle.read_judge.specs.Inner.{Covers}
use Rattle.known.specs.Known.{is_known, known_size, front, known_of}
use Rattle.known.proofs.Codes.{unknown_one, known_both}
use Rattle.newer_events.specs.Some.{SomeCovers}
use Rattle.newer_events.proofs.Events.{next_covers, code_stands, span_stands, covers_part, length_both, length_next, place_before}
use Rattle.newer_codes.specs.Places.{Laid, FirstKnown, Passed}

-- ---- the first of the events that cover a part of a file

module _ (file spans : List ℕ) (at stop : ℕ) (e : Ev) (es : List Ev) (c : Covers file spans at stop (e ∷ es)) where
  pub span_is : get_or spans e.code 0 ≡ suc (length e.payload)
  unfolding Each
  span_is = c.spanned.0

  -- what is known of it stands behind its code
  module _ (v : Version) where
    abbrev behind : List ℕ
    behind = drop (known_size v e) e.payload ++ (events_bytes es ++ drop stop file)

    known_here : drop at file ≡ e.code ∷ ((front v e).payload ++ behind)
    unfolding events_bytes
    known_here =
        c.bytes_are
        ∙ append_assoc (event_bytes e) (events_bytes es) (drop stop file)
        ∙ ap (λ (l : List ℕ). e.code ∷ (l ++ (events_bytes es ++ drop stop file))) (sym (take-append-drop (known_size v e) e.payload))
        ∙ ap (λ (l : List ℕ). e.code ∷ l) (append_assoc (front v e).payload (drop (known_size v e) e.payload) (events_bytes es ++ drop stop file))

    pub byte_at : (k : ℕ) → k < length (front v e).payload → get_or file (at + suc k) 0 ≡ get_or (front v e).payload k 0
    byte_at k l = sym (get_or-drop at file (suc k) 0) ∙ ap (λ (l : List ℕ). get_or l (suc k) 0) known_here ∙ get_or-append (front v e).payload behind 0 k l

    pub part_at : (k n : ℕ) → k + n ≤ length (front v e).payload → part file (at + suc k) n ≡ part (front v e).payload k n
    unfolding part
    part_at k n l =
        ap (take n) (sym (drop-drop (suc k) at file) ∙ ap (drop (suc k)) known_here ∙ drop-append-le k (front v e).payload behind (omega arith))
        ∙ take-append-le n (drop k (front v e).payload) behind (omega (arith, length-drop k (front v e).payload))

-- ---- events in two parts

module _ (file spans : List ℕ) (stop : ℕ) where
  -- the rest, from where it begins
  pub rest_covers : (at : ℕ) (raw xs ys : List Ev) (place : ℕ) → Covers file spans at stop raw → raw ≡ xs ++ ys → place ≡ at + length (events_bytes xs) → Covers file spans place stop ys
  rest_covers at raw xs ys place c q p = subst (λ (n : ℕ). Covers file spans n stop ys) (sym p) (covers_part file spans at stop xs ys (subst (λ (l : List Ev). Covers file spans at stop l) q c))

  -- ---- a place from which events go to stop

  module _ (at : ℕ) where
    event_in_lem : (raw : List Ev) → Covers file spans at stop raw → at < stop
        → (1 ≤ get_or spans (get_or file at 0) 0) × (at + get_or spans (get_or file at 0) 0 ≤ stop) × SomeCovers file spans (at + get_or spans (get_or file at 0) 0) stop
    unfolding events_bytes
    event_in_lem [] c l = absurd (omega (arith, c.long))
    event_in_lem (e ∷ es) c l =
        let s = span_stands file spans at stop e es c in
        let z : at + suc (length e.payload) ≡ at + get_or spans (get_or file at 0) 0 = omega (arith, s) in (
          omega (arith, s),
          omega (arith, s, (next_covers file spans at stop e es c).long),
          record { raw = es; covers = subst (λ (n : ℕ). Covers file spans n stop es) z (next_covers file spans at stop e es c) },
        )

    module _ (laid : Laid file spans at stop) where
      pub laid_under : at ≤ stop
      laid_under = place_before file spans at stop laid.some.raw laid.some.covers

      module _ (l : at < stop) where
        pub laid_span : (1 ≤ get_or spans (get_or file at 0) 0) × (at + get_or spans (get_or file at 0) 0 ≤ stop)
        laid_span = let (a, b, c) = event_in_lem laid.some.raw laid.some.covers l in (a, b)

        pub laid_next : (n : ℕ) → n ≡ get_or spans (get_or file at 0) 0 → Laid file spans (at + n) stop
        laid_next n q =
            let (a, b, c) = event_in_lem laid.some.raw laid.some.covers l in
            let z : at + get_or spans (get_or file at 0) 0 ≡ at + n = omega (arith, q) in
            record { some = subst (λ (p : ℕ). SomeCovers file spans p stop) z c; within = laid.within; all_codes = laid.all_codes }

-- ---- unknown events, one after another

pub record Passing (at : ℕ) (raw : List Ev) (place : ℕ) : Type 0 where
  pub odd : List Ev
  pub rest : List Ev
  pub parted : raw ≡ odd ++ rest
  pub place_is : place ≡ at + length (events_bytes odd)
  pub unknown : (v : Version) → known_of v odd ≡ []

pub pass_first : (at : ℕ) (raw : List Ev) → Passing at raw at
unfolding events_bytes known_of
pass_first at raw = record { odd = []; rest = raw; parted = refl; place_is = omega arith; unknown = λ v. refl }

module _ (file spans : List ℕ) (stop at : ℕ) (raw : List Ev) (c : Covers file spans at stop raw) (place : ℕ) where
  -- one more
  pass_more : (odd rest : List Ev) → raw ≡ odd ++ rest → place ≡ at + length (events_bytes odd) → ((v : Version) → known_of v odd ≡ []) → place < stop
      → is_known (get_or file place 0) ≡ false → (n : ℕ) → n ≡ get_or spans (get_or file place 0) 0 → Passing at raw (place + n)
  unfolding events_bytes known_of
  pass_more odd [] q p u l k n s = let d = rest_covers file spans stop at raw odd [] place c q p in absurd (omega (arith, d.long))
  pass_more odd (e ∷ es) q p u l k n s =
      let d = rest_covers file spans stop at raw odd (e ∷ es) place c q p in
      let code = code_stands file spans place stop e es d in
      let odd-one = sym (ap is_known code) ∙ k in
      record {
        odd = odd ++ (e ∷ []);
        rest = es;
        parted = q ∙ sym (append_assoc odd (e ∷ []) es);
        place_is =
            omega (arith, p, s, span_stands file spans place stop e es d, length_both odd (e ∷ []), length_next e []);
        unknown = λ v. known_both v odd (e ∷ []) ∙ ap (λ (l : List Ev). l ++ known_of v (e ∷ [])) (u v) ∙ unknown_one v e [] odd-one;
      }

  pub pass_next : Passing at raw place → place < stop → (b : Bool) → b ≡ is_known (get_or file place 0) → b ≡ false → (n : ℕ) → n ≡ get_or spans (get_or file place 0) 0 → Passing at raw (place + n)
  pass_next x l b b-is e n s = pass_more x.odd x.rest x.parted x.place_is x.unknown l (sym b-is ∙ e) n s

  -- up to one that is known
  first_known : (odd rest : List Ev) → raw ≡ odd ++ rest → place ≡ at + length (events_bytes odd) → is_known (get_or file place 0) ≡ true → FirstKnown rest
  first_known odd [] q p k = tt
  first_known odd (e ∷ es) q p k = let d = rest_covers file spans stop at raw odd (e ∷ es) place c q p in sym (ap is_known (code_stands file spans place stop e es d)) ∙ k

  -- or to the end
  none_left : (odd rest : List Ev) → raw ≡ odd ++ rest → place ≡ at + length (events_bytes odd) → stop ≤ place → FirstKnown rest
  unfolding events_bytes
  none_left odd [] q p l = tt
  none_left odd (e ∷ es) q p l = let d = rest_covers file spans stop at raw odd (e ∷ es) place c q p in absurd (omega (arith, (next_covers file spans place stop e es d).long))

  module _ (x : Passing at raw place) where
    passed : FirstKnown x.rest → Passed at raw place
    passed k = record { odd = x.odd; rest = x.rest; parted = x.parted; place_is = x.place_is; unknown = x.unknown; next = k }

    pub pass_known : (b : Bool) → b ≡ is_known (get_or file place 0) → b ≡ true → Passed at raw place
    pass_known b b-is e = passed (first_known x.odd x.rest x.parted x.place_is (sym b-is ∙ e))

    pub pass_end : stop ≤ place → Passed at raw place
    pass_end l = passed (none_left x.odd x.rest x.parted x.place_is l)

-- what was passed over is not known
pub passed_known : (v : Version) (at : ℕ) (raw : List Ev) (place : ℕ) (x : Passed at raw place) → known_of v raw ≡ known_of v x.rest
unfolding known_of
passed_known v at raw place x = ap (known_of v) x.parted ∙ known_both v x.odd x.rest ∙ ap (λ (l : List Ev). l ++ known_of v x.rest) (x.unknown v)

-- An end at a place: by its bytes, and by what is known of the event there.
-- Assumes nothing.
use Prim.Native.Nat.{ℕ, suc, ◌+◌, ◌≤◌, ◌<◌}
use mathlib.Core.Path.{◌≡◌, refl, sym, ap, ◌∙◌}
use mathlib.Core.Bool.{Bool, true, false, not, ◌&&◌}
use mathlib.Core.List.{List, ◌∷◌}
use native.Mathlib.Decide.{ℕ_discrete, dec_lt}
use native.Mathlib.Omega.{arith}
use borrow.Author.Tests.{lt-ltb, le-ltb, le-leb, lt-leb, eq-eqb, ne_eqb, ltb-true, eqb-true}
use lib.Dec.{ltb, eqb}
use lib.ListN.{length, get_or, length-take}
use lib.Seq.{take_all}
use Rattle.wire.specs.Wire.{part}
use Rattle.format.specs.File.{Ev}
use Rattle.format.specs.declared.version.Version.{Version}
use Rattle.layout.specs.Payloads.{end_size}
use Rattle.ending.specs.End.{initiator_wrong}
use Rattle.grammar.specs.Productions.{end_event}
use Rattle.grammar.specs.Machine.{family_of, on_family}
use Rattle.grammar.specs.Whole.{is_end}
use Rattle.grammar.proofs.Tests.{both}
use Rattle.read_outline.proofs.Laws.{size_six}
use Rattle.read_judge.specs.Inner.{Covers}
use Rattle.known.specs.Known.{is_newer, known_size, front}
use Rattle.known.proofs.Newest.{has_gate}
use Rattle.newer_events.proofs.Events.{next_covers, code_stands}
use Rattle.newer_codes.specs.Places.{Laid}
use Rattle.newer_codes.proofs.Places.{span_is, byte_at, part_at, laid_span, laid_next}
use Rattle.newer_ends.specs.Ends.{end_span, end_here, right_at}

pub six : (v : Version) → is_newer v ≡ true → end_size v ≡ 6
six v new = size_six v true (sym (has_gate v new 13 (omega arith))) refl

-- ---- by bytes

module _ (v : Version) (file spans : List ℕ) (stop at : ℕ) where
  pub end_none : stop ≤ at → false ≡ end_here v file spans stop at
  unfolding end_here
  end_none h = rw (le-ltb at stop h)

  module _ (l : at < stop) where
    pub end_other : (get_or file at 0 ≡ 0x39 → ⊥) → false ≡ end_here v file spans stop at
    unfolding end_here
    end_other h = rw (lt-ltb at stop l, ne_eqb (get_or file at 0) 0x39 h)

    pub end_as : get_or file at 0 ≡ 0x39 → (n span : ℕ) → n ≡ end_size v → span ≡ end_span spans → ltb n span ≡ end_here v file spans stop at
    unfolding end_here
    end_as c n span n-is span_is = rw (lt-ltb at stop l, eq-eqb (get_or file at 0) 0x39 c, n-is, span_is)

    -- it ends before stop
    pub end_inside : Laid file spans at stop → get_or file at 0 ≡ 0x39 → at + end_span spans ≤ stop
    end_inside d c = let q = ap (λ (n : ℕ). get_or spans n 0) c in omega (arith, (laid_span file spans stop at d l).1, q)

  pub here_parts : end_here v file spans stop at ≡ true → (at < stop) × (get_or file at 0 ≡ 0x39)
  unfolding end_here
  here_parts q =
      let (under, e) = both (ltb at stop) (eqb (get_or file at 0) 0x39 && ltb (end_size v) (end_span spans)) q in
      (ltb-true at stop under, eqb-true (get_or file at 0) 0x39 (both (eqb (get_or file at 0) 0x39) (ltb (end_size v) (end_span spans)) e).0)

  -- the next place is one among the events too
  pub end_next : Laid file spans at stop → (b : Bool) → b ≡ end_here v file spans stop at → b ≡ true → (span : ℕ) → span ≡ end_span spans → Laid file spans (at + span) stop
  end_next laid b b-is t span Span-of =
      let (under, code) = here_parts (sym b-is ∙ t) in
      laid_next file spans stop at laid under span (Span-of ∙ ap (λ (n : ℕ). get_or spans n 0) (sym code))

  module _ (b : Bool) (b-is : b ≡ end_here v file spans stop at) where
    pub right_none : b ≡ false → false ≡ right_at v file spans stop at
    unfolding right_at
    right_none e = rw (sym b-is ∙ e)

    module _ (e : b ≡ true) (i : ℕ) (i-is : i ≡ get_or file (at + 2) 0) where
      pub right_low : i ≤ 3 → true ≡ right_at v file spans stop at
      unfolding right_at initiator_wrong
      right_low l = rw (sym b-is ∙ e, ← i-is, le-leb i 3 l)

      pub right_as : 3 < i → eqb i 255 ≡ right_at v file spans stop at
      unfolding right_at initiator_wrong
      right_as l = rw (sym b-is ∙ e, ← i-is, lt-leb i 3 l) (go (eqb i 255))
        where
          go : (x : Bool) → x ≡ not (not x)
          go true = refl
          go false = refl

  pub right_end : right_at v file spans stop at ≡ true → end_here v file spans stop at ≡ true
  unfolding right_at
  right_end q = (both (end_here v file spans stop at) (not (initiator_wrong (get_or file (at + 2) 0))) q).0

  pub right_next : Laid file spans at stop → (b : Bool) → b ≡ right_at v file spans stop at → b ≡ true → (span : ℕ) → span ≡ end_span spans → Laid file spans (at + span) stop
  right_next laid b b-is t span Span-of = end_next laid true (sym (right_end (sym b-is ∙ t))) refl span Span-of

-- ---- by what is known of the event

pub end_size_lem : (v : Version) (e : Ev) → e.code ≡ 0x39 → known_size v e ≡ end_size v
unfolding known_size family_of on_family
end_size_lem v e c = rw c

and_false : (a : Bool) → (a && false) ≡ false
and_false true = refl
and_false false = refl

-- an end by its tests
pub end_parts_lem : (v : Version) (e : Ev) → is_end v e ≡ true → (e.code ≡ 0x39) × (length e.payload ≡ end_size v)
unfolding is_end
end_parts_lem v e q = let (a, b) = both (eqb e.code 0x39) (eqb (length e.payload) (end_size v)) q in (eqb-true e.code 0x39 a, eqb-true (length e.payload) (end_size v) b)

pub is_end_lem : (v : Version) (e : Ev) (p : List ℕ) → e ≡ end_event p → length p ≡ end_size v → is_end v e ≡ true
unfolding is_end
is_end_lem v e p q n =
    rw (eq-eqb e.code 0x39 (ap (λ (e : Ev). e.code) q), eq-eqb (length e.payload) (end_size v) (ap (λ (e : Ev). length e.payload) q ∙ n))

module _ (v : Version) (file spans : List ℕ) (stop at : ℕ) (e : Ev) (es : List Ev) (c : Covers file spans at stop (e ∷ es)) where
  abbrev known : Ev
  known = front v e

  pub end_here_lem : end_here v file spans stop at ≡ is_end v known
  unfolding end_here is_end
  end_here_lem =
      let inside = (next_covers file spans at stop e es c).long in
      let code = code_stands file spans at stop e es c in
      elim (ℕ_discrete e.code 0x39) [
        | yes k ↦
            let span : end_span spans ≡ suc (length e.payload) = ap (λ (n : ℕ). get_or spans n 0) (sym k) ∙ span_is file spans at stop e es c in
            let size = length-take (known_size v e) e.payload in
            let most = end_size_lem v e k in
            elim (dec_lt (length e.payload) (end_size v)) [
              | yes n ↦
                  rw (
                    lt-ltb at stop (omega (arith, inside)),
                    eq-eqb (get_or file at 0) 0x39 (code ∙ k),
                    eq-eqb e.code 0x39 k,
                    le-ltb (end_size v) (end_span spans) (omega (arith, span, n)),
                    ne_eqb (length known.payload) (end_size v) (λ q. omega (arith, size, most, n, q)),
                  )
              | no n ↦
                  rw (
                    lt-ltb at stop (omega (arith, inside)),
                    eq-eqb (get_or file at 0) 0x39 (code ∙ k),
                    eq-eqb e.code 0x39 k,
                    lt-ltb (end_size v) (end_span spans) (omega (arith, span, n)),
                    eq-eqb (length known.payload) (end_size v) (omega (arith, size, most, n)),
                  )
            ]
        | no k ↦ rw (ne_eqb (get_or file at 0) 0x39 (λ q. k (sym code ∙ q)), ne_eqb e.code 0x39 k) (and_false (ltb at stop))
      ]

  -- its known payload stands behind its code
  pub payload_here : is_end v known ≡ true → part file (at + 1) (end_size v) ≡ known.payload
  unfolding part
  payload_here q =
      let n = (end_parts_lem v known q).1 in
      part_at file spans at stop e es c v 0 (end_size v) (omega (arith, n)) ∙ take_all (end_size v) known.payload (omega (arith, n))

  pub right_here : is_newer v ≡ true → (b : Bool) → is_end v known ≡ b → right_at v file spans stop at ≡ (b && not (initiator_wrong (get_or known.payload 1 0)))
  unfolding right_at
  right_here new true q = rw (end_here_lem ∙ q, byte_at file spans at stop e es c v 1 (omega (arith, (end_parts_lem v known q).1, six v new)))
  right_here new false q = rw (end_here_lem ∙ q)

  -- as many bytes as the table says
  pub span_here_lem : is_end v known ≡ true → end_span spans ≡ suc (length e.payload)
  span_here_lem q = ap (λ (n : ℕ). get_or spans n 0) (sym (end_parts_lem v known q).0) ∙ span_is file spans at stop e es c

-- Which ends are known, behind unknown events: none, one, two that are alike, or none that are good.
-- Assumes nothing.
use Prim.Native.Nat.{ℕ, suc, ◌+◌, ◌≤◌}
use mathlib.Core.Path.{◌≡◌, refl, sym, ap, subst, ◌∙◌}
use mathlib.Core.Bool.{Bool, true, false, not, ◌&&◌}
use mathlib.Core.List.{List, [], ◌∷◌, map, head-eq_of_cons-eq, tail-eq_of_cons-eq, cons≢nil}
use native.Mathlib.Omega.{arith}
use borrow.Author.Tests.{eqb-true, eq-eqb}
use lib.Dec.{eqb}
use lib.ListN.{length, get_or}
use Rattle.wire.specs.Wire.{part}
use Rattle.format.specs.File.{Ev, events_bytes}
use Rattle.format.specs.Version.{above, gte_of, has_initiator}
use Rattle.format.specs.declared.version.Version.{Version}
use Rattle.format.proofs.Versions.{no_way}
use Rattle.layout.specs.Payloads.{end_size}
use Rattle.ending.specs.End.{initiator_wrong}
use Rattle.map.specs.Map.{same}
use Rattle.map.proofs.KeyLaws.{same_refl, same_is}
use Rattle.grammar.specs.Productions.{end_event}
use Rattle.grammar.specs.WellFormed.{Each}
use Rattle.grammar.specs.Readable.{Alike}
use Rattle.grammar.specs.Whole.{is_end}
use Rattle.read_outline.proofs.Laws.{length_part}
use Rattle.read_outline.proofs.Same.{GoodEnds}
use Rattle.read_judge.specs.Inner.{Covers}
use Rattle.known.specs.Known.{is_newer, front, known_of}
use Rattle.known.proofs.Newest.{newer_is}
use Rattle.known.proofs.Codes.{known_one}
use Rattle.newer_events.proofs.Events.{next_covers, no_event}
use Rattle.newer_codes.specs.Places.{FirstKnown, Passed}
use Rattle.newer_codes.proofs.Places.{rest_covers, passed_known}
use Rattle.newer_ends.specs.Ends.{end_span, end_here, right_at, Again, EndsGood}
use Rattle.newer_ends.proofs.Tests.{here_parts, end_parts_lem, is_end_lem, end_here_lem, payload_here, right_here, span_here_lem}

-- ---- what is known first

-- the first known event, at a place, and the events behind it
pub record Next (v : Version) (file spans : List ℕ) (stop : ℕ) (raw : List Ev) (place : ℕ) : Type 0 where
  pub event : Ev
  pub others : List Ev
  pub covers : Covers file spans place stop (event ∷ others)
  pub known_are : known_of v raw ≡ front v event ∷ known_of v others

module _ (v : Version) (file spans : List ℕ) (stop : ℕ) where
  event_first : (place : ℕ) (raw : List Ev) → Covers file spans place stop raw → FirstKnown raw → (place ≡ stop → ⊥) → Next v file spans stop raw place
  unfolding events_bytes
  event_first place [] c k n = absurd (n (omega (arith, c.long)))
  event_first place (e ∷ es) c k n = record { event = e; others = es; covers = c; known_are = known_one v e es k }

  module _ (at : ℕ) (raw : List Ev) (c : Covers file spans at stop raw) (place : ℕ) (x : Passed at raw place) where
    pub rest_here : Covers file spans place stop x.rest
    rest_here = rest_covers file spans stop at raw x.odd x.rest place c x.parted x.place_is

    pub none_known : place ≡ stop → known_of v raw ≡ []
    unfolding known_of
    none_known q = passed_known v at raw place x ∙ ap (known_of v) (no_event file spans place stop x.rest rest_here (omega (arith, q)))

    pub some_known : (place ≡ stop → ⊥) → Next v file spans stop raw place
    some_known n =
        let y = event_first place x.rest rest_here x.next n in
        record { event = y.event; others = y.others; covers = y.covers; known_are = passed_known v at raw place x ∙ y.known_are }

    pub all_passed : known_of v raw ≡ [] → (b : Bool) → b ≡ eqb place stop → b ≡ true
    all_passed q true t = refl
    all_passed q false t = absurd (cons≢nil (sym (some_known (λ s. no_way (t ∙ eq-eqb place stop s))).known_are ∙ q))

-- ---- an end again

module _ (v : Version) (file spans : List ℕ) (stop at payload : ℕ) (inside : payload + end_size v ≤ length file) (raw : List Ev) (c : Covers file spans at stop raw) (k : FirstKnown raw) where
  abbrev bytes : List ℕ
  bytes = part file payload (end_size v)

  sized : length bytes ≡ end_size v
  sized = length_part file payload (end_size v) inside

  -- where it is so, the event is an end with that payload
  pub record Repeated : Type 0 where
    pub event : Ev
    pub others : List Ev
    pub covers : Covers file spans at stop (event ∷ others)
    pub known_is : front v event ≡ end_event bytes
    pub none_more : known_of v others ≡ []
    pub is : is_end v (front v event) ≡ true

  repeated : known_of v raw ≡ end_event bytes ∷ [] → Repeated
  unfolding known_of
  repeated q = go raw c k q
    where
      go : (raw : List Ev) → Covers file spans at stop raw → FirstKnown raw → known_of v raw ≡ end_event bytes ∷ [] → Repeated
      go [] c k q = absurd (cons≢nil (sym q))
      go (e ∷ es) c k q =
          let are = sym (known_one v e es k) ∙ q in
          let one = head-eq_of_cons-eq are in
          record { event = e; others = es; covers = c; known_is = one; none_more = tail-eq_of_cons-eq are; is = is_end_lem v (front v e) bytes one sized }

  pub again_other : (b : Bool) → b ≡ end_here v file spans stop at → b ≡ false → Again v file payload raw false
  again_other b b-is t = (λ q. no_way q, λ q. let y = repeated q in absurd (no_way (sym t ∙ b-is ∙ end_here_lem v file spans stop at y.event y.others y.covers ∙ y.is)))

  module _ (n : ℕ) (n-is : n ≡ end_size v) (s : Bool) (s_is : s ≡ same (part file payload n) (part file (at + 1) n)) where
    same_bytes_lem : s ≡ same bytes (part file (at + 1) (end_size v))
    same_bytes_lem = s_is ∙ ap (λ (n : ℕ). same (part file payload n) (part file (at + 1) n)) n-is

    pub again_unlike : s ≡ false → Again v file payload raw false
    again_unlike t = (λ q. no_way q, λ q. absurd (unlike (repeated q)))
      where
        unlike : Repeated → ⊥
        unlike y =
            let p = payload_here v file spans stop at y.event y.others y.covers y.is ∙ ap (λ (e : Ev). e.payload) y.known_is in
            no_way (sym t ∙ same_bytes_lem ∙ ap (same bytes) p ∙ same_refl bytes)

    pub again_as : (b : Bool) → b ≡ end_here v file spans stop at → b ≡ true → s ≡ true → (span place : ℕ) → span ≡ end_span spans
        → ((es : List Ev) → Covers file spans (at + span) stop es → Passed (at + span) es place) → Again v file payload raw (eqb place stop)
    unfolding events_bytes
    again_as b b-is t like span place Span-of passed = go raw c k
      where
        here : end_here v file spans stop at ≡ true
        here = sym b-is ∙ t

        go : (raw : List Ev) → Covers file spans at stop raw → FirstKnown raw → Again v file payload raw (eqb place stop)
        go [] c k = let l = (here_parts v file spans stop at here).0 in absurd (omega (arith, c.long, l))
        go (e ∷ es) c k =
            let is = sym (end_here_lem v file spans stop at e es c) ∙ here in
            let bytes_are = sym (payload_here v file spans stop at e es c is) ∙ sym (same_is bytes (part file (at + 1) (end_size v)) (sym same_bytes_lem ∙ like)) in
            let code = (end_parts_lem v (front v e) is).0 in
            let one : front v e ≡ end_event bytes = λ i. record { code = code i; payload = bytes_are i } in
            let z : at + suc (length e.payload) ≡ at + span = omega (arith, Span-of, span_here_lem v file spans stop at e es c is) in
            let d = subst (λ (p : ℕ). Covers file spans p stop es) z (next_covers file spans at stop e es c) in
            let w = passed es d in (
              λ q.
                  known_one v e es k
                  ∙ (λ i. one i ∷ none_known v file spans stop (at + span) es d place w (eqb-true place stop q) i),
              λ q. all_passed v file spans stop (at + span) es d place w (tail-eq_of_cons-eq (sym (known_one v e es k) ∙ q)) (eqb place stop) refl,
            )

-- ---- none, one, two

names : (v : Version) → is_newer v ≡ true → has_initiator v ≡ true
unfolding gte_of above
names v new = rw (newer_is v new).0

module _ (v : Version) (new : is_newer v ≡ true) (file spans : List ℕ) (stop first : ℕ) (raw : List Ev) (c : Covers file spans first stop raw) (one : ℕ) (x : Passed first raw one) where
  pub ends_none : one ≡ stop → EndsGood file v raw 0 0
  unfolding Each Alike
  ends_none q = record {
    payloads = [];
    known_are = none_known v file spans stop first raw c one x q;
    good = record { few = omega arith; sized = tt; alike = tt; initiators = λ t. tt };
    count_is = refl;
    stands = tt;
    none_at = λ q. refl;
  }

  module _ (n : one ≡ stop → ⊥) where
    first_known : Next v file spans stop raw one
    first_known = some_known v file spans stop first raw c one x n

    abbrev known : Ev
    known = front v first_known.event

    -- a first event that is no right end
    pub ends_wrong : (b : Bool) → b ≡ right_at v file spans stop one → b ≡ false → (payloads : List (List ℕ)) → GoodEnds v payloads → known_of v raw ≡ map end_event payloads → ⊥
    unfolding Each
    ends_wrong b b-is t [] g q = cons≢nil (sym first_known.known_are ∙ q)
    ends_wrong b b-is t (p ∷ ps) g q =
        let is = head-eq_of_cons-eq (sym first_known.known_are ∙ q) in
        let e = is_end_lem v known p is g.sized.0 in
        let fine = ap (λ (e : Ev). initiator_wrong (get_or e.payload 1 0)) is ∙ (g.initiators (names v new)).0 in
        no_way (sym t ∙ b-is ∙ right_here v file spans stop one first_known.event first_known.others first_known.covers new true e ∙ ap not fine)

    module _ (b : Bool) (b-is : b ≡ right_at v file spans stop one) (t : b ≡ true) where
      right_parts : (is_end v known ≡ true) × (initiator_wrong (get_or known.payload 1 0) ≡ false)
      right_parts = go (is_end v known) refl (initiator_wrong (get_or known.payload 1 0)) refl
        where
          right : (s : Bool) → is_end v known ≡ s → (s && not (initiator_wrong (get_or known.payload 1 0))) ≡ true
          right s q = sym (right_here v file spans stop one first_known.event first_known.others first_known.covers new s q) ∙ sym b-is ∙ t

          go : (s : Bool) → is_end v known ≡ s → (w : Bool) → initiator_wrong (get_or known.payload 1 0) ≡ w → (is_end v known ≡ true) × (initiator_wrong (get_or known.payload 1 0) ≡ false)
          go true p false q = (p, q)
          go true p true q = no_way (sym (ap not q) ∙ right true p)
          go false p w q = no_way (right false p)

      abbrev bytes_here : List ℕ
      bytes_here = part file (one + 1) (end_size v)

      payload_is : bytes_here ≡ known.payload
      payload_is = payload_here v file spans stop one first_known.event first_known.others first_known.covers right_parts.0

      known_is : known ≡ end_event bytes_here
      known_is = let code = (end_parts_lem v known right_parts.0).0 in λ i. record { code = code i; payload = sym payload_is i }

      size_is : length bytes_here ≡ end_size v
      size_is = ap length payload_is ∙ (end_parts_lem v known right_parts.0).1

      named : initiator_wrong (get_or bytes_here 1 0) ≡ false
      named = ap (λ (l : List ℕ). initiator_wrong (get_or l 1 0)) payload_is ∙ right_parts.1

      module _ (span : ℕ) (Span-of : span ≡ end_span spans) where
        others_here : Covers file spans (one + span) stop first_known.others
        others_here =
            let s = span_here_lem v file spans stop one first_known.event first_known.others first_known.covers right_parts.0 in
            let z : one + suc (length first_known.event.payload) ≡ one + span = omega (arith, Span-of, s) in
            subst (λ (p : ℕ). Covers file spans p stop first_known.others) z (next_covers file spans one stop first_known.event first_known.others first_known.covers)

        module _ (within : one + 1 + end_size v ≤ length file) (two : ℕ) (passed : (es : List Ev) → Covers file spans (one + span) stop es → Passed (one + span) es two) where
          abbrev second : Passed (one + span) first_known.others two
          second = passed first_known.others others_here

          pub ends_one : two ≡ stop → EndsGood file v raw 1 (one + 1)
          unfolding Each Alike
          ends_one q = record {
            payloads = bytes_here ∷ [];
            known_are = first_known.known_are ∙ (λ i. known_is i ∷ none_known v file spans stop (one + span) first_known.others others_here two second q i);
            good = record { few = omega arith; sized = (size_is, tt); alike = tt; initiators = λ s. (named, tt) };
            count_is = refl;
            stands = (within, refl);
            none_at = λ q. absurd (omega (arith, q));
          }

          module _ (m : two ≡ stop → ⊥) (r : Bool) (r_is : (es : List Ev) → Covers file spans two stop es → FirstKnown es → Again v file (one + 1) es r) where
            told : Again v file (one + 1) second.rest r
            told = r_is second.rest (rest_here v file spans stop (one + span) first_known.others others_here two second) second.next

            others_known : known_of v first_known.others ≡ known_of v second.rest
            others_known = passed_known v (one + span) first_known.others two second

            pub ends_two : r ≡ true → EndsGood file v raw 2 (one + 1)
            unfolding Each Alike
            ends_two q = record {
              payloads = bytes_here ∷ bytes_here ∷ [];
              known_are = first_known.known_are ∙ (λ i. known_is i ∷ (others_known ∙ told.0 q) i);
              good = record { few = omega arith; sized = (size_is, (size_is, tt)); alike = (refl, tt); initiators = λ s. (named, (named, tt)) };
              count_is = refl;
              stands = (within, refl);
              none_at = λ q. absurd (omega (arith, q));
            }

            pub ends_unlike : r ≡ false → (payloads : List (List ℕ)) → GoodEnds v payloads → known_of v raw ≡ map end_event payloads → ⊥
            unfolding Each Alike
            ends_unlike q [] g k = cons≢nil (sym first_known.known_are ∙ k)
            ends_unlike q (p ∷ []) g k =
                let y = some_known v file spans stop (one + span) first_known.others others_here two second m in
                cons≢nil (sym y.known_are ∙ tail-eq_of_cons-eq (sym first_known.known_are ∙ k))
            ends_unlike q (p ∷ p' ∷ []) g k =
                let are = sym first_known.known_are ∙ k in
                let like : p' ≡ bytes_here = sym g.alike.0 ∙ sym (ap (λ (e : Ev). e.payload) (head-eq_of_cons-eq are)) ∙ sym payload_is in
                no_way (sym q ∙ told.1 (sym others_known ∙ tail-eq_of_cons-eq are ∙ ap (λ (l : List ℕ). end_event l ∷ []) like))
            ends_unlike q (p ∷ p' ∷ p'' ∷ ps) g k = omega (arith, g.few)

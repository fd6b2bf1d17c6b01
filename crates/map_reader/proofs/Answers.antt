-- The public reader's answers, one law a return.
-- Assumes nothing.
use mathlib.Core.Path.{◌≡◌, refl, sym, ap, ◌∙◌}
use mathlib.Core.List.{List, [], ◌∷◌}
use Prim.Native.Nat.{ℕ, ◌*◌, ◌≤◌, ◌<◌}
use native.Mathlib.Omega.{arith}
use borrow.Author.Tests.{eq-eqb, ne_eqb, lt-ltb, le-ltb}
use lib.Dec.{ltb}
use lib.ListN.{length}
use Rattle.std.specs.Prelude.{Result, Err}
use Rattle.format.specs.Refused.{number_of}
use Rattle.format.specs.declared.refusal.Refusal.{Refusal}
use Rattle.wire.specs.Wire.{splice, Room, Wrote}
use Rattle.format.specs.Refusal.{refuse, lowest}
use Rattle.format.proofs.Refusals.{skip, here, none}
use Rattle.map_reader.specs.Read.{Seen, stopped, other_wrong, map_read_at}
use Rattle.map_reader.specs.Back.{count_of, entry_count, map_rows}
use Rattle.map_reader.specs.Inner.{read_numbers, Whole}
use Rattle.map_reader.specs.Answer.{whole_map, read_refusal, read_place, ReadMapOutcome}
use Rattle.map_reader.specs.declared.read.Read.{Read}
use Rattle.map_reader.specs.declared.read.WrongAt.{WrongAt}
use Rattle.map_reader.proofs.Sizes.{length_rows}

-- what is read of a whole body
module _ (b : List ℕ) where
  pub whole_refused : ((map_read_at b 8 0).refusal ≡ 0 → ⊥) → whole_map b ≡ map_read_at b 8 0
  unfolding whole_map
  whole_refused n = rw (ne_eqb (map_read_at b 8 0).refusal 0 n)

  module _ (z : (map_read_at b 8 0).refusal ≡ 0) where
    pub whole_yes : (map_read_at b 8 0).stop ≡ length b → whole_map b ≡ map_read_at b 8 0
    unfolding whole_map
    whole_yes e = rw (eq-eqb (map_read_at b 8 0).refusal 0 z, eq-eqb (map_read_at b 8 0).stop (length b) e)

    pub whole_more : ((map_read_at b 8 0).stop ≡ length b → ⊥) → whole_map b ≡ stopped (other_wrong b (map_read_at b 8 0).stop) (map_read_at b 8 0).stop
    unfolding whole_map
    whole_more n = rw (eq-eqb (map_read_at b 8 0).refusal 0 z, ne_eqb (map_read_at b 8 0).stop (length b) n)

module _ (b : List ℕ) {r s : ℕ} (er : r ≡ (map_read_at b 8 0).refusal) (es : s ≡ (map_read_at b 8 0).stop) where
  pub told_refused : {e : ℕ} → (r ≡ 0 → ⊥) → (r ≡ (whole_map b).refusal) × (r ≡ 0 → Whole b e) × ((r ≡ 0 → ⊥) → s ≡ (whole_map b).stop)
  told_refused n =
      let w = whole_refused b (λ z. n (er ∙ z)) in
      (er ∙ sym (ap (λ (g : Seen). g.refusal) w), (λ z. absurd (n z)), λ q. es ∙ sym (ap (λ (g : Seen). g.stop) w))

  module _ (z : r ≡ 0) where
    pub told_whole : {e : ℕ} → s ≡ length b → e ≤ s → e ≡ entry_count (map_read_at b 8 0).map → (r ≡ (whole_map b).refusal) × (r ≡ 0 → Whole b e) × ((r ≡ 0 → ⊥) → s ≡ (whole_map b).stop)
    told_whole l few many =
        let w = whole_yes b (sym er ∙ z) (sym es ∙ l) in
        (er ∙ sym (ap (λ (g : Seen). g.refusal) w), (λ q. record { ok = sym er ∙ z; ends = sym es ∙ l; few = omega (arith, few, l); many = many }), λ q. absurd (q z))

    pub told_more : {x k : ℕ} → (s ≡ length b → ⊥) → x ≡ other_wrong b s → 0 < x → (x ≡ (whole_map b).refusal) × (x ≡ 0 → Whole b k) × ((x ≡ 0 → ⊥) → s ≡ (whole_map b).stop)
    told_more n ex some =
        let w = whole_more b (sym er ∙ z) (λ q. n (es ∙ q)) in
        (ex ∙ ap (other_wrong b) es ∙ sym (ap (λ (g : Seen). g.refusal) w), (λ q. absurd (omega (arith, q, some))), λ q. es ∙ sym (ap (λ (g : Seen). g.stop) w))

pub told_as : {b : List ℕ} {a : Result Read WrongAt} {r : Refusal} {s : ℕ} → a ≡ Err (record { refusal = r; place = s })
    → (number_of r ≡ (whole_map b).refusal) × (number_of r ≡ 0 → Whole b 0) × ((number_of r ≡ 0 → ⊥) → s ≡ (whole_map b).stop)
    → ((read_numbers a).refusal ≡ (whole_map b).refusal) × ((read_numbers a).refusal ≡ 0 → Whole b (read_numbers a).entries) × (((read_numbers a).refusal ≡ 0 → ⊥) → (read_numbers a).stop ≡ (whole_map b).stop)
told_as e t = rw e t

-- the public call
module _ (b before : List ℕ) where
  pub answer_wrong : {r s : ℕ} → r ≡ (whole_map b).refusal → ((r ≡ 0 → ⊥) → s ≡ (whole_map b).stop) → (r ≡ 0 → ⊥) → ReadMapOutcome b before before (record { refusal = r; place = s; count = 0; entries = 0 })
  unfolding read_refusal read_place
  answer_wrong er es n = record {
    refusal_is = er ∙ sym (rw (ne_eqb (whole_map b).refusal 0 (λ z. n (er ∙ z))));
    place_is = es n ∙ sym (rw (ne_eqb (whole_map b).refusal 0 (λ z. n (er ∙ z))));
    accepted = λ z. absurd (n z);
    untouched = λ q. (refl, refl, refl);
  }

  module _ {e : ℕ} (w : Whole b e) where
    ok : (whole_map b).refusal ≡ 0
    ok = ap (λ (g : Seen). g.refusal) (whole_yes b w.ok w.ends) ∙ w.ok

    size : e ≡ entry_count (whole_map b).map
    size = w.many ∙ sym (ap (λ (g : Seen). entry_count g.map) (whole_yes b w.ok w.ends))

    judged : (n : ℕ) → n ≡ lowest (refuse 2 (ltb 65535 (length b)) ∷ refuse 12 (ltb (length before) (5 * entry_count (whole_map b).map)) ∷ []) → n ≡ read_refusal b (length before)
    unfolding read_refusal
    judged n e = e ∙ sym (rw (eq-eqb (whole_map b).refusal 0 ok))

    nowhere : 0 ≡ read_place b
    unfolding read_place
    nowhere = rw (eq-eqb (whole_map b).refusal 0 ok)

    refused_with : (n : ℕ) → n ≡ read_refusal b (length before) → 0 < n → ReadMapOutcome b before before (record { refusal = n; place = 0; count = 0; entries = 0 })
    refused_with n e h = record { refusal_is = e; place_is = nowhere; accepted = λ z. absurd (omega (arith, z, h)); untouched = λ q. (refl, refl, refl) }

    pub answer_long : 65535 < length b → ReadMapOutcome b before before (record { refusal = 2; place = 0; count = 0; entries = 0 })
    answer_long h = refused_with 2 (judged 2 (here 2 _ _ (lt-ltb 65535 (length b) h))) (omega arith)

    module _ (h : length b ≤ 65535) where
      pub answer_short : length before < 5 * e → ReadMapOutcome b before before (record { refusal = 12; place = 0; count = 0; entries = 0 })
      answer_short l =
          refused_with 12 (judged 12 (skip 2 12 _ _ (le-ltb 65535 (length b) h) (here 12 _ _ (lt-ltb (length before) (5 * entry_count (whole_map b).map) (omega (arith, l, size)))))) (omega arith)

      module _ (l : 5 * e ≤ length before) where
        pub fill_room : Room before (5 * 0) (map_rows (map_read_at b 8 0).map 0)
        fill_room = record { fits = omega (arith, length_rows (map_read_at b 8 0).map 0, w.many, l) }

        pub answer_yes : {after : List ℕ} {n next : ℕ} → n ≡ count_of (map_read_at b 8 0).map → Wrote before after (5 * 0) next (map_rows (map_read_at b 8 0).map 0)
            → ReadMapOutcome b before after (record { refusal = 0; place = 0; count = n; entries = e })
        answer_yes en wr =
            let same = whole_yes b w.ok w.ends in
            record {
              refusal_is = judged 0 (skip 2 0 _ _ (le-ltb 65535 (length b) h) (skip 12 0 _ _ (le-ltb (length before) (5 * entry_count (whole_map b).map) (omega (arith, l, size))) none));
              place_is = nowhere;
              accepted = λ z. (en ∙ sym (ap (λ (g : Seen). count_of g.map) same), size, wr.after_is ∙ ap (λ (g : Seen). splice before 0 (map_rows g.map 0)) (sym same));
              untouched = λ n. absurd (n refl);
            }

-- There and back: what is written is read as the same map, what is read is written as the same body, and the reader takes exactly what the writer gives.
-- Assumes nothing.
use mathlib.Core.Path.{◌≡◌, sym, ap, ◌∙◌}
use mathlib.Core.Bool.{false}
use mathlib.Core.List.{List, [], ◌∷◌, ◌++◌, append-nil}
use Prim.Native.Nat.{ℕ, ◌+◌, ◌*◌, ◌≤◌}
use native.Mathlib.Omega.{arith}
use native.Mathlib.Decide.{ℕ_discrete}
use borrow.Author.Tests.{eq-eqb, ne_eqb, le-ltb, ltb-false}
use lib.Dec.{eqb, ltb}
use lib.ListN.{length, drop}
use lib.Seq.{drop-length}
use Rattle.format.specs.Refusal.{refuse}
use Rattle.format.proofs.Refusals.{skip, none, passed}
use Rattle.map.specs.Map.{body_of, fits, twice_in, Proper}
use Rattle.map.specs.Rows.{Grown}
use Rattle.map.specs.Write.{lent_map, refusal_of}
use Rattle.map.proofs.Outcomes.{accepted_of_lem, refused_as_lem}
use Rattle.map_reader.specs.Read.{Bytes, Seen, map_read_at}
use Rattle.map_reader.specs.Back.{count_of, entry_count, map_rows}
use Rattle.map_reader.specs.Answer.{whole_map, read_refusal}
use Rattle.map_reader.proofs.Sound.{sound}
use Rattle.map_reader.proofs.Steps.{other_some}
use Rattle.map_reader.proofs.Sizes.{length_rows}
use Rattle.map_reader.proofs.Answers.{whole_refused, whole_yes, whole_more}
use Rattle.law_map.proofs.Complete.{back}
use Rattle.law_map.proofs.Stand.{stand}
use Rattle.law_map.specs.Terms.{Words}
use Rattle.law_map.proofs.Fit.{rows_right}
use Rattle.law_map.proofs.Cells.{rows_words}

-- what the writer takes is a proper map whose body has at most 65,535 bytes
pub taken_proper : (rows texts : List ℕ) (count room : ℕ) → Words rows → refusal_of rows texts count room ≡ 0
    → Proper (lent_map rows texts count).map × (length (body_of (lent_map rows texts count).map) ≤ 65535)
taken_proper rows texts count room w e =
    let a = accepted_of_lem rows texts count room e in
    let (f, t) = rows_right rows texts 8 0 count w a.ok in
    (record { fit = f; once = t ∙ a.once }, a.small)

-- what was written is read back: the same map, its entries in the same order
pub written_read : (rows texts : List ℕ) (count room : ℕ) → Words rows → refusal_of rows texts count room ≡ 0
    → whole_map (body_of (lent_map rows texts count).map) ≡ record { map = (lent_map rows texts count).map; stop = length (body_of (lent_map rows texts count).map); refusal = 0 }
written_read rows texts count room w e = back (lent_map rows texts count).map (taken_proper rows texts count room w e).0

-- a body whose map is read has that map's body, and the map is proper
pub whole_body : (b : List ℕ) → Bytes b → (whole_map b).refusal ≡ 0 → Proper (whole_map b).map × (body_of (whole_map b).map ≡ b)
whole_body b h z = elim (ℕ_discrete (map_read_at b 8 0).refusal 0) [
  | no n ↦ absurd (n (sym (ap (λ (g : Seen). g.refusal) (whole_refused b n)) ∙ z))
  | yes y ↦ elim (ℕ_discrete (map_read_at b 8 0).stop (length b)) [
    | no n ↦ absurd (other_some b (map_read_at b 8 0).stop (sym (ap (λ (g : Seen). g.refusal) (whole_more b y n)) ∙ z))
    | yes l ↦
        let s = sound b 8 0 h (omega arith) y in
        let w = whole_yes b y l in
        let tail : drop (map_read_at b 8 0).stop b ≡ [] = ap (λ k. drop k b) l ∙ drop-length b in
        let same : b ≡ body_of (map_read_at b 8 0).map = s.stands.bytes ∙ ap (λ t. body_of (map_read_at b 8 0).map ++ t) tail ∙ append-nil (body_of (map_read_at b 8 0).map) in
        rw w (record { fit = s.fit.0; once = s.fit.1 }, sym same)
  ]
]

-- what the reader takes
pub record Taken (b : List ℕ) (room : ℕ) : Type 0 where
  pub ok : (whole_map b).refusal ≡ 0
  pub small : length b ≤ 65535
  pub fits : 5 * entry_count (whole_map b).map ≤ room

pub taken_of : (b : List ℕ) (room : ℕ) → read_refusal b room ≡ 0 → Taken b room
unfolding read_refusal
taken_of b room e = elim (ℕ_discrete (whole_map b).refusal 0) [
  | no n ↦ absurd (n (rw (ne_eqb (whole_map b).refusal 0 n) at e))
  | yes z ↦
      let (h, e2) = passed 1 (ltb 65535 (length b)) (refuse 12 (ltb room (5 * entry_count (whole_map b).map)) ∷ []) (rw (eq-eqb (whole_map b).refusal 0 z) at e) in
      let (i, e3) = passed 11 (ltb room (5 * entry_count (whole_map b).map)) [] e2 in
      record { ok = z; small = ltb-false 65535 (length b) h; fits = ltb-false room (5 * entry_count (whole_map b).map) i }
]

pub taken_as : (b : List ℕ) (room : ℕ) → Taken b room → 0 ≡ read_refusal b room
unfolding read_refusal
taken_as b room t =
    rw (eq-eqb (whole_map b).refusal 0 t.ok)
    (skip 2 0 (ltb 65535 (length b)) (refuse 12 (ltb room (5 * entry_count (whole_map b).map)) ∷ []) (le-ltb 65535 (length b) t.small) (skip 12 0 (ltb room (5 * entry_count (whole_map b).map)) [] (le-ltb room (5 * entry_count (whole_map b).map) t.fits) none))

-- a body that the writer gives is taken, wherever its entries have room
pub gives_taken : (rows texts : List ℕ) (count room cells : ℕ) → Words rows → refusal_of rows texts count room ≡ 0 → 5 * entry_count (lent_map rows texts count).map ≤ cells
    → read_refusal (body_of (lent_map rows texts count).map) cells ≡ 0
gives_taken rows texts count room cells w e l =
    let r = written_read rows texts count room w e in
    sym (taken_as (body_of (lent_map rows texts count).map) cells (record {
      ok = ap (λ (g : Seen). g.refusal) r;
      small = (taken_proper rows texts count room w e).1;
      fits = omega (arith, ap (λ (g : Seen). entry_count g.map) r, l);
    }))

-- the rows that are read from a body stand for its map, with the body as their text store
pub rows_stand : (b : List ℕ) → Bytes b → (whole_map b).refusal ≡ 0
    → lent_map (map_rows (whole_map b).map 0) b (count_of (whole_map b).map) ≡ record { map = (whole_map b).map; next = entry_count (whole_map b).map; refusal = 0 }
rows_stand b h z =
    let (p, same) = whole_body b h z in
    let m = (whole_map b).map in
    stand m (map_rows m 0) b 8 0 0 [] [] p.fit (record { place = omega arith; bytes = sym (append-nil (map_rows m 0)) }) (record { place = omega arith; bytes = sym same ∙ sym (append-nil (body_of m)) })
    ∙ ap (λ k. record { map = m; next = k; refusal = 0 }) (let zero : 0 + entry_count m ≡ entry_count m = omega arith in zero)

-- what the reader takes, the writer gives: for the rows that were read, with the body as their store, it writes that body again
pub read_written : (b : List ℕ) (cells room : ℕ) → Bytes b → read_refusal b cells ≡ 0 → length b ≤ room
    → (refusal_of (map_rows (whole_map b).map 0) b (count_of (whole_map b).map) room ≡ 0) × (body_of (lent_map (map_rows (whole_map b).map 0) b (count_of (whole_map b).map)).map ≡ b)
read_written b cells room h e l =
    let t = taken_of b cells e in
    let (p, same) = whole_body b h t.ok in
    let m = (whole_map b).map in
    let s = rows_stand b h t.ok in
    let body = ap (λ (g : Grown). body_of g.map) s ∙ same in
    let w = rows_words m 8 0 p.fit (omega (arith, ap length same, t.small)) in
    let (f, once) = rows_right (map_rows m 0) b 8 0 (count_of m) w (ap (λ (g : Grown). g.refusal) s) in (
      sym (refused_as_lem (map_rows m 0) b (count_of m) room (record {
        ok = ap (λ (g : Grown). g.refusal) s;
        once = sym once ∙ ap (λ (g : Grown). twice_in [] g.map) s ∙ p.once;
        whole = ap (λ (g : Grown). 5 * g.next) s ∙ sym (length_rows m 0);
        small = omega (arith, ap length body, t.small);
        fits = omega (arith, ap length body, l);
      })),
      body,
    )

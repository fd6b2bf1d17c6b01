-- The laws of comparing eight frames with the one before them.
-- Assumes nothing.
use mathlib.Core.Path.{◌≡◌, sym, ap, subst, ◌∙◌}
use mathlib.Core.List.{List}
use mathlib.Core.Option.{Option, some}
use Prim.Native.Nat.{ℕ, zero, suc, ◌+◌, ◌-◌, ◌*◌, ◌≤◌, ◌<◌}
use native.Mathlib.Decide.{dec_lt}
use native.Mathlib.Nat.{suc-mul, zero-mul, mul-le-mul_right}
use native.Mathlib.Numerals.{add-one}
use native.Mathlib.Omega.{arith}
use lib.ListN.{length, get_or}
use Rattle.wire.specs.Wire.{number, part}
use Rattle.layout.specs.declared.columns.Family.{Family}
use Rattle.layout.specs.declared.columns.Family.TheVariants.{Pre, Post, FrameEnd}
use Rattle.grammar.specs.Machine.{family_of}
use Rattle.record.proofs.Numbers.{four_is}
use Rattle.read_scan.specs.Inner.{span_at}
use Rattle.read_scan.specs.Alike.{id_at, Four, Two, Hops, Head, Seat, Who, Alike, Starts, Heads, Seats, Likes, Rest, Eight}

-- ---- eight places, each a step after the one before it

-- p is t steps after e
pub record Along (e step p t : ℕ) : Type 0 where
  pub few : t ≤ 8
  pub place : p ≡ e + t * step

module _ {e step : ℕ} where
  pub along_start : Along e step e 0
  along_start = let z = zero-mul step in record { few = omega arith; place = omega arith }

  module _ {p t : ℕ} (a : Along e step p t) (l : t < 8) where
    pub along_next : p + step ≡ e + suc t * step
    along_next = let s = suc-mul t step in omega (arith, a.place)

    pub along_step : Along e step (p + step) (t + 1)
    along_step = record { few = omega arith; place = along_next ∙ ap (λ (n : ℕ). e + n * step) (sym (add-one t)) }

    pub along_in : p + step ≤ e + 8 * step
    along_in = let s : suc t * step ≤ 8 * step = mul-le-mul_right step (omega arith) in omega (arith, along_next)

  pub along_to : {p t : ℕ} → Along e step p t → (k : ℕ) → t ≤ k → p ≤ e + k * step
  along_to {p} {t} a k l = let s : t * step ≤ k * step = mul-le-mul_right step l in omega (arith, a.place)

-- a fact of each place before t, and of place t
more : (P : ℕ → Type 0) (t : ℕ) → ((u : ℕ) → u < t → P u) → P t → (u : ℕ) → u < t + 1 → P u
more P t h x u l =
    elim (dec_lt u t) [
      | yes y ↦ h u y
      | no n ↦ subst P (let e : t ≡ u = omega arith in e) x
    ]

-- equal numbers are equal bytes
lowest : (a b c d : ℕ) → a < 256 → c < 256 → a + b * 256 ≡ c + d * 256 → (a ≡ c) × (b ≡ d)
lowest a b c d h k e = (omega arith, omega arith)

pub four_same : {s : List ℕ} {p q m n : ℕ} → Four s p m → Four s q n → m ≡ n → p + 4 ≤ length s → q + 4 ≤ length s → number (part s p 4) ≡ number (part s q 4)
four_same {s} {p} {q} {m} {n} a b e l k =
    let upper : ℕ → ℕ = λ i. get_or s (i + 2) 0 + get_or s (i + 3) 0 * 256 in
    let all : ℕ → ℕ = λ i. get_or s (i + 1) 0 + upper i * 256 in
    let (x, r) = lowest (get_or s p 0) (all p) (get_or s q 0) (all q) a.first b.first (omega (arith, a.sum, b.sum)) in
    let (y, t) = lowest (get_or s (p + 1) 0) (upper p) (get_or s (q + 1) 0) (upper q) a.second b.second r in
    let (z, w) = lowest (get_or s (p + 2) 0) (get_or s (p + 3) 0) (get_or s (q + 2) 0) (get_or s (q + 3) 0) a.third b.third t in
    sym (four_is s p l) ∙ (λ i. x i * 16777216 + y i * 65536 + z i * 256 + w i) ∙ four_is s q k

pub two_same : {s : List ℕ} {p q m n : ℕ} → Two s p m → Two s q n → m ≡ n → (get_or s p 0 ≡ get_or s q 0) × (get_or s (p + 1) 0 ≡ get_or s (q + 1) 0)
two_same {s} {p} {q} a b e = (omega (arith, a.sum, b.sum, a.first, b.first), omega (arith, a.sum, b.sum, a.first, b.first))

module _ {file : List ℕ} {last step : ℕ} where
  pub starts_start : Starts file last step 0
  starts_start = record { each = λ t l. absurd (omega arith) }

  pub starts_step : {p t : ℕ} → Along last step p t → t < 8 → Starts file last step t → get_or file (p + step) 0 ≡ get_or file last 0 → Starts file last step (t + 1)
  starts_step {p} {t} a l h code =
      record { each = more (λ u. get_or file (last + suc u * step) 0 ≡ get_or file last 0) t h.each (ap (λ (n : ℕ). get_or file n 0) (sym (along_next a l)) ∙ code) }

  pub starts_done : {t : ℕ} → 8 ≤ t → Starts file last step t → Starts file last step 8
  starts_done l h = record { each = λ u k. h.each u (omega arith) }

module _ {file : List ℕ} {last e step : ℕ} where
  pub heads_start : Heads file last e step 0
  heads_start = record { each = λ t l. absurd (omega arith) }

  pub heads_step : {p q t : ℕ} → Along e step p t → Along last step q t → t < 8 → Heads file last e step t
      → get_or file (p + step) 0 ≡ get_or file e 0 → id_at file (p + step) ≡ id_at file (q + step) → Heads file last e step (t + 1)
  heads_step {p} {q} {t} a b l h code id = record { each = more (λ u. Head file last e (suc u * step)) t h.each now }
    where
      now : Head file last e (suc t * step)
      now = record {
        code = ap (λ (n : ℕ). get_or file n 0) (sym (along_next a l)) ∙ code;
        id = ap (id_at file) (sym (along_next a l)) ∙ id ∙ ap (id_at file) (along_next b l);
      }

  pub heads_done : {t : ℕ} → 8 ≤ t → Heads file last e step t → Heads file last e step 8
  heads_done l h = record { each = λ u k. h.each u (omega arith) }

module _ {file : List ℕ} {e step : ℕ} where
  pub seats_start : Seats file e step 0
  seats_start = record { each = λ t l. absurd (omega arith) }

  pub seats_step : {p t m n : ℕ} → Along e step p t → t < 8 → Seats file e step t → Two file (p + step + 5) m → Two file (e + 5) n → m ≡ n → Seats file e step (t + 1)
  seats_step {p} {t} a l h x y q = record { each = more (λ u. Seat file e (suc u * step)) t h.each now }
    where
      same : (get_or file (p + step + 5) 0 ≡ get_or file (e + 5) 0) × (get_or file (p + step + 5 + 1) 0 ≡ get_or file (e + 5 + 1) 0)
      same = two_same x y q

      six : (k : ℕ) → k + 6 ≡ k + 5 + 1
      six k = omega arith

      now : Seat file e (suc t * step)
      now = record {
        port = ap (λ (n : ℕ). get_or file (n + 5) 0) (sym (along_next a l)) ∙ same.0;
        follower =
            ap (λ (n : ℕ). get_or file (n + 6) 0) (sym (along_next a l))
            ∙ ap (λ (n : ℕ). get_or file n 0) (six (p + step))
            ∙ same.1
            ∙ ap (λ (n : ℕ). get_or file n 0) (sym (six e));
      }

  pub seats_done : {t : ℕ} → 8 ≤ t → Seats file e step t → Seats file e step 8
  seats_done l h = record { each = λ u k. h.each u (omega arith) }

-- ---- an event

module _ {file : List ℕ} {last e step : ℕ} (heads : Heads file last e step 8) where
  likes_as : (family : Family) → family_of (get_or file e 0) ≡ some family → ((t : ℕ) → t < 8 → Who (some family) file e (suc t * step)) → Likes file last e step
  likes_as family f h = record { each = λ t l. record { head = heads.each t l; who = subst (λ (x : Option Family). Who x file e (suc t * step)) (sym f) (h t l) } }

  pub likes_end : get_or file e 0 ≡ 0x3C → Likes file last e step
  unfolding family_of
  likes_end q = likes_as FrameEnd (ap family_of q) (λ t l. tt)

  pub likes_pre : get_or file e 0 ≡ 0x37 → Seats file e step 8 → Likes file last e step
  unfolding family_of
  likes_pre q s = likes_as Pre (ap family_of q) s.each

  pub likes_post : get_or file e 0 ≡ 0x38 → Seats file e step 8 → Likes file last e step
  unfolding family_of
  likes_post q s = likes_as Post (ap family_of q) s.each

-- ---- events up to a place

-- those from `first` on are alike where those from e on are
pub record Down (file spans : List ℕ) (last first at step e : ℕ) : Type 0 where
  pub each : (n : ℕ) → Hops file spans n first at
      → (m : ℕ) × Hops file spans m e at × ((t : ℕ) → t < 8 → Alike file spans last m e (suc t * step) → Alike file spans last n first (suc t * step))

module _ {file spans : List ℕ} {last first at step : ℕ} where
  pub down_start : Down file spans last first at step first
  down_start = record { each = λ n h. (n, h, λ t l a. a) }

  module _ {e : ℕ} (d : Down file spans last first at step e) where
    pub down_step : e < at → (n : ℕ) → n ≡ span_at spans file e → Likes file last e step → Down file spans last first at step (e + n)
    unfolding Hops Alike
    down_step l n n-is likes = record { each = λ k h. go k (d.each k h).0 (d.each k h).1 (d.each k h).2 }
      where
        go : (k m : ℕ) → Hops file spans m e at → ((t : ℕ) → t < 8 → Alike file spans last m e (suc t * step) → Alike file spans last k first (suc t * step))
            → (m : ℕ) × Hops file spans m (e + n) at × ((t : ℕ) → t < 8 → Alike file spans last m (e + n) (suc t * step) → Alike file spans last k first (suc t * step))
        go k zero q f = absurd (omega arith)
        go k (suc m) (l, q) f =
            let s : e + span_at spans file e ≡ e + n = ap (λ (x : ℕ). e + x) (sym n-is) in (
              m,
              subst (λ (x : ℕ). Hops file spans m x at) s q,
              λ t u a. f t u (likes.each t u, subst (λ (x : ℕ). Alike file spans last m x (suc t * step)) (sym s) a),
            )

    pub down_done : at ≤ e → Rest file spans last first at step
    unfolding Hops Alike
    down_done l = record { each = λ k h t u. (d.each k h).2 t u (go t (d.each k h).0 (d.each k h).1) }
      where
        go : (t m : ℕ) → Hops file spans m e at → Alike file spans last m e (suc t * step)
        go t zero q = tt
        go t (suc m) (k, q) = absurd (omega arith)

-- ---- the frame

pub eight_of : {file spans : List ℕ} {last at stop : ℕ} → at ≤ stop → (0 < at - last) × (8 * (at - last) + 7 ≤ stop - at) → get_or file last 0 ≡ 0x3A
    → Starts file last (at - last) 8 → (n : ℕ) → n ≡ span_at spans file last → Rest file spans last (last + n) at (at - last) → Eight file spans last at stop
eight_of {file} {spans} {last} {at} u fit start starts n n-is rest = record {
  start = start;
  later = omega (arith, fit.0);
  fits = omega (arith, fit.1);
  starts = starts;
  rest = subst (λ (x : ℕ). Rest file spans last (last + x) at (at - last)) n-is rest;
}

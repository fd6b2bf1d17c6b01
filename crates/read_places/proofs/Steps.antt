-- The laws of eight frames a step apart: their places in the table, an event of all of them more, and frame after frame.
-- Assumes nothing.
use mathlib.Core.Path.{◌≡◌, refl, sym, ap, ap₂, subst, ◌∙◌}
use mathlib.Core.Bool.{Bool, true, false, cond}
use mathlib.Core.List.{List}
use Prim.Native.Nat.{ℕ, zero, suc, ◌+◌, ◌-◌, ◌*◌, ◌≤◌, ◌<◌}
use native.Mathlib.Nat.{add-zero, suc-mul}
use native.Mathlib.Numerals.{add-one}
use native.Mathlib.Omega.{arith}
use borrow.Author.Tests.{eq-eqb, ne_eqb, lt-ltb}
use lib.ListN.{length, get_or}
use Rattle.grammar.specs.WellFormed.{Each}
use Rattle.read_event.specs.Inner.{told_at, span_by, opens, open_after}
use Rattle.read_event.specs.Alike.{Ahead, GoesOn, steps_put}
use Rattle.read_event.specs.Parts.{SomeBy, WholeBy, LeftBy, open_told, first_by, Seats, Seating, Seated, seated_as, go_seats}
use Rattle.read_event.specs.declared.seen.Open.{Open}
use Rattle.read_event.specs.declared.spans.Spans.{Spans}
use Rattle.read_event.proofs.Leaves.{opened_off}
use Rattle.read_event.proofs.Likeness.{place_first, step_in_lem, steps_get, steps_before}
use Rattle.read_event.proofs.Parts.{some_whole, some_next, left_next, seats_agrees}
use Rattle.read_places.specs.Inner.{is_players, open_of, seat, frame_at, frames_at, Leads, Part, Following, Followed, Batched}
use Rattle.read_places.proofs.Scans.{each_set, frame_same, nobody, batch_of}

-- ---- places a step apart

module _ (i at step : ℕ) (xs : List ℕ) where
  steps_each : (P : ℕ → Type 0) (n : ℕ) → ((t : ℕ) → t < n → P (at + t * step)) → Each P xs → Each P (steps_put i at step n xs)
  unfolding steps_put
  steps_each P zero h e = e
  steps_each P (suc n) h e = each_set P (steps_put i at step n xs) (i + n) (at + n * step) (steps_each P n (λ t l. h t (omega arith)) e) (h n (omega arith))

-- ---- one event of all of them

nobodys : (code : ℕ) → code ≡ 0x3A → is_players code ≡ false
unfolding is_players
nobodys code e = rw (ne_eqb code 0x37 (λ h. absurd (omega (arith, e, h))), ne_eqb code 0x38 (λ h. absurd (omega (arith, e, h))))

span_start : (z : Spans) (code : ℕ) → code ≡ 0x3A → span_by z code ≡ z.start
unfolding span_by
span_start z code e = ap (span_by z) e

opens_start : (frames : ℕ) (o : Open) (code id : ℕ) → code ≡ 0x3A → o.frames < frames → opens true frames o code id ≡ true
unfolding opens
opens_start frames o code id e h = rw (eq-eqb code 0x3A e, lt-ltb o.frames frames h)

opens_other : (frames : ℕ) (o : Open) (code id : ℕ) → (code ≡ 0x3A → ⊥) → opens true frames o code id ≡ false
unfolding opens
opens_other frames o code id n = rw (ne_eqb code 0x3A n)

begun_is : (on : Bool) (id : ℕ) (o : Open) → on ≡ true → open_after on id o ≡ open_of (o.frames + 1) id
unfolding open_after
begun_is on id o e = rw e

module _ (z : Spans) (frames : ℕ) (file : List ℕ) (stop : ℕ) where
  -- the first event of a frame
  part_first : (p : ℕ) (o : Open) (t : ℕ) (places : List ℕ) → get_or file p 0 ≡ 0x3A → p < stop → o.frames < frames → SomeBy z file p stop
      → Part z frames file p stop (p + z.start) o t 0 places
  unfolding go_seats frame_at
  part_first p o t places c h f some =
      let s = span_start z (get_or file p 0) c in
      record {
        some = subst (λ (k : ℕ). SomeBy z file (p + k) stop) s (some_next z file p stop some h);
        leads = λ q v r x all l.
            let go = left_next z file p stop (go_seats true q) (seats_agrees z true q v) (seated_as o x) all l h in
            let b : open_told true q.rows o (told_at file p) ≡ open_of (o.frames + 1) (told_at file p).id =
            begun_is (first_by true q.rows o (told_at file p)) (told_at file p).id o (opens_start q.rows o (get_or file p 0) (told_at file p).id c (rw r f)) in
            let state : go_seats true q (seated_as o x) (told_at file p) ≡ seated_as (open_of (o.frames + 1) (told_at file p).id) x =
            ap (λ (y : Open). seated_as y (seat q file y.frames p x)) b ∙ ap (seated_as (open_of (o.frames + 1) (told_at file p).id)) (nobody q (o.frames + 1) file p x (nobodys (get_or file p 0) c)) in
            subst (λ (k : ℕ). LeftBy (go_seats true q) z file (p + k) stop (seated_as (open_of (o.frames + 1) (told_at file p).id) x) all) s
            (subst (λ (y : Seated). LeftBy (go_seats true q) z file (p + span_by z (get_or file p 0)) stop y all) state go);
      }

  -- an event more
  part_more : (at e : ℕ) (o : Open) (t j : ℕ) (places after : List ℕ) (counted span : ℕ) → Part z frames file at stop e o t j places → e < stop → (get_or file e 0 ≡ 0x3A → ⊥) → span ≡ span_by z (get_or file e 0)
      → ((q : Seating) (n : ℕ) (x : Seats) → seat q file n e (frame_at q file places t j n x) ≡ frame_at q file after t counted n x)
      → Part z frames file at stop (e + span) o t counted after
  unfolding go_seats
  part_more at e o t j places after counted span c h n s noted =
      record {
        some = subst (λ (k : ℕ). SomeBy z file (e + k) stop) (sym s) (some_next z file e stop c.some h);
        leads = λ q v r x all l.
            let b = open_of (o.frames + 1) (told_at file at).id in
            let m = o.frames + 1 in
            let was = frame_at q file places t j m x in
            let go = left_next z file e stop (go_seats true q) (seats_agrees z true q v) (seated_as b was) all (c.leads q v r x all l) h in
            let same : open_told true q.rows b (told_at file e) ≡ b =
            sym (opened_off (first_by true q.rows b (told_at file e)) (told_at file e).id b (opens_other q.rows b (get_or file e 0) (told_at file e).id n)) in
            let state : go_seats true q (seated_as b was) (told_at file e) ≡ seated_as b (frame_at q file after t counted m x) =
            ap (λ (y : Open). seated_as y (seat q file y.frames e was)) same ∙ ap (seated_as b) (noted q m x) in
            subst (λ (k : ℕ). LeftBy (go_seats true q) z file (e + k) stop (seated_as b (frame_at q file after t counted m x)) all) (sym s)
            (subst (λ (y : Seated). LeftBy (go_seats true q) z file (e + span_by z (get_or file e 0)) stop y all) state go);
      }

-- the event's places in the table
module _ (file : List ℕ) (e step j : ℕ) (places : List ℕ) (more : j * 8 + 8 ≤ length places) (t : ℕ) (h : t < 8) where
  stepped : (q : Seating) (n : ℕ) (x : Seats) → get_or file (e + t * step) 0 ≡ get_or file e 0
      → seat q file n (e + t * step) (frame_at q file places t j n x)
      ≡ frame_at q file (cond (is_players (get_or file e 0)) (steps_put (j * 8) e step 8 places) places) t (cond (is_players (get_or file e 0)) (j + 1) j) n x
  unfolding frame_at
  stepped q n x c = go (is_players (get_or file e 0)) refl
    where
      go : (b : Bool) → is_players (get_or file e 0) ≡ b
          → seat q file n (e + t * step) (frame_at q file places t j n x) ≡ frame_at q file (cond b (steps_put (j * 8) e step 8 places) places) t (cond b (j + 1) j) n x
      go true y =
          rw (add-one j)
          (ap₂ (λ (p : ℕ) (r : Seats). seat q file n p r) (sym (steps_get (j * 8) e step places 8 t h more))
          (sym (frame_same q file (steps_put (j * 8) e step 8 places) places t j n x (λ k l. steps_before (j * 8) e step places 8 (k * 8 + t) (omega arith)))))
      go false y = nobody q n file (e + t * step) (frame_at q file places t j n x) (ap is_players c ∙ y)

-- ---- all of them

module _ (z : Spans) (start : Bool) (frames : ℕ) (file : List ℕ) (at stop step was : ℕ) (a : Ahead z start file at stop step (was + 1) frames) where
  -- a place of one of the first events
  at_in : (t : ℕ) → t < 8 → at < stop → at + t * step < stop
  at_in t h s = let m = step_in_lem step t h in omega (arith, a.inside, m, s)

  pub follow_first : (places : List ℕ) → at < stop → SomeBy z file at stop → Each (WholeBy z file) places → Following z frames file at stop step (at + z.start) 0 places
  follow_first places s some whole =
      record {
        whole = whole;
        some = subst (λ (k : ℕ). SomeBy z file (at + k) stop) (span_start z (get_or file at 0) a.code) (some_next z file at stop some s);
        few = omega arith;
        inside = omega (arith, a.forward);
        parts = λ t h o f b.
            let p : at + t * step + z.start ≡ at + z.start + t * step = omega arith in
            subst (λ (k : ℕ). Part z frames file (at + t * step) stop k o t 0 places) p
            (part_first z frames file stop (at + t * step) o t places (a.same t h ∙ a.code) (at_in t h s) f b);
      }

  module _ {e j : ℕ} {places : List ℕ} (l : Following z frames file at stop step e j places) (h : e < at + step) where
    -- the event is before the end
    pub follow_before : at < stop → e < stop
    follow_before s = omega (arith, a.inside, h)

    pub follow_whole : at < stop → WholeBy z file e
    follow_whole s = some_whole z file e stop l.some (follow_before s)

    pub follow_more : at < stop → {span counted : ℕ} {after : List ℕ} → GoesOn z file e (at + step) step span → j < 16 → 128 ≤ length places
        → counted ≡ cond (is_players (get_or file e 0)) (j + 1) j → after ≡ cond (is_players (get_or file e 0)) (steps_put (j * 8) e step 8 places) places
        → Following z frames file at stop step (e + span) counted after
    follow_more s {span} {counted} {after} g f m x y =
        rw (x, y)
        (record {
          whole = put (is_players (get_or file e 0));
          some = subst (λ (k : ℕ). SomeBy z file (e + k) stop) (sym g.size) (some_next z file e stop l.some (follow_before s));
          few = count (is_players (get_or file e 0));
          inside = g.inside;
          parts = λ t v o b d.
              let k = step_in_lem step t v in
              let p : e + t * step + span ≡ e + span + t * step = omega arith in
              let c = g.same t v in
              subst (λ (i : ℕ). Part z frames file (at + t * step) stop i o t (cond (is_players (get_or file e 0)) (j + 1) j) (cond (is_players (get_or file e 0)) (steps_put (j * 8) e step 8 places) places)) p
              (part_more z frames file stop (at + t * step) (e + t * step) o t j places _ _ span (l.parts t v o b d) (omega (arith, a.inside, h, k)) (λ i. g.code (sym c ∙ i)) (g.size ∙ ap (span_by z) (sym c))
              (λ q n w. stepped file e step j places (omega arith) t v q n w c));
        })
      where
        each : (t : ℕ) → t < 8 → WholeBy z file (e + t * step)
        each t v =
            let w = follow_whole s in
            let c : span_by z (get_or file (e + t * step) 0) ≡ span_by z (get_or file e 0) = ap (span_by z) (g.same t v) in
            let k = step_in_lem step t v in
            record { long = omega (arith, w.long, c); inside = omega (arith, c, k, g.inside, g.size, a.inside, a.whole) }

        put : (b : Bool) → Each (WholeBy z file) (cond b (steps_put (j * 8) e step 8 places) places)
        put true = steps_each (j * 8) e step places (WholeBy z file) 8 each l.whole
        put false = l.whole

        count : (b : Bool) → cond b (j + 1) j ≤ 16
        count true = let m : j + 1 ≤ 16 = omega arith in m
        count false = let m : j ≤ 16 = omega arith in m

-- ---- frame after frame

module _ (z : Spans) (frames : ℕ) (file : List ℕ) (at stop step was id j : ℕ) (places : List ℕ) (room : was + 8 ≤ frames) (l : Following z frames file at stop step (at + step) j places) where
  -- what began last after n frames
  last_of : ℕ → Open
  last_of zero = open_of was id
  last_of (suc n) = open_of (was + suc n) (told_at file (at + n * step)).id

  last_frames : (n : ℕ) → (last_of n).frames ≡ was + n
  unfolding last_of
  last_frames zero = sym (add-zero was)
  last_frames (suc n) = refl

  record Chain (n : ℕ) : Type 0 where
    some : SomeBy z file (at + n * step) stop
    leads : Leads z true frames file at stop (open_of was id) (at + n * step) (last_of n) (λ q x. frames_at q file places j n (was + 1) x)

  chain : SomeBy z file at stop → (n : ℕ) → n ≤ 8 → Chain n
  unfolding frames_at last_of
  chain some zero h = record {
    some = subst (λ (k : ℕ). SomeBy z file k stop) (place_first at step) some;
    leads = λ q v r x all b. subst (λ (k : ℕ). LeftBy (go_seats true q) z file k stop (seated_as (open_of was id) x) all) (place_first at step) b;
  }
  chain some (suc n) h =
      let c = chain some n (omega arith) in
      let f = last_frames n in
      let p = l.parts n (omega arith) (last_of n) (omega (arith, f)) c.some in
      let m = suc-mul n step in
      let k : at + step + n * step ≡ at + suc n * step = omega (arith, m) in
      let g : (last_of n).frames + 1 ≡ was + suc n = omega (arith, f) in
      let d : was + suc n ≡ was + 1 + n = omega arith in
      record {
        some = subst (λ (i : ℕ). SomeBy z file i stop) k p.some;
        leads = λ q v r x all b.
            let one = p.leads q v r (frames_at q file places j n (was + 1) x) all (c.leads q v r x all b) in
            let two = subst (λ (i : ℕ). LeftBy (go_seats true q) z file (at + step + n * step) stop (seated_as (open_of i (told_at file (at + n * step)).id) (frame_at q file places n j i (frames_at q file places j n (was + 1) x))) all) g one in
            let three = subst (λ (i : ℕ). LeftBy (go_seats true q) z file (at + step + n * step) stop (seated_as (open_of (was + suc n) (told_at file (at + n * step)).id) (frame_at q file places n j i (frames_at q file places j n (was + 1) x))) all) d two in
            subst (λ (i : ℕ). LeftBy (go_seats true q) z file i stop (seated_as (open_of (was + suc n) (told_at file (at + n * step)).id) (frame_at q file places n j (was + 1 + n) (frames_at q file places j n (was + 1) x))) all) k three;
      }

-- they have bytes
pub followed_long : (z : Spans) (start : Bool) (frames : ℕ) (file : List ℕ) (at stop step was j : ℕ) (places : List ℕ) → at < stop → SomeBy z file at stop → Followed z start frames file at stop step was j places → 5 ≤ step
followed_long z start frames file at stop step was j places s some f =
    let w = some_whole z file at stop some s in
    let n = span_start z (get_or file at 0) f.ahead.code in
    omega (arith, w.long, n, f.ahead.forward)

pub followed_batch : (z : Spans) (start : Bool) (frames : ℕ) (file : List ℕ) (at stop step was id j : ℕ) (places : List ℕ) (key : ℕ) → at < stop → SomeBy z file at stop
    → Followed z start frames file at stop step was j places → key ≡ (told_at file (at + 7 * step)).id
    → Batched z start frames file at stop (open_of was id) places (batch_of (at + 7 * step + step) j 8 (was + 1) (open_of (was + 8) key))
unfolding last_of
followed_batch z start frames file at stop step was id j places key s some f e =
    let a = f.ahead in
    let room : was + 8 ≤ frames = omega (arith, a.room) in
    let c = chain z frames file at stop step was id j places room f.all some 8 (omega arith) in
    let w = some_whole z file at stop some s in
    let n : span_by z (get_or file at 0) ≡ z.start = span_start z (get_or file at 0) a.code in
    let k : at + 8 * step ≡ at + 7 * step + step = omega arith in
    rw (e, a.starts)
    (record {
      whole = f.all.whole;
      some = subst (λ (i : ℕ). SomeBy z file i stop) k c.some;
      forward = omega (arith, w.long, n, a.forward);
      few = f.all.few;
      many = omega arith;
      bound = omega (arith, room);
      begun = room;
      leads = λ q v r x all b. subst (λ (i : ℕ). LeftBy (go_seats true q) z file i stop (seated_as (open_of (was + 8) (told_at file (at + 7 * step)).id) (frames_at q file places j 8 (was + 1) x)) all) k (c.leads q v r x all b);
    })

pub follow_done : {z : Spans} {start : Bool} {frames : ℕ} {file : List ℕ} {at stop step was e j : ℕ} {places : List ℕ} → Ahead z start file at stop step (was + 1) frames
    → Following z frames file at stop step e j places
    → at + step ≤ e → Followed z start frames file at stop step was (j + 1 - 1) places
follow_done {z} {start} {frames} {file} {at} {stop} {step} {was} {e} {j} {places} a l h =
    let k : e ≡ at + step = omega (arith, l.inside) in
    let n : j ≡ j + 1 - 1 = omega arith in
    record { ahead = a; all = subst (λ (i : ℕ). Following z frames file at stop step (at + step) i places) n (subst (λ (i : ℕ). Following z frames file at stop step i j places) k l) }

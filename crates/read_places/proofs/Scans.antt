-- The laws of the table: an event's place more, a frame's events, and frame after frame.
-- Assumes nothing.
use mathlib.Core.Path.{◌≡◌, refl, sym, ap, ap₂, subst, ◌∙◌}
use mathlib.Core.Bool.{Bool, true, false, not, cond, ◌||◌}
use mathlib.Core.List.{List, [], ◌∷◌}
use Prim.Native.Nat.{ℕ, zero, suc, ◌+◌, ◌*◌, ◌%◌, ◌≤◌, ◌<◌}
use native.Mathlib.Nat.{add-zero}
use native.Mathlib.Numerals.{add-one}
use native.Mathlib.Omega.{arith}
use borrow.Author.Tests.{eq-eqb, ne_eqb}
use lib.Arith.{digits_mod}
use lib.Dec.{eqb}
use lib.ListN.{length, get_or, set, length-set}
use lib.Seq.{get_or-set_same, get_or-set_other}
use Rattle.format.proofs.Versions.{no_way}
use Rattle.grammar.specs.WellFormed.{Each}
use Rattle.read_event.specs.Inner.{told_at, span_by, opens, open_after}
use Rattle.read_event.specs.Parts.{SomeBy, WholeBy, LeftBy, first_by, open_told, Seats, seats, Seating, SeatSpans, seat_told, Seated, seated_as, go_seats}
use Rattle.read_event.specs.declared.seen.Open.{Open}
use Rattle.read_event.specs.declared.spans.Spans.{Spans}
use Rattle.read_event.proofs.Leaves.{opened_off, open_room, player_off, bit_off}
use Rattle.read_event.proofs.Parts.{some_whole, some_next, left_next, seats_agrees}
use Rattle.read_places.specs.Inner.{is_players, seat, frame_at, frames_at, Scanned, Batched, Stays}
use Rattle.read_places.specs.declared.scan.Scan.{Scan}
use Rattle.read_places.specs.declared.scan.Batch.{Batch}

-- ---- codes, and what began

pub is_pre : (code : ℕ) → code ≡ 0x37 → true ≡ is_players code
unfolding is_players
is_pre code e = rw (eq-eqb code 0x37 e)

pub is_other : (code : ℕ) → (code ≡ 0x37 → ⊥) → eqb code 0x38 ≡ is_players code
unfolding is_players
is_other code e = rw (ne_eqb code 0x37 e)

pub when_on : {A : Type 0} (b : Bool) (x y : A) → b ≡ true → x ≡ cond b x y
when_on b x y e = rw e

pub when_off : {A : Type 0} (b : Bool) (x y : A) → b ≡ false → y ≡ cond b x y
when_off b x y e = rw e

pub open_is : (start : Bool) (frames : ℕ) (o : Open) (file : List ℕ) (at id : ℕ) (on : Bool) (r : Open) → id ≡ (told_at file at).id → on ≡ opens start frames o (get_or file at 0) id → r ≡ open_after on id o
    → r ≡ open_told start frames o (told_at file at)
open_is start frames o file at id on r i f e = e ∙ ap₂ (λ (b : Bool) (k : ℕ). open_after b k o) (f ∙ ap (opens start frames o (get_or file at 0)) i) i

pub open_few : (start : Bool) (frames : ℕ) (o : Open) (code id id' : ℕ) (on : Bool) (r : Open) → on ≡ opens start frames o code id → r ≡ open_after on id' o → o.frames ≤ frames → r.frames ≤ frames
unfolding open_after
open_few start frames o code id id' on r f e h = go on refl
  where
    go : (b : Bool) → on ≡ b → r.frames ≤ frames
    go true x = let room = open_room start frames o code id on f x in let y : r.frames ≡ o.frames + 1 = rw x at (ap (λ (k : Open). k.frames) e) in omega arith
    go false x = let y : r.frames ≡ o.frames = rw x at (ap (λ (k : Open). k.frames) e) in omega arith

not-true : (b : Bool) → not b ≡ true → b ≡ false
not-true true h = no_way h
not-true false h = refl

module _ (start : Bool) (frames : ℕ) (o : Open) (code id : ℕ) where
  pub stay_start : start ≡ true → not (eqb code 0x3A) ≡ true → opens start frames o code id ≡ false
  unfolding opens
  stay_start e h = rw (e, not-true (eqb code 0x3A) h)

-- ---- all places of a table

pub each_set : (P : ℕ → Type 0) (xs : List ℕ) (i x : ℕ) → Each P xs → P x → Each P (set xs i x)
unfolding Each
each_set P [] i x e p = tt
each_set P (y ∷ ys) zero x e p = (p, e.1)
each_set P (y ∷ ys) (suc i) x e p = (e.0, each_set P ys i x e.1 p)

pub each_get : (P : ℕ → Type 0) (xs : List ℕ) (i : ℕ) → Each P xs → i < length xs → P (get_or xs i 0)
unfolding Each
each_get P [] i e h = absurd (omega arith)
each_get P (y ∷ ys) zero e h = e.0
each_get P (y ∷ ys) (suc i) e h = each_get P ys i e.1 (omega arith)

-- ---- a frame's events depend on its own column

column : (j t : ℕ) → t < 8 → (j * 8 + t) % 8 ≡ t
column j t h = digits_mod j h

pub frame_same : (q : Seating) (file a b : List ℕ) (t j n : ℕ) (x : Seats) → ((k : ℕ) → k < j → get_or a (k * 8 + t) 0 ≡ get_or b (k * 8 + t) 0)
    → frame_at q file a t j n x ≡ frame_at q file b t j n x
unfolding frame_at
frame_same q file a b t zero n x h = refl
frame_same q file a b t (suc j) n x h =
    ap₂ (λ (p : ℕ) (r : Seats). seat q file n p r) (h j (omega arith)) (frame_same q file a b t j n x (λ k l. h k (omega arith)))

-- one event more
frame_set : (q : Seating) (file places : List ℕ) (t j n e : ℕ) (x : Seats) → j * 8 + t < length places
    → frame_at q file (set places (j * 8 + t) e) t (j + 1) n x ≡ seat q file n e (frame_at q file places t j n x)
unfolding frame_at
frame_set q file places t j n e x h =
    rw (add-one j)
    (ap₂ (λ (p : ℕ) (r : Seats). seat q file n p r) (get_or-set_same places (j * 8 + t) e 0 h)
    (frame_same q file (set places (j * 8 + t) e) places t j n x (λ k l. get_or-set_other places (j * 8 + t) (k * 8 + t) e 0 (λ y. omega arith))))

-- ---- one event

-- an event of nobody leaves the players' stores as they are
pub nobody : (q : Seating) (n : ℕ) (file : List ℕ) (at : ℕ) (r : Seats) → is_players (get_or file at 0) ≡ false → seat q file n at r ≡ r
unfolding seat_told is_players
nobody q n file at r e =
    let t = told_at file at in
    let a = no_left (eqb t.code 0x37) (eqb t.code 0x38) e in
    let b = no_right (eqb t.code 0x37) (eqb t.code 0x38) e in
    λ i. seats (sym (player_off (eqb t.code 0x37) q.pre q.numbers t q.rows n r.pres a) i) (sym (player_off (eqb t.code 0x38) q.post q.numbers t q.rows n r.posts b) i)
    (sym (bit_off (eqb t.code 0x37) q.numbers t q.rows n r.presence a) i)
  where
    no_left : (a b : Bool) → (a || b) ≡ false → a ≡ false
    no_left true b h = h
    no_left false b h = refl

    no_right : (a b : Bool) → (a || b) ≡ false → b ≡ false
    no_right true b h = absurd (let z : ◌≡◌ {A = ℕ} 0 1 = ap (λ (c : Bool). cond c 1 0) (sym h) in omega arith)
    no_right false b h = h

-- the event at e, as column t of the table has it then
module _ (z : Spans) (start : Bool) (frames : ℕ) (file : List ℕ) (e stop : ℕ) (was begun : Open) (t j : ℕ) (places : List ℕ) (more : j * 8 + t < length places) where
  abbrev after : List ℕ
  after = cond (is_players (get_or file e 0)) (set places (j * 8 + t) e) places

  abbrev counted : ℕ
  counted = cond (is_players (get_or file e 0)) (j + 1) j

  noted : (q : Seating) (n : ℕ) (x : Seats) → seat q file n e (frame_at q file places t j n x) ≡ frame_at q file after t counted n x
  noted q n x = go (is_players (get_or file e 0)) refl
    where
      go : (b : Bool) → is_players (get_or file e 0) ≡ b → seat q file n e (frame_at q file places t j n x) ≡ frame_at q file (cond b (set places (j * 8 + t) e) places) t (cond b (j + 1) j) n x
      go true y = sym (frame_set q file places t j n e x more)
      go false y = nobody q n file e (frame_at q file places t j n x) y

  event_on : begun ≡ open_told start frames was (told_at file e) → e < stop → (q : Seating) → SeatSpans z q → q.rows ≡ frames → (x : Seats) (all : Seated)
      → LeftBy (go_seats start q) z file e stop (seated_as was (frame_at q file places t j begun.frames x)) all
      → LeftBy (go_seats start q) z file (e + span_by z (get_or file e 0)) stop (seated_as begun (frame_at q file after t counted begun.frames x)) all
  unfolding go_seats
  event_on o h q s r x all l =
      let go = left_next z file e stop (go_seats start q) (seats_agrees z start q s) (seated_as was (frame_at q file places t j begun.frames x)) all l h in
      let same : open_told start q.rows was (told_at file e) ≡ begun = ap (λ (k : ℕ). open_told start k was (told_at file e)) r ∙ sym o in
      let state : go_seats start q (seated_as was (frame_at q file places t j begun.frames x)) (told_at file e) ≡ seated_as begun (frame_at q file after t counted begun.frames x) =
      ap (λ (y : Open). seated_as y (seat q file y.frames e (frame_at q file places t j begun.frames x))) same ∙ ap (seated_as begun) (noted q begun.frames x) in
      subst (λ (y : Seated). LeftBy (go_seats start q) z file (e + span_by z (get_or file e 0)) stop y all) state go

  after_whole : Each (WholeBy z file) places → WholeBy z file e → Each (WholeBy z file) after
  after_whole a w = go (is_players (get_or file e 0))
    where
      go : (b : Bool) → Each (WholeBy z file) (cond b (set places (j * 8 + t) e) places)
      go true = each_set (WholeBy z file) places (j * 8 + t) e a w
      go false = a

  after_same : length after ≡ length places
  after_same = go (is_players (get_or file e 0))
    where
      go : (b : Bool) → length (cond b (set places (j * 8 + t) e) places) ≡ length places
      go true = length-set places (j * 8 + t) e
      go false = refl

  after_others : t < 8 → (k : ℕ) → (k % 8 ≡ t → ⊥) → get_or after k 0 ≡ get_or places k 0
  after_others h k n = go (is_players (get_or file e 0))
    where
      go : (b : Bool) → get_or (cond b (set places (j * 8 + t) e) places) k 0 ≡ get_or places k 0
      go true = get_or-set_other places (j * 8 + t) k e 0 (λ y. n (ap (λ (i : ℕ). i % 8) y ∙ column j t h))
      go false = refl

  counted_few : j < 16 → counted ≤ 16
  counted_few h = go (is_players (get_or file e 0))
    where
      go : (b : Bool) → cond b (j + 1) j ≤ 16
      go true = let m : j + 1 ≤ 16 = omega arith in m
      go false = let m : j ≤ 16 = omega arith in m

abbrev scan_of : ℕ → ℕ → Open → Scan
scan_of next count o = record { next = next; count = count; opened = o }

-- a frame's first event
module _ (z : Spans) (start : Bool) (frames : ℕ) (file : List ℕ) (at stop : ℕ) (o begun : Open) (t : ℕ) (places : List ℕ) where
  pub scan_first : t < 8 → 128 ≤ length places → at < stop → SomeBy z file at stop → Each (WholeBy z file) places → begun ≡ open_told start frames o (told_at file at) → begun.frames ≤ frames
      → {ps : List ℕ} {j span : ℕ} → j ≡ cond (is_players (get_or file at 0)) (0 + 1) 0 → ps ≡ cond (is_players (get_or file at 0)) (set places (0 * 8 + t) at) places
      → span ≡ span_by z (get_or file at 0)
      → Scanned z start frames file at stop o t places ps (scan_of (at + span) j begun)
  unfolding frame_at
  scan_first h l s some whole b bound {ps} {j} {span} x y w =
      let more : 0 * 8 + t < length places = omega arith in
      let here = some_whole z file at stop some s in
      rw (x, y, w)
      (record {
        whole = after_whole z start frames file at stop o begun t 0 places more whole here;
        same = after_same z start frames file at stop o begun t 0 places more;
        others = after_others z start frames file at stop o begun t 0 places more h;
        some = some_next z file at stop some s;
        forward = omega (arith, here.long);
        few = counted_few z start frames file at stop o begun t 0 places more (omega arith);
        bound = bound;
        leads = λ q v r a all k. event_on z start frames file at stop o begun t 0 places more b s q v r a all k;
      })

  -- an event more
  pub scan_more : {ps : List ℕ} {e j : ℕ} → t < 8 → 128 ≤ length places → Scanned z start frames file at stop o t places ps (scan_of e j begun) → Stays start frames file e stop begun j
      → {ps' : List ℕ} {j' span : ℕ} → j' ≡ cond (is_players (get_or file e 0)) (j + 1) j → ps' ≡ cond (is_players (get_or file e 0)) (set ps (j * 8 + t) e) ps
      → span ≡ span_by z (get_or file e 0)
      → Scanned z start frames file at stop o t places ps' (scan_of (e + span) j' begun)
  scan_more {ps} {e} {j} h l c g {ps'} {j'} {span} x y w =
      let more : j * 8 + t < length ps = omega (arith, g.few, c.same) in
      let here = some_whole z file e stop c.some g.before in
      let b : begun ≡ open_told start frames begun (told_at file e) = opened_off (first_by start frames begun (told_at file e)) (told_at file e).id begun g.inside in
      rw (x, y, w)
      (record {
        whole = after_whole z start frames file e stop begun begun t j ps more c.whole here;
        same = after_same z start frames file e stop begun begun t j ps more ∙ c.same;
        others = λ k n. after_others z start frames file e stop begun begun t j ps more h k n ∙ c.others k n;
        some = some_next z file e stop c.some g.before;
        forward = omega (arith, c.forward);
        few = counted_few z start frames file e stop begun begun t j ps more g.few;
        bound = c.bound;
        leads = λ q v r a all k. event_on z start frames file e stop begun begun t j ps more b g.before q v r a all (c.leads q v r a all k);
      })

-- of the table as it is then, and as it was before
module _ {z : Spans} {start : Bool} {frames : ℕ} {file : List ℕ} {at stop : ℕ} {o : Open} {t : ℕ} {before first : List ℕ} {s : Scan} (a : Scanned z start frames file at stop o t before first s) where
  pub scan_from : Scanned z start frames file at stop o t first first s
  scan_from = record { whole = a.whole; same = refl; others = λ k n. refl; some = a.some; forward = a.forward; few = a.few; bound = a.bound; leads = a.leads }

  pub scan_back : {places : List ℕ} {r : Scan} → Scanned z start frames file at stop o t first places r → Scanned z start frames file at stop o t before places r
  scan_back b = record {
    whole = b.whole;
    same = b.same ∙ a.same;
    others = λ k n. b.others k n ∙ a.others k n;
    some = b.some;
    forward = b.forward;
    few = b.few;
    bound = b.bound;
    leads = b.leads;
  }

-- an event that stands behind them is whole
pub scan_whole : (z : Spans) (start : Bool) (frames : ℕ) (file : List ℕ) (at stop : ℕ) (o : Open) (t : ℕ) (before places : List ℕ) (s : Scan) → Scanned z start frames file at stop o t before places s → s.next < stop
    → s.next + 5 ≤ length file
scan_whole z start frames file at stop o t before places s c h = let w = some_whole z file s.next stop c.some h in omega (arith, w.long, w.inside)

-- ---- several frames

frames_same : (q : Seating) (file a b : List ℕ) (count m n : ℕ) (x : Seats) → m ≤ 8 → ((k : ℕ) → k % 8 < m → get_or a k 0 ≡ get_or b k 0)
    → frames_at q file a count m n x ≡ frames_at q file b count m n x
unfolding frames_at
frames_same q file a b count zero n x g h = refl
frames_same q file a b count (suc m) n x g h =
    frame_same q file a b m count (n + m) (frames_at q file a count m n x) (λ k l. let c = column k m (omega arith) in h (k * 8 + m) (omega arith))
    ∙ ap (frame_at q file b m count (n + m)) (frames_same q file a b count m n x (omega arith) (λ k l. h k (omega arith)))

abbrev pub batch_of : ℕ → ℕ → ℕ → ℕ → Open → Batch
batch_of next count many first o = record { next = next; count = count; many = many; first = first; opened = o }

module _ (z : Spans) (start : Bool) (frames : ℕ) (file : List ℕ) (at stop : ℕ) (o : Open) where
  pub batch_first : {before places : List ℕ} {s : Scan} → Scanned z start frames file at stop o 0 before places s
      → Batched z start frames file at stop o places (batch_of s.next s.count 1 s.opened.frames s.opened)
  unfolding frames_at
  batch_first {before} {places} {s} c = record {
    whole = c.whole;
    some = c.some;
    forward = c.forward;
    few = c.few;
    many = omega arith;
    bound = omega (arith, c.bound);
    begun = c.bound;
    leads = λ q v r a all k. rw (add-zero s.opened.frames) (c.leads q v r a all k);
  }

  module _ {places ps : List ℕ} {found : Batch} {m : ℕ} {s : Scan} (b : Batched z start frames file at stop o places found) (are : found.many ≡ m) (h : m < 8)
      (c : Scanned z start frames file found.next stop found.opened m places ps s) where
    kept : (q : Seating) (x : Seats) → frames_at q file places found.count found.many found.first x ≡ frames_at q file ps found.count found.many found.first x
    kept q x = frames_same q file places ps found.count found.many found.first x b.many (λ k l. sym (c.others k (λ e. omega arith)))

    -- a frame that does not go with them
    pub batch_kept : Batched z start frames file at stop o ps found
    batch_kept = record {
      whole = c.whole;
      some = b.some;
      forward = b.forward;
      few = b.few;
      many = b.many;
      bound = b.bound;
      begun = b.begun;
      leads = λ q v r a all k. subst (λ (y : Seats). LeftBy (go_seats start q) z file found.next stop (seated_as found.opened y) all) (kept q a) (b.leads q v r a all k);
    }

    -- and one that does
    pub batch_more : s.count ≡ found.count → s.opened.frames ≡ found.first + m
        → Batched z start frames file at stop o ps (batch_of s.next found.count (m + 1) found.first s.opened)
    unfolding frames_at
    batch_more e f = record {
      whole = c.whole;
      some = c.some;
      forward = omega (arith, b.forward, c.forward);
      few = b.few;
      many = omega arith;
      bound = omega (arith, c.bound, f);
      begun = c.bound;
      leads = λ q v r a all k.
          let before = frames_at q file places found.count found.many found.first a in
          let one = c.leads q v r before all (b.leads q v r a all k) in
          let here = kept q a ∙ ap (λ (n : ℕ). frames_at q file ps found.count n found.first a) are in
          let same : frame_at q file ps m s.count s.opened.frames before ≡ frames_at q file ps found.count (m + 1) found.first a =
          ap₂ (λ (x n : ℕ). frame_at q file ps m x n before) e f ∙ ap (frame_at q file ps m found.count (found.first + m)) here ∙ rw (add-one m) in
          subst (λ (y : Seats). LeftBy (go_seats start q) z file s.next stop (seated_as s.opened y) all) same one;
    }

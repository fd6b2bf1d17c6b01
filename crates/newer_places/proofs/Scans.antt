-- The laws of the table over a newer recorder's events: what is passed over, an event's place more, a frame's events, and frame after frame.
-- Assumes nothing.
use mathlib.Core.Path.{◌≡◌, refl, sym, ap, ap₂, subst, ◌∙◌}
use mathlib.Core.Bool.{Bool, true, false, not, cond, ◌||◌}
use mathlib.Core.List.{List}
use Prim.Native.Nat.{ℕ, zero, suc, ◌+◌, ◌*◌, ◌%◌, ◌≤◌, ◌<◌}
use native.Mathlib.Nat.{add-zero}
use native.Mathlib.Numerals.{add-one}
use native.Mathlib.Omega.{arith}
use borrow.Author.Tests.{eqb-false, ne_eqb, not-true}
use lib.Arith.{digits_mod}
use lib.Dec.{eqb}
use lib.ListN.{length, get_or, set, length-set}
use lib.Seq.{get_or-set_same, get_or-set_other}
use Rattle.format.proofs.Versions.{no_way}
use Rattle.grammar.specs.WellFormed.{Each}
use Rattle.known.specs.Known.{is_known}
use Rattle.known.proofs.Codes.{unlike}
use Rattle.newer_events.specs.Some.{SomeCovers}
use Rattle.read_event.specs.Inner.{told_at, opens}
use Rattle.read_event.specs.Parts.{WholeBy, first_by, open_told, Seats, seats, Seating, SeatSpans, seat_told, Seated, seated_as, go_seats}
use Rattle.read_event.specs.declared.seen.Open.{Open}
use Rattle.read_event.specs.declared.spans.Spans.{Spans}
use Rattle.read_event.proofs.Leaves.{opened_off, player_off, bit_off}
use Rattle.read_event.proofs.Parts.{seats_agrees}
use Rattle.read_places.specs.Inner.{is_players, seat, frame_at, frames_at}
use Rattle.read_places.specs.declared.scan.Scan.{Scan}
use Rattle.read_places.proofs.Scans.{each_set, frame_same, nobody, batch_of}
use Rattle.newer_places.specs.Known.{SomeKnown, LeftIn}
use Rattle.newer_places.specs.Inner.{is_seat, Passed, Stood, Stays, Scanned, Batched}
use Rattle.newer_places.proofs.Left.{Quiet, covers_next, span_before, some_whole, some_next, left_next, left_quiet}

-- ---- codes

or_no : (a b : Bool) → (a || b) ≡ false → (a ≡ false) × (b ≡ false)
or_no true b h = no_way (sym h)
or_no false b h = (refl, h)

pub seat_player : (code : ℕ) → is_players code ≡ true → true ≡ is_seat code
unfolding is_seat
seat_player code e = rw e

pub seat_other : (code : ℕ) → is_players code ≡ false → eqb code 0x3A ≡ is_seat code
unfolding is_seat
seat_other code e = rw e

-- a code that is asked for is known
pub seat_known : (code : ℕ) → is_seat code ≡ true → is_known code ≡ true
unfolding is_seat is_players
seat_known code h = go (is_known code) refl
  where
    go : (b : Bool) → is_known code ≡ b → is_known code ≡ true
    go true y = y
    go false y = let u = unlike code y in no_way (rw (u.pre, u.post, u.frame) at h)

pub not_eq : (a b : ℕ) → not (eqb a b) ≡ true → a ≡ b → ⊥
not_eq a b h = eqb-false a b (not-true (eqb a b) h)

-- an event of another code brings players nothing
pub seat_quiet : (q : Seating) (code : ℕ) → is_seat code ≡ false → Quiet (go_seats true q) code
unfolding is_seat is_players go_seats seat_told opens
seat_quiet q code h t c x =
    let a = or_no (is_players code) (eqb code 0x3A) h in
    let b = or_no (eqb code 0x37) (eqb code 0x38) a.0 in
    let pre : eqb t.code 0x37 ≡ false = ap (λ (n : ℕ). eqb n 0x37) c ∙ b.0 in
    let post : eqb t.code 0x38 ≡ false = ap (λ (n : ℕ). eqb n 0x38) c ∙ b.1 in
    let start : eqb t.code 0x3A ≡ false = ap (λ (n : ℕ). eqb n 0x3A) c ∙ a.1 in
    let r = x.seats in
    let f : first_by true q.rows x.opened t ≡ false = rw start in
    let o = opened_off (first_by true q.rows x.opened t) t.id x.opened f in
    let n = (open_told true q.rows x.opened t).frames in
    λ i. record {
      opened = sym o i;
      seats = record {
        pres = sym (player_off (eqb t.code 0x37) q.pre q.numbers t q.rows n r.pres pre) i;
        posts = sym (player_off (eqb t.code 0x38) q.post q.numbers t q.rows n r.posts post) i;
        presence = sym (bit_off (eqb t.code 0x37) q.numbers t q.rows n r.presence pre) i;
      };
    }

-- ---- what is passed over

module _ (file spans : List ℕ) (at stop : ℕ) where
  -- what the loop knows at a place
  pub record Passing (e : ℕ) : Type 0 where
    pub forward : at ≤ e
    pub covers : SomeCovers file spans e stop
    pub some : (z : Spans) → SomeKnown z file spans at stop → SomeKnown z file spans e stop
    pub leads : (z : Spans) (q : Seating) (x all : Seated) → LeftIn (go_seats true q) z file spans at stop x all → LeftIn (go_seats true q) z file spans e stop x all

  pub passing_first : SomeCovers file spans at stop → Passing at
  passing_first c = record { forward = omega arith; covers = c; some = λ z s. s; leads = λ z q x all l. l }

  module _ {e : ℕ} (p : Passing e) where
    pub passing_more : {span : ℕ} → e < stop → is_seat (get_or file e 0) ≡ false → span ≡ get_or spans (get_or file e 0) 0 → Passing (e + span)
    passing_more {span} h n w = rw w
        (record {
          forward = omega (arith, p.forward);
          covers = covers_next file spans e stop p.covers.raw p.covers.covers h;
          some = λ z s. some_next z file spans e stop (p.some z s) h;
          leads = λ z q x all l. left_quiet z file spans e stop (go_seats true q) x all (p.leads z q x all l) (seat_quiet q (get_or file e 0) n) h;
        })

    pub passing_span : {span : ℕ} → e < stop → span ≡ get_or spans (get_or file e 0) 0 → (0 < span) × (e + span ≤ stop) × (stop ≤ length file)
    passing_span h w = rw w (span_before file spans e stop p.covers.raw p.covers.covers h)

    pub passed_seat : is_seat (get_or file e 0) ≡ true → Passed file spans at stop e
    passed_seat s = record { forward = p.forward; covers = p.covers; seat = λ h. s; some = p.some; leads = p.leads }

    pub passed_all : stop ≤ e → Passed file spans at stop e
    passed_all h = record { forward = p.forward; covers = p.covers; seat = λ l. absurd (omega arith); some = p.some; leads = p.leads }

-- the file has the byte behind them
pub passed_inside : {file spans : List ℕ} {at stop e : ℕ} → Passed file spans at stop e → e < stop → e < length file
passed_inside {file} {spans} {at} {stop} {e} p h = let w = span_before file spans e stop p.covers.raw p.covers.covers h in omega (arith, w.2)

-- ---- where an event stands that is a player's or begins a frame

module _ {z : Spans} {file spans : List ℕ} {at stop : ℕ} (s : Stood z file spans at stop) (h : at < stop) where
  pub stood_known : is_known (get_or file at 0) ≡ true
  stood_known = seat_known (get_or file at 0) (s.seat h)

  pub stood_whole : WholeBy z file at
  stood_whole = some_whole z file spans at stop s.some h stood_known

  pub stood_span : {span : ℕ} → span ≡ get_or spans (get_or file at 0) 0 → (0 < span) × (at + span ≤ stop) × (stop ≤ length file)
  stood_span w = rw w (span_before file spans at stop s.some.known.raw s.some.known.covers h)

  pub stood_covers : {span : ℕ} → span ≡ get_or spans (get_or file at 0) 0 → SomeCovers file spans (at + span) stop
  stood_covers w = rw w (covers_next file spans at stop s.some.known.raw s.some.known.covers h)

  -- and where the next one stands
  pub stood_next : {span e : ℕ} → span ≡ get_or spans (get_or file at 0) 0 → Passed file spans (at + span) stop e → Stood z file spans e stop
  stood_next {span} {e} w p = record { some = p.some z (rw w (some_next z file spans at stop s.some h)); seat = p.seat }

-- ---- a frame's events depend on its own column

column : (j t : ℕ) → t < 8 → (j * 8 + t) % 8 ≡ t
column j t h = digits_mod j h

-- one event more
frame_set : (q : Seating) (file places : List ℕ) (t j n e : ℕ) (x : Seats) → j * 8 + t < length places
    → frame_at q file (set places (j * 8 + t) e) t (j + 1) n x ≡ seat q file n e (frame_at q file places t j n x)
unfolding frame_at
frame_set q file places t j n e x h =
    rw (add-one j)
    (ap₂ (λ (p : ℕ) (r : Seats). seat q file n p r) (get_or-set_same places (j * 8 + t) e 0 h)
    (frame_same q file (set places (j * 8 + t) e) places t j n x (λ k l. get_or-set_other places (j * 8 + t) (k * 8 + t) e 0 (λ y. omega arith))))

-- the event at e, as column t of the table has it then
module _ (z : Spans) (frames : ℕ) (file spans : List ℕ) (e stop : ℕ) (was begun : Open) (t j : ℕ) (places : List ℕ) (more : j * 8 + t < length places) where
  abbrev after : List ℕ
  after = cond (is_players (get_or file e 0)) (set places (j * 8 + t) e) places

  abbrev counted : ℕ
  counted = cond (is_players (get_or file e 0)) (j + 1) j

  noted : (q : Seating) (n : ℕ) (x : Seats) → seat q file n e (frame_at q file places t j n x) ≡ frame_at q file after t counted n x
  noted q n x = go (is_players (get_or file e 0)) refl
    where
      go : (b : Bool) → is_players (get_or file e 0) ≡ b → seat q file n e (frame_at q file places t j n x) ≡ frame_at q file (cond b (set places (j * 8 + t) e) places) t (cond b (j + 1) j) n x
      go true y = sym (frame_set q file places t j n e x more)
      go false y = nobody q n file e (frame_at q file places t j n x) y

  event_on : begun ≡ open_told true frames was (told_at file e) → Stood z file spans e stop → e < stop → (q : Seating) → SeatSpans z q → q.rows ≡ frames → (x : Seats) (all : Seated)
      → LeftIn (go_seats true q) z file spans e stop (seated_as was (frame_at q file places t j begun.frames x)) all
      → LeftIn (go_seats true q) z file spans (e + get_or spans (get_or file e 0) 0) stop (seated_as begun (frame_at q file after t counted begun.frames x)) all
  unfolding go_seats
  event_on o d h q s r x all l =
      let go = left_next z file spans e stop (go_seats true q) (seated_as was (frame_at q file places t j begun.frames x)) all l (seats_agrees z true q s) h (stood_known d h) in
      let same : open_told true q.rows was (told_at file e) ≡ begun = ap (λ (k : ℕ). open_told true k was (told_at file e)) r ∙ sym o in
      let state : go_seats true q (seated_as was (frame_at q file places t j begun.frames x)) (told_at file e) ≡ seated_as begun (frame_at q file after t counted begun.frames x) =
      ap (λ (y : Open). seated_as y (seat q file y.frames e (frame_at q file places t j begun.frames x))) same ∙ ap (seated_as begun) (noted q begun.frames x) in
      subst (λ (y : Seated). LeftIn (go_seats true q) z file spans (e + get_or spans (get_or file e 0) 0) stop y all) state go

  after_whole : Each (WholeBy z file) places → WholeBy z file e → Each (WholeBy z file) after
  after_whole a w = go (is_players (get_or file e 0))
    where
      go : (b : Bool) → Each (WholeBy z file) (cond b (set places (j * 8 + t) e) places)
      go true = each_set (WholeBy z file) places (j * 8 + t) e a w
      go false = a

  after_same : length after ≡ length places
  after_same = go (is_players (get_or file e 0))
    where
      go : (b : Bool) → length (cond b (set places (j * 8 + t) e) places) ≡ length places
      go true = length-set places (j * 8 + t) e
      go false = refl

  after_others : t < 8 → (k : ℕ) → (k % 8 ≡ t → ⊥) → get_or after k 0 ≡ get_or places k 0
  after_others h k n = go (is_players (get_or file e 0))
    where
      go : (b : Bool) → get_or (cond b (set places (j * 8 + t) e) places) k 0 ≡ get_or places k 0
      go true = get_or-set_other places (j * 8 + t) k e 0 (λ y. n (ap (λ (i : ℕ). i % 8) y ∙ column j t h))
      go false = refl

  counted_few : j < 16 → counted ≤ 16
  counted_few h = go (is_players (get_or file e 0))
    where
      go : (b : Bool) → cond b (j + 1) j ≤ 16
      go true = let m : j + 1 ≤ 16 = omega arith in m
      go false = let m : j ≤ 16 = omega arith in m

abbrev pub scan_of : ℕ → ℕ → Open → Scan
scan_of next count o = record { next = next; count = count; opened = o }

-- a frame's first event, and what is passed over behind it
module _ (z : Spans) (frames : ℕ) (file spans : List ℕ) (at stop : ℕ) (o begun : Open) (t : ℕ) (places : List ℕ) where
  pub scan_first : t < 8 → 128 ≤ length places → at < stop → Stood z file spans at stop → Each (WholeBy z file) places → begun ≡ open_told true frames o (told_at file at) → begun.frames ≤ frames
      → {ps : List ℕ} {j span next : ℕ} → j ≡ cond (is_players (get_or file at 0)) (0 + 1) 0 → ps ≡ cond (is_players (get_or file at 0)) (set places (0 * 8 + t) at) places
      → span ≡ get_or spans (get_or file at 0) 0
      → Passed file spans (at + span) stop next
      → Scanned z frames file spans at stop o t places ps (scan_of next j begun)
  unfolding frame_at
  scan_first h l s d whole b bound {ps} {j} {span} {next} x y w p =
      let more : 0 * 8 + t < length places = omega arith in
      let k = stood_span d s w in
      rw (x, y)
      (record {
        whole = after_whole z frames file spans at stop o begun t 0 places more whole (stood_whole d s);
        same = after_same z frames file spans at stop o begun t 0 places more;
        others = after_others z frames file spans at stop o begun t 0 places more h;
        stood = stood_next d s w p;
        forward = omega (arith, k.0, p.forward);
        few = counted_few z frames file spans at stop o begun t 0 places more (omega arith);
        bound = bound;
        leads = λ q v r a all k. p.leads z q _ all (rw w (event_on z frames file spans at stop o begun t 0 places more b d s q v r a all k));
      })

  -- an event more
  scan_more : {ps : List ℕ} {e j : ℕ} → t < 8 → 128 ≤ length places → Scanned z frames file spans at stop o t places ps (scan_of e j begun) → Stays file e stop j
      → {ps' : List ℕ} {j' span next : ℕ} → j' ≡ cond (is_players (get_or file e 0)) (j + 1) j → ps' ≡ cond (is_players (get_or file e 0)) (set ps (j * 8 + t) e) ps
      → span ≡ get_or spans (get_or file e 0) 0
      → Passed file spans (e + span) stop next
      → Scanned z frames file spans at stop o t places ps' (scan_of next j' begun)
  unfolding opens
  scan_more {ps} {e} {j} h l c g {ps'} {j'} {span} {next} x y w p =
      let more : j * 8 + t < length ps = omega (arith, g.few, c.same) in
      let first : first_by true frames begun (told_at file e) ≡ false = rw (ne_eqb (get_or file e 0) 0x3A g.inside) in
      let b : begun ≡ open_told true frames begun (told_at file e) = opened_off (first_by true frames begun (told_at file e)) (told_at file e).id begun first in
      let k = stood_span c.stood g.before w in
      rw (x, y)
      (record {
        whole = after_whole z frames file spans e stop begun begun t j ps more c.whole (stood_whole c.stood g.before);
        same = after_same z frames file spans e stop begun begun t j ps more ∙ c.same;
        others = λ k n. after_others z frames file spans e stop begun begun t j ps more h k n ∙ c.others k n;
        stood = stood_next c.stood g.before w p;
        forward = omega (arith, c.forward, p.forward);
        few = counted_few z frames file spans e stop begun begun t j ps more g.few;
        bound = c.bound;
        leads = λ q v r a all k. p.leads z q _ all (rw w (event_on z frames file spans e stop begun begun t j ps more b c.stood g.before q v r a all (c.leads q v r a all k)));
      })

-- what the loop knows of a frame whose first event left a table and an answer: that they were found for somebody, and what was found for whom these were
pub record Going (frames : ℕ) (file spans : List ℕ) (at stop t : ℕ) (first : List ℕ) (r : Scan) (places : List ℕ) (s : Scan) : Type 0 where
  pub z : Spans
  pub o : Open
  pub one : Scanned z frames file spans at stop o t first places s
  pub all : (z : Spans) (o : Open) → Scanned z frames file spans at stop o t first first r → Scanned z frames file spans at stop o t first places s

module _ {z : Spans} {frames : ℕ} {file spans : List ℕ} {at stop : ℕ} {o : Open} {t : ℕ} {before first : List ℕ} {r : Scan} (a : Scanned z frames file spans at stop o t before first r) where
  from : Scanned z frames file spans at stop o t first first r
  from = record { whole = a.whole; same = refl; others = λ k n. refl; stood = a.stood; forward = a.forward; few = a.few; bound = a.bound; leads = a.leads }

  pub going_first : Going frames file spans at stop t first r first r
  going_first = record { z = z; o = o; one = from; all = λ x y s. s }

  -- of the table as it was before
  pub going_back : {places : List ℕ} {s : Scan} → Going frames file spans at stop t first r places s → Scanned z frames file spans at stop o t before places s
  going_back g =
      let b = g.all z o from in
      record {
        whole = b.whole;
        same = b.same ∙ a.same;
        others = λ k n. b.others k n ∙ a.others k n;
        stood = b.stood;
        forward = b.forward;
        few = b.few;
        bound = b.bound;
        leads = b.leads;
      }

pub going_more : {frames : ℕ} {file spans : List ℕ} {at stop t : ℕ} {first : List ℕ} {r : Scan} {places : List ℕ} {e j : ℕ} {begun : Open} → Going frames file spans at stop t first r places (scan_of e j begun)
    → t < 8 → 128 ≤ length first → Stays file e stop j
    → {ps : List ℕ} {j' span next : ℕ} → j' ≡ cond (is_players (get_or file e 0)) (j + 1) j → ps ≡ cond (is_players (get_or file e 0)) (set places (j * 8 + t) e) places
    → span ≡ get_or spans (get_or file e 0) 0
    → Passed file spans (e + span) stop next
    → Going frames file spans at stop t first r ps (scan_of next j' begun)
going_more {frames} {file} {spans} {at} {stop} {t} {first} {r} {places} {e} {j} {begun} g h l s {ps} {j'} {span} {next} x y w p =
    let more : (z : Spans) (o : Open) → Scanned z frames file spans at stop o t first places (scan_of e j begun) → Scanned z frames file spans at stop o t first ps (scan_of next j' begun) =
    λ z o c. scan_more z frames file spans at stop o begun t first h l c s x y w p in
    record { z = g.z; o = g.o; one = more g.z g.o g.one; all = λ z o c. more z o (g.all z o c) }

-- ---- several frames

frames_same : (q : Seating) (file a b : List ℕ) (count m n : ℕ) (x : Seats) → m ≤ 8 → ((k : ℕ) → k % 8 < m → get_or a k 0 ≡ get_or b k 0)
    → frames_at q file a count m n x ≡ frames_at q file b count m n x
unfolding frames_at
frames_same q file a b count zero n x g h = refl
frames_same q file a b count (suc m) n x g h =
    frame_same q file a b m count (n + m) (frames_at q file a count m n x) (λ k l. let c = column k m (omega arith) in h (k * 8 + m) (omega arith))
    ∙ ap (frame_at q file b m count (n + m)) (frames_same q file a b count m n x (omega arith) (λ k l. h k (omega arith)))

module _ (z : Spans) (frames : ℕ) (file spans : List ℕ) (at stop : ℕ) (o : Open) where
  pub batch_first : {before places : List ℕ} {s : Scan} → Scanned z frames file spans at stop o 0 before places s
      → Batched z frames file spans at stop o places (batch_of s.next s.count 1 s.opened.frames s.opened)
  unfolding frames_at
  batch_first {before} {places} {s} c = record {
    whole = c.whole;
    stood = c.stood;
    forward = c.forward;
    few = c.few;
    many = omega arith;
    bound = omega (arith, c.bound);
    begun = c.bound;
    leads = λ q v r a all k. rw (add-zero s.opened.frames) (c.leads q v r a all k);
  }

  module _ {places ps : List ℕ} {next count m first : ℕ} {last : Open} {s : Scan} (b : Batched z frames file spans at stop o places (batch_of next count m first last))
      (h : m < 8) (c : Scanned z frames file spans next stop last m places ps s) where
    kept : (q : Seating) (x : Seats) → frames_at q file places count m first x ≡ frames_at q file ps count m first x
    kept q x = frames_same q file places ps count m first x b.many (λ k l. sym (c.others k (λ e. omega arith)))

    -- a frame that does not go with them
    pub batch_kept : Batched z frames file spans at stop o ps (batch_of next count m first last)
    batch_kept = record {
      whole = c.whole;
      stood = b.stood;
      forward = b.forward;
      few = b.few;
      many = b.many;
      bound = b.bound;
      begun = b.begun;
      leads = λ q v r a all k. subst (λ (y : Seats). LeftIn (go_seats true q) z file spans next stop (seated_as last y) all) (kept q a) (b.leads q v r a all k);
    }

    -- and one that does
    pub batch_more : s.count ≡ count → s.opened.frames ≡ first + m → Batched z frames file spans at stop o ps (batch_of s.next count (m + 1) first s.opened)
    unfolding frames_at
    batch_more e f = record {
      whole = c.whole;
      stood = c.stood;
      forward = omega (arith, b.forward, c.forward);
      few = b.few;
      many = omega arith;
      bound = omega (arith, c.bound, f);
      begun = c.bound;
      leads = λ q v r a all k.
          let one = c.leads q v r (frames_at q file places count m first a) all (b.leads q v r a all k) in
          let same : frame_at q file ps m s.count s.opened.frames (frames_at q file places count m first a) ≡ frames_at q file ps count (m + 1) first a =
          ap₂ (λ (x n : ℕ). frame_at q file ps m x n (frames_at q file places count m first a)) e f ∙ ap (frame_at q file ps m count (first + m)) (kept q a) ∙ rw (add-one m) in
          subst (λ (y : Seats). LeftIn (go_seats true q) z file spans s.next stop (seated_as s.opened y) all) same one;
    }

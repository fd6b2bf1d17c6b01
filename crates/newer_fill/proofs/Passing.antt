-- The laws of the loop over a newer recorder's players' events.
-- Assumes nothing.
use mathlib.Core.Path.{◌≡◌, refl, ap, ◌∙◌}
use mathlib.Core.Bool.{true}
use mathlib.Core.List.{List}
use Prim.Native.Nat.{ℕ, zero, suc, ◌≤◌, ◌<◌}
use native.Mathlib.Omega.{arith}
use lib.ListN.{length, replicate}
use Rattle.format.specs.File.{Ev}
use Rattle.grammar.specs.WellFormed.{Each}
use Rattle.newer_places.specs.Known.{KnownIn, SomeKnown, LeftIn}
use Rattle.newer_places.specs.Inner.{Passed, Stood, Batched}
use Rattle.newer_places.proofs.Left.{left_done}
use Rattle.newer_places.proofs.Scans.{stood_whole}
use Rattle.read_event.specs.Inner.{none}
use Rattle.read_event.specs.Parts.{WholeBy, fold, Seats, Seating, SeatSpans, SeatRooms, Seated, seated_as, go_seats, seats_run}
use Rattle.read_event.specs.declared.seen.Open.{Open}
use Rattle.read_event.specs.declared.spans.Spans.{Spans}
use Rattle.read_places.specs.Inner.{frames_at}
use Rattle.read_places.specs.declared.scan.Batch.{Batch}
use Rattle.read_eights.proofs.Places.{Put, put_rooms}

-- where the first event stands that may bring players something
pub begins : (z : Spans) (file spans : List ℕ) (first stop : ℕ) {at : ℕ} → Passed file spans first stop at → SomeKnown z file spans first stop → Stood z file spans at stop
begins z file spans first stop p some = record { some = p.some z some; seat = p.seat }

-- what the loop knows at a place
pub record Passing (z : Spans) (q : Seating) (file spans : List ℕ) (first stop : ℕ) (r₀ r : Seats) (places : List ℕ) (o : Open) (at : ℕ) : Type 0 where
  pub put : Put r₀ r r
  pub stood : Stood z file spans at stop
  pub whole : Each (WholeBy z file) places
  pub long : 128 ≤ length places
  pub few : o.frames ≤ q.rows
  pub left : (es : List Ev) → KnownIn z file spans first stop es → LeftIn (go_seats true q) z file spans at stop (seated_as o r) (fold (go_seats true q) es (seated_as none.opened r₀))

module _ (z : Spans) (q : Seating) (file spans : List ℕ) (first stop : ℕ) where
  pub passing_first : (r : Seats) (places : List ℕ) → Stood z file spans first stop → Each (WholeBy z file) places → 128 ≤ length places
      → Passing z q file spans first stop r r places (record { frames = 0; id = 0 }) first
  passing_first r places stood whole long = record {
    put = record { pres = refl; posts = refl; presence = refl; is = refl };
    stood = stood;
    whole = whole;
    long = long;
    few = omega arith;
    left = λ es x. record { events = es; known = x; same = refl };
  }

  module _ {r₀ r : Seats} {places : List ℕ} {o : Open} {at : ℕ} (h : Passing z q file spans first stop r₀ r places o at) where
    pub passing_rooms : SeatRooms q r₀ → SeatRooms q r
    passing_rooms m = put_rooms m h.put

    pub passing_on : SeatSpans z q → {ps : List ℕ} {k : Batch} {r' : Seats} → Batched z q.rows file spans at stop o ps k → length ps ≡ length places
        → length r'.pres ≡ length r.pres → length r'.posts ≡ length r.posts → length r'.presence ≡ length r.presence
        → r' ≡ frames_at q file ps k.count k.many k.first r
        → Passing z q file spans first stop r₀ r' ps k.opened k.next
    passing_on s {ps} {k} {r'} b l x y w e = record {
      put = record { pres = x ∙ h.put.pres; posts = y ∙ h.put.posts; presence = w ∙ h.put.presence; is = refl };
      stood = b.stood;
      whole = b.whole;
      long = omega (arith, h.long, l);
      few = b.begun;
      left = λ es v. rw e (b.leads q s refl r (fold (go_seats true q) es (seated_as none.opened r₀)) (h.left es v));
    }

    pub passing_done : stop ≤ at → (es : List Ev) → KnownIn z file spans first stop es → r ≡ seats_run true q es r₀
    passing_done t es x =
        ap (λ (y : Seated). y.seats) (left_done z file spans at stop (go_seats true q) (seated_as o r) (fold (go_seats true q) es (seated_as none.opened r₀)) (h.left es x) t)

  -- ---- from that event on

  module _ {at : ℕ} (p : Passed file spans first stop at) where
    left_from : (r : Seats) (es : List Ev) → KnownIn z file spans first stop es → LeftIn (go_seats true q) z file spans at stop (seated_as none.opened r) (fold (go_seats true q) es (seated_as none.opened r))
    left_from r es x = p.leads z q (seated_as none.opened r) _ (record { events = es; known = x; same = refl })

    pub begun_run : (r r' : Seats) → ((es : List Ev) → KnownIn z file spans at stop es → r' ≡ seats_run true q es r) → (es : List Ev) → KnownIn z file spans first stop es → r' ≡ seats_run true q es r
    begun_run r r' g es x = let l = left_from r es x in g l.events l.known ∙ ap (λ (y : Seated). y.seats) l.same

    -- no such event at all
    pub begun_none : stop ≤ at → (r : Seats) (es : List Ev) → KnownIn z file spans first stop es → r ≡ seats_run true q es r
    begun_none t r es x =
        ap (λ (y : Seated). y.seats) (left_done z file spans at stop (go_seats true q) (seated_as none.opened r) (fold (go_seats true q) es (seated_as none.opened r)) (left_from r es x) t)

-- a table of one place
each_one : (P : ℕ → Type 0) (x n : ℕ) → P x → Each P (replicate n x)
unfolding Each replicate
each_one P x zero p = tt
each_one P x (suc n) p = (p, each_one P x n p)

pub table_whole : (z : Spans) (file spans : List ℕ) (at stop : ℕ) → Stood z file spans at stop → at < stop → Each (WholeBy z file) (replicate 128 at)
table_whole z file spans at stop s h = each_one (WholeBy z file) at 128 (stood_whole s h)

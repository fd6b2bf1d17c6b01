-- The laws of the loop over all players' events.
-- Assumes nothing.
use mathlib.Core.Path.{◌≡◌, refl, sym, ap, subst, ◌∙◌}
use mathlib.Core.Bool.{Bool}
use mathlib.Core.List.{List, [], ◌∷◌}
use Prim.Native.Nat.{ℕ, zero, suc, ◌+◌, ◌≤◌, ◌<◌}
use native.Mathlib.Omega.{arith}
use lib.ListN.{length, take, replicate, length-replicate}
use Rattle.format.specs.File.{Ev}
use Rattle.layout.specs.Columns.{has_family}
use Rattle.layout.specs.Inner.{Widths}
use Rattle.layout.specs.declared.columns.Family.TheVariants.{Pre, Post, FrameStart}
use Rattle.layout.specs.declared.listing.Listing.{Listing}
use Rattle.game.specs.declared.frames.Frames.{Frames}
use Rattle.grammar.specs.WellFormed.{Each}
use Rattle.read_event.specs.Inner.{none, Plan, plan_of, spans_of, Numbered}
use Rattle.read_event.specs.Parts.{SpelledBy, SomeBy, WholeBy, fold, LeftBy, Seats, Seating, seating, SeatSpans, SeatRooms, Seated, seated_as, go_seats, seats_run, seating_of}
use Rattle.read_event.specs.declared.seen.Open.{Open}
use Rattle.read_event.specs.declared.spans.Spans.{Spans}
use Rattle.read_event.proofs.Parts.{left_done, some_whole, seats_agrees}
use Rattle.read_places.specs.Inner.{frames_at, Batched}
use Rattle.read_places.specs.declared.scan.Batch.{Batch}
use Rattle.read_eights.proofs.Places.{Put, put_rooms}

-- what the loop knows at a place
pub record Passing (z : Spans) (start : Bool) (q : Seating) (file : List ℕ) (first stop : ℕ) (r₀ r : Seats) (places : List ℕ) (o : Open) (at : ℕ) : Type 0 where
  pub put : Put r₀ r r
  pub some : SomeBy z file at stop
  pub whole : Each (WholeBy z file) places
  pub long : 128 ≤ length places
  pub few : o.frames ≤ q.rows
  pub left : (es : List Ev) → SpelledBy z file first stop es → LeftBy (go_seats start q) z file at stop (seated_as o r) (fold (go_seats start q) es (seated_as none.opened r₀))

module _ (z : Spans) (start : Bool) (q : Seating) (file : List ℕ) (first stop : ℕ) where
  pub passing_first : (r : Seats) (places : List ℕ) → SomeBy z file first stop → Each (WholeBy z file) places → 128 ≤ length places
      → Passing z start q file first stop r r places (record { frames = 0; id = 0 }) first
  passing_first r places some whole long = record {
    put = record { pres = refl; posts = refl; presence = refl; is = refl };
    some = some;
    whole = whole;
    long = long;
    few = omega arith;
    left = λ es x. record { events = es; spelled = x; same = refl };
  }

  module _ {r₀ r : Seats} {places : List ℕ} {o : Open} {at : ℕ} (h : Passing z start q file first stop r₀ r places o at) where
    pub passing_rooms : SeatRooms q r₀ → SeatRooms q r
    passing_rooms m = put_rooms m h.put

    pub passing_on : SeatSpans z q → {ps : List ℕ} {k : Batch} {r' : Seats} → Batched z start q.rows file at stop o ps k → length ps ≡ length places
        → length r'.pres ≡ length r.pres → length r'.posts ≡ length r.posts → length r'.presence ≡ length r.presence
        → r' ≡ frames_at q file ps k.count k.many k.first r
        → Passing z start q file first stop r₀ r' ps k.opened k.next
    passing_on s {ps} {k} {r'} b l x y w e = record {
      put = record { pres = x ∙ h.put.pres; posts = y ∙ h.put.posts; presence = w ∙ h.put.presence; is = refl };
      some = b.some;
      whole = b.whole;
      long = omega (arith, h.long, l);
      few = b.begun;
      left = λ es v. rw e (b.leads q s refl r (fold (go_seats start q) es (seated_as none.opened r₀)) (h.left es v));
    }

    pub passing_done : SeatSpans z q → stop ≤ at → (es : List Ev) → SpelledBy z file first stop es → r ≡ seats_run start q es r₀
    passing_done s t es x =
        ap (λ (y : Seated). y.seats) (left_done z file at stop (go_seats start q) (seats_agrees z start q s) (seated_as o r) (fold (go_seats start q) es (seated_as none.opened r₀)) (h.left es x) t)

-- a table of one place
each_one : (P : ℕ → Type 0) (x n : ℕ) → P x → Each P (replicate n x)
unfolding Each replicate
each_one P x zero p = tt
each_one P x (suc n) p = (p, each_one P x n p)

pub table_whole : (z : Spans) (file : List ℕ) (at stop : ℕ) → SomeBy z file at stop → at < stop → Each (WholeBy z file) (replicate 128 at)
table_whole z file at stop some h = each_one (WholeBy z file) at 128 (some_whole z file at stop some h)

pub table_long : (at : ℕ) → 128 ≤ length (replicate 128 at)
table_long at = rw (length-replicate 128 at) (omega arith)

-- no event at all
pub nothing_done : (z : Spans) (start : Bool) (q : Seating) (file : List ℕ) (first stop : ℕ) (r : Seats) → SeatSpans z q → stop ≤ first → (es : List Ev) → SpelledBy z file first stop es → r ≡ seats_run start q es r
nothing_done z start q file first stop r s t es x =
    ap (λ (y : Seated). y.seats)
    (left_done z file first stop (go_seats start q) (seats_agrees z start q s) (seated_as none.opened r) (fold (go_seats start q) es (seated_as none.opened r)) (record { events = es; spelled = x; same = refl }) t)

-- ---- the columns of a version

pub seating_is : (f : Frames) (pre post : Listing) (count : ℕ) (of : List ℕ) → Widths Pre f.version pre.count pre.bytes pre.widths
    → Widths Post f.version post.count post.bytes post.widths
    → Numbered f count of
    → seating (take pre.count pre.widths) (take post.count post.widths) (take count of) f.counts.frames ≡ seating_of (plan_of f)
seating_is f pre post count of a b n = λ i. seating (a.each i) (b.each i) (n.are i) f.counts.frames

pub seat_spans_are : (p : Plan) (z : Spans) (q : Seating) → z ≡ spans_of p → q ≡ seating_of p → SeatSpans z q
seat_spans_are p z q e d = subst (SeatSpans z) (sym d) (record { pre = ap (λ (x : Spans). x.pre) e; post = ap (λ (x : Spans). x.post) e })

pub seat_rooms_as : (q p : Seating) (r : Seats) → q ≡ p → SeatRooms p r → SeatRooms q r
seat_rooms_as q p r e = subst (λ (x : Seating). SeatRooms x r) (sym e)

pub seats_run_as : (start has : Bool) (q p : Seating) (es : List Ev) (r : Seats) → start ≡ has → q ≡ p → seats_run start q es r ≡ seats_run has p es r
seats_run_as start has q p es r a e = λ i. seats_run (a i) (e i) es r

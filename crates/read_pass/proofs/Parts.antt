-- The laws of the two parts together: what both ask of the stores and the file, and what they leave.
-- Assumes nothing.
use mathlib.Core.Path.{◌≡◌, refl, sym, ap, subst, ◌∙◌}
use mathlib.Core.List.{List, [], ◌∷◌}
use Prim.Native.Nat.{ℕ, ◌*◌, ◌≤◌}
use native.Mathlib.Omega.{arith}
use lib.ListN.{length}
use Rattle.format.specs.File.{Ev}
use Rattle.layout.specs.declared.columns.Family.TheVariants.{Pre, Post}
use Rattle.game.specs.Stores.{Lent}
use Rattle.game.specs.declared.frames.Frames.{Frames}
use Rattle.grammar.specs.WellFormed.{Each}
use Rattle.read_event.specs.Inner.{Plan, plan_of, spans_of, run, none, cleared, zeros, player_cells, presence_cells, Roomy, Rooms, Sized, Spelled, SomeSpelled}
use Rattle.read_event.specs.Parts.{SizedBy, SpelledBy, SomeBy, Rows, RowRooms, rows_run, Seats, seats, SeatRooms, seats_run, row_plan_of, seating_of, rows_of, lent_of}
use Rattle.read_event.specs.declared.spans.Spans.{Spans}
use Rattle.read_event.proofs.Parts.{run_parts}

sized_by : (p : Plan) (es : List Ev) → Each (Sized p) es → Each (SizedBy (spans_of p)) es
unfolding Each
sized_by p [] h = tt
sized_by p (e ∷ es) h = (record { long = h.0.long; size = h.0.size }, sized_by p es h.1)

pub spelled_by : (p : Plan) (z : Spans) (file : List ℕ) (at end : ℕ) (es : List Ev) → z ≡ spans_of p → Spelled p file at end es → SpelledBy z file at end es
spelled_by p z file at end es e q = subst (λ (x : Spans). SpelledBy x file at end es) (sym e) (record { rest = q.rest; here = q.here; long = q.long; sized = sized_by p es q.sized })

pub some_by : (p : Plan) (z : Spans) (file : List ℕ) (at end : ℕ) → z ≡ spans_of p → SomeSpelled p file at end → SomeBy z file at end
some_by p z file at end e q = record { events = q.events; spelled = spelled_by p z file at end q.events e q.spelled }

pub row_rooms : (p : Plan) (l : Lent) → Rooms p l → RowRooms (row_plan_of p) (rows_of l)
row_rooms p l r = record { starts = r.starts; ends = r.ends; items = r.items; fods = r.fods; whispys = r.whispys; stadiums = r.stadiums }

roomy_on : {ws xs ys : List ℕ} {blocks rows : ℕ} → Roomy ws xs blocks rows → length ys ≡ length xs → Roomy ws ys blocks rows
roomy_on q e = record { narrow = q.narrow; room = omega (arith, q.room) }

pub seat_rooms : (p : Plan) (l : Lent) (pres posts bits : List ℕ) → Rooms p l → length pres ≡ length l.cells.pres → length posts ≡ length l.cells.posts → length bits ≡ length l.presence
    → SeatRooms (seating_of p) (seats pres posts bits)
seat_rooms p l pres posts bits r a b c = record { pres = roomy_on r.pres a; posts = roomy_on r.posts b; bits = omega (arith, r.bits, c); modest = r.modest }

pub filled : (f : Frames) (es : List Ev) (l : Lent) (pres posts bits : List ℕ) (w : Rows) (r : Seats)
    → (pres ≡ zeros (player_cells f Pre) l.cells.pres) × (posts ≡ zeros (player_cells f Post) l.cells.posts) × (bits ≡ zeros (presence_cells f) l.presence)
    → r ≡ seats_run (plan_of f).has_start (seating_of (plan_of f)) es (seats pres posts bits)
    → w ≡ rows_run (row_plan_of (plan_of f)) es (rows_of l)
    → lent_of w r ≡ run (plan_of f) es none (cleared f l)
unfolding cleared
filled f es l pres posts bits w r e a b =
    let c : r ≡ seats_run (plan_of f).has_start (seating_of (plan_of f)) es (seats (zeros (player_cells f Pre) l.cells.pres) (zeros (player_cells f Post) l.cells.posts) (zeros (presence_cells f) l.presence)) =
    a ∙ (λ i. seats_run (plan_of f).has_start (seating_of (plan_of f)) es (seats (e.0 i) (e.1 i) (e.2 i))) in
    (λ i. lent_of (b i) (c i)) ∙ sym (run_parts (plan_of f) es (cleared f l))

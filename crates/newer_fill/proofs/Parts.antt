-- The laws of the two parts together: the known events of those that are spelled, and what both parts leave.
-- Assumes nothing.
use mathlib.Core.Path.{◌≡◌, refl, sym, subst, ◌∙◌}
use mathlib.Core.Bool.{true}
use mathlib.Core.List.{List, [], ◌∷◌}
use Prim.Native.Nat.{ℕ}
use Rattle.format.specs.File.{Ev}
use Rattle.layout.specs.declared.columns.Family.TheVariants.{Pre, Post, FrameStart}
use Rattle.game.specs.Stores.{Lent}
use Rattle.game.specs.declared.frames.Frames.{Frames}
use Rattle.grammar.specs.WellFormed.{Each}
use Rattle.known.specs.Known.{is_newer, known_of}
use Rattle.known.proofs.Newest.{has_family_lem}
use Rattle.newer_places.specs.Known.{KnownIn, SomeKnown}
use Rattle.read_event.specs.Inner.{Plan, plan_of, spans_of, run, none, cleared, zeros, player_cells, presence_cells, Sized}
use Rattle.read_event.specs.Parts.{SizedBy, Rows, rows_run, Seats, seats, seats_run, row_plan_of, seating_of, rows_of, lent_of}
use Rattle.read_event.specs.declared.spans.Spans.{Spans}
use Rattle.read_eights.proofs.Passing.{seats_run_as}
use Rattle.read_pass.proofs.Parts.{filled}
use Rattle.newer_fill.specs.Inner.{SpelledNewer, SomeNewer}

sized_by : (p : Plan) (es : List Ev) → Each (Sized p) es → Each (SizedBy (spans_of p)) es
unfolding Each
sized_by p [] h = tt
sized_by p (e ∷ es) h = (record { long = h.0.long; size = h.0.size }, sized_by p es h.1)

pub known_in : (f : Frames) (z : Spans) (file spans : List ℕ) (first stop : ℕ) (raw : List Ev) → z ≡ spans_of (plan_of f) → SpelledNewer f file spans first stop raw
    → KnownIn z file spans first stop (known_of f.version raw)
known_in f z file spans first stop raw e s = subst (λ (x : Spans). KnownIn x file spans first stop (known_of f.version raw)) (sym e)
    (record { version = f.version; raw = raw; covers = s.covers; known_are = refl; sized = sized_by (plan_of f) (known_of f.version raw) s.sized })

pub some_known : (f : Frames) (z : Spans) (file spans : List ℕ) (first stop : ℕ) → z ≡ spans_of (plan_of f) → SomeNewer f file spans first stop → SomeKnown z file spans first stop
some_known f z file spans first stop e s = record { events = known_of f.version s.raw; known = known_in f z file spans first stop s.raw e s.spelled }

pub filled_newer : (f : Frames) → is_newer f.version ≡ true → (es : List Ev) (l : Lent) (pres posts bits : List ℕ) (w : Rows) (r : Seats)
    → (pres ≡ zeros (player_cells f Pre) l.cells.pres) × (posts ≡ zeros (player_cells f Post) l.cells.posts) × (bits ≡ zeros (presence_cells f) l.presence)
    → r ≡ seats_run true (seating_of (plan_of f)) es (seats pres posts bits)
    → w ≡ rows_run (row_plan_of (plan_of f)) es (rows_of l)
    → lent_of w r ≡ run (plan_of f) es none (cleared f l)
filled_newer f n es l pres posts bits w r e a b =
    let q = seating_of (plan_of f) in
    filled f es l pres posts bits w r e (a ∙ seats_run_as true (plan_of f).has_start q q es (seats pres posts bits) (sym (has_family_lem f.version n FrameStart)) refl) b

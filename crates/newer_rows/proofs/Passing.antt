-- The laws of the loop over a newer recorder's events, for the stores that are no player's.
-- Assumes nothing.
use mathlib.Core.Path.{◌≡◌, refl, sym, ap, ◌∙◌}
use mathlib.Core.Bool.{Bool, true, false, ◌||◌}
use mathlib.Core.List.{List}
use Prim.Native.Nat.{ℕ, ◌+◌, ◌≤◌, ◌<◌}
use native.Mathlib.Omega.{arith}
use borrow.Author.Tests.{ne_eqb}
use lib.Dec.{eqb}
use lib.ListN.{length, get_or}
use Rattle.format.specs.File.{Ev}
use Rattle.format.proofs.Versions.{no_way}
use Rattle.known.specs.Known.{is_known}
use Rattle.known.proofs.Codes.{unlike}
use Rattle.newer_events.specs.Some.{SomeCovers}
use Rattle.newer_places.specs.Known.{KnownIn, SomeKnown, LeftIn}
use Rattle.newer_places.proofs.Left.{Quiet, covers_next, span_before, some_whole, some_next, left_next, left_quiet, left_done}
use Rattle.read_event.specs.Inner.{told_at, opens, open_after, next_after, marked, row_put, row_next, none, Roomy}
use Rattle.read_event.specs.Parts.{WholeBy, fold, Rows, RowPlan, RowSpans, RowRooms, Rowing, rowing, go_rows, rows_done, rows_run}
use Rattle.read_event.specs.declared.seen.Seen.{Seen}
use Rattle.read_event.specs.declared.spans.Spans.{Spans}
use Rattle.read_event.proofs.Parts.{rows_agrees}
use Rattle.read_rows.proofs.Passing.{Lengths, lengths_on}
use Rattle.newer_rows.specs.Inner.{is_row, Passed}

-- ---- codes

or_no : (a b : Bool) → (a || b) ≡ false → (a ≡ false) × (b ≡ false)
or_no true b h = no_way (sym h)
or_no false b h = (refl, h)

pub row_below : (code : ℕ) → code < 0x3A → false ≡ is_row code
unfolding is_row
row_below code h =
    let off : (x : ℕ) → 0x3A ≤ x → eqb code x ≡ false = λ x g. ne_eqb code x (λ e. omega (arith, h, g, e)) in
    rw (off 0x3A (omega arith), off 0x3B (omega arith), off 0x3C (omega arith), off 0x3F (omega arith), off 0x40 (omega arith), off 0x41 (omega arith))

-- a code that is asked for is known
pub row_known : (code : ℕ) → is_row code ≡ true → is_known code ≡ true
unfolding is_row
row_known code h = go (is_known code) refl
  where
    go : (b : Bool) → is_known code ≡ b → is_known code ≡ true
    go true y = y
    go false y = let u = unlike code y in no_way (rw (u.frame, u.item, u.last, u.fod, u.whispy, u.stadium) at h)

-- an event of another code brings these stores nothing
pub row_quiet : (q : RowPlan) → q.has_start ≡ true → (code : ℕ) → is_row code ≡ false → Quiet (go_rows q) code
unfolding is_row go_rows opens open_after next_after marked row_put row_next
row_quiet q has code h t c x =
    let stadium = eqb code 0x41 in
    let whispy = eqb code 0x40 || stadium in
    let fod = eqb code 0x3F || whispy in
    let end = eqb code 0x3C || fod in
    let a = or_no (eqb code 0x3A) (eqb code 0x3B || end) h in
    let b = or_no (eqb code 0x3B) end a.1 in
    let d = or_no (eqb code 0x3C) fod b.1 in
    let e = or_no (eqb code 0x3F) whispy d.1 in
    let g = or_no (eqb code 0x40) stadium e.1 in
    rw (c, has, a.0, b.0, d.0, e.0, g.0, g.1)

-- ---- what is passed over

module _ (file spans : List ℕ) (at stop : ℕ) where
  -- what the loop knows at a place
  pub record Passing (e : ℕ) : Type 0 where
    pub forward : at ≤ e
    pub covers : SomeCovers file spans e stop
    pub some : (z : Spans) → SomeKnown z file spans at stop → SomeKnown z file spans e stop
    pub leads : (z : Spans) (q : RowPlan) → q.has_start ≡ true → (x all : Rowing) → LeftIn (go_rows q) z file spans at stop x all → LeftIn (go_rows q) z file spans e stop x all

  pub passing_first : SomeCovers file spans at stop → Passing at
  passing_first c = record { forward = omega arith; covers = c; some = λ z s. s; leads = λ z q has x all l. l }

  module _ {e : ℕ} (p : Passing e) where
    pub passing_more : {span : ℕ} → e < stop → is_row (get_or file e 0) ≡ false → span ≡ get_or spans (get_or file e 0) 0 → Passing (e + span)
    passing_more {span} h n w = rw w
        (record {
          forward = omega (arith, p.forward);
          covers = covers_next file spans e stop p.covers.raw p.covers.covers h;
          some = λ z s. some_next z file spans e stop (p.some z s) h;
          leads = λ z q has x all l. left_quiet z file spans e stop (go_rows q) x all (p.leads z q has x all l) (row_quiet q has (get_or file e 0) n) h;
        })

    pub passing_span : {span : ℕ} → e < stop → span ≡ get_or spans (get_or file e 0) 0 → (0 < span) × (e + span ≤ stop) × (stop ≤ length file)
    passing_span h w = rw w (span_before file spans e stop p.covers.raw p.covers.covers h)

    pub passed_row : is_row (get_or file e 0) ≡ true → Passed file spans at stop e
    passed_row s = record { forward = p.forward; covers = p.covers; row = λ h. s; some = p.some; leads = p.leads }

    pub passed_all : stop ≤ e → Passed file spans at stop e
    passed_all h = record { forward = p.forward; covers = p.covers; row = λ l. absurd (omega arith); some = p.some; leads = p.leads }

-- ---- the loop

same_lengths : (w : Rows) → Lengths w w
same_lengths w = record {
  ids = refl;
  starts = refl;
  ends = refl;
  items = refl;
  fods = refl;
  whispys = refl;
  stadiums = refl;
  item_offsets = refl;
  fod_offsets = refl;
  whispy_offsets = refl;
  stadium_offsets = refl;
}

roomy_on : {ws xs ys : List ℕ} {blocks rows : ℕ} → Roomy ws xs blocks rows → length ys ≡ length xs → Roomy ws ys blocks rows
roomy_on q e = record { narrow = q.narrow; room = omega (arith, q.room) }

-- what the loop knows at a place
pub record Filling (z : Spans) (q : RowPlan) (file spans : List ℕ) (first stop : ℕ) (w m : Rows) (s : Seen) (at : ℕ) : Type 0 where
  pub lengths : Lengths w m
  pub some : SomeKnown z file spans at stop
  pub row : at < stop → is_row (get_or file at 0) ≡ true
  pub left : (es : List Ev) → KnownIn z file spans first stop es → LeftIn (go_rows q) z file spans at stop (rowing s m) (fold (go_rows q) es (rowing none w))

pub filling_first : (z : Spans) (q : RowPlan) (file spans : List ℕ) (first stop : ℕ) (w : Rows) (s : Seen) → q.has_start ≡ true → SomeKnown z file spans first stop → s ≡ none → {at : ℕ} → Passed file spans first stop at
    → Filling z q file spans first stop w w s at
filling_first z q file spans first stop w s has some e p = record {
  lengths = same_lengths w;
  some = p.some z some;
  row = p.row;
  left = λ es x. p.leads z q has (rowing s w) _ (record { events = es; known = x; same = ap (λ (y : Seen). fold (go_rows q) es (rowing y w)) e });
}

module _ (z : Spans) (q : RowPlan) (file spans : List ℕ) (first stop : ℕ) (w m : Rows) (s : Seen) (at : ℕ) (h : Filling z q file spans first stop w m s at) where
  pub filling_rooms : RowRooms q w → RowRooms q m
  filling_rooms r = record {
    starts = roomy_on r.starts h.lengths.starts;
    ends = roomy_on r.ends h.lengths.ends;
    items = roomy_on r.items h.lengths.items;
    fods = roomy_on r.fods h.lengths.fods;
    whispys = roomy_on r.whispys h.lengths.whispys;
    stadiums = roomy_on r.stadiums h.lengths.stadiums;
  }

  module _ (t : at < stop) where
    pub filling_whole : WholeBy z file at
    filling_whole = some_whole z file spans at stop h.some t (row_known (get_or file at 0) (h.row t))

    pub filling_span : {span : ℕ} → span ≡ get_or spans (get_or file at 0) 0 → (0 < span) × (at + span ≤ stop) × (stop ≤ length file)
    filling_span e = rw e (span_before file spans at stop h.some.known.raw h.some.known.covers t)

    pub filling_covers : {span : ℕ} → span ≡ get_or spans (get_or file at 0) 0 → SomeCovers file spans (at + span) stop
    filling_covers e = rw e (covers_next file spans at stop h.some.known.raw h.some.known.covers t)

    -- one event, and those behind it that bring nothing
    pub filling_on : RowSpans z q → q.has_start ≡ true → {span : ℕ} → span ≡ get_or spans (get_or file at 0) 0 → {s' : Seen} {m' : Rows} → Lengths m m' → rowing s' m' ≡ go_rows q (rowing s m) (told_at file at)
        → {next : ℕ} → Passed file spans (at + span) stop next → Filling z q file spans first stop w m' s' next
    filling_on spelled has {span} e {s'} {m'} k g p = record {
      lengths = lengths_on w m m' h.lengths k;
      some = p.some z (rw e (some_next z file spans at stop h.some t));
      row = p.row;
      left = λ es x. p.leads z q has (rowing s' m') _
          (rw (e, g) (left_next z file spans at stop (go_rows q) (rowing s m) (fold (go_rows q) es (rowing none w)) (h.left es x) (rows_agrees z q spelled) t (row_known (get_or file at 0) (h.row t))));
    }

  pub filling_done : stop ≤ at → (m' : Rows) → m' ≡ rows_done q (rowing s m) → (es : List Ev) → KnownIn z file spans first stop es → m' ≡ rows_run q es w
  filling_done t m' e es x = e ∙ ap (rows_done q) (left_done z file spans at stop (go_rows q) (rowing s m) (fold (go_rows q) es (rowing none w)) (h.left es x) t)

-- The laws of the loop over all events.
-- Assumes nothing.
use mathlib.Core.Path.{◌≡◌, refl, sym, ap, subst, ◌∙◌}
use mathlib.Core.Bool.{Bool, true, cond, ◌&&◌}
use mathlib.Core.List.{List}
use Prim.Native.Nat.{ℕ, ◌+◌, ◌*◌, ◌≤◌, ◌<◌}
use native.Mathlib.Omega.{arith}
use lib.Dec.{ltb}
use lib.ListN.{length, get_or}
use Rattle.format.specs.File.{Ev}
use Rattle.read_event.specs.Inner.{told_at, span_by, offset_marked, none, Roomy}
use Rattle.read_event.specs.Parts.{SpelledBy, SomeBy, WholeBy, fold, LeftBy, Rows, rows, RowPlan, RowSpans, RowRooms, Rowing, rowing, go_rows, rows_done, rows_run}
use Rattle.read_event.specs.declared.seen.Seen.{Seen}
use Rattle.read_event.specs.declared.spans.Spans.{Spans}
use Rattle.read_event.proofs.Parts.{some_whole, some_next, left_next, left_done, rows_agrees}
use Rattle.read_leap.specs.Inner.{ids_put, offsets_put, rows_put, seen_then, Leaps}
use Rattle.read_leap.proofs.Leaps.{then, frames_on}
use Rattle.read_turn.specs.Inner.{Nothing}

-- ---- the loop

-- stores of the same lengths as others
pub record Lengths (w m : Rows) : Type 0 where
  pub ids : length m.ids ≡ length w.ids
  pub starts : length m.starts ≡ length w.starts
  pub ends : length m.ends ≡ length w.ends
  pub items : length m.items ≡ length w.items
  pub fods : length m.fods ≡ length w.fods
  pub whispys : length m.whispys ≡ length w.whispys
  pub stadiums : length m.stadiums ≡ length w.stadiums
  pub item_offsets : length m.item_offsets ≡ length w.item_offsets
  pub fod_offsets : length m.fod_offsets ≡ length w.fod_offsets
  pub whispy_offsets : length m.whispy_offsets ≡ length w.whispy_offsets
  pub stadium_offsets : length m.stadium_offsets ≡ length w.stadium_offsets

same_lengths : (w : Rows) → Lengths w w
same_lengths w = record {
  ids = refl;
  starts = refl;
  ends = refl;
  items = refl;
  fods = refl;
  whispys = refl;
  stadiums = refl;
  item_offsets = refl;
  fod_offsets = refl;
  whispy_offsets = refl;
  stadium_offsets = refl;
}

pub lengths_on : (l m n : Rows) → Lengths l m → Lengths m n → Lengths l n
lengths_on l m n a b = record {
  ids = b.ids ∙ a.ids;
  starts = b.starts ∙ a.starts;
  ends = b.ends ∙ a.ends;
  items = b.items ∙ a.items;
  fods = b.fods ∙ a.fods;
  whispys = b.whispys ∙ a.whispys;
  stadiums = b.stadiums ∙ a.stadiums;
  item_offsets = b.item_offsets ∙ a.item_offsets;
  fod_offsets = b.fod_offsets ∙ a.fod_offsets;
  whispy_offsets = b.whispy_offsets ∙ a.whispy_offsets;
  stadium_offsets = b.stadium_offsets ∙ a.stadium_offsets;
}

roomy_on : {ws xs ys : List ℕ} {blocks rows : ℕ} → Roomy ws xs blocks rows → length ys ≡ length xs → Roomy ws ys blocks rows
roomy_on q e = record { narrow = q.narrow; room = omega (arith, q.room) }

-- what the loop knows at a place
pub record Passing (z : Spans) (q : RowPlan) (file : List ℕ) (first stop : ℕ) (w m : Rows) (s : Seen) (at : ℕ) : Type 0 where
  pub lengths : Lengths w m
  pub some : SomeBy z file at stop
  pub left : (es : List Ev) → SpelledBy z file first stop es → LeftBy (go_rows q) z file at stop (rowing s m) (fold (go_rows q) es (rowing none w))

pub passing_first : (z : Spans) (q : RowPlan) (file : List ℕ) (first stop : ℕ) (w : Rows) (s : Seen) → SomeBy z file first stop → s ≡ none → Passing z q file first stop w w s first
passing_first z q file first stop w s some e =
    record { lengths = same_lengths w; some = some; left = λ es x. record { events = es; spelled = x; same = ap (λ (y : Seen). fold (go_rows q) es (rowing y w)) e } }

module _ (z : Spans) (q : RowPlan) (file : List ℕ) (first stop : ℕ) (w m : Rows) (s : Seen) (at : ℕ) (h : Passing z q file first stop w m s at) where
  pub passing_rooms : RowRooms q w → RowRooms q m
  passing_rooms r = record {
    starts = roomy_on r.starts h.lengths.starts;
    ends = roomy_on r.ends h.lengths.ends;
    items = roomy_on r.items h.lengths.items;
    fods = roomy_on r.fods h.lengths.fods;
    whispys = roomy_on r.whispys h.lengths.whispys;
    stadiums = roomy_on r.stadiums h.lengths.stadiums;
  }

  module _ (t : at < stop) where
    pub passing_whole : WholeBy z file at
    passing_whole = some_whole z file at stop h.some t

    pub passing_next : (span : ℕ) → span ≡ span_by z (get_or file at 0) → SomeBy z file (at + span) stop
    passing_next span e = rw e (some_next z file at stop h.some t)

    pub passing_on : RowSpans z q → (span : ℕ) → span ≡ span_by z (get_or file at 0) → (s' : Seen) (m' : Rows) → Lengths m m' → rowing s' m' ≡ go_rows q (rowing s m) (told_at file at)
        → Passing z q file first stop w m' s' (at + span)
    passing_on spans span e s' m' k g = record {
      lengths = lengths_on w m m' h.lengths k;
      some = passing_next span e;
      left = λ es x. rw (e, g) (left_next z file at stop (go_rows q) (rows_agrees z q spans) (rowing s m) (fold (go_rows q) es (rowing none w)) (h.left es x) t);
    }

  -- and over events that bring nothing
  pub passing_quiet : RowSpans z q → {e : ℕ} → Nothing z q.has_start s.opened file at stop e → Passing z q file first stop w m s e
  passing_quiet spans n = record {
    lengths = h.lengths;
    some = n.some;
    left = λ es x. n.leads q spans refl s refl m (fold (go_rows q) es (rowing none w)) (h.left es x);
  }

  pub passing_done : RowSpans z q → stop ≤ at → (m' : Rows) → m' ≡ rows_done q (rowing s m) → (es : List Ev) → SpelledBy z file first stop es → m' ≡ rows_run q es w
  passing_done spans t m' e es x = e ∙ ap (rows_done q) (left_done z file at stop (go_rows q) (rows_agrees z q spans) (rowing s m) (fold (go_rows q) es (rowing none w)) (h.left es x) t)

-- the last offsets
pub offsets_done : (q : RowPlan) (s : Seen) (w : Rows) (a b c d : List ℕ)
    → (a ≡ offset_marked (true && q.has_item) s.opened.frames s.next.items w.item_offsets)
    × (b ≡ offset_marked (true && q.has_stage) s.opened.frames s.next.fods w.fod_offsets)
    × (c ≡ offset_marked (true && q.has_stage) s.opened.frames s.next.whispys w.whispy_offsets)
    × (d ≡ offset_marked (true && q.has_stage) s.opened.frames s.next.stadiums w.stadium_offsets)
    → record {
      ids = w.ids;
      starts = w.starts;
      ends = w.ends;
      items = w.items;
      fods = w.fods;
      whispys = w.whispys;
      stadiums = w.stadiums;
      item_offsets = a;
      fod_offsets = b;
      whispy_offsets = c;
      stadium_offsets = d;
    } ≡ rows_done q (rowing s w)
unfolding rows_done
offsets_done q s w a b c d e = λ i. record {
  ids = w.ids;
  starts = w.starts;
  ends = w.ends;
  items = w.items;
  fods = w.fods;
  whispys = w.whispys;
  stadiums = w.stadiums;
  item_offsets = e.0 i;
  fod_offsets = e.1 i;
  whispy_offsets = e.2 i;
  stadium_offsets = e.3 i;
}

-- eight frames further

module _ (z : Spans) (q : RowPlan) (file : List ℕ) (first stop : ℕ) (w m : Rows) (s : Seen) (at : ℕ) (h : Passing z q file first stop w m s at) where
  pub passing_leap : RowSpans z q → {step e : ℕ} → Leaps z q.has_start file at stop step s q.counts.frames e → {s' : Seen} {ids starts ends item fod whispy stadium : List ℕ}
      → (s' ≡ seen_then file at step (ltb e (at + step)) 8 s)
      × (ids ≡ ids_put file at step 8 s.opened.frames m.ids)
      × (starts ≡ rows_put q.start file at step 8 m.starts q.counts.frames s.next.starts)
      × (ends ≡ cond (ltb e (at + step)) (rows_put q.end file e step 8 m.ends q.counts.frames s.next.ends) m.ends)
      × (item ≡ offsets_put q.has_item 8 s.opened.frames s.next.items m.item_offsets)
      × (fod ≡ offsets_put q.has_stage 8 s.opened.frames s.next.fods m.fod_offsets)
      × (whispy ≡ offsets_put q.has_stage 8 s.opened.frames s.next.whispys m.whispy_offsets)
      × (stadium ≡ offsets_put q.has_stage 8 s.opened.frames s.next.stadiums m.stadium_offsets)
      → Lengths m (rows ids starts ends m.items m.fods m.whispys m.stadiums item fod whispy stadium)
      → Passing z q file first stop w (rows ids starts ends m.items m.fods m.whispys m.stadiums item fod whispy stadium) s' (at + 7 * step + step)
  passing_leap spans {step} {e} l {s'} {ids} {starts} {ends} {item} {fod} {whispy} {stadium} x k =
      let on = ltb e (at + step) in
      let p : at + 8 * step ≡ at + 7 * step + step = omega arith in
      let go : (all : Rowing) → LeftBy (go_rows q) z file at stop (rowing s m) all → LeftBy (go_rows q) z file (at + 7 * step + step) stop (then q file at step e on 8 s m) all =
      λ all b. subst (λ (i : ℕ). LeftBy (go_rows q) z file i stop (then q file at step e on 8 s m) all) p (frames_on z q spans file at stop step e s m l all on refl 8 (omega arith) b) in
      let here = h.some in
      let some = go (fold (go_rows q) here.events (rowing s m)) (record { events = here.events; spelled = here.spelled; same = refl }) in
      let same : then q file at step e on 8 s m ≡ rowing s' (rows ids starts ends m.items m.fods m.whispys m.stadiums item fod whispy stadium) =
      sym (λ i. rowing (x.0 i) (rows (x.1 i) (x.2 i) (x.3 i) m.items m.fods m.whispys m.stadiums (x.4 i) (x.5 i) (x.6 i) (x.7 i))) in
      record {
        lengths = lengths_on w m _ h.lengths k;
        some = record { events = some.events; spelled = some.spelled };
        left = λ es y. subst (λ (v : Rowing). LeftBy (go_rows q) z file (at + 7 * step + step) stop v (fold (go_rows q) es (rowing none w))) same (go (fold (go_rows q) es (rowing none w)) (h.left es y));
      }

-- The laws of one event: which events bring these stores nothing, and what the others bring.
-- Assumes nothing.
use mathlib.Core.Path.{◌≡◌, refl, ap, ap₂, ◌∙◌}
use mathlib.Core.Bool.{Bool, true, false, ◌&&◌}
use mathlib.Core.List.{List}
use Prim.Native.Nat.{ℕ, ◌+◌, ◌<◌}
use native.Mathlib.Omega.{arith}
use borrow.Author.Tests.{ne_eqb}
use lib.Dec.{eqb}
use lib.ListN.{get_or}
use Rattle.read_event.specs.Inner.{Told, told_at, span_by, opens, open_after, next_after, marked, offset_marked, row_put}
use Rattle.read_event.specs.Parts.{SomeBy, Rows, RowPlan, first_by, rowing, go_rows}
use Rattle.read_event.specs.declared.seen.Open.{Open}
use Rattle.read_event.specs.declared.seen.Next.{Next}
use Rattle.read_event.specs.declared.seen.Seen.{Seen}
use Rattle.read_event.specs.declared.spans.Spans.{Spans}
use Rattle.read_event.proofs.Parts.{some_next, left_next, rows_agrees}
use Rattle.read_event.proofs.Quiet.{player_quiet}
use Rattle.read_turn.specs.Inner.{Nothing}

-- ---- an event of a player

-- with a FrameStart in the version nothing else begins a frame, and a Post never does
module _ (start : Bool) (frames : ℕ) (o : Open) (code id : ℕ) where
  pub stay_post : code ≡ 0x38 → opens start frames o code id ≡ false
  unfolding opens
  stay_post e = go start refl
    where
      go : (b : Bool) → start ≡ b → opens start frames o code id ≡ false
      go true s = rw (s, e)
      go false s = rw (s, e)

  pub stay_start : start ≡ true → code < 0x3A → opens start frames o code id ≡ false
  unfolding opens
  stay_start e h = rw (e, ne_eqb code 0x3A (λ z. absurd (omega (arith, h, z))))

-- ---- events that bring nothing

module _ (z : Spans) (start : Bool) (o : Open) (file : List ℕ) (at stop : ℕ) where
  pub nothing_first : SomeBy z file at stop → Nothing z start o file at stop at
  nothing_first h = record { forward = omega arith; some = h; leads = λ q r e s f w all l. l }

  pub nothing_more : {e span : ℕ} → Nothing z start o file at stop e → e < stop → span ≡ span_by z (get_or file e 0)
      → (get_or file e 0 < 0x3A) × ((frames : ℕ) → first_by start frames o (told_at file e) ≡ false) → Nothing z start o file at stop (e + span)
  nothing_more {e} {span} h t n (c, f) = record {
    forward = omega (arith, h.forward);
    some = rw n (some_next z file e stop h.some t);
    leads = λ q r has s opened w all l.
        let quiet : first_by q.has_start q.counts.frames s.opened (told_at file e) ≡ false = rw (has, opened) (f q.counts.frames) in
        rw (n, player_quiet q s w (told_at file e) (c, quiet)) (left_next z file e stop (go_rows q) (rows_agrees z q r) (rowing s w) all (h.leads q r has s opened w all l) t);
  }

-- ---- a turn's parts make a step

module _ (q : RowPlan) (s : Seen) (t : Told) (w m : Rows) (id : ℕ) (o : Open) (n : Next) (same : id ≡ t.id) where
  abbrev first : Bool
  first = opens q.has_start q.counts.frames s.opened t.code id

  abbrev Begun : Type 0
  Begun =
      (o ≡ open_after first id s.opened)
      × (m.ids ≡ marked first s.opened.frames id w.ids)
      × (m.item_offsets ≡ offset_marked (first && q.has_item) s.opened.frames s.next.items w.item_offsets)
      × (m.fod_offsets ≡ offset_marked (first && q.has_stage) s.opened.frames s.next.fods w.fod_offsets)
      × (m.whispy_offsets ≡ offset_marked (first && q.has_stage) s.opened.frames s.next.whispys w.whispy_offsets)
      × (m.stadium_offsets ≡ offset_marked (first && q.has_stage) s.opened.frames s.next.stadiums w.stadium_offsets)

  abbrev RowsPut : Type 0
  RowsPut =
      (n ≡ next_after t.code q.counts s.next)
      × (m.starts ≡ row_put (eqb t.code 0x3A) q.start t.body q.counts.frames s.next.starts w.starts)
      × (m.ends ≡ row_put (eqb t.code 0x3C) q.end t.body q.counts.frames s.next.ends w.ends)
      × (m.items ≡ row_put (eqb t.code 0x3B) q.item t.body q.counts.items s.next.items w.items)
      × (m.fods ≡ row_put (eqb t.code 0x3F) q.fod t.body q.counts.fods s.next.fods w.fods)
      × (m.whispys ≡ row_put (eqb t.code 0x40) q.whispy t.body q.counts.whispys s.next.whispys w.whispys)
      × (m.stadiums ≡ row_put (eqb t.code 0x41) q.stadium t.body q.counts.stadiums s.next.stadiums w.stadiums)

  pub turn_made : Begun → RowsPut → rowing (record { opened = o; next = n }) m ≡ go_rows q (rowing s w) t
  unfolding go_rows
  turn_made b r =
      let on : first ≡ first_by q.has_start q.counts.frames s.opened t = ap (λ (x : ℕ). opens q.has_start q.counts.frames s.opened t.code x) same in
      let at : ℕ = s.opened.frames in
      let op = b.0 ∙ ap₂ (λ (x : Bool) (y : ℕ). open_after x y s.opened) on same in
      let ids = b.1 ∙ ap₂ (λ (x : Bool) (y : ℕ). marked x at y w.ids) on same in
      let item = b.2 ∙ ap (λ (x : Bool). offset_marked (x && q.has_item) at s.next.items w.item_offsets) on in
      let fod = b.3 ∙ ap (λ (x : Bool). offset_marked (x && q.has_stage) at s.next.fods w.fod_offsets) on in
      let whispy = b.4 ∙ ap (λ (x : Bool). offset_marked (x && q.has_stage) at s.next.whispys w.whispy_offsets) on in
      let stadium = b.5 ∙ ap (λ (x : Bool). offset_marked (x && q.has_stage) at s.next.stadiums w.stadium_offsets) on in
      λ i. record {
        seen = record { opened = op i; next = r.0 i };
        rows = record {
          ids = ids i;
          starts = r.1 i;
          ends = r.2 i;
          items = r.3 i;
          fods = r.4 i;
          whispys = r.5 i;
          stadiums = r.6 i;
          item_offsets = item i;
          fod_offsets = fod i;
          whispy_offsets = whispy i;
          stadium_offsets = stadium i;
        };
      }

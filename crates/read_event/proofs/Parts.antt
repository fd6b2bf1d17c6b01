-- The laws of the two parts: what an event says in a file is what it says by itself, a whole event stands at each place, what is left after it, and both
-- parts together are the whole pass.
-- Assumes nothing.
use mathlib.Core.Path.{◌≡◌, refl, sym, ap, ap₂, ◌∙◌}
use mathlib.Core.Bool.{Bool, true, false, cond, ◌&&◌}
use mathlib.Core.List.{List, [], ◌∷◌, ◌++◌, append_assoc}
use Prim.Native.Nat.{ℕ, ◌+◌, ◌-◌, ◌*◌, ◌≤◌, ◌<◌}
use native.Mathlib.Nat.{add-zero}
use native.Mathlib.Omega.{arith}
use borrow.Author.Tests.{eqb-true}
use lib.Dec.{eqb, ltb}
use lib.ListN.{length, get_or, set, take, drop, length-append, length-drop, get_or-append}
use lib.Seq.{get_or-drop, drop-drop, drop_at, take-append-le, drop-append-le}
use Rattle.wire.specs.Wire.{number, part}
use Rattle.format.specs.File.{Ev, event_bytes, events_bytes}
use Rattle.layout.specs.Columns.{sum}
use Rattle.game.specs.Stores.{Lent}
use Rattle.record.specs.Record.{read_back}
use Rattle.grammar.specs.WellFormed.{Each}
use Rattle.read_event.specs.Inner.{Plan, span_by, Told, told_at, told_by, opens, open_after, next_after, marked, offset_marked, block_of, seated, row_put, player_put, bit_put, step, run, finish, none, Long}
use Rattle.read_event.specs.Parts.{SizedBy, SpelledBy, SomeBy, WholeBy, fold, LeftBy, RowPlan, RowSpans, first_by, open_told, Rowing, rowing, go_rows}
use Rattle.read_event.specs.Parts.{rows_done, rows_run, Seating, SeatSpans, seat_told, Seated, seated_as, go_seats, seats_run, row_plan_of, seating_of, rows_of, seats_of, lent_of}
use Rattle.read_event.specs.declared.seen.Open.{Open}
use Rattle.read_event.specs.declared.seen.Seen.{Seen}
use Rattle.read_event.specs.declared.spans.Spans.{Spans}

-- ---- rows that are there

module _ (z : Spans) (file : List ℕ) (at : ℕ) (w : WholeBy z file at) where
  long_by : (code n : ℕ) (ws : List ℕ) → span_by z code ≡ n + sum ws → Long file (at + n) (eqb (get_or file at 0) code) ws
  long_by code n ws q e = let s : span_by z (get_or file at 0) ≡ n + sum ws = ap (span_by z) (eqb-true (get_or file at 0) code e) ∙ q in omega (arith, w.inside, s)

  module _ (q : RowPlan) (s : RowSpans z q) where
    pub long_start : Long file (at + 5) (eqb (get_or file at 0) 0x3A) q.start
    unfolding span_by
    long_start = long_by 0x3A 5 q.start s.start

    pub long_end : Long file (at + 5) (eqb (get_or file at 0) 0x3C) q.end
    unfolding span_by
    long_end = long_by 0x3C 5 q.end s.end

    pub long_item : Long file (at + 5) (eqb (get_or file at 0) 0x3B) q.item
    unfolding span_by
    long_item = long_by 0x3B 5 q.item s.item

    pub long_fod : Long file (at + 5) (eqb (get_or file at 0) 0x3F) q.fod
    unfolding span_by
    long_fod = long_by 0x3F 5 q.fod s.fod

    pub long_whispy : Long file (at + 5) (eqb (get_or file at 0) 0x40) q.whispy
    unfolding span_by
    long_whispy = long_by 0x40 5 q.whispy s.whispy

    pub long_stadium : Long file (at + 5) (eqb (get_or file at 0) 0x41) q.stadium
    unfolding span_by
    long_stadium = long_by 0x41 5 q.stadium s.stadium

  module _ (q : Seating) (s : SeatSpans z q) where
    pub long_pre : Long file (at + 7) (eqb (get_or file at 0) 0x37) q.pre
    unfolding span_by
    long_pre = long_by 0x37 7 q.pre s.pre

    pub long_post : Long file (at + 7) (eqb (get_or file at 0) 0x38) q.post
    unfolding span_by
    long_post = long_by 0x38 7 q.post s.post

-- ---- bytes behind a row do not matter

read_front : (ws b more xs : List ℕ) (stride i : ℕ) → sum ws ≤ length b → read_back ws (b ++ more) xs stride i ≡ read_back ws b xs stride i
unfolding read_back sum
read_front [] b more xs stride i h = refl
read_front (w ∷ ws) b more xs stride i h =
    ap₂ (λ (front back : List ℕ). read_back ws back (set xs i (number front)) stride (i + stride)) (take-append-le w b more (omega arith)) (drop-append-le w b more (omega arith))
    ∙ read_front ws (drop w b) more (set xs i (number (take w b))) stride (i + stride) (omega (arith, length-drop w b))

row_front : (on : Bool) (ws b more : List ℕ) (rows row : ℕ) (xs : List ℕ) → (on ≡ true → sum ws ≤ length b) → row_put on ws (b ++ more) rows row xs ≡ row_put on ws b rows row xs
unfolding row_put
row_front true ws b more rows row xs h = ap (λ (l : List ℕ). cond (true && ltb row rows) l xs) (read_front ws b more xs rows row (h refl))
row_front false ws b more rows row xs h = refl

-- what two tellings of a player's event share
record SamePlayer (ws : List ℕ) (t u : Told) : Type 0 where
  more : List ℕ
  port : t.port ≡ u.port
  follower : t.follower ≡ u.follower
  own : t.own ≡ u.own ++ more
  long : sum ws ≤ length u.own

abbrev told : Told → ℕ → ℕ → List ℕ → Told
told u port follower own = record { code = u.code; id = u.id; port = port; follower = follower; body = u.body; own = own }

player_front : (on : Bool) (ws numbers : List ℕ) (t u : Told) (frames n : ℕ) (xs : List ℕ) → (on ≡ true → SamePlayer ws t u)
    → player_put on ws numbers t frames n xs ≡ player_put on ws numbers u frames n xs
unfolding player_put
player_front false ws numbers t u frames n xs h = refl
player_front true ws numbers t u frames n xs h =
    let s = h refl in
    (λ i. player_put true ws numbers (told u (s.port i) (s.follower i) (s.own i)) frames n xs)
    ∙ ap (λ (l : List ℕ). cond (seated true numbers u frames n) l xs) (read_front ws u.own s.more xs frames (block_of numbers u * (length ws * frames) + (n - 1)) s.long)

bit_front : (on : Bool) (ws numbers : List ℕ) (t u : Told) (frames n : ℕ) (xs : List ℕ) → (on ≡ true → SamePlayer ws t u) → bit_put on numbers t frames n xs ≡ bit_put on numbers u frames n xs
unfolding bit_put
bit_front false ws numbers t u frames n xs h = refl
bit_front true ws numbers t u frames n xs h = let s = h refl in λ i. bit_put true numbers (told u (s.port i) (s.follower i) u.own) frames n xs

-- ---- an event at a place

module _ (z : Spans) (file : List ℕ) (at : ℕ) (e : Ev) (more : List ℕ) (here : drop at file ≡ event_bytes e ++ more) (sized : SizedBy z e) where
  byte_at : (k : ℕ) → get_or file (at + k) 0 ≡ get_or (event_bytes e ++ more) k 0
  byte_at k = sym (get_or-drop at file k 0) ∙ ap (λ (l : List ℕ). get_or l k 0) here

  code_at : get_or file at 0 ≡ e.code
  code_at = ap (λ (n : ℕ). get_or file n 0) (sym (add-zero at)) ∙ byte_at 0

  payload_at_lem : drop (at + 1) file ≡ e.payload ++ more
  payload_at_lem = sym (drop-drop 1 at file) ∙ ap (drop 1) here

  later : (k : ℕ) → k ≤ length e.payload → drop (at + (1 + k)) file ≡ drop k e.payload ++ more
  later k h =
      let q : at + 1 + k ≡ at + (1 + k) = omega arith in
      ap (λ (n : ℕ). drop n file) (sym q) ∙ sym (drop-drop k (at + 1) file) ∙ ap (drop k) payload_at_lem ∙ drop-append-le k e.payload more h

  id_at_lem : (told_at file at).id ≡ (told_by e).id
  unfolding part
  id_at_lem = ap (λ (l : List ℕ). number (take 4 l)) payload_at_lem ∙ ap number (take-append-le 4 e.payload more (omega (arith, sized.long, sized.size)))

  body_at : (told_at file at).body ≡ (told_by e).body ++ more
  body_at = later 4 (omega (arith, sized.long, sized.size))

  -- a row that the event has whole
  whole_row : (c : ℕ) (ws : List ℕ) → span_by z c ≡ 5 + sum ws → eqb e.code c ≡ true → sum ws ≤ length (told_by e).body
  whole_row c ws q t = let s : span_by z e.code ≡ 5 + sum ws = ap (span_by z) (eqb-true e.code c t) ∙ q in omega (arith, sized.size, length-drop 4 e.payload)

  player_at_lem : (c : ℕ) (ws : List ℕ) → span_by z c ≡ 7 + sum ws → eqb e.code c ≡ true → SamePlayer ws (told_at file at) (told_by e)
  player_at_lem c ws q t =
      let s : span_by z e.code ≡ 7 + sum ws = ap (span_by z) (eqb-true e.code c t) ∙ q in
      record {
        more = more;
        port = byte_at 5 ∙ get_or-append e.payload more 0 4 (omega (arith, sized.size));
        follower = byte_at 6 ∙ get_or-append e.payload more 0 5 (omega (arith, sized.size));
        own = later 6 (omega (arith, sized.size));
        long = omega (arith, sized.size, length-drop 6 e.payload);
      }

  on_code : (c : ℕ) → eqb (get_or file at 0) c ≡ eqb e.code c
  on_code c = ap (λ (n : ℕ). eqb n c) code_at

  row_at_lem : (c : ℕ) (ws : List ℕ) (rows row : ℕ) (xs : List ℕ) → span_by z c ≡ 5 + sum ws
      → row_put (eqb (get_or file at 0) c) ws (told_at file at).body rows row xs ≡ row_put (eqb e.code c) ws (told_by e).body rows row xs
  row_at_lem c ws rows row xs q =
      ap₂ (λ (b : Bool) (l : List ℕ). row_put b ws l rows row xs) (on_code c) body_at
      ∙ row_front (eqb e.code c) ws (told_by e).body more rows row xs (whole_row c ws q)

  seat_at_lem : (c : ℕ) (ws numbers : List ℕ) (frames : ℕ) {n k : ℕ} → n ≡ k → (xs : List ℕ) → span_by z c ≡ 7 + sum ws
      → player_put (eqb (get_or file at 0) c) ws numbers (told_at file at) frames n xs ≡ player_put (eqb e.code c) ws numbers (told_by e) frames k xs
  seat_at_lem c ws numbers frames {n} {k} m xs q =
      ap₂ (λ (b : Bool) (j : ℕ). player_put b ws numbers (told_at file at) frames j xs) (on_code c) m
      ∙ player_front (eqb e.code c) ws numbers (told_at file at) (told_by e) frames k xs (player_at_lem c ws q)

  mark_at_lem : (c : ℕ) (ws numbers : List ℕ) (frames : ℕ) {n k : ℕ} → n ≡ k → (xs : List ℕ) → span_by z c ≡ 7 + sum ws
      → bit_put (eqb (get_or file at 0) c) numbers (told_at file at) frames n xs ≡ bit_put (eqb e.code c) numbers (told_by e) frames k xs
  mark_at_lem c ws numbers frames {n} {k} m xs q =
      ap₂ (λ (b : Bool) (j : ℕ). bit_put b numbers (told_at file at) frames j xs) (on_code c) m
      ∙ bit_front (eqb e.code c) ws numbers (told_at file at) (told_by e) frames k xs (player_at_lem c ws q)

  module _ (start : Bool) (frames : ℕ) (o : Open) where
    first_at_lem : first_by start frames o (told_at file at) ≡ first_by start frames o (told_by e)
    first_at_lem = ap₂ (λ (c i : ℕ). opens start frames o c i) code_at id_at_lem

    open_at : open_told start frames o (told_at file at) ≡ open_told start frames o (told_by e)
    open_at = ap₂ (λ (b : Bool) (i : ℕ). open_after b i o) first_at_lem id_at_lem

  rows_agree : (q : RowPlan) → RowSpans z q → (x : Rowing) → go_rows q x (told_at file at) ≡ go_rows q x (told_by e)
  unfolding go_rows span_by
  rows_agree q s x =
      let k = q.counts in
      let m = x.seen.next in
      let n = x.seen.opened.frames in
      let w = x.rows in
      let on = first_at_lem q.has_start k.frames x.seen.opened in
      let op = open_at q.has_start k.frames x.seen.opened in
      let starts = row_at_lem 0x3A q.start k.frames m.starts w.starts s.start in
      let ends = row_at_lem 0x3C q.end k.frames m.ends w.ends s.end in
      let items = row_at_lem 0x3B q.item k.items m.items w.items s.item in
      let fods = row_at_lem 0x3F q.fod k.fods m.fods w.fods s.fod in
      let whispys = row_at_lem 0x40 q.whispy k.whispys m.whispys w.whispys s.whispy in
      let stadiums = row_at_lem 0x41 q.stadium k.stadiums m.stadiums w.stadiums s.stadium in
      λ i. record {
        seen = record { opened = op i; next = next_after (code_at i) k m };
        rows = record {
          ids = marked (on i) n (id_at_lem i) w.ids;
          starts = starts i;
          ends = ends i;
          items = items i;
          fods = fods i;
          whispys = whispys i;
          stadiums = stadiums i;
          item_offsets = offset_marked (on i && q.has_item) n m.items w.item_offsets;
          fod_offsets = offset_marked (on i && q.has_stage) n m.fods w.fod_offsets;
          whispy_offsets = offset_marked (on i && q.has_stage) n m.whispys w.whispy_offsets;
          stadium_offsets = offset_marked (on i && q.has_stage) n m.stadiums w.stadium_offsets;
        };
      }

  seats_agree : (start : Bool) (q : Seating) → SeatSpans z q → (x : Seated) → go_seats start q x (told_at file at) ≡ go_seats start q x (told_by e)
  unfolding go_seats seat_told span_by
  seats_agree start q s x =
      let op = open_at start q.rows x.opened in
      let n = ap (λ (o : Open). o.frames) op in
      let r = x.seats in
      let pres = seat_at_lem 0x37 q.pre q.numbers q.rows n r.pres s.pre in
      let posts = seat_at_lem 0x38 q.post q.numbers q.rows n r.posts s.post in
      let bits = mark_at_lem 0x37 q.pre q.numbers q.rows n r.presence s.pre in
      λ i. record { opened = op i; seats = record { pres = pres i; posts = posts i; presence = bits i } }

-- ---- what is left

-- what one event does is the same wherever it is told
abbrev Agrees : {S : Type 0} → (S → Told → S) → Spans → Type 0
Agrees {S} go z =
    (file : List ℕ) (at : ℕ) (e : Ev) (more : List ℕ) → drop at file ≡ event_bytes e ++ more → SizedBy z e → (x : S) → go x (told_at file at) ≡ go x (told_by e)

module _ (z : Spans) (file : List ℕ) (at end : ℕ) where
  -- one event, and the others behind it
  record Split (e : Ev) (es : List Ev) : Type 0 where
    rest : List ℕ
    here : drop at file ≡ event_bytes e ++ (events_bytes es ++ rest)
    span : span_by z (get_or file at 0) ≡ length (event_bytes e)
    whole : WholeBy z file at
    next : SpelledBy z file (at + span_by z (get_or file at 0)) end es
    sized : SizedBy z e

  split : (e : Ev) (es : List Ev) → SpelledBy z file at end (e ∷ es) → Split e es
  unfolding events_bytes Each
  split e es q =
      let here : drop at file ≡ event_bytes e ++ (events_bytes es ++ q.rest) = q.here ∙ append_assoc (event_bytes e) (events_bytes es) q.rest in
      let c = code_at z file at e (events_bytes es ++ q.rest) here q.sized.0 in
      let k : span_by z (get_or file at 0) ≡ length (event_bytes e) = ap (span_by z) c ∙ sym q.sized.0.size in
      let n : length file - at ≡ length (event_bytes e) + length (events_bytes es ++ q.rest) = sym (length-drop at file) ∙ ap length here ∙ length-append (event_bytes e) (events_bytes es ++ q.rest) in
      record {
        rest = q.rest;
        here = here;
        span = k;
        whole = record { long = omega (arith, q.sized.0.long, q.sized.0.size); inside = omega arith };
        next = record {
          rest = q.rest;
          here = ap (λ (x : ℕ). drop (at + x) file) k ∙ sym (drop-drop (length (event_bytes e)) at file) ∙ ap (drop (length (event_bytes e))) here ∙ drop_at (event_bytes e) (events_bytes es ++ q.rest) (length (event_bytes e)) refl;
          long = omega (arith, q.long, length-append (event_bytes e) (events_bytes es));
          sized = q.sized.1;
        };
        sized = q.sized.0;
      }

  none_left : SpelledBy z file at end [] → at < end → ⊥
  unfolding events_bytes
  none_left q t = omega (arith, q.long)

  -- there are events from here on
  module _ (some : SomeBy z file at end) where
    pub some_whole : at < end → WholeBy z file at
    some_whole t = go some.events some.spelled
      where
        go : (es : List Ev) → SpelledBy z file at end es → WholeBy z file at
        go [] q = absurd (none_left q t)
        go (e ∷ es) q = (split e es q).whole

    pub some_next : at < end → SomeBy z file (at + span_by z (get_or file at 0)) end
    some_next t = go some.events some.spelled
      where
        go : (es : List Ev) → SpelledBy z file at end es → SomeBy z file (at + span_by z (get_or file at 0)) end
        go [] q = absurd (none_left q t)
        go (e ∷ es) q = record { events = es; spelled = (split e es q).next }

  module _ {S : Type 0} (go : S → Told → S) (agrees : Agrees go z) (s all : S) where
    pub left_next : LeftBy go z file at end s all → at < end → LeftBy go z file (at + span_by z (get_or file at 0)) end (go s (told_at file at)) all
    unfolding fold
    left_next h t = on h.events h.spelled h.same
      where
        on : (es : List Ev) → SpelledBy z file at end es → fold go es s ≡ all → LeftBy go z file (at + span_by z (get_or file at 0)) end (go s (told_at file at)) all
        on [] q r = absurd (none_left q t)
        on (e ∷ es) q r =
            let x = split e es q in
            record { events = es; spelled = x.next; same = ap (fold go es) (agrees file at e (events_bytes es ++ x.rest) x.here x.sized s) ∙ r }

    pub left_done : LeftBy go z file at end s all → end ≤ at → s ≡ all
    unfolding fold
    left_done h t = on h.events h.spelled h.same
      where
        on : (es : List Ev) → SpelledBy z file at end es → fold go es s ≡ all → s ≡ all
        on [] q r = r
        on (e ∷ es) q r = let x = split e es q in absurd (omega (arith, x.whole.long, x.whole.inside, x.next.long))

pub rows_agrees : (z : Spans) (q : RowPlan) → RowSpans z q → Agrees (go_rows q) z
rows_agrees z q s file at e more here sized x = rows_agree z file at e more here sized q s x

pub seats_agrees : (z : Spans) (start : Bool) (q : Seating) → SeatSpans z q → Agrees (go_seats start q) z
seats_agrees z start q s file at e more here sized x = seats_agree z file at e more here sized start q s x

-- ---- both parts are the whole

both_parts : (p : Plan) (es : List Ev) (s : Seen) (l : Lent)
    → run p es s l ≡ lent_of (rows_done (row_plan_of p) (fold (go_rows (row_plan_of p)) es (rowing s (rows_of l)))) (fold (go_seats p.has_start (seating_of p)) es (seated_as s.opened (seats_of l))).seats
unfolding run fold finish step go_rows go_seats seat_told rows_done
both_parts p [] s l = refl
both_parts p (e ∷ es) s l = both_parts p es _ _

pub run_parts : (p : Plan) (es : List Ev) (l : Lent) → run p es none l ≡ lent_of (rows_run (row_plan_of p) es (rows_of l)) (seats_run p.has_start (seating_of p) es (seats_of l))
run_parts p es l = both_parts p es none l

-- The laws of eight frames a step apart: their numbers and rows one after another, what one of them brings, and frame after frame.
-- Assumes nothing.
use mathlib.Core.Path.{◌≡◌, refl, sym, ap, ap₂, subst, ◌∙◌}
use mathlib.Core.Bool.{Bool, true, false, cond}
use mathlib.Core.List.{List}
use Prim.Native.Nat.{ℕ, zero, suc, ◌+◌, ◌*◌, ◌%◌, ◌≤◌, ◌<◌}
use native.Mathlib.Nat.{add-zero, suc-mul}
use native.Mathlib.Numerals.{add-one}
use native.Mathlib.Omega.{arith}
use borrow.Author.Tests.{ltb-true, ltb-false, ne_eqb, lt-ltb}
use lib.Dec.{ltb}
use lib.ListN.{length, get_or, drop, replicate, length-replicate}
use Rattle.layout.specs.Columns.{sum}
use Rattle.record.specs.Record.{read_back}
use Rattle.gather.specs.Inner.{rows_at, Reach}
use Rattle.read_event.specs.Inner.{Told, told_at, span_by, opens, open_after, next_after, marked, offset_marked, row_put, row_next}
use Rattle.read_event.specs.Alike.{Ahead, GoesOn, steps_put}
use Rattle.read_event.specs.Parts.{SomeBy, WholeBy, LeftBy, Rows, rows, RowPlan, RowSpans, Rowing, rowing, go_rows}
use Rattle.read_event.specs.declared.seen.Open.{Open}
use Rattle.read_event.specs.declared.seen.Seen.{Seen}
use Rattle.read_event.specs.declared.spans.Spans.{Spans}
use Rattle.read_event.proofs.Likeness.{place_first, step_in_lem, steps_get, steps_length}
use Rattle.read_event.proofs.Parts.{some_whole, some_next, left_next, rows_agrees}
use Rattle.read_leap.specs.Inner.{ids_put, offsets_put, rows_put, last_id, seen_then, Quiet, Leapt, Leaps}
use Rattle.read_event.proofs.Quiet.{player_quiet}

-- ---- one more

pub ids_first : (file : List ℕ) (at step n : ℕ) (xs : List ℕ) → xs ≡ ids_put file at step 0 n xs
unfolding ids_put
ids_first file at step n xs = refl

pub ids_more : (file : List ℕ) (at step n t p x : ℕ) (xs ys zs : List ℕ) → p ≡ at + t * step → x ≡ (told_at file p).id → ys ≡ ids_put file at step t n xs → zs ≡ marked true (n + t) x ys
    → zs ≡ ids_put file at step (t + 1) n xs
unfolding ids_put
ids_more file at step n t p x xs ys zs e i d m = rw (add-one t) (m ∙ ap₂ (λ (k : ℕ) (l : List ℕ). marked true (n + t) k l) (i ∙ ap (λ (k : ℕ). (told_at file k).id) e) d)

pub ids_all : (file : List ℕ) (at step n t : ℕ) (xs ys : List ℕ) → t ≡ 8 → ys ≡ ids_put file at step t n xs → ys ≡ ids_put file at step 8 n xs
ids_all file at step n t xs ys e d = d ∙ ap (λ (k : ℕ). ids_put file at step k n xs) e

pub offsets_first : (on : Bool) (n k : ℕ) (xs : List ℕ) → xs ≡ offsets_put on 0 n k xs
unfolding offsets_put
offsets_first on n k xs = refl

pub offsets_more : (n k t x : ℕ) (xs ys zs : List ℕ) → x ≡ k % 4294967296 → ys ≡ offsets_put true t n k xs → zs ≡ marked true (n + t) x ys → zs ≡ offsets_put true (t + 1) n k xs
unfolding offsets_put
offsets_more n k t x xs ys zs e d m = rw (add-one t) (m ∙ ap₂ (λ (i : ℕ) (l : List ℕ). marked true (n + t) i l) e d)

pub offsets_all : (on : Bool) (n k t : ℕ) (xs ys : List ℕ) → on ≡ true → t ≡ 8 → ys ≡ offsets_put true t n k xs → ys ≡ offsets_put on 8 n k xs
offsets_all on n k t xs ys o e d = d ∙ ap₂ (λ (b : Bool) (i : ℕ). offsets_put b i n k xs) (sym o) e

offsets_none : (t n k : ℕ) (xs : List ℕ) → xs ≡ offsets_put false t n k xs
unfolding offsets_put marked
offsets_none zero n k xs = refl
offsets_none (suc t) n k xs = offsets_none t n k xs

pub offsets_off : (on : Bool) (t n k : ℕ) (xs : List ℕ) → on ≡ false → xs ≡ offsets_put on t n k xs
offsets_off on t n k xs e = rw e (offsets_none t n k xs)

-- ---- rows from a table of places a step apart

module _ (file : List ℕ) (at step : ℕ) (xs : List ℕ) (l : 8 ≤ length xs) where
  pub steps_reach : (n : ℕ) → at + (7 * step + n) ≤ length file → Reach file (steps_put 0 at step 8 xs) 0 n
  steps_reach n h t v = let e = steps_get 0 at step xs 8 t v l in let k = step_in_lem step t v in omega (arith, e, k, h)

  pub rows_steps : (ws cells : List ℕ) (stride row n : ℕ) → n ≤ 8 → rows_at ws file (steps_put 0 at step 8 xs) 0 5 n cells stride row ≡ rows_put ws file at step n cells stride row
  unfolding rows_at rows_put
  rows_steps ws cells stride row zero h = refl
  rows_steps ws cells stride row (suc n) h =
      ap₂ (λ (p : ℕ) (c : List ℕ). read_back ws (drop (p + 5) file) c stride (row + n)) (steps_get 0 at step xs 8 n (omega arith) l) (rows_steps ws cells stride row n (omega arith))

-- ---- an event of one frame

module _ (q : RowPlan) (s : Seen) (w : Rows) (t : Told) (has : q.has_start ≡ true) where
  abbrev n : ℕ
  n = s.opened.frames

  start_told : t.code ≡ 0x3A → n < q.counts.frames → s.next.starts < q.counts.frames
      → go_rows q (rowing s w) t
      ≡ rowing (record { opened = record { frames = n + 1; id = t.id }; next = record { starts = s.next.starts + 1; ends = s.next.ends; items = s.next.items; fods = s.next.fods; whispys = s.next.whispys; stadiums = s.next.stadiums } })
      (rows (marked true n t.id w.ids) (read_back q.start t.body w.starts q.counts.frames s.next.starts) w.ends w.items w.fods w.whispys w.stadiums
      (offset_marked q.has_item n s.next.items w.item_offsets) (offset_marked q.has_stage n s.next.fods w.fod_offsets) (offset_marked q.has_stage n s.next.whispys w.whispy_offsets)
      (offset_marked q.has_stage n s.next.stadiums w.stadium_offsets))
  unfolding go_rows opens open_after next_after row_next row_put
  start_told c f g = rw (has, c, lt-ltb n q.counts.frames f, lt-ltb s.next.starts q.counts.frames g)

  end_told : t.code ≡ 0x3C → s.next.ends < q.counts.frames
      → go_rows q (rowing s w) t
      ≡ rowing (record { opened = s.opened; next = record { starts = s.next.starts; ends = s.next.ends + 1; items = s.next.items; fods = s.next.fods; whispys = s.next.whispys; stadiums = s.next.stadiums } })
      (rows w.ids w.starts (read_back q.end t.body w.ends q.counts.frames s.next.ends) w.items w.fods w.whispys w.stadiums w.item_offsets w.fod_offsets w.whispy_offsets w.stadium_offsets)
  unfolding go_rows opens open_after next_after row_next row_put marked
  end_told c g = rw (has, c, lt-ltb s.next.ends q.counts.frames g)

-- ---- frame after frame

abbrev pub rows_then : RowPlan → List ℕ → ℕ → ℕ → ℕ → Bool → ℕ → Seen → Rows → Rows
rows_then q file at step e on n s w =
    let f = q.counts.frames in
    let k = s.opened.frames in
    rows (ids_put file at step n k w.ids) (rows_put q.start file at step n w.starts f s.next.starts) (cond on (rows_put q.end file e step n w.ends f s.next.ends) w.ends) w.items
    w.fods w.whispys w.stadiums (offsets_put q.has_item n k s.next.items w.item_offsets) (offsets_put q.has_stage n k s.next.fods w.fod_offsets)
    (offsets_put q.has_stage n k s.next.whispys w.whispy_offsets) (offsets_put q.has_stage n k s.next.stadiums w.stadium_offsets)

abbrev pub then : RowPlan → List ℕ → ℕ → ℕ → ℕ → Bool → ℕ → Seen → Rows → Rowing
then q file at step e on n s w = rowing (seen_then file at step on n s) (rows_then q file at step e on n s w)

module _ (q : RowPlan) (file : List ℕ) (at step e : ℕ) (s : Seen) (w : Rows) (has : q.has_start ≡ true) where
  then_first : (on : Bool) → rowing s w ≡ then q file at step e on 0 s w
  unfolding ids_put rows_put offsets_put last_id
  then_first true = rw (add-zero s.opened.frames, add-zero s.next.starts, add-zero s.next.ends)
  then_first false = rw (add-zero s.opened.frames, add-zero s.next.starts)

  up : (k n : ℕ) → k + n + 1 ≡ k + suc n
  up k n = omega arith

  then_off : (n : ℕ) → get_or file (at + n * step) 0 ≡ 0x3A → s.opened.frames + n < q.counts.frames → s.next.starts + n < q.counts.frames
      → go_rows q (then q file at step e false n s w) (told_at file (at + n * step)) ≡ then q file at step e false (suc n) s w
  unfolding ids_put rows_put offsets_put last_id
  then_off n c f g =
      start_told q (seen_then file at step false n s) (rows_then q file at step e false n s w) (told_at file (at + n * step)) has c f g
      ∙ (λ i. rowing
      (record {
        opened = record { frames = up s.opened.frames n i; id = (told_at file (at + n * step)).id };
        next = record { starts = up s.next.starts n i; ends = s.next.ends; items = s.next.items; fods = s.next.fods; whispys = s.next.whispys; stadiums = s.next.stadiums };
      })
      (rows_then q file at step e false (suc n) s w))

  then_on : (n : ℕ) → get_or file (at + n * step) 0 ≡ 0x3A → get_or file (e + n * step) 0 ≡ 0x3C → s.opened.frames + n < q.counts.frames → s.next.starts + n < q.counts.frames → s.next.ends + n < q.counts.frames
      → go_rows q (go_rows q (then q file at step e true n s w) (told_at file (at + n * step))) (told_at file (e + n * step)) ≡ then q file at step e true (suc n) s w
  unfolding ids_put rows_put offsets_put last_id
  then_on n c d f g h =
      ap (λ (x : Rowing). go_rows q x (told_at file (e + n * step))) (start_told q (seen_then file at step true n s) (rows_then q file at step e true n s w) (told_at file (at + n * step)) has c f g)
      ∙ end_told q _ _ (told_at file (e + n * step)) has d h
      ∙ (λ i. rowing
      (record {
        opened = record { frames = up s.opened.frames n i; id = (told_at file (at + n * step)).id };
        next = record { starts = up s.next.starts n i; ends = up s.next.ends n i; items = s.next.items; fods = s.next.fods; whispys = s.next.whispys; stadiums = s.next.stadiums };
      })
      (rows_then q file at step e true (suc n) s w))

span_start : (z : Spans) (code : ℕ) → code ≡ 0x3A → span_by z code ≡ z.start
unfolding span_by
span_start z code e = ap (span_by z) e

span_end : (z : Spans) (code : ℕ) → code ≡ 0x3C → span_by z code ≡ z.end
unfolding span_by
span_end z code e = ap (span_by z) e

module _ (z : Spans) (q : RowPlan) (spans : RowSpans z q) (file : List ℕ) (at stop step e : ℕ) (s : Seen) (l : Leaps z q.has_start file at stop step s q.counts.frames e) where
  -- what the call asks
  pub leap_inside : at + 8 * step ≤ length file
  leap_inside = omega (arith, l.leapt.ahead.inside, l.leapt.ahead.whole)

  pub leap_start : 5 + sum q.start ≤ step
  leap_start = omega (arith, l.leapt.ahead.forward, spans.start)

  pub leap_end : e < at + step → e + (7 * step + (5 + sum q.end)) ≤ length file
  leap_end h = omega (arith, l.leapt.ahead.inside, l.leapt.ahead.whole, l.leapt.end h, spans.end)

module _ (z : Spans) (q : RowPlan) (spans : RowSpans z q) (file : List ℕ) (at stop step e : ℕ) (s : Seen) (w : Rows) (l : Leaps z q.has_start file at stop step s q.counts.frames e) where
  has : q.has_start ≡ true
  has = l.leapt.ahead.starts

  module _ (all : Rowing) where
    -- from one frame to the next
    frame_on_lem : (on : Bool) → ltb e (at + step) ≡ on → (n : ℕ) → n < 8 → LeftBy (go_rows q) z file (at + n * step) stop (then q file at step e on n s w) all
        → LeftBy (go_rows q) z file (at + suc n * step) stop (then q file at step e on (suc n) s w) all
    frame_on_lem on o n h b =
        let a = l.leapt.ahead in
        let k = step_in_lem step n h in
        let m = suc-mul n step in
        let code = a.same n h ∙ a.code in
        let one = left_next z file (at + n * step) stop (go_rows q) (rows_agrees z q spans) (then q file at step e on n s w) all b (omega (arith, a.inside, k, a.forward, long)) in
        let p : at + n * step + span_by z (get_or file (at + n * step) 0) ≡ at + z.start + n * step = (let v = span_start z (get_or file (at + n * step) 0) code in omega (arith, v)) in
        let two = l.leapt.quiet.leads n h q spans has _ all (subst (λ (i : ℕ). LeftBy (go_rows q) z file i stop (go_rows q (then q file at step e on n s w) (told_at file (at + n * step))) all) p one) in
        last on o two
      where
        long : 0 < step
        long = omega (arith, l.leapt.ahead.forward, spans.start)

        last : (b : Bool) → ltb e (at + step) ≡ b → LeftBy (go_rows q) z file (e + n * step) stop (go_rows q (then q file at step e b n s w) (told_at file (at + n * step))) all
            → LeftBy (go_rows q) z file (at + suc n * step) stop (then q file at step e b (suc n) s w) all
        last true y r =
            let a = l.leapt.ahead in
            let k = step_in_lem step n h in
            let m = suc-mul n step in
            let t = ltb-true e (at + step) y in
            let code = l.leapt.same t n h ∙ l.leapt.code t in
            let v = span_end z (get_or file (e + n * step) 0) code in
            let three = left_next z file (e + n * step) stop (go_rows q) (rows_agrees z q spans) _ all r (omega (arith, a.inside, k, t)) in
            let p : e + n * step + span_by z (get_or file (e + n * step) 0) ≡ at + suc n * step = omega (arith, v, l.leapt.end t, m) in
            subst (λ (x : Rowing). LeftBy (go_rows q) z file (at + suc n * step) stop x all)
            (then_on q file at step e s w has n (a.same n h ∙ a.code) code (omega (arith, a.room)) (omega (arith, l.starts)) (omega (arith, l.ends)))
            (subst (λ (i : ℕ). LeftBy (go_rows q) z file i stop (go_rows q (go_rows q (then q file at step e true n s w) (told_at file (at + n * step))) (told_at file (e + n * step))) all) p three)
        last false y r =
            let a = l.leapt.ahead in
            let m = suc-mul n step in
            let t = ltb-false e (at + step) y in
            let p : e + n * step ≡ at + suc n * step = omega (arith, t, l.leapt.quiet.inside, m) in
            subst (λ (x : Rowing). LeftBy (go_rows q) z file (at + suc n * step) stop x all)
            (then_off q file at step e s w has n (a.same n h ∙ a.code) (omega (arith, a.room)) (omega (arith, l.starts)))
            (subst (λ (i : ℕ). LeftBy (go_rows q) z file i stop (go_rows q (then q file at step e false n s w) (told_at file (at + n * step))) all) p r)

    pub frames_on : (on : Bool) → ltb e (at + step) ≡ on → (n : ℕ) → n ≤ 8 → LeftBy (go_rows q) z file at stop (rowing s w) all → LeftBy (go_rows q) z file (at + n * step) stop (then q file at step e on n s w) all
    frames_on on o zero h b =
        subst (λ (i : ℕ). LeftBy (go_rows q) z file i stop (then q file at step e on 0 s w) all) (place_first at step)
        (subst (λ (x : Rowing). LeftBy (go_rows q) z file at stop x all) (then_first q file at step e s w has on) b)
    frames_on on o (suc n) h b = frame_on_lem on o n (omega arith) (frames_on on o n (omega arith) b)

-- ---- the loop that finds them

quiet_other : (frames : ℕ) (code id : ℕ) (o : Open) → code < 0x3A → opens true frames o code id ≡ false
unfolding opens
quiet_other frames code id o h = rw (ne_eqb code 0x3A (λ z. absurd (omega (arith, h, z))))

module _ (z : Spans) (start : Bool) (file : List ℕ) (at stop step was frames : ℕ) (a : Ahead z start file at stop step (was + 1) frames) (t : at < stop) where
  pub quiet_first : SomeBy z file at stop → Quiet z file at stop step (at + z.start)
  quiet_first some = record {
    some = subst (λ (k : ℕ). SomeBy z file (at + k) stop) (span_start z (get_or file at 0) a.code) (some_next z file at stop some t);
    inside = omega (arith, a.forward);
    leads = λ n h q s b x all l. l;
  }

  module _ {e : ℕ} (l : Quiet z file at stop step e) (h : e < at + step) where
    pub quiet_whole : WholeBy z file e
    quiet_whole = some_whole z file e stop l.some (omega (arith, a.inside, h))

    pub quiet_more : {span : ℕ} → GoesOn z file e (at + step) step span → get_or file e 0 < 0x3A → Quiet z file at stop step (e + span)
    quiet_more {span} g c = record {
      some = subst (λ (k : ℕ). SomeBy z file (e + k) stop) (sym g.size) (some_next z file e stop l.some (omega (arith, a.inside, h)));
      inside = g.inside;
      leads = λ n v q s b x all r.
          let k = step_in_lem step n v in
          let d = g.same n v in
          let low : get_or file (e + n * step) 0 < 0x3A = omega (arith, c, d) in
          let one = left_next z file (e + n * step) stop (go_rows q) (rows_agrees z q s) x all (l.leads n v q s b x all r) (omega (arith, a.inside, h, k)) in
          let p : e + n * step + span_by z (get_or file (e + n * step) 0) ≡ e + span + n * step = (let y : span_by z (get_or file (e + n * step) 0) ≡ span = ap (span_by z) d ∙ sym g.size in omega (arith, y)) in
          let t = told_at file (e + n * step) in
          let off : opens q.has_start q.counts.frames x.seen.opened t.code t.id ≡ false =
          ap (λ (i : Bool). opens i q.counts.frames x.seen.opened t.code t.id) b ∙ quiet_other q.counts.frames t.code t.id x.seen.opened low in
          let same : x ≡ go_rows q x (told_at file (e + n * step)) = player_quiet q x.seen x.rows t (low, off) in
          subst (λ (i : ℕ). LeftBy (go_rows q) z file i stop x all) p (subst (λ (y : Rowing). LeftBy (go_rows q) z file (e + n * step + span_by z (get_or file (e + n * step) 0)) stop y all) (sym same) one);
    }

    pub leapt_end : {span : ℕ} → GoesOn z file e (at + step) step span → get_or file e 0 ≡ 0x3C → e + span ≡ at + step → Leapt z start file at stop step was frames e
    leapt_end {span} g c n = record {
      ahead = a;
      quiet = l;
      code = λ y. c;
      same = λ y. g.same;
      end = λ y. let v = span_end z (get_or file e 0) c in omega (arith, n, g.size, v);
    }

  pub leapt_off : {e : ℕ} → Quiet z file at stop step e → at + step ≤ e → Leapt z start file at stop step was frames e
  leapt_off l h = record { ahead = a; quiet = l; code = λ y. absurd (omega arith); same = λ y. absurd (omega arith); end = λ y. absurd (omega arith) }

-- ---- the calls

pub when_on : {A : Type 0} (e n : ℕ) (x y : A) → e < n → x ≡ cond (ltb e n) x y
when_on e n x y h = rw (lt-ltb e n h)

pub when_off : {A : Type 0} (e n : ℕ) (x y : A) → n ≤ e → y ≡ cond (ltb e n) x y
when_off e n x y h = go (ltb e n) refl
  where
    go : (b : Bool) → ltb e n ≡ b → y ≡ cond b x y
    go true t = absurd (let v = ltb-true e n t in omega (arith, v, h))
    go false t = refl

pub eight_long : (at : ℕ) → 8 ≤ length (replicate 8 at)
eight_long at = rw (length-replicate 8 at) (omega arith)

module _ (file : List ℕ) (at step : ℕ) (xs ps : List ℕ) (e : ps ≡ steps_put 0 at step 8 xs) (l : 8 ≤ length xs) where
  pub table_long : 0 + 8 ≤ length ps
  table_long = let n = ap length e ∙ steps_length 0 at step xs 8 in omega (arith, n, l)

  pub table_reach : (n : ℕ) → at + (7 * step + n) ≤ length file → Reach file ps 0 n
  table_reach n h = subst (λ (p : List ℕ). Reach file p 0 n) (sym e) (steps_reach file at step xs l n h)

  pub table_rows : (ws cells out : List ℕ) (stride row : ℕ) → out ≡ rows_at ws file ps 0 5 8 cells stride row → out ≡ rows_put ws file at step 8 cells stride row
  table_rows ws cells out stride row h = h ∙ ap (λ (p : List ℕ). rows_at ws file p 0 5 8 cells stride row) e ∙ rows_steps file at step xs l ws cells stride row 8 (omega arith)

pub seen_is : (file : List ℕ) (at step : ℕ) (on : Bool) (s : Seen) (id k : ℕ) → id ≡ (told_at file (at + 7 * step)).id → k ≡ cond on (s.next.ends + 8) s.next.ends
    → record {
      opened = record { frames = s.opened.frames + 8; id = id };
      next = record { starts = s.next.starts + 8; ends = k; items = s.next.items; fods = s.next.fods; whispys = s.next.whispys; stadiums = s.next.stadiums };
    } ≡ seen_then file at step on 8 s
unfolding last_id
seen_is file at step on s id k e d = λ i. record {
  opened = record { frames = s.opened.frames + 8; id = e i };
  next = record { starts = s.next.starts + 8; ends = d i; items = s.next.items; fods = s.next.fods; whispys = s.next.whispys; stadiums = s.next.stadiums };
}

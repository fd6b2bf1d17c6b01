-- The laws behind `EveryCut`: what a run finds in events of which the first bytes are present.
-- Assumes nothing.
use Prim.Native.Nat.{ℕ, zero, suc, ◌+◌, ◌*◌, ◌-◌, ◌^◌, ◌≤◌, ◌<◌, min}
use mathlib.Core.Path.{◌≡◌, refl, sym, ap, ◌∙◌}
use mathlib.Core.List.{List, [], ◌∷◌, ◌++◌, map}
use mathlib.Core.Bool.{Bool, true, false, cond, true≢false}
use native.Mathlib.Nat.{add-zero, sub-zero, zero-sub}
use native.Mathlib.Decide.{dec_lt}
use native.Mathlib.Omega.{arith}
use borrow.Author.Tests.{le-leb, lt-leb}
use lib.Dec.{leb, lit<}
use lib.ListN.{length, get_or, take, drop, length-append, length-take, length-map}
use lib.Seq.{take-append-le, take-take, take_at, drop_at, get_or-drop, get_or-take, take-nil, drop-drop}
use Rattle.wire.specs.Wire.{be, part, splice}
use Rattle.format.specs.File.{Entry, Ev, table_bytes, event_bytes, events_bytes, file_of, Fresh, Listed}
use Rattle.format.proofs.Files.{length_table}
use Rattle.head.specs.Table.{stop_of, all_present, table_of, first_place, span_of}
use Rattle.head.specs.Step.{step_in, step_of}
use Rattle.head.specs.Numbers.{step_numbers}
use Rattle.head.specs.declared.Step.{Step}
use Rattle.head.specs.declared.Step.TheVariants.{Event, Ends, Cut, Refused}
use Rattle.head.proofs.Steps.{unlisted, fits, overruns, at_end, inside}
use Rattle.head.proofs.Written.{listed_span, headed, top, length_top, headed_top, length_file, stop_is, present_is, stop_all, never_whole, entries_are, step_is, take_past}
use Rattle.de.specs.Walk.{Run, run, answer_at, walk_of}
use Rattle.de.specs.Cut.{wholly, event_at, events_read, zeroed}
use Rattle.de.specs.declared.Walked.TheVariants.{Done}
use Rattle.de.specs.declared.Walked.TheVariants as walked
use Rattle.de.proofs.Runs.{run_stop}

-- ---- events of which the first bytes are present

drop_take : (m n : ℕ) (l : List ℕ) → drop m (take n l) ≡ take (n - m) (drop m l)
drop_take zero n l = rw sub-zero
drop_take (suc m) zero l = rw zero-sub
drop_take (suc m) (suc n) [] = sym (take-nil (suc n - suc m))
drop_take (suc m) (suc n) (x ∷ l) = let k : suc n - suc m ≡ n - m = omega arith in rw k (drop_take m n l)

-- the bytes of f from a place on are the first n of l
abbrev Stands : List ℕ → ℕ → ℕ → List ℕ → Type 0
Stands f place n l = take n (drop place f) ≡ take n l

-- of e bytes n are present: all, or fewer, and then the data is cut
pub data Present (whole : Bool) (n e : ℕ) : Type 0 where
  all : n ≡ e → Present whole n e
  fewer : whole ≡ false → n < e → Present whole n e

present_after : {whole : Bool} {n k : ℕ} (e m : ℕ) → Present whole n k → k ≡ m + e → m ≤ n → Present whole (n - m) e
present_after e m (all q) s le = all (omega arith)
present_after e m (fewer h q) s le = fewer h (omega arith)

cut_present : {whole : Bool} {n e : ℕ} → Present whole n e → n < e → whole ≡ false
cut_present (all q) l = absurd (omega arith)
cut_present (fewer h q) l = h

module _ (f : List ℕ) (place : ℕ) where
  code_is : (n c : ℕ) (l : List ℕ) → Stands f place (suc n) (c ∷ l) → get_or f place 0 ≡ c
  code_is n c l q =
      let h : 0 < suc n = omega arith in
      simp (get_or-take (suc n) (drop place f) 0 0 h, get_or-drop, add-zero) at (ap (λ (x : List ℕ). get_or x 0 0) q)

  -- what stands after the first m bytes
  after_stands : (n m : ℕ) (xs l : List ℕ) → length xs ≡ m → Stands f place n (xs ++ l) → Stands f (place + m) (n - m) l
  after_stands n m xs l e q =
      rw (← drop-drop, ← drop_take) (ap (λ (x : List ℕ). drop m x) q ∙ rw (drop_take, drop_at xs l m e))

  first_stands : (n m : ℕ) (xs l : List ℕ) → length xs ≡ m → m ≤ n → Stands f place n (xs ++ l) → part f place m ≡ xs
  unfolding part
  first_stands n m xs l e h q =
      sym (take-take m n (drop place f) h) ∙ ap (λ (x : List ℕ). take m x) q ∙ take-take m n (xs ++ l) h ∙ take_at xs l m e

-- a run finds these events, up to what stands after them
pub record Finds (f : List ℕ) (r : Run) (place : ℕ) (es : List Ev) (last : Step) : Type 0 where
  pub events_are : map (event_at f) r.seen ≡ es
  pub place_is : r.place ≡ place + length (events_bytes es)
  pub last_is : r.last ≡ last

ends_kind : (b : Bool) → (step_numbers (cond b Ends Cut)).kind ≡ 0 → ⊥
ends_kind true e = omega arith
ends_kind false e = omega arith

module _ (f : List ℕ) (m place : ℕ) where
  finds_none : (s : Step) → ((step_numbers s).kind ≡ 0 → ⊥) → step_of f place ≡ s → Finds f (run m f place) place [] s
  unfolding events_bytes
  finds_none s k e = rw (run_stop m f place s k e) (record { events_are = refl; place_is = sym (add-zero place); last_is = refl })

  finds_more : (e : Ev) (es : List Ev) (s : Step) (next : ℕ) → next ≡ place + suc (length e.payload)
      → step_of f place ≡ Event e.code place (place + 1) (length e.payload) next
      → part f (place + 1) (length e.payload) ≡ e.payload → Finds f (run m f next) next es s → Finds f (run (suc m) f place) place (e ∷ es) s
  unfolding run events_bytes
  finds_more e es s next n step payload r =
      rw step
      (record { events_are = rw (payload, r.events_are); place_is = r.place_is ∙ omega (arith, length-append e.payload (events_bytes es)); last_is = r.last_is })

module _ (f : List ℕ) (t : List Entry) (stop : ℕ) (whole : Bool)
    (steps : (place : ℕ) → step_of f place ≡ step_in (first_place t) stop whole place (get_or f place 0) (span_of (get_or f place 0) t)) where
  -- at the end of what is present
  at_stop : (place : ℕ) → first_place t ≤ place → place ≡ stop → step_of f place ≡ cond whole Ends Cut
  at_stop place h e = steps place ∙ at_end _ _ _ _ _ _ h e

  module _ (place : ℕ) (e : Ev) (starts : first_place t ≤ place) (under : place < stop) (code : get_or f place 0 ≡ e.code) (span : span_of e.code t ≡ suc (length e.payload)) where
    -- at an event that is whole, and at one that is cut
    at_whole : place + suc (length e.payload) ≤ stop
        → step_of f place ≡ Event e.code place (place + 1) (length e.payload) (place + suc (length e.payload))
    at_whole h =
        let z : suc (length e.payload) - 1 ≡ length e.payload = omega arith in
        steps place ∙ rw (code, span) (inside _ _ _ _ _ _ starts under ∙ fits _ _ _ _ _ (λ x. omega arith) h ∙ rw z)

    at_cut : stop < place + suc (length e.payload) → whole ≡ false → step_of f place ≡ Cut
    at_cut h w = steps place ∙ rw (code, span) (inside _ _ _ _ _ _ starts under ∙ overruns _ _ _ _ _ (λ x. omega arith) h ∙ rw w)

  -- a run finds an event of which all bytes are present, and what a run after it finds
  run_more : (e : Ev) (es found : List Ev) (place n m : ℕ) (s : Step) → Listed t (e ∷ es) → first_place t ≤ place → place + suc n ≤ stop → length e.payload ≤ n
      → Stands f place (suc n) (events_bytes (e ∷ es)) → Finds f (run m f (place + suc (length e.payload))) (place + suc (length e.payload)) found s
      → Finds f (run (suc m) f place) place (e ∷ found) s
  unfolding Listed events_bytes
  run_more e es found place n m s ls h r l st rest =
      let len = length e.payload in
      let c = code_is f place n e.code (e.payload ++ events_bytes es) st in
      let z = listed_span e.code t ls.0 ∙ ap suc ls.1 in
      let after = after_stands f place (suc n) 1 (e.code ∷ []) (e.payload ++ events_bytes es) refl st in
      let payload = first_stands f (place + 1) (suc n - 1) len e.payload (events_bytes es) refl (omega arith) after in
      finds_more f m place e found s (place + suc len) refl (at_whole place e h (omega arith) c z (omega arith)) payload rest

  -- a run finds the events that are whole
  pub run_finds : (es : List Ev) (place n m : ℕ) → Listed t es → first_place t ≤ place → stop ≡ place + n → Present whole n (length (events_bytes es)) → n ≤ m
      → Stands f place n (events_bytes es) → Finds f (run m f place) place (wholly n es) (cond whole Ends Cut)
  unfolding Listed events_bytes wholly
  run_finds [] place n m ls h s (all q) l st = finds_none f m place _ (ends_kind whole) (at_stop place h (omega arith))
  run_finds [] place n m ls h s (fewer w q) l st = absurd (omega arith)
  run_finds (e ∷ es) place zero m ls h s p l st =
      rw (lt-leb (suc (length e.payload)) 0 (omega arith)) (finds_none f m place _ (ends_kind whole) (at_stop place h (omega arith)))
  run_finds (e ∷ es) place (suc n) zero ls h s p l st = absurd (omega arith)
  run_finds (e ∷ es) place (suc n) (suc m) ls h s p l st =
      let c = code_is f place n e.code (e.payload ++ events_bytes es) st in
      let z = listed_span e.code t ls.0 ∙ ap suc ls.1 in
      elim (dec_lt n (length e.payload)) [
        | yes k ↦
            let w = cut_present p (omega (arith, length-append e.payload (events_bytes es))) in
            rw (lt-leb (suc (length e.payload)) (suc n) (omega arith), w) (finds_none f (suc m) place Cut (ends_kind false) (at_cut place e h (omega arith) c z (omega arith) w))
        | no k ↦
            let len = length e.payload in
            rw (le-leb (suc len) (suc n) (omega arith))
            (run_more e es (wholly (suc n - suc len) es) place n m (cond whole Ends Cut) ls h (omega arith) (omega arith) st
            (run_finds es (place + suc len) (suc n - suc len) m ls.2 (omega arith) (omega arith)
            (present_after (length (events_bytes es)) (suc len) p (omega (arith, length-append e.payload (events_bytes es))) (omega arith))
            (omega arith)
            (after_stands f place (suc n) (suc len) (event_bytes e) (events_bytes es) refl st)))
      ]

  -- at a code that the table lacks
  at_unlisted : (place c : ℕ) → first_place t ≤ place → place < stop → get_or f place 0 ≡ c → span_of c t ≡ 0 → step_of f place ≡ Refused 16 place
  at_unlisted place c h l code span = steps place ∙ rw (code, span) (inside _ _ _ _ _ _ h l ∙ unlisted _ _ _ _ _ refl)

  -- a run finds all events whose bytes are present, up to what stands after them
  run_all : (es : List Ev) (place n m : ℕ) (s : Step) → Listed t es → first_place t ≤ place → place + n ≤ stop → n ≡ length (events_bytes es) → n ≤ m
      → Stands f place n (events_bytes es) → ((step_numbers s).kind ≡ 0 → ⊥) → step_of f (place + n) ≡ s → Finds f (run m f place) place es s
  unfolding Listed events_bytes
  run_all [] place n m s ls h r q l st k e =
      let z : place + n ≡ place = omega arith in
      finds_none f m place s k (rw z at e)
  run_all (e ∷ es) place zero m s ls h r q l st k d = absurd (omega arith)
  run_all (e ∷ es) place (suc n) zero s ls h r q l st k d = absurd (omega arith)
  run_all (e ∷ es) place (suc n) (suc m) s ls h r q l st k d =
      let len = length e.payload in
      let many : n ≡ len + length (events_bytes es) = omega (arith, length-append e.payload (events_bytes es)) in
      let end : place + suc len + (suc n - suc len) ≡ place + suc n = omega arith in
      run_more e es es place n m s ls h (omega arith) (omega arith) st
      (run_all es (place + suc len) (suc n - suc len) m s ls.2 (omega arith) (omega arith) (omega arith) (omega arith)
      (after_stands f place (suc n) (suc len) (event_bytes e) (events_bytes es) refl st) k (rw end d))

-- all events are whole where all their bytes are present
pub wholly_all : (es : List Ev) → wholly (length (events_bytes es)) es ≡ es
unfolding wholly events_bytes
wholly_all [] = refl
wholly_all (e ∷ es) =
    let n = length (e.payload ++ events_bytes es) in
    let z : suc n - suc (length e.payload) ≡ length (events_bytes es) = omega (arith, length-append e.payload (events_bytes es)) in
    rw (le-leb (suc (length e.payload)) (suc n) (omega (arith, length-append e.payload (events_bytes es))), z, wholly_all es)

-- ---- a written file, cut after k bytes

-- after the table: what a walk answers of what its run finds
answered : (stop events place : ℕ) (whole : Bool) → (whole ≡ true → place ≡ stop) → answer_at stop events place (cond whole Ends Cut) ≡ Done events (stop - place) whole place
answered stop events place true h = let e = h refl in ap (λ (x : ℕ). Done events x true place) (omega arith)
answered stop events place false h = refl

all_found : {whole : Bool} {n : ℕ} (es : List Ev) → Present whole n (length (events_bytes es)) → whole ≡ true → length (events_bytes (wholly n es)) ≡ n
all_found es (all q) h = rw (q, wholly_all es)
all_found es (fewer w q) h = absurd (true≢false (sym h ∙ w))

answer_found : {f : List ℕ} {r : Run} {place : ℕ} {es : List Ev} {whole : Bool} (n : ℕ) → Finds f r place es (cond whole Ends Cut) → (whole ≡ true → length (events_bytes es) ≡ n)
    → answer_at (place + n) (length r.seen) r.place r.last ≡ Done (length es) (n - length (events_bytes es)) whole (place + length (events_bytes es))
answer_found {f} {r} {place} {es} {whole} n found h =
    let many : length r.seen ≡ length es = sym (length-map r.seen (event_at f)) ∙ ap length found.events_are in
    let left : place + n - (place + length (events_bytes es)) ≡ n - length (events_bytes es) = omega arith in
    rw (many, found.place_is, found.last_is)
    (answered (place + n) (length es) (place + length (events_bytes es)) whole (λ w. ap (λ (x : ℕ). place + x) (h w)) ∙ rw left)

module _ (t : List Entry) (es : List Ev) (tail : List ℕ) (k : ℕ) where
  abbrev length_of_lem : ℕ
  length_of_lem = length (table_bytes t ++ events_bytes es)

  -- the bytes of events that are present
  abbrev present : ℕ
  present = min (k - first_place t) (length (events_bytes es))

  abbrev body : List ℕ
  body = take (k - first_place t) (events_bytes es ++ tail)

  length_is : length_of_lem ≡ 2 + 3 * length t + length (events_bytes es)
  length_is = length-append (table_bytes t) (events_bytes es) ∙ rw (length_table t)

  body_length : length body ≡ min (k - first_place t) (length (events_bytes es) + length tail)
  body_length = simp (length-take, length-append)

  -- whatever length its field declares
  module _ (n : ℕ) (after : first_place t ≤ k) where
    abbrev cut : List ℕ
    cut = take k (headed t n (events_bytes es ++ tail))

    abbrev g : List ℕ
    g = headed t n body

    cut_is : cut ≡ g
    cut_is =
        ap (take k) (headed_top t n (events_bytes es ++ tail))
        ∙ take_past (top t n) (events_bytes es ++ tail) (first_place t) k (length_top t n) after
        ∙ sym (headed_top t n body)

    all_stands : (m : ℕ) → m ≤ k - first_place t → Stands g (first_place t) m (events_bytes es ++ tail)
    all_stands m h =
        ap (λ (x : List ℕ). take m (drop (first_place t) x)) (headed_top t n body)
        ∙ rw (drop_at (top t n) body (first_place t) (length_top t n), take-take m (k - first_place t) (events_bytes es ++ tail) h)

    stands : Stands g (first_place t) present (events_bytes es)
    stands = all_stands present (omega arith) ∙ take-append-le present (events_bytes es) tail (omega arith)

  -- if by it the event data ends after those bytes
  module _ (n : ℕ) (whole : Bool) (fresh : Fresh [] t) (listed : Listed t es) (fits : n < 2 ^ 32) (after : first_place t ≤ k)
      (stop_at : stop_of (headed t n body) ≡ first_place t + present) (whole_is : all_present (headed t n body) ≡ whole)
      (part_present : Present whole present (length (events_bytes es))) where
    entries : table_of (g n after) ≡ t
    entries = entries_are t n body fits fresh (omega (arith, stop_at))

    found : Finds (g n after) (run (length (g n after)) (g n after) (first_place t)) (first_place t) (wholly present es) (cond whole Ends Cut)
    found =
        run_finds (g n after) t (first_place t + present) whole
        (λ place. rw (← stop_at, ← whole_is) (step_is t n body fits fresh (omega (arith, stop_at)) place))
        es (first_place t) present (length (g n after)) listed (omega arith) refl part_present (omega (arith, length_file t n body fits, body_length)) (stands n after)

    found_events : events_read (cut n after) ≡ wholly present es
    unfolding events_read
    found_events = rw (cut_is n after, entries) found.events_are

    found_walk : walk_of (cut n after)
        ≡ Done (length (wholly present es)) (present - length (events_bytes (wholly present es))) whole (first_place t + length (events_bytes (wholly present es)))
    unfolding walk_of
    found_walk = rw (cut_is n after, entries, stop_at) (answer_found present found (all_found es part_present))

  module _ (fresh : Fresh [] t) (listed : Listed t es) (after : first_place t ≤ k) where
    -- with its true length
    module _ (fits : length_of_lem < 2 ^ 32) where
      filled : length_of_lem ≡ 0 → ⊥
      filled e = omega (arith, length_is)

      stop_at : stop_of (headed t length_of_lem body) ≡ first_place t + present
      stop_at = stop_is t length_of_lem body fits filled ∙ omega (arith, length_is, body_length)

      whole_is : all_present (headed t length_of_lem body) ≡ leb (15 + length_of_lem) k
      whole_is =
          present_is t length_of_lem body fits filled
          ∙ elim (dec_lt k (15 + length_of_lem)) [
            | yes l ↦ lt-leb _ (first_place t + length body) (omega (arith, length_is, body_length)) ∙ sym (lt-leb (15 + length_of_lem) k l)
            | no l ↦ le-leb _ (first_place t + length body) (omega (arith, length_is, body_length)) ∙ sym (le-leb (15 + length_of_lem) k (omega arith))
          ]

      part_present : Present (leb (15 + length_of_lem) k) present (length (events_bytes es))
      part_present =
          elim (dec_lt k (15 + length_of_lem)) [
            | yes l ↦ fewer (lt-leb (15 + length_of_lem) k l) (omega (arith, length_is))
            | no l ↦ all (omega (arith, length_is))
          ]

      pub cut_events : events_read (take k (file_of t es tail)) ≡ wholly present es
      unfolding file_of
      cut_events = found_events length_of_lem _ fresh listed fits after stop_at whole_is part_present

      pub cut_walk : walk_of (take k (file_of t es tail))
          ≡ Done (length (wholly present es)) (present - length (events_bytes (wholly present es))) (leb (15 + length_of_lem) k) (first_place t + length (events_bytes (wholly present es)))
      unfolding file_of
      cut_walk = found_walk length_of_lem _ fresh listed fits after stop_at whole_is part_present

    -- with a length of zero
    zero_is : zeroed (file_of t es tail) ≡ headed t 0 (events_bytes es ++ tail)
    unfolding zeroed file_of splice be
    zero_is = refl

    abbrev zero_cut : List ℕ
    zero_cut = take k (zeroed (file_of t es tail))

    stop_zero : stop_of (headed t 0 body) ≡ first_place t + length body
    stop_zero = stop_all t 0 body (lit< tt) refl

    not_whole : all_present (headed t 0 body) ≡ false
    not_whole = never_whole t 0 body (lit< tt) refl

    -- and no byte after the events
    module _ (within : k ≤ first_place t + length (events_bytes es)) where
      stop_within : stop_of (headed t 0 body) ≡ first_place t + present
      stop_within = stop_zero ∙ omega (arith, body_length)

      some_present : Present false present (length (events_bytes es))
      some_present =
          elim (dec_lt present (length (events_bytes es))) [
            | yes l ↦ fewer refl l
            | no l ↦ all (omega arith)
          ]

      pub zero_events : events_read zero_cut ≡ wholly present es
      zero_events = ap (λ (f : List ℕ). events_read (take k f)) zero_is ∙ found_events 0 false fresh listed (lit< tt) after stop_within not_whole some_present

      pub zero_walk : walk_of zero_cut
          ≡ Done (length (wholly present es)) (present - length (events_bytes (wholly present es))) false (first_place t + length (events_bytes (wholly present es)))
      zero_walk = ap (λ (f : List ℕ). walk_of (take k f)) zero_is ∙ found_walk 0 false fresh listed (lit< tt) after stop_within not_whole some_present

    -- and a byte after the events that the table lacks
    module _ (c : ℕ) (rest : List ℕ) (first : tail ≡ c ∷ rest) (lacks : span_of c t ≡ 0) (past : first_place t + length (events_bytes es) < k) where
      abbrev n : ℕ
      n = length (events_bytes es)

      abbrev z : List ℕ
      z = g 0 after

      longer : first_place t + n < stop_of z
      longer = omega (arith, stop_zero, body_length, ap length first)

      entered : table_of z ≡ t
      entered = entries_are t 0 body (lit< tt) fresh (omega (arith, longer))

      steps : (place : ℕ) → step_of z place ≡ step_in (first_place t) (stop_of z) (all_present z) place (get_or z place 0) (span_of (get_or z place 0) t)
      steps place = step_is t 0 body (lit< tt) fresh (omega (arith, longer)) place

      byte_is : get_or z (first_place t + n) 0 ≡ c
      byte_is =
          let one : n + 1 - n ≡ 1 = omega arith in
          code_is z (first_place t + n) 0 c rest
          (rw one at (after_stands z (first_place t) (n + 1) n (events_bytes es) tail refl (all_stands 0 after (n + 1) (omega arith))) ∙ ap (take 1) first)

      events_stand : Stands z (first_place t) n (events_bytes es)
      events_stand = all_stands 0 after n (omega arith) ∙ take-append-le n (events_bytes es) tail (omega arith)

      refused_there : step_of z (first_place t + n) ≡ Refused 16 (first_place t + n)
      refused_there = at_unlisted z t (stop_of z) (all_present z) steps (first_place t + n) c (omega arith) longer byte_is lacks

      all_found_there : Finds z (run (length z) z (first_place t)) (first_place t) es (Refused 16 (first_place t + n))
      all_found_there =
          run_all z t (stop_of z) (all_present z) steps es (first_place t) n (length z) (Refused 16 (first_place t + n)) listed (omega arith) (omega (arith, longer)) refl
          (omega (arith, length_file t 0 body (lit< tt), body_length, ap length first)) events_stand (λ e. omega arith) refused_there

      pub zero_tail : walk_of zero_cut ≡ walked.Refused 16 (first_place t + n)
      unfolding walk_of
      zero_tail = ap (λ (f : List ℕ). walk_of (take k f)) zero_is ∙ rw (cut_is 0 after, entered, all_found_there.last_is)

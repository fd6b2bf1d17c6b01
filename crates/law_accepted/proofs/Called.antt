-- From the calls: what `read` answered and left in the stores, of whatever file that is not read partly, is accepted by `write`.
-- Assumes nothing.
use mathlib.Core.Path.{◌≡◌, refl, sym, ap, subst, ◌∙◌}
use mathlib.Core.Bool.{Bool, true, false, cond, ◌||◌}
use mathlib.Core.List.{List, [], ◌∷◌, map}
use Prim.Native.Nat.{ℕ, zero, suc, ◌+◌, ◌-◌, ◌≤◌}
use native.Mathlib.Omega.{arith}
use borrow.Author.Tests.{le-ltb, ltb-false}
use lib.Dec.{eqb, ltb, leb}
use lib.ListN.{length, get_or, take, drop}
use Rattle.wire.specs.Wire.{part}
use Rattle.wire.proofs.Laws.{part_splice}
use Rattle.format.specs.File.{Ev}
use Rattle.format.specs.Refusal.{lowest}
use Rattle.format.specs.Version.{accepted_of}
use Rattle.format.specs.declared.version.Version.{Version}
use Rattle.format.proofs.Refusals.{skip, none as none_left, lowest_after}
use Rattle.format.proofs.Tests.{one_passed}
use Rattle.head.specs.Table.{stop_of, all_present, table_of, first_place, span_of, head_refusal, head_offset}
use Rattle.head.specs.Step.{event_in, step_in, step_of}
use Rattle.head.specs.declared.Step.{Step}
use Rattle.head.specs.declared.Step.TheVariants.{Event, Ends, Cut, Refused}
use Rattle.de.specs.Walk.{turn, run}
use Rattle.de.specs.Cut.{event_at, events_read}
use Rattle.game.specs.Stores.{Stores, stores}
use Rattle.grammar.specs.Productions.{Replay, events_of}
use Rattle.read_judge.specs.Found.{Found, version_of}
use Rattle.read_judge.specs.Inner.{Bytes}
use Rattle.read_judge.proofs.Accepted.{all_events}
use Rattle.measure.specs.Game.{Kept, kept_read, lengths_of, places_in}
use Rattle.measure.specs.Read.{partly_of, unopened, opened_in, laid_over, kept_short, kept_over, MeasureOutcome, ReadOutcome, early, none, big, short, found}
use Rattle.measure.specs.declared.Measured.{Measured}
use Rattle.measure.specs.declared.Opened.{Opened}
use Rattle.measure.proofs.Only.{only_measure}
use Rattle.ser.specs.Write.{file, judged, refusal, write_numbers, written_numbers, WriterOutcome}
use Rattle.format.specs.Refused.{Answer}
use Rattle.std.specs.Prelude.{Ok}
use Rattle.ser.proofs.Outcomes.{numbered_eleven}
use Rattle.law_accepted.specs.Again.{block_at, body_at, stores_again, lent_up_to, stores_left}
use Rattle.law_accepted.proofs.Again.{again}

-- ---- the start block stands in the file behind the first event's code

take_again : (n : ℕ) (xs : List ℕ) → take (length (take n xs)) xs ≡ take n xs
take_again zero xs = refl
take_again (suc n) [] = refl
take_again (suc n) (x ∷ xs) = ap (λ (l : List ℕ). x ∷ l) (take_again n xs)

module _ (f : List ℕ) (p : ℕ) where
  part_again : (at n : ℕ) → at ≡ p + 1 → part f (p + 1) (length (part f at n)) ≡ part f at n
  unfolding part
  part_again at n e = ap (λ (k : ℕ). take (length (take n (drop at f))) (drop k f)) (sym e) ∙ take_again n (drop at f)

  -- a step's payload, if it found an event
  abbrev Behind : Step → Type 0
  Behind (Event code at payload len next) = payload ≡ p + 1
  Behind Ends = Unit {0}
  Behind Cut = Unit {0}
  Behind (Refused number offset) = Unit {0}

  either : (b : Bool) (s t : Step) → Behind s → Behind t → Behind (cond b s t)
  either true s t x y = x
  either false s t x y = y

  step_behind : Behind (step_of f p)
  unfolding step_of step_in event_in
  step_behind =
      let span = span_of (get_or f p 0) (table_of f) in
      let event = Event (get_or f p 0) p (p + 1) (span - 1) (p + span) in
      let last = cond (all_present f) (Refused 17 p) Cut in
      let inside = cond (leb (p + span) (stop_of f)) event last in
      let listed = cond (eqb span 0) (Refused 16 p) inside in
      let end = cond (all_present f) Ends Cut in
      let within = cond (eqb p (stop_of f)) end listed in
      let placed = cond (ltb p (first_place (table_of f)) || ltb (stop_of f) p) (Refused 17 p) within in
      either (eqb (head_refusal f) 0) placed (Refused (head_refusal f) (head_offset (head_refusal f)))
      (either (ltb p (first_place (table_of f)) || ltb (stop_of f) p) (Refused 17 p) within tt
      (either (eqb p (stop_of f)) end listed (either (all_present f) Ends Cut tt tt)
      (either (eqb span 0) (Refused 16 p) inside tt
      (either (leb (p + span) (stop_of f)) event last refl (either (all_present f) (Refused 17 p) Cut tt tt)))))
      tt

  abbrev FirstBehind : List Ev → Type 0
  FirstBehind [] = Unit {0}
  FirstBehind (e ∷ es) = part f (p + 1) (length e.payload) ≡ e.payload

  turn_behind : (n : ℕ) (s : Step) → Behind s → FirstBehind (map (event_at f) (turn s (run n f) p).seen)
  turn_behind n (Event code at payload len next) h = part_again payload len h
  turn_behind n Ends h = tt
  turn_behind n Cut h = tt
  turn_behind n (Refused number offset) h = tt

  run_behind : (n : ℕ) → FirstBehind (map (event_at f) (run n f p).seen)
  unfolding run
  run_behind zero = tt
  run_behind (suc n) = turn_behind n (step_of f p) step_behind

events_behind : (f : List ℕ) → FirstBehind f (first_place (table_of f)) (events_read f)
unfolding events_read
events_behind f = run_behind f (first_place (table_of f)) (length f)

first_block : (f : List ℕ) (p : ℕ) (v : Version) (r : Replay) → FirstBehind f p (events_of v r) → part f (p + 1) (length r.block) ≡ r.block
unfolding events_of
first_block f p v r h = h

block_stands : (f : List ℕ) → accepted_of (version_of f) ≡ true → (x : Found f) → block_at f (places_in f x.replay) ≡ x.replay.block
block_stands f new x =
    first_block f (first_place (table_of f)) (version_of f) x.replay (subst (FirstBehind f (first_place (table_of f))) (all_events f new x) (events_behind f))

-- ---- what was read stands at the start of each store

taken : (given read : List ℕ) → ltb (length given) (length read) ≡ false → take (length read) (laid_over given read) ≡ read
unfolding part
taken given read e = part_splice given 0 read (omega (arith, ltb-false (length given) (length read) e))

module _ (given read : Kept) (long : kept_short given read ≡ false) where
  lent_taken : (lent_up_to (lengths_of read) (kept_over given read).lent ≡ read.lent) × (take (lengths_of read).codes (kept_over given read).codes ≡ read.codes)
  unfolding kept_short kept_over
  lent_taken =
      let a = given.lent in
      let b = read.lent in
      let (ids, e) = one_passed _ _ long in
      let (starts, e) = one_passed _ _ e in
      let (pres, e) = one_passed _ _ e in
      let (posts, e) = one_passed _ _ e in
      let (ends, e) = one_passed _ _ e in
      let (items, e) = one_passed _ _ e in
      let (fods, e) = one_passed _ _ e in
      let (whispys, e) = one_passed _ _ e in
      let (stadiums, e) = one_passed _ _ e in
      let (item, e) = one_passed _ _ e in
      let (fod, e) = one_passed _ _ e in
      let (whispy, e) = one_passed _ _ e in
      let (stadium, e) = one_passed _ _ e in
      let (bits, e) = one_passed _ _ e in
      let (codes, e) = one_passed _ _ e in (
        λ i. record {
          cells = record {
            ids = taken a.cells.ids b.cells.ids ids i;
            starts = taken a.cells.starts b.cells.starts starts i;
            pres = taken a.cells.pres b.cells.pres pres i;
            posts = taken a.cells.posts b.cells.posts posts i;
            ends = taken a.cells.ends b.cells.ends ends i;
            items = taken a.cells.items b.cells.items items i;
            fods = taken a.cells.fods b.cells.fods fods i;
            whispys = taken a.cells.whispys b.cells.whispys whispys i;
            stadiums = taken a.cells.stadiums b.cells.stadiums stadiums i;
          };
          offsets = record {
            items = taken a.offsets.items b.offsets.items item i;
            fods = taken a.offsets.fods b.offsets.fods fod i;
            whispys = taken a.offsets.whispys b.offsets.whispys whispy i;
            stadiums = taken a.offsets.stadiums b.offsets.stadiums stadium i;
          };
          presence = taken a.presence b.presence bits i;
        },
        taken given.codes read.codes codes,
      )

-- ---- the calls

module _ (f : List ℕ) (given : Kept) where
  -- what was left is what was read
  pub left_again : accepted_of (version_of f) ≡ true → (x : Found f) → kept_short given (kept_read (version_of f) x.replay) ≡ false
      → stores_left f (lengths_of (kept_read (version_of f) x.replay)) (opened_in f x.replay) (kept_over given (kept_read (version_of f) x.replay)) ≡ stores_again f x.replay
  left_again new x long =
      let read = kept_read (version_of f) x.replay in
      let (lent, codes) = lent_taken given read long in
      let block = block_stands f new x in
      λ i. stores (lent i) (block i) (codes i) (body_at f (places_in f x.replay))

  no_number : {r : Opened} (n offset : ℕ) → r ≡ unopened n offset → r.refused ≡ 0 → n ≡ 0
  no_number n offset e z = sym (ap (λ (o : Opened). o.refused) e) ∙ z

  -- what is not marked as partly read says an accepted version
  not_partly : (v : Version) → partly_of v ≡ 0 → accepted_of v ≡ true
  not_partly v = go (accepted_of v)
    where
      go : (b : Bool) → ◌≡◌ {A = ℕ} (cond b 0 1) 0 → b ≡ true
      go true e = refl
      go false e = absurd (omega arith)

  -- none of the refusals 1 to 11
  pub called : {m : Measured} {r : Opened} {left : Kept} → Bytes f → MeasureOutcome f m → ReadOutcome f given r left → r.refused ≡ 0 → r.partly ≡ 0
      → lowest (judged r.game (stores_left f m.lengths r left)) ≡ 0
  called b o (early p e g) z w = absurd (p (no_number _ _ e z))
  called b o (none y p e g) z w = absurd (let k : ◌≡◌ {A = ℕ} 19 0 = no_number _ _ e z in omega arith)
  called b o (big y x p e g) z w = absurd (let k : ◌≡◌ {A = ℕ} 2 0 = no_number _ _ e z in omega arith)
  called b o (short y x p s e g) z w = absurd (let k : ◌≡◌ {A = ℕ} 12 0 = no_number _ _ e z in omega arith)
  called b o (found y x p s e g) z w =
      let new = not_partly (version_of f) (sym (ap (λ (o : Opened). o.partly) e) ∙ w) in
      let q = only_measure f o (found y x p refl) in
      (λ i. lowest (judged (e i).game (stores_left f (q i).lengths (e i) (g i))))
      ∙ ap (λ (t : Stores). lowest (judged (opened_in f x.replay).game t)) (left_again new x s)
      ∙ again f b new x p

  -- so that `write` answers with a file wherever there is room for it
  pub written_again : {m : Measured} {r : Opened} {left : Kept} → Bytes f → MeasureOutcome f m → ReadOutcome f given r left → r.refused ≡ 0 → r.partly ≡ 0
      → (out after : List ℕ) (w : Answer ℕ) → WriterOutcome r.game (stores_left f m.lengths r left) out w after
      → length (file r.game (stores_left f m.lengths r left)) ≤ length out
      → written_numbers w ≡ written_numbers (Ok (length (file r.game (stores_left f m.lengths r left))))
  unfolding refusal
  written_again {m} {r} {left} b o h z p out after w done fits =
      let g = r.game in
      let s = stores_left f m.lengths r left in
      let n = length (file g s) in
      let accepted : refusal g s (length out) ≡ 0 = lowest_after (judged g s) _ (numbered_eleven g s) (called b o h z p) ∙ sym (skip 12 _ _ _ (le-ltb (length out) n fits) none_left) in
      done.answer_is ∙ ap (λ (k : ℕ). write_numbers k n) accepted

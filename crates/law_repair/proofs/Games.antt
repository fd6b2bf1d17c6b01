-- The file of every game that 2026-01 admits, with any four bytes for its length, is repaired to itself: its events end where no table lists the next byte, and its tail is proper.
-- Assumes nothing.
use Prim.Native.Nat.{ℕ, zero, suc, ◌+◌, ◌-◌, ◌≤◌, ◌<◌}
use mathlib.Core.Path.{◌≡◌, refl, sym, ap, ap₂, subst, ◌∙◌}
use mathlib.Core.Bool.{Bool, true, false, cond, ◌||◌}
use mathlib.Core.List.{List}
use native.Mathlib.Omega.{arith}
use lib.Dec.{eqb, leb, ltb}
use lib.ListN.{length, take, drop}
use lib.Seq.{take_all}
use Rattle.wire.specs.Wire.{number, part, splice}
use Rattle.wire.proofs.Laws.{part_splice}
use Rattle.format.specs.Mark.{yes}
use Rattle.format.specs.declared.version.Version.{Version}
use Rattle.game.specs.Stores.{Stores}
use Rattle.game.specs.declared.Game.{Game}
use Rattle.ending.specs.Tail.{tail_of}
use Rattle.head.specs.Table.{declared, stop_of, table_of, first_place, head_refusal}
use Rattle.head.specs.Step.{event_in, step_in, step_of}
use Rattle.head.specs.Numbers.{step_numbers}
use Rattle.head.specs.declared.Step.{Step}
use Rattle.head.specs.declared.Step.TheVariants.{Event, Ends, Cut, Refused}
use Rattle.de.specs.Walk.{Run, turn, run, run_of, answer_at, walk_of}
use Rattle.de.specs.Numbers.{walk_numbers}
use Rattle.de.specs.Cut.{events_read, zeroed}
use Rattle.de.specs.declared.Walked.{Walked}
use Rattle.de.specs.declared.Walked.TheVariants as walked
use Rattle.de.proofs.Runs.{run_stop}
use Rattle.std.specs.Prelude.{Ok}
use Rattle.ser.specs.Write.{entries, events, file, WriterOutcome}
use Rattle.ser.proofs.Answered.{none_applies, written_file}
use Rattle.ser.proofs.Sound.{fresh, length_fits}
use Rattle.ser.proofs.Unfilled.{tail_refused}
use Rattle.grammar.specs.Sound.{Metadata}
use Rattle.law_tree.proofs.Files.{sound}
use Rattle.law_saved.specs.Admitted.{Admitted}
use Rattle.law_saved.proofs.Found as in_file
use Rattle.read_judge.specs.Found.{too_big}
use Rattle.read_judge.specs.Inner.{Bytes}
use Rattle.read_judge.proofs.Places as parts
use Rattle.measure.specs.Game.{tail_kind}
use Rattle.measure.proofs.Written.{tail_kind_lem}
use Rattle.check_file.specs.Inner.{is_tail}
use Rattle.check_file.proofs.Proper.{tail_right}
use Rattle.repair_kept.specs.Kept.{Accepted, Longest}
use Rattle.repair_kept.proofs.Field.{long_enough, zeroed_accepted, zero_table, zero_length}
use Rattle.repair_kept.proofs.Accepts.{early_head}
use Rattle.repair_judge.specs.Open.{open_refusal}
use Rattle.repair_call.specs.Outcome.{dropped, repaired_to, unrepaired, repair_of, RepairMeasured, RepairOutcome}
use Rattle.repair_call.specs.Outcome.RepairMeasured.{found as measured-found}
use Rattle.repair_call.specs.Outcome.RepairOutcome.{short as outcome_short, found as outcome_found}
use Rattle.repair_call.specs.declared.Repaired.{Repaired}
use Rattle.law_repair.proofs.Calls.{ending_same, zeroed_same, open_same, dropped_same, behind_same, keeps_same}
use Rattle.law_repair.proofs.Itself.{filled, ending_itself, open_itself, keeps_own, any_length}
use Rattle.law_repair.proofs.Only.{only_measured, only_repaired}

-- ---- where a walk is refused, it is refused at the place where it stops

-- the offset of a refusal is the place
abbrev At : ℕ → Step → Type 0
At place s = (step_numbers s).kind ≡ 3 → (step_numbers s).offset ≡ place

either : (P : Step → Type 0) (b : Bool) (s t : Step) → P s → P t → P (cond b s t)
either P true s t x y = x
either P false s t x y = y

in_place : (first stop : ℕ) (whole : Bool) (place code span : ℕ) → At place (step_in first stop whole place code span)
unfolding step_in event_in
in_place first stop whole place code span =
    let here : (k : ℕ) → At place (Refused k place) = λ k q. refl in
    either (At place) (ltb place first || ltb stop place) (Refused 17 place) _ (here 17)
    (either (At place) (eqb place stop) (cond whole Ends Cut) _ (either (At place) whole Ends Cut (λ q. absurd (omega arith)) (λ q. absurd (omega arith)))
    (either (At place) (eqb span 0) (Refused 16 place) _ (here 16)
    (either (At place) (leb (place + span) stop) _ _ (λ q. absurd (omega arith)) (either (At place) whole (Refused 17 place) Cut (here 17) (λ q. absurd (omega arith))))))

module _ (z : List ℕ) (head : head_refusal z ≡ 0) where
  step_at : (place : ℕ) → At place (step_of z place)
  unfolding step_of
  step_at place = rw head (in_place _ _ _ place _ _)

  same_kind : (s t : Step) → s ≡ t → (step_numbers s).kind ≡ (step_numbers t).kind
  same_kind s t e = ap (λ (x : Step). (step_numbers x).kind) e

  stands_at : (k o place : ℕ) → step_of z place ≡ Refused k o → step_of z o ≡ Refused k o
  stands_at k o place e =
      let at : o ≡ place = sym (ap (λ (x : Step). (step_numbers x).offset) e) ∙ step_at place (same_kind (step_of z place) (Refused k o) e) in
      ap (step_of z) at ∙ e

  refused_there : (k o n place : ℕ) → (run n z place).last ≡ Refused k o → step_of z o ≡ Refused k o
  unfolding run
  refused_there k o zero place e = stands_at k o place e
  refused_there k o (suc n) place e = go (step_of z place) refl (λ next. refused_there k o n next) e
    where
      go : (s : Step) → step_of z place ≡ s → ((next : ℕ) → (run n z next).last ≡ Refused k o → step_of z o ≡ Refused k o) → (turn s (run n z) place).last ≡ Refused k o → step_of z o ≡ Refused k o
      go (Event code at payload len next) q more l = more next l
      go Ends q more l = absurd (omega (arith, same_kind Ends (Refused k o) l))
      go Cut q more l = absurd (omega (arith, same_kind Cut (Refused k o) l))
      go (Refused j i) q more l = stands_at k o place (q ∙ l)

  last_of : (stop events place k o : ℕ) (s : Step) → answer_at stop events place s ≡ walked.Refused k o → s ≡ Refused k o
  last_of stop events place k o (Refused j i) e = ap₂ (λ (a b : ℕ). Refused a b) (ap (λ (w : Walked). (walk_numbers w).number) e) (ap (λ (w : Walked). (walk_numbers w).offset) e)
  last_of stop events place k o Ends e = absurd (omega (arith, ap (λ (w : Walked). (walk_numbers w).kind) e))
  last_of stop events place k o Cut e = absurd (omega (arith, ap (λ (w : Walked). (walk_numbers w).kind) e))
  last_of stop events place k o (Event code at payload len next) e = absurd (omega (arith, ap (λ (w : Walked). (walk_numbers w).kind) e))

  -- and no event is found from there
  none_there : (k o : ℕ) → walk_of z ≡ walked.Refused k o → (n : ℕ) → length (run n z o).seen ≡ 0
  unfolding walk_of
  none_there k o e n =
      let last = last_of (stop_of z) (length (run_of z).seen) (run_of z).place k o (run_of z).last e in
      ap (λ (r : Run). length r.seen) (run_stop n z o (Refused k o) (λ q. omega arith) (refused_there k o _ _ last))

-- ---- the games

module _ {g : Game} {s : Stores} (a : Admitted g s) where
  abbrev f : List ℕ
  f = file g s

  -- where its events end
  abbrev pub end : ℕ
  end = stop_of f

  pub accepted : Accepted f
  accepted = record { early = in_file.not_early a; found = in_file.found a; small = ap (λ (v : Version). too_big v (in_file.r a)) (in_file.version_is a) ∙ in_file.not_big a }

  zero_head : head_refusal (zeroed f) ≡ 0
  zero_head = zeroed_accepted f (early_head f (in_file.not_early a))

  pub long : 15 ≤ length f
  long = long_enough f zero_head

  -- its tail stands behind them
  tail_is : drop end f ≡ tail_of (yes g.metadata_given) s.metadata
  unfolding file
  tail_is = let p = in_file.p a in parts.tail_is (entries g s) (events g s) (tail_of (yes g.metadata_given) s.metadata) (fresh p) (length_fits p)

  -- and no event
  pub none_dropped : dropped f end ≡ 0
  unfolding dropped file
  none_dropped =
      let p = in_file.p a in
      let at = parts.stop_at (entries g s) (events g s) (tail_of (yes g.metadata_given) s.metadata) (fresh p) (length_fits p) in
      let k = suc (end + length f) in
      let all : take k (zeroed f) ≡ zeroed f = take_all k (zeroed f) (omega (arith, zero_length f long)) in
      let walk = sym (ap walk_of all) ∙ tail_refused p k (omega (arith, at)) in
      none_there (zeroed f) zero_head 16 end (walk ∙ ap (walked.Refused 16) (sym at)) (length f)

  -- what is answered where these bytes stand for its length: nothing is dropped, and the length is put right
  abbrev pub answer : List ℕ → Repaired
  answer w = record {
    refused = 0;
    tail = cond (yes g.metadata_given) 1 0;
    said = number w;
    length = declared f;
    bytes = length f;
    events = length (events g s);
    event_bytes = 15 + declared f - first_place (entries g s);
    dropped_events = 0;
    dropped_bytes = 0;
  }

  module _ (proper : yes g.metadata_given ≡ true → Metadata s.metadata) where
    pub tail_proper : is_tail (drop end f) ≡ true
    tail_proper = tail_right f (sound g s a.room a.accepted a.ids (record { major = a.major; minor = a.minor; patch = a.patch }) proper)

    module _ (bytes : Bytes f) (w : List ℕ) (four : length w ≡ 4) where
      -- its longest beginning is all of its events, and what is given is the file
      pub any_field : Longest (splice f 11 w) end × (repaired_to (splice f 11 w) end ≡ f)
      any_field = any_length f bytes accepted none_dropped tail_proper w four

      opens : open_refusal (splice f 11 w) ≡ 0
      opens = open_same f w long four ∙ open_itself f bytes accepted

      answer_is : repair_of (splice f 11 w) end ≡ answer w
      answer_is =
          let other = splice f 11 w in
          let stop = (filled f bytes accepted).1 in
          let low : 15 ≤ end = omega arith in
          let keeps = keeps_same f w long four end low ∙ keeps_own f bytes accepted none_dropped tail_proper in
          let kind = ap tail_kind (behind_same f w long four end low ∙ tail_is) ∙ tail_kind_lem (yes g.metadata_given) s.metadata (λ e. (proper e).small) in
          let field : part other 11 4 ≡ w = ap (part other 11) (sym four) ∙ part_splice f 11 w (omega (arith, long, four)) in
          let ends = ending_same f w long four end ∙ ending_itself f bytes accepted in
          let read = ap (λ (h : List ℕ). length (events_read h)) ends ∙ ap length (in_file.walked a).2 in
          let first = ap first_place (ap table_of (zeroed_same f w long four) ∙ zero_table f long ∙ in_file.table_is_lem a) in
          let n : end - 15 ≡ declared f = omega arith in
          let none = dropped_same f w long four end ∙ none_dropped in
          λ i. record {
            refused = 0;
            tail = cond (keeps i) (kind i) 2;
            said = number (field i);
            length = n i;
            bytes = length (any_field.1 i);
            events = read i;
            event_bytes = stop i - first i;
            dropped_events = none i;
            dropped_bytes = cond (keeps i) 0 (length other - end);
          }

      pub measured : {m : Repaired} → RepairMeasured (splice f 11 w) m → m ≡ answer w
      measured {m} o = only_measured (splice f 11 w) m _ o (measured-found opens end any_field.0 refl) ∙ answer_is

      pub repaired : {given : List ℕ} {r : Repaired} {left : List ℕ} → length f ≤ length given → RepairOutcome (splice f 11 w) given r left → (r ≡ answer w) × (left ≡ splice given 0 f)
      repaired {given} {r} {left} room o =
          let (longest, is) = any_field in
          let (x, y) = only_repaired (splice f 11 w) given r _ left _ o (outcome_found opens end longest (omega (arith, ap length is)) refl refl) in
          (x ∙ answer_is, y ∙ ap (splice given 0) is)

      -- with too little room it is refused, and for nothing else
      pub refused_short : {given : List ℕ} {r : Repaired} {left : List ℕ} → length given < length f → RepairOutcome (splice f 11 w) given r left → (r ≡ unrepaired 12) × (left ≡ given)
      refused_short {given} {r} {left} room o =
          let (longest, is) = any_field in
          only_repaired (splice f 11 w) given r _ left _ o (outcome_short opens end longest (omega (arith, ap length is)) refl refl)

  -- ---- what `write` answered and left: its bytes are bytes, as those of every output

  module _ (proper : yes g.metadata_given ≡ true → Metadata s.metadata) {out out' : List ℕ} {n : ℕ} (o : WriterOutcome g s out (Ok n) out') (bytes : Bytes (take n out'))
      (w : List ℕ) (four : length w ≡ 4) where
    abbrev saved : List ℕ
    saved = take n out'

    is : saved ≡ f
    is = written_file o

    own : Bytes f
    own = subst Bytes is bytes

    many : length saved ≡ n
    many = ap length is ∙ sym (none_applies o).1

    -- the two calls of it, with any four bytes for its length
    pub measured_written : {m : Repaired} → RepairMeasured (splice saved 11 w) m → m ≡ answer w
    measured_written {m} x = measured proper own w four (subst (λ (l : List ℕ). RepairMeasured (splice l 11 w) m) is x)

    pub repaired_written : {given : List ℕ} {r : Repaired} {left : List ℕ} → n ≤ length given → RepairOutcome (splice saved 11 w) given r left
        → (r ≡ answer w) × (left ≡ splice given 0 saved)
    repaired_written {given} {r} {left} room x =
        let (e, l) = repaired proper own w four (omega (arith, many, ap length is)) (subst (λ (l : List ℕ). RepairOutcome (splice l 11 w) given r left) is x) in
        (e, l ∙ ap (splice given 0) (sym is))

    pub short_written : {given : List ℕ} {r : Repaired} {left : List ℕ} → length given < n → RepairOutcome (splice saved 11 w) given r left → (r ≡ unrepaired 12) × (left ≡ given)
    short_written {given} {r} {left} room x = refused_short proper own w four (omega (arith, many, ap length is)) (subst (λ (l : List ℕ). RepairOutcome (splice l 11 w) given r left) is x)

-- The index of a cut: its rows are the beginning of the whole file's, as many as have their FrameStart before the cut.
-- Assumes nothing.
use Prim.Native.Nat.{ℕ, zero, suc, ◌+◌, ◌-◌, ◌*◌, ◌/◌, ◌%◌, ◌≤◌, ◌<◌, min}
use mathlib.Core.Path.{◌≡◌, refl, sym, ap, subst, ◌∙◌}
use mathlib.Core.Bool.{Bool, true, false, cond, ◌||◌}
use mathlib.Core.List.{List, [], ◌∷◌, ◌++◌, append_assoc}
use native.Mathlib.Nat.{sub-zero, zero-sub, add-zero}
use native.Mathlib.Decide.{dec_lt, ℕ_discrete}
use native.Mathlib.Omega.{arith}
use borrow.Author.Tests.{le-leb, lt-leb, eq-eqb, ne_eqb}
use lib.Dec.{eqb, leb}
use lib.ListN.{length, get_or, take, drop, length-take, length-append}
use lib.Seq.{take-nil, take-take, drop-drop, get_or-take, get_or-drop}
use Rattle.wire.specs.Wire.{number, part, keep}
use Rattle.format.specs.Refusal.{lowest}
use Rattle.head.specs.Table.{declared, stop_of, all_present, entries_in, table_of, first_place, span_of, table_missing, code_twice, unsigned, untabled, head_refusal}
use Rattle.head.specs.Step.{step_in, step_of}
use Rattle.head.specs.Numbers.{step_numbers}
use Rattle.head.specs.declared.Step.{Step}
use Rattle.head.specs.declared.Step.TheVariants.{Event, Ends, Cut, Refused}
use Rattle.head.proofs.Steps.{unlisted, fits, overruns, at_end, inside, event_ends}
use Rattle.head.proofs.Heads.{table_there, first_by_size}
use Rattle.head.proofs.Filled.{stop_within, zero_data, stop_filled}
use Rattle.de.specs.Walk.{Run, turn, run, run_of}
use Rattle.de.proofs.Runs.{run_stop}
use Rattle.index_form.specs.Form.{Row}
use Rattle.index_passes.specs.Rows.{index_row, index_rows, rows_in}
use Rattle.index_passes.proofs.Runs.{settled}
use Rattle.index_calls.specs.Index.{short_start}
use Rattle.index_calls.proofs.Laws.{short_off}
use Rattle.law_index.specs.Before.{next_of, ending_within, Begins}

-- ---- parts of a cut

drop_take : (m n : ℕ) (l : List ℕ) → drop m (take n l) ≡ take (n - m) (drop m l)
drop_take zero n l = rw sub-zero
drop_take (suc m) zero l = rw zero-sub
drop_take (suc m) (suc n) [] = sym (take-nil (suc n - suc m))
drop_take (suc m) (suc n) (x ∷ l) = let k : suc n - suc m ≡ n - m = omega arith in rw k (drop_take m n l)

module _ (f : List ℕ) (k : ℕ) where
  part_cut : (at n : ℕ) → at + n ≤ k → part (take k f) at n ≡ part f at n
  unfolding part
  part_cut at n h = rw (drop_take at k f) (take-take n (k - at) (drop at f) (omega arith))

  entries_cut : (n base : ℕ) → base + 3 * n ≤ k → entries_in n (drop base (take k f)) ≡ entries_in n (drop base f)
  unfolding entries_in part
  entries_cut zero base h = refl
  entries_cut (suc n) base h =
      let c : get_or (drop base (take k f)) 0 0 ≡ get_or (drop base f) 0 0 =
      get_or-drop base (take k f) 0 0 ∙ get_or-take k f (base + 0) 0 (omega arith) ∙ sym (get_or-drop base f 0 0) in
      let s : take 2 (drop 1 (drop base (take k f))) ≡ take 2 (drop 1 (drop base f)) =
      ap (take 2) (drop-drop 1 base (take k f) ∙ drop_take (base + 1) k f) ∙ take-take 2 (k - (base + 1)) (drop (base + 1) f) (omega arith) ∙ ap (take 2) (sym (drop-drop 1 base f)) in
      let r : entries_in n (drop 3 (drop base (take k f))) ≡ entries_in n (drop 3 (drop base f)) =
      ap (entries_in n) (drop-drop 3 base (take k f)) ∙ entries_cut n (base + 3) (omega arith) ∙ ap (entries_in n) (sym (drop-drop 3 base f)) in
      λ i. record { code = c i; size = number (s i) } ∷ r i

-- ---- what stands at a place of any file whose head is accepted

there_or : (b : Bool) (s t : Step) → ((step_numbers s).kind ≡ 0 → ⊥) → ((step_numbers t).kind ≡ 0 → ⊥) → (step_numbers (cond b s t)).kind ≡ 0 → ⊥
there_or true s t p q = p
there_or false s t p q = q

module _ (f : List ℕ) (accepted : head_refusal f ≡ 0) (p : ℕ) (starts : first_place (table_of f) ≤ p) where
  abbrev span : ℕ
  span = span_of (get_or f p 0) (table_of f)

  step_here : step_of f p ≡ step_in (first_place (table_of f)) (stop_of f) (all_present f) p (get_or f p 0) span
  unfolding step_of
  step_here = rw accepted

  event_there : (span ≡ 0 → ⊥) → p + span ≤ stop_of f → step_of f p ≡ Event (get_or f p 0) p (p + 1) (span - 1) (p + span)
  event_there z l =
      step_here ∙ inside (stop_of f) (all_present f) p (get_or f p 0) span (first_place (table_of f)) starts (omega arith) ∙ fits (stop_of f) (all_present f) p (get_or f p 0) span z l

  kind_is : (s : Step) → ((step_numbers s).kind ≡ 0 → ⊥) → step_of f p ≡ s → (step_numbers (step_of f p)).kind ≡ 0 → ⊥
  kind_is s n e z = n (sym (ap (λ (x : Step). (step_numbers x).kind) e) ∙ z)

  none_at_end : p ≡ stop_of f → (step_numbers (step_of f p)).kind ≡ 0 → ⊥
  none_at_end e =
      kind_is (cond (all_present f) Ends Cut) (there_or (all_present f) Ends Cut (λ z. omega arith) (λ z. omega arith))
      (step_here ∙ at_end (stop_of f) (all_present f) p (get_or f p 0) span (first_place (table_of f)) starts e)

  none_unlisted : p < stop_of f → span ≡ 0 → (step_numbers (step_of f p)).kind ≡ 0 → ⊥
  none_unlisted l z =
      kind_is (Refused 16 p) (λ e. omega arith)
      (step_here ∙ inside (stop_of f) (all_present f) p (get_or f p 0) span (first_place (table_of f)) starts l ∙ unlisted (stop_of f) (all_present f) p (get_or f p 0) span z)

  none_overrun : p < stop_of f → (span ≡ 0 → ⊥) → stop_of f < p + span → (step_numbers (step_of f p)).kind ≡ 0 → ⊥
  none_overrun l z o =
      kind_is (cond (all_present f) (Refused 17 p) Cut) (there_or (all_present f) (Refused 17 p) Cut (λ e. omega arith) (λ e. omega arith))
      (step_here ∙ inside (stop_of f) (all_present f) p (get_or f p 0) span (first_place (table_of f)) starts l ∙ overruns (stop_of f) (all_present f) p (get_or f p 0) span z o)

-- a run at what is no event finds nothing, and before any cut
none_seen : (n : ℕ) (f : List ℕ) (p : ℕ) → ((step_numbers (step_of f p)).kind ≡ 0 → ⊥) → (run n f p).seen ≡ []
none_seen n f p h = ap (λ (r : Run). r.seen) (run_stop n f p (step_of f p) h refl)

one_seen : (n : ℕ) (f : List ℕ) (p code at payload len next : ℕ) → step_of f p ≡ Event code at payload len next → (run (suc n) f p).seen ≡ Event code at payload len next ∷ (run n f next).seen
unfolding run
one_seen n f p code at payload len next e = rw e

-- where the run's first event would end past the cut, nothing stands before it
past_cut : (n : ℕ) (f : List ℕ) (p k : ℕ) → ((code at payload len next : ℕ) → step_of f p ≡ Event code at payload len next → k < next) → ending_within k (run n f p).seen ≡ []
unfolding run ending_within
past_cut zero f p k h = refl
past_cut (suc n) f p k h = go (step_of f p) refl
  where
    go : (s : Step) → step_of f p ≡ s → ending_within k (turn s (run n f) p).seen ≡ []
    go (Event code at payload len next) e = rw (lt-leb next k (h code at payload len next e))
    go Ends e = refl
    go Cut e = refl
    go (Refused number offset) e = refl

-- ---- beginnings

rows_append : (f : List ℕ) (xs ys : List Step) → index_rows f (xs ++ ys) ≡ index_rows f xs ++ index_rows f ys
unfolding index_rows
rows_append f [] ys = refl
rows_append f (s ∷ xs) ys = ap (λ (x : List Row). index_row f s ++ x) (rows_append f xs ys) ∙ sym (append_assoc (index_row f s) (index_rows f xs) (index_rows f ys))

before_begins : (k : ℕ) (ss : List Step) → Begins (ending_within k ss) ss
unfolding ending_within
before_begins k [] = record { rest = []; is = refl }
before_begins k (s ∷ ss) = go (leb (next_of s) k) (before_begins k ss)
  where
    go : (b : Bool) → Begins (ending_within k ss) ss → Begins (cond b (s ∷ ending_within k ss) []) (s ∷ ss)
    go true h = record { rest = h.rest; is = ap (λ (x : List Step). s ∷ x) h.is }
    go false h = record { rest = s ∷ ss; is = refl }

rows_begin : (f : List ℕ) (k : ℕ) (ss : List Step) → Begins (index_rows f (ending_within k ss)) (index_rows f ss)
rows_begin f k ss = let h = before_begins k ss in record { rest = index_rows f h.rest; is = ap (index_rows f) h.is ∙ rows_append f (ending_within k ss) h.rest }

-- ---- the rows of a cut

module _ (f : List ℕ) (k : ℕ) (accepted : head_refusal f ≡ 0) (cut-accepted : head_refusal (take k f) ≡ 0) where
  abbrev g : List ℕ
  g = take k f

  length_cut : length g ≡ min k (length f)
  length_cut = length-take k f

  table_in : table_missing g ≡ false
  unfolding head_refusal lowest untabled
  table_in = go (unsigned g) (table_missing g) (code_twice (table_of g)) cut-accepted
    where
      go : (a b c : Bool) → ◌≡◌ {A = ℕ} (cond a 14 (cond (b || c) 15 0)) 0 → b ≡ false
      go true b c e = absurd (omega arith)
      go false true c e = absurd (omega arith)
      go false false c e = refl

  head_under : (17 ≤ k) × (16 + get_or g 16 0 ≤ stop_of g) × (get_or g 16 0 % 3 ≡ 1) × (stop_of g ≤ length g)
  head_under = let (a, b, c) = table_there g table_in in let w = stop_within g in (omega (arith, length_cut), c, b, w)

  size_same : get_or g 16 0 ≡ get_or f 16 0
  size_same = let h = head_under.0 in get_or-take k f 16 0 (omega arith)

  table_same : table_of g ≡ table_of f
  unfolding table_of
  table_same =
      let (a, b, c, d) = head_under in
      entries_cut f k (get_or g 16 0 / 3) 17 (omega (arith, length_cut)) ∙ ap (λ (n : ℕ). entries_in (n / 3) (drop 17 f)) size_same

  first_under : first_place (table_of f) ≤ stop_of g
  first_under = let (a, b, c, d) = head_under in omega (arith, first_by_size g table_in, ap first_place table_same)

  declared_same : declared g ≡ declared f
  declared_same = let h = head_under.0 in ap number (part_cut f k 11 4 (omega arith))

  stop_cut : stop_of g ≡ min (stop_of f) k
  stop_cut = elim (ℕ_discrete (declared f) 0) [
    | yes e ↦ omega (arith, (zero_data g (declared_same ∙ e)).0, (zero_data f e).0, length_cut)
    | no n ↦ omega (arith, stop_filled g (λ e. n (sym declared_same ∙ e)), stop_filled f n, length_cut, declared_same)
  ]

  module _ (p : ℕ) (starts : first_place (table_of f) ≤ p) where
    starts_cut : first_place (table_of g) ≤ p
    starts_cut = omega (arith, starts, ap first_place table_same)

    module _ (under : p < stop_of g) where
      code_same : get_or g p 0 ≡ get_or f p 0
      code_same = get_or-take k f p 0 (omega (arith, under, stop_cut))

      span_same : span_of (get_or g p 0) (table_of g) ≡ span_of (get_or f p 0) (table_of f)
      span_same = rw (code_same, table_same)

    -- at the cut's end
    stop_here : p ≡ stop_of g → (n : ℕ) → ending_within k (run n f p).seen ≡ []
    stop_here e n = past_cut n f p k (λ code at payload len next h. elim (dec_lt k (stop_of f)) [
      | yes l ↦ (let m = event_ends f p code at payload len next h in omega (arith, m.0, e, stop_cut))
      | no l ↦ absurd (none_at_end f accepted p starts (omega (arith, e, stop_cut)) (ap (λ (x : Step). (step_numbers x).kind) h))
    ])

    -- at an event that ends past the cut
    over_here : p < stop_of g → (span_of (get_or f p 0) (table_of f) ≡ 0 → ⊥) → stop_of g < p + span_of (get_or f p 0) (table_of f) → (n : ℕ) → ending_within k (run n f p).seen ≡ []
    over_here under z o n = past_cut n f p k (λ code at payload len next h. elim (dec_lt (stop_of f) (p + span_of (get_or f p 0) (table_of f))) [
      | yes l ↦ absurd (none_overrun f accepted p starts (omega (arith, under, stop_cut)) z l (ap (λ (x : Step). (step_numbers x).kind) h))
      | no l ↦ (let e = ap next_of (sym (event_there f accepted p starts z (omega arith)) ∙ h) in omega (arith, e, o, stop_cut))
    ])

    row_same : (s : ℕ) → p + s ≤ k → (get_or f p 0 ≡ 0x3A → 5 ≤ s) → index_row g (Event (get_or f p 0) p (p + 1) (s - 1) (p + s)) ≡ index_row f (Event (get_or f p 0) p (p + 1) (s - 1) (p + s))
    unfolding keep
    row_same s l w = elim (ℕ_discrete (get_or f p 0) 0x3A) [
      | yes e ↦ (let five = w e in rw (eq-eqb (get_or f p 0) 0x3A e, part_cut f k (p + 1) 4 (omega arith)))
      | no n ↦ rw (ne_eqb (get_or f p 0) 0x3A n)
    ]

    event_cut : p < stop_of g → (span_of (get_or f p 0) (table_of f) ≡ 0 → ⊥) → p + span_of (get_or f p 0) (table_of f) ≤ stop_of g
        → step_of g p ≡ Event (get_or f p 0) p (p + 1) (span_of (get_or f p 0) (table_of f) - 1) (p + span_of (get_or f p 0) (table_of f))
    event_cut under z l =
        let s = span_same under in
        event_there g cut-accepted p starts_cut (λ e. z (sym s ∙ e)) (omega (arith, l, s))
        ∙ ap (λ (x : ℕ). Event (get_or g p 0) p (p + 1) (x - 1) (p + x)) s
        ∙ ap (λ (c : ℕ). Event c p (p + 1) (span_of (get_or f p 0) (table_of f) - 1) (p + span_of (get_or f p 0) (table_of f))) (code_same under)

  abbrev Wide : List Row → Type 0
  Wide rows = 0 < length rows → 5 ≤ span_of 0x3A (table_of f)

  none_both : (n p : ℕ) → (run n g p).seen ≡ [] → ending_within k (run n f p).seen ≡ [] → index_rows g (run n g p).seen ≡ index_rows f (ending_within k (run n f p).seen)
  unfolding index_rows
  none_both n p a b = rw (a, b)

  first_row_lem : (ss : List Step) (code at payload len next : ℕ) → code ≡ 0x3A → 0 < length (index_rows f (Event code at payload len next ∷ ss))
  unfolding index_rows keep
  first_row_lem ss code at payload len next e = rw (eq-eqb code 0x3A e) (omega arith)

  later_rows : (ss : List Step) (s : Step) → 0 < length (index_rows f ss) → 0 < length (index_rows f (s ∷ ss))
  unfolding index_rows
  later_rows ss s h = omega (arith, h, length-append (index_row f s) (index_rows f ss))

  before_one : (s : Step) (ss : List Step) → next_of s ≤ k → ending_within k (s ∷ ss) ≡ s ∷ ending_within k ss
  unfolding ending_within
  before_one s ss h = rw (le-leb (next_of s) k h)

  join : (s : Step) (xs ys : List Step) → index_row g s ≡ index_row f s → index_rows g xs ≡ index_rows f ys → index_rows g (s ∷ xs) ≡ index_rows f (s ∷ ys)
  unfolding index_rows
  join s xs ys a b = ap (λ (x : List Row). x ++ index_rows g xs) a ∙ ap (λ (x : List Row). index_row f s ++ x) b

  none_zero : (p : ℕ) → index_rows g (run zero g p).seen ≡ index_rows f (ending_within k (run zero f p).seen)
  unfolding run ending_within index_rows
  none_zero p = refl

  none_before : (n p : ℕ) → (run n f p).seen ≡ [] → ending_within k (run n f p).seen ≡ []
  unfolding ending_within
  none_before n p e = rw e

  rows_cut : (n p : ℕ) → first_place (table_of f) ≤ p → p ≤ stop_of g → Wide (index_rows f (run n f p).seen) → index_rows g (run n g p).seen ≡ index_rows f (ending_within k (run n f p).seen)
  rows_cut zero p a b w = none_zero p
  rows_cut (suc n) p a b w =
      let span = span_of (get_or f p 0) (table_of f) in
      elim (dec_lt p (stop_of g)) [
        | no q ↦
            let e : p ≡ stop_of g = omega arith in
            none_both (suc n) p (none_seen (suc n) g p (none_at_end g cut-accepted p (starts_cut p a) e)) (stop_here p a e (suc n))
        | yes under ↦
            let same = span_same p a under in
            let short : p < stop_of f = omega (arith, under, stop_cut) in
            elim (ℕ_discrete span 0) [
              | yes z ↦
                  none_both (suc n) p (none_seen (suc n) g p (none_unlisted g cut-accepted p (starts_cut p a) under (same ∙ z)))
                  (none_before (suc n) p (none_seen (suc n) f p (none_unlisted f accepted p a short z)))
              | no z ↦ elim (dec_lt (stop_of g) (p + span)) [
                | yes o ↦
                    none_both (suc n) p (none_seen (suc n) g p (none_overrun g cut-accepted p (starts_cut p a) under (λ e. z (sym same ∙ e)) (omega (arith, o, same))))
                    (over_here p a under z o (suc n))
                | no o ↦
                    let l : p + span ≤ stop_of g = omega arith in
                    let ev = Event (get_or f p 0) p (p + 1) (span - 1) (p + span) in
                    let x = one_seen n g p (get_or f p 0) p (p + 1) (span - 1) (p + span) (event_cut p a under z l) in
                    let y = one_seen n f p (get_or f p 0) p (p + 1) (span - 1) (p + span) (event_there f accepted p a z (omega (arith, l, stop_cut))) in
                    let within : p + span ≤ k = omega (arith, l, stop_cut) in
                    let wide : Wide (index_rows f (ev ∷ (run n f (p + span)).seen)) = subst (λ (ss : List Step). Wide (index_rows f ss)) y w in
                    ap (index_rows g) x
                    ∙ join ev (run n g (p + span)).seen (ending_within k (run n f (p + span)).seen)
                    (row_same p a span within (λ e. omega (arith, wide (first_row_lem (run n f (p + span)).seen (get_or f p 0) p (p + 1) (span - 1) (p + span) e), ap (λ (c : ℕ). span_of c (table_of f)) e)))
                    (rows_cut n (p + span) (omega arith) l (λ h. wide (later_rows (run n f (p + span)).seen ev h)))
                    ∙ sym (ap (λ (ss : List Step). index_rows f (ending_within k ss)) y ∙ ap (index_rows f) (before_one ev (run n f (p + span)).seen within))
              ]
            ]
      ]

  -- turns enough for the whole file change nothing of the cut's run
  more_turns : (m p : ℕ) → run (length g) g p ≡ run (length g + m) g p
  more_turns zero p = rw add-zero
  more_turns (suc m) p =
      let e : length g + suc m ≡ suc (length g + m) = omega arith in
      more_turns m p ∙ settled g (length g + m) p (omega arith) ∙ ap (λ (n : ℕ). run n g p) (sym e)

  pub rows_of_cut : short_start f ≡ false → rows_in g ≡ index_rows f (ending_within k (run_of f).seen)
  rows_of_cut short =
      let first = first_place (table_of f) in
      let e : length g + (length f - length g) ≡ length f = omega (arith, length_cut) in
      ap (λ (n : ℕ). index_rows g (run (length g) g n).seen) (ap first_place table_same)
      ∙ ap (λ (r : Run). index_rows g r.seen) (more_turns (length f - length g) first ∙ ap (λ (n : ℕ). run n g first) e)
      ∙ rows_cut (length f) first (omega arith) first_under (short_off f short)

  pub cut_begins : short_start f ≡ false → Begins (rows_in g) (rows_in f)
  cut_begins short = subst (λ (x : List Row). Begins x (rows_in f)) (sym (rows_of_cut short)) (rows_begin f k (run_of f).seen)

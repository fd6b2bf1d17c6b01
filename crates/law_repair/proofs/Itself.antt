-- A file that `read` accepts, behind whose events no event and a proper tail stand, is repaired to itself, whatever its length field says.
-- Assumes nothing.
use Prim.Native.Nat.{ℕ, zero, suc, ◌+◌, ◌-◌, ◌^◌, ◌≤◌, ◌<◌}
use mathlib.Core.Path.{◌≡◌, refl, sym, ap, subst, ◌∙◌}
use mathlib.Core.Bool.{true, false, cond, not, ◌&&◌}
use mathlib.Core.List.{List, [], ◌∷◌, ◌++◌, map}
use native.Mathlib.Decide.{dec_lt}
use native.Mathlib.Omega.{arith}
use lib.Dec.{eqb}
use lib.ListN.{length, get_or, take, drop, take-append-drop}
use lib.Seq.{drop-drop}
use Rattle.wire.specs.Wire.{be, part, splice, tabulate}
use Rattle.wire.proofs.Laws.{tabulate_at, splice_is}
use Rattle.format.specs.File.{Ev}
use Rattle.format.specs.Refusal.{refuse, lowest}
use Rattle.format.specs.Version.{accepted_of}
use Rattle.format.proofs.Refusals.{passed}
use Rattle.head.specs.Table.{declared, stop_of, all_present, table_of, first_place, span_of, head_refusal}
use Rattle.head.specs.Step.{step_of}
use Rattle.head.specs.Numbers.{step_numbers}
use Rattle.head.specs.declared.Step.{Step}
use Rattle.head.specs.declared.Step.TheVariants.{Event, Ends, Cut, Refused}
use Rattle.head.proofs.Filled.{stop_within}
use Rattle.de.specs.Walk.{turn, run, run_of}
use Rattle.de.specs.Cut.{event_at, events_read, zeroed}
use Rattle.read_judge.specs.Inner.{Bytes}
use Rattle.read_judge.proofs.Walked.{stands, event_stands, comes_to_end, event_here, span_here}
use Rattle.record.proofs.Numbers.{be_number, number_small}
use Rattle.map_reader.proofs.Places.{part_bytes}
use Rattle.read_outline.proofs.Laws.{length_part}
use Rattle.read_judge.specs.Found.{opens_wrong, version_said, early_refusal}
use Rattle.repair_kept.specs.Kept.{ending_at, Accepted, ReplayUpTo, Longest}
use Rattle.repair_kept.proofs.Same.{no_way, byte_same, part_same}
use Rattle.repair_kept.proofs.Field.{long_enough, zeroed_accepted, zero_table, zero_tail, zero_length, zero_stop, ending_table, ending_tail, ending_bytes, ending_stop, ending_starts}
use Rattle.repair_kept.proofs.Accepts.{early_head}
use Rattle.repair_judge.specs.Open.{open_refusal}
use Rattle.repair_call.specs.Outcome.{dropped, keeps_tail, tail_for, repaired_to}
use Rattle.check_file.specs.Inner.{is_tail}
use Rattle.law_repair.proofs.Accepted.{whole_is, early_done, early_by, not_refused}
use Rattle.law_repair.proofs.Calls.{longest_same, repaired_same}

no_end : {A : Type 0} (s : Step) → ((step_numbers s).kind ≡ 1 → ⊥) → s ≡ Ends → A
no_end s k e = absurd (k (ap (λ (x : Step). (step_numbers x).kind) e))

-- two files that are the same from their tables on, with the same table; the events of one end before those of the other
module _ (f g spans : List ℕ) (same : drop 15 f ≡ drop 15 g) (tables : table_of g ≡ table_of f) (af : head_refusal f ≡ 0) (ag : head_refusal g ≡ 0) (bf : Bytes f) (bg : Bytes g)
    (xf : (c : ℕ) → c < 256 → get_or spans c 0 ≡ span_of c (table_of f)) (xg : (c : ℕ) → c < 256 → get_or spans c 0 ≡ span_of c (table_of g)) (less : stop_of f ≤ stop_of g) where
  abbrev span_f : ℕ → ℕ
  span_f q = span_here f spans af bf xf q

  span_same : (q : ℕ) → 15 ≤ q → span_here g spans ag bg xg q ≡ span_f q
  span_same q h = (λ i. span_of (sym (byte_same f g same q h) i) (tables i))

  record Reaches : Type 0 where
    turns : ℕ
    ends : (run turns g (stop_of f)).last ≡ Ends

  goes : (n q : ℕ) → first_place (table_of f) ≤ q → (span_f q ≡ 0 → ⊥) → q + span_f q ≤ stop_of f → (run (suc n) g q).last ≡ Ends → (run n g (q + span_f q)).last ≡ Ends
  unfolding run
  goes n q a z l e =
      let h : 15 ≤ q = omega arith in
      let s = span_same q h in
      let step = event_stands g spans ag bg xg q (omega (arith, ap first_place tables)) (λ k. z (sym s ∙ k)) (omega (arith, s, less)) in
      ap (λ (k : ℕ). (run n g (q + k)).last) (sym s) ∙ sym (ap (λ (x : Step). (turn x (run n g) q).last) step) ∙ e

  stuck : (q : ℕ) → first_place (table_of f) ≤ q → (span_f q ≡ 0 → ⊥) → q + span_f q ≤ stop_of f → (run zero g q).last ≡ Ends → ⊥
  unfolding run
  stuck q a z l e =
      let s = span_same q (omega arith) in
      let step = event_stands g spans ag bg xg q (omega (arith, ap first_place tables)) (λ k. z (sym s ∙ k)) (omega (arith, s, less)) in
      no_end (event_here g spans ag bg xg q) (λ x. omega arith) (sym step ∙ e)

  reaches : (m n q : ℕ) → first_place (table_of f) ≤ q → q ≤ stop_of f → (run m f q).last ≡ Ends → (run n g q).last ≡ Ends → Reaches
  unfolding run
  reaches zero n q a b =
      stands f spans af bf xf (λ s. s ≡ Ends → (run n g q).last ≡ Ends → Reaches) q a b (λ e k r. record { turns = n; ends = ap (λ (p : ℕ). (run n g p).last) (sym e) ∙ r })
      (λ z l k r. no_end (event_here f spans af bf xf q) (λ x. omega arith) k) (λ k o e r. no_end (Refused k o) (λ x. omega arith) e) (λ t e r. no_end Cut (λ x. omega arith) e)
  reaches (suc m) zero q a b =
      stands f spans af bf xf (λ s. (turn s (run m f) q).last ≡ Ends → (run zero g q).last ≡ Ends → Reaches) q a b (λ e k r. record { turns = zero; ends = ap (λ (p : ℕ). (run zero g p).last) (sym e) ∙ r })
      (λ z l k r. absurd (stuck q a z l r)) (λ k o e r. no_end (Refused k o) (λ x. omega arith) e) (λ t e r. no_end Cut (λ x. omega arith) e)
  reaches (suc m) (suc n) q a b =
      stands f spans af bf xf (λ s. (turn s (run m f) q).last ≡ Ends → (run (suc n) g q).last ≡ Ends → Reaches) q a b (λ e k r. record { turns = suc n; ends = ap (λ (p : ℕ). (run (suc n) g p).last) (sym e) ∙ r })
      (λ z l k r. reaches m n (q + span_f q) (omega arith) l k (goes n q a z l r)) (λ k o e r. no_end (Refused k o) (λ x. omega arith) e) (λ t e r. no_end Cut (λ x. omega arith) e)

  -- and there stands an event, where the other's do not end
  past_end : first_place (table_of f) ≤ stop_of f → stop_of f < stop_of g → ((span_f (stop_of f) ≡ 0 → ⊥) → stop_of f + span_f (stop_of f) ≤ stop_of g → ⊥) → (n : ℕ) → (run n g (stop_of f)).last ≡ Ends → ⊥
  unfolding run
  past_end a l never n =
      go n
    where
      event : first_place (table_of f) ≤ stop_of f → (span_here g spans ag bg xg (stop_of f) ≡ 0 → ⊥) → stop_of f + span_here g spans ag bg xg (stop_of f) ≤ stop_of g → ⊥
      event a z k = let s = span_same (stop_of f) (omega arith) in never (λ e. z (s ∙ e)) (omega (arith, s))

      go : (n : ℕ) → (run n g (stop_of f)).last ≡ Ends → ⊥
      go zero =
          stands g spans ag bg xg (λ s. s ≡ Ends → ⊥) (stop_of f) (omega (arith, ap first_place tables, a)) less (λ e k. omega arith) (λ z k e. event a z k) (λ k o e. no_end (Refused k o) (λ x. omega arith) e)
          (λ t e. no_end Cut (λ x. omega arith) e)
      go (suc n) =
          stands g spans ag bg xg (λ s. (turn s (run n g) (stop_of f)).last ≡ Ends → ⊥) (stop_of f) (omega (arith, ap first_place tables, a)) less (λ e k. omega arith) (λ z k e. event a z k)
          (λ k o e. no_end (Refused k o) (λ x. omega arith) e) (λ t e. no_end Cut (λ x. omega arith) e)

-- ---- a file that is accepted

one_more : (n : ℕ) (f : List ℕ) (p code at payload len next : ℕ) → step_of f p ≡ Event code at payload len next → length (run (suc n) f p).seen ≡ 0 → ⊥
unfolding run
one_more n f p code at payload len next e q = omega (arith, ap (λ (s : Step). length (turn s (run n f) p).seen) e)

-- an event that stands at a place is the first of those from there
one_first : (f : List ℕ) (n p : ℕ) → length f ≡ suc n → (code at payload len next : ℕ) → step_of f p ≡ Event code at payload len next
    → map (event_at f) (run (length f) f p).seen ≡ record { code = code; payload = part f payload len } ∷ map (event_at f) (run n f next).seen
unfolding run
one_first f n p many code at payload len next e =
    ap (λ (k : ℕ). map (event_at f) (run k f p).seen) many ∙ ap (λ (s : Step). map (event_at f) (turn s (run n f) p).seen) e

zero_bytes' : (f : List ℕ) → 15 ≤ length f → Bytes f → Bytes (zeroed f)
unfolding zeroed ending_at be
zero_bytes' f l b = ending_bytes f l 15 b

module _ (f : List ℕ) (bytes : Bytes f) (x : Accepted f) where
  abbrev p : ℕ
  p = stop_of f

  head : head_refusal f ≡ 0
  head = early_head f x.early

  zero_head : head_refusal (zeroed f) ≡ 0
  zero_head = zeroed_accepted f head

  long : 15 ≤ length f
  long = long_enough f zero_head

  pub filled : (declared f ≡ 0 → ⊥) × (p ≡ 15 + declared f)
  filled = whole_is f x.found.whole

  within : p ≤ length f
  within = stop_within f

  four : length (part f 11 4) ≡ 4
  four = length_part f 11 4 (omega (arith, long))

  four_bytes : Bytes (part f 11 4)
  four_bytes = part_bytes f 11 4 bytes

  low : p < 4294967311
  low = let e : 256 ^ 4 ≡ 4294967296 = refl in omega (arith, number_small 4 (part f 11 4) (omega (arith, four)) four_bytes, filled.1)

  -- its length field says where its events end
  pub ending_itself : ending_at f p ≡ f
  unfolding ending_at part
  ending_itself =
      let n : p - 15 ≡ declared f = omega (arith, filled.1) in
      let w : be 4 (p - 15) ≡ part f 11 4 = ap (be 4) n ∙ be_number 4 (part f 11 4) four four_bytes in
      let e : 11 + length (part f 11 4) ≡ 15 = omega (arith, four) in
      let back : take 4 (drop 11 f) ++ drop 15 f ≡ drop 11 f = ap (λ (k : List ℕ). take 4 (drop 11 f) ++ k) (sym (drop-drop 4 11 f)) ∙ take-append-drop 4 (drop 11 f) in
      ap (splice f 11) w ∙ splice_is f 11 (part f 11 4) (omega (arith, four, long)) ∙ ap (λ (k : ℕ). take 11 f ++ (part f 11 4 ++ drop k f)) e ∙ ap (λ (k : List ℕ). take 11 f ++ k) back ∙ take-append-drop 11 f

  pub begins_itself : ReplayUpTo f p
  begins_itself = record { within = within; short = low; accepted = subst Accepted (sym ending_itself) x }

  abbrev spans : List ℕ
  spans = tabulate 256 (λ c. span_of c (table_of f))

  index : (g : List ℕ) → table_of g ≡ table_of f → (c : ℕ) → c < 256 → get_or spans c 0 ≡ span_of c (table_of g)
  index g e c l = tabulate_at 0 256 (λ c. span_of c (table_of f)) c l ∙ ap (span_of c) (sym e)

  comes : (g : List ℕ) (h : head_refusal g ≡ 0) (b : Bytes g) (e : table_of g ≡ table_of f) → first_place (table_of g) ≤ stop_of g → all_present g ≡ true → early_refusal g ≡ 0 → (run_of g).last ≡ Ends
  comes g h b e l w z = comes_to_end g spans h b (index g e) l w (not_refused g (early_done g z))

  pub starts : first_place (table_of f) ≤ p
  starts =
      let z = ending_starts f zero_head p low within (ap head_refusal ending_itself ∙ head) (ap all_present ending_itself ∙ x.found.whole) in
      omega (arith, ap first_place (zero_table f long))

  -- its first event stands there too where the length is not looked at
  abbrev z : List ℕ
  z = zeroed f

  abbrev first : ℕ
  first = first_place (table_of f)

  abbrev span : ℕ
  span = span_of (get_or f first 0) (table_of f)

  zero_table_is : table_of z ≡ table_of f
  zero_table_is = zero_table f long

  zero_bytes : Bytes z
  zero_bytes = zero_bytes' f long bytes

  judged : lowest (refuse 19 (opens_wrong (events_read f)) ∷ refuse 1 (not (accepted_of (version_said (events_read f)))) ∷ []) ≡ 0
  judged = sym (early_by f (early_done f x.early)) ∙ x.early

  whole_first : (span ≡ 0 → ⊥) × (first + span ≤ p)
  unfolding events_read opens_wrong run
  whole_first =
      go (length f) refl (passed 18 _ _ judged).0
    where
      unread : {A : Type 0} → opens_wrong [] ≡ false → A
      unread e = no_way (sym e)

      go : (n : ℕ) → length f ≡ n → opens_wrong (map (event_at f) (run n f first).seen) ≡ false → (span ≡ 0 → ⊥) × (first + span ≤ p)
      go zero e = λ q. absurd (omega (arith, long))
      go (suc n) e =
          stands f spans head bytes (index f refl) (λ s. opens_wrong (map (event_at f) (turn s (run n f) first).seen) ≡ false → (span ≡ 0 → ⊥) × (first + span ≤ p)) first (omega arith) starts (λ k. unread) (λ a b q. (a, b)) (λ k o. unread) (λ k. unread)

  same_first : (P : List Ev → Type 0) → ((e : Ev) (es fs : List Ev) → P (e ∷ es) → P (e ∷ fs)) → P (events_read f) → P (events_read z)
  unfolding events_read
  same_first P same q =
      let n = length f - 1 in
      let some : length f ≡ suc n = omega (arith, long) in
      let many : length z ≡ suc n = zero_length f long ∙ some in
      let (a, b) = whole_first in
      let low : 15 ≤ first = omega arith in
      let byte = byte_same f z (zero_tail f long) first low in
      let place : first_place (table_of z) ≡ first = ap first_place zero_table_is in
      let span_is : span_of (get_or z first 0) (table_of z) ≡ span = (λ i. span_of (sym byte i) (zero_table_is i)) in
      let at_f = event_stands f spans head bytes (index f refl) first (omega arith) a b in
      let at-z = event_stands z spans zero_head zero_bytes (index z zero_table_is) first (omega (arith, place)) (λ k. a (sym span_is ∙ k)) (omega (arith, span_is, zero_stop f long, within)) in
      let event : ◌≡◌ {A = Ev} (record { code = get_or f first 0; payload = part f (first + 1) (span - 1) }) (record { code = get_or z first 0; payload = part z (first + 1) (span_of (get_or z first 0) (table_of z) - 1) }) =
      λ i. record { code = byte i; payload = (part_same f z (zero_tail f long) (first + 1) (span - 1) (omega arith) ∙ ap (λ (k : ℕ). part z (first + 1) (k - 1)) (sym span_is)) i } in
      subst P (sym (ap (λ (k : ℕ). map (event_at z) (run (length z) z k).seen) place ∙ one_first z n first many _ _ _ _ _ at-z))
      (same _ _ _ (subst (λ (e : Ev). P (e ∷ map (event_at f) (run n f (first + span)).seen)) event (subst P (one_first f n first some _ _ _ _ _ at_f) q)))

  pub open_itself : open_refusal f ≡ 0
  unfolding open_refusal lowest opens_wrong version_said
  open_itself =
      rw zero_head
      (same_first (λ es. lowest (refuse 19 (opens_wrong es) ∷ refuse 1 (not (accepted_of (version_said es))) ∷ []) ≡ 0) alike judged)
    where
      alike : (e : Ev) (es fs : List Ev) → lowest (refuse 19 (opens_wrong (e ∷ es)) ∷ refuse 1 (not (accepted_of (version_said (e ∷ es)))) ∷ []) ≡ 0 → lowest (refuse 19 (opens_wrong (e ∷ fs)) ∷ refuse 1 (not (accepted_of (version_said (e ∷ fs)))) ∷ []) ≡ 0
      alike e es fs q = q

  module _ (nothing : dropped f p ≡ 0) where
    -- an event behind its own would be dropped
    no_event : (span : ℕ) → span ≡ span_of (get_or f p 0) (table_of f) → (span ≡ 0 → ⊥) → p + span ≤ length f → ⊥
    unfolding dropped
    no_event span s z l = go (length f) refl nothing
      where
        same_span : span_here (zeroed f) spans zero_head (zero_bytes' f long bytes) (index (zeroed f) (zero_table f long)) p ≡ span
        same_span = (λ i. span_of (sym (byte_same f (zeroed f) (zero_tail f long) p (omega (arith, filled.1))) i) (zero_table f long i)) ∙ sym s

        step : step_of (zeroed f) p ≡ event_here (zeroed f) spans zero_head (zero_bytes' f long bytes) (index (zeroed f) (zero_table f long)) p
        step =
            event_stands (zeroed f) spans zero_head (zero_bytes' f long bytes) (index (zeroed f) (zero_table f long)) p (omega (arith, starts, ap first_place (zero_table f long))) (λ k. z (sym same_span ∙ k))
            (omega (arith, same_span, zero_stop f long))

        go : (n : ℕ) → length f ≡ n → length (run n (zeroed f) p).seen ≡ 0 → ⊥
        go zero e q = omega (arith, long)
        go (suc n) e q = one_more n (zeroed f) p _ _ _ _ _ step q

    pub longest_itself : Longest f p
    longest_itself = record { begins = begins_itself; most = λ q b. no_later q b }
      where
        later : (q : ℕ) → ReplayUpTo f q → p < q → ⊥
        later q b l =
            let g = ending_at f q in
            let ag = early_head g b.accepted.early in
            let bg = ending_bytes f long q bytes in
            let table = ending_table f long q in
            let stop : stop_of g ≡ q = ending_stop f long q b.short (omega (arith, filled.1)) b.within in
            let in_g : first_place (table_of g) ≤ stop_of g = omega (arith, ap first_place table, starts) in
            let ends_g = ap (λ (k : ℕ). (run (length g) g k).last) (sym (ap first_place table)) ∙ comes g ag bg table in_g b.accepted.found.whole b.accepted.early in
            let r = reaches f g spans (ending_tail f long q) table head ag bytes bg (index f refl) (index g table) (omega arith) (length f) (length g) (first_place (table_of f)) (omega arith) starts
            (comes f head bytes refl starts x.found.whole x.early) ends_g in
            past_end f g spans (ending_tail f long q) table head ag bytes bg (index f refl) (index g table) (omega arith) starts (omega arith)
            (λ z k. no_event (span_here f spans head bytes (index f refl) p) refl z (omega (arith, b.within))) r.turns r.ends

        no_later : (q : ℕ) → ReplayUpTo f q → q ≤ p
        no_later q b = elim (dec_lt p q) [
          | yes l ↦ absurd (later q b l)
          | no n ↦ omega arith
        ]

    pub keeps_own : is_tail (drop p f) ≡ true → keeps_tail f p ≡ true
    unfolding keeps_tail
    keeps_own t = λ i. eqb (nothing i) 0 && t i

    -- with a proper tail it is given as it is, whatever four bytes stand in its length field
    pub repaired_itself : is_tail (drop p f) ≡ true → repaired_to f p ≡ f
    unfolding repaired_to tail_for
    repaired_itself t =
        (λ i. take p (ending_itself i) ++ cond (keeps_own t i) (drop p f) (0x7d ∷ [])) ∙ take-append-drop p f

    pub any_length : is_tail (drop p f) ≡ true → (w : List ℕ) → length w ≡ 4 → Longest (splice f 11 w) p × (repaired_to (splice f 11 w) p ≡ f)
    any_length t w n = (longest_same f w long n p longest_itself, repaired_same f w long n p (omega (arith, filled.1)) ∙ repaired_itself t)

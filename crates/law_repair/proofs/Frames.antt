-- The file of an admitted game from 3.0, cut anywhere behind its code blocks, with any four bytes for its length: it is repaired to the events of the frames that are wholly before the cut,
-- and of the ends that are.
-- Assumes nothing.
use Prim.Native.Nat.{ℕ, suc, ◌+◌, ◌≤◌, ◌<◌}
use mathlib.Core.Path.{◌≡◌, refl, sym, ap, subst, ◌∙◌}
use mathlib.Core.Bool.{true}
use mathlib.Core.List.{List, ◌++◌}
use native.Mathlib.Omega.{arith}
use lib.ListN.{length, get_or, take, drop, length-append}
use Rattle.wire.specs.Wire.{splice, tabulate}
use Rattle.wire.proofs.Laws.{tabulate_at}
use Rattle.format.specs.File.{Entry, Ev, events_bytes}
use Rattle.format.specs.declared.version.Version.{Version}
use Rattle.format.proofs.Files.{events_append}
use Rattle.layout.specs.Columns.{has_family}
use Rattle.layout.specs.declared.columns.Family.TheVariants.{FrameEnd}
use Rattle.game.specs.Stores.{Stores}
use Rattle.game.specs.declared.Game.{Game}
use Rattle.head.specs.Table.{stop_of, table_of, first_place, span_of}
use Rattle.de.specs.Cut.{events_read}
use Rattle.std.specs.Prelude.{Ok}
use Rattle.ser.specs.Write.{entries, file, WriterOutcome}
use Rattle.ser.proofs.Answered.{written_file}
use Rattle.grammar.specs.Productions.{Replay, events_of}
use Rattle.grammar.specs.WellFormed.{Each}
use Rattle.law_tree.proofs.Same.{same}
use Rattle.law_saved.specs.Admitted.{Admitted}
use Rattle.law_saved.proofs.Found as in_file
use Rattle.read_judge.specs.Found.{version_said, version_of}
use Rattle.read_judge.proofs.Accepted.{found_events}
use Rattle.read_judge.specs.Inner.{Bytes, Covers}
use Rattle.read_judge.proofs.Walked.{all_read, comes_to_end}
use Rattle.repair_kept.specs.Kept.{ending_at, Accepted, ReplayUpTo, Longest}
use Rattle.repair_kept.proofs.Field.{ending_table, ending_tail, ending_bytes, ending_stop}
use Rattle.repair_kept.proofs.Same.{drop_same}
use Rattle.repair_kept.proofs.Accepts.{early_head}
use Rattle.repair_call.specs.Outcome.{repaired_to, tail_for, unrepaired, repair_of, RepairOutcome}
use Rattle.repair_call.specs.Outcome.RepairOutcome.{early as outcome-early, none as outcome-none, short as outcome_short, found as outcome_found}
use Rattle.repair_call.specs.declared.Repaired.{Repaired}
use Rattle.law_repair.specs.Front.{up_to}
use Rattle.law_repair.proofs.Accepted.{early_done, not_refused}
use Rattle.law_repair.proofs.Calls.{beginning_any, open_same, begins_same, begins_too, repaired_same}
use Rattle.law_repair.proofs.Itself.{starts, longest_itself}
use Rattle.law_repair.proofs.Only.{only_repaired}
use Rattle.law_repair.proofs.Cuts.{begins_long, begins_head, begins_low, begins_open, cut_bytes, cut_begins, begins_uncut, cut_events, cut_longest, many}
use Rattle.law_repair.proofs.Fronts.{Fronts, no_ends, place, front_begins, ending_is, read}
use Rattle.law_repair.proofs.Closed.{Prefix, prefix, Where, before, front, where_ends}
use Rattle.law_repair.proofs.Games.{accepted, none_dropped}

-- ---- the bytes of an accepted file's events

abbrev spans_by : List Entry → List ℕ
spans_by t = tabulate 256 (λ c. span_of c t)

covered : (h : List ℕ) → Bytes h → Accepted h → Covers h (spans_by (table_of h)) (first_place (table_of h)) (stop_of h) (events_read h)
covered h bytes x =
    let head = early_head h x.early in
    let index : (c : ℕ) → c < 256 → get_or (spans_by (table_of h)) c 0 ≡ span_of c (table_of h) = λ c l. tabulate_at 0 256 (λ c. span_of c (table_of h)) c l in
    let s = starts h bytes x in
    all_read h (spans_by (table_of h)) head bytes index s (comes_to_end h (spans_by (table_of h)) head bytes index s x.found.whole (not_refused h (early_done h x.early)))

-- the first event says the version
same_version : (w : Version) (r : Replay) (xs rest : List Ev) → xs ≡ events_of w r → version_said (xs ++ rest) ≡ version_said xs
unfolding events_of version_said
same_version w r xs rest e = ap (λ (l : List Ev). version_said (l ++ rest)) e ∙ sym (ap version_said e)

module _ {g : Game} {s : Stores} (a : Admitted g s) (ended : has_family g.frames.version FrameEnd ≡ true) (bytes : Bytes (file g s)) where
  abbrev v : Version
  v = g.frames.version

  abbrev f : List ℕ
  f = file g s

  abbrev r : Replay
  r = in_file.r a

  -- ---- where a beginning of its file can end

  pub data EndsAt (q : ℕ) : Type 0 where
    early : q ≤ place a 0 0 → EndsAt q
    behind : (i j : ℕ) → Fronts r.frames i j → q ≡ place a i j → EndsAt q

  module _ (q : ℕ) (b : ReplayUpTo f q) where
    abbrev h : List ℕ
    h = ending_at f q

    long : 15 ≤ length f
    long = begins_long f q b

    pub table : table_of h ≡ table_of f
    table = ending_table f long q

    first : first_place (table_of h) ≡ first_place (table_of f)
    first = ap first_place table

    whole : Covers f (spans_by (table_of f)) (first_place (table_of f)) (stop_of f) (events_read f)
    whole = covered f bytes (accepted a)

    part : Covers h (spans_by (table_of h)) (first_place (table_of h)) (stop_of h) (events_read h)
    part = covered h (ending_bytes f long q bytes) b.accepted

    stop : stop_of h ≡ q
    stop = ending_stop f long q b.short (omega (arith, begins_low f q b)) b.within

    begun : Prefix (events_read h) (events_read f)
    begun =
        let bytes_are =
        sym part.bytes_are ∙ ap (λ (k : ℕ). drop k h) first ∙ sym (drop_same f h (ending_tail f long q) (first_place (table_of f)) (omega arith)) ∙ whole.bytes_are in
        let spanned = subst (λ (t : List Entry). Each (λ e. get_or (spans_by t) e.code 0 ≡ suc (length e.payload)) (events_read h)) table part.spanned in
        let most = (longest_itself f bytes (accepted a) (none_dropped a)).most q b in
        prefix (spans_by (table_of f)) (events_read h) (events_read f) _ _ bytes_are spanned whole.spanned (omega (arith, part.long, whole.long, first, stop, most))

    abbrev x : Replay
    x = b.accepted.found.replay

    all_are : events_read h ≡ events_of (version_of h) x
    all_are = found_events h b.accepted.early b.accepted.found

    pub version_is : version_of h ≡ v
    version_is = sym (same_version (version_of h) x (events_read h) begun.rest all_are) ∙ ap version_said (sym begun.is) ∙ in_file.version_is a

    events_x : events_read h ≡ events_of v x
    events_x = all_are ∙ ap (λ (w : Version). events_of w x) version_is

    pub at_place : q ≡ first_place (entries g s) + length (events_bytes (events_of v x))
    at_place = omega (arith, part.long, stop, first, ap first_place (in_file.table_is_lem a), ap (λ (l : List Ev). length (events_bytes l)) events_x)

    pub stands_in_lem : Where v r (events_of v x)
    stands_in_lem = where_ends v ended r x begun.rest (sym ((in_file.walked a).2 ∙ same g s) ∙ begun.is ∙ ap (λ (l : List Ev). l ++ begun.rest) events_x)

    ends : EndsAt q
    ends = go stands_in_lem
      where
        go : Where v r (events_of v x) → EndsAt q
        go (before p) =
            early (omega (arith, at_place, ap (λ (l : List Ev). length (events_bytes l)) p.is, ap length (events_append (events_of v x) p.rest), length-append (events_bytes (events_of v x)) (events_bytes p.rest)))
        go (front i j c e) = behind i j c (at_place ∙ ap (λ (l : List Ev). first_place (entries g s) + length (events_bytes l)) e)

  -- ---- a cut behind its code blocks; the first i frames and the first j ends are those that are wholly before it

  module _ (k : ℕ) (some : k ≤ length f) (after : place a 0 0 ≤ k) (i j : ℕ) (c : Fronts r.frames i j) (here : place a i j ≤ k)
      (last : (m n : ℕ) → Fronts r.frames m n → place a m n ≤ k → place a m n ≤ place a i j) (w : List ℕ) (four : length w ≡ 4) where
    abbrev p : ℕ
    p = place a i j

    abbrev cut : List ℕ
    cut = take k f

    begins : ReplayUpTo f p
    begins = front_begins a i j c

    pub cut_keeps : Longest (splice cut 11 w) p
    cut_keeps = cut_longest f bytes k some p begins here (λ q b l. go q l (ends q b)) w four
      where
        go : (q : ℕ) → q ≤ k → EndsAt q → q ≤ p
        go q l (early e) = omega (arith, last 0 0 (no_ends refl) after)
        go q l (behind m n d e) = omega (arith, last m n d (omega arith))

    cut_long : 15 ≤ length cut
    cut_long = omega (arith, many f bytes k some, begins_low f p begins)

    begins_cut : ReplayUpTo cut p
    begins_cut = cut_begins f bytes k some p begins here

    -- the events of the file that is given
    pub cut_read : events_read (repaired_to (splice cut 11 w) p) ≡ events_of v (up_to r i j)
    unfolding repaired_to
    cut_read =
        ap events_read (repaired_same cut w cut_long four p (omega (arith, begins_low f p begins)))
        ∙ (beginning_any cut (cut_bytes f bytes k) (begins_head cut p begins_cut) p begins_cut (tail_for cut p)).1
        ∙ cut_events f bytes k some p begins here
        ∙ ap events_read (ending_is a i j c)
        ∙ read a i j c

    -- the call gives it where there is room
    pub cut_repaired : {given : List ℕ} {answer : Repaired} {left : List ℕ} → length (repaired_to (splice cut 11 w) p) ≤ length given → RepairOutcome (splice cut 11 w) given answer left
        → (answer ≡ repair_of (splice cut 11 w) p) × (left ≡ splice given 0 (repaired_to (splice cut 11 w) p))
    cut_repaired {given} {answer} {left} room o =
        let opens = open_same cut w cut_long four ∙ begins_open cut p begins_cut (cut_bytes f bytes k) in
        only_repaired (splice cut 11 w) given answer _ left _ o (outcome_found opens p cut_keeps room refl refl)

  -- ---- and so there always are such frames and ends: what the call gives of a cut

  module _ (k : ℕ) (some : k ≤ length f) (after : place a 0 0 ≤ k) (w : List ℕ) (four : length w ≡ 4) where
    abbrev damaged : List ℕ
    damaged = splice (take k f) 11 w

    -- all that are wholly before the cut, and no others
    pub record Before (p : ℕ) : Type 0 where
      pub frames : ℕ
      pub ends : ℕ
      pub front : Fronts r.frames frames ends
      pub place_is : p ≡ place a frames ends
      pub here : p ≤ k
      pub last : (m n : ℕ) → Fronts r.frames m n → place a m n ≤ k → place a m n ≤ p
      pub events_are : events_read (repaired_to damaged p) ≡ events_of v (up_to r frames ends)

    none_missing : 15 ≤ length (take k f)
    none_missing = omega (arith, many f bytes k some, begins_low f (place a 0 0) (front_begins a 0 0 (no_ends refl)))

    begins_here : (m n : ℕ) → Fronts r.frames m n → place a m n ≤ k → ReplayUpTo damaged (place a m n)
    begins_here m n c l = begins_too (take k f) w none_missing four (place a m n) (cut_begins f bytes k some (place a m n) (front_begins a m n c) l)

    before_cut : (p : ℕ) → Longest damaged p → Before p
    before_cut p l =
        let (b, h) = begins_uncut f bytes k some p (begins_same (take k f) w none_missing four p l.begins) in
        go h (ends p b)
      where
        last : (m n : ℕ) → Fronts r.frames m n → place a m n ≤ k → place a m n ≤ p
        last m n c h = l.most (place a m n) (begins_here m n c h)

        at : (m n : ℕ) → Fronts r.frames m n → p ≡ place a m n → p ≤ k → Before p
        at m n c e h = record {
          frames = m;
          ends = n;
          front = c;
          place_is = e;
          here = h;
          last = last;
          events_are = ap (λ (q : ℕ). events_read (repaired_to damaged q)) e ∙ cut_read k some after m n c (omega arith) (λ i j d x. omega (arith, last i j d x)) w four;
        }

        go : p ≤ k → EndsAt p → Before p
        go h (early e) = at 0 0 (no_ends refl) (omega (arith, last 0 0 (no_ends refl) after)) h
        go h (behind m n c e) = at m n c e h

    -- no refusal but 12, for an output that is too short
    pub data CutOutcome (given : List ℕ) (answer : Repaired) (left : List ℕ) : Type 0 where
      short : answer ≡ unrepaired 12 → left ≡ given → CutOutcome given answer left
      kept : (p : ℕ) → Before p → answer ≡ repair_of damaged p → left ≡ splice given 0 (repaired_to damaged p) → CutOutcome given answer left

    pub cut_outcome : (given : List ℕ) (answer : Repaired) (left : List ℕ) → RepairOutcome damaged given answer left → CutOutcome given answer left
    cut_outcome given answer left (outcome-early n e l) =
        let b = cut_begins f bytes k some (place a 0 0) (front_begins a 0 0 (no_ends refl)) after in
        absurd (n (open_same (take k f) w none_missing four ∙ begins_open (take k f) (place a 0 0) b (cut_bytes f bytes k)))
    cut_outcome given answer left (outcome-none o n e l) = absurd (n (place a 0 0) (begins_here 0 0 (no_ends refl) after))
    cut_outcome given answer left (outcome_short o p x n e l) = short e l
    cut_outcome given answer left (outcome_found o p x n e l) = kept p (before_cut p x) e l

-- ---- of what `write` answered and left

pub cut_written : {g : Game} {s : Stores} (a : Admitted g s) (ended : has_family g.frames.version FrameEnd ≡ true) {out out' : List ℕ} {n : ℕ} (o : WriterOutcome g s out (Ok n) out') (bytes : Bytes (take n out'))
    (k : ℕ) (some : k ≤ length (file g s)) (after : place a 0 0 ≤ k) (w : List ℕ) (four : length w ≡ 4) (given : List ℕ) (answer : Repaired) (left : List ℕ)
    → RepairOutcome (splice (take k (take n out')) 11 w) given answer left → CutOutcome a ended (subst Bytes (written_file o) bytes) k some after w four given answer left
cut_written a ended o bytes k some after w four given answer left x =
    cut_outcome a ended (subst Bytes (written_file o) bytes) k some after w four given answer left
    (subst (λ (l : List ℕ). RepairOutcome (splice (take k l) 11 w) given answer left) (written_file o) x)

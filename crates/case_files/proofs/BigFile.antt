-- A file that is refused by 2: version 2.2.0, with more than 1,048,576 frames of nobody. By laws over the number of frames, not computed.
-- Assumes nothing.
use Prim.Native.Nat.{ℕ, zero, suc, ◌+◌, ◌*◌, ◌^◌, ◌≤◌, ◌<◌}
use mathlib.Core.Path.{◌≡◌, refl, sym, ap, ap₂, subst, ◌∙◌}
use mathlib.Core.Bool.{true, not}
use mathlib.Core.List.{List, [], ◌∷◌, ◌++◌}
use native.Mathlib.Omega.{arith}
use borrow.Author.Tests.{lt-ltb, le-leb}
use lib.Dec.{eqb, lit<, lit≤}
use lib.ListN.{length, replicate, length-append, length-replicate}
use Rattle.wire.specs.Wire.{be, keep}
use Rattle.format.specs.Refusal.{refuse, lowest, one_of}
use Rattle.format.specs.File.{Entry, Ev, index_of, Fresh, Listed, entries_bytes, table_bytes, events_bytes, file_of}
use Rattle.format.specs.Version.{version, above, gte_of, accepted_of}
use Rattle.format.specs.declared.version.Version.{Version}
use Rattle.layout.specs.Columns.{has_family, columns_of, chosen, sum}
use Rattle.start.specs.Length.{reached, length_of}
use Rattle.frames.specs.Judge.{too_many}
use Rattle.grammar.specs.Productions.{Frame, Replay, start_event, codes_events, events_of_frame, events_of_frames, events_of, used_in}
use Rattle.grammar.specs.WellFormed.{Each, ascending, InOrder, GoodFrame, GoodCodes, WellFormed}
use Rattle.grammar.specs.Readable.{Alike, seat_type, Readable}
use Rattle.columns.specs.Columns.{frames_read}
use Rattle.read_outline.specs.Listed.{listed_right}
use Rattle.head.specs.Table.{all_present}
use Rattle.head.proofs.Written.{present_is}
use Rattle.de.specs.Walk.{walk_of}
use Rattle.de.specs.Cut.{events_read}
use Rattle.de.specs.Numbers.{walk_numbers}
use Rattle.de.specs.declared.Walked.{Walked}
use Rattle.de.proofs.EveryCut.{uncut_events, uncut_walk}
use Rattle.read_judge.specs.Found.{opens_wrong, version_said, version_of, early_refusal, gecko_span, Found, too_big}
use Rattle.read_judge.proofs.Accepted.{version_accepted, all_taken}
use Rattle.measure.specs.Game.{Kept}
use Rattle.newer_judge.specs.Opening.{opening_refusal}
use Rattle.newer_judge.proofs.Opening.{opening_none}
use Rattle.measure.specs.Read.{unmeasured, unopened, MeasureOutcome, ReadOutcome, big}
use Rattle.case_files.proofs.Files.{entry, brace, seated}

-- a start of 418 bytes with empty seats
abbrev block : List ℕ
block = seated 2 2 0 3 ++ replicate 98 0

-- a frame with nobody in it: a FrameStart of eight bytes
abbrev frame : Frame
frame = record { id = 0; start = replicate 4 0; players = []; fods = []; whispys = []; stadiums = []; items = []; end = [] }

abbrev event : Ev
event = record { code = 0x3A; payload = replicate 8 0 }

abbrev many : ℕ → Replay
many n = record { block = block; codes = []; frames = replicate n frame; ends = [] }

abbrev table : List Entry
table = entry 0x36 418 ∷ entry 0x3A 8 ∷ []

abbrev events : ℕ → List Ev
events n = start_event block ∷ replicate n event

abbrev file : ℕ → List ℕ
file n = file_of table (events n) brace

-- ---- its events

frames_are : (n : ℕ) → events_of_frames (version 2 2 0) (replicate n frame) ++ [] ≡ replicate n event
unfolding events_of_frames events_of_frame keep has_family gte_of above be
frames_are zero = refl
frames_are (suc n) = ap (λ (l : List Ev). event ∷ l) (frames_are n)

events_are : (n : ℕ) → events_of (version 2 2 0) (many n) ≡ events n
unfolding events_of codes_events
events_are n = ap (λ (l : List Ev). start_event block ∷ l) (frames_are n)

rows_long_lem : (n : ℕ) → length (events_bytes (replicate n event)) ≡ 9 * n
unfolding events_bytes
rows_long_lem zero = refl
rows_long_lem (suc n) = omega (arith, rows_long_lem n)

table_long : length (table_bytes table) ≡ 8
unfolding table_bytes entries_bytes be
table_long = refl

all_long : (n : ℕ) → length (table_bytes table ++ events_bytes (events n)) ≡ 427 + 9 * n
unfolding events_bytes table_bytes entries_bytes be
all_long n = omega (arith, rows_long_lem n)

fresh : Fresh [] table
unfolding Fresh index_of
fresh = (lit≤ tt, lit< tt, (lit≤ tt, lit< tt, tt))

rows_listed : (n : ℕ) → Listed table (replicate n event)
unfolding Listed index_of
rows_listed zero = tt
rows_listed (suc n) = (lit< tt, refl, rows_listed n)

all_listed : (n : ℕ) → Listed table (events n)
unfolding Listed index_of
all_listed n = (lit< tt, refl, rows_listed n)

-- ---- the file is not refused before

early_of : (f : List ℕ) (w : Walked) (es : List Ev) → walk_of f ≡ w → events_read f ≡ es
    → early_refusal f
    ≡ lowest (refuse (walk_numbers w).number (eqb (walk_numbers w).kind 1) ∷ refuse 19 (opens_wrong es) ∷ refuse 1 (not (accepted_of (version_said es))) ∷ [])
unfolding early_refusal
early_of f w es a b =
    ap₂
    (λ (w : Walked) (es : List Ev).
    lowest (refuse (walk_numbers w).number (eqb (walk_numbers w).kind 1) ∷ refuse 19 (opens_wrong es) ∷ refuse 1 (not (accepted_of (version_said es))) ∷ []))
    a b

good_frames : (n : ℕ) → Each (GoodFrame (version 2 2 0) ascending) (replicate n frame)
unfolding Each InOrder has_family gte_of above columns_of chosen sum
good_frames zero = tt
good_frames (suc n) = (
  record {
    id = lit< tt;
    start = refl;
    players = tt;
    slots = tt;
    somebody = λ e. let z : ◌≡◌ {A = ℕ} 0 1 = cc in absurd (omega arith);
    fods = tt;
    whispys = tt;
    stadiums = tt;
    items = tt;
    end = refl;
  },
  good_frames n,
)

well : (n : ℕ) → WellFormed (version 2 2 0) ascending (many n)
unfolding Each GoodCodes length_of reached gte_of above
well n = record { version = refl; block = lit≤ tt; short = lit< tt; codes = tt; frames = good_frames n; few = lit≤ tt; ends = tt }

seats : (n : ℕ) → n < 4 → seat_type block n ≤ 3
seats zero h = lit≤ tt
seats (suc zero) h = lit≤ tt
seats (suc (suc zero)) h = lit≤ tt
seats (suc (suc (suc zero))) h = lit≤ tt
seats (suc (suc (suc (suc n)))) h = absurd (omega arith)

readable : (n : ℕ) → Readable (version 2 2 0) (many n)
unfolding Alike Each has_family gte_of above
readable n = record {
  well = well n;
  changing = λ e. let z : ◌≡◌ {A = ℕ} 0 1 = cc in absurd (omega arith);
  seats = seats;
  alike = tt;
  initiators = λ e. tt;
}

listed_right_lem : (span : ℕ) → listed_right (version 2 2 0) span 0 0 ≡ true
unfolding listed_right gte_of above
listed_right_lem span = refl

too_big_lem : (v : Version) (n : ℕ) → 1048576 < n → too_big v (many n) ≡ true
unfolding too_many one_of frames_read
too_big_lem v n h = rw (length-replicate n frame, lt-ltb 1048576 n h)

module _ (n : ℕ) (fits : n < 400000000) where
  long : length (table_bytes table ++ events_bytes (events n)) < 2 ^ 32
  long = omega (arith, all_long n)

  read : events_read (file n) ≡ events n
  read = uncut_events table (events n) brace fresh (all_listed n) long

  not_early : early_refusal (file n) ≡ 0
  unfolding lowest opens_wrong version_said accepted_of above
  not_early = early_of (file n) _ (events n) (uncut_walk table (events n) brace fresh (all_listed n) long) read ∙ refl

  not_refused : opening_refusal (file n) ≡ 0
  not_refused = opening_none (file n) not_early

  version_said_lem : version_of (file n) ≡ version 2 2 0
  unfolding version_said
  version_said_lem = ap version_said read

  present : all_present (file n) ≡ true
  unfolding file_of
  present =
      let m = length (table_bytes table ++ events_bytes (events n)) in
      let body = events_bytes (events n) ++ brace in
      present_is table m body long (λ e. omega (arith, all_long n))
      ∙ le-leb (15 + m) _ (omega (arith, all_long n, length-append (events_bytes (events n)) brace, length-append (table_bytes table) (events_bytes (events n)), table_long))

  held : Found (file n)
  unfolding used_in
  held = record {
    replay = many n;
    whole = present;
    events_are = all_taken (file n) (version_accepted (file n) not_early) (many n) (read ∙ sym (events_are n) ∙ ap (λ (v : Version). events_of v (many n)) (sym version_said_lem));
    readable = subst (λ (v : Version). Readable v (many n)) (sym version_said_lem) (readable n);
    listed = ap (λ (v : Version). listed_right v (gecko_span (file n)) 0 0) version_said_lem ∙ listed_right_lem (gecko_span (file n));
  }

  module _ (over : 1048576 < n) where
    pub measure_big : MeasureOutcome (file n) (unmeasured 2 0)
    unfolding held
    measure_big = big not_refused held (too_big_lem (version_of (file n)) n over) refl

    pub read_big : (given : Kept) → ReadOutcome (file n) given (unopened 2 0) given
    unfolding held
    read_big given = big not_refused held (too_big_lem (version_of (file n)) n over) refl refl

-- one frame more than may be
one_over : MeasureOutcome (file 1048577) (unmeasured 2 0)
one_over = measure_big 1048577 (lit< tt) (lit< tt)

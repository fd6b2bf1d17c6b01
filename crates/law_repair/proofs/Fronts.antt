-- The end of every frame of an admitted game's file, and of every end behind the last, is the end of a beginning that `read` accepts.
-- Assumes nothing.
use Prim.Native.Nat.{ℕ, zero, suc, ◌+◌, ◌-◌, ◌^◌, ◌≤◌, ◌<◌}
use mathlib.Core.Path.{◌≡◌, refl, sym, ap, subst, ◌∙◌}
use mathlib.Core.Bool.{false, not}
use mathlib.Core.List.{List, [], ◌∷◌, ◌++◌, map, append_assoc}
use native.Mathlib.Omega.{arith}
use borrow.Author.Tests.{le-ltb, ltb-false}
use lib.Dec.{ltb}
use lib.ListN.{length, take, drop, length-append, length-take, take-append-drop}
use Rattle.wire.specs.Wire.{be, splice}
use Rattle.format.specs.Event.{signature}
use Rattle.format.specs.File.{Entry, Ev, table_bytes, events_bytes, file_of, Listed}
use Rattle.format.specs.Mark.{yes}
use Rattle.format.specs.Refusal.{refuse, lowest}
use Rattle.format.specs.Version.{accepted_of}
use Rattle.format.specs.declared.version.Version.{Version}
use Rattle.format.proofs.Files.{length_table, events_append}
use Rattle.format.proofs.Tests.{one_skip, one_passed}
use Rattle.layout.specs.declared.columns.Family.{Family}
use Rattle.layout.specs.declared.columns.Family.TheVariants.{Item, FodPlatform, DreamlandWhispy, StadiumTransformation}
use Rattle.game.specs.Stores.{Stores}
use Rattle.game.specs.declared.Game.{Game}
use Rattle.frames.specs.Judge.{too_many}
use Rattle.ending.specs.Tail.{tail_of}
use Rattle.head.specs.Table.{stop_of, table_of, first_place, span_of}
use Rattle.head.proofs.Filled.{stop_within}
use Rattle.de.specs.Numbers.{walk_numbers}
use Rattle.de.specs.Cut.{events_read}
use Rattle.de.specs.declared.Walked.{Walked}
use Rattle.de.proofs.EveryCut.{uncut_events, uncut_walk}
use Rattle.ser.specs.Write.{entries, events, file}
use Rattle.ser.proofs.Sound.{fresh, all_listed, length_fits}
use Rattle.grammar.specs.Productions.{Frame, Replay, start_event, end_event, codes_events, events_of_frame, events_of_frames, events_of, used_in}
use Rattle.grammar.specs.WellFormed.{Each}
use Rattle.grammar.specs.Readable.{Changing, Alike, Readable}
use Rattle.columns.specs.Columns.{rows_here, rows_there, frames_read}
use Rattle.law_tree.proofs.Same.{same}
use Rattle.law_saved.specs.Admitted.{Admitted}
use Rattle.law_saved.proofs.Found as in_file
use Rattle.read_outline.specs.Listed.{listed_right}
use Rattle.read_judge.specs.Found.{opens_wrong, version_said, version_of, early_refusal, too_big}
use Rattle.read_judge.specs.Inner.{WalkDone}
use Rattle.read_judge.proofs.Accepted.{version_accepted, all_taken}
use Rattle.read_judge.proofs.Places as parts
use Rattle.repair_kept.specs.Kept.{ending_at, Accepted, ReplayUpTo}
use Rattle.law_repair.specs.Front.{up_to}
use Rattle.law_repair.proofs.Accepted.{early_by, early_done}

-- ---- fronts of lists

each_take : {A : Type 0} (P : A → Type 0) (n : ℕ) (xs : List A) → Each P xs → Each P (take n xs)
unfolding Each
each_take P zero xs h = tt
each_take P (suc n) [] h = tt
each_take P (suc n) (x ∷ xs) h = (h.0, each_take P n xs h.1)

changing_take : (n : ℕ) (fs : List Frame) → Changing fs → Changing (take n fs)
unfolding Changing
changing_take zero fs h = tt
changing_take (suc n) [] h = tt
changing_take (suc n) (f ∷ []) h = go n
  where
    go : (n : ℕ) → Changing (f ∷ take n [])
    go zero = tt
    go (suc n) = tt
changing_take (suc zero) (f ∷ g ∷ fs) h = tt
changing_take (suc (suc n)) (f ∷ g ∷ fs) h = (h.0, changing_take (suc n) (g ∷ fs) h.1)

alike_take : (n : ℕ) (es : List (List ℕ)) → Alike es → Alike (take n es)
unfolding Alike
alike_take zero es h = tt
alike_take (suc n) [] h = tt
alike_take (suc n) (a ∷ []) h = go n
  where
    go : (n : ℕ) → Alike (a ∷ take n [])
    go zero = tt
    go (suc n) = tt
alike_take (suc zero) (a ∷ b ∷ es) h = tt
alike_take (suc (suc n)) (a ∷ b ∷ es) h = (h.0, alike_take (suc n) (b ∷ es) h.1)

listed_take : (t : List Entry) (xs ys : List Ev) → Listed t (xs ++ ys) → Listed t xs
unfolding Listed
listed_take t [] ys h = tt
listed_take t (x ∷ xs) ys h = (h.0, h.1, listed_take t xs ys h.2)

fewer_rows : (v : Version) (family : Family) (n : ℕ) (fs : List Frame) → length (rows_there v family (take n fs)) ≤ length (rows_there v family fs)
unfolding rows_there
fewer_rows v family zero fs = omega arith
fewer_rows v family (suc n) [] = omega arith
fewer_rows v family (suc n) (f ∷ fs) =
    omega (arith, fewer_rows v family n fs, length-append (rows_here v family f) (rows_there v family (take n fs)), length-append (rows_here v family f) (rows_there v family fs))

-- fewer frames are not too many
not_over : (most n m : ℕ) → m ≤ n → ltb most n ≡ false → ltb most m ≡ false
not_over most n m l e = le-ltb most m (omega (arith, ltb-false most n e))

small_front : (v : Version) (r : Replay) (i j : ℕ) → too_big v r ≡ false → too_big v (up_to r i j) ≡ false
unfolding too_many frames_read
small_front v r i j e =
    let fs = r.frames in
    let (a, e) = one_passed _ _ e in
    let (b, e) = one_passed _ _ e in
    let (c, e) = one_passed _ _ e in
    let (d, e) = one_passed _ _ e in
    let (s, e) = one_passed _ _ e in
    sym
    (one_skip _ _ _ (not_over 1048576 (length fs) (length (take i fs)) (omega (arith, length-take i fs)) a)
    (one_skip _ _ _ (not_over 4194304 (length (rows_there v Item fs)) _ (fewer_rows v Item i fs) b)
    (one_skip _ _ _ (not_over 1048576 (length (rows_there v FodPlatform fs)) _ (fewer_rows v FodPlatform i fs) c)
    (one_skip _ _ _ (not_over 1048576 (length (rows_there v DreamlandWhispy fs)) _ (fewer_rows v DreamlandWhispy i fs) d)
    (one_skip _ _ _ (not_over 1048576 (length (rows_there v StadiumTransformation fs)) _ (fewer_rows v StadiumTransformation i fs) s)
    (sym e))))))

readable_front : (v : Version) (r : Replay) (i j : ℕ) → Readable v r → Readable v (up_to r i j)
readable_front v r i j h = record {
  well = record {
    version = h.well.version;
    block = h.well.block;
    short = h.well.short;
    codes = h.well.codes;
    frames = each_take _ i r.frames h.well.frames;
    few = omega (arith, h.well.few, length-take j r.ends);
    ends = each_take _ j r.ends h.well.ends;
  };
  changing = λ e. changing_take i r.frames (h.changing e);
  seats = h.seats;
  alike = alike_take j r.ends h.alike;
  initiators = λ e. each_take _ j r.ends (h.initiators e);
}

-- ---- the events behind a front

frames_both : (v : Version) (xs ys : List Frame) → events_of_frames v (xs ++ ys) ≡ events_of_frames v xs ++ events_of_frames v ys
unfolding events_of_frames
frames_both v [] ys = refl
frames_both v (x ∷ xs) ys = ap (λ (l : List Ev). events_of_frame v x ++ l) (frames_both v xs ys) ∙ sym (append_assoc (events_of_frame v x) (events_of_frames v xs) (events_of_frames v ys))

ends_both : (xs ys : List (List ℕ)) → map end_event (xs ++ ys) ≡ map end_event xs ++ map end_event ys
ends_both [] ys = refl
ends_both (x ∷ xs) ys = ap (λ (l : List Ev). end_event x ∷ l) (ends_both xs ys)

-- the ends stand behind all frames: none of a front without them
pub data Fronts (fs : List Frame) (i j : ℕ) : Type 0 where
  no_ends : j ≡ 0 → Fronts fs i j
  all_of_frames : drop i fs ≡ [] → Fronts fs i j

pub rest_of : Version → Replay → ℕ → ℕ → List Ev
rest_of v r i j = events_of_frames v (drop i r.frames) ++ map end_event (drop j r.ends)

pub nil_right : {A : Type 0} (l : List A) → l ++ [] ≡ l
nil_right [] = refl
nil_right (x ∷ l) = ap (λ k. x ∷ k) (nil_right l)

four_parts : {A : Type 0} (c f b e : List A) → c ++ ((f ++ b) ++ e) ≡ (c ++ (f ++ [])) ++ (b ++ e)
four_parts c f b e = ap (λ l. c ++ l) (append_assoc f b e ∙ ap (λ l. l ++ (b ++ e)) (sym (nil_right f))) ∙ sym (append_assoc c (f ++ []) (b ++ e))

events_front : (v : Version) (r : Replay) (i j : ℕ) → Fronts r.frames i j → events_of v r ≡ events_of v (up_to r i j) ++ rest_of v r i j
unfolding events_of rest_of events_of_frames
events_front v r i j (no_ends e) =
    let c = codes_events r.codes in
    let fs = r.frames in
    let f = events_of_frames v (take i fs) in
    let b = events_of_frames v (drop i fs) in
    let m = map end_event r.ends in
    let split = ap (events_of_frames v) (sym (take-append-drop i fs)) ∙ frames_both v (take i fs) (drop i fs) in
    ap (λ (l : List Ev). start_event r.block ∷ (c ++ (l ++ m))) split
    ∙ ap (λ (l : List Ev). start_event r.block ∷ l) (four_parts c f b m)
    ∙ ap (λ (k : ℕ). start_event r.block ∷ ((c ++ (f ++ map end_event (take k r.ends))) ++ (b ++ map end_event (drop k r.ends)))) (sym e)
events_front v r i j (all_of_frames e) =
    let c = codes_events r.codes in
    let fs = r.frames in
    let all : events_of_frames v fs ≡ events_of_frames v (take i fs) = ap (events_of_frames v) (sym (take-append-drop i fs) ∙ ap (λ (l : List Frame). take i fs ++ l) e) ∙ frames_both v (take i fs) [] ∙ nil_right (events_of_frames v (take i fs)) in
    let f = events_of_frames v (take i fs) in
    let m = map end_event (take j r.ends) in
    let n = map end_event (drop j r.ends) in
    let split : map end_event r.ends ≡ m ++ n = ap (map end_event) (sym (take-append-drop j r.ends)) ∙ ends_both (take j r.ends) (drop j r.ends) in
    let none : events_of_frames v (drop i fs) ≡ [] = ap (events_of_frames v) e in
    (λ k. start_event r.block ∷ (c ++ (all k ++ split k)))
    ∙ ap (λ (l : List Ev). start_event r.block ∷ l) (ap (λ (l : List Ev). c ++ l) (sym (append_assoc f m n)) ∙ sym (append_assoc c (f ++ m) n))
    ∙ ap (λ (l : List Ev). start_event r.block ∷ ((c ++ (f ++ m)) ++ (l ++ n))) (sym none)

-- ---- a file whose events are a front of another's

-- the length alone is another
field_is : (t : List Entry) (xs ys : List Ev) (tail : List ℕ) (q : ℕ) → q ≡ first_place t + length (events_bytes xs) → ending_at (file_of t (xs ++ ys) tail) q ≡ file_of t xs (events_bytes ys ++ tail)
unfolding ending_at file_of splice be
field_is t xs ys tail q e =
    let n : q - 15 ≡ length (table_bytes t ++ events_bytes xs) = omega (arith, length-append (table_bytes t) (events_bytes xs), length_table t) in
    let behind : events_bytes (xs ++ ys) ++ tail ≡ events_bytes xs ++ (events_bytes ys ++ tail) = ap (λ (l : List ℕ). l ++ tail) (events_append xs ys) ∙ append_assoc (events_bytes xs) (events_bytes ys) tail in
    (λ i. signature ++ (be 4 (n i) ++ (table_bytes t ++ behind i)))

module _ {g : Game} {s : Stores} (a : Admitted g s) where
  abbrev v : Version
  v = g.frames.version

  abbrev f : List ℕ
  f = file g s

  abbrev r : Replay
  r = in_file.r a

  -- where the first i frames and the first j ends end
  abbrev pub place : ℕ → ℕ → ℕ
  place i j = first_place (entries g s) + length (events_bytes (events_of v (up_to r i j)))

  module _ (i j : ℕ) (front : Fronts r.frames i j) where
    abbrev t : List Entry
    t = entries g s

    abbrev xs : List Ev
    xs = events_of v (up_to r i j)

    abbrev ys : List Ev
    ys = rest_of v r i j

    split : events g s ≡ xs ++ ys
    split = same g s ∙ events_front v r i j front

    listed : Listed t xs
    listed = listed_take t xs ys (subst (Listed t) split (all_listed (in_file.p a)))

    longer : length (events_bytes (events g s)) ≡ length (events_bytes xs) + length (events_bytes ys)
    longer = ap (λ (l : List Ev). length (events_bytes l)) split ∙ ap length (events_append xs ys) ∙ length-append (events_bytes xs) (events_bytes ys)

    fits : length (table_bytes t ++ events_bytes xs) < 2 ^ 32
    fits = omega (arith, length_fits (in_file.p a), longer, length-append (table_bytes t) (events_bytes xs), length-append (table_bytes t) (events_bytes (events g s)))

    abbrev tail : List ℕ
    tail = events_bytes ys ++ tail_of (yes g.metadata_given) s.metadata

    abbrev h : List ℕ
    h = file_of t xs tail

    pub ending_is : ending_at f (place i j) ≡ h
    unfolding file
    ending_is = ap (λ (es : List Ev). ending_at (file_of t es (tail_of (yes g.metadata_given) s.metadata)) (place i j)) split ∙ field_is t xs ys (tail_of (yes g.metadata_given) s.metadata) (place i j) refl

    pub read : events_read h ≡ xs
    read = uncut_events t xs tail (fresh (in_file.p a)) listed fits

    done : WalkDone h
    done = ap (λ (w : Walked). (walk_numbers w).kind) (uncut_walk t xs tail (fresh (in_file.p a)) listed fits)

    -- the first event is the file's
    first_same : (P : List Ev → Type 0) → ((e : Ev) (es fs : List Ev) → P (e ∷ es) → P (e ∷ fs)) → P (events_read f) → P (events_read h)
    unfolding events_of
    first_same P alike x = subst P (sym read) (alike _ _ _ (subst P ((in_file.walked a).2 ∙ same g s) x))

    version_is : version_of h ≡ v
    unfolding version_said
    version_is = first_same (λ es. version_said es ≡ v) (λ e es fs x. x) (in_file.version_is a)

    judged : lowest (refuse 19 (opens_wrong (events_read h)) ∷ refuse 1 (not (accepted_of (version_said (events_read h)))) ∷ []) ≡ 0
    unfolding opens_wrong version_said
    judged =
        first_same (λ es. lowest (refuse 19 (opens_wrong es) ∷ refuse 1 (not (accepted_of (version_said es))) ∷ []) ≡ 0) (λ e es fs x. x)
        (sym (early_by f (early_done f (in_file.not_early a))) ∙ in_file.not_early a)

    table_is_lem : table_of h ≡ table_of f
    table_is_lem = parts.table_is_lem t xs tail (fresh (in_file.p a)) fits ∙ sym (in_file.table_is_lem a)

    early_h : early_refusal h ≡ 0
    early_h = early_by h done ∙ judged

    accepted_h : Accepted h
    accepted_h = record {
      early = early_h;
      found = record {
        replay = up_to r i j;
        whole = parts.whole t xs tail (fresh (in_file.p a)) fits;
        events_are = all_taken h (version_accepted h early_h) (up_to r i j) (read ∙ ap (λ (w : Version). events_of w (up_to r i j)) (sym version_is));
        readable = subst (λ (w : Version). Readable w (up_to r i j)) (sym version_is) (readable_front v r i j (in_file.readable a));
        listed =
            (λ k. listed_right ((version_is ∙ sym (in_file.version_is a)) k) (span_of 0x3D (table_is_lem k)) (length r.codes) (used_in r.codes))
            ∙ in_file.listed_as a;
      };
      small = ap (λ (w : Version). too_big w (up_to r i j)) version_is ∙ small_front v r i j (in_file.not_big a);
    }

    pub up_to_stop : place i j ≤ stop_of f
    unfolding file
    up_to_stop =
        let at = parts.stop_at t (events g s) (tail_of (yes g.metadata_given) s.metadata) (fresh (in_file.p a)) (length_fits (in_file.p a)) in
        omega (arith, at, longer, length-append (table_bytes t) (events_bytes (events g s)), length_table t)

    short_place : place i j < 4294967311
    short_place = let e : 2 ^ 32 ≡ 4294967296 = refl in omega (arith, fits, length-append (table_bytes t) (events_bytes xs), length_table t)

    pub front_begins : ReplayUpTo f (place i j)
    front_begins = record {
      within = omega (arith, up_to_stop, stop_within f);
      short = short_place;
      accepted = subst Accepted (sym ending_is) accepted_h;
    }

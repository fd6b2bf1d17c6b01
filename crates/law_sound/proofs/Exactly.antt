-- The tests over bytes pass exactly where a file's events are sound.
-- Assumes nothing.
use Prim.Native.Nat.{ℕ, suc, ◌+◌, ◌-◌}
use mathlib.Core.Path.{◌≡◌, refl, sym, ap, ap₂, subst, ◌∙◌}
use mathlib.Core.Bool.{Bool, true, false, ◌&&◌, ◌||◌}
use mathlib.Core.List.{List, [], ◌∷◌, ◌++◌, map, head-eq_of_cons-eq, tail-eq_of_cons-eq}
use mathlib.Core.Logic.{◌↔◌}
use mathlib.Core.Option.{Option, none, some}
use native.Mathlib.Omega.{arith}
use borrow.Author.Tests.{lt-ltb, le-leb, eq-eqb, eqb-true}
use lib.Dec.{eqb}
use lib.ListN.{length, get_or, drop, length-append}
use Rattle.wire.specs.Wire.{be}
use Rattle.format.specs.File.{Entry, Ev, table_bytes, event_bytes, events_bytes, file_of}
use Rattle.format.specs.Version.{version, accepted_of}
use Rattle.format.specs.declared.version.Version.{Version}
use Rattle.layout.specs.Payloads.{entries_of}
use Rattle.start.specs.Length.{length_of}
use Rattle.head.specs.Table.{starts_with, stop_of, table_of, first_place}
use Rattle.grammar.specs.Productions.{Block, Replay, start_event, end_event, codes_events, events_of_frames, events_of, used_in}
use Rattle.grammar.specs.WellFormed.{Each, anyhow, WellFormed}
use Rattle.grammar.specs.Sound.{table_for, SoundEvents}
use Rattle.grammar.specs.Machine.{initial, family_of}
use Rattle.grammar.specs.Whole.{says_version, is_start, codes_rest, on_some, is_replay}
use Rattle.grammar.proofs.Tests.{both, Or, left_is, right_is, either, or_true}
use Rattle.grammar.proofs.Each.{each_after}
use Rattle.grammar.proofs.Unique.{no_block}
use Rattle.grammar.proofs.Takes.{NoFrame, closed_last, complete}
use Rattle.grammar.proofs.Exactly.{Byte, exactly}
use Rattle.grammar.proofs.Whole as whole
use Rattle.read_scan.specs.Inner.{scan}
use Rattle.read_scan.proofs.Same.{place_of, answered, Ends, ends}
use Rattle.read_outline.specs.declared.answer.Codes.TheVariants as codes
use Rattle.read_outline.proofs.Same.{Coded, Found, codes_of_lem, codes_wrong_lem, codes_found}
use Rattle.read_outline.proofs.Stands.{Stands, next_stands}
use Rattle.read_judge.specs.Found.{version_said}
use Rattle.read_judge.specs.Inner.{Ready, first_at, WalkDone, Started}
use Rattle.read_judge.proofs.Steps as laws
use Rattle.check_table.specs.Table.{table_is}
use Rattle.check_parts.specs.Inner.{tabled_at, sound_at}
use Rattle.law_sound.proofs.Ends.{ends_same, ends_taken}
use Rattle.law_sound.proofs.Passed.{Passed, passed, passed_back, walked}
use Rattle.law_sound.proofs.Read as read
use Rattle.law_sound.proofs.Whole as file

-- ---- events that stand in a file

stands_part : (f spans : List ℕ) (stop : ℕ) (tail : List ℕ) (xs ys : List Ev) (at : ℕ) → Stands f spans stop tail at (xs ++ ys) → Stands f spans stop tail (at + length (events_bytes xs)) ys
unfolding events_bytes
stands_part f spans stop tail [] ys at s = let z : at ≡ at + 0 = omega arith in subst (λ (n : ℕ). Stands f spans stop tail n ys) z s
stands_part f spans stop tail (x ∷ xs) ys at s =
    let z : at + suc (length x.payload) + length (events_bytes xs) ≡ at + length (event_bytes x ++ events_bytes xs) = omega (arith, length-append (event_bytes x) (events_bytes xs)) in
    subst (λ (n : ℕ). Stands f spans stop tail n ys) z (stands_part f spans stop tail xs ys (at + suc (length x.payload)) (next_stands f spans stop tail at x (xs ++ ys) s))

no_wrong : {a b c : ℕ} → codes.Wrong ≡ codes.Ended a b c → ⊥
no_wrong e = let z : ◌≡◌ {A = ℕ} 0 1 = cc in omega arith

no_frame_lem : (ps : List (List ℕ)) → NoFrame (map end_event ps)
unfolding family_of
no_frame_lem [] = tt
no_frame_lem (p ∷ ps) = refl

starts_self : (xs ys : List ℕ) → starts_with xs (xs ++ ys) ≡ true
unfolding starts_with
starts_self [] ys = refl
starts_self (x ∷ xs) ys = rw (eq-eqb x x refl) (starts_self xs ys)

-- the table that stands in a file, as a test
table_there : (f : List ℕ) (v : Version) (n : ℕ) (given : Bool) (actual : ℕ) (es : List Ev) (tail : List ℕ) → f ≡ file_of (entries_of v n given actual) es tail → table_is f v n given actual ≡ true
unfolding table_is file_of be
table_there f v n given actual es tail e = ap (λ (g : List ℕ). starts_with (table_bytes (entries_of v n given actual)) (drop 15 g)) e ∙ starts_self (table_bytes (entries_of v n given actual)) (events_bytes es ++ tail)

module _ (f spans : List ℕ) (v : Version) (first stop len : ℕ) (s : Started f spans v first stop len) where
  abbrev at : ℕ
  at = first + 1 + len

  ready : WalkDone f → Ready f spans v first stop len
  ready k = laws.ready f spans first stop true s.headed k v len (first_at f spans first stop) refl s.opens refl

  module _ (y : Ready f spans v first stop len) where
    abbrev At : ℕ → List Ev → Type 0
    At p es = Stands f spans stop (drop stop f) p es

    all_stand : At first (start_event y.block ∷ y.others)
    all_stand = record { long = y.covers.long; here = y.covers.bytes_are; spanned = y.covers.spanned }

    others_stand : At at y.others
    others_stand =
        let z : first + suc (length y.block) ≡ at = omega (arith, y.len_is) in
        subst (λ (n : ℕ). At n y.others) z (next_stands f spans stop (drop stop f) first (start_event y.block) y.others all_stand)

    others_bytes : Each (λ e. Each Byte e.payload) y.others
    unfolding Each
    others_bytes = y.covers.bytes.1

    -- what is said of the version in the block
    version_said_lem : v ≡ version (get_or y.block 0 0) (get_or y.block 1 0) (get_or y.block 2 0)
    unfolding version_said
    version_said_lem = y.version_is ∙ ap version_said y.events_are

    -- ---- where all tests pass

    module _ (p : Passed v f spans stop at len) where
      record Blocks : Type 0 where
        t : List Ev
        rest_is : codes_rest v y.others ≡ some t
        found : Found v f spans at stop (drop stop f) y.others t
        place_is : p.place ≡ stop - length (events_bytes t)

      the_blocks : Blocks
      the_blocks = go (codes_rest v y.others) refl
        where
          go : (x : Option (List Ev)) → codes_rest v y.others ≡ x → Blocks
          go none q =
              let c = others_stand in
              absurd (no_wrong (sym (codes_wrong_lem v f spans stop (drop stop f) y.others at c.long c.here c.spanned q) ∙ p.coded))
          go (some t) q =
              let h = codes_found v f spans stop (drop stop f) y.others at others_stand.long others_stand.here others_stand.spanned others_bytes t q in
              let e = sym p.coded ∙ h.told.answer_is in
              let z : p.place ≡ stop - length (events_bytes t) = cc in
              record { t = t; rest_is = q; found = h; place_is = z }

      abbrev b : Blocks
      b = the_blocks

      behind_bytes : Each (λ e. Each Byte e.payload) b.t
      behind_bytes =
          each_after (λ e. Each Byte e.payload) (codes_events b.found.blocks) b.t (subst (λ (l : List Ev). Each (λ e. Each Byte e.payload) l) b.found.events_are others_bytes)

      behind_stand : At p.place b.t
      behind_stand =
          let told = b.found.told in
          subst (λ (n : ℕ). At n b.t) (sym b.place_is) (record { long = told.long; here = told.here; spanned = told.spanned })

      frames_end : Ends v anyhow b.t stop p.last
      frames_end = let c = behind_stand in (ends v anyhow f spans stop (drop stop f) b.t p.place c.long c.here c.spanned behind_bytes p.last).0 p.ran

      ends_stand : At p.last frames_end.others
      ends_stand =
          let g = frames_end in
          let fs = events_of_frames v g.taken.frames in
          let c = stands_part f spans stop (drop stop f) fs g.others p.place (subst (λ (l : List Ev). At p.place l) g.taken.events_are behind_stand) in
          let z : p.place + length (events_bytes fs) ≡ p.last = omega (arith, c.long, g.place_is) in
          subst (λ (n : ℕ). At n g.others) z c

      starts_right : is_start v (start_event y.block) ≡ true
      unfolding is_start says_version
      starts_right =
          let e = version_said_lem in
          rw (
            eq-eqb (get_or y.block 0 0) v.major (ap (λ (w : Version). w.major) (sym e)),
            eq-eqb (get_or y.block 1 0) v.minor (ap (λ (w : Version). w.minor) (sym e)),
            eq-eqb (get_or y.block 2 0) v.patch (ap (λ (w : Version). w.patch) (sym e)),
            le-leb (length_of v) (length y.block) (omega (arith, p.block, y.len_is)),
            lt-ltb (length y.block) 65536 (omega (arith, p.short, y.len_is)),
          )

      replay_right : is_replay v anyhow (start_event y.block ∷ y.others) ≡ true
      unfolding is_replay on_some
      replay_right =
          rw (starts_right, b.rest_is, (exactly v anyhow b.t frames_end.others behind_bytes).1 frames_end.taken)
          (sym (ends_same v f spans stop (drop stop f) p.last frames_end.others ends_stand) ∙ p.ended)

      comes : whole.Comes v anyhow (start_event y.block ∷ y.others)
      comes = (whole.whole v anyhow (start_event y.block ∷ y.others) y.covers.bytes).0 replay_right

      abbrev r : Replay
      r = comes.replay

      abbrev after_codes : List Ev
      after_codes = events_of_frames v r.frames ++ map end_event r.ends

      both_events : start_event y.block ∷ y.others ≡ start_event r.block ∷ (codes_events r.codes ++ after_codes)
      unfolding events_of
      both_events = comes.events_are

      coded_as : codes.Ended p.place p.blocks p.actual ≡ codes.Ended (stop - length (events_bytes after_codes)) (length r.codes) (used_in r.codes)
      coded_as =
          let c = others_stand in
          sym p.coded
          ∙ (codes_of_lem v f spans stop (drop stop f) y.others at c.long c.here c.spanned r.codes after_codes comes.well.codes
          (no_block v anyhow r.ends r.frames comes.well.frames) (tail-eq_of_cons-eq both_events)).answer_is

      len_as : len ≡ length r.block
      len_as = y.len_is ∙ ap length (ap (λ (e : Ev). e.payload) (head-eq_of_cons-eq both_events))

      actual_as : p.actual ≡ used_in r.codes
      actual_as = let e = coded_as in cc

      blocks_as : p.blocks ≡ length r.codes
      blocks_as = let e = coded_as in cc

      no_codes : (bs : List Block) → length bs ≡ 0 → bs ≡ []
      no_codes [] e = refl
      no_codes (x ∷ bs) e = absurd (omega arith)

      -- with the table that was found
      module _ (accepted : accepted_of v ≡ true) (given : Bool) (tabled : table_is f v len given p.actual ≡ true) (unlisted : given ≡ false → r.codes ≡ []) where
        table_is_lem : table_for v given r ≡ entries_of v len given p.actual
        table_is_lem = ap₂ (λ (n m : ℕ). entries_of v n given m) (sym len_as) (sym actual_as)

        starts : starts_with (table_bytes (table_for v given r)) (drop 15 f) ≡ true
        unfolding table_is
        starts = ap (λ (t : List Entry). starts_with (table_bytes t) (drop 15 f)) table_is_lem ∙ tabled

        here : drop (first_place (table_of f)) f ≡ events_bytes (events_of v r) ++ drop (stop_of f) f
        here =
            ap (λ (n : ℕ). drop n f) (sym s.headed.first_is)
            ∙ y.covers.bytes_are
            ∙ ap₂ (λ (l : List Ev) (n : ℕ). events_bytes l ++ drop n f) comes.events_are s.headed.stop_is

        long : stop_of f ≡ first_place (table_of f) + length (events_bytes (events_of v r))
        long = omega (arith, y.covers.long, s.headed.first_is, s.headed.stop_is, ap (λ (l : List Ev). length (events_bytes l)) comes.events_are)

        events_of_lem : SoundEvents f
        events_of_lem = record {
          version = v;
          listed = given;
          replay = r;
          tail = drop (stop_of f) f;
          accepted = accepted;
          well = comes.well;
          unlisted = unlisted;
          fits = file.fits f s.headed.accepted y.present s.headed.bytes (table_for v given r) starts (events_of v r) here long;
          file_is = file.made f s.headed.accepted y.present s.headed.bytes (table_for v given r) starts (events_of v r) here long;
        }

      sound_events : accepted_of v ≡ true → SoundEvents f
      unfolding tabled_at
      sound_events accepted = go (either (table_is f v len true p.actual) _ p.tabled)
        where
          go : Or (table_is f v len true p.actual) (eqb p.blocks 0 && table_is f v len false p.actual) → SoundEvents f
          go (left_is e) = events_of_lem accepted true e (λ q. absurd (let z : ◌≡◌ {A = ℕ} 0 1 = cc in omega arith))
          go (right_is e) =
              let (a, c) = both (eqb p.blocks 0) (table_is f v len false p.actual) e in
              events_of_lem accepted false c (λ q. no_codes r.codes (sym blocks_as ∙ eqb-true p.blocks 0 a))

  -- ---- where the block is sound

  module _ (x : SoundEvents f) where
    abbrev y : Ready f spans v first stop len
    y = ready (read.walk_done f x)

    abbrev q : Replay
    q = x.replay

    abbrev later : List Ev
    later = events_of_frames v q.frames ++ map end_event q.ends

    one_version : x.version ≡ v
    one_version = sym (y.version_is ∙ read.version_is f x)

    well : WellFormed v anyhow q
    well = subst (λ (w : Version). WellFormed w anyhow q) one_version x.well

    same_events : start_event y.block ∷ y.others ≡ start_event q.block ∷ (codes_events q.codes ++ later)
    unfolding events_of
    same_events = sym y.events_are ∙ read.events_are f x ∙ ap (λ (w : Version). events_of w q) one_version

    len_is : len ≡ length q.block
    len_is = y.len_is ∙ ap length (ap (λ (e : Ev). e.payload) (head-eq_of_cons-eq same_events))

    coded : Coded v f spans at stop (drop stop f) q.codes later
    coded =
        let c = others_stand y in
        codes_of_lem v f spans stop (drop stop f) y.others at c.long c.here c.spanned q.codes later well.codes (no_block v anyhow q.ends q.frames well.frames)
        (tail-eq_of_cons-eq same_events)

    later_stand : At y (stop - length (events_bytes later)) later
    later_stand = record { long = coded.long; here = coded.here; spanned = coded.spanned }

    abbrev last : ℕ
    last = stop - length (events_bytes (map end_event q.ends))

    ran : scan v anyhow f spans stop (suc stop) (stop - length (events_bytes later)) initial ≡ some last
    ran =
        answered v anyhow f spans stop (drop stop f) later (stop - length (events_bytes later)) coded.long coded.here coded.spanned
        ∙ ap (place_of stop) (complete v anyhow (map end_event q.ends) (no_frame_lem q.ends) q.frames well.frames initial (closed_last v 0))

    last_stand : At y last (map end_event q.ends)
    last_stand =
        let c = stands_part f spans stop (drop stop f) (events_of_frames v q.frames) (map end_event q.ends) (stop - length (events_bytes later)) later_stand in
        let z : stop - length (events_bytes later) + length (events_bytes (events_of_frames v q.frames)) ≡ last = omega (arith, c.long) in
        subst (λ (n : ℕ). At y n (map end_event q.ends)) z c

    table_stands : table_is f v len x.listed (used_in q.codes) ≡ true
    table_stands =
        ap₂ (λ (w : Version) (n : ℕ). table_is f w n x.listed (used_in q.codes)) (sym one_version) len_is
        ∙ table_there f x.version (length q.block) x.listed (used_in q.codes) (events_of x.version q) x.tail x.file_is

    tabled : tabled_at v f len (length q.codes) (used_in q.codes) ≡ true
    unfolding tabled_at
    tabled = go x.listed refl table_stands
      where
        go : (g : Bool) → x.listed ≡ g → table_is f v len g (used_in q.codes) ≡ true
            → (table_is f v len true (used_in q.codes) || (eqb (length q.codes) 0 && table_is f v len false (used_in q.codes))) ≡ true
        go true e t = rw t
        go false e t =
            or_true (table_is f v len true (used_in q.codes)) (eqb (length q.codes) 0 && table_is f v len false (used_in q.codes))
            (rw (eq-eqb (length q.codes) 0 (ap length (x.unlisted e))) t)

    all_pass : Passed v f spans stop at len
    all_pass = record {
      place = stop - length (events_bytes later);
      blocks = length q.codes;
      actual = used_in q.codes;
      last = last;
      block = omega (arith, well.block, len_is);
      short = omega (arith, well.short, len_is);
      coded = coded.answer_is;
      tabled = tabled;
      ran = ran;
      ended = ends_same v f spans stop (drop stop f) last (map end_event q.ends) last_stand ∙ ends_taken v q.ends well.few well.ends;
    }

  -- the tests pass exactly where the block is sound, and then the walk is not refused
  pub sound_tests : (sound_at v f spans stop at len ≡ true) ↔ SoundEvents f
  sound_tests = (
    λ e. let p = passed v f spans stop at len e in sound_events (ready (walked f spans v first stop len s p)) p s.new_enough,
    λ x. passed_back v f spans stop at len (all_pass x),
  )

-- The parts of a replay, one after another: where a test fails the file holds none, and where all pass it holds one, whose parts these are.
-- Assumes nothing.
use mathlib.Core.Path.{◌≡◌, refl, sym, ap, subst, ◌∙◌}
use mathlib.Core.Bool.{Bool, true, false, ◌||◌}
use mathlib.Core.List.{List, [], ◌∷◌, ◌++◌, map, append_assoc, head-eq_of_cons-eq, tail-eq_of_cons-eq}
use mathlib.Core.Option.{Option, none, some, some-injective, none-ne-some}
use Prim.Native.Nat.{ℕ, suc, ◌+◌, ◌*◌, ◌-◌, ◌≤◌}
use native.Mathlib.Omega.{arith}
use borrow.Author.Tests.{le-leb, leb-true}
use lib.Dec.{leb}
use lib.ListN.{length, get_or, take, drop, length-append}
use lib.Seq.{drop-drop, drop_at, take_at}
use Rattle.wire.specs.Wire.{part, ranged}
use Rattle.format.specs.File.{Ev, event_bytes, events_bytes}
use Rattle.format.specs.Version.{accepted_of}
use Rattle.format.specs.declared.version.Version.{Version}
use Rattle.layout.specs.Columns.{has_family}
use Rattle.layout.specs.Payloads.{end_size}
use Rattle.layout.specs.declared.columns.Family.TheVariants.{FrameStart}
use Rattle.start.specs.Length.{length_of}
use Rattle.start.proofs.Lengths.{at_least}
use Rattle.read_start.specs.Start.{seats_fit}
use Rattle.read_start.proofs.Types.{types_fit}
use Rattle.de.specs.Cut.{events_read}
use Rattle.grammar.specs.Productions.{Frame, Replay, start_event, end_event, codes_events, events_of_frames, events_of, used_in}
use Rattle.grammar.specs.WellFormed.{Each, ascending}
use Rattle.grammar.specs.Readable.{Changing}
use Rattle.grammar.specs.Machine.{initial, rest, family_of}
use Rattle.grammar.specs.Whole.{codes_rest}
use Rattle.grammar.proofs.Tests.{both}
use Rattle.grammar.proofs.Unique.{no_block}
use Rattle.grammar.proofs.Takes.{NoFrame, closed_last, complete}
use Rattle.grammar.proofs.Exactly.{Taken}
use Rattle.columns.specs.Columns.{frames_read}
use Rattle.read_scan.specs.Inner.{scan, tallied}
use Rattle.read_scan.specs.Counts.{no_tally}
use Rattle.read_scan.specs.declared.tally.Tally.{Tally}
use Rattle.read_scan.proofs.Same.{place_of, answered, Ends, ends}
use Rattle.read_scan.proofs.Told.{Told, told}
use Rattle.read_outline.specs.Inner.{codes_at, ends_at}
use Rattle.read_outline.specs.Listed.{listed_right}
use Rattle.read_outline.specs.declared.answer.Codes.TheVariants as codes
use Rattle.read_outline.specs.declared.answer.Ends.TheVariants as ended
use Rattle.read_outline.proofs.Same.{Coded, Found as CodesFound, codes_of_lem, codes_wrong_lem, codes_found, GoodEnds, Ended, ends_of_lem, ends_found}
use Rattle.read_judge.specs.Found.{version_of, version_said, Found}
use Rattle.read_judge.specs.Inner.{Covers, Ready, start_fits, changes, Tallied, EndAt, Holds}
use Rattle.read_judge.proofs.Accepted.{all_events, all_taken}

-- ---- lists

next_covers : (f spans : List ℕ) (place stop : ℕ) (e : Ev) (es : List Ev) → Covers f spans place stop (e ∷ es) → Covers f spans (place + suc (length e.payload)) stop es
unfolding events_bytes Each
next_covers f spans place stop e es c = record {
  bytes_are =
      sym (drop-drop (suc (length e.payload)) place f)
      ∙ ap (drop (suc (length e.payload))) (c.bytes_are ∙ append_assoc (event_bytes e) (events_bytes es) (drop stop f))
      ∙ drop_at (event_bytes e) (events_bytes es ++ drop stop f) (suc (length e.payload)) refl;
  long = omega (arith, c.long, length-append (event_bytes e) (events_bytes es));
  spanned = c.spanned.1;
  bytes = c.bytes.1;
}

-- the payload of an event stands behind its code
payload_stands : (f spans : List ℕ) (place stop : ℕ) (e : Ev) (es : List Ev) → Covers f spans place stop (e ∷ es) → part f (place + 1) (length e.payload) ≡ e.payload
unfolding events_bytes part
payload_stands f spans place stop e es c =
    let d : drop (place + 1) f ≡ e.payload ++ (events_bytes es ++ drop stop f) =
    sym (drop-drop 1 place f) ∙ ap (drop 1) (c.bytes_are ∙ append_assoc (event_bytes e) (events_bytes es) (drop stop f)) in
    ap (take (length e.payload)) d ∙ take_at e.payload (events_bytes es ++ drop stop f) (length e.payload) refl

covers_part : (f spans : List ℕ) (place stop : ℕ) (xs ys : List Ev) → Covers f spans place stop (xs ++ ys) → Covers f spans (place + length (events_bytes xs)) stop ys
unfolding events_bytes
covers_part f spans place stop [] ys c =
    let z : place ≡ place + 0 = omega arith in
    subst (λ (n : ℕ). Covers f spans n stop ys) z c
covers_part f spans place stop (x ∷ xs) ys c =
    let z : place + suc (length x.payload) + length (events_bytes xs) ≡ place + length (event_bytes x ++ events_bytes xs) = omega (arith, length-append (event_bytes x) (events_bytes xs)) in
    subst (λ (n : ℕ). Covers f spans n stop ys) z (covers_part f spans (place + suc (length x.payload)) stop xs ys (next_covers f spans place stop x (xs ++ ys) c))

events_both : (xs ys : List Ev) → events_bytes (xs ++ ys) ≡ events_bytes xs ++ events_bytes ys
unfolding events_bytes
events_both [] ys = refl
events_both (x ∷ xs) ys = ap (λ (l : List ℕ). event_bytes x ++ l) (events_both xs ys) ∙ sym (append_assoc (event_bytes x) (events_bytes xs) (events_bytes ys))

first_three : (xs : List ℕ) → 3 ≤ length xs → take 3 xs ≡ get_or xs 0 0 ∷ get_or xs 1 0 ∷ get_or xs 2 0 ∷ []
first_three [] h = absurd (omega arith)
first_three (a ∷ []) h = absurd (omega arith)
first_three (a ∷ b ∷ []) h = absurd (omega arith)
first_three (a ∷ b ∷ c ∷ xs) h = refl

no_wrong : {a b : ℕ} {c : ℕ} → codes.Wrong ≡ codes.Ended a b c → ⊥
no_wrong e = let z : ◌≡◌ {A = ℕ} 0 1 = cc in omega arith

no_bad : {n : ℕ} → ended.Wrong ≡ ended.Good n → ⊥
no_bad e = let z : ◌≡◌ {A = ℕ} 0 1 = cc in omega arith

no_way : false ≡ true → ⊥
no_way e = let z : ◌≡◌ {A = ℕ} 0 1 = cc in omega arith

no_frame_lem : (ps : List (List ℕ)) → NoFrame (map end_event ps)
unfolding family_of
no_frame_lem [] = tt
no_frame_lem (p ∷ ps) = refl

module _ (f spans : List ℕ) (v : Version) (first stop len : ℕ) (ready : Ready f spans v first stop len) where
  abbrev w : Version
  w = version_of f

  abbrev at : ℕ
  at = first + 1 + len

  -- ---- what the first event leaves

  start_covers : Covers f spans at stop ready.others
  start_covers =
      let z : first + suc (length ready.block) ≡ at = omega (arith, ready.len_is) in
      subst (λ (n : ℕ). Covers f spans n stop ready.others) z (next_covers f spans first stop (start_event ready.block) ready.others ready.covers)

  pub first_within : at ≤ stop
  first_within = omega (arith, start_covers.long)

  block_stands : part f (first + 1) len ≡ ready.block
  block_stands = ap (part f (first + 1)) ready.len_is ∙ payload_stands f spans first stop (start_event ready.block) ready.others ready.covers

  -- ---- what a replay that is held says of them

  module _ (new : accepted_of w ≡ true) (x : Found f) where
    abbrev r : Replay
    r = x.replay

    abbrev behind : List Ev
    behind = events_of_frames w r.frames ++ map end_event r.ends

    both_events : start_event ready.block ∷ ready.others ≡ start_event r.block ∷ (codes_events r.codes ++ behind)
    unfolding events_of
    both_events = sym ready.events_are ∙ all_events f new x

    same_block : ready.block ≡ r.block
    same_block = ap (λ (e : Ev). e.payload) (head-eq_of_cons-eq both_events)

    same_others : ready.others ≡ codes_events r.codes ++ behind
    same_others = tail-eq_of_cons-eq both_events

    coded : Coded w f spans at stop (drop stop f) r.codes behind
    coded =
        let c = start_covers in
        codes_of_lem w f spans stop (drop stop f) ready.others at c.long c.bytes_are c.spanned r.codes behind x.readable.well.codes
        (no_block w ascending r.ends r.frames x.readable.well.frames) same_others

    -- ---- so no test fails

    pub start_fails : start_fits w (part f (first + 1) len) ≡ false → ⊥
    unfolding start_fits
    start_fails e =
        let b = block_stands ∙ same_block in
        let long = le-leb (length_of w) (length r.block) x.readable.well.block in
        let seats = (types_fit r.block).1 x.readable.seats in
        no_way (sym e ∙ ap (start_fits w) b ∙ rw (long, seats))

    pub codes_fail : codes_at w f spans at stop ≡ codes.Wrong → ⊥
    codes_fail e = no_wrong (sym e ∙ coded.answer_is)

    module _ (place blocks actual : ℕ) (answer : codes_at w f spans at stop ≡ codes.Ended place blocks actual) where
      same_answer : codes.Ended place blocks actual ≡ codes.Ended (stop - length (events_bytes behind)) (length r.codes) (used_in r.codes)
      same_answer = sym answer ∙ coded.answer_is

      place_is : place ≡ stop - length (events_bytes behind)
      place_is = let e = same_answer in cc

      pub listed_fails : listed_right w (get_or spans 0x3D 0) blocks actual ≡ false → ⊥
      listed_fails e =
          let q = same_answer in
          let b : blocks ≡ length r.codes = cc in
          let a : actual ≡ used_in r.codes = cc in
          no_way (sym e ∙ ap (λ (n : ℕ). listed_right w n blocks actual) ready.listed ∙ rw (b, a) x.listed)

      scans : scan w ascending f spans stop (suc stop) place initial ≡ some (stop - length (events_bytes (map end_event r.ends)))
      scans =
          ap (λ (n : ℕ). scan w ascending f spans stop (suc stop) n initial) place_is
          ∙ answered w ascending f spans stop (drop stop f) behind (stop - length (events_bytes behind)) coded.long coded.here coded.spanned
          ∙ ap (place_of stop) (complete w ascending (map end_event r.ends) (no_frame_lem r.ends) r.frames x.readable.well.frames initial (closed_last w 0))

      pub frames_fail : scan w ascending f spans stop (suc stop) place initial ≡ none → ⊥
      frames_fail e = none-ne-some _ (sym e ∙ scans)

      module _ (t : Tally) (counts : tallied w ascending f spans stop (suc stop) place initial no_tally ≡ some t) where
        all_told : Told w r.frames t
        all_told =
            told w ascending f spans stop (drop stop f) behind (stop - length (events_bytes behind)) coded.long coded.here coded.spanned r.frames x.readable.well.frames
            (map end_event r.ends) (no_frame_lem r.ends) refl t
            (ap (λ (n : ℕ). tallied w ascending f spans stop (suc stop) n initial no_tally) (sym place_is) ∙ counts)

        pub changing_fails : changes w t ≡ false → ⊥
        unfolding changes
        changing_fails e = go (has_family w FrameStart) refl t.changing refl e
          where
            go : (b : Bool) → has_family w FrameStart ≡ b → (c : Bool) → t.changing ≡ c → b || c ≡ false → ⊥
            go true p c q e = no_way (sym e)
            go false p true q e = no_way (sym e)
            go false p false q e = no_way (sym q ∙ all_told.changing.1 (x.readable.changing p))

      module _ (last : ℕ) (ran : scan w ascending f spans stop (suc stop) place initial ≡ some last) where
        last_is : last ≡ stop - length (events_bytes (map end_event r.ends))
        last_is = some-injective _ _ (sym ran ∙ scans)

        ends_good : GoodEnds w r.ends
        ends_good = record { few = x.readable.well.few; sized = x.readable.well.ends; alike = x.readable.alike; initiators = x.readable.initiators }

        ends_covers : Covers f spans last stop (map end_event r.ends)
        ends_covers =
            let c = covers_part f spans at stop (codes_events r.codes) behind (subst (λ (l : List Ev). Covers f spans at stop l) same_others start_covers) in
            let d = covers_part f spans _ stop (events_of_frames w r.frames) (map end_event r.ends) c in
            let z : at + length (events_bytes (codes_events r.codes)) + length (events_bytes (events_of_frames w r.frames)) ≡ last = omega (arith, d.long, last_is) in
            subst (λ (n : ℕ). Covers f spans n stop (map end_event r.ends)) z d

        pub ends_fail : ends_at w f spans last stop ≡ ended.Wrong → ⊥
        ends_fail e =
            let c = ends_covers in
            no_bad (sym e ∙ ends_of_lem w f spans stop (drop stop f) (map end_event r.ends) last c.long c.bytes_are c.spanned r.ends ends_good refl)

  -- ---- where all tests pass

  -- the codes, as blocks, and what follows them
  record Blocks (place blocks actual : ℕ) : Type 0 where
    behind : List Ev
    are : CodesFound w f spans at stop (drop stop f) ready.others behind
    place_is : place ≡ stop - length (events_bytes behind)
    blocks_are : blocks ≡ length are.blocks
    actual_is : actual ≡ used_in are.blocks

  the_blocks : (place blocks actual : ℕ) → codes_at w f spans at stop ≡ codes.Ended place blocks actual → Blocks place blocks actual
  the_blocks place blocks actual answer = go (codes_rest w ready.others) refl
    where
      go : (x : Option (List Ev)) → codes_rest w ready.others ≡ x → Blocks place blocks actual
      go none q =
          let c = start_covers in
          absurd (no_wrong (sym (codes_wrong_lem w f spans stop (drop stop f) ready.others at c.long c.bytes_are c.spanned q) ∙ answer))
      go (some t) q =
          let h = codes_found w f spans stop (drop stop f) ready.others at start_covers.long start_covers.bytes_are start_covers.spanned start_covers.bytes t q in
          let e = sym answer ∙ h.told.answer_is in
          let p : place ≡ stop - length (events_bytes t) = cc in
          let b : blocks ≡ length h.blocks = cc in
          let a : actual ≡ used_in h.blocks = cc in
          record { behind = t; are = h; place_is = p; blocks_are = b; actual_is = a }

  -- the places are before the data's end
  pub place_within : (place blocks actual : ℕ) → codes_at w f spans at stop ≡ codes.Ended place blocks actual → place ≤ stop
  place_within place blocks actual answer = omega (arith, (the_blocks place blocks actual answer).place_is)

  codes_cover : (place blocks actual : ℕ) (b : Blocks place blocks actual) → Covers f spans place stop b.behind
  codes_cover place blocks actual b =
      let c = covers_part f spans at stop (codes_events b.are.blocks) b.behind (subst (λ (l : List Ev). Covers f spans at stop l) b.are.events_are start_covers) in
      let z : at + length (events_bytes (codes_events b.are.blocks)) ≡ place = omega (arith, c.long, b.place_is) in
      subst (λ (n : ℕ). Covers f spans n stop b.behind) z c

  pub last_within : (place blocks actual : ℕ) → codes_at w f spans at stop ≡ codes.Ended place blocks actual → (last : ℕ) → scan w ascending f spans stop (suc stop) place initial ≡ some last
      → last ≤ stop
  last_within place blocks actual answer last ran =
      let b = the_blocks place blocks actual answer in
      let c = codes_cover place blocks actual b in
      omega (arith, ((ends w ascending f spans stop (drop stop f) b.behind place c.long c.bytes_are c.spanned c.bytes last).0 ran).place_is)

  module _ (new : accepted_of w ≡ true) (fits : start_fits w (part f (first + 1) len) ≡ true) (place blocks actual : ℕ) (answer : codes_at w f spans at stop ≡ codes.Ended place blocks actual)
      (right : listed_right w (get_or spans 0x3D 0) blocks actual ≡ true) (last : ℕ) (ran : scan w ascending f spans stop (suc stop) place initial ≡ some last) (t : Tally)
      (counts : tallied w ascending f spans stop (suc stop) place initial no_tally ≡ some t) (changed : changes w t ≡ true) (count : ℕ)
      (good : ends_at w f spans last stop ≡ ended.Good count) where
    all_blocks : Blocks place blocks actual
    all_blocks = the_blocks place blocks actual answer

    blocks_covers : Covers f spans place stop all_blocks.behind
    blocks_covers = codes_cover place blocks actual all_blocks

    frames_end : Ends w ascending all_blocks.behind stop last
    frames_end = let c = blocks_covers in (ends w ascending f spans stop (drop stop f) all_blocks.behind place c.long c.bytes_are c.spanned c.bytes last).0 ran

    abbrev taken : Taken w ascending all_blocks.behind frames_end.others
    taken = frames_end.taken

    abbrev fs : List Frame
    fs = taken.frames

    frames_covers : Covers f spans last stop frames_end.others
    frames_covers =
        let c = covers_part f spans place stop (events_of_frames w fs) frames_end.others (subst (λ (l : List Ev). Covers f spans place stop l) taken.events_are blocks_covers) in
        let z : place + length (events_bytes (events_of_frames w fs)) ≡ last = omega (arith, c.long, frames_end.place_is) in
        subst (λ (n : ℕ). Covers f spans n stop frames_end.others) z c

    all_counted : Told w fs t
    all_counted =
        let c = blocks_covers in
        told w ascending f spans stop (drop stop f) all_blocks.behind place c.long c.bytes_are c.spanned fs taken.good frames_end.others taken.after_is
        taken.events_are t counts

    all_ended : Ended w frames_end.others count
    all_ended = let c = frames_covers in ends_found w f spans stop (drop stop f) frames_end.others last c.long c.bytes_are c.spanned count good

    abbrev held : Replay
    held = record { block = ready.block; codes = all_blocks.are.blocks; frames = fs; ends = all_ended.payloads }

    held_events : events_read f ≡ events_of w held
    unfolding events_of
    held_events =
        ready.events_are
        ∙ ap (λ (l : List Ev). start_event ready.block ∷ l)
        (all_blocks.are.events_are ∙ ap (λ (l : List Ev). codes_events all_blocks.are.blocks ++ l) (taken.events_are ∙ ap (λ (l : List Ev). events_of_frames w fs ++ l) all_ended.events_are))

    fits_both : (length_of w ≤ length ready.block) × (seats_fit ready.block ≡ true)
    unfolding start_fits
    fits_both =
        let (a, b) = both (leb (length_of w) (length ready.block)) (seats_fit ready.block) (ap (start_fits w) (sym block_stands) ∙ fits) in
        (leb-true (length_of w) (length ready.block) a, b)

    version_first : take 3 ready.block ≡ w.major ∷ w.minor ∷ w.patch ∷ []
    unfolding version_said
    version_first =
        let long = fits_both.0 in
        let least = at_least w in
        first_three ready.block (omega arith)
        ∙ ap (λ (v : Version). v.major ∷ v.minor ∷ v.patch ∷ []) (ap version_said (sym ready.events_are))

    held_changes : has_family w FrameStart ≡ false → Changing fs
    unfolding changes
    held_changes e = all_counted.changing.0 (sym (ap (λ (b : Bool). b || t.changing) e) ∙ changed)

    held_found : Found f
    held_found = record {
      replay = held;
      whole = ready.present;
      events_are = all_taken f new held held_events;
      readable = record {
        well = record {
          version = version_first;
          block = fits_both.0;
          short = omega (arith, ready.short, ready.len_is);
          codes = all_blocks.are.good;
          frames = taken.good;
          few = all_ended.good.few;
          ends = all_ended.good.sized;
        };
        changing = held_changes;
        seats = (types_fit ready.block).0 fits_both.1;
        alike = all_ended.good.alike;
        initiators = all_ended.good.initiators;
      };
      listed =
          rw (← all_blocks.blocks_are, ← all_blocks.actual_is) (ap (λ (n : ℕ). listed_right w n blocks actual) (sym ready.listed) ∙ right);
    }

    end_stands : (es : List Ev) (ps : List (List ℕ)) → Covers f spans last stop es → es ≡ map end_event ps → Each (λ bytes. length bytes ≡ end_size w) ps → EndAt f w (last + 1) ps
    unfolding Each events_bytes
    end_stands es [] c e h = tt
    end_stands es (p ∷ ps) c e h =
        let d = subst (λ (l : List Ev). Covers f spans last stop l) e c in
        let n = length-append p (events_bytes (map end_event ps)) in
        (omega (arith, d.long, n, h.0, ready.within), ap (part f (last + 1)) (sym h.0) ∙ payload_stands f spans last stop (end_event p) (map end_event ps) d)

    all_counted_as : Tallied w fs t
    unfolding frames_read
    all_counted_as = record {
      frames = all_counted.frames;
      items = all_counted.items;
      fods = all_counted.fods;
      whispys = all_counted.whispys;
      stadiums = all_counted.stadiums;
      slots = λ k h. all_counted.slots k;
    }

    pub holds : v ≡ w → Holds f first stop (record { version = v; block_len = len; codes_at = at; blocks = blocks; actual = actual; frames_at = place; tally = t; ends_at = last; ends = count })
    unfolding held_found
    holds vis =
        let long = fits_both.0 in
        let c = start_covers in
        let b = all_blocks in
        let told = b.are.told in
        record {
          found = held_found;
          version_is = vis;
          block_len = ready.len_is;
          block_fits = omega (arith, ready.len_is);
          block_in = omega (arith, c.long, ready.within);
          block_is = block_stands;
          blocks_are = b.blocks_are;
          actual_is = b.actual_is;
          codes_in = omega (arith, ready.within, told.place_is, b.blocks_are, c.long);
          codes_are = ap (ranged (λ k. part f (at + 517 * k + 1) 512) 0) b.blocks_are ∙ told.bytes_are;
          frames_stand = record {
            rest = events_bytes frames_end.others ++ drop stop f;
            bytes_are =
                blocks_covers.bytes_are
                ∙ ap (λ (l : List Ev). events_bytes l ++ drop stop f) taken.events_are
                ∙ ap (λ (l : List ℕ). l ++ drop stop f) (events_both (events_of_frames w fs) frames_end.others)
                ∙ append_assoc (events_bytes (events_of_frames w fs)) (events_bytes frames_end.others) (drop stop f);
            end_is =
                let p = blocks_covers.long in
                let q = ap (λ (l : List Ev). length (events_bytes l)) taken.events_are in
                let s = ap length (events_both (events_of_frames w fs) frames_end.others) ∙ length-append (events_bytes (events_of_frames w fs)) (events_bytes frames_end.others) in
                omega (arith, frames_covers.long, p, q, s);
            good = taken.good;
            changing = held_changes;
          };
          tallied = all_counted_as;
          ends_are = all_ended.count_is;
          end_is = end_stands frames_end.others all_ended.payloads frames_covers all_ended.events_are all_ended.good.sized;
        }

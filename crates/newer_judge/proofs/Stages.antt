-- The parts of a newer recorder's replay, one after another: where a test fails the file holds none, and where all pass it holds one, whose parts these are.
-- Assumes nothing.
use mathlib.Core.Path.{◌≡◌, refl, sym, ap, subst, ◌∙◌}
use mathlib.Core.Bool.{true, false}
use mathlib.Core.List.{List, [], ◌∷◌, ◌++◌, map, head-eq_of_cons-eq, tail-eq_of_cons-eq}
use mathlib.Core.Option.{Option, none, some, some-injective, none-ne-some}
use Prim.Native.Nat.{ℕ, suc, ◌+◌, ◌≤◌, ◌<◌}
use native.Mathlib.Omega.{arith}
use borrow.Author.Tests.{le-leb, leb-true}
use lib.Dec.{leb}
use lib.ListN.{length, get_or, take, length-append}
use Rattle.wire.specs.Wire.{part}
use Rattle.format.specs.File.{Ev, events_bytes}
use Rattle.format.specs.declared.version.Version.{Version}
use Rattle.layout.specs.declared.columns.Family.TheVariants.{FrameStart}
use Rattle.start.specs.Length.{length_of}
use Rattle.start.proofs.Lengths.{at_least}
use Rattle.read_start.specs.Start.{seats_fit}
use Rattle.read_start.proofs.Types.{types_fit}
use Rattle.de.specs.Cut.{events_read}
use Rattle.grammar.specs.Productions.{Frame, Block, Replay, start_event, end_event, codes_events, events_of_frames, events_of, used_in}
use Rattle.grammar.specs.WellFormed.{Each, ascending, GoodCodes, WellFormed}
use Rattle.grammar.specs.Machine.{initial, rest, family_of}
use Rattle.grammar.specs.Whole.{codes_rest}
use Rattle.grammar.proofs.Tests.{both}
use Rattle.grammar.proofs.Lists.{append_same}
use Rattle.grammar.proofs.Blocks.{codes_run}
use Rattle.grammar.proofs.Unique.{no_block, unique}
use Rattle.grammar.proofs.Takes.{NoFrame, closed_last, complete}
use Rattle.grammar.proofs.Exactly.{Taken, exactly}
use Rattle.columns.specs.Columns.{frames_read}
use Rattle.known.specs.Known.{is_newer, known_of, taken}
use Rattle.known.proofs.Newest.{taken_newer, has_family_lem}
use Rattle.known.proofs.Codes.{known_both}
use Rattle.read_scan.specs.Counts.{no_tally, tally_of}
use Rattle.read_scan.specs.declared.tally.Tally.{Tally}
use Rattle.read_scan.proofs.Told.{Told, told_by_lem}
use Rattle.read_outline.specs.Listed.{listed_right}
use Rattle.read_outline.proofs.Same.{GoodEnds}
use Rattle.read_judge.specs.Found.{version_of, version_said, Found}
use Rattle.read_judge.specs.Inner.{Covers, Ready, start_fits, Tallied, EndAt}
use Rattle.newer_events.proofs.Events.{next_covers, payload_stands, covers_part}
use Rattle.newer_judge.specs.Inner.{Indexed, Known}
use Rattle.newer_judge.proofs.Lists.{start_known, known_bytes, covers_first, covers_by}

no_way : false ≡ true → ⊥
no_way e = let z : ◌≡◌ {A = ℕ} 0 1 = cc in omega arith

no_frame_lem : (ps : List (List ℕ)) → NoFrame (map end_event ps)
unfolding family_of
no_frame_lem [] = tt
no_frame_lem (p ∷ ps) = refl

first_three : (xs : List ℕ) → 3 ≤ length xs → take 3 xs ≡ get_or xs 0 0 ∷ get_or xs 1 0 ∷ get_or xs 2 0 ∷ []
first_three [] h = absurd (omega arith)
first_three (a ∷ []) h = absurd (omega arith)
first_three (a ∷ b ∷ []) h = absurd (omega arith)
first_three (a ∷ b ∷ c ∷ xs) h = refl

module _ (f spans : List ℕ) (first stop len : ℕ) (ready : Ready f spans (version_of f) first stop len) (newer : is_newer (version_of f) ≡ true) where
  abbrev w : Version
  w = version_of f

  abbrev at : ℕ
  at = first + 1 + len

  -- ---- what the first event leaves

  pub start_covers : Covers f spans at stop ready.others
  start_covers =
      let z : first + suc (length ready.block) ≡ at = omega (arith, ready.len_is) in
      subst (λ (n : ℕ). Covers f spans n stop ready.others) z (next_covers f spans first stop (start_event ready.block) ready.others ready.covers)

  block_stands : part f (first + 1) len ≡ ready.block
  block_stands = ap (part f (first + 1)) ready.len_is ∙ payload_stands f spans first stop (start_event ready.block) ready.others ready.covers

  known_all : taken w (events_read f) ≡ start_event ready.block ∷ known_of w ready.others
  known_all = taken_newer w newer (events_read f) ∙ ap (known_of w) ready.events_are ∙ start_known w ready.block ready.others

  -- ---- what a replay that is held says of them

  module _ (x : Found f) where
    abbrev r : Replay
    r = x.replay

    abbrev behind : List Ev
    behind = events_of_frames w r.frames ++ map end_event r.ends

    both_events : start_event ready.block ∷ known_of w ready.others ≡ start_event r.block ∷ (codes_events r.codes ++ behind)
    unfolding events_of
    both_events = sym known_all ∙ x.events_are

    same_block : ready.block ≡ r.block
    same_block = ap (λ (e : Ev). e.payload) (head-eq_of_cons-eq both_events)

    same_others : known_of w ready.others ≡ codes_events r.codes ++ behind
    same_others = tail-eq_of_cons-eq both_events

    coded : codes_rest w (known_of w ready.others) ≡ some behind
    coded = ap (codes_rest w) same_others ∙ codes_run w behind (no_block w ascending r.ends r.frames x.readable.well.frames) r.codes x.readable.well.codes

    -- ---- so no test fails

    pub start_fails : start_fits w (part f (first + 1) len) ≡ false → ⊥
    unfolding start_fits
    start_fails e =
        let b = block_stands ∙ same_block in
        let long = le-leb (length_of w) (length r.block) x.readable.well.block in
        let seats = (types_fit r.block).1 x.readable.seats in
        no_way (sym e ∙ ap (start_fits w) b ∙ rw (long, seats))

    pub codes_fail : codes_rest w (known_of w ready.others) ≡ none → ⊥
    codes_fail e = none-ne-some _ (sym e ∙ coded)

    -- the codes' events, and what is behind them
    module _ (before after : List Ev) (parted : ready.others ≡ before ++ after) (bs : List Block) (known_are : known_of w before ≡ codes_events bs) (good : GoodCodes w bs)
        (rest_is : codes_rest w (known_of w ready.others) ≡ some (known_of w after)) where
      same_behind : known_of w after ≡ behind
      same_behind = some-injective _ _ (sym rest_is ∙ coded)

      known_others : known_of w ready.others ≡ codes_events bs ++ known_of w after
      known_others = ap (known_of w) parted ∙ known_both w before after ∙ ap (λ (l : List Ev). l ++ known_of w after) known_are

      -- the replay with these blocks is the same
      with_blocks : Replay
      with_blocks = record { block = r.block; codes = bs; frames = r.frames; ends = r.ends }

      blocks_well : WellFormed w ascending with_blocks
      unfolding with_blocks
      blocks_well = let h = x.readable.well in record { version = h.version; block = h.block; short = h.short; codes = good; frames = h.frames; few = h.few; ends = h.ends }

      blocks_events : events_of w r ≡ events_of w with_blocks
      unfolding events_of with_blocks
      blocks_events =
          ap (λ (l : List Ev). start_event r.block ∷ l) (sym same_others ∙ known_others ∙ ap (λ (l : List Ev). codes_events bs ++ l) same_behind)

      same_codes : r.codes ≡ bs
      unfolding with_blocks
      same_codes = ap (λ (s : Replay). s.codes) (unique w ascending ascending r with_blocks x.readable.well blocks_well blocks_events)

      pub listed_fails : (blocks actual : ℕ) → blocks ≡ length bs → actual ≡ used_in bs → listed_right w (get_or spans 0x3D 0) blocks actual ≡ false → ⊥
      listed_fails blocks actual b a e =
          no_way (sym e ∙ ap (λ (n : ℕ). listed_right w n blocks actual) ready.listed ∙ rw (b, a, ← same_codes) x.listed)

      ran : rest w ascending initial (known_of w after) ≡ some (map end_event r.ends)
      ran =
          ap (rest w ascending initial) same_behind
          ∙ complete w ascending (map end_event r.ends) (no_frame_lem r.ends) r.frames x.readable.well.frames initial (closed_last w 0)

      pub frames_fail : rest w ascending initial (known_of w after) ≡ none → ⊥
      frames_fail e = none-ne-some _ (sym e ∙ ran)

      pub ends_fail : (last : List Ev) → rest w ascending initial (known_of w after) ≡ some (known_of w last)
          → ((payloads : List (List ℕ)) → GoodEnds w payloads → known_of w last ≡ map end_event payloads → ⊥) → ⊥
      ends_fail last q wrong =
          let h = x.readable in
          wrong r.ends (record { few = h.well.few; sized = h.well.ends; alike = h.alike; initiators = h.initiators }) (some-injective _ _ (sym q ∙ ran))

  -- ---- where all tests pass

  module _ (index : Indexed f spans) (fits : start_fits w (part f (first + 1) len) ≡ true)
      (before after : List Ev) (parted : ready.others ≡ before ++ after) (bs : List Block) (codes_known : known_of w before ≡ codes_events bs) (codes_good : GoodCodes w bs)
      (place : ℕ) (place_is : place ≡ at + length (events_bytes before)) (right : listed_right w (get_or spans 0x3D 0) (length bs) (used_in bs) ≡ true)
      (played last : List Ev) (played-parted : after ≡ played ++ last) (ran : rest w ascending initial (known_of w after) ≡ some (known_of w last))
      (end : ℕ) (end_is : end ≡ place + length (events_bytes played)) (t : Tally) (told : t ≡ tally_of 8 0 no_tally (known_of w after))
      (payloads : List (List ℕ)) (ends_known : known_of w last ≡ map end_event payloads) (ends_good : GoodEnds w payloads)
      (ends_stand : EndAt f w (end + 1) payloads) where
    after_covers : Covers f spans place stop after
    after_covers =
        subst (λ (n : ℕ). Covers f spans n stop after) (sym place_is)
        (covers_part f spans at stop before after (subst (λ (l : List Ev). Covers f spans at stop l) parted start_covers))

    after_bytes : Each (λ e. Each (λ b. b < 256) e.payload) (known_of w after)
    after_bytes = known_bytes w after after_covers.bytes

    frames_taken : Taken w ascending (known_of w after) (known_of w last)
    frames_taken = (exactly w ascending (known_of w after) (known_of w last) after_bytes).0 ran

    abbrev fs : List Frame
    fs = frames_taken.frames

    after_is : known_of w after ≡ events_of_frames w fs ++ map end_event payloads
    after_is = frames_taken.events_are ∙ ap (λ (l : List Ev). events_of_frames w fs ++ l) ends_known

    -- the events of the frames are those of what was played
    played_known : known_of w played ≡ events_of_frames w fs
    played_known =
        append_right (known_of w played) (events_of_frames w fs) (known_of w last)
        (sym (ap (known_of w) played-parted ∙ known_both w played last) ∙ frames_taken.events_are)
      where
        append_right : (xs ys zs : List Ev) → xs ++ zs ≡ ys ++ zs → xs ≡ ys
        append_right xs ys zs e =
            let l : length xs + length zs ≡ length ys + length zs = sym (length-append xs zs) ∙ ap length e ∙ length-append ys zs in
            (append_same xs ys zs zs (omega arith) e).0

    abbrev held : Replay
    held = record { block = ready.block; codes = bs; frames = fs; ends = payloads }

    held_events : taken w (events_read f) ≡ events_of w held
    unfolding events_of
    held_events =
        known_all
        ∙ ap (λ (l : List Ev). start_event ready.block ∷ l)
        (ap (known_of w) parted ∙ known_both w before after ∙ ap (λ (l : List Ev). l ++ known_of w after) codes_known ∙ ap (λ (l : List Ev). codes_events bs ++ l) after_is)

    fits_both : (length_of w ≤ length ready.block) × (seats_fit ready.block ≡ true)
    unfolding start_fits
    fits_both =
        let (a, b) = both (leb (length_of w) (length ready.block)) (seats_fit ready.block) (ap (start_fits w) (sym block_stands) ∙ fits) in
        (leb-true (length_of w) (length ready.block) a, b)

    version_first : take 3 ready.block ≡ w.major ∷ w.minor ∷ w.patch ∷ []
    unfolding version_said
    version_first =
        let long = fits_both.0 in
        let least = at_least w in
        first_three ready.block (omega arith)
        ∙ ap (λ (v : Version). v.major ∷ v.minor ∷ v.patch ∷ []) (ap version_said (sym ready.events_are))

    held_found : Found f
    held_found = record {
      replay = held;
      whole = ready.present;
      events_are = held_events;
      readable = record {
        well = record {
          version = version_first;
          block = fits_both.0;
          short = omega (arith, ready.short, ready.len_is);
          codes = codes_good;
          frames = frames_taken.good;
          few = ends_good.few;
          ends = ends_good.sized;
        };
        changing = λ e. absurd (no_way (sym e ∙ has_family_lem w newer FrameStart));
        seats = (types_fit ready.block).0 fits_both.1;
        alike = ends_good.alike;
        initiators = ends_good.initiators;
      };
      listed = ap (λ (n : ℕ). listed_right w n (length bs) (used_in bs)) (sym ready.listed) ∙ right;
    }

    all_told : Told w fs t
    all_told = subst (Told w fs) (sym (told ∙ ap (tally_of 8 0 no_tally) frames_taken.events_are)) (told_by_lem w ascending fs frames_taken.good (known_of w last) frames_taken.after_is)

    all_counted : Tallied w fs t
    unfolding frames_read
    all_counted = record {
      frames = all_told.frames;
      items = all_told.items;
      fods = all_told.fods;
      whispys = all_told.whispys;
      stadiums = all_told.stadiums;
      slots = λ k h. all_told.slots k;
    }

    pub held_known : (v : Version) → v ≡ w → (blocks actual count : ℕ) → blocks ≡ length bs → actual ≡ used_in bs → count ≡ length payloads
        → Known f first (record { version = v; block_len = len; codes_at = at; blocks = blocks; actual = actual; frames_at = place; tally = t; ends_at = end; ends = count })
    unfolding held_found
    held_known v vis blocks actual count b a n =
        let long = fits_both.0 in
        let c = start_covers in
        record {
          shown = record {
            found = held_found;
            version_is = vis;
            block_len = ready.len_is;
            block_fits = omega (arith, ready.len_is);
            block_in = omega (arith, c.long, ready.within);
            block_is = block_stands;
            blocks_are = b;
            actual_is = a;
            tallied = all_counted;
            ends_are = n;
            end_is = ends_stand;
          };
          codes_stand = record {
            raw = before;
            covers = covers_by f spans at place before index (covers_first f spans at stop before after (subst (λ (l : List Ev). Covers f spans at stop l) parted c) place place_is);
            known_are = codes_known;
            within = omega (arith, after_covers.long, ready.within);
          };
          frames_stand = record {
            raw = played;
            covers = covers_by f spans place end played index (covers_first f spans place stop played last (subst (λ (l : List Ev). Covers f spans place stop l) played-parted after_covers) end end_is);
            known_are = played_known;
            within =
                let d = covers_part f spans place stop played last (subst (λ (l : List Ev). Covers f spans place stop l) played-parted after_covers) in
                omega (arith, d.long, end_is, ready.within);
          };
        }

-- A file is accepted with its events ending at a place exactly where all tests pass there.
-- Assumes nothing.
use Prim.Native.Nat.{ℕ, zero, suc, ◌+◌, ◌-◌, ◌*◌, ◌≤◌, ◌<◌}
use mathlib.Core.Path.{◌≡◌, refl, sym, ap, subst, ◌∙◌}
use mathlib.Core.Bool.{Bool, true, false, cond, not, ◌&&◌, ◌||◌}
use mathlib.Core.List.{List, [], ◌∷◌}
use mathlib.Core.Option.{Option, none, some}
use native.Mathlib.Omega.{arith}
use borrow.Author.Tests.{le-leb, leb-true, ltb-false, le-ltb, eqb-true, lt-ltb, eq-eqb}
use lib.Dec.{leb, eqb, ltb}
use lib.ListN.{length, get_or, drop}
use Rattle.wire.specs.Wire.{part}
use Rattle.format.specs.Refusal.{one_of}
use Rattle.format.specs.Version.{version, accepted_of}
use Rattle.format.specs.declared.version.Version.{Version}
use Rattle.game.specs.declared.frames.Frames.{Frames}
use Rattle.head.specs.Table.{stop_of, all_present, table_of, first_place, span_of, head_refusal, head_offset}
use Rattle.de.specs.Walk.{walk_of}
use Rattle.de.specs.Numbers.{walk_numbers}
use Rattle.de.specs.declared.Walked.{Walked}
use Rattle.de.specs.declared.Walked.TheVariants as walked
use Rattle.de.proofs.Runs.{refused_walk}
use Rattle.frames.specs.Judge.{too_many}
use Rattle.grammar.specs.WellFormed.{ascending}
use Rattle.layout.specs.declared.columns.Family.{Family}
use Rattle.grammar.specs.Machine.{family_of, State, initial, closed, after, on_family}
use Rattle.grammar.proofs.Tests.{both}
use Rattle.grammar.proofs.Unique.{unique}
use Rattle.read_scan.specs.Counts.{no_tally, counted_of}
use Rattle.read_scan.specs.Inner.{said_at, span_at, takes, stops, scan, tells, tallied}
use Rattle.read_scan.specs.declared.Ran.{Ran}
use Rattle.read_scan.specs.declared.Ran.TheVariants as ran
use Rattle.read_scan.specs.declared.tally.Tally.{Tally}
use Rattle.read_outline.specs.Inner.{codes_at, ends_at}
use Rattle.read_outline.specs.Listed.{listed_right}
use Rattle.read_outline.specs.declared.answer.Codes.{Codes}
use Rattle.read_outline.specs.declared.answer.Codes.TheVariants as codes
use Rattle.read_outline.specs.declared.answer.Ends.{Ends}
use Rattle.read_outline.specs.declared.answer.Ends.TheVariants as ended
use Rattle.read_judge.specs.Found.{version_of, early_refusal, Found, too_big}
use Rattle.read_judge.specs.Inner.{first_at, opens_at, start_fits, changes, Refuses, early, none as none-held, big, counts_by, WalkDone, Headed, Started}
use Rattle.read_judge.specs.declared.first.First.{First}
use Rattle.read_judge.specs.declared.first.First.TheVariants.{Opens, Other}
use Rattle.read_judge.specs.declared.parts.Parts.{Parts}
use Rattle.read_judge.proofs.Steps.{walk_early, opens_early, new_early, none_early, counted, too_big_lem, accepts}
use Rattle.read_judge.proofs.Before.{start_wrong, codes_wrong_lem, listed_wrong, frames_wrong, changing_wrong, ends_wrong, all_held}
use Rattle.repair_scan.specs.Inner.{few}
use Rattle.repair_kept.specs.Kept.{Accepted}
use Rattle.repair_kept.proofs.Same.{no_way, byte_same, part_same}
use Rattle.repair_kept.proofs.Kept.{Tests}

abbrev is_some : {A : Type 0} → Option A → Bool
is_some none = false
is_some (some x) = true

-- ---- the counts

abbrev counts_only : Version → Tally → Frames
counts_only v t = record { version = v; counts = counts_by t; ports = []; port_count = 0 }

module _ (v : Version) (t : Tally) (blocks : ℕ) where
  few_so : few t ≡ true → blocks ≤ 32768 → too_many (counts_only v t) (512 * blocks) 0 ≡ false
  unfolding few too_many one_of
  few_so e l =
      let (a, r) = both (leb t.frames 1048576) (leb t.items 4194304 && (leb t.fods 1048576 && (leb t.whispys 1048576 && leb t.stadiums 1048576))) e in
      let (b, r) = both (leb t.items 4194304) (leb t.fods 1048576 && (leb t.whispys 1048576 && leb t.stadiums 1048576)) r in
      let (c, r) = both (leb t.fods 1048576) (leb t.whispys 1048576 && leb t.stadiums 1048576) r in
      let (d, s) = both (leb t.whispys 1048576) (leb t.stadiums 1048576) r in
      rw (
        le-ltb 1048576 t.frames (leb-true t.frames 1048576 a),
        le-ltb 4194304 t.items (leb-true t.items 4194304 b),
        le-ltb 1048576 t.fods (leb-true t.fods 1048576 c),
        le-ltb 1048576 t.whispys (leb-true t.whispys 1048576 d),
        le-ltb 1048576 t.stadiums (leb-true t.stadiums 1048576 s),
        le-ltb 16777216 (512 * blocks) (omega arith),
      )

  few_is : too_many (counts_only v t) (512 * blocks) 0 ≡ false → (few t ≡ true) × (blocks ≤ 32768)
  unfolding few too_many one_of
  few_is e =
      go (ltb 1048576 t.frames) refl (ltb 4194304 t.items) refl (ltb 1048576 t.fods) refl (ltb 1048576 t.whispys) refl (ltb 1048576 t.stadiums) refl (ltb 16777216 (512 * blocks)) refl e
    where
      go : (a : Bool) → ltb 1048576 t.frames ≡ a → (b : Bool) → ltb 4194304 t.items ≡ b → (c : Bool) → ltb 1048576 t.fods ≡ c → (d : Bool) → ltb 1048576 t.whispys ≡ d
          → (s : Bool) → ltb 1048576 t.stadiums ≡ s → (k : Bool) → ltb 16777216 (512 * blocks) ≡ k
          → (a || (b || (c || (d || (s || (k || (ltb 65535 0 || false))))))) ≡ false
          → ((leb t.frames 1048576 && (leb t.items 4194304 && (leb t.fods 1048576 && (leb t.whispys 1048576 && leb t.stadiums 1048576)))) ≡ true) × (blocks ≤ 32768)
      go true a1 b b1 c c1 d d1 s s1 k k1 e = no_way (sym e)
      go false a1 true b1 c c1 d d1 s s1 k k1 e = no_way (sym e)
      go false a1 false b1 true c1 d d1 s s1 k k1 e = no_way (sym e)
      go false a1 false b1 false c1 true d1 s s1 k k1 e = no_way (sym e)
      go false a1 false b1 false c1 false d1 true s1 k k1 e = no_way (sym e)
      go false a1 false b1 false c1 false d1 false s1 true k1 e = no_way (sym e)
      go false a1 false b1 false c1 false d1 false s1 false k1 e = (
        rw (
          le-leb t.frames 1048576 (ltb-false 1048576 t.frames a1),
          le-leb t.items 4194304 (ltb-false 4194304 t.items b1),
          le-leb t.fods 1048576 (ltb-false 1048576 t.fods c1),
          le-leb t.whispys 1048576 (ltb-false 1048576 t.whispys d1),
          le-leb t.stadiums 1048576 (ltb-false 1048576 t.stadiums s1),
        ),
        (let z = ltb-false 16777216 (512 * blocks) k1 in omega arith),
      )

-- ---- the first event of files that are the same from their tables on

module _ (f g spans : List ℕ) (same : drop 15 f ≡ drop 15 g) (first stop p : ℕ) (h : 15 ≤ first) where
  pub first_move : (v : Version) (len : ℕ) → first_at f spans first stop ≡ Opens v len → first + 1 + len ≤ p → first_at g spans first p ≡ Opens v len
  unfolding first_at opens_at
  first_move v len e l = go (opens_at f spans first stop) refl e
    where
      span : ℕ
      span = get_or spans 0x36 0

      go : (b : Bool) → opens_at f spans first stop ≡ b
          → cond b (Opens (version (get_or f (first + 1) 0) (get_or f (first + 2) 0) (get_or f (first + 3) 0)) (get_or spans 0x36 0 - 1)) Other ≡ Opens v len
          → cond (ltb first p && (eqb (get_or g first 0) 0x36 && (leb 5 (get_or spans 0x36 0) && leb (first + get_or spans 0x36 0) p))) (Opens (version (get_or g (first + 1) 0) (get_or g (first + 2) 0) (get_or g (first + 3) 0)) (get_or spans 0x36 0 - 1)) Other ≡ Opens v len
      go true q e =
          let n = get_or spans 0x36 0 in
          let (a, r) = both (ltb first stop) (eqb (get_or f first 0) 0x36 && (leb 5 n && leb (first + n) stop)) q in
          let (b, r) = both (eqb (get_or f first 0) 0x36) (leb 5 n && leb (first + n) stop) r in
          let (c, d) = both (leb 5 n) (leb (first + n) stop) r in
          let five = leb-true 5 n c in
          let is : n - 1 ≡ len = cc in
          let code = ap (λ (x : ℕ). eqb x 0x36) (sym (byte_same f g same first h)) ∙ b in
          rw (lt-ltb first p (omega arith), code, c, le-leb (first + n) p (omega arith))
          ((λ i. Opens (version (sym (byte_same f g same (first + 1) (omega arith)) i) (sym (byte_same f g same (first + 2) (omega arith)) i) (sym (byte_same f g same (first + 3) (omega arith)) i)) (n - 1)) ∙ e)
      go false q e = absurd (let z : ◌≡◌ {A = ℕ} 0 1 = cc in omega arith)

-- ---- where all tests pass

module _ (g spans : List ℕ) (v : Version) (first q len : ℕ) (s : Started g spans v first q len) where
  module _ (t : Tests v g spans (first + 1 + len) q) where
    abbrev all_codes : Codes
    all_codes = codes.Ended t.place t.blocks t.actual

    abbrev all_of_frames : Ran
    all_of_frames = ran.Ended t.last t.told

    abbrev all_parts : Parts
    all_parts = record { version = v; block_len = len; codes_at = first + 1 + len; blocks = t.blocks; actual = t.actual; frames_at = t.place; tally = t.told; ends_at = t.last; ends = t.count }

    pub accepted_so : start_fits v (part g (first + 1) len) ≡ true → Accepted g
    accepted_so fits =
        let (k, h) = all_held g spans v first q len s all_codes (sym t.coded) t.place t.blocks t.actual refl all_of_frames (sym t.ran) (sym t.counts) t.last t.told refl (ended.Good t.count) (sym t.good)
        true true true (sym fits) refl (sym t.listed) refl (sym t.changed) refl t.count refl in
        let n = counted g spans first q true s.headed k v len (Opens v len) (sym s.opens) refl s.new_enough all_parts h in
        let x = accepts g first q all_parts n (counts_only v t.told) refl false (sym (few_so v t.told t.blocks t.small t.some_blocks)) refl in
        record { early = x.early; found = x.holds.found; small = x.small }

-- ---- a scan and its tally are there together

module _ (v : Version) (g spans : List ℕ) (q : ℕ) where
  both_there : (n at : ℕ) (s : State) (t : Tally) → is_some (scan v ascending g spans q n at s) ≡ is_some (tallied v ascending g spans q n at s t)
  unfolding scan tallied stops tells on_family
  both_there zero at s t = refl
  both_there (suc n) at s t = past (leb q at) (λ at s t. both_there n at s t)
    where
      More : Type 0
      More = (at : ℕ) (s : State) (t : Tally) → is_some (scan v ascending g spans q n at s) ≡ is_some (tallied v ascending g spans q n at s t)

      here : (c : Bool) → is_some (cond c (some at) none) ≡ is_some (cond c (some t) none)
      here true = refl
      here false = refl

      step : (family : Family) (c : Bool) → More
          → is_some (cond c (scan v ascending g spans q n (at + span_at spans g at) (after s family (said_at g at))) none)
          ≡ is_some (cond c (tallied v ascending g spans q n (at + span_at spans g at) (after s family (said_at g at)) (counted_of t s.rank s.id family (said_at g at))) none)
      step family true more = more (at + span_at spans g at) (after s family (said_at g at)) (counted_of t s.rank s.id family (said_at g at))
      step family false more = refl

      kind : (x : Option Family) → More
          → is_some (on_family x (λ family. cond (takes v ascending g spans q s at family) (scan v ascending g spans q n (at + span_at spans g at) (after s family (said_at g at))) none) (cond (closed v s) (some at) none))
          ≡ is_some (on_family x (λ family. cond (takes v ascending g spans q s at family) (tallied v ascending g spans q n (at + span_at spans g at) (after s family (said_at g at)) (counted_of t s.rank s.id family (said_at g at))) none) (cond (closed v s) (some t) none))
      kind none more = here (closed v s)
      kind (some family) more = step family (takes v ascending g spans q s at family) more

      past : (c : Bool) → More
          → is_some (cond c (cond (closed v s) (some at) none) (on_family (family_of (get_or g at 0)) (λ family. cond (takes v ascending g spans q s at family) (scan v ascending g spans q n (at + span_at spans g at) (after s family (said_at g at))) none) (cond (closed v s) (some at) none)))
          ≡ is_some (cond c (cond (closed v s) (some t) none) (on_family (family_of (get_or g at 0))
          (λ family. cond (takes v ascending g spans q s at family) (tallied v ascending g spans q n (at + span_at spans g at) (after s family (said_at g at)) (counted_of t s.rank s.id family (said_at g at))) none) (cond (closed v s) (some t) none)))
      past true more = here (closed v s)
      past false more = kind (family_of (get_or g at 0)) more

  module _ (n at : ℕ) (s : State) (t : Tally) where
    together_not : (last : ℕ) → scan v ascending g spans q n at s ≡ some last → tallied v ascending g spans q n at s t ≡ none → ⊥
    together_not last e d = no_way (ap (is_some {A = Tally}) (sym d) ∙ sym (both_there n at s t) ∙ ap is_some e)

    together_none : scan v ascending g spans q n at s ≡ none → tallied v ascending g spans q n at s t ≡ none
    together_none e = go (tallied v ascending g spans q n at s t) refl
      where
        go : (x : Option Tally) → tallied v ascending g spans q n at s t ≡ x → tallied v ascending g spans q n at s t ≡ none
        go none d = d
        go (some y) d = no_way (sym (ap is_some e) ∙ both_there n at s t ∙ ap is_some d)

-- ---- where a file is accepted

early_walk : (g : List ℕ) (w : Walked) → walk_of g ≡ w → early_refusal g ≡ 0 → WalkDone g
early_walk g (walked.Done events stray whole place) e z = ap (λ (x : Walked). (walk_numbers x).kind) e
early_walk g (walked.Refused number offset) e z = absurd ((walk_early g (walk_of g) number offset refl e).0 z)

pub early_head : (g : List ℕ) → early_refusal g ≡ 0 → head_refusal g ≡ 0
early_head g z = go (head_refusal g) refl
  where
    go : (n : ℕ) → head_refusal g ≡ n → head_refusal g ≡ 0
    go zero e = e
    go (suc n) e = absurd ((walk_early g (walk_of g) (head_refusal g) (head_offset (head_refusal g)) refl (sym (refused_walk g (head_refusal g) (head_offset (head_refusal g)) refl refl (λ y. omega arith)))).0 z)

pub record Passed (g spans : List ℕ) (first q : ℕ) : Type 0 where
  pub version : Version
  pub len : ℕ
  pub opens : first_at g spans first q ≡ Opens version len
  pub new_enough : accepted_of version ≡ true
  pub fits : start_fits version (part g (first + 1) len) ≡ true
  pub tests : Tests version g spans (first + 1 + len) q

module _ (g spans : List ℕ) (first q : ℕ) (h : Headed g spans first q true) (x : Accepted g) where
  done : WalkDone g
  done = early_walk g (walk_of g) refl x.early

  module _ (v : Version) (len : ℕ) (opens : first_at g spans first q ≡ Opens v len) where
    abbrev behind : ℕ
    behind = first + 1 + len

    not_new : accepted_of v ≡ true
    not_new = go (accepted_of v) refl
      where
        go : (b : Bool) → accepted_of v ≡ b → accepted_of v ≡ true
        go true e = e
        go false e = absurd (omega (arith, new_early g spans first q true h done v len (Opens v len) (sym opens) refl e, x.early))

    started : Started g spans v first q len
    started = record { headed = h; opens = opens; new_enough = not_new }

    fits_start : start_fits v (part g (first + 1) len) ≡ true
    fits_start = go (start_fits v (part g (first + 1) len)) refl
      where
        go : (b : Bool) → start_fits v (part g (first + 1) len) ≡ b → start_fits v (part g (first + 1) len) ≡ true
        go true e = e
        go false e = absurd (start_wrong g spans v first q len started false (sym e) refl done x.found)

    module _ (place blocks actual : ℕ) (coded : codes_at v g spans behind q ≡ codes.Ended place blocks actual) where
      abbrev c : Codes
      c = codes.Ended place blocks actual

      right_listed : listed_right v (get_or spans 0x3D 0) blocks actual ≡ true
      right_listed = go (listed_right v (get_or spans 0x3D 0) blocks actual) refl
        where
          go : (b : Bool) → listed_right v (get_or spans 0x3D 0) blocks actual ≡ b → listed_right v (get_or spans 0x3D 0) blocks actual ≡ true
          go true e = e
          go false e = absurd (listed_wrong g spans v first q len started c (sym coded) place blocks actual refl false (sym e) refl done x.found)

      module _ (last : ℕ) (t : Tally) (scanned : scan v ascending g spans q (suc q) place initial ≡ some last) (told : tallied v ascending g spans q (suc q) place initial no_tally ≡ some t) where
        abbrev r : Ran
        r = ran.Ended last t

        changing_told : changes v t ≡ true
        changing_told = go (changes v t) refl
          where
            go : (b : Bool) → changes v t ≡ b → changes v t ≡ true
            go true e = e
            go false e = absurd (changing_wrong g spans v first q len started c (sym coded) place blocks actual refl r (sym scanned) (sym told) last t refl false (sym e) refl done x.found)

        module _ (count : ℕ) (good : ends_at v g spans last q ≡ ended.Good count) where
          abbrev parts : Parts
          parts = record { version = v; block_len = len; codes_at = behind; blocks = blocks; actual = actual; frames_at = place; tally = t; ends_at = last; ends = count }

          not_big : too_many (counts_only v t) (512 * blocks) 0 ≡ false
          not_big =
              let (k, held) = all_held g spans v first q len started c (sym coded) place blocks actual refl r (sym scanned) (sym told) last t refl (ended.Good count) (sym good)
              true true true (sym fits_start) refl (sym right_listed) refl (sym changing_told) refl count refl in
              let n = counted g spans first q true h done v len (Opens v len) (sym opens) refl not_new parts held in
              go (too_many (counts_only v t) (512 * blocks) 0) refl (λ e. too_big_lem g first q parts n (counts_only v t) refl true (sym e) refl)
            where
              never : {A : Type 0} → Refuses g 2 0 → A
              never (early n a b) = absurd (n x.early)
              never (none-held n y a b) = absurd (y x.found)
              never (big z y large a b) =
                  let one = unique (version_of g) ascending ascending y.replay x.found.replay y.readable.well x.found.readable.well (sym y.events_are ∙ x.found.events_are) in
                  no_way (sym x.small ∙ ap (too_big (version_of g)) (sym one) ∙ large)

              go : (b : Bool) → too_many (counts_only v t) (512 * blocks) 0 ≡ b → (too_many (counts_only v t) (512 * blocks) 0 ≡ true → Refuses g 2 0) → too_many (counts_only v t) (512 * blocks) 0 ≡ false
              go true e f = never (f e)
              go false e f = e

          passed_with : Passed g spans first q
          passed_with = record {
            version = v;
            len = len;
            opens = opens;
            new_enough = not_new;
            fits = fits_start;
            tests = record {
              place = place;
              blocks = blocks;
              actual = actual;
              last = last;
              told = t;
              count = count;
              coded = coded;
              listed = right_listed;
              some_blocks = (few_is v t blocks not_big).1;
              ran = scanned;
              counts = told;
              changed = changing_told;
              small = (few_is v t blocks not_big).0;
              good = good;
            };
          }

        passed_ends : (e : Ends) → ends_at v g spans last q ≡ e → Passed g spans first q
        passed_ends (ended.Good count) e = passed_with count e
        passed_ends ended.Wrong e = absurd (ends_wrong g spans v first q len started c (sym coded) place blocks actual refl r (sym scanned) (sym told) last t refl ended.Wrong (sym e) refl done x.found)

      -- a scan and its tally are there together
      passed_frames : (a : Option ℕ) → scan v ascending g spans q (suc q) place initial ≡ a → (b : Option Tally) → tallied v ascending g spans q (suc q) place initial no_tally ≡ b → Passed g spans first q
      passed_frames (some last) e (some t) d = passed_ends last t e d (ends_at v g spans last q) refl
      passed_frames (some last) e none d = absurd (together_not v g spans q (suc q) place initial no_tally last e d)
      passed_frames none e b d =
          absurd (frames_wrong g spans v first q len started c (sym coded) place blocks actual refl ran.Wrong (sym e) (sym (together_none v g spans q (suc q) place initial no_tally e)) refl done x.found)

    passed_codes : (c : Codes) → codes_at v g spans behind q ≡ c → Passed g spans first q
    passed_codes codes.Wrong e = absurd (codes_wrong_lem g spans v first q len started codes.Wrong (sym e) refl done x.found)
    passed_codes (codes.Ended place blocks actual) e = passed_frames place blocks actual e (scan v ascending g spans q (suc q) place initial) refl (tallied v ascending g spans q (suc q) place initial no_tally) refl

  passed_first : (e : First) → first_at g spans first q ≡ e → Passed g spans first q
  passed_first (Opens v len) e = passed_codes v len e (codes_at v g spans (first + 1 + len) q) refl
  passed_first Other e = absurd (omega (arith, opens_early g spans first q true h done Other (sym e) refl, x.early))

  pub passed : Passed g spans first q
  passed = passed_first (first_at g spans first q) refl

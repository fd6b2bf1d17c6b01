-- A cut within the code blocks of an admitted game whose table lists their bytes: no beginning of it is a replay.
-- Assumes nothing.
use Prim.Native.Nat.{ℕ, zero, suc, ◌+◌, ◌-◌, ◌%◌, ◌≤◌, ◌<◌}
use mathlib.Core.Path.{◌≡◌, refl, sym, ap, subst, ◌∙◌}
use mathlib.Core.Bool.{Bool, true, false, cond, not}
use mathlib.Core.List.{List, [], ◌∷◌, ◌++◌, map}
use mathlib.Core.Logic.{⊎_elim}
use native.Mathlib.Omega.{arith}
use borrow.Author.Tests.{eqb-true, ne_eqb, le-leb}
use lib.Dec.{eqb}
use lib.ListN.{length, get_or, take, drop, length-append}
use lib.Seq.{length-take-le}
use Rattle.wire.specs.Wire.{be, splice}
use Rattle.wire.proofs.Laws.{length_be}
use Rattle.format.specs.File.{Ev, event_bytes, events_bytes}
use Rattle.format.specs.Refusal.{refuse, lowest}
use Rattle.format.specs.Mark.{yes}
use Rattle.format.specs.Version.{accepted_of, gte_of}
use Rattle.format.specs.declared.version.Version.{Version}
use Rattle.format.proofs.Files.{events_append}
use Rattle.format.proofs.Versions.{gte_holds, gte_fails}
use Rattle.layout.specs.Columns.{has_family}
use Rattle.layout.specs.declared.columns.Family.TheVariants.{FrameEnd}
use Rattle.game.specs.Stores.{Stores}
use Rattle.game.specs.declared.Game.{Game}
use Rattle.events.specs.Events.{frames_events}
use Rattle.codes.specs.Blocks.{code_events}
use Rattle.ending.specs.End.{end_events}
use Rattle.ending.specs.Tail.{tail_of}
use Rattle.head.specs.Table.{first_place, span_of, head_refusal}
use Rattle.de.specs.Walk.{walk_of}
use Rattle.de.specs.Numbers.{walk_numbers}
use Rattle.de.specs.Cut.{wholly, events_read, zeroed, called_cut}
use Rattle.de.specs.declared.Walked.{Walked}
use Rattle.de.proofs.Runs.{refused}
use Rattle.ser.specs.Write.{entries, game_start_event, events, file}
use Rattle.ser.proofs.Sound.{fresh, length_fits}
use Rattle.ser.proofs.EveryCut as every
use Rattle.ser.proofs.Unfilled as unfilled
use Rattle.ser.proofs.Unfilled.{end}
use Rattle.grammar.specs.Productions.{Block, Replay, block_event, codes_events, start_event, end_event, events_of_frames, events_of, used_in}
use Rattle.grammar.specs.WellFormed.{GoodCodes}
use Rattle.grammar.proofs.Lists.{append_same}
use Rattle.grammar.proofs.Unique.{empty}
use Rattle.read_outline.specs.Listed.{listed_right}
use Rattle.read_judge.specs.Found.{opens_wrong, version_said}
use Rattle.read_judge.specs.Inner.{Bytes}
use Rattle.read_judge.proofs.Places as parts
use Rattle.law_saved.specs.Admitted.{Admitted}
use Rattle.law_saved.proofs.Found as in_file
use Rattle.repair_kept.specs.Kept.{ReplayUpTo}
use Rattle.repair_judge.specs.Open.{open_refusal}
use Rattle.repair_call.specs.Outcome.{unrepaired, RepairMeasured, RepairOutcome}
use Rattle.repair_call.specs.Outcome.RepairMeasured.{early as measured-early, none as measured-none, found as measured-found}
use Rattle.repair_call.specs.Outcome.RepairOutcome.{early as outcome-early, none as outcome-none, short as outcome_short, found as outcome_found}
use Rattle.repair_call.specs.declared.Repaired.{Repaired}
use Rattle.law_repair.specs.Front.{up_to}
use Rattle.law_repair.proofs.Accepted.{early_by, early_done}
use Rattle.law_repair.proofs.Calls.{open_same, begins_same}
use Rattle.law_repair.proofs.Cuts.{take_splice, begins_uncut}
use Rattle.law_repair.proofs.Fronts.{nil_right, no_ends, place, up_to_stop}
use Rattle.law_repair.proofs.Closed.{Where, before, front}
use Rattle.law_repair.proofs.Frames as frames

-- ---- blocks: the last alone says that it is

unlike : (m n : ℕ) → (m ≡ n → ⊥) → (c d : Block) → length c.bytes ≡ 512 → length d.bytes ≡ 512 → block_event m c ≡ block_event n d → ⊥
unlike m n other c d x y e =
    let (a, behind) = append_same c.bytes d.bytes _ _ (omega arith) (ap (λ (k : Ev). k.payload) e) in
    let (b, last) = append_same (be 2 c.used) (be 2 d.used) _ _ (length_be 2 c.used ∙ sym (length_be 2 d.used)) behind in
    other (ap (λ (l : List ℕ). get_or l 1 0) last)

block_long : (v : Version) (b : Block) (bs : List Block) → GoodCodes v (b ∷ bs) → length b.bytes ≡ 512
unfolding GoodCodes
block_long v b [] h = h.1
block_long v b (c ∷ bs) h = h.0

-- some blocks of a replay that begin another's are all of them
all_blocks : (v : Version) (c : Block) (cs ds : List Block) (x m : List Ev) → GoodCodes v (c ∷ cs) → GoodCodes v ds → (codes_events (c ∷ cs) ++ x) ++ m ≡ codes_events ds → m ≡ []
unfolding codes_events GoodCodes
all_blocks v c [] [] x m g h e = absurd (omega (arith, ap length e))
all_blocks v c [] (d ∷ []) x m g h e = empty m (omega (arith, ap length e, length-append x m))
all_blocks v c [] (d ∷ d' ∷ ds) x m g h e = absurd (unlike 1 0 (λ z. omega arith) c d g.1 h.0 (ap (λ (l : List Ev). get_or l 0 (block_event 1 c)) e))
all_blocks v c (c' ∷ cs) [] x m g h e = absurd (omega (arith, ap length e))
all_blocks v c (c' ∷ cs) (d ∷ []) x m g h e = absurd (unlike 0 1 (λ z. omega arith) c d g.0 h.1 (ap (λ (l : List Ev). get_or l 0 (block_event 0 c)) e))
all_blocks v c (c' ∷ cs) (d ∷ d' ∷ ds) x m g h e = all_blocks v c' cs (d' ∷ ds) x m g.2 h.2 (ap (drop 1) e)

-- the table lists some bytes of codes: there are blocks
some_listed : (v : Version) (n blocks used : ℕ) → gte_of v 3 3 ≡ true → (n % 65536 ≡ 0 → ⊥) → listed_right v (1 + n % 65536) blocks used ≡ true → used ≡ 0 → ⊥
unfolding listed_right
some_listed v n blocks used since other e z =
    let a : listed_right v (1 + n % 65536) blocks used ≡ eqb (1 + n % 65536) (1 + used % 65536) = rw (since, ne_eqb (1 + n % 65536) 0 (λ q. omega (arith, q))) in
    let same = eqb-true (1 + n % 65536) (1 + used % 65536) (sym a ∙ e) in
    let none : used % 65536 ≡ 0 = ap (λ (k : ℕ). k % 65536) z in
    other (omega (arith, same, none))

-- codes are there from 3.3, and frames have ends from 3.0
codes_ended : (v : Version) → gte_of v 3 3 ≡ true → has_family v FrameEnd ≡ true
unfolding has_family
codes_ended v e = go (gte_of v 3 0) refl
  where
    go : (b : Bool) → gte_of v 3 0 ≡ b → gte_of v 3 0 ≡ true
    go true q = q
    go false q = let (x, y) = gte_fails v 3 0 q in absurd (⊎_elim (λ l. omega arith) (λ h. let z = y h.0 in omega arith) (gte_holds v 3 3 e))

module _ {g : Game} {s : Stores} (a : Admitted g s) (bytes : Bytes (file g s))
    (given : yes g.codes_given ≡ true) (some_codes : g.actual_size % 65536 ≡ 0 → ⊥) where
  abbrev v : Version
  v = g.frames.version

  abbrev r : Replay
  r = in_file.r a

  ended : has_family v FrameEnd ≡ true
  ended = codes_ended v (in_file.since a given)

  abbrev top : List Ev
  top = start_event r.block ∷ codes_events r.codes

  top_is : events_of v (up_to r 0 0) ≡ top
  unfolding events_of events_of_frames
  top_is = nil_right top

  later : (i j : ℕ) → place a 0 0 ≤ place a i j
  unfolding events_of
  later i j =
      let more = events_of_frames v (take i r.frames) ++ map end_event (take j r.ends) in
      omega (arith, ap (λ (l : List Ev). length (events_bytes l)) top_is, ap length (events_append top more), length-append (events_bytes top) (events_bytes more))

  module _ (q : ℕ) (b : ReplayUpTo (file g s) q) (low : q < place a 0 0) where
    abbrev x : Replay
    x = b.accepted.found.replay

    blocks_there : x.codes ≡ [] → ⊥
    unfolding used_in
    blocks_there z =
        let listed = b.accepted.found.listed in
        let gecko = ap (span_of 0x3D) (frames.table a ended bytes q b) ∙ in_file.gecko_is a ∙ ap (λ (c : Bool). cond c (1 + g.actual_size % 65536) 0) given in
        some_listed v g.actual_size (length x.codes) (used_in x.codes) (in_file.since a given) some_codes
        (sym (λ i. listed_right (frames.version_is a ended bytes q b i) (gecko i) (length x.codes) (used_in x.codes)) ∙ listed) (ap used_in z)

    none_left : (cs : List Block) → x.codes ≡ cs → (m : List Ev) → top ≡ events_of v x ++ m → m ≡ []
    unfolding events_of
    none_left [] e m h = absurd (blocks_there e)
    none_left (c ∷ cs) e m h =
        let good = subst (GoodCodes v) e (subst (λ (w : Version). GoodCodes w x.codes) (frames.version_is a ended bytes q b) b.accepted.found.readable.well.codes) in
        let rest = events_of_frames v x.frames ++ map end_event x.ends in
        all_blocks v c cs r.codes rest m good (in_file.well a).codes (ap (λ (l : List Block). (codes_events l ++ rest) ++ m) (sym e) ∙ sym (ap (drop 1) h))

    never : ⊥
    never = go (frames.stands_in_lem a ended bytes q b)
      where
        go : Where v r (events_of v x) → ⊥
        go (before p) =
            let none = none_left x.codes refl p.rest (sym top_is ∙ p.is) in
            let whole = p.is ∙ ap (λ (l : List Ev). events_of v x ++ l) none ∙ nil_right (events_of v x) in
            omega (arith, frames.at_place a ended bytes q b, ap (λ (l : List Ev). length (events_bytes l)) whole, low)
        go (front i j c e) = omega (arith, frames.at_place a ended bytes q b, ap (λ (l : List Ev). length (events_bytes l)) e, later i j, low)

  -- ---- so it is refused, the start being whole

  abbrev f : List ℕ
  f = file g s

  module _ (k : ℕ) (some : k ≤ length f) (whole : first_place (entries g s) + length (event_bytes (game_start_event g s)) ≤ k) (within : k < place a 0 0) where
    abbrev cut : List ℕ
    cut = take k f

    long : 15 ≤ length cut
    long = omega (arith, length-take-le k f some)

    zero_cut : zeroed cut ≡ take k (zeroed f)
    unfolding zeroed
    zero_cut = sym (take_splice k f 11 (0 ∷ 0 ∷ 0 ∷ 0 ∷ []))

    up_to_end : k ≤ end (in_file.p a)
    unfolding file
    up_to_end =
        let p = in_file.p a in
        let at = parts.stop_at (entries g s) (events g s) (tail_of (yes g.metadata_given) s.metadata) (fresh p) (length_fits p) in
        omega (arith, at, up_to_stop a 0 0 (no_ends refl))

    starts : first_place (entries g s) ≤ k
    starts = omega (arith, whole)

    head : head_refusal (zeroed cut) ≡ 0
    head = go (head_refusal (zeroed cut)) refl
      where
        done : (walk_numbers (walk_of (zeroed cut))).kind ≡ 0
        done =
            ap (λ (l : List ℕ). (walk_numbers (walk_of l)).kind) zero_cut
            ∙ ap (λ (x : Walked). (walk_numbers x).kind) (unfilled.walk (in_file.p a) k starts up_to_end ∙ ap called_cut (every.walk (in_file.p a) k starts))

        go : (n : ℕ) → head_refusal (zeroed cut) ≡ n → head_refusal (zeroed cut) ≡ 0
        go zero e = e
        go (suc n) e = absurd (omega (arith, done, ap (λ (x : Walked). (walk_numbers x).kind) (refused (zeroed cut) n e).0))

    same_first : (P : List Ev → Type 0) → ((e : Ev) (es fs : List Ev) → P (e ∷ es) → P (e ∷ fs)) → P (events_read f) → P (events_read (zeroed cut))
    unfolding events wholly events_bytes
    same_first P alike x =
        let rest = code_events (yes g.codes_given) s.codes g.actual_size ++ (frames_events g.frames s.lent ++ end_events g.frames.version g.end g.double_end) in
        let n = length (event_bytes (game_start_event g s)) in
        let fits = le-leb n (every.present (in_file.p a) k) (omega (arith, whole, length-append (game_start_event g s).payload (events_bytes rest))) in
        let read = ap events_read zero_cut ∙ unfilled.found (in_file.p a) k starts up_to_end ∙ every.found (in_file.p a) k starts in
        subst P (sym (read ∙ ap (λ (c : Bool). cond c (game_start_event g s ∷ wholly (every.present (in_file.p a) k - n) rest) []) fits)) (alike _ _ _ (subst P (in_file.walked a).2 x))

    pub opens : open_refusal cut ≡ 0
    unfolding open_refusal lowest opens_wrong version_said
    opens =
        rw head
        (same_first (λ es. lowest (refuse 19 (opens_wrong es) ∷ refuse 1 (not (accepted_of (version_said es))) ∷ []) ≡ 0) (λ e es fs x. x)
        (sym (early_by f (early_done f (in_file.not_early a))) ∙ in_file.not_early a))

    module _ (w : List ℕ) (four : length w ≡ 4) where
      pub no_beginning : (q : ℕ) → ReplayUpTo (splice cut 11 w) q → ⊥
      no_beginning q b =
          let (c, l) = begins_uncut f bytes k some q (begins_same cut w long four q b) in
          never q c (omega arith)

      -- with 19, and the output stays
      pub coded_measured : (answer : Repaired) → RepairMeasured (splice cut 11 w) answer → answer ≡ unrepaired 19
      coded_measured answer (measured-early n e) = absurd (n (open_same cut w long four ∙ opens))
      coded_measured answer (measured-none z n e) = e
      coded_measured answer (measured-found z p x e) = absurd (no_beginning p x.begins)

      pub coded_outcome : (out : List ℕ) (answer : Repaired) (left : List ℕ) → RepairOutcome (splice cut 11 w) out answer left → (answer ≡ unrepaired 19) × (left ≡ out)
      coded_outcome out answer left (outcome-early n e l) = absurd (n (open_same cut w long four ∙ opens))
      coded_outcome out answer left (outcome-none z n e l) = (e, l)
      coded_outcome out answer left (outcome_short z p x n e l) = absurd (no_beginning p x.begins)
      coded_outcome out answer left (outcome_found z p x n e l) = absurd (no_beginning p x.begins)

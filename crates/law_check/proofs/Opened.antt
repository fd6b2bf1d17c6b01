-- What `read` takes, and not partly, passes the check, given document 01's table and a proper tail.
-- Assumes nothing.
use Prim.Native.Nat.{ℕ, zero, suc, ◌+◌, ◌/◌, ◌%◌, ◌≤◌}
use mathlib.Core.Path.{◌≡◌, refl, sym, ap, subst, ◌∙◌}
use mathlib.Core.Bool.{Bool, true, false, cond, not, ◌&&◌, ◌||◌}
use mathlib.Core.List.{List, [], ◌∷◌, ◌++◌}
use native.Mathlib.Decide.{ℕ_discrete}
use native.Mathlib.Omega.{arith}
use borrow.Author.Tests.{ltb-false, eqb-true, lt-ltb, not-false}
use lib.Dec.{eqb, ltb}
use lib.ListN.{length, get_or, drop}
use Rattle.wire.specs.Wire.{tabulate}
use Rattle.wire.proofs.Laws.{tabulate_length, tabulate_at}
use Rattle.format.specs.Event.{code_of}
use Rattle.format.specs.File.{Ev, table_bytes, events_bytes}
use Rattle.format.specs.Mark.{yes as marked}
use Rattle.format.specs.Refusal.{refuse}
use Rattle.format.specs.Version.{gte_of}
use Rattle.format.specs.declared.event.Event.TheVariants.{Payloads}
use Rattle.format.proofs.Refusals.{passed}
use Rattle.format.proofs.Versions.{no_way}
use Rattle.layout.specs.Payloads.{entries_of}
use Rattle.head.specs.Table.{starts_with, stop_of, all_present, table_of, first_place, span_of, code_twice, table_missing, unsigned, untabled, head_refusal, head_offset}
use Rattle.head.proofs.Filled.{stop_within}
use Rattle.head.proofs.Heads.{entries_length}
use Rattle.de.specs.Walk.{walk_of}
use Rattle.de.specs.declared.Walked.{Walked}
use Rattle.de.specs.declared.Walked.TheVariants as walked
use Rattle.de.proofs.Runs.{refused_walk}
use Rattle.grammar.specs.Productions.{Block, start_event, events_of, used_in}
use Rattle.grammar.specs.Sound.{table_for, SoundEvents, ProperTail, Sound}
use Rattle.grammar.proofs.Orders.{ascending_too}
use Rattle.columns.specs.Columns.{frames_read}
use Rattle.read_outline.specs.Listed.{listed_right}
use Rattle.read_judge.specs.Found.{version_of, early_refusal, gecko_span, Found}
use Rattle.read_judge.specs.Inner.{Bytes, first_at, WalkDone, Headed}
use Rattle.read_judge.specs.declared.first.First.{First}
use Rattle.read_judge.specs.declared.first.First.TheVariants.{Opens, Other}
use Rattle.read_judge.proofs.Accepted.{version_accepted, found_events}
use Rattle.read_judge.proofs.Steps as laws
use Rattle.newer_judge.specs.Opening.{opening_refusal}
use Rattle.newer_judge.proofs.Opening.{opening_same, version_above}
use Rattle.measure.specs.Game.{Kept, codes_mark}
use Rattle.measure.specs.Read.{partly_of, ReadOutcome, early, none, big, short, found}
use Rattle.measure.specs.declared.Opened.{Opened}
use Rattle.law_sound.proofs.Read.{tail_is}
use Rattle.law_sound.proofs.Whole as file
use Rattle.check_file.specs.Check.{sound, CheckOutcome}
use Rattle.check_file.specs.declared.Checked.{Checked}
use Rattle.check_file.proofs.Only.{only}

neither : (a b : Bool) → (a || b) ≡ false → (a ≡ false) × (b ≡ false)
neither false b e = (refl, e)
neither true b e = no_way (sym e)

-- ---- a file that no number before the second 19 applies to

module _ (f : List ℕ) (bytes : Bytes f) (not_early : early_refusal f ≡ 0) where
  walk_done : WalkDone f
  walk_done = go (walk_of f) refl
    where
      go : (w : Walked) → w ≡ walk_of f → WalkDone f
      go (walked.Refused n o) q = absurd ((laws.walk_early f (walk_of f) n o refl (sym q)).0 not_early)
      go (walked.Done events stray whole place) q = laws.kind_done (walk_of f) events stray place whole (sym q)

  accepted : head_refusal f ≡ 0
  accepted = elim (ℕ_discrete (head_refusal f) 0) [
    | yes e ↦ e
    | no n ↦
        let o = head_offset (head_refusal f) in
        absurd ((laws.walk_early f (walk_of f) (head_refusal f) o refl (sym (refused_walk f (head_refusal f) o refl refl n))).0 not_early)
  ]

  abbrev first : ℕ
  first = first_place (table_of f)

  abbrev stop : ℕ
  stop = stop_of f

  missing : table_missing f ≡ false
  unfolding head_refusal untabled
  missing = (neither (table_missing f) (code_twice (table_of f)) (passed 14 (untabled f) [] (passed 13 (unsigned f) (refuse 15 (untabled f) ∷ []) accepted).1).0).0

  starts : first ≤ stop
  unfolding table_missing table_of
  starts =
      let s = get_or f 16 0 in
      let a = ltb stop 17 in
      let b = not (eqb (get_or f 15 0) (code_of Payloads)) in
      let c = not (eqb (s % 3) 1) in
      let d = ltb stop (16 + s) in
      let (front, ends) = neither ((a || b) || c) d missing in
      let (front, sized) = neither (a || b) c front in
      omega (arith, ltb-false stop (16 + s) ends, eqb-true (s % 3) 1 (not-false (eqb (s % 3) 1) sized), entries_length (s / 3) (drop 17 f))

  abbrev spans : List ℕ
  spans = tabulate 256 (λ c. span_of c (table_of f))

  headed : all_present f ≡ true → Headed f spans first stop true
  headed w = record {
    accepted = accepted;
    bytes = bytes;
    many = tabulate_length 256 (λ c. span_of c (table_of f));
    index = λ c l. tabulate_at 0 256 (λ c. span_of c (table_of f)) c l;
    first_is = refl;
    stop_is = refl;
    whole_is = sym w;
    starts = starts;
    within = stop_within f;
  }

  -- ---- with a replay that is found in it, and document 01's table

  module _ (x : Found f) (listed : Bool) (unlisted : listed ≡ false → x.replay.codes ≡ [])
      (table : starts_with (table_bytes (table_for (version_of f) listed x.replay)) (drop 15 f) ≡ true) where
    abbrev es : List Ev
    es = events_of (version_of f) x.replay

    sound_at_lem : (e : First) → e ≡ first_at f spans first stop → SoundEvents f
    sound_at_lem Other q = absurd (let e = laws.opens_early f spans first stop true (headed x.whole) walk_done Other q refl in omega (arith, e, not_early))
    sound_at_lem (Opens v len) q =
        let h = headed x.whole in
        let y = laws.ready f spans first stop true h walk_done v len (Opens v len) q refl refl in
        let same : start_event y.block ∷ y.others ≡ es = sym y.events_are ∙ found_events f not_early x in
        let here : drop first f ≡ events_bytes es ++ drop stop f = y.covers.bytes_are ∙ ap (λ (l : List Ev). events_bytes l ++ drop stop f) same in
        let long : stop ≡ first + length (events_bytes es) = y.covers.long ∙ ap (λ (l : List Ev). first + length (events_bytes l)) same in
        record {
          version = version_of f;
          listed = listed;
          replay = x.replay;
          tail = drop stop f;
          accepted = version_accepted f not_early;
          well = ascending_too (version_of f) x.replay x.readable.well;
          unlisted = unlisted;
          fits = file.fits f accepted x.whole bytes (table_for (version_of f) listed x.replay) table es here long;
          file_is = file.made f accepted x.whole bytes (table_for (version_of f) listed x.replay) table es here long;
        }

    pub found_sound : ProperTail (drop stop f) → Sound f
    found_sound p = let e = sound_at_lem (first_at f spans first stop) refl in record { events = e; proper = subst ProperTail (tail_is f e) p }

-- ---- where codes are not marked as given, there are none

no_blocks : (bs : List Block) → length bs ≡ 0 → bs ≡ []
no_blocks [] e = refl
no_blocks (b ∷ bs) e = absurd (omega arith)

unmarked : (g : Bool) (span blocks actual : ℕ) → cond g (cond (eqb span 0) (eqb blocks 0) (eqb span (1 + actual % 65536))) (eqb blocks 0) ≡ true → marked (cond (g && ltb 0 span) 1 0) ≡ false → blocks ≡ 0
unmarked false span blocks actual e m = eqb-true blocks 0 e
unmarked true zero blocks actual e m = eqb-true blocks 0 e
unmarked true (suc span) blocks actual e m = no_way (sym (rw (lt-ltb 0 (suc span) (omega arith)) at m))

-- ---- the calls

-- a file of an accepted version that `read` does not refuse before there is a replay is not refused by the check
early_none : (f : List ℕ) → opening_refusal f ≡ 0 → partly_of (version_of f) ≡ 0 → early_refusal f ≡ 0
early_none f o w = elim (ℕ_discrete (early_refusal f) 0) [
  | yes e ↦ e
  | no n ↦ elim (ℕ_discrete (early_refusal f) 1) [
    | yes e ↦ absurd (let z : ◌≡◌ {A = ℕ} 1 0 = ap (λ (b : Bool). cond b 0 1) (sym (version_above f e)) ∙ w in omega arith)
    | no m ↦ sym (opening_same f n m) ∙ o
  ]
]

module _ (f : List ℕ) (bytes : Bytes f) where
  -- the table is that of the version, the block's length and the codes that `read` answers
  abbrev Tabled : Opened → Type 0
  Tabled r = starts_with (table_bytes (entries_of r.game.frames.version r.places.block_len (marked r.game.codes_given) r.game.actual_size)) (drop 15 f) ≡ true

  read_sound : (given left : Kept) (r : Opened) → ReadOutcome f given r left → r.refused ≡ 0 → r.partly ≡ 0 → Tabled r → ProperTail (drop (stop_of f) f) → Sound f
  unfolding listed_right frames_read
  read_sound given left r (early n e l) z w t p = absurd (n (sym (ap (λ (o : Opened). o.refused) e) ∙ z))
  read_sound given left r (none n x e l) z w t p = absurd (omega (arith, ap (λ (o : Opened). o.refused) e, z))
  read_sound given left r (big n x b e l) z w t p = absurd (omega (arith, ap (λ (o : Opened). o.refused) e, z))
  read_sound given left r (short n x b s e l) z w t p = absurd (omega (arith, ap (λ (o : Opened). o.refused) e, z))
  read_sound given left r (found n x b s e l) z w t p =
      let v = version_of f in
      found_sound f bytes (early_none f n (sym (ap (λ (o : Opened). o.partly) e) ∙ w)) x (marked (codes_mark f v)) (λ m. no_blocks x.replay.codes (unmarked (gte_of v 3 3) (gecko_span f) (length x.replay.codes) (used_in x.replay.codes) x.listed m)) (subst Tabled e t) p

  pub read_passes : (given left : Kept) (r : Opened) (c : Checked) → ReadOutcome f given r left → r.refused ≡ 0 → r.partly ≡ 0 → Tabled r → ProperTail (drop (stop_of f) f) → CheckOutcome f c
      → (c.refused ≡ 0) × (c.offset ≡ 0)
  read_passes given left r c o z w t p h = only f c.refused 0 c.offset 0 h (sound (read_sound given left r o z w t p) refl refl)

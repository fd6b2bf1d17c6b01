-- What is known of a file at each step of its judgement.
-- Assumes nothing.
use Prim.Native.Nat.{ℕ, zero, suc, ◌+◌, ◌*◌, ◌/◌, ◌^◌, ◌≤◌, ◌<◌}
use mathlib.Core.Path.{◌≡◌, refl, sym, ap, subst, ◌∙◌}
use mathlib.Core.Bool.{Bool, true, false, not, cond, ◌||◌}
use mathlib.Core.List.{List, [], ◌∷◌}
use native.Mathlib.Omega.{arith}
use native.Mathlib.Nat.{mul_comm}
use borrow.Author.Tests.{le-ltb}
use lib.Dec.{eqb, ltb, lit<}
use lib.ListN.{length, get_or, take, drop, length-take}
use lib.Seq.{get_or-drop}
use Rattle.grammar.specs.Productions.{codes_bytes}
use Rattle.wire.specs.Wire.{number, part}
use Rattle.wire.proofs.Laws.{length_ranged_below}
use Rattle.format.specs.Refusal.{refuse, lowest}
use Rattle.format.specs.Version.{accepted_of}
use Rattle.format.specs.declared.version.Version.{Version}
use Rattle.record.proofs.Numbers.{number_small}
use Rattle.head.specs.Table.{stop_of, entries_in, table_of, first_place, span_of}
use Rattle.head.specs.Numbers.{step_numbers}
use Rattle.head.specs.Inner.{HeadOf, Opened}
use Rattle.head.specs.declared.Step.{Step}
use Rattle.head.specs.declared.Step.TheVariants.{Event, Ends, Cut, Refused}
use Rattle.head.specs.declared.table.Head.{Head}
use Rattle.de.specs.Walk.{run_of, answer_at, walk_of}
use Rattle.de.specs.Numbers.{WalkNumbers, walk_numbers}
use Rattle.de.specs.Cut.{events_read}
use Rattle.de.specs.declared.Walked.{Walked}
use Rattle.de.specs.declared.Walked.TheVariants as walked
use Rattle.de.proofs.Runs.{refused_walk}
use Rattle.de.proofs.Only.{refused_by_number}
use Rattle.grammar.specs.WellFormed.{Each}
use Rattle.frames.specs.Judge.{too_many}
use Rattle.game.specs.declared.frames.Frames.{Frames}
use Rattle.columns.specs.Columns.{frames_read}
use Rattle.read_outline.proofs.Laws.{length_part}
use Rattle.read_judge.specs.Found.{opens_wrong, version_of, early_refusal, refusal_offset, Found, too_big}
use Rattle.read_judge.specs.Inner.{Bytes, first_at, Covers, Ready, Holds, Counted, Refuses, early, none, big, Accepts, Verdicts, refused_as, counts_by, WalkDone, Headed, Started}
use Rattle.read_judge.specs.declared.Verdict.{Verdict}
use Rattle.read_judge.specs.declared.first.First.{First}
use Rattle.read_judge.specs.declared.first.First.TheVariants.{Opens, Other}
use Rattle.read_judge.specs.declared.parts.Parts.{Parts}
use Rattle.read_judge.proofs.Walked.{all_read, comes_to_end}
use Rattle.read_judge.proofs.Opening as opening

-- ---- the walk

-- a walk that is not refused has no offset
no_offset : (w : Walked) → (walk_numbers w).kind ≡ 0 → (walk_numbers w).offset ≡ 0
no_offset (walked.Done events stray whole place) e = refl
no_offset (walked.Refused number offset) e = absurd (omega arith)

pub kind_done : (w : Walked) (events stray place : ℕ) (whole : Bool) → w ≡ walked.Done events stray whole place → (walk_numbers w).kind ≡ 0
kind_done w events stray place whole e = ap (λ x. (walk_numbers x).kind) e

-- a walk that is refused says which number and offset the file is refused with
pub walk_early : (f : List ℕ) (w : Walked) (number offset : ℕ) → walk_numbers w ≡ walk_numbers (walk_of f) → w ≡ walked.Refused number offset
    → (early_refusal f ≡ 0 → ⊥) × (number ≡ early_refusal f) × (offset ≡ refusal_offset f)
unfolding early_refusal lowest
walk_early f w number offset e q =
    let same : walk_numbers (walk_of f) ≡ walk_numbers (walked.Refused number offset) = sym e ∙ ap walk_numbers q in
    let kind : (walk_numbers (walk_of f)).kind ≡ 1 = ap (λ (n : WalkNumbers). n.kind) same in
    let is : early_refusal f ≡ number = rw kind (ap (λ (n : WalkNumbers). n.number) same) in
    let some = refused_by_number f kind in
    (λ z. omega (arith, ap (λ (n : WalkNumbers). n.number) same), sym is, sym (ap (λ (n : WalkNumbers). n.offset) same))

pub walk_refused : (f : List ℕ) (w : Walked) (number offset : ℕ) → walk_numbers w ≡ walk_numbers (walk_of f) → w ≡ walked.Refused number offset → Refuses f number offset
walk_refused f w number offset e q = let (n, a, b) = walk_early f w number offset e q in early n a b

-- ---- the head

pub head_early : (f spans : List ℕ) (h : Head) → HeadOf h spans f → (h.refusal ≡ 0 → ⊥) → (early_refusal f ≡ 0 → ⊥) × (h.refusal ≡ early_refusal f) × (h.offset ≡ refusal_offset f)
head_early f spans h o n = walk_early f (walk_of f) h.refusal h.offset refl (sym (refused_walk f h.refusal h.offset o.refusal_is o.offset_is n))

pub head_refused : (f spans : List ℕ) (h : Head) → HeadOf h spans f → (h.refusal ≡ 0 → ⊥) → Refuses f h.refusal h.offset
head_refused f spans h o n = let (m, a, b) = head_early f spans h o n in early m a b

pub headed : (f spans : List ℕ) (h : Head) → HeadOf h spans f → Bytes f → h.refusal ≡ 0 → Headed f spans h.first h.stop h.whole
headed f spans h o bytes e =
    let a = sym o.refusal_is ∙ e in
    let r = o.opened a 0 (omega arith) in
    record {
      accepted = a;
      bytes = bytes;
      many = r.index.many;
      index = r.index.spans_are;
      first_is = r.first_is;
      stop_is = r.stop_is;
      whole_is = r.whole_is;
      starts = r.starts;
      within = r.within;
    }

pub started : (f spans : List ℕ) (first stop : ℕ) (whole : Bool) → Headed f spans first stop whole → whole ≡ true → (v : Version) (len : ℕ) (e : First) → e ≡ first_at f spans first stop → e ≡ Opens v len
    → accepted_of v ≡ true → Started f spans v first stop len
started f spans first stop whole h w v len e q o a = record { headed = subst (λ (b : Bool). Headed f spans first stop b) w h; opens = sym q ∙ o; new_enough = a }

-- ---- the table's sizes have two bytes

drop_bytes : (f : List ℕ) → Bytes f → (n : ℕ) → Bytes (drop n f)
drop_bytes f b n i = subst (λ (x : ℕ). x < 256) (sym (get_or-drop n f i 0)) (b (n + i))

part_bytes : (f : List ℕ) → Bytes f → (at n i : ℕ) → get_or (part f at n) i 0 < 256
unfolding part
part_bytes f b at n = take_bytes (drop at f) (drop_bytes f b at) n
  where
    take_bytes : (l : List ℕ) → Bytes l → (n i : ℕ) → get_or (take n l) i 0 < 256
    take_bytes l b zero i = lit< tt
    take_bytes [] b (suc n) i = lit< tt
    take_bytes (x ∷ l) b (suc n) zero = b 0
    take_bytes (x ∷ l) b (suc n) (suc i) = take_bytes l (λ j. b (suc j)) n i

span_small : (c n : ℕ) (bs : List ℕ) → Bytes bs → span_of c (entries_in n bs) ≤ 65536
unfolding span_of entries_in part
span_small c zero bs b = omega arith
span_small c (suc n) bs b = go (eqb (get_or bs 0 0) c) (span_small c n (drop 3 bs) (drop_bytes bs b 3))
  where
    go : (t : Bool) → span_of c (entries_in n (drop 3 bs)) ≤ 65536 → cond t (1 + number (take 2 (drop 1 bs))) (span_of c (entries_in n (drop 3 bs))) ≤ 65536
    go true h =
        let small : number (take 2 (drop 1 bs)) < 256 ^ 2 = number_small 2 (take 2 (drop 1 bs)) (omega (arith, length-take 2 (drop 1 bs))) (part_bytes bs b 1 2) in
        let z : 256 ^ 2 ≡ 65536 = refl in
        omega arith
    go false h = h

table_small : (f : List ℕ) → Bytes f → (c : ℕ) → span_of c (table_of f) ≤ 65536
unfolding table_of
table_small f b c = span_small c (get_or f 16 0 / 3) (drop 17 f) (drop_bytes f b 17)

-- a walk that is not refused has no refusal where it stops
step_refused : (stop events place : ℕ) (s : Step) → (walk_numbers (answer_at stop events place s)).kind ≡ 0 → (step_numbers s).kind ≡ 3 → ⊥
step_refused stop events place (Event code at payload len next) k e = omega arith
step_refused stop events place Ends k e = omega arith
step_refused stop events place Cut k e = omega arith
step_refused stop events place (Refused number offset) k e = omega arith

not_refused : (f : List ℕ) → (walk_numbers (walk_of f)).kind ≡ 0 → (step_numbers (run_of f).last).kind ≡ 3 → ⊥
unfolding walk_of
not_refused f k = step_refused (stop_of f) (length (run_of f).seen) (run_of f).place (run_of f).last k

-- ---- the first event

module _ (f spans : List ℕ) (first stop : ℕ) (whole : Bool) (h : Headed f spans first stop whole) (k : WalkDone f) where
  starts_here : first_place (table_of f) ≤ stop_of f
  starts_here = omega (arith, h.first_is, h.stop_is, h.starts)

  first_said : (e : First) → e ≡ first_at f spans first stop → opening.FirstSays f spans h.accepted h.bytes h.index starts_here e
  first_said e q =
      subst (opening.FirstSays f spans h.accepted h.bytes h.index starts_here)
      (sym (q ∙ ap (λ (n : ℕ). first_at f spans n stop) h.first_is ∙ ap (λ (n : ℕ). first_at f spans (first_place (table_of f)) n) h.stop_is))
      (opening.first_said f spans h.accepted h.bytes h.index starts_here)

  pub offset_none : 0 ≡ refusal_offset f
  offset_none = sym (no_offset (walk_of f) k)

  by_events : early_refusal f ≡ lowest (refuse 19 (opens_wrong (events_read f)) ∷ refuse 1 (not (accepted_of (version_of f))) ∷ [])
  unfolding early_refusal lowest
  by_events = rw k

  pub opens_early : (e : First) → e ≡ first_at f spans first stop → e ≡ Other → early_refusal f ≡ 19
  unfolding lowest
  opens_early e q o =
      let wrong : opens_wrong (events_read f) ≡ true = first_said Other (sym o ∙ q) in
      by_events ∙ rw wrong

  pub opens_not : (e : First) → e ≡ first_at f spans first stop → e ≡ Other → Verdicts f (refused_as 19)
  opens_not e q o = let is = opens_early e q o in early (λ z. omega arith) (sym is) offset_none

  module _ (v : Version) (len : ℕ) (e : First) (q : e ≡ first_at f spans first stop) (o : e ≡ Opens v len) where
    pub said : opening.Opened (events_read f) v len
    said = first_said (Opens v len) (sym o ∙ q)

    right : opens_wrong (events_read f) ≡ false
    unfolding opens_wrong
    right = rw said.events_are (longer (length said.block) (omega (arith, said.long, said.len_is)))
      where
        longer : (n : ℕ) → 4 ≤ n → false || ltb n 4 ≡ false
        longer n l = le-ltb n 4 l

    pub new_early : accepted_of v ≡ false → early_refusal f ≡ 1
    unfolding lowest
    new_early a = by_events ∙ rw (right, ← said.version_is, a)

    pub too_new_lem : accepted_of v ≡ false → Verdicts f (refused_as 1)
    too_new_lem a = let is = new_early a in early (λ z. omega arith) (sym is) offset_none

    pub ready : whole ≡ true → Ready f spans v first stop len
    unfolding Each
    ready w =
        let present = sym h.whole_is ∙ w in
        let ends = comes_to_end f spans h.accepted h.bytes h.index starts_here present (not_refused f k) in
        let all = all_read f spans h.accepted h.bytes h.index starts_here ends in
        let covers = subst (λ l. Covers f spans first stop l) said.events_are (subst (λ (n : ℕ). Covers f spans n stop (events_read f)) (sym h.first_is) (subst (λ (n : ℕ). Covers f spans (first_place (table_of f)) n (events_read f)) (sym h.stop_is) all)) in
        record {
          block = said.block;
          others = said.others;
          covers = covers;
          events_are = said.events_are;
          len_is = said.len_is;
          short = omega (arith, table_small f h.bytes 0x36, h.index 0x36 (lit< tt), covers.spanned.0, said.len_is);
          version_is = said.version_is;
          present = present;
          stop_is = h.stop_is;
          within = h.within;
          many = h.many;
          listed = h.index 0x3D (lit< tt);
        }

    module _ (a : accepted_of v ≡ true) where
      pub none_early : early_refusal f ≡ 0
      unfolding lowest
      none_early = by_events ∙ rw (right, ← said.version_is, a)

      pub not_held : (Found f → ⊥) → Verdicts f (refused_as 19)
      not_held n = none none_early n refl refl

      pub cut : whole ≡ false → Verdicts f (refused_as 19)
      cut w = not_held (λ x. let z : ◌≡◌ {A = ℕ} 0 1 = ap (λ (c : Bool). cond c 0 1) (sym x.whole ∙ sym h.whole_is ∙ w) in omega arith)

      pub counted : (p : Parts) → Holds f first stop p → Counted f first stop p
      counted p held = record { early = none_early; holds = held; first_is = h.first_is; stop_is = h.stop_is; within = h.within }

-- ---- the counts

counts_only : (f g : Frames) (codes metadata : ℕ) → f.counts ≡ g.counts → too_many f codes metadata ≡ too_many g codes metadata
unfolding too_many
counts_only f g codes metadata e = rw e

module _ (f : List ℕ) (first stop : ℕ) (p : Parts) (c : Counted f first stop p) where
  codes_long : 512 * p.blocks ≡ length (codes_bytes c.holds.found.replay.codes)
  codes_long =
      sym (ap length (sym c.holds.codes_are)
      ∙ length_ranged_below (λ k. part f (p.codes_at + 517 * k + 1) 512) 512 0 p.blocks (λ k l. length_part f (p.codes_at + 517 * k + 1) 512 (omega (arith, c.holds.codes_in)))
      ∙ mul_comm p.blocks 512)

  pub codes_small : 512 * p.blocks ≤ length f
  codes_small = omega (arith, c.holds.codes_in)

  same_counts : counts_by p.tally ≡ (frames_read (version_of f) c.holds.found.replay.frames).counts
  same_counts =
      let t = c.holds.tallied in
      λ i. record { frames = t.frames i; items = t.items i; fods = t.fods i; whispys = t.whispys i; stadiums = t.stadiums i }

  same_size : (g : Frames) → g.counts ≡ counts_by p.tally → too_many g (512 * p.blocks) 0 ≡ too_big (version_of f) c.holds.found.replay
  same_size g e =
      counts_only g (frames_read (version_of f) c.holds.found.replay.frames) (512 * p.blocks) 0 (e ∙ same_counts)
      ∙ ap (λ (n : ℕ). too_many (frames_read (version_of f) c.holds.found.replay.frames) n 0) codes_long

  pub too_big_lem : (g : Frames) → g.counts ≡ counts_by p.tally → (b : Bool) → b ≡ too_many g (512 * p.blocks) 0 → b ≡ true → Verdicts f (refused_as 2)
  too_big_lem g e b q t = big c.early c.holds.found (sym (same_size g e) ∙ sym q ∙ t) refl refl

  pub accepts : (g : Frames) → g.counts ≡ counts_by p.tally → (b : Bool) → b ≡ too_many g (512 * p.blocks) 0 → b ≡ false → Accepts f first stop p
  accepts g e b q t = record {
    early = c.early;
    holds = c.holds;
    small = sym (same_size g e) ∙ sym q ∙ t;
    first_is = c.first_is;
    stop_is = c.stop_is;
    within = c.within;
  }

pub verdict_as : (f : List ℕ) (r q : Verdict) → r ≡ q → Verdicts f q → Verdicts f r
verdict_as f r q e v = subst (λ (x : Verdict). Verdicts f x) (sym e) v

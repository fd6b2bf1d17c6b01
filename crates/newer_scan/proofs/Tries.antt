-- One event: what the tests of the bytes at its place say of the machine over its known front.
-- Assumes nothing.
use mathlib.Core.Path.{◌≡◌, refl, sym, ap, ap₂, subst, ◌∙◌}
use mathlib.Core.Bool.{Bool, true, false, not, cond, ◌&&◌, ◌||◌}
use mathlib.Core.List.{List, ◌∷◌}
use mathlib.Core.Option.{Option, none, some}
use Prim.Native.Nat.{ℕ, suc, ◌+◌, ◌≤◌, ◌<◌}
use native.Mathlib.Decide.{dec_lt}
use native.Mathlib.Omega.{arith}
use borrow.Author.Tests.{le-leb, leb-true, eq-eqb, ne_eqb}
use lib.Dec.{leb}
use lib.ListN.{length, get_or}
use Rattle.format.specs.File.{Ev}
use Rattle.format.specs.declared.version.Version.{Version}
use Rattle.layout.specs.Columns.{has_family}
use Rattle.layout.specs.Payloads.{head_size, record_size}
use Rattle.layout.specs.declared.columns.Family.{Family}
use Rattle.layout.specs.declared.columns.Family.TheVariants.{Pre, Post, FrameStart, Item, FrameEnd, FodPlatform, DreamlandWhispy, StadiumTransformation}
use Rattle.grammar.specs.WellFormed.{ascending, may_come}
use Rattle.grammar.specs.Machine.{family_of, rank_of, Said, State, slot_said, said_by, player, closed, in_frame, orderly, allowed, after, on_family, rest}
use Rattle.grammar.proofs.Tests.{both}
use Rattle.known.specs.Known.{is_newer, front}
use Rattle.known.proofs.Newest.{has_family_lem}
use Rattle.known.proofs.Fronts.{front_id, front_size, front_short, front_said}
use Rattle.read_order.specs.Inner.{said_of}
use Rattle.read_order.specs.declared.stage.Word.{Word}
use Rattle.read_scan.specs.Counts.{counted_of, tally_of}
use Rattle.read_scan.specs.Inner.{said_at, kind_of, span_in, sizes_in, index_of}
use Rattle.read_scan.specs.declared.event.Kind.TheVariants.{Other}
use Rattle.read_scan.specs.declared.tally.Tally.{Tally}
use Rattle.read_scan.proofs.Same.{said_same, counted_same, big}
use Rattle.read_judge.specs.Inner.{Covers}
use Rattle.newer_events.proofs.Events.{id_stands, said_stands}
use Rattle.newer_order.specs.Inner.{newest, state_of}
use Rattle.newer_order.specs.declared.stage.Stage.{Stage}
use Rattle.newer_order.proofs.Newest.{orderly_newest}
use Rattle.newer_scan.specs.Inner.{may_count, takes_at, Turned}
use Rattle.newer_scan.specs.declared.event.Turn.{Turn}

-- ---- what the code's tests are

pub kind_other : (x : Option Family) → kind_of x ≡ Other → x ≡ none
kind_other none e = refl
kind_other (some g) e = let z : ◌≡◌ {A = ℕ} 0 1 = cc in absurd (omega arith)

size_is : (v : Version) (family : Family) → get_or (sizes_in v) (index_of family) 0 ≡ span_in v family
size_is v Pre = refl
size_is v Post = refl
size_is v FrameStart = refl
size_is v Item = refl
size_is v FrameEnd = refl
size_is v FodPlatform = refl
size_is v DreamlandWhispy = refl
size_is v StadiumTransformation = refl

module _ (v : Version) (sizes : List ℕ) (sizes_are : sizes ≡ sizes_in v) where
  pub eight : length sizes ≡ 8
  eight = ap length sizes_are

  pub size_at_lem : (family : Family) (i : ℕ) → i ≡ index_of family → get_or sizes i 0 ≡ span_in v family
  size_at_lem family i i-is = ap₂ (λ (l : List ℕ) (k : ℕ). get_or l k 0) sizes_are i-is ∙ size_is v family

-- a version's event has its id at least
pub five : (v : Version) (family : Family) → 5 ≤ span_in v family
unfolding span_in
five v family = go (has_family v family)
  where
    go : (b : Bool) → 5 ≤ cond b (1 + record_size family v) 4294967296
    go true = let h = big family v in omega arith
    go false = omega arith

-- ---- the test of an event

module _ (v : Version) (file : List ℕ) (m : Stage) (at n : ℕ) (family : Family) (w : Word) (said : said_of w ≡ said_at file at) (b : Bool)
    (b-is : b ≡ orderly newest ascending (state_of m) family (said_of w)) where
  pub takes_not : (a : Bool) → a ≡ leb (span_in v family) n → a ≡ true → b ≡ false → takes_at v file m at n family ≡ false
  unfolding takes_at
  takes_not a x y z = rw (sym x ∙ y) (ap (orderly newest ascending (state_of m) family) (sym said) ∙ sym b-is ∙ z)

  pub takes_is : (a : Bool) → a ≡ leb (span_in v family) n → a ≡ true → b ≡ true → takes_at v file m at n family ≡ true
  unfolding takes_at
  takes_is a x y z = rw (sym x ∙ y) (ap (orderly newest ascending (state_of m) family) (sym said) ∙ sym b-is ∙ z)

pub short_not : (v : Version) (file : List ℕ) (m : Stage) (at n : ℕ) (family : Family) (a : Bool) → a ≡ leb (span_in v family) n → a ≡ false → takes_at v file m at n family ≡ false
unfolding takes_at
short_not v file m at n family a x y = rw (sym x ∙ y)

-- a Pre in order is a player's
pub seated : (m : Stage) (w : Word) (family : Family) → orderly newest ascending (state_of m) family (said_of w) ≡ true → may_count family w
unfolding orderly
seated m w family e f =
    let stands = in_frame (state_of m) 2 (said_of w) || (not (has_family newest FrameStart) && closed newest (state_of m)) in
    let may = may_come ascending (state_of m).due (slot_said (said_of w)) in
    let q : stands && (player (said_of w) && may) ≡ true = ap (λ (g : Family). orderly newest ascending (state_of m) g (said_of w)) (sym f) ∙ e in
    (both (player (said_of w)) may (both stands (player (said_of w) && may) q).1).0

pub turned_as : (v : Version) (file : List ℕ) (m : Stage) (t : Tally) (at n code : ℕ) (r q : Turn) → r ≡ q → Turned v file m t at n code r → Turned v file m t at n code q
turned_as v file m t at n code r q e h = subst (Turned v file m t at n code) e h

-- ---- the machine over its front

module _ (v : Version) (newer : is_newer v ≡ true) (file spans : List ℕ) (at stop : ℕ) (e : Ev) (es : List Ev) (c : Covers file spans at stop (e ∷ es)) (m : Stage) (t : Tally)
    (n : ℕ) (n-is : n ≡ suc (length e.payload)) (family : Family) (is : family_of e.code ≡ some family) where
  abbrev s : State
  s = state_of m

  abbrev a : Said
  a = said_at file at

  abbrev b : Said
  b = said_by (front v e)

  span_is : span_in v family ≡ 1 + record_size family v
  unfolding span_in
  span_is = rw (has_family_lem v newer family)

  module _ (whole : record_size family v ≤ length e.payload) where
    ids : a.id ≡ b.id
    ids = id_stands file spans at stop e es c (let h = big family v in omega arith) ∙ sym (front_id v e family is)

    who : head_size family ≡ 6 → a ≡ b
    who h = said_stands file spans at stop e es c (omega (arith, h)) ∙ sym (front_said v e family is h)

    pre_who : family ≡ Pre → a ≡ b
    pre_who f = who (ap head_size f)

    post_who : family ≡ Post → a ≡ b
    post_who f = who (ap head_size f)

    same : (orderly v ascending s family a ≡ orderly v ascending s family b) × (after s family a ≡ after s family b)
    same = said_same v ascending s a b ids family pre_who post_who

    allowed_whole : allowed v ascending s family (front v e) ≡ takes_at v file m at n family
    unfolding allowed takes_at
    allowed_whole =
        rw (
          has_family_lem v newer family,
          eq-eqb (length (front v e).payload) (record_size family v) (front_size v e family is whole),
          le-leb (span_in v family) n (omega (arith, span_is)),
        )
        (sym same.0 ∙ sym (orderly_newest v (has_family_lem v newer FrameStart) (has_family_lem v newer FrameEnd) s ascending family a))

    tally_whole : (ys : List Ev) → tally_of m.rank m.id t (front v e ∷ ys) ≡ tally_of (rank_of family) a.id (counted_of t m.rank m.id family a) ys
    unfolding tally_of on_family
    tally_whole ys =
        rw is
        (ap₂ (λ (i : ℕ) (u : Tally). tally_of (rank_of family) i u ys) (sym ids) (sym (counted_same t m.rank m.id a b ids family pre_who)))

  whole_if : takes_at v file m at n family ≡ true → record_size family v ≤ length e.payload
  unfolding takes_at
  whole_if q =
      let l = leb-true (span_in v family) n (both (leb (span_in v family) n) (orderly newest ascending s family a) q).0 in
      omega (arith, span_is, l)

  -- taken: the machine goes on, and counts
  pub goes_on : takes_at v file m at n family ≡ true → (ys : List Ev) → rest v ascending s (front v e ∷ ys) ≡ rest v ascending (after s family a) ys
  unfolding rest on_family
  goes_on q ys =
      let w = whole_if q in
      rw (is, allowed_whole w ∙ q) (ap (λ (x : State). rest v ascending x ys) (sym (same w).1))

  pub counts_on : takes_at v file m at n family ≡ true → (ys : List Ev) → tally_of m.rank m.id t (front v e ∷ ys) ≡ tally_of (rank_of family) a.id (counted_of t m.rank m.id family a) ys
  counts_on q ys = tally_whole (whole_if q) ys

  short_fails : length e.payload < record_size family v → allowed v ascending s family (front v e) ≡ false
  unfolding allowed
  short_fails l =
      rw (
        has_family_lem v newer family,
        ne_eqb (length (front v e).payload) (record_size family v) (λ x. let h = front_short v e family is x in omega arith),
      )

  -- refused: it has no rest
  pub fails_here : takes_at v file m at n family ≡ false → (ys : List Ev) → rest v ascending s (front v e ∷ ys) ≡ none
  unfolding rest on_family
  fails_here q ys =
      let no : allowed v ascending s family (front v e) ≡ false =
      elim (dec_lt (length e.payload) (record_size family v)) [
        | yes l ↦ short_fails l
        | no l ↦ allowed_whole (omega arith) ∙ q
      ] in
      rw (is, no)

-- What the judge of a run says: a refusal's number, or that the run is in stores that were judged and has room.
-- Assumes nothing.
use mathlib.Core.Path.{◌≡◌, refl, sym, ap, ◌∙◌}
use mathlib.Core.Bool.{Bool, true, false, ◌||◌}
use mathlib.Core.List.{List, [], ◌∷◌}
use Prim.Native.Nat.{ℕ, zero, suc, ◌+◌, ◌*◌, ◌-◌, ◌≤◌, ◌<◌}
use native.Mathlib.Nat.{mul-le-mul}
use native.Mathlib.Omega.{arith}
use borrow.Author.Tests.{lt-ltb, le-ltb, leb-false, ltb-false}
use lib.Dec.{leb, ltb}
use lib.ListN.{length}
use Rattle.format.specs.Refusal.{Refusal, refuse, lowest, one_of}
use Rattle.format.specs.declared.version.Version.{Version}
use Rattle.format.proofs.Refusals.{passed, lowest_before, lowest_after, lowest_first}
use Rattle.format.proofs.Tests.{one_passed}
use Rattle.layout.specs.Columns.{widths_of}
use Rattle.layout.specs.declared.columns.Family.{Family}
use Rattle.game.specs.Frames.{rows_of, slot_blocks}
use Rattle.game.specs.Stores.{Lent, cells_of}
use Rattle.game.specs.declared.frames.Frames.{Frames}
use Rattle.frames.specs.Inner.{Accepted}
use Rattle.frames.specs.Judge.{refusals}
use Rattle.frames.proofs.Accepted.{numbered, accepted}
use Rattle.transpose.specs.Answers.{unless_refused}
use Rattle.rows_run.specs.Run.{family_at, of_players, row_length, no_run, run_length, rows_run_refusal}
use Rattle.rows_run.specs.Inner.{Running, run_refused}

-- ---- as the code asks it
four_tests : (a b c d : Bool) → (((a || b) || c) || d) ≡ one_of (a ∷ b ∷ c ∷ d ∷ [])
unfolding one_of
four_tests true b c d = refl
four_tests false true c d = refl
four_tests false false true d = refl
four_tests false false false true = refl
four_tests false false false false = refl

pub no_run_as : (f : Frames) (number slot a b : ℕ) {family : Family} {blocks rows : ℕ} → family ≡ family_at number → blocks ≡ slot_blocks f family → rows ≡ rows_of f family
    → (((ltb 7 number || leb blocks slot) || ltb b a) || ltb rows b) ≡ no_run f number slot a b
unfolding no_run
no_run_as f number slot a b {family} {blocks} {rows} ef eb er =
    let eb' : blocks ≡ slot_blocks f (family_at number) = eb ∙ ap (slot_blocks f) ef in
    let er' : rows ≡ rows_of f (family_at number) = er ∙ ap (rows_of f) ef in
    rw (eb', er') (four_tests (ltb 7 number) (leb (slot_blocks f (family_at number)) slot) (ltb b a) (ltb (rows_of f (family_at number)) b))

module _ (v : Version) (family : Family) {n : ℕ} {t : Bool} (e : n ≡ length (widths_of family v)) (q : t ≡ of_players family) where
  pub players_length : t ≡ true → n + 1 ≡ row_length v family
  players_length y = rw (sym q ∙ y, e)

  pub plain_length : t ≡ false → n ≡ row_length v family
  plain_length y = rw (sym q ∙ y) (omega (arith, e))

pub run_fits : (a b rows k : ℕ) → b ≤ rows → rows ≤ 4194304 → k ≤ 33 → (b - a) * k ≤ 4194304 * 33
run_fits a b rows k h l m = let few : b - a ≤ 4194304 = omega (arith, h, l) in mul-le-mul few m

module _ (f : Frames) (number a b room : ℕ) {family : Family} {k : ℕ} (ef : family ≡ family_at number) (ek : k ≡ row_length f.version family) where
  length_as : (b - a) * k ≡ run_length f (family_at number) a b
  length_as = ap (λ (x : ℕ). (b - a) * x) (ek ∙ ap (row_length f.version) ef)

  pub run_short : room < (b - a) * k → ltb room (run_length f (family_at number) a b) ≡ true
  run_short h = lt-ltb room (run_length f (family_at number) a b) (rw (← length_as) h)

  pub run_long : (b - a) * k ≤ room → ltb room (run_length f (family_at number) a b) ≡ false
  run_long h = le-ltb room (run_length f (family_at number) a b) (rw (← length_as) h)

-- ---- what it says
module _ (f : Frames) (number slot a b : ℕ) (e : no_run f number slot a b ≡ false) where
  tests : (ltb 7 number ≡ false) × (leb (slot_blocks f (family_at number)) slot ≡ false) × (ltb b a ≡ false) × (ltb (rows_of f (family_at number)) b ≡ false)
  unfolding no_run
  tests =
      let one = one_passed _ _ e in
      let two = one_passed _ _ one.1 in
      let three = one_passed _ _ two.1 in
      (one.0, two.0, three.0, (one_passed _ _ three.1).0)

  pub known : number ≤ 7
  known = ltb-false 7 number tests.0

  pub slot_in : slot < slot_blocks f (family_at number)
  slot_in = leb-false (slot_blocks f (family_at number)) slot tests.1

  pub range : a ≤ b
  range = ltb-false b a tests.2

  pub inside : b ≤ rows_of f (family_at number)
  inside = ltb-false (rows_of f (family_at number)) b tests.3

module _ (f : Frames) (s : Lent) (number slot a b room : ℕ) where
  abbrev last : List Refusal
  last = refuse 13 (no_run f number slot a b) ∷ refuse 12 (ltb room (run_length f (family_at number) a b)) ∷ []

  pub first_refuses : (n : ℕ) → n ≡ lowest (refusals f s 0 0) → (n ≡ 0 → ⊥) → n ≡ rows_run_refusal f s number slot a b room
  unfolding rows_run_refusal
  first_refuses n e ne = e ∙ sym (lowest_before (refusals f s 0 0) last (λ z. ne (e ∙ z)))

  last_decides : lowest (refusals f s 0 0) ≡ 0 → rows_run_refusal f s number slot a b room ≡ lowest last
  unfolding rows_run_refusal
  last_decides e = lowest_after (refusals f s 0 0) last (numbered f s 0 0) e

  -- what the code answers is the definition's
  pub run_judged : (n : ℕ) → n ≡ lowest (refusals f s 0 0) → run_refused n f number slot a b room ≡ rows_run_refusal f s number slot a b room
  unfolding run_refused unless_refused
  run_judged zero e = sym (last_decides (sym e))
  run_judged (suc n) e = first_refuses (suc n) e (λ z. absurd (omega (arith, z)))

  pub rest_decides : {m : ℕ} → 0 ≡ lowest (refusals f s 0 0) → m ≡ run_refused 0 f number slot a b room → m ≡ rows_run_refusal f s number slot a b room
  rest_decides e h = h ∙ run_judged 0 e

  module _ (e : rows_run_refusal f s number slot a b room ≡ 0) where
    pub run_first : lowest (refusals f s 0 0) ≡ 0
    unfolding rows_run_refusal
    run_first = lowest_first (refusals f s 0 0) last e

    pub run_accepted : Accepted f s
    run_accepted = accepted f s 0 0 run_first

    rest : (no_run f number slot a b ≡ false) × (ltb room (run_length f (family_at number) a b) ≡ false)
    rest =
        let one = passed _ _ _ (sym (last_decides run_first) ∙ e) in
        (one.0, (passed _ _ _ one.1).0)

    pub run_there : no_run f number slot a b ≡ false
    run_there = rest.0

    pub run_room : run_length f (family_at number) a b ≤ room
    run_room = ltb-false room (run_length f (family_at number) a b) rest.1

    pub running : Running f (family_at number) (cells_of s.cells (family_at number)) slot a b
    running = record {
      store = run_accepted.stores (family_at number);
      modest = run_accepted.modest;
      even = run_accepted.presence.even;
      slot_in = slot_in f number slot a b run_there;
      range = range f number slot a b run_there;
      inside = inside f number slot a b run_there;
    }

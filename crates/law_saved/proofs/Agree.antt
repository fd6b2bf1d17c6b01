-- `measure` and `read` answer alike, of whatever file: the same refusals but for 12, and that exactly where a store is shorter than `measure` says.
-- Assumes nothing.
use mathlib.Core.Path.{◌≡◌, refl, sym, ap, ◌∙◌}
use mathlib.Core.Bool.{Bool, true, false, cond}
use mathlib.Core.List.{List}
use Prim.Native.Nat.{ℕ}
use native.Mathlib.Omega.{arith}
use borrow.Author.Tests.{le-ltb, ltb-false}
use lib.Dec.{ltb}
use lib.ListN.{length}
use Rattle.format.proofs.Tests.{one_passed, one_skip, one_none}
use Rattle.read_judge.specs.Found.{version_of}
use Rattle.measure.specs.declared.lengths.Lengths.{Lengths}
use Rattle.measure.specs.Game.{Kept, kept_read, lengths_of}
use Rattle.measure.specs.Inner.{short_by}
use Rattle.measure.specs.Read.{unopened, kept_short, MeasureOutcome, ReadOutcome, early, none, big, short, found}
use Rattle.measure.specs.declared.Measured.{Measured}
use Rattle.measure.specs.declared.Opened.{Opened}
use Rattle.measure.proofs.Answers.{short_is}
use Rattle.measure.proofs.Only.{only_measure}
use Rattle.law_saved.specs.Again.{LongEnough}

pub not_both : {b : Bool} → b ≡ true → b ≡ false → ⊥
not_both p q = let z : ◌≡◌ {A = ℕ} 0 1 = ap (λ (c : Bool). cond c 0 1) (sym p ∙ q) in omega arith

-- the test of the code, store by store
not_short : (n : Lengths) (k : Kept) → LongEnough n k → short_by (lengths_of k) n ≡ false
unfolding short_by
not_short n k l =
    sym
    (one_skip _ _ _ (le-ltb (length k.lent.cells.ids) n.ids l.ids)
    (one_skip _ _ _ (le-ltb (length k.lent.cells.starts) n.starts l.starts)
    (one_skip _ _ _ (le-ltb (length k.lent.cells.pres) n.pres l.pres)
    (one_skip _ _ _ (le-ltb (length k.lent.cells.posts) n.posts l.posts)
    (one_skip _ _ _ (le-ltb (length k.lent.cells.ends) n.ends l.ends)
    (one_skip _ _ _ (le-ltb (length k.lent.cells.items) n.items l.items)
    (one_skip _ _ _ (le-ltb (length k.lent.cells.fods) n.fods l.fods)
    (one_skip _ _ _ (le-ltb (length k.lent.cells.whispys) n.whispys l.whispys)
    (one_skip _ _ _ (le-ltb (length k.lent.cells.stadiums) n.stadiums l.stadiums)
    (one_skip _ _ _ (le-ltb (length k.lent.offsets.items) n.item_offsets l.item_offsets)
    (one_skip _ _ _ (le-ltb (length k.lent.offsets.fods) n.fod_offsets l.fod_offsets)
    (one_skip _ _ _ (le-ltb (length k.lent.offsets.whispys) n.whispy_offsets l.whispy_offsets)
    (one_skip _ _ _ (le-ltb (length k.lent.offsets.stadiums) n.stadium_offsets l.stadium_offsets)
    (one_skip _ _ _ (le-ltb (length k.lent.presence) n.presence l.presence)
    (one_skip _ _ _ (le-ltb (length k.codes) n.codes l.codes)
    one_none)))))))))))))))

long_enough : (n : Lengths) (k : Kept) → short_by (lengths_of k) n ≡ false → LongEnough n k
unfolding short_by
long_enough n k e =
    let (t0, e0) = one_passed _ _ e in
    let (t1, e1) = one_passed _ _ e0 in
    let (t2, e2) = one_passed _ _ e1 in
    let (t3, e3) = one_passed _ _ e2 in
    let (t4, e4) = one_passed _ _ e3 in
    let (t5, e5) = one_passed _ _ e4 in
    let (t6, e6) = one_passed _ _ e5 in
    let (t7, e7) = one_passed _ _ e6 in
    let (t8, e8) = one_passed _ _ e7 in
    let (t9, e9) = one_passed _ _ e8 in
    let (t10, e10) = one_passed _ _ e9 in
    let (t11, e11) = one_passed _ _ e10 in
    let (t12, e12) = one_passed _ _ e11 in
    let (t13, e13) = one_passed _ _ e12 in
    let (t14, e14) = one_passed _ _ e13 in
    record {
      ids = ltb-false (length k.lent.cells.ids) n.ids t0;
      starts = ltb-false (length k.lent.cells.starts) n.starts t1;
      pres = ltb-false (length k.lent.cells.pres) n.pres t2;
      posts = ltb-false (length k.lent.cells.posts) n.posts t3;
      ends = ltb-false (length k.lent.cells.ends) n.ends t4;
      items = ltb-false (length k.lent.cells.items) n.items t5;
      fods = ltb-false (length k.lent.cells.fods) n.fods t6;
      whispys = ltb-false (length k.lent.cells.whispys) n.whispys t7;
      stadiums = ltb-false (length k.lent.cells.stadiums) n.stadiums t8;
      item_offsets = ltb-false (length k.lent.offsets.items) n.item_offsets t9;
      fod_offsets = ltb-false (length k.lent.offsets.fods) n.fod_offsets t10;
      whispy_offsets = ltb-false (length k.lent.offsets.whispys) n.whispy_offsets t11;
      stadium_offsets = ltb-false (length k.lent.offsets.stadiums) n.stadium_offsets t12;
      presence = ltb-false (length k.lent.presence) n.presence t13;
      codes = ltb-false (length k.codes) n.codes t14;
    }

-- stores are long enough exactly where none is shorter than what is to go there
pub long_kept : (k needed : Kept) → LongEnough (lengths_of needed) k → kept_short k needed ≡ false
long_kept k needed l = sym (short_is k needed) ∙ not_short (lengths_of needed) k l

pub kept_long : (k needed : Kept) → kept_short k needed ≡ false → LongEnough (lengths_of needed) k
kept_long k needed e = long_enough (lengths_of needed) k (short_is k needed ∙ e)

module _ (f : List ℕ) (given : Kept) {m : Measured} {r : Opened} {left : Kept} (o : MeasureOutcome f m) where
  -- what `measure` refuses, `read` refuses with the same number and offset, whatever is lent
  pub refused_alike : ReadOutcome f given r left → (m.refused ≡ 0 → ⊥) → (r ≡ unopened m.refused m.offset) × (left ≡ given)
  refused_alike (early p e q) n = let d = sym (only_measure f o (early p refl)) in (e ∙ (λ i. unopened (d i).refused (d i).offset), q)
  refused_alike (none z p e q) n = let d = sym (only_measure f o (none z p refl)) in (e ∙ (λ i. unopened (d i).refused (d i).offset), q)
  refused_alike (big z x p e q) n = let d = sym (only_measure f o (big z x p refl)) in (e ∙ (λ i. unopened (d i).refused (d i).offset), q)
  refused_alike (short z x p s e q) n = absurd (n (ap (λ (k : Measured). k.refused) (only_measure f o (found z x p refl))))
  refused_alike (found z x p s e q) n = absurd (n (ap (λ (k : Measured). k.refused) (only_measure f o (found z x p refl))))

  module _ (z : m.refused ≡ 0) where
    -- what it does not, `read` gives in stores that are as long as it says, with the frame input and the places that it said
    pub enough : ReadOutcome f given r left → LongEnough m.lengths given → (r.refused ≡ 0) × (r.game.frames ≡ m.frames) × (r.places ≡ m.places)
    enough (early p e q) l = absurd (p (sym (ap (λ (k : Measured). k.refused) (only_measure f o (early p refl))) ∙ z))
    enough (none y p e q) l = let n : ◌≡◌ {A = ℕ} 19 0 = sym (ap (λ (k : Measured). k.refused) (only_measure f o (none y p refl))) ∙ z in absurd (omega arith)
    enough (big y x p e q) l = let n : ◌≡◌ {A = ℕ} 2 0 = sym (ap (λ (k : Measured). k.refused) (only_measure f o (big y x p refl))) ∙ z in absurd (omega arith)
    enough (short y x p s e q) l =
        let d = ap (λ (k : Measured). k.lengths) (only_measure f o (found y x p refl)) in
        absurd (not_both s (long_kept given (kept_read (version_of f) x.replay) (rw d at l)))
    enough (found y x p s e q) l =
        let d = only_measure f o (found y x p refl) in (
          ap (λ (k : Opened). k.refused) e,
          ap (λ (k : Opened). k.game.frames) e ∙ sym (ap (λ (k : Measured). k.frames) d),
          ap (λ (k : Opened). k.places) e ∙ sym (ap (λ (k : Measured). k.places) d),
        )

    -- and refuses 12 in others, which stay as they were
    pub too_short_lem : ReadOutcome f given r left → (LongEnough m.lengths given → ⊥) → (r ≡ unopened 12 0) × (left ≡ given)
    too_short_lem (early p e q) l = absurd (p (sym (ap (λ (k : Measured). k.refused) (only_measure f o (early p refl))) ∙ z))
    too_short_lem (none y p e q) l = let n : ◌≡◌ {A = ℕ} 19 0 = sym (ap (λ (k : Measured). k.refused) (only_measure f o (none y p refl))) ∙ z in absurd (omega arith)
    too_short_lem (big y x p e q) l = let n : ◌≡◌ {A = ℕ} 2 0 = sym (ap (λ (k : Measured). k.refused) (only_measure f o (big y x p refl))) ∙ z in absurd (omega arith)
    too_short_lem (short y x p s e q) l = (e, q)
    too_short_lem (found y x p s e q) l =
        let d = ap (λ (k : Measured). k.lengths) (only_measure f o (found y x p refl)) in
        absurd (l (rw d (kept_long given (kept_read (version_of f) x.replay) s)))

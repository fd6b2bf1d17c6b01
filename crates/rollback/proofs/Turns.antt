-- The laws of the sweep: frames have their turn one after the other, and each is looked for among those that had it before. The two orders
-- differ only in the first section.
-- Assumes nothing.
use mathlib.Core.Path.{◌≡◌, refl, sym, ap, ◌∙◌}
use mathlib.Core.Bool.{◌||◌}
use mathlib.Core.List.{List, [], ◌∷◌, map, map-append}
use Prim.Native.Nat.{ℕ, suc, ◌+◌, ◌-◌, ◌≤◌, ◌<◌}
use native.Mathlib.Nat.{sub-zero, sub-eq-zero_of_le}
use native.Mathlib.Omega.{arith}
use native.Mathlib.Numerals.{add-one}
use native.Mathlib.Decide.{ℕ_discrete}
use lib.Dec.{eqb}
use lib.ListN.{length, get_or, set, take, drop, replicate, length-set}
use lib.Seq.{take-suc, drop-cons, take_all, drop-length}
use Rattle.format.specs.Mark.{mark_if}
use Rattle.wire.proofs.Laws.{tabulated, stored}
use Rattle.rollback.specs.Mask.{occurs, others, repeats, mask_of, place, needed, scratch_of}
use Rattle.rollback.specs.Inner.{turn_of}
use Rattle.rollback.specs.declared.frame.Rollbacks.{Rollbacks}
use Rattle.rollback.specs.declared.frame.Rollbacks.TheVariants.{ExceptFirst, ExceptLast}
use Rattle.rollback.proofs.Places.{InPlace, placed_take, placed_drop, below_needed, occurs_place}
use Rattle.rollback.proofs.Marks.{occurs_cons, occurs_snoc, marks_length, marks_at, marks_none, marked}

-- ---- the two orders

-- the frames that had their turn, after k turns
unfoldable pub passed : Rollbacks → List ℕ → ℕ → List ℕ
passed ExceptFirst ids k = take k ids
passed ExceptLast ids k = drop (length ids - k) ids

pub turn_below : (keep : Rollbacks) (n k : ℕ) → k < n → turn_of keep n k < n
turn_below ExceptFirst n k h = h
turn_below ExceptLast n k h = omega arith

-- every frame has a turn
pub turn_twice : (keep : Rollbacks) (n k : ℕ) → k < n → turn_of keep n (turn_of keep n k) ≡ k
turn_twice ExceptFirst n k h = refl
turn_twice ExceptLast n k h = omega arith

passed_none : (keep : Rollbacks) (ids : List ℕ) → passed keep ids 0 ≡ []
unfolding passed
passed_none ExceptFirst ids = refl
passed_none ExceptLast ids = rw sub-zero (drop-length ids)

passed_all : (keep : Rollbacks) (ids : List ℕ) (k : ℕ) → length ids ≤ k → passed keep ids k ≡ ids
unfolding passed
passed_all ExceptFirst ids k h = take_all k ids h
passed_all ExceptLast ids k h = rw (sub-eq-zero_of_le h)

-- a frame's turn comes when just those have had theirs among which it is looked for
passed_others : (keep : Rollbacks) (ids : List ℕ) (k : ℕ) → k < length ids → passed keep ids k ≡ others keep ids (turn_of keep (length ids) k)
unfolding passed
passed_others ExceptFirst ids k h = refl
passed_others ExceptLast ids k h = let e : length ids - k ≡ suc (length ids - (k + 1)) = omega arith in rw e

-- after its turn its id occurs too
passed_more : (keep : Rollbacks) (ids : List ℕ) (k : ℕ) → k < length ids → (t : ℕ)
    → occurs t (map place (passed keep ids (k + 1))) ≡ (eqb t (place (get_or ids (turn_of keep (length ids) k) 0)) || occurs t (map place (passed keep ids k)))
unfolding passed
passed_more ExceptFirst ids k h t =
    rw (add-one, take-suc ids k 0 h, map-append place (take k ids) (get_or ids k 0 ∷ [])) (occurs_snoc t (place (get_or ids k 0)) (map place (take k ids)))
passed_more ExceptLast ids k h t =
    let i = length ids - (k + 1) in
    let e : length ids - k ≡ suc i = omega arith in
    rw (drop-cons ids i 0 (omega arith), e) (occurs_cons t (place (get_or ids i 0)) (map place (drop (suc i) ids)))

placed_others : (keep : Rollbacks) (ids : List ℕ) (i : ℕ) → InPlace ids → InPlace (others keep ids i)
placed_others ExceptFirst ids i h = placed_take i ids h
placed_others ExceptLast ids i h = placed_drop (suc i) ids h

-- ---- the sweep, in either order

-- after k turns
pub record Swept (keep : Rollbacks) (ids mask marks : List ℕ) (k : ℕ) : Type 0 where
  pub long : length mask ≡ length ids
  pub done : (j : ℕ) → j < k → let i = turn_of keep (length ids) j in get_or mask i 0 ≡ repeats keep ids i
  pub marks_are : marks ≡ scratch_of (passed keep ids k) (needed ids)

pub swept_length : {keep : Rollbacks} {ids mask marks : List ℕ} {k : ℕ} → Swept keep ids mask marks k → length marks ≡ needed ids
swept_length {keep} {ids} {k = k} v = ap length v.marks_are ∙ marks_length (passed keep ids k) (needed ids)

module _ {keep : Rollbacks} {ids mask marks : List ℕ} where
  pub swept_none : length mask ≡ length ids → marks ≡ replicate (needed ids) 0 → Swept keep ids mask marks 0
  swept_none e m = record {
    long = e;
    done = λ j l. absurd (omega arith);
    marks_are = rw passed_none (m ∙ marks_none (needed ids));
  }

  pub swept_all : {k : ℕ} → length ids ≤ k → Swept keep ids mask marks k → (mask ≡ mask_of keep ids) × (marks ≡ scratch_of ids (needed ids))
  unfolding mask_of
  swept_all {k} l v = (
    tabulated 0 mask (length ids) (repeats keep ids) v.long
        (λ i b. rw (turn_twice keep (length ids) i b) at (v.done (turn_of keep (length ids) i) (omega (arith, turn_below keep (length ids) i b)))),
    rw (passed_all keep ids k l) at v.marks_are,
  )

-- one turn: of frame i, whose id has the place p
module _
    {keep : Rollbacks} {ids mask marks : List ℕ} {k i p : ℕ} (v : Swept keep ids mask marks k) (more : k < length ids)
    (turn : i ≡ turn_of keep (length ids) k) (here : p ≡ place (get_or ids i 0))
  where
    frame_below : i < length ids
    frame_below = rw turn (turn_below keep (length ids) k more)

    needed_above : p < needed ids
    needed_above = omega (arith, below_needed ids i frame_below)

    pub place_below : p < length marks
    place_below = rw (swept_length v) needed_above

    -- the mark that is read
    read : InPlace ids → get_or marks p 0 ≡ repeats keep ids i
    read ok =
        let q : passed keep ids k ≡ others keep ids i = passed_others keep ids k more ∙ ap (others keep ids) (sym turn) in
        rw (v.marks_are, q)
        (marks_at (others keep ids i) (needed ids) p needed_above
        ∙ rw here (ap mark_if (occurs_place (get_or ids i 0) (others keep ids i) (ok i) (placed_others keep ids i ok))))

    pub swept_more : InPlace ids → Swept keep ids (set mask i (get_or marks p 0)) (set marks p 1) (k + 1)
    swept_more ok = record {
      long = length-set mask i (get_or marks p 0) ∙ v.long;
      done = λ j l.
          stored 0 mask i (get_or marks p 0) (repeats keep ids) (turn_of keep (length ids) j) (omega (arith, v.long, frame_below)) (read ok)
          (λ ne. v.done j (earlier j l ne));
      marks_are =
          rw v.marks_are
          (marked (passed keep ids k) (passed keep ids (k + 1)) p (needed ids) needed_above (λ t. rw (here, turn) (passed_more keep ids k more t)));
    }
      where
        earlier : (j : ℕ) → j < k + 1 → (turn_of keep (length ids) j ≡ i → ⊥) → j < k
        earlier j l ne =
            elim (ℕ_discrete j k) [
              | yes e ↦ absurd (ne (ap (turn_of keep (length ids)) e ∙ sym turn))
              | no n ↦ omega arith
            ]

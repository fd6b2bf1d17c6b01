-- The laws of writers: what is written, one after the other, what is left to write, and loops over a range.
-- Assumes nothing.
use mathlib.Core.Path.{◌≡◌, refl, sym, ap, ap₂, ◌∙◌}
use mathlib.Core.Bool.{Bool, true, false}
use mathlib.Core.List.{List, [], ◌∷◌, ◌++◌}
use Prim.Native.Nat.{ℕ, suc, ◌+◌, ◌-◌, ◌≤◌, ◌<◌}
use native.Mathlib.Nat.{add-zero, add_assoc, sub-zero, sub-eq-zero_of_le}
use native.Mathlib.Omega.{arith}
use lib.ListN.{length, set, take, drop, length-append, length-drop, take-append-drop}
use lib.Seq.{take_at, drop_at, drop-drop, length-take-le}
use Rattle.wire.specs.Wire.{be, splice, ranged, keep, Room, Wrote}
use Rattle.wire.proofs.Laws.{splice_nil, length_splice, splice_append, splice_is, splice_behind, length_be, be_low}

module _ {before middle after : List ℕ} {at mid next : ℕ} {xs ys : List ℕ} where
  -- one writer after another
  pub wrote_then : Wrote before middle at mid xs → Wrote middle after mid next ys → Wrote before after at next (xs ++ ys)
  wrote_then p q = record {
    next_is = simp (length-append, q.next_is, p.next_is, add_assoc);
    after_is = rw (q.after_is, p.after_is, p.next_is, ← splice_append);
  }

pub wrote_as : {before after : List ℕ} {at next : ℕ} {xs ys : List ℕ} → xs ≡ ys → Wrote before after at next xs → Wrote before after at next ys
wrote_as e w = rw e at w

pub room_as : {out : List ℕ} {at : ℕ} {xs ys : List ℕ} → xs ≡ ys → Room out at xs → Room out at ys
room_as e r = rw e at r

pub wrote_as_byte : {before after : List ℕ} {at next x y : ℕ} → x ≡ y → Wrote before after at next (x ∷ []) → Wrote before after at next (y ∷ [])
wrote_as_byte e w = rw e at w

pub room_byte : {out : List ℕ} {at x y : ℕ} → x ≡ y → Room out at (y ∷ []) → Room out at (x ∷ [])
room_byte e r = rw e r

pub wrote_length : {before after : List ℕ} {at next : ℕ} {bytes : List ℕ} → Wrote before after at next bytes → length after ≡ length before
wrote_length {before} {at = at} {bytes = bytes} w = ap length w.after_is ∙ length_splice before at bytes

-- room for two parts is room for the first, and, once that is written, for the second
pub room_first : {out : List ℕ} {at : ℕ} {xs : List ℕ} (ys : List ℕ) → Room out at (xs ++ ys) → Room out at xs
room_first {xs = xs} ys r = record { fits = omega (arith, r.fits, length-append xs ys) }

pub room_second : {out after : List ℕ} {at next : ℕ} {xs ys : List ℕ} → Room out at (xs ++ ys) → Wrote out after at next xs → Room after next ys
room_second {xs = xs} {ys = ys} r w = record { fits = omega (arith, r.fits, length-append xs ys, w.next_is, wrote_length w) }

-- a part that is written or not, by a test
pub room_kept : {out : List ℕ} {at : ℕ} (on : Bool) (xs : List ℕ) → on ≡ true → Room out at (keep on xs) → Room out at xs
unfolding keep
room_kept on xs e r = rw e at r

pub wrote_kept : {out after : List ℕ} {at next : ℕ} (on : Bool) (xs : List ℕ) → on ≡ true → Wrote out after at next xs → Wrote out after at next (keep on xs)
unfolding keep
wrote_kept on xs e w = rw e w

pub wrote_none : (out : List ℕ) (at : ℕ) (on : Bool) (xs : List ℕ) → on ≡ false → Wrote out out at at (keep on xs)
unfolding keep splice
wrote_none out at on xs e = rw e (record { next_is = sym (add-zero at); after_is = refl })

pub wrote_byte : (xs : List ℕ) (at b : ℕ) → Wrote xs (set xs at b) at (at + 1) (b ∷ [])
unfolding splice
wrote_byte xs at b = record { next_is = refl; after_is = refl }

-- whoever writes `rest` over `now` from p on has then written `all` over `first` from at on
pub record Left (first : List ℕ) (at : ℕ) (all now : List ℕ) (p : ℕ) (rest : List ℕ) : Type 0 where
  pub place : p + length rest ≡ at + length all
  pub same : length now ≡ length first
  pub left : splice now p rest ≡ splice first at all

pub left_start : {first all : List ℕ} {at : ℕ} → Left first at all first at all
left_start = record { place = refl; same = refl; left = refl }

module _ {first all now : List ℕ} {at p : ℕ} where
  -- a turn: the first part of what is left is written
  pub left_step : {x rest more after : List ℕ} {next : ℕ} → Left first at all now p more → more ≡ x ++ rest → Wrote now after p next x → Left first at all after next rest
  left_step {x} {rest} l e w = record {
    place = rw (w.next_is, add_assoc, ← length-append, ← e) l.place;
    same = wrote_length w ∙ l.same;
    left = rw (w.after_is, w.next_is, ← splice_append, ← e) l.left;
  }

  -- room for all is room for the first part of what is left
  pub left_room : {x more : List ℕ} (rest : List ℕ) → Left first at all now p more → more ≡ x ++ rest → Room first at all → Room now p x
  left_room {x} rest l e r = let k = ap length e ∙ length-append x rest in record { fits = omega (arith, l.place, l.same, r.fits, k) }

  pub left_done : {rest : List ℕ} → Left first at all now p rest → rest ≡ [] → Wrote first now at p all
  left_done l e = record {
    next_is = sym (add-zero p) ∙ rw e at l.place;
    after_is = sym (splice_nil now p) ∙ rw e at l.left;
  }

-- ---- writing from the end: whoever writes `before` over `now` from at on has then written `all` over `first` from at on
pub record Behind (first : List ℕ) (at : ℕ) (all now before : List ℕ) : Type 0 where
  pub same : length now ≡ length first
  pub behind : splice now at before ≡ splice first at all

pub behind_start : {first all : List ℕ} {at : ℕ} → Behind first at all first all
behind_start = record { same = refl; behind = refl }

low_last : (w v : ℕ) → w ≤ 4 → take (4 - w) (be 4 v) ++ be w v ≡ be 4 v
low_last w v h =
    let e : 4 - w + w ≡ 4 = omega arith in
    let low : drop (4 - w) (be 4 v) ≡ be w v = rw e at (be_low (4 - w) w v) in
    ap (λ (l : List ℕ). take (4 - w) (be 4 v) ++ l) (sym low) ∙ take-append-drop (4 - w) (be 4 v)

module _ {first all now after : List ℕ} {at : ℕ} where
  -- a turn: all four bytes of v, of which the w lowest are wanted; the others fall on what is to come
  pub behind_step : (before more : List ℕ) (w v : ℕ) {q next : ℕ} → w ≤ 4 → 4 ≤ length before → q + 4 ≡ at + (length before + w) → more ≡ before ++ be w v
      → Behind first at all now more → Wrote now after q next (be 4 v) → Behind first at all after before
  behind_step before more w v {q} small long place e b x =
      let k = length before - (4 - w) in
      let a = take k before in
      let c = drop k before in
      let junk = take (4 - w) (be 4 v) in
      let parts : a ++ c ≡ before = take-append-drop k before in
      let bytes : junk ++ be w v ≡ be 4 v = low_last w v small in
      let la : length a ≡ k = length-take-le k before (omega arith) in
      let lc : length c ≡ 4 - w = simp length-drop (omega arith) in
      let lj : length junk ≡ 4 - w = length-take-le (4 - w) (be 4 v) (rw length_be (omega arith)) in
      let spot : q ≡ at + length a = omega arith in
      record {
        same = wrote_length x ∙ b.same;
        behind =
            ap₂ (λ (l m : List ℕ). splice l at m) (x.after_is ∙ ap₂ (λ (i : ℕ) (l : List ℕ). splice now i l) spot (sym bytes)) (sym parts)
            ∙ splice_behind now at a c junk (be w v) (lj ∙ sym lc)
            ∙ ap (λ (m : List ℕ). splice now at (m ++ be w v)) parts
            ∙ ap (λ (m : List ℕ). splice now at m) (sym e)
            ∙ b.behind;
      }

  -- the rest is written from the start on
  pub behind_done : {before : List ℕ} {mid next : ℕ} → Behind first at all now before → Wrote now after at mid before → next ≡ at + length all → Wrote first after at next all
  behind_done b x e = record { next_is = e; after_is = x.after_is ∙ b.behind }

-- a part of the output that holds ys in place of what it held
pub wrote_part : (out held ys : List ℕ) (at : ℕ) → held ≡ ys → at + length ys ≤ length out
    → Wrote out (take at out ++ (held ++ drop (at + length ys - at) (drop at out))) at (at + length ys) ys
wrote_part out held ys at same h =
    let e : at + length ys - at ≡ length ys = omega arith in
    record {
      next_is = refl;
      after_is = rw (same, e, drop-drop) (sym (splice_is out at ys h));
    }

pub room_be : {out : List ℕ} {at : ℕ} (w v : ℕ) → Room out at (be w v) → at + w ≤ length out
room_be w v r = rw length_be at r.fits

pub room_number : (out : List ℕ) (at w v : ℕ) → at + w ≤ length out → Room out at (be w v)
room_number out at w v h = record { fits = rw length_be h }

-- the first n elements of a list
pub room_first_of : (out xs : List ℕ) (at n : ℕ) → n ≤ length xs → at + n ≤ length out → Room out at (take n xs)
room_first_of out xs at n h r = record { fits = rw (length-take-le n xs h) r }

pub wrote_first_of : {a b : List ℕ} {at next : ℕ} (xs : List ℕ) (n : ℕ) → n ≤ length xs → Wrote a b at next (take n xs) → next ≡ at + n
wrote_first_of {at = at} xs n h w = w.next_is ∙ ap (λ k. at + k) (length-take-le n xs h)

-- ---- a loop from i to b: one turn, its end, and room for a turn
module _ (f : ℕ → List ℕ) (i b : ℕ) where
  ranged_step : i < b → ranged f i (b - i) ≡ f i ++ ranged f (i + 1) (b - (i + 1))
  unfolding ranged
  ranged_step h = let e : b - i ≡ suc (b - (i + 1)) = omega arith in rw e

  ranged_done : b ≤ i → ranged f i (b - i) ≡ []
  unfolding ranged
  ranged_done h = rw (sub-eq-zero_of_le h)

  module _ {first all now : List ℕ} {at p : ℕ} where
    pub range_room : Left first at all now p (ranged f i (b - i)) → i < b → Room first at all → Room now p (f i)
    range_room l h r = left_room (ranged f (i + 1) (b - (i + 1))) l (ranged_step h) r

    pub range_step : {after : List ℕ} {next : ℕ} → Left first at all now p (ranged f i (b - i)) → i < b → Wrote now after p next (f i) → Left first at all after next (ranged f (i + 1) (b - (i + 1)))
    range_step l h w = left_step l (ranged_step h) w

    pub range_done : Left first at all now p (ranged f i (b - i)) → b ≤ i → Wrote first now at p all
    range_done l h = left_done l (ranged_done h)

pub range_start : (f : ℕ → List ℕ) (n : ℕ) {first : List ℕ} {at : ℕ} → Left first at (ranged f 0 n) first at (ranged f 0 (n - 0))
range_start f n = rw (sub-zero n) left_start

-- ---- a part of an output that was written, lent and written again
module _ {out mid : List ℕ} {at next : ℕ} {xs : List ℕ} (room : Room out at xs) (w : Wrote out mid at next xs) where
  mid_is : mid ≡ take at out ++ (xs ++ drop (at + length xs) out)
  mid_is = w.after_is ∙ splice_is out at xs room.fits

  front : length (take at out) ≡ at
  front = length-take-le at out (omega (arith, room.fits))

  count : length xs ≡ next - at
  count = omega (arith, w.next_is)

  -- the part that was written holds what was written
  pub part_is : take (next - at) (drop at mid) ≡ xs
  part_is = rw (mid_is, drop_at (take at out) (xs ++ drop (at + length xs) out) at front) (take_at xs (drop (at + length xs) out) (next - at) count)

  -- and what stands there afterwards, if it is as long, was written in its place
  pub part_again : (ys : List ℕ) → length ys ≡ length xs → Wrote out (take at mid ++ (ys ++ drop (next - at) (drop at mid))) at next ys
  part_again ys e = record {
    next_is = w.next_is ∙ ap (λ n. at + n) (sym e);
    after_is =
        rw (mid_is, take_at (take at out) (xs ++ drop (at + length xs) out) at front, drop_at (take at out) (xs ++ drop (at + length xs) out) at front, drop_at xs (drop (at + length xs) out) (next - at) count, ← e)
        (sym (splice_is out at ys (rw e room.fits)));
  }

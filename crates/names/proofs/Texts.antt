-- Lines of a list of bytes: what a step through them finds.
-- Assumes nothing.
use mathlib.Core.Path.{◌≡◌, refl, sym, ap, ◌∙◌}
use mathlib.Core.List.{List, [], ◌∷◌, ◌++◌}
use mathlib.Core.Bool.{Bool, true, false, true≢false, cond}
use Prim.Native.Nat.{ℕ, suc, ◌+◌, ◌-◌, ◌≤◌, ◌<◌}
use native.Mathlib.Nat.{sub-zero, add-zero, zero-add}
use native.Mathlib.Omega.{arith}
use borrow.Author.Tests.{ltb-false}
use lib.Dec.{eqb}
use lib.ListN.{length, length-drop, get_or, take, drop, replicate, drop_of_length-le, length-replicate, replicate-append-replicate}
use lib.Seq.{take-length, drop-drop, drop_at, take-nil, get_or-take, get_or-drop}
use Rattle.std.specs.Prelude.{Option, Some, None, ◌==◌, nat_lt, position}
use Rattle.std.specs.List.{position_or_len}
use Rattle.std.proofs.lemmas.List.Recursion.{is_position_or_len}
use Rattle.wire.specs.Wire.{splice}
use Rattle.wire.proofs.Laws.{splice_is}
use Rattle.names.specs.Bytes.{filled}
use Rattle.names.specs.Inner.{first_line, lines_from, line}

-- a line ends at the first line end, or at the end of all
line_first_end : (xs : List ℕ) → length (first_line xs) ≡ position_or_len (λ b. b == 10) xs
unfolding first_line
line_first_end = is_position_or_len (λ xs. length (first_line xs)) (λ b. b == 10) refl step
  where
    go : (x : ℕ) (xs : List ℕ) (c : Bool) → length (cond c [] (x ∷ first_line xs)) ≡ cond c 0 (1 + length (first_line xs))
    go x xs true = refl
    go x xs false = omega arith

    step : (x : ℕ) (xs : List ℕ) → length (first_line (x ∷ xs)) ≡ cond (x == 10) 0 (1 + length (first_line xs))
    step x xs = go x xs (eqb x 10)

pub line_within : (xs : List ℕ) → length (first_line xs) ≤ length xs
unfolding first_line
line_within [] = omega arith
line_within (x ∷ xs) = go (eqb x 10) (line_within xs)
  where
    go : (c : Bool) → length (first_line xs) ≤ length xs → length (cond c [] (x ∷ first_line xs)) ≤ length (x ∷ xs)
    go true h = omega arith
    go false h = omega (arith, h)

abbrev there : Option ℕ → Bool
there None = false
there (Some n) = true

abbrev place : Option ℕ → ℕ
place None = 0
place (Some n) = n

pub end_found : (xs : List ℕ) {n : ℕ} → Some n ≡ position (λ b. b == 10) xs → n ≡ length (first_line xs)
end_found xs {n} e = go (nat_lt (position_or_len (λ b. b == 10) xs) (length xs)) e
  where
    go : (c : Bool) → Some n ≡ cond c (Some (position_or_len (λ b. b == 10) xs)) None → n ≡ length (first_line xs)
    go true q = ap place q ∙ sym (line_first_end xs)
    go false q = absurd (true≢false (ap there q))

pub end_missing : (xs : List ℕ) → None ≡ position (λ b. b == 10) xs → length xs ≡ length (first_line xs)
end_missing xs e = go (nat_lt (position_or_len (λ b. b == 10) xs) (length xs)) refl e
  where
    go : (c : Bool) → nat_lt (position_or_len (λ b. b == 10) xs) (length xs) ≡ c → None ≡ cond c (Some (position_or_len (λ b. b == 10) xs)) None → length xs ≡ length (first_line xs)
    go true p q = absurd (true≢false (sym (ap there q)))
    go false p q = let f = line_first_end xs in let l = line_within xs in let k = ltb-false (position_or_len (λ b. b == 10) xs) (length xs) p in omega (arith, f, l, k)

-- all that stands from a place on
pub rest_all : (s : List ℕ) (at : ℕ) → take (length s - at) (drop at s) ≡ drop at s
rest_all s at = ap (λ (n : ℕ). take n (drop at s)) (sym (length-drop at s)) ∙ take-length (drop at s)

-- behind a line: past its end, or at the end of all
pub behind_line : (s : List ℕ) (at e : ℕ) → e ≡ at + length (first_line (drop at s)) → drop (e + 1) s ≡ lines_from 1 (drop at s)
unfolding lines_from
behind_line s at e h = ap (λ (k : ℕ). drop k s) (let z : e + 1 ≡ at + (length (first_line (drop at s)) + 1) = omega (arith, h) in z) ∙ sym (drop-drop (length (first_line (drop at s)) + 1) at s)

pub behind_all : (s : List ℕ) (at e : ℕ) → e ≡ at + length (first_line (drop at s)) → length s ≤ e → drop e s ≡ lines_from 1 (drop at s)
behind_all s at e h k = drop_of_length-le s k ∙ sym (drop_of_length-le s (let z : length s ≤ e + 1 = omega (arith, k) in z)) ∙ behind_line s at e h

-- a loop over lines, of which `left` are still to be passed
pub record PassedTo (s : List ℕ) (n at left : ℕ) : Type 0 where
  pub inside : at ≤ length s
  pub rest : lines_from left (drop at s) ≡ lines_from n s

pub passed_start : (s : List ℕ) (n : ℕ) → PassedTo s n 0 (n - 0)
passed_start s n = record { inside = omega arith; rest = ap (λ (k : ℕ). lines_from k s) (sub-zero n) }

pub passed_more : {s : List ℕ} {n at i next : ℕ} → PassedTo s n at (n - i) → i < n → drop next s ≡ lines_from 1 (drop at s) → next ≤ length s → PassedTo s n next (n - (i + 1))
unfolding lines_from
passed_more {s} {n} {at} {i} {next} g h e k =
    let z : n - i ≡ suc (n - (i + 1)) = omega arith in
    record { inside = k; rest = ap (λ (l : List ℕ). lines_from (n - (i + 1)) l) e ∙ (rw z at g.rest) }

pub passed_done : {s : List ℕ} {n at i : ℕ} → PassedTo s n at (n - i) → n ≤ i → drop at s ≡ lines_from n s
unfolding lines_from
passed_done {s} {n} {at} {i} g h = let z : n - i ≡ 0 = omega arith in rw z at g.rest

-- a line is the front of what stands from it on
take_first : (xs : List ℕ) → take (length (first_line xs)) xs ≡ first_line xs
unfolding first_line
take_first [] = refl
take_first (b ∷ bs) = go (eqb b 10) refl (take_first bs)
  where
    go : (t : Bool) → eqb b 10 ≡ t → take (length (first_line bs)) bs ≡ first_line bs → take (length (first_line (b ∷ bs))) (b ∷ bs) ≡ first_line (b ∷ bs)
    go true e ih = rw e
    go false e ih = rw (e, ih)

drop_two : (k : ℕ) (xs : List ℕ) → drop 2 (take (suc (suc k)) xs) ≡ take k (drop 2 xs)
drop_two k [] = sym (take-nil k)
drop_two k (x ∷ []) = sym (take-nil k)
drop_two k (x ∷ y ∷ xs) = refl

-- line n of s stands from place `from` on and before `to`
pub record OnLine (s : List ℕ) (n from to : ℕ) : Type 0 where
  pub starts : drop from s ≡ lines_from n s
  pub ends : to ≡ from + length (first_line (drop from s))

pub on_line : {s : List ℕ} {n from to : ℕ} → drop from s ≡ lines_from n s → to ≡ from + length (first_line (drop from s)) → OnLine s n from to
on_line starts ends = record { starts = starts; ends = ends }

module _ {s : List ℕ} {n from to : ℕ} (l : OnLine s n from to) where
  pub line_long : to ≡ from + length (line n s)
  unfolding line
  line_long = l.ends ∙ ap (λ (r : List ℕ). from + length (first_line r)) l.starts

  pub line_part : take (to - from) (drop from s) ≡ line n s
  unfolding line
  line_part =
      let z : to - from ≡ length (first_line (drop from s)) = omega (arith, l.ends) in
      rw z (take_first (drop from s)) ∙ ap first_line l.starts

  -- all of it but its first two bytes; and its first
  pub line_tail : 2 ≤ length (line n s) → take (to - (from + 2)) (drop (from + 2) s) ≡ drop 2 (line n s)
  line_tail h =
      let z : to - from ≡ suc (suc (to - (from + 2))) = omega (arith, line_long) in
      let parts : take (suc (suc (to - (from + 2)))) (drop from s) ≡ line n s = rw z at line_part in
      rw (← drop-drop 2 from s) (sym (drop_two (to - (from + 2)) (drop from s)) ∙ ap (λ (r : List ℕ). drop 2 r) parts)

  pub line_first : 2 ≤ length (line n s) → get_or s from 0 ≡ get_or (line n s) 0 0
  line_first h =
      let z : 0 < to - from = omega (arith, line_long) in
      sym (ap (λ (r : List ℕ). get_or r 0 0) (sym line_part) ∙ get_or-take (to - from) (drop from s) 0 0 z ∙ get_or-drop from s 0 0 ∙ ap (λ (k : ℕ). get_or s k 0) (add-zero from))

-- a text over zeros, from their start on
pub over_zeros : (w : ℕ) (xs : List ℕ) → length xs ≤ w → splice (replicate w 0) 0 xs ≡ filled w xs
unfolding filled
over_zeros w xs h =
    let z : length xs + (w - length xs) ≡ w = omega arith in
    let zeros : replicate {A = ℕ} w 0 ≡ replicate (length xs) 0 ++ replicate (w - length xs) 0 = rw z at (sym (replicate-append-replicate {A = ℕ} (length xs) (w - length xs) 0)) in
    splice_is (replicate w 0) 0 xs (rw length-replicate (omega arith))
    ∙ ap (λ (k : ℕ). xs ++ drop k (replicate w 0)) (zero-add (length xs))
    ∙ ap (λ (r : List ℕ). xs ++ drop (length xs) r) zeros
    ∙ ap (λ (r : List ℕ). xs ++ r) (drop_at (replicate (length xs) 0) (replicate (w - length xs) 0) (length xs) (length-replicate (length xs) 0))

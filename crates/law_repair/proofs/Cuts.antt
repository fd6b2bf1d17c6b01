-- A file that is cut: the beginnings of the cut that are replays are those of the file that end before the cut. So the longest of a cut is the longest of the file up to there.
-- Assumes nothing.
use Prim.Native.Nat.{ℕ, zero, suc, ◌-◌, ◌≤◌}
use mathlib.Core.Path.{◌≡◌, refl, sym, ap, subst, ◌∙◌}
use mathlib.Core.List.{List, [], ◌∷◌, ◌++◌}
use native.Mathlib.Omega.{arith}
use lib.ListN.{length, take, drop, set, take-append-drop}
use lib.Seq.{length-take-le}
use Rattle.wire.specs.Wire.{be, part, splice}
use Rattle.wire.proofs.Laws.{length_splice, length_be}
use Rattle.head.specs.Table.{head_refusal}
use Rattle.map_reader.proofs.Places.{part_bytes}
use Rattle.de.specs.Cut.{events_read, zeroed}
use Rattle.read_judge.specs.Inner.{Bytes}
use Rattle.repair_kept.specs.Kept.{ending_at, Accepted, ReplayUpTo, Longest}
use Rattle.repair_kept.proofs.Field.{long_enough, zeroed_accepted, ending_bytes, ending_starts, first_within}
use Rattle.repair_kept.proofs.Accepts.{early_head}
use Rattle.repair_head.proofs.Laws.{take-take}
use Rattle.repair_judge.specs.Open.{open_refusal}
use Rattle.law_repair.proofs.Calls.{beginning_any, zeroed_same, open_same, behind_same, longest_same}
use Rattle.law_repair.proofs.Itself.{open_itself}

-- ---- a beginning says that the head is accepted, whatever the length

module _ (f : List ℕ) (q : ℕ) (b : ReplayUpTo f q) where
  head : head_refusal (ending_at f q) ≡ 0
  head = early_head (ending_at f q) b.accepted.early

  pub begins_long : 15 ≤ length f
  unfolding ending_at
  begins_long = omega (arith, long_enough (ending_at f q) (zeroed_accepted (ending_at f q) head), length_splice f 11 (be 4 (q - 15)))

  pub begins_head : head_refusal (zeroed f) ≡ 0
  unfolding ending_at
  begins_head = ap head_refusal (sym (zeroed_same f (be 4 (q - 15)) begins_long (length_be 4 (q - 15)))) ∙ zeroed_accepted (ending_at f q) head

  pub begins_low : 17 ≤ q
  begins_low =
      let z = ending_starts f begins_head q b.short b.within head b.accepted.found.whole in
      let (x, y) = first_within f begins_head in
      omega arith

  -- no number before 19 hides it: where a beginning is a replay, the first event and the version are right
  pub begins_open : Bytes f → open_refusal f ≡ 0
  unfolding ending_at
  begins_open bytes = sym (open_same f (be 4 (q - 15)) begins_long (length_be 4 (q - 15))) ∙ open_itself (ending_at f q) (ending_bytes f begins_long q bytes) b.accepted

-- ---- the length field of a cut

take_set : (k : ℕ) (xs : List ℕ) (at y : ℕ) → take k (set xs at y) ≡ set (take k xs) at y
take_set zero xs at y = refl
take_set (suc k) [] at y = refl
take_set (suc k) (x ∷ xs) zero y = refl
take_set (suc k) (x ∷ xs) (suc at) y = ap (λ (l : List ℕ). x ∷ l) (take_set k xs at y)

pub take_splice : (k : ℕ) (xs : List ℕ) (at : ℕ) (ys : List ℕ) → take k (splice xs at ys) ≡ splice (take k xs) at ys
unfolding splice
take_splice k xs at [] = refl
take_splice k xs at (y ∷ ys) = take_splice k (set xs at y) (suc at) ys ∙ ap (λ (l : List ℕ). splice l (suc at) ys) (take_set k xs at y)

-- the front of one file and the back of another, where both are the same up to q
module _ (f g : List ℕ) (q : ℕ) (same : take q f ≡ take q g) (low : 15 ≤ q) (long : 15 ≤ length g) where
  joined : take q (ending_at f q) ++ drop q g ≡ ending_at g q
  unfolding ending_at
  joined =
      let w = be 4 (q - 15) in
      let front : take q (splice f 11 w) ≡ take q (splice g 11 w) = take_splice q f 11 w ∙ ap (λ (l : List ℕ). splice l 11 w) same ∙ sym (take_splice q g 11 w) in
      let back : drop q g ≡ drop q (splice g 11 w) = sym (behind_same g w long (length_be 4 (q - 15)) q low) in
      (λ i. front i ++ back i) ∙ take-append-drop q (splice g 11 w)

moved : (f g : List ℕ) (q : ℕ) → Bytes f → take q f ≡ take q g → q ≤ length g → ReplayUpTo f q → ReplayUpTo g q
moved f g q bytes same within b =
    let low = begins_low f q b in
    record {
      within = within;
      short = b.short;
      accepted = subst Accepted (joined f g q same (omega arith) (omega arith)) (beginning_any f bytes (begins_head f q b) q b (drop q g)).0;
    }

moved_events : (f g : List ℕ) (q : ℕ) → Bytes f → take q f ≡ take q g → q ≤ length g → ReplayUpTo f q → events_read (ending_at g q) ≡ events_read (ending_at f q)
moved_events f g q bytes same within b =
    let low = begins_low f q b in
    ap events_read (sym (joined f g q same (omega arith) (omega arith))) ∙ (beginning_any f bytes (begins_head f q b) q b (drop q g)).1

-- ---- cuts

pub cut_bytes : (f : List ℕ) → Bytes f → (k : ℕ) → Bytes (take k f)
unfolding part
cut_bytes f bytes k = part_bytes f 0 k bytes

module _ (f : List ℕ) (bytes : Bytes f) (k : ℕ) (some : k ≤ length f) where
  pub many : length (take k f) ≡ k
  many = length-take-le k f some

  pub cut_begins : (q : ℕ) → ReplayUpTo f q → q ≤ k → ReplayUpTo (take k f) q
  cut_begins q b l = moved f (take k f) q bytes (sym (take-take q k f l)) (omega (arith, many)) b

  pub begins_uncut : (q : ℕ) → ReplayUpTo (take k f) q → ReplayUpTo f q × (q ≤ k)
  begins_uncut q b =
      let l : q ≤ k = omega (arith, b.within, many) in
      (moved (take k f) f q (cut_bytes f bytes k) (take-take q k f l) (omega arith) b, l)

  pub cut_events : (q : ℕ) → ReplayUpTo f q → q ≤ k → events_read (ending_at (take k f) q) ≡ events_read (ending_at f q)
  cut_events q b l = moved_events f (take k f) q bytes (sym (take-take q k f l)) (omega (arith, many)) b

  -- with any four bytes for the length
  pub cut_longest : (p : ℕ) → ReplayUpTo f p → p ≤ k → ((q : ℕ) → ReplayUpTo f q → q ≤ k → q ≤ p) → (w : List ℕ) → length w ≡ 4 → Longest (splice (take k f) 11 w) p
  cut_longest p b l most w four =
      longest_same (take k f) w (omega (arith, many, begins_low f p b)) four p (record { begins = cut_begins p b l; most = λ q c. let (d, m) = begins_uncut q c in most q d m })

-- The laws of tables, events and files as lists of bytes.
-- Assumes nothing.
use mathlib.Core.Path.{◌≡◌, refl, sym, ap, ap₂, ◌∙◌}
use mathlib.Core.Bool.{Bool, true, false, cond}
use mathlib.Core.List.{List, [], ◌∷◌, ◌++◌, append_assoc, append-nil}
use Prim.Native.Nat.{ℕ, zero, suc, ◌+◌, ◌*◌, ◌<◌}
use native.Mathlib.Nat.{mul-zero}
use native.Mathlib.Omega.{arith}
use lib.ListN.{length, length-append}
use Rattle.wire.specs.Wire.{ranged, keep}
use Rattle.wire.proofs.Laws.{length_be, length_ranged, length_kept}
use Rattle.format.specs.File.{Entry, Ev, entries_bytes, table_bytes, event_bytes, events_bytes, Listed}

pub length_entries : (t : List Entry) → length (entries_bytes t) ≡ 3 * length t
unfolding entries_bytes
length_entries [] = refl
length_entries (e ∷ t) = simp (length-append, length_be, length_entries t) (omega arith)

pub length_table : (t : List Entry) → length (table_bytes t) ≡ 2 + 3 * length t
unfolding table_bytes
length_table t = ap (λ (n : ℕ). suc (suc n)) (length_entries t) ∙ omega arith

-- the bytes of events, one after the other
pub events_nil : events_bytes [] ≡ []
unfolding events_bytes
events_nil = refl

pub events_cons : (e : Ev) (es : List Ev) → events_bytes (e ∷ es) ≡ event_bytes e ++ events_bytes es
unfolding events_bytes
events_cons e es = refl

pub events_one : (e : Ev) → events_bytes (e ∷ []) ≡ event_bytes e
unfolding events_bytes
events_one e = append-nil (event_bytes e)

pub events_append : (xs ys : List Ev) → events_bytes (xs ++ ys) ≡ events_bytes xs ++ events_bytes ys
unfolding events_bytes
events_append [] ys = refl
events_append (x ∷ xs) ys = rw (events_append xs ys) (sym (append_assoc (event_bytes x) (events_bytes xs) (events_bytes ys)))

pub events_both : (xs ys : List Ev) {a b : List ℕ} → events_bytes xs ≡ a → events_bytes ys ≡ b → events_bytes (xs ++ ys) ≡ a ++ b
events_both xs ys p q = events_append xs ys ∙ ap₂ (λ (a b : List ℕ). a ++ b) p q

pub events_ranged : (f : ℕ → List Ev) (i n : ℕ) → events_bytes (ranged f i n) ≡ ranged (λ j. events_bytes (f j)) i n
unfolding events_bytes ranged
events_ranged f i zero = refl
events_ranged f i (suc n) = events_append (f i) (ranged f (i + 1) n) ∙ rw (events_ranged f (i + 1) n)

-- one event for each number
pub events_each : (f : ℕ → Ev) (i n : ℕ) → events_bytes (ranged (λ j. f j ∷ []) i n) ≡ ranged (λ j. event_bytes (f j)) i n
unfolding events_bytes ranged
events_each f i zero = refl
events_each f i (suc n) = ap (λ (l : List ℕ). event_bytes (f i) ++ l) (events_each f (i + 1) n)

pub events_keep : (b : Bool) (es : List Ev) → events_bytes (keep b es) ≡ keep b (events_bytes es)
unfolding events_bytes keep
events_keep true es = refl
events_keep false es = refl

-- ---- how many bytes they are

pub length_both : (xs ys : List Ev) {a b : ℕ} → length (events_bytes xs) ≡ a → length (events_bytes ys) ≡ b → length (events_bytes (xs ++ ys)) ≡ a + b
length_both xs ys p q = ap length (events_append xs ys) ∙ length-append (events_bytes xs) (events_bytes ys) ∙ ap₂ (λ (a b : ℕ). a + b) p q

-- an event that is kept only where a test holds, and one for each number
pub length_kept_one : (b : Bool) (e : Ev) (n : ℕ) → length (event_bytes e) ≡ n → length (events_bytes (keep b (e ∷ []))) ≡ cond b n 0
length_kept_one b e n h = ap length (events_keep b (e ∷ [])) ∙ length_kept b (events_bytes (e ∷ [])) n (λ t. ap length (events_one e) ∙ h)

pub length_kept_each : (b : Bool) (f : ℕ → Ev) (i n s : ℕ) → ((j : ℕ) → length (event_bytes (f j)) ≡ s) → length (events_bytes (keep b (ranged (λ j. f j ∷ []) i n))) ≡ n * cond b s 0
unfolding keep events_bytes
length_kept_each true f i n s h = ap length (events_each f i n) ∙ length_ranged (λ j. event_bytes (f j)) s h i n
length_kept_each false f i n s h = sym (mul-zero n)

-- ---- events that are listed

pub listed_append : (t : List Entry) (xs ys : List Ev) → Listed t xs → Listed t ys → Listed t (xs ++ ys)
unfolding Listed
listed_append t [] ys p q = q
listed_append t (x ∷ xs) ys p q = (p.0, p.1, listed_append t xs ys p.2 q)

-- events for a range of numbers, as far as they are taken, and all of them
pub listed_ranged_below : (t : List Entry) (f : ℕ → List Ev) (i n : ℕ) → ((j : ℕ) → j < i + n → Listed t (f j)) → Listed t (ranged f i n)
unfolding Listed ranged
listed_ranged_below t f i zero h = tt
listed_ranged_below t f i (suc n) h =
    listed_append t (f i) (ranged f (i + 1) n) (h i (omega arith)) (listed_ranged_below t f (i + 1) n (λ j l. h j (omega arith)))

pub listed_ranged : (t : List Entry) (f : ℕ → List Ev) (i n : ℕ) → ((j : ℕ) → Listed t (f j)) → Listed t (ranged f i n)
listed_ranged t f i n h = listed_ranged_below t f i n (λ j l. h j)

pub listed_keep : (t : List Entry) (b : Bool) (es : List Ev) → (b ≡ true → Listed t es) → Listed t (keep b es)
unfolding Listed keep
listed_keep t true es h = h refl
listed_keep t false es h = tt

-- An index is accepted exactly when it is the replay's, and through an accepted index a lookup gives what a walk gives.
-- Assumes nothing.
use Prim.Native.Nat.{ℕ, zero, suc, ◌≤◌, ◌<◌}
use mathlib.Core.Path.{◌≡◌, refl, sym, ap, ◌∙◌}
use mathlib.Core.Bool.{Bool, true, false, not, cond}
use mathlib.Core.List.{List}
use native.Mathlib.Decide.{ℕ_discrete}
use native.Mathlib.Omega.{arith}
use borrow.Author.Tests.{eq-eqb, ne_eqb, eqb-true}
use lib.Dec.{eqb}
use lib.ListN.{length, get_or, take}
use lib.Seq.{take_all, take-length}
use Rattle.format.specs.Refusal.{lowest}
use Rattle.record.proofs.Numbers.{Bytes}
use Rattle.head.specs.Table.{starts_with}
use Rattle.de.specs.Walk.{run_of, walk_of}
use Rattle.de.specs.Numbers.{walk_numbers}
use Rattle.index_form.specs.Form.{bad_index, id_at, offset_at}
use Rattle.index_form.specs.Find.{last_among, moment_at, moment_in}
use Rattle.index_form.proofs.Laws.{both, starts_take, take_starts}
use Rattle.index_passes.specs.Rows.{rows_in, index_in, far}
use Rattle.index_calls.specs.Index.{or_else, replay_refusal, same_bytes, write_refusal, accept_refusal, WriteIndexOutcome, AcceptOutcome}
use Rattle.index_calls.specs.Inner.{later_refusal}
use Rattle.index_calls.specs.declared.Written.{Written}
use Rattle.index_calls.specs.declared.Accepted.{Accepted}
use Rattle.index_calls.proofs.Laws.{later_none, large_none}
use Rattle.law_index.specs.Looked.{ids_of, row_offsets, looked_at, looked}
use Rattle.law_index.proofs.Held.{rows_small, count_is, good, id_is, offset_is}

-- ---- the same bytes

same_equal : (xs ys : List ℕ) → same_bytes xs ys ≡ true → xs ≡ ys
unfolding same_bytes
same_equal xs ys e =
    let (a, b) = both (eqb (length xs) (length ys)) (starts_with ys xs) e in
    let l = eqb-true (length xs) (length ys) a in
    sym (take_all (length ys) xs (omega arith)) ∙ take_starts ys xs b

equal_same : (xs : List ℕ) → same_bytes xs xs ≡ true
unfolding same_bytes
equal_same xs = rw (eq-eqb (length xs) (length xs) refl) (ap (λ (l : List ℕ). starts_with l xs) (sym (take-length xs)) ∙ starts_take (length xs) xs)

-- ---- accepted exactly

pub else_none : (k n : ℕ) → or_else k n ≡ 0 → (k ≡ 0) × (n ≡ 0)
else_none zero n e = (refl, e)
else_none (suc k) n e = absurd (omega arith)

-- a replay that has an index: its rows are few, and their offsets near
pub rows_few : (f : List ℕ) → replay_refusal f ≡ 0 → (length (rows_in f) ≤ 1048576) × (far (rows_in f) ≡ false)
unfolding replay_refusal
rows_few f e = large_none f (later_none f (else_none (walk_numbers (walk_of f)).number (later_refusal f) e).1).1

pub accepted_is : (f index : List ℕ) → accept_refusal f index ≡ 0 → (replay_refusal f ≡ 0) × (index ≡ index_in f)
unfolding accept_refusal lowest
accepted_is f index e =
    let (a, b) = else_none (replay_refusal f) _ e in
    (a, same_equal index (index_in f) (go (bad_index index) (same_bytes index (index_in f)) b))
  where
    go : (p q : Bool) → ◌≡◌ {A = ℕ} (cond p 25 (cond (not q) 26 0)) 0 → q ≡ true
    go true q h = absurd (omega arith)
    go false true h = refl
    go false false h = absurd (omega arith)

pub is_accepted : (f : List ℕ) → replay_refusal f ≡ 0 → accept_refusal f (index_in f) ≡ 0
unfolding accept_refusal lowest
is_accepted f e =
    let few = (rows_few f e).0 in
    rw (e, good (rows_in f) (omega arith), equal_same (index_in f))

-- as the call says it: accepted exactly when it equals the index worked out from the replay's events
pub exactly : (f index : List ℕ) (r : Accepted) → AcceptOutcome f index r
    → ((r.refused ≡ 0 → (replay_refusal f ≡ 0) × (index ≡ index_in f)) × ((replay_refusal f ≡ 0) × (index ≡ index_in f) → r.refused ≡ 0))
exactly f index r o =
    (λ z. accepted_is f index (sym o.refused_is ∙ z), λ h. o.refused_is ∙ ap (accept_refusal f) h.1 ∙ is_accepted f h.0)

-- two indexes that are accepted for a replay are equal
pub one_index : (f i j : List ℕ) → accept_refusal f i ≡ 0 → accept_refusal f j ≡ 0 → i ≡ j
one_index f i j p q = (accepted_is f i p).1 ∙ sym (accepted_is f j q).1

-- what was written is accepted
pub written_accepted : (f out after : List ℕ) (r : Written) → WriteIndexOutcome f out r after → r.refused ≡ 0 → accept_refusal f (index_in f) ≡ 0
unfolding write_refusal
written_accepted f out after r o z = is_accepted f (else_none (replay_refusal f) _ (sym o.refused_is ∙ z)).0

-- ---- the last of some rows

pub last_same : (ids others : ℕ → ℕ) (id n : ℕ) → ((k : ℕ) → k < n → ids k ≡ others k) → last_among ids id n ≡ last_among others id n
unfolding last_among
last_same ids others id zero h = refl
last_same ids others id (suc n) h = rw (h n (omega arith), last_same ids others id n (λ k l. h k (omega arith)))

-- no row has the id, or the one that is told does and none after it
pub data Last (ids : ℕ → ℕ) (id n : ℕ) (r : ℕ) : Type 0 where
  absent : r ≡ 0 → ((k : ℕ) → k < n → ids k ≡ id → ⊥) → Last ids id n r
  row : (k : ℕ) → r ≡ suc k → k < n → ids k ≡ id → ((j : ℕ) → k < j → j < n → ids j ≡ id → ⊥) → Last ids id n r

longer : (ids : ℕ → ℕ) (id n r : ℕ) → (ids n ≡ id → ⊥) → Last ids id n r → Last ids id (suc n) r
longer ids id n r q (absent e h) = absent e (λ k l i. elim (ℕ_discrete k n) [
  | yes s ↦ q (ap ids (sym s) ∙ i)
  | no s ↦ h k (omega arith) i
])
longer ids id n r q (row k e l i h) = row k e (omega arith) i (λ j a b m. elim (ℕ_discrete j n) [
  | yes s ↦ q (ap ids (sym s) ∙ m)
  | no s ↦ h j a (omega arith) m
])

pub last_is : (ids : ℕ → ℕ) (id n : ℕ) → Last ids id n (last_among ids id n)
unfolding last_among
last_is ids id zero = absent refl (λ k h e. omega arith)
last_is ids id (suc n) = elim (ℕ_discrete (ids n) id) [
  | yes e ↦ rw (eq-eqb (ids n) id e) (row n refl (omega arith) e (λ j a b h. omega arith))
  | no q ↦ rw (ne_eqb (ids n) id q) (longer ids id n (last_among ids id n) q (last_is ids id n))
]

pub last_under : (ids : ℕ → ℕ) (id n : ℕ) → last_among ids id n ≤ n
last_under ids id n = go (last_is ids id n)
  where
    go : Last ids id n (last_among ids id n) → last_among ids id n ≤ n
    go (absent e h) = omega arith
    go (row k e l i h) = omega arith

-- ---- through an accepted index

moments : (index : List ℕ) (f : List ℕ) (id n r : ℕ) → r ≤ n → ((k : ℕ) → k < n → offset_at index k ≡ get_or (row_offsets (rows_in f)) k 0) → moment_at index id r ≡ looked_at (rows_in f) id r
moments index f id n zero l h = refl
moments index f id n (suc k) l h = λ i. record { refused = 0; row = k; offset = h k (omega arith) i; id = id }

pub through_own : (f : List ℕ) → Bytes f → replay_refusal f ≡ 0 → (id : ℕ) → moment_in (index_in f) id ≡ looked f id
unfolding moment_in looked
through_own f bytes e id =
    let (few, near) = rows_few f e in
    let rows = rows_in f in
    let n = length rows in
    let small = rows_small f (run_of f).seen bytes near in
    let ids : (k : ℕ) → k < n → id_at (index_in f) k ≡ get_or (ids_of rows) k 0 = λ k h. id_is rows small k h in
    let offsets : (k : ℕ) → k < n → offset_at (index_in f) k ≡ get_or (row_offsets rows) k 0 = λ k h. offset_is rows small k h in
    let r = last_among (λ k. get_or (ids_of rows) k 0) id n in
    rw (good rows (omega arith), count_is rows (omega arith))
    (ap (λ (x : ℕ). moment_at (index_in f) id x) (last_same (id_at (index_in f)) (λ k. get_or (ids_of rows) k 0) id n ids)
    ∙ moments (index_in f) f id n r (last_under (λ k. get_or (ids_of rows) k 0) id n) offsets)

pub through : (f index : List ℕ) → Bytes f → accept_refusal f index ≡ 0 → (id : ℕ) → moment_in index id ≡ looked f id
through f index bytes e id = let (a, b) = accepted_is f index e in ap (λ (x : List ℕ). moment_in x id) b ∙ through_own f bytes a id

-- 27 exactly where no FrameStart that the walk finds has the id
module _ (f : List ℕ) (id : ℕ) where
  ids : ℕ → ℕ
  ids k = get_or (ids_of (rows_in f)) k 0

  told : (r : ℕ) → Last ids id (length (rows_in f)) r
      → ((looked_at (rows_in f) id r).refused ≡ 27 → (k : ℕ) → k < length (rows_in f) → get_or (ids_of (rows_in f)) k 0 ≡ id → ⊥)
      × (((k : ℕ) → k < length (rows_in f) → get_or (ids_of (rows_in f)) k 0 ≡ id → ⊥) → (looked_at (rows_in f) id r).refused ≡ 27)
  unfolding ids
  told r (absent e h) = (λ z. h, λ z. rw e)
  told r (row k e l i h) = (λ z. absurd (no_row r k e z), λ z. absurd (z k l i))
    where
      no_row : (r k : ℕ) → r ≡ suc k → (looked_at (rows_in f) id r).refused ≡ 27 → ⊥
      no_row zero k e z = omega arith
      no_row (suc n) k e z = omega arith

  pub absent_exactly : ((looked f id).refused ≡ 27 → (k : ℕ) → k < length (rows_in f) → get_or (ids_of (rows_in f)) k 0 ≡ id → ⊥)
      × (((k : ℕ) → k < length (rows_in f) → get_or (ids_of (rows_in f)) k 0 ≡ id → ⊥) → (looked f id).refused ≡ 27)
  unfolding looked ids
  absent_exactly = told (last_among ids id (length (rows_in f))) (last_is ids id (length (rows_in f)))

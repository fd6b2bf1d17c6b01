-- The laws of bytes that begin with others, and of a version's table.
-- Assumes nothing.
use Prim.Native.Nat.{ℕ, ◌-◌, ◌%◌, ◌≤◌}
use mathlib.Core.Path.{◌≡◌, refl, ap, ◌∙◌}
use mathlib.Core.Bool.{Bool, true, false, cond, ◌&&◌}
use mathlib.Core.List.{List, [], ◌∷◌, ◌++◌}
use native.Mathlib.Omega.{arith}
use borrow.Author.Tests.{eqb-true}
use lib.Dec.{eqb}
use lib.ListN.{length, take, drop, length-drop}
use lib.Seq.{take_all}
use Rattle.wire.specs.Wire.{part, Room, Wrote}
use Rattle.wire.proofs.Laws.{part_splice, length_splice}
use Rattle.format.specs.File.{table_bytes}
use Rattle.format.specs.declared.version.Version.{Version}
use Rattle.format.proofs.Files.{length_table}
use Rattle.layout.specs.Columns.{chosen}
use Rattle.layout.specs.Payloads.{entries_of, listed, payload_size}
use Rattle.layout.proofs.Entries.{few_entries}
use lib.Pointwise.{pointwise}
use Rattle.head.specs.Table.{starts_with}
use Rattle.head.proofs.Heads.{starts_same}
use Rattle.check_table.specs.Table.{table_is}

-- ---- bytes that begin with others

pub starts_is : (xs ys : List ℕ) → starts_with xs ys ≡ true → ys ≡ xs ++ drop (length xs) ys
unfolding starts_with
starts_is [] ys h = refl
starts_is (x ∷ xs) [] h = absurd (let z : ◌≡◌ {A = ℕ} 0 1 = ap (λ (b : Bool). cond b 1 0) h in omega arith)
starts_is (x ∷ xs) (y ∷ ys) h = go (eqb y x) refl h (starts_is xs ys)
  where
    go : (b : Bool) → eqb y x ≡ b → (b && starts_with xs ys) ≡ true → (starts_with xs ys ≡ true → ys ≡ xs ++ drop (length xs) ys) → y ∷ ys ≡ x ∷ (xs ++ drop (length xs) ys)
    go true e q more = let s = eqb-true y x e in let t = more q in λ i. s i ∷ t i
    go false e q more = absurd (let z : ◌≡◌ {A = ℕ} 0 1 = ap (λ (b : Bool). cond b 1 0) q in omega arith)

-- ---- a version's table

-- the size of codes counts by its two low bytes alone
pub low_codes : (v : Version) (block : ℕ) (given : Bool) (actual : ℕ) → entries_of v block given (actual % 65536) ≡ entries_of v block given actual
unfolding entries_of chosen listed payload_size
low_codes v block given actual = let e : actual % 65536 % 65536 ≡ actual % 65536 = omega arith in rw e

pub table_short : (v : Version) (block : ℕ) (given : Bool) (actual : ℕ) → length (table_bytes (entries_of v block given actual)) ≤ 38
table_short v block given actual = omega (arith, length_table (entries_of v block given actual), few_entries v block given actual)

pub table_room_lem : (out : List ℕ) (v : Version) (block : ℕ) (given : Bool) (actual : ℕ) → length out ≡ 38 → Room out 0 (table_bytes (entries_of v block given actual))
table_room_lem out v block given actual e = record { fits = omega (arith, table_short v block given actual) }

pub written_front : (before after : List ℕ) (n : ℕ) (bytes : List ℕ) → length bytes ≤ length before → Wrote before after 0 n bytes → take n after ≡ bytes
unfolding part
written_front before after n bytes fits w =
    let e : n ≡ length bytes = omega (arith, w.next_is) in
    ap (λ (k : ℕ). take k after) e ∙ ap (take (length bytes)) w.after_is ∙ part_splice before 0 bytes (omega arith)

pub table_as : (file table : List ℕ) (n : ℕ) (v : Version) (block : ℕ) (given : Bool) (actual : ℕ) → take n table ≡ table_bytes (entries_of v block given (actual % 65536))
    → (r : Bool) → r ≡ pointwise eqb (take n table) (take (length (take n table)) (take (length file - 15) (drop 15 file))) → r ≡ table_is file v block given actual
unfolding table_is
table_as file table n v block given actual t r q =
    q
    ∙ starts_same (take n table) (take (length file - 15) (drop 15 file))
    ∙ ap (λ (l : List ℕ). starts_with l (take (length file - 15) (drop 15 file))) (t ∙ ap table_bytes (low_codes v block given actual))
    ∙ ap (starts_with (table_bytes (entries_of v block given actual))) (take_all (length file - 15) (drop 15 file) (omega (arith, length-drop 15 file)))

-- how much was written
pub written_within : (before after : List ℕ) (n : ℕ) (bytes : List ℕ) → length bytes ≤ length before → Wrote before after 0 n bytes → n ≤ length after
written_within before after n bytes fits w = omega (arith, w.next_is, ap length w.after_is, length_splice before 0 bytes)

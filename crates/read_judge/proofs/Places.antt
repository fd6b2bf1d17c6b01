-- Where the parts of a file stand that has a table and events: its table, the end of its event data, its first payload, and its tail.
-- Assumes nothing.
use Prim.Native.Nat.{ℕ, ◌+◌, ◌*◌, ◌^◌, ◌<◌}
use mathlib.Core.Path.{◌≡◌, refl, sym, ap, ◌∙◌}
use mathlib.Core.Bool.{true}
use mathlib.Core.List.{List, [], ◌∷◌, ◌++◌, append_assoc}
use native.Mathlib.Omega.{arith}
use borrow.Author.Tests.{le-leb}
use lib.ListN.{length, take, drop, length-append}
use lib.Seq.{take_at, drop_at, drop-append-add}
use Rattle.wire.specs.Wire.{part}
use Rattle.format.specs.File.{Entry, Ev, table_bytes, events_bytes, file_of, Fresh}
use Rattle.format.proofs.Files.{length_table}
use Rattle.head.specs.Table.{stop_of, all_present, table_of, first_place}
use Rattle.head.proofs.Written.{top, length_top, headed_top, stop_is, present_is, entries_are}

module _ (t : List Entry) (es : List Ev) (tail : List ℕ) (fresh : Fresh [] t) (fits : length (table_bytes t ++ events_bytes es) < 2 ^ 32) where
  abbrev pub f : List ℕ
  f = file_of t es tail

  abbrev n : ℕ
  n = length (table_bytes t ++ events_bytes es)

  abbrev body : List ℕ
  body = events_bytes es ++ tail

  length_is : n ≡ 2 + 3 * length t + length (events_bytes es)
  length_is = omega (arith, length-append (table_bytes t) (events_bytes es), length_table t)

  body_length : length body ≡ length (events_bytes es) + length tail
  body_length = length-append (events_bytes es) tail

  filled : n ≡ 0 → ⊥
  filled e = omega (arith, length_is)

  pub stop_at : stop_of f ≡ 15 + n
  unfolding file_of
  stop_at = stop_is t n body fits filled ∙ omega (arith, length_is, body_length)

  pub whole : all_present f ≡ true
  unfolding file_of
  whole = present_is t n body fits filled ∙ le-leb (15 + n) (first_place t + length body) (omega (arith, length_is, body_length))

  pub table_is_lem : table_of f ≡ t
  unfolding file_of
  table_is_lem = entries_are t n body fits fresh (omega (arith, stop_at, length_is))

  split : f ≡ top t n ++ (events_bytes es ++ tail)
  unfolding file_of
  split = headed_top t n body

  -- what stands after the event data
  pub tail_is : drop (stop_of f) f ≡ tail
  tail_is =
      let long : length (top t n ++ events_bytes es) ≡ stop_of f = omega (arith, length-append (top t n) (events_bytes es), length_top t n, stop_at, length_is) in
      ap (drop (stop_of f)) (split ∙ sym (append_assoc (top t n) (events_bytes es) tail)) ∙ drop_at (top t n ++ events_bytes es) tail (stop_of f) long

  -- and behind the code of the first event
  pub first_is : (e : Ev) (rest : List Ev) → es ≡ e ∷ rest → part f (first_place (table_of f) + 1) (length e.payload) ≡ e.payload
  unfolding part events_bytes
  first_is e rest q =
      let at : first_place (table_of f) + 1 ≡ length (top t n) + 1 = omega (arith, ap first_place table_is_lem, length_top t n) in
      let there : events_bytes es ++ tail ≡ e.code ∷ (e.payload ++ (events_bytes rest ++ tail)) =
      ap (λ (l : List Ev). events_bytes l ++ tail) q ∙ ap (λ (l : List ℕ). e.code ∷ l) (append_assoc e.payload (events_bytes rest) tail) in
      ap (take (length e.payload))
      (ap (drop (first_place (table_of f) + 1)) split
      ∙ ap (λ (k : ℕ). drop k (top t n ++ (events_bytes es ++ tail))) at
      ∙ drop-append-add (top t n) (events_bytes es ++ tail) 1
      ∙ ap (drop 1) there)
      ∙ take_at e.payload (events_bytes rest ++ tail) (length e.payload) refl

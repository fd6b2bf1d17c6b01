-- A whole file with a version's table is made of that table, its events, and what follows them.
-- Assumes nothing.
use Prim.Native.Nat.{ℕ, ◌+◌, ◌*◌, ◌/◌, ◌^◌, ◌≤◌, ◌<◌}
use mathlib.Core.Path.{◌≡◌, refl, sym, ap, ap₂, ◌∙◌}
use mathlib.Core.Bool.{Bool, true, false, cond, not, ◌||◌}
use mathlib.Core.List.{List, [], ◌∷◌, ◌++◌}
use native.Mathlib.Omega.{arith}
use borrow.Author.Tests.{ltb-false, leb-true}
use lib.Dec.{leb, ltb, eqb}
use lib.ListN.{length, get_or, drop, length-append, take-append-drop}
use lib.Seq.{get_or-drop, drop-drop}
use Rattle.wire.specs.Wire.{be, part}
use Rattle.format.specs.Event.{signature}
use Rattle.format.specs.File.{Entry, Ev, table_bytes, events_bytes, file_of}
use Rattle.format.specs.Refusal.{refuse}
use Rattle.format.proofs.Files.{length_table}
use Rattle.format.proofs.Refusals.{passed}
use Rattle.head.specs.Table.{starts_with, declared, unfilled, stop_of, all_present, table_of, first_place, unsigned, untabled, head_refusal}
use Rattle.head.proofs.Filled.{whole_data}
use Rattle.head.proofs.Heads.{entries_length}
use Rattle.grammar.proofs.Tests.{both}
use Rattle.read_outline.proofs.Laws.{length_part}
use Rattle.map_reader.proofs.Places.{be_number, part_bytes}
use Rattle.read_judge.specs.Inner.{Bytes}
use Rattle.read_judge.proofs.StartLaws.{not_taken, not_left}
use Rattle.check_table.proofs.Laws.{starts_is}

neither : (a b : Bool) → (a || b) ≡ false → (a ≡ false) × (b ≡ false)
neither false b e = (refl, e)
neither true b e = absurd (let z : ◌≡◌ {A = ℕ} 0 1 = ap (λ (c : Bool). cond c 1 0) (sym e) in omega arith)

module _ (f : List ℕ) (accepted : head_refusal f ≡ 0) where
  signed_both : (ltb (length f) 15 ≡ false) × (not (starts_with signature f) ≡ false)
  unfolding head_refusal unsigned
  signed_both = neither (ltb (length f) 15) (not (starts_with signature f)) (passed 13 _ (refuse 15 (untabled f) ∷ []) accepted).0

  pub long : 15 ≤ length f
  long = ltb-false (length f) 15 signed_both.0

  signed : f ≡ signature ++ drop 11 f
  signed = starts_is signature f (not_left (starts_with signature f) signed_both.1)

  module _ (present : all_present f ≡ true) where
    present_both : (not (unfilled f) ≡ true) × (leb (15 + declared f) (length f) ≡ true)
    unfolding all_present
    present_both = both (not (unfilled f)) (leb (15 + declared f) (length f)) present

    some_declared : declared f ≡ 0 → ⊥
    some_declared e = let z : ◌≡◌ {A = ℕ} 0 1 = ap (λ (c : Bool). cond c 1 0) (sym (not_taken (unfilled f) present_both.0) ∙ ap (λ (n : ℕ). eqb n 0) e) in omega arith

    stop_is : stop_of f ≡ 15 + declared f
    stop_is = (whole_data f some_declared (leb-true (15 + declared f) (length f) present_both.1)).0

    module _ (bytes : Bytes f) where
      four : (be 4 (declared f) ≡ part f 11 4) × (declared f < 256 ^ 4)
      four = be_number (part f 11 4) 4 (length_part f 11 4 (omega (arith, long))) (part_bytes f 11 4 bytes)

      front : f ≡ signature ++ (be 4 (declared f) ++ drop 15 f)
      unfolding part
      front =
          signed
          ∙ ap (λ (l : List ℕ). signature ++ l)
          (sym (take-append-drop 4 (drop 11 f)) ∙ ap₂ (λ (a b : List ℕ). a ++ b) (sym four.0) (drop-drop 4 11 f))

      -- a table stands at 15
      module _ (t : List Entry) (starts : starts_with (table_bytes t) (drop 15 f) ≡ true) where
        stands : drop 15 f ≡ table_bytes t ++ drop (length (table_bytes t)) (drop 15 f)
        stands = starts_is (table_bytes t) (drop 15 f) starts

        size_byte : get_or f 16 0 ≡ 3 * length t + 1
        unfolding table_bytes
        size_byte = sym (get_or-drop 15 f 1 0) ∙ ap (λ (l : List ℕ). get_or l 1 0) stands

        first_is : first_place (table_of f) ≡ 15 + length (table_bytes t)
        unfolding table_of
        first_is = omega (arith, entries_length (get_or f 16 0 / 3) (drop 17 f), size_byte, length_table t)

        -- and these events behind it, up to the end of the event data
        module _ (es : List Ev) (here : drop (first_place (table_of f)) f ≡ events_bytes es ++ drop (stop_of f) f) (ends : stop_of f ≡ first_place (table_of f) + length (events_bytes es)) where
          length_is : declared f ≡ length (table_bytes t ++ events_bytes es)
          length_is = omega (arith, length-append (table_bytes t) (events_bytes es), stop_is, ends, first_is)

          pub fits : length (table_bytes t ++ events_bytes es) < 2 ^ 32
          fits = let z : 256 ^ 4 ≡ 2 ^ 32 = refl in omega (arith, four.1, length_is)

          behind : drop (length (table_bytes t)) (drop 15 f) ≡ events_bytes es ++ drop (stop_of f) f
          behind = drop-drop (length (table_bytes t)) 15 f ∙ ap (λ (n : ℕ). drop n f) (sym first_is) ∙ here

          pub made : f ≡ file_of t es (drop (stop_of f) f)
          unfolding file_of
          made =
              front
              ∙ ap₂ (λ (n : ℕ) (l : List ℕ). signature ++ (be 4 n ++ l)) length_is (stands ∙ ap (λ (l : List ℕ). table_bytes t ++ l) behind)

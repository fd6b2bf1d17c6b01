-- Players' rows into a store of blocks, frame after frame: cell by cell, and all of it.
-- Assumes nothing.
use mathlib.Core.Path.{◌≡◌, refl, sym, ap, ◌∙◌}
use mathlib.Core.Bool.{Bool, true, false, cond}
use mathlib.Core.List.{List, [], ◌∷◌, ◌++◌, map}
use Prim.Native.Nat.{ℕ, zero, suc, ◌+◌, ◌*◌, ◌/◌, ◌%◌, ◌≤◌, ◌<◌}
use native.Mathlib.Omega.{arith}
use borrow.Author.Tests.{ltb-true, eqb-true, eqb-false, eq-eqb, lt-ltb}
use lib.Arith.{digits_lt, digits_div, digits_mod}
use lib.Dec.{eqb, ltb}
use lib.ListN.{length, get_or, take}
use lib.Seq.{take-nil, drop-nil}
use Rattle.wire.specs.Wire.{more}
use Rattle.format.specs.File.{index_of}
use Rattle.format.specs.declared.version.Version.{Version}
use Rattle.format.proofs.Versions.{no_way}
use Rattle.layout.specs.Columns.{sum}
use Rattle.layout.specs.declared.columns.Family.{Family}
use Rattle.record.specs.Record.{read_back}
use Rattle.record.proofs.Laws.{length_read}
use Rattle.grammar.specs.Productions.{Player, Frame}
use Rattle.grammar.specs.WellFormed.{Each, slot_of, InOrder, ascending, GoodFrame}
use Rattle.grammar.proofs.Tests.{or_true}
use Rattle.columns.specs.Columns.{holds, players_at, row_by, slot_row}
use Rattle.columns.specs.Inner.{column}
use Rattle.columns.proofs.Laws.{read_at_lem, read_other}
use Rattle.law_filled.proofs.Distinct.{among, never_again}
use Rattle.law_filled.proofs.Numbers.{found}

-- nobody's columns are zero
column_none : (ws : List ℕ) (c : ℕ) → column ws [] c ≡ 0
unfolding column more
column_none ws c = rw (drop-nil {A = ℕ} (sum (take c ws)), take-nil {A = ℕ} (get_or ws c 0))

among_last : (j : ℕ) (seen : List ℕ) (k : ℕ) → k ≡ j → among j (seen ++ (k ∷ [])) ≡ true
unfolding among
among_last j [] k e = rw (eq-eqb k j e)
among_last j (x ∷ seen) k e = or_true (eqb x j) (among j (seen ++ (k ∷ []))) (among_last j seen k e)

module _ (ws numbers : List ℕ) (frames : ℕ) where
  -- where column c of row i of the k-th block stands
  abbrev pub cell_at : ℕ → ℕ → ℕ → ℕ
  cell_at k c i = k * (length ws * frames) + (c * frames + i)

  -- a cell is of one block and of one row
  same_cell : (k b c d i n : ℕ) → cell_at k c i ≡ cell_at b d n → c < length ws → d < length ws → i < frames → n < frames → (k ≡ b) × (i ≡ n)
  same_cell k b c d i n e hc hd hi hn =
      let p : c * frames + i < length ws * frames = digits_lt hc hi in
      let q : d * frames + n < length ws * frames = digits_lt hd hn in
      let inner : c * frames + i ≡ d * frames + n = sym (digits_mod k p) ∙ ap (λ (x : ℕ). x % (length ws * frames)) e ∙ digits_mod b q in (
        sym (digits_div k p) ∙ ap (λ (x : ℕ). x / (length ws * frames)) e ∙ digits_div b q,
        sym (digits_mod c hi) ∙ ap (λ (x : ℕ). x % frames) inner ∙ digits_mod d hn,
      )

  in_store : (blocks k c i : ℕ) → k < blocks → c < length ws → i < frames → cell_at k c i < blocks * (length ws * frames)
  in_store blocks k c i h l m = digits_lt h (digits_lt l m)

  -- ---- one player

  -- a row of frame n into the block of slot j, where it has one
  unfoldable pub seat : ℕ → List ℕ → ℕ → List ℕ → List ℕ
  seat j b n xs = cond (ltb (index_of j numbers) (length numbers)) (read_back ws b xs frames (index_of j numbers * (length ws * frames) + n)) xs

  length_seat : (j : ℕ) (b : List ℕ) (n : ℕ) (xs : List ℕ) → length (seat j b n xs) ≡ length xs
  unfolding seat
  length_seat j b n xs = go (ltb (index_of j numbers) (length numbers))
    where
      go : (t : Bool) → length (cond t (read_back ws b xs frames (index_of j numbers * (length ws * frames) + n)) xs) ≡ length xs
      go true = length_read ws b xs frames (index_of j numbers * (length ws * frames) + n)
      go false = refl

  seat_stays : (j : ℕ) (b : List ℕ) (n : ℕ) (xs : List ℕ) (q : ℕ)
      → ((c : ℕ) → c < length ws → index_of j numbers < length numbers → q ≡ cell_at (index_of j numbers) c n → ⊥) → get_or (seat j b n xs) q 0 ≡ get_or xs q 0
  unfolding seat
  seat_stays j b n xs q h = go (ltb (index_of j numbers) (length numbers)) refl
    where
      go : (t : Bool) → ltb (index_of j numbers) (length numbers) ≡ t
          → get_or (cond t (read_back ws b xs frames (index_of j numbers * (length ws * frames) + n)) xs) q 0 ≡ get_or xs q 0
      go true e =
          read_other ws b xs frames (index_of j numbers * (length ws * frames) + n) q (λ c l z. h c l (ltb-true (index_of j numbers) (length numbers) e) (omega arith))
      go false e = refl

  seat_at_lem : (j : ℕ) (b : List ℕ) (n : ℕ) (xs : List ℕ) (c : ℕ) → n < frames → c < length ws → index_of j numbers < length numbers
      → length numbers * (length ws * frames) ≤ length xs → get_or (seat j b n xs) (cell_at (index_of j numbers) c n) 0 ≡ column ws b c
  unfolding seat
  seat_at_lem j b n xs c hn hc hk room =
      let k = index_of j numbers in
      let e : k * (length ws * frames) + (c * frames + n) ≡ k * (length ws * frames) + n + c * frames = omega arith in
      let i = in_store (length numbers) k c n hk hc hn in
      rw (lt-ltb (index_of j numbers) (length numbers) hk)
      (ap (λ (q : ℕ). get_or (read_back ws b xs frames (k * (length ws * frames) + n)) q 0) e
      ∙ read_at_lem ws b xs frames (k * (length ws * frames) + n) c (omega arith) hc (omega arith))

  -- ---- a family's rows

  module _ (family : Family) where
    -- all players of a frame
    unfoldable pub seat_all : ℕ → List Player → List ℕ → List ℕ
    seat_all n [] xs = xs
    seat_all n (p ∷ ps) xs = seat_all n ps (seat (slot_of p) (row_by family p) n xs)

    -- and of all frames, the first of which is frame n
    unfoldable pub seat_frames : List Frame → ℕ → List ℕ → List ℕ
    seat_frames [] n xs = xs
    seat_frames (f ∷ fs) n xs = seat_frames fs (n + 1) (seat_all n f.players xs)

    length_all : (n : ℕ) (ps : List Player) (xs : List ℕ) → length (seat_all n ps xs) ≡ length xs
    unfolding seat_all
    length_all n [] xs = refl
    length_all n (p ∷ ps) xs = length_all n ps (seat (slot_of p) (row_by family p) n xs) ∙ length_seat (slot_of p) (row_by family p) n xs

    pub length_frames : (fs : List Frame) (n : ℕ) (xs : List ℕ) → length (seat_frames fs n xs) ≡ length xs
    unfolding seat_frames
    length_frames [] n xs = refl
    length_frames (f ∷ fs) n xs = length_frames fs (n + 1) (seat_all n f.players xs) ∙ length_all n f.players xs

    all_stays : (n : ℕ) (ps : List Player) (xs : List ℕ) (q : ℕ)
        → ((j c : ℕ) → holds j ps ≡ true → c < length ws → index_of j numbers < length numbers → q ≡ cell_at (index_of j numbers) c n → ⊥)
        → get_or (seat_all n ps xs) q 0 ≡ get_or xs q 0
    unfolding seat_all holds
    all_stays n [] xs q h = refl
    all_stays n (p ∷ ps) xs q h =
        all_stays n ps (seat (slot_of p) (row_by family p) n xs) q (λ j c t. h j c (or_true (eqb (slot_of p) j) (holds j ps) t))
        ∙ seat_stays (slot_of p) (row_by family p) n xs q (λ c. h (slot_of p) c (rw (eq-eqb (slot_of p) (slot_of p) refl)))

    -- a place that no cell of these frames has
    pub frames_stay : (fs : List Frame) (n : ℕ) (xs : List ℕ) (q : ℕ)
        → ((m j c : ℕ) → n ≤ m → m < n + length fs → c < length ws → index_of j numbers < length numbers → q ≡ cell_at (index_of j numbers) c m → ⊥)
        → get_or (seat_frames fs n xs) q 0 ≡ get_or xs q 0
    unfolding seat_frames
    frames_stay [] n xs q h = refl
    frames_stay (f ∷ fs) n xs q h =
        frames_stay fs (n + 1) (seat_all n f.players xs) q (λ m j c a b. h m j c (omega arith) (omega arith))
        ∙ all_stays n f.players xs q (λ j c t. h n j c (omega arith) (omega arith))

    -- ---- the cells of the slot of number d, whose block is the k-th

    module _ (k d : ℕ) (inside : k < length numbers) (is : get_or numbers k 0 ≡ d) (index : index_of d numbers ≡ k) (c : ℕ) (narrow : c < length ws) where
      -- who has a cell of it is of that slot
      whose : (j : ℕ) → index_of j numbers < length numbers → k ≡ index_of j numbers → j ≡ d
      whose j l e = sym (found j numbers l) ∙ ap (λ (x : ℕ). get_or numbers x 0) (sym e) ∙ is

      frame_cell : (n : ℕ) (ps : List Player) (seen xs : List ℕ) → InOrder ascending seen (map slot_of ps) → n < frames
          → length numbers * (length ws * frames) ≤ length xs → get_or xs (cell_at k c n) 0 ≡ 0
          → get_or (seat_all n ps xs) (cell_at k c n) 0 ≡ column ws (slot_row family d ps) c
      unfolding seat_all slot_row InOrder
      frame_cell n [] seen xs o l room z = z ∙ sym (column_none ws c)
      frame_cell n (p ∷ ps) seen xs o l room z = go (eqb (slot_of p) d) refl (λ ys h y. frame_cell n ps (seen ++ (slot_of p ∷ [])) ys o.1 l h y)
        where
          own : slot_of p ≡ d → get_or (seat (slot_of p) (row_by family p) n xs) (cell_at k c n) 0 ≡ column ws (row_by family p) c
          own e =
              let x : index_of (slot_of p) numbers ≡ k = ap (λ (j : ℕ). index_of j numbers) e ∙ index in
              ap (λ (b : ℕ). get_or (seat (slot_of p) (row_by family p) n xs) (cell_at b c n) 0) (sym x)
              ∙ seat_at_lem (slot_of p) (row_by family p) n xs c l narrow (omega arith) room

          go : (t : Bool) → eqb (slot_of p) d ≡ t
              → ((ys : List ℕ) → length numbers * (length ws * frames) ≤ length ys → get_or ys (cell_at k c n) 0 ≡ 0 → get_or (seat_all n ps ys) (cell_at k c n) 0 ≡ column ws (slot_row family d ps) c)
              → get_or (seat_all n ps (seat (slot_of p) (row_by family p) n xs)) (cell_at k c n) 0 ≡ column ws (cond t (row_by family p) (slot_row family d ps)) c
          go true e others =
              let s : slot_of p ≡ d = eqb-true (slot_of p) d e in
              let none : holds d ps ≡ false = never_again d (seen ++ (slot_of p ∷ [])) ps o.1 (among_last d seen (slot_of p) s) in
              all_stays n ps (seat (slot_of p) (row_by family p) n xs) (cell_at k c n)
              (λ j c' t h m q.
              let (block, row) = same_cell k (index_of j numbers) c c' n n q narrow h l l in
              no_way (sym none ∙ ap (λ (x : ℕ). holds x ps) (sym (whose j m block)) ∙ t))
              ∙ own s
          go false e others =
              others (seat (slot_of p) (row_by family p) n xs) (omega (arith, length_seat (slot_of p) (row_by family p) n xs))
              (seat_stays (slot_of p) (row_by family p) n xs (cell_at k c n)
              (λ c' h m q.
              let (block, row) = same_cell k (index_of (slot_of p) numbers) c c' n n q narrow h l l in
              eqb-false (slot_of p) d e (whose (slot_of p) m block))
              ∙ z)

      -- in frame i, the j-th of those that begin at n
      pub frames_cell : (v : Version) (fs : List Frame) (n : ℕ) (xs : List ℕ) (i j : ℕ) → i ≡ n + j → j < length fs → n + length fs ≤ frames
          → Each (GoodFrame v ascending) fs → length numbers * (length ws * frames) ≤ length xs → get_or xs (cell_at k c i) 0 ≡ 0
          → get_or (seat_frames fs n xs) (cell_at k c i) 0 ≡ column ws (slot_row family d (players_at fs j)) c
      unfolding seat_frames players_at Each
      frames_cell v [] n xs i j e l few g room z = absurd (omega arith)
      frames_cell v (f ∷ fs) n xs i zero e l few g room z =
          let s : i ≡ n = omega arith in
          frames_stay fs (n + 1) (seat_all n f.players xs) (cell_at k c i)
          (λ m j c' a b h t q.
          let (block, row) = same_cell k (index_of j numbers) c c' i m q narrow h (omega arith) (omega arith) in
          omega arith)
          ∙ ap (λ (x : ℕ). get_or (seat_all n f.players xs) (cell_at k c x) 0) s
          ∙ frame_cell n f.players [] xs g.0.slots (omega arith) room (ap (λ (x : ℕ). get_or xs (cell_at k c x) 0) (sym s) ∙ z)
      frames_cell v (f ∷ fs) n xs i (suc j) e l few g room z =
          frames_cell v fs (n + 1) (seat_all n f.players xs) i j (omega arith) (omega arith) (omega arith) g.1 (omega (arith, length_all n f.players xs))
          (all_stays n f.players xs (cell_at k c i)
          (λ j c' t h m q.
          let (block, row) = same_cell k (index_of j numbers) c c' i n q narrow h (omega arith) (omega arith) in
          omega arith)
          ∙ z)

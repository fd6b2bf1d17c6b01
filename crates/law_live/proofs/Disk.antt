-- A game recorded as it is played is the file that `write` gives.
-- Assumes nothing.
use mathlib.Core.Path.{◌≡◌, sym, ap, ap₂, ◌∙◌}
use mathlib.Core.List.{List, [], ◌∷◌, ◌++◌}
use Prim.Native.Nat.{ℕ, ◌+◌, ◌-◌, ◌≤◌}
use native.Mathlib.Omega.{arith}
use lib.ListN.{length, take}
use Rattle.wire.specs.Wire.{splice, part}
use Rattle.format.specs.Refusal.{lowest}
use Rattle.game.specs.Stores.{Lent, Stores}
use Rattle.game.specs.declared.frames.Frames.{Frames}
use Rattle.game.specs.declared.Game.{Game}
use Rattle.frames.proofs.Accepted.{accepted}
use Rattle.head.specs.Table.{first_place}
use Rattle.de.specs.Walk.{walk_of}
use Rattle.de.specs.Cut.{events_read, called_cut}
use Rattle.ser.specs.Write.{entries, file, judged}
use Rattle.ser.proofs.Outcomes.{passes}
use Rattle.std.specs.Prelude.{Ok}
use Rattle.append.specs.Run.{run_bytes}
use Rattle.append.proofs.Runs.{ran, run_split, run_stands, empty_run}
use Rattle.law_part.proofs.Calls.{all_is}
use Rattle.live.specs.Head.{head_bytes, HeadOutcome}
use Rattle.live.specs.End.{end_bytes, ends_at, EndOutcome}
use Rattle.live.specs.Length.{field_refusal, field_bytes}
use Rattle.live.proofs.Calls.{began, head_stands, ended, end_stands}
use Rattle.law_live.specs.Recording.{opening_of, closing_of}
use Rattle.law_live.specs.Disk.{Piece, Pieces}
use Rattle.law_live.proofs.Parts.{head_length_lem, head_filled, all_frames, data_length, file_is}
use Rattle.law_live.proofs.Whole.{field_is}
use Rattle.law_live.proofs.Unclosed.{so_far, found, walk}

-- a piece's bytes are the large game's run
piece_is : {f : Frames} {s : Lent} {a b : ℕ} {bytes : List ℕ} → Piece f s a b bytes → (a ≤ b) × (bytes ≡ run_bytes f s a b)
piece_is p =
    (omega (arith, p.is_part.frames), p.bytes_are ∙ run_stands p.call ∙ all_is p.is_part (accepted p.small p.own 0 0 (ran p.call).judged))

pub pieces_run : (f : Frames) (s : Lent) (a : ℕ) (cs : List ℕ) (b : ℕ) (bytes : List ℕ) → Pieces f s a cs b bytes → (a ≤ b) × (bytes ≡ run_bytes f s a b)
unfolding Pieces
pieces_run f s a [] b bytes p = piece_is p
pieces_run f s a (c ∷ cs) b bytes p =
    let (h, x) = piece_is p.first_is in
    let (l, y) = pieces_run f s c cs b p.rest p.rest_is in
    (omega (arith, h, l), p.both ∙ ap₂ (λ (u v : List ℕ). u ++ v) x y ∙ sym (run_split f s a c b h l))

-- the bytes that were put there, whatever calls they came from
module _ (g : Game) (s : Stores) (ok : lowest (judged g s) ≡ 0) where
  put_down : {out a : List ℕ} {h : ℕ} → HeadOutcome (opening_of g s) out (Ok h) a
      → (bytes : List ℕ) → bytes ≡ all_frames g s
      → {place m n : ℕ} {to z : List ℕ} → EndOutcome (closing_of g s) place to (ends_at m n) z
      → (field_refusal (h + length bytes + (m - place) - 15) ≡ 0)
      × (splice (take h a ++ (bytes ++ part z place (n - place))) 11 (field_bytes (h + length bytes + (m - place) - 15)) ≡ file g s)
  put_down {a = a} {h = h} x bytes same {place} {m} {n} {z = z} y =
      let o = opening_of g s in
      let c = closing_of g s in
      let t = ended y in
      let long : h + length bytes + (m - place) - 15 ≡ data_length g s = omega (arith, (began x).next_is, head_length_lem o 0, ap length same, t.events_is) in
      let field = field_is (passes g s ok) (h + length bytes + (m - place) - 15) long in
      let laid : take h a ++ (bytes ++ part z place (n - place)) ≡ head_bytes o ++ (all_frames g s ++ end_bytes c) =
      ap₂ (λ (u v : List ℕ). u ++ v) (head_stands x) (ap₂ (λ (u v : List ℕ). u ++ v) same (end_stands y)) in (
        field.0,
        ap₂ (λ (u v : List ℕ). splice u 11 v) laid field.1 ∙ head_filled o 0 (data_length g s) (all_frames g s ++ end_bytes c) ∙ sym (file_is g s),
      )

  -- for every accepted game: the head that was written, the bytes of its runs, and the end that was written, with the field of their event data at 11, are its file; the
  -- field is not refused
  pub on_disk : {out a : List ℕ} {h : ℕ} → HeadOutcome (opening_of g s) out (Ok h) a
      → (cs bytes : List ℕ) → Pieces g.frames s.lent 0 cs g.frames.counts.frames bytes
      → {place m n : ℕ} {to z : List ℕ} → EndOutcome (closing_of g s) place to (ends_at m n) z
      → (field_refusal (h + length bytes + (m - place) - 15) ≡ 0)
      × (splice (take h a ++ (bytes ++ part z place (n - place))) 11 (field_bytes (h + length bytes + (m - place) - 15)) ≡ file g s)
  on_disk x cs bytes p y = put_down x bytes (pieces_run g.frames s.lent 0 cs g.frames.counts.frames bytes p).1 y

  -- a game without frames needs no run
  pub no_frames_lem : g.frames.counts.frames ≡ 0 → {out a : List ℕ} {h : ℕ} → HeadOutcome (opening_of g s) out (Ok h) a
      → {place m n : ℕ} {to z : List ℕ} → EndOutcome (closing_of g s) place to (ends_at m n) z
      → (field_refusal (h + 0 + (m - place) - 15) ≡ 0)
      × (splice (take h a ++ part z place (n - place)) 11 (field_bytes (h + 0 + (m - place) - 15)) ≡ file g s)
  no_frames_lem none x y = put_down x [] (sym (empty_run g.frames s.lent 0) ∙ ap (run_bytes g.frames s.lent 0) (sym none)) y

-- ---- before the end: what was put there so far is the head and the first frames
pub put_so_far : (g : Game) (s : Stores) {out a : List ℕ} {h : ℕ} → HeadOutcome (opening_of g s) out (Ok h) a
    → (k : ℕ) (cs bytes : List ℕ) → Pieces g.frames s.lent 0 cs k bytes → take h a ++ bytes ≡ so_far g s k
put_so_far g s x k cs bytes p = ap₂ (λ (u v : List ℕ). u ++ v) (head_stands x) (pieces_run g.frames s.lent 0 cs k bytes p).1

-- so that, cut anywhere from the table's end on, it has the events of the same cut of the file, and its answer, cut
pub put_walk : (g : Game) (s : Stores) → lowest (judged g s) ≡ 0 → {out a : List ℕ} {h : ℕ} → HeadOutcome (opening_of g s) out (Ok h) a
    → (k : ℕ) → k ≤ g.frames.counts.frames → (cs bytes : List ℕ) → Pieces g.frames s.lent 0 cs k bytes
    → (j : ℕ) → first_place (entries g s) ≤ j → j ≤ length (take h a ++ bytes)
    → (events_read (take j (take h a ++ bytes)) ≡ events_read (take j (file g s))) × (walk_of (take j (take h a ++ bytes)) ≡ called_cut (walk_of (take j (file g s))))
put_walk g s ok x k l cs bytes p j from to =
    let e = put_so_far g s x k cs bytes p in
    let inside : j ≤ length (so_far g s k) = omega (arith, to, ap length e) in (
      ap (λ (q : List ℕ). events_read (take j q)) e ∙ found (passes g s ok) k l j from inside,
      ap (λ (q : List ℕ). walk_of (take j q)) e ∙ walk (passes g s ok) k l j from inside,
    )

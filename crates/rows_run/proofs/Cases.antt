-- Worked runs, computed from the definitions: rows of a player who is absent in the second frame, two different answers, every refusal.
-- Assumes nothing.
use mathlib.Core.Path.{◌≡◌, refl}
use mathlib.Core.List.{List, [], ◌∷◌, ◌++◌, map}
use Prim.Native.Nat.{ℕ, zero, suc, ◌+◌}
use lib.ListN.{length, replicate}
use Rattle.wire.specs.Wire.{splice, ranged}
use Rattle.format.specs.Version.{version}
use Rattle.format.specs.declared.version.Version.{Version}
use Rattle.game.specs.Stores.{Lent, cells, offsets, lent}
use Rattle.game.specs.declared.frames.PortColumn.{PortColumn}
use Rattle.game.specs.declared.frames.Frames.{Frames}
use Rattle.players.specs.Presence.{marked}
use Rattle.transpose.specs.Records.{mark_at}
use Rattle.transpose.specs.Answers.{unless_refused}
use Rattle.rows_run.specs.Run.{family_at, no_run, run_row, run_cells, rows_run_refusal}
use Rattle.frames.proofs.Opens.{opens_refusals}

-- from, from + step, .., n of them
steps : ℕ → ℕ → ℕ → List ℕ
steps from step zero = []
steps from step (suc n) = from ∷ steps (from + step) step n

abbrev column : ℕ → PortColumn
column p = record { port = p; follower = 0; leader_presence = 1; follower_presence = 0 }

abbrev no_column : PortColumn
no_column = record { port = 0; follower = 0; leader_presence = 0; follower_presence = 0 }

-- a player in frames whose Pre has 14 columns and whose Post has 11, at 0.1; in the stores 1, 2, 3, ..
abbrev game : Version → ℕ → ℕ → Frames
game v frames port = record {
  version = v;
  counts = record { frames = frames; items = 0; fods = 0; whispys = 0; stadiums = 0 };
  ports = column port ∷ no_column ∷ no_column ∷ no_column ∷ [];
  port_count = 1;
}

abbrev stores : List ℕ → List ℕ → List ℕ → Lent
stores posts items presence = lent (cells (0 ∷ 1 ∷ []) [] (steps 1 1 28) posts [] [] [] [] []) (offsets items [] [] []) presence

-- a case: the game, its stores, what is asked for, the store before, and the number with the store afterwards
record Case : Type 0 where
  frames : Frames
  stores : Lent
  number : ℕ
  slot : ℕ
  from : ℕ
  to : ℕ
  out : List ℕ
  answer : List ℕ

abbrev ask : Frames → Lent → ℕ → ℕ → ℕ → ℕ → List ℕ → List ℕ → Case
ask f s number slot from to out answer = record { frames = f; stores = s; number = number; slot = slot; from = from; to = to; out = out; answer = answer }

abbrev early : Version
early = version 0 1 0

abbrev sound : Lent
sound = stores (steps 1 1 22) [] (1 ∷ [])

abbrev good : ℕ → ℕ → ℕ → ℕ → List ℕ → List ℕ → Case
good number slot from to out answer = ask (game early 2 3) sound number slot from to out answer

abbrev bad : ℕ → Frames → Lent → Case
bad n f s = ask f s 1 0 0 2 (7 ∷ 7 ∷ []) (n ∷ 7 ∷ 7 ∷ [])

-- both Pre rows with their marks, and one cell past them; the second Post row; a frame's start, which has no cells; no rows; then refusals: 12, 13 for a
-- family, a slot, a slot of a family without players, a reversed range and one past the rows, before 12; and 1 to 7
cases : List Case
cases =
    good 1 0 0 2 (replicate 31 9) (0 ∷ steps 1 2 14 ++ (1 ∷ steps 2 2 14 ++ (0 ∷ 9 ∷ [])))
    ∷ good 2 0 1 2 (replicate 12 9) (0 ∷ steps 2 2 11 ++ (0 ∷ []))
    ∷ good 0 0 0 2 (9 ∷ []) (0 ∷ 9 ∷ [])
    ∷ good 1 0 2 2 [] (0 ∷ [])
    ∷ good 1 0 0 2 (replicate 29 9) (12 ∷ replicate 29 9)
    ∷ good 8 0 0 0 [] (13 ∷ [])
    ∷ good 1 1 0 0 [] (13 ∷ [])
    ∷ good 0 1 0 0 [] (13 ∷ [])
    ∷ good 1 0 1 0 [] (13 ∷ [])
    ∷ good 1 0 0 3 [] (13 ∷ [])
    ∷ bad 1 (game (version 3 18 1) 2 3) sound
    ∷ bad 2 (game early 1048577 3) sound
    ∷ bad 3 (game early 2 3) (stores (steps 1 1 21) [] (1 ∷ []))
    ∷ bad 4 (game early 2 3) (stores (256 ∷ steps 1 1 21) [] (1 ∷ []))
    ∷ bad 5 (game early 2 3) (stores (steps 1 1 22) (0 ∷ []) (1 ∷ []))
    ∷ bad 6 (game early 2 3) (stores (steps 1 1 22) [] [])
    ∷ bad 7 (game early 2 4) sound
    ∷ []

shown : Case → List ℕ
shown c =
    let f = c.frames in
    let s = c.stores in
    let n = rows_run_refusal f s c.number c.slot c.from c.to (length c.out) in
    n ∷ unless_refused n (splice c.out 0 (run_cells f s (family_at c.number) c.slot c.from c.to)) c.out

computed : map shown cases ≡ map (λ (c : Case). c.answer) cases
unfolding opens_refusals cases shown steps splice ranged run_row no_run rows_run_refusal unless_refused mark_at marked
computed = refl

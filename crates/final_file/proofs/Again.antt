-- A game without rollbacks gives its own file. So the final frames of final frames are all of them: exporting an export again gives the same file.
-- Assumes nothing.
use mathlib.Core.Path.{◌≡◌, ap}
use mathlib.Core.List.{List, ◌∷◌, ◌++◌}
use Prim.Native.Nat.{ℕ}
use lib.ListN.{length}
use Rattle.format.specs.File.{Ev, file_of}
use Rattle.format.specs.Mark.{yes}
use Rattle.format.specs.Refusal.{lowest}
use Rattle.game.specs.Stores.{Stores}
use Rattle.game.specs.declared.Game.{Game}
use Rattle.codes.specs.Blocks.{code_events}
use Rattle.ending.specs.End.{end_events}
use Rattle.ending.specs.Tail.{tail_of}
use Rattle.ser.specs.Write.{entries, game_start_event, events, file, judged}
use Rattle.ser.proofs.Outcomes.{passes}
use Rattle.final_frames.specs.Rows.{frames_at}
use Rattle.final_frames.specs.Final.{final_game, final_stores}
use Rattle.final_frames.proofs.Alone.{Clear, own_frames, final_clear, final_counted}
use Rattle.final_file.specs.Write.{final_file}

counted_own : (g : Game) (s : Stores) → length s.lent.cells.ids ≡ g.frames.counts.frames → Clear s.lent.cells.ids → final_file g s ≡ file g s
unfolding file events final_game final_stores frames_at
counted_own g s n clear =
    ap (λ (es : List Ev). file_of (entries g s)
    (game_start_event g s ∷ (code_events (yes g.codes_given) s.codes g.actual_size ++ (es ++ end_events g.frames.version g.end g.double_end)))
    (tail_of (yes g.metadata_given) s.metadata))
    (own_frames g.frames s.lent n clear)

-- the mask leaves all rows at 0
pub own_file : (g : Game) (s : Stores) → lowest (judged g s) ≡ 0 → Clear s.lent.cells.ids → final_file g s ≡ file g s
own_file g s e clear = counted_own g s (passes g s e).frames.ids clear

-- as it does for the file's own rows
pub file_clear : (g : Game) (s : Stores) → Clear (final_stores g s).lent.cells.ids
unfolding final_stores
file_clear g s = final_clear g.frames s.lent

file_counted : (g : Game) (s : Stores) → length (final_stores g s).lent.cells.ids ≡ (final_game g s).frames.counts.frames
unfolding final_game final_stores
file_counted g s = final_counted g.frames s.lent

pub again : (g : Game) (s : Stores) → final_file (final_game g s) (final_stores g s) ≡ final_file g s
again g s = counted_own (final_game g s) (final_stores g s) (file_counted g s) (file_clear g s)

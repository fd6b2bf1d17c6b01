-- 2: a replay of more than 1,048,576 frames is too big, and one of so many is not. By laws over the number of frames, not computed.
-- Assumes nothing.
use Prim.Native.Nat.{ℕ, zero, suc, ◌≤◌, ◌<◌}
use mathlib.Core.Path.{◌≡◌, refl}
use mathlib.Core.Bool.{true, false}
use mathlib.Core.List.{[]}
use borrow.Author.Tests.{lt-ltb, le-ltb}
use lib.Dec.{lit<, lit≤}
use lib.ListN.{length, replicate, length-replicate}
use Rattle.format.specs.Refusal.{one_of}
use Rattle.format.specs.declared.version.Version.{Version}
use Rattle.layout.specs.declared.columns.Family.TheVariants.{Item, FodPlatform, DreamlandWhispy, StadiumTransformation}
use Rattle.frames.specs.Judge.{too_many}
use Rattle.grammar.specs.Productions.{Replay, codes_bytes}
use Rattle.columns.specs.Columns.{rows_there, frames_read}
use Rattle.read_judge.specs.Found.{too_big}
use Rattle.case_files.proofs.OneFrame.{one_seat, frame}

-- n times the same frame, which has no items and no rows of a stage
abbrev many : ℕ → Replay
many n = record { block = one_seat; codes = []; frames = replicate n frame; ends = [] }

module _ (v : Version) where
  no_items : (n : ℕ) → length (rows_there v Item (replicate n frame)) ≡ 0
  unfolding rows_there
  no_items zero = refl
  no_items (suc n) = no_items n

  no_fods : (n : ℕ) → length (rows_there v FodPlatform (replicate n frame)) ≡ 0
  unfolding rows_there
  no_fods zero = refl
  no_fods (suc n) = no_fods n

  no_whispys : (n : ℕ) → length (rows_there v DreamlandWhispy (replicate n frame)) ≡ 0
  unfolding rows_there
  no_whispys zero = refl
  no_whispys (suc n) = no_whispys n

  no_stadiums : (n : ℕ) → length (rows_there v StadiumTransformation (replicate n frame)) ≡ 0
  unfolding rows_there
  no_stadiums zero = refl
  no_stadiums (suc n) = no_stadiums n

  too_many_lem : (n : ℕ) → 1048576 < n → too_big v (many n) ≡ true
  unfolding too_many one_of frames_read
  too_many_lem n h = rw (length-replicate n frame, lt-ltb 1048576 n h)

  not_too_many : (n : ℕ) → n ≤ 1048576 → too_big v (many n) ≡ false
  unfolding too_many one_of frames_read codes_bytes
  not_too_many n h = rw (length-replicate n frame, le-ltb 1048576 n h, no_items n, no_fods n, no_whispys n, no_stadiums n)

-- one frame more than may be, and as many as may be
one_over : (v : Version) → too_big v (many 1048577) ≡ true
one_over v = too_many_lem v 1048577 (lit< tt)

just_enough : (v : Version) → too_big v (many 1048576) ≡ false
just_enough v = not_too_many v 1048576 (lit≤ tt)

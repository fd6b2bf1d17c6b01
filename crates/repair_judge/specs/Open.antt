-- What is asked of a file before its longest beginning is looked for. Its length field is not looked at: it is read as if the length had never been filled in.
-- Assumes nothing.
use Rattle.std.specs.Prelude.{ℕ, not, List, [], ◌∷◌, eqb}
use Rattle.format.specs.Refusal.{refuse, lowest}
use Rattle.format.specs.Version.{accepted_of}
use Rattle.head.specs.Table.{head_refusal}
use Rattle.de.specs.Cut.{events_read, zeroed}
use Rattle.read_judge.specs.Found.{opens_wrong, version_said}

-- 14 or 15 of the head; 19 where the first event is not a whole GameStart of at least four bytes; 1 for the version that it says
unfoldable pub open_refusal : List ℕ → ℕ
open_refusal f =
    let head = head_refusal (zeroed f) in
    let events = events_read (zeroed f) in
    lowest (refuse head (not (eqb head 0)) ∷ refuse 19 (opens_wrong events) ∷ refuse 1 (not (accepted_of (version_said events))) ∷ [])

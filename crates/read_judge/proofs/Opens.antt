-- What a proof opens that computes whether a file is a replay's, named once.
-- Assumes nothing.
use Prim.Native.Nat.{ℕ}
use Rattle.format.specs.Version.{above, gte_of, accepted_of}
use Rattle.layout.specs.Columns.{has_family, columns_of, chosen, sum}
use Rattle.layout.specs.Payloads.{end_size}
use Rattle.start.specs.Length.{length_of, reached}
use Rattle.grammar.specs.WellFormed.{nobody, may_precede, may_come}
use Rattle.grammar.specs.Machine.{family_of, is_next, closed, in_frame, player, orderly, allowed, due_after, on_family, rest}
use Rattle.grammar.specs.Whole.{says_version, is_start, codes_rest, is_end, are_ends, on_some, is_replay}
use Rattle.de.specs.Walk.{walk_of}
use Rattle.de.specs.Cut.{events_read}
use Rattle.de.proofs.Opens.{opens_steps}
use Rattle.known.specs.Known.{taken}
use Rattle.read_judge.specs.Found.{opens_wrong, version_said, early_refusal}

-- what is refused before there is a replay
unfoldable pub opens_early : ℕ
unfolding opens_steps walk_of events_read opens_wrong version_said early_refusal accepted_of above taken
opens_early = 0

-- the machine over the events
unfoldable pub opens_machine : ℕ
unfolding is_replay is_start says_version codes_rest on_some is_end are_ends rest on_family family_of allowed orderly closed in_frame player nobody is_next due_after may_come may_precede has_family gte_of above length_of reached end_size columns_of chosen sum
opens_machine = 0

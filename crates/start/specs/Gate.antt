-- What each version adds to the start block.
-- Assumes nothing.
use Rattle.std.specs.Prelude.{ℕ, Bool, List, [], ◌∷◌}
use Rattle.format.specs.Version.{gte_of}
use Rattle.format.specs.declared.version.Version.{Version}
use Rattle.start.specs.declared.gate.Gate.{Gate}

-- from major.minor on fields are written that make the block so many bytes long
abbrev pub gate : ℕ → ℕ → ℕ → Gate
gate major minor bytes = record { major = major; minor = minor; bytes = bytes }

abbrev pub ucf_from : Gate
ucf_from = gate 1 0 352

abbrev pub tag_from : Gate
tag_from = gate 1 3 416

abbrev pub pal_from : Gate
pal_from = gate 1 5 417

abbrev pub frozen_from : Gate
frozen_from = gate 2 0 418

abbrev pub scene_from : Gate
scene_from = gate 3 7 420

abbrev pub netplay_from : Gate
netplay_from = gate 3 9 584

abbrev pub suid_from : Gate
suid_from = gate 3 11 700

abbrev pub language_from : Gate
language_from = gate 3 12 701

abbrev pub match_from : Gate
match_from = gate 3 14 760

-- the newest first
abbrev pub gates : List Gate
gates = match_from ∷ language_from ∷ suid_from ∷ netplay_from ∷ scene_from ∷ frozen_from ∷ pal_from ∷ tag_from ∷ ucf_from ∷ []

-- v writes the fields of a gate
abbrev pub reaches : Version → Gate → Bool
reaches v g = gte_of v g.major g.minor

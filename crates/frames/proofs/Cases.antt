-- Computed examples: inputs of each refusal number.
-- Assumes nothing.
use mathlib.Core.Path.{◌≡◌, refl}
use mathlib.Core.List.{List, [], ◌∷◌, map}
use Prim.Native.Nat.{ℕ}
use lib.ListN.{replicate}
use Rattle.format.specs.Version.{version}
use Rattle.format.specs.Refusal.{lowest}
use Rattle.format.specs.declared.version.Version.{Version}
use Rattle.game.specs.Stores.{Lent, cells, offsets, lent}
use Rattle.frames.specs.Judge.{refusals}
use Rattle.game.specs.declared.frames.Counts.{Counts}
use Rattle.game.specs.declared.frames.PortColumn.{PortColumn}
use Rattle.game.specs.declared.frames.Frames.{Frames}
use Rattle.frames.proofs.Opens.{opens_refusals}

abbrev counts : ℕ → ℕ → Counts
counts frames items = record { frames = frames; items = items; fods = 0; whispys = 0; stadiums = 0 }

-- a port column: its port, its mark, and the presence bytes of leader and follower
abbrev column : ℕ → ℕ → ℕ → ℕ → PortColumn
column p mark leader follower = record { port = p; follower = mark; leader_presence = leader; follower_presence = follower }

abbrev leader : ℕ → PortColumn
leader p = column p 0 0 0

abbrev input : Version → Counts → ℕ → List PortColumn → Frames
input v c n ports = record { version = v; counts = c; ports = ports; port_count = n }

abbrev zeros : ℕ → List ℕ
zeros n = replicate n 0

-- a case: the number that is given, the input, what is lent with it, and the bytes of codes and metadata
record Case : Type 0 where
  number : ℕ
  frames : Frames
  lent : Lent
  codes : ℕ
  metadata : ℕ

abbrev case : ℕ → Frames → Lent → ℕ → ℕ → Case
case n f s c m = record { number = n; frames = f; lent = s; codes = c; metadata = m }

-- no frames, and one frame with one player; at 0.1.0 it has 14 and 11 cells, at 3.18.0 there are 19 and 32, and every family
abbrev early : Version
early = version 0 1 0

abbrev late : Version
late = version 3 18 0

abbrev alone : List PortColumn
alone = leader 0 ∷ leader 0 ∷ leader 0 ∷ leader 0 ∷ []

abbrev none : ℕ → List PortColumn → Frames
none n ports = input early (counts 0 0) n ports

abbrev one : ℕ → PortColumn → Frames
one items p = input early (counts 1 items) 1 (p ∷ p ∷ p ∷ p ∷ [])

abbrev latest : ℕ → Frames
latest items = input late (counts 1 items) 1 alone

abbrev nothing : Lent
nothing = lent (cells [] [] [] [] [] [] [] [] []) (offsets [] [] [] []) []

abbrev old : List ℕ → List ℕ → List ℕ → Lent
old pres posts bits = lent (cells (zeros 1) [] pres posts [] [] [] [] []) (offsets [] [] [] []) bits

abbrev new : List ℕ → List ℕ → Lent
new items at = lent (cells (zeros 1) (zeros 2) (zeros 19) (zeros 32) (zeros 1) items [] [] []) (offsets at (zeros 2) (zeros 2) (zeros 2)) []

-- the refusals, in their order
table : List Case
table =
    case 0 (none 0 alone) nothing 0 0
    ∷ case 0 (one 0 (leader 0)) (old (zeros 14) (zeros 11) []) 16777216 65535
    ∷ case 0 (one 0 (column 3 0 1 0)) (old (0 ∷ 65535 ∷ zeros 12) (255 ∷ 65535 ∷ 4294967295 ∷ zeros 8) (255 ∷ [])) 0 0
    ∷ case 0 (latest 0) (new [] (zeros 2)) 0 0
    ∷ case 0 (latest 1) (new (zeros 16) (0 ∷ 1 ∷ [])) 0 0
    -- a version above 3.18.0, whatever else is wrong
    ∷ case 1 (input (version 3 18 1) (counts 0 0) 0 alone) nothing 0 0
    ∷ case 1 (input (version 4 0 0) (counts 1048577 0) 5 alone) nothing 0 0
    -- frames, items, codes, metadata
    ∷ case 2 (input early (counts 1048577 0) 0 alone) nothing 0 0
    ∷ case 2 (input early (counts 0 4194305) 0 alone) nothing 0 0
    ∷ case 2 (none 0 alone) nothing 16777217 0
    ∷ case 2 (none 0 alone) nothing 0 65536
    -- a cell too few, one too many, no slot's cells, a store of a family that the version lacks
    ∷ case 3 (one 0 (leader 0)) (old (zeros 13) (zeros 11) []) 0 0
    ∷ case 3 (one 0 (leader 0)) (old (zeros 14) (zeros 12) []) 0 0
    ∷ case 3 (one 0 (column 0 1 0 0)) (old (zeros 14) (zeros 11) []) 0 0
    ∷ case 3 (none 0 alone) (lent (cells [] (zeros 1) [] [] [] [] [] [] []) (offsets [] [] [] []) []) 0 0
    -- two bytes, one byte, and an absent player's cell
    ∷ case 4 (one 0 (leader 0)) (old (0 ∷ 65536 ∷ zeros 12) (zeros 11) []) 0 0
    ∷ case 4 (one 0 (leader 0)) (old (zeros 14) (256 ∷ zeros 10) []) 0 0
    ∷ case 4 (one 0 (column 0 0 1 0)) (old (zeros 14) (256 ∷ zeros 10) (zeros 1)) 0 0
    -- not frames + 1 entries, first not 0, one falls, last not rows; offsets, and rows, given to a family that the version lacks
    ∷ case 5 (latest 1) (new (zeros 16) (zeros 1)) 0 0
    ∷ case 5 (latest 1) (new (zeros 16) (1 ∷ 1 ∷ [])) 0 0
    ∷ case 5 (input late (counts 2 1) 0 alone) (lent (cells (zeros 2) (zeros 4) [] [] (zeros 2) (zeros 16) [] [] []) (offsets (0 ∷ 2 ∷ 1 ∷ []) (zeros 3) (zeros 3) (zeros 3)) []) 0 0
    ∷ case 5 (latest 1) (new (zeros 16) (0 ∷ 2 ∷ [])) 0 0
    ∷ case 5 (none 0 alone) (lent (cells [] [] [] [] [] [] [] [] []) (offsets (zeros 1) [] [] []) []) 0 0
    ∷ case 5 (one 1 (leader 0)) (old (zeros 14) (zeros 11) []) 0 0
    -- two bytes for one frame, fewer bytes than are counted, and a follower's where there is none
    ∷ case 6 (one 0 (column 0 0 2 0)) (old (zeros 14) (zeros 11) (zeros 2)) 0 0
    ∷ case 6 (one 0 (column 0 0 1 0)) (old (zeros 14) (zeros 11) []) 0 0
    ∷ case 6 (one 0 (column 0 0 0 1)) (old (zeros 14) (zeros 11) []) 0 0
    -- five port columns, port 4, and a port twice
    ∷ case 7 (none 5 (leader 0 ∷ leader 1 ∷ leader 2 ∷ leader 3 ∷ [])) nothing 0 0
    ∷ case 7 (none 1 (leader 4 ∷ leader 0 ∷ leader 0 ∷ leader 0 ∷ [])) nothing 0 0
    ∷ case 7 (none 3 (leader 2 ∷ leader 1 ∷ leader 2 ∷ leader 0 ∷ [])) nothing 0 0
    ∷ []

refused : map (λ (c : Case). lowest (refusals c.frames c.lent c.codes c.metadata)) table ≡ map (λ (c : Case). c.number) table
unfolding opens_refusals table
refused = refl

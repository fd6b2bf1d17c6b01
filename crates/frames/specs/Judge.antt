-- Refusals 1 to 7: what is judged of a frame input and the stores lent with it.
-- Assumes nothing.
use Rattle.std.specs.Prelude.{ℕ, zero, suc, ◌+◌, ◌*◌, ◌^◌, Bool, false, not, cond, ◌||◌, List, [], ◌∷◌, map, ltb, leb, eqb, length, get_or, take, drop}
use Rattle.format.specs.Version.{accepted_of}
use Rattle.format.specs.Refusal.{Refusal, refuse, one_of}
use Rattle.layout.specs.Columns.{has_family, widths_of}
use Rattle.layout.specs.declared.columns.Family.{Family}
use Rattle.game.specs.Frames.{ports_of, rows_of, slot_blocks}
use Rattle.game.specs.Stores.{Cells, Offsets, Lent, families, offset_families, cells_of, offsets_of}
use Rattle.game.specs.declared.frames.Frames.{Frames}
use Rattle.players.specs.Presence.{presence_wrong}

-- 1: version above 3.18.0
abbrev pub too_new : Frames → Bool
too_new f = not (accepted_of f.version)

-- 2: a count exceeds its maximum; those of codes and metadata are bytes
unfoldable pub too_many : Frames → ℕ → ℕ → Bool
too_many f codes metadata =
    one_of
    (ltb 1048576 f.counts.frames
    ∷ ltb 4194304 f.counts.items
    ∷ ltb 1048576 f.counts.fods
    ∷ ltb 1048576 f.counts.whispys
    ∷ ltb 1048576 f.counts.stadiums
    ∷ ltb 16777216 codes
    ∷ ltb 65535 metadata
    ∷ [])

-- 3: a cell store's length is not columns of this version times rows (times slots): one family's store, then any; ids is one column
unfoldable pub misfits : Frames → Family → List ℕ → Bool
misfits f family store = not (eqb (length store) (slot_blocks f family * (length (widths_of family f.version) * rows_of f family)))

unfoldable pub stores_misfit : Frames → Cells → Bool
stores_misfit f c = one_of (not (eqb (length c.ids) f.counts.frames) ∷ map (λ family. misfits f family (cells_of c family)) families)

-- 4: a cell exceeds its width, absent players' rows included; the ids have four bytes, which no cell exceeds
abbrev pub over : ℕ → ℕ → Bool
over width cell = leb (256 ^ width) cell

-- columns one after another, each with its width
unfoldable pub columns_exceed : List ℕ → ℕ → List ℕ → Bool
columns_exceed [] rows cells = false
columns_exceed (w ∷ ws) rows cells = one_of (map (over w) (take rows cells)) || columns_exceed ws rows (drop rows cells)

-- blocks of such columns one after another
unfoldable pub blocks_exceed : ℕ → List ℕ → ℕ → List ℕ → Bool
blocks_exceed zero ws rows cells = false
blocks_exceed (suc n) ws rows cells = columns_exceed ws rows cells || blocks_exceed n ws rows (drop (length ws * rows) cells)

-- one family's store, then any
unfoldable pub exceeds : Frames → Family → List ℕ → Bool
exceeds f family store = blocks_exceed (slot_blocks f family) (widths_of family f.version) (rows_of f family) store

unfoldable pub cells_exceed : Frames → Cells → Bool
cells_exceed f c = one_of (map (λ family. exceeds f family (cells_of c family)) families)

-- 5: offsets: not frames + 1 entries, first not 0, one falls, or last not rows; or offsets or rows given to a family that the version lacks
unfoldable pub falls : List ℕ → Bool
falls [] = false
falls (a ∷ []) = false
falls (a ∷ b ∷ os) = ltb b a || falls (b ∷ os)

-- a family that the version has
unfoldable pub strays : ℕ → ℕ → List ℕ → Bool
strays frames rows os =
    one_of (not (eqb (length os) (frames + 1)) ∷ not (eqb (get_or os 0 0) 0) ∷ falls os ∷ not (eqb (get_or os frames 0) rows) ∷ [])

-- a family that it lacks: what is left over
unfoldable pub left_over : ℕ → List ℕ → Bool
left_over rows os = one_of (not (eqb (length os) 0) ∷ not (eqb rows 0) ∷ [])

unfoldable pub misleads : Frames → Family → List ℕ → Bool
misleads f family os = cond (has_family f.version family) (strays f.counts.frames (rows_of f family) os) (left_over (rows_of f family) os)

unfoldable pub offsets_mislead : Frames → Offsets → Bool
offsets_mislead f o = one_of (map (λ family. misleads f family (offsets_of o family)) offset_families)

-- 6: presenceWrong of players/specs/Presence.antt

-- 7: over four port columns, a port above 3, or a port twice
unfoldable pub port_numbers : Frames → List ℕ
port_numbers f = map (λ p. p.port) (ports_of f)

unfoldable pub twice : List ℕ → Bool
twice [] = false
twice (n ∷ ns) = one_of (map (eqb n) ns) || twice ns

unfoldable pub ports_wrong : Frames → Bool
ports_wrong f = one_of (ltb 4 f.port_count ∷ one_of (map (ltb 3) (port_numbers f)) ∷ twice (port_numbers f) ∷ [])

-- in their order: the lowest that applies is given
unfoldable pub refusals : Frames → Lent → ℕ → ℕ → List Refusal
refusals f s codes metadata =
    refuse 1 (too_new f)
    ∷ refuse 2 (too_many f codes metadata)
    ∷ refuse 3 (stores_misfit f s.cells)
    ∷ refuse 4 (cells_exceed f s.cells)
    ∷ refuse 5 (offsets_mislead f s.offsets)
    ∷ refuse 6 (presence_wrong f s.presence)
    ∷ refuse 7 (ports_wrong f)
    ∷ []

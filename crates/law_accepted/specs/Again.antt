-- What was read of a file, given to be written again: the frames' stores, the file's own start block as the template, the codes and the metadata's body.
-- Assumes nothing.
use Rattle.std.specs.Prelude.{ℕ, List, take}
use Rattle.wire.specs.Wire.{part}
use Rattle.game.specs.Stores.{Lent, Stores, cells, offsets, lent, stores}
use Rattle.grammar.specs.Productions.{Replay, codes_bytes}
use Rattle.columns.specs.Columns.{lent_read}
use Rattle.read_judge.specs.Found.{version_of}
use Rattle.measure.specs.declared.lengths.Lengths.{Lengths}
use Rattle.measure.specs.Game.{Kept, places_in}
use Rattle.measure.specs.declared.Opened.{Opened}
use Rattle.measure.specs.declared.Places.{Places}

-- the metadata's body in a file, and its start block
abbrev pub body_at : List ℕ → Places → List ℕ
body_at f p = part f p.metadata_at p.metadata_len

abbrev pub block_at : List ℕ → Places → List ℕ
block_at f p = part f p.block_at p.block_len

-- of the replay that it holds
abbrev pub stores_again : List ℕ → Replay → Stores
stores_again f r = stores (lent_read (version_of f) r.frames) r.block (codes_bytes r.codes) (body_at f (places_in f r))

-- ---- from the calls: what `read` left in the stores, as long as `measure` said

abbrev pub lent_up_to : Lengths → Lent → Lent
lent_up_to n s = let c = s.cells in let o = s.offsets in
    lent
    (cells (take n.ids c.ids) (take n.starts c.starts) (take n.pres c.pres) (take n.posts c.posts) (take n.ends c.ends) (take n.items c.items)
    (take n.fods c.fods) (take n.whispys c.whispys) (take n.stadiums c.stadiums))
    (offsets (take n.item_offsets o.items) (take n.fod_offsets o.fods) (take n.whispy_offsets o.whispys) (take n.stadium_offsets o.stadiums))
    (take n.presence s.presence)

abbrev pub stores_left : List ℕ → Lengths → Opened → Kept → Stores
stores_left f n r k = stores (lent_up_to n k.lent) (block_at f r.places) (take n.codes k.codes) (body_at f r.places)

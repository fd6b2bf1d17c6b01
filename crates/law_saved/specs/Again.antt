-- What is given to `write` to save again what was read: the fronts of the stores that were filled, and the parts of the file that `read` names.
-- Assumes nothing.
use Rattle.std.specs.Prelude.{ℕ, ◌≤◌, List, length, take}
use Rattle.wire.specs.Wire.{part}
use Rattle.game.specs.Stores.{lent, cells, offsets, Stores, stores}
use Rattle.grammar.specs.Productions.{Replay}
use Rattle.measure.specs.declared.lengths.Lengths.{Lengths}
use Rattle.read_judge.specs.Found.{version_of}
use Rattle.measure.specs.Game.{Kept, kept, kept_read, places_in}
use Rattle.measure.specs.declared.Places.{Places}

-- each store is as long as `measure` says
pub record LongEnough (n : Lengths) (k : Kept) : Type 0 where
  pub ids : n.ids ≤ length k.lent.cells.ids
  pub starts : n.starts ≤ length k.lent.cells.starts
  pub pres : n.pres ≤ length k.lent.cells.pres
  pub posts : n.posts ≤ length k.lent.cells.posts
  pub ends : n.ends ≤ length k.lent.cells.ends
  pub items : n.items ≤ length k.lent.cells.items
  pub fods : n.fods ≤ length k.lent.cells.fods
  pub whispys : n.whispys ≤ length k.lent.cells.whispys
  pub stadiums : n.stadiums ≤ length k.lent.cells.stadiums
  pub item_offsets : n.item_offsets ≤ length k.lent.offsets.items
  pub fod_offsets : n.fod_offsets ≤ length k.lent.offsets.fods
  pub whispy_offsets : n.whispy_offsets ≤ length k.lent.offsets.whispys
  pub stadium_offsets : n.stadium_offsets ≤ length k.lent.offsets.stadiums
  pub presence : n.presence ≤ length k.lent.presence
  pub codes : n.codes ≤ length k.codes

-- the start of each store, as long as `measure` says
unfoldable pub fronts : Lengths → Kept → Kept
fronts n k =
    let c = k.lent.cells in
    let o = k.lent.offsets in
    kept
    (lent
    (cells (take n.ids c.ids) (take n.starts c.starts) (take n.pres c.pres) (take n.posts c.posts) (take n.ends c.ends) (take n.items c.items)
    (take n.fods c.fods) (take n.whispys c.whispys) (take n.stadiums c.stadiums))
    (offsets (take n.item_offsets o.items) (take n.fod_offsets o.fods) (take n.whispy_offsets o.whispys) (take n.stadium_offsets o.stadiums))
    (take n.presence k.lent.presence))
    (take n.codes k.codes)

-- the block in the file is the template
abbrev pub stores_from : List ℕ → Places → Kept → Stores
stores_from f at k = stores k.lent (part f at.block_at at.block_len) k.codes (part f at.metadata_at at.metadata_len)

abbrev pub stores_read : List ℕ → Replay → Stores
stores_read f r = stores_from f (places_in f r) (kept_read (version_of f) r)

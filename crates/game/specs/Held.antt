-- What lent stores hold.
-- Assumes nothing.
use Rattle.game.specs.Stores.{cells, offsets, lent, stores}
use Rattle.game.specs.Stores as held
use Rattle.game.specs.declared.stores.Cells.{Cells}
use Rattle.game.specs.declared.stores.Offsets.{Offsets}
use Rattle.game.specs.declared.stores.Lent.{Lent}
use Rattle.game.specs.declared.stores.Stores.{Stores}

abbrev pub cells_in : Cells → held.Cells
cells_in c = cells c.ids.now c.starts.now c.pres.now c.posts.now c.ends.now c.items.now c.fods.now c.whispys.now c.stadiums.now

abbrev pub offsets_in : Offsets → held.Offsets
offsets_in o = offsets o.items.now o.fods.now o.whispys.now o.stadiums.now

abbrev pub lent_in : Lent → held.Lent
lent_in l = lent (cells_in l.cells) (offsets_in l.offsets) l.presence.now

abbrev pub stores_in : Stores → held.Stores
stores_in s = stores (lent_in s.lent) s.template.now s.codes.now s.metadata.now

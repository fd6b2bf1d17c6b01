-- The stores that are lent with a frame input, and with a game.
-- Assumes nothing.
use Rattle.std.specs.Prelude.{ℕ, List, [], ◌∷◌}
use Rattle.layout.specs.declared.columns.Family.{Family}
use Rattle.layout.specs.declared.columns.Family.TheVariants.{Pre, Post, FrameStart, Item, FrameEnd, FodPlatform, DreamlandWhispy, StadiumTransformation}

-- cells: a family's columns one after another, row after row; of Pre and Post so for each slot in turn
pub record Cells : Type 0 where
  pub ids : List ℕ
  pub starts : List ℕ
  pub pres : List ℕ
  pub posts : List ℕ
  pub ends : List ℕ
  pub items : List ℕ
  pub fods : List ℕ
  pub whispys : List ℕ
  pub stadiums : List ℕ

-- offsets: the rows of frame i are those from offset i on and before offset i + 1
pub record Offsets : Type 0 where
  pub items : List ℕ
  pub fods : List ℕ
  pub whispys : List ℕ
  pub stadiums : List ℕ

-- all that is lent; presence has the slots' presence bytes one after another
pub record Lent : Type 0 where
  pub cells : Cells
  pub offsets : Offsets
  pub presence : List ℕ

abbrev pub cells : (ids starts pres posts ends items fods whispys stadiums : List ℕ) → Cells
cells ids starts pres posts ends items fods whispys stadiums = record {
  ids = ids;
  starts = starts;
  pres = pres;
  posts = posts;
  ends = ends;
  items = items;
  fods = fods;
  whispys = whispys;
  stadiums = stadiums;
}

abbrev pub offsets : (items fods whispys stadiums : List ℕ) → Offsets
offsets items fods whispys stadiums = record { items = items; fods = fods; whispys = whispys; stadiums = stadiums }

abbrev pub lent : Cells → Offsets → List ℕ → Lent
lent c o bits = record { cells = c; offsets = o; presence = bits }

-- the families, in the order of their stores, and those that have offsets
abbrev pub families : List Family
families = FrameStart ∷ Pre ∷ Post ∷ FrameEnd ∷ Item ∷ FodPlatform ∷ DreamlandWhispy ∷ StadiumTransformation ∷ []

abbrev pub offset_families : List Family
offset_families = Item ∷ FodPlatform ∷ DreamlandWhispy ∷ StadiumTransformation ∷ []

abbrev pub cells_of : Cells → Family → List ℕ
cells_of c FrameStart = c.starts
cells_of c Pre = c.pres
cells_of c Post = c.posts
cells_of c FrameEnd = c.ends
cells_of c Item = c.items
cells_of c FodPlatform = c.fods
cells_of c DreamlandWhispy = c.whispys
cells_of c StadiumTransformation = c.stadiums

abbrev pub offsets_of : Offsets → Family → List ℕ
offsets_of o FrameStart = []
offsets_of o Pre = []
offsets_of o Post = []
offsets_of o FrameEnd = []
offsets_of o Item = o.items
offsets_of o FodPlatform = o.fods
offsets_of o DreamlandWhispy = o.whispys
offsets_of o StadiumTransformation = o.stadiums

-- what is lent with a game: its frames' stores, the start block's template, the codes and the metadata
pub record Stores : Type 0 where
  pub lent : Lent
  pub template : List ℕ
  pub codes : List ℕ
  pub metadata : List ℕ

abbrev pub stores : Lent → List ℕ → List ℕ → List ℕ → Stores
stores l template codes metadata = record { lent = l; template = template; codes = codes; metadata = metadata }

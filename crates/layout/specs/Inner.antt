-- What the functions promise each other: the columns of all families as one table, a version's columns as an array and as runs of one width, and a
-- payload table as an array of entries.
-- Assumes nothing.
use Rattle.std.specs.Prelude.{ℕ, ◌/◌, ◌%◌, ◌≤◌, ◌≡◌, List, [], ◌∷◌, ◌++◌, length, take, map, replicate}
use Rattle.format.specs.File.{Entry}
use Rattle.format.specs.declared.version.Version.{Version}
use Rattle.layout.specs.Columns.{col, columns_of, widths_of, size_of}
use Rattle.layout.specs.declared.columns.Column.{Column}
use Rattle.layout.specs.declared.columns.Family.{Family}
use Rattle.layout.specs.declared.columns.Family.TheVariants.{Pre, Post, FrameStart, Item, FrameEnd, FodPlatform, DreamlandWhispy, StadiumTransformation}
use Rattle.layout.specs.declared.listing.Runs.{Runs}
use Rattle.layout.specs.declared.payloads.PayloadSize.{PayloadSize}
use Rattle.layout.specs.declared.payloads.PayloadSizes.{PayloadSizes}

-- the one table, where each family's columns begin in it, and how many they are
unfoldable pub table : List Column
table =
    columns_of Pre
    ++ (columns_of Post
    ++ (columns_of FrameStart
    ++ (columns_of Item ++ (columns_of FrameEnd ++ (columns_of FodPlatform ++ (columns_of DreamlandWhispy ++ columns_of StadiumTransformation))))))

-- what a number of the code's table says: 4316 is a width of 4 bytes, from version 3.16 on
abbrev pub column_of : ℕ → Column
column_of x = col (x / 1000 % 256) (x / 100 % 10) (x % 100)

abbrev pub first_column : Family → ℕ
first_column Pre = 0
first_column Post = 19
first_column FrameStart = 51
first_column Item = 53
first_column FrameEnd = 69
first_column FodPlatform = 70
first_column DreamlandWhispy = 72
first_column StadiumTransformation = 73

abbrev pub count_of : Family → ℕ
count_of Pre = 19
count_of Post = 32
count_of FrameStart = 2
count_of Item = 16
count_of FrameEnd = 1
count_of FodPlatform = 2
count_of DreamlandWhispy = 1
count_of StadiumTransformation = 2

-- the widths that runs stand for: the first width as often as the first length says, and so on
unfoldable pub expand : List ℕ → List ℕ → List ℕ
expand (w ∷ ws) (n ∷ ns) = replicate n w ++ expand ws ns
expand [] ns = []
expand (w ∷ ws) [] = []

-- the first n of an array are a version's widths
pub record Widths (f : Family) (v : Version) (n bytes : ℕ) (array : List ℕ) : Type 0 where
  pub columns : n ≡ length (widths_of f v)
  pub total : bytes ≡ size_of f v
  pub each : take n array ≡ widths_of f v
  pub few : n ≤ 32
  pub room : length array ≡ 32
  pub small : bytes ≤ 128

-- runs that stand for a version's widths
pub record RunsOf (f : Family) (v : Version) (r : Runs) : Type 0 where
  pub columns : r.columns ≡ length (widths_of f v)
  pub each : expand (take r.count r.widths) (take r.count r.lengths) ≡ widths_of f v
  pub few : r.count ≤ 32
  pub widths_room : length r.widths ≡ 32
  pub lengths_room : length r.lengths ≡ 32

-- no width is over 4 bytes
unfoldable pub Narrow : List ℕ → Type 0
Narrow [] = Unit {0}
Narrow (w ∷ ws) = (w ≤ 4) × Narrow ws

-- an entry of the code's, as the definition has it
abbrev pub entry_as : PayloadSize → Entry
entry_as e = record { code = e.code; size = e.size }

-- a table's entries are the first of an array
pub record Tabled (t : List Entry) (p : PayloadSizes) : Type 0 where
  pub count : p.len ≡ length t
  pub each : map entry_as (take p.len p.entries) ≡ t
  pub few : p.len ≤ 12
  pub room : length p.entries ≡ 12

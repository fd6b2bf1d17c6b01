-- Which trees are well formed: their ranges, sizes and the order of a frame's players.
-- Assumes nothing.
use Rattle.std.specs.Prelude.{ℕ, ◌+◌, ◌*◌, ◌/◌, ◌^◌, ◌≤◌, ◌<◌, ◌≡◌, Bool, true, false, not, ◌&&◌, ◌||◌, List, [], ◌∷◌, ◌++◌, map, ltb, eqb, length, take}
use Rattle.format.specs.Version.{has_codes}
use Rattle.format.specs.declared.version.Version.{Version}
use Rattle.layout.specs.Columns.{has_family, size_of}
use Rattle.layout.specs.Payloads.{end_size}
use Rattle.layout.specs.declared.columns.Family.{Family}
use Rattle.layout.specs.declared.columns.Family.TheVariants.{Pre, Post, FrameStart, Item, FrameEnd, FodPlatform, DreamlandWhispy, StadiumTransformation}
use Rattle.start.specs.Length.{length_of}
use Rattle.grammar.specs.Productions.{Player, Frame, Block, Replay}

-- all of a list are so
unfoldable pub Each : {A : Type 0} → (A → Type 0) → List A → Type 0
Each P [] = Unit {0}
Each P (x ∷ xs) = P x × Each P xs

-- ---- the players of a frame

-- their ports in any order, or ascending
pub data Order : Type 0 where
  ascending : Order
  anyhow : Order

-- a player's slot: two for each port, the leader's and the follower's
abbrev pub slot_of : Player → ℕ
slot_of p = 2 * p.port + p.follower

unfoldable pub nobody : List ℕ → Bool
nobody [] = true
nobody (k ∷ ks) = false

-- slot j may stand before slot k, right before it or not. In any order of the ports, a port's leader stands right before its follower, and no slot twice
unfoldable pub may_precede : Order → Bool → ℕ → ℕ → Bool
may_precede ascending right j k = ltb j k
may_precede anyhow right j k = not (eqb (j / 2) (k / 2)) || (right && ltb j k)

-- slot k may stand after all of these
unfoldable pub may_come : Order → List ℕ → ℕ → Bool
may_come o [] k = true
may_come o (j ∷ js) k = may_precede o (nobody js) j k && may_come o js k

-- slots in order, after those that were seen
unfoldable pub InOrder : Order → List ℕ → List ℕ → Type 0
InOrder o seen [] = Unit {0}
InOrder o seen (k ∷ ks) = (may_come o seen k ≡ true) × InOrder o (seen ++ (k ∷ [])) ks

-- a player of a port up to 3, with rows of the version's sizes
pub record GoodPlayer (v : Version) (p : Player) : Type 0 where
  pub port : p.port ≤ 3
  pub follower : p.follower ≤ 1
  pub pre : length p.pre ≡ size_of Pre v
  pub post : length p.post ≡ size_of Post v

-- a row of a family that the version has, of its size
pub record GoodRow (v : Version) (family : Family) (bytes : List ℕ) : Type 0 where
  pub has : has_family v family ≡ true
  pub size : length bytes ≡ size_of family v

-- where there is no FrameStart, a frame has somebody
pub record GoodFrame (v : Version) (o : Order) (f : Frame) : Type 0 where
  pub id : f.id < 2 ^ 32
  pub start : length f.start ≡ size_of FrameStart v
  pub players : Each (GoodPlayer v) f.players
  pub slots : InOrder o [] (map slot_of f.players)
  pub somebody : has_family v FrameStart ≡ false → 0 < length f.players
  pub fods : Each (GoodRow v FodPlatform) f.fods
  pub whispys : Each (GoodRow v DreamlandWhispy) f.whispys
  pub stadiums : Each (GoodRow v StadiumTransformation) f.stadiums
  pub items : Each (GoodRow v Item) f.items
  pub end : length f.end ≡ size_of FrameEnd v

-- blocks of 512 bytes, all of them codes but in the last, which has some; from 3.3
unfoldable pub GoodCodes : Version → List Block → Type 0
GoodCodes v [] = Unit {0}
GoodCodes v (b ∷ []) = (has_codes v ≡ true) × (length b.bytes ≡ 512) × (0 < b.used) × (b.used ≤ 512)
GoodCodes v (b ∷ c ∷ bs) = (length b.bytes ≡ 512) × (b.used ≡ 512) × GoodCodes v (c ∷ bs)

-- the block says the version, is no shorter than its length, and its size has two bytes; two ends at most, of the version's size
pub record WellFormed (v : Version) (o : Order) (r : Replay) : Type 0 where
  pub version : take 3 r.block ≡ v.major ∷ v.minor ∷ v.patch ∷ []
  pub block : length_of v ≤ length r.block
  pub short : length r.block < 65536
  pub codes : GoodCodes v r.codes
  pub frames : Each (GoodFrame v o) r.frames
  pub few : length r.ends ≤ 2
  pub ends : Each (λ bytes. length bytes ≡ end_size v) r.ends

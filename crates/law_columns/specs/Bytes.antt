-- Frames of bytes.
-- Assumes nothing.
use Rattle.std.specs.Prelude.{ℕ, ◌<◌, List}
use Rattle.grammar.specs.Productions.{Player, Frame}
use Rattle.grammar.specs.WellFormed.{Each}

-- no number is over a byte
abbrev pub AreBytes : List ℕ → Type 0
AreBytes b = Each (λ x. x < 256) b

pub record BytePlayer (p : Player) : Type 0 where
  pub pre : AreBytes p.pre
  pub post : AreBytes p.post

pub record ByteFrame (f : Frame) : Type 0 where
  pub start : AreBytes f.start
  pub players : Each BytePlayer f.players
  pub fods : Each AreBytes f.fods
  pub whispys : Each AreBytes f.whispys
  pub stadiums : Each AreBytes f.stadiums
  pub items : Each AreBytes f.items
  pub end : AreBytes f.end

-- Event codes and the signature, from the public Slippi replay file specification.
-- Assumes nothing.
use Rattle.std.specs.Prelude.{ℕ, List, [], ◌∷◌}
use Rattle.format.specs.declared.event.Event.{Event}
use Rattle.format.specs.declared.event.Event.TheVariants.{Payloads, GameStart, FramePre, FramePost, GameEnd, FrameStart, Item, FrameEnd, GeckoCodes, MessageSplitter, FodPlatform, DreamlandWhispy, StadiumTransformation}

abbrev pub code_of : Event → ℕ
code_of Payloads = 0x35
code_of GameStart = 0x36
code_of FramePre = 0x37
code_of FramePost = 0x38
code_of GameEnd = 0x39
code_of FrameStart = 0x3A
code_of Item = 0x3B
code_of FrameEnd = 0x3C
code_of GeckoCodes = 0x3D
code_of MessageSplitter = 0x10
code_of FodPlatform = 0x3F
code_of DreamlandWhispy = 0x40
code_of StadiumTransformation = 0x41

-- {U\x03raw[$U#l
abbrev pub signature : List ℕ
signature = 0x7b ∷ 0x55 ∷ 0x03 ∷ 0x72 ∷ 0x61 ∷ 0x77 ∷ 0x5b ∷ 0x24 ∷ 0x55 ∷ 0x23 ∷ 0x6c ∷ []

-- The payload sizes at every version where one changes, and at the version before, as one computed table.
-- Assumes nothing.
use mathlib.Core.Path.{◌≡◌, refl}
use mathlib.Core.Bool.{true, cond}
use mathlib.Core.List.{List, [], ◌∷◌, map}
use Prim.Native.Nat.{ℕ}
use Rattle.format.specs.Version.{version, above, gte_of}
use Rattle.format.specs.declared.event.Event.{Event}
use Rattle.format.specs.declared.event.Event.TheVariants.{GameStart, FramePre, FramePost, GameEnd, FrameStart, Item, FrameEnd, GeckoCodes, MessageSplitter, FodPlatform, DreamlandWhispy, StadiumTransformation}
use Rattle.layout.specs.Columns.{columns_of, chosen, sum, has_family}
use Rattle.layout.specs.Payloads.{end_size, listed, payload_size}

-- an event's payload from a version on
record Since : Type 0 where
  major : ℕ
  minor : ℕ
  size : ℕ

abbrev since : ℕ → ℕ → ℕ → Since
since a b n = record { major = a; minor = b; size = n }

-- a row of the table: an event, and its sizes; 0 where it is not listed
record Row : Type 0 where
  event : Event
  sizes : List Since

abbrev row : Event → List Since → Row
row e ss = record { event = e; sizes = ss }

-- with a start block of 320 bytes and codes of 65,537
abbrev size_at : Event → Since → ℕ
size_at e s = cond (listed (version s.major s.minor 0) true e) (payload_size (version s.major s.minor 0) 320 65537 e) 0

abbrev rows : List Row
rows =
    row GameStart (since 0 0 320 ∷ since 3 18 320 ∷ [])
    ∷ row FramePre (since 0 0 58 ∷ since 1 1 58 ∷ since 1 2 59 ∷ since 1 3 59 ∷ since 1 4 63 ∷ since 3 14 63 ∷ since 3 15 64 ∷ since 3 16 64 ∷ since 3 17 66 ∷ since 3 18 66 ∷ [])
    ∷ row FramePost
    (since 0 0 33 ∷ since 0 1 33 ∷ since 0 2 37 ∷ since 1 255 37 ∷ since 2 0 51 ∷ since 2 1 52 ∷ since 3 4 52 ∷ since 3 5 72 ∷ since 3 7 72 ∷ since 3 8 76 ∷ since 3 10 76 ∷ since 3 11 80 ∷ since 3 15 80 ∷ since 3 16 84 ∷ since 3 18 84 ∷ [])
    ∷ row GameEnd (since 0 0 1 ∷ since 1 255 1 ∷ since 2 0 2 ∷ since 3 12 2 ∷ since 3 13 6 ∷ since 3 18 6 ∷ [])
    ∷ row FrameStart (since 2 1 0 ∷ since 2 2 8 ∷ since 3 9 8 ∷ since 3 10 12 ∷ since 3 18 12 ∷ [])
    ∷ row Item (since 2 255 0 ∷ since 3 0 37 ∷ since 3 1 37 ∷ since 3 2 41 ∷ since 3 5 41 ∷ since 3 6 42 ∷ since 3 15 42 ∷ since 3 16 44 ∷ since 3 18 44 ∷ [])
    ∷ row FrameEnd (since 2 255 0 ∷ since 3 0 4 ∷ since 3 6 4 ∷ since 3 7 8 ∷ since 3 18 8 ∷ [])
    ∷ row GeckoCodes (since 3 2 0 ∷ since 3 3 1 ∷ since 3 18 1 ∷ [])
    ∷ row MessageSplitter (since 3 2 0 ∷ since 3 3 516 ∷ since 3 18 516 ∷ [])
    ∷ row FodPlatform (since 3 17 0 ∷ since 3 18 9 ∷ [])
    ∷ row DreamlandWhispy (since 3 17 0 ∷ since 3 18 5 ∷ [])
    ∷ row StadiumTransformation (since 3 17 0 ∷ since 3 18 8 ∷ [])
    ∷ []

payload_sizes : map (λ (r : Row). map (size_at r.event) r.sizes) rows ≡ map (λ (r : Row). map (λ (s : Since). s.size) r.sizes) rows
unfolding gte_of above columns_of chosen sum has_family end_size listed payload_size
payload_sizes = refl

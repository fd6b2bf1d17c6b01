-- What the known front of an event says: its frame's id, a player's port and mark, and its size.
-- Assumes nothing.
use Prim.Native.Nat.{◌≤◌}
use mathlib.Core.Path.{◌≡◌, ap, ◌∙◌}
use mathlib.Core.Option.{some}
use native.Mathlib.Omega.{arith}
use lib.ListN.{length, get_or, take, length-take}
use lib.Seq.{get_or-take, take-take}
use Rattle.wire.specs.Wire.{number}
use Rattle.format.specs.File.{Ev}
use Rattle.format.specs.declared.version.Version.{Version}
use Rattle.layout.specs.Payloads.{head_size, record_size}
use Rattle.layout.specs.declared.columns.Family.{Family}
use Rattle.layout.specs.declared.columns.Family.TheVariants.{Pre, Post, FrameStart, Item, FrameEnd, FodPlatform, DreamlandWhispy, StadiumTransformation}
use Rattle.grammar.specs.Machine.{family_of, id_in, said_by, on_family}
use Rattle.known.specs.Known.{known_size, front}

head_four : (family : Family) → 4 ≤ head_size family
head_four Pre = omega arith
head_four Post = omega arith
head_four FrameStart = omega arith
head_four Item = omega arith
head_four FrameEnd = omega arith
head_four FodPlatform = omega arith
head_four DreamlandWhispy = omega arith
head_four StadiumTransformation = omega arith

module _ (v : Version) (e : Ev) (family : Family) (is : family_of e.code ≡ some family) where
  pub known_size_lem : known_size v e ≡ record_size family v
  unfolding known_size on_family
  known_size_lem = rw is

  four : 4 ≤ known_size v e
  four = let h = head_four family in omega (arith, known_size_lem)

  pub front_id : id_in (front v e) ≡ id_in e
  front_id = ap number (take-take 4 (known_size v e) e.payload four)

  -- a payload that is long enough is cut to the family's size
  pub front_size : record_size family v ≤ length e.payload → length (front v e).payload ≡ record_size family v
  front_size h = length-take (known_size v e) e.payload ∙ omega (arith, known_size_lem)

  -- and a shorter one stays what it is
  pub front_short : length (front v e).payload ≡ record_size family v → record_size family v ≤ length e.payload
  front_short h = omega (arith, known_size_lem, length-take (known_size v e) e.payload)

  -- a player's port and mark stand before its columns
  pub front_said : head_size family ≡ 6 → said_by (front v e) ≡ said_by e
  front_said six =
      let port : get_or (take (known_size v e) e.payload) 4 0 ≡ get_or e.payload 4 0 = get_or-take (known_size v e) e.payload 4 0 (omega (arith, known_size_lem)) in
      let follower : get_or (take (known_size v e) e.payload) 5 0 ≡ get_or e.payload 5 0 = get_or-take (known_size v e) e.payload 5 0 (omega (arith, known_size_lem)) in
      λ i. record { id = front_id i; port = port i; follower = follower i }

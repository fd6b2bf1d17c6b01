-- A written file whose length was never filled in:
--
--   Take any accepted file, set its length field to zero, cut it anywhere from the table's end to the end of its event data: the events and stray bytes are
--   those of the same cut with the true length. Bytes of a tail, if present, are judged as events.
--
-- The first half says it of the definition's file of any game that passed, the second of whatever `write` answered with a file and left in the output.
-- Assumes nothing.
use mathlib.Core.Path.{◌≡◌, refl}
use mathlib.Core.Bool.{Bool, true, false, ◌||◌}
use mathlib.Core.List.{List, [], ◌∷◌, ◌++◌}
use Prim.Native.Nat.{ℕ, ◌+◌, ◌^◌, ◌≤◌, ◌<◌}
use lib.Dec.{eqb}
use lib.ListN.{length, take}
use Rattle.wire.specs.Wire.{keep}
use Rattle.format.specs.Event.{code_of}
use Rattle.format.specs.File.{Entry, Ev, table_bytes, events_bytes, file_of, Fresh, Listed}
use Rattle.format.specs.Mark.{yes}
use Rattle.format.specs.declared.version.Version.{Version}
use Rattle.format.specs.declared.event.Event.{Event}
use Rattle.format.proofs.Tests.{or_none}
use Rattle.layout.specs.Columns.{chosen}
use Rattle.layout.specs.Payloads.{order, listed, entry_of, entries_of}
use Rattle.ending.specs.Tail.{metadata_of, tail_of}
use Rattle.head.specs.Table.{first_place, span_of}
use Rattle.de.specs.Walk.{walk_of}
use Rattle.de.specs.Cut.{events_read, zeroed, called_cut}
use Rattle.de.specs.declared.Walked.TheVariants as walked
use Rattle.de.proofs.Unfilled as any
use Rattle.game.specs.declared.Game.{Game}
use Rattle.game.specs.Stores.{Stores}
use Rattle.std.specs.Prelude.{Ok}
use Rattle.ser.specs.Write.{entries, events, file, WriterOutcome}
use Rattle.ser.proofs.Outcomes.{Passed}
use Rattle.ser.proofs.Sound.{fresh, all_listed, length_fits}
use Rattle.ser.proofs.Answered.{accepted, written_file}

-- ---- no table lists a tail's first byte

-- one of these events has this code
abbrev coded : ℕ → List Event → Bool
coded c [] = false
coded c (e ∷ es) = eqb (code_of e) c || coded c es

lacks_chosen : (c : ℕ) (v : Version) (block actual : ℕ) (p : Event → Bool) (es : List Event) → coded c es ≡ false → span_of c (chosen p (entry_of v block actual) es) ≡ 0
unfolding chosen span_of
lacks_chosen c v block actual p [] h = refl
lacks_chosen c v block actual p (e ∷ es) h =
    let (other, rest) = or_none (eqb (code_of e) c) (coded c es) h in
    go (p e) refl other (lacks_chosen c v block actual p es rest)
  where
    go : (b : Bool) → p e ≡ b → eqb (code_of e) c ≡ false → span_of c (chosen p (entry_of v block actual) es) ≡ 0 → span_of c (chosen p (entry_of v block actual) (e ∷ es)) ≡ 0
    go true q other ih = rw (q, other) ih
    go false q other ih = rw q ih

lacks : (c : ℕ) (v : Version) (block : ℕ) (given : Bool) (actual : ℕ) → coded c order ≡ false → span_of c (entries_of v block given actual) ≡ 0
unfolding entries_of
lacks c v block given actual h = lacks_chosen c v block actual (listed v given) order h

-- metadata begins with 55, and a file without it ends with 7d
tail_judged : (t : List Entry) (es : List Ev) (metadata : List ℕ) (given : Bool) → Fresh [] t → Listed t es → length (table_bytes t ++ events_bytes es) < 2 ^ 32
    → span_of 0x55 t ≡ 0 → span_of 0x7d t ≡ 0 → (k : ℕ) → 15 + length (table_bytes t ++ events_bytes es) < k
    → walk_of (take k (zeroed (file_of t es (tail_of given metadata)))) ≡ walked.Refused 16 (15 + length (table_bytes t ++ events_bytes es))
unfolding tail_of metadata_of keep
tail_judged t es metadata true f l n u b k h = any.tail_refused t es _ f l n 0x55 _ refl u k h
tail_judged t es metadata false f l n u b k h = any.tail_refused t es _ f l n 0x7d [] refl b k h

-- ---- the definition's file

module _ {g : Game} {s : Stores} (p : Passed g s) where
  abbrev tail : List ℕ
  tail = tail_of (yes g.metadata_given) s.metadata

  -- the end of its event data
  abbrev pub end : ℕ
  end = 15 + length (table_bytes (entries g s) ++ events_bytes (events g s))

  -- from the table's end to there: the events of the same cut with the true length, and its answer, cut
  pub found : (k : ℕ) → first_place (entries g s) ≤ k → k ≤ end → events_read (take k (zeroed (file g s))) ≡ events_read (take k (file g s))
  unfolding file
  found k h l = any.events (entries g s) (events g s) tail (fresh p) (all_listed p) (length_fits p) k h l

  pub walk : (k : ℕ) → first_place (entries g s) ≤ k → k ≤ end → walk_of (take k (zeroed (file g s))) ≡ called_cut (walk_of (take k (file g s)))
  unfolding file
  walk k h l = any.walk (entries g s) (events g s) tail (fresh p) (all_listed p) (length_fits p) k h l

  -- past it: the tail's first byte is judged as an event, which no table lists
  pub tail_refused : (k : ℕ) → end < k → walk_of (take k (zeroed (file g s))) ≡ walked.Refused 16 end
  unfolding file
  tail_refused k l =
      let v = g.frames.version in
      let n = length s.template in
      let given = yes g.codes_given in
      let actual = g.actual_size in
      tail_judged (entries g s) (events g s) s.metadata (yes g.metadata_given) (fresh p) (all_listed p) (length_fits p)
      (lacks 0x55 v n given actual refl) (lacks 0x7d v n given actual refl) k l

-- ---- what was answered and left

module _ {g : Game} {s : Stores} {out out' : List ℕ} {n : ℕ} (o : WriterOutcome g s out (Ok n) out') (k : ℕ) where
  abbrev true_cut_lem : List ℕ
  true_cut_lem = take k (take n out')

  abbrev zero_cut : List ℕ
  zero_cut = take k (zeroed (take n out'))

  pub answered : first_place (entries g s) ≤ k → k ≤ end (accepted o) → (events_read zero_cut ≡ events_read true_cut_lem) × (walk_of zero_cut ≡ called_cut (walk_of true_cut_lem))
  answered h l = rw (written_file o) (found (accepted o) k h l, walk (accepted o) k h l)

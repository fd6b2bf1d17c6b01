-- The sizes of the records of a frame, and that each stands in the version's payload table.
-- Assumes nothing.
use mathlib.Core.Path.{◌≡◌, refl, sym, ap, ◌∙◌}
use mathlib.Core.Bool.{Bool, true, false, cond}
use mathlib.Core.List.{List, [], ◌∷◌}
use Prim.Native.Nat.{ℕ, zero, suc, ◌+◌, ◌*◌}
use native.Mathlib.Omega.{arith}
use lib.Dec.{leb, leb-zero, lit≤}
use lib.ListN.{length, get_or}
use Rattle.format.specs.Version.{gte_of, above}
use Rattle.format.specs.File.{Entry, Ev, event_bytes, Listed}
use Rattle.format.specs.declared.version.Version.{Version}
use Rattle.format.proofs.Versions.{is_above, is_same}
use Rattle.format.proofs.Files.{listed_append, listed_ranged, listed_keep}
use Rattle.layout.specs.Columns.{has_family, widths_of, size_of}
use Rattle.layout.specs.Payloads.{head_size, record_size, entries_of}
use Rattle.layout.specs.declared.columns.Family.{Family}
use Rattle.layout.specs.declared.columns.Family.TheVariants.{Pre, Post, FrameStart, Item, FrameEnd, FodPlatform, DreamlandWhispy, StadiumTransformation}
use Rattle.layout.proofs.Entries.{Sized, family_at_home}
use Rattle.record.specs.declared.Head.{Head}
use Rattle.record.proofs.Laws.{head_length_lem, length_record}
use Rattle.game.specs.Frames.{Slot, no_slot, slots_of, rows_of}
use Rattle.game.specs.Stores.{Lent, cells_of}
use Rattle.players.specs.Presence.{present_at}
use Rattle.game.specs.declared.frames.Frames.{Frames}
use Rattle.events.specs.Events.{head_of, player_of, row_of, id_of, one_event, row_events, player_event, player_events, frame_events, frames_events}

-- every version has players' records
pub from_zero : (v : Version) → gte_of v 0 0 ≡ true
unfolding gte_of
from_zero v = go v.major
  where
    go : (a : ℕ) → above a 0 (leb 0 v.minor) ≡ true
    go zero = sym (is_same 0 0 true (leb 0 v.minor) (lit≤ tt) (lit≤ tt) (sym (leb-zero v.minor)))
    go (suc a) = sym (is_above (suc a) 0 (leb 0 v.minor) (omega arith))

pub has_pre : (v : Version) → has_family v Pre ≡ true
unfolding has_family
has_pre v = from_zero v

pub has_post : (v : Version) → has_family v Post ≡ true
unfolding has_family
has_post v = from_zero v

-- a record's bytes are one more than its payload's size, with a player or without
module _ (f : Frames) (lent : Lent) (family : Family) (block row : ℕ) where
  event_size_lem : (h : Head) (b : Bool) → h.player ≡ b → length (event_bytes (row_of f lent family h block row)) ≡ cond b 7 5 + size_of family f.version
  event_size_lem h b e =
      let ws = widths_of family f.version in
      length_record h ws (cells_of lent.cells family) (rows_of f family) (block * (length ws * rows_of f family) + row)
      ∙ ap (λ (n : ℕ). n + size_of family f.version) (head_length_lem h b e)

  pub plain_size : head_size family ≡ 4 → (id : ℕ) → length (event_bytes (row_of f lent family (head_of family id) block row)) ≡ 1 + record_size family f.version
  plain_size k id = let e = event_size_lem (head_of family id) false refl in omega (arith, e, k)

  pub player_size : head_size family ≡ 6 → (id : ℕ) (s : Slot) → length (event_bytes (row_of f lent family (player_of family id s) block row)) ≡ 1 + record_size family f.version
  player_size k id s = let e = event_size_lem (player_of family id s) true refl in omega (arith, e, k)

-- ---- every event of a frame is listed, with the size of its payload
module _ (f : Frames) (lent : Lent) (block : ℕ) (given : Bool) (actual : ℕ) where
  abbrev entries : List Entry
  entries = entries_of f.version block given actual

  listed_event : (e : Ev) (n : ℕ) → Sized f.version block given actual e.code n → length (event_bytes e) ≡ 1 + n → Listed entries (e ∷ [])
  unfolding Listed
  listed_event e n h l = (h.0, h.1 ∙ omega (arith, l), tt)

  module _ (family : Family) (i : ℕ) where
    listed_plain : has_family f.version family ≡ true → head_size family ≡ 4 → (row : ℕ) → Listed entries (row_of f lent family (head_of family (id_of lent i)) 0 row ∷ [])
    listed_plain t k row =
        listed_event _ (record_size family f.version) (family_at_home f.version block given actual family t) (plain_size f lent family 0 row k (id_of lent i))

    listed_one : head_size family ≡ 4 → Listed entries (one_event f lent family i)
    unfolding one_event
    listed_one k = listed_keep entries (has_family f.version family) _ (λ t. listed_plain t k i)

    listed_rows : head_size family ≡ 4 → Listed entries (row_events f lent family i)
    unfolding row_events
    listed_rows k = listed_keep entries (has_family f.version family) _ (λ t. listed_ranged entries _ _ _ (λ j. listed_plain t k j))

    listed_players : has_family f.version family ≡ true → head_size family ≡ 6 → Listed entries (player_events f lent family i)
    unfolding player_events
    listed_players t k =
        listed_ranged entries (player_event f lent family i) 0 (length (slots_of f))
        (λ j. listed_keep entries (present_at lent.presence (get_or (slots_of f) j no_slot) i) _
        (λ p. listed_event _ (record_size family f.version) (family_at_home f.version block given actual family t)
        (player_size f lent family j i k (id_of lent i) (get_or (slots_of f) j no_slot))))

  listed_frame : (i : ℕ) → Listed entries (frame_events f lent i)
  unfolding frame_events
  listed_frame i =
      listed_append entries _ _ (listed_one FrameStart i refl)
      (listed_append entries _ _ (listed_players Pre i (has_pre f.version) refl)
      (listed_append entries _ _ (listed_rows FodPlatform i refl)
      (listed_append entries _ _ (listed_rows DreamlandWhispy i refl)
      (listed_append entries _ _ (listed_rows StadiumTransformation i refl)
      (listed_append entries _ _ (listed_rows Item i refl)
      (listed_append entries _ _ (listed_players Post i (has_post f.version) refl)
      (listed_one FrameEnd i refl)))))))

  pub listed_frames : Listed entries (frames_events f lent)
  unfolding frames_events
  listed_frames = listed_ranged entries (frame_events f lent) 0 f.counts.frames listed_frame

-- The events of a part's frames are those of the large game's.
-- Assumes nothing.
use mathlib.Core.Path.{◌≡◌, refl, sym, ap, ap₂, ◌∙◌}
use mathlib.Core.Bool.{Bool, true, false}
use mathlib.Core.List.{List, [], ◌∷◌, ◌++◌}
use Prim.Native.Nat.{ℕ, ◌+◌, ◌-◌, ◌*◌, ◌≤◌, ◌<◌}
use native.Mathlib.Nat.{mul_assoc, suc-mul, mul-le-mul_right}
use native.Mathlib.Omega.{arith}
use lib.ListN.{length, get_or}
use Rattle.wire.specs.Wire.{be, ranged, keep}
use Rattle.wire.proofs.Laws.{ranged_same}
use Rattle.format.specs.File.{Ev}
use Rattle.format.specs.Event.{code_of}
use Rattle.format.specs.declared.version.Version.{Version}
use Rattle.layout.specs.Columns.{has_family, widths_of}
use Rattle.layout.specs.Payloads.{event_of}
use Rattle.layout.specs.declared.columns.Family.{Family}
use Rattle.layout.specs.declared.columns.Family.TheVariants.{Pre, Post, FrameStart, Item, FrameEnd, FodPlatform, DreamlandWhispy, StadiumTransformation}
use Rattle.record.specs.Record.{cells_bytes, record_of, player_bytes}
use Rattle.record.specs.declared.Head.{Head}
use Rattle.game.specs.Frames.{slots_of, rows_of, slot_blocks, slot_at}
use Rattle.game.specs.Stores.{Lent, cells_of, offsets_of}
use Rattle.game.specs.declared.frames.Frames.{Frames}
use Rattle.players.specs.Presence.{present_at}
use Rattle.frames.specs.Inner.{Placed, Accepted}
use Rattle.events.specs.Events.{head_of, player_head, player_of, row_of, id_of, one_event, row_events, player_event, player_events, frame_events}
use Rattle.law_part.specs.Part.{first_row, Counted, Part}
use Rattle.law_part.proofs.Rows.{ranged_along, row_same}

module _ {f : Frames} {s : Lent} {a b : ℕ} {small : Frames} {own : Lent} (p : Part f s a b small own) (acc : Accepted small own) where
  -- ---- a row
  module _ (family : Family) (head : Head) (block j : ℕ) (h : block < slot_blocks f family) (l : j < rows_of small family) where
    abbrev ws : List ℕ
    ws = widths_of family f.version

    cells_are : cells_bytes ws (cells_of own.cells family) (rows_of small family) (block * (length ws * rows_of small family) + j)
        ≡ cells_bytes ws (cells_of s.cells family) (rows_of f family) (block * (length ws * rows_of f family) + (first_row s a family + j))
    cells_are =
        let inside : block * length ws + length ws ≤ slot_blocks f family * length ws = omega (arith, suc-mul block (length ws), mul-le-mul_right (length ws) h) in
        ap (λ (n : ℕ). cells_bytes ws (cells_of own.cells family) (rows_of small family) (n + j)) (sym (mul_assoc block (length ws) (rows_of small family)))
        ∙ row_same (cells_of own.cells family) (cells_of s.cells family) (rows_of small family) (rows_of f family) j (first_row s a family + j) (slot_blocks f family * length ws)
        (λ c k. p.cells family c j k l) ws (block * length ws) inside
        ∙ ap (λ (n : ℕ). cells_bytes ws (cells_of s.cells family) (rows_of f family) (n + (first_row s a family + j))) (mul_assoc block (length ws) (rows_of f family))

    row_is : row_of small own family head block j ≡ row_of f s family head block (first_row s a family + j)
    row_is =
        ap (λ (v : Version). record_of head (widths_of family v) (cells_of own.cells family) (rows_of small family) (block * (length (widths_of family v) * rows_of small family) + j)) p.version
        ∙ ap (λ (x : List ℕ). record { code = head.code; payload = be 4 head.id ++ (player_bytes head ++ x) }) cells_are

  -- ---- a frame's parts
  module _ (j : ℕ) (h : j < small.counts.frames) where
    one_is : (family : Family) → first_row s a family ≡ a → rows_of small family ≡ small.counts.frames → slot_blocks f family ≡ 1 → one_event small own family j ≡ one_event f s family (a + j)
    unfolding one_event
    one_is family e r q =
        let head = head_of family (id_of s (a + j)) in
        let row : row_of small own family head 0 j ≡ row_of f s family head 0 (a + j) =
        row_is family head 0 j (omega (arith, q)) (omega (arith, r)) ∙ ap (λ (n : ℕ). row_of f s family head 0 (n + j)) e in
        ap (λ (id : ℕ). keep (has_family small.version family) (row_of small own family (head_of family id) 0 j ∷ [])) (p.ids j h)
        ∙ ap₂ (λ (v : Version) (x : Ev). keep (has_family v family) (x ∷ [])) p.version row

    -- rows by offsets
    module _ (family : Family) where
      abbrev oo : List ℕ
      oo = offsets_of own.offsets family

      abbrev os : List ℕ
      os = offsets_of s.offsets family

      abbrev rows_here : List Ev
      rows_here = ranged (λ i. row_of small own family (head_of family (id_of own j)) 0 i ∷ []) (get_or oo j 0) (get_or oo (j + 1) 0 - get_or oo j 0)

      abbrev rows_there : List Ev
      rows_there = ranged (λ i. row_of f s family (head_of family (id_of s (a + j))) 0 i ∷ []) (get_or os (a + j) 0) (get_or os (a + j + 1) 0 - get_or os (a + j) 0)

      here_are : has_family f.version family ≡ true → first_row s a family ≡ get_or os a 0 → slot_blocks f family ≡ 1 → Placed small family oo → Counted f os a small oo family → rows_here ≡ rows_there
      here_are has e q placed counted =
          let ranges = placed.has (ap (λ (v : Version). has_family v family) p.version ∙ has) in
          let head = head_of family (id_of s (a + j)) in
          let x = get_or oo j 0 in
          let y = get_or os (a + j) 0 in
          let next : a + (j + 1) ≡ a + j + 1 = omega arith in
          let from = counted has j (omega (arith, h)) in
          let to : get_or oo (j + 1) 0 + get_or os a 0 ≡ get_or os (a + j + 1) 0 = counted has (j + 1) (omega (arith, h)) ∙ ap (λ (n : ℕ). get_or os n 0) next in
          let count : get_or oo (j + 1) 0 - x ≡ get_or os (a + j + 1) 0 - y = omega (arith, from, to) in
          let inside = ranges.inside (j + 1) (omega (arith, h)) in
          ap (λ (id : ℕ). ranged (λ i. row_of small own family (head_of family id) 0 i ∷ []) x (get_or oo (j + 1) 0 - x)) (p.ids j h)
          ∙ ranged_along (λ i. row_of small own family head 0 i ∷ []) (λ i. row_of f s family head 0 i ∷ []) x y (get_or oo (j + 1) 0 - x)
          (λ r l.
          let place : first_row s a family + (x + r) ≡ y + r = omega (arith, e, from) in
          ap (λ (v : Ev). v ∷ []) (row_is family head 0 (x + r) (omega (arith, q)) (omega (arith, l, inside)) ∙ ap (row_of f s family head 0) place))
          ∙ ap (ranged (λ i. row_of f s family head 0 i ∷ []) y) count

      rows_are : first_row s a family ≡ get_or os a 0 → slot_blocks f family ≡ 1 → Placed small family oo → Counted f os a small oo family → row_events small own family j ≡ row_events f s family (a + j)
      unfolding row_events keep
      rows_are e q placed counted =
          ap (λ (v : Version). keep (has_family v family) rows_here) p.version ∙ go (has_family f.version family) refl
        where
          go : (t : Bool) → has_family f.version family ≡ t → keep t rows_here ≡ keep t rows_there
          go true has = here_are has e q placed counted
          go false lacks = refl

    -- players
    player_is : (family : Family) → first_row s a family ≡ a → rows_of small family ≡ small.counts.frames → slot_blocks f family ≡ length (slots_of f) → (k : ℕ) → k < length (slots_of f)
        → player_event small own family j k ≡ player_event f s family (a + j) k
    player_is family e r q k l =
        let t = slot_at small k in
        let u = slot_at f k in
        let head = player_of family (id_of s (a + j)) u in
        let row : row_of small own family head k j ≡ row_of f s family head k (a + j) =
        row_is family head k j (omega (arith, q)) (omega (arith, r)) ∙ ap (λ (n : ℕ). row_of f s family head k (n + j)) e in
        let who : player_of family (id_of own j) t ≡ head = λ x. player_head (code_of (event_of family)) (p.ids j h x) (p.ports k l x) (p.followers k l x) in
        ap₂ (λ (b : Bool) (v : Head). keep b (row_of small own family v k j ∷ [])) (p.present k j l h) who
        ∙ ap (λ (x : Ev). keep (present_at s.presence u (a + j)) (x ∷ [])) row

    players_are : (family : Family) → first_row s a family ≡ a → rows_of small family ≡ small.counts.frames → slot_blocks f family ≡ length (slots_of f) → player_events small own family j ≡ player_events f s family (a + j)
    unfolding player_events
    players_are family e r q =
        ap (λ (m : ℕ). ranged (player_event small own family j) 0 m) p.slots
        ∙ ranged_same (player_event small own family j) (player_event f s family (a + j)) 0 (length (slots_of f)) (λ k l m. player_is family e r q k (omega (arith, m)))

  -- ---- a frame
  pub frame_is : (j : ℕ) → j < small.counts.frames → frame_events small own j ≡ frame_events f s (a + j)
  unfolding frame_events
  frame_is j h =
      let start = one_is j h FrameStart refl refl refl in
      let pre = players_are j h Pre refl refl refl in
      let fod = rows_are j h FodPlatform refl refl acc.fods p.fods in
      let whispy = rows_are j h DreamlandWhispy refl refl acc.whispys p.whispys in
      let stadium = rows_are j h StadiumTransformation refl refl acc.stadiums p.stadiums in
      let item = rows_are j h Item refl refl acc.items p.items in
      let post = players_are j h Post refl refl refl in
      let end = one_is j h FrameEnd refl refl refl in
      rw (start, pre, fod, whispy, stadium, item, post, end)

-- A game's events beside those of a game with other Pre and Post cells: only the port's own differ, and only in their cells.
-- Assumes nothing.
use mathlib.Core.Path.{◌≡◌, refl, sym, ap, ap₂, subst, ◌∙◌}
use mathlib.Core.Bool.{Bool, true, ◌&&◌}
use mathlib.Core.List.{List, [], ◌∷◌, ◌++◌}
use Prim.Native.Nat.{ℕ, suc, ◌+◌, ◌*◌, ◌<◌}
use native.Mathlib.Nat.{suc-mul, zero-mul, add-zero, add-mul, mul_assoc}
use native.Mathlib.Omega.{arith}
use borrow.Author.Tests.{eqb-false}
use lib.Dec.{eqb}
use lib.ListN.{length, get_or}
use Rattle.wire.specs.Wire.{be, ranged, keep}
use Rattle.format.specs.Event.{code_of}
use Rattle.format.specs.File.{Ev}
use Rattle.format.specs.Mark.{yes}
use Rattle.layout.specs.Columns.{widths_of}
use Rattle.layout.specs.Payloads.{event_of}
use Rattle.layout.specs.declared.columns.Family.{Family}
use Rattle.layout.specs.declared.columns.Family.TheVariants.{Pre, Post, FrameStart, Item, FrameEnd, FodPlatform, DreamlandWhispy, StadiumTransformation}
use Rattle.record.specs.Record.{cells_bytes, record_of}
use Rattle.record.proofs.Laws.{length_cells}
use Rattle.game.specs.Frames.{no_slot, slots_of, rows_of}
use Rattle.game.specs.Stores.{Lent, Stores, cells, stores}
use Rattle.players.specs.Presence.{present_at}
use Rattle.game.specs.declared.frames.Frames.{Frames}
use Rattle.game.specs.declared.Game.{Game}
use Rattle.events.specs.Events.{player_of, id_of, one_event, row_events, player_events, frame_events, frames_events}
use Rattle.codes.specs.Blocks.{code_events}
use Rattle.ending.specs.End.{end_events}
use Rattle.ser.specs.Write.{game_start_event, events}
use Rattle.law_card.specs.Card.{slot_port, SameElsewhere, CardApart, Agree, is_players, of_port, Beside, Alongside}
use Rattle.law_card.proofs.Besides.{same, one, append, over_range, where_kept}
use Rattle.law_card.proofs.Forms.{with_ports, with_presence, ports_are, players_as, presence_as, frames_same}

-- ---- what is lent, with other Pre and Post cells

abbrev pub with_players : Lent → List ℕ → List ℕ → Lent
with_players s pres posts = record {
  cells = cells s.cells.ids s.cells.starts pres posts s.cells.ends s.cells.items s.cells.fods s.cells.whispys s.cells.stadiums;
  offsets = s.offsets;
  presence = s.presence;
}

-- the other lent stores are these with the other Pre and Post cells, and the other presence
pub lent_is : {f h : Frames} {port : ℕ} {s t : Lent} → CardApart f h port s t → with_presence (with_players s t.cells.pres t.cells.posts) t.presence ≡ t
lent_is {t = t} a = λ i. record {
  cells = record {
    ids = a.ids i;
    starts = a.starts i;
    pres = t.cells.pres;
    posts = t.cells.posts;
    ends = a.ends i;
    items = a.items i;
    fods = a.fods i;
    whispys = a.whispys i;
    stadiums = a.stadiums i;
  };
  offsets = a.offsets i;
  presence = t.presence;
}

abbrev pub stores_with : Stores → List ℕ → List ℕ → Stores
stores_with s pres posts = stores (with_players s.lent pres posts) s.template s.codes s.metadata

-- a game with other frames, and the other game as such a one
abbrev game_with : Game → Frames → Game
game_with g f = record {
  frames = f;
  start = g.start;
  end = g.end;
  double_end = g.double_end;
  codes_given = g.codes_given;
  metadata_given = g.metadata_given;
  actual_size = g.actual_size;
}

game_is : {g h : Game} {port : ℕ} {s t : Stores} → Agree g h port s t → game_with g (with_ports g.frames h.frames.ports) ≡ h
game_is a = λ i. record {
  frames = ports_are a.players i;
  start = a.start i;
  end = a.end i;
  double_end = a.double_end i;
  codes_given = a.codes_given i;
  metadata_given = a.metadata_given i;
  actual_size = a.actual_size i;
}

stores_are : {g h : Game} {port : ℕ} {s t : Stores} → Agree g h port s t
    → stores (with_presence (with_players s.lent t.lent.cells.pres t.lent.cells.posts) t.lent.presence) s.template s.codes s.metadata ≡ t
stores_are a = λ i. record { lent = lent_is a.lent i; template = a.template i; codes = a.codes i; metadata = a.metadata i }

-- ---- a record's cells

-- from the first cell of a row to the place of another
cell_place : (block columns rows row c : ℕ) → block * (columns * rows) + row + c * rows ≡ (block * columns + c) * rows + row
cell_place block columns rows row c = let d = add-mul (block * columns) c rows in let e = mul_assoc block columns rows in omega arith

bytes_of_lem : (ws a b : List ℕ) (stride i : ℕ) → ((c : ℕ) → c < length ws → get_or a (i + c * stride) 0 ≡ get_or b (i + c * stride) 0)
    → cells_bytes ws a stride i ≡ cells_bytes ws b stride i
unfolding cells_bytes
bytes_of_lem [] a b stride i h = refl
bytes_of_lem (w ∷ ws) a b stride i h =
    let here : get_or a i 0 ≡ get_or b i 0 = rw (zero-mul, add-zero) at (h 0 (omega arith)) in
    let next : (c : ℕ) → i + stride + c * stride ≡ i + suc c * stride = λ c. let e = suc-mul c stride in omega arith in
    ap₂ (λ (x : ℕ) (l : List ℕ). be w x ++ l) here
    (bytes_of_lem ws a b stride (i + stride)
    (λ c l. ap (λ (j : ℕ). get_or a j 0) (next c) ∙ h (suc c) (omega arith) ∙ ap (λ (j : ℕ). get_or b j 0) (sym (next c))))

-- ---- a player's event
module _ (f : Frames) (port : ℕ) (family : Family) (played : is_players (code_of (event_of family)) ≡ true) (a b : List ℕ) (h : SameElsewhere f port family a b) where
  abbrev event_from : List ℕ → ℕ → ℕ → ℕ → Ev
  event_from cells id k i =
      record_of (player_of family id (get_or (slots_of f) k no_slot)) (widths_of family f.version) cells (rows_of f family)
      (k * (length (widths_of family f.version) * rows_of f family) + i)

  -- another port's cells are the same
  cells_of_lem : (k i : ℕ) → k < length (slots_of f) → i < rows_of f family → (slot_port f k ≡ port → ⊥)
      → cells_bytes (widths_of family f.version) a (rows_of f family) (k * (length (widths_of family f.version) * rows_of f family) + i)
      ≡ cells_bytes (widths_of family f.version) b (rows_of f family) (k * (length (widths_of family f.version) * rows_of f family) + i)
  cells_of_lem k i l j ne =
      let n = length (widths_of family f.version) in
      bytes_of_lem (widths_of family f.version) a b (rows_of f family) _
      (λ c m.
      ap (λ (x : ℕ). get_or a x 0) (cell_place k n (rows_of f family) i c)
      ∙ h.cell k c i l m j ne
      ∙ ap (λ (x : ℕ). get_or b x 0) (sym (cell_place k n (rows_of f family) i c)))

  -- the port that stands in an event is its slot's
  of_port_lem : (id k i : ℕ) → of_port port (event_from a id k i) ≡ eqb (slot_port f k) port
  unfolding be keep
  of_port_lem id k i = ap (λ (t : Bool). t && eqb (slot_port f k) port) played

  pub player_beside : (id k i : ℕ) → k < length (slots_of f) → i < rows_of f family → Beside port (event_from a id k i) (event_from b id k i)
  unfolding be keep
  player_beside id k i l j = record {
    code = refl;
    size =
        ap (λ (n : ℕ). suc (suc (suc (suc (suc (suc n))))))
        (length_cells (widths_of family f.version) a (rows_of f family) _ ∙ sym (length_cells (widths_of family f.version) b (rows_of f family) _));
    head = refl;
    others = λ q.
        ap (λ (l : List ℕ). be 4 id ++ (slot_port f k ∷ (get_or (slots_of f) k no_slot).follower ∷ l))
        (cells_of_lem k i l j (eqb-false (slot_port f k) port (sym (of_port_lem id k i) ∙ q)));
  }

  -- those of all players that are present
  pub players_beside : (bits : List ℕ) (id i : ℕ) → i < rows_of f family
      → Alongside port
      (ranged (λ k. keep (present_at bits (get_or (slots_of f) k no_slot) i) (event_from a id k i ∷ [])) 0 (length (slots_of f)))
      (ranged (λ k. keep (present_at bits (get_or (slots_of f) k no_slot) i) (event_from b id k i ∷ [])) 0 (length (slots_of f)))
  players_beside bits id i j =
      over_range port _ _ 0 (length (slots_of f))
      (λ k l. where_kept port (present_at bits (get_or (slots_of f) k no_slot) i) _ _ (one port _ _ (player_beside id k i (omega arith) j)))

-- ---- the frames' events, and all events
module _ (f : Frames) (port : ℕ) (s : Lent) (pres posts : List ℕ) (p : SameElsewhere f port Pre s.cells.pres pres)
    (q : SameElsewhere f port Post s.cells.posts posts) where
  frame_beside : (i : ℕ) → i < f.counts.frames → Alongside port (frame_events f s i) (frame_events f (with_players s pres posts) i)
  unfolding frame_events one_event row_events player_events
  frame_beside i l =
      append port _ _ _ _ (same port (one_event f s FrameStart i))
      (append port _ _ _ _ (players_beside f port Pre refl s.cells.pres pres p s.presence (id_of s i) i l)
      (append port _ _ _ _ (same port (row_events f s FodPlatform i))
      (append port _ _ _ _ (same port (row_events f s DreamlandWhispy i))
      (append port _ _ _ _ (same port (row_events f s StadiumTransformation i))
      (append port _ _ _ _ (same port (row_events f s Item i))
      (append port _ _ _ _ (players_beside f port Post refl s.cells.posts posts q s.presence (id_of s i) i l)
      (same port (one_event f s FrameEnd i))))))))

  pub frames_beside : Alongside port (frames_events f s) (frames_events f (with_players s pres posts))
  unfolding frames_events
  frames_beside = over_range port _ _ 0 f.counts.frames (λ i l. frame_beside i (omega arith))

-- the other game's events are this game's with the other Pre and Post cells, whatever the form of presence
events_form : {g h : Game} {port : ℕ} {s t : Stores} → Agree g h port s t → events g (stores_with s t.lent.cells.pres t.lent.cells.posts) ≡ events h t
unfolding events
events_form {g} {h} {port} {s} {t} a =
    let u = with_players s.lent t.lent.cells.pres t.lent.cells.posts in
    let same = frames_same g.frames h.frames.ports (players_as a.players) u t.lent.presence (presence_as a.players a.lent.presence) in
    let v = g.frames.version in
    ap (λ (es : List Ev). game_start_event g s ∷ (code_events (yes g.codes_given) s.codes g.actual_size ++ (es ++ end_events v g.end g.double_end))) same
    ∙ ap₂ events (game_is a) (stores_are a)

-- the events of two games that agree in all but the port's card
pub events_beside : {g h : Game} {port : ℕ} {s t : Stores} → Agree g h port s t → Alongside port (events g s) (events h t)
unfolding events
events_beside {g} {h} {port} {s} {t} a =
    let v = g.frames.version in
    let pres = t.lent.cells.pres in
    let posts = t.lent.cells.posts in
    subst (λ (es : List Ev). Alongside port (events g s) es) (events_form a)
    (append port _ _ _ _ (same port (game_start_event g s ∷ []))
    (append port _ _ _ _ (same port (code_events (yes g.codes_given) s.codes g.actual_size))
    (append port _ _ _ _ (frames_beside g.frames port s.lent pres posts a.lent.pres a.lent.posts)
    (same port (end_events v g.end g.double_end)))))

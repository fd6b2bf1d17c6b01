-- Presence in another form: where it says the same of every player in every frame, events, refusals and rows are the same.
-- Assumes nothing.
use mathlib.Core.Path.{◌≡◌, refl, sym, ap, ap₂, subst, ◌∙◌}
use mathlib.Core.Bool.{Bool, true, false}
use mathlib.Core.List.{List, [], ◌∷◌, ◌++◌, map, map-append}
use Prim.Native.Nat.{ℕ, zero, suc, ◌+◌, ◌-◌, ◌<◌, min}
use native.Mathlib.Omega.{arith}
use borrow.Author.Tests.{ltb-true}
use lib.Dec.{ltb}
use lib.ListN.{length, get_or, take, length-map, get_or-map}
use lib.Seq.{ext_get_or}
use Rattle.wire.specs.Wire.{ranged, keep}
use Rattle.wire.proofs.Laws.{ranged_same, tabulate_length}
use Rattle.format.specs.Event.{code_of}
use Rattle.format.specs.File.{Ev}
use Rattle.format.specs.Refusal.{refuse, lowest}
use Rattle.format.proofs.Refusals.{passed, skip, none}
use Rattle.layout.specs.Payloads.{event_of}
use Rattle.layout.specs.declared.columns.Family.{Family}
use Rattle.layout.specs.declared.columns.Family.TheVariants.{Pre, Post, FrameStart, Item, FrameEnd, FodPlatform, DreamlandWhispy, StadiumTransformation}
use Rattle.game.specs.Frames.{no_port, ports_of, follows, Slot, slot, no_slot, port_slots, port_bytes, slots_from, slots_of, rows_of, slot_blocks}
use Rattle.game.specs.Stores.{Lent, Cells, cells_of}
use Rattle.game.specs.declared.frames.Frames.{Frames}
use Rattle.game.specs.declared.frames.PortColumn.{PortColumn}
use Rattle.players.specs.Presence.{slots_before}
use Rattle.players.proofs.SlotLaws.{leader_slot, follower_slot}
use Rattle.frames.specs.Judge.{too_many, misfits, stores_misfit, exceeds, cells_exceed, misleads, offsets_mislead, port_numbers, ports_wrong, refusals}
use Rattle.events.specs.Events.{player_head, id_of, row_of, one_event, row_events, player_events, frame_events, frames_events}
use Rattle.transpose.specs.Judge.{outside, row_refusal}
use Rattle.transpose.specs.Inner.{place_refusal}
use Rattle.transpose.specs.Records.{mark_at}
use Rattle.transpose.specs.Answers.{unless_refused, pre_row, post_row, item_row, fod_platform_row, dreamland_whispy_row, stadium_transformation_row, frame_answer, frame_row}
use Rattle.transpose.specs.Ports.{port_at}
use Rattle.transpose.specs.Frame.{range_at, frame_at}
use Rattle.transpose.proofs.Judged.{row_judged, reachable}
use Rattle.rows_run.specs.Run.{family_at, run_row, no_run, run_cells, rows_run_refusal}
use Rattle.rows_run.specs.Inner.{run_refused}
use Rattle.rows_run.proofs.Judged.{run_judged, running}
use Rattle.law_card.specs.Card.{slot_port, SamePlayers, SamePresence}

-- ---- what players are, without their presence bytes

abbrev bare_column : PortColumn → PortColumn
bare_column p = record { port = p.port; follower = p.follower; leader_presence = 0; follower_presence = 0 }

abbrev bare_slot : Slot → Slot
bare_slot s = slot s.port s.follower 0 0

bare_slots : List PortColumn → List Slot
bare_slots [] = []
bare_slots (p ∷ ps) = (slot p.port 0 0 0 ∷ keep (follows p) (slot p.port 1 0 0 ∷ [])) ++ bare_slots ps

bare_port : (at : ℕ) (p : PortColumn) → map bare_slot (port_slots at p) ≡ slot p.port 0 0 0 ∷ keep (follows p) (slot p.port 1 0 0 ∷ [])
unfolding port_slots keep
bare_port at p = go (follows p)
  where
    go : (b : Bool) → map bare_slot (slot p.port 0 at p.leader_presence ∷ keep b (slot p.port 1 (at + p.leader_presence) p.follower_presence ∷ []))
        ≡ slot p.port 0 0 0 ∷ keep b (slot p.port 1 0 0 ∷ [])
    go true = refl
    go false = refl

bare_slots_lem : (at : ℕ) (ps : List PortColumn) → map bare_slot (slots_from at ps) ≡ bare_slots ps
unfolding slots_from bare_slots
bare_slots_lem at [] = refl
bare_slots_lem at (p ∷ ps) =
    map-append bare_slot (port_slots at p) (slots_from (at + port_bytes p) ps) ∙ ap₂ (λ (a b : List Slot). a ++ b) (bare_port at p) (bare_slots_lem (at + port_bytes p) ps)

bare_columns : (ps : List PortColumn) → bare_slots ps ≡ bare_slots (map bare_column ps)
unfolding bare_slots
bare_columns [] = refl
bare_columns (p ∷ ps) = ap (λ (l : List Slot). (slot p.port 0 0 0 ∷ keep (follows p) (slot p.port 1 0 0 ∷ [])) ++ l) (bare_columns ps)

take_bare : (k : ℕ) (ps : List PortColumn) → map bare_column (take k ps) ≡ take k (map bare_column ps)
take_bare zero ps = refl
take_bare (suc k) [] = refl
take_bare (suc k) (p ∷ ps) = ap (λ (l : List PortColumn). bare_column p ∷ l) (take_bare k ps)

-- ---- a frame input with other port columns, and what is lent with other presence
abbrev pub with_ports : Frames → List PortColumn → Frames
with_ports f ps = record { version = f.version; counts = f.counts; ports = ps; port_count = f.port_count }

abbrev pub with_presence : Lent → List ℕ → Lent
with_presence s bits = record { cells = s.cells; offsets = s.offsets; presence = bits }

pub ports_are : {f h : Frames} → SamePlayers f h → with_ports f h.ports ≡ h
ports_are {h = h} a = λ i. record { version = a.version i; counts = a.counts i; ports = h.ports; port_count = a.port_count i }

pub players_as : {f h : Frames} → SamePlayers f h → SamePlayers f (with_ports f h.ports)
players_as {f} {h} a = subst (λ (x : Frames). SamePlayers f x) (sym (ports_are a)) a

pub presence_as : {f h : Frames} {bits other : List ℕ} → SamePlayers f h → SamePresence f h bits other → SamePresence f (with_ports f h.ports) bits other
presence_as {f} {h} {bits} {other} a q = subst (λ (x : Frames). SamePresence f x bits other) (sym (ports_are a)) q

-- events of those who are there
kept_same : (p q : ℕ → Bool) (port port' follower follower' : ℕ → ℕ) (ev : ℕ → ℕ → ℕ → Ev) (n m : ℕ) → n ≡ m → ((k : ℕ) → k < n → p k ≡ q k) → ((k : ℕ) → port k ≡ port' k)
    → ((k : ℕ) → follower k ≡ follower' k) → ranged (λ k. keep (p k) (ev (port k) (follower k) k ∷ [])) 0 n ≡ ranged (λ k. keep (q k) (ev (port' k) (follower' k) k ∷ [])) 0 m
kept_same p q port port' follower follower' ev n m e h po fo =
    ranged_same _ _ 0 n (λ k _ l. rw (h k (omega (arith, l)), po k, fo k)) ∙ ap (ranged (λ k. keep (q k) (ev (port' k) (follower' k) k ∷ [])) 0) e

module _ (f : Frames) (ps : List PortColumn) (a : SamePlayers f (with_ports f ps)) where
  abbrev other : Frames
  other = with_ports f ps

  as_many_ports : length (ports_of f) ≡ length (ports_of other)
  unfolding ports_of
  as_many_ports = tabulate_length (min 4 f.port_count) _ ∙ sym (tabulate_length (min 4 f.port_count) _)

  columns_same : map bare_column (ports_of f) ≡ map bare_column (ports_of other)
  columns_same =
      ext_get_or no_port (map bare_column (ports_of f)) (map bare_column (ports_of other)) (length-map (ports_of f) bare_column ∙ as_many_ports ∙ sym (length-map (ports_of other) bare_column))
      (λ k l.
      get_or-map bare_column (ports_of f) k no_port
      ∙ ap₂ (λ (x y : ℕ). record { port = x; follower = y; leader_presence = 0; follower_presence = 0 }) (a.port k) (a.follower k)
      ∙ sym (get_or-map bare_column (ports_of other) k no_port))

  slots_same : map bare_slot (slots_of f) ≡ map bare_slot (slots_of other)
  unfolding slots_of
  slots_same = bare_slots_lem 0 (ports_of f) ∙ bare_columns (ports_of f) ∙ ap bare_slots columns_same ∙ sym (bare_columns (ports_of other)) ∙ sym (bare_slots_lem 0 (ports_of other))

  pub as_many_slots : length (slots_of f) ≡ length (slots_of other)
  as_many_slots = sym (length-map (slots_of f) bare_slot) ∙ ap length slots_same ∙ length-map (slots_of other) bare_slot

  slot_same : (k : ℕ) → bare_slot (get_or (slots_of f) k no_slot) ≡ bare_slot (get_or (slots_of other) k no_slot)
  slot_same k = sym (get_or-map bare_slot (slots_of f) k no_slot) ∙ ap (λ (l : List Slot). get_or l k no_slot) slots_same ∙ get_or-map bare_slot (slots_of other) k no_slot

  pub slot_port_lem : (k : ℕ) → slot_port f k ≡ slot_port other k
  slot_port_lem k = ap (λ (x : Slot). x.port) (slot_same k)

  slot_follower : (k : ℕ) → (get_or (slots_of f) k no_slot).follower ≡ (get_or (slots_of other) k no_slot).follower
  slot_follower k = ap (λ (x : Slot). x.follower) (slot_same k)

  pub before_same : (k : ℕ) → slots_before f k ≡ slots_before other k
  before_same k =
      let bare : (g : Frames) → slots_before g k ≡ length (bare_slots (take k (map bare_column (ports_of g)))) =
      λ g. sym (length-map (slots_from 0 (take k (ports_of g))) bare_slot) ∙ ap length (bare_slots_lem 0 (take k (ports_of g)) ∙ bare_columns (take k (ports_of g)) ∙ ap bare_slots (take_bare k (ports_of g))) in
      bare f ∙ ap (λ (l : List PortColumn). length (bare_slots (take k l))) columns_same ∙ sym (bare other)

  -- ---- events
  module _ (s : Lent) (bits : List ℕ) (q : SamePresence f (with_ports f ps) s.presence bits) where
    players_same_pre : (i : ℕ) → i < f.counts.frames → player_events f s Pre i ≡ player_events other (with_presence s bits) Pre i
    unfolding player_events
    players_same_pre i l =
        kept_same _ _ _ _ _ _ (λ port follower k. row_of f s Pre (player_head (code_of (event_of Pre)) (id_of s i) port follower) k i) _ _ as_many_slots (λ k m. q.in_frame k i m l) slot_port_lem slot_follower

    players_same_post : (i : ℕ) → i < f.counts.frames → player_events f s Post i ≡ player_events other (with_presence s bits) Post i
    unfolding player_events
    players_same_post i l =
        kept_same _ _ _ _ _ _ (λ port follower k. row_of f s Post (player_head (code_of (event_of Post)) (id_of s i) port follower) k i) _ _ as_many_slots (λ k m. q.in_frame k i m l) slot_port_lem slot_follower

    frame_same : (i : ℕ) → i < f.counts.frames → frame_events f s i ≡ frame_events other (with_presence s bits) i
    unfolding frame_events one_event row_events
    frame_same i l = rw (players_same_pre i l, players_same_post i l)

    pub frames_same : frames_events f s ≡ frames_events other (with_presence s bits)
    unfolding frames_events
    frames_same = ranged_same _ _ 0 f.counts.frames (λ i _ l. frame_same i (omega (arith, l)))

  -- ---- refusals
  misfit_same : (c : Cells) → stores_misfit f c ≡ stores_misfit other c
  unfolding stores_misfit misfits
  misfit_same c = rw as_many_slots

  exceed_same : (c : Cells) → cells_exceed f c ≡ cells_exceed other c
  unfolding cells_exceed exceeds
  exceed_same c = rw as_many_slots

  numbers_same : port_numbers f ≡ port_numbers other
  unfolding port_numbers
  numbers_same =
      let bare : (l : List PortColumn) → map (λ (p : PortColumn). p.port) l ≡ map (λ (p : PortColumn). p.port) (map bare_column l) = ports_of_lem in
      bare (ports_of f) ∙ ap (map (λ (p : PortColumn). p.port)) columns_same ∙ sym (bare (ports_of other))
    where
      ports_of_lem : (l : List PortColumn) → map (λ (p : PortColumn). p.port) l ≡ map (λ (p : PortColumn). p.port) (map bare_column l)
      ports_of_lem [] = refl
      ports_of_lem (p ∷ l) = ap (λ (m : List ℕ). p.port ∷ m) (ports_of_lem l)

  wrong_same : ports_wrong f ≡ ports_wrong other
  unfolding ports_wrong
  wrong_same = rw numbers_same

  offsets_same : (s : Lent) → offsets_mislead f s.offsets ≡ offsets_mislead other s.offsets
  unfolding offsets_mislead misleads
  offsets_same s = refl

  many_same : (codes metadata : ℕ) → too_many f codes metadata ≡ too_many other codes metadata
  unfolding too_many
  many_same codes metadata = refl

  -- what is accepted with presence in that form, and with these cells in the other, is accepted with these cells in that form
  pub accepted_too : (s t : Lent) (codes metadata : ℕ) → lowest (refusals f s codes metadata) ≡ 0 → lowest (refusals other t codes metadata) ≡ 0
      → lowest (refusals f (record { cells = t.cells; offsets = t.offsets; presence = s.presence }) codes metadata) ≡ 0
  unfolding refusals
  accepted_too s t codes metadata x y =
      let (x1, xs1) = passed _ _ _ x in
      let (x2, xs2) = passed _ _ _ xs1 in
      let (x3, xs3) = passed _ _ _ xs2 in
      let (x4, xs4) = passed _ _ _ xs3 in
      let (x5, xs5) = passed _ _ _ xs4 in
      let (x6, xs6) = passed _ _ _ xs5 in
      let (x7, xs7) = passed _ _ _ xs6 in
      let (y1, ys1) = passed _ _ _ y in
      let (y2, ys2) = passed _ _ _ ys1 in
      let (y3, ys3) = passed _ _ _ ys2 in
      let (y4, ys4) = passed _ _ _ ys3 in
      let (y5, ys5) = passed _ _ _ ys4 in
      sym
      (skip 1 _ _ _ x1
      (skip 2 _ _ _ x2
      (skip 3 _ _ _ (misfit_same t.cells ∙ y3) (skip 4 _ _ _ (exceed_same t.cells ∙ y4) (skip 5 _ _ _ (offsets_same t ∙ y5) (skip 6 _ _ _ x6 (skip 7 _ _ _ x7 none)))))))

  -- ---- rows
  blocks_same : (family : Family) → slot_blocks f family ≡ slot_blocks other family
  blocks_same Pre = as_many_slots
  blocks_same Post = as_many_slots
  blocks_same FrameStart = refl
  blocks_same Item = refl
  blocks_same FrameEnd = refl
  blocks_same FodPlatform = refl
  blocks_same DreamlandWhispy = refl
  blocks_same StadiumTransformation = refl

  rows_same : (family : Family) → rows_of f family ≡ rows_of other family
  rows_same Pre = refl
  rows_same Post = refl
  rows_same FrameStart = refl
  rows_same Item = refl
  rows_same FrameEnd = refl
  rows_same FodPlatform = refl
  rows_same DreamlandWhispy = refl
  rows_same StadiumTransformation = refl

  outside_same : (family : Family) (block row : ℕ) → outside f family block row ≡ outside other family block row
  unfolding outside
  outside_same family block row = rw (blocks_same family, rows_same family)

  module _ (s : Lent) (bits : List ℕ) (q : SamePresence f (with_ports f ps) s.presence bits) (x : lowest (refusals f s 0 0) ≡ 0)
      (y : lowest (refusals (with_ports f ps) (with_presence s bits) 0 0) ≡ 0) where
    abbrev also : Lent
    also = with_presence s bits

    refusal_same : (family : Family) (block row : ℕ) → row_refusal f s family block row ≡ row_refusal other also family block row
    unfolding place_refusal
    refusal_same family block row =
        sym (row_judged f s family block row 0 (sym x))
        ∙ ap (λ (t : Bool). unless_refused 0 (lowest (refuse 13 t ∷ [])) 0) (outside_same family block row)
        ∙ row_judged other also family block row 0 (sym y)

    mark_same : (slot index : ℕ) → slot < length (slots_of f) → index < f.counts.frames → mark_at f s.presence slot index ≡ mark_at other bits slot index
    unfolding mark_at
    mark_same slot index l m = rw (q.in_frame slot index l m)

    pub pre_same : (slot index : ℕ) → pre_row f s slot index ≡ pre_row other also slot index
    unfolding unless_refused
    pre_same slot index = go (row_refusal f s Pre slot index) refl
      where
        go : (n : ℕ) → row_refusal f s Pre slot index ≡ n → pre_row f s slot index ≡ pre_row other also slot index
        go zero e = let r = reachable f s Pre slot index e in rw (← refusal_same Pre slot index, e, mark_same slot index r.block_in r.row_in)
        go (suc n) e = rw (← refusal_same Pre slot index, e)

    pub post_same : (slot index : ℕ) → post_row f s slot index ≡ post_row other also slot index
    unfolding unless_refused
    post_same slot index = go (row_refusal f s Post slot index) refl
      where
        go : (n : ℕ) → row_refusal f s Post slot index ≡ n → post_row f s slot index ≡ post_row other also slot index
        go zero e = let r = reachable f s Post slot index e in rw (← refusal_same Post slot index, e, mark_same slot index r.block_in r.row_in)
        go (suc n) e = rw (← refusal_same Post slot index, e)

    pub item_same : (index : ℕ) → item_row f s index ≡ item_row other also index
    item_same index = rw (refusal_same Item 0 index)

    pub fod_same : (index : ℕ) → fod_platform_row f s index ≡ fod_platform_row other also index
    fod_same index = rw (refusal_same FodPlatform 0 index)

    pub whispy_same : (index : ℕ) → dreamland_whispy_row f s index ≡ dreamland_whispy_row other also index
    whispy_same index = rw (refusal_same DreamlandWhispy 0 index)

    pub stadium_same : (index : ℕ) → stadium_transformation_row f s index ≡ stadium_transformation_row other also index
    stadium_same index = rw (refusal_same StadiumTransformation 0 index)

    -- a port column's players in a frame
    port_same : (index k : ℕ) → index < f.counts.frames
        → port_at f s.cells.pres s.cells.posts s.presence index k ≡ port_at other s.cells.pres s.cells.posts bits index k
    unfolding port_at
    port_same index k m = go (ltb k (length (ports_of f))) refl (follows (get_or (ports_of f) k no_port)) refl
      where
        go : (b : Bool) → ltb k (length (ports_of f)) ≡ b → (w : Bool) → follows (get_or (ports_of f) k no_port) ≡ w
            → port_at f s.cells.pres s.cells.posts s.presence index k ≡ port_at other s.cells.pres s.cells.posts bits index k
        go false e w o = rw (← as_many_ports, e)
        go true e false o =
            let l = ltb-true k (length (ports_of f)) e in
            let lead = mark_same (slots_before f k) index (leader_slot f k (get_or (ports_of f) k no_port) l refl) m in
            rw (← as_many_ports, e, ← a.port k, ← a.follower k, o, ← before_same k, lead)
        go true e true o =
            let l = ltb-true k (length (ports_of f)) e in
            let lead = mark_same (slots_before f k) index (leader_slot f k (get_or (ports_of f) k no_port) l refl) m in
            let next = mark_same (slots_before f k + 1) index (follower_slot f k (get_or (ports_of f) k no_port) l refl (sym o) refl) m in
            rw (← as_many_ports, e, ← a.port k, ← a.follower k, o, ← before_same k, lead, next)

    frame_at_same : (index : ℕ) → index < f.counts.frames → frame_at f s index ≡ frame_at other also index
    unfolding range_at
    frame_at_same index m = rw (port_same index 0 m, port_same index 1 m, port_same index 2 m, port_same index 3 m)

    pub frame_row_same : (index : ℕ) → frame_row f s index ≡ frame_row other also index
    unfolding unless_refused
    frame_row_same index = go (row_refusal f s FrameStart 0 index) refl
      where
        go : (n : ℕ) → row_refusal f s FrameStart 0 index ≡ n → frame_row f s index ≡ frame_row other also index
        go zero e = let r = reachable f s FrameStart 0 index e in rw (← refusal_same FrameStart 0 index, e) (ap (frame_answer 0) (frame_at_same index r.row_in))
        go (suc n) e = rw (← refusal_same FrameStart 0 index, e)

    -- runs
    pub run_refusal_same : (number slot a b room : ℕ) → rows_run_refusal f s number slot a b room ≡ rows_run_refusal other also number slot a b room
    unfolding run_refused no_run
    run_refusal_same number slot a b room =
        let same : run_refused 0 f number slot a b room ≡ run_refused 0 other number slot a b room = rw (blocks_same (family_at number), rows_same (family_at number)) in
        sym (run_judged f s number slot a b room 0 (sym x)) ∙ same ∙ run_judged other also number slot a b room 0 (sym y)

    row_same : (family : Family) (slot index : ℕ) → slot < slot_blocks f family → index < rows_of f family
        → run_row f family (cells_of s.cells family) s.presence slot index ≡ run_row other family (cells_of s.cells family) bits slot index
    unfolding run_row keep
    row_same Pre slot index l m = rw (mark_same slot index l m)
    row_same Post slot index l m = rw (mark_same slot index l m)
    row_same FrameStart slot index l m = refl
    row_same Item slot index l m = refl
    row_same FrameEnd slot index l m = refl
    row_same FodPlatform slot index l m = refl
    row_same DreamlandWhispy slot index l m = refl
    row_same StadiumTransformation slot index l m = refl

    pub run_same : (number slot a b room : ℕ) → rows_run_refusal f s number slot a b room ≡ 0 → run_cells f s (family_at number) slot a b ≡ run_cells other also (family_at number) slot a b
    run_same number slot a b room e =
        let r = running f s number slot a b room e in
        ranged_same _ _ a (b - a) (λ i _ l. row_same (family_at number) slot i r.slot_in (omega (arith, r.inside, r.range, l)))

-- ---- the same of any two frame inputs
pub slots_of_lem : {f h : Frames} → SamePlayers f h → length (slots_of f) ≡ length (slots_of h)
slots_of_lem {f} {h} a = as_many_slots f h.ports (players_as a) ∙ ap (λ (x : Frames). length (slots_of x)) (ports_are a)

pub port_of_lem : {f h : Frames} → SamePlayers f h → (k : ℕ) → slot_port f k ≡ slot_port h k
port_of_lem {f} {h} a k = slot_port_lem f h.ports (players_as a) k ∙ ap (λ (x : Frames). slot_port x k) (ports_are a)

pub rows_of_lem : {f h : Frames} → SamePlayers f h → (family : Family) → rows_of f family ≡ rows_of h family
rows_of_lem {f} {h} a family = rows_same f h.ports (players_as a) family ∙ ap (λ (x : Frames). rows_of x family) (ports_are a)

-- The rows of two games that agree in all but one port's card: those of the other ports are equal, and so are starts, ends, items and the stages' rows.
-- Assumes nothing.
use mathlib.Core.Path.{◌≡◌, refl, sym, ap, ap₂, subst, ◌∙◌}
use mathlib.Core.Bool.{Bool, true, false, cond}
use mathlib.Core.List.{List, [], ◌∷◌, ◌++◌}
use Prim.Native.Nat.{ℕ, zero, suc, ◌+◌, ◌-◌, ◌<◌}
use native.Mathlib.Omega.{arith}
use borrow.Author.Tests.{ltb-true}
use lib.Dec.{ltb}
use lib.ListN.{length, get_or, take, length-append}
use lib.Seq.{get_or-append-add}
use Rattle.wire.specs.Wire.{splice, keep}
use Rattle.wire.proofs.Laws.{tabulate_ext, ranged_same}
use Rattle.format.specs.Refusal.{lowest}
use Rattle.format.proofs.Refusals.{passed, skip, lowest_first}
use Rattle.format.proofs.Tests.{one_passed, one_skip, one_none}
use Rattle.layout.specs.Columns.{widths_of}
use Rattle.layout.specs.declared.columns.Family.{Family}
use Rattle.layout.specs.declared.columns.Family.TheVariants.{Pre, Post, FrameStart, Item, FrameEnd, FodPlatform, DreamlandWhispy, StadiumTransformation}
use Rattle.game.specs.Frames.{no_port, ports_of, follows, Slot, no_slot, port_slots, port_bytes, slots_from, slots_of, rows_of, slot_blocks}
use Rattle.game.specs.Stores.{Lent, Stores, cells_of}
use Rattle.game.specs.declared.Game.{Game}
use Rattle.game.specs.declared.frames.Frames.{Frames}
use Rattle.game.specs.declared.frames.PortColumn.{PortColumn}
use Rattle.players.specs.Presence.{slots_before}
use Rattle.players.proofs.SlotLaws.{leader_slot, follower_slot}
use Rattle.frames.specs.Judge.{too_many, refusals}
use Rattle.ser.specs.Write.{given_bytes, judged}
use Rattle.rows.specs.Cells.{first_cells}
use Rattle.transpose.specs.Judge.{row_refusal}
use Rattle.rows.specs.Rows.{item_of, no_item, fod_platform_of, no_fod_platform, dreamland_whispy_of, no_dreamland_whispy, stadium_transformation_of, no_stadium_transformation}
use Rattle.transpose.specs.Records.{cells_at, mark_at}
use Rattle.transpose.specs.Ports.{no_port_data, port_at}
use Rattle.transpose.specs.Frame.{frame_at}
use Rattle.transpose.specs.Answers.{unless_refused, row_answer, pre_row, post_row, item_answer, fod_platform_answer, dreamland_whispy_answer, stadium_transformation_answer, frame_answer, frame_row}
use Rattle.transpose.specs.declared.frame.FrameRow.{FrameRow}
use Rattle.transpose.specs.declared.frame.PortData.{PortData}
use Rattle.transpose.proofs.Judged.{row_judged, reachable}
use Rattle.rows_run.specs.Run.{family_at, of_players, run_row, run_cells, run_length, rows_run_refusal, run_answer, RowsOutcome}
use Rattle.rows_run.specs.declared.run.Run.{Run}
use Rattle.rows_run.proofs.Judged.{run_judged, running}
use Rattle.law_card.specs.Card.{slot_port, column_port, SameElsewhere, SamePlayers, SamePresence, CardApart, Agree, FrameApart, RowsApart}
use Rattle.law_card.proofs.Forms.{with_ports, with_presence, ports_are, players_as, presence_as, accepted_too, pre_same, post_same, item_same, fod_same, whispy_same, stadium_same, frame_row_same, run_refusal_same, run_same}
use Rattle.law_card.proofs.Players.{with_players, lent_is}

-- ---- a record's cells
cells_shown : {f : Frames} {port : ℕ} {family : Family} {a b : List ℕ} → SameElsewhere f port family a b → (block row : ℕ) → block < length (slots_of f)
    → row < rows_of f family → (slot_port f block ≡ port → ⊥) → cells_at f family a block row ≡ cells_at f family b block row
unfolding first_cells
cells_shown {f} {port} {family} {a} {b} h block row l m ne =
    let n = length (widths_of family f.version) in
    tabulate_ext 32 _ _ (λ k _. go k n (λ z. h.cell block k row l z m ne) (ltb k n) refl)
  where
    go : (k n : ℕ) {u v : ℕ} → (k < n → u ≡ v) → (t : Bool) → ltb k n ≡ t → cond (ltb k n) u 0 ≡ cond (ltb k n) v 0
    go k n {u} {v} same true e = ap (λ (x : ℕ). cond (ltb k n) x 0) (same (ltb-true k n e))
    go k n same false e = rw e

-- ---- the slots of a port column are of its port
leader_at : (k at : ℕ) (ps : List PortColumn) → k < length ps → (get_or (slots_from at ps) (length (slots_from at (take k ps))) no_slot).port ≡ (get_or ps k no_port).port
unfolding slots_from port_slots
leader_at k at [] l = absurd (omega arith)
leader_at zero at (p ∷ ps) l = refl
leader_at (suc k) at (p ∷ ps) l =
    ap (λ (n : ℕ). (get_or (port_slots at p ++ slots_from (at + port_bytes p) ps) n no_slot).port) (length-append (port_slots at p) (slots_from (at + port_bytes p) (take k ps)))
    ∙ ap (λ (x : Slot). x.port) (get_or-append-add (port_slots at p) (slots_from (at + port_bytes p) ps) (length (slots_from (at + port_bytes p) (take k ps))) no_slot)
    ∙ leader_at k (at + port_bytes p) ps (omega arith)

follower_at : (k at : ℕ) (ps : List PortColumn) → k < length ps → follows (get_or ps k no_port) ≡ true
    → (get_or (slots_from at ps) (length (slots_from at (take k ps)) + 1) no_slot).port ≡ (get_or ps k no_port).port
unfolding slots_from port_slots keep
follower_at k at [] l e = absurd (omega arith)
follower_at zero at (p ∷ ps) l e = rw e
follower_at (suc k) at (p ∷ ps) l e =
    let n = length (slots_from (at + port_bytes p) (take k ps)) in
    let far : length (slots_from at (p ∷ take k ps)) + 1 ≡ length (port_slots at p) + (n + 1) =
    omega (arith, length-append (port_slots at p) (slots_from (at + port_bytes p) (take k ps))) in
    ap (λ (j : ℕ). (get_or (port_slots at p ++ slots_from (at + port_bytes p) ps) j no_slot).port) far
    ∙ ap (λ (x : Slot). x.port) (get_or-append-add (port_slots at p) (slots_from (at + port_bytes p) ps) (n + 1) no_slot)
    ∙ follower_at k (at + port_bytes p) ps (omega arith) e

-- the k-th port column's players in a frame's row
abbrev port_on : Frames → Lent → ℕ → ℕ → PortData
port_on f s index k = port_at f s.cells.pres s.cells.posts s.presence index k

-- a row is apart from itself by nothing
frame_same : (f : Frames) (port : ℕ) (r : FrameRow) → FrameApart f port r r
frame_same f port r = record {
  refused = refl;
  version = refl;
  id = refl;
  port_count = refl;
  start = refl;
  end = refl;
  items = refl;
  fod_platforms = refl;
  dreamland_whispys = refl;
  stadium_transformations = refl;
  ports = λ k ne. refl;
}

-- ---- the calls, over what is lent and the same with other Pre and Post cells
module _ (f : Frames) (port : ℕ) (s : Lent) (pres posts : List ℕ) (p : SameElsewhere f port Pre s.cells.pres pres)
    (q : SameElsewhere f port Post s.cells.posts posts) (x : lowest (refusals f s 0 0) ≡ 0) (y : lowest (refusals f (with_players s pres posts) 0 0) ≡ 0) where
  abbrev t : Lent
  t = with_players s pres posts

  one_refusal : (family : Family) (block row : ℕ) → row_refusal f s family block row ≡ row_refusal f t family block row
  one_refusal family block row = sym (row_judged f s family block row 0 (sym x)) ∙ row_judged f t family block row 0 (sym y)

  pre_with : (slot index : ℕ) → (slot_port f slot ≡ port → ⊥) → pre_row f s slot index ≡ pre_row f t slot index
  unfolding unless_refused
  pre_with slot index ne = go (row_refusal f t Pre slot index) refl
    where
      go : (n : ℕ) → row_refusal f t Pre slot index ≡ n → pre_row f s slot index ≡ pre_row f t slot index
      go zero e = let r = reachable f t Pre slot index e in rw (one_refusal Pre slot index, cells_shown p slot index r.block_in r.row_in ne)
      go (suc n) e = rw (one_refusal Pre slot index, e)

  post_with : (slot index : ℕ) → (slot_port f slot ≡ port → ⊥) → post_row f s slot index ≡ post_row f t slot index
  unfolding unless_refused
  post_with slot index ne = go (row_refusal f t Post slot index) refl
    where
      go : (n : ℕ) → row_refusal f t Post slot index ≡ n → post_row f s slot index ≡ post_row f t slot index
      go zero e = let r = reachable f t Post slot index e in rw (one_refusal Post slot index, cells_shown q slot index r.block_in r.row_in ne)
      go (suc n) e = rw (one_refusal Post slot index, e)

  -- a port column's players in a frame
  module _ (index k : ℕ) (m : index < f.counts.frames) (ne : column_port f k ≡ port → ⊥) where
    -- a player of the port column has the same cells
    seat_cells : (slot : ℕ) → slot < length (slots_of f) → slot_port f slot ≡ column_port f k
        → (cells_at f Pre s.cells.pres slot index ≡ cells_at f Pre pres slot index) × (cells_at f Post s.cells.posts slot index ≡ cells_at f Post posts slot index)
    seat_cells slot l e = (cells_shown p slot index l m (λ z. ne (sym e ∙ z)), cells_shown q slot index l m (λ z. ne (sym e ∙ z)))

    port_with : port_on f s index k ≡ port_on f t index k
    unfolding port_at slots_of
    port_with = go (ltb k (length (ports_of f))) refl (follows (get_or (ports_of f) k no_port)) refl
      where
        go : (b : Bool) → ltb k (length (ports_of f)) ≡ b → (w : Bool) → follows (get_or (ports_of f) k no_port) ≡ w → port_on f s index k ≡ port_on f t index k
        go false e w o = rw e
        go true e false o =
            let l = ltb-true k (length (ports_of f)) e in
            let (a, b) = seat_cells (slots_before f k) (leader_slot f k (get_or (ports_of f) k no_port) l refl) (leader_at k 0 (ports_of f) l) in
            rw (o, a, b)
        go true e true o =
            let l = ltb-true k (length (ports_of f)) e in
            let (a, b) = seat_cells (slots_before f k) (leader_slot f k (get_or (ports_of f) k no_port) l refl) (leader_at k 0 (ports_of f) l) in
            let (c, d) = seat_cells (slots_before f k + 1) (follower_slot f k (get_or (ports_of f) k no_port) l refl (sym o) refl) (follower_at k 0 (ports_of f) l o) in
            rw (o, a, b, c, d)

  -- the row of a frame, where it is not refused
  shown_with : (index : ℕ) → index < f.counts.frames → FrameApart f port (frame_answer 0 (frame_at f s index)) (frame_answer 0 (frame_at f t index))
  shown_with index m = record {
    refused = refl;
    version = refl;
    id = refl;
    port_count = refl;
    start = refl;
    end = refl;
    items = refl;
    fod_platforms = refl;
    dreamland_whispys = refl;
    stadium_transformations = refl;
    ports = each;
  }
    where
      each : (k : ℕ) → (column_port f k ≡ port → ⊥) → get_or (frame_at f s index).ports k no_port_data ≡ get_or (frame_at f t index).ports k no_port_data
      each zero ne = port_with index 0 m ne
      each (suc zero) ne = port_with index 1 m ne
      each (suc (suc zero)) ne = port_with index 2 m ne
      each (suc (suc (suc zero))) ne = port_with index 3 m ne
      each (suc (suc (suc (suc k)))) ne = refl

  frame_with : (index : ℕ) → FrameApart f port (frame_row f s index) (frame_row f t index)
  unfolding unless_refused
  frame_with index = go (row_refusal f t FrameStart 0 index) refl
    where
      go : (n : ℕ) → row_refusal f t FrameStart 0 index ≡ n → FrameApart f port (frame_row f s index) (frame_row f t index)
      go zero e =
          let r = reachable f t FrameStart 0 index e in
          let here : frame_row f s index ≡ frame_answer 0 (frame_at f s index) = rw (one_refusal FrameStart 0 index, e) in
          let there : frame_row f t index ≡ frame_answer 0 (frame_at f t index) = rw e in
          subst (λ (a : FrameRow). FrameApart f port a (frame_row f t index)) (sym here)
          (subst (λ (b : FrameRow). FrameApart f port (frame_answer 0 (frame_at f s index)) b) (sym there) (shown_with index r.row_in))
      go (suc n) e =
          let one : frame_row f s index ≡ frame_row f t index = rw (one_refusal FrameStart 0 index, e) in
          subst (λ (b : FrameRow). FrameApart f port (frame_row f s index) b) one (frame_same f port (frame_row f s index))

  -- runs of rows
  run_refusal_with : (number slot a b room : ℕ) → rows_run_refusal f s number slot a b room ≡ rows_run_refusal f t number slot a b room
  run_refusal_with number slot a b room = sym (run_judged f s number slot a b room 0 (sym x)) ∙ run_judged f t number slot a b room 0 (sym y)

  run_row_with : (family : Family) (slot index : ℕ) → slot < slot_blocks f family → index < rows_of f family → (of_players family ≡ true → slot_port f slot ≡ port → ⊥)
      → run_row f family (cells_of s.cells family) s.presence slot index ≡ run_row f family (cells_of t.cells family) s.presence slot index
  unfolding run_row
  run_row_with Pre slot index l m ne = ap (λ (c : List ℕ). c ++ keep true (mark_at f s.presence slot index ∷ [])) (tabulate_ext _ _ _ (λ k n. p.cell slot k index l n m (ne refl)))
  run_row_with Post slot index l m ne = ap (λ (c : List ℕ). c ++ keep true (mark_at f s.presence slot index ∷ [])) (tabulate_ext _ _ _ (λ k n. q.cell slot k index l n m (ne refl)))
  run_row_with FrameStart slot index l m ne = refl
  run_row_with Item slot index l m ne = refl
  run_row_with FrameEnd slot index l m ne = refl
  run_row_with FodPlatform slot index l m ne = refl
  run_row_with DreamlandWhispy slot index l m ne = refl
  run_row_with StadiumTransformation slot index l m ne = refl

  run_with : (number slot a b room : ℕ) → (of_players (family_at number) ≡ true → slot_port f slot ≡ port → ⊥) → rows_run_refusal f s number slot a b room ≡ 0
      → run_cells f s (family_at number) slot a b ≡ run_cells f t (family_at number) slot a b
  run_with number slot a b room ne e =
      let r = running f s number slot a b room e in
      ranged_same _ _ a (b - a) (λ i _ l. run_row_with (family_at number) slot i r.slot_in (omega (arith, r.inside, r.range, l)) ne)

-- two calls for a run that are refused alike, and show the same cells where they are not
run_outcome : {f h : Frames} {s t : Lent} (number slot a b : ℕ) {out first second : List ℕ} {q r : Run} → rows_run_refusal f s number slot a b (length out) ≡ rows_run_refusal h t number slot a b (length out)
    → run_length f (family_at number) a b ≡ run_length h (family_at number) a b
    → (rows_run_refusal f s number slot a b (length out) ≡ 0 → run_cells f s (family_at number) slot a b ≡ run_cells h t (family_at number) slot a b)
    → RowsOutcome f s number slot a b out q first → RowsOutcome h t number slot a b out r second → (q ≡ r) × (first ≡ second)
unfolding unless_refused
run_outcome {f} {h} {s} {t} number slot a b {out} {first} {second} e l same x y =
    (x.answer_is ∙ ap₂ run_answer e l ∙ sym y.answer_is, x.out_is ∙ go (rows_run_refusal f s number slot a b (length out)) refl ∙ sym y.out_is)
  where
    shown : ℕ → List ℕ → List ℕ
    shown n c = unless_refused n (splice out 0 c) out

    go : (n : ℕ) → rows_run_refusal f s number slot a b (length out) ≡ n
        → shown (rows_run_refusal f s number slot a b (length out)) (run_cells f s (family_at number) slot a b)
        ≡ shown (rows_run_refusal h t number slot a b (length out)) (run_cells h t (family_at number) slot a b)
    go zero z = ap₂ shown e (same z)
    go (suc n) z = rw (← e, z)

-- ---- for two games that the rows' judge accepts
pub rows_apart : {f h : Frames} {port : ℕ} {s t : Lent} → SamePlayers f h → CardApart f h port s t → lowest (refusals f s 0 0) ≡ 0 → lowest (refusals h t 0 0) ≡ 0 → RowsApart f h port s t
rows_apart {f} {h} {port} {s} {t} p a x y =
    let ps = h.ports in
    let pres = t.cells.pres in
    let posts = t.cells.posts in
    let bits = t.presence in
    let mid = with_players s pres posts in
    let sp = players_as p in
    let q : SamePresence f (with_ports f ps) mid.presence bits = presence_as p a.presence in
    let far : lowest (refusals (with_ports f ps) (with_presence mid bits) 0 0) ≡ 0 = ap₂ (λ (u : Frames) (l : Lent). lowest (refusals u l 0 0)) (ports_are p) (lent_is a) ∙ y in
    let near : lowest (refusals f mid 0 0) ≡ 0 = accepted_too f ps sp s (with_presence mid bits) 0 0 x far in
    let both : RowsApart f (with_ports f ps) port s (with_presence mid bits) = record {
      pre = λ slot index ne. pre_with f port s pres posts a.pres a.posts x near slot index ne ∙ pre_same f ps sp mid bits q near far slot index;
      post = λ slot index ne. post_with f port s pres posts a.pres a.posts x near slot index ne ∙ post_same f ps sp mid bits q near far slot index;
      item = λ index. ap (λ (n : ℕ). row_answer item_answer n (item_of (cells_at f Item s.cells.items 0 index) f.version) no_item) (one_refusal f port s pres posts a.pres a.posts x near Item 0 index) ∙ item_same f ps sp mid bits q near far index;
      fod_platform = λ index. ap (λ (n : ℕ). row_answer fod_platform_answer n (fod_platform_of (cells_at f FodPlatform s.cells.fods 0 index) f.version) no_fod_platform) (one_refusal f port s pres posts a.pres a.posts x near FodPlatform 0 index) ∙ fod_same f ps sp mid bits q near far index;
      dreamland_whispy =
          λ index. ap (λ (n : ℕ). row_answer dreamland_whispy_answer n (dreamland_whispy_of (cells_at f DreamlandWhispy s.cells.whispys 0 index) f.version) no_dreamland_whispy)
          (one_refusal f port s pres posts a.pres a.posts x near DreamlandWhispy 0 index) ∙ whispy_same f ps sp mid bits q near far index;
      stadium_transformation =
          λ index. ap
          (λ (n : ℕ). row_answer stadium_transformation_answer n (stadium_transformation_of (cells_at f StadiumTransformation s.cells.stadiums 0 index) f.version) no_stadium_transformation)
          (one_refusal f port s pres posts a.pres a.posts x near StadiumTransformation 0 index) ∙ stadium_same f ps sp mid bits q near far index;
      frame = λ index. subst (λ (r : FrameRow). FrameApart f port (frame_row f s index) r) (frame_row_same f ps sp mid bits q near far index) (frame_with f port s pres posts a.pres a.posts x near index);
      run = λ number slot i j ne {out} o1 o2.
          run_outcome number slot i j
          (run_refusal_with f port s pres posts a.pres a.posts x near number slot i j (length out) ∙ run_refusal_same f ps sp mid bits q near far number slot i j (length out)) refl
          (λ e. run_with f port s pres posts a.pres a.posts x near number slot i j (length out) ne e
          ∙ run_same f ps sp mid bits q near far number slot i j (length out) (sym (run_refusal_with f port s pres posts a.pres a.posts x near number slot i j (length out)) ∙ e)) o1 o2;
    } in
    subst (λ (u : Frames). RowsApart f u port s t) (ports_are p) (subst (λ (l : Lent). RowsApart f (with_ports f ps) port s l) (lent_is a) both)

-- ---- what the writer accepts, the rows' judge accepts

-- no bytes of codes and metadata are few enough, where some are
few_too : (f : Frames) (codes metadata : ℕ) → too_many f codes metadata ≡ false → too_many f 0 0 ≡ false
unfolding too_many
few_too f codes metadata e =
    let (frames, e1) = one_passed _ _ e in
    let (items, e2) = one_passed _ _ e1 in
    let (fods, e3) = one_passed _ _ e2 in
    let (whispys, e4) = one_passed _ _ e3 in
    let (stadiums, e5) = one_passed _ _ e4 in
    sym
    (one_skip _ _ _ frames
    (one_skip _ _ _ items
    (one_skip _ _ _ fods (one_skip _ _ _ whispys (one_skip _ _ _ stadiums (one_skip _ _ _ refl (one_skip _ _ _ refl one_none)))))))

pub rows_accepted : (g : Game) (s : Stores) → lowest (judged g s) ≡ 0 → lowest (refusals g.frames s.lent 0 0) ≡ 0
unfolding judged refusals
rows_accepted g s e =
    let a = given_bytes g.codes_given s.codes in
    let b = given_bytes g.metadata_given s.metadata in
    let (one, r1) = passed _ _ _ (lowest_first (refusals g.frames s.lent a b) _ e) in
    let (two, r2) = passed _ _ _ r1 in
    sym (skip 1 _ _ _ one (skip 2 _ _ _ (few_too g.frames a b two) (sym r2)))

-- for two games that the writer accepts
pub game_rows_apart : {g h : Game} {port : ℕ} {s t : Stores} → Agree g h port s t → lowest (judged g s) ≡ 0 → lowest (judged h t) ≡ 0
    → RowsApart g.frames h.frames port s.lent t.lent
game_rows_apart {g} {h} {port} {s} {t} a x y = rows_apart a.players a.lent (rows_accepted g s x) (rows_accepted h t y)

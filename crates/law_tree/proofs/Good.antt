-- The tree of an accepted game is well formed.
-- Assumes nothing.
use mathlib.Core.Path.{◌≡◌, refl, sym, subst, ◌∙◌}
use mathlib.Core.Bool.{Bool, true, false, not, ◌&&◌, ◌||◌}
use mathlib.Core.List.{List, [], ◌∷◌, ◌++◌, map}
use Prim.Native.Nat.{ℕ, zero, suc, ◌+◌, ◌-◌, ◌*◌, ◌/◌, ◌%◌, ◌^◌, ◌≤◌, ◌<◌}
use native.Mathlib.Omega.{arith}
use borrow.Author.Tests.{lt-ltb, le-ltb}
use lib.Dec.{eqb}
use lib.ListN.{length, get_or, take, drop, set, length-drop}
use lib.Seq.{length-take-le, take-set-le}
use Rattle.wire.specs.Wire.{be, splice, part, ranged, keep}
use Rattle.game.specs.declared.start.Seat.{Seat}
use Rattle.game.specs.declared.start.Match.{Match}
use Rattle.game.specs.declared.start.MatchTail.{MatchTail}
use Rattle.game.specs.declared.start.MatchTail.TheVariants.{Cleared, Kept}
use Rattle.game.specs.MatchTails.{match_tail_of}
use Rattle.game.specs.declared.start.Start.{Start}
use Rattle.start.specs.Gate.{reaches, ucf_from, tag_from, pal_from, frozen_from, scene_from, netplay_from, suid_from, language_from, match_from}
use Rattle.start.specs.declared.gate.Gate.{Gate}
use Rattle.start.specs.Block.{player_fields, port_fields, text_fields, seats_fields, mode_fields, match_tail, match_fields, game_fields, fields, start_block}
use Rattle.start.proofs.Lengths.{at_least}
use Rattle.start.proofs.Refusals.{block_fits}
use Rattle.start.proofs.Blocks.{length_start_block}
use Rattle.game.specs.Stores.{Lent, cells_of, Stores}
use Rattle.ser.specs.Write.{events}
use Rattle.game.specs.declared.Game.{Game}
use Rattle.ser.proofs.Outcomes.{Passed}
use Rattle.patch.specs.Patch.{Patch, patch, patched}
use Rattle.format.specs.Mark.{yes, no}
use Rattle.format.specs.Version.{gte_of, has_initiator}
use Rattle.format.specs.declared.version.Version.{Version}
use Rattle.format.proofs.Tests.{or_none}
use Rattle.layout.specs.Columns.{has_family, size_of, widths_of}
use Rattle.layout.specs.Payloads.{end_size}
use Rattle.layout.specs.declared.columns.Family.{Family}
use Rattle.layout.specs.declared.columns.Family.TheVariants.{Pre, Post, FrameStart, Item, FrameEnd, FodPlatform, DreamlandWhispy, StadiumTransformation}
use Rattle.record.proofs.Laws.{length_cells}
use Rattle.game.specs.Frames.{no_slot, no_port, slots_of, rows_of}
use Rattle.players.specs.Presence.{present_at}
use Rattle.frames.specs.Inner.{Ported}
use Rattle.game.specs.declared.frames.Frames.{Frames}
use Rattle.codes.specs.Blocks.{block_count, used}
use Rattle.ending.specs.End.{end_of, initiator_wrong, end_wrong}
use Rattle.game.specs.declared.end.End.{End}
use Rattle.ending.proofs.Lengths.{length_end}
use Rattle.codes.proofs.Laws.{right_codes}
use Rattle.grammar.proofs.Unique.{unique}
use Rattle.grammar.specs.Productions.{events_of, Player, Replay}
use Rattle.grammar.specs.WellFormed.{Each, Order, ascending, slot_of, may_precede, may_come, InOrder, GoodPlayer, GoodRow, GoodFrame, GoodCodes, WellFormed}
use Rattle.grammar.specs.Readable.{Changing, Alike, seat_type, Readable}
use Rattle.law_tree.specs.Tree.{bytes_of, rows_in, player_at, players_in, frame_of, shows, frames_of, blocks_of, end_bytes, ends_of, replay_of}
use Rattle.law_tree.proofs.Same.{same, map_ranged, map_keep, block_at}
use Rattle.grammar.proofs.Each.{each_both, each_ranged, each_keep, each_none, each_one, each_more, each_at}
use Rattle.law_tree.proofs.Lists.{chain_next, chain_far}
use Rattle.law_tree.proofs.Slots.{PortBefore, Next, Far, Small, number_of, in_order_lem, slots_small, slots_chained}
use Rattle.wire.proofs.Laws.{ranged_same}

may_first : (o : Order) (k : ℕ) → may_come o [] k ≡ true
unfolding may_come
may_first o k = refl

-- what is asked of a game's frames: the ports' order, and ids of four bytes, as their store holds them
pub record Placed (o : Order) (f : Frames) (lent : Lent) : Type 0 where
  pub ports : Ported f
  pub order : (j k : ℕ) → j < k → k < f.port_count → PortBefore o (get_or f.ports j no_port).port (get_or f.ports k no_port).port
  pub ids : (i : ℕ) → get_or lent.cells.ids i 0 < 2 ^ 32

somebody_there : (f : Frames) (lent : Lent) (i : ℕ) → shows f lent i ≡ true → has_family f.version FrameStart ≡ false → 0 < length (players_in f lent i)
unfolding shows
somebody_there f lent i = go (has_family f.version FrameStart) (players_in f lent i)
  where
    go : (b : Bool) (ps : List Player) → b || not (eqb (length ps) 0) ≡ true → b ≡ false → 0 < length ps
    go b (p ∷ ps) e q = omega arith
    go true [] e q = let z : ◌≡◌ {A = ℕ} 0 1 = cc in absurd (omega arith)
    go false [] e q = let z : ◌≡◌ {A = ℕ} 0 1 = cc in absurd (omega arith)

module _ (o : Order) (f : Frames) (lent : Lent) (h : Placed o f lent) where
  sized : (family : Family) (block row : ℕ) → length (bytes_of f lent family block row) ≡ size_of family f.version
  sized family block row = length_cells (widths_of family f.version) (cells_of lent.cells family) (rows_of f family) _

  rows_good : (family : Family) (i : ℕ) → Each (GoodRow f.version family) (rows_in f lent family i)
  unfolding rows_in
  rows_good family i =
      each_keep (GoodRow f.version family) (has_family f.version family) _
      (λ e. each_ranged (GoodRow f.version family) _ _ _ (λ j l m. each_one (GoodRow f.version family) (bytes_of f lent family 0 j) (record { has = e; size = sized family 0 j })))

  players_good : (i : ℕ) → Each (GoodPlayer f.version) (players_in f lent i)
  unfolding players_in
  players_good i =
      each_ranged (GoodPlayer f.version) _ 0 (length (slots_of f))
      (λ k l m. each_keep (GoodPlayer f.version) (present_at lent.presence (get_or (slots_of f) k no_slot) i) _
      (λ e. let small = each_at Small no_slot (slots_of f) (slots_small f h.ports) k (omega arith) in
      each_one (GoodPlayer f.version) (player_at f lent i k) (record { port = small.0; follower = small.1; pre = sized Pre k i; post = sized Post k i })))

  players_placed : (i : ℕ) → InOrder o [] (map slot_of (players_in f lent i))
  unfolding players_in
  players_placed i =
      let n = length (slots_of f) in
      let e =
      map_ranged slot_of _ 0 n
      ∙ ranged_same _ _ 0 n (λ k l m. map_keep slot_of (present_at lent.presence (get_or (slots_of f) k no_slot) i) (player_at f lent i k ∷ [])) in
      let chain = slots_chained f h.ports o h.order in
      subst (λ (l : List ℕ). InOrder o [] l) (sym e)
      (in_order_lem o (λ k. present_at lent.presence (get_or (slots_of f) k no_slot) i) (slots_of f) 0 n []
      (λ l. may_first o (number_of (get_or (slots_of f) 0 no_slot)))
      (λ k l m. each_none (λ j. may_precede o false j (number_of (get_or (slots_of f) k no_slot)) ≡ true))
      (λ k l. chain_next (Next o) (Far o) no_slot (slots_of f) chain k (omega arith))
      (λ j k l m. chain_far (Next o) (Far o) no_slot (slots_of f) chain j k l (omega arith)))

  frame_good : (i : ℕ) → shows f lent i ≡ true → GoodFrame f.version o (frame_of f lent i)
  frame_good i e = record {
    id = h.ids i;
    start = sized FrameStart 0 i;
    players = players_good i;
    slots = players_placed i;
    somebody = somebody_there f lent i e;
    fods = rows_good FodPlatform i;
    whispys = rows_good DreamlandWhispy i;
    stadiums = rows_good StadiumTransformation i;
    items = rows_good Item i;
    end = sized FrameEnd 0 i;
  }

  pub frames_good : Each (GoodFrame f.version o) (frames_of f lent)
  unfolding frames_of
  frames_good =
      each_ranged (GoodFrame f.version o) _ 0 f.counts.frames
      (λ i l m. each_keep (GoodFrame f.version o) (shows f lent i) _ (λ e. each_one (GoodFrame f.version o) (frame_of f lent i) (frame_good i e)))

-- ---- code blocks

module _ (v : Version) (codes : List ℕ) (actual : ℕ) (since : gte_of v 3 3 ≡ true) (whole : length codes ≡ 512 * block_count actual) where
  block_size : (b : ℕ) → b < block_count actual → length (part codes (512 * b) 512) ≡ 512
  unfolding part
  block_size b l = length-take-le 512 (drop (512 * b) codes) (omega (arith, length-drop (512 * b) codes))

  last_used : (b : ℕ) → b + 1 ≡ block_count actual → (0 < used actual b) × (used actual b ≤ 512)
  unfolding used block_count
  last_used b e = rw (le-ltb 512 (actual - 512 * b) (omega arith)) (omega arith, omega arith)

  full_used : (b : ℕ) → b + 1 < block_count actual → used actual b ≡ 512
  unfolding used block_count
  full_used b l = rw (lt-ltb 512 (actual - 512 * b) (omega arith))

  blocks_good : (i n : ℕ) → i + n ≡ block_count actual → GoodCodes v (ranged (λ b. block_at codes actual b ∷ []) i n)
  unfolding ranged GoodCodes
  blocks_good i zero e = tt
  blocks_good i (suc zero) e = let u = last_used i (omega arith) in (since, block_size i (omega arith), u.0, u.1)
  blocks_good i (suc (suc n)) e = (block_size i (omega arith), full_used i (omega arith), blocks_good (i + 1) (suc n) (omega arith))

pub codes_good : (v : Version) (given : Bool) (codes : List ℕ) (actual : ℕ) → (given ≡ true → (gte_of v 3 3 ≡ true) × (length codes ≡ 512 * block_count actual))
    → GoodCodes v (blocks_of given codes actual)
unfolding blocks_of keep GoodCodes
codes_good v true codes actual h = let (a, b) = h refl in blocks_good v codes actual a b 0 (block_count actual) (omega arith)
codes_good v false codes actual h = tt

-- ---- ends

abbrev Sized : Version → List ℕ → Type 0
Sized v bytes = length bytes ≡ end_size v

module _ (v : Version) (e : End) (double : ℕ) where
  -- what holds of an end that is given holds of all
  each_end : (P : List ℕ → Type 0) → (yes e.given ≡ true → P (end_bytes v e)) → Each P (ends_of v e double)
  unfolding ends_of
  each_end P h =
      each_keep P (yes e.given) _
      (λ g. each_more P (end_bytes v e) _ (h g) (each_keep P (yes double) _ (λ d. each_one P (end_bytes v e) (h g))))

  pub ends_sized : Each (Sized v) (ends_of v e double)
  unfolding end_of
  ends_sized = each_end (Sized v) (λ g. length_end v e)

  pub ends_alike : Alike (ends_of v e double)
  unfolding ends_of keep Alike
  ends_alike = go (yes e.given) (yes double)
    where
      go : (a b : Bool) → Alike (keep a (end_bytes v e ∷ keep b (end_bytes v e ∷ [])))
      go true true = (refl, tt)
      go true false = tt
      go false b = tt

  pub ends_by : end_wrong v e double ≡ false → has_initiator v ≡ true → Each (λ bytes. initiator_wrong (get_or bytes 1 0) ≡ false) (ends_of v e double)
  unfolding end_wrong keep
  ends_by right q =
      each_end (λ bytes. initiator_wrong (get_or bytes 1 0) ≡ false)
      (λ g. let r = (or_none (yes double && no e.given) (yes e.given && (has_initiator v && initiator_wrong e.initiator)) right).1 in rw q (rw (g, q) at r))

pub ends_few : (v : Version) (e : End) (double : ℕ) → length (ends_of v e double) ≤ 2
unfolding ends_of keep
ends_few v e double = go (yes e.given) (yes double)
  where
    go : (a b : Bool) → length (keep a (end_bytes v e ∷ keep b (end_bytes v e ∷ []))) ≤ 2
    go true true = omega arith
    go true false = omega arith
    go false b = omega arith

-- ---- the version in the block: what is patched behind it does not touch it

take_splice : (n : ℕ) (xs : List ℕ) (at : ℕ) (ys : List ℕ) → n ≤ at → take n (splice xs at ys) ≡ take n xs
unfolding splice
take_splice n xs at [] h = refl
take_splice n xs at (y ∷ ys) h = take_splice n (set xs at y) (suc at) ys (omega arith) ∙ take-set-le n xs at y h

abbrev Behind : Patch → Type 0
Behind p = 3 ≤ p.offset

behind : (t : List ℕ) (ps : List Patch) → Each Behind ps → take 3 (patched t ps) ≡ take 3 t
unfolding patched Each
behind t [] h = refl
behind t (p ∷ ps) h = behind (splice t p.offset p.bytes) ps h.1 ∙ take_splice 3 t p.offset p.bytes h.0

behind_field : (v : Version) (g : Gate) (at : ℕ) (bytes : List ℕ) → 3 ≤ at → Each Behind (keep (reaches v g) (patch at bytes ∷ []))
behind_field v g at bytes h = each_keep Behind (reaches v g) _ (λ e. each_one Behind (patch at bytes) h)

behind_player : (at : ℕ) (p : Seat) → 3 ≤ at → Each Behind (player_fields at p)
unfolding player_fields Each
behind_player at p h = omega arith

behind_port : (v : Version) (n : ℕ) (p : Seat) → Each Behind (port_fields v n p)
unfolding port_fields text_fields
behind_port v n p =
    each_both Behind _ _ (behind_player (100 + 36 * n) p (omega arith))
    (each_both Behind _ _ (behind_field v ucf_from (320 + 8 * n) _ (omega arith))
    (each_both Behind _ _ (behind_field v ucf_from (324 + 8 * n) _ (omega arith))
    (each_both Behind _ _ (behind_field v tag_from (352 + 16 * n) _ (omega arith))
    (each_both Behind _ _ (behind_field v netplay_from (420 + 31 * n) _ (omega arith))
    (each_both Behind _ _ (behind_field v netplay_from (544 + 10 * n) _ (omega arith))
    (behind_field v suid_from (584 + 29 * n) _ (omega arith)))))))

behind_seats : (v : Version) (n : ℕ) (ps : List Seat) → Each Behind (seats_fields v n ps)
unfolding seats_fields
behind_seats v n [] = each_none Behind
behind_seats v n (p ∷ ps) = each_both Behind _ _ (each_keep Behind (yes p.given) _ (λ e. behind_port v n p)) (behind_seats v (n + 1) ps)

behind_tail : (t : MatchTail) (n : ℕ) → Behind (match_tail t n)
behind_tail Cleared n = omega arith
behind_tail Kept n = omega arith

behind_match : (v : Version) (m : Match) → Each Behind (match_fields v m)
unfolding match_fields Each
behind_match v m = each_keep Behind (reaches v match_from) _ (λ e. omega (arith, behind_tail (match_tail_of m.tail) m.id.len))

behind_game : (v : Version) (s : Start) → Each Behind (drop 3 (game_fields v s))
unfolding game_fields Each
behind_game v s = omega arith

behind_modes : (v : Version) (s : Start) → Each Behind (mode_fields v s ++ match_fields v s.match_info)
unfolding mode_fields
behind_modes v s =
    each_both Behind _ _
    (each_both Behind _ _ (behind_field v pal_from 416 _ (omega arith))
    (each_both Behind _ _ (behind_field v frozen_from 417 _ (omega arith))
    (each_both Behind _ _ (behind_field v scene_from 418 _ (omega arith))
    (each_both Behind _ _ (behind_field v scene_from 419 _ (omega arith))
    (behind_field v language_from 700 _ (omega arith))))))
    (behind_match v s.match_info)

-- bytes, as a version's numbers are
pub record Bytes (v : Version) : Type 0 where
  pub major : v.major < 256
  pub minor : v.minor < 256
  pub patch : v.patch < 256

first_three : (x y z : ℕ) (t : List ℕ) → x < 256 → y < 256 → z < 256 → 3 ≤ length t
    → take 3 (splice (splice (splice t 0 (be 1 x)) 1 (be 1 y)) 2 (be 1 z)) ≡ x ∷ y ∷ z ∷ []
unfolding splice be
first_three x y z [] h k l n = absurd (omega arith)
first_three x y z (a ∷ []) h k l n = absurd (omega arith)
first_three x y z (a ∷ b ∷ []) h k l n = absurd (omega arith)
first_three x y z (a ∷ b ∷ c ∷ t) h k l n =
    let p : x / 256 ^ 0 % 256 ≡ x = omega arith in
    let q : y / 256 ^ 0 % 256 ≡ y = omega arith in
    let r : z / 256 ^ 0 % 256 ≡ z = omega arith in
    λ i. p i ∷ q i ∷ r i ∷ []

pub version_first : (v : Version) (s : Start) (t : List ℕ) → Bytes v → 3 ≤ length t → take 3 (start_block v s t) ≡ v.major ∷ v.minor ∷ v.patch ∷ []
unfolding start_block fields game_fields patched
version_first v s t b h =
    behind _ _ (each_both Behind (drop 3 (game_fields v s)) _ (behind_game v s) (each_both Behind _ _ (behind_seats v 0 s.seats) (behind_modes v s)))
    ∙ first_three v.major v.minor v.patch t b.major b.minor b.patch h

-- ---- the whole game

pub record Taken (o : Order) (g : Game) (s : Stores) : Type 0 where
  pub passed : Passed g s
  pub end : end_wrong g.frames.version g.end g.double_end ≡ false
  pub order : (j k : ℕ) → j < k → k < g.frames.port_count → PortBefore o (get_or g.frames.ports j no_port).port (get_or g.frames.ports k no_port).port
  pub ids : (i : ℕ) → get_or s.lent.cells.ids i 0 < 2 ^ 32
  pub bytes : Bytes g.frames.version

pub good : (o : Order) (g : Game) (s : Stores) → Taken o g s → WellFormed g.frames.version o (replay_of g s)
unfolding replay_of
good o g s t =
    let v = g.frames.version in
    let (fits, short) = block_fits v (length s.template) t.passed.block in
    let same = length_start_block v g.start s.template in
    record {
      version = version_first v g.start s.template t.bytes (omega (arith, at_least v));
      block = omega arith;
      short = omega arith;
      codes = codes_good v (yes g.codes_given) s.codes g.actual_size (λ e. right_codes v (yes g.codes_given) s.codes g.actual_size t.passed.coded e);
      frames = frames_good o g.frames s.lent (record { ports = t.passed.frames.ports; order = t.order; ids = t.ids });
      few = ends_few v g.end g.double_end;
      ends = ends_sized v g.end g.double_end;
    }

-- every accepted game's events come from a well-formed replay, and from no other
pub from_tree : (o : Order) (g : Game) (s : Stores) → Taken o g s → (r : Replay) → WellFormed g.frames.version o r → events_of g.frames.version r ≡ events g s
    → r ≡ replay_of g s
from_tree o g s t r h e = unique g.frames.version o o r (replay_of g s) h (good o g s t) (e ∙ same g s)

-- and where its ports ascend, its ids change before 2.2, and its block's seat types go to 3, it can be read back
pub readable : (g : Game) (s : Stores) → Taken ascending g s
    → (has_family g.frames.version FrameStart ≡ false → Changing (frames_of g.frames s.lent))
    → ((n : ℕ) → n < 4 → seat_type (start_block g.frames.version g.start s.template) n ≤ 3)
    → Readable g.frames.version (replay_of g s)
unfolding replay_of
readable g s t changing seats = record {
  well = good ascending g s t;
  changing = changing;
  seats = seats;
  alike = ends_alike g.frames.version g.end g.double_end;
  initiators = ends_by g.frames.version g.end g.double_end t.end;
}

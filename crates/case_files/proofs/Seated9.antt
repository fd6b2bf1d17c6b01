-- The game of case 9 with a template whose four seats are of type 3, that is empty, as those of its start are: an admitted game, of which the theorem says that all comes
-- back, and that it is the same file when it is saved again.
-- Assumes nothing.
use Prim.Native.Nat.{ℕ, zero, suc, ◌+◌, ◌*◌, ◌^◌, ◌<◌}
use mathlib.Core.Path.{◌≡◌, refl, sym, ◌∙◌}
use mathlib.Core.Bool.{false}
use mathlib.Core.List.{List, [], ◌∷◌, ◌++◌}
use native.Mathlib.Omega.{arith}
use borrow.Author.Tests.{le-ltb}
use lib.Dec.{lit<}
use lib.ListN.{length, get_or, replicate}
use Rattle.wire.specs.Wire.{be, ranged, keep, tabulate}
use Rattle.format.specs.File.{entries_bytes, table_bytes}
use Rattle.format.specs.Mark.{yes}
use Rattle.format.specs.Refusal.{lowest}
use Rattle.format.specs.Version.{above, gte_of}
use Rattle.format.proofs.Refusals.{skip, none, lowest_after, lowest_first}
use Rattle.layout.specs.Columns.{has_family, columns_of, chosen, sum}
use Rattle.layout.specs.Payloads.{end_size, listed, payload_size, entries_of}
use Rattle.game.specs.Frames.{ports_of, port_slots, port_bytes, slots_from, slots_of}
use Rattle.game.specs.Stores.{Stores, stores}
use Rattle.game.specs.Zero.{no_text, no_seat}
use Rattle.game.specs.declared.Game.{Game}
use Rattle.players.specs.Presence.{marked, count_from, players_present}
use Rattle.read_start.specs.Start.{byte_at}
use Rattle.law_start.specs.Declared.{BytesDeclared, TextDeclared, SeatDeclared, Declared}
use Rattle.law_start.proofs.Small.{no_bytes, one_more, append_bytes}
use Rattle.codes.specs.Blocks.{block_count}
use Rattle.events.specs.Length.{frames_length}
use Rattle.ser.specs.Write.{file, judged, refusal}
use Rattle.ser.specs.Length.{raw_length}
use Rattle.ser.proofs.Outcomes.{passes, numbered_eleven}
use Rattle.grammar.specs.Productions.{Replay}
use Rattle.law_tree.specs.Tree.{replay_of}
use Rattle.measure.specs.Game.{game_read}
use Rattle.law_saved.specs.Admitted.{Admitted}
use Rattle.law_saved.specs.Again.{stores_read}
use Rattle.law_saved.specs.Returned.{GameReturned}
use Rattle.law_saved.proofs.Returned as back
use Rattle.law_saved.proofs.Again as again
use Rattle.case_table.specs.Games.{plain_start, one_frame}
use Rattle.case_table.specs.Table.{coded}
use Rattle.case_table.proofs.Computed.{total_of_lem}
use Rattle.case_files.proofs.Files.{seated}
use Rattle.case_files.proofs.Case9.{codes}
use Rattle.case_files.proofs.Case9 as case9

abbrev template : List ℕ
template = seated 0 0 0 3 ++ replicate 440 0

abbrev g : Game
g = coded 65536

abbrev s : Stores
s = stores (one_frame codes).lent template codes []

-- ---- it is accepted: of the template the judge asks its length alone

judged_zero : lowest (judged g s) ≡ 0
unfolding judged refusal
judged_zero = lowest_first (judged g (one_frame codes)) _ case9.accepted

-- the length by its formula over counts
length_is : length (file g s) ≡ 67172
unfolding raw_length frames_length tabulate ranged keep sum chosen columns_of has_family listed payload_size entries_of end_size above gte_of block_count be entries_bytes table_bytes slots_of slots_from ports_of port_slots port_bytes marked count_from players_present
length_is = total_of_lem (passes g s judged_zero)

accepted : refusal g s 67172 ≡ 0
unfolding refusal
accepted =
    lowest_after (judged g s) _ (numbered_eleven g s) judged_zero
    ∙ sym (skip _ _ _ _ (le-ltb 67172 (length (file g s)) (omega (arith, length_is))) none)

-- ---- its numbers are as wide as their types say

zeros : (n : ℕ) → BytesDeclared (replicate n 0)
zeros zero = no_bytes
zeros (suc n) = one_more 0 (replicate n 0) (lit< tt) (zeros n)

three_more : (n : ℕ) (xs : List ℕ) → BytesDeclared xs → BytesDeclared (replicate n 0 ++ (3 ∷ xs))
three_more n xs b = append_bytes (replicate n 0) (3 ∷ xs) (zeros n) (one_more 3 xs (lit< tt) b)

template_bytes : BytesDeclared template
template_bytes =
    append_bytes (seated 0 0 0 3) (replicate 440 0)
    (append_bytes (replicate 3 0) _ (zeros 3) (three_more 98 _ (three_more 35 _ (three_more 35 _ (three_more 35 _ (zeros 110)))))) (zeros 440)

no_text_lem : TextDeclared no_text
no_text_lem = record { long = refl; small = zeros 50 }

no_seat_lem : SeatDeclared no_seat
no_seat_lem = record {
  character = lit< tt;
  kind = lit< tt;
  stocks = lit< tt;
  costume = lit< tt;
  color = lit< tt;
  shade = lit< tt;
  handicap = lit< tt;
  bitfield = lit< tt;
  level = lit< tt;
  start = lit< tt;
  spawn = lit< tt;
  offense = lit< tt;
  defense = lit< tt;
  scale = lit< tt;
  dash = lit< tt;
  drop = lit< tt;
  tag = no_text_lem;
  name = no_text_lem;
  code = no_text_lem;
  suid = no_text_lem;
}

each_seat : (n : ℕ) → n < 4 → SeatDeclared (get_or (replicate 4 no_seat) n no_seat)
each_seat zero h = no_seat_lem
each_seat (suc zero) h = no_seat_lem
each_seat (suc (suc zero)) h = no_seat_lem
each_seat (suc (suc (suc zero))) h = no_seat_lem
each_seat (suc (suc (suc (suc n)))) h = absurd (omega arith)

start : Declared plain_start
start = record {
  four = refl;
  bits = zeros 4;
  frequency = lit< tt;
  score = lit< tt;
  stage = lit< tt;
  timer = lit< tt;
  five = refl;
  items = zeros 5;
  ratio = lit< tt;
  seats = refl;
  each = each_seat;
  seed = lit< tt;
  minor = lit< tt;
  major = lit< tt;
  language = lit< tt;
  id = no_text_lem;
  game = lit< tt;
  tiebreaker = lit< tt;
}

ids : (i : ℕ) → get_or (replicate 1 0) i 0 < 2 ^ 32
ids zero = lit< tt
ids (suc i) = lit< tt

empty : (n : ℕ) → n < 4 → byte_at template (101 + 36 * n) ≡ 3
empty zero h = refl
empty (suc zero) h = refl
empty (suc (suc zero)) h = refl
empty (suc (suc (suc zero))) h = refl
empty (suc (suc (suc (suc n)))) h = absurd (omega arith)

-- there is one port
one_port : (j k : ℕ) → j < k → k < 1 → ⊥
one_port j k h l = omega arith

pub admitted : Admitted g s
unfolding has_family gte_of above
admitted = record {
  room = 67172;
  accepted = accepted;
  major = lit< tt;
  minor = lit< tt;
  patch = lit< tt;
  ids = ids;
  start = start;
  template = template_bytes;
  order = λ j k l m. absurd (one_port j k l m);
  empty = λ n h e. empty n h;
  changing = λ e. let z : ◌≡◌ {A = ℕ} 0 1 = cc in absurd (omega arith);
  somebody = λ e. let z : ◌≡◌ {A = ℕ} 0 1 = cc in absurd (omega arith);
}

nobody : (n : ℕ) → n < 4 → yes (get_or (replicate 4 no_seat) n no_seat).given ≡ false
nobody zero h = refl
nobody (suc zero) h = refl
nobody (suc (suc zero)) h = refl
nobody (suc (suc (suc zero))) h = refl
nobody (suc (suc (suc (suc n)))) h = absurd (omega arith)

-- ---- what the theorem says of it

abbrev f : List ℕ
f = file g s

abbrev tree : Replay
tree = replay_of g s

-- all comes back
returned : GameReturned g s (game_read f tree) (stores_read f tree)
returned = back.returned admitted

-- its four seats as nobody
seats_back : (n : ℕ) → n < 4 → get_or (game_read f tree).start.seats n no_seat ≡ no_seat
seats_back n h = returned.start.absent n h (nobody n h)

-- the codes and their size
codes_back : (stores_read f tree).codes ≡ codes
unfolding keep
codes_back = returned.codes

size_back : (game_read f tree).actual_size ≡ 65536
size_back = returned.actual_size

-- and written again it is the same file
game_back_lem : file (game_read f tree) (stores_read f tree) ≡ f
game_back_lem = again.game_back_lem admitted

-- Small replays of version 0.1.0: which are well formed and can be read back, and what the machine takes and refuses.
-- Assumes nothing.
use mathlib.Core.Path.{◌≡◌, refl}
use mathlib.Core.List.{List, [], ◌∷◌, head-eq_of_cons-eq}
use mathlib.Core.Option.{Option, none, some}
use Prim.Native.Nat.{ℕ, zero, suc, ◌^◌, ◌≤◌, ◌<◌}
use native.Mathlib.Omega.{arith}
use lib.Dec.{lit<, lit≤}
use lib.ListN.{replicate}
use Rattle.wire.specs.Wire.{be, more}
use Rattle.format.specs.File.{Ev}
use Rattle.format.specs.Version.{version, above, gte_of}
use Rattle.layout.specs.Columns.{has_family, columns_of, chosen, sum}
use Rattle.layout.specs.Payloads.{end_size}
use Rattle.layout.specs.declared.columns.Family.TheVariants.{Pre, Post, FrameStart}
use Rattle.start.specs.Length.{length_of, reached}
use Rattle.grammar.specs.Productions.{Player, Frame, Replay, row_event, end_event}
use Rattle.grammar.specs.WellFormed.{Each, ascending, anyhow, nobody, may_precede, may_come, InOrder, GoodPlayer, GoodFrame, GoodCodes, WellFormed}
use Rattle.grammar.specs.Readable.{Changing, Alike, seat_type, Readable}
use Rattle.grammar.specs.Machine.{family_of, initial, is_next, closed, in_frame, player, orderly, allowed, due_after, on_family, rest}

abbrev pre : ℕ → ℕ → ℕ → Ev
pre id port follower = row_event Pre id (port ∷ follower ∷ replicate 52 0)

abbrev post : ℕ → ℕ → ℕ → Ev
post id port follower = row_event Post id (port ∷ follower ∷ replicate 27 0)

abbrev over : Ev
over = end_event (0 ∷ [])

-- 0.1.0, ports in any order
abbrev old : List Ev → Option (List Ev)
old es = rest (version 0 1 0) anyhow initial es

-- 0.1.0, ports ascending
abbrev rising : List Ev → Option (List Ev)
rising es = rest (version 0 1 0) ascending initial es

two_frames : old (pre 5 0 0 ∷ pre 5 1 0 ∷ post 5 0 0 ∷ post 5 1 0 ∷ pre 6 0 0 ∷ post 6 0 0 ∷ over ∷ []) ≡ some (over ∷ [])
unfolding rest on_family family_of allowed orderly closed in_frame player nobody is_next due_after may_come may_precede has_family gte_of above columns_of chosen sum be more
two_frames = refl

same_id_again : old (pre 5 0 0 ∷ post 5 0 0 ∷ pre 5 0 0 ∷ post 5 0 0 ∷ []) ≡ some []
unfolding rest on_family family_of allowed orderly closed in_frame player nobody is_next due_after may_come may_precede has_family gte_of above columns_of chosen sum be more
same_id_again = refl

any_order : old (pre 5 3 0 ∷ pre 5 0 0 ∷ pre 5 0 1 ∷ post 5 3 0 ∷ post 5 0 0 ∷ post 5 0 1 ∷ []) ≡ some []
unfolding rest on_family family_of allowed orderly closed in_frame player nobody is_next due_after may_come may_precede has_family gte_of above columns_of chosen sum be more
any_order = refl

not_rising : rising (pre 5 3 0 ∷ pre 5 0 0 ∷ post 5 3 0 ∷ post 5 0 0 ∷ []) ≡ none
unfolding rest on_family family_of allowed orderly closed in_frame player nobody is_next due_after may_come may_precede has_family gte_of above columns_of chosen sum be more
not_rising = refl

follower_first : old (pre 5 0 1 ∷ pre 5 0 0 ∷ post 5 0 1 ∷ post 5 0 0 ∷ []) ≡ none
unfolding rest on_family family_of allowed orderly closed in_frame player nobody is_next due_after may_come may_precede has_family gte_of above columns_of chosen sum be more
follower_first = refl

no_post_lem : old (pre 5 0 0 ∷ over ∷ []) ≡ none
unfolding rest on_family family_of allowed orderly closed in_frame player nobody is_next due_after may_come may_precede has_family gte_of above columns_of chosen sum be more
no_post_lem = refl

other_id : old (pre 5 0 0 ∷ post 6 0 0 ∷ []) ≡ none
unfolding rest on_family family_of allowed orderly closed in_frame player nobody is_next due_after may_come may_precede has_family gte_of above columns_of chosen sum be more
other_id = refl

start_too_early : old (row_event FrameStart 5 (0 ∷ 0 ∷ 0 ∷ 0 ∷ []) ∷ []) ≡ none
unfolding rest on_family family_of allowed orderly closed in_frame player nobody is_next due_after may_come may_precede has_family gte_of above columns_of chosen sum be more
start_too_early = refl

follower_apart : old (pre 5 0 0 ∷ pre 5 1 0 ∷ pre 5 0 1 ∷ post 5 0 0 ∷ post 5 1 0 ∷ post 5 0 1 ∷ []) ≡ none
unfolding rest on_family family_of allowed orderly closed in_frame player nobody is_next due_after may_come may_precede has_family gte_of above columns_of chosen sum be more
follower_apart = refl

follower_alone : old (pre 5 1 0 ∷ pre 5 0 1 ∷ post 5 1 0 ∷ post 5 0 1 ∷ []) ≡ some []
unfolding rest on_family family_of allowed orderly closed in_frame player nobody is_next due_after may_come may_precede has_family gte_of above columns_of chosen sum be more
follower_alone = refl

twice : old (pre 5 0 0 ∷ pre 5 0 0 ∷ post 5 0 0 ∷ post 5 0 0 ∷ []) ≡ none
unfolding rest on_family family_of allowed orderly closed in_frame player nobody is_next due_after may_come may_precede has_family gte_of above columns_of chosen sum be more
twice = refl

-- ---- replays

abbrev one : Player
one = record { port = 0; follower = 0; pre = replicate 52 0; post = replicate 27 0 }

abbrev frame : ℕ → Frame
frame id = record { id = id; start = []; players = one ∷ []; fods = []; whispys = []; stadiums = []; items = []; end = [] }

abbrev replay : List Frame → List (List ℕ) → Replay
replay frames ends = record { block = 0 ∷ 1 ∷ 0 ∷ replicate 317 0; codes = []; frames = frames; ends = ends }

good_one : GoodPlayer (version 0 1 0) one
unfolding gte_of above columns_of chosen sum
good_one = record { port = lit≤ tt; follower = lit≤ tt; pre = refl; post = refl }

good_frame : (id : ℕ) → id < 2 ^ 32 → GoodFrame (version 0 1 0) ascending (frame id)
unfolding Each InOrder may_come gte_of above columns_of chosen sum
good_frame id h = record {
  id = h;
  start = refl;
  players = (good_one, tt);
  slots = (refl, tt);
  somebody = λ e. lit< tt;
  fods = tt;
  whispys = tt;
  stadiums = tt;
  items = tt;
  end = refl;
}

-- two frames and two ends
abbrev twice_two : ℕ → ℕ → ℕ → ℕ → Replay
twice_two a b m n = replay (frame a ∷ frame b ∷ []) ((m ∷ []) ∷ (n ∷ []) ∷ [])

well : (a b m n : ℕ) → a < 2 ^ 32 → b < 2 ^ 32 → WellFormed (version 0 1 0) ascending (twice_two a b m n)
unfolding Each GoodCodes length_of reached end_size gte_of above
well a b m n h k = record {
  version = refl;
  block = lit≤ tt;
  short = lit< tt;
  codes = tt;
  frames = (good_frame a h, (good_frame b k, tt));
  few = lit≤ tt;
  ends = (refl, (refl, tt));
}

seats : (n : ℕ) → n < 4 → seat_type (twice_two 5 6 0 0).block n ≤ 3
seats zero h = lit≤ tt
seats (suc zero) h = lit≤ tt
seats (suc (suc zero)) h = lit≤ tt
seats (suc (suc (suc zero))) h = lit≤ tt
seats (suc (suc (suc (suc n)))) h = absurd (omega arith)

can_be_read : Readable (version 0 1 0) (twice_two 5 6 0 0)
unfolding Changing Alike gte_of above
can_be_read = record {
  well = well 5 6 0 0 (lit< tt) (lit< tt);
  changing = λ e. (λ x. omega arith, tt);
  seats = seats;
  alike = (refl, tt);
  initiators = λ e. let z : ◌≡◌ {A = ℕ} 0 1 = cc in absurd (omega arith);
}

-- well formed, but not to be read back: an id twice before 2.2; ends unlike
same_id : Readable (version 0 1 0) (twice_two 5 5 0 0) → ⊥
unfolding Changing has_family gte_of above
same_id h = (h.changing refl).0 refl

unlike_ends : Readable (version 0 1 0) (twice_two 5 6 0 1) → ⊥
unfolding Alike
unlike_ends h = let e : ◌≡◌ {A = ℕ} 0 1 = head-eq_of_cons-eq h.alike.0 in omega arith

-- The length field always fits its four bytes.
-- Assumes nothing.
use mathlib.Core.Path.{◌≡◌, refl}
use mathlib.Core.Bool.{Bool, true, false, cond}
use mathlib.Core.List.{List, [], ◌∷◌, map}
use Prim.Native.Nat.{ℕ, ◌+◌, ◌*◌, ◌≤◌, ◌<◌}
use native.Mathlib.Nat.{mul-le-mul}
use native.Mathlib.Omega.{arith}
use lib.Dec.{lit≤}
use lib.ListN.{length}
use Rattle.format.specs.declared.version.Version.{Version}
use Rattle.layout.specs.Columns.{chosen, columns_of, sum, has_family}
use Rattle.layout.proofs.Laws.{each}
use Rattle.layout.specs.Payloads.{head_size, record_size, end_size, entries_of}
use Rattle.layout.specs.declared.columns.Column.{Column}
use Rattle.layout.specs.declared.columns.Family.{Family}
use Rattle.layout.specs.declared.columns.Family.TheVariants.{Pre, Post, FrameStart, Item, FrameEnd, FodPlatform, DreamlandWhispy, StadiumTransformation}
use Rattle.events.specs.Length.{event_size, frames_length}
use Rattle.format.specs.Mark.{yes}
use Rattle.format.specs.Version.{gte_of}
use Rattle.format.specs.File.{table_bytes}
use Rattle.format.proofs.Files.{length_table}
use Rattle.layout.proofs.Entries.{few_entries}
use Rattle.game.specs.Frames.{slots_of}
use Rattle.players.specs.Presence.{players_present}
use Rattle.players.specs.Inner.{Modest}
use Rattle.game.specs.declared.frames.Frames.{Frames}
use Rattle.codes.specs.Blocks.{block_count}
use Rattle.ending.specs.Inner.{end_count}
use Rattle.game.specs.declared.Game.{Game}
use Rattle.ser.specs.Length.{raw_length}

-- what a version has of a list's widths is no more than all of them
sum_chosen : (p : Column → Bool) (cs : List Column) → sum (chosen p (λ c. c.width) cs) ≤ sum (map (λ (c : Column). c.width) cs)
unfolding chosen sum
sum_chosen p [] = lit≤ tt
sum_chosen p (c ∷ cs) = go (p c) refl (sum_chosen p cs)
  where
    go : (b : Bool) → p c ≡ b → sum (chosen p (λ x. x.width) cs) ≤ sum (map (λ (x : Column). x.width) cs) → sum (chosen p (λ x. x.width) (c ∷ cs)) ≤ sum (map (λ (x : Column). x.width) (c ∷ cs))
    go true e h = rw e (omega arith)
    go false e h = rw e (omega arith)

-- a record with its code, in the version that has the most columns
abbrev most : Family → ℕ
most Pre = 67
most Post = 85
most FrameStart = 13
most Item = 45
most FrameEnd = 9
most FodPlatform = 10
most DreamlandWhispy = 6
most StadiumTransformation = 9

all_widths : (f : Family) → 1 + (head_size f + sum (map (λ (c : Column). c.width) (columns_of f))) ≡ most f
unfolding columns_of sum
all_widths = each (λ (f : Family). 1 + (head_size f + sum (map (λ (c : Column). c.width) (columns_of f))) ≡ most f) (refl, refl, refl, refl, refl, refl, refl, refl)

pub at_most : (v : Version) (f : Family) → 1 + record_size f v ≤ most f
at_most v f = let h = sum_chosen (λ (c : Column). gte_of v c.major c.minor) (columns_of f) in let e = all_widths f in omega arith

-- n records of a family take at most so many bytes
records_most : (v : Version) (f : Family) (n m : ℕ) → n ≤ m → n * event_size v f ≤ m * most f
records_most v f n m h = mul-le-mul h (go (has_family v f))
  where
    go : (b : Bool) → cond b (1 + record_size f v) 0 ≤ most f
    go true = at_most v f
    go false = omega arith

frames_most : (f : Frames) (bits : List ℕ) → Modest f → players_present bits (slots_of f) f.counts.frames ≤ 8388608 → frames_length f bits ≤ 1600000000
unfolding frames_length
frames_most f bits m p =
    let v = f.version in
    omega (
      arith,
      records_most v FrameStart f.counts.frames 1048576 m.frames,
      mul-le-mul p (at_most v Pre),
      records_most v FodPlatform f.counts.fods 1048576 m.fods,
      records_most v DreamlandWhispy f.counts.whispys 1048576 m.whispys,
      records_most v StadiumTransformation f.counts.stadiums 1048576 m.stadiums,
      records_most v Item f.counts.items 4194304 m.items,
      mul-le-mul p (at_most v Post),
      records_most v FrameEnd f.counts.frames 1048576 m.frames,
    )

pub raw_small : (g : Game) (bits : List ℕ) (block : ℕ) → Modest g.frames → players_present bits (slots_of g.frames) g.frames.counts.frames ≤ 8388608
    → block ≤ 65535 → (yes g.codes_given ≡ true → block_count g.actual_size ≤ 32768) → raw_length g bits block < 4294967296
unfolding raw_length end_size
raw_small g bits block m p h c =
    let v = g.frames.version in
    let t = entries_of v block (yes g.codes_given) g.actual_size in
    let table : length (table_bytes t) ≤ 38 = omega (arith, length_table t, few_entries v block (yes g.codes_given) g.actual_size) in
    let ends : end_count g.end g.double_end * (1 + end_size v) ≤ 14 = mul-le-mul (two (yes g.end.given) (yes g.double_end)) (six (gte_of v 3 13) (gte_of v 2 0)) in
    omega (arith, frames_most g.frames bits m p, blocks (yes g.codes_given) c)
  where
    two : (a b : Bool) → cond a (cond b 2 1) 0 ≤ 2
    two true true = lit≤ tt
    two true false = lit≤ tt
    two false b = lit≤ tt

    blocks : (b : Bool) → (b ≡ true → block_count g.actual_size ≤ 32768) → cond b (block_count g.actual_size * 517) 0 ≤ 16941056
    blocks true e = let k = e refl in omega arith
    blocks false e = lit≤ tt

    six : (a b : Bool) → 1 + cond a 6 (cond b 2 1) ≤ 7
    six true b = lit≤ tt
    six false true = lit≤ tt
    six false false = lit≤ tt

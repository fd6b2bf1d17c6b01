-- Ascending ports are ports in order: a replay that can be read back into columns is well formed with ports in any order, too.
-- Assumes nothing.
use mathlib.Core.Path.{◌≡◌, refl}
use mathlib.Core.Bool.{true, not, ◌&&◌}
use mathlib.Core.List.{List, [], ◌∷◌, ◌++◌, map}
use Prim.Native.Nat.{ℕ, ◌/◌, ◌<◌}
use native.Mathlib.Omega.{arith}
use borrow.Author.Tests.{ltb-true, ne_eqb}
use lib.Dec.{ltb, eqb}
use Rattle.format.specs.declared.version.Version.{Version}
use Rattle.grammar.specs.Productions.{Frame, Replay}
use Rattle.grammar.specs.WellFormed.{Each, ascending, anyhow, slot_of, nobody, may_precede, may_come, InOrder, GoodFrame, WellFormed}
use Rattle.grammar.proofs.Each.{each_both, each_one, each_so}
use Rattle.grammar.proofs.Tests.{both, or_true}

-- each is below those after it
unfoldable Rising : List ℕ → Type 0
Rising [] = Unit {0}
Rising (j ∷ js) = Each (λ k. j < k) js × Rising js

rising_more : (seen : List ℕ) (k : ℕ) → Rising seen → may_come ascending seen k ≡ true → Rising (seen ++ (k ∷ []))
unfolding Rising may_come may_precede Each
rising_more [] k h m = (tt, tt)
rising_more (j ∷ js) k h m =
    let (a, b) = both (ltb j k) (may_come ascending js k) m in
    (each_both (λ k. j < k) js (k ∷ []) h.0 (each_one (λ k. j < k) k (ltb-true j k a)), rising_more js k h.1 b)

may_too : (seen : List ℕ) (k : ℕ) → Rising seen → may_come ascending seen k ≡ true → may_come anyhow seen k ≡ true
unfolding Rising may_come may_precede nobody Each
may_too [] k h m = refl
may_too (j ∷ []) k h m = let a = (both (ltb j k) true m).0 in rw a (rw (or_true (not (eqb (j / 2) (k / 2))) true refl))
may_too (j ∷ i ∷ js) k h m =
    let (a, b) = both (ltb j k) (ltb i k && may_come ascending js k) m in
    let c = ltb-true i k (both (ltb i k) (may_come ascending js k) b).0 in
    let d : j < i = h.0.0 in
    rw (ne_eqb (j / 2) (k / 2) (λ e. omega arith)) (may_too (i ∷ js) k h.1 b)

in_order_too : (seen ks : List ℕ) → Rising seen → InOrder ascending seen ks → InOrder anyhow seen ks
unfolding InOrder
in_order_too seen [] h q = tt
in_order_too seen (k ∷ ks) h q = (may_too seen k h q.0, in_order_too (seen ++ (k ∷ [])) ks (rising_more seen k h q.0) q.1)

none_rises : Rising []
unfolding Rising
none_rises = tt

frame_too : (v : Version) (f : Frame) → GoodFrame v ascending f → GoodFrame v anyhow f
frame_too v f h = record {
  id = h.id;
  start = h.start;
  players = h.players;
  slots = in_order_too [] (map slot_of f.players) none_rises h.slots;
  somebody = h.somebody;
  fods = h.fods;
  whispys = h.whispys;
  stadiums = h.stadiums;
  items = h.items;
  end = h.end;
}

pub ascending_too : (v : Version) (r : Replay) → WellFormed v ascending r → WellFormed v anyhow r
ascending_too v r h = record {
  version = h.version;
  block = h.block;
  short = h.short;
  codes = h.codes;
  frames = each_so (GoodFrame v ascending) (GoodFrame v anyhow) r.frames (frame_too v) h.frames;
  few = h.few;
  ends = h.ends;
}

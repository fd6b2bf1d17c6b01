-- Frames in any runs are the run of all of them, and the other way round.
-- Assumes nothing.
use mathlib.Core.Path.{◌≡◌, refl, sym, ap, ◌∙◌}
use mathlib.Core.List.{List, [], ◌∷◌, ◌++◌}
use Prim.Native.Nat.{ℕ, ◌+◌, ◌≤◌}
use native.Mathlib.Omega.{arith}
use lib.ListN.{length}
use Rattle.wire.specs.Wire.{splice}
use Rattle.game.specs.Stores.{Lent}
use Rattle.game.specs.declared.frames.Frames.{Frames}
use Rattle.std.specs.Prelude.{Ok}
use Rattle.append.specs.Run.{run_bytes, RunOutcome}
use Rattle.append.proofs.Runs.{run_split, split, joined}
use Rattle.law_live.specs.Recording.{Between, InRuns}

between_le : (a : ℕ) (cs : List ℕ) (b : ℕ) → Between a cs b → a ≤ b
unfolding Between
between_le a [] b h = h
between_le a (c ∷ cs) b h = omega (arith, h.0, between_le c cs b h.1)

-- calls for runs are a call for all of them
pub runs_joined : {f : Frames} {s : Lent} (cs : List ℕ) {a b place e : ℕ} {out out' : List ℕ} → InRuns f s a cs b place out e out' → RunOutcome f s a b place out (Ok e) out'
unfolding InRuns
runs_joined [] r = r
runs_joined (c ∷ cs) r = joined r.is.0 (runs_joined cs r.is.1)

-- and a call for all of them is calls for any runs
pub runs_split : {f : Frames} {s : Lent} (cs : List ℕ) {a b place e : ℕ} {out out' : List ℕ} → Between a cs b → RunOutcome f s a b place out (Ok e) out' → InRuns f s a cs b place out e out'
unfolding InRuns Between
runs_split [] h r = r
runs_split {f} {s} (c ∷ cs) {a} {b} {place} {e} {out} {out'} h r =
    let (x, y) = split c h.0 (between_le c cs b h.1) r in
    record { place = place + length (run_bytes f s a c); out = splice out place (run_bytes f s a c); is = (x, runs_split cs h.1 y) }

-- the bytes of runs, one after another
unfoldable pub pieces : Frames → Lent → ℕ → List ℕ → ℕ → List ℕ
pieces f s a [] b = run_bytes f s a b
pieces f s a (c ∷ cs) b = run_bytes f s a c ++ pieces f s c cs b

pub pieces_are : (f : Frames) (s : Lent) (a : ℕ) (cs : List ℕ) (b : ℕ) → Between a cs b → pieces f s a cs b ≡ run_bytes f s a b
unfolding pieces Between
pieces_are f s a [] b h = refl
pieces_are f s a (c ∷ cs) b h = ap (λ (l : List ℕ). run_bytes f s a c ++ l) (pieces_are f s c cs b h.1) ∙ sym (run_split f s a c b h.0 (between_le c cs b h.1))

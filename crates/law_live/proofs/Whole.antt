-- A game recorded by calls is the file that `write` gives, and what `write` gives can be recorded in any runs.
-- Assumes nothing.
use mathlib.Core.Path.{◌≡◌, refl, sym, ap, ap₂, ◌∙◌}
use mathlib.Core.List.{List, ◌++◌}
use Prim.Native.Nat.{ℕ, ◌+◌, ◌-◌, ◌≤◌}
use native.Mathlib.Omega.{arith}
use borrow.Author.Tests.{le-ltb}
use lib.ListN.{length, length-append}
use Rattle.wire.specs.Wire.{be, splice, Wrote}
use Rattle.wire.proofs.Laws.{length_splice}
use Rattle.wire.proofs.Writers.{wrote_then, wrote_length}
use Rattle.game.specs.Stores.{Stores}
use Rattle.game.specs.declared.Game.{Game}
use Rattle.ser.specs.Write.{file, WriterOutcome}
use Rattle.std.specs.Prelude.{Ok}
use Rattle.ser.proofs.Outcomes.{Passed, passes, written}
use Rattle.ser.proofs.Answered as answered
use Rattle.ser.proofs.Sound.{length_fits}
use Rattle.append.specs.Run.{RunOutcome}
use Rattle.append.proofs.Runs.{ran, ran_is}
use Rattle.live.specs.Head.{head_with, head_bytes, HeadOutcome}
use Rattle.live.specs.End.{ends_bytes, end_bytes, ends_at, EndOutcome}
use Rattle.live.specs.Length.{field_refusal, field_bytes}
use Rattle.live.proofs.Calls.{began, began_is, ended, ended_is}
use Rattle.law_live.specs.Recording.{opening_of, closing_of, Between, Recording}
use Rattle.law_live.proofs.Parts.{head_length_lem, head_filled, filled_in, all_frames, data_length, length_is, file_is}
use Rattle.law_live.proofs.Runs.{runs_joined, runs_split, pieces, pieces_are}
use Rattle.law_live.proofs.Judged.{all_judged, runs_judged, head_judged_lem, end_judged_lem}

-- ---- the field of an accepted game is not refused, and its bytes are the length's
pub field_is : {g : Game} {s : Stores} → Passed g s → (n : ℕ) → n ≡ data_length g s → (field_refusal n ≡ 0) × (field_bytes n ≡ be 4 (data_length g s))
unfolding field_refusal field_bytes
field_is {g} {s} p n e =
    let small : n ≤ 4294967295 = omega (arith, e, length_is g s, length_fits p) in
    (rw (le-ltb 4294967295 n small), rw (le-ltb 4294967295 n small, e))

-- ---- of the definitions: for every accepted game and any runs, head, runs and end one after another, with the length set at 11, are its file
pub in_pieces : {g : Game} {s : Stores} → Passed g s → (cs : List ℕ) → Between 0 cs g.frames.counts.frames
    → splice (head_bytes (opening_of g s) ++ (pieces g.frames s.lent 0 cs g.frames.counts.frames ++ end_bytes (closing_of g s))) 11
    (field_bytes (length (head_bytes (opening_of g s)) + length (pieces g.frames s.lent 0 cs g.frames.counts.frames) + length (ends_bytes (closing_of g s)) - 15))
    ≡ file g s
in_pieces {g} {s} p cs h =
    let o = opening_of g s in
    let c = closing_of g s in
    let same = pieces_are g.frames s.lent 0 cs g.frames.counts.frames h in
    let n : length (head_bytes o) + length (all_frames g s) + length (ends_bytes c) - 15 ≡ data_length g s = omega (arith, head_length_lem o 0) in
    ap (λ (l : List ℕ). splice (head_bytes o ++ (l ++ end_bytes c)) 11 (field_bytes (length (head_bytes o) + length l + length (ends_bytes c) - 15))) same
    ∙ ap (splice (head_bytes o ++ (all_frames g s ++ end_bytes c)) 11) (field_is p _ n).1
    ∙ head_filled o 0 (data_length g s) (all_frames g s ++ end_bytes c)
    ∙ sym (file_is g s)

-- ---- of the calls
-- head, runs and end leave them one after another in the output
laid : {g : Game} {s : Stores} {out a b c : List ℕ} {h e m n : ℕ} → HeadOutcome (opening_of g s) out (Ok h) a
    → RunOutcome g.frames s.lent 0 g.frames.counts.frames h a (Ok e) b → EndOutcome (closing_of g s) e b (ends_at m n) c
    → Wrote out c 0 n (head_bytes (opening_of g s) ++ (all_frames g s ++ end_bytes (closing_of g s)))
laid x y z =
    let p = began x in
    let q = ended z in
    wrote_then (record { next_is = omega (arith, p.next_is); after_is = p.after_is }) (wrote_then (ran y).wrote (record { next_is = q.next_is; after_is = q.after_is }))

-- a recording is what `write` answers and leaves
pub recorded : {g : Game} {s : Stores} {cs out out' : List ℕ} {n : ℕ} → Recording g s cs out n out' → WriterOutcome g s out (Ok n) out'
recorded {g} {s} {cs} {out} {out'} {n} r =
    let x = r.begun in
    let y = runs_joined cs r.runs in
    let z = r.done in
    let p = began x in
    let q = ran y in
    let t = ended z in
    let ok = all_judged g s p.judged q.judged t.judged in
    let w = laid x y z in
    let rest = all_frames g s ++ end_bytes (closing_of g s) in
    let o = opening_of g s in
    let both = length-append (head_bytes o) rest in
    let with-field = length-append (head_with o (data_length g s)) rest in
    let ends = length-append (all_frames g s) (end_bytes (closing_of g s)) in
    let long : r.events_end - 15 ≡ data_length g s = omega (arith, t.events_is, q.wrote.next_is, p.next_is, head_length_lem o 0) in
    let size : length (file g s) ≡ n = ap length (file_is g s) ∙ omega (arith, with-field, both, head_length_lem o 0, head_length_lem o (data_length g s), w.next_is) in
    let room : n ≤ length out = omega (arith, t.fits, t.next_is, wrote_length q.wrote, ap length p.after_is ∙ length_splice out 0 (head_bytes o)) in
    let fits : length (head_bytes o ++ rest) ≤ length out = omega (arith, w.next_is, room) in
    let after : out' ≡ splice out 0 (file g s) =
    r.filled
    ∙ ap₂ (λ (l k : List ℕ). splice l 11 k) w.after_is (field_is (passes g s ok) _ long).1
    ∙ filled_in o 0 (data_length g s) rest out fits
    ∙ ap (splice out 0) (sym (file_is g s)) in
    written n (sym ok) size room (record { next_is = refl; after_is = after })

-- and whatever `write` answers with a file and leaves can be recorded so, in any runs
pub recordable : {g : Game} {s : Stores} {out out' : List ℕ} {n : ℕ} (cs : List ℕ) → Between 0 cs g.frames.counts.frames → WriterOutcome g s out (Ok n) out' → Recording g s cs out n out'
recordable {g} {s} {out} {out'} {n} cs between w =
    let ok = answered.none_judged w in
    let long_enough : n ≤ length out = omega (arith, (answered.none_applies w).1, answered.room w) in
    let o = opening_of g s in
    let c = closing_of g s in
    let rest = all_frames g s ++ end_bytes c in
    let h = length (head_bytes o) in
    let e = h + length (all_frames g s) in
    let a = splice out 0 (head_bytes o) in
    let b = splice a h (all_frames g s) in
    let both = length-append (head_bytes o) rest in
    let with-field = length-append (head_with o (data_length g s)) rest in
    let ends = length-append (all_frames g s) (end_bytes c) in
    let size : length (head_bytes o) + (length (all_frames g s) + length (end_bytes c)) ≡ n =
    omega (arith, (answered.none_applies w).1, ap length (file_is g s), with-field, ends, head_length_lem o 0, head_length_lem o (data_length g s)) in
    let la : length a ≡ length out = length_splice out 0 (head_bytes o) in
    let lb : length b ≡ length a = length_splice a h (all_frames g s) in
    let long : e + length (ends_bytes c) - 15 ≡ data_length g s = omega (arith, head_length_lem o 0) in
    let x : HeadOutcome o out (Ok h) a = began_is (record { judged = head_judged_lem g s ok; fits = omega (arith, size, long_enough); next_is = refl; after_is = refl }) in
    let y : RunOutcome g.frames s.lent 0 g.frames.counts.frames h a (Ok e) b =
    ran_is (record { judged = runs_judged g s ok; order = omega arith; within = omega arith; fits = omega (arith, size, long_enough, la); wrote = record { next_is = refl; after_is = refl } }) in
    let z : EndOutcome c e b (ends_at (e + length (ends_bytes c)) n) (splice b e (end_bytes c)) =
    ended_is (record { judged = end_judged_lem g s ok; fits = omega (arith, size, long_enough, la, lb); events_is = refl; next_is = omega (arith, size); after_is = refl }) in
    let t = laid x y z in
    let fits : length (head_bytes o ++ rest) ≤ length out = omega (arith, both, ends, size, long_enough) in
    let field = field_is (passes g s ok) (e + length (ends_bytes c) - 15) long in
    record {
      head_end = h;
      headed = a;
      runs_end = e;
      ran = b;
      events_end = e + length (ends_bytes c);
      closed = splice b e (end_bytes c);
      begun = x;
      runs = runs_split cs between y;
      done = z;
      field = field.0;
      filled =
          answered.left_is w
          ∙ ap (splice out 0) (file_is g s)
          ∙ sym (filled_in o 0 (data_length g s) rest out fits)
          ∙ sym (ap₂ (λ (l k : List ℕ). splice l 11 k) t.after_is field.1);
    }

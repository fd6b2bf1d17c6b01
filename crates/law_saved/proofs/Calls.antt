-- From the calls: what `write` left is taken by `measure` and `read`, and what they answer, given to `write` again, leaves the same file.
-- Assumes nothing.
use Prim.Native.Nat.{ℕ, zero, suc, ◌≤◌}
use mathlib.Core.Path.{◌≡◌, sym, ap, ap₂, subst, ◌∙◌}
use mathlib.Core.Bool.{false}
use mathlib.Core.List.{List}
use native.Mathlib.Omega.{arith}
use lib.ListN.{length, take}
use Rattle.wire.specs.Wire.{splice}
use Rattle.format.specs.declared.version.Version.{Version}
use Rattle.game.specs.Stores.{Stores}
use Rattle.game.specs.declared.Game.{Game}
use Rattle.format.specs.Refused.{Answer}
use Rattle.std.specs.Prelude.{Ok}
use Rattle.ser.specs.Write.{file, refusal, write_numbers, WrittenNumbers, written_numbers, left, WriterOutcome}
use Rattle.ser.proofs.Answered.{written_file}
use Rattle.grammar.specs.Productions.{Replay}
use Rattle.law_tree.specs.Tree.{replay_of}
use Rattle.read_judge.specs.Found.{Found, version_of, too_big}
use Rattle.read_judge.proofs.Accepted.{version_accepted}
use Rattle.measure.specs.Game.{Kept, kept_read, lengths_of, places_in, game_read}
use Rattle.measure.specs.Read.{measured_in, unopened, opened_in, kept_short, kept_over, MeasureOutcome, ReadOutcome, early, none, big, short, found}
use Rattle.measure.specs.declared.Measured.{Measured}
use Rattle.measure.specs.declared.Opened.{Opened}
use Rattle.law_saved.specs.Admitted.{Admitted}
use Rattle.law_saved.specs.Again.{LongEnough, fronts, stores_from, stores_read}
use Rattle.law_saved.proofs.Agree.{not_both, long_kept, too_short_lem}
use Rattle.law_saved.specs.Returned.{GameReturned}
use Rattle.law_saved.proofs.Found as in_file
use Rattle.law_saved.proofs.Again.{game_back_lem}
use Rattle.law_saved.proofs.Returned as back
use Rattle.law_saved.proofs.Accepted.{accepted_again}
use Rattle.law_saved.proofs.Fronts.{fronts_read}

-- an answer that is a file
file_long : (k n m : ℕ) → written_numbers (Ok n) ≡ write_numbers k m → n ≡ m
file_long zero n m e = ap (λ (w : WrittenNumbers). w.len) e
file_long (suc k) n m e = let z : ◌≡◌ {A = ℕ} 0 1 = ap (λ (w : WrittenNumbers). w.kind) e in absurd (omega arith)

module _ {g : Game} {s : Stores} (a : Admitted g s) where
  abbrev f : List ℕ
  f = file g s

  abbrev r : Replay
  r = replay_of g s

  -- what is to go into the stores
  abbrev needed : Kept
  needed = kept_read (version_of f) r

  not_big : (x : Found f) → too_big (version_of f) x.replay ≡ false
  not_big x = ap₂ (λ (w : Version) (q : Replay). too_big w q) (in_file.version_is a) (in_file.only a x) ∙ in_file.not_big a

  -- ---- measure and read

  pub measured : {m : Measured} → MeasureOutcome f m → m ≡ measured_in f r
  measured (early p e) = absurd (p (in_file.not_refused a))
  measured (none z p e) = absurd (p (in_file.found a))
  measured (big z x p e) = absurd (not_both p (not_big x))
  measured (found z x p e) = e ∙ ap (measured_in f) (in_file.only a x)

  -- all of it is known
  pub not_partly : {m : Measured} → MeasureOutcome f m → m.partly ≡ 0
  not_partly o = ap (λ (y : Measured). y.partly) (measured o) ∙ rw (version_accepted f (in_file.not_early a))

  no_store_short : {m : Measured} {given : Kept} → MeasureOutcome f m → LongEnough m.lengths given → kept_short given needed ≡ false
  no_store_short {m} {given} o l =
      let lengths_are : m.lengths ≡ lengths_of needed = ap (λ (y : Measured). y.lengths) (measured o) in
      long_kept given needed (rw lengths_are at l)

  module _ {m : Measured} {given : Kept} {x : Opened} {after : Kept} (o : MeasureOutcome f m) where
    -- stores that are as long as `measure` says take it
    pub opened : LongEnough m.lengths given → ReadOutcome f given x after → (x ≡ opened_in f r) × (after ≡ kept_over given needed)
    opened l (early p e q) = absurd (p (in_file.not_refused a))
    opened l (none z p e q) = absurd (p (in_file.found a))
    opened l (big z y p e q) = absurd (not_both p (not_big y))
    opened l (short z y p h e q) = absurd (not_both h (ap (λ (t : Replay). kept_short given (kept_read (version_of f) t)) (in_file.only a y) ∙ no_store_short o l))
    opened l (found z y p h e q) =
        (e ∙ ap (opened_in f) (in_file.only a y), q ∙ ap (λ (t : Replay). kept_over given (kept_read (version_of f) t)) (in_file.only a y))

    -- with one that is not it is refused, and for nothing else
    pub refused_short : (LongEnough m.lengths given → ⊥) → ReadOutcome f given x after → (x ≡ unopened 12 0) × (after ≡ given)
    refused_short l read = too_short_lem f given o (ap (λ (y : Measured). y.refused) (measured o)) read l

  -- ---- and write again

  written_again : (out out' : List ℕ) (w : Answer ℕ) → length f ≤ length out → WriterOutcome (game_read f r) (stores_read f r) out w out'
      → (written_numbers w ≡ written_numbers (Ok (length f))) × (out' ≡ splice out 0 f)
  written_again out out' w h o =
      let z = accepted_again a (length out) h in
      let same = game_back_lem a in (
        o.answer_is ∙ ap₂ (λ (k : ℕ) (l : List ℕ). write_numbers k (length l)) z same,
        o.out_is ∙ ap₂ (λ (k : ℕ) (l : List ℕ). left k out l) z same,
      )

  module _ {out out' : List ℕ} {n : ℕ} (o : WriterOutcome g s out (Ok n) out') where
    long : n ≡ length f
    long = file_long (refusal g s (length out)) n (length f) o.answer_is

    abbrev saved : List ℕ
    saved = take n out'

    is : saved ≡ f
    is = written_file o

    -- what `measure` and `read` give of the file that `write` left, in stores that are as long as `measure` says
    came_back : {m : Measured} {given : Kept} {x : Opened} {after : Kept} → LongEnough m.lengths given → MeasureOutcome saved m → ReadOutcome saved given x after
        → (x.game ≡ game_read f r) × (stores_from saved x.places (fronts m.lengths after) ≡ stores_read f r)
    came_back {m} {given} {x} {after} fits measure read =
        let seen : MeasureOutcome f m = subst (λ (l : List ℕ). MeasureOutcome l m) is measure in
        let e = measured seen in
        let (q, t) = opened seen fits (subst (λ (l : List ℕ). ReadOutcome l given x after) is read) in
        let fronts-are : fronts m.lengths after ≡ needed = ap₂ (λ (y : Measured) (k : Kept). fronts y.lengths k) e t ∙ fronts_read given needed (no_store_short seen fits) in (
          ap (λ (y : Opened). y.game) q,
          ap₂ (λ (l : List ℕ) (y : Opened). stores_from l y.places (fronts m.lengths after)) is q ∙ ap (stores_from f (places_in f r)) fronts-are,
        )

    -- it is what was given to `write`, field by field
    pub returned : {m : Measured} {given : Kept} {x : Opened} {after : Kept} → LongEnough m.lengths given → MeasureOutcome saved m → ReadOutcome saved given x after
        → GameReturned g s x.game (stores_from saved x.places (fronts m.lengths after))
    returned {m} {given} {x} {after} fits measure read =
        let (game_is, stores_are) = came_back fits measure read in
        subst (λ (y : Game). GameReturned g s y (stores_from saved x.places (fronts m.lengths after))) (sym game_is)
        (subst (λ (y : Stores). GameReturned g s (game_read f r) y) (sym stores_are) (back.returned a))

    -- and written again it is the same file
    pub saved_again : {m : Measured} {given : Kept} {x : Opened} {after : Kept} (again again' : List ℕ) (w : Answer ℕ) → LongEnough m.lengths given → n ≤ length again
        → MeasureOutcome saved m → ReadOutcome saved given x after → WriterOutcome x.game (stores_from saved x.places (fronts m.lengths after)) again w again'
        → (written_numbers w ≡ written_numbers (Ok n)) × (again' ≡ splice again 0 saved)
    saved_again {m} {given} {x} {after} again again' w fits room measure read write =
        let (game_is, stores_are) = came_back fits measure read in
        let (answer, left) = written_again again again' w (omega (arith, long, room))
        (subst (λ (y : Game). WriterOutcome y (stores_read f r) again w again') game_is (subst (λ (y : Stores). WriterOutcome x.game y again w again') stores_are write)) in
        (answer ∙ ap (λ (k : ℕ). written_numbers (Ok k)) (sym long), left ∙ ap (splice again 0) (sym is))

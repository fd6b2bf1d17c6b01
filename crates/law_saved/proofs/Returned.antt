-- What comes back of an admitted game, field by field.
-- Assumes nothing.
use Prim.Native.Nat.{ℕ, zero, suc, ◌<◌}
use mathlib.Core.Path.{◌≡◌, refl, sym, ap, subst, ◌∙◌}
use mathlib.Core.Bool.{Bool, true, false, ◌&&◌}
use mathlib.Core.List.{[], ◌∷◌}
use native.Mathlib.Omega.{arith}
use lib.ListN.{get_or}
use Rattle.wire.specs.Wire.{keep}
use Rattle.format.specs.Version.{has_placements}
use Rattle.format.specs.Mark.{yes}
use Rattle.format.specs.declared.version.Version.{Version}
use Rattle.game.specs.Zero.{no_end}
use Rattle.game.specs.Stores.{Stores}
use Rattle.game.specs.declared.Game.{Game}
use Rattle.game.specs.declared.end.End.{End}
use Rattle.read_start.specs.Start.{start_in}
use Rattle.law_start.specs.Returned.{StartReturned}
use Rattle.law_start.proofs.Back as start
use Rattle.ending.specs.End.{placement_of, end_of}
use Rattle.ser.specs.Write.{file}
use Rattle.grammar.specs.Productions.{Replay}
use Rattle.law_tree.specs.Tree.{end_bytes, ends_of, replay_of}
use Rattle.law_columns.proofs.Returned.{game_returned}
use Rattle.read_outline.specs.End.{mark_by, value_by}
use Rattle.read_outline.proofs.Back.{end_again, read_back_lem, again_absent, again_nowhere, again_placed}
use Rattle.measure.specs.Game.{end_read, is_double, game_read}
use Rattle.law_saved.specs.Admitted.{Admitted}
use Rattle.law_saved.specs.Again.{stores_read}
use Rattle.law_saved.specs.Returned.{placed_at, placement_at, EndReturned, GameReturned}
use Rattle.law_saved.proofs.Found as found
use Rattle.law_saved.proofs.Again.{mark, game_again, stores_again, game_is, stores_are}

-- ---- the end

mark_at_lem : (e : End) (i : ℕ) → i < 4
    → get_or (mark_by (placement_of e 0) ∷ mark_by (placement_of e 1) ∷ mark_by (placement_of e 2) ∷ mark_by (placement_of e 3) ∷ []) i 0 ≡ mark_by (placement_of e i)
mark_at_lem e zero h = refl
mark_at_lem e (suc zero) h = refl
mark_at_lem e (suc (suc zero)) h = refl
mark_at_lem e (suc (suc (suc zero))) h = refl
mark_at_lem e (suc (suc (suc (suc i)))) h = absurd (omega arith)

value_at_lem : (e : End) (i : ℕ) → i < 4
    → get_or (value_by (placement_of e 0) ∷ value_by (placement_of e 1) ∷ value_by (placement_of e 2) ∷ value_by (placement_of e 3) ∷ []) i 0 ≡ value_by (placement_of e i)
value_at_lem e zero h = refl
value_at_lem e (suc zero) h = refl
value_at_lem e (suc (suc zero)) h = refl
value_at_lem e (suc (suc (suc zero))) h = refl
value_at_lem e (suc (suc (suc (suc i)))) h = absurd (omega arith)

module _ (v : Version) (e : End) (double : ℕ) where
  -- where the version has placements
  module _ (has : has_placements v ≡ true) (i : ℕ) (few : i < 4) where
    marked : placed_at (end_again v e) i ≡ mark_by (placement_of e i)
    marked = rw has (mark_at_lem e i few)

    valued : placement_at (end_again v e) i ≡ value_by (placement_of e i)
    valued = rw has (value_at_lem e i few)

    both : {x y : ℕ} → (mark_by (placement_of e i) ≡ x) × (value_by (placement_of e i) ≡ y) → (placed_at (end_again v e) i ≡ x) × (placement_at (end_again v e) i ≡ y)
    both h = (marked ∙ h.0, valued ∙ h.1)

  again_returned : EndReturned v e (end_again v e)
  again_returned = record {
    given = refl;
    method = refl;
    initiator = λ h. rw h;
    no_initiator = λ h. rw h;
    placed = λ h i few there where_to. both h i few (again_placed e i there where_to);
    nowhere = λ h i few there off. both h i few (again_nowhere e i there off);
    absent = λ h i few off. both h i few (again_absent e i off);
    no_placements = λ h. (rw h, rw h);
  }

  end_is : yes e.given ≡ true → end_read v (ends_of v e double) ≡ end_again v e
  unfolding ends_of keep end_of
  end_is q = ap (λ (b : Bool). end_read v (keep b (end_bytes v e ∷ keep (yes double) (end_bytes v e ∷ [])))) q ∙ read_back_lem v e

  end_returned : yes e.given ≡ true → EndReturned v e (end_read v (ends_of v e double))
  end_returned q = subst (EndReturned v e) (sym (end_is q)) again_returned

  none_returned : yes e.given ≡ false → end_read v (ends_of v e double) ≡ no_end
  unfolding ends_of keep
  none_returned q = ap (λ (b : Bool). end_read v (keep b (end_bytes v e ∷ keep (yes double) (end_bytes v e ∷ [])))) q

  double_returned : is_double (ends_of v e double) ≡ mark (yes e.given && yes double)
  unfolding ends_of keep
  double_returned = go (yes e.given) (yes double)
    where
      go : (a b : Bool) → is_double (keep a (end_bytes v e ∷ keep b (end_bytes v e ∷ []))) ≡ mark (a && b)
      go true true = refl
      go true false = refl
      go false b = refl

module _ {g : Game} {s : Stores} (a : Admitted g s) where
  abbrev r : Replay
  r = replay_of g s

  start_returned : StartReturned g.frames.version g.start (start_in g.frames.version r.block)
  unfolding replay_of
  start_returned = start.returned g.frames.version g.start s.template a.start (found.p a).start (found.long a) a.empty

  all_returned : GameReturned g s (game_again a) (stores_again a)
  unfolding replay_of
  all_returned = record {
    frames = game_returned g s (found.took a) (found.shown a);
    start = start_returned;
    end = end_returned g.frames.version g.end g.double_end;
    no_end = none_returned g.frames.version g.end g.double_end;
    double = double_returned g.frames.version g.end g.double_end;
    codes_given = refl;
    codes = (found.codes_are a).0;
    actual_size = (found.codes_are a).1;
    metadata_given = refl;
    metadata = refl;
  }

  pub returned : GameReturned g s (game_read (file g s) r) (stores_read (file g s) r)
  returned =
      subst (λ (x : Game). GameReturned g s x (stores_read (file g s) r)) (sym (game_is a))
      (subst (λ (y : Stores). GameReturned g s (game_again a) y) (sym (stores_are a)) all_returned)

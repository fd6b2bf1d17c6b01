-- What is read in the file of an admitted game is accepted by `write`.
-- Assumes nothing.
use Prim.Native.Nat.{ℕ, ◌≤◌}
use mathlib.Core.Path.{◌≡◌, refl, sym, ap, ap₂, ◌∙◌}
use mathlib.Core.Bool.{Bool, true, false, cond}
use mathlib.Core.List.{List, [], ◌∷◌}
use native.Mathlib.Omega.{arith}
use borrow.Author.Tests.{le-ltb}
use lib.ListN.{length, get_or}
use Rattle.wire.specs.Wire.{keep}
use Rattle.format.specs.Version.{has_initiator}
use Rattle.format.specs.Mark.{yes}
use Rattle.format.specs.Refusal.{lowest}
use Rattle.format.specs.declared.version.Version.{Version}
use Rattle.format.proofs.Refusals.{skip, none, lowest_after}
use Rattle.game.specs.Stores.{Stores}
use Rattle.game.specs.declared.Game.{Game}
use Rattle.frames.specs.Judge.{refusals}
use Rattle.frames.proofs.Accepted.{numbered}
use Rattle.start.specs.Refusal.{block_wrong, bad_start}
use Rattle.read_start.specs.Start.{start_in}
use Rattle.law_start.proofs.Back as start
use Rattle.codes.specs.Blocks.{codes_wrong}
use Rattle.ending.specs.End.{initiator_wrong, end_wrong}
use Rattle.ser.specs.Write.{given_bytes, file, judged, refusal}
use Rattle.ser.proofs.Outcomes.{numbered_eleven}
use Rattle.grammar.specs.Productions.{Replay, used_in, codes_bytes}
use Rattle.grammar.specs.WellFormed.{Each}
use Rattle.columns.specs.Columns.{frames_read, lent_read}
use Rattle.law_tree.specs.Tree.{replay_of}
use Rattle.law_columns.proofs.Codes.{codes_right}
use Rattle.law_columns.proofs.Returned.{returned_judged}
use Rattle.read_outline.proofs.Back.{not_wrong}
use Rattle.measure.specs.Game.{end_read, is_double, game_read}
use Rattle.law_saved.specs.Admitted.{Admitted}
use Rattle.law_saved.specs.Again.{stores_read}
use Rattle.law_saved.proofs.Found as found
use Rattle.law_saved.proofs.Again.{mark, mark_yes, game_again, stores_again, game_is, stores_are, block_length, game_back_lem}

abbrev Named : List ℕ → Type 0
Named bytes = initiator_wrong (get_or bytes 1 0) ≡ false

end_right : (v : Version) (ends : List (List ℕ)) → (has_initiator v ≡ true → Each Named ends) → end_wrong v (end_read v ends) (is_double ends) ≡ false
unfolding end_wrong Each
end_right v [] h = refl
end_right v (b ∷ ends) h = not_wrong v b (is_double (b ∷ ends)) (λ q. (h q).0)

at_most : (b : Bool) (n m : ℕ) → n ≤ m → cond b n 0 ≤ m
at_most true n m h = h
at_most false n m h = omega arith

kept_few : (b : Bool) (body : List ℕ) → cond b (length body) 0 ≤ 65535 → length (keep b body) ≤ 65535
unfolding keep
kept_few true body h = h
kept_few false body h = omega arith

module _ {g : Game} {s : Stores} (a : Admitted g s) where
  abbrev v : Version
  v = g.frames.version

  abbrev r : Replay
  r = replay_of g s

  abbrev coded : Bool
  coded = yes g.codes_given

  abbrev described : Bool
  described = yes g.metadata_given

  frames_right : (codes metadata : ℕ) → codes ≤ 16777216 → metadata ≤ 65535 → lowest (refusals (frames_read v r.frames) (lent_read v r.frames) codes metadata) ≡ 0
  unfolding replay_of
  frames_right = returned_judged g.frames s.lent (found.given a)

  block_right : block_wrong v (length r.block) ≡ false
  block_right = ap (block_wrong v) (block_length a) ∙ (found.p a).block

  start_right : bad_start v (start_in v r.block) ≡ false
  unfolding replay_of
  start_right = start.accepted_again v g.start s.template a.start (found.p a).start (found.long a) a.empty

  coded_right : codes_wrong v (yes (mark coded)) (codes_bytes r.codes) (used_in r.codes) ≡ false
  coded_right =
      ap (λ (b : Bool). codes_wrong v b (codes_bytes r.codes) (used_in r.codes)) (mark_yes coded)
      ∙ codes_right v coded r.codes (found.well a).codes (found.since a)

  judged_again : lowest (judged (game_again a) (stores_again a)) ≡ 0
  unfolding judged frames_read
  judged_again =
      let c = given_bytes (mark coded) (codes_bytes r.codes) in
      let m = given_bytes (mark described) (keep described s.metadata) in
      let few = at_most (yes (mark coded)) (length (codes_bytes r.codes)) 16777216 (found.codes_few a) in
      let short = at_most (yes (mark described)) (length (keep described s.metadata)) 65535 (kept_few described s.metadata (found.p a).metadata_few) in
      lowest_after (refusals (frames_read v r.frames) (lent_read v r.frames) c m) _ (numbered (frames_read v r.frames) (lent_read v r.frames) c m) (frames_right c m few short)
      ∙ sym (skip _ _ _ _ block_right (skip _ _ _ _ start_right (skip _ _ _ _ coded_right (skip _ _ _ _ (end_right v r.ends (found.readable a).initiators) none))))

  judged_read : lowest (judged (game_read (file g s) r) (stores_read (file g s) r)) ≡ 0
  judged_read = ap₂ (λ (x : Game) (y : Stores). lowest (judged x y)) (game_is a) (stores_are a) ∙ judged_again

  -- where there is room for the file
  pub accepted_again : (room : ℕ) → length (file g s) ≤ room → refusal (game_read (file g s) r) (stores_read (file g s) r) room ≡ 0
  unfolding refusal
  accepted_again room h =
      let x = game_read (file g s) r in
      let y = stores_read (file g s) r in
      lowest_after (judged x y) _ (numbered_eleven x y) judged_read
      ∙ sym (skip _ _ _ _ (le-ltb room (length (file x y)) (omega (arith, h, ap length (game_back_lem a)))) none)

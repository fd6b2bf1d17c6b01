-- What is read in the file of an admitted game, written again, is that file.
-- Assumes nothing.
use Prim.Native.Nat.{ℕ, ◌+◌, ◌-◌, ◌≤◌}
use mathlib.Core.Path.{◌≡◌, refl, sym, ap, ap₂, ◌∙◌}
use mathlib.Core.Bool.{Bool, true, false, cond, ◌&&◌}
use mathlib.Core.List.{List, [], ◌∷◌}
use native.Mathlib.Omega.{arith}
use lib.Dec.{eqb, ltb}
use lib.ListN.{length, drop}
use Rattle.wire.specs.Wire.{part, keep}
use Rattle.format.specs.File.{Entry, Ev, file_of}
use Rattle.format.specs.Mark.{yes}
use Rattle.format.specs.Version.{gte_of}
use Rattle.format.specs.declared.version.Version.{Version}
use Rattle.layout.specs.Columns.{chosen}
use Rattle.layout.specs.Payloads.{listed, payload_size, entries_of}
use Rattle.game.specs.Stores.{Stores, stores}
use Rattle.game.specs.declared.Game.{Game}
use Rattle.game.specs.declared.end.End.{End}
use Rattle.start.specs.Block.{start_block}
use Rattle.start.proofs.Blocks.{length_start_block}
use Rattle.read_start.specs.Start.{start_in}
use Rattle.law_start.proofs.Again as start
use Rattle.ending.specs.End.{end_of}
use Rattle.ending.specs.Tail.{tail_of}
use Rattle.ending.proofs.Lengths.{length_end}
use Rattle.head.specs.Table.{stop_of}
use Rattle.ser.specs.Write.{entries, game_start_event, events, file}
use Rattle.ser.proofs.Sound.{fresh, length_fits}
use Rattle.grammar.specs.Productions.{Replay, events_of, used_in, codes_bytes}
use Rattle.columns.specs.Columns.{frames_read, lent_read}
use Rattle.law_tree.specs.Tree.{frames_of, blocks_of, end_bytes, ends_of, replay_of}
use Rattle.law_tree.proofs.Same.{same}
use Rattle.law_columns.proofs.Codes.{given_back}
use Rattle.law_columns.proofs.Returned.{returned_tree}
use Rattle.read_outline.specs.End.{end_in}
use Rattle.read_outline.proofs.Back.{written_back}
use Rattle.measure.specs.Game.{tail_kind, has_metadata, places_in, end_read, is_double, codes_mark, game_read}
use Rattle.law_saved.specs.Admitted.{Admitted}
use Rattle.law_saved.specs.Again.{stores_read}
use Rattle.read_judge.proofs.Places as parts
use Rattle.measure.proofs.Written.{tail_kind_lem, body_found}
use Rattle.law_saved.proofs.Listed.{mark_is}
use Rattle.law_saved.proofs.Found as found

-- ---- marks

abbrev pub mark : Bool → ℕ
mark b = cond b 1 0

pub mark_yes : (b : Bool) → yes (mark b) ≡ b
mark_yes true = refl
mark_yes false = refl

marked : (b : Bool) → eqb (mark b) 1 ≡ b
marked true = refl
marked false = refl

-- ---- ends

end_back : (v : Version) (e : End) → end_bytes v (end_in v (end_bytes v e)) ≡ end_bytes v e
unfolding end_of
end_back v e = written_back v (end_bytes v e) (length_end v e)

ends_back : (v : Version) (e : End) (double : ℕ) → let ends = ends_of v e double in ends_of v (end_read v ends) (is_double ends) ≡ ends
unfolding ends_of keep end_in
ends_back v e double = go (yes e.given) (yes double)
  where
    go : (a b : Bool) → let ends = keep a (end_bytes v e ∷ keep b (end_bytes v e ∷ [])) in ends_of v (end_read v ends) (is_double ends) ≡ ends
    go true true = ap₂ (λ (x y : List ℕ). x ∷ y ∷ []) (end_back v e) (end_back v e)
    go true false = ap (λ (x : List ℕ). x ∷ []) (end_back v e)
    go false b = refl

-- ---- the table: without codes it says nothing of their size

table_again : (v : Version) (n : ℕ) (given : Bool) (actual : ℕ) → entries_of v n given (cond given actual 0) ≡ entries_of v n given actual
unfolding entries_of chosen listed payload_size
table_again v n true actual = refl
table_again v n false actual = refl

-- ---- the tail

tail_again : (given : Bool) (body : List ℕ) → tail_of given (keep given body) ≡ tail_of given body
unfolding tail_of keep
tail_again true body = refl
tail_again false body = refl

module _ {g : Game} {s : Stores} (a : Admitted g s) where
  abbrev v : Version
  v = g.frames.version

  abbrev f : List ℕ
  f = file g s

  abbrev r : Replay
  r = replay_of g s

  abbrev coded : Bool
  coded = yes g.codes_given

  abbrev described : Bool
  described = yes g.metadata_given

  -- ---- the game and the stores that are read, in the version, the marks and the parts of the game that was written

  abbrev game_as : Version → ℕ → ℕ → Game
  game_as w c m = record {
    frames = frames_read w r.frames;
    start = start_in w r.block;
    end = end_read w r.ends;
    double_end = is_double r.ends;
    codes_given = c;
    metadata_given = m;
    actual_size = used_in r.codes;
  }

  abbrev pub game_again : Game
  game_again = game_as v (mark coded) (mark described)

  abbrev pub stores_again : Stores
  stores_again = stores (lent_read v r.frames) r.block (codes_bytes r.codes) (keep described s.metadata)

  tail_is : drop (stop_of f) f ≡ tail_of described s.metadata
  unfolding file
  tail_is = parts.tail_is (entries g s) (events g s) (tail_of described s.metadata) (fresh (found.p a)) (length_fits (found.p a))

  few : (b : Bool) (n : ℕ) → cond b n 0 ≤ 65535 → b ≡ true → n ≤ 65535
  few true n h e = h
  few false n h e = let z : ◌≡◌ {A = ℕ} 0 1 = ap (λ (b : Bool). cond b 1 0) e in absurd (omega arith)

  kind_is : tail_kind (drop (stop_of f) f) ≡ mark described
  kind_is = ap tail_kind tail_is ∙ tail_kind_lem described s.metadata (few described (length s.metadata) (found.p a).metadata_few)

  has_metadata_lem : has_metadata f ≡ described
  has_metadata_lem = ap (λ (k : ℕ). eqb k 1) kind_is ∙ marked described

  codes_mark_lem : codes_mark f v ≡ mark coded
  codes_mark_lem = ap (λ (k : ℕ). cond (gte_of v 3 3 && ltb 0 k) 1 0) (found.gecko_is a) ∙ mark_is v coded g.actual_size (found.since a)

  pub game_is : game_read f r ≡ game_again
  game_is =
      ap (λ (w : Version). game_as w (codes_mark f w) (mark (has_metadata f))) (found.version_is a)
      ∙ ap₂ (λ (c : ℕ) (b : Bool). game_as v c (mark b)) codes_mark_lem has_metadata_lem

  block_found : part f (places_in f r).block_at (places_in f r).block_len ≡ r.block
  unfolding file events replay_of
  block_found =
      parts.first_is (entries g s) (events g s) (tail_of described s.metadata) (fresh (found.p a)) (length_fits (found.p a)) (game_start_event g s) _ refl

  metadata_found : part f (places_in f r).metadata_at (places_in f r).metadata_len ≡ keep described s.metadata
  metadata_found =
      ap (λ (b : Bool). part f (cond b (stop_of f + 11) 0) (cond b (length f - stop_of f - 13) 0)) has_metadata_lem ∙ body_found f (stop_of f) described s.metadata tail_is

  pub stores_are : stores_read f r ≡ stores_again
  stores_are =
      ap (λ (w : Version). stores (lent_read w r.frames) (part f (places_in f r).block_at (places_in f r).block_len) (codes_bytes r.codes) (part f (places_in f r).metadata_at (places_in f r).metadata_len))
      (found.version_is a)
      ∙ ap₂ (λ (b m : List ℕ). stores (lent_read v r.frames) b (codes_bytes r.codes) m) block_found metadata_found

  -- ---- its productions

  block_again : start_block v (start_in v r.block) r.block ≡ r.block
  unfolding replay_of
  block_again = start.again v g.start s.template a.start (found.p a).start (found.long a) a.template a.empty

  frames_again : frames_of (frames_read v r.frames) (lent_read v r.frames) ≡ r.frames
  unfolding replay_of
  frames_again = returned_tree g.frames s.lent (found.given a)

  codes_again : blocks_of (yes (mark coded)) (codes_bytes r.codes) (used_in r.codes) ≡ r.codes
  codes_again =
      ap (λ (b : Bool). blocks_of b (codes_bytes r.codes) (used_in r.codes)) (mark_yes coded)
      ∙ given_back v coded r.codes (found.well a).codes (found.none_given a)

  ends_again : ends_of v (end_read v r.ends) (is_double r.ends) ≡ r.ends
  unfolding replay_of
  ends_again = ends_back v g.end g.double_end

  replay_again : replay_of game_again stores_again ≡ r
  unfolding replay_of frames_read
  replay_again = λ i. record { block = block_again i; codes = codes_again i; frames = frames_again i; ends = ends_again i }

  -- ---- the file

  same_version : game_again.frames.version ≡ v
  unfolding frames_read
  same_version = refl

  pub events_again : events game_again stores_again ≡ events g s
  events_again = same game_again stores_again ∙ ap₂ (λ (w : Version) (x : Replay). events_of w x) same_version replay_again ∙ sym (same g s)

  pub block_length : length r.block ≡ length s.template
  unfolding replay_of
  block_length = length_start_block v g.start s.template

  entries_again : entries game_again stores_again ≡ entries g s
  entries_again =
      ap₂ (λ (w : Version) (b : Bool). entries_of w (length r.block) b (used_in r.codes)) same_version (mark_yes coded)
      ∙ ap₂ (λ (n k : ℕ). entries_of v n coded k) block_length (found.codes_are a).1
      ∙ table_again v (length s.template) coded g.actual_size

  tails_again : tail_of (yes (mark described)) (keep described s.metadata) ≡ tail_of described s.metadata
  tails_again = ap (λ (b : Bool). tail_of b (keep described s.metadata)) (mark_yes described) ∙ tail_again described s.metadata

  file_again : file game_again stores_again ≡ f
  unfolding file
  file_again =
      ap₂ (λ (t : List Entry) (es : List Ev). file_of t es (tail_of (yes (mark described)) (keep described s.metadata))) entries_again events_again
      ∙ ap (λ (t : List ℕ). file_of (entries g s) (events g s) t) tails_again

  -- what is read, written again
  pub game_back_lem : file (game_read f r) (stores_read f r) ≡ f
  game_back_lem = ap₂ (λ (x : Game) (y : Stores). file x y) game_is stores_are ∙ file_again

-- Every file that `write` accepts is sound, given a metadata body that the writer of metadata can give.
-- Assumes nothing.
use mathlib.Core.Path.{◌≡◌, refl, sym, ap, ◌∙◌}
use mathlib.Core.Bool.{Bool, true, false}
use mathlib.Core.List.{List, [], ◌∷◌}
use Prim.Native.Nat.{ℕ, zero, suc, ◌+◌, ◌-◌, ◌*◌, ◌^◌, ◌<◌}
use native.Mathlib.Omega.{arith}
use native.Mathlib.Decide.{dec_lt}
use borrow.Author.Tests.{lt-ltb, le-ltb}
use lib.ListN.{get_or}
use Rattle.wire.specs.Wire.{ranged, keep}
use Rattle.format.specs.Mark.{yes as marked}
use Rattle.format.specs.declared.version.Version.{Version}
use Rattle.layout.specs.Columns.{chosen}
use Rattle.layout.specs.Payloads.{entries_of, listed, payload_size}
use Rattle.codes.specs.Blocks.{block_count, used}
use Rattle.ending.specs.End.{end_wrong}
use Rattle.ending.specs.Tail.{tail_of}
use Rattle.start.proofs.Blocks.{length_start_block}
use Rattle.game.specs.Stores.{Stores}
use Rattle.ser.specs.Write.{given_bytes, entries, file, judged, refusal}
use Rattle.ser.proofs.Outcomes.{not_refused}
use Rattle.frames.specs.Judge.{refusals}
use Rattle.format.specs.Refusal.{lowest}
use Rattle.format.proofs.Refusals.{passed, lowest_after, lowest_first}
use Rattle.frames.proofs.Accepted.{numbered}
use Rattle.game.specs.declared.Game.{Game}
use Rattle.ser.proofs.Sound.{length_fits}
use Rattle.grammar.specs.WellFormed.{anyhow}
use Rattle.grammar.specs.Productions.{used_in}
use Rattle.grammar.specs.Sound.{table_for, SoundEvents, Metadata, Sound}
use Rattle.law_tree.specs.Tree.{blocks_of, replay_of}
use Rattle.law_tree.proofs.Same.{same, block_at}
use Rattle.law_tree.proofs.Good.{Bytes, Taken, good}

-- the blocks' codes are the actual size
used_from : (codes : List ℕ) (actual i n : ℕ) → i + n ≡ block_count actual → used_in (ranged (λ b. block_at codes actual b ∷ []) i n) ≡ actual - 512 * i
unfolding ranged used_in block_count
used_from codes actual i zero e = omega arith
used_from codes actual i (suc n) e =
    let more = used_from codes actual (i + 1) n (omega arith) in
    elim (dec_lt 512 (actual - 512 * i)) [
      | yes l ↦ let u : used actual i ≡ 512 = unfold used in rw (lt-ltb 512 (actual - 512 * i) l) in omega arith
      | no l ↦ let u : used actual i ≡ actual - 512 * i = unfold used in rw (le-ltb 512 (actual - 512 * i) (omega arith)) in omega arith
    ]

used_all : (given : Bool) (codes : List ℕ) (actual : ℕ) → given ≡ true → used_in (blocks_of given codes actual) ≡ actual
unfolding blocks_of keep
used_all given codes actual e = rw e (let u = used_from codes actual 0 (block_count actual) (omega arith) in omega arith)

-- without codes the table says nothing of their size
no_codes : (v : Version) (n a b : ℕ) → entries_of v n false a ≡ entries_of v n false b
unfolding entries_of chosen listed payload_size
no_codes v n a b = refl

table_is_lem : (v : Version) (n : ℕ) (given : Bool) (codes : List ℕ) (actual : ℕ) → entries_of v n given actual ≡ entries_of v n given (used_in (blocks_of given codes actual))
table_is_lem v n true codes actual = ap (entries_of v n true) (sym (used_all true codes actual refl))
table_is_lem v n false codes actual = no_codes v n actual _

none_given : (given : Bool) (codes : List ℕ) (actual : ℕ) → given ≡ false → blocks_of given codes actual ≡ []
unfolding blocks_of keep
none_given given codes actual e = rw e

module _ (g : Game) (s : Stores) (t : Taken anyhow g s) where
  tables : entries g s ≡ table_for g.frames.version (marked g.codes_given) (replay_of g s)
  unfolding replay_of
  tables =
      ap (λ (n : ℕ). entries_of g.frames.version n (marked g.codes_given) g.actual_size) (sym (length_start_block g.frames.version g.start s.template))
      ∙ table_is_lem g.frames.version _ (marked g.codes_given) s.codes g.actual_size

  events_sound : SoundEvents (file g s)
  unfolding file replay_of
  events_sound = record {
    version = g.frames.version;
    listed = marked g.codes_given;
    replay = replay_of g s;
    tail = tail_of (marked g.metadata_given) s.metadata;
    accepted = t.passed.frames.version;
    well = good anyhow g s t;
    unlisted = none_given (marked g.codes_given) s.codes g.actual_size;
    fits = rw (← tables, ← same g s) (length_fits t.passed);
    file_is = rw (← tables, ← same g s);
  }

  pub written_sound : (marked g.metadata_given ≡ true → Metadata s.metadata) → Sound (file g s)
  unfolding events_sound
  written_sound m = record { events = events_sound; proper = record { given = marked g.metadata_given; body = s.metadata; metadata = m; tail_is = refl } }

-- ---- a game that `write` does not refuse

end_right : (g : Game) (s : Stores) → lowest (judged g s) ≡ 0 → end_wrong g.frames.version g.end g.double_end ≡ false
unfolding judged
end_right g s e =
    let a = given_bytes g.codes_given s.codes in
    let b = given_bytes g.metadata_given s.metadata in
    let first : lowest (refusals g.frames s.lent a b) ≡ 0 = lowest_first _ _ e in
    let r1 = (passed _ _ _ (sym (lowest_after (refusals g.frames s.lent a b) _ (numbered g.frames s.lent a b) first) ∙ e)).1 in
    (passed _ _ _ (passed _ _ _ (passed _ _ _ r1).1).1).0

-- whatever its ports' order; ids and version are numbers of four bytes and of one, as their types say
pub taken : (g : Game) (s : Stores) (room : ℕ) → refusal g s room ≡ 0 → ((i : ℕ) → get_or s.lent.cells.ids i 0 < 2 ^ 32) → Bytes g.frames.version → Taken anyhow g s
unfolding refusal
taken g s room e ids bytes =
    let p = not_refused g s room e in
    record { passed = p; end = end_right g s (lowest_first (judged g s) _ e); order = p.frames.ports.distinct; ids = ids; bytes = bytes }

-- every file that `write` gives is sound
pub sound : (g : Game) (s : Stores) (room : ℕ) → refusal g s room ≡ 0 → ((i : ℕ) → get_or s.lent.cells.ids i 0 < 2 ^ 32) → Bytes g.frames.version
    → (marked g.metadata_given ≡ true → Metadata s.metadata) → Sound (file g s)
sound g s room e ids bytes m = written_sound g s (taken g s room e ids bytes) m

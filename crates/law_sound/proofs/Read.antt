-- How sound events are read: its walk, its events, its version, its tail; and so it is refused by no number before 19.
-- Assumes nothing.
use Prim.Native.Nat.{ℕ}
use mathlib.Core.Path.{◌≡◌, ap, ◌∙◌}
use mathlib.Core.Bool.{true, false}
use mathlib.Core.List.{List, [], ◌∷◌}
use native.Mathlib.Omega.{arith}
use borrow.Author.Tests.{le-ltb}
use lib.ListN.{length, get_or, take, drop}
use Rattle.format.specs.File.{Entry, Ev, Fresh, Listed}
use Rattle.format.specs.Refusal.{lowest}
use Rattle.format.specs.Version.{version}
use Rattle.format.specs.declared.version.Version.{Version}
use Rattle.layout.proofs.Entries.{fresh_entries}
use Rattle.start.proofs.Lengths.{at_least}
use Rattle.head.specs.Table.{stop_of, all_present, table_of}
use Rattle.de.specs.Walk.{walk_of}
use Rattle.de.specs.Numbers.{walk_numbers}
use Rattle.de.specs.Cut.{events_read}
use Rattle.de.specs.declared.Walked.{Walked}
use Rattle.de.proofs.EveryCut.{uncut_events, uncut_walk}
use Rattle.grammar.specs.Productions.{events_of, used_in}
use Rattle.grammar.specs.WellFormed.{anyhow}
use Rattle.grammar.specs.Sound.{table_for, SoundEvents}
use Rattle.read_judge.specs.Found.{opens_wrong, version_said, version_of, early_refusal}
use Rattle.read_judge.specs.Inner.{WalkDone}
use Rattle.law_sound.proofs.Listed.{all_listed}
use Rattle.read_judge.proofs.Places as parts

-- the version that a block says
says : (v : Version) (b : List ℕ) → take 3 b ≡ v.major ∷ v.minor ∷ v.patch ∷ [] → version (get_or b 0 0) (get_or b 1 0) (get_or b 2 0) ≡ v
says v [] e = let n = ap length e in absurd (omega arith)
says v (x ∷ []) e = let n = ap length e in absurd (omega arith)
says v (x ∷ y ∷ []) e = let n = ap length e in absurd (omega arith)
says v (x ∷ y ∷ z ∷ b) e =
    let byte : (k : ℕ) → get_or (x ∷ y ∷ z ∷ []) k 0 ≡ get_or (v.major ∷ v.minor ∷ v.patch ∷ []) k 0 = λ k. ap (λ (l : List ℕ). get_or l k 0) e in
    λ i. version (byte 0 i) (byte 1 i) (byte 2 i)

module _ (f : List ℕ) (x : SoundEvents f) where
  abbrev pub t : List Entry
  t = table_for x.version x.listed x.replay

  abbrev pub es : List Ev
  es = events_of x.version x.replay

  fresh : Fresh [] t
  fresh = fresh_entries x.version (length x.replay.block) x.listed (used_in x.replay.codes) x.well.short

  listed : Listed t es
  listed = all_listed x.version anyhow x.listed x.replay x.well x.unlisted

  pub events_are : events_read f ≡ es
  events_are = ap events_read x.file_is ∙ uncut_events t es x.tail fresh listed x.fits

  pub walk_done : WalkDone f
  walk_done = ap (λ (g : List ℕ). (walk_numbers (walk_of g)).kind) x.file_is ∙ ap (λ (w : Walked). (walk_numbers w).kind) (uncut_walk t es x.tail fresh listed x.fits)

  pub present : all_present f ≡ true
  present = ap all_present x.file_is ∙ parts.whole t es x.tail fresh x.fits

  pub table_is_lem : table_of f ≡ t
  table_is_lem = ap table_of x.file_is ∙ parts.table_is_lem t es x.tail fresh x.fits

  pub tail_is : drop (stop_of f) f ≡ x.tail
  tail_is = ap (λ (g : List ℕ). drop (stop_of g) g) x.file_is ∙ parts.tail_is t es x.tail fresh x.fits

  pub version_is : version_of f ≡ x.version
  unfolding version_said events_of
  version_is = ap version_said events_are ∙ says x.version x.replay.block x.well.version

  opens : opens_wrong (events_read f) ≡ false
  unfolding opens_wrong events_of
  opens = rw events_are (le-ltb (length x.replay.block) 4 (omega (arith, x.well.block, at_least x.version)))

  pub none_early : early_refusal f ≡ 0
  unfolding early_refusal lowest
  none_early = rw (walk_done, opens, version_is, x.accepted)

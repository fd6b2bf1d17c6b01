-- The ends stand in their version's payload table, with the size that it gives them.
-- Assumes nothing.
use mathlib.Core.Path.{refl, sym, ◌∙◌}
use mathlib.Core.Bool.{Bool}
use mathlib.Core.List.{List, [], ◌∷◌}
use Prim.Native.Nat.{ℕ}
use lib.Dec.{lit<}
use Rattle.wire.specs.Wire.{keep}
use Rattle.format.specs.Mark.{yes}
use Rattle.format.specs.File.{Ev, Listed}
use Rattle.format.specs.declared.version.Version.{Version}
use Rattle.format.specs.declared.event.Event.TheVariants as event
use Rattle.format.proofs.Files.{listed_keep}
use Rattle.layout.specs.Payloads.{listed, payload_size, entries_of}
use Rattle.layout.proofs.Entries.{entry_at}
use Rattle.ending.specs.End.{end_of, end_events}
use Rattle.game.specs.declared.end.End.{End}
use Rattle.ending.proofs.Lengths.{length_end}

module _ (v : Version) (block : ℕ) (given : Bool) (actual : ℕ) (e : End) where
  -- an end, before other events that are listed
  end_listed : (es : List Ev) → Listed (entries_of v block given actual) es → Listed (entries_of v block given actual) (end_of v e ∷ es)
  unfolding Listed end_of listed payload_size
  end_listed es r =
      let s = entry_at v block given actual 3 event.GameEnd (lit< tt) refl refl in
      (s.0, s.1 ∙ sym (length_end v e), r)

  no_more : Listed (entries_of v block given actual) []
  unfolding Listed
  no_more = tt

  pub listed_ends : (double : ℕ) → Listed (entries_of v block given actual) (end_events v e double)
  unfolding end_events
  listed_ends double =
      let t = entries_of v block given actual in
      listed_keep t (yes e.given) (end_of v e ∷ keep (yes double) (end_of v e ∷ []))
      (λ g. end_listed _ (listed_keep t (yes double) (end_of v e ∷ []) (λ d. end_listed [] no_more)))

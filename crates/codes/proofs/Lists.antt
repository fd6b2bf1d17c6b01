-- The code blocks stand in their version's payload table, with the size that it gives them.
-- Assumes nothing.
use mathlib.Core.Path.{◌≡◌, refl, sym, ◌∙◌}
use mathlib.Core.Bool.{Bool, true}
use mathlib.Core.List.{List, [], ◌∷◌}
use Prim.Native.Nat.{ℕ, ◌*◌, ◌<◌}
use native.Mathlib.Omega.{arith}
use lib.Dec.{lit<}
use lib.ListN.{length}
use Rattle.format.specs.Version.{gte_of}
use Rattle.format.specs.Event.{code_of}
use Rattle.format.specs.File.{Listed}
use Rattle.format.specs.declared.version.Version.{Version}
use Rattle.format.specs.declared.event.Event.TheVariants as event
use Rattle.format.proofs.Files.{listed_ranged_below, listed_keep}
use Rattle.layout.specs.Payloads.{listed, payload_size, entries_of}
use Rattle.layout.proofs.Entries.{Sized, entry_at}
use Rattle.codes.specs.Blocks.{block_count, code_block, code_blocks, code_events}
use Rattle.codes.proofs.Lengths.{length_code_block}

module _ (v : Version) (block : ℕ) (given : Bool) (actual : ℕ) where
  splitter_listed : given ≡ true → gte_of v 3 3 ≡ true → Sized v block given actual (code_of event.MessageSplitter) 516
  unfolding listed payload_size
  splitter_listed g h = entry_at v block given actual 8 event.MessageSplitter (lit< tt) refl (rw (g, h))

  module _ (codes : List ℕ) where
    block_listed : (b : ℕ) → given ≡ true → (gte_of v 3 3 ≡ true) × (length codes ≡ 512 * block_count actual) → b < block_count actual
        → Listed (entries_of v block given actual) (code_block codes actual b ∷ [])
    unfolding Listed code_block
    block_listed b g h l =
        let s = splitter_listed g h.0 in
        (s.0, s.1 ∙ sym (length_code_block codes actual h.1 b l), tt)

    pub listed_codes : (given ≡ true → (gte_of v 3 3 ≡ true) × (length codes ≡ 512 * block_count actual))
        → Listed (entries_of v block given actual) (code_events given codes actual)
    unfolding code_events
    listed_codes h =
        listed_keep (entries_of v block given actual) given (code_blocks codes actual)
        (λ g. listed_ranged_below (entries_of v block given actual) (λ b. code_block codes actual b ∷ []) 0 (block_count actual) (λ b l. block_listed b g (h g) (omega arith)))

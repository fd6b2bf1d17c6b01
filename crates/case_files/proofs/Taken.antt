-- What a file's events, as they are taken, tell of the replay that it holds: events that are no replay's hold none, and those of a well-formed replay hold no other.
-- Assumes nothing.
use mathlib.Core.Path.{◌≡◌, sym, ap, subst, ◌∙◌}
use mathlib.Core.Bool.{Bool, true, false, ◌&&◌}
use mathlib.Core.List.{List, [], ◌∷◌}
use Prim.Native.Nat.{ℕ}
use borrow.Author.Tests.{ltb-true}
use lib.Dec.{ltb}
use lib.ListN.{length}
use Rattle.format.specs.File.{Ev}
use Rattle.format.specs.declared.version.Version.{Version}
use Rattle.format.proofs.Versions.{no_way}
use Rattle.de.specs.Cut.{events_read}
use Rattle.head.specs.Table.{all_present}
use Rattle.grammar.specs.Productions.{Replay, events_of, used_in}
use Rattle.grammar.specs.WellFormed.{Each, ascending, WellFormed}
use Rattle.grammar.specs.Readable.{Readable}
use Rattle.grammar.specs.Whole.{is_replay}
use Rattle.grammar.proofs.Tests.{both}
use Rattle.grammar.proofs.Exactly.{Byte}
use Rattle.grammar.proofs.Unique.{unique}
use Rattle.grammar.proofs.Whole.{whole}
use Rattle.known.specs.Known.{taken}
use Rattle.read_outline.specs.Listed.{listed_right}
use Rattle.read_judge.specs.Found.{version_said, version_of, gecko_span, Found}

-- ---- bytes, as a test

unfoldable pub are_bytes : List ℕ → Bool
are_bytes [] = true
are_bytes (b ∷ bs) = ltb b 256 && are_bytes bs

unfoldable pub have_bytes : List Ev → Bool
have_bytes [] = true
have_bytes (e ∷ es) = are_bytes e.payload && have_bytes es

each_byte : (bs : List ℕ) → are_bytes bs ≡ true → Each Byte bs
unfolding are_bytes Each
each_byte [] q = tt
each_byte (b ∷ bs) q = let (x, y) = both (ltb b 256) (are_bytes bs) q in (ltb-true b 256 x, each_byte bs y)

each_payload : (es : List Ev) → have_bytes es ≡ true → Each (λ e. Each Byte e.payload) es
unfolding have_bytes Each
each_payload [] q = tt
each_payload (e ∷ es) q = let (x, y) = both (are_bytes e.payload) (have_bytes es) q in (each_byte e.payload x, each_payload es y)

module _ (f : List ℕ) where
  -- event data that is not whole
  pub not_whole : all_present f ≡ false → Found f → ⊥
  not_whole q x = no_way (sym q ∙ x.whole)

  -- events that are no replay's
  pub no_replay : (es : List Ev) → events_read f ≡ es → have_bytes (taken (version_said es) es) ≡ true → is_replay (version_said es) ascending (taken (version_said es) es) ≡ false → Found f → ⊥
  no_replay es e b q x =
      let bytes = subst (λ (l : List Ev). Each (λ e. Each Byte e.payload) (taken (version_said l) l)) (sym e) (each_payload (taken (version_said es) es) b) in
      let holds = (whole (version_of f) ascending (taken (version_of f) (events_read f)) bytes).1 (record { replay = x.replay; well = x.readable.well; events_are = x.events_are }) in
      no_way (sym q ∙ subst (λ (l : List Ev). is_replay (version_said l) ascending (taken (version_said l) l) ≡ true) e holds)

  -- a well-formed replay with these events, of this version, is the one that is held
  pub no_other : (v : Version) (r : Replay) → version_of f ≡ v → WellFormed v ascending r → taken v (events_read f) ≡ events_of v r → (x : Found f) → x.replay ≡ r
  no_other v r vis well e x =
      unique v ascending ascending x.replay r (subst (λ (w : Version). WellFormed w ascending x.replay) vis x.readable.well) well
      (ap (λ (w : Version). events_of w x.replay) (sym vis) ∙ sym x.events_are ∙ ap (λ (w : Version). taken w (events_read f)) vis ∙ e)

  -- so it can be read back, and codes are listed as it says
  pub can_be_read : (v : Version) (r : Replay) → version_of f ≡ v → WellFormed v ascending r → taken v (events_read f) ≡ events_of v r → Found f → Readable v r
  can_be_read v r vis well e x =
      subst (Readable v) (no_other v r vis well e x) (subst (λ (w : Version). Readable w x.replay) vis x.readable)

  pub lists_right : (v : Version) (r : Replay) → version_of f ≡ v → WellFormed v ascending r → taken v (events_read f) ≡ events_of v r → Found f
      → listed_right v (gecko_span f) (length r.codes) (used_in r.codes) ≡ true
  lists_right v r vis well e x =
      subst (λ (s : Replay). listed_right v (gecko_span f) (length s.codes) (used_in s.codes) ≡ true) (no_other v r vis well e x)
      (subst (λ (w : Version). listed_right w (gecko_span f) (length x.replay.codes) (used_in x.replay.codes) ≡ true) vis x.listed)

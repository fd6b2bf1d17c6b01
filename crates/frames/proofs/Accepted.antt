-- What is known of an accepted input: from the judge's answer 0, that refusals 1 to 7 do not apply, and what that says of each part.
-- Assumes nothing.
use mathlib.Core.Path.{◌≡◌}
use mathlib.Core.Bool.{false}
use Prim.Native.Nat.{ℕ, ◌≤◌, ◌<◌}
use borrow.Author.Tests.{ltb-false, not-false}
use lib.Dec.{lit<}
use lib.ListN.{get_or}
use Rattle.format.specs.Version.{accepted_of}
use Rattle.format.specs.Refusal.{lowest}
use Rattle.format.proofs.Refusals.{Numbered, passed}
use Rattle.format.proofs.Tests.{one_passed, rest_each}
use Rattle.layout.specs.declared.columns.Family.{Family}
use Rattle.layout.specs.declared.columns.Family.TheVariants.{Item}
use Rattle.game.specs.Stores.{Lent, Cells, Offsets, offset_families, cells_of, offsets_of}
use Rattle.frames.specs.Judge.{too_many, exceeds, stores_misfit, cells_exceed, misleads, offsets_mislead, refusals}
use Rattle.players.specs.Inner.{Modest}
use Rattle.frames.specs.Inner.{Stored, Accepted}
use Rattle.game.specs.declared.frames.Frames.{Frames}
use Rattle.frames.proofs.CellLaws.{family_none, ids_fit, stores_fit, stored}
use Rattle.frames.proofs.OffsetLaws.{placed}
use Rattle.players.proofs.PresenceLaws.{presence_even, covered}
use Rattle.frames.proofs.PortLaws.{ported}

-- ---- 2: the counts, and the bytes of codes and metadata
pub counted : (f : Frames) (codes metadata : ℕ) → too_many f codes metadata ≡ false → Modest f × (codes ≤ 16777216) × (metadata ≤ 65535)
unfolding too_many
counted f codes metadata e =
    let (frames, e1) = one_passed _ _ e in
    let (items, e2) = one_passed _ _ e1 in
    let (fods, e3) = one_passed _ _ e2 in
    let (whispys, e4) = one_passed _ _ e3 in
    let (stadiums, e5) = one_passed _ _ e4 in
    let (coded, e6) = one_passed _ _ e5 in
    let (body, e7) = one_passed _ _ e6 in (
      record {
        frames = ltb-false _ _ frames;
        items = ltb-false _ _ items;
        fods = ltb-false _ _ fods;
        whispys = ltb-false _ _ whispys;
        stadiums = ltb-false _ _ stadiums;
      },
      ltb-false _ _ coded,
      ltb-false _ _ body,
    )

-- ---- 3 and 4: each store
stores_of : (f : Frames) (c : Cells) → stores_misfit f c ≡ false → cells_exceed f c ≡ false → (family : Family) → Stored f family (cells_of c family)
unfolding cells_exceed
stores_of f c m e family =
    stored f family (cells_of c family) (stores_fit f c m family) (family_none (λ family. exceeds f family (cells_of c family)) e family)

-- ---- 5: the offsets of the k-th of the families that have some
offsets_none : (f : Frames) (o : Offsets) → offsets_mislead f o ≡ false → (k : ℕ) → k < 4 → misleads f (get_or offset_families k Item) (offsets_of o (get_or offset_families k Item)) ≡ false
unfolding offsets_mislead
offsets_none f o e = rest_each Item (λ family. misleads f family (offsets_of o family)) offset_families e

-- ---- all of them
-- none is numbered 0, so that further refusals may follow them
pub numbered : (f : Frames) (s : Lent) (codes metadata : ℕ) → Numbered (refusals f s codes metadata)
unfolding Numbered refusals
numbered f s codes metadata = (lit< tt, (lit< tt, (lit< tt, (lit< tt, (lit< tt, (lit< tt, (lit< tt, tt)))))))

module _ (f : Frames) (s : Lent) (codes metadata : ℕ) (e : lowest (refusals f s codes metadata) ≡ 0) where
  pub accepted : Accepted f s
  unfolding refusals
  accepted =
      let (new, e1) = passed _ _ _ e in
      let (many, e2) = passed _ _ _ e1 in
      let (misfit, e3) = passed _ _ _ e2 in
      let (exceed, e4) = passed _ _ _ e3 in
      let (mislead, e5) = passed _ _ _ e4 in
      let (absent, e6) = passed _ _ _ e5 in
      let (ports, e7) = passed _ _ _ e6 in
      let at = offsets_none f s.offsets mislead in
      record {
        version = not-false (accepted_of f.version) new;
        modest = (counted f codes metadata many).0;
        ids = ids_fit f s.cells misfit;
        stores = stores_of f s.cells misfit exceed;
        items = placed f _ s.offsets.items (at 0 (lit< tt));
        fods = placed f _ s.offsets.fods (at 1 (lit< tt));
        whispys = placed f _ s.offsets.whispys (at 2 (lit< tt));
        stadiums = placed f _ s.offsets.stadiums (at 3 (lit< tt));
        presence = record { even = presence_even f s.presence absent; right = absent; covers = covered f s.presence absent };
        ports = ported f ports;
      }

  pub few_bytes : (codes ≤ 16777216) × (metadata ≤ 65535)
  unfolding refusals
  few_bytes =
      let (new, e1) = passed _ _ _ e in
      let (many, e2) = passed _ _ _ e1 in
      let (modest, coded, body) = counted f codes metadata many in
      (coded, body)

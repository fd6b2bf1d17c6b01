-- A game is accepted exactly where its head, its frames and its end are.
-- Assumes nothing.
use mathlib.Core.Path.{◌≡◌, refl, sym, ◌∙◌}
use mathlib.Core.Bool.{false}
use Prim.Native.Nat.{ℕ, ◌≤◌}
use native.Mathlib.Omega.{arith}
use borrow.Author.Tests.{le-ltb}
use Rattle.format.specs.Refusal.{lowest}
use Rattle.format.proofs.Refusals.{skip, none, passed, lowest_first, lowest_after}
use Rattle.format.proofs.Tests.{one_skip, one_none}
use Rattle.game.specs.Stores.{Lent, Stores}
use Rattle.game.specs.declared.frames.Frames.{Frames}
use Rattle.game.specs.declared.Game.{Game}
use Rattle.frames.specs.Judge.{too_many, refusals}
use Rattle.players.specs.Inner.{Modest}
use Rattle.frames.proofs.Accepted.{counted, numbered}
use Rattle.ser.specs.Write.{given_bytes, judged}
use Rattle.ser.proofs.Outcomes.{passes}
use Rattle.live.specs.Head.{head_judged}
use Rattle.live.specs.End.{end_judged}
use Rattle.live.proofs.Laws.{head_passes, end_passes, new_none}
use Rattle.law_live.specs.Recording.{opening_of, closing_of}

few : (f : Frames) (codes metadata : ℕ) → Modest f → codes ≤ 16777216 → metadata ≤ 65535 → too_many f codes metadata ≡ false
unfolding too_many
few f codes metadata m c d =
    sym (one_skip _ _ _ (le-ltb 1048576 _ m.frames)
    (one_skip _ _ _ (le-ltb 4194304 _ m.items)
    (one_skip _ _ _ (le-ltb 1048576 _ m.fods)
    (one_skip _ _ _ (le-ltb 1048576 _ m.whispys)
    (one_skip _ _ _ (le-ltb 1048576 _ m.stadiums)
    (one_skip _ _ _ (le-ltb 16777216 codes c)
    (one_skip _ _ _ (le-ltb 65535 metadata d) one_none)))))))

-- frames that are accepted with some bytes of codes and metadata are so with any others that are few enough
pub frames_judged : (f : Frames) (s : Lent) (a b codes metadata : ℕ) → lowest (refusals f s a b) ≡ 0 → codes ≤ 16777216 → metadata ≤ 65535 → lowest (refusals f s codes metadata) ≡ 0
unfolding refusals
frames_judged f s a b codes metadata e c d =
    let (one, r1) = passed _ _ _ e in
    let (two, r2) = passed _ _ _ r1 in
    sym (skip 1 _ _ _ one (skip 2 _ _ _ (few f codes metadata (counted f a b two).0 c d) (sym r2)))

module _ (g : Game) (s : Stores) where
  pub all_judged : lowest (head_judged (opening_of g s)) ≡ 0 → lowest (refusals g.frames s.lent 0 0) ≡ 0 → lowest (end_judged (closing_of g s)) ≡ 0 → lowest (judged g s) ≡ 0
  unfolding judged
  all_judged x y z =
      let h = head_passes (opening_of g s) x in
      let c = end_passes (closing_of g s) z in
      let a = given_bytes g.codes_given s.codes in
      let b = given_bytes g.metadata_given s.metadata in
      lowest_after (refusals g.frames s.lent a b) _ (numbered g.frames s.lent a b) (frames_judged g.frames s.lent 0 0 a b y h.codes_few c.metadata_few)
      ∙ sym (skip 8 _ _ _ h.block (skip 9 _ _ _ h.start (skip 10 _ _ _ h.coded (skip 11 _ _ _ c.ends none))))

  module _ (e : lowest (judged g s) ≡ 0) where
    frames_first : lowest (refusals g.frames s.lent (given_bytes g.codes_given s.codes) (given_bytes g.metadata_given s.metadata)) ≡ 0
    unfolding judged
    frames_first = lowest_first _ _ e

    pub runs_judged : lowest (refusals g.frames s.lent 0 0) ≡ 0
    runs_judged = frames_judged g.frames s.lent _ _ 0 0 frames_first (omega arith) (omega arith)

    pub head_judged_lem : lowest (head_judged (opening_of g s)) ≡ 0
    unfolding head_judged
    head_judged_lem =
        let p = passes g s e in
        sym (skip 1 _ _ _ (new_none g.frames.version refl p.frames.version)
        (skip 2 _ _ _ (le-ltb 16777216 _ p.codes_few)
        (skip 8 _ _ _ p.block (skip 9 _ _ _ p.start (skip 10 _ _ _ p.coded none)))))

    pub end_judged_lem : lowest (end_judged (closing_of g s)) ≡ 0
    unfolding end_judged judged
    end_judged_lem =
        let p = passes g s e in
        let a = given_bytes g.codes_given s.codes in
        let b = given_bytes g.metadata_given s.metadata in
        let (eight, r1) = passed _ _ _ (sym (lowest_after (refusals g.frames s.lent a b) _ (numbered g.frames s.lent a b) frames_first) ∙ e) in
        let (nine, r2) = passed _ _ _ r1 in
        let (ten, r3) = passed _ _ _ r2 in
        let (eleven, r4) = passed _ _ _ r3 in
        sym (skip 1 _ _ _ (new_none g.frames.version refl p.frames.version) (skip 2 _ _ _ (le-ltb 65535 _ p.metadata_few) (skip 11 _ _ _ eleven none)))

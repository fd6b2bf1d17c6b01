-- A 3.18 file made newer holds a replay where the 3.18 one does, and what it holds says the same.
-- Assumes nothing.
use Prim.Native.Nat.{ℕ, ◌+◌, ◌*◌, ◌%◌, ◌<◌}
use mathlib.Core.Path.{◌≡◌, refl, sym, ap, subst, ◌∙◌}
use mathlib.Core.Bool.{Bool, true, cond}
use mathlib.Core.List.{List}
use native.Mathlib.Omega.{arith}
use lib.Dec.{eqb}
use lib.ListN.{length, get_or}
use Rattle.format.specs.Version.{accepted_of, above, gte_of, has_codes}
use Rattle.format.specs.declared.version.Version.{Version}
use Rattle.layout.specs.Columns.{widths_of}
use Rattle.layout.specs.declared.columns.Family.{Family}
use Rattle.game.specs.Frames.{rows_of, slot_blocks}
use Rattle.game.specs.Stores.{cells_of}
use Rattle.game.specs.declared.frames.Frames.{Frames}
use Rattle.head.specs.Table.{all_present}
use Rattle.de.specs.Cut.{events_read}
use Rattle.grammar.specs.Productions.{Replay, events_of, used_in}
use Rattle.grammar.specs.Readable.{Readable}
use Rattle.columns.specs.Columns.{frames_read, lent_read}
use Rattle.read_outline.specs.Listed.{listed_right}
use Rattle.read_judge.specs.Found.{version_of, gecko_span, Found}
use Rattle.known.specs.Known.{is_newer}
use Rattle.known.proofs.Newest.{same_events, has_gate}
use Rattle.law_known.specs.Made.{last, Made, made_replay, SaysAgain}
use Rattle.law_known.specs.Shown.{number_in, payload_at}
use Rattle.law_known.proofs.Made.{made_taken, made_replay_lem, made_says}
use Rattle.law_known.proofs.Shown.{shown}

last_accepted : accepted_of last ≡ true
unfolding accepted_of above
last_accepted = refl

last_codes : has_codes last ≡ true
unfolding gte_of above
last_codes = refl

module _ (f g more : List ℕ) (x : Found f) (old : version_of f ≡ last) (newer : is_newer (version_of g) ≡ true) (fits : length x.replay.block + length more < 65536)
    (m : Made (version_of g) more (events_read f) (events_read g)) where
  abbrev v : Version
  v = version_of g

  abbrev r : Replay
  r = x.replay

  events : events_read f ≡ events_of last r
  events =
      sym (same_events (version_of f) (events_read f) (ap accepted_of old ∙ last_accepted)) ∙ x.events_are ∙ ap (λ (w : Version). events_of w r) old

  readable : Readable last r
  readable = subst (λ (w : Version). Readable w r) old x.readable

  codes_listed : gecko_span g ≡ gecko_span f → listed_right v (gecko_span g) (length r.codes) (used_in r.codes) ≡ true
  unfolding listed_right
  codes_listed same =
      (λ i. cond (codes i) (given (same i)) bare) ∙ ap (λ (w : Version). listed_right w (gecko_span f) (length r.codes) (used_in r.codes)) (sym old) ∙ x.listed
    where
      given : ℕ → Bool
      given span = cond (eqb span 0) (eqb (length r.codes) 0) (eqb span (1 + used_in r.codes % 65536))

      bare : Bool
      bare = eqb (length r.codes) 0

      codes : has_codes v ≡ has_codes last
      codes = has_gate v newer 3 (omega arith) ∙ sym last_codes

  -- with its event data whole, and 3D listed alike, it holds a replay
  pub made_found : all_present g ≡ true → gecko_span g ≡ gecko_span f → Found g
  made_found whole same = record {
    replay = made_replay v more r;
    whole = whole;
    events_are = made_taken v newer more r readable fits (events_read f) (events_read g) events m;
    readable = made_replay_lem v newer more r readable fits (events_read f) (events_read g) events m;
    listed = codes_listed same;
  }

  -- and whatever it holds says what the 3.18 file says
  pub found_says : (y : Found g) → SaysAgain v r y.replay
  found_says y = made_says v newer more r readable fits (events_read f) (events_read g) events m y.replay y.readable y.events_are

-- the columns of a newer file show what stands at 3.18's places in its own payloads
module _ (g : List ℕ) (x : Found g) (newer : is_newer (version_of g) ≡ true) where
  abbrev ours : Frames
  ours = frames_read (version_of g) x.replay.frames

  pub file_shown : (family : Family) (k c i : ℕ) → k < slot_blocks ours family → c < length (widths_of family (version_of g)) → i < rows_of ours family
      → get_or (cells_of (lent_read (version_of g) x.replay.frames).cells family) ((k * length (widths_of family (version_of g)) + c) * rows_of ours family + i) 0
      ≡ number_in family (payload_at family ours (events_read g) k i) c
  file_shown = shown (version_of g) newer (events_read g) x.replay x.events_are

-- The events of a well-formed replay have known codes and just the bytes that are known, so that nothing is lost of them.
-- Assumes nothing.
use Prim.Native.Nat.{ℕ, ◌+◌}
use mathlib.Core.Path.{◌≡◌, refl, sym, ◌∙◌}
use mathlib.Core.Bool.{true}
use mathlib.Core.List.{List, [], ◌∷◌, ◌++◌, map}
use native.Mathlib.Omega.{arith}
use lib.ListN.{length, length-append}
use lib.Seq.{take_at}
use Rattle.wire.specs.Wire.{be}
use Rattle.wire.proofs.Laws.{length_be}
use Rattle.format.specs.Event.{code_of}
use Rattle.format.specs.File.{Ev}
use Rattle.format.specs.Refusal.{one_of}
use Rattle.format.specs.declared.event.Event.TheVariants.{GeckoCodes}
use Rattle.format.specs.declared.version.Version.{Version}
use Rattle.layout.specs.Columns.{has_family}
use Rattle.layout.specs.Payloads.{event_of, head_size, record_size, end_size}
use Rattle.layout.specs.declared.columns.Family.{Family}
use Rattle.layout.specs.declared.columns.Family.TheVariants.{Pre, Post, FrameStart, Item, FrameEnd, FodPlatform, DreamlandWhispy, StadiumTransformation}
use Rattle.grammar.specs.Productions.{Player, Frame, Block, Replay, row_event, pre_event, post_event, events_of_frame, events_of_frames, block_event, codes_events, end_event}
use Rattle.grammar.specs.WellFormed.{Each, Order, GoodPlayer, GoodRow, GoodFrame, GoodCodes, WellFormed}
use Rattle.grammar.specs.Machine.{family_of, on_family}
use Rattle.grammar.proofs.Each.{each_both, each_keep, each_none, each_more, each_one}
use Rattle.grammar.proofs.Takes.{family_is}
use Rattle.known.specs.Known.{is_known, known_size, front, known_of}
use Rattle.known.proofs.Codes.{known_one, unknown_one, known_family}
use Rattle.known.proofs.Fronts.{known_size_lem}
use Rattle.law_known.specs.Made.{longer, Extended, none, behind, mixed}

-- a known code, of whose payload so many bytes are known as there are, whatever stands behind them
pub record Exact (v : Version) (e : Ev) : Type 0 where
  pub known : is_known e.code ≡ true
  pub size : (p : List ℕ) → known_size v (record { code = e.code; payload = p }) ≡ length e.payload

each_map : {A B : Type 0} (P : A → Type 0) (Q : B → Type 0) (f : A → B) → ((x : A) → P x → Q (f x)) → (xs : List A) → Each P xs → Each Q (map f xs)
unfolding Each
each_map P Q f h [] x = tt
each_map P Q f h (a ∷ xs) x = (h a x.0, each_map P Q f h xs x.1)

module _ (v : Version) where
  -- ---- nothing is lost of such events, and nothing comes to them

  front_exact : (e : Ev) (more : List ℕ) → Exact v e → front v (longer e more) ≡ e
  front_exact e more x =
      let n = x.size (e.payload ++ more) in
      λ i. record { code = e.code; payload = take_at e.payload more (known_size v (longer e more)) (sym n) i }

  pub extended_known : {es ns : List Ev} → Extended es ns → Each (Exact v) es → known_of v ns ≡ es
  unfolding Each known_of
  extended_known none x = refl
  extended_known (behind {ns = ns} e more g) x = known_one v (longer e more) ns x.0.known ∙ (λ i. front_exact e more x.0 i ∷ extended_known g x.1 i)
  extended_known (mixed {ns = ns} e u g) x = unknown_one v e ns u ∙ extended_known g x

  -- ---- rows

  row_exact : (family : Family) (id : ℕ) (bytes : List ℕ) → 4 + length bytes ≡ record_size family v → Exact v (row_event family id bytes)
  row_exact family id bytes n = record {
    known = known_family (code_of (event_of family)) family (family_is family);
    size = λ p. known_size_lem v (record { code = code_of (event_of family); payload = p }) family (family_is family)
        ∙ sym (length-append (be 4 id) bytes ∙ omega (arith, length_be 4 id, n));
  }

  pre_exact : (id : ℕ) (p : Player) → GoodPlayer v p → Exact v (pre_event id p)
  pre_exact id p h = row_exact Pre id (p.port ∷ p.follower ∷ p.pre) (omega (arith, h.pre))

  post_exact : (id : ℕ) (p : Player) → GoodPlayer v p → Exact v (post_event id p)
  post_exact id p h = row_exact Post id (p.port ∷ p.follower ∷ p.post) (omega (arith, h.post))

  rows_exact : (family : Family) (id : ℕ) → head_size family ≡ 4 → (rows : List (List ℕ)) → Each (GoodRow v family) rows → Each (Exact v) (map (row_event family id) rows)
  rows_exact family id four rows h = each_map (GoodRow v family) (Exact v) (row_event family id) (λ b g. row_exact family id b (omega (arith, g.size, four))) rows h

  module _ (o : Order) where
    frame_exact : (f : Frame) → GoodFrame v o f → Each (Exact v) (events_of_frame v f)
    unfolding events_of_frame
    frame_exact f h =
        let pres = each_map (GoodPlayer v) (Exact v) (pre_event f.id) (pre_exact f.id) f.players h.players in
        let posts = each_map (GoodPlayer v) (Exact v) (post_event f.id) (post_exact f.id) f.players h.players in
        let start = each_keep (Exact v) (has_family v FrameStart) _ (λ has. each_one (Exact v) (row_event FrameStart f.id f.start) (row_exact FrameStart f.id f.start (omega (arith, h.start)))) in
        let end = each_keep (Exact v) (has_family v FrameEnd) _ (λ has. each_one (Exact v) (row_event FrameEnd f.id f.end) (row_exact FrameEnd f.id f.end (omega (arith, h.end)))) in
        each_both (Exact v) _ _ start
        (each_both (Exact v) _ _ pres
        (each_both (Exact v) _ _ (rows_exact FodPlatform f.id refl f.fods h.fods)
        (each_both (Exact v) _ _ (rows_exact DreamlandWhispy f.id refl f.whispys h.whispys)
        (each_both (Exact v) _ _ (rows_exact StadiumTransformation f.id refl f.stadiums h.stadiums)
        (each_both (Exact v) _ _ (rows_exact Item f.id refl f.items h.items) (each_both (Exact v) _ _ posts end))))))

    frames_exact : (fs : List Frame) → Each (GoodFrame v o) fs → Each (Exact v) (events_of_frames v fs)
    unfolding Each events_of_frames
    frames_exact [] h = tt
    frames_exact (f ∷ fs) h = each_both (Exact v) (events_of_frame v f) (events_of_frames v fs) (frame_exact f h.0) (frames_exact fs h.1)

  -- ---- codes and ends

  block_exact : (flag : ℕ) (b : Block) → length b.bytes ≡ 512 → Exact v (block_event flag b)
  unfolding is_known one_of known_size on_family family_of
  block_exact flag b n =
      let rest = be 2 b.used ++ (code_of GeckoCodes ∷ flag ∷ []) in
      record {
        known = refl;
        size = λ p. sym (length-append b.bytes rest ∙ omega (arith, n, length-append (be 2 b.used) (code_of GeckoCodes ∷ flag ∷ []), length_be 2 b.used));
      }

  codes_exact : (bs : List Block) → GoodCodes v bs → Each (Exact v) (codes_events bs)
  unfolding codes_events GoodCodes
  codes_exact [] h = each_none (Exact v)
  codes_exact (b ∷ []) h = each_one (Exact v) (block_event 1 b) (block_exact 1 b h.1)
  codes_exact (b ∷ c ∷ bs) h = each_more (Exact v) (block_event 0 b) (codes_events (c ∷ bs)) (block_exact 0 b h.0) (codes_exact (c ∷ bs) h.2)

  end_exact : (bytes : List ℕ) → length bytes ≡ end_size v → Exact v (end_event bytes)
  unfolding is_known one_of known_size on_family family_of
  end_exact bytes n = record { known = refl; size = λ p. sym n }

  -- ---- all events after GameStart

  pub others_exact : (o : Order) (r : Replay) → WellFormed v o r → Each (Exact v) (codes_events r.codes ++ (events_of_frames v r.frames ++ map end_event r.ends))
  others_exact o r w =
      let ends = each_map (λ bytes. length bytes ≡ end_size v) (Exact v) end_event end_exact r.ends w.ends in
      each_both (Exact v) _ _ (codes_exact r.codes w.codes) (each_both (Exact v) _ _ (frames_exact o r.frames w.frames) ends)

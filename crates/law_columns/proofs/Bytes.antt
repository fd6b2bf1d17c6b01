-- Frames whose events have payloads of bytes are of bytes.
-- Assumes nothing.
use mathlib.Core.Path.{◌≡◌, refl, sym, subst, ◌∙◌}
use mathlib.Core.Bool.{Bool, true, false}
use mathlib.Core.List.{List, [], ◌∷◌, ◌++◌, map}
use Prim.Native.Nat.{ℕ, ◌<◌}
use lib.ListN.{length}
use Rattle.wire.specs.Wire.{be, keep}
use Rattle.format.specs.File.{Ev}
use Rattle.format.specs.declared.version.Version.{Version}
use Rattle.layout.specs.Columns.{has_family}
use Rattle.layout.specs.declared.columns.Family.{Family}
use Rattle.layout.specs.declared.columns.Family.TheVariants.{FrameStart, Item, FrameEnd, FodPlatform, DreamlandWhispy, StadiumTransformation}
use Rattle.grammar.specs.Productions.{Player, Frame, row_event, pre_event, post_event, events_of_frame, events_of_frames}
use Rattle.grammar.specs.WellFormed.{Each, Order, GoodFrame}
use Rattle.grammar.proofs.Each.{each_none, each_after}
use Rattle.grammar.proofs.Unique.{empty, no_start_lem, no_end}
use Rattle.law_columns.specs.Bytes.{AreBytes, BytePlayer, ByteFrame}

-- an event of bytes
abbrev pub ByteEvent : Ev → Type 0
ByteEvent e = AreBytes e.payload

each_before : {A : Type 0} (P : A → Type 0) (xs ys : List A) → Each P (xs ++ ys) → Each P xs
unfolding Each
each_before P [] ys h = tt
each_before P (x ∷ xs) ys h = (h.0, each_before P xs ys h.1)

rows_of_lem : (family : Family) (id : ℕ) (rows : List (List ℕ)) → Each ByteEvent (map (row_event family id) rows) → Each AreBytes rows
unfolding Each
rows_of_lem family id [] h = tt
rows_of_lem family id (b ∷ rows) h = (each_after (λ x. x < 256) (be 4 id) b h.0, rows_of_lem family id rows h.1)

players_of : (id : ℕ) (ps : List Player) → Each ByteEvent (map (pre_event id) ps) → Each ByteEvent (map (post_event id) ps) → Each BytePlayer ps
unfolding Each
players_of id [] h k = tt
players_of id (p ∷ ps) h k = (
  record {
    pre = (each_after (λ x. x < 256) (be 4 id) (p.port ∷ p.follower ∷ p.pre) h.0).1.1;
    post = (each_after (λ x. x < 256) (be 4 id) (p.port ∷ p.follower ∷ p.post) k.0).1.1;
  },
  players_of id ps h.1 k.1,
)

-- a row that a version may lack: then it is empty
one_of : (family : Family) (id : ℕ) (b : Bool) (row : List ℕ) → (b ≡ false → length row ≡ 0) → Each ByteEvent (keep b (row_event family id row ∷ [])) → AreBytes row
unfolding Each keep
one_of family id true row e h = each_after (λ x. x < 256) (be 4 id) row h.0
one_of family id false row e h = subst (λ (l : List ℕ). AreBytes l) (sym (empty row (e refl))) (each_none (λ x. x < 256))

module _ (v : Version) (o : Order) where
  frame_of_lem : (f : Frame) → GoodFrame v o f → Each ByteEvent (events_of_frame v f) → ByteFrame f
  unfolding events_of_frame
  frame_of_lem f g h =
      let starts = keep (has_family v FrameStart) (row_event FrameStart f.id f.start ∷ []) in
      let h1 = each_after ByteEvent starts _ h in
      let h2 = each_after ByteEvent (map (pre_event f.id) f.players) _ h1 in
      let h3 = each_after ByteEvent (map (row_event FodPlatform f.id) f.fods) _ h2 in
      let h4 = each_after ByteEvent (map (row_event DreamlandWhispy f.id) f.whispys) _ h3 in
      let h5 = each_after ByteEvent (map (row_event StadiumTransformation f.id) f.stadiums) _ h4 in
      let h6 = each_after ByteEvent (map (row_event Item f.id) f.items) _ h5 in
      let h7 = each_after ByteEvent (map (post_event f.id) f.players) _ h6 in
      record {
        start = one_of FrameStart f.id (has_family v FrameStart) f.start (λ e. g.start ∙ no_start_lem v e) (each_before ByteEvent starts _ h);
        players = players_of f.id f.players (each_before ByteEvent (map (pre_event f.id) f.players) _ h1) (each_before ByteEvent (map (post_event f.id) f.players) _ h6);
        fods = rows_of_lem FodPlatform f.id f.fods (each_before ByteEvent (map (row_event FodPlatform f.id) f.fods) _ h2);
        whispys = rows_of_lem DreamlandWhispy f.id f.whispys (each_before ByteEvent (map (row_event DreamlandWhispy f.id) f.whispys) _ h3);
        stadiums = rows_of_lem StadiumTransformation f.id f.stadiums (each_before ByteEvent (map (row_event StadiumTransformation f.id) f.stadiums) _ h4);
        items = rows_of_lem Item f.id f.items (each_before ByteEvent (map (row_event Item f.id) f.items) _ h5);
        end = one_of FrameEnd f.id (has_family v FrameEnd) f.end (λ e. g.end ∙ no_end v e) h7;
      }

  pub frames_in_bytes : (fs : List Frame) → Each (GoodFrame v o) fs → Each ByteEvent (events_of_frames v fs) → Each ByteFrame fs
  unfolding events_of_frames Each
  frames_in_bytes [] g h = tt
  frames_in_bytes (f ∷ fs) g h = (
    frame_of_lem f g.0 (each_before ByteEvent (events_of_frame v f) _ h),
    frames_in_bytes fs g.1 (each_after ByteEvent (events_of_frame v f) _ h),
  )

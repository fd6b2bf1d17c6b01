-- What is shown where nothing is refused, and zeros where something is: part by part as the whole.
-- Assumes nothing.
use mathlib.Core.Path.{◌≡◌, refl, sym, ap, ap₂, ◌∙◌}
use mathlib.Core.Bool.{Bool, true, false, cond}
use mathlib.Core.List.{List, [], ◌∷◌}
use Prim.Native.Nat.{ℕ, zero, suc}
use mir.Val.{bool_byte}
use Rattle.std.specs.Prelude.{Result, Ok, Err, is_ok}
use Rattle.format.specs.Refused.{number_in}
use Rattle.format.specs.declared.refusal.Refusal.{Refusal}
use Rattle.format.specs.declared.version.Version.{Version}
use Rattle.format.proofs.Numbers.{not_zero}
use Rattle.format.proofs.Versions.{no_way}
use Rattle.rows.specs.Rows.{no_cells, no_version}
use Rattle.rows.specs.declared.pre.Pre.{Pre}
use Rattle.rows.specs.declared.post.Post.{Post}
use Rattle.transpose.specs.Answers.{unless_refused}
use Rattle.transpose.specs.Inner.{if_shown}
use Rattle.transpose.specs.declared.frame.Data.{Data}
use Rattle.transpose.specs.declared.frame.Frame.{Frame}

pub given_none : {A : Type 0} (n : ℕ) (row none : A) → (n ≡ 0 → ⊥) → none ≡ unless_refused n row none
unfolding unless_refused
given_none zero row none ne = absurd (ne refl)
given_none (suc n) row none ne = refl

pub given_row : {A : Type 0} (n : ℕ) (row none : A) → n ≡ 0 → row ≡ unless_refused n row none
unfolding unless_refused
given_row n row none e = rw e

pub shown_row : {A : Type 0} (shown : Bool) (row none : A) → shown ≡ true → row ≡ if_shown shown row none
unfolding if_shown
shown_row shown row none e = rw e

pub shown_none : {A : Type 0} (shown : Bool) (row none : A) → shown ≡ false → none ≡ if_shown shown row none
unfolding if_shown
shown_none shown row none e = rw e

-- a mark
pub one_or_zero : (b : Bool) → bool_byte b ≡ cond b 1 0
one_or_zero true = refl
one_or_zero false = refl

-- ---- by whether an answer is one: nothing is refused
pub none_refused : (r : Result (Unit {0}) Refusal) {n : ℕ} {shown : Bool} → number_in r ≡ n → shown ≡ is_ok r → shown ≡ true → n ≡ 0
none_refused (Ok x) e o t = sym e
none_refused (Err q) e o t = no_way (sym o ∙ t)

as_refused : {A : Type 0} (r : Result (Unit {0}) Refusal) {n : ℕ} {shown : Bool} → number_in r ≡ n → shown ≡ is_ok r → (row none : A)
    → if_shown shown row none ≡ unless_refused n row none
unfolding if_shown unless_refused
as_refused (Ok x) e o row none = rw (o, ← e) refl
as_refused (Err q) {n} e o row none = rw o (given_none n row none (λ z. not_zero q (e ∙ z)))

-- and the answer
pub answered : {A R : Type 0} (answer : ℕ → A → R) (r : Result (Unit {0}) Refusal) {n k : ℕ} {shown : Bool} {q : A} → number_in r ≡ n → shown ≡ is_ok r
    → (row none : A) → k ≡ number_in r → q ≡ if_shown shown row none → answer k q ≡ answer n (unless_refused n row none)
answered answer r e o row none s h = ap₂ answer (s ∙ e) (h ∙ as_refused r e o row none)

-- a record's row
pub row_shown : {A : Type 0} (of : List ℕ → Version → A) (shown : Bool) (cells : List ℕ) (version : Version) {raw : List ℕ} {v : Version} → raw ≡ if_shown shown cells no_cells
    → v ≡ if_shown shown version no_version → of raw v ≡ if_shown shown (of cells version) (of no_cells no_version)
unfolding if_shown
row_shown of true cells version a b = ap₂ of a b
row_shown of false cells version a b = ap₂ of a b

-- a row beside a mark that is 0 where nothing is shown
pub mark_shown : {A : Type 0} (row none : ℕ → A) (shown : Bool) (mark : ℕ) {m : ℕ} → m ≡ if_shown shown mark 0
    → if_shown shown (row m) (none m) ≡ if_shown shown (row mark) (none 0)
unfolding if_shown
mark_shown row none true mark e = ap row e
mark_shown row none false mark e = ap none e

-- a player
pub data_shown : (shown : Bool) (mark : ℕ) (pre no-pre : Pre) (post no-post : Post)
    → record { present = mark; pre = if_shown shown pre no-pre; post = if_shown shown post no-post }
    ≡ if_shown {A = Data} shown (record { present = mark; pre = pre; post = post }) (record { present = mark; pre = no-pre; post = no-post })
unfolding if_shown
data_shown true mark pre no-pre post no-post = refl
data_shown false mark pre no-pre post no-post = refl

-- four of anything
pub four_shown : {A : Type 0} (shown : Bool) (a b c d none : A)
    → if_shown shown a none ∷ if_shown shown b none ∷ if_shown shown c none ∷ if_shown shown d none ∷ []
    ≡ if_shown shown (a ∷ b ∷ c ∷ d ∷ []) (none ∷ none ∷ none ∷ none ∷ [])
unfolding if_shown
four_shown true a b c d none = refl
four_shown false a b c d none = refl

-- a frame
pub frame_shown : (shown : Bool) (a b : Frame)
    → record {
      version = if_shown shown a.version b.version;
      id = if_shown shown a.id b.id;
      port_count = if_shown shown a.port_count b.port_count;
      ports = if_shown shown a.ports b.ports;
      start = if_shown shown a.start b.start;
      end = if_shown shown a.end b.end;
      items = if_shown shown a.items b.items;
      fod_platforms = if_shown shown a.fod_platforms b.fod_platforms;
      dreamland_whispys = if_shown shown a.dreamland_whispys b.dreamland_whispys;
      stadium_transformations = if_shown shown a.stadium_transformations b.stadium_transformations;
    }
    ≡ if_shown shown a b
unfolding if_shown
frame_shown true a b = refl
frame_shown false a b = refl

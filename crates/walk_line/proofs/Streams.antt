-- What a loop of reads took, that the line of what was read is that of the whole input, and that it is what was written.
-- Assumes nothing.
use Rattle.std.proofs.Common.{arith, ℕ, ◌≡◌, ◌+◌, ◌≤◌, ◌<◌, List, ◌++◌, Option, None, Some, Result, Ok, Err, OnOk, IfSome, length, take, drop, subst, sym, ap, ◌∙◌, append-nil}
use Rattle.std.proofs.lemmas.List.{take-append-le, take_at}
use Rattle.std.proofs.KnownBytes.{Consumes-trans}
use Rattle.std.specs.Io.KnownBytes.{Appends, Consumes, IsAtEnd}
use borrow.Rule.Slice.PartMut.{put_mid, post_of}
use lib.Seq.{length-take-le, take-append-add}
use lib.ListN.{length-append}
use native.Mathlib.Decide.{dec_lt}
use Rattle.wire.proofs.Laws.{splice_is}
use Rattle.wire.proofs.Writers.{wrote_length}
use Rattle.de.specs.declared.Walked.{Walked}
use Rattle.walk_line.specs.Line.{input_of, Line, Put}
use Rattle.walk_line.proofs.Laws.{too_long_lem}

take_read : (done k n : ℕ) (xs ys : List ℕ) → done ≤ length xs → n ≤ length ys → take (done + n) (put_mid done k xs ys) ≡ take done xs ++ take n ys
take_read done k n xs ys h j =
    let rest = ys ++ post_of done k xs in
    ap (λ a. take (a + n) (take done xs ++ rest)) (sym (length-take-le done xs h)) ∙ take-append-add (take done xs) rest n
    ∙ ap (λ l. take done xs ++ l) (take-append-le n ys (post_of done k xs) j)

-- a read of n bytes into the buffer from index done on
pub read_more : (old mid new : Option (List ℕ)) (done k n : ℕ) (xs ys : List ℕ) → done ≤ length xs → n ≤ length ys
    → Consumes old mid (take done xs) → Consumes mid new (take n ys) → Consumes old new (take (done + n) (put_mid done k xs ys))
read_more old mid new done k n xs ys h j p q = subst (Consumes old new) (sym (take_read done k n xs ys h j)) (Consumes-trans old mid new _ _ p q)

-- what was read is the whole input, or both are too long
whole_input : (b : List ℕ) (n : ℕ) (old new : Option (List ℕ)) → 65536 < length b → n ≤ length b → Consumes old new (take n b)
    → (n < length b → IsAtEnd new) → IfSome old (λ f. input_of (take n b) ≡ input_of f)
whole_input b n None new h j p e = tt
whole_input b n (Some f) None h j p e = absurd p
whole_input b n (Some f) (Some rest) h j p e =
    elim (dec_lt n (length b)) [
      | yes l ↦ ap input_of (sym (p ∙ ap (λ r. take n b ++ r) (e l) ∙ append-nil (take n b)))
      | no l ↦
          let m = length-take-le n b j in
          sym (too_long_lem (take n b) (omega arith)) ∙ too_long_lem f (omega (arith, ap length p, length-append (take n b) rest))
    ]

put_text : {w : Walked} {before after : List ℕ} {n : ℕ} → Put (Line w) before after 0 n → n ≤ length after → Line w (take n after)
put_text {w} {before} {after} {n} p h =
    let fits : 0 + length p.text ≤ length before = omega (arith, p.wrote.next_is, wrote_length p.wrote) in
    let size : length p.text ≡ n = omega (arith, p.wrote.next_is) in
    let is : take n after ≡ p.text =
    ap (take n) (p.wrote.after_is ∙ splice_is before 0 p.text fits) ∙ take_at p.text (drop (0 + length p.text) before) n size in
    subst (Line w) (sym is) p.kind

on_ok : {T E : Type 0} {P Q : Type 0} (r : Result T E) → (P → Q) → OnOk r P → OnOk r Q
on_ok (Ok x) f p = f p
on_ok (Err e) f p = tt

if_some : {A : Type 0} {P Q : A → Type 0} (o : Option A) → ((x : A) → P x → Q x) → IfSome o P → IfSome o Q
if_some None f p = tt
if_some (Some x) f p = f x p

module _ {T E : Type 0} (r : Result T E) (b : List ℕ) (n : ℕ) (old new held grown : Option (List ℕ)) {before after : List ℕ} {k : ℕ} where
  pub answered : 65536 < length b → n ≤ length b → Consumes old new (take n b) → (n < length b → IsAtEnd new) → Put (Line (input_of (take n b))) before after 0 k
      → k ≤ length after → OnOk r (Appends held grown (take k after)) → OnOk r (IfSome old (λ f. (x : List ℕ) × Line (input_of f) x × Appends held grown x))
  answered h j p e put fits =
      on_ok r (λ a. if_some old (λ f same. (take k after, subst (λ w. Line w (take k after)) same (put_text put fits), a)) (whole_input b n old new h j p e))

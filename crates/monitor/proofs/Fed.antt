-- Bytes that a session answers, part after part.
use Rattle.std.proofs.Common.{◌≡◌, ℕ, Bool, true, false, refl, sym, ap, ◌∙◌, subst, inl, inr, ◌<◌, ◌+◌, List, [], ◌∷◌, ◌++◌, length, take, drop, append_assoc, append-nil, take-append-drop}
use Rattle.std.specs.Prelude.{Ok, Err, get_or, if◌then◌else◌}
use Rattle.std.proofs.lemmas.Bool.{cases_Bool}
use Rattle.std.proofs.lemmas.List.{drop_more}
use Rattle.outside.specs.Causes.{Rose}
use Rattle.outside.specs.Told.{Takes, TakesFront}
use Rattle.outside.proofs.ToldLemmas.{Takes-refl, Takes-trans, TakesFront-longer, TakesFront-after}
use Rattle.reverse_seek.specs.Script.{Script}
use Rattle.monitor.specs.Session.{Desk, with_byte, then_says, fed}
use Rattle.monitor.proofs.Scans.{cell}
use Rattle.monitor.specs.Serving.{Written, Says}
use Rattle.monitor.specs.declared.desk.Halt.{Halt}
use Rattle.monitor.specs.declared.desk.Halt.TheVariants as halt

-- nothing is answered after `quit`
pub fed-quit : (s : Script) (d : Desk) (bs : List ℕ) → d.quit ≡ true → fed s d bs ≡ ([], d)
unfolding fed
fed-quit s d [] q = refl
fed-quit s d (b ∷ bs) q = rw q refl

same-pair : (p : List ℕ × Desk) → p ≡ (p.0, p.1)
same-pair (text, d) = refl

pub pick-true : {A : Type 0} (b : Bool) (x y : A) → b ≡ true → (if b then x else y) ≡ x
pick-true true x y e = refl
pick-true false x y e = absurd cc

pick-false : {A : Type 0} (b : Bool) (x y : A) → b ≡ false → (if b then x else y) ≡ y
pick-false true x y e = absurd cc
pick-false false x y e = refl

fed-step : (s : Script) (d : Desk) (b : ℕ) (bs : List ℕ) → d.quit ≡ false
    → fed s d (b ∷ bs) ≡ then_says (with_byte s d b) (λ e. fed s e bs)
unfolding fed
fed-step s d b bs off = pick-false d.quit ([], d) (then_says (with_byte s d b) (λ e. fed s e bs)) off

-- two parts are answered one after the other
pub fed-append : (s : Script) (xs ys : List ℕ) (d : Desk)
    → fed s d (xs ++ ys) ≡ then_says (fed s d xs) (λ e. fed s e ys)
unfolding fed
fed-append s [] ys d = same-pair (fed s d ys)
fed-append s (b ∷ bs) ys d =
    elim (cases_Bool d.quit) [
      | inl on ↦
          fed-quit s d (b ∷ (bs ++ ys)) on
          ∙ ap (λ (z : List ℕ × Desk). (z.0, z.1)) (sym (fed-quit s d ys on))
          ∙ ap (λ z. then_says z (λ e. fed s e ys)) (sym (fed-quit s d (b ∷ bs) on))
      | inr off ↦
          let p = with_byte s d b in
          let q = fed s p.1 bs in
          let r = fed s q.1 ys in
          fed-step s d b (bs ++ ys) off
          ∙ ap (λ (z : List ℕ × Desk). (p.0 ++ z.0, z.1)) (fed-append s bs ys p.1)
          ∙ ap (λ z. (z, r.1)) (sym (append_assoc p.0 q.0 r.0))
          ∙ ap (λ z. then_says z (λ e. fed s e ys)) (sym (fed-step s d b bs off))
    ]

-- one byte alone
pub fed-one : (s : Script) (d : Desk) (b : ℕ) → d.quit ≡ false → fed s d (b ∷ []) ≡ with_byte s d b
unfolding fed
fed-one s d b off =
    let p = with_byte s d b in
    fed-step s d b [] off ∙ ap (λ z. (z, p.1)) (append-nil p.0) ∙ sym (same-pair p)

-- bytes were answered, and led from one desk to another
pub record Went (s : Script) (d d' : Desk) (bs : List ℕ) (old new : Written) : Type 0 where
  pub took : Takes old.taken new.taken (fed s d bs).0
  pub desk : d' ≡ (fed s d bs).1
  pub faults : new.faults ≡ old.faults

pub went-none : (s : Script) (d : Desk) (w : Written) → Went s d d [] w w
unfolding fed
went-none s d w = record { took = Takes-refl w.taken; desk = refl; faults = refl }

-- a part more
pub went-more : (s : Script) (d e f : Desk) (xs ys : List ℕ) (old mid new : Written) (done : Unit {0}) → Went s d e xs old mid
    → Says (fed s e ys) (Ok done) f mid new → Went s d f (xs ++ ys) old new
went-more s d e f xs ys old mid new done w says =
    let both : fed s d (xs ++ ys) ≡ then_says (fed s d xs) (λ e. fed s e ys) = fed-append s xs ys d in
    let here : fed s e ys ≡ fed s (fed s d xs).1 ys = ap (λ z. fed s z ys) w.desk in
    record {
      took = subst (λ z. Takes old.taken new.taken z) (ap (λ z. (fed s d xs).0 ++ z.0) here ∙ ap (λ z. z.0) (sym both))
          (Takes-trans old.taken mid.taken new.taken (fed s d xs).0 (fed s e ys).0 w.took says.0);
      desk = says.1 ∙ ap (λ z. z.1) here ∙ ap (λ z. z.1) (sym both);
      faults = says.2 ∙ w.faults;
    }

pub went-byte : (s : Script) (d e f : Desk) (xs : List ℕ) (b : ℕ) (old mid new : Written) (done : Unit {0}) → Went s d e xs old mid
    → e.quit ≡ false → Says (with_byte s e b) (Ok done) f mid new → Went s d f (xs ++ b ∷ []) old new
went-byte s d e f xs b old mid new done w off says =
    went-more s d e f xs (b ∷ []) old mid new done w
    (subst (λ z. Says z (Ok done) f mid new) (sym (fed-one s e b off)) says)

-- a front of what is answered to a part is one of what is answered to more
front-more : (s : Script) (d : Desk) (xs ys : List ℕ) (old new : Written)
    → TakesFront old.taken new.taken (fed s d xs).0 → TakesFront old.taken new.taken (fed s d (xs ++ ys)).0
front-more s d xs ys old new f =
    subst (λ z. TakesFront old.taken new.taken z) (ap (λ z. z.0) (sym (fed-append s xs ys d)))
    (TakesFront-longer old.taken new.taken (fed s d xs).0 (fed s (fed s d xs).1 ys).0 f)

-- after a part, a front of what is answered to the next
pub front-after : (s : Script) (d e : Desk) (xs ys : List ℕ) (old mid new : Written) → Went s d e xs old mid
    → TakesFront mid.taken new.taken (fed s e ys).0 → TakesFront old.taken new.taken (fed s d (xs ++ ys)).0
front-after s d e xs ys old mid new w f =
    let here : fed s e ys ≡ fed s (fed s d xs).1 ys = ap (λ z. fed s z ys) w.desk in
    subst (λ z. TakesFront old.taken new.taken z) (ap (λ z. (fed s d xs).0 ++ z.0) here ∙ ap (λ z. z.0) (sym (fed-append s xs ys d)))
    (TakesFront-after old.taken mid.taken new.taken (fed s d xs).0 (fed s e ys).0 w.took f)

says-front : (told : List ℕ × Desk) (h : Halt) (d : Desk) (old new : Written) → Says told (Err h) d old new
    → TakesFront old.taken new.taken told.0
says-front told halt.WriteFault d old new says = says.0
says-front told halt.ImageFault d old new says = says.0
says-front told halt.NoMemory d old new says = says.0

says-halts : (told other : List ℕ × Desk) (h : Halt) (d e : Desk) (old mid new : Written) → mid.faults ≡ old.faults
    → Says told (Err h) d mid new → TakesFront old.taken new.taken other.0 → Says other (Err h) e old new
says-halts told other halt.WriteFault d e old mid new same says f = (f, subst (λ z. Rose z new.faults) same says.1)
says-halts told other halt.ImageFault d e old mid new same says f = (f, says.1 ∙ same)
says-halts told other halt.NoMemory d e old mid new same says f = (f, says.1 ∙ same)

-- the session halts in a later part
pub halts-after : (s : Script) (d e f g : Desk) (xs ys : List ℕ) (h : Halt) (old mid new : Written) → Went s d e xs old mid
    → Says (fed s e ys) (Err h) f mid new → Says (fed s d (xs ++ ys)) (Err h) g old new
halts-after s d e f g xs ys h old mid new w says =
    says-halts (fed s e ys) (fed s d (xs ++ ys)) h f g old mid new w.faults says
    (front-after s d e xs ys old mid new w (says-front (fed s e ys) h f mid new says))

-- the session halts at a byte, after which others stand
pub halts-byte : (s : Script) (d e f g : Desk) (xs : List ℕ) (b : ℕ) (ys : List ℕ) (h : Halt) (old mid new : Written) → Went s d e xs old mid
    → e.quit ≡ false → Says (with_byte s e b) (Err h) f mid new → Says (fed s d (xs ++ b ∷ ys)) (Err h) g old new
halts-byte s d e f g xs b ys h old mid new w off says =
    let one = subst (λ z. Says z (Err h) f mid new) (sym (fed-one s e b off)) says in
    let part = front-after s d e xs (b ∷ []) old mid new w (says-front (fed s e (b ∷ [])) h f mid new one) in
    let more = front-more s d (xs ++ b ∷ []) ys old new part in
    says-halts (fed s e (b ∷ [])) (fed s d (xs ++ b ∷ ys)) h f g old mid new w.faults one
    (subst (λ z. TakesFront old.taken new.taken (fed s d z).0) (append_assoc xs (b ∷ []) ys) more)

-- all bytes were answered
pub went-all : (s : Script) (d e : Desk) (xs : List ℕ) (old new : Written) (done : Unit {0}) → Went s d e xs old new
    → Says (fed s d xs) (Ok done) e old new
went-all s d e xs old new done w = (w.took, w.desk, w.faults)

-- the others come after `quit`
pub went-quit : (s : Script) (d e : Desk) (xs ys : List ℕ) (old new : Written) (done : Unit {0}) → Went s d e xs old new → e.quit ≡ true
    → Says (fed s d (xs ++ ys)) (Ok done) e old new
went-quit s d e xs ys old new done w on =
    let q = fed s d xs in
    let none : fed s q.1 ys ≡ ([], q.1) = fed-quit s q.1 ys (ap (λ (z : Desk). z.quit) (sym w.desk) ∙ on) in
    let same : fed s d (xs ++ ys) ≡ q =
    fed-append s xs ys d ∙ ap (λ z. (q.0 ++ z.0, z.1)) none ∙ ap (λ z. (z, q.1)) (append-nil q.0) ∙ sym (same-pair q) in
    subst (λ z. Says z (Ok done) e old new) (sym same) (w.took, w.desk, w.faults)

-- ---- as the code has it

-- the bytes are those before a place, the one there, and those behind
parts_at : (bytes : List ℕ) (i : ℕ) → i < length bytes → take i bytes ++ get_or bytes i 0 ∷ drop (i + 1) bytes ≡ bytes
parts_at bytes i within = ap (λ z. take i bytes ++ z) (sym (drop_more bytes i 0 within)) ∙ take-append-drop i bytes

pub quit-at : (s : Script) (d e : Desk) (bytes : List ℕ) (i : ℕ) (old new : Written) (done : Unit {0}) → Went s d e (take i bytes) old new → e.quit ≡ true
    → Says (fed s d bytes) (Ok done) e old new
quit-at s d e bytes i old new done w on =
    subst (λ z. Says (fed s d z) (Ok done) e old new) (take-append-drop i bytes) (went-quit s d e (take i bytes) (drop i bytes) old new done w on)

pub halts-at : (s s' : Script) (d e f g : Desk) (bytes : List ℕ) (i : ℕ) (h : Halt) (old mid new : Written) → i < length bytes → s' ≡ s
    → Went s d e (take i bytes) old mid → e.quit ≡ false → Says (with_byte s' e (get_or bytes i 0)) (Err h) f mid new
    → Says (fed s d bytes) (Err h) g old new
halts-at s s' d e f g bytes i h old mid new within same w off says =
    subst (λ z. Says (fed s d z) (Err h) g old new) (parts_at bytes i within)
    (halts-byte s d e f g (take i bytes) (get_or bytes i 0) (drop (i + 1) bytes) h old mid new w off
    (subst (λ z. Says (with_byte z e (get_or bytes i 0)) (Err h) f mid new) same says))

pub went-at : (s s' : Script) (d e f : Desk) (bytes : List ℕ) (i : ℕ) (old mid new : Written) (done : Unit {0}) → i < length bytes → s' ≡ s
    → Went s d e (take i bytes) old mid → e.quit ≡ false → Says (with_byte s' e (get_or bytes i 0)) (Ok done) f mid new
    → Went s d f (take (i + 1) bytes) old new
went-at s s' d e f bytes i old mid new done within same w off says =
    subst (λ z. Went s d f z old new) (sym (cell i (get_or bytes i 0) bytes (drop (i + 1) bytes) (drop_more bytes i 0 within)))
    (went-byte s d e f (take i bytes) (get_or bytes i 0) old mid new done w off
    (subst (λ z. Says (with_byte z e (get_or bytes i 0)) (Ok done) f mid new) same says))

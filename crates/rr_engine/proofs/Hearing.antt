-- The console's input over parts of a recording.
use Rattle.std.proofs.Common.{◌≡◌, ℕ, ◌+◌, ◌-◌, ◌^◌, Bool, true, List, [], ◌∷◌, ◌++◌, length, take, refl, sym, ap, ◌∙◌, subst, append_assoc, append-nil, inl, inr, arith}
use Rattle.std.specs.Prelude.{◌⊎◌, Some, None, IfSome, option_map}
use Rattle.std.specs.declared.option.Option.{Option}
use Rattle.std.specs.Io.KnownBytes.{Consumes, Keeps, IsAtEnd}
use Rattle.std.proofs.KnownBytes.{Consumes-nil, Consumes-trans, Keeps-refl}
use Rattle.std.proofs.Math.Seq.{take-append-add, take-nil}
use Rattle.event_log.specs.declared.event.Event.{Event}
use Rattle.event_log.specs.declared.event.Event.TheVariants as event
use Rattle.io_workers.specs.Intake.{Intake, Progress, IsOver, Gives, Ends}
use Rattle.rr_engine.specs.Input.{Extent, Entire, Part, Debt, Owed, Paid, typed_by, typed, unread, IsPaid, Hears, Heard, Read}

-- ---- lists of events

pub typed-append : (es fs : List Event) → typed (es ++ fs) ≡ typed es ++ typed fs
typed-append [] fs = refl
typed-append (e ∷ es) fs =
    ap (λ z. typed_by e ++ z) (typed-append es fs) ∙ sym (append_assoc (typed_by e) (typed es) (typed fs))

not-owed : Paid ≡ Owed → ⊥
not-owed e = cc

-- where nothing is owed, it may be said that a piece is
hears-paid : (w : Extent) (o : Debt) (fs : List Event) (left rest : List ℕ) → IsPaid o left
    → Hears w Paid left fs rest → Hears w o left fs rest
hears-paid w o [] left rest paid h = (λ whole. paid, h.1)
hears-paid w o (event.CharRead bytes ∷ fs) left rest paid h = absurd (not-owed h.0)
hears-paid w o (event.Block id ok ∷ fs) left rest paid h = absurd h
hears-paid w o (event.Net packet ∷ fs) left rest paid h = absurd h
hears-paid w o (event.End reason code ∷ fs) left rest paid h = (λ whole. paid, h.1)
hears-paid w o (e ∷ fs) left rest paid h = (paid, h.1)

pub hears-then : (w : Extent) (o : Debt) (es fs : List Event) (left mid rest : List ℕ)
    → Hears Entire o left es mid
    → Hears w Paid mid fs rest → Hears w o left (es ++ fs) rest
hears-then w o [] fs left mid rest a b =
    hears-paid w o fs left rest (a.0 refl)
    (subst (λ (z : List ℕ). Hears w Paid z fs rest) (sym a.1) b)
hears-then w o (event.CharRead bytes ∷ es) fs left mid rest a b =
    (a.0, a.1, a.2, hears-then w Paid es fs a.1 mid rest a.3 b)
hears-then w o (event.Block id ok ∷ es) fs left mid rest a b = absurd a
hears-then w o (event.Net packet ∷ es) fs left mid rest a b = absurd a
hears-then w o (event.Checkpoint idle ∷ es) fs left mid rest a b =
    (a.0, hears-then w Owed es fs left mid rest a.1 b)
hears-then w o (event.End reason code ∷ es) fs left mid rest a b =
    (λ whole. a.0 refl, hears-then w Paid es fs left mid rest a.1 b)
hears-then w o (e ∷ es) fs left mid rest a b =
    (a.0, hears-then w Paid es fs left mid rest a.1 b)

-- a whole recording may be called broken off
pub hears-weak : (o : Debt) (es : List Event) (left rest : List ℕ) → Hears Entire o left es rest
    → Hears Part o left es rest
hears-weak o [] left rest a = (λ whole. absurd cc, a.1)
hears-weak o (event.CharRead bytes ∷ es) left rest a =
    (a.0, a.1, a.2, hears-weak Paid es a.1 rest a.3)
hears-weak o (event.Block id ok ∷ es) left rest a = absurd a
hears-weak o (event.Net packet ∷ es) left rest a = absurd a
hears-weak o (event.Checkpoint idle ∷ es) left rest a = (a.0, hears-weak Owed es left rest a.1)
hears-weak o (event.End reason code ∷ es) left rest a =
    (λ whole. a.0 refl, hears-weak Paid es left rest a.1)
hears-weak o (e ∷ es) left rest a = (a.0, hears-weak Paid es left rest a.1)

-- the bytes of the events come first
pub hears-typed : (w : Extent) (o : Debt) (es : List Event) (left rest : List ℕ)
    → Hears w o left es rest
    → left ≡ typed es ++ rest
hears-typed w o [] left rest a = a.1
hears-typed w o (event.CharRead bytes ∷ es) left rest a =
    a.2 ∙ ap (λ z. bytes ++ z) (hears-typed w Paid es a.1 rest a.3)
    ∙ sym (append_assoc bytes (typed es) rest)
hears-typed w o (event.Block id ok ∷ es) left rest a = absurd a
hears-typed w o (event.Net packet ∷ es) left rest a = absurd a
hears-typed w o (event.Checkpoint idle ∷ es) left rest a = hears-typed w Owed es left rest a.1
hears-typed w o (e ∷ es) left rest a = hears-typed w Paid es left rest a.1

-- the first of the events hear the first of the input
pub hears-front : (w : Extent) (o : Debt) (es fs : List Event) (left rest : List ℕ)
    → Hears w o left (es ++ fs) rest
    → (more : List ℕ) × Hears Part o left es more
hears-front w o [] fs left rest a = (left, (λ whole. absurd cc, refl))
hears-front w o (event.CharRead bytes ∷ es) fs left rest a =
    let more = hears-front w Paid es fs a.1 rest a.3 in (more.0, (a.0, a.1, a.2, more.1))
hears-front w o (event.Block id ok ∷ es) fs left rest a = absurd a
hears-front w o (event.Net packet ∷ es) fs left rest a = absurd a
hears-front w o (event.Checkpoint idle ∷ es) fs left rest a =
    let more = hears-front w Owed es fs left rest a.1 in (more.0, (a.0, more.1))
hears-front w o (event.End reason code ∷ es) fs left rest a =
    let more = hears-front w Paid es fs left rest a.1 in (more.0, (λ whole. absurd cc, more.1))
hears-front w o (e ∷ es) fs left rest a =
    let more = hears-front w Paid es fs left rest a.1 in (more.0, (a.0, more.1))

-- ---- sources that may tell nothing

pub heard-then : (w : Extent) (o : Debt) (a b c : Option (List ℕ)) (es fs : List Event)
    → Heard Entire o a es b
    → Heard w Paid b fs c → Heard w o a (es ++ fs) c
heard-then w o None b c es fs p q = tt
heard-then w o (Some x) None c es fs p q = absurd p
heard-then w o (Some x) (Some y) None es fs p q = absurd q
heard-then Entire o (Some x) (Some y) (Some z) es fs p q = hears-then Entire o es fs x y z p q
heard-then Part o (Some x) (Some y) (Some z) es fs p q =
    (q.0, hears-then Part o es fs x y (q.0 ++ z) p q.1)

pub heard-none : (w : Extent) (o : Debt) (a : Option (List ℕ)) → (w ≡ Entire → o ≡ Paid)
    → Heard w o a [] a
heard-none w o None paid = tt
heard-none Entire Owed (Some x) paid = (λ whole. absurd (not-owed (sym (paid refl))), refl)
heard-none Entire Paid (Some x) paid = (λ whole. tt, refl)
heard-none Part o (Some x) paid = ([], (λ whole. absurd cc, refl))

pub heard-weak : (o : Debt) (a b : Option (List ℕ)) (es : List Event) → Heard Entire o a es b
    → Heard Part o a es b
heard-weak o None b es p = tt
heard-weak o (Some x) None es p = absurd p
heard-weak o (Some x) (Some y) es p = ([], hears-weak o es x y p)

-- events that no one took give back their part
pub heard-lost : (o : Debt) (a b : Option (List ℕ)) (es : List Event) → Heard Entire o a es b
    → Heard Part o a [] b
heard-lost o None b es p = tt
heard-lost o (Some x) None es p = absurd p
heard-lost o (Some x) (Some y) es p =
    (typed es, (λ whole. absurd cc, hears-typed Entire o es x y p))

-- a checkpoint opens a window that owes its piece
pub heard-opened : (w : Extent) (idle : Bool) (a c : Option (List ℕ)) (fs : List Event)
    → Heard w Owed a fs c
    → Heard w Paid a (event.Checkpoint idle ∷ fs) c
heard-opened w idle None c fs p = tt
heard-opened w idle (Some x) None fs p = absurd p
heard-opened Entire idle (Some x) (Some z) fs p = (tt, p)
heard-opened Part idle (Some x) (Some z) fs p = (p.0, (tt, p.1))

-- what is left at the end is owed no more
pub heard-over : (a : Option (List ℕ)) → IsAtEnd a → Heard Entire Owed a [] a
heard-over None end = tt
heard-over (Some x) end = (λ whole. end, refl)

-- ---- what was read

pub read-then : (w : Extent) (a b c : Option (List ℕ)) (es fs : List Event) → Read Entire a b es
    → Read w b c fs
    → Read w a c (es ++ fs)
read-then w a b c es fs p q =
    let first : Consumes a b (typed es) =
    subst (Consumes a b) (ap (λ z. typed es ++ z) (p.all refl) ∙ append-nil (typed es)) p.gave in
    record {
      more = q.more;
      gave = subst (Consumes a c)
          (sym (append_assoc (typed es) (typed fs) q.more) ∙ ap (λ z. z ++ q.more) (sym (typed-append es fs)))
          (Consumes-trans a b c (typed es) (typed fs ++ q.more) first q.gave);
      all = q.all;
    }

pub read-none : (w : Extent) (a : Option (List ℕ)) → Read w a a []
read-none w a = record { more = []; gave = Consumes-nil a; all = λ whole. refl }

pub read-weak : (a b : Option (List ℕ)) (es : List Event) → Read Entire a b es → Read Part a b es
read-weak a b es p = record { more = p.more; gave = p.gave; all = λ whole. absurd cc }

pub read-lost : (a b : Option (List ℕ)) (es : List Event) → Read Entire a b es → Read Part a b []
read-lost a b es p = record { more = typed es ++ p.more; gave = p.gave; all = λ whole. absurd cc }

-- ---- one piece

-- the first bytes of a piece and what comes after
take-piece : (m n : ℕ) (piece left : List ℕ) → m ≡ length piece + n
    → take m (piece ++ left) ≡ piece ++ take n left
take-piece m n piece left e = ap (λ z. take z (piece ++ left)) e ∙ take-append-add piece left n

piece-heard : (m n : ℕ) (a b : Option (List ℕ)) (piece : List ℕ) → m ≡ length piece + n → Consumes a b piece
    → Heard Entire Owed (option_map (take m) a) (event.CharRead piece ∷ []) (option_map (take n) b)
piece-heard m n None b piece e ate = tt
piece-heard m n (Some x) None piece e ate = absurd ate
piece-heard m n (Some x) (Some y) piece e ate =
    (refl, take n y, ap (take m) ate ∙ take-piece m n piece y e, (λ whole. tt, refl))

pub gives-heard : (old new : Intake) (piece : List ℕ) → Gives old new piece
    → Heard Entire Owed (unread old) (event.CharRead piece ∷ []) (unread new)
gives-heard old new piece g =
    piece-heard (2 ^ 40 - old.progress.count) (2 ^ 40 - new.progress.count) old.left new.left piece
    (omega (arith, g.count, g.within)) g.bytes

pub gives-read : (old new : Intake) (piece : List ℕ) → Gives old new piece
    → Read Entire old.left new.left (event.CharRead piece ∷ [])
gives-read old new piece g = record {
  more = [];
  gave = subst (Consumes old.left new.left) (sym (append-nil (piece ++ []) ∙ append-nil piece)) g.bytes;
  all = λ whole. refl;
}

-- what stays is heard and read alike
kept-plain : (m n : ℕ) (a b : Option (List ℕ)) → n ≡ m → Keeps a b
    → Keeps (option_map (take m) a) (option_map (take n) b)
kept-plain m n None b e k = tt
kept-plain m n (Some x) None e k = absurd k
kept-plain m n (Some x) (Some y) e k = ap (λ z. take z y) e ∙ ap (take m) k

pub kept-unread : (old new : Intake) → new.progress.count ≡ old.progress.count → Keeps old.left new.left
    → Keeps (unread old) (unread new)
kept-unread old new e k =
    kept-plain (2 ^ 40 - old.progress.count) (2 ^ 40 - new.progress.count) old.left new.left
    (ap (λ z. 2 ^ 40 - z) e) k

pub kept-heard : (w : Extent) (o : Debt) (a b c : Option (List ℕ)) (es : List Event) → Keeps a b
    → Heard w o b es c → Heard w o a es c
kept-heard w o None b c es k h = tt
kept-heard w o (Some x) None c es k h = absurd k
kept-heard w o (Some x) (Some y) c es k h = subst (λ (z : List ℕ). Heard w o (Some z) es c) k h

kept-consumes : (a b c : Option (List ℕ)) (bytes : List ℕ) → Keeps a b → Consumes b c bytes → Consumes a c bytes
kept-consumes None b c bytes k e = tt
kept-consumes (Some x) None c bytes k e = absurd k
kept-consumes (Some x) (Some y) None bytes k e = absurd e
kept-consumes (Some x) (Some y) (Some z) bytes k e = sym k ∙ e

pub kept-read : (w : Extent) (a b c : Option (List ℕ)) (es : List Event) → Keeps a b → Read w b c es
    → Read w a c es
kept-read w a b c es k r = record {
  more = r.more;
  gave = kept-consumes a b c (typed es ++ r.more) k r.gave;
  all = r.all;
}

-- ---- the end of the input

over-plain : (n : ℕ) (a : Option (List ℕ)) → IsAtEnd a ⊎ (n ≡ 0) → IsAtEnd (option_map (take n) a)
over-plain n None o = tt
over-plain n (Some x) (inl e) = ap (take n) e ∙ take-nil n
over-plain n (Some x) (inr e) = ap (λ z. take z x) e

full : (i : Intake) → IsOver i → IsAtEnd i.left ⊎ (2 ^ 40 - i.progress.count ≡ 0)
full i (inl end) = inl end
full i (inr count) = inr (ap (λ z. 2 ^ 40 - z) count)

over-unread : (i : Intake) → IsOver i → IsAtEnd (unread i)
over-unread i o = over-plain (2 ^ 40 - i.progress.count) i.left (full i o)

-- where the end is answered nothing is left, and all stays
pub ends-over : (old new : Intake) → Ends old new
    → (old.progress.ended ≡ true → IsAtEnd (unread old)) → IsAtEnd (unread new)
ends-over old new (inl before) over =
    subst (λ (z : Intake). IsAtEnd (unread z)) (sym before.1) (over before.0)
ends-over old new (inr now) over = over-unread new now.4

pub ends-faults : (old new : Intake) → Ends old new → new.faults ≡ old.faults
ends-faults old new (inl before) = ap (λ (z : Intake). z.faults) before.1
ends-faults old new (inr now) = now.3

pub ends-count : (old new : Intake) → Ends old new → new.progress.count ≡ old.progress.count
ends-count old new (inl before) = ap (λ (z : Intake). z.progress.count) before.1
ends-count old new (inr now) = ap (λ (z : Progress). z.count) now.1

pub ends-keeps : (old new : Intake) → Ends old new → Keeps old.left new.left
ends-keeps old new (inl before) =
    subst (λ (z : Intake). Keeps old.left z.left) (sym before.1) (Keeps-refl old.left)
ends-keeps old new (inr now) = now.2

pub ends-heard : (old new : Intake) → Ends old new
    → (old.progress.ended ≡ true → IsAtEnd (unread old))
    → Heard Entire Owed (unread old) [] (unread new)
ends-heard old new e over =
    kept-heard Entire Owed (unread old) (unread new) (unread new) []
    (kept-unread old new (ends-count old new e) (ends-keeps old new e))
    (heard-over (unread new) (ends-over old new e over))

pub ends-read : (old new : Intake) → Ends old new → Read Entire old.left new.left []
ends-read old new e =
    kept-read Entire old.left new.left new.left [] (ends-keeps old new e)
    (read-none Entire new.left)

-- ---- from the start

-- what a source that wasn't read yet has left to read
first-told : (n : ℕ) (w : Extent) (a c : Option (List ℕ)) (es : List Event)
    → Heard w Paid (option_map (take n) a) es c
    → IfSome a (λ bytes. (rest : List ℕ) × Hears w Paid (take n bytes) es rest)
first-told n w None c es h = tt
first-told n w (Some x) None es h = absurd h
first-told n Entire (Some x) (Some z) es h = (z, h)
first-told n Part (Some x) (Some z) es h = (h.0 ++ z, h.1)

pub first-heard : (w : Extent) (i : Intake) (c : Option (List ℕ)) (es : List Event)
    → i.progress.count ≡ 0
    → Heard w Paid (unread i) es c
    → IfSome i.left (λ bytes. (rest : List ℕ) × Hears w Paid (take (2 ^ 40) bytes) es rest)
first-heard w i c es none h =
    first-told (2 ^ 40) w i.left c es
    (subst (λ (z : ℕ). Heard w Paid (option_map (take (2 ^ 40 - z)) i.left) es c) none h)

-- where nothing is left, the events have all
all-told : (n : ℕ) (a c : Option (List ℕ)) (es : List Event)
    → Heard Entire Paid (option_map (take n) a) es c → IsAtEnd c
    → IfSome a (λ bytes. typed es ≡ take n bytes)
all-told n None c es h end = tt
all-told n (Some x) None es h end = absurd h
all-told n (Some x) (Some z) es h end =
    sym (hears-typed Entire Paid es (take n x) z h ∙ ap (λ y. typed es ++ y) end
    ∙ append-nil (typed es))

pub all-heard : (i : Intake) (c : Option (List ℕ)) (es : List Event) → i.progress.count ≡ 0
    → Heard Entire Paid (unread i) es c → IsAtEnd c
    → IfSome i.left (λ bytes. typed es ≡ take (2 ^ 40) bytes)
all-heard i c es none h end =
    all-told (2 ^ 40) i.left c es
    (subst (λ (z : ℕ). Heard Entire Paid (option_map (take (2 ^ 40 - z)) i.left) es c) none h) end

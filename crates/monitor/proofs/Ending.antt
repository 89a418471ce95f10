-- How a session ends.
use Rattle.std.proofs.Common.{◌≡◌, ℕ, ◌+◌, ◌≤◌, ◌<◌, Bool, true, false, refl, sym, ap, ◌∙◌, arith, subst, inl, inr, List, [], ◌∷◌, ◌++◌, length, length-append, take, append_assoc, append-nil}
use Rattle.std.specs.Prelude.{Some, None, Result, Ok, Err}
use Rattle.std.specs.declared.option.Option.{Option}
use Rattle.std.specs.Io.KnownBytes.{Consumes, Keeps}
use Rattle.outside.specs.Causes.{Rose}
use Rattle.outside.specs.Told.{Takes, TakesFront}
use Rattle.outside.proofs.ToldLemmas.{Takes-trans, TakesFront-all, TakesFront-longer, TakesFront-after}
use Rattle.reverse_seek.specs.Script.{Script}
use Rattle.monitor.specs.Session.{Desk, fed, fresh, last_answer, at_end, answered, quits, transcript}
use Rattle.monitor.specs.Serving.{Written, Says, Heard, Reads, Serves, most, halted_as, closed_as}
use Rattle.monitor.specs.declared.desk.Halt.{Halt}
use Rattle.monitor.specs.declared.desk.Halt.TheVariants as halt
use Rattle.monitor.specs.declared.sessions.ReadStop.TheVariants as read_stop
use Rattle.monitor.specs.declared.sessions.SessionEnd.TheVariants as session_end
use Rattle.monitor.proofs.Fed.{pick-true, Went, went-none, went-more, front-after}

-- ---- what a source gave

comes-none : (a : Option (List ℕ)) → Consumes a a []
comes-none None = tt
comes-none (Some xs) = refl

pub comes-more : (a b c : Option (List ℕ)) (xs ys : List ℕ) → Consumes a b xs → Consumes b c ys → Consumes a c (xs ++ ys)
comes-more None b c xs ys p q = tt
comes-more (Some x) None c xs ys p q = absurd p
comes-more (Some x) (Some y) None xs ys p q = absurd q
comes-more (Some x) (Some y) (Some z) xs ys p q =
    p ∙ ap (λ l. xs ++ l) q ∙ sym (append_assoc xs ys z)

comes-kept : (a b c : Option (List ℕ)) (xs : List ℕ) → Consumes a b xs → Keeps b c → Consumes a c xs
comes-kept None b c xs p q = tt
comes-kept (Some x) None c xs p q = absurd p
comes-kept (Some x) (Some y) None xs p q = absurd q
comes-kept (Some x) (Some y) (Some z) xs p q = p ∙ ap (λ l. xs ++ l) (sym q)

-- ---- where a session stands

-- these bytes were read and answered
pub record Served (s : Script) (d : Desk) (count : ℕ) (input input' : Heard) (out out' : Written) : Type 0 where
  pub read : List ℕ
  pub came : Consumes input.left input'.left read
  pub count_is : count ≡ length read
  pub within : count ≤ most
  pub went : Went s fresh d read out out'
  pub faults : input'.faults ≡ input.faults

pub served-none : (s : Script) (d : Desk) (input : Heard) (out : Written) → d ≡ fresh → Served s d 0 input input out out
served-none s d input out new = record {
  read = [];
  came = comes-none input.left;
  count_is = refl;
  within = omega arith;
  went = subst (λ z. Went s fresh z [] out out) (sym new) (went-none s fresh out);
  faults = refl;
}

pub served-more : (s : Script) (d e : Desk) (count : ℕ) (piece : List ℕ) (input mid input' : Heard) (out out' out'' : Written) (done : Unit {0})
    → Served s d count input mid out out' → Consumes mid.left input'.left piece → input'.faults ≡ mid.faults
    → count + length piece ≤ most → Says (fed s d piece) (Ok done) e out' out''
    → Served s e (count + length piece) input input' out out''
served-more s d e count piece input mid input' out out' out'' done v came same within says = record {
  read = v.read ++ piece;
  came = comes-more input.left mid.left input'.left v.read piece v.came came;
  count_is = omega (arith, v.count_is, length-append v.read piece);
  within = within;
  went = went-more s fresh d e v.read piece out out' out'' done v.went says;
  faults = same ∙ v.faults;
}

-- ---- its ends

pub ends-quit : (s : Script) (d : Desk) (count : ℕ) (input input' : Heard) (out out' : Written) → Served s d count input input' out out'
    → d.quit ≡ true → Serves s session_end.Done input input' out out'
ends-quit s d count input input' out out' v on =
    let e = (fed s fresh v.read).1 in
    let quit : e.quit ≡ true = ap (λ (z : Desk). z.quit) (sym v.went.desk) ∙ on in
    let none : at_end s e ≡ [] = pick-true e.quit [] (last_answer s e e.line) quit in
    record {
      read = v.read;
      came = v.came;
      ends = (
        subst (λ z. Takes out.taken out'.taken z)
            (sym (append-nil (answered s v.read)) ∙ ap (λ z. answered s v.read ++ z) (sym none)) v.went.took,
        omega (arith, v.count_is, v.within),
        inl quit,
        v.faults,
        v.went.faults,
      );
    }

pub ends-unread : (s : Script) (d : Desk) (count : ℕ) (room : ℕ) (input mid input' : Heard) (out out' : Written) → Served s d count input mid out out'
    → d.quit ≡ false → Reads room mid input' (Err read_stop.Failed) → Serves s session_end.ReadFault input input' out out'
ends-unread s d count room input mid input' out out' v off reads = record {
  read = v.read;
  came = comes-kept input.left mid.left input'.left v.read v.came reads.0;
  ends = (
    v.went.took,
    omega (arith, v.count_is, v.within),
    ap (λ (z : Desk). z.quit) (sym v.went.desk) ∙ off,
    subst (λ z. Rose z input'.faults) v.faults reads.1,
    v.went.faults,
  );
}

front-of-all : (s : Script) (read : List ℕ) (out out' : Written) → TakesFront out.taken out'.taken (answered s read)
    → TakesFront out.taken out'.taken (transcript s read)
front-of-all s read out out' f =
    TakesFront-longer out.taken out'.taken (answered s read) (at_end s (fed s fresh read).1) f

pub ends-full : (s : Script) (d : Desk) (count : ℕ) (room : ℕ) (input mid input' : Heard) (out out' : Written) → Served s d count input mid out out'
    → Reads room mid input' (Err read_stop.NoMemory) → Serves s session_end.NoMemory input input' out out'
ends-full s d count room input mid input' out out' v reads =
    subst (λ z. Serves s session_end.NoMemory input z out out') (sym reads) (record {
      read = v.read;
      came = v.came;
      ends = (
        front-of-all s v.read out out' (TakesFront-all out.taken out'.taken (answered s v.read) v.went.took),
        omega (arith, v.count_is, v.within),
        v.faults,
        v.went.faults,
      );
    })

none_of : (piece : List ℕ) → length piece ≡ 0 → piece ≡ []
none_of [] e = refl
none_of (b ∷ bs) e = absurd (omega (arith, e))

-- all that was read, where the last piece is empty
came-all : (s : Script) (d : Desk) (count : ℕ) (piece : List ℕ) (input mid input' : Heard) (out out' : Written) (v : Served s d count input mid out out')
    → length piece ≡ 0 → Consumes mid.left input'.left piece → Consumes input.left input'.left v.read
came-all s d count piece input mid input' out out' v none came =
    subst (λ z. Consumes input.left input'.left z) (ap (λ z. v.read ++ z) (none_of piece none) ∙ append-nil v.read)
    (comes-more input.left mid.left input'.left v.read piece v.came came)

pub ends-closed : (s : Script) (d e : Desk) (count room : ℕ) (piece : List ℕ) (input mid input' : Heard) (out out' out'' : Written) (done : Unit {0})
    → Served s d count input mid out out' → Reads room mid input' (Ok piece) → length piece ≡ 0
    → Says (at_end s d, e) (Ok done) e out' out'' → Serves s session_end.Done input input' out out''
ends-closed s d e count room piece input mid input' out out' out'' done v reads none says =
    let (came, few, at_the_end, same) = reads in
    let last : at_end s d ≡ at_end s (fed s fresh v.read).1 = ap (at_end s) v.went.desk in
    record {
      read = v.read;
      came = came-all s d count piece input mid input' out out' v none came;
      ends = (
        subst (λ z. Takes out.taken out''.taken (answered s v.read ++ z)) last
            (Takes-trans out.taken out'.taken out''.taken (answered s v.read) (at_end s d) v.went.took says.0),
        omega (arith, v.count_is, v.within),
        inr (at_the_end none),
        same ∙ v.faults,
        says.2 ∙ v.went.faults,
      );
    }

-- a front of the transcript of these bytes was written, and the session can't go on
ends-halted : (s : Script) (read : List ℕ) (h : Halt) (told : List ℕ × Desk) (e : Desk) (input input' : Heard) (out mid out' : Written)
    → Consumes input.left input'.left read → length read ≤ most → input'.faults ≡ input.faults → mid.faults ≡ out.faults
    → Says told (Err h) e mid out' → (TakesFront mid.taken out'.taken told.0 → TakesFront out.taken out'.taken (transcript s read))
    → Serves s (halted_as h) input input' out out'
ends-halted s read halt.WriteFault told e input input' out mid out' came few same stood says longer =
    record { read = read; came = came; ends = (longer says.0, few, same, subst (λ z. Rose z out'.faults) stood says.1) }
ends-halted s read halt.ImageFault told e input input' out mid out' came few same stood says longer =
    record { read = read; came = came; ends = (longer says.0, few, same, says.1 ∙ stood) }
ends-halted s read halt.NoMemory told e input input' out mid out' came few same stood says longer =
    record { read = read; came = came; ends = (longer says.0, few, same, says.1 ∙ stood) }

pub ends-in-close : (s : Script) (d e f : Desk) (count room : ℕ) (piece : List ℕ) (h : Halt) (input mid input' : Heard) (out out' out'' : Written)
    → Served s d count input mid out out' → Reads room mid input' (Ok piece) → length piece ≡ 0
    → Says (at_end s d, e) (Err h) f out' out'' → Serves s (halted_as h) input input' out out''
ends-in-close s d e f count room piece h input mid input' out out' out'' v reads none says =
    let (came, few, at_the_end, same) = reads in
    let last : at_end s d ≡ at_end s (fed s fresh v.read).1 = ap (at_end s) v.went.desk in
    ends-halted s v.read h (at_end s d, e) f input input' out out' out''
    (came-all s d count piece input mid input' out out' v none came) (omega (arith, v.count_is, v.within)) (same ∙ v.faults) v.went.faults says
    (λ front. subst (λ z. TakesFront out.taken out''.taken (answered s v.read ++ z)) last
    (TakesFront-after out.taken out'.taken out''.taken (answered s v.read) (at_end s d) v.went.took front))

pub ends-in-piece : (s : Script) (d f : Desk) (count room : ℕ) (piece : List ℕ) (h : Halt) (input mid input' : Heard) (out out' out'' : Written)
    → Served s d count input mid out out' → Reads room mid input' (Ok piece) → count + length piece ≤ most
    → Says (fed s d piece) (Err h) f out' out'' → Serves s (halted_as h) input input' out out''
ends-in-piece s d f count room piece h input mid input' out out' out'' v reads within says =
    let (came, few, at_the_end, same) = reads in
    ends-halted s (v.read ++ piece) h (fed s d piece) f input input' out out' out''
    (comes-more input.left mid.left input'.left v.read piece v.came came)
    (omega (arith, v.count_is, within, length-append v.read piece)) (same ∙ v.faults) v.went.faults says
    (λ front. front-of-all s (v.read ++ piece) out out'' (front-after s fresh d v.read piece out out' out'' v.went front))

take_front : (xs ys : List ℕ) (n : ℕ) → n ≡ length xs → take n (xs ++ ys) ≡ xs
take_front xs ys n same = rw same (go xs ys) where
  go : (xs ys : List ℕ) → take (length xs) (xs ++ ys) ≡ xs
  go [] ys = refl
  go (x ∷ xs) ys = ap (λ z. x ∷ z) (go xs ys)

pub ends-over : (s : Script) (d : Desk) (count room : ℕ) (piece : List ℕ) (input mid input' : Heard) (out out' : Written)
    → Served s d count input mid out out' → d.quit ≡ false → Reads room mid input' (Ok piece)
    → count ≡ most → count + room ≤ most + 1 → 0 < length piece → Serves s session_end.TooMuchInput input input' out out'
ends-over s d count room piece input mid input' out out' v off reads full within some =
    let (came, few, at_the_end, same) = reads in
    let front : take most (v.read ++ piece) ≡ v.read = take_front v.read piece most (omega (arith, full, v.count_is)) in
    record {
      read = v.read ++ piece;
      came = comes-more input.left mid.left input'.left v.read piece v.came came;
      ends = (
        omega (arith, length-append v.read piece, full, v.count_is, within, few, some),
        subst (λ z. Takes out.taken out'.taken (answered s z)) (sym front) v.went.took,
        ap (quits s) front ∙ ap (λ (z : Desk). z.quit) (sym v.went.desk) ∙ off,
        same ∙ v.faults,
        v.went.faults,
      );
    }

-- ---- as the code has it

pub fresh-is : (place : ℕ) (breaks line : List ℕ) (quit : Bool) → place ≡ 0 → breaks ≡ [] → line ≡ [] → quit ≡ false
    → record { place = place; breaks = breaks; line = line; quit = quit } ≡ fresh
fresh-is place breaks line quit p b l q = rw p (rw b (rw l (rw q refl)))

pub read-as : (room : ℕ) (old new : Heard) (piece bytes : List ℕ) → bytes ≡ piece → Reads room old new (Ok piece) → Reads room old new (Ok bytes)
read-as room old new piece bytes same reads = subst (λ z. Reads room old new (Ok z)) (sym same) reads

pub ends-at-close : (s s' : Script) (d e f : Desk) (count room : ℕ) (piece : List ℕ) (r : Result Unit Halt) (input mid input' : Heard) (out out' out'' : Written)
    → Served s d count input mid out out' → s' ≡ s → Reads room mid input' (Ok piece) → length piece ≡ 0
    → Says (at_end s' d, e) r f out' out'' → Serves s (closed_as r) input input' out out''
ends-at-close s s' d e f count room piece (Ok done) input mid input' out out' out'' v same reads none says =
    ends-closed s d e count room piece input mid input' out out' out'' done v reads none
    (closing (subst (λ z. Says (at_end z d, e) (Ok done) f out' out'') same says))
  where
    closing : Says (at_end s d, e) (Ok done) f out' out'' → Says (at_end s d, e) (Ok done) e out' out''
    closing p = (p.0, refl, p.2)
ends-at-close s s' d e f count room piece (Err h) input mid input' out out' out'' v same reads none says =
    ends-in-close s d e f count room piece h input mid input' out out' out'' v reads none
    (subst (λ z. Says (at_end z d, e) (Err h) f out' out'') same says)

pub ends-in-bytes : (s s' : Script) (d f : Desk) (count room : ℕ) (piece bytes : List ℕ) (h : Halt) (input mid input' : Heard) (out out' out'' : Written)
    → Served s d count input mid out out' → s' ≡ s → bytes ≡ piece → Reads room mid input' (Ok piece) → count + room ≤ most
    → Says (fed s' d bytes) (Err h) f out' out'' → Serves s (halted_as h) input input' out out''
ends-in-bytes s s' d f count room piece bytes h input mid input' out out' out'' v same is reads within says =
    let read = read-as room mid input' piece bytes is reads in
    ends-in-piece s d f count room bytes h input mid input' out out' out'' v read (omega (arith, within, read.1))
    (subst (λ z. Says (fed z d bytes) (Err h) f out' out'') same says)

pub served-on : (s s' : Script) (d f : Desk) (count room : ℕ) (piece bytes : List ℕ) (input mid input' : Heard) (out out' out'' : Written) (done : Unit {0})
    → Served s d count input mid out out' → s' ≡ s → bytes ≡ piece → Reads room mid input' (Ok piece) → count + room ≤ most
    → Says (fed s' d bytes) (Ok done) f out' out'' → Served s f (count + length bytes) input input' out out''
served-on s s' d f count room piece bytes input mid input' out out' out'' done v same is reads within says =
    let read = read-as room mid input' piece bytes is reads in
    served-more s d f count bytes input mid input' out out' out'' done v read.0 read.3 (omega (arith, within, read.1))
    (subst (λ z. Says (fed z d bytes) (Ok done) f out' out'') same says)

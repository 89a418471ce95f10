-- What a recording has of a source that its own thread reads.
use Rattle.std.proofs.Common.{◌≡◌, ℕ, Bool, true, false, List, [], ◌∷◌, ◌++◌, refl, sym, ap, ◌∙◌, subst, inl, inr}
use Rattle.std.specs.Prelude.{◌⊎◌, Some, None, is_some, Result, Ok, Err}
use Rattle.std.specs.declared.option.Option.{Option}
use Rattle.event_log.specs.declared.event.Event.{Event}
use Rattle.event_log.specs.declared.event.Event.TheVariants as event
use Rattle.io_workers.specs.Intake.{Intake, Progress, Nexts, Gives, Ends, Fails}
use Rattle.io_workers.specs.declared.read_error.ReadError.{ReadError}
use Rattle.io_workers.specs.declared.read_error.ReadError.TheVariants as error
use Rattle.rr_engine.specs.declared.inputs.Trouble.{Trouble}
use Rattle.rr_engine.specs.Input.{Extent, Entire, Part, Debt, Owed, Paid, unread, Hears, Heard, Read}
use Rattle.rr_engine.specs.Feed.{Feed, Source, IsSound, piece_of, trouble_of}
use Rattle.rr_engine.specs.Windows.{Remainder, Unreceived, Left, nothing_left, Leaves, Drops, Hears as HearsFrom}
use Rattle.rr_engine.proofs.Entering.{IsPlain}
use Rattle.rr_engine.proofs.Hearing.{heard-then, heard-none, heard-weak, heard-lost, heard-opened, read-then, read-none, read-weak, read-lost, gives-heard, gives-read, ends-heard, ends-read, ends-over, kept-heard, kept-unread, kept-read}

-- ---- what one window received

absent : (e : Event) (es : List Event) → e ∷ es ≡ [] → ⊥
absent e es x = cc

same-piece : (a b : List ℕ) (es fs : List Event) → event.CharRead a ∷ es ≡ event.CharRead b ∷ fs → (a ≡ b) × (es ≡ fs)
same-piece a b es fs x = let heads : a ≡ b = cc in let tails : es ≡ fs = cc in (heads, tails)

not-net : (a b : List ℕ) (es fs : List Event) → event.Net a ∷ es ≡ event.CharRead b ∷ fs → ⊥
not-net a b es fs x = cc

not-block : (id : ℕ) (ok : Bool) (b : List ℕ) (es fs : List Event) → event.Block id ok ∷ es ≡ event.CharRead b ∷ fs → ⊥
not-block id ok b es fs x = cc

true-false : true ≡ false → ⊥
true-false x = cc

-- the source gave a piece, or its end was answered, or it gave nothing with trouble
abbrev pub Had : Intake → Intake → List Event → Bool → Type 0
Had i j xs b =
    ((piece : List ℕ) × (xs ≡ event.CharRead piece ∷ []) × (b ≡ false) × Gives i j piece)
    ⊎ (((xs ≡ []) × (b ≡ false) × Ends i j)
    ⊎ ((xs ≡ []) × (b ≡ true) × (Fails i j ⊎ (j ≡ i))))

had-of : (i j : Intake) (xs : List Event) (b : Bool) (trouble : Option Trouble) (read : Result (Option (List ℕ)) ReadError)
    → is_some trouble ≡ b → Nexts i j read → xs ≡ piece_of read → trouble ≡ trouble_of read → Had i j xs b
had-of i j xs b trouble (Ok (Some piece)) is next events t = inl (piece, events, sym is ∙ ap is_some t, next)
had-of i j xs b trouble (Ok None) is next events t = inr (inl (events, sym is ∙ ap is_some t, next))
had-of i j xs b trouble (Err error.Failed) is next events t = inr (inr (events, sym is ∙ ap is_some t, inl next))
had-of i j xs b trouble (Err error.NoMemory) is next events t = inr (inr (events, sym is ∙ ap is_some t, inr next.1))

met-source : (i : Intake) (m : Feed) (xs : List Event) (b : Bool) → Leaves Unreceived (Source i) xs b m
    → (k : Intake) × (m ≡ Source k) × Had i k xs b
met-source i (Source k) xs b (trouble, is, (read, next, events, t)) = (k, refl, had-of i k xs b trouble read is next events t)

-- ---- what came

-- events of a part of a recording, with what was owed before it
pub record Came (o : Debt) (i j : Intake) (es : List Event) (d : Remainder) : Type 0 where
  pub part : Heard Part o (unread i) es (unread j)
  pub read : Read Part i.left j.left es
  pub all : d ≡ nothing_left → Heard Entire o (unread i) es (unread j) × Read Entire i.left j.left es

came-after : (o : Debt) (i k j : Intake) (xs es : List Event) (d : Remainder) → Heard Entire o (unread i) xs (unread k)
    → Read Entire i.left k.left xs → Came Paid k j es d → Came o i j (xs ++ es) d
came-after o i k j xs es d heard read c = record {
  part = heard-then Part o (unread i) (unread k) (unread j) xs es heard c.part;
  read = read-then Part i.left k.left j.left xs es read c.read;
  all = λ whole. (
    heard-then Entire o (unread i) (unread k) (unread j) xs es heard (c.all whole).0,
    read-then Entire i.left k.left j.left xs es read (c.all whole).1,
  );
}

came-opened : (i j : Intake) (idle : Bool) (es : List Event) (d : Remainder) → Came Owed i j es d
    → Came Paid i j (event.Checkpoint idle ∷ es) d
came-opened i j idle es d c = record {
  part = heard-opened Part idle (unread i) (unread j) es c.part;
  read = read-opened Part i.left j.left c.read;
  all = λ whole. (heard-opened Entire idle (unread i) (unread j) es (c.all whole).0, read-opened Entire i.left j.left (c.all whole).1);
}
  where
    read-opened : (w : Extent) (a b : Option (List ℕ)) → Read w a b es → Read w a b (event.Checkpoint idle ∷ es)
    read-opened w a b r = record { more = r.more; gave = r.gave; all = r.all }

plain-told : (w : Extent) (e : Event) (left : List ℕ) (es : List Event) (rest : List ℕ) → IsPlain e
    → Hears w Paid left es rest → Hears w Paid left (e ∷ es) rest
plain-told w (event.Instruction n) left es rest l h = (tt, h)
plain-told w event.Interrupt left es rest l h = (tt, h)
plain-told w event.Exception left es rest l h = (tt, h)
plain-told w (event.Clock value) left es rest l h = (tt, h)
plain-told w (event.End reason code) left es rest l h = (λ whole. tt, h)
plain-told w e left es rest l h = absurd l

plain-heard : (w : Extent) (e : Event) (a b : Option (List ℕ)) (es : List Event) → IsPlain e
    → Heard w Paid a es b → Heard w Paid a (e ∷ es) b
plain-heard w e None b es l h = tt
plain-heard w e (Some x) None es l h = absurd h
plain-heard Entire e (Some x) (Some y) es l h = plain-told Entire e x es y l h
plain-heard Part e (Some x) (Some y) es l h = (h.0, plain-told Part e x es (h.0 ++ y) l h.1)

plain-read : (w : Extent) (e : Event) (a b : Option (List ℕ)) (es : List Event) → IsPlain e → Read w a b es → Read w a b (e ∷ es)
plain-read w (event.CharRead bytes) a b es l r = absurd l
plain-read w (event.Block id ok) a b es l r = absurd l
plain-read w (event.Net packet) a b es l r = absurd l
plain-read w (event.Checkpoint idle) a b es l r = absurd l
plain-read w e a b es l r = record { more = r.more; gave = r.gave; all = r.all }

came-plain : (i j : Intake) (e : Event) (es : List Event) (d : Remainder) → IsPlain e → Came Paid i j es d → Came Paid i j (e ∷ es) d
came-plain i j e es d l c = record {
  part = plain-heard Part e (unread i) (unread j) es l c.part;
  read = plain-read Part e i.left j.left es l c.read;
  all = λ whole. (plain-heard Entire e (unread i) (unread j) es l (c.all whole).0, plain-read Entire e i.left j.left es l (c.all whole).1);
}

-- only ends
abbrev AllEnds : List Event → Type 0
AllEnds [] = Unit {0}
AllEnds (event.End reason code ∷ es) = AllEnds es
AllEnds (e ∷ es) = ⊥

-- where a part broke off, something is left to take
came-lost : (i k j : Intake) (o : Debt) (es : List Event) (d : Remainder) → AllEnds es → j ≡ k → (d ≡ nothing_left → ⊥)
    → Heard Part o (unread i) [] (unread k) → Read Part i.left k.left [] → Came o i j es d
came-lost i k j o es d ends same never heard read = record {
  part = subst (λ (z : Intake). Heard Part o (unread i) es (unread z)) (sym same) (ends-part o (unread i) (unread k) es ends heard);
  read = subst (λ (z : Intake). Read Part i.left z.left es) (sym same) (ends-lost i.left k.left es ends read);
  all = λ whole. absurd (never whole);
}
  where
    ends-told : (o : Debt) (left : List ℕ) (es : List Event) (rest : List ℕ) → AllEnds es → left ≡ rest → Hears Part o left es rest
    ends-told o left [] rest ends e = (λ whole. absurd cc, e)
    ends-told o left (event.End reason code ∷ es) rest ends e = (λ whole. absurd cc, ends-told Paid left es rest ends e)
    ends-told o left (f ∷ es) rest ends e = absurd ends

    ends-part : (o : Debt) (a b : Option (List ℕ)) (es : List Event) → AllEnds es → Heard Part o a [] b → Heard Part o a es b
    ends-part o None b es ends h = tt
    ends-part o (Some x) None es ends h = absurd h
    ends-part o (Some x) (Some y) es ends h = (h.0, ends-told o x es (h.0 ++ y) ends h.1.1)

    ends-lost : (a b : Option (List ℕ)) (es : List Event) → AllEnds es → Read Part a b [] → Read Part a b es
    ends-lost a b [] ends r = r
    ends-lost a b (event.End reason code ∷ es) ends r =
        let s = ends-lost a b es ends r in record { more = s.more; gave = s.gave; all = s.all }
    ends-lost a b (f ∷ es) ends r = absurd ends

-- ---- over all events

stopped-not-paid : Left [] true ≡ nothing_left → ⊥
stopped-not-paid x = cc

left-not-owed : (xs : List Event) (b : Bool) → Left xs b ≡ Unreceived → ⊥
left-not-owed xs b x = cc

owed-not-paid : Unreceived ≡ nothing_left → ⊥
owed-not-paid x = cc

piece-not-paid : (e : Event) (es : List Event) (b : Bool) → Left (e ∷ es) b ≡ nothing_left → ⊥
piece-not-paid e es b x = cc

pub to-source : (i j : Intake) → Source i ≡ Source j → i ≡ j
to-source i j x = cc

-- behind a stop only ends come
behind : (s : Feed) (es : List Event) (d : Remainder) (t : Feed) → HearsFrom (Left [] true) s es d t
    → AllEnds es × (d ≡ Left [] true) × (t ≡ s)
behind s [] Unreceived t h = absurd (left-not-owed [] true h.0)
behind s [] (Left xs b) t (xs_is, b_is, same) =
    (tt, ap (λ z. Left z b) xs_is ∙ ap (λ z. Left [] z) b_is, same)
behind s (event.CharRead bytes ∷ es) d t (more, b, m, (xs_is, b_is, same), rest) = absurd (absent (event.CharRead bytes) more xs_is)
behind s (event.Block id ok ∷ es) d t (more, b, m, (xs_is, b_is, same), rest) = absurd (absent (event.Block id ok) more xs_is)
behind s (event.Net packet ∷ es) d t (more, b, m, (xs_is, b_is, same), rest) = absurd (absent (event.Net packet) more xs_is)
behind s (event.Checkpoint idle ∷ es) d t (m, (xs_is, b_is, same), rest) = absurd (true-false (sym b_is))
behind s (event.Instruction n ∷ es) d t (m, (xs_is, b_is, same), rest) = absurd (true-false (sym b_is))
behind s (event.Interrupt ∷ es) d t (m, (xs_is, b_is, same), rest) = absurd (true-false (sym b_is))
behind s (event.Exception ∷ es) d t (m, (xs_is, b_is, same), rest) = absurd (true-false (sym b_is))
behind s (event.Clock value ∷ es) d t (m, (xs_is, b_is, same), rest) = absurd (true-false (sym b_is))
behind s (event.End reason code ∷ es) d t (inl (m, (xs_is, b_is, same), rest)) = absurd (true-false (sym b_is))
behind s (event.End reason code ∷ es) d t (inr (m, inl stays, rest)) =
    let k = behind m es d t rest in (k.0, k.1, k.2 ∙ stays)
behind s (event.End reason code ∷ es) d t (inr (m, inr (xs, b, (xs_is, b_is, same)), rest)) =
    let k = behind m es d t rest in (k.0, k.1, k.2 ∙ same)

-- what came where the window's inputs were received, and not entered
dropped : (i k j : Intake) (xs : List Event) (b : Bool) (es : List Event) (d : Remainder) → Had i k xs b → IsSound (Source i) → AllEnds es
    → j ≡ k → (d ≡ nothing_left → ⊥) → Came Owed i j es d
dropped i k j xs b es d (inl (piece, xs_is, b_is, gives)) sound ends same never =
    came-lost i k j Owed es d ends same never
    (heard-lost Owed (unread i) (unread k) (event.CharRead piece ∷ []) (gives-heard i k piece gives))
    (read-lost i.left k.left (event.CharRead piece ∷ []) (gives-read i k piece gives))
dropped i k j xs b es d (inr (inl (xs_is, b_is, end))) sound ends same never =
    came-lost i k j Owed es d ends same never
    (heard-weak Owed (unread i) (unread k) [] (ends-heard i k end sound)) (read-weak i.left k.left [] (ends-read i k end))
dropped i k j xs b es d (inr (inr (xs_is, b_is, inl fails))) sound ends same never =
    came-lost i k j Owed es d ends same never
    (kept-heard Part Owed (unread i) (unread k) (unread k) [] (kept-unread i k (ap (λ (z : Progress). z.count) fails.progress) fails.bytes)
    (heard-none Part Owed (unread k) (λ whole. absurd cc)))
    (kept-read Part i.left k.left k.left [] fails.bytes (read-none Part k.left))
dropped i k j xs b es d (inr (inr (xs_is, b_is, inr stays))) sound ends same never =
    came-lost i i j Owed es d ends (same ∙ stays) never (heard-none Part Owed (unread i) (λ whole. absurd cc)) (read-none Part i.left)

came-none : (i : Intake) (d : Remainder) → Came Paid i i [] d
came-none i d = record {
  part = heard-none Part Paid (unread i) (λ whole. refl);
  read = read-none Part i.left;
  all = λ whole. (heard-none Entire Paid (unread i) (λ w. refl), read-none Entire i.left);
}

-- the end of the source was answered, where a window closed
closed-by : (i k : Intake) → Had i k [] false → Ends i k
closed-by i k (inl (piece, xs_is, b_is, gives)) = absurd (absent (event.CharRead piece) [] (sym xs_is))
closed-by i k (inr (inl (xs_is, b_is, end))) = end
closed-by i k (inr (inr (xs_is, b_is, why))) = absurd (true-false (sym b_is))

sound-after : (i k : Intake) → Ends i k → IsSound (Source i) → IsSound (Source k)
sound-after i k end sound = λ is. ends-over i k end sound

abbrev debt_of : Debt → Remainder
debt_of Owed = Unreceived
debt_of Paid = nothing_left

-- at the end the feed is a source, of which the events have what came
abbrev Gets : Debt → Intake → List Event → Remainder → Feed → Type 0
Gets o i es d t = (j : Intake) × (t ≡ Source j) × Came o i j es d

-- a window closed, and then came the rest
closed-then : (i : Intake) (m : Feed) (es : List Event) (d : Remainder) (t : Feed) → IsSound (Source i)
    → Leaves Unreceived (Source i) [] false m
    → ((k : Intake) → m ≡ Source k → IsSound (Source k) → Gets Paid k es d t) → Gets Owed i es d t
closed-then i m es d t sound first f =
    let k = met-source i m [] false first in
    let end = closed-by i k.0 k.2 in
    let r = f k.0 k.1 (sound-after i k.0 end sound) in
    (r.0, r.1, came-after Owed i k.0 r.0 [] es d (ends-heard i k.0 end sound) (ends-read i k.0 end) r.2)

gets-opened : (i : Intake) (idle : Bool) (es : List Event) (d : Remainder) (t : Feed) → Gets Owed i es d t
    → Gets Paid i (event.Checkpoint idle ∷ es) d t
gets-opened i idle es d t r = (r.0, r.1, came-opened i r.0 idle es d r.2)

gets-plain : (i : Intake) (e : Event) (es : List Event) (d : Remainder) (t : Feed) → IsPlain e → Gets Paid i es d t
    → Gets Paid i (e ∷ es) d t
gets-plain i e es d t l r = (r.0, r.1, came-plain i r.0 e es d l r.2)

-- a piece came, and then the rest
typed-by : (i k : Intake) (bytes : List ℕ) (more : List Event) (b : Bool) → Had i k (event.CharRead bytes ∷ more) b
    → Gives i k bytes × (more ≡ []) × (b ≡ false)
typed-by i k bytes more b (inl (piece, xs_is, b_is, gives)) =
    let s = same-piece bytes piece more [] xs_is in
    (subst (Gives i k) (sym s.0) gives, s.1, b_is)
typed-by i k bytes more b (inr (inl (xs_is, b_is, end))) = absurd (absent (event.CharRead bytes) more xs_is)
typed-by i k bytes more b (inr (inr (xs_is, b_is, why))) = absurd (absent (event.CharRead bytes) more xs_is)

typed-then : (i : Intake) (m : Feed) (bytes : List ℕ) (more : List Event) (b : Bool) (es : List Event) (d : Remainder) (t : Feed)
    → Leaves Unreceived (Source i) (event.CharRead bytes ∷ more) b m
    → ((k : Intake) → m ≡ Source k → more ≡ [] → b ≡ false → IsSound (Source k) → Gets Paid k es d t)
    → Gets Owed i (event.CharRead bytes ∷ es) d t
typed-then i m bytes more b es d t first f =
    let k = met-source i m (event.CharRead bytes ∷ more) b first in
    let g = typed-by i k.0 bytes more b k.2 in
    let r = f k.0 k.1 g.1 g.2 (λ over. absurd (true-false (sym over ∙ g.0.goes_on))) in
    (r.0, r.1, came-after Owed i k.0 r.0 (event.CharRead bytes ∷ []) es d (gives-heard i k.0 bytes g.0) (gives-read i k.0 bytes g.0) r.2)

-- no other input comes of a source
no-other : (i : Intake) (m : Feed) (e : Event) (more : List Event) (b : Bool) → ((piece : List ℕ) → e ∷ more ≡ event.CharRead piece ∷ [] → ⊥)
    → Leaves Unreceived (Source i) (e ∷ more) b m → ⊥
no-other i m e more b never first = no_other_by (met-source i m (e ∷ more) b first)
  where
    no_had : (k : Intake) → Had i k (e ∷ more) b → ⊥
    no_had k (inl (piece, xs_is, b_is, gives)) = never piece xs_is
    no_had k (inr (inl (xs_is, b_is, end))) = absent e more xs_is
    no_had k (inr (inr (xs_is, b_is, why))) = absent e more xs_is

    no_other_by : (k : Intake) × (m ≡ Source k) × Had i k (e ∷ more) b → ⊥
    no_other_by (k, same, had) = no_had k had

-- a window was stopped
stopped-then : (i : Intake) (m : Feed) (reason code : ℕ) (es : List Event) (d : Remainder) (t : Feed) → IsSound (Source i)
    → Drops Unreceived (Source i) m → AllEnds es → d ≡ Left [] true → t ≡ m → Gets Owed i (event.End reason code ∷ es) d t
stopped-then i m reason code es d t sound (inl stays) ends d_is same = (
  i,
  same ∙ stays,
  came-lost i i i Owed (event.End reason code ∷ es) d ends refl (λ e. stopped-not-paid (sym d_is ∙ e))
      (heard-none Part Owed (unread i) (λ whole. absurd cc)) (read-none Part i.left),
)
stopped-then i m reason code es d t sound (inr (xs, b, received)) ends d_is same =
    let k = met-source i m xs b received in
    (k.0, same ∙ k.1, dropped i k.0 k.0 xs b (event.End reason code ∷ es) d k.2 sound ends refl (λ e. stopped-not-paid (sym d_is ∙ e)))

not-dropped : (i : Intake) (m : Feed) → Drops nothing_left (Source i) m → m ≡ Source i
not-dropped i m (inl stays) = stays
not-dropped i m (inr (xs, b, (xs_is, b_is, same))) = same

paid-stopped : (i : Intake) (m : Feed) (reason code : ℕ) (es : List Event) (d : Remainder) (t : Feed)
    → Drops nothing_left (Source i) m → AllEnds es → d ≡ Left [] true → t ≡ m → Gets Paid i (event.End reason code ∷ es) d t
paid-stopped i m reason code es d t drops ends d_is same = (
  i,
  same ∙ not-dropped i m drops,
  came-lost i i i Paid (event.End reason code ∷ es) d ends refl (λ e. stopped-not-paid (sym d_is ∙ e))
      (heard-none Part Paid (unread i) (λ whole. absurd cc)) (read-none Part i.left),
)

-- nothing more came of a window that owed its inputs
received-none : (i : Intake) (xs : List Event) (b : Bool) (t : Feed) → IsSound (Source i) → Leaves Unreceived (Source i) xs b t
    → Gets Owed i [] (Left xs b) t
received-none i xs b t sound first = let k = met-source i t xs b first in (k.0, k.1, by_had k.0 k.2)
  where
    by_had : (k : Intake) → Had i k xs b → Came Owed i k [] (Left xs b)
    by_had k (inl (piece, xs_is, b_is, gives)) =
        dropped i k k xs b [] (Left xs b) (inl (piece, xs_is, b_is, gives)) sound tt refl
        (λ e. piece-not-paid (event.CharRead piece) [] b (ap (λ z. Left z b) (sym xs_is) ∙ e))
    by_had k (inr (inl (xs_is, b_is, end))) = record {
      part = heard-weak Owed (unread i) (unread k) [] (ends-heard i k end sound);
      read = read-weak i.left k.left [] (ends-read i k end);
      all = λ whole. (ends-heard i k end sound, ends-read i k end);
    }
    by_had k (inr (inr (xs_is, b_is, why))) =
        dropped i k k xs b [] (Left xs b) (inr (inr (xs_is, b_is, why))) sound tt refl
        (λ e. stopped-not-paid (ap (λ z. Left [] z) (sym b_is) ∙ ap (λ z. Left z b) (sym xs_is) ∙ e))

pub gets : (o : Debt) (i : Intake) (es : List Event) (d : Remainder) (t : Feed) → IsSound (Source i)
    → HearsFrom (debt_of o) (Source i) es d t → Gets o i es d t
gets Owed i [] Unreceived t sound (debt_is, same) = (
  i,
  same,
  came-lost i i i Owed [] Unreceived tt refl owed-not-paid
      (heard-none Part Owed (unread i) (λ whole. absurd cc)) (read-none Part i.left),
)
gets Owed i [] (Left xs b) t sound first = received-none i xs b t sound first
gets Owed i (event.CharRead bytes ∷ es) d t sound (more, b, m, first, rest) =
    typed-then i m bytes more b es d t first
    (λ k same none well s. gets Paid k es d t s (subst (λ (z : List Event). HearsFrom (Left z false) (Source k) es d t) none
    (subst (λ (z : Bool). HearsFrom (Left more z) (Source k) es d t) well (subst (λ (z : Feed). HearsFrom (Left more b) z es d t) same rest))))
gets Owed i (event.Block id ok ∷ es) d t sound (more, b, m, first, rest) =
    absurd (no-other i m (event.Block id ok) more b (λ piece e. not-block id ok piece more [] e) first)
gets Owed i (event.Net packet ∷ es) d t sound (more, b, m, first, rest) =
    absurd (no-other i m (event.Net packet) more b (λ piece e. not-net packet piece more [] e) first)
gets Owed i (event.Checkpoint idle ∷ es) d t sound (m, first, rest) =
    closed-then i m (event.Checkpoint idle ∷ es) d t sound first
    (λ k same s. gets-opened k idle es d t (gets Owed k es d t s (subst (λ (z : Feed). HearsFrom Unreceived z es d t) same rest)))
gets Owed i (event.Instruction n ∷ es) d t sound (m, first, rest) =
    closed-then i m (event.Instruction n ∷ es) d t sound first
    (λ k same s. gets-plain k (event.Instruction n) es d t tt (gets Paid k es d t s (subst (λ (z : Feed). HearsFrom nothing_left z es d t) same rest)))
gets Owed i (event.Interrupt ∷ es) d t sound (m, first, rest) =
    closed-then i m (event.Interrupt ∷ es) d t sound first
    (λ k same s. gets-plain k event.Interrupt es d t tt (gets Paid k es d t s (subst (λ (z : Feed). HearsFrom nothing_left z es d t) same rest)))
gets Owed i (event.Exception ∷ es) d t sound (m, first, rest) =
    closed-then i m (event.Exception ∷ es) d t sound first
    (λ k same s. gets-plain k event.Exception es d t tt (gets Paid k es d t s (subst (λ (z : Feed). HearsFrom nothing_left z es d t) same rest)))
gets Owed i (event.Clock value ∷ es) d t sound (m, first, rest) =
    closed-then i m (event.Clock value ∷ es) d t sound first
    (λ k same s. gets-plain k (event.Clock value) es d t tt (gets Paid k es d t s (subst (λ (z : Feed). HearsFrom nothing_left z es d t) same rest)))
gets Owed i (event.End reason code ∷ es) d t sound (inl (m, first, rest)) =
    closed-then i m (event.End reason code ∷ es) d t sound first
    (λ k same s. gets-plain k (event.End reason code) es d t tt (gets Paid k es d t s (subst (λ (z : Feed). HearsFrom nothing_left z es d t) same rest)))
gets Owed i (event.End reason code ∷ es) d t sound (inr (m, drops, rest)) =
    let k = behind m es d t rest in stopped-then i m reason code es d t sound drops k.0 k.1 k.2
gets Paid i [] Unreceived t sound h = absurd (left-not-owed [] false h.0)
gets Paid i [] (Left xs b) t sound (xs_is, b_is, same) = (i, same, came-none i (Left xs b))
gets Paid i (event.CharRead bytes ∷ es) d t sound (more, b, m, (xs_is, b_is, same), rest) = absurd (absent (event.CharRead bytes) more xs_is)
gets Paid i (event.Block id ok ∷ es) d t sound (more, b, m, (xs_is, b_is, same), rest) = absurd (absent (event.Block id ok) more xs_is)
gets Paid i (event.Net packet ∷ es) d t sound (more, b, m, (xs_is, b_is, same), rest) = absurd (absent (event.Net packet) more xs_is)
gets Paid i (event.Checkpoint idle ∷ es) d t sound (m, (xs_is, b_is, same), rest) =
    gets-opened i idle es d t (gets Owed i es d t sound (subst (λ (z : Feed). HearsFrom Unreceived z es d t) same rest))
gets Paid i (event.Instruction n ∷ es) d t sound (m, (xs_is, b_is, same), rest) =
    gets-plain i (event.Instruction n) es d t tt (gets Paid i es d t sound (subst (λ (z : Feed). HearsFrom nothing_left z es d t) same rest))
gets Paid i (event.Interrupt ∷ es) d t sound (m, (xs_is, b_is, same), rest) =
    gets-plain i event.Interrupt es d t tt (gets Paid i es d t sound (subst (λ (z : Feed). HearsFrom nothing_left z es d t) same rest))
gets Paid i (event.Exception ∷ es) d t sound (m, (xs_is, b_is, same), rest) =
    gets-plain i event.Exception es d t tt (gets Paid i es d t sound (subst (λ (z : Feed). HearsFrom nothing_left z es d t) same rest))
gets Paid i (event.Clock value ∷ es) d t sound (m, (xs_is, b_is, same), rest) =
    gets-plain i (event.Clock value) es d t tt (gets Paid i es d t sound (subst (λ (z : Feed). HearsFrom nothing_left z es d t) same rest))
gets Paid i (event.End reason code ∷ es) d t sound (inl (m, (xs_is, b_is, same), rest)) =
    gets-plain i (event.End reason code) es d t tt (gets Paid i es d t sound (subst (λ (z : Feed). HearsFrom nothing_left z es d t) same rest))
gets Paid i (event.End reason code ∷ es) d t sound (inr (m, drops, rest)) =
    let k = behind m es d t rest in paid-stopped i m reason code es d t drops k.0 k.1 k.2

-- what the events of a recording have of its source
pub came-all : (i j : Intake) (es : List Event) (d : Remainder) → IsSound (Source i) → HearsFrom nothing_left (Source i) es d (Source j)
    → Came Paid i j es d
came-all i j es d sound h =
    let r = gets Paid i es d (Source j) sound h in
    subst (λ (z : Intake). Came Paid i z es d) (sym (to-source j r.0 r.1)) r.2

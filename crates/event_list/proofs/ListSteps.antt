-- A list of a log's events, from event to event.
use Rattle.std.proofs.Common.{◌≡◌, ℕ, ◌<◌, ◌≤◌, ◌+◌, ◌^◌, Bool, true, false, refl, sym, ap, ◌∙◌, arith, subst, inl, inr, List, [], ◌∷◌, ◌++◌, length, length-append, append_assoc, append-nil}
use Rattle.std.specs.Prelude.{Some, None, IfSome, Ok, Err, ⊤}
use Rattle.std.specs.declared.option.Option.{Option}
use Rattle.std.specs.List.{AllByRecursion}
use Rattle.std.proofs.lemmas.Bool.{both_ways}
use Rattle.std.proofs.lemmas.List.{nil_from_length}
use Rattle.std.proofs.lemmas.Option.{IfSome_then}
use Rattle.std.specs.Io.KnownBytes.{Consumes}
use Rattle.std.proofs.KnownBytes.{Consumes-nil, Consumes-trans}
use Rattle.outside.specs.Causes.{Rose}
use Rattle.outside.specs.Told.{Takes, TakesFront}
use Rattle.outside.proofs.ToldLemmas.{Takes-refl, Takes-trans}
use Rattle.event_log.specs.declared.event.Event.{Event}
use Rattle.event_log.specs.declared.event.Event.TheVariants as event_is
use Rattle.event_log.specs.declared.parse.ParseError.TheVariants as parse
use Rattle.event_log.specs.declared.stream_error.StreamError.{StreamError}
use Rattle.event_log.specs.declared.stream_error.StreamError.TheVariants as stream
use Rattle.event_log.specs.Grammar.{Stops, Cut, Bad}
use Rattle.event_log.specs.Log.{AsksMemory}
use Rattle.event_log.specs.Spelling.{event, text, texts, IsEvent}
use Rattle.event_log.specs.Reading.{Reader, ahead, to_limit, read_so_far, Breaks, Nexts, Ends}
use Rattle.event_log.proofs.FrontLemmas.{texts_more}
use Rattle.log_order.specs.declared.refusal.Found.{Found}
use Rattle.log_order.specs.declared.refusal.Found.TheVariants as found
use Rattle.log_order.proofs.Following.{text-some}
use Rattle.event_list.specs.declared.listing.ListEnd.{ListEnd}
use Rattle.event_list.specs.declared.listing.ListEnd.TheVariants.{Whole, Refused, LogRead, LogTooLong, WriteFault, NoMemory}
use Rattle.event_list.specs.Texts.{event_line, lines_from, event_lines}
use Rattle.event_list.specs.Listing.{is_end, EndIsLast, ended, Listed, listed, behind, Begins, IsWrongAt, IsPastLimit, StartsWith, Unfaulted, ListsFront, ListsTo, refusal_of, stopped_as}
use Rattle.event_list.proofs.Told.{told-both, told-any, told-behind, told-front, some-within, none-within, long-ahead}

-- ---- one event more

pub one-end-more : (es : List Event) (e : Event) → EndIsLast es → ended es ≡ false
    → EndIsLast (es ++ e ∷ [])
unfolding EndIsLast ended
one-end-more [] e one going = tt
one-end-more (d ∷ []) e one going = (going, tt)
one-end-more (d ∷ f ∷ es) e one going = (one.0, one-end-more (f ∷ es) e one.1 going)

ended-more : (es : List Event) (e : Event) → ended (es ++ e ∷ []) ≡ is_end e
unfolding ended
ended-more [] e = refl
ended-more (d ∷ []) e = refl
ended-more (d ∷ f ∷ es) e = ended-more (f ∷ es) e

pub all-more : (es : List Event) (e : Event) → AllByRecursion IsEvent es → IsEvent e
    → AllByRecursion IsEvent (es ++ e ∷ [])
all-more [] e all is = (is, tt)
all-more (d ∷ es) e all is = (all.0, all-more es e all.1 is)

pub lines-more : (es : List Event) (e : Event) (i at : ℕ)
    → lines_from i at (es ++ e ∷ [])
    ≡ lines_from i at es ++ event_line (i + length es) (at + length (texts es)) e
unfolding lines_from
lines-more [] e i at =
    let here : i + 0 ≡ i = omega arith in
    let there : at + 0 ≡ at = omega arith in
    append-nil (event_line i at e) ∙ ap (λ z. event_line z at e) (sym here)
    ∙ ap (λ z. event_line (i + 0) z e) (sym there)
lines-more (d ∷ es) e i at =
    let first = event_line i at d in
    let next : ℕ = at + length (text d) in
    let rest = lines_from (i + 1) next es in
    let number : i + 1 + length es ≡ i + length (d ∷ es) = omega arith in
    let place : next + length (texts es) ≡ at + length (texts (d ∷ es)) =
    omega (arith, length-append (text d) (texts es)) in
    ap (λ z. first ++ z) (lines-more es e (i + 1) next)
    ∙ ap (λ z. first ++ (rest ++ event_line z (next + length (texts es)) e)) number
    ∙ ap (λ z. first ++ (rest ++ event_line (i + length (d ∷ es)) z e)) place
    ∙ sym (append_assoc first rest
    (event_line (i + length (d ∷ es)) (at + length (texts (d ∷ es))) e))

-- ---- where a list stands

-- each of these events was given its line, and the log stands behind them
pub record Listing (p q : Listed) (index : ℕ) (over : Bool) : Type 0 where
  pub events : List Event
  pub are : AllByRecursion IsEvent events
  pub one_end : EndIsLast events
  pub over_is : ended events ≡ over
  pub log : Consumes (ahead p.log) (ahead q.log) (texts events)
  pub lines : Takes p.taken q.taken (event_lines events)
  pub index_is : index ≡ length events
  pub place : q.log.unread.place ≡ behind events
  pub unfaulted : Unfaulted p q
  pub works : q.log.unread.failed ≡ false
  pub read : read_so_far q.log.unread ≤ 2 ^ 40
  -- the index is bounded by the place
  pub counted : index + 98 ≤ q.log.unread.place

pub listing-none : (p : Listed) → p.log.unread.place ≡ 98 → p.log.unread.failed ≡ false
    → read_so_far p.log.unread ≤ 2 ^ 40 → Listing p p 0 false
unfolding EndIsLast ended lines_from
listing-none p place works read = record {
  events = [];
  are = tt;
  one_end = tt;
  over_is = refl;
  log = Consumes-nil (ahead p.log);
  lines = Takes-refl p.taken;
  index_is = refl;
  place = place;
  unfaulted = record { log = refl; sink = refl };
  works = works;
  read = read;
  counted = omega (arith, place);
}

asked : (a : Option (List ℕ)) → IfSome a AsksMemory
    → (e : Event) × IsEvent e × IfSome a (StartsWith e)
asked None asks = (event_is.Interrupt, tt, tt)
asked (Some bytes) (e, rest, is, has, parts) = (e, is, (rest, parts))

module _ (p q : Listed) (index : ℕ) (over : Bool) (l : Listing p q index over) where
  begins : (P : List ℕ → Type 0) → IfSome (ahead q.log) P → Begins p.log l.events P
  begins P rest = record {
    are = l.are;
    one_end = l.one_end;
    within = omega (arith, l.place, l.read);
    spelled = told-behind (ahead p.log) (ahead q.log) (texts l.events) P l.log rest;
  }

  unfaulted : (r : Reader) → r.faults ≡ q.log.faults → Unfaulted p (listed r q.taken q.faults)
  unfaulted r same = record { log = same ∙ l.unfaulted.log; sink = l.unfaulted.sink }

  -- ---- the next event

  line-there : (e : Event) (offset : ℕ) → offset ≡ q.log.unread.place
      → event_line index offset e ≡ event_line (length l.events) (behind l.events) e
  line-there e offset at =
      ap (λ z. event_line z offset e) l.index_is
      ∙ ap (λ z. event_line (length l.events) z e) (at ∙ l.place)

  lines-then : (e : Event) (offset : ℕ) → offset ≡ q.log.unread.place
      → event_lines l.events ++ event_line index offset e ≡ event_lines (l.events ++ e ∷ [])
  lines-then e offset at =
      let number : length l.events ≡ 0 + length l.events = omega arith in
      ap (λ z. event_lines l.events ++ z) (line-there e offset at)
      ∙ ap (λ z. event_lines l.events ++ event_line z (behind l.events) e) number
      ∙ sym (lines-more l.events e 0 98)

  pub listing-more : (e : Event) (offset : ℕ) (r : Reader) (taken : Option (List ℕ)) (faults : ℕ)
      → over ≡ false → Nexts q.log r (Ok (e, offset))
      → Takes q.taken taken (event_line index offset e) → faults ≡ q.faults
      → Listing p (listed r taken faults) (index + 1) (is_end e)
  listing-more e offset r taken faults off (run, at, is, passed) line same =
      let more : texts (l.events ++ e ∷ []) ≡ texts l.events ++ text e = texts_more l.events e in
      let sizes : length (texts (l.events ++ e ∷ [])) ≡ length (texts l.events) + length (text e) =
      ap length more ∙ length-append (texts l.events) (text e) in
      record {
        events = l.events ++ e ∷ [];
        are = all-more l.events e l.are is;
        one_end = one-end-more l.events e l.one_end (l.over_is ∙ off);
        over_is = ended-more l.events e;
        log = subst (Consumes (ahead p.log) (ahead r)) (sym more)
            (Consumes-trans (ahead p.log) (ahead q.log) (ahead r) (texts l.events) (text e) l.log
            passed.bytes);
        lines = subst (Takes p.taken taken) (lines-then e offset at)
            (Takes-trans p.taken q.taken taken (event_lines l.events) (event_line index offset e)
            l.lines line);
        index_is = omega (arith, l.index_is, length-append l.events (e ∷ []));
        place = omega (arith, passed.place, l.place, sizes);
        unfaulted = record {
          log = run.faults ∙ l.unfaulted.log;
          sink = same ∙ l.unfaulted.sink;
        };
        works = run.works;
        read = run.read;
        counted = omega (arith, l.counted, passed.place, text-some e);
      }

  -- the list stops before an event
  stops : (e : Event) (r : Reader) (taken : Option (List ℕ)) (faults : ℕ) (front rest : List ℕ)
      → over ≡ false → IsEvent e → IfSome (ahead q.log) (StartsWith e)
      → event_line (length l.events) (behind l.events) e ≡ front ++ rest
      → Takes q.taken taken front
      → ListsFront p (listed r taken faults) front
  stops e r taken faults front rest off is there line took = record {
    events = l.events;
    next = e;
    is = is;
    going = l.over_is ∙ off;
    begins = begins (StartsWith e) there;
    line = (rest, line);
    lines = Takes-trans p.taken q.taken taken (event_lines l.events) front l.lines took;
  }

  -- its line wasn't taken whole
  pub unwritten : (e : Event) (offset : ℕ) (r : Reader) (taken : Option (List ℕ)) (faults : ℕ)
      → over ≡ false → Nexts q.log r (Ok (e, offset))
      → TakesFront q.taken taken (event_line index offset e) → Rose q.faults faults
      → ListsTo p (listed r taken faults) WriteFault
  unwritten e offset r taken faults off (run, at, is, passed) took rose = (
    took.front,
    stops e r taken faults took.front took.rest off is
        (told-front (ahead q.log) (ahead r) (text e) passed.bytes)
        (sym (line-there e offset at) ∙ took.whole) took.taken,
    subst (λ z. Rose z faults) l.unfaulted.sink rose,
    run.faults ∙ l.unfaulted.log,
  )

  short : (e : Event) (r : Reader) → over ≡ false → r.faults ≡ q.log.faults → IsEvent e
      → IfSome (ahead q.log) (StartsWith e) → ListsTo p (listed r q.taken q.faults) NoMemory
  short e r off same is there = (
    stops e r q.taken q.faults [] (event_line (length l.events) (behind l.events) e) off is there
        refl (Takes-refl q.taken),
    unfaulted r same,
  )

  -- its line found no memory
  pub unlined : (e : Event) (offset : ℕ) (r : Reader) → over ≡ false
      → Nexts q.log r (Ok (e, offset)) → ListsTo p (listed r q.taken q.faults) NoMemory
  unlined e offset r off (run, at, is, passed) =
      short e r off run.faults is (told-front (ahead q.log) (ahead r) (text e) passed.bytes)

  -- ---- no event more

  wrong : (offset : ℕ) (r : Reader) (f : Found) → offset ≡ q.log.unread.place
      → r.faults ≡ q.log.faults
      → IfSome (ahead q.log) (IsWrongAt over q.log.unread.place f)
      → ListsTo p (listed r q.taken q.faults) (Refused (refusal_of index offset f))
  wrong offset r f at same there = record {
    events = l.events;
    begins = begins (IsWrongAt (ended l.events) (behind l.events) f)
        (IfSome_then (ahead q.log) there (λ rest w.
        subst (λ z. IsWrongAt z (behind l.events) f rest) (sym l.over_is)
        (subst (λ z. IsWrongAt over z f rest) l.place w)));
    index = l.index_is;
    offset = at ∙ l.place;
    due = refl;
    lines = l.lines;
    unfaulted = unfaulted r same;
  }

  long : (r : Reader) → r.faults ≡ q.log.faults
      → IfSome (ahead q.log) (IsPastLimit over q.log.unread.place)
      → ListsTo p (listed r q.taken q.faults) LogTooLong
  long r same there = record {
    events = l.events;
    begins = begins (IsPastLimit (ended l.events) (behind l.events))
        (IfSome_then (ahead q.log) there (λ rest w.
        subst (λ z. IsPastLimit z (behind l.events) rest) (sym l.over_is)
        (subst (λ z. IsPastLimit over z rest) l.place w)));
    lines = l.lines;
    unfaulted = unfaulted r same;
  }

  unread : (r : Reader) → Breaks q.log r → ListsTo p (listed r q.taken q.faults) LogRead
  unread r (failed, inl was) = absurd (both_ways q.log.unread.failed l.works was.0)
  unread r (failed, inr now) = record {
    events = l.events;
    begins = begins (λ rest. ⊤) (told-any (ahead q.log));
    lines = l.lines;
    log = subst (λ z. Rose z r.faults) l.unfaulted.log now.1;
    sink = l.unfaulted.sink;
  }

  -- the log gives no event
  pub next-stopped : (r : Reader) (x : StreamError) → over ≡ false → Nexts q.log r (Err x)
      → ListsTo p (listed r q.taken q.faults) (stopped_as index x)
  next-stopped r (stream.Parse (parse.Cut offset)) off (run, stays, at, cut) =
      wrong offset r found.Cut at run.faults
      (IfSome_then (ahead q.log) cut (λ rest w. (off, w.0, w.1)))
  next-stopped r (stream.Parse (parse.Bad offset rule)) off (run, stays, at, bad) =
      wrong offset r (found.Rule rule) at run.faults
      (IfSome_then (ahead q.log) bad (λ rest w. (off, w)))
  next-stopped r (stream.Parse parse.NoMemory) off next = absurd next
  next-stopped r stream.Failed off next = unread r next
  next-stopped r stream.TooLong off (past, cut) =
      long r past.faults
      (IfSome_then (ahead q.log) (told-both (ahead q.log) (λ rest. 2 ^ 40 < q.log.unread.place + length rest)
      (λ rest. Stops event (to_limit q.log.unread.place rest) Cut) (long-ahead q.log r past)
      (cut l.read)) (λ rest w. (w.0, inl (off, w.1))))
  next-stopped r stream.NoMemory off (run, stays, asks) =
      let (e, is, there) = asked (ahead q.log) asks in
      short e r off run.faults is there

  -- the log doesn't say whether it ends
  pub end-stopped : (r : Reader) (x : StreamError) → over ≡ true → Ends q.log r (Err x)
      → ListsTo p (listed r q.taken q.faults) (stopped_as index x)
  end-stopped r (stream.Parse fault) on end = absurd end
  end-stopped r stream.Failed on end = unread r end
  end-stopped r stream.TooLong on (past, full) =
      long r past.faults
      (IfSome_then (ahead q.log) (long-ahead q.log r past)
      (λ rest more. (more, inr (on, none-within q.log.unread.place rest (full l.read)))))
  end-stopped r stream.NoMemory on end = absurd end

  pub more-bytes : (r : Reader) (offset : ℕ) → over ≡ true → Ends q.log r (Ok false)
      → offset ≡ r.unread.place
      → ListsTo p (listed r q.taken q.faults) (Refused (refusal_of index offset found.MoreBytes))
  more-bytes r offset on (run, stays, held, some) at =
      let room : q.log.unread.place < 2 ^ 40 = omega (arith, run.read, held, stays.place) in
      wrong offset r found.MoreBytes (at ∙ stays.place) run.faults
      (IfSome_then (ahead q.log) some
      (λ rest w. (on, some-within q.log.unread.place rest room w)))

  pub whole : (r : Reader) → over ≡ true → Ends q.log r (Ok true)
      → ListsTo p (listed r q.taken q.faults) Whole
  whole r on (run, stays, none) = record {
    events = l.events;
    begins = begins (λ rest. rest ≡ [])
        (IfSome_then (ahead q.log) none nil_from_length);
    over = l.over_is ∙ on;
    lines = l.lines;
    unfaulted = unfaulted r run.faults;
  }

  -- ---- as the code has it

  pub more-as : (e : Event) (offset : ℕ) (r : Reader) (taken : Option (List ℕ)) (faults : ℕ)
      (line : List ℕ) (now : Bool) → over ≡ false → Nexts q.log r (Ok (e, offset))
      → line ≡ event_line index offset e → Takes q.taken taken line → faults ≡ q.faults
      → now ≡ is_end e → Listing p (listed r taken faults) (index + 1) now
  more-as e offset r taken faults line now off next same took kept is =
      subst (λ z. Listing p (listed r taken faults) (index + 1) z) (sym is)
      (listing-more e offset r taken faults off next (subst (λ z. Takes q.taken taken z) same took)
      kept)

  pub unwritten-as : (e : Event) (offset : ℕ) (r : Reader) (taken : Option (List ℕ)) (faults : ℕ)
      (line : List ℕ) → over ≡ false → Nexts q.log r (Ok (e, offset))
      → line ≡ event_line index offset e → TakesFront q.taken taken line → Rose q.faults faults
      → ListsTo p (listed r taken faults) WriteFault
  unwritten-as e offset r taken faults line off next same took rose =
      unwritten e offset r taken faults off next
      (subst (λ z. TakesFront q.taken taken z) same took) rose

  pub next-as : (r : Reader) (x : StreamError) (result : ListEnd) → over ≡ false
      → Nexts q.log r (Err x) → result ≡ stopped_as index x
      → ListsTo p (listed r q.taken q.faults) result
  next-as r x result off next is =
      subst (λ z. ListsTo p (listed r q.taken q.faults) z) (sym is) (next-stopped r x off next)

  pub more-bytes-as : (r : Reader) (offset : ℕ) (result : ListEnd) → over ≡ true
      → Ends q.log r (Ok false) → offset ≡ r.unread.place
      → result ≡ Refused (refusal_of index offset found.MoreBytes)
      → ListsTo p (listed r q.taken q.faults) result
  more-bytes-as r offset result on end at is =
      subst (λ z. ListsTo p (listed r q.taken q.faults) z) (sym is) (more-bytes r offset on end at)

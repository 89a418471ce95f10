-- What a reader did in one step after another.
use Rattle.std.proofs.Common.{◌≡◌, ℕ, ◌<◌, ◌≤◌, ◌+◌, ◌^◌, false, List, ◌++◌, length, take, ◌-◌, None, Some, refl, sym, ap, ◌∙◌, inl, inr, arith, subst, append_assoc, append-nil, length-append}
use Rattle.std.specs.Prelude.{IfSome, Ok, Err}
use Rattle.std.specs.declared.option.Option.{Option}
use Rattle.std.proofs.lemmas.List.{take_at}
use Rattle.std.proofs.Math.Seq.{take-append-add}
use Rattle.std.specs.Io.KnownBytes.{Consumes, Keeps, IsAtEnd, prepend_known}
use Rattle.outside.specs.Causes.{Rose}
use Rattle.event_log.specs.declared.event.Event.{Event}
use Rattle.event_log.specs.declared.parse.ParseError.{ParseError}
use Rattle.event_log.specs.declared.parse.ParseError.TheVariants as parse
use Rattle.event_log.specs.declared.rule.Rule.{Rule}
use Rattle.event_log.specs.declared.stream_error.StreamError.{StreamError}
use Rattle.event_log.specs.declared.stream_error.StreamError.TheVariants as stream
use Rattle.event_log.specs.Grammar.{Stops, Cut, Bad}
use Rattle.event_log.specs.Spelling.{event, text}
use Rattle.event_log.specs.HeaderFormat.{header, header_text}
use Rattle.event_log.specs.Log.{AsksMemory}
use Rattle.event_log.specs.declared.header.Header.{Header}
use Rattle.event_log.specs.Reading.{Reader, Unread, reading, read_so_far, to_limit, ahead, Runs, Stays, Stopped, Waits, Nexts, Ends, Mores, Parses, IsReady, Heads, HeadParses}
use Rattle.event_log.proofs.Widths.{bad_longer}
use Rattle.event_log.proofs.HeaderLaws.{header_length}

-- ---- bytes that are told

keeps_refl : (a : Option (List ℕ)) → Keeps a a
keeps_refl None = tt
keeps_refl (Some xs) = refl

keeps_then : (a b c : Option (List ℕ)) → Keeps a b → Keeps b c → Keeps a c
keeps_then None b c p q = tt
keeps_then (Some x) None c p q = absurd p
keeps_then (Some x) (Some y) None p q = absurd q
keeps_then (Some x) (Some y) (Some z) p q = q ∙ p

consumes_after : (a b c : Option (List ℕ)) (bytes : List ℕ) → Keeps a b → Consumes b c bytes → Consumes a c bytes
consumes_after None b c bytes p q = tt
consumes_after (Some x) None c bytes p q = absurd p
consumes_after (Some x) (Some y) None bytes p q = absurd q
consumes_after (Some x) (Some y) (Some z) bytes p q = sym p ∙ q

told_after : (P : List ℕ → Type 0) (a b : Option (List ℕ)) → Keeps a b → IfSome b P → IfSome a P
told_after P None b p h = tt
told_after P (Some x) None p h = absurd p
told_after P (Some x) (Some y) p h = subst P p h

-- a front of what is held is given up
pub consumed : (left : Option (List ℕ)) (held front rest : List ℕ) → held ≡ front ++ rest → Consumes (prepend_known held left) (prepend_known rest left) front
consumed None held front rest is = tt
consumed (Some more) held front rest is = ap (λ z. z ++ more) is ∙ append_assoc front rest more

-- a fault in what is held is one in what is ahead, up to the limit
bad_ahead : (left : Option (List ℕ)) (place : ℕ) (held : List ℕ) (rule : Rule) → place + length held ≤ 2 ^ 40
    → Stops event held (Bad rule) → IfSome (prepend_known held left) (λ bytes. Stops event (to_limit place bytes) (Bad rule))
bad_ahead None place held rule fits s = tt
bad_ahead (Some more) place held rule fits s =
    let room : ℕ = 2 ^ 40 - place - length held in
    let all : length held + room ≡ 2 ^ 40 - place = omega (arith, fits) in
    subst (λ n. Stops event (take n (held ++ more)) (Bad rule)) all
    (subst (λ z. Stops event z (Bad rule)) (sym (take-append-add held more room))
    (bad_longer event held (take room more) rule s))

-- at the source's end what is held is all
pub all_held : (P : List ℕ → Type 0) (left : Option (List ℕ)) (held : List ℕ) → IsAtEnd left → P held → IfSome (prepend_known held left) P
all_held P None held end h = tt
all_held P (Some more) held end h = subst P (sym (ap (λ z. held ++ z) end ∙ append-nil held)) h

-- ---- one step after another

pub runs_then : (old mid new : Reader) → Runs old mid → Runs mid new → Runs old new
runs_then old mid new p q = record { worked = p.worked; works = q.works; faults = q.faults ∙ p.faults; read = q.read; later = omega (arith, p.later, q.later) }

pub stays_same : (r : Reader) → Stays r r
stays_same r = record { bytes = keeps_refl (ahead r); place = refl }

pub stays_then : (old mid new : Reader) → Stays old mid → Stays mid new → Stays old new
stays_then old mid new p q = record { bytes = keeps_then (ahead old) (ahead mid) (ahead new) p.bytes q.bytes; place = q.place ∙ p.place }

-- a source that may be asked runs on
pub runs_same : (left : Option (List ℕ)) (faults : ℕ) (u : Unread) → u.failed ≡ false → read_so_far u ≤ 2 ^ 40
    → Runs (reading left faults u) (reading left faults u)
runs_same left faults u works read = record { worked = works; works = works; faults = refl; read = read; later = omega arith }

-- a source that may not be asked stays as it was
pub stopped_at_once : (left : Option (List ℕ)) (faults : ℕ) (u : Unread) (reason : Type 0) (e : StreamError)
    → IsReady u (Err e) → Stopped (reading left faults u) (reading left faults u) reason e
stopped_at_once left faults u reason stream.Failed is = (is, inl (is, refl))
stopped_at_once left faults u reason stream.TooLong is = (
  record {
    worked = is.0;
    works = is.0;
    faults = refl;
    read = is.1;
    later = omega arith;
    stays = stays_same (reading left faults u);
  },
  λ within. absurd (omega (arith, within, is.1)),
)
stopped_at_once left faults u reason stream.NoMemory is = absurd is
stopped_at_once left faults u reason (stream.Parse fault) is = absurd is

stopped_then : (old mid new : Reader) (reason first : Type 0) (e : StreamError) → Runs old mid → Stays old mid
    → (reason → first) → Stopped mid new reason e → Stopped old new first e
stopped_then old mid new reason first stream.Failed run stay why (failed, inl (before, same)) = cc
stopped_then old mid new reason first stream.Failed run stay why (failed, inr (before, rose, more, read)) =
    (failed, inr (run.worked, subst (λ n. Rose n new.faults) run.faults rose, stays_then old mid new stay more, read))
stopped_then old mid new reason first stream.TooLong run stay why (s, is) = (
  record { worked = run.worked; works = s.works; faults = s.faults ∙ run.faults; read = s.read; later = omega (arith, run.later, s.later); stays = stays_then old mid new stay s.stays },
  λ within. why (is run.read),
)
stopped_then old mid new reason first stream.NoMemory run stay why s = absurd s
stopped_then old mid new reason first (stream.Parse fault) run stay why s = absurd s

-- fewer bytes than asked for are held, and the source stops
pub waits_stopped : (old mid new : Reader) (count : ℕ) (e : StreamError) → Runs old mid → Stays old mid
    → length mid.unread.held < count → Mores mid new (Err e) → Waits old new count (Err e)
waits_stopped old mid new count e run stay few s =
    stopped_then old mid new (read_so_far mid.unread ≡ 2 ^ 40) (2 ^ 40 < old.unread.place + count) e run stay
    (λ full. omega (arith, full, few, stay.place)) s

-- what a call that waits answers where the source stops
pub ends_stopped : (old new : Reader) (e : StreamError) → Waits old new 1 (Err e) → Ends old new (Err e)
ends_stopped old new stream.Failed s = s
ends_stopped old new stream.TooLong (long, is) = (long, λ within. omega (arith, within, is within))
ends_stopped old new stream.NoMemory s = absurd s
ends_stopped old new (stream.Parse fault) s = absurd s

-- memory that is asked for what is held is asked for what is ahead
asks_ahead : (left : Option (List ℕ)) (held : List ℕ) → AsksMemory held → IfSome (prepend_known held left) (λ bytes. AsksMemory bytes)
asks_ahead None held asks = tt
asks_ahead (Some more) held (e, rest, is, has, parts) =
    (e, rest ++ more, is, has, ap (λ z. z ++ more) parts ∙ append_assoc (text e) rest more)

-- ---- the event that stands there

module _ (old : Reader) (left : Option (List ℕ)) (faults : ℕ) (mid new : Unread)
    (run : Runs old (reading left faults mid)) (stay : Stays old (reading left faults mid)) where
  pub parsed_event : (found : Event × ℕ) → Parses mid new (Ok found) → Nexts old (reading left faults new) (Ok found)
  parsed_event found (place, is, front, same) =
      let ate : Consumes (prepend_known mid.held left) (prepend_known new.held left) (text found.0) =
      consumed left mid.held (text found.0) new.held front in
      let after : new.place ≡ mid.place + length (text found.0) = ap (λ r. r.place) same in (
        record {
          worked = run.worked;
          works = ap (λ r. r.failed) same ∙ run.works;
          faults = run.faults;
          read = omega (arith, run.read, after, ap length front, length-append (text found.0) new.held);
          later = omega (arith, run.later, after, ap length front, length-append (text found.0) new.held);
        },
        place ∙ stay.place,
        is,
        record {
          bytes = consumes_after (ahead old) (prepend_known mid.held left) (prepend_known new.held left) (text found.0) stay.bytes ate;
          place = after ∙ ap (λ n. n + length (text found.0)) stay.place;
        },
      )

  pub parsed_bad : (offset : ℕ) (rule : Rule) → Parses mid new (Err (parse.Bad offset rule))
      → Nexts old (reading left faults new) (Err (stream.Parse (parse.Bad offset rule)))
  parsed_bad offset rule (same, place, stops) =
      subst (λ r. Nexts old (reading left faults r) (Err (stream.Parse (parse.Bad offset rule)))) (sym same) (
        run,
        stay,
        place ∙ stay.place,
        told_after (λ bytes. Stops event (to_limit old.unread.place bytes) (Bad rule)) (ahead old) (prepend_known mid.held left) stay.bytes
            (subst (λ n. IfSome (prepend_known mid.held left) (λ bytes. Stops event (to_limit n bytes) (Bad rule))) stay.place
            (bad_ahead left mid.place mid.held rule run.read stops)),
      )

  pub parsed_short : Parses mid new (Err parse.NoMemory) → Nexts old (reading left faults new) (Err stream.NoMemory)
  parsed_short (same, asks) =
      subst (λ r. Nexts old (reading left faults r) (Err stream.NoMemory)) (sym same)
      (run, stay, told_after AsksMemory (ahead old) (prepend_known mid.held left) stay.bytes (asks_ahead left mid.held asks))

-- the last event is cut
pub parsed_cut : (old new : Reader) (left : Option (List ℕ)) (faults : ℕ) (mid last : Unread) (offset : ℕ)
    → Runs old (reading left faults mid) → Stays old (reading left faults mid) → Parses mid last (Err (parse.Cut offset))
    → Mores (reading left faults last) new (Ok false) → Nexts old new (Err (stream.Parse (parse.Cut offset)))
parsed_cut old new left faults mid last offset run stay (same, place, stops, few) (runs, stays, held, end) =
    let before : Reader = reading left faults mid in
    let run_on : Runs before new = subst (λ u. Runs (reading left faults u) new) same runs in
    let stay_on : Stays before new = subst (λ u. Stays (reading left faults u) new) same stays in
    let all : Stays old new = stays_then old before new stay stay_on in
    let Last : List ℕ → Type 0 = λ bytes. (old.unread.place + length bytes ≤ 2 ^ 40) × Stops event bytes Cut in
    let held_too : mid.held ≡ new.unread.held = sym (held ∙ ap (λ u. u.held) same) in (
      runs_then old before new run run_on,
      all,
      place ∙ stay.place,
      told_after Last (ahead old) (ahead new) all.bytes
          (all_held Last new.left new.unread.held end (omega (arith, run_on.read, all.place), subst (λ z. Stops event z Cut) held_too stops)),
    )

-- what `next` answers where the source stops
next_stopped : (old new : Reader) (e : StreamError)
    → Stopped old new (IfSome (ahead old) (λ bytes. Stops event (to_limit old.unread.place bytes) Cut)) e → Nexts old new (Err e)
next_stopped old new stream.Failed s = s
next_stopped old new stream.TooLong s = s
next_stopped old new stream.NoMemory s = absurd s
next_stopped old new (stream.Parse fault) s = absurd s

pub next_at_once : (left : Option (List ℕ)) (faults : ℕ) (u : Unread) (e : StreamError) → IsReady u (Err e)
    → Nexts (reading left faults u) (reading left faults u) (Err e)
next_at_once left faults u e is =
    next_stopped (reading left faults u) (reading left faults u) e (stopped_at_once left faults u _ e is)

-- a front of what is ahead that reaches to the limit
cut_there : (left : Option (List ℕ)) (place : ℕ) (held : List ℕ) → place + length held ≡ 2 ^ 40 → Stops event held Cut
    → IfSome (prepend_known held left) (λ bytes. Stops event (to_limit place bytes) Cut)
cut_there None place held full stops = tt
cut_there (Some more) place held full stops =
    subst (λ z. Stops event z Cut) (sym (take_at held more (2 ^ 40 - place) (omega (arith, full)))) stops

-- the source stops where the last event is cut
pub cut_stopped : (old new : Reader) (left : Option (List ℕ)) (faults : ℕ) (mid last : Unread) (offset : ℕ) (e : StreamError)
    → Runs old (reading left faults mid) → Stays old (reading left faults mid) → Parses mid last (Err (parse.Cut offset))
    → Mores (reading left faults last) new (Err e) → Nexts old new (Err e)
cut_stopped old new left faults mid last offset e run stay (same, place, stops, few) s =
    let before : Reader = reading left faults mid in
    let on : Mores before new (Err e) = subst (λ u. Mores (reading left faults u) new (Err e)) same s in
    let cut : (read_so_far mid ≡ 2 ^ 40) → IfSome (ahead old) (λ bytes. Stops event (to_limit old.unread.place bytes) Cut) =
    λ full. subst (λ n. IfSome (ahead old) (λ bytes. Stops event (to_limit n bytes) Cut)) stay.place
    (told_after (λ bytes. Stops event (to_limit mid.place bytes) Cut) (ahead old) (ahead before) stay.bytes
    (cut_there left mid.place mid.held full stops)) in
    next_stopped old new e
    (stopped_then old before new (read_so_far mid ≡ 2 ^ 40) _ e run stay cut on)

pub ruleset nexts = (stays_same, runs_same, stopped_at_once, waits_stopped, ends_stopped, runs_then, stays_then, parsed_event, parsed_bad, parsed_short, parsed_cut, next_at_once, cut_stopped)

-- ---- the header that stands there

pub parsed_head : (old : Reader) (left : Option (List ℕ)) (faults : ℕ) (mid new : Unread) (h : Header) → old.unread.place ≡ 0
    → Runs old (reading left faults mid) → Stays old (reading left faults mid) → HeadParses mid new (Ok h) → Heads old (reading left faults new) (Ok h)
parsed_head old left faults mid new h begin run stay (is, front, same) =
    let ate : Consumes (prepend_known mid.held left) (prepend_known new.held left) (header_text h) =
    consumed left mid.held (header_text h) new.held front in
    let after : new.place ≡ mid.place + 98 = ap (λ r. r.place) same in
    let size : length (header_text h) ≡ 98 = header_length h is in (
      record {
        worked = run.worked;
        works = ap (λ r. r.failed) same ∙ run.works;
        faults = run.faults;
        read = omega (arith, run.read, after, size, ap length front, length-append (header_text h) new.held);
        later = omega (arith, run.later, after, size, ap length front, length-append (header_text h) new.held);
      },
      is,
      record {
        bytes = consumes_after (ahead old) (prepend_known mid.held left) (prepend_known new.held left) (header_text h) stay.bytes ate;
        place = omega (arith, after, stay.place, size);
      },
      omega (arith, after, stay.place, begin),
    )

head_long : (left : Option (List ℕ)) (held : List ℕ) (offset : ℕ) (rule : Rule) → 98 ≤ length held → Stops header held (Bad (offset, rule))
    → IfSome (prepend_known held left) (λ bytes. (98 ≤ length bytes) × Stops header bytes (Bad (offset, rule)))
head_long None held offset rule long s = tt
head_long (Some more) held offset rule long s = (omega (arith, long, length-append held more), bad_longer header held more (offset, rule) s)

parsed_head_bad : (old : Reader) (left : Option (List ℕ)) (faults : ℕ) (mid new : Unread) (offset : ℕ) (rule : Rule)
    → Runs old (reading left faults mid) → Stays old (reading left faults mid) → 98 ≤ length mid.held
    → HeadParses mid new (Err (parse.Bad offset rule)) → Heads old (reading left faults new) (Err (stream.Parse (parse.Bad offset rule)))
parsed_head_bad old left faults mid new offset rule run stay long (same, stops) =
    subst (λ r. Heads old (reading left faults r) (Err (stream.Parse (parse.Bad offset rule)))) (sym same) (
      run,
      stay,
      told_after (λ bytes. (98 ≤ length bytes) × Stops header bytes (Bad (offset, rule))) (ahead old) (prepend_known mid.held left) stay.bytes
          (head_long left mid.held offset rule long stops),
    )

pub parsed_head_fault : (old : Reader) (left : Option (List ℕ)) (faults : ℕ) (mid new : Unread) (fault : ParseError)
    → Runs old (reading left faults mid) → Stays old (reading left faults mid) → 98 ≤ length mid.held
    → HeadParses mid new (Err fault) → Heads old (reading left faults new) (Err (stream.Parse fault))
parsed_head_fault old left faults mid new (parse.Bad offset rule) run stay long is = parsed_head_bad old left faults mid new offset rule run stay long is
parsed_head_fault old left faults mid new (parse.Cut offset) run stay long never = absurd never
parsed_head_fault old left faults mid new parse.NoMemory run stay long never = absurd never

pub parsed_head_cut : (old new : Reader) → Waits old new 98 (Ok false) → Heads old new (Err (stream.Parse (parse.Cut 0)))
parsed_head_cut old new (run, stay, short, end) =
    (run, stay, refl, told_after (λ bytes. length bytes < 98) (ahead old) (ahead new) stay.bytes (all_held (λ bytes. length bytes < 98) new.left new.unread.held end short))

-- a header never reaches to the limit
pub head_stopped : (old new : Reader) (e : StreamError) → old.unread.place ≡ 0 → length new.unread.held ≤ 65536
    → Waits old new 98 (Err e) → Heads old new (Err e)
head_stopped old new stream.Failed begin few s = s
head_stopped old new stream.TooLong begin few (long, is) = absurd (omega (arith, begin, few, long.read, long.stays.place))
head_stopped old new stream.NoMemory begin few s = absurd s
head_stopped old new (stream.Parse fault) begin few s = absurd s

pub ruleset heads = (parsed_head, parsed_head_fault, parsed_head_cut, head_stopped)

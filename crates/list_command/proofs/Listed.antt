-- What a list over a world comes to: by its log's header, and by how it ended.
use Rattle.std.proofs.Common.{◌≡◌, ◌+◌, ℕ, false, List, [], ◌∷◌, ◌++◌, length, drop, refl, sym, ap, ◌∙◌, subst, arith, append_assoc, append-nil}
use Rattle.std.proofs.lemmas.Option.{IfSome_then}
use Rattle.std.specs.Prelude.{Some, None, IfSome, ⊤}
use Rattle.std.specs.declared.option.Option.{Option}
use Rattle.std.specs.Io.KnownBytes.{Consumes}
use Rattle.outside.specs.Causes.{Rose, both}
use Rattle.outside.specs.Ledger.{Ledger, StartsEmpty, opens_sink, sink_back}
use Rattle.outside.specs.Roles.{at}
use Rattle.outside.specs.declared.roles.Role.TheVariants.{ConsoleOut}
use Rattle.outside.specs.Told.{Takes, TakesFront}
use Rattle.outside.proofs.ToldLemmas.{Takes-start, TakesFront-all, TakesFront-start}
use Rattle.event_log.specs.declared.event.Event.{Event}
use Rattle.event_log.specs.declared.header.Header.{Header}
use Rattle.event_log.specs.HeaderFormat.{IsHeader, header_text}
use Rattle.event_log.specs.Spelling.{text, texts, IsEvent}
use Rattle.event_log.specs.Reading.{Reader, ahead}
use Rattle.event_log.proofs.FrontLemmas.{texts_more}
use Rattle.event_list.specs.declared.listing.ListEnd.{ListEnd}
use Rattle.event_list.specs.declared.listing.ListEnd.TheVariants.{Whole, Refused, LogRead, LogTooLong, WriteFault, NoMemory}
use Rattle.event_list.specs.Texts.{event_line, event_lines}
use Rattle.event_list.specs.Listing.{Listed, Begins, IsWrongAt, IsPastLimit, ended, behind, StartsWith, Unfaulted, ListsFront, ListsTo}
use Rattle.event_list.proofs.ListSteps.{one-end-more, all-more, lines-more}
use Rattle.run_files.specs.Headers.{HasHeader}
use Rattle.commands.specs.Faults.{Fault, fault_of}
use Rattle.commands.specs.declared.outcome.Outcome.{Outcome}
use Rattle.commands.proofs.LogLimits.{log-length}
use Rattle.run_files.proofs.Headed.{headed}
use Rattle.list_command.specs.Lists.{HasEvents, IsShownFront, ListCause, ListingKeptBut, list_outcome_of}

-- ---- the log's bytes

-- what stands behind the header that was read
pub record Headed (log : Option (List ℕ)) (reader : Reader) : Type 0 where
  pub header : Header
  pub is : IsHeader header
  pub passed : Consumes log (ahead reader) (header_text header)

-- the log has a header and, behind it, what the reader has ahead
record Told (bytes : List ℕ) (reader : Reader) : Type 0 where
  pub header : Header
  pub has : HasHeader bytes header
  pub left : ahead reader ≡ Some (drop 98 bytes)

if-told : {P : List ℕ → Type 0} (log : Option (List ℕ)) (reader : Reader) → Headed log reader
    → ((bytes : List ℕ) → Told bytes reader → P bytes) → IfSome log P
if-told log reader h make =
    IfSome_then log (headed log (ahead reader) h.header h.is h.passed)
    (λ bytes t. make bytes (record { header = h.header; has = t.0; left = t.1 }))

has-events : (bytes : List ℕ) (reader : Reader) (events : List Event) (P : List ℕ → Type 0)
    → Told bytes reader → Begins reader events P → HasEvents bytes events P
has-events bytes reader events P t b =
    let there = subst (λ (o : Option (List ℕ)). IfSome o
    (λ z. (rest : List ℕ) × (z ≡ texts events ++ rest) × P rest)) t.left b.spelled in
    record {
      header = t.header;
      has = t.has;
      are = b.are;
      one_end = b.one_end;
      rest = there.0;
      parts = there.1;
      such = there.2;
    }

has-more : (bytes : List ℕ) (events : List Event) (next : Event) → IsEvent next
    → ended events ≡ false → HasEvents bytes events (StartsWith next)
    → HasEvents bytes (events ++ next ∷ []) (λ rest. ⊤)
has-more bytes events next is going h = record {
  header = h.header;
  has = h.has;
  are = all-more events next h.are is;
  one_end = one-end-more events next h.one_end going;
  rest = h.such.0;
  parts = h.parts ∙ ap (λ z. texts events ++ z) h.such.1
      ∙ sym (append_assoc (texts events) (text next) h.such.0)
      ∙ ap (λ z. z ++ h.such.0) (sym (texts_more events next));
  such = tt;
}

has-any : (bytes : List ℕ) (events : List Event) (P : List ℕ → Type 0) → HasEvents bytes events P
    → HasEvents bytes events (λ rest. ⊤)
has-any bytes events P h = record {
  header = h.header;
  has = h.has;
  are = h.are;
  one_end = h.one_end;
  rest = h.rest;
  parts = h.parts;
  such = tt;
}

-- ---- the console's lines

-- the log's header was read, and then the console was opened, and given back with what it took
pub record Ran (log : Option (List ℕ)) (p q : Listed) (old new : Ledger) : Type 0 where
  pub head : Headed log p.log
  pub empty : StartsEmpty p.taken
  pub fresh : p.faults ≡ 0
  pub back : new ≡ sink_back (opens_sink old ConsoleOut None) ConsoleOut q.faults q.taken

pub ran-of : (log : Option (List ℕ)) (p q : Listed) (h : Header) (old mid new : Ledger)
    → IsHeader h → Consumes log (ahead p.log) (header_text h) → StartsEmpty p.taken
    → p.faults ≡ 0 → mid ≡ opens_sink old ConsoleOut None
    → new ≡ sink_back mid ConsoleOut q.faults q.taken → Ran log p q old new
ran-of log p q h old mid new is passed empty fresh open_ back = record {
  head = record { header = h; is = is; passed = passed };
  empty = empty;
  fresh = fresh;
  back = back ∙ ap (λ (l : Ledger). sink_back l ConsoleOut q.faults q.taken) open_;
}

module _ (log : Option (List ℕ)) (p q : Listed) (old new : Ledger) (ran : Ran log p q old new)
  where
    last : at new.last ConsoleOut ≡ q.taken
    last = ap (λ (l : Ledger). at l.last ConsoleOut) ran.back

    counted : at new.faults ConsoleOut ≡ both (at old.faults ConsoleOut) q.faults
    counted = ap (λ (l : Ledger). at l.faults ConsoleOut) ran.back

    took : (lines : List ℕ) → Takes p.taken q.taken lines
        → Takes (Some []) (at new.last ConsoleOut) lines
    took lines t =
        subst (λ (z : Option (List ℕ)). Takes (Some []) z lines) (sym last)
        (Takes-start p.taken q.taken lines ran.empty t)

    took-front : (lines : List ℕ) → TakesFront p.taken q.taken lines
        → TakesFront (Some []) (at new.last ConsoleOut) lines
    took-front lines t =
        subst (λ (z : Option (List ℕ)). TakesFront (Some []) z lines) (sym last)
        (TakesFront-start p.taken q.taken lines ran.empty t)

    -- the lines that were taken whole
    shown-all : (events : List Event) (P : List ℕ → Type 0) → Begins p.log events P
        → Takes p.taken q.taken (event_lines events)
        → IfSome log (λ bytes. IsShownFront bytes (at new.last ConsoleOut))
    shown-all events P b t =
        if-told log p.log ran.head (λ bytes told. record {
          events = events;
          has = has-any bytes events P (has-events bytes p.log events P told b);
          lines = took-front (event_lines events)
              (TakesFront-all p.taken q.taken (event_lines events) t);
        })

    -- a front of the next line was taken too
    shown-more : (front : List ℕ) → ListsFront p q front
        → IfSome log (λ bytes. IsShownFront bytes (at new.last ConsoleOut))
    shown-more front f =
        let number : 0 + length f.events ≡ length f.events = omega arith in
        let whole : event_lines (f.events ++ f.next ∷ [])
        ≡ (event_lines f.events ++ front) ++ f.line.0 =
        lines-more f.events f.next 0 98
        ∙ ap (λ z. event_lines f.events ++ event_line z (behind f.events) f.next) number
        ∙ ap (λ z. event_lines f.events ++ z) f.line.1
        ∙ sym (append_assoc (event_lines f.events) front f.line.0) in
        if-told log p.log ran.head (λ bytes told. record {
          events = f.events ++ f.next ∷ [];
          has = has-more bytes f.events f.next f.is f.going
              (has-events bytes p.log f.events (StartsWith f.next) told f.begins);
          lines = took-front (event_lines (f.events ++ f.next ∷ [])) (record {
            front = event_lines f.events ++ front;
            rest = f.line.0;
            whole = whole;
            taken = f.lines;
          });
        })

    -- what the console took, by how the list ended
    pub ran-shown : (end : ListEnd) → ListsTo p q end
        → IfSome log (λ bytes. IsShownFront bytes (at new.last ConsoleOut))
    ran-shown Whole l = shown-all l.events (λ rest. rest ≡ []) l.begins l.lines
    ran-shown (Refused r) l =
        shown-all l.events (IsWrongAt (ended l.events) (behind l.events) r.found) l.begins l.lines
    ran-shown LogRead l = shown-all l.events (λ rest. ⊤) l.begins l.lines
    ran-shown LogTooLong l =
        shown-all l.events (IsPastLimit (ended l.events) (behind l.events)) l.begins l.lines
    ran-shown WriteFault l = shown-more l.0 l.1
    ran-shown NoMemory l = shown-more [] l.0

    -- ---- how the list ended

    caused : (name : List ℕ) (F : Type 0) (end : ListEnd) → ListsTo p q end
        → (Rose p.log.faults q.log.faults → F)
        → ListCause name log old new F (list_outcome_of end)
    caused name F Whole l failed =
        if-told log p.log ran.head (λ bytes told.
        let has = has-events bytes p.log l.events (λ rest. rest ≡ []) told l.begins in record {
          events = l.events;
          has = has;
          over = l.over;
          short = omega (
            arith,
            l.begins.within,
            log-length bytes has.header has.has,
            ap length (has.parts ∙ ap (λ z. texts l.events ++ z) has.such
                ∙ append-nil (texts l.events)),
          );
          lines = took (event_lines l.events) l.lines;
        })
    caused name F (Refused r) l failed =
        if-told log p.log ran.head (λ bytes told. record {
          events = l.events;
          has = has-events bytes p.log l.events
              (IsWrongAt (ended l.events) (behind l.events) r.found) told l.begins;
          index = l.index;
          offset = l.offset;
          within = l.begins.within;
          due = l.due;
          lines = took (event_lines l.events) l.lines;
        })
    caused name F LogRead l failed = failed l.log
    caused name F LogTooLong l failed =
        if-told log p.log ran.head (λ bytes told. record {
          events = l.events;
          has = has-events bytes p.log l.events
              (IsPastLimit (ended l.events) (behind l.events)) told l.begins;
          within = l.begins.within;
          lines = took (event_lines l.events) l.lines;
        })
    caused name F WriteFault l failed = omega (arith, l.2, ran.fresh, counted)
    caused name F NoMemory l failed = tt

    -- what it comes to
    pub ran-cause : (name : List ℕ) (F : Type 0) (end : ListEnd) (result : Outcome)
        → ListsTo p q end → (Rose p.log.faults q.log.faults → F)
        → result ≡ list_outcome_of end → ListCause name log old new F result
    ran-cause name F end result l failed is =
        subst (λ (z : Outcome). ListCause name log old new F z) (sym is)
        (caused name F end l failed)

    stood : q.faults ≡ p.faults → at new.faults ConsoleOut ≡ at old.faults ConsoleOut
    stood same = omega (arith, same, ran.fresh, counted)

    unfaulted : (fault : Option Fault) (before : ℕ) → p.log.faults ≡ before → Unfaulted p q
        → ListingKeptBut fault old new before q.log.faults
    unfaulted fault before same none = record {
      console = λ other. stood none.sink;
      log = λ other. none.log ∙ same;
    }

    keeps : (before : ℕ) (end : ListEnd) → p.log.faults ≡ before → ListsTo p q end
        → ListingKeptBut (fault_of (list_outcome_of end)) old new before q.log.faults
    keeps before Whole same l = unfaulted None before same l.unfaulted
    keeps before (Refused r) same l = unfaulted None before same l.unfaulted
    keeps before LogRead same l = record {
      console = λ other. stood l.sink;
      log = λ other. absurd (other refl);
    }
    keeps before LogTooLong same l = unfaulted None before same l.unfaulted
    keeps before WriteFault same l = record {
      console = λ other. absurd (other refl);
      log = λ other. l.3 ∙ same;
    }
    keeps before NoMemory same l = unfaulted None before same l.1

    -- which counts it leaves as they were
    pub ran-kept : (before : ℕ) (end : ListEnd) (result : Outcome) → p.log.faults ≡ before
        → ListsTo p q end → result ≡ list_outcome_of end
        → ListingKeptBut (fault_of result) old new before q.log.faults
    ran-kept before end result same l is =
        subst (λ (z : Outcome). ListingKeptBut (fault_of z) old new before q.log.faults) (sym is)
        (keeps before end same l)

-- A replay over a console that was just opened, or that wasn't.
use Rattle.std.proofs.Common.{◌≡◌, ℕ, List, [], refl, sym, ap, ◌∙◌, subst, arith}
use Rattle.std.specs.Prelude.{Some, None, IfSome}
use Rattle.std.specs.declared.option.Option.{Option}
use Rattle.outside.specs.declared.world.OpenError.{OpenError}
use Rattle.outside.specs.declared.world.OpenError.TheVariants as open_error
use Rattle.outside.specs.Causes.{both, Rose}
use Rattle.outside.specs.Told.{Takes}
use Rattle.outside.specs.Ledger.{Ledger, StartsEmpty, opens_sink, sink_back}
use Rattle.outside.specs.Roles.{at}
use Rattle.outside.specs.declared.roles.Role.TheVariants.{ConsoleOut}
use Rattle.outside.proofs.ToldLemmas.{Takes-start, TakesFront-start}
use Rattle.elf_load.specs.declared.pieces.Loaded.{Loaded}
use Rattle.event_log.specs.declared.event.Event.{Event}
use Rattle.event_log.specs.declared.header.Header.{Header}
use Rattle.event_log.specs.Reading.{Reader, ahead}
use Rattle.board.specs.State.{State}
use Rattle.board.specs.Reset.{start_of}
use Rattle.rr_engine.specs.declared.replaying.ReplayEnd.{ReplayEnd}
use Rattle.rr_engine.specs.declared.replaying.ReplayEnd.TheVariants.{End, ConsoleWrite, LogRead, LogTooLong, Refused, NoMemory}
use Rattle.rr_engine.specs.Replaying.{played, Plays, PlaysPart, Replays}
use Rattle.rr_engine.proofs.Joining.{run-none}
use Rattle.commands.proofs.Opened.{unopened}
use Rattle.commands.specs.Playing.{ShowsOver}
use Rattle.commands.proofs.Ran.{start-quiet}

spelled-none : (o : Option (List ℕ)) → IfSome o (λ bytes. (rest : List ℕ) × (bytes ≡ rest))
spelled-none None = tt
spelled-none (Some bytes) = (bytes, refl)

-- the same, over a console that has taken nothing before
plays-started : (start : State) (log : Reader) (a : Option (List ℕ)) (n : ℕ) (events : List Event)
    (last : State)
    → Plays start (played log a n) events last → Plays start (played log (Some []) 0) events last
plays-started start log a n events last w = record
    { are = w.are; runs = w.runs; spelled = w.spelled }

part-started : (start : State) (log log' : Reader) (a b : Option (List ℕ)) (n m : ℕ)
    → StartsEmpty a → PlaysPart start (played log a n) (played log' b m)
    → PlaysPart start (played log (Some []) 0) (played log' b m)
part-started start log log' a b n m fresh w = record {
  events = w.events;
  last = w.last;
  plays = plays-started start log a n w.events w.last w.plays;
  console = Takes-start a b _ fresh w.console;
}

replays-started : (start : State) (log log' : Reader) (a b : Option (List ℕ)) (n m : ℕ)
    (end : ReplayEnd)
    → StartsEmpty a → n ≡ 0 → Replays start (played log a n) (played log' b m) end
    → Replays start (played log (Some []) 0) (played log' b m) end
replays-started start log log' a b n m (End reason code accepted turns) fresh zero w = record {
  events = w.events;
  last = w.last;
  plays = plays-started start log a n w.events w.last w.plays;
  whole = w.whole;
  short = w.short;
  ended = w.ended;
  counted = w.counted;
  made = w.made;
  console = Takes-start a b _ fresh w.console;
  unfaulted = record { log = w.unfaulted.log; console = w.unfaulted.console ∙ zero };
}
replays-started start log log' a b n m ConsoleWrite fresh zero w = (
  record {
    events = w.0.events;
    last = w.0.last;
    plays = plays-started start log a n w.0.events w.0.last w.0.plays;
    console = TakesFront-start a b _ fresh w.0.console;
  },
  subst (λ (z : ℕ). Rose z m) zero w.1,
  w.2,
)
replays-started start log log' a b n m LogRead fresh zero w =
    (part-started start log log' a b n m fresh w.0, w.1, w.2 ∙ zero)
replays-started start log log' a b n m LogTooLong fresh zero w = record {
  events = w.events;
  last = w.last;
  plays = plays-started start log a n w.events w.last w.plays;
  within = w.within;
  past = w.past;
  console = Takes-start a b _ fresh w.console;
  unfaulted = record { log = w.unfaulted.log; console = w.unfaulted.console ∙ zero };
}
replays-started start log log' a b n m (Refused r) fresh zero w = record {
  events = w.events;
  mid = w.mid;
  plays = plays-started start log a n w.events w.mid w.plays;
  index = w.index;
  offset = w.offset;
  within = w.within;
  wrong = w.wrong;
  console = Takes-start a b _ fresh w.console;
  unfaulted = record { log = w.unfaulted.log; console = w.unfaulted.console ∙ zero };
}
replays-started start log log' a b n m NoMemory fresh zero w = (
  part-started start log log' a b n m fresh w.0,
  record { log = w.1.log; console = w.1.console ∙ zero },
)

-- the console was opened for the replay, and given back
pub shows-over : (start : State) (log log' : Reader) (old mid new : Ledger) (a b : Option (List ℕ))
    (n m : ℕ) (end : ReplayEnd)
    → StartsEmpty a → n ≡ 0 → Replays start (played log a n) (played log' b m) end
    → mid ≡ opens_sink old ConsoleOut None → new ≡ sink_back mid ConsoleOut m b
    → ShowsOver start log log' old new end
shows-over start log log' old mid new a b n m end fresh zero w open_ last_ =
    let back : new ≡ sink_back (opens_sink old ConsoleOut None) ConsoleOut m b =
    last_ ∙ ap (λ (l : Ledger). sink_back l ConsoleOut m b) open_ in
    record {
      console = b;
      faults = m;
      replays = replays-started start log log' a b n m end fresh zero w;
      taken = λ other. ap (λ (l : Ledger). at l.last ConsoleOut) back;
      opened = λ more. ap (λ (l : Ledger). at l.last ConsoleOut) back;
      counted = ap (λ (l : Ledger). at l.faults ConsoleOut) back;
    }

both-none : (n : ℕ) → n ≡ both n 0
both-none n = omega (arith)

-- no memory for the console: nothing happened
pub shows-nothing : (h : Header) (firmware : Loaded) (log : Reader) (old new : Ledger)
    (e : OpenError)
    → (e ≡ open_error.Failed → ⊥) → (e ≡ open_error.NoMemory → new ≡ old)
    → ShowsOver (start_of h firmware) log log old new NoMemory
shows-nothing h firmware log old new e failed memory =
    let same = unopened old new e failed memory in record {
      console = Some [];
      faults = 0;
      replays = (
        record {
          events = [];
          last = start_of h firmware;
          plays = record {
            are = tt;
            runs = run-none (start_of h firmware);
            spelled = spelled-none
                (ahead log);
          };
          console = subst (λ (out : List ℕ). Takes (Some []) (Some []) out)
              (sym (start-quiet h firmware)) refl;
        },
        record { log = refl; console = refl },
      );
      taken = λ other. absurd (other refl);
      opened = λ more. (let k : at new.opened ConsoleOut ≡ at old.opened ConsoleOut = ap
          (λ (l : Ledger). at l.opened ConsoleOut) same in absurd (omega (arith, k, more)));
      counted = ap (λ (l : Ledger). at l.faults ConsoleOut) same ∙ both-none
          (at old.faults ConsoleOut);
    }

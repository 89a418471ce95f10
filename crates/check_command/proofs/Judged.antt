-- What a log comes to that was run over a console that nobody sees.
use Rattle.std.proofs.Common.{◌≡◌, ℕ, List, refl, sym, ap, subst, arith}
use Rattle.std.specs.Prelude.{Some, None, Result, is_some}
use Rattle.std.specs.declared.option.Option.{Option}
use Rattle.outside.specs.Causes.{Rose}
use Rattle.outside.specs.Ledger.{Ledger, opens_sink, sink_back}
use Rattle.outside.specs.declared.roles.Role.TheVariants.{ConsoleOut}
use Rattle.command_line.specs.Words.{Replaying}
use Rattle.elf_load.specs.declared.pieces.Loaded.{Loaded}
use Rattle.event_log.specs.declared.header.Header.{Header}
use Rattle.event_log.specs.Reading.{Reader, ahead}
use Rattle.board.specs.State.{State}
use Rattle.board.specs.Reset.{start_of}
use Rattle.rr_engine.specs.declared.replaying.ReplayEnd.{ReplayEnd}
use Rattle.rr_engine.specs.declared.replaying.ReplayEnd.TheVariants as replay_end
use Rattle.rr_engine.specs.Replaying.{Played, played, PlaysWhole, Replays}
use Rattle.run_files.specs.declared.images.ImageFault.{ImageFault}
use Rattle.run_files.specs.declared.images.ImageFault.TheVariants as image
use Rattle.commands.specs.Asking.{image_outcome_of}
use Rattle.commands.specs.Causes.{IfBoth, ReplayCause}
use Rattle.commands.specs.Playing.{ShowsOver}
use Rattle.commands.specs.declared.outcome.Outcome.{Outcome}
use Rattle.commands.proofs.Played.{shows-over}
use Rattle.commands.proofs.Replayed.{Begins, Told, if-both, whole-log, played-cause}
use Rattle.check_command.specs.Checks.{IsAccepted, UnacceptedCause, Judges, judged}
use Rattle.check_command.specs.declared.tally.Tally.{Tally}

-- ---- the console

-- a ledger after a console that tells nothing was opened and given back
abbrev untold : Ledger → Ledger
untold l = sink_back (opens_sink l ConsoleOut None) ConsoleOut 0 None

-- the same run, as one over such a console
unseen : (start : State) (log log' : Reader) (l : Ledger) (end : ReplayEnd)
    → Replays start (played log None 0) (played log' None 0) end
    → ShowsOver start log log' l (untold l) end
unseen start log log' l end w =
    shows-over start log log' l (opens_sink l ConsoleOut None) (untold l) None None 0 0 end tt refl w
    refl refl

-- ---- the run

-- what holds of both, by what holds of them
pub both-some : {P Q : List ℕ → List ℕ → Type 0} (o held : Option (List ℕ))
    → ((x y : List ℕ) → P x y → Q x y) → IfBoth o held P → IfBoth o held Q
both-some None held f k = tt
both-some (Some x) None f k = tt
both-some (Some x) (Some y) f k = f x y k

-- the log is accepted whole
accepted-whole : (w : Replaying) (log file : List ℕ) (h : Header) (f : Loaded) (p q : Played)
    (reason code accepted turns : ℕ)
    → Told w log file h f (ahead p.log) → PlaysWhole (start_of h f) p q reason code accepted turns
    → IsAccepted w log file
    (record { events = accepted; turns = turns; reason = reason; code = code })
accepted-whole w log file h f p q reason code accepted turns t k =
    let whole = whole-log w log file h f p q reason code accepted turns t k in
    record {
      header = h;
      firmware = f;
      starts = t.starts;
      short = whole.0;
      last = k.last;
      whole = record { events = k.events; accepted = whole.1; ended = ap is_some k.ended };
      events = k.counted;
      turns = k.made;
      ended = k.ended;
    }

-- what the log comes to, by how its run ended
pub judged-cause : (w : Replaying) (o : Option (List ℕ)) (h : Header) (f : Loaded)
    (log log' : Reader) (l m : Ledger) (F : Type 0) (end : ReplayEnd)
    → Begins w o (l.names w.bios) h f (ahead log)
    → Replays (start_of h f) (played log None 0) (played log' None 0) end
    → (Rose log.faults log'.faults → F) → Judges w o l m F (judged end)
judged-cause w o h f log log' l m F (replay_end.End reason code accepted turns) b k failed =
    if-both w o (l.names w.bios) h f (ahead log) b (λ bytes file told t.
    accepted-whole w bytes file h f (played log None 0) (played log' None 0) reason code accepted
    turns t k)
judged-cause w o h f log log' l m F replay_end.ConsoleWrite b k failed =
    absurd (omega (arith, k.1))
judged-cause w o h f log log' l m F replay_end.LogRead b k failed = failed k.1
judged-cause w o h f log log' l m F replay_end.LogTooLong b k failed =
    both-some o (l.names w.bios) (λ bytes file p. record {
      header = p.header;
      firmware = p.firmware;
      starts = p.starts;
      long = p.long;
      last = p.last;
      undecided = p.undecided;
    })
    (played-cause w o h f log log' l l (untold l) F replay_end.LogTooLong b
    (unseen (start_of h f) log log' l replay_end.LogTooLong k) refl failed)
judged-cause w o h f log log' l m F (replay_end.Refused r) b k failed =
    both-some o (l.names w.bios) (λ bytes file p. record {
      header = p.header;
      firmware = p.firmware;
      starts = p.starts;
      mid = p.mid;
      last = p.last;
      wrong = p.wrong;
    })
    (played-cause w o h f log log' l l (untold l) F (replay_end.Refused r) b
    (unseen (start_of h f) log log' l (replay_end.Refused r) k) refl failed)
judged-cause w o h f log log' l m F replay_end.NoMemory b k failed = tt

-- ---- where no run starts

-- the images aren't those of the header, for the reason that a replay gives
pub image-judged : (w : Replaying) (o : Option (List ℕ)) (l m : Ledger) (F : Type 0)
    (e : ImageFault)
    → ReplayCause w o l m F (image_outcome_of e) → UnacceptedCause w o l m F (image_outcome_of e)
image-judged w o l m F image.CannotOpen k = k
image-judged w o l m F image.CannotRead k = k
image-judged w o l m F image.OtherFirmware k = k
image-judged w o l m F (image.Bad rule) k = k
image-judged w o l m F image.OtherDiskLength k = k
image-judged w o l m F image.OtherDisk k = k
image-judged w o l m F image.NoMemory k = tt

pub as-judged : (w : Replaying) (o : Option (List ℕ)) (l m : Ledger) (F : Type 0)
    (x y : Result Tally Outcome) → x ≡ y → Judges w o l m F y → Judges w o l m F x
as-judged w o l m F x y e k = subst (λ (z : Result Tally Outcome). Judges w o l m F z) (sym e) k

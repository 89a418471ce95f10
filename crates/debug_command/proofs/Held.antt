-- What a session over the accepted part of a log comes to.
use Rattle.std.proofs.Common.{◌≡◌, ◌<◌, ◌≤◌, ℕ, List, [], ◌++◌, length, sym, ap, ◌∙◌, subst, inl, inr, append_assoc, take, drop, take-append-drop}
use Rattle.std.specs.Prelude.{Some, None, IfSome}
use Rattle.std.specs.declared.option.Option.{Option}
use Rattle.std.specs.Io.KnownBytes.{Consumes}
use Rattle.outside.specs.Ledger.{Ledger}
use Rattle.outside.specs.Roles.{at}
use Rattle.outside.specs.Told.{TakesFront}
use Rattle.outside.specs.declared.roles.Role.TheVariants.{ConsoleIn, ConsoleOut}
use Rattle.outside.proofs.ToldLemmas.{TakesFront-all, TakesFront-longer}
use Rattle.elf_load.specs.declared.pieces.Loaded.{Loaded}
use Rattle.event_log.specs.declared.header.Header.{Header}
use Rattle.board.specs.Reset.{start_of}
use Rattle.log_order.specs.declared.refusal.Refusal.{Refusal}
use Rattle.reverse_seek.specs.Script.{Script, Reads}
use Rattle.monitor.specs.Serving.{Heard, Written, Serves, most}
use Rattle.monitor.specs.Session.{answered, at_end, fed, fresh, transcript}
use Rattle.monitor.specs.Debugging.{ended_as}
use Rattle.monitor.specs.declared.sessions.SessionEnd.{SessionEnd}
use Rattle.monitor.specs.declared.sessions.SessionEnd.TheVariants as session_end
use Rattle.monitor.specs.declared.debugging.DebugEnd.{DebugEnd}
use Rattle.monitor.specs.declared.debugging.DebugEnd.TheVariants.{NoMemory}
use Rattle.run_files.specs.Headers.{HasHeader}
use Rattle.run_files.specs.Images.{IsFirmware, NamesNoDisk}
use Rattle.debug_command.specs.declared.debugging.TheConstants.{LOG_LIMIT}
use Rattle.commands.specs.Causes.{IfBoth}
use Rattle.commands.specs.declared.outcome.Outcome.{Outcome}
use Rattle.debug_command.specs.Debugs.{HoldsOver, IsAcceptedPart, IsHeld, IsShown, input_before, input_after, output_before, output_after}
use Rattle.debug_command.specs.Causes.{DebugCause, session_outcome_of}

-- the files of a session that began: the bytes of the log, its header, and the firmware
pub record Begins (log bios : Option (List ℕ)) (bytes : List ℕ) (h : Header) (f : Loaded)
    : Type 0 where
  pub whole : IfSome log (λ xs. bytes ≡ xs)
  pub short : length bytes ≤ LOG_LIMIT
  pub has : HasHeader bytes h
  pub image : IfSome bios (λ file. IsFirmware h file f)
  pub disk : NamesNoDisk h

-- reading the files left the streams as they were
pub record FilesRead (old mid : Ledger) : Type 0 where
  pub input : input_before mid ≡ input_before old
  pub output : output_before mid ≡ output_before old
  pub opened : at mid.opened ConsoleOut ≡ at old.opened ConsoleOut

with-both : (P : List ℕ → List ℕ → Type 0) (log bios : Option (List ℕ)) (bytes : List ℕ)
    (h : Header) (f : Loaded) → Begins log bios bytes h f
    → ((file : List ℕ) → IsFirmware h file f → P bytes file) → IfBoth log bios P
with-both P None bios bytes h f b make = tt
with-both P (Some xs) None bytes h f b make = tt
with-both P (Some xs) (Some file) bytes h f b make =
    subst (λ (z : List ℕ). P z file) b.whole (make file b.image)

accepted-part : (log bios : Option (List ℕ)) (bytes file : List ℕ) (h : Header) (f : Loaded)
    (s : Script) (refusal : Option Refusal) → Begins log bios bytes h f → IsFirmware h file f
    → Reads (start_of h f) bytes s refusal → IsAcceptedPart bytes file s refusal
accepted-part log bios bytes file h f s refusal b image reads = record {
  header = h;
  firmware = f;
  short = b.short;
  has = b.has;
  image = image;
  disk = b.disk;
  reads = reads;
}

-- ---- the cause

abbrev Served : Script → SessionEnd → Ledger → Ledger → Type 0
Served s end old new =
    Serves s end (input_before old) (input_after new) (output_before old) (output_after new)

is-held : (log bios : Option (List ℕ)) (bytes : List ℕ) (h : Header) (f : Loaded) (s : Script)
    (refusal : Option Refusal) (end : SessionEnd) (old new : Ledger) → Begins log bios bytes h f
    → Reads (start_of h f) bytes s refusal → Served s end old new
    → IfBoth log bios (λ xs file. IsHeld xs file refusal end old new)
is-held log bios bytes h f s refusal end old new b reads serves =
    with-both _ log bios bytes h f b (λ file image. record {
      script = s;
      part = accepted-part log bios bytes file h f s refusal b image reads;
      serves = serves;
    })

is-held-to : (log bios : Option (List ℕ)) (bytes : List ℕ) (h : Header) (f : Loaded) (s : Script)
    (refusal : Option Refusal) (end : SessionEnd) (old new : Ledger) → Begins log bios bytes h f
    → Reads (start_of h f) bytes s refusal → Served s end old new
    → IfBoth log bios (λ xs file. (r : Option Refusal) × IsHeld xs file r end old new)
is-held-to log bios bytes h f s refusal end old new b reads serves =
    with-both _ log bios bytes h f b (λ file image. (
      refusal,
      record {
        script = s;
        part = accepted-part log bios bytes file h f s refusal b image reads;
        serves = serves;
      },
    ))

end-cause : (log bios : List ℕ) (bytes : List ℕ) (h : Header) (f : Loaded) (old new : Ledger)
    (s : Script) (refusal : Option Refusal) (end : SessionEnd)
    → Begins (old.names log) (old.names bios) bytes h f
    → Reads (start_of h f) bytes s refusal → Served s end old new
    → IfSome (session_outcome_of (ended_as end refusal)) (DebugCause log bios old new)
end-cause log bios bytes h f old new s None session_end.Done b reads serves =
    is-held (old.names log) (old.names bios) bytes h f s None session_end.Done old new b reads serves
end-cause log bios bytes h f old new s (Some r) session_end.Done b reads serves =
    is-held (old.names log) (old.names bios) bytes h f s (Some r) session_end.Done old new b reads
    serves
end-cause log bios bytes h f old new s refusal session_end.ReadFault b reads serves = (
  serves.ends.3,
  is-held-to (old.names log) (old.names bios) bytes h f s refusal session_end.ReadFault old new b
      reads serves,
)
end-cause log bios bytes h f old new s refusal session_end.WriteFault b reads serves = (
  serves.ends.3,
  is-held-to (old.names log) (old.names bios) bytes h f s refusal session_end.WriteFault old new b
      reads serves,
)
end-cause log bios bytes h f old new s refusal session_end.TooMuchInput b reads serves =
    is-held-to (old.names log) (old.names bios) bytes h f s refusal session_end.TooMuchInput old new
    b reads serves
end-cause log bios bytes h f old new s refusal session_end.ImageFault b reads serves = tt
end-cause log bios bytes h f old new s refusal session_end.NoMemory b reads serves = tt

-- the streams are as they were before the files were read
from-old : (s : Script) (end : SessionEnd) (old mid new : Ledger) → FilesRead old mid
    → Served s end mid new → Served s end old new
from-old s end old mid new r serves =
    subst (λ (z : Heard). Serves s end z (input_after new) (output_before old) (output_after new))
    r.input
    (subst (λ (z : Written). Serves s end (input_before mid) (input_after new) z (output_after new))
    r.output serves)

of-some : {X : Type 0} (o : Option X) (x : X) (P : X → Type 0) → o ≡ Some x → IfSome o P → P x
of-some o x P same h = let k : IfSome (Some x) P = subst (λ z. IfSome z P) same h in k

pub held-cause : (log bios : List ℕ) (bytes : List ℕ) (h : Header) (f : Loaded)
    (old mid new : Ledger) (end : DebugEnd) (o : Outcome)
    → Begins (old.names log) (old.names bios) bytes h f
    → FilesRead old mid → HoldsOver (start_of h f) bytes end mid new
    → session_outcome_of end ≡ Some o → DebugCause log bios old new o
held-cause log bios bytes h f old mid new end o b r (inl w) is =
    of-some (session_outcome_of (ended_as w.end w.refusal)) o (DebugCause log bios old new)
    (ap session_outcome_of (sym w.is) ∙ is)
    (end-cause log bios bytes h f old new w.script w.refusal w.end b w.reads
    (from-old w.script w.end old mid new r w.serves))
held-cause log bios bytes h f old mid new end o b r (inr none) is =
    of-some (session_outcome_of NoMemory) o (DebugCause log bios old new)
    (ap session_outcome_of (sym none.is) ∙ is) tt

-- the cause of an outcome that is this one
pub as-outcome : (log bios : List ℕ) (old new : Ledger) (result due : Outcome) → result ≡ due
    → DebugCause log bios old new due → DebugCause log bios old new result
as-outcome log bios old new result due same cause =
    subst (λ (r : Outcome). DebugCause log bios old new r) (sym same) cause

-- ---- what was shown

began-by : (a b : Option (List ℕ)) (read : List ℕ) → Consumes a b read
    → IfSome a (λ bytes. (rest : List ℕ) × (bytes ≡ read ++ rest))
began-by None b read c = tt
began-by (Some xs) None read c = absurd c
began-by (Some xs) (Some ys) read c = (ys, c)

began-front : (a : Option (List ℕ)) (read : List ℕ) (n : ℕ)
    → IfSome a (λ bytes. (rest : List ℕ) × (bytes ≡ read ++ rest))
    → IfSome a (λ bytes. (rest : List ℕ) × (bytes ≡ take n read ++ rest))
began-front None read n c = tt
began-front (Some xs) read n c = (
  drop n read ++ c.0,
  c.1 ∙ ap (λ (z : List ℕ). z ++ c.0) (sym (take-append-drop n read))
      ∙ append_assoc (take n read) (drop n read) c.0,
)

-- the bytes that were read of standard input, and what was shown of their transcript
record Front (s : Script) (old new : Ledger) : Type 0 where
  read : List ℕ
  began : IfSome old.input (λ bytes. (rest : List ℕ) × (bytes ≡ read ++ rest))
  front : TakesFront (Some []) (at new.last ConsoleOut) (transcript s read)

front-of : (s : Script) (end : SessionEnd) (old new : Ledger) → Served s end old new
    → Front s old new
front-of s session_end.Done old new v = record {
  read = v.read;
  began = began-by old.input (at new.left ConsoleIn) v.read v.came;
  front = TakesFront-all (Some []) (at new.last ConsoleOut) (transcript s v.read) v.ends.0;
}
front-of s session_end.TooMuchInput old new v = record {
  read = take most v.read;
  began = began-front old.input v.read most
      (began-by old.input (at new.left ConsoleIn) v.read v.came);
  front = TakesFront-longer (Some []) (at new.last ConsoleOut) (answered s (take most v.read))
      (at_end s (fed s fresh (take most v.read)).1)
      (TakesFront-all (Some []) (at new.last ConsoleOut) (answered s (take most v.read)) v.ends.1);
}
front-of s session_end.ReadFault old new v = record {
  read = v.read;
  began = began-by old.input (at new.left ConsoleIn) v.read v.came;
  front = TakesFront-longer (Some []) (at new.last ConsoleOut) (answered s v.read)
      (at_end s (fed s fresh v.read).1)
      (TakesFront-all (Some []) (at new.last ConsoleOut) (answered s v.read) v.ends.0);
}
front-of s session_end.WriteFault old new v = record {
  read = v.read;
  began = began-by old.input (at new.left ConsoleIn) v.read v.came;
  front = v.ends.0;
}
front-of s session_end.ImageFault old new v = record {
  read = v.read;
  began = began-by old.input (at new.left ConsoleIn) v.read v.came;
  front = v.ends.0;
}
front-of s session_end.NoMemory old new v = record {
  read = v.read;
  began = began-by old.input (at new.left ConsoleIn) v.read v.came;
  front = v.ends.0;
}

pub held-shown : (log bios : Option (List ℕ)) (bytes : List ℕ) (h : Header) (f : Loaded)
    (old mid new : Ledger) (end : DebugEnd) → Begins log bios bytes h f
    → FilesRead old mid → HoldsOver (start_of h f) bytes end mid new
    → at old.opened ConsoleOut < at new.opened ConsoleOut
    → IfBoth log bios (λ xs file. IsShown xs file old new)
held-shown log bios bytes h f old mid new end b r (inl w) more =
    let k = front-of w.script w.end old new (from-old w.script w.end old mid new r w.serves) in
    with-both _ log bios bytes h f b (λ file image. inr (record {
      script = w.script;
      refusal = w.refusal;
      part = accepted-part log bios bytes file h f w.script w.refusal b image w.reads;
      read = k.read;
      began = k.began;
      front = k.front;
    }))
held-shown log bios bytes h f old mid new end b r (inr none) more =
    with-both _ log bios bytes h f b (λ file image.
    inl (none.bare (subst (λ (z : ℕ). z < at new.opened ConsoleOut) (sym r.opened) more)))

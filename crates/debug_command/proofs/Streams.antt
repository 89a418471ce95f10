-- A session over streams that were just opened, and were given back; or that weren't opened.
use Rattle.std.proofs.Common.{◌≡◌, ◌≢◌, ℕ, List, refl, sym, ap, ◌∙◌, subst, inl, inr, arith}
use Rattle.std.specs.Prelude.{None}
use Rattle.std.specs.declared.option.Option.{Option}
use Rattle.std.specs.Io.KnownBytes.{Consumes}
use Rattle.outside.specs.declared.world.OpenError.{OpenError}
use Rattle.outside.specs.declared.world.OpenError.TheVariants as open_error
use Rattle.outside.specs.Causes.{both, Rose}
use Rattle.outside.specs.Ledger.{Ledger, StartsEmpty, opens, opens_sink, source_back, sink_back}
use Rattle.outside.specs.Roles.{at}
use Rattle.outside.specs.declared.roles.Role.TheVariants.{ConsoleIn, ConsoleOut}
use Rattle.outside.specs.Openings.{OpensFront}
use Rattle.outside.proofs.OpeningLemmas.{OpensFront-take}
use Rattle.outside.proofs.ToldLemmas.{Takes-start, TakesFront-start}
use Rattle.board.specs.State.{State}
use Rattle.reverse_seek.specs.Script.{Script}
use Rattle.monitor.specs.Serving.{Heard, Written, EndsBy, heard, written}
use Rattle.reverse_seek.specs.Backing.{Backing}
use Rattle.monitor.specs.Debugging.{Session, Debugs, DebugLeaves}
use Rattle.monitor.specs.declared.sessions.SessionEnd.{SessionEnd}
use Rattle.monitor.specs.declared.sessions.SessionEnd.TheVariants as session_end
use Rattle.monitor.specs.declared.debugging.DebugEnd.{DebugEnd}
use Rattle.monitor.specs.declared.debugging.DebugEnd.TheVariants as debug_end
use Rattle.debug_command.specs.Debugs.{HoldsOver, input_before, output_before, stream_openings}

-- the counts of a stream that had no fault, once it was given back
kept-count : (a n m : ℕ) → n ≡ m → m ≡ 0 → both a n ≡ a
kept-count a n m same fresh = omega (arith, same, fresh)

risen-count : (a n m : ℕ) → Rose m n → m ≡ 0 → Rose a (both a n)
risen-count a n m rose fresh = omega (arith, rose, fresh)

-- standard input and output as they are given back
abbrev back_in : Ledger → Heard → Heard
back_in l i = heard i.left (both (at l.faults ConsoleIn) i.faults)

abbrev back_out : Ledger → Written → Written
back_out l o = written o.taken (both (at l.faults ConsoleOut) o.faults)

-- a stream that was just opened
record Fresh (l : Ledger) (i : Heard) (o : Written) : Type 0 where
  input : i.left ≡ l.input
  input_faults : i.faults ≡ 0
  output : StartsEmpty o.taken
  output_faults : o.faults ≡ 0

ends-counted : (s : Script) (read : List ℕ) (end : SessionEnd) (l : Ledger) (i i' : Heard)
    (o o' : Written) → Fresh l i o → EndsBy s read end i i' o o'
    → EndsBy s read end (input_before l) (back_in l i') (output_before l) (back_out l o')
ends-counted s read session_end.Done l i i' o o' f e = (
  Takes-start o.taken o'.taken _ f.output e.0,
  e.1,
  e.2,
  kept-count (at l.faults ConsoleIn) i'.faults i.faults e.3 f.input_faults,
  kept-count (at l.faults ConsoleOut) o'.faults o.faults e.4 f.output_faults,
)
ends-counted s read session_end.TooMuchInput l i i' o o' f e = (
  e.0,
  Takes-start o.taken o'.taken _ f.output e.1,
  e.2,
  kept-count (at l.faults ConsoleIn) i'.faults i.faults e.3 f.input_faults,
  kept-count (at l.faults ConsoleOut) o'.faults o.faults e.4 f.output_faults,
)
ends-counted s read session_end.ReadFault l i i' o o' f e = (
  Takes-start o.taken o'.taken _ f.output e.0,
  e.1,
  e.2,
  risen-count (at l.faults ConsoleIn) i'.faults i.faults e.3 f.input_faults,
  kept-count (at l.faults ConsoleOut) o'.faults o.faults e.4 f.output_faults,
)
ends-counted s read session_end.WriteFault l i i' o o' f e = (
  TakesFront-start o.taken o'.taken _ f.output e.0,
  e.1,
  kept-count (at l.faults ConsoleIn) i'.faults i.faults e.2 f.input_faults,
  risen-count (at l.faults ConsoleOut) o'.faults o.faults e.3 f.output_faults,
)
ends-counted s read session_end.ImageFault l i i' o o' f e = (
  TakesFront-start o.taken o'.taken _ f.output e.0,
  e.1,
  kept-count (at l.faults ConsoleIn) i'.faults i.faults e.2 f.input_faults,
  kept-count (at l.faults ConsoleOut) o'.faults o.faults e.3 f.output_faults,
)
ends-counted s read session_end.NoMemory l i i' o o' f e = (
  TakesFront-start o.taken o'.taken _ f.output e.0,
  e.1,
  kept-count (at l.faults ConsoleIn) i'.faults i.faults e.2 f.input_faults,
  kept-count (at l.faults ConsoleOut) o'.faults o.faults e.3 f.output_faults,
)

session-counted : (start : State) (log : List ℕ) (result : DebugEnd) (l : Ledger) (i i' : Heard)
    (o o' : Written) → Fresh l i o → Session start log result i i' o o'
    → Session start log result (input_before l) (back_in l i') (output_before l) (back_out l o')
session-counted start log result l i i' o o' f w = record {
  script = w.script;
  refusal = w.refusal;
  end = w.end;
  reads = w.reads;
  serves = record {
    read = w.serves.read;
    came = subst (λ (z : Option (List ℕ)). Consumes z i'.left w.serves.read) f.input w.serves.came;
    ends = ends-counted w.script w.serves.read w.end l i i' o o' f w.serves.ends;
  };
  is = w.is;
}

-- the streams were opened, and these were given back
abbrev streams_back : Ledger → Heard → Written → Ledger
streams_back l i o =
    sink_back (source_back (opens_sink (opens l ConsoleIn None) ConsoleOut None)
    ConsoleIn i.faults i.left) ConsoleOut o.faults o.taken

holds : (start : State) (log : List ℕ) (result : DebugEnd) (l : Ledger) (i i' : Heard)
    (o o' : Written) → Fresh l i o → result ≢ debug_end.ImageFault
    → Debugs start log result i i' o o' → HoldsOver start log result l (streams_back l i' o')
holds start log result l i i' o o' f sound (inl w) =
    inl (session-counted start log result l i i' o o' f w)
holds start log result l i i' o o' f sound (inr none) = inr (record {
  is = elim none.0 [ inl failed ↦ absurd (sound failed) | inr memory ↦ memory ];
  input = kept-count (at l.faults ConsoleIn) i'.faults i.faults
      (ap (λ (z : Heard). z.faults) none.1) f.input_faults;
  output = kept-count (at l.faults ConsoleOut) o'.faults o.faults
      (ap (λ (z : Written). z.faults) none.2) f.output_faults;
  bare = λ more. subst (λ (z : Written). StartsEmpty z.taken) (sym none.2) f.output;
})

-- an image that never fails ends no session
pub sound-image : (result : DebugEnd) (old new : Backing) → old.faults ≡ 0 → new.faults ≡ 0 → DebugLeaves result old new
    → result ≢ debug_end.ImageFault
sound-image debug_end.Done old new none never leaves is = absurd cc
sound-image (debug_end.Refused r) old new none never leaves is = absurd cc
sound-image debug_end.ReadFault old new none never leaves is = absurd cc
sound-image debug_end.WriteFault old new none never leaves is = absurd cc
sound-image debug_end.TooMuchInput old new none never leaves is = absurd cc
sound-image debug_end.ImageFault old new none never leaves is = omega (arith, leaves.rose, none, never)
sound-image debug_end.NoMemory old new none never leaves is = absurd cc

-- the session's streams were opened, and given back
pub held-over : (start : State) (log : List ℕ) (result : DebugEnd) (l first mid k new : Ledger)
    (i i' : Heard) (o o' : Written)
    → i.left ≡ l.input → i.faults ≡ 0 → StartsEmpty o.taken → o.faults ≡ 0
    → result ≢ debug_end.ImageFault → Debugs start log result i i' o o'
    → first ≡ opens l ConsoleIn None → mid ≡ opens_sink first ConsoleOut None
    → k ≡ source_back mid ConsoleIn i'.faults i'.left
    → new ≡ sink_back k ConsoleOut o'.faults o'.taken
    → HoldsOver start log result l new
held-over start log result l first mid k new i i' o o' left fi empty fo sound d one two three four =
    let back : new ≡ streams_back l i' o' =
    four ∙ ap (λ (z : Ledger). sink_back z ConsoleOut o'.faults o'.taken) (
    three
    ∙ ap (λ (z : Ledger). source_back z ConsoleIn i'.faults i'.left)
    (two ∙ ap (λ (z : Ledger). opens_sink z ConsoleOut None) one)
    ) in
    subst (λ (z : Ledger). HoldsOver start log result l z) (sym back)
    (holds start log result l i i' o o'
    (record { input = left; input_faults = fi; output = empty; output_faults = fo }) sound d)

-- a stream without a name isn't opened for want of memory alone, so nothing happened
unopened : (old new : Ledger) (e : OpenError) → (e ≡ open_error.Failed → ⊥)
    → (e ≡ open_error.NoMemory → new ≡ old) → new ≡ old
unopened old new open_error.Failed failed memory = absurd (failed refl)
unopened old new open_error.NoMemory failed memory = memory refl

-- standard input was opened and given back, and there was no memory for standard output
pub input-alone : (l first second new : Ledger) (e : OpenError) (n : ℕ) (left : Option (List ℕ))
    → first ≡ opens l ConsoleIn None → (e ≡ open_error.Failed → ⊥)
    → (e ≡ open_error.NoMemory → second ≡ first) → new ≡ source_back second ConsoleIn n left
    → OpensFront l.openings new.openings stream_openings
input-alone l first second new e n left one failed memory back =
    OpensFront-take l.openings new.openings stream_openings 1
    (ap (λ (k : Ledger). k.openings) back
    ∙ ap (λ (k : Ledger). k.openings) (unopened first second e failed memory)
    ∙ ap (λ (k : Ledger). k.openings) one)

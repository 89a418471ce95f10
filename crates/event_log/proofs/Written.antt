-- What a writer has written, one call after another.
use Rattle.std.proofs.Common.{◌≡◌, ℕ, List, [], ◌∷◌, ◌++◌, refl, sym, ap, ◌∙◌, subst, inl, inr, append_assoc, append-nil}
use Rattle.std.specs.Prelude.{Result, Ok, Err}
use Rattle.std.specs.declared.option.Option.{Option}
use Rattle.outside.specs.Causes.{Rose}
use Rattle.outside.specs.Told.{Takes, TakesFront}
use Rattle.outside.proofs.ToldLemmas.{Takes-refl, Takes-trans, TakesFront-after, TakesFront-longer}
use Rattle.event_log.specs.declared.stream_error.StreamError.{StreamError}
use Rattle.event_log.specs.declared.stream_error.StreamError.TheVariants as stream
use Rattle.event_log.specs.declared.header.Header.{Header}
use Rattle.event_log.specs.declared.event.Event.{Event}
use Rattle.event_log.specs.HeaderFormat.{header_text}
use Rattle.event_log.specs.Spelling.{text}
use Rattle.event_log.specs.Writing.{Writer, writing, none_written, sent, kept, Sends, Wrote, Writes}
use Rattle.event_log.proofs.Gathered.{all_there}

-- a writer that was handed nothing has written nothing
pub wrote_nothing : (taken : Option (List ℕ)) (faults : ℕ) → Wrote (writing taken faults none_written) (writing taken faults none_written) []
wrote_nothing taken faults = record {
  works = refl;
  faults = refl;
  behind = [];
  taken = Takes-refl taken;
  whole = refl;
}

-- what was written, and what more came, are what is behind and what came into the writer
joined : (bytes behind held more sends keeps : List ℕ) → bytes ≡ behind ++ held → held ++ more ≡ sends ++ keeps
    → bytes ++ more ≡ (behind ++ sends) ++ keeps
joined bytes behind held more sends keeps whole gathered =
    ap (λ z. z ++ more) whole ∙ append_assoc behind held more ∙ ap (λ z. behind ++ z) gathered
    ∙ sym (append_assoc behind sends keeps)

-- What goes to the sink and what is held then are what was held and what came, in order.
pub writes : (start old new : Writer) (bytes more sends keeps : List ℕ) (r : Result Unit StreamError)
    → Wrote start old bytes → old.unsent.held ++ more ≡ sends ++ keeps → Sends old new sends keeps r → Writes start new bytes more r
writes start old new bytes more sends keeps (Ok _) w gathered (worked, works, faults, taken, held) = record {
  works = works;
  faults = faults ∙ w.faults;
  behind = w.behind ++ sends;
  taken = Takes-trans start.taken old.taken new.taken w.behind sends w.taken taken;
  whole = joined bytes w.behind old.unsent.held more sends keeps w.whole gathered ∙ ap (λ z. (w.behind ++ sends) ++ z) (sym held);
}
writes start old new bytes more sends keeps (Err stream.Failed) w gathered (failed, inl (before, same)) = cc
writes start old new bytes more sends keeps (Err stream.Failed) w gathered (failed, inr (worked, rose, front)) = (
  failed,
  subst (λ n. Rose n new.faults) w.faults rose,
  subst (TakesFront start.taken new.taken) (sym (joined bytes w.behind old.unsent.held more sends keeps w.whole gathered))
      (TakesFront-longer start.taken new.taken (w.behind ++ sends) keeps
      (TakesFront-after start.taken old.taken new.taken w.behind sends w.taken front)),
)
writes start old new bytes more sends keeps (Err stream.NoMemory) w gathered (worked, same) = subst (λ z. Wrote start z bytes) (sym same) w
writes start old new bytes more sends keeps (Err stream.TooLong) w gathered never = never
writes start old new bytes more sends keeps (Err (stream.Parse fault)) w gathered never = never

nothing_held : (behind held : List ℕ) → [] ≡ behind ++ held → held ≡ []
nothing_held [] held is = sym is
nothing_held (x ∷ xs) held is = absurd cc

-- the header was handed to a writer that has written nothing
pub writes_header : (start old new : Writer) (h : Header) (r : Result Unit StreamError)
    → Wrote start old [] → Sends old new (header_text h) [] r → Writes start new [] (header_text h) r
writes_header start old new h r w s =
    let none : old.unsent.held ≡ [] = nothing_held w.behind old.unsent.held w.whole in
    writes start old new [] (header_text h) (header_text h) [] r w
    (ap (λ z. z ++ header_text h) none ∙ sym (append-nil (header_text h))) s

-- an event was handed to it
pub writes_event : (start old new : Writer) (bytes : List ℕ) (e : Event) (r : Result Unit StreamError) → Wrote start old bytes
    → Sends old new (sent (old.unsent.held ++ text e)) (kept (old.unsent.held ++ text e)) r → Writes start new bytes (text e) r
writes_event start old new bytes e r w s =
    writes start old new bytes (text e) (sent (old.unsent.held ++ text e)) (kept (old.unsent.held ++ text e)) r w
    (sym (all_there (old.unsent.held ++ text e))) s

-- it was finished
pub writes_rest : (start old new : Writer) (bytes : List ℕ) (r : Result Unit StreamError)
    → Wrote start old bytes → Sends old new old.unsent.held [] r → Writes start new bytes [] r
writes_rest start old new bytes r w s = writes start old new bytes [] old.unsent.held [] r w refl s

-- where nothing is held, the sink took all
pub all_taken : (start now : Writer) (bytes : List ℕ) → Wrote start now bytes → now.unsent.held ≡ [] → Takes start.taken now.taken bytes
all_taken start now bytes w none =
    subst (Takes start.taken now.taken) (sym (w.whole ∙ ap (λ z. w.behind ++ z) none ∙ append-nil w.behind)) w.taken

-- what the sink took is a front of what was written
pub front_taken : (start now : Writer) (bytes : List ℕ) → Wrote start now bytes → TakesFront start.taken now.taken bytes
front_taken start now bytes w = record { front = w.behind; rest = now.unsent.held; whole = w.whole; taken = w.taken }

pub ruleset written = (wrote_nothing, writes_header, writes_event, writes_rest, all_taken, front_taken)

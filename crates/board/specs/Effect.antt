-- What an event that is accepted does, by cases (this machine's own): what was due, or that a window
-- was open, and what changed before the levels are set.
use Rattle.std.specs.Prelude.{ℕ, ◌≡◌, true, false, List, Some}
use Rattle.system_bus.specs.Lines.{levels}
use Rattle.event_log.specs.declared.event.Event.{Event}
use Rattle.event_log.specs.declared.event.Event.TheVariants as event
use Rattle.board.specs.State.{State}
use Rattle.board.specs.Close.{close}
use Rattle.board.specs.Due.{due, interrupt_of}
use Rattle.board.specs.Runs.{is_run, after, ran}
use Rattle.board.specs.Accept.{takes_input, checkpoint, clocked, ended, received, delivered, with_used_window, interrupted}
use Rattle.board.specs.declared.control.Window.TheVariants as window
use Rattle.board.specs.declared.due.Due.TheVariants as due_is

-- a trap was told
abbrev pub untrapped : State → State
untrapped g = record g { control = record g.control { trapped = false } }

-- an interrupt was entered
abbrev pub entered : State → ℕ → State
entered g which = record g { hart = interrupted g.hart which }

-- an event of this state, and the state that it leads to: events that are due close the window first
pub data Effect (g : State) : Event → State → Type 0 where
  exception : due g ≡ due_is.Exception → Effect g event.Exception (untrapped (close g))
  interrupt : (which : ℕ) → due g ≡ due_is.Interrupt → interrupt_of (close g) ≡ Some which
      → Effect g event.Interrupt (entered (close g) which)
  idle : due g ≡ due_is.Idle
      → Effect g (event.Checkpoint true) (checkpoint (close g) (window.Idle false))
  slice : due g ≡ due_is.Slice
      → Effect g (event.Checkpoint false) (checkpoint (close g) (window.Slice false))
  clock : (value : ℕ) → due g ≡ due_is.Clock → Effect g (event.Clock value) (clocked (close g) value)
  end : (reason code : ℕ) → due g ≡ due_is.End reason code
      → Effect g (event.End reason code) (ended (close g) reason code)
  stop : (code : ℕ) → takes_input g.control ≡ true → Effect g (event.End 3 code) (ended g 3 code)
  char_read : (bytes : List ℕ) → takes_input g.control ≡ true
      → Effect g (event.CharRead bytes) (with_used_window (received g bytes))
  net : (packet : List ℕ) → takes_input g.control ≡ true
      → Effect g (event.Net packet) (with_used_window (delivered g packet))

-- the state with its levels set
abbrev pub levelled : State → State
levelled g = record g { devices = levels g.devices }

-- the event has an effect, and this is the state after it, with its levels set
pub record IsEffect (g : State) (e : Event) (h : State) : Type 0 where
  pub before : State
  pub effect : Effect g e before
  pub levels : h ≡ levelled before

-- one event: as many turns as it has, where another thing is due then; or its effect
pub data IsStep (g : State) : Event → State → Type 0 where
  turns : (n : ℕ) → ran n g ≡ n → is_run (due (after n g)) ≡ false
      → IsStep g (event.Instruction n) (after n g)
  taking : {e : Event} {h : State} → IsEffect g e h → IsStep g e h

-- an event without a turn
abbrev pub IsNoTurn : Event → Type 0
IsNoTurn (event.Instruction count) = ⊥
IsNoTurn other = Unit {0}

-- What the parts of a recording ask of it, and what each gives.
use Rattle.std.specs.Prelude.{◌≡◌, ◌⊎◌, ℕ, ◌+◌, ◌*◌, ◌≤◌, List, [], length, None, true, false, OnOk, Result}
use Rattle.plain_hub.specs.declared.item.Item.{Item}
use Rattle.board.specs.Accept.{takes_input}
use Rattle.board.specs.declared.control.Window.TheVariants as window
use Rattle.rr_engine.specs.declared.ends.Break.{Break}
use Rattle.rr_engine.specs.Windows.{Remainder, Unreceived, nothing_left}
use Rattle.rr_engine.specs.Stand.{Stand}
use Rattle.rr_engine.specs.Recording.{Goes}
use Rattle.rr_engine.specs.Owed.{Rests}
use Rattle.rr_engine.specs.Work.{work, Falls}

-- a recording that goes on: its log's sink works, and its run hasn't ended
pub record GoesOn (p : Stand) : Type 0 where
  pub works : p.log.unsent.failed ≡ false
  pub going : p.machine.control.ended ≡ None
  pub rests : Rests p

-- What was recorded, after which the window has nothing left to take. Where the recording didn't
-- break off, its log's sink works, and it has less left, by so much at least.
pub record Proceeds (before : Remainder) (less : ℕ) (p q : Stand)
    (result : Result (Unit {0}) Break) : Type 0 where
  pub goes : Goes before nothing_left p q result
  pub works : OnOk result (q.log.unsent.failed ≡ false)
  pub left : OnOk result (Falls less p q)
  pub rests : OnOk result (Rests q)

-- what was due was done, and less is left
abbrev pub Rounds : Stand → Stand → Result (Unit {0}) Break → Type 0
Rounds p q result = Proceeds nothing_left 1 p q result

-- an open window, which hadn't received its inputs, had what comes in it, and no more is left
abbrev pub Fills : Stand → Stand → Result (Unit {0}) Break → Type 0
Fills p q result = Proceeds Unreceived 0 p q result

-- These items were taken in a window that stays open: it is as it was, or it had an event. An input
-- wakes an idle hart and sets no other mark.
pub record TookIn (items : List Item) (p q : Stand) : Type 0 where
  pub opens : takes_input q.machine.control ≡ true
  pub silent : q.machine.devices.uart.out ≡ []
  pub works : q.log.unsent.failed ≡ false
  pub feed : q.feed ≡ p.feed
  pub window : ((items ≡ []) × (q.machine.control.window ≡ p.machine.control.window))
      ⊎ (q.machine.control.window ≡ window.Idle false → ⊥)
  pub work : work q.machine ≤ work p.machine + 2 * length items

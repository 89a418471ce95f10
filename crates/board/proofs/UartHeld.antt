-- Closing a window leaves the UART.
use Rattle.std.proofs.Common.{◌≡◌, ℕ, Bool, true, false, refl, inl, inr}
use Rattle.std.proofs.lemmas.Bool.{cases_Bool}
use Rattle.std.specs.Prelude.{Option, Some, None}
use Rattle.board.specs.declared.control.Window.{Window}
use Rattle.board.specs.declared.control.Window.TheVariants as window
use Rattle.board.specs.State.{State}
use Rattle.board.specs.Close.{wakes, deadline, rests, close_window, close}

rests-uart : (used : Bool) (g : State) (at : Option ℕ) → (rests used g at).devices.uart ≡ g.devices.uart
rests-uart used g (Some at) = refl
rests-uart true g None = refl
rests-uart false g None = refl

window-uart : (w : Window) (g : State) → (close_window w g).devices.uart ≡ g.devices.uart
window-uart window.Shut g = refl
window-uart (window.Slice used) g = refl
window-uart (window.Idle used) g =
    elim (cases_Bool (wakes g.hart g.devices)) [
      | inl wakes_ ↦ rw wakes_ refl
      | inr rests_ ↦ rw rests_ (rests-uart used g (deadline g.hart g.devices))
    ]

pub close_uart : (g : State) → (close g).devices.uart ≡ g.devices.uart
unfolding close
close_uart g = window-uart g.control.window g

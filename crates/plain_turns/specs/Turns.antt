-- Plain turns: the attempt at the instruction at pc needs the hart and RAM alone, and retires.
use Rattle.std.specs.Prelude.{ℕ, zero, suc, ◌≡◌, false, List, Option, Some, None, if◌then◌else◌}
use Rattle.rv_decode.specs.declared.ins.Ins.{Ins}
use Rattle.rv_decode.specs.Fields.{decoded}
use Rattle.rv_exec.specs.declared.done.Done.TheVariants.{Retired}
use Rattle.rv_exec.specs.declared.hart.Hart.{Hart}
use Rattle.rv_exec.specs.Rows.{Outcome, Reaches, meaning, traps, beside}
use Rattle.rv_exec.specs.Plain.{is_plain}
use Rattle.system_bus.specs.Memory.{ram_load, ram_answers}

-- a word that means no plain instruction comes to a trap here, so that it makes no plain turn
abbrev pub plain_word : Hart → List ℕ → ℕ → Option Ins → Outcome (List ℕ)
plain_word h ram word None = beside ram (traps h 2 word)
plain_word h ram word (Some ins) =
    if is_plain ins.op then meaning ram_answers h ram ins word else beside ram (traps h 2 word)

abbrev pub plain_fetched : Hart → List ℕ → Option ℕ → Outcome (List ℕ)
plain_fetched h ram None = beside ram (traps h 1 h.pc)
plain_fetched h ram (Some word) = plain_word h ram word (decoded word)

-- the attempt at the instruction at pc with RAM alone
unfoldable pub plain_attempt : Hart → List ℕ → Outcome (List ℕ)
plain_attempt h ram = plain_fetched h ram (ram_load ram h.pc 4)

-- one plain turn leads from the first hart and RAM to the second. It isn't counted, so the control
-- registers stay
pub record PlainTurn (h : Hart) (ram : List ℕ) (h' : Hart) (ram' : List ℕ) : Type 0 where
  pub reached : Reaches (plain_attempt h ram) (Retired false) h' ram'
  pub csrs : h'.csrs ≡ h.csrs
  pub mode : h'.mode ≡ h.mode

-- so many plain turns, one after another, lead from the first hart and RAM to the last
unfoldable pub PlainTurns : Hart → List ℕ → ℕ → Hart → List ℕ → Type 0
PlainTurns h ram zero h' ram' = (h' ≡ h) × (ram' ≡ ram)
PlainTurns h ram (suc n) h' ram' =
    (h1 : Hart) × (ram1 : List ℕ) × PlainTurns h ram n h1 ram1 × PlainTurn h1 ram1 h' ram'

-- What a session answers, byte by byte, and its transcript.
use Rattle.std.specs.Prelude.{ℕ, ◌+◌, ◌-◌, ◌==◌, Bool, true, false, nat_lt, List, [], ◌∷◌, ◌++◌, Result, Ok, Err, codes, if◌then◌else◌}
use Rattle.board.specs.State.{State}
use Rattle.board.specs.Runs.{state_at}
use Rattle.board.specs.Show.{show_text}
use Rattle.reverse_seek.specs.Script.{Script}
use Rattle.reverse_seek.specs.Timeline.{break_below, break_above}
use Rattle.monitor.specs.declared.command.Command.{Command}
use Rattle.monitor.specs.declared.command.Command.TheVariants as command
use Rattle.monitor.specs.declared.command.LineError.{LineError}
use Rattle.monitor.specs.Parse.{parsed}
use Rattle.monitor.specs.Texts.{stands_at, past_text, break_text, replay_text, error_text}
use Rattle.monitor.specs.Dumps.{dump_text}

-- the place, which is a count of turns, the breaks, rising, the front of a line that isn't whole
-- yet, and whether `quit` came
pub record Desk : Type 0 where
  pub place : ℕ
  pub breaks : List ℕ
  pub line : List ℕ
  pub quit : Bool

-- a session begins at 0, without breaks
abbrev pub fresh : Desk
fresh = record { place = 0; breaks = []; line = []; quit = false }

-- rising numbers with one more
abbrev pub with_break : ℕ → List ℕ → List ℕ
with_break n [] = n ∷ []
with_break n (b ∷ bs) =
    if nat_lt n b then n ∷ b ∷ bs else if n == b then b ∷ bs else b ∷ with_break n bs

-- the session goes to a count
abbrev pub goes_to : Script → Desk → ℕ → List ℕ × Desk
goes_to s d n = (stands_at s n, record d { place = n })

-- the state at the place
abbrev pub here : Script → Desk → State
here s d = state_at s.start s.events d.place

-- a text, and all as it was
abbrev pub says : List ℕ → Desk → List ℕ × Desk
says text d = (text, d)

-- the answer to a command, and the desk after it
abbrev pub answer : Script → Desk → Command → List ℕ × Desk
answer s d command.InfoReplay = says (replay_text d.place s.last d.breaks) d
answer s d command.InfoRegisters = says (show_text (here s d)) d
answer s d (command.Break n) =
    if nat_lt s.last n then says (past_text n s.last) d
    else (break_text n, record d { breaks = with_break n d.breaks })
answer s d command.DeleteBreak = (codes "breaks deleted\n", record d { breaks = [] })
answer s d (command.Seek n) =
    if nat_lt s.last n then says (past_text n s.last) d else goes_to s d n
answer s d command.StepBack =
    if d.place == 0 then says (codes "at the start\n") d else goes_to s d (d.place - 1)
answer s d command.RunBack =
    if d.place == 0 then says (codes "at the start\n") d
    else goes_to s d (break_below d.place d.breaks)
answer s d command.StepOn =
    if d.place == s.last then says (codes "at the end\n") d else goes_to s d (d.place + 1)
answer s d command.RunOn =
    if d.place == s.last then says (codes "at the end\n") d
    else goes_to s d (break_above d.place s.last d.breaks)
answer s d (command.Dump at len) = says (dump_text (here s d) at len) d
answer s d command.Quit = ([], record d { quit = true })
answer s d command.Blank = says [] d

-- the answer to a line, and the desk after it
abbrev pub answer_line : Script → Desk → Result Command LineError → List ℕ × Desk
answer_line s d (Err e) = says (error_text e) d
answer_line s d (Ok asked) = answer s d asked

-- a line without the carriage return before its line feed
abbrev pub without_return : List ℕ → List ℕ
without_return [] = []
without_return (b ∷ []) = if b == 13 then [] else b ∷ []
without_return (b ∷ c ∷ bs) = b ∷ without_return (c ∷ bs)

-- the line is whole, and is answered
unfoldable pub whole_line : Script → Desk → List ℕ × Desk
whole_line s d = answer_line s (record d { line = [] }) (parsed (without_return d.line))

-- one byte more
unfoldable pub with_byte : Script → Desk → ℕ → List ℕ × Desk
with_byte s d b =
    if b == 10 then whole_line s d else ([], record d { line = d.line ++ b ∷ [] })

-- an answer, and what is said after it
abbrev pub then_says : List ℕ × Desk → (Desk → List ℕ × Desk) → List ℕ × Desk
then_says told next = (told.0 ++ (next told.1).0, (next told.1).1)

-- the answers to bytes, one after another, and nothing after `quit`
unfoldable pub fed : Script → Desk → List ℕ → List ℕ × Desk
fed s d [] = ([], d)
fed s d (b ∷ bs) =
    if d.quit then ([], d) else then_says (with_byte s d b) (λ e. fed s e bs)

-- a last line without a line feed counts, where it has a byte
abbrev pub last_answer : Script → Desk → List ℕ → List ℕ
last_answer s d [] = []
last_answer s d (b ∷ bs) = (whole_line s d).0

-- what is answered where the bytes end
abbrev pub at_end : Script → Desk → List ℕ
at_end s d = if d.quit then [] else last_answer s d d.line

-- what the bytes so far are answered
abbrev pub answered : Script → List ℕ → List ℕ
answered s bytes = (fed s fresh bytes).0

-- the bytes end the session
abbrev pub quits : Script → List ℕ → Bool
quits s bytes = (fed s fresh bytes).1.quit

-- what all of the bytes are answered
abbrev pub transcript : Script → List ℕ → List ℕ
transcript s bytes = answered s bytes ++ at_end s (fed s fresh bytes).1

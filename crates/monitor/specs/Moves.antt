-- What is answered after a move.
use Rattle.std.specs.Prelude.{◌≡◌, ◌≢◌, ℕ, ◌+◌, ◌-◌, ◌==◌, nat_lt, List, Result, Ok, Err, codes, if◌then◌else◌}
use Rattle.reverse_seek.specs.Backing.{Backing, Fails}
use Rattle.reverse_seek.specs.declared.error.SeekError.{SeekError}
use Rattle.reverse_seek.specs.declared.error.SeekError.TheVariants as error
use Rattle.reverse_seek.specs.Timeline.{Timeline, moved, break_below, break_above}
use Rattle.monitor.specs.declared.answers.Unanswered.{Unanswered}
use Rattle.monitor.specs.declared.answers.Unanswered.TheVariants as unanswered
use Rattle.monitor.specs.Texts.{stands_at, past_text}

-- the text after a move that answered so, of the timeline where it stands then
abbrev pub Tells : Timeline → Result Unit SeekError → List ℕ → Type 0
Tells t (Ok _) told = told ≡ stands_at t.script t.at
Tells t (Err (error.PastEnd asked last)) told = told ≡ past_text asked last
Tells t (Err error.AtStart) told = told ≡ codes "at the start\n"
Tells t (Err error.AtEnd) told = told ≡ codes "at the end\n"
Tells t (Err error.ImageFailed) told = ⊥
Tells t (Err error.NoMemory) told = ⊥

-- it stays unanswered for the image's sake exactly where the move failed by it
abbrev pub Blames : {X : Type 0} → Result Unit SeekError → Result X Unanswered → Type 0
Blames (Err error.ImageFailed) r = r ≡ Err unanswered.ImageFault
Blames moved r = r ≢ Err unanswered.ImageFault

-- what an answer leaves of the image: all, unless it failed
abbrev pub AnswerLeaves : {X : Type 0} → Result X Unanswered → Backing → Backing → Type 0
AnswerLeaves (Err unanswered.ImageFault) old new = Fails old new
AnswerLeaves r old new = new ≡ old

-- the text and the timeline after going to a count
abbrev pub goes : Timeline → ℕ → List ℕ × Timeline
goes t n = (stands_at t.script n, moved t n)

-- what each move tells, and the timeline after it
abbrev pub TellsSeek : ℕ → Timeline → Timeline → List ℕ → Type 0
TellsSeek n t t' told = (told, t')
    ≡ (if nat_lt t.script.last n then (past_text n t.script.last, t) else goes t n)

abbrev pub TellsStepBack : Timeline → Timeline → List ℕ → Type 0
TellsStepBack t t' told = (told, t')
    ≡ (if t.at == 0 then (codes "at the start\n", t) else goes t (t.at - 1))

abbrev pub TellsStepOn : Timeline → Timeline → List ℕ → Type 0
TellsStepOn t t' told = (told, t')
    ≡ (if t.at == t.script.last then (codes "at the end\n", t) else goes t (t.at + 1))

abbrev pub TellsRunBack : List ℕ → Timeline → Timeline → List ℕ → Type 0
TellsRunBack breaks t t' told = (told, t')
    ≡ (if t.at == 0 then (codes "at the start\n", t) else goes t (break_below t.at breaks))

abbrev pub TellsRunOn : List ℕ → Timeline → Timeline → List ℕ → Type 0
TellsRunOn breaks t t' told = (told, t')
    ≡ (if t.at == t.script.last then (codes "at the end\n", t)
    else goes t (break_above t.at t.script.last breaks))

-- When each outcome comes, and what standard output has then, whatever the words ask for.
use Rattle.std.specs.Prelude.{◌≡◌, ◌⊎◌, ⊤, [], Some, IfSome}
use Rattle.outside.specs.Causes.{Rose}
use Rattle.outside.specs.Ledger.{Ledger}
use Rattle.outside.specs.Roles.{at}
use Rattle.outside.specs.Told.{TakesFront}
use Rattle.outside.specs.declared.roles.Role.TheVariants.{ConsoleOut, LogIn}
use Rattle.command_line.specs.Words.{Reading, Records, Replays, Debugs, Checks, Lists, Demonstrates, Help, Version, Bad, Early}
use Rattle.commands.specs.Asking.{replaying_of}
use Rattle.commands.specs.Causes.{RecordCause, ReplayCause, DemoCause, PrintCause, IsDemoPrintedFront, IfBoth}
use Rattle.commands.specs.Faults.{NamesFault, NamesFirstFault}
use Rattle.commands.specs.Replays.{IsShown}
use Rattle.commands.specs.declared.outcome.Outcome.{Outcome}
use Rattle.commands.specs.declared.outcome.Outcome.TheVariants.{Printed, BadWord, WordsMissing, NoMemory}
use Rattle.commands.specs.declared.printing.TheConstants.{HELP, VERSION}
use Rattle.debug_command.specs.Causes.{DebugCause}
use Rattle.debug_command.specs.Debugs.{IsShown as IsSessionShown}
use Rattle.check_command.specs.Checks.{CheckCause, IsCheckedFront}
use Rattle.list_command.specs.Lists.{ListCause, IsShownFront as IsListShown}

-- when an outcome comes
abbrev pub Cause : Reading → Ledger → Ledger → Outcome → Type 0
Cause (Records r) old new outcome = RecordCause r old new outcome
Cause (Replays r) old new outcome =
    ReplayCause r (old.names r.log) old new (Rose (at old.faults LogIn) (at new.faults LogIn))
    outcome
Cause (Debugs r) old new outcome = DebugCause r.log r.bios old new outcome
Cause (Checks r) old new outcome = CheckCause (replaying_of r.log r.bios) old new outcome
Cause (Lists log) old new outcome =
    ListCause log (old.names log) old new (Rose (at old.faults LogIn) (at new.faults LogIn)) outcome
Cause (Demonstrates n) old new outcome = DemoCause n old new outcome
Cause Help old new outcome = PrintCause HELP.now old new outcome
Cause Version old new outcome = PrintCause VERSION.now old new outcome
Cause (Bad k) old new outcome = (outcome ≡ BadWord k) ⊎ (outcome ≡ NoMemory)
Cause Early old new outcome = (outcome ≡ WordsMissing) ⊎ (outcome ≡ NoMemory)

-- the outcome names each fault that was counted; that of a recording the first
abbrev pub Names : Reading → Outcome → Ledger → Ledger → Type 0
Names (Records r) outcome old new = NamesFirstFault outcome old new
Names other outcome old new = NamesFault outcome old new

-- what was asked for was printed: a text, or what a quiet command answers
abbrev pub IsPrinted : Reading → Ledger → Ledger → Type 0
IsPrinted (Bad k) old new = ⊥
IsPrinted Early old new = ⊥
IsPrinted r old new = Cause r old new Printed

-- What standard output has, once it was opened: a front of what the words ask for.
abbrev pub Shows : Reading → Ledger → Ledger → Type 0
Shows (Records r) old new = ⊤
Shows (Replays r) old new =
    IfBoth (old.names r.log) (old.names r.bios) (λ log file. IsShown r log file new)
Shows (Debugs r) old new =
    IfBoth (old.names r.log) (old.names r.bios) (λ log file. IsSessionShown log file old new)
Shows (Checks r) old new = IfBoth (old.names r.log) (old.names r.bios)
    (λ log file. IsCheckedFront (replaying_of r.log r.bios) log file new)
Shows (Lists log) old new =
    IfSome (old.names log) (λ bytes. IsListShown bytes (at new.last ConsoleOut))
Shows (Demonstrates n) old new = IsDemoPrintedFront n new
Shows Help old new = TakesFront (Some []) (at new.last ConsoleOut) HELP.now
Shows Version old new = TakesFront (Some []) (at new.last ConsoleOut) VERSION.now
Shows (Bad k) old new = ⊤
Shows Early old new = ⊤

-- The line that the messages get for an outcome.
use Rattle.std.specs.Prelude.{ℕ, ◌==◌, ◌++◌, List, [], codes, if◌then◌else◌, slice_get, unwrap_or}
use Rattle.std.specs.Fmt.{decimal}
use Rattle.outside.specs.declared.roles.Role.{Role}
use Rattle.outside.specs.declared.roles.Role.TheVariants.{Firmware}
use Rattle.command_line.specs.Words.{Reading, Records, Replays, Debugs, Checks, Lists}
use Rattle.elf_load.specs.declared.error.LoadError.{LoadError}
use Rattle.elf_load.specs.declared.error.LoadError.TheVariants as rule
use Rattle.run_files.specs.declared.difference.Difference.{Difference}
use Rattle.run_files.specs.declared.difference.Difference.TheVariants as difference
use Rattle.rrvm.specs.Texts.{refusal_line}
use Rattle.commands.specs.declared.outcome.Outcome.{Outcome}
use Rattle.commands.specs.declared.outcome.Outcome.TheVariants.{Printed, GuestEnded, IdleForEver, BudgetReached, BadWord, WordsMissing, CannotOpen, CannotRead, ConsoleUnreadable, ConsoleFailed, LogFailed, LogUnreadable, BadFirmware, RecordingStopped, HeaderRefused, LogRefused, ImagesDiffer, LogTooLong, QuietFailed, CommandsUnreadable, TooMuchInput, NoMemory}

-- the names that the words give
abbrev pub bios_name : Reading → List ℕ
bios_name (Records r) = r.bios
bios_name (Replays r) = r.bios
bios_name (Debugs r) = r.bios
bios_name (Checks r) = r.bios
bios_name other = []

abbrev pub log_name : Reading → List ℕ
log_name (Records r) = r.log
log_name (Replays r) = r.log
log_name (Debugs r) = r.log
log_name (Checks r) = r.log
log_name (Lists log) = log
log_name other = []

-- the file of a role
abbrev pub file_name : Reading → Role → List ℕ
file_name r Firmware = bios_name r
file_name r other = log_name r

-- the rule of a firmware's file, in lower case
abbrev pub rule_name : LoadError → List ℕ
rule_name rule.TooLong = codes "toolong"
rule_name rule.Cut = codes "cut"
rule_name rule.Class = codes "class"
rule_name rule.Encoding = codes "encoding"
rule_name rule.FileType = codes "filetype"
rule_name rule.Machine = codes "machine"
rule_name rule.Entry = codes "entry"
rule_name rule.Headers = codes "headers"
rule_name rule.Sizes = codes "sizes"
rule_name rule.File = codes "file"
rule_name rule.Memory = codes "memory"
rule_name rule.NoMemory = codes "nomemory"

-- what differs from the log's header
abbrev pub difference_name : Difference → List ℕ
difference_name difference.Shift = codes "shift"
difference_name difference.Ram = codes "ram"
difference_name difference.Firmware = codes "firmware"
difference_name difference.DiskLength = codes "disk length"
difference_name difference.Disk = codes "disk"

-- the word of a number, counted from 0
abbrev pub word_of : List (List ℕ) → ℕ → List ℕ
word_of words number = unwrap_or (slice_get words number) []

-- nothing at status 0, else one line
abbrev pub line_of : List (List ℕ) → Reading → Outcome → List ℕ
line_of words r Printed = []
line_of words r (GuestEnded code) =
    if code == 0 then [] else codes "rrvm: guest ended with code " ++ decimal code ++ codes "\n"
line_of words r IdleForEver = codes "rrvm: idle for ever\n"
line_of words r BudgetReached = codes "rrvm: budget reached\n"
line_of words r (BadWord number) =
    codes "rrvm: bad word " ++ decimal number ++ codes ": " ++ word_of words number ++ codes "\n"
line_of words r WordsMissing = codes "rrvm: words end early\n"
line_of words r (CannotOpen role) =
    codes "rrvm: cannot open or read " ++ file_name r role ++ codes "\n"
line_of words r CannotRead = codes "rrvm: cannot open or read " ++ bios_name r ++ codes "\n"
line_of words r ConsoleUnreadable = codes "rrvm: console input failed\n"
line_of words r ConsoleFailed = codes "rrvm: console output failed\n"
line_of words r LogFailed = codes "rrvm: log output failed\n"
line_of words r (BadFirmware broken) =
    codes "rrvm: bad firmware: " ++ rule_name broken ++ codes "\n"
line_of words r LogUnreadable = codes "rrvm: log input failed\n"
line_of words r RecordingStopped = codes "rrvm: recording was stopped\n"
line_of words r (HeaderRefused offset) =
    codes "rrvm: log refused: header at " ++ decimal offset ++ codes "\n"
line_of words r (LogRefused refusal) = refusal_line refusal
line_of words r (ImagesDiffer which) =
    codes "rrvm: images differ: " ++ difference_name which ++ codes "\n"
line_of words r LogTooLong = codes "rrvm: log too long\n"
line_of words r QuietFailed = codes "rrvm: input or output failed\n"
line_of words r CommandsUnreadable = codes "rrvm: input or output failed\n"
line_of words r TooMuchInput = codes "rrvm: too much input\n"
line_of words r NoMemory = codes "rrvm: no memory\n"

-- What a command opens, in the order in which it does.
use Rattle.std.specs.Prelude.{ℕ, List, [], ◌∷◌, Some, None}
use Rattle.outside.specs.declared.openings.Opening.{Opening}
use Rattle.outside.specs.declared.openings.Opening.TheVariants.{Source, Sink, Clock}
use Rattle.outside.specs.declared.roles.Role.{Role}
use Rattle.outside.specs.declared.roles.Role.TheVariants.{ConsoleIn, ConsoleOut, LogIn, LogOut, Firmware}
use Rattle.run_files.specs.Files.{firmware_opening}
use Rattle.command_line.specs.Words.{Recording, Replaying, Reading, Records, Replays}

-- the console, its input first, the clock, and the log under that name
abbrev pub device_openings : List ℕ → List Opening
device_openings log =
    Source ConsoleIn None ∷ Sink ConsoleOut None ∷ Clock ∷ Sink LogOut (Some log) ∷ []

-- the console, which is standard output
abbrev pub console_openings : List Opening
console_openings = Sink ConsoleOut None ∷ []

-- the firmware's file, and the console
abbrev pub played_openings : List ℕ → List Opening
played_openings bios = firmware_opening bios ∷ console_openings

-- what a recording opens
abbrev pub record_openings : Recording → List Opening
record_openings r = firmware_opening r.bios ∷ device_openings r.log

-- what a replay opens
abbrev pub replay_openings : Replaying → List Opening
replay_openings r = Source LogIn (Some r.log) ∷ played_openings r.bios

-- how the file of a role is opened
abbrev pub opening_of : Reading → Role → Opening
opening_of (Records r) Firmware = firmware_opening r.bios
opening_of (Records r) other = Sink LogOut (Some r.log)
opening_of (Replays r) Firmware = firmware_opening r.bios
opening_of (Replays r) other = Source LogIn (Some r.log)
opening_of other role = Sink role None

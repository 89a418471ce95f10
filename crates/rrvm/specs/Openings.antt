-- What the words let be opened, in the order in which it is.
use Rattle.std.specs.Prelude.{List, [], ◌∷◌, None}
use Rattle.outside.specs.Ledger.{Ledger}
use Rattle.outside.specs.Openings.{OpensFront}
use Rattle.outside.specs.declared.openings.Opening.{Opening}
use Rattle.outside.specs.declared.openings.Opening.TheVariants.{Sink}
use Rattle.outside.specs.declared.roles.Role.TheVariants.{Messages}
use Rattle.command_line.specs.Words.{Reading, Records, Replays, Debugs, Checks, Lists, Demonstrates, Help, Version, Bad, Early}
use Rattle.commands.specs.Asking.{replaying_of}
use Rattle.commands.specs.Openings.{record_openings, replay_openings, console_openings}
use Rattle.debug_command.specs.Debugs.{debug_openings}
use Rattle.list_command.specs.Lists.{list_openings}

-- what the words let be opened, but for the messages
abbrev pub openings_of : Reading → List Opening
openings_of (Records r) = record_openings r
openings_of (Replays r) = replay_openings r
openings_of (Debugs r) = debug_openings r.log r.bios
openings_of (Checks r) = replay_openings (replaying_of r.log r.bios)
openings_of (Lists log) = list_openings log
openings_of (Demonstrates n) = console_openings
openings_of Help = console_openings
openings_of Version = console_openings
openings_of (Bad k) = []
openings_of Early = []

-- the messages, which are standard error
abbrev pub message_openings : List Opening
message_openings = Sink Messages None ∷ []

-- A front of what the words let be opened was opened, in that order and nothing between; and then
-- the messages, or nothing.
pub record OpensAsAsked (r : Reading) (old new : Ledger) : Type 0 where
  pub done : List Opening
  pub asked : OpensFront old.openings done (openings_of r)
  pub said : OpensFront done new.openings message_openings

-- What a device is for, and a value for each role.
use Rattle.std.specs.Prelude.{◌≡◌, ⊤, None, Some}
use Rattle.std.specs.declared.option.Option.{Option}
use Rattle.outside.specs.declared.roles.Role.{Role}
use Rattle.outside.specs.declared.roles.Role.TheVariants.{ConsoleIn, ConsoleOut, LogIn, LogOut, NetIn, NetOut, Firmware, Messages}
use Rattle.outside.specs.declared.roles.PerRole.{PerRole}

-- what was opened for a role is for that one, and what was made aside is for any
abbrev pub IsFor : Option Role → Role → Type 0
IsFor (Some opened) role = opened ≡ role
IsFor None role = ⊤

-- the value of a role
abbrev pub at : {T : Type 0} → PerRole T → Role → T
at p ConsoleIn = p.console_in
at p ConsoleOut = p.console_out
at p LogIn = p.log_in
at p LogOut = p.log_out
at p NetIn = p.net_in
at p NetOut = p.net_out
at p Firmware = p.firmware
at p Messages = p.messages

-- another value for that role alone
abbrev pub put : {T : Type 0} → PerRole T → Role → T → PerRole T
put p ConsoleIn v = record p { console_in = v }
put p ConsoleOut v = record p { console_out = v }
put p LogIn v = record p { log_in = v }
put p LogOut v = record p { log_out = v }
put p NetIn v = record p { net_in = v }
put p NetOut v = record p { net_out = v }
put p Firmware v = record p { firmware = v }
put p Messages v = record p { messages = v }

-- the same value for each role
abbrev pub same : {T : Type 0} → T → PerRole T
same v = record {
  console_in = v;
  console_out = v;
  log_in = v;
  log_out = v;
  net_in = v;
  net_out = v;
  firmware = v;
  messages = v;
}

-- a function of each value
abbrev pub each : {S T : Type 0} → (S → T) → PerRole S → PerRole T
each f p = record {
  console_in = f p.console_in;
  console_out = f p.console_out;
  log_in = f p.log_in;
  log_out = f p.log_out;
  net_in = f p.net_in;
  net_out = f p.net_out;
  firmware = f p.firmware;
  messages = f p.messages;
}

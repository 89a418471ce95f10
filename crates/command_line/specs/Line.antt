-- What the code's values say of a line of words.
use Rattle.std.specs.Prelude.{List, option_copied, option_map, map, String, string_bytes, Result, Ok, Err}
use Rattle.command_line.specs.declared.line.Line.{Line}
use Rattle.command_line.specs.declared.line.Line.TheVariants.{Record as RecordLine, Replay as ReplayLine, Debug as DebugLine, Check as CheckLine, Events as EventsLine, Demo as DemoLine, Help as HelpLine, Version as VersionLine, BadWord, WordsMissing}
use Rattle.command_line.specs.declared.icount.Icount.{Icount as IcountValue}
use Rattle.command_line.specs.declared.icount.Icount.TheVariants.{Record as RecordValue, Replay as ReplayValue}
use Rattle.command_line.specs.declared.icount.Mode.{Mode as ModeValue}
use Rattle.command_line.specs.declared.icount.Mode.TheVariants.{Record as RecordWord, Replay as ReplayWord}
use Rattle.command_line.specs.declared.icount.Settings.{Settings as SettingsValue}
use Rattle.command_line.specs.declared.line.RunWords.{RunWords}
use Rattle.command_line.specs.declared.options.Options.{Options}
use Rattle.command_line.specs.declared.options.OptionKey.{OptionKey}
use Rattle.command_line.specs.declared.options.OptionKey.TheVariants.{Icount as IcountOption, Bios as BiosOption, Ram as RamOption, Budget as BudgetOption, Slice as SliceOption}
use Rattle.command_line.specs.Icount.{Icount, RecordInto, ReplayFrom, Mode, RecordMode, ReplayMode, Settings}
use Rattle.command_line.specs.Words.{Given, Run, Reading, Records, Replays, Debugs, Checks, Lists, Demonstrates, Help, Version, Bad, Early, Key, IcountKey, BiosKey, RamKey, BudgetKey, SliceKey, reading_of, quiet_reading}

abbrev pub seen_run : RunWords → Run
seen_run w = record { log = w.log.now; bios = w.bios.now }

abbrev pub seen_line : Line → Reading
seen_line (RecordLine r) = Records (record {
  shift = r.shift;
  ram_mib = r.ram_mib;
  slice = r.slice;
  budget = r.budget;
  log = r.log.now;
  bios = r.bios.now;
})
seen_line (ReplayLine r) = Replays (record {
  shift = r.shift;
  ram_mib = r.ram_mib;
  log = r.log.now;
  bios = r.bios.now;
})
seen_line (DebugLine w) = Debugs (seen_run w)
seen_line (CheckLine w) = Checks (seen_run w)
seen_line (EventsLine log) = Lists log.now
seen_line (DemoLine n) = Demonstrates n
seen_line HelpLine = Help
seen_line VersionLine = Version
seen_line (BadWord k) = Bad k
seen_line WordsMissing = Early

abbrev pub seen_run_words : Result RunWords Line → Result Run Reading
seen_run_words (Ok w) = Ok (seen_run w)
seen_run_words (Err line) = Err (seen_line line)

abbrev pub seen_icount : IcountValue → Icount
seen_icount (RecordValue shift log) = RecordInto shift log.now
seen_icount (ReplayValue shift log) = ReplayFrom shift log.now

abbrev pub seen_mode : ModeValue → Mode
seen_mode RecordWord = RecordMode
seen_mode ReplayWord = ReplayMode

abbrev pub seen_settings : SettingsValue → Settings
seen_settings s = record {
  shift = s.shift;
  mode = option_map seen_mode s.mode;
  log = option_copied s.log;
}

abbrev pub seen_given : Options → Given
seen_given o = record {
  icount = option_map seen_icount o.icount;
  bios = option_copied o.bios;
  ram_mib = o.ram_mib;
  budget = o.budget;
  slice = o.slice;
}

abbrev pub seen_key : OptionKey → Key
seen_key IcountOption = IcountKey
seen_key BiosOption = BiosKey
seen_key RamOption = RamKey
seen_key BudgetOption = BudgetKey
seen_key SliceOption = SliceKey

-- what the words of a command line are
abbrev pub line_in : {Z : Type 0} → List (String Z) → Reading
line_in words = reading_of (map string_bytes words)

-- what the words of a quiet command are
abbrev pub quiet_in : {Z : Type 0} → List (String Z) → Reading
quiet_in words = quiet_reading (map string_bytes words)

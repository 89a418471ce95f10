-- What a demonstration runs, and the line that it gives.
use Rattle.std.specs.Prelude.{◌≡◌, ◌≤◌, ◌+◌, ◌*◌, ◌^◌, ℕ, false, List, [], ◌++◌, length, drop, Some, Ok, codes}
use Rattle.std.specs.List.{AllByRecursion}
use Rattle.std.specs.Fmt.{decimal}
use Rattle.command_line.specs.Words.{Recording}
use Rattle.elf_load.specs.declared.pieces.Loaded.{Loaded}
use Rattle.elf_load.specs.Load.{is_elf, loaded, LiesInRam}
use Rattle.event_log.specs.declared.event.Event.{Event}
use Rattle.event_log.specs.declared.header.Header.{Header}
use Rattle.event_log.specs.HeaderFormat.{IsHeader, header_text}
use Rattle.event_log.specs.Spelling.{texts, IsEvent}
use Rattle.event_log.specs.Reading.{Reader, ahead}
use Rattle.board.specs.State.{State}
use Rattle.board.specs.Runs.{run, turns}
use Rattle.board.specs.Reset.{start_of}
use Rattle.rr_engine.specs.Input.{Entire, Paid, Hears}
use Rattle.rr_engine.specs.Recording.{clock_values}
use Rattle.demo_run.specs.Guests.{guest_bytes}
use Rattle.run_files.specs.Headers.{header_of}

-- what a demonstration records: the defaults of a recording
abbrev pub demo_recording : Recording
demo_recording = record {
  shift = 0;
  ram_mib = 16;
  slice = 10000;
  budget = 1000000000;
  log = [];
  bios = [];
}

-- its log's header, where the guest prints n letters
abbrev pub demo_header : ℕ → Header
demo_header n = header_of demo_recording (guest_bytes n)

-- each of the numbers is 0
abbrev pub AreZero : List ℕ → Type 0
AreZero values = AllByRecursion (λ v. v ≡ 0) values

-- A demonstration by the guest that prints n letters: events that the one-thread machine accepts
-- from its start on, up to an END of its own, without input and with a clock that stands at 0.
pub record Demonstration (n : ℕ) : Type 0 where
  pub firmware : Loaded
  pub loads : loaded (guest_bytes n) 16 ≡ Ok firmware
  pub events : List Event
  pub last : State
  pub reason : ℕ
  pub code : ℕ
  pub are : AllByRecursion IsEvent events
  pub runs : run (start_of (demo_header n) firmware) events ≡ Some last
  pub ended : last.control.ended ≡ Some (record { reason = reason; code = code })
  pub by_itself : reason ≤ 2
  pub no_input : Hears Entire Paid [] events []
  pub still : AreZero (clock_values events)

-- its line: the turns, the console's bytes, and the log's
abbrev pub demo_line : (n : ℕ) → Demonstration n → List ℕ
demo_line n d =
    codes "demo " ++ decimal n
    ++ codes ": turns " ++ decimal (turns d.events)
    ++ codes ", console " ++ decimal (length d.last.devices.uart.out)
    ++ codes ", log " ++ decimal (98 + length (texts d.events))
    ++ codes ", replay equal\n"

-- ---- the parts

-- the file is none in the ELF format, and fits in 16 MiB
pub record IsRaw (file : List ℕ) : Type 0 where
  pub raw : is_elf file ≡ false
  pub fits : length file ≤ 16 * 2 ^ 20

-- The log is the head and the text of events that the machine accepts from its start on, up to an
-- END of its own, without input and with a clock that stands at 0; the console has its bytes.
pub record IsRecording (start : State) (head bytes shown : List ℕ) : Type 0 where
  pub events : List Event
  pub last : State
  pub reason : ℕ
  pub code : ℕ
  pub are : AllByRecursion IsEvent events
  pub runs : run start events ≡ Some last
  pub ended : last.control.ended ≡ Some (record { reason = reason; code = code })
  pub by_itself : reason ≤ 2
  pub no_input : Hears Entire Paid [] events []
  pub still : AreZero (clock_values events)
  pub log : bytes ≡ head ++ texts events
  pub console : shown ≡ last.devices.uart.out

-- the same of a firmware's run, from a header on that the log begins with
pub record IsRecordedFrom (firmware : Loaded) (bytes shown : List ℕ) : Type 0 where
  pub header : Header
  pub is : IsHeader header
  pub inside : LiesInRam header.ram_mib firmware
  pub recording : IsRecording (start_of header firmware) (header_text header) bytes shown

-- the reader stands behind the header, before those bytes, and nothing failed
pub record IsBehindHeader (r : Reader) (rest : List ℕ) : Type 0 where
  pub bytes : ahead r ≡ Some rest
  pub place : r.unread.place ≡ 98
  pub works : r.unread.failed ≡ false
  pub faults : r.faults ≡ 0

-- behind the header, the log is the text of these events
pub record HasEvents (log : List ℕ) (events : List Event) : Type 0 where
  pub are : AllByRecursion IsEvent events
  pub text : drop 98 log ≡ texts events

-- The header of a recording, and of a log.
use Rattle.std.specs.Prelude.{◌≡◌, ◌<◌, ◌≤◌, ◌⊎◌, ℕ, List, [], ◌++◌, length, drop}
use Rattle.sha2.specs.Sha256.{sha256}
use Rattle.command_line.specs.Words.{Recording}
use Rattle.event_log.specs.declared.header.Header.{Header}
use Rattle.event_log.specs.declared.rule.Rule.{Rule}
use Rattle.event_log.specs.Grammar.{Stops, Bad}
use Rattle.event_log.specs.HeaderFormat.{header as header_format, header_text, IsHeader}

-- The header of a recording: what the words say, and the digests of the firmware's file and of a
-- disk without bytes [FIPS 180-4, SHA-256].
abbrev pub header_of : Recording → List ℕ → Header
header_of r file = record {
  shift = r.shift;
  ram_mib = r.ram_mib;
  slice = r.slice;
  budget = r.budget;
  firmware = sha256 file;
  disk_len = 0;
  disk = sha256 [];
}

-- the header that stands at the front of the log
pub record HasHeader (log : List ℕ) (h : Header) : Type 0 where
  pub is : IsHeader h
  pub stands : log ≡ header_text h ++ drop 98 log

-- no header stands there: the log is too short, or the field at this offset is the first that is
-- out of range
abbrev pub IsBadHeader : List ℕ → ℕ → Type 0
IsBadHeader log offset =
    ((length log < 98) × (offset ≡ 0))
    ⊎ ((98 ≤ length log) × ((rule : Rule) × Stops header_format log (Bad (offset, rule))))

-- The format of the header, and its spelling.
use Rattle.std.specs.Prelude.{◌≡◌, ℕ, ◌<◌, ◌≤◌, ◌^◌, ◌&&◌, ◌==◌, true, List, ◌∷◌, ◌++◌, length, drop, nat_le, Result, Ok, Err}
use Rattle.std.specs.Int.{w32, w64, to_be_bytes}
use Rattle.event_log.specs.declared.header.Header.{Header}
use Rattle.event_log.specs.declared.header.FieldStop.{FieldStop}
use Rattle.event_log.specs.declared.header.FieldStop.TheVariants as stop
use Rattle.event_log.specs.declared.parse.ParseError.{ParseError}
use Rattle.event_log.specs.declared.parse.ParseError.TheVariants as parse
use Rattle.event_log.specs.declared.rule.Rule.{Rule}
use Rattle.event_log.specs.declared.rule.Rule.TheVariants.{BadField}
use Rattle.event_log.specs.Grammar.{Format, done, Fault, Cut, Bad, Stops}
use Rattle.event_log.specs.Fields.{u8, u32, u64, plain}

-- the fields behind the version; a field's rule is named with its offset
unfoldable pub settings : Format (ℕ × Rule) Header
settings =
    u8 (λ n. nat_le n 10) (12, BadField) (λ shift.
    u8 (λ n. nat_le 1 n && nat_le n 64) (13, BadField) (λ ram_mib.
    u32 (λ n. nat_le 1 n && nat_le n 65536) (14, BadField) (λ slice.
    u64 (λ n. nat_le 1 n && nat_le n (2 ^ 40)) (18, BadField) (λ budget.
    plain 32 (26, BadField) (λ firmware.
    u64 (λ n. true) (58, BadField) (λ disk_len.
    plain 32 (66, BadField) (λ disk.
    done (record {
      shift = shift;
      ram_mib = ram_mib;
      slice = slice;
      budget = budget;
      firmware = firmware;
      disk_len = disk_len;
      disk = disk;
    }))))))))

-- a header: the version, eight bytes of 0, and the settings
unfoldable pub header : Format (ℕ × Rule) Header
header =
    u32 (λ n. n == 0x52525631) (0, BadField) (λ version.
    u64 (λ n. n == 0) (4, BadField) (λ reserved.
    settings))

-- the spelling of a header
unfoldable pub header_text : Header → List ℕ
header_text h =
    to_be_bytes w32 0x52525631 ++ to_be_bytes w64 0
    ++ h.shift ∷ h.ram_mib ∷ to_be_bytes w32 h.slice ++ to_be_bytes w64 h.budget
    ++ (h.firmware ++ (to_be_bytes w64 h.disk_len ++ h.disk))

-- what has a spelling
pub record IsHeader (h : Header) : Type 0 where
  pub shift : h.shift ≤ 10
  pub ram_mib : (1 ≤ h.ram_mib) × (h.ram_mib ≤ 64)
  pub slice : (1 ≤ h.slice) × (h.slice ≤ 65536)
  pub budget : (1 ≤ h.budget) × (h.budget ≤ 2 ^ 40)
  pub firmware : length h.firmware ≡ 32
  pub disk_len : h.disk_len < 2 ^ 64
  pub disk : length h.disk ≡ 32

-- what reading the fields gave is what the answer says
abbrev pub HeaderGives : {X Y : Type 0} → (X → Y) → Result X FieldStop
    → Result Y (Fault (ℕ × Rule)) → Type 0
HeaderGives view (Ok x) found = found ≡ Ok (view x)
HeaderGives view (Err stop.Cut) found = found ≡ Err Cut
HeaderGives view (Err (stop.Bad offset rule)) found = found ≡ Err (Bad (offset, rule))

-- What may be answered of bytes: a header that stands at their front, that they are too few,
-- or the first field out of range.
abbrev pub HeaderAnswers : List ℕ → Result Header ParseError → Type 0
HeaderAnswers bytes (Ok h) = IsHeader h × (bytes ≡ header_text h ++ drop 98 bytes)
HeaderAnswers bytes (Err (parse.Bad offset rule)) =
    (98 ≤ length bytes) × Stops header bytes (Bad (offset, rule))
HeaderAnswers bytes (Err (parse.Cut offset)) = (length bytes < 98) × (offset ≡ 0)
HeaderAnswers bytes (Err parse.NoMemory) = ⊥

-- What the firmware's file gives.
use Rattle.std.specs.Prelude.{◌≡◌, ◌<◌, ◌⊎◌, ℕ, List, length, Ok, Err}
use Rattle.sha2.specs.Sha256.{sha256}
use Rattle.elf_load.specs.declared.error.LoadError.{LoadError}
use Rattle.elf_load.specs.declared.error.LoadError.TheVariants as load_error
use Rattle.elf_load.specs.Load.{loaded}
use Rattle.run_files.specs.declared.firmware.Firmware.{Firmware}
use Rattle.run_files.specs.declared.firmware.FirmwareFault.{FirmwareFault}
use Rattle.run_files.specs.declared.firmware.FirmwareFault.TheVariants.{Bad, NoMemory}
use Rattle.run_files.specs.declared.firmware.TheConstants.{FIRMWARE_LIMIT}

-- the file loads as this firmware, and has its digest
pub record IsFirmwareOf (file : List ℕ) (mib : ℕ) (f : Firmware) : Type 0 where
  pub loads : loaded file mib ≡ Ok f.loaded
  pub digest : f.digest ≡ sha256 file

-- the file breaks the rule
abbrev pub IsRefused : List ℕ → ℕ → FirmwareFault → Type 0
IsRefused file mib (Bad rule) = loaded file mib ≡ Err rule
IsRefused file mib NoMemory = Unit {0}
IsRefused file mib other = ⊥

-- the file breaks the rule, or is above the limit
abbrev pub IsBadFirmware : List ℕ → ℕ → LoadError → Type 0
IsBadFirmware file mib rule =
    (loaded file mib ≡ Err rule)
    ⊎ ((rule ≡ load_error.TooLong) × (FIRMWARE_LIMIT < length file))

abbrev pub IsRefusedFile : List ℕ → ℕ → FirmwareFault → Type 0
IsRefusedFile file mib (Bad rule) = IsBadFirmware file mib rule
IsRefusedFile file mib other = Unit {0}

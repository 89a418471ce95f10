-- What the firmware's file of a replay gives.
use Rattle.std.specs.Prelude.{◌≡◌, ◌≢◌, ◌≤◌, ◌<◌, ◌⊎◌, ℕ, List, [], length, Result, Ok, Err}
use Rattle.sha2.specs.Sha256.{sha256}
use Rattle.elf_load.specs.declared.pieces.Loaded.{Loaded}
use Rattle.elf_load.specs.declared.error.LoadError.{LoadError}
use Rattle.elf_load.specs.declared.error.LoadError.TheVariants as load_error
use Rattle.elf_load.specs.Load.{loaded}
use Rattle.event_log.specs.declared.header.Header.{Header}
use Rattle.run_files.specs.declared.images.ImageFault.{ImageFault}
use Rattle.run_files.specs.declared.images.ImageFault.TheVariants.{OtherFirmware, Bad, OtherDiskLength, OtherDisk, NoMemory}
use Rattle.run_files.specs.declared.firmware.TheConstants.{FIRMWARE_LIMIT}

-- the file is the header's firmware, and loads as this for its RAM
pub record IsFirmware (h : Header) (file : List ℕ) (firmware : Loaded) : Type 0 where
  pub same : sha256 file ≡ h.firmware
  pub fits : length file ≤ FIRMWARE_LIMIT
  pub loads : loaded file h.ram_mib ≡ Ok firmware

-- the file is the header's firmware and breaks a rule, or is above the limit
abbrev pub IsBadImage : Header → List ℕ → LoadError → Type 0
IsBadImage h file rule =
    ((sha256 file ≡ h.firmware) × (loaded file h.ram_mib ≡ Err rule))
    ⊎ ((rule ≡ load_error.TooLong) × (FIRMWARE_LIMIT < length file))

-- the header names no disk: one without bytes
pub record NamesNoDisk (h : Header) : Type 0 where
  pub length : h.disk_len ≡ 0
  pub digest : h.disk ≡ sha256 []

-- the bytes are the header's firmware, and load
pub record LoadsAs (h : Header) (file : List ℕ) : Type 0 where
  pub same : sha256 file ≡ h.firmware
  pub firmware : Loaded
  pub loads : loaded file h.ram_mib ≡ Ok firmware

-- what becomes of the bytes of a file
abbrev pub ImageGives : Header → List ℕ → Result Loaded ImageFault → Type 0
ImageGives h file (Ok firmware) =
    (sha256 file ≡ h.firmware) × (loaded file h.ram_mib ≡ Ok firmware) × NamesNoDisk h
ImageGives h file (Err OtherFirmware) = sha256 file ≢ h.firmware
ImageGives h file (Err (Bad rule)) =
    (sha256 file ≡ h.firmware) × (loaded file h.ram_mib ≡ Err rule)
ImageGives h file (Err OtherDiskLength) = LoadsAs h file × (h.disk_len ≢ 0)
ImageGives h file (Err OtherDisk) =
    LoadsAs h file × (h.disk_len ≡ 0) × (h.disk ≢ sha256 [])
ImageGives h file (Err NoMemory) = Unit {0}
ImageGives h file (Err other) = ⊥

-- why a file that holds these bytes isn't the image
abbrev pub IsImageFault : Header → List ℕ → ImageFault → Type 0
IsImageFault h file OtherFirmware = (sha256 file ≢ h.firmware) × (length file ≤ FIRMWARE_LIMIT)
IsImageFault h file (Bad rule) = IsBadImage h file rule
IsImageFault h file OtherDiskLength =
    ((firmware : Loaded) × IsFirmware h file firmware) × (h.disk_len ≢ 0)
IsImageFault h file OtherDisk =
    ((firmware : Loaded) × IsFirmware h file firmware) × (h.disk_len ≡ 0) × (h.disk ≢ sha256 [])
IsImageFault h file other = Unit {0}

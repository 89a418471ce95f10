-- What holds of the bytes that were read holds of the file that was held.
use Rattle.std.proofs.Common.{◌≡◌, ◌≤◌, ℕ, List, length, subst, inl}
use Rattle.std.specs.Prelude.{Some, None, IfSome, Ok, Err, Result, IfOk, IfErr}
use Rattle.std.specs.declared.option.Option.{Option}
use Rattle.elf_load.specs.declared.pieces.Loaded.{Loaded}
use Rattle.event_log.specs.declared.header.Header.{Header}
use Rattle.run_files.specs.declared.images.ImageFault.{ImageFault}
use Rattle.run_files.specs.declared.images.ImageFault.TheVariants as image
use Rattle.run_files.specs.Images.{IsFirmware}
use Rattle.run_files.specs.Images.{ImageGives, IsImageFault}
use Rattle.run_files.specs.declared.firmware.Firmware.{Firmware}
use Rattle.run_files.specs.declared.firmware.FirmwareFault.{FirmwareFault}
use Rattle.run_files.specs.declared.firmware.FirmwareFault.TheVariants.{CannotOpen, CannotRead, Bad, NoMemory}
use Rattle.run_files.specs.declared.firmware.TheConstants.{FIRMWARE_LIMIT}
use Rattle.run_files.specs.Firmwares.{IsFirmwareOf, IsRefused, IsRefusedFile}

refused-bytes : (read : List ℕ) (mib : ℕ) (e : FirmwareFault) → IsRefused read mib e
    → IsRefusedFile read mib e
refused-bytes read mib CannotOpen r = tt
refused-bytes read mib CannotRead r = tt
refused-bytes read mib (Bad rule) r = inl r
refused-bytes read mib NoMemory r = tt

held-firmware : (held : Option (List ℕ)) (read : List ℕ) (mib : ℕ)
    (r : Result Firmware FirmwareFault)
    → IfSome held (λ xs. read ≡ xs) → length read ≤ FIRMWARE_LIMIT
    → IfOk r (λ f. IsFirmwareOf read mib f)
    → IfOk r (λ f. IfSome held (λ file. IsFirmwareOf file mib f × (length file ≤ FIRMWARE_LIMIT)))
held-firmware None read mib (Ok f) same fits is = tt
held-firmware (Some file) read mib (Ok f) same fits is =
    subst (λ (xs : List ℕ). IsFirmwareOf xs mib f × (length xs ≤ FIRMWARE_LIMIT)) same (is, fits)
held-firmware held read mib (Err e) same fits is = tt

held-refused : (held : Option (List ℕ)) (read : List ℕ) (mib : ℕ)
    (r : Result Firmware FirmwareFault)
    → IfSome held (λ xs. read ≡ xs)
    → IfErr r (λ e. IsRefused read mib e)
    → IfErr r (λ e. IfSome held (λ file. IsRefusedFile file mib e))
held-refused held read mib (Ok f) same is = tt
held-refused None read mib (Err e) same is = tt
held-refused (Some file) read mib (Err e) same is =
    subst (λ (xs : List ℕ). IsRefusedFile xs mib e) same (refused-bytes read mib e is)

-- the same, of a slice of what was read
pub file-firmware : (held : Option (List ℕ)) (bytes read : List ℕ) (mib : ℕ)
    (r : Result Firmware FirmwareFault) → bytes ≡ read
    → IfSome held (λ xs. read ≡ xs) → length read ≤ FIRMWARE_LIMIT
    → IfOk r (λ f. IsFirmwareOf bytes mib f)
    → IfOk r (λ f. IfSome held (λ file. IsFirmwareOf file mib f × (length file ≤ FIRMWARE_LIMIT)))
file-firmware held bytes read mib r same whole fits is =
    held-firmware held read mib r whole fits
    (subst (λ (xs : List ℕ). IfOk r (λ f. IsFirmwareOf xs mib f)) same is)

pub file-refused : (held : Option (List ℕ)) (bytes read : List ℕ) (mib : ℕ)
    (r : Result Firmware FirmwareFault) → bytes ≡ read
    → IfSome held (λ xs. read ≡ xs)
    → IfErr r (λ e. IsRefused bytes mib e)
    → IfErr r (λ e. IfSome held (λ file. IsRefusedFile file mib e))
file-refused held bytes read mib r same whole is =
    held-refused held read mib r whole
    (subst (λ (xs : List ℕ). IfErr r (λ e. IsRefused xs mib e)) same is)

-- ---- the image of a replay

image-held : (held : Option (List ℕ)) (read : List ℕ) (h : Header) (r : Result Loaded ImageFault)
    → IfSome held (λ xs. read ≡ xs) → length read ≤ FIRMWARE_LIMIT → ImageGives h read r
    → IfOk r (λ f. IfSome held (λ file. IsFirmware h file f))
image-held None read h (Ok f) same fits given = tt
image-held (Some file) read h (Ok f) same fits given =
    subst (λ (xs : List ℕ). IsFirmware h xs f) same
    (record { same = given.0; fits = fits; loads = given.1 })
image-held held read h (Err e) same fits given = tt

fault-of : (read : List ℕ) (h : Header) (e : ImageFault) → length read ≤ FIRMWARE_LIMIT
    → ImageGives h read (Err e) → IsImageFault h read e
fault-of read h image.CannotOpen fits given = tt
fault-of read h image.CannotRead fits given = tt
fault-of read h (image.Bad rule) fits given = inl given
fault-of read h image.OtherFirmware fits given = (given, fits)
fault-of read h image.OtherDiskLength fits given = (
  (given.0.firmware, record { same = given.0.same; fits = fits; loads = given.0.loads }),
  given.1,
)
fault-of read h image.OtherDisk fits given = (
  (given.0.firmware, record { same = given.0.same; fits = fits; loads = given.0.loads }),
  given.1,
  given.2,
)
fault-of read h image.NoMemory fits given = tt

fault-held : (held : Option (List ℕ)) (read : List ℕ) (h : Header) (r : Result Loaded ImageFault)
    → IfSome held (λ xs. read ≡ xs) → length read ≤ FIRMWARE_LIMIT → ImageGives h read r
    → IfErr r (λ e. IfSome held (λ file. IsImageFault h file e))
fault-held held read h (Ok f) same fits given = tt
fault-held None read h (Err e) same fits given = tt
fault-held (Some file) read h (Err e) same fits given =
    subst (λ (xs : List ℕ). IsImageFault h xs e) same (fault-of read h e fits given)

pub file-image : (held : Option (List ℕ)) (bytes read : List ℕ) (h : Header)
    (r : Result Loaded ImageFault) → bytes ≡ read
    → IfSome held (λ xs. read ≡ xs) → length read ≤ FIRMWARE_LIMIT → ImageGives h bytes r
    → IfOk r (λ f. IfSome held (λ file. IsFirmware h file f))
file-image held bytes read h r same whole fits given =
    image-held held read h r whole fits (subst (λ (xs : List ℕ). ImageGives h xs r) same given)

pub file-fault : (held : Option (List ℕ)) (bytes read : List ℕ) (h : Header)
    (r : Result Loaded ImageFault) → bytes ≡ read
    → IfSome held (λ xs. read ≡ xs) → length read ≤ FIRMWARE_LIMIT → ImageGives h bytes r
    → IfErr r (λ e. IfSome held (λ file. IsImageFault h file e))
file-fault held bytes read h r same whole fits given =
    fault-held held read h r whole fits (subst (λ (xs : List ℕ). ImageGives h xs r) same given)

-- The files of a session: what is known once they were read, and how their reading fails.
use Rattle.std.proofs.Common.{◌≡◌, ◌≤◌, ◌∷◌, ℕ, List, length, drop, refl, ap, ◌∙◌, subst, arith, length-append}
use Rattle.std.specs.Prelude.{Some, None, IfSome, Ok}
use Rattle.std.specs.declared.option.Option.{Option}
use Rattle.outside.specs.Causes.{Rose}
use Rattle.outside.specs.Ledger.{Ledger}
use Rattle.outside.specs.Roles.{at}
use Rattle.outside.specs.declared.roles.Role.TheVariants.{ConsoleOut, LogIn, Firmware}
use Rattle.elf_load.specs.declared.pieces.Loaded.{Loaded}
use Rattle.event_log.specs.declared.header.Header.{Header}
use Rattle.event_log.specs.HeaderFormat.{HeaderAnswers, header_text}
use Rattle.event_log.proofs.HeaderLaws.{header_length}
use Rattle.reverse_seek.specs.Script.{first_place}
use Rattle.run_files.specs.declared.images.ImageFault.{ImageFault}
use Rattle.run_files.specs.declared.images.ImageFault.TheVariants as image
use Rattle.run_files.specs.Files.{firmware_opening, FailsToOpen, CountsSame}
use Rattle.run_files.specs.Headers.{HasHeader}
use Rattle.run_files.specs.Images.{IsFirmware, IsImageFault, NamesNoDisk}
use Rattle.run_files.specs.Ledgers.{only_opening}
use Rattle.commands.specs.Asking.{image_outcome_of}
use Rattle.commands.specs.Causes.{IfBoth}
use Rattle.debug_command.specs.declared.debugging.TheConstants.{LOG_LIMIT}
use Rattle.debug_command.specs.Debugs.{input_before, output_before}
use Rattle.debug_command.specs.Causes.{DebugCause}
use Rattle.debug_command.proofs.Held.{Begins, FilesRead}

-- ---- the header

-- a header that was read stands at the front of the log
pub has-header : (bytes read : List ℕ) (h : Header) → read ≡ bytes → HeaderAnswers read (Ok h)
    → HasHeader bytes h
has-header bytes read h same a =
    subst (λ (z : List ℕ). HasHeader z h) same (record { is = a.0; stands = a.1 })

pub header-fits : (bytes : List ℕ) (h : Header) → HasHeader bytes h → first_place ≤ length bytes
header-fits bytes h has = omega (
  arith,
  header_length h has.is,
  ap length has.stands,
  length-append (header_text h) (drop 98 bytes),
)

-- ---- the firmware

image-bytes : (h : Header) (log bios : Option (List ℕ)) (bytes : List ℕ) (e : ImageFault)
    → length bytes ≤ LOG_LIMIT → HasHeader bytes h → IfSome log (λ xs. bytes ≡ xs)
    → IfSome bios (λ held. IsImageFault h held e)
    → IfBoth log bios (λ xs held. (length xs ≤ LOG_LIMIT)
    × ((k : Header) × HasHeader xs k × IsImageFault k held e))
image-bytes h None bios bytes e short has whole is = tt
image-bytes h (Some xs) None bytes e short has whole is = tt
image-bytes h (Some xs) (Some held) bytes e short has whole is = (
  subst (λ (z : List ℕ). length z ≤ LOG_LIMIT) whole short,
  (h, subst (λ (z : List ℕ). HasHeader z h) whole has, is),
)

-- the opening failed once the log was read
pub fails-later : (bios : List ℕ) (old mid new : Ledger) → CountsSame LogIn old mid
    → FailsToOpen (firmware_opening bios) mid new → FailsToOpen (firmware_opening bios) old new
fails-later bios old mid new same fails = record {
  counted = subst (λ (n : ℕ). Rose n new.opening_faults) same.opening fails.counted;
  which = fails.which ∙ ap (λ z. firmware_opening bios ∷ z) same.refused;
}

image-of : (log bios : List ℕ) (old mid new : Ledger) (e : ImageFault)
    → IfBoth (old.names log) (old.names bios)
    (λ xs held. (length xs ≤ LOG_LIMIT) × ((k : Header) × HasHeader xs k × IsImageFault k held e))
    → CountsSame LogIn old mid → mid ≡ only_opening LogIn old mid
    → (e ≡ image.CannotOpen → FailsToOpen (firmware_opening bios) mid new)
    → (e ≡ image.CannotRead → Rose (at mid.faults Firmware) (at new.faults Firmware))
    → DebugCause log bios old new (image_outcome_of e)
image-of log bios old mid new image.CannotOpen is same rest unopened unread =
    fails-later bios old mid new same (unopened refl)
image-of log bios old mid new image.CannotRead is same rest unopened unread =
    subst (λ (n : ℕ). Rose n (at new.faults Firmware))
    (ap (λ (l : Ledger). at l.faults Firmware) rest) (unread refl)
image-of log bios old mid new image.OtherFirmware is same rest unopened unread = is
image-of log bios old mid new (image.Bad rule) is same rest unopened unread = is
image-of log bios old mid new image.OtherDiskLength is same rest unopened unread = is
image-of log bios old mid new image.OtherDisk is same rest unopened unread = is
image-of log bios old mid new image.NoMemory is same rest unopened unread = tt

pub image-cause : (log bios bytes : List ℕ) (h : Header) (old mid new : Ledger) (e : ImageFault)
    → length bytes ≤ LOG_LIMIT → HasHeader bytes h → IfSome (old.names log) (λ xs. bytes ≡ xs)
    → IfSome (mid.names bios) (λ held. IsImageFault h held e)
    → CountsSame LogIn old mid → mid ≡ only_opening LogIn old mid
    → (e ≡ image.CannotOpen → FailsToOpen (firmware_opening bios) mid new)
    → (e ≡ image.CannotRead → Rose (at mid.faults Firmware) (at new.faults Firmware))
    → DebugCause log bios old new (image_outcome_of e)
image-cause log bios bytes h old mid new e short has whole is same rest unopened unread =
    let before = subst (λ (o : Option (List ℕ)). IfSome o (λ held. IsImageFault h held e))
    (ap (λ (l : Ledger). l.names bios) rest) is in
    image-of log bios old mid new e
    (image-bytes h (old.names log) (old.names bios) bytes e short has whole before)
    same rest unopened unread

-- ---- both were read

pub files-read : (old mid new : Ledger) → mid ≡ only_opening LogIn old mid
    → new ≡ only_opening Firmware mid new → FilesRead old new
files-read old mid new one two = record {
  input = ap (λ (l : Ledger). input_before l) two ∙ ap (λ (l : Ledger). input_before l) one;
  output = ap (λ (l : Ledger). output_before l) two ∙ ap (λ (l : Ledger). output_before l) one;
  opened = ap (λ (l : Ledger). at l.opened ConsoleOut) two
      ∙ ap (λ (l : Ledger). at l.opened ConsoleOut) one;
}

-- the firmware's file holds what it held before the log was read
pub begun : (log bios bytes : List ℕ) (h : Header) (f : Loaded) (old mid : Ledger)
    → IfSome (old.names log) (λ xs. bytes ≡ xs) → length bytes ≤ LOG_LIMIT → HasHeader bytes h
    → mid ≡ only_opening LogIn old mid → IfSome (mid.names bios) (λ file. IsFirmware h file f)
    → NamesNoDisk h → Begins (old.names log) (old.names bios) bytes h f
begun log bios bytes h f old mid whole short has rest image disk = record {
  whole = whole;
  short = short;
  has = has;
  image = subst (λ (o : Option (List ℕ)). IfSome o (λ file. IsFirmware h file f))
      (ap (λ (l : Ledger). l.names bios) rest) image;
  disk = disk;
}

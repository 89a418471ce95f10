-- How a file of packets is read: each is its length, in four bytes with the highest first, and its
-- bytes.
use Rattle.std.specs.Prelude.{◌≡◌, ℕ, ◌+◌, ◌^◌, ◌≤◌, ◌<◌, ◌⊎◌, Bool, true, false, List, [], ◌++◌, length, take, drop, Result, Ok, Err, Some, None, IfSome}
use Rattle.std.specs.declared.option.Option.{Option}
use Rattle.std.specs.Int.{w32, from_be_bytes}
use Rattle.std.specs.Io.KnownBytes.{Consumes, Keeps, prepend_known}
use Rattle.outside.specs.Causes.{Rose}
use Rattle.io_workers.specs.declared.read_error.ReadError.{ReadError}
use Rattle.io_workers.specs.declared.read_error.ReadError.TheVariants as error

-- an Ethernet frame without its check sequence (IEEE 802.3, 3.1.1), padded or not
pub record IsFrame (packet : List ℕ) : Type 0 where
  pub some : 14 ≤ length packet
  pub few : length packet ≤ 1514

-- these bytes of a file are a packet
pub record Spells (packet bytes : List ℕ) : Type 0 where
  pub frame : IsFrame packet
  pub size : from_be_bytes w32 (take 4 bytes) ≡ length packet
  pub behind : drop 4 bytes ≡ packet

-- nothing is held beyond the end of the packet whose length these bytes begin with
abbrev pub IsBegun : List ℕ → Type 0
IsBegun held = 4 < length held → length held ≤ 4 + from_be_bytes w32 (take 4 held)

-- how far a file was read
pub record Place : Type 0 where
  -- what was read of the packet that comes next
  pub held : List ℕ
  -- how many bytes the packets before it have in the file, and whether the end was answered
  pub count : ℕ
  pub ended : Bool

-- a file and how far it was read
pub record Reading : Type 0 where
  -- the bytes behind the packets that were given, where the source tells them, and how often it failed
  pub left : Option (List ℕ)
  pub faults : ℕ
  pub place : Place

-- nothing was read yet
abbrev pub unread : Place
unread = record { held = []; count = 0; ended = false }

-- a file whose source has those bytes left and that count of faults, read so far
abbrev pub reading : Option (List ℕ) → ℕ → Place → Reading
reading left faults place =
    record { left = prepend_known place.held left; faults = faults; place = place }

-- no packet comes next that stands whole in the file's first 2^40 bytes
abbrev pub NoneComes : Reading → Type 0
NoneComes r = IfSome r.left (λ bytes. (packet spelled rest : List ℕ)
    → Spells packet spelled → bytes ≡ spelled ++ rest
    → r.place.count + length spelled ≤ 2 ^ 40 → ⊥)

-- the next packet was given
pub record Gives (old new : Reading) (packet : List ℕ) : Type 0 where
  pub going : old.place.ended ≡ false
  pub goes_on : new.place.ended ≡ false
  pub spelled : List ℕ
  pub spells : Spells packet spelled
  pub bytes : Consumes old.left new.left spelled
  pub count : new.place.count ≡ old.place.count + length spelled
  pub within : new.place.count ≤ 2 ^ 40
  pub faults : new.faults ≡ old.faults

-- the end was answered before, and all is as before; or no packet comes next
abbrev pub Ends : Reading → Reading → Type 0
Ends old new =
    ((old.place.ended ≡ true) × (new ≡ old))
    ⊎ ((old.place.ended ≡ false) × (new.place.ended ≡ true) × (new.place.count ≡ old.place.count)
    × Keeps old.left new.left × (new.faults ≡ old.faults) × NoneComes new)

-- nothing was given, and none of the bytes behind the packets that were given is lost
pub record Waits (old new : Reading) : Type 0 where
  pub going : old.place.ended ≡ false
  pub goes_on : new.place.ended ≡ false
  pub count : new.place.count ≡ old.place.count
  pub bytes : Keeps old.left new.left

-- the next packet, none exactly where no packet comes, or why there is no answer
abbrev pub Nexts : Reading → Reading → Result (Option (List ℕ)) ReadError → Type 0
Nexts old new (Ok (Some packet)) = Gives old new packet
Nexts old new (Ok None) = Ends old new
Nexts old new (Err error.Failed) = Waits old new × Rose old.faults new.faults
Nexts old new (Err error.NoMemory) = Waits old new × (new.faults ≡ old.faults)

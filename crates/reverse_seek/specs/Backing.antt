-- The image behind a disk, as contracts see it.
use Rattle.std.specs.Prelude.{◌≡◌, ℕ, List}
use Rattle.std.specs.declared.option.Option.{Option}
use Rattle.outside.specs.Causes.{Rose}
use Rattle.reverse_seek.specs.declared.error.OpenTrouble.{OpenTrouble}
use Rattle.reverse_seek.specs.declared.error.OpenTrouble.TheVariants as trouble

-- the bytes, where it tells them, how many it has, and how often it failed
pub record Backing : Type 0 where
  pub content : Option (List ℕ)
  pub size : ℕ
  pub faults : ℕ

abbrev pub backing : Option (List ℕ) → ℕ → ℕ → Backing
backing content size faults = record { content = content; size = size; faults = faults }

-- it failed: its count rose, and all else is as before
pub record Fails (old new : Backing) : Type 0 where
  pub rose : Rose old.faults new.faults
  pub rest : new ≡ record old { faults = new.faults }

-- the image of an opening that came to nothing, which failed or is as it was
abbrev pub GivesBack : {I : Type 0} → (I → Backing) → Backing → OpenTrouble I → Type 0
GivesBack seen old (trouble.ImageFailed image) = Fails old (seen image)
GivesBack seen old (trouble.NoMemory image) = seen image ≡ old

-- What stays of a ledger where a device isn't opened.
use Rattle.std.proofs.Common.{◌≡◌, ap, refl}
use Rattle.outside.specs.declared.openings.Opening.{Opening}
use Rattle.outside.specs.declared.world.OpenError.{OpenError}
use Rattle.outside.specs.declared.world.OpenError.TheVariants.{Failed, NoMemory}
use Rattle.outside.specs.Ledger.{Ledger, opening_fails}

-- a device without a name isn't opened for want of memory alone, so nothing happened
pub unopened : (old new : Ledger) (e : OpenError) → (e ≡ Failed → ⊥)
    → (e ≡ NoMemory → new ≡ old) → new ≡ old
unopened old new Failed failed memory = absurd (failed refl)
unopened old new NoMemory failed memory = memory refl

-- nothing was opened
pub refused : (old new : Ledger) (e : OpenError) (o : Opening)
    → (e ≡ Failed → new ≡ opening_fails old o) → (e ≡ NoMemory → new ≡ old)
    → new.openings ≡ old.openings
refused old new Failed o failed memory = ap (λ (l : Ledger). l.openings) (failed refl)
refused old new NoMemory o failed memory = ap (λ (l : Ledger). l.openings) (memory refl)

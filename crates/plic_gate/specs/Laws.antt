-- What a claim and the external interrupt are, by all sources at once, and runs of steps.
use Rattle.std.specs.Prelude.{ℕ, Bool, true, ◌≡◌, ◌≢◌, ◌<◌, ◌≤◌, ◌⊎◌, List, [], ◌∷◌, ⊤}
use Rattle.plic_gate.specs.Bits.{has}
use Rattle.plic_gate.specs.Gateway.{Gates, priority, with_level}
use Rattle.plic_gate.specs.Claim.{claimed}
use Rattle.plic_gate.specs.Map.{written}

-- a source with this number is pending and enabled, and has a priority
pub record Asks (g : Gates) (s : ℕ) : Type 0 where
  pub source : (1 ≤ s) × (s ≤ 31)
  pub pending : has g.pending s ≡ true
  pub enabled : has g.enabled s ≡ true
  pub priority : 0 < priority g s

-- one source goes before another: by its priority, and at a tie by its number
abbrev pub Before : Gates → ℕ → ℕ → Type 0
Before g one other =
    (priority g other < priority g one)
    ⊎ ((priority g other ≡ priority g one) × (one ≤ other))

-- the source asks and goes before all that ask, or it is 0 and none asks
abbrev pub IsBest : Gates → ℕ → Type 0
IsBest g best =
    ((best ≡ 0) × ((s : ℕ) → Asks g s → ⊥))
    ⊎ (Asks g best × ((s : ℕ) → Asks g s → Before g best s))

-- some pending, enabled source has a priority above the threshold
abbrev pub Above : Gates → Type 0
Above g = (s : ℕ) × Asks g s × (g.threshold < priority g s)

-- what happens to the controller
pub data Step : Type 0 where
  level : ℕ → Bool → Step
  claims : Step
  writes : ℕ → ℕ → Step

-- the gates after a step
abbrev pub step : Gates → Step → Gates
step g (level s high) = with_level g s high
step g claims = claimed g
step g (writes off value) = written g off value

-- the gates after steps
abbrev pub after : Gates → List Step → Gates
after g [] = g
after g (one ∷ more) = after (step g one) more

-- the step doesn't complete the source
abbrev pub NotCompleting : ℕ → Step → Type 0
NotCompleting s (writes off value) = off ≡ 0x200004 → value ≢ s
NotCompleting s other = ⊤

-- none of the steps completes the source
abbrev pub NoneCompletes : ℕ → List Step → Type 0
NoneCompletes s [] = ⊤
NoneCompletes s (one ∷ more) = NotCompleting s one × NoneCompletes s more

-- The value of a role after another was put there.
use Rattle.std.proofs.Common.{◌≡◌, refl}
use Rattle.outside.specs.declared.roles.Role.{Role}
use Rattle.outside.specs.declared.roles.Role.TheVariants.{ConsoleIn, ConsoleOut, LogIn, LogOut, NetIn, NetOut, Firmware, Messages}
use Rattle.outside.specs.declared.roles.PerRole.{PerRole}
use Rattle.outside.specs.Roles.{at, put}

pub at-put : {T : Type 0} (p : PerRole T) (role : Role) (v : T) → at (put p role v) role ≡ v
at-put p ConsoleIn v = refl
at-put p ConsoleOut v = refl
at-put p LogIn v = refl
at-put p LogOut v = refl
at-put p NetIn v = refl
at-put p NetOut v = refl
at-put p Firmware v = refl
at-put p Messages v = refl

pub put-at : {T : Type 0} (p : PerRole T) (role : Role) → put p role (at p role) ≡ p
put-at p ConsoleIn = refl
put-at p ConsoleOut = refl
put-at p LogIn = refl
put-at p LogOut = refl
put-at p NetIn = refl
put-at p NetOut = refl
put-at p Firmware = refl
put-at p Messages = refl

pub ruleset roles = (at-put, put-at)

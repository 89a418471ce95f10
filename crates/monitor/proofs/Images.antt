-- What becomes of the image.
use Rattle.std.proofs.Common.{◌≡◌, ◌≢◌, ℕ, refl, sym, ap, ◌∙◌, subst}
use Rattle.std.specs.Prelude.{Result, Ok, Err}
use Rattle.reverse_seek.specs.declared.error.SeekError.{SeekError}
use Rattle.reverse_seek.specs.declared.error.SeekError.TheVariants as error
use Rattle.reverse_seek.specs.Backing.{Backing, Fails}
use Rattle.reverse_seek.specs.Timeline.{Timeline, Seeks, GoesBack, GoesOn}
use Rattle.monitor.specs.declared.answers.Unanswered.{Unanswered}
use Rattle.monitor.specs.declared.answers.Unanswered.TheVariants as unanswered
use Rattle.monitor.specs.declared.desk.Halt.{Halt}
use Rattle.monitor.specs.declared.desk.Halt.TheVariants as halt
use Rattle.monitor.specs.Moves.{Blames, AnswerLeaves}
use Rattle.monitor.specs.Serving.{TextLeaves, SessionLeaves, halted_as, closed_as}

-- ---- moves

stays : {X : Type 0} (r : Result X Unanswered) (t t' : Timeline) → r ≢ Err unanswered.ImageFault → t'.image ≡ t.image
    → AnswerLeaves r t.image t'.image
stays (Ok x) t t' other same = same
stays (Err unanswered.ImageFault) t t' other same = absurd (other refl)
stays (Err unanswered.NoMemory) t t' other same = same

failed : {X : Type 0} (r : Result X Unanswered) (t t' : Timeline) → r ≡ Err unanswered.ImageFault → Fails t.image t'.image
    → AnswerLeaves r t.image t'.image
failed r t t' is fails = subst (λ z. AnswerLeaves z t.image t'.image) (sym is) fails

image-of : (t u : Timeline) → t ≡ u → t.image ≡ u.image
image-of t u same = ap (λ (z : Timeline). z.image) same

pub seek-leaves : {X : Type 0} (n : ℕ) (t t' : Timeline) (m : Result Unit SeekError) (r : Result X Unanswered) → Seeks n t m t' → Blames m r
    → AnswerLeaves r t.image t'.image
seek-leaves n t t' (Ok d) r s b = stays r t t' b (image-of t' _ s.1)
seek-leaves n t t' (Err (error.PastEnd asked last)) r s b = stays r t t' b (image-of t' t s.3)
seek-leaves n t t' (Err error.AtStart) r s b = absurd s
seek-leaves n t t' (Err error.AtEnd) r s b = absurd s
seek-leaves n t t' (Err error.ImageFailed) r s b = failed r t t' b s.1.0
seek-leaves n t t' (Err error.NoMemory) r s b = stays r t t' b (image-of t' t s.1)

pub back-leaves : {X : Type 0} (n : ℕ) (t t' : Timeline) (m : Result Unit SeekError) (r : Result X Unanswered) → GoesBack n t m t' → Blames m r
    → AnswerLeaves r t.image t'.image
back-leaves n t t' (Ok d) r s b = stays r t t' b (image-of t' _ s.1)
back-leaves n t t' (Err (error.PastEnd asked last)) r s b = absurd s
back-leaves n t t' (Err error.AtStart) r s b = stays r t t' b (image-of t' t s.1)
back-leaves n t t' (Err error.AtEnd) r s b = absurd s
back-leaves n t t' (Err error.ImageFailed) r s b = failed r t t' b s.1.0
back-leaves n t t' (Err error.NoMemory) r s b = stays r t t' b (image-of t' t s.1)

pub on-leaves : {X : Type 0} (n : ℕ) (t t' : Timeline) (m : Result Unit SeekError) (r : Result X Unanswered) → GoesOn n t m t' → Blames m r
    → AnswerLeaves r t.image t'.image
on-leaves n t t' (Ok d) r s b = stays r t t' b (image-of t' _ s.1)
on-leaves n t t' (Err (error.PastEnd asked last)) r s b = absurd s
on-leaves n t t' (Err error.AtStart) r s b = absurd s
on-leaves n t t' (Err error.AtEnd) r s b = stays r t t' b (image-of t' t s.1)
on-leaves n t t' (Err error.ImageFailed) r s b = failed r t t' b s.1.0
on-leaves n t t' (Err error.NoMemory) r s b = stays r t t' b (image-of t' t s.1)

pub ruleset leaving = (seek-leaves, back-leaves, on-leaves)

-- ---- texts and sessions

-- an image that was as it was before the last text
pub text-leaves : (r : Result Unit Halt) (a b c : Backing) → b ≡ a → TextLeaves r b c → TextLeaves r a c
text-leaves r a b c same leaves = subst (λ z. TextLeaves r z c) same leaves

pub halted-leaves : (h : Halt) (a b c : Backing) → b ≡ a → TextLeaves (Err h) b c → SessionLeaves (halted_as h) a c
halted-leaves halt.WriteFault a b c same leaves = leaves ∙ same
halted-leaves halt.ImageFault a b c same leaves = subst (λ z. Fails z c) same leaves
halted-leaves halt.NoMemory a b c same leaves = leaves ∙ same

pub closed-leaves : (r : Result Unit Halt) (a b c : Backing) → b ≡ a → TextLeaves r b c → SessionLeaves (closed_as r) a c
closed-leaves (Ok d) a b c same leaves = leaves ∙ same
closed-leaves (Err h) a b c same leaves = halted-leaves h a b c same leaves

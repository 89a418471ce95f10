-- Transcripts of more bytes.
use Rattle.std.proofs.Common.{◌≡◌, ℕ, true, ap, ◌∙◌, List, [], ◌++◌, append_assoc, append-nil}
use Rattle.reverse_seek.specs.Script.{Script}
use Rattle.monitor.specs.Session.{fed, fresh, at_end, answered, quits, transcript}
use Rattle.monitor.proofs.Fed.{fed-append, fed-quit}

pub after-quit : (s : Script) (read more : List ℕ) → quits s read ≡ true → transcript s (read ++ more) ≡ transcript s read
after-quit s read more on =
    let q = fed s fresh read in
    let none : fed s q.1 more ≡ ([], q.1) = fed-quit s q.1 more on in
    let both : fed s fresh (read ++ more) ≡ (q.0 ++ [], q.1) =
    fed-append s read more fresh ∙ ap (λ z. (q.0 ++ z.0, z.1)) none in
    ap (λ z. z.0 ++ at_end s z.1) both ∙ ap (λ z. z ++ at_end s q.1) (append-nil q.0)

pub answered-front : (s : Script) (read more : List ℕ) → (rest : List ℕ) × (transcript s (read ++ more) ≡ answered s read ++ rest)
answered-front s read more =
    let q = fed s fresh read in
    let r = fed s q.1 more in (
      r.0 ++ at_end s r.1,
      ap (λ z. z.0 ++ at_end s z.1) (fed-append s read more fresh) ∙ append_assoc q.0 r.0 (at_end s r.1),
    )

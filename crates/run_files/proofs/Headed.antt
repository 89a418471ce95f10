-- The header at the front of a log, and what follows it.
use Rattle.std.proofs.Common.{◌≡◌, ℕ, List, ◌++◌, drop, sym, ap, ◌∙◌}
use Rattle.std.proofs.Math.Seq.{drop-append_seam}
use Rattle.std.specs.Prelude.{Some, None, IfSome, Result, Ok}
use Rattle.std.specs.declared.option.Option.{Option}
use Rattle.std.specs.Io.KnownBytes.{Consumes}
use Rattle.event_log.specs.declared.header.Header.{Header}
use Rattle.event_log.specs.declared.parse.ParseError.{ParseError}
use Rattle.event_log.specs.HeaderFormat.{IsHeader, header_text}
use Rattle.event_log.proofs.HeaderLaws.{header_length, one_headers}
use Rattle.run_files.specs.Headers.{HasHeader}

-- what follows the header
pub behind-text : (h : Header) (log rest : List ℕ) → IsHeader h → log ≡ header_text h ++ rest
    → drop 98 log ≡ rest
behind-text h log rest is parts =
    ap (drop 98) parts
    ∙ ap (λ (n : ℕ). drop n (header_text h ++ rest)) (sym (header_length h is))
    ∙ drop-append_seam (header_text h) rest

-- a header that a log begins with
pub begins : (h : Header) (log rest : List ℕ) → IsHeader h → log ≡ header_text h ++ rest
    → HasHeader log h
begins h log rest is parts = record {
  is = is;
  stands = parts ∙ ap (λ (z : List ℕ). header_text h ++ z) (sym (behind-text h log rest is parts));
}

-- a header that was read stands at the front of the log, and the rest is ahead
pub headed : (o rest : Option (List ℕ)) (h : Header) → IsHeader h → Consumes o rest (header_text h)
    → IfSome o (λ log. HasHeader log h × (rest ≡ Some (drop 98 log)))
headed None rest h is c = tt
headed (Some log) None h is c = absurd c
headed (Some log) (Some rest) h is c =
    (begins h log rest is c, ap Some (sym (behind-text h log rest is c)))

abbrev header_is : Header → Result Header ParseError
header_is h = Ok h

same-header : (h k : Header) → header_is h ≡ header_is k → h ≡ k
same-header h k e = cc

-- a log has one header
pub one-header : (log : List ℕ) (h k : Header) → HasHeader log h → HasHeader log k → h ≡ k
one-header log h k a b =
    same-header h k (one_headers log (Ok h) (Ok k) (a.is, a.stands) (b.is, b.stands))

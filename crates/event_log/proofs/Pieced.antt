-- What a reader answers rests on the bytes ahead alone.
use Rattle.std.proofs.Common.{◌≡◌, ℕ, ◌+◌, ◌-◌, ◌^◌, ◌≤◌, List, ◌++◌, length, take, drop, None, Some, sym, ap, ◌∙◌, subst, take-append-drop}
use Rattle.std.specs.Prelude.{Result, Ok, Err, IfSome}
use Rattle.std.specs.declared.option.Option.{Option}
use Rattle.std.specs.Io.KnownBytes.{Consumes}
use Rattle.event_log.specs.declared.event.Event.{Event}
use Rattle.event_log.specs.declared.parse.ParseError.TheVariants as parse
use Rattle.event_log.specs.declared.rule.Rule.{Rule}
use Rattle.event_log.specs.declared.stream_error.StreamError.{StreamError}
use Rattle.event_log.specs.declared.stream_error.StreamError.TheVariants as stream
use Rattle.event_log.specs.Grammar.{Fault, Cut, Bad, read, Stops}
use Rattle.event_log.specs.Spelling.{event, text, IsEvent}
use Rattle.event_log.specs.Reading.{Reader, ahead, to_limit, Nexts, IsAnswer}
use Rattle.event_log.proofs.Exact.{meets_read}
use Rattle.event_log.proofs.Widths.{bad_longer}
use Rattle.event_log.proofs.FrontLemmas.{ok_is, spelled}

-- what reading the bytes gives, and the place, tell the answer
abbrev Told : Result (Event × List ℕ) (Fault Rule) → ℕ → Result (Event × ℕ) StreamError → Type 0
Told found place (Ok answer) = (answer.1 ≡ place) × ((after : List ℕ) × (found ≡ Ok (answer.0, after)))
Told found place (Err (stream.Parse (parse.Bad offset rule))) = (offset ≡ place) × (found ≡ Err (Bad rule))
Told found place (Err (stream.Parse (parse.Cut offset))) = (offset ≡ place) × (found ≡ Err Cut)
Told found place (Err (stream.Parse parse.NoMemory)) = ⊥
Told found place (Err stream.Failed) = ⊥
Told found place (Err stream.TooLong) = ⊥
Told found place (Err stream.NoMemory) = ⊥

rest_after : (bytes front : List ℕ) (new : Option (List ℕ)) → Consumes (Some bytes) new front → (after : List ℕ) × (bytes ≡ front ++ after)
rest_after bytes front None c = absurd c
rest_after bytes front (Some after) c = (after, c)

-- a fault before the limit is one of all bytes
bad_whole : (place : ℕ) (bytes : List ℕ) (rule : Rule) → Stops event (to_limit place bytes) (Bad rule) → Stops event bytes (Bad rule)
bad_whole place bytes rule s =
    let count : ℕ = 2 ^ 40 - place in
    subst (λ z. Stops event z (Bad rule)) (take-append-drop count bytes)
    (bad_longer event (take count bytes) (drop count bytes) rule s)

told : (old new : Reader) (bytes : List ℕ) (r : Result (Event × ℕ) StreamError) → ahead old ≡ Some bytes → Nexts old new r → IsAnswer r → Told (read event bytes) old.unread.place r
told old new bytes (Ok found) known (runs, place, is, passes) some =
    let (after, parts) = rest_after bytes (text found.0) (ahead new) (subst (λ a. Consumes a (ahead new) (text found.0)) known passes.bytes) in
    (place, (after, spelled bytes after found.0 is parts))
told old new bytes (Err (stream.Parse (parse.Bad offset rule))) known (runs, stays, place, stops) some = (
  place,
  meets_read event bytes (Err (Bad rule)) (bad_whole old.unread.place bytes rule
      (subst (λ a. IfSome a (λ z. Stops event (to_limit old.unread.place z) (Bad rule))) known stops)),
)
told old new bytes (Err (stream.Parse (parse.Cut offset))) known (runs, stays, place, stops) some = (
  place,
  meets_read event bytes (Err Cut)
      (subst (λ a. IfSome a (λ z. (old.unread.place + length z ≤ 2 ^ 40) × Stops event z Cut)) known stops).1,
)
told old new bytes (Err (stream.Parse parse.NoMemory)) known never some = never
told old new bytes (Err stream.Failed) known n some = some
told old new bytes (Err stream.TooLong) known n some = some
told old new bytes (Err stream.NoMemory) known n some = some

same : (found : Result (Event × List ℕ) (Fault Rule)) (place : ℕ) (one other : Result (Event × ℕ) StreamError) → Told found place one → Told found place other → one ≡ other
same found place (Ok a) (Ok b) (at, (x, p)) (at', (y, q)) =
    let e : a.0 ≡ b.0 = ap (λ z. z.0) (ok_is (a.0, x) (b.0, y) (sym p ∙ q)) in
    ap Ok (ap (λ z. (z, a.1)) e ∙ ap (λ z. (b.0, z)) (at ∙ sym at'))
same found place (Ok a) (Err (stream.Parse (parse.Bad o r))) (at, (x, p)) (at', q) = cc
same found place (Ok a) (Err (stream.Parse (parse.Cut o))) (at, (x, p)) (at', q) = cc
same found place (Err (stream.Parse (parse.Bad o r))) (Ok b) (at, p) (at', (y, q)) = cc
same found place (Err (stream.Parse (parse.Bad o r))) (Err (stream.Parse (parse.Bad o' r'))) (at, p) (at', q) = cc
same found place (Err (stream.Parse (parse.Bad o r))) (Err (stream.Parse (parse.Cut o'))) (at, p) (at', q) = cc
same found place (Err (stream.Parse (parse.Cut o))) (Ok b) (at, p) (at', (y, q)) = cc
same found place (Err (stream.Parse (parse.Cut o))) (Err (stream.Parse (parse.Bad o' r'))) (at, p) (at', q) = cc
same found place (Err (stream.Parse (parse.Cut o))) (Err (stream.Parse (parse.Cut o'))) (at, p) (at', q) = cc
same found place (Err (stream.Parse parse.NoMemory)) other never q = absurd never
same found place (Err stream.Failed) other never q = absurd never
same found place (Err stream.TooLong) other never q = absurd never
same found place (Err stream.NoMemory) other never q = absurd never
same found place one (Err (stream.Parse parse.NoMemory)) p never = absurd never
same found place one (Err stream.Failed) p never = absurd never
same found place one (Err stream.TooLong) p never = absurd never
same found place one (Err stream.NoMemory) p never = absurd never

pub same_answers : (old new older newer : Reader) (bytes : List ℕ) (one other : Result (Event × ℕ) StreamError)
    → ahead old ≡ Some bytes → ahead older ≡ Some bytes → old.unread.place ≡ older.unread.place
    → Nexts old new one → Nexts older newer other → IsAnswer one → IsAnswer other → one ≡ other
same_answers old new older newer bytes one other known known' place n n' some some' =
    same (read event bytes) old.unread.place one other (told old new bytes one known n some)
    (subst (λ at. Told (read event bytes) at other) (sym place) (told older newer bytes other known' n' some'))

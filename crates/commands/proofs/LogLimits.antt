-- What of a log is read.
use Rattle.std.proofs.Common.{◌≡◌, ℕ, ◌+◌, ◌-◌, ◌^◌, ◌≤◌, List, ◌++◌, length, take, drop, ap, ◌∙◌, arith, length-append}
use Rattle.std.proofs.lemmas.List.{take_all, drop-take}
use Rattle.event_log.specs.declared.header.Header.{Header}
use Rattle.event_log.specs.HeaderFormat.{header_text}
use Rattle.event_log.specs.Reading.{to_limit}
use Rattle.event_log.proofs.HeaderLaws.{header_length}
use Rattle.rr_engine.proofs.Limits.{front-within}
use Rattle.run_files.specs.Headers.{HasHeader}
use Rattle.commands.specs.Replays.{read_of}

pub log-length : (log : List ℕ) (h : Header) → HasHeader log h → length log ≡ 98 + length (drop 98 log)
log-length log h has = omega (
  arith,
  header_length h has.is,
  ap length has.stands,
  length-append (header_text h) (drop 98 log),
)

-- a log that isn't longer is read whole
pub all-read : (log : List ℕ) → length log ≤ 2 ^ 40 → read_of log ≡ log
all-read log short = take_all (2 ^ 40) log short

read-behind : (log : List ℕ) → drop 98 (read_of log) ≡ take (2 ^ 40 - 98) (drop 98 log)
read-behind log =
    let all : 2 ^ 40 ≡ 98 + (2 ^ 40 - 98) = omega arith in
    ap (λ n. drop 98 (take n log)) all ∙ drop-take 98 (2 ^ 40 - 98) log

-- what is read of a log, where a part behind its header ends before the limit
pub read-parts : (log xs rest : List ℕ) → drop 98 log ≡ xs ++ rest → 98 + length xs ≤ 2 ^ 40
    → drop 98 (read_of log) ≡ xs ++ to_limit (98 + length xs) rest
read-parts log xs rest parts fits =
    let room : 2 ^ 40 - 98 - length xs ≡ 2 ^ 40 - (98 + length xs) = omega arith in
    read-behind log ∙ (ap (λ z. take (2 ^ 40 - 98) z) parts
    ∙ (front-within 98 xs rest fits ∙ ap (λ n. xs ++ take n rest) room))

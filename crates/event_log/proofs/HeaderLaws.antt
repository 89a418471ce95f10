-- What the format of the header spells is its text, and no other bytes.
use Rattle.std.proofs.Common.{◌≡◌, ℕ, ◌<◌, ◌≤◌, ◌^◌, true, List, [], ◌∷◌, ◌++◌, length, drop, refl, sym, ap, ◌∙◌, subst, arith, append_assoc, length-append}
use Rattle.std.specs.Prelude.{nat_le, ◌&&◌, ◌==◌, Result, Ok, Err}
use Rattle.std.specs.Int.{w32, w64, to_be_bytes}
use Rattle.std.proofs.lemmas.List.{drop_at}
use Rattle.std.proofs.lemmas.Bool.{le-leb, leb-true, eqb-true, and_from, and_parts}
use Rattle.event_log.specs.declared.header.Header.{Header}
use Rattle.event_log.specs.declared.parse.ParseError.{ParseError}
use Rattle.event_log.specs.declared.rule.Rule.{Rule}
use Rattle.event_log.specs.declared.rule.Rule.TheVariants.{BadField}
use Rattle.event_log.specs.declared.parse.ParseError.TheVariants as parse
use Rattle.event_log.specs.Grammar.{Format, done, Spells, Fault, Bad, read}
use Rattle.event_log.specs.Fields.{u8, u32, u64, plain}
use Rattle.event_log.specs.HeaderFormat.{header, settings, header_text, IsHeader, HeaderAnswers}
use Rattle.event_log.proofs.Exact.{meets_read}
use Rattle.event_log.proofs.Numbers.{IsBytes, bytes_back, u8_there, u32_there, u64_there, u8_read, u32_read, u64_read}

-- ---- what follows each field

abbrev at_disk : (shift ram_mib slice budget : ℕ) → List ℕ → ℕ → Format (ℕ × Rule) Header
at_disk a b c d firmware disk_len = plain 32 (66, BadField) (λ disk. done (record {
  shift = a;
  ram_mib = b;
  slice = c;
  budget = d;
  firmware = firmware;
  disk_len = disk_len;
  disk = disk;
}))

abbrev at_disk_len : (shift ram_mib slice budget : ℕ) → List ℕ → Format (ℕ × Rule) Header
at_disk_len a b c d firmware = u64 (λ n. true) (58, BadField) (at_disk a b c d firmware)

abbrev at_firmware : (shift ram_mib slice budget : ℕ) → Format (ℕ × Rule) Header
at_firmware a b c d = plain 32 (26, BadField) (at_disk_len a b c d)

abbrev at_budget : (shift ram_mib slice : ℕ) → Format (ℕ × Rule) Header
at_budget a b c = u64 (λ n. nat_le 1 n && nat_le n (2 ^ 40)) (18, BadField) (at_firmware a b c)

abbrev at_slice : (shift ram_mib : ℕ) → Format (ℕ × Rule) Header
at_slice a b = u32 (λ n. nat_le 1 n && nat_le n 65536) (14, BadField) (at_budget a b)

abbrev at_ram : (shift : ℕ) → Format (ℕ × Rule) Header
at_ram a = u8 (λ n. nat_le 1 n && nat_le n 64) (13, BadField) (at_slice a)

abbrev at_shift : ℕ → Format (ℕ × Rule) Header
at_shift reserved = u8 (λ n. nat_le n 10) (12, BadField) at_ram

abbrev at_reserved : ℕ → Format (ℕ × Rule) Header
at_reserved version = u64 (λ n. n == 0) (4, BadField) at_shift

-- ---- the text of a header is spelled by the format

between : (low high n : ℕ) → (low ≤ n) × (n ≤ high) → nat_le low n && nat_le n high ≡ true
between low high n h = and_from _ _ (le-leb low n h.0) (le-leb n high h.1)

pub header_spells : (h : Header) (rest : List ℕ) → IsHeader h → Spells header (header_text h ++ rest) h rest
unfolding header settings header_text
header_spells h rest is =
    let disk_text : List ℕ = h.disk ++ rest in
    let len_text : List ℕ = to_be_bytes w64 h.disk_len ++ disk_text in
    let firmware_text : List ℕ = h.firmware ++ len_text in
    let budget_text : List ℕ = to_be_bytes w64 h.budget ++ firmware_text in
    let slice_text : List ℕ = to_be_bytes w32 h.slice ++ budget_text in
    let ram_text : List ℕ = h.ram_mib ∷ slice_text in
    let shift_text : List ℕ = h.shift ∷ ram_text in
    let reserved_text : List ℕ = to_be_bytes w64 0 ++ shift_text in
    let whole : header_text h ++ rest ≡ to_be_bytes w32 0x52525631 ++ reserved_text =
    ap (λ z. to_be_bytes w32 0x52525631 ++ to_be_bytes w64 0 ++ h.shift ∷ h.ram_mib ∷ to_be_bytes w32 h.slice ++ to_be_bytes w64 h.budget ++ z)
    (append_assoc h.firmware (to_be_bytes w64 h.disk_len ++ h.disk) rest ∙ ap (λ z. h.firmware ++ z) (append_assoc (to_be_bytes w64 h.disk_len) h.disk rest)) in
    let disk : Spells (at_disk h.shift h.ram_mib h.slice h.budget h.firmware h.disk_len) disk_text h rest = (h.disk, rest, is.disk, refl, refl, (refl, refl)) in
    let disk_len : Spells (at_disk_len h.shift h.ram_mib h.slice h.budget h.firmware) len_text h rest =
    u64_there (λ n. true) (58, BadField) (at_disk h.shift h.ram_mib h.slice h.budget h.firmware) disk_text h rest h.disk_len is.disk_len refl disk in
    let firmware : Spells (at_firmware h.shift h.ram_mib h.slice h.budget) firmware_text h rest = (h.firmware, len_text, is.firmware, refl, refl, disk_len) in
    let budget : Spells (at_budget h.shift h.ram_mib h.slice) budget_text h rest =
    u64_there (λ n. nat_le 1 n && nat_le n (2 ^ 40)) (18, BadField) (at_firmware h.shift h.ram_mib h.slice) firmware_text h rest h.budget
    (omega (arith, is.budget.1)) (between 1 (2 ^ 40) h.budget is.budget) firmware in
    let slice : Spells (at_slice h.shift h.ram_mib) slice_text h rest =
    u32_there (λ n. nat_le 1 n && nat_le n 65536) (14, BadField) (at_budget h.shift h.ram_mib) budget_text h rest h.slice
    (omega (arith, is.slice.1)) (between 1 65536 h.slice is.slice) budget in
    let ram : Spells (at_ram h.shift) ram_text h rest =
    u8_there (λ n. nat_le 1 n && nat_le n 64) (13, BadField) (at_slice h.shift) slice_text h rest h.ram_mib (between 1 64 h.ram_mib is.ram_mib) slice in
    let shift : Spells (at_shift 0) shift_text h rest = u8_there (λ n. nat_le n 10) (12, BadField) at_ram ram_text h rest h.shift (le-leb h.shift 10 is.shift) ram in
    let reserved : Spells (at_reserved 0x52525631) reserved_text h rest = u64_there (λ n. n == 0) (4, BadField) at_shift shift_text h rest 0 (omega arith) refl shift in
    rw whole (u32_there (λ n. n == 0x52525631) (0, BadField) at_reserved reserved_text h rest 0x52525631 (omega arith) refl reserved)

-- ---- what the format spells is the text

within : (low high n : ℕ) → nat_le low n && nat_le n high ≡ true → (low ≤ n) × (n ≤ high)
within low high n good = let both = and_parts (nat_le low n) (nat_le n high) good in (leb-true _ _ both.0, leb-true _ _ both.1)

record Texts (head bytes : List ℕ) (h : Header) (rest : List ℕ) : Type 0 where
  pub is : IsHeader h
  pub parts : head ++ bytes ≡ header_text h ++ rest

-- a field more of the text
step : (head front more bytes : List ℕ) (h : Header) (rest : List ℕ) → bytes ≡ front ++ more → Texts (head ++ front) more h rest → Texts head bytes h rest
step head front more bytes h rest split t =
    record { is = t.is; parts = ap (λ z. head ++ z) split ∙ sym (append_assoc head front more) ∙ t.parts }

join : (f l k rest : List ℕ) → (f ++ l) ++ (k ++ rest) ≡ (f ++ (l ++ k)) ++ rest
join f l k rest = append_assoc f l (k ++ rest) ∙ ap (λ z. f ++ z) (sym (append_assoc l k rest)) ∙ sym (append_assoc f (l ++ k) rest)

abbrev begins : List ℕ
begins = to_be_bytes w32 0x52525631 ++ to_be_bytes w64 0

abbrev numbers : (shift ram_mib slice budget : ℕ) → List ℕ
numbers a b c d = begins ++ a ∷ [] ++ b ∷ [] ++ to_be_bytes w32 c ++ to_be_bytes w64 d

-- the fields in front are in their ranges
abbrev AreFields : (shift ram_mib slice budget : ℕ) → Type 0
AreFields a b c d = (a ≤ 10) × ((1 ≤ b) × (b ≤ 64)) × ((1 ≤ c) × (c ≤ 65536)) × ((1 ≤ d) × (d ≤ 2 ^ 40))

disk_part : (a b c d : ℕ) (f : List ℕ) (l : ℕ) (bytes : List ℕ) (h : Header) (rest : List ℕ)
    → AreFields a b c d → length f ≡ 32 → l < 2 ^ 64 → Spells (at_disk a b c d f l) bytes h rest → Texts (numbers a b c d ++ f ++ to_be_bytes w64 l) bytes h rest
unfolding header_text
disk_part a b c d f l bytes h rest (ok_a, ok_b, ok_c, ok_d) f_size l_fits (k, more, k_size, split, any, is) =
    subst (λ x. Texts (numbers a b c d ++ f ++ to_be_bytes w64 l) bytes x rest) (sym is.0) (record {
      is = record {
        shift = ok_a;
        ram_mib = ok_b;
        slice = ok_c;
        budget = ok_d;
        firmware = f_size;
        disk_len = l_fits;
        disk = k_size;
      };
      parts = rw split (rw is.1 (ap (λ z. numbers a b c d ++ z) (join f (to_be_bytes w64 l) k rest)));
    })

len_part : (a b c d : ℕ) (f bytes : List ℕ) (h : Header) (rest : List ℕ)
    → AreFields a b c d → length f ≡ 32 → IsBytes bytes → Spells (at_disk_len a b c d f) bytes h rest → Texts (numbers a b c d ++ f) bytes h rest
len_part a b c d f bytes h rest ok f_size are s =
    let p = u64_read (λ n. true) (58, BadField) (at_disk a b c d f) bytes h rest are s in
    step (numbers a b c d ++ f) (to_be_bytes w64 p.n) p.more bytes h rest p.split (disk_part a b c d f p.n p.more h rest ok f_size p.fits p.spells)

firmware_part : (a b c d : ℕ) (bytes : List ℕ) (h : Header) (rest : List ℕ)
    → AreFields a b c d → IsBytes bytes → Spells (at_firmware a b c d) bytes h rest → Texts (numbers a b c d) bytes h rest
firmware_part a b c d bytes h rest ok are (f, more, size, split, any, s) =
    step (numbers a b c d) f more bytes h rest split (len_part a b c d f more h rest ok size (bytes_back f more bytes split are) s)

budget_part : (a b c : ℕ) (bytes : List ℕ) (h : Header) (rest : List ℕ) → a ≤ 10 → (1 ≤ b) × (b ≤ 64) → (1 ≤ c) × (c ≤ 65536)
    → IsBytes bytes → Spells (at_budget a b c) bytes h rest → Texts (begins ++ a ∷ [] ++ b ∷ [] ++ to_be_bytes w32 c) bytes h rest
budget_part a b c bytes h rest ok_a ok_b ok_c are s =
    let p = u64_read (λ n. nat_le 1 n && nat_le n (2 ^ 40)) (18, BadField) (at_firmware a b c) bytes h rest are s in
    step (begins ++ a ∷ [] ++ b ∷ [] ++ to_be_bytes w32 c) (to_be_bytes w64 p.n) p.more bytes h rest p.split
    (firmware_part a b c p.n p.more h rest (ok_a, ok_b, ok_c, within 1 (2 ^ 40) p.n p.good) p.bytes_too p.spells)

slice_part : (a b : ℕ) (bytes : List ℕ) (h : Header) (rest : List ℕ) → a ≤ 10 → (1 ≤ b) × (b ≤ 64)
    → IsBytes bytes → Spells (at_slice a b) bytes h rest → Texts (begins ++ a ∷ [] ++ b ∷ []) bytes h rest
slice_part a b bytes h rest ok_a ok_b are s =
    let p = u32_read (λ n. nat_le 1 n && nat_le n 65536) (14, BadField) (at_budget a b) bytes h rest are s in
    step (begins ++ a ∷ [] ++ b ∷ []) (to_be_bytes w32 p.n) p.more bytes h rest p.split
    (budget_part a b p.n p.more h rest ok_a ok_b (within 1 65536 p.n p.good) p.bytes_too p.spells)

ram_part : (a : ℕ) (bytes : List ℕ) (h : Header) (rest : List ℕ) → a ≤ 10 → IsBytes bytes → Spells (at_ram a) bytes h rest → Texts (begins ++ a ∷ []) bytes h rest
ram_part a bytes h rest ok_a are s =
    let p = u8_read (λ n. nat_le 1 n && nat_le n 64) (13, BadField) (at_slice a) bytes h rest are s in
    step (begins ++ a ∷ []) (p.n ∷ []) p.more bytes h rest p.split
    (slice_part a p.n p.more h rest ok_a (within 1 64 p.n p.good) p.bytes_too p.spells)

shift_part : (bytes : List ℕ) (h : Header) (rest : List ℕ) → IsBytes bytes → Spells (at_shift 0) bytes h rest → Texts begins bytes h rest
shift_part bytes h rest are s =
    let p = u8_read (λ n. nat_le n 10) (12, BadField) at_ram bytes h rest are s in
    step begins (p.n ∷ []) p.more bytes h rest p.split (ram_part p.n p.more h rest (leb-true _ _ p.good) p.bytes_too p.spells)

reserved_part : (bytes : List ℕ) (h : Header) (rest : List ℕ) → IsBytes bytes → Spells (at_reserved 0x52525631) bytes h rest → Texts (to_be_bytes w32 0x52525631) bytes h rest
reserved_part bytes h rest are s =
    let p = u64_read (λ n. n == 0) (4, BadField) at_shift bytes h rest are s in
    step (to_be_bytes w32 0x52525631) (to_be_bytes w64 0) p.more bytes h rest (p.split ∙ ap (λ x. to_be_bytes w64 x ++ p.more) (eqb-true p.n 0 p.good))
    (shift_part p.more h rest p.bytes_too p.spells)

pub spells_header : (bytes : List ℕ) (h : Header) (rest : List ℕ) → IsBytes bytes → Spells header bytes h rest → IsHeader h × (bytes ≡ header_text h ++ rest)
unfolding header settings
spells_header bytes h rest are s =
    let p = u32_read (λ n. n == 0x52525631) (0, BadField) at_reserved bytes h rest are s in
    let t = step [] (to_be_bytes w32 0x52525631) p.more bytes h rest (p.split ∙ ap (λ x. to_be_bytes w32 x ++ p.more) (eqb-true p.n 0x52525631 p.good))
    (reserved_part p.more h rest p.bytes_too p.spells) in
    (t.is, t.parts)

-- a header has 98 bytes
pub header_length : (h : Header) → IsHeader h → length (header_text h) ≡ 98
unfolding header_text
header_length h is =
    let tail : length (h.firmware ++ (to_be_bytes w64 h.disk_len ++ h.disk)) ≡ 72 =
    length-append h.firmware (to_be_bytes w64 h.disk_len ++ h.disk) ∙ rw is.firmware (rw is.disk refl) in
    rw tail refl

-- what follows a header
pub header_drop : (h : Header) (bytes after : List ℕ) → IsHeader h → bytes ≡ header_text h ++ after → bytes ≡ header_text h ++ drop 98 bytes
header_drop h bytes after is parts =
    parts ∙ ap (λ z. header_text h ++ z) (sym (ap (λ z. drop 98 z) parts ∙ drop_at (header_text h) after 98 (header_length h is)))

-- ---- one answer

abbrev HeaderIs : Result (Header × List ℕ) (Fault (ℕ × Rule)) → List ℕ → Result Header ParseError → Type 0
HeaderIs found bytes (Ok h) = (98 ≤ length bytes) × ((after : List ℕ) × (found ≡ Ok (h, after)))
HeaderIs found bytes (Err (parse.Bad offset rule)) = (98 ≤ length bytes) × (found ≡ Err (Bad (offset, rule)))
HeaderIs found bytes (Err (parse.Cut offset)) = length bytes < 98
HeaderIs found bytes (Err parse.NoMemory) = ⊥

answer_is : (bytes : List ℕ) (r : Result Header ParseError) → HeaderAnswers bytes r → HeaderIs (read header bytes) bytes r
answer_is bytes (Ok h) (is, parts) =
    let after : List ℕ = drop 98 bytes in (
      omega (arith, ap length parts, length-append (header_text h) after, header_length h is),
      (after, subst (λ z. read header z ≡ Ok (h, after)) (sym parts) (meets_read header (header_text h ++ after) (Ok (h, after)) (header_spells h after is))),
    )
answer_is bytes (Err (parse.Bad offset rule)) (long, stops) = (long, meets_read header bytes (Err (Bad (offset, rule))) stops)
answer_is bytes (Err (parse.Cut offset)) (short, zero) = short
answer_is bytes (Err parse.NoMemory) a = a

abbrev read_ok : Header × List ℕ → Result (Header × List ℕ) (Fault (ℕ × Rule))
read_ok found = Ok found

ok_is : (a b : Header × List ℕ) → read_ok a ≡ read_ok b → a.0 ≡ b.0
ok_is a b e = ap (λ z. z.0) (ok_same a b e)
  where
    ok_same : (a b : Header × List ℕ) → read_ok a ≡ read_ok b → a ≡ b
    ok_same a b e = cc

abbrev field_error : ℕ × Rule → Result Header ParseError
field_error found = Err (parse.Bad found.0 found.1)

abbrev read_bad : ℕ × Rule → Result (Header × List ℕ) (Fault (ℕ × Rule))
read_bad found = Err (Bad found)

bad_is : (a b : ℕ × Rule) → read_bad a ≡ read_bad b → a ≡ b
bad_is a b e = cc

same_header : (bytes : List ℕ) (found : Result (Header × List ℕ) (Fault (ℕ × Rule))) (one other : Result Header ParseError)
    → HeaderAnswers bytes one → HeaderAnswers bytes other → HeaderIs found bytes one → HeaderIs found bytes other → one ≡ other
same_header bytes found (Ok h) (Ok k) _ _ (_, (x, p)) (_, (y, q)) = ap Ok (ok_is (h, x) (k, y) (sym p ∙ q))
same_header bytes found (Ok h) (Err (parse.Bad o r)) _ _ (_, (x, p)) (_, q) = cc
same_header bytes found (Ok h) (Err (parse.Cut o)) _ _ (long, _) short = absurd (omega (arith, long, short))
same_header bytes found (Ok h) (Err parse.NoMemory) _ _ _ none = absurd none
same_header bytes found (Err (parse.Bad o r)) (Ok h) _ _ (_, q) (_, (x, p)) = cc
same_header bytes found (Err (parse.Bad o r)) (Err (parse.Bad o' r')) _ _ (_, p) (_, q) = ap field_error (bad_is (o, r) (o', r') (sym p ∙ q))
same_header bytes found (Err (parse.Bad o r)) (Err (parse.Cut o')) _ _ (long, _) short = absurd (omega (arith, long, short))
same_header bytes found (Err (parse.Bad o r)) (Err parse.NoMemory) _ _ _ none = absurd none
same_header bytes found (Err (parse.Cut o)) (Ok h) _ _ short (long, _) = absurd (omega (arith, long, short))
same_header bytes found (Err (parse.Cut o)) (Err (parse.Bad o' r)) _ _ short (long, _) = absurd (omega (arith, long, short))
same_header bytes found (Err (parse.Cut o)) (Err (parse.Cut o')) (_, z) (_, z') _ _ = cc
same_header bytes found (Err (parse.Cut o)) (Err parse.NoMemory) _ _ _ none = absurd none
same_header bytes found (Err parse.NoMemory) other none _ _ _ = absurd none

pub one_headers : (bytes : List ℕ) (one other : Result Header ParseError) → HeaderAnswers bytes one → HeaderAnswers bytes other → one ≡ other
one_headers bytes one other a b = same_header bytes (read header bytes) one other a b (answer_is bytes one a) (answer_is bytes other b)

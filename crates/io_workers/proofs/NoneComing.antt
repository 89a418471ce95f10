-- Where no packet comes next, and where one is held whole.
use Rattle.std.proofs.Common.{◌≡◌, ℕ, ◌+◌, ◌^◌, ◌≤◌, ◌<◌, ◌⊎◌, inl, inr, false, List, ◌++◌, length, take, drop, None, Some, refl, sym, ap, ◌-◌, ◌∙◌, arith, length-append, length-drop, append-nil}
use Rattle.std.specs.declared.option.Option.{Option}
use Rattle.std.specs.Int.{w32, from_be_bytes}
use Rattle.std.specs.Io.KnownBytes.{IsAtEnd}
use Rattle.std.proofs.lemmas.List.{take-append-le}
use Rattle.io_workers.specs.PacketFile.{Spells, NoneComes, reading}

-- a packet at the front of bytes has the length that their first four say
pub its-size : (packet spelled rest bytes : List ℕ) → Spells packet spelled
    → bytes ≡ spelled ++ rest
    → (length spelled ≡ 4 + from_be_bytes w32 (take 4 bytes))
    × (14 ≤ from_be_bytes w32 (take 4 bytes)) × (from_be_bytes w32 (take 4 bytes) ≤ 1514)
its-size packet spelled rest bytes spells front =
    let behind : length spelled - 4 ≡ length packet =
    sym (length-drop 4 spelled) ∙ ap (λ l. length l) spells.behind in
    let some = spells.frame.some in
    let few = spells.frame.few in
    let long : 4 ≤ length spelled = omega (arith, behind, some) in
    let said : from_be_bytes w32 (take 4 bytes) ≡ length packet =
    ap (λ l. from_be_bytes w32 (take 4 l)) front
    ∙ ap (λ l. from_be_bytes w32 l) (take-append-le 4 spelled rest long) ∙ spells.size in
    (omega (arith, said, behind, long, some), omega (arith, said, some), omega (arith, said, few))

-- no packet comes next where its bytes would not all be there, or would pass the limit
pub none-coming : (held : List ℕ) (left : Option (List ℕ)) (count : ℕ)
    → 4 ≤ length held
    → (2 ^ 40 < count + (4 + from_be_bytes w32 (take 4 held)))
    ⊎ ((length held < 4 + from_be_bytes w32 (take 4 held)) × IsAtEnd left)
    → NoneComes (reading left 0 (record { held = held; count = count; ended = false }))
none-coming held None count long why = tt
none-coming held (Some rest) count long why = λ packet spelled more spells front within.
    let sizes = its-size packet spelled more (held ++ rest) spells front in
    let head : take 4 (held ++ rest) ≡ take 4 held = take-append-le 4 held rest long in
    let size : length spelled ≡ 4 + from_be_bytes w32 (take 4 held) =
    sizes.0 ∙ ap (λ l. 4 + from_be_bytes w32 l) head in
    elim why [
      | inl passes ↦ omega (arith, size, passes, within)
      | inr (short, over) ↦
          let all : length held ≡ length spelled + length more =
          sym (ap (λ l. length l) (ap (λ l. held ++ l) over ∙ append-nil held))
          ∙ ap (λ l. length l) front ∙ length-append spelled more in
          omega (arith, size, short, all)
    ]

-- what is held whole is a packet
pub is-whole : (held : List ℕ) (size : ℕ) → size ≡ 4 + from_be_bytes w32 (take 4 held)
    → length held ≡ size → 18 ≤ size → size ≤ 1518 → Spells (drop 4 held) held
is-whole held size said long some few =
    let behind : length (drop 4 held) ≡ length held - 4 = length-drop 4 held in
    record {
      frame = record { some = omega (arith, behind, long, some); few = omega (arith, behind, long, few) };
      size = omega (arith, said, long, behind);
      behind = refl;
    }

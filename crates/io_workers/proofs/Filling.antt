-- A buffer that a source fills on.
use Rattle.std.proofs.Common.{◌≡◌, ℕ, ◌+◌, ◌≤◌, ◌<◌, List, ◌++◌, length, take, drop, None, Some, sym, ap, subst, ◌∙◌, append_assoc, arith, length-take-le, length-drop, length-take, take-add, take-take, take_at, drop_at}
use Rattle.std.proofs.lemmas.List.{take-append-le}
use Rattle.std.specs.declared.option.Option.{Option}
use Rattle.std.specs.Int.{w32, from_be_bytes}
use Rattle.std.specs.Io.KnownBytes.{Consumes, Keeps, prepend_known}
use Rattle.std.proofs.lemmas.Slice.{take-put_mid}
use borrow.Rule.Slice.PartMut.{put_mid, same_len_mid}
use Rattle.io_workers.specs.PacketFile.{IsBegun}

-- the front of a buffer after a read into the part behind what is held
pub front-filled : (at room n : ℕ) (buffer part : List ℕ) → at ≤ length buffer → length part ≡ room
    → n ≤ room → take (at + n) (put_mid at room buffer part) ≡ take at buffer ++ take n part
front-filled at room n buffer part within long few =
    let front = length-take-le at buffer within in
    sym (take-take (at + n) (at + room) (put_mid at room buffer part) (omega arith))
    ∙ ap (take (at + n)) (take-put_mid at room buffer part (at + room) (omega arith) within)
    ∙ take-add at n (take at buffer ++ part)
    ∙ (λ k. take_at (take at buffer) part at front k
    ++ take n (drop_at (take at buffer) part at front k))

-- the buffer keeps its length
pub as-long : (at room : ℕ) (buffer part : List ℕ) → at + room ≤ length buffer → length part ≡ room
    → length (put_mid at room buffer part) ≡ length buffer
as-long at room buffer part within long =
    same_len_mid at room buffer part
    (omega (arith, length-take-le room (drop at buffer) (omega (arith, length-drop at buffer))))

-- what is held and what is left stay the same bytes where the source gives some that join those held
pub still-all : (all left left' : Option (List ℕ)) (held more : List ℕ)
    → Keeps all (prepend_known held left) → Consumes left left' more
    → Keeps all (prepend_known (held ++ more) left')
still-all None left left' held more keeps gives = tt
still-all (Some x) None left' held more keeps gives = absurd keeps
still-all (Some x) (Some y) None held more keeps gives = absurd gives
still-all (Some x) (Some y) (Some z) held more keeps gives =
    append_assoc held more z ∙ ap (λ l. held ++ l) (sym gives) ∙ keeps

-- what is held keeps within its packet where it grows to no more than a size within it
pub begun-on : (size : ℕ) (held more : List ℕ) → length (held ++ more) ≤ size
    → (4 < size → (4 ≤ length held) × (size ≤ 4 + from_be_bytes w32 (take 4 held)))
    → IsBegun (held ++ more)
begun-on size held more few begun long =
    let known = begun (omega (arith, few)) in
    subst (λ front. length (held ++ more) ≤ 4 + from_be_bytes w32 front)
    (sym (take-append-le 4 held more known.0)) (omega (arith, few, known.1))

-- those held before are the front of those held since
pub fewer : (before since : List ℕ) → take (length before) since ≡ before
    → length before ≤ length since
fewer before since front = grind (arith, length-take (length before) since, ap (λ l. length l) front)

pub front-on : (before since more : List ℕ) → take (length before) since ≡ before
    → take (length before) (since ++ more) ≡ before
front-on before since more front =
    take-append-le (length before) since more (fewer before since front) ∙ front

-- their first four are the same
pub same-head : (before since : List ℕ) → take (length before) since ≡ before → 4 ≤ length before
    → take 4 since ≡ take 4 before
same-head before since front known =
    sym (take-take 4 (length before) since known) ∙ ap (take 4) front

-- a size that keeps within the packet of those held before does within that of those held since
pub begun-since : (before since : List ℕ) (size : ℕ) → take (length before) since ≡ before
    → (4 ≤ length before) × (size ≤ 4 + from_be_bytes w32 (take 4 before))
    → (4 ≤ length since) × (size ≤ 4 + from_be_bytes w32 (take 4 since))
begun-since before since size front (known, within) = (
  omega (arith, known, fewer before since front),
  subst (λ head. size ≤ 4 + from_be_bytes w32 head) (sym (same-head before since front known))
      within,
)

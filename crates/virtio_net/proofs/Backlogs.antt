-- Packets and their bytes.
use Rattle.std.specs.Prelude.{slice_get}
use Rattle.std.proofs.lemmas.Option.{same_Some, slice_get_within, get_or_from_slice_get}
use Rattle.std.proofs.Common.{◌≡◌, ◌≤◌, ◌<◌, ◌+◌, zero, suc, Some, None, ℕ, List, [], ◌∷◌, length, map, drop, take, ◌++◌, arith, ap, ◌∙◌, sym, subst, refl}
use Rattle.std.specs.List.{All}
use Rattle.std.proofs.lemmas.List.{length-map, map-append, take_more}
use Rattle.std.proofs.lemmas.List.Elements.{All-nil, All-cons, All-head, All-tail, All-map, All-get_or}
use Rattle.virtio_net.specs.declared.packet.Packet.{Packet}
use Rattle.virtio_net.specs.Card.{bytes_of, IsSound}

All-unmap : {X Y : Type 0} (P : Y → Type 0) (f : X → Y) (xs : List X) → All P (map f xs) → All (λ x. P (f x)) xs
All-unmap P f [] h = All-nil (λ x. P (f x))
All-unmap P f (x ∷ xs) h = All-cons (λ x. P (f x)) x xs (All-head P (f x) (map f xs) h) (All-unmap P f xs (All-tail P (f x) (map f xs) h))

-- packets of the same bytes are as sound
pub sound_of_same : (ps qs : List Packet) (room capacity : ℕ) → map bytes_of qs ≡ map bytes_of ps → capacity ≡ 16 → IsSound ps room → IsSound qs capacity
sound_of_same ps qs room capacity same is sound =
    let P : List ℕ → Type 0 = λ bytes. length bytes ≤ 1514 in
    record {
      room = is;
      few = omega (arith, sound.few, ap length same, length-map ps bytes_of, length-map qs bytes_of);
      lengths = All-unmap P bytes_of qs (subst (All P) (sym same) (All-map P bytes_of ps sound.lengths));
    }

-- what a look at a place tells of the rest of a list
pub rest_none : {X : Type 0} (xs : List X) (i : ℕ) → None ≡ slice_get xs i → drop i xs ≡ []
rest_none [] zero h = refl
rest_none [] (suc i) h = refl
rest_none (x ∷ xs) zero h = absurd (cc)
rest_none (x ∷ xs) (suc i) h = rest_none xs i h

pub rest_some : {X : Type 0} (xs : List X) (i : ℕ) (x : X) → Some x ≡ slice_get xs i → drop i xs ≡ x ∷ drop (i + 1) xs
rest_some [] zero x h = absurd (cc)
rest_some [] (suc i) x h = absurd (cc)
rest_some (y ∷ xs) zero x h = ap (λ z. z ∷ xs) (sym (same_Some x y h))
rest_some (y ∷ xs) (suc i) x h =
    let next : suc (i + 1) ≡ suc i + 1 = omega arith in
    rest_some xs i x h ∙ ap (λ n. x ∷ drop n (y ∷ xs)) next

pub at_some : {X : Type 0} (P : X → Type 0) (xs : List X) (i : ℕ) (x : X) → Some x ≡ slice_get xs i → All P xs → (i < length xs) × P x
at_some P xs i x h all =
    let within = slice_get_within xs i x (sym h) in
    (within, subst P (get_or_from_slice_get xs i x x (sym h)) (All-get_or P xs i x within all))

-- one packet more is copied
pub one_more : (items out : List Packet) (i : ℕ) (p copy : Packet) → Some p ≡ slice_get items i → map bytes_of out ≡ map bytes_of (take i items) → bytes_of copy ≡ bytes_of p
    → map bytes_of (out ++ copy ∷ []) ≡ map bytes_of (take (i + 1) items)
one_more items out i p copy is same bytes =
    let within = slice_get_within items i p (sym is) in
    let more : take (i + 1) items ≡ take i items ++ p ∷ [] = take_more items i p within ∙ ap (λ x. take i items ++ x ∷ []) (get_or_from_slice_get items i p p (sym is)) in
    map-append bytes_of out (copy ∷ []) ∙ (λ j. same j ++ bytes j ∷ [])
    ∙ sym (ap (map bytes_of) more ∙ map-append bytes_of (take i items) (p ∷ []))

-- Requests in flight by their ids.
use Rattle.std.proofs.Common.{◌≡◌, ◌+◌, ℕ, suc, List, [], ◌∷◌, ◌++◌, map, refl, ap, ◌∙◌, sym, cond, nat_lt, take, drop, Some, None, length, not, arith, subst}
use Rattle.std.specs.Prelude.{position, ◌==◌, remove, slice_get}
use Rattle.std.specs.List.{position_or_len, prefix_len, drop-map, take-map}
use Rattle.std.specs.Option.{option_map}
use Rattle.std.proofs.lemmas.List.{length-map, map-append}
use Rattle.virtio_blk.specs.declared.notify.Parsed.{Parsed}
use Rattle.virtio_blk.specs.Notify.{Flight, flight_of}
use Rattle.virtio_blk.specs.Drive.{place_in, at_place, but_place, flight_in, without, IsSound}
use Rattle.std.specs.List.{All}
use Rattle.std.proofs.lemmas.List.Elements.{All-append, All-drop, All-take, All-map, All-nil, All-cons, All-head, All-tail}
use Rattle.std.proofs.lemmas.Option.{slice_get-map}
use Rattle.std.proofs.lemmas.Simd.{map-map}
use Rattle.virtio_blk.specs.Requests.{KindFits}

prefix : (id : ℕ) (ps : List Parsed) → prefix_len (λ (f : Flight). not (f.id == id)) (map flight_of ps) ≡ prefix_len (λ (p : Parsed). not (p.id == id)) ps
prefix id [] = refl
prefix id (p ∷ ps) = ap (λ n. cond (not (p.id == id)) (1 + n) 0) (prefix id ps)

places : (id : ℕ) (ps : List Parsed) → position_or_len (λ (f : Flight). f.id == id) (map flight_of ps) ≡ position_or_len (λ (p : Parsed). p.id == id) ps
places id ps = prefix id ps

-- an id stands at one place of the requests and of what is shown of them
pub place_in-map : (id : ℕ) (ps : List Parsed) → place_in (map flight_of ps) id ≡ position (λ (p : Parsed). p.id == id) ps
place_in-map id ps =
    ap (λ n. cond (nat_lt n (length (map flight_of ps))) (Some n) None) (places id ps)
    ∙ ap (λ m. cond (nat_lt (position_or_len (λ (p : Parsed). p.id == id) ps) m) (Some (position_or_len (λ (p : Parsed). p.id == id) ps)) None) (length-map ps flight_of)

-- what is shown once one is removed
pub map-remove : (ps : List Parsed) (n : ℕ) → map flight_of (remove ps n) ≡ remove (map flight_of ps) n
map-remove ps n = map-append flight_of (take n ps) (drop (suc n) ps) ∙ ap (λ x. x ++ map flight_of (drop (suc n) ps)) (sym (take-map flight_of n ps)) ∙ ap (λ x. take n (map flight_of ps) ++ x) (sym (drop-map flight_of (suc n) ps))

-- the ids once one is removed
pub ids-remove : (ps : List Parsed) (n : ℕ) → map (λ p. p.id) (remove ps n) ≡ remove (map (λ p. p.id) ps) n
ids-remove ps n = map-append (λ (p : Parsed). p.id) (take n ps) (drop (suc n) ps) ∙ ap (λ x. x ++ map (λ (p : Parsed). p.id) (drop (suc n) ps)) (sym (take-map (λ (p : Parsed). p.id) n ps)) ∙ ap (λ x. take n (map (λ (p : Parsed). p.id) ps) ++ x) (sym (drop-map (λ (p : Parsed). p.id) (suc n) ps))

-- all others keep what all have
pub All-remove : {X : Type 0} (P : X → Type 0) (xs : List X) (n : ℕ) → All P xs → All P (remove xs n)
All-remove P xs n all = All-append P (take n xs) (drop (suc n) xs) (All-take P n xs all) (All-drop P (suc n) xs all)

-- the request of an id is the one at its place
pub flight_in-map : (id : ℕ) (ps : List Parsed) (place : ℕ) (p : Parsed) → position (λ (p : Parsed). p.id == id) ps ≡ Some place → slice_get ps place ≡ Some p
    → flight_in (map flight_of ps) id ≡ Some (flight_of p)
flight_in-map id ps place p here is =
    ap (at_place (map flight_of ps)) (place_in-map id ps ∙ here) ∙ slice_get-map flight_of ps place ∙ ap (option_map flight_of) is

-- no request is in flight where no id is
pub flight_in-none : (id : ℕ) (ps : List Parsed) → position (λ (p : Parsed). p.id == id) ps ≡ None → flight_in (map flight_of ps) id ≡ None
flight_in-none id ps none = ap (at_place (map flight_of ps)) (place_in-map id ps ∙ none)

-- the requests in flight but that of an id
pub without-map : (id : ℕ) (ps : List Parsed) (place : ℕ) → position (λ (p : Parsed). p.id == id) ps ≡ Some place
    → without (map flight_of ps) id ≡ map flight_of (remove ps place)
without-map id ps place here = ap (but_place (map flight_of ps)) (place_in-map id ps ∙ here) ∙ sym (map-remove ps place)

All-unmap : {X Y : Type 0} (P : Y → Type 0) (f : X → Y) (xs : List X) → All P (map f xs) → All (λ x. P (f x)) xs
All-unmap P f [] h = All-nil (λ x. P (f x))
All-unmap P f (x ∷ xs) h = All-cons (λ x. P (f x)) x xs (All-head P (f x) (map f xs) h) (All-unmap P f xs (All-tail P (f x) (map f xs) h))

-- requests that show the same are as sound
pub sound_of_same : (numbers : List ℕ) (ps qs : List Parsed) (next sectors : ℕ) → map flight_of qs ≡ map flight_of ps → IsSound numbers ps next sectors → IsSound numbers qs next sectors
sound_of_same numbers ps qs next sectors same sound =
    let id : Flight → ℕ = λ f. f.id in
    let P : Flight → Type 0 = λ f. KindFits f.ask.kind sectors in
    record {
      ids = sound.ids ∙ sym (map-map id flight_of ps) ∙ ap (map id) (sym same) ∙ map-map id flight_of qs;
      few = omega (arith, sound.few, ap length same, length-map ps flight_of, length-map qs flight_of);
      fit = All-unmap P flight_of qs (subst (All P) (sym same) (All-map P flight_of ps sound.fit));
    }

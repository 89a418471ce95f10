-- What a log tells of its bytes.
use Rattle.std.proofs.Common.{◌≡◌, ◌≢◌, ℕ, ◌+◌, ◌-◌, ◌^◌, ◌<◌, List, [], ◌∷◌, ◌++◌, length, refl, ap, subst, arith, length-append}
use Rattle.std.specs.Prelude.{Some, None, IfSome, ⊤}
use Rattle.std.specs.declared.option.Option.{Option}
use Rattle.std.specs.Io.KnownBytes.{Consumes, Keeps, prepend_known}
use Rattle.std.proofs.lemmas.List.{length-take, nil_from_length}
use Rattle.event_log.specs.Reading.{Reader, ahead, to_limit, IsLong}

pub told-both : (a : Option (List ℕ)) (P Q : List ℕ → Type 0) → IfSome a P → IfSome a Q
    → IfSome a (λ bytes. P bytes × Q bytes)
told-both None P Q p q = tt
told-both (Some bytes) P Q p q = (p, q)

pub told-any : (a : Option (List ℕ)) → IfSome a (λ bytes. ⊤)
told-any None = tt
told-any (Some bytes) = tt

-- what is told of the rest is told behind what was read
pub told-behind : (a b : Option (List ℕ)) (xs : List ℕ) (P : List ℕ → Type 0) → Consumes a b xs
    → IfSome b P → IfSome a (λ bytes. (rest : List ℕ) × (bytes ≡ xs ++ rest) × P rest)
told-behind None b xs P c h = tt
told-behind (Some x) None xs P c h = absurd c
told-behind (Some x) (Some y) xs P c h = (y, c, h)

-- what was read stands at the front
pub told-front : (a b : Option (List ℕ)) (xs : List ℕ) → Consumes a b xs
    → IfSome a (λ bytes. (rest : List ℕ) × (bytes ≡ xs ++ rest))
told-front None b xs c = tt
told-front (Some x) None xs c = absurd c
told-front (Some x) (Some y) xs c = (y, c)

-- some bytes before the limit
pub some-within : (place : ℕ) (xs : List ℕ) → place < 2 ^ 40 → 0 < length xs → to_limit place xs ≢ []
some-within place xs room some none =
    absurd (omega (arith, room, some, ap length none, length-take (2 ^ 40 - place) xs))

-- no byte before the limit
pub none-within : (place : ℕ) (xs : List ℕ) → place ≡ 2 ^ 40 → to_limit place xs ≡ []
none-within place xs full =
    nil_from_length (to_limit place xs) (omega (arith, full, length-take (2 ^ 40 - place) xs))

long-rest : (held : List ℕ) (left a : Option (List ℕ)) (place : ℕ) → Keeps a (prepend_known held left)
    → 2 ^ 40 < place + length held → IfSome a (λ rest. 2 ^ 40 < place + length rest)
long-rest held left None place same long = tt
long-rest held None (Some rest) place same long = absurd same
long-rest held (Some more) (Some rest) place same long =
    subst (λ z. 2 ^ 40 < place + length z) same (omega (arith, long, length-append held more))

-- where a byte past the limit was read, the log has it
pub long-ahead : (old new : Reader) → IsLong old new
    → IfSome (ahead old) (λ rest. 2 ^ 40 < old.unread.place + length rest)
long-ahead old new long =
    long-rest new.unread.held new.left (ahead old) old.unread.place long.stays.bytes
    (omega (arith, long.read, long.stays.place))

-- Answers to commands, lines and bytes, as the code has them.
use Rattle.std.proofs.Common.{◌≡◌, ℕ, zero, suc, ◌<◌, ◌-◌, Bool, true, false, refl, ap, arith, subst, List, [], ◌∷◌, ◌++◌, length, take}
use Rattle.std.specs.Prelude.{Ok, Err, get_or, if◌then◌else◌}
use Rattle.std.proofs.lemmas.Bool.{eq-eqb, ne_eqb}
use Rattle.outside.specs.Causes.{Rose}
use Rattle.outside.specs.Told.{Takes, TakesFront}
use Rattle.outside.proofs.ToldLemmas.{TakesFront-none}
use Rattle.reverse_seek.specs.Script.{Script}
use Rattle.reverse_seek.specs.Timeline.{Timeline}
use Rattle.monitor.specs.Moves.{goes}
use Rattle.monitor.specs.Session.{Desk, goes_to, says, without_return, whole_line, with_byte}
use Rattle.monitor.specs.Serving.{Written, Says}
use Rattle.monitor.specs.declared.desk.Halt.TheVariants as halt

-- ---- the carriage return

return-last : (i : ℕ) (xs : List ℕ) → length xs ≡ suc i → get_or xs i 0 ≡ 13 → without_return xs ≡ take i xs
return-last i [] n is = absurd (omega (arith, n))
return-last zero (b ∷ []) n is = rw (eq-eqb b 13 is) refl
return-last zero (b ∷ c ∷ xs) n is = absurd (omega (arith, n))
return-last (suc i) (b ∷ []) n is = absurd (omega (arith, n))
return-last (suc i) (b ∷ c ∷ xs) n is = ap (λ z. b ∷ z) (return-last i (c ∷ xs) (omega (arith, n)) is)

other-last : (i : ℕ) (xs : List ℕ) → length xs ≡ suc i → (get_or xs i 0 ≡ 13 → ⊥) → without_return xs ≡ xs
other-last i [] n other = absurd (omega (arith, n))
other-last zero (b ∷ []) n other = rw (ne_eqb b 13 other) refl
other-last zero (b ∷ c ∷ xs) n other = absurd (omega (arith, n))
other-last (suc i) (b ∷ []) n other = absurd (omega (arith, n))
other-last (suc i) (b ∷ c ∷ xs) n other = ap (λ z. b ∷ z) (other-last i (c ∷ xs) (omega (arith, n)) other)

pub return-cut : (xs : List ℕ) → 0 < length xs → get_or xs (length xs - 1) 0 ≡ 13 → without_return xs ≡ take (length xs - 1) xs
return-cut xs some is = return-last (length xs - 1) xs (omega (arith, some)) is

pub return-kept : (xs : List ℕ) → 0 < length xs → (get_or xs (length xs - 1) 0 ≡ 13 → ⊥) → without_return xs ≡ xs
return-kept xs some other = other-last (length xs - 1) xs (omega (arith, some)) other

pub return-none : (xs : List ℕ) → length xs ≡ 0 → without_return xs ≡ xs
return-none [] none = refl
return-none (b ∷ bs) none = absurd (omega (arith, none))

pub ruleset returns = (return-cut, return-kept, return-none)

-- ---- moves

abbrev pub desk_at : Timeline → List ℕ → List ℕ → Bool → Desk
desk_at t breaks line quit = record { place = t.at; breaks = breaks; line = line; quit = quit }

pub moved-desk : (b : Bool) (x told : List ℕ) (t t' : Timeline) (n : ℕ) (breaks line : List ℕ) (quit : Bool)
    → (told, t') ≡ (if b then (x, t) else goes t n)
    → (told, desk_at t' breaks line quit)
    ≡ (if b then says x (desk_at t breaks line quit) else goes_to t.script (desk_at t breaks line quit) n)
moved-desk true x told t t' n breaks line quit same = ap (λ z. (z.0, desk_at z.1 breaks line quit)) same
moved-desk false x told t t' n breaks line quit same = ap (λ z. (z.0, desk_at z.1 breaks line quit)) same

pub ruleset moving = (moved-desk)

-- ---- lines and bytes

pub said-ok : (told : List ℕ × Desk) (text : List ℕ) (d : Desk) (old new : Written) (done : Unit {0}) → (text, d) ≡ told
    → Takes old.taken new.taken text → new.faults ≡ old.faults → Says told (Ok done) d old new
said-ok told text d old new done same took kept = subst (λ z. Says z (Ok done) d old new) same (took, refl, kept)

pub said-fault : (told : List ℕ × Desk) (text : List ℕ) (d e : Desk) (old new : Written) → (text, d) ≡ told
    → TakesFront old.taken new.taken text → Rose old.faults new.faults → Says told (Err halt.WriteFault) e old new
said-fault told text d e old new same front rose = subst (λ z. Says z (Err halt.WriteFault) e old new) same (front, rose)

pub said-nothing : (told : List ℕ × Desk) (d : Desk) (w : Written) → Says told (Err halt.NoMemory) d w w
said-nothing told d w = (TakesFront-none w.taken told.0, refl)

pub said-unread : (told : List ℕ × Desk) (d : Desk) (w : Written) → Says told (Err halt.ImageFault) d w w
said-unread told d w = (TakesFront-none w.taken told.0, refl)

pub ruleset saying = (said-ok, said-fault, said-nothing, said-unread)

pub byte-feed : (s : Script) (d : Desk) (b : ℕ) → b ≡ 10 → with_byte s d b ≡ whole_line s d
unfolding with_byte
byte-feed s d b is = rw (eq-eqb b 10 is) refl

pub byte-other : (s : Script) (d : Desk) (b : ℕ) → (b ≡ 10 → ⊥) → with_byte s d b ≡ ([], record d { line = d.line ++ b ∷ [] })
unfolding with_byte
byte-other s d b other = rw (ne_eqb b 10 other) refl

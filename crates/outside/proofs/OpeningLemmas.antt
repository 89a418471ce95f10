-- What was opened, over several calls.
use Rattle.std.proofs.Common.{◌≡◌, ℕ, List, [], ◌++◌, refl, sym, ap, ◌∙◌, append_assoc, append-nil, take, drop, take-append-drop}
use Rattle.std.specs.Prelude.{reverse}
use Rattle.std.proofs.lemmas.List.{reverse-append}
use Rattle.outside.specs.declared.openings.Opening.{Opening}
use Rattle.outside.specs.Openings.{Opens, OpensFront}

-- nothing was opened
pub OpensFront-none : (old new due : List Opening) → new ≡ old → OpensFront old new due
OpensFront-none old new due e = record { front = []; rest = due; whole = refl; opened = e }

-- all was opened
pub OpensFront-all : (old new due : List Opening) → Opens old new due → OpensFront old new due
OpensFront-all old new due e =
    record { front = due; rest = []; whole = sym (append-nil due); opened = e }

-- the first n were opened
pub OpensFront-take : (old new due : List Opening) (n : ℕ) → Opens old new (take n due) → OpensFront old new due
OpensFront-take old new due n e =
    record { front = take n due; rest = drop n due; whole = sym (take-append-drop n due); opened = e }

-- a front of the first part is a front of the whole
pub OpensFront-longer : (old new xs ys : List Opening) → OpensFront old new xs → OpensFront old new (xs ++ ys)
OpensFront-longer old new xs ys p = record {
  front = p.front;
  rest = p.rest ++ ys;
  whole = ap (λ l. l ++ ys) p.whole ∙ append_assoc p.front p.rest ys;
  opened = p.opened;
}

-- the first part was opened, and a front of the second
pub OpensFront-after : (old mid new xs ys : List Opening) → Opens old mid xs → OpensFront mid new ys → OpensFront old new (xs ++ ys)
OpensFront-after old mid new xs ys p q = record {
  front = xs ++ q.front;
  rest = q.rest;
  whole = ap (λ l. xs ++ l) q.whole ∙ sym (append_assoc xs q.front q.rest);
  opened = q.opened ∙ ap (λ l. reverse q.front ++ l) p ∙ sym (append_assoc (reverse q.front) (reverse xs) old)
      ∙ ap (λ l. l ++ old) (sym (reverse-append xs q.front));
}

-- The rule that a walk names is the first that is broken.
use Rattle.std.proofs.Common.{◌≡◌, ◌<◌, ℕ, zero, suc, ◌+◌, List, [], ◌++◌, Bool, true, false, ◌||◌, ◌&&◌, ◌*◌, not, nat_lt, cond, Result, Ok, Err, refl, ap, sym, subst, ◌∙◌, arith}
use Rattle.vio_mmio.specs.declared.queue.Queue.{Queue}
use Rattle.vio_mmio.specs.declared.error.BadKind.{BadKind}
use Rattle.vio_mmio.specs.declared.error.BadKind.TheVariants.{Index, Loop, Indirect, Order, Range, Ring}
use Rattle.vio_mmio.specs.declared.chain.Segment.{Segment}
use Rattle.vio_mmio.specs.declared.chain.Descriptor.{Descriptor}
use Rattle.vio_mmio.specs.Descriptors.{Parts, onto, walk, behind, checked, descriptor_at, readable_of, writable_of, goes_on, is_writable, is_indirect}
use Rattle.vio_mmio.specs.Ring.{lies_in}
use Rattle.vio_mmio.specs.FirstBroken.{GoesOn, BreaksAt, EndsAt}

-- what five tests let through
kept : (a b c f g : Bool) (i j k l m : BadKind) (d e : Descriptor)
    → cond a (Err i) (cond b (Err j) (cond c (Err k) (cond f (Err l) (cond g (Err m) (Ok d))))) ≡ Ok e → e ≡ d
kept true b c f g i j k l m d e is = absurd (cc)
kept false true c f g i j k l m d e is = absurd (cc)
kept false false true f g i j k l m d e is = absurd (cc)
kept false false false true g i j k l m d e is = absurd (cc)
kept false false false false true i j k l m d e is = absurd (cc)
kept false false false false false i j k l m d e is = cc

-- what keeps every rule is the entry of the table
checked_is : (bytes : List ℕ) (q : Queue) (n : ℕ) (late : Bool) (d : Descriptor) → checked bytes q n late ≡ Ok d → d ≡ descriptor_at bytes q n
unfolding checked
checked_is bytes q n late d e =
    let x = descriptor_at bytes q n in
    kept (not (nat_lt n q.size)) (not (lies_in bytes (q.descriptors + 16 * n) 16)) (is_indirect x) (late && not (is_writable x)) (not (lies_in bytes x.at x.len))
    Index Ring Indirect Order Range x d e

onto_err : (a b : List Segment) (r : Result Parts BadKind) (kind : BadKind) → onto a b r ≡ Err kind → r ≡ Err kind
onto_err a b (Ok p) kind e = absurd (cc)
onto_err a b (Err k) kind e = e

last_kind : (t : Bool) (kind : BadKind) → ◌≡◌ {A = Result Parts BadKind} (cond t (Err Loop) (Err Index)) (Err kind) → kind ≡ cond t Loop Index
last_kind true kind e = cc
last_kind false kind e = cc

-- one descriptor more in front
one_more : (bytes : List ℕ) (q : Queue) (left n : ℕ) (late : Bool) (kind : BadKind) (k : ℕ)
    → checked bytes q n late ≡ Ok (descriptor_at bytes q n) → goes_on (descriptor_at bytes q n) ≡ true
    → BreaksAt bytes q left (descriptor_at bytes q n).next (late || is_writable (descriptor_at bytes q n)) kind k
    → BreaksAt bytes q (suc left) n late kind (suc k)
one_more bytes q left n late kind k keeps more rest =
    record {
      within = omega (arith, rest.within);
      before = λ j below. first j below;
      here = λ below. rest.here (omega arith);
      last = λ is. rest.last (omega arith);
    }
  where
    first : (j : ℕ) → j < suc k → GoesOn bytes q n late j
    first zero below = record { keeps = keeps; more = more }
    first (suc j) below = let g = rest.before j (omega arith) in record { keeps = g.keeps; more = g.more }

pub walk_err : (bytes : List ℕ) (q : Queue) (left n : ℕ) (late : Bool) (kind : BadKind) → walk bytes q left n late ≡ Err kind → (k : ℕ) × BreaksAt bytes q left n late kind k
unfolding walk
walk_err bytes q zero n late kind e = (
  0,
  record {
    within = omega arith;
    before = λ j below. absurd (omega arith);
    here = λ below. absurd (omega arith);
    last = λ is. last_kind (nat_lt n q.size) kind e;
  },
)
walk_err bytes q (suc left) n late kind e = step (λ m l w. walk_err bytes q left m l kind w) (checked bytes q n late) refl e
  where
    going : ((m : ℕ) (l : Bool) → walk bytes q left m l ≡ Err kind → (k : ℕ) × BreaksAt bytes q left m l kind k) → (d : Descriptor) (t : Bool) → checked bytes q n late ≡ Ok d → goes_on d ≡ t
        → onto (readable_of d) (writable_of d) (cond t (walk bytes q left d.next (late || is_writable d)) (Ok (record { readable = []; writable = [] }))) ≡ Err kind
        → (k : ℕ) × BreaksAt bytes q (suc left) n late kind k
    going again d true is more e =
        let at : d ≡ descriptor_at bytes q n = checked_is bytes q n late d is in
        let rest : walk bytes q left d.next (late || is_writable d) ≡ Err kind = onto_err (readable_of d) (writable_of d) (walk bytes q left d.next (late || is_writable d)) kind e in
        let found = again (descriptor_at bytes q n).next (late || is_writable (descriptor_at bytes q n)) (subst (λ x. walk bytes q left x.next (late || is_writable x) ≡ Err kind) at rest) in
        (suc found.0, one_more bytes q left n late kind found.0 (is ∙ ap (λ x. Ok x) at) (sym (ap goes_on at) ∙ more) found.1)
    going again d false is more e = absurd (cc)

    step : ((m : ℕ) (l : Bool) → walk bytes q left m l ≡ Err kind → (k : ℕ) × BreaksAt bytes q left m l kind k) → (r : Result Descriptor BadKind) → checked bytes q n late ≡ r → behind late (λ next writable. walk bytes q left next writable) r ≡ Err kind → (k : ℕ) × BreaksAt bytes q (suc left) n late kind k
    step again (Ok d) is e = going again d (goes_on d) is refl e
    step again (Err broken) is e = (
      0,
      record {
        within = omega arith;
        before = λ j below. absurd (omega arith);
        here = λ below. let same : broken ≡ kind = cc in is ∙ ap (λ r. Err r) same;
        last = λ none. absurd (omega arith);
      },
    )

no_parts : (t : Bool) (parts : Parts) → ◌≡◌ {A = Result Parts BadKind} (cond t (Err Loop) (Err Index)) (Ok parts) → ⊥
no_parts true parts e = cc
no_parts false parts e = cc

-- what follows a descriptor that goes on
split_parts : (a b : List Segment) (r : Result Parts BadKind) (parts : Parts) → onto a b r ≡ Ok parts
    → (p : Parts) × (r ≡ Ok p) × (parts.readable ≡ a ++ p.readable) × (parts.writable ≡ b ++ p.writable)
split_parts a b (Ok p) parts e = let is : record { readable = a ++ p.readable; writable = b ++ p.writable } ≡ parts = cc in (p, refl, sym (ap (λ x. x.readable) is), sym (ap (λ x. x.writable) is))
split_parts a b (Err kind) parts e = absurd (cc)

-- one descriptor more in front
one_more_ok : (bytes : List ℕ) (q : Queue) (left n : ℕ) (late : Bool) (whole parts : Parts) (k : ℕ)
    → checked bytes q n late ≡ Ok (descriptor_at bytes q n) → goes_on (descriptor_at bytes q n) ≡ true
    → whole.readable ≡ readable_of (descriptor_at bytes q n) ++ parts.readable → whole.writable ≡ writable_of (descriptor_at bytes q n) ++ parts.writable
    → EndsAt bytes q left (descriptor_at bytes q n).next (late || is_writable (descriptor_at bytes q n)) parts k
    → EndsAt bytes q (suc left) n late whole (suc k)
one_more_ok bytes q left n late whole parts k keeps more reads writes rest =
    record {
      within = omega (arith, rest.within);
      before = λ j below. first j below;
      keeps = rest.keeps;
      ends = rest.ends;
      readable = reads ∙ ap (λ l. readable_of (descriptor_at bytes q n) ++ l) rest.readable;
      writable = writes ∙ ap (λ l. writable_of (descriptor_at bytes q n) ++ l) rest.writable;
    }
  where
    first : (j : ℕ) → j < suc k → GoesOn bytes q n late j
    first zero below = record { keeps = keeps; more = more }
    first (suc j) below = let g = rest.before j (omega arith) in record { keeps = g.keeps; more = g.more }

pub walk_ok : (bytes : List ℕ) (q : Queue) (left n : ℕ) (late : Bool) (parts : Parts) → walk bytes q left n late ≡ Ok parts → (k : ℕ) × EndsAt bytes q left n late parts k
unfolding walk
walk_ok bytes q zero n late parts e = absurd (no_parts (nat_lt n q.size) parts e)
walk_ok bytes q (suc left) n late parts e = step (λ m l p w. walk_ok bytes q left m l p w) (checked bytes q n late) refl e
  where
    going : ((m : ℕ) (l : Bool) (p : Parts) → walk bytes q left m l ≡ Ok p → (k : ℕ) × EndsAt bytes q left m l p k) → (d : Descriptor) (t : Bool) → checked bytes q n late ≡ Ok d → goes_on d ≡ t
        → onto (readable_of d) (writable_of d) (cond t (walk bytes q left d.next (late || is_writable d)) (Ok (record { readable = []; writable = [] }))) ≡ Ok parts
        → (k : ℕ) × EndsAt bytes q (suc left) n late parts k
    going again d true is more e =
        let at : d ≡ descriptor_at bytes q n = checked_is bytes q n late d is in
        let s = split_parts (readable_of d) (writable_of d) (walk bytes q left d.next (late || is_writable d)) parts e in
        let found = again (descriptor_at bytes q n).next (late || is_writable (descriptor_at bytes q n)) s.0 (subst (λ x. walk bytes q left x.next (late || is_writable x) ≡ Ok s.0) at s.1) in (
          suc found.0,
          one_more_ok bytes q left n late parts s.0 found.0 (is ∙ ap (λ x. Ok x) at) (sym (ap goes_on at) ∙ more)
              (s.2 ∙ ap (λ x. readable_of x ++ s.0.readable) at) (s.3 ∙ ap (λ x. writable_of x ++ s.0.writable) at) found.1,
        )
    going again d false is more e =
        let at : d ≡ descriptor_at bytes q n = checked_is bytes q n late d is in
        let s = split_parts (readable_of d) (writable_of d) (Ok (record { readable = []; writable = [] })) parts e in
        let none : record { readable = []; writable = [] } ≡ s.0 = let w = s.1 in cc in (
          0,
          record {
            within = omega arith;
            before = λ j below. absurd (omega arith);
            keeps = is ∙ ap (λ x. Ok x) at;
            ends = sym (ap goes_on at) ∙ more;
            readable = s.2 ∙ ap (λ x. readable_of d ++ x.readable) (sym none) ∙ ap (λ x. readable_of x ++ []) at;
            writable = s.3 ∙ ap (λ x. writable_of d ++ x.writable) (sym none) ∙ ap (λ x. writable_of x ++ []) at;
          },
        )

    step : ((m : ℕ) (l : Bool) (p : Parts) → walk bytes q left m l ≡ Ok p → (k : ℕ) × EndsAt bytes q left m l p k) → (r : Result Descriptor BadKind) → checked bytes q n late ≡ r
        → behind late (λ next writable. walk bytes q left next writable) r ≡ Ok parts → (k : ℕ) × EndsAt bytes q (suc left) n late parts k
    step again (Ok d) is e = going again d (goes_on d) is refl e
    step again (Err broken) is e = absurd (cc)

-- Steps of a walk along a chain.
use Rattle.std.proofs.Common.{◌≡◌, ℕ, zero, suc, ◌-◌, ◌<◌, List, [], ◌++◌, Bool, true, false, ◌||◌, nat_lt, cond, Result, Ok, Err, refl, ap, sym, ◌∙◌, arith, append_assoc, append-nil}
use Rattle.vio_mmio.specs.declared.queue.Queue.{Queue}
use Rattle.vio_mmio.specs.declared.error.BadKind.{BadKind}
use Rattle.vio_mmio.specs.declared.error.BadKind.TheVariants.{Index, Loop}
use Rattle.vio_mmio.specs.declared.chain.Segment.{Segment}
use Rattle.vio_mmio.specs.declared.chain.Descriptor.{Descriptor}
use Rattle.vio_mmio.specs.Descriptors.{Parts, onto, walk, behind, checked, readable_of, writable_of, goes_on, is_writable}

-- ranges before ranges before the rest
pub onto-onto : (a b c d : List Segment) (r : Result Parts BadKind) → onto a b (onto c d r) ≡ onto (a ++ c) (b ++ d) r
onto-onto a b c d (Ok p) = ap (λ x. Ok (record { readable = x; writable = b ++ (d ++ p.writable) })) (sym (append_assoc a c p.readable)) ∙ ap (λ y. Ok (record { readable = (a ++ c) ++ p.readable; writable = y })) (sym (append_assoc b d p.writable))
onto-onto a b c d (Err kind) = refl

-- one descriptor of more that follow
pub walk_more : (bytes : List ℕ) (q : Queue) (left n : ℕ) (late : Bool) (d : Descriptor) (a b : List Segment) → 0 < left → checked bytes q n late ≡ Ok d → goes_on d ≡ true
    → onto a b (walk bytes q left n late) ≡ onto (a ++ readable_of d) (b ++ writable_of d) (walk bytes q (left - 1) d.next (late || is_writable d))
unfolding walk
walk_more bytes q zero n late d a b some is more = absurd (omega arith)
walk_more bytes q (suc left) n late d a b some is more =
    let rest : Result Parts BadKind = walk bytes q left d.next (late || is_writable d) in
    let next : suc left - 1 ≡ left = omega arith in
    ap (λ r. onto a b (behind late (λ next writable. walk bytes q left next writable) r)) is
    ∙ ap (λ t. onto a b (onto (readable_of d) (writable_of d) (cond t rest (Ok (record { readable = []; writable = [] }))))) more
    ∙ onto-onto a b (readable_of d) (writable_of d) rest
    ∙ ap (λ m. onto (a ++ readable_of d) (b ++ writable_of d) (walk bytes q m d.next (late || is_writable d))) (sym next)

-- the last descriptor
pub walk_end : (bytes : List ℕ) (q : Queue) (left n : ℕ) (late : Bool) (d : Descriptor) (a b : List Segment) → 0 < left → checked bytes q n late ≡ Ok d → goes_on d ≡ false
    → onto a b (walk bytes q left n late) ≡ Ok (record { readable = a ++ readable_of d; writable = b ++ writable_of d })
unfolding walk
walk_end bytes q zero n late d a b some is more = absurd (omega arith)
walk_end bytes q (suc left) n late d a b some is more =
    let rest : Result Parts BadKind = walk bytes q left d.next (late || is_writable d) in
    ap (λ r. onto a b (behind late (λ next writable. walk bytes q left next writable) r)) is
    ∙ ap (λ t. onto a b (onto (readable_of d) (writable_of d) (cond t rest (Ok (record { readable = []; writable = [] }))))) more
    ∙ onto-onto a b (readable_of d) (writable_of d) (Ok (record { readable = []; writable = [] }))
    ∙ ap (λ x. Ok (record { readable = x; writable = (b ++ writable_of d) ++ [] })) (append-nil (a ++ readable_of d))
    ∙ ap (λ y. Ok (record { readable = a ++ readable_of d; writable = y })) (append-nil (b ++ writable_of d))

-- a descriptor that breaks a rule
pub walk_bad : (bytes : List ℕ) (q : Queue) (left n : ℕ) (late : Bool) (kind : BadKind) (a b : List Segment) → 0 < left → checked bytes q n late ≡ Err kind
    → onto a b (walk bytes q left n late) ≡ Err kind
unfolding walk
walk_bad bytes q zero n late kind a b some is = absurd (omega arith)
walk_bad bytes q (suc left) n late kind a b some is = ap (λ r. onto a b (behind late (λ next writable. walk bytes q left next writable) r)) is

-- one descriptor too many
pub walk_none : (bytes : List ℕ) (q : Queue) (left n : ℕ) (late : Bool) (a b : List Segment) → left ≡ 0
    → onto a b (walk bytes q left n late) ≡ onto a b (cond (nat_lt n q.size) (Err Loop) (Err Index))
unfolding walk
walk_none bytes q left n late a b none = ap (λ m. onto a b (walk bytes q m n late)) none

-- What pages that stand in for others show.
use Rattle.std.proofs.Common.{zero, suc, ◌-◌, ◌≡◌, ◌≤◌, ◌<◌, ◌+◌, ◌*◌, ◌/◌, ◌%◌, set, get_or, map, ℕ, List, [], ◌∷◌, ◌++◌, length, take, drop, refl, arith, sym, ap, ◌∙◌, length-set, append-nil, ◌≢◌}
use Rattle.std.specs.declared.alloc.Global.{Global}
use Rattle.std.specs.declared.rc.Rc.{Rc}
use Rattle.std.proofs.lemmas.List.{get_or-set_same, get_or-set_other, take_more, drop_all, length-take, take-take, take_all, set-set}
use Rattle.std.proofs.lemmas.List.Elements.{All-head, All-tail, All-push, All-cons}
use Rattle.ram_pages.specs.Memory.{overwritten}
use Rattle.ram_pages.specs.declared.page.Page.{Page}
use Rattle.ram_pages.specs.declared.fresh.Fresh.{Fresh}
use Rattle.ram_pages.specs.Paging.{page_bytes, joined, ArePages}
use Rattle.ram_pages.specs.Standing.{laid, IsFresh, AreFresh, change_of}
use Rattle.ram_pages.specs.Draft.{with_pages, AllFit}
use Rattle.ram_pages.proofs.Pieces.{flat_map-set, overwritten-nil, length-overwritten}
use Rattle.ram_pages.proofs.Paging.{length-joined, ArePages-set, joined-set}

pub length-laid : (fs : List Fresh) (ps : List (Rc Page Global)) → length (laid fs ps) ≡ length ps
length-laid [] ps = refl
length-laid (f ∷ fs) ps = length-laid fs (set ps f.number f.page) ∙ length-set ps f.number f.page

pub ArePages-laid : (fs : List Fresh) (ps : List (Rc Page Global)) (n : ℕ) → ArePages ps → AreFresh n fs → ArePages (laid fs ps)
ArePages-laid [] ps n are fresh = are
ArePages-laid (f ∷ fs) ps n are fresh =
    ArePages-laid fs (set ps f.number f.page) n (ArePages-set ps f.number f.page are (All-head (IsFresh n) f fs fresh).1) (All-tail (IsFresh n) f fs fresh)

pub length-joined_laid : (fs : List Fresh) (ps : List (Rc Page Global)) (n : ℕ) → ArePages ps → AreFresh n fs → length (joined (laid fs ps)) ≡ length (joined ps)
length-joined_laid fs ps n are fresh =
    omega (arith, length-joined (laid fs ps) (ArePages-laid fs ps n are fresh), length-joined ps are, length-laid fs ps)

-- the last page takes its place after the others
pub laid-push : (fs : List Fresh) (f : Fresh) (ps : List (Rc Page Global)) → laid (fs ++ f ∷ []) ps ≡ set (laid fs ps) f.number f.page
laid-push [] f ps = refl
laid-push (g ∷ fs) f ps = laid-push fs f (set ps g.number g.page)

-- a page in the place of another
pub joined-set_whole : (ps : List (Rc Page Global)) (k : ℕ) (p : Rc Page Global) → ArePages ps → k < length ps → length (page_bytes p) ≡ 4096
    → joined (set ps k p) ≡ overwritten (joined ps) (4096 * k) (page_bytes p)
joined-set_whole ps k p are within len =
    let old : length (page_bytes (get_or ps k p)) ≡ 4096 = are.whole k p within in
    let none : drop (0 + length (page_bytes p)) (page_bytes (get_or ps k p)) ≡ [] = drop_all (0 + length (page_bytes p)) (page_bytes (get_or ps k p)) (omega arith) in
    let is : page_bytes p ≡ overwritten (page_bytes (get_or ps k p)) 0 (page_bytes p) = sym (ap (λ l. page_bytes p ++ l) none ∙ append-nil (page_bytes p)) in
    let place : 4096 * k + 0 ≡ 4096 * k = omega arith in
    flat_map-set page_bytes 4096 ps k p p 0 (page_bytes p) are.whole within (omega arith) is ∙ ap (λ m. overwritten (joined ps) m (page_bytes p)) place

-- the bytes, page after page
pub joined-laid : (fs : List Fresh) (ps : List (Rc Page Global)) → ArePages ps → AreFresh (length ps) fs → joined (laid fs ps) ≡ with_pages (map change_of fs) (joined ps)
joined-laid [] ps are fresh = refl
joined-laid (f ∷ fs) ps are fresh =
    let here : IsFresh (length ps) f = All-head (IsFresh (length ps)) f fs fresh in
    let len : length (set ps f.number f.page) ≡ length ps = length-set ps f.number f.page in
    joined-laid fs (set ps f.number f.page) (ArePages-set ps f.number f.page are here.1) (rw len (All-tail (IsFresh (length ps)) f fs fresh))
    ∙ ap (with_pages (map change_of fs)) (joined-set_whole ps f.number f.page are here.0 here.1)

-- a page more, of that number or of another
more_laid : (fs : List Fresh) (ps : List (Rc Page Global)) (n : ℕ) (f : Fresh) → n < length fs → f ≡ get_or fs n f
    → laid (take (n + 1) fs) ps ≡ set (laid (take n fs) ps) f.number f.page
more_laid fs ps n f lt is =
    ap (λ l. laid l ps) (take_more fs n f lt ∙ ap (λ g. take n fs ++ g ∷ []) (sym is)) ∙ laid-push (take n fs) f ps

pub last_laid : (fs : List Fresh) (ps : List (Rc Page Global)) (n k : ℕ) (f : Fresh) (d : Rc Page Global) → n < length fs → f ≡ get_or fs n f → k < length ps → f.number ≡ k
    → get_or (laid (take (n + 1) fs) ps) k d ≡ f.page
last_laid fs ps n k f d lt is within same =
    ap (λ qs. get_or qs k d) (more_laid fs ps n f lt is ∙ ap (λ m. set (laid (take n fs) ps) m f.page) same)
    ∙ get_or-set_same (laid (take n fs) ps) k f.page d (omega (arith, length-laid (take n fs) ps))

pub other_laid : (fs : List Fresh) (ps : List (Rc Page Global)) (n k : ℕ) (f : Fresh) (d : Rc Page Global) → n < length fs → f ≡ get_or fs n f → k ≢ f.number
    → get_or (laid (take (n + 1) fs) ps) k d ≡ get_or (laid (take n fs) ps) k d
other_laid fs ps n k f d lt is other =
    ap (λ qs. get_or qs k d) (more_laid fs ps n f lt is) ∙ get_or-set_other (laid (take n fs) ps) f.number k f.page d other

-- a page more leaves those of other numbers
pub others_laid : (fs : List Fresh) (ps : List (Rc Page Global)) (f : Fresh) (k : ℕ) (d : Rc Page Global) → k ≢ f.number
    → get_or (laid (fs ++ f ∷ []) ps) k d ≡ get_or (laid fs ps) k d
others_laid fs ps f k d other = ap (λ qs. get_or qs k d) (laid-push fs f ps) ∙ get_or-set_other (laid fs ps) f.number k f.page d other

-- a write that lies in one page, on a copy of it
pub AreFresh-write : (fs : List Fresh) (ps : List (Rc Page Global)) (place : ℕ) (bytes : List ℕ) (e page : Rc Page Global) → ArePages ps → AreFresh (length ps) fs
    → place < length (joined ps) → place % 4096 + length bytes ≤ 4096 → e ≡ get_or (laid fs ps) (place / 4096) e
    → page_bytes page ≡ overwritten (page_bytes e) (place % 4096) bytes
    → AreFresh (length ps) (fs ++ record { number = place / 4096; page = page } ∷ [])
AreFresh-write fs ps place bytes e page are fresh within fits is wrote =
    let all : ArePages (laid fs ps) = ArePages-laid fs ps (length ps) are fresh in
    let inside : place / 4096 < length ps = omega (arith, length-joined ps are) in
    let old : length (page_bytes e) ≡ 4096 = ap (λ p. length (page_bytes p)) is ∙ all.whole (place / 4096) e (omega (arith, length-laid fs ps)) in
    let len : length (page_bytes page) ≡ 4096 = ap length wrote ∙ length-overwritten (page_bytes e) (place % 4096) bytes (omega arith) ∙ old in
    All-push (IsFresh (length ps)) fs (record { number = place / 4096; page = page }) fresh (inside, len)

pub joined-write : (fs : List Fresh) (ps : List (Rc Page Global)) (place : ℕ) (bytes : List ℕ) (e page : Rc Page Global) → ArePages ps → AreFresh (length ps) fs
    → place < length (joined ps) → place % 4096 + length bytes ≤ 4096 → e ≡ get_or (laid fs ps) (place / 4096) e
    → page_bytes page ≡ overwritten (page_bytes e) (place % 4096) bytes
    → joined (laid (fs ++ record { number = place / 4096; page = page } ∷ []) ps) ≡ overwritten (joined (laid fs ps)) place bytes
joined-write fs ps place bytes e page are fresh within fits is wrote =
    ap joined (laid-push fs (record { number = place / 4096; page = page }) ps)
    ∙ joined-set (laid fs ps) place bytes e page (ArePages-laid fs ps (length ps) are fresh) (omega (arith, length-joined_laid fs ps (length ps) are fresh)) fits
    (wrote ∙ ap (λ p. overwritten (page_bytes p) (place % 4096) bytes) is)

-- what fits in a memory's bytes stands in for its pages, and the other way round
pub AllFit-changes : (fs : List Fresh) (bytes : List ℕ) (n : ℕ) → length bytes ≡ 4096 * n → AreFresh n fs → AllFit (map change_of fs) bytes
AllFit-changes [] bytes n len fresh = λ k d lt. absurd (omega arith)
AllFit-changes (f ∷ fs) bytes n len fresh =
    let here : IsFresh n f = All-head (IsFresh n) f fs fresh in
    All-cons (λ (c : ℕ × List ℕ). (4096 * c.0 + 4096 ≤ length bytes) × (length c.1 ≡ 4096)) (change_of f) (map change_of fs) (omega arith, here.1)
    (AllFit-changes fs bytes n len (All-tail (IsFresh n) f fs fresh))

pub AreFresh-changes : (fs : List Fresh) (bytes : List ℕ) (n : ℕ) → length bytes ≡ 4096 * n → AllFit (map change_of fs) bytes → AreFresh n fs
AreFresh-changes [] bytes n len fit = λ k d lt. absurd (omega arith)
AreFresh-changes (f ∷ fs) bytes n len fit =
    let Q : ℕ × List ℕ → Type 0 = λ c. (4096 * c.0 + 4096 ≤ length bytes) × (length c.1 ≡ 4096) in
    let here : Q (change_of f) = All-head Q (change_of f) (map change_of fs) fit in
    All-cons (IsFresh n) f fs (omega arith, here.1) (AreFresh-changes fs bytes n len (All-tail Q (change_of f) (map change_of fs) fit))

-- a front of a front
pub take_front : {X : Type 0} (zs xs ys : List X) → length zs ≤ length xs → take (length zs) xs ≡ zs → take (length xs) ys ≡ xs → take (length zs) ys ≡ zs
take_front zs xs ys le front more = sym (take-take (length zs) (length xs) ys le) ∙ ap (take (length zs)) more ∙ front

pub longer_front : {X : Type 0} (xs ys : List X) → take (length xs) ys ≡ xs → length xs ≤ length ys
longer_front xs ys more = omega (arith, ap length more, length-take (length xs) ys)

-- the last page becomes another
set_last : (fs : List Fresh) (ps : List (Rc Page Global)) (n : ℕ) (f g : Fresh) → length fs ≡ n + 1 → f ≡ get_or fs n f → g.number ≡ f.number
    → laid (set fs n g) ps ≡ set (laid fs ps) f.number g.page
set_last [] ps n f g len is same = absurd (omega arith)
set_last (h ∷ []) ps zero f g len is same =
    let here : f.number ≡ h.number = ap (λ x. x.number) is in
    ap (λ m. set ps m g.page) (same ∙ here) ∙ sym (set-set ps h.number h.page g.page) ∙ ap (λ m. set (set ps h.number h.page) m g.page) (sym here)
set_last (h ∷ (i ∷ fs)) ps zero f g len is same = absurd (omega arith)
set_last (h ∷ fs) ps (suc n) f g len is same = set_last fs (set ps h.number h.page) n f g (omega arith) is same

-- a write that lies in the page that was written last
pub joined-again : (fs : List Fresh) (ps : List (Rc Page Global)) (place : ℕ) (bytes : List ℕ) (e : Fresh) (page : Rc Page Global) → ArePages ps → AreFresh (length ps) fs
    → 0 < length fs → e ≡ get_or fs (length fs - 1) e → e.number ≡ place / 4096 → place < length (joined ps) → place % 4096 + length bytes ≤ 4096
    → page_bytes page ≡ overwritten (page_bytes e.page) (place % 4096) bytes
    → joined (laid (set fs (length fs - 1) (record { number = (get_or fs (length fs - 1) e).number; page = page })) ps) ≡ overwritten (joined (laid fs ps)) place bytes
joined-again fs ps place bytes e page are fresh some is at within fits wrote =
    let n : ℕ = length fs - 1 in
    let len : length fs ≡ n + 1 = omega arith in
    let inside : place / 4096 < length ps = omega (arith, length-joined ps are) in
    let all : take (n + 1) fs ≡ fs = take_all (n + 1) fs (omega arith) in
    let old : get_or (laid fs ps) (place / 4096) page ≡ e.page =
    ap (λ l. get_or (laid l ps) (place / 4096) page) (sym all) ∙ last_laid fs ps n (place / 4096) e page (omega arith) is inside at in
    ap joined (set_last fs ps n e (record { number = (get_or fs n e).number; page = page }) len is (ap (λ x. x.number) (sym is)) ∙ ap (λ m. set (laid fs ps) m page) at)
    ∙ joined-set (laid fs ps) place bytes page page (ArePages-laid fs ps (length ps) are fresh) (omega (arith, length-joined_laid fs ps (length ps) are fresh)) fits
    (wrote ∙ ap (λ p. overwritten (page_bytes p) (place % 4096) bytes) (sym old))

pub joined-again_same : (fs : List Fresh) (ps : List (Rc Page Global)) (place : ℕ) (e : Fresh) (page : Rc Page Global) → ArePages ps → AreFresh (length ps) fs
    → 0 < length fs → e ≡ get_or fs (length fs - 1) e → e.number ≡ place / 4096 → place < length (joined ps) → page_bytes page ≡ page_bytes e.page
    → joined (laid (set fs (length fs - 1) (record { number = (get_or fs (length fs - 1) e).number; page = page })) ps) ≡ joined (laid fs ps)
joined-again_same fs ps place e page are fresh some is at within same =
    joined-again fs ps place [] e page are fresh some is at within (omega arith) (same ∙ sym (overwritten-nil (page_bytes e.page) (place % 4096)))
    ∙ overwritten-nil (joined (laid fs ps)) place

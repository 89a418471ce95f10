-- Pages that stand in for those of a memory.
use Rattle.std.specs.Prelude.{◌≡◌, ◌<◌, ℕ, List, [], ◌∷◌, length, set, ◌-◌, slice_index_or}
use Rattle.std.specs.List.{All}
use Rattle.std.specs.declared.alloc.Global.{Global}
use Rattle.std.specs.declared.rc.Rc.{Rc}
use Rattle.ram_pages.specs.declared.page.Page.{Page}
use Rattle.ram_pages.specs.declared.fresh.Fresh.{Fresh}
use Rattle.ram_pages.specs.Paging.{page_bytes}

-- the pages after each of these took its place, in turn
abbrev pub laid : List Fresh → List (Rc Page Global) → List (Rc Page Global)
laid [] pages = pages
laid (f ∷ fs) pages = laid fs (set pages f.number f.page)

-- it is whole, and stands in for one of so many pages
abbrev pub IsFresh : ℕ → Fresh → Type 0
IsFresh count f = (f.number < count) × (length (page_bytes f.page) ≡ 4096)

-- each is whole, and stands in for one of so many pages
abbrev pub AreFresh : ℕ → List Fresh → Type 0
AreFresh count fresh = All (IsFresh count) fresh

-- the last of these stands in for the page of a number
abbrev pub LastIs : ℕ → List Fresh → Type 0
LastIs number fresh = (f : Fresh) → (slice_index_or fresh (length fresh - 1) f).number ≡ number

-- one page is the same in both
abbrev pub SamePage : ℕ → List (Rc Page Global) → List (Rc Page Global) → Type 0
SamePage number ps qs = (p : Rc Page Global) → slice_index_or ps number p ≡ slice_index_or qs number p

-- the number of a page, and its bytes
abbrev pub change_of : Fresh → ℕ × List ℕ
change_of f = (f.number, page_bytes f.page)

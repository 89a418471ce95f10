use Rattle.std.proofs.Common.{◌≡◌, ◌%◌, ◌/◌, get_or, take, arith, ap, ◌∙◌}
use Rattle.ram_pages.specs.Memory.{overwritten}
use Rattle.ram_pages.specs.Paging.{page_bytes}
use Rattle.ram_pages.specs.Standing.{laid}
use Rattle.ram_pages.proofs.Paging.{length-joined}
use Rattle.ram_pages.proofs.Standing.{AreFresh-write, joined-write, others_laid}
use Rattle.ram_pages.proofs.fresh.write_page_with.Goals as goal

pub page_at-requires : goal.page_at-requires
page_at-requires c = omega (arith, length-joined c.args.pages.now c.requires.whole)

-- the copy is written as the page that it was made of would be
pub returns-clause-fresh : goal.returns-clause-fresh
returns-clause-fresh c =
    let e = c.page_at.result.now in
    let is : e ≡ get_or (laid c.args.fresh.now.items c.args.pages.now) (c.args.place / 4096) e =
    c.page_at.ensures ∙ ap (λ fs. get_or (laid (take c.args.older fs) c.args.pages.now) (c.args.place / 4096) e) c.as_slice.ensures.value ∙ c.requires.same e in
    let wrote : page_bytes c.write.new.page ≡ overwritten (page_bytes e) (c.args.place % 4096) c.args.bytes.now =
    c.in_ok-write.ensures.ok ∙ ap (λ p. overwritten p.bytes (c.args.place % 4096) c.args.bytes.now) c.in_ok-page.ensures.cases in
    rw c.in_ok-push.ensures.items
    (AreFresh-write c.args.fresh.now.items c.args.pages.now c.args.place c.args.bytes.now e c.write.new.page c.requires.whole c.requires.fresh c.requires.within c.requires.one_page is wrote)

pub returns-clause-ok : goal.returns-clause-ok
returns-clause-ok c =
    let e = c.page_at.result.now in
    let is : e ≡ get_or (laid c.args.fresh.now.items c.args.pages.now) (c.args.place / 4096) e =
    c.page_at.ensures ∙ ap (λ fs. get_or (laid (take c.args.older fs) c.args.pages.now) (c.args.place / 4096) e) c.as_slice.ensures.value ∙ c.requires.same e in
    let wrote : page_bytes c.write.new.page ≡ overwritten (page_bytes e) (c.args.place % 4096) c.args.bytes.now =
    c.in_ok-write.ensures.ok ∙ ap (λ p. overwritten p.bytes (c.args.place % 4096) c.args.bytes.now) c.in_ok-page.ensures.cases in
    rw c.in_ok-push.ensures.items
    (joined-write c.args.fresh.now.items c.args.pages.now c.args.place c.args.bytes.now e c.write.new.page c.requires.whole c.requires.fresh c.requires.within c.requires.one_page is wrote)

pub returns-clause-others : goal.returns-clause-others
returns-clause-others c = λ number other p.
    ap (λ l. get_or (laid l c.args.pages.now) number p) c.in_ok-push.ensures.items
    ∙ others_laid c.args.fresh.now.items c.args.pages.now (record { number = c.args.place / 4096; page = c.write.new.page }) number p other

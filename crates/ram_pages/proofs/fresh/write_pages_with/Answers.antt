use Rattle.std.proofs.Common.{◌≡◌, ◌≤◌, ◌+◌, ◌-◌, ◌/◌, get_or, arith, ap, ◌∙◌, sym, take, drop, length, List, ℕ, length-take-le, length-drop}
use Rattle.std.proofs.Math.Seq.{take-add}
use Rattle.ram_pages.specs.Memory.{overwritten}
use Rattle.ram_pages.specs.Paging.{joined}
use Rattle.ram_pages.specs.Standing.{laid}
use Rattle.ram_pages.proofs.Paging.{length-joined}
use Rattle.ram_pages.proofs.Pieces.{overwritten-overwritten}
use Rattle.ram_pages.proofs.Standing.{length-joined_laid, take_front, longer_front}
use Rattle.ram_pages.proofs.fresh.write_pages_with.Goals as goal

-- the next part is written behind the one before
wrote_more : (xs fresh : List ℕ) (place done count : ℕ) → place + length fresh ≤ length xs → done + count ≤ length fresh
    → overwritten (overwritten xs place (take done fresh)) (place + done) (take count (drop done fresh)) ≡ overwritten xs place (take (done + count) fresh)
wrote_more xs fresh place done count fits more =
    let before : length (take done fresh) ≡ done = length-take-le done fresh (omega arith) in
    let now : length (take count (drop done fresh)) ≡ count = length-take-le count (drop done fresh) (omega (arith, length-drop done fresh)) in
    ap (λ m. overwritten (overwritten xs place (take done fresh)) (place + m) (take count (drop done fresh))) (sym before)
    ∙ overwritten-overwritten xs place (take done fresh) (take count (drop done fresh)) (omega arith)
    ∙ ap (overwritten xs place) (sym (take-add done count fresh))

pub overflow_add-room : goal.overflow_add-room
overflow_add-room c = omega (arith, length-joined c.args.pages.now c.requires.whole)

pub overflow_add-place : goal.overflow_add-place
overflow_add-place c = omega (arith, length-joined c.args.pages.now c.requires.whole)

pub loop-done-preserved : goal.loop-done-preserved
loop-done-preserved c =
    let pages = c.args.pages.now in
    let fits : c.loop-done.done + c.min-count.result ≤ length c.args.bytes.now = omega (arith, c.min-count.ensures) in
    let step : c.loop-done.done + c.min-count.result - c.loop-done.done ≡ c.min-count.result = omega arith in
    let len : length (joined (laid c.args.fresh.now.items pages)) ≡ length (joined pages) = length-joined_laid c.args.fresh.now.items pages (length pages) c.requires.whole c.requires.fresh in
    let more : length c.loop-done.fresh.items ≤ length c.write_page_with.new.fresh.items = longer_front c.loop-done.fresh.items c.write_page_with.new.fresh.items c.write_page_with.ensures.front in
    record {
      fresh = c.write_page_with.ensures.fresh;
      longer = omega arith;
      front = take_front c.args.fresh.now.items c.loop-done.fresh.items c.write_page_with.new.fresh.items c.loop-done.invariant.longer c.loop-done.invariant.front c.write_page_with.ensures.front;
      wrote = c.in_ok-write_page_with.ensures.ok
          ∙ ap (λ n. overwritten (joined (laid c.loop-done.fresh.items pages)) (c.args.place + c.loop-done.done) (take n (drop c.loop-done.done c.args.bytes.now))) step
          ∙ ap (λ xs. overwritten xs (c.args.place + c.loop-done.done) (take c.min-count.result (drop c.loop-done.done c.args.bytes.now))) c.loop-done.invariant.wrote
          ∙ wrote_more (joined (laid c.args.fresh.now.items pages)) c.args.bytes.now c.args.place c.loop-done.done c.min-count.result (omega arith) fits;
      ahead = λ more n at p.
          c.in_ok-write_page_with.ensures.others n (omega (arith, c.min-count.ensures)) p
          ∙ c.loop-done.invariant.ahead (omega arith) n (omega arith) p;
      fits = fits;
    }

pub write_page_with-requires-clause-same : goal.write_page_with-requires-clause-same
write_page_with-requires-clause-same c = λ p.
    let n = (c.args.place + c.loop-done.done) / 4096 in
    ap (λ l. get_or (laid (take (length l) c.loop-done.fresh.items) c.args.pages.now) n p) c.as_slice-older.ensures.value
    ∙ ap (λ l. get_or (laid l c.args.pages.now) n p) c.loop-done.invariant.front ∙ sym (c.loop-done.invariant.ahead (omega arith) n (omega arith) p)

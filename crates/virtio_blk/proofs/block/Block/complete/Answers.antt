use Rattle.std.proofs.Common.{◌≡◌, ◌∙◌, ◌/◌, ℕ, List, sym, ap, refl, arith, get_or, map, cond, Some, None, Ok, Err, length, subst}
use Rattle.std.specs.Prelude.{position, ◌==◌, remove}
use Rattle.std.specs.List.{All}
use Rattle.std.proofs.lemmas.Option.{slice_get_read}
use Rattle.std.proofs.lemmas.List.Edits.{length-remove}
use Rattle.std.proofs.lemmas.List.Quantifiers.{position-Some}
use Rattle.ram_pages.specs.Draft.{with_pages}
use Rattle.vio_mmio.specs.GiveBack.{given_back}
use Rattle.overlay_disk.specs.Sectors.{Disk, sector_of}
use Rattle.virtio_blk.specs.declared.complete.CompleteError.TheVariants.{NotARead}
use Rattle.virtio_blk.specs.declared.notify.Parsed.{Parsed}
use Rattle.virtio_blk.specs.Notify.{flight_of, ask_of}
use Rattle.std.specs.Option.{option_map}
use Rattle.virtio_blk.specs.Drive.{Drive, flight_in, request_of}
use Rattle.virtio_blk.specs.Requests.{KindFits}
use Rattle.virtio_blk.specs.Completed.{BaseFits, answered, completed_over, finished, look_over, put_over, scene_of, status_of, used_of}
use Rattle.virtio_blk.proofs.Completions.{completed-is, base_is_whole, not_refused}
use Rattle.virtio_blk.proofs.Flights.{flight_in-map, flight_in-none, without-map, ids-remove, All-remove}
use Rattle.virtio_blk.proofs.block.Block.complete.Goals as goal

-- the request at a place where its id stands
at : (id : ℕ) (ps qs : List Parsed) (place : ℕ) (p : Parsed) → qs ≡ ps → position (λ (p : Parsed). p.id == id) ps ≡ Some place → p ≡ get_or qs place p
    → flight_in (map flight_of ps) id ≡ Some (flight_of p)
at id ps qs place p same here is =
    flight_in-map id ps place p here
    (slice_get_read ps (length ps) place p refl (position-Some (λ (p : Parsed). p.id == id) ps place p here).0 (is ∙ ap (λ l. get_or l place p) same))

pub returns-in_default : goal.returns-in_default
returns-in_default c =
    let ps = c.self.inside.parsed.items in
    let d : Drive = record { transport = c.self.inside.transport; disk = c.self.inside.disk; next = c.self.inside.next; flights = map flight_of ps } in
    let none = ap (position (λ (p : Parsed). p.id == c.args.id)) (sym c.as_slice.ensures.value) ∙ sym c.in_default.ensures in (
      ap (λ d. completed_over c.args.base.now c.args.id c.args.ok d c.args.ram.now) (sym c.self.view_is)
          ∙ completed-is put_over (look_over c.args.base.now) (d.disk.len / 512) c.args.id c.args.ok (scene_of d c.args.ram.now) None (flight_in-none c.args.id ps none),
      refl,
      refl,
    )

pub returns-then-is_refused : goal.returns-then-is_refused
returns-then-is_refused c =
    let ps = c.self.inside.parsed.items in
    let p = c.index-all-place.result in
    let id = c.args.id in
    let base = c.args.base.now in
    let d : Drive = record { transport = c.self.inside.transport; disk = c.self.inside.disk; next = c.self.inside.next; flights = map flight_of ps } in
    let here = ap (position (λ (p : Parsed). p.id == id)) (sym c.as_slice.ensures.value) ∙ sym c.in-Some.ensures in
    let s = scene_of d c.args.ram.now in
    let sectors = d.disk.len / 512 in (
      ap (λ d. completed_over base id c.args.ok d c.args.ram.now) (sym c.self.view_is)
          ∙ completed-is put_over (look_over base) sectors id c.args.ok s (Some (flight_of p)) (at id ps c.as_slice-all.result.now c.in-Some.place p c.as_slice-all.ensures.value here c.index-all-place.is)
          ∙ ap (λ b. cond b (Err (NotARead id)) (Ok (finished put_over sectors id (ask_of p) c.args.ok (look_over base p.kind c.args.ok s.disk) s))) (sym c.if-is_refused.ensures),
      refl,
      refl,
    )

pub look-requires-clause-whole : goal.look-requires-clause-whole
look-requires-clause-whole c =
    let ps = c.self.inside.parsed.items in
    let p = c.index-all-place.result in
    let here = ap (position (λ (p : Parsed). p.id == c.args.id)) (sym c.as_slice.ensures.value) ∙ sym c.in-Some.ensures in
    let is : flight_in c.args.self.now.flights c.args.id ≡ Some (flight_of p) = ap (λ d. flight_in d.flights c.args.id) (sym c.self.view_is) ∙ at c.args.id ps c.as_slice-all.result.now c.in-Some.place p c.as_slice-all.ensures.value here c.index-all-place.is in
    base_is_whole p.id p.kind c.args.ok c.args.base.now (subst (λ f. BaseFits (option_map request_of f) c.args.ok c.args.base.now) is c.requires)

pub invariant_of-self-2 : goal.invariant_of-self-2
invariant_of-self-2 c =
    let ps = c.self.inside.parsed.items in
    let place = c.in-Some.place in
    let p = c.index-all-place.result in
    let here = ap (position (λ (p : Parsed). p.id == c.args.id)) (sym c.as_slice.ensures.value) ∙ sym c.in-Some.ensures in
    let within = (position-Some (λ (p : Parsed). p.id == c.args.id) ps place p here).0 in
    let kept = All-remove (λ (p : Parsed). KindFits p.kind (c.self.inside.disk.len / 512)) ps place c.self.invariant.fit in
    record {
      ids = c.remove.ensures.items ∙ ap (λ l. remove l place) c.self.invariant.ids ∙ sym (ids-remove ps place) ∙ ap (map (λ (p : Parsed). p.id)) (sym c.remove-2.ensures.items);
      few = omega (arith, c.self.invariant.few, ap length c.remove-2.ensures.items, length-remove ps place within);
      fit = subst (λ n. All (λ (p : Parsed). KindFits p.kind (n / 512)) c.remove-2.new.self.items) (sym c.in-Ok-write_disk.ensures.len)
          (subst (All (λ (p : Parsed). KindFits p.kind (c.self.inside.disk.len / 512))) (sym c.remove-2.ensures.items) kept);
    }

pub returns : goal.returns
returns c =
    let ps = c.self.inside.parsed.items in
    let p = c.index-all-place.result in
    let id = c.args.id in
    let ok = c.args.ok in
    let base = c.args.base.now in
    let ram = c.args.ram.now in
    let t = c.self.inside.transport in
    let head = p.chain.head in
    let writable = p.chain.writable.items in
    let d : Drive = record { transport = t; disk = c.self.inside.disk; next = c.self.inside.next; flights = map flight_of ps } in
    let here = ap (position (λ (p : Parsed). p.id == id)) (sym c.as_slice.ensures.value) ∙ sym c.in-Some.ensures in
    let s = scene_of d ram in
    let sectors = d.disk.len / 512 in
    let found = look_over base p.kind ok (sector_of d.disk) in
    let changes = c.finish-changes.result in
    let answer_of = answered ram writable found (status_of p.kind ok) in
    let after : c.answer.new.draft.bytes ≡ answer_of =
    c.in-Ok-answer.ensures.ok ∙ ap (λ m. answered m c.as_slice-writable.result.now c.as_slice-2.result.now c.status.result) c.draft-draft.ensures.bytes
    ∙ ap (λ w. answered ram w c.as_slice-2.result.now c.status.result) c.as_slice-writable.ensures.value
    ∙ ap (λ f. answered ram writable f c.status.result) (c.as_slice-2.ensures.value ∙ c.in-Ok.ensures) ∙ ap (answered ram writable found) c.status.ensures in
    let before : c.give_back.new.draft.before ≡ ram = c.in-Ok-give_back.ensures.before ∙ c.in-Ok-answer.ensures.before ∙ c.draft-draft.ensures.before in
    let put_in : c.commit.new.self ≡ c.give_back.new.draft.bytes = c.commit.ensures ∙ ap (with_pages changes) (sym before) ∙ c.finish-changes.ensures.whole in
    let back : (c.commit.new.self, c.give_back.new.self) ≡ given_back answer_of t 0 head (used_of p.kind ok writable) =
    ap (λ m. (m, c.give_back.new.self)) put_in ∙ c.in-Ok-give_back.ensures.ok ∙ ap (λ m. given_back m t 0 head c.used-used.result) after
    ∙ ap (given_back answer_of t 0 head) (c.used-used.ensures ∙ ap (used_of p.kind ok) c.as_slice-writable.ensures.value) in
    let flights = without-map id ps c.in-Some.place here ∙ ap (map flight_of) (sym c.remove-2.ensures.items) in
    let disk = sym c.in-Ok-write_disk.ensures.ok in (
      ap (λ d. completed_over base id ok d ram) (sym c.self.view_is)
          ∙ completed-is put_over (look_over base) sectors id ok s (Some (flight_of p)) (at id ps c.as_slice-all.result.now c.in-Some.place p c.as_slice-all.ensures.value here c.index-all-place.is)
          ∙ ap (λ b. cond b (Err (NotARead id)) (Ok (finished put_over sectors id (ask_of p) ok (look_over base p.kind ok s.disk) s))) (sym c.if-is_refused.ensures)
          ∙ ap Ok (λ i. record { transport = (sym back i).1; flights = flights i; ram = (sym back i).0; disk = disk i }),
      ap (λ d. d.next) c.self.view_is,
      c.in-Ok-write_disk.ensures.len ∙ ap (λ d. d.disk.len) c.self.view_is,
    )

pub returns-in_default-look : goal.returns-in_default-look
returns-in_default-look c =
    let p = c.index-all-place.result in
    let here = ap (position (λ (p : Parsed). p.id == c.args.id)) (sym c.as_slice.ensures.value) ∙ sym c.in-Some.ensures in
    let is : flight_in c.args.self.now.flights c.args.id ≡ Some (flight_of p) = ap (λ d. flight_in d.flights c.args.id) (sym c.self.view_is) ∙ at c.args.id c.self.inside.parsed.items c.as_slice-all.result.now c.in-Some.place p c.as_slice-all.ensures.value here c.index-all-place.is in
    (not_refused c.args.base.now c.args.id c.args.ok c.args.self.now c.args.ram.now (flight_of p) is (sym c.if-is_refused.ensures), refl, refl)

pub returns-in_default-answer : goal.returns-in_default-answer
returns-in_default-answer c =
    let p = c.index-all-place.result in
    let here = ap (position (λ (p : Parsed). p.id == c.args.id)) (sym c.as_slice.ensures.value) ∙ sym c.in-Some.ensures in
    let is : flight_in c.args.self.now.flights c.args.id ≡ Some (flight_of p) = ap (λ d. flight_in d.flights c.args.id) (sym c.self.view_is) ∙ at c.args.id c.self.inside.parsed.items c.as_slice-all.result.now c.in-Some.place p c.as_slice-all.ensures.value here c.index-all-place.is in
    (not_refused c.args.base.now c.args.id c.args.ok c.args.self.now c.args.ram.now (flight_of p) is (sym c.if-is_refused.ensures), refl, refl)

pub returns-in_default-give_back : goal.returns-in_default-give_back
returns-in_default-give_back c =
    let p = c.index-all-place.result in
    let here = ap (position (λ (p : Parsed). p.id == c.args.id)) (sym c.as_slice.ensures.value) ∙ sym c.in-Some.ensures in
    let is : flight_in c.args.self.now.flights c.args.id ≡ Some (flight_of p) = ap (λ d. flight_in d.flights c.args.id) (sym c.self.view_is) ∙ at c.args.id c.self.inside.parsed.items c.as_slice-all.result.now c.in-Some.place p c.as_slice-all.ensures.value here c.index-all-place.is in
    (not_refused c.args.base.now c.args.id c.args.ok c.args.self.now c.args.ram.now (flight_of p) is (sym c.if-is_refused.ensures), refl, refl)

pub returns-in_default-write_disk : goal.returns-in_default-write_disk
returns-in_default-write_disk c =
    let p = c.index-all-place.result in
    let here = ap (position (λ (p : Parsed). p.id == c.args.id)) (sym c.as_slice.ensures.value) ∙ sym c.in-Some.ensures in
    let is : flight_in c.args.self.now.flights c.args.id ≡ Some (flight_of p) = ap (λ d. flight_in d.flights c.args.id) (sym c.self.view_is) ∙ at c.args.id c.self.inside.parsed.items c.as_slice-all.result.now c.in-Some.place p c.as_slice-all.ensures.value here c.index-all-place.is in
    let inside = c.self.inside in
    let view : Disk → Drive = λ d. record { transport = inside.transport; disk = d; next = inside.next; flights = map flight_of inside.parsed.items } in (
      not_refused c.args.base.now c.args.id c.args.ok c.args.self.now c.args.ram.now (flight_of p) is (sym c.if-is_refused.ensures),
      ap view c.in_default-write_disk.ensures.err ∙ c.self.view_is,
      refl,
    )

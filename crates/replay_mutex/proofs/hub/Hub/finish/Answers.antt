use Rattle.std.proofs.Common.{rules, ◌≡◌, ◌<◌, List, [], ◌∷◌, length, refl, sym, ap, ◌∙◌, subst, inl, arith}
use Rattle.std.proofs.lemmas.List.{append-nil}
use Rattle.std.proofs.lemmas.List.Elements.{All-nil}
use Rattle.std.specs.Prelude.{All}
use Rattle.plain_hub.specs.declared.entry.Entry.{Entry}
use Rattle.plain_hub.specs.Past.{Past}
use Rattle.plain_hub.proofs.Contained.{all_head, all_tail, all_end}
use Rattle.replay_mutex.specs.declared.pass.Pass.{Pass}
use Rattle.replay_mutex.specs.Shown.{knows, table_of}
use Rattle.replay_mutex.specs.Row.{IsWhole}
use Rattle.replay_mutex.proofs.Taken.{takes_in}
use Rattle.replay_mutex.proofs.Closings.{IsIn, closing_step, whole_history, is_whole, same_hub, not_empty}
use Rattle.replay_mutex.proofs.hub.Hub.finish.Goals as goal

pub join_seat-requires : goal.join_seat-requires
join_seat-requires c =
    let i = c.loop-pass.invariant in
    let p = c.in-Some.pass in
    let z = c.args.self.board.shared.table_id in
    let mine = all_end (λ (q : Pass). table_of q ≡ z) c.pop.new.self.items p (subst (λ l. All (λ (q : Pass). table_of q ≡ z) l) c.in-Some.ensures.items i.mine) in
    (i.place, mine, p.empty, subst (λ n. 0 < n) (sym c.args.self.sized.0) (omega arith), takes_in _ c.loop-pass.seat.me.0 i.here i.number i.free _ (knows p) p.here p.free)

pub loop-pass-preserved : goal.loop-pass-preserved
loop-pass-preserved c =
    let j = c.join_seat.ensures in
    closing_step c.args.self.board.shared.table_id c.args.others.items (knows c.args.first) c.loop-pass.left.items c.pop.new.self.items c.in-Some.pass c.loop-pass.seat.table_id c.join_seat.new.seat.table_id c.loop-pass.seat.me c.join_seat.new.seat.me c.loop-pass.invariant c.in-Some.ensures.items j.0 j.2

pub unreachable-requires : goal.unreachable-requires
unreachable-requires c =
    let none_left : length c.loop-pass.left.items ≡ 0 = search rules in
    let t = whole_history c.args.self.board.shared.table_id c.args.others.items c.args.first c.loop-pass.left.items c.loop-pass.seat.table_id c.loop-pass.seat.me c.loop-pass.seat.id _ _ c.loop-pass.invariant none_left c.requires.first c.requires.all c.close_with-closed.ensures.values.2 c.take.result c.take.ensures.value in
    not_empty c.take.result t.0 t.1 c.in_default-take.is

pub returns : goal.returns
returns c =
    let none_left : length c.loop-pass.left.items ≡ 0 = search rules in
    let t = whole_history c.args.self.board.shared.table_id c.args.others.items c.args.first c.loop-pass.left.items c.loop-pass.seat.table_id c.loop-pass.seat.me c.loop-pass.seat.id _ _ c.loop-pass.invariant none_left c.requires.first c.requires.all c.close_with-closed.ensures.values.2 c.take.result c.take.ensures.value in
    let same : t.0 ≡ c.in-Some-take.hub = same_hub c.take.result t.0 c.in-Some-take.hub t.1 c.in-Some-take.is in
    let whole = is_whole t.0 c.args.first c.args.others.items t.2 (subst (λ (h : Past). Rattle.plain_hub.specs.Proper.Proper h.base h.entries) (sym same) c.len-kept.ensures.proper) c.requires.count in
    subst (λ (l : List Entry). IsWhole l (c.args.first ∷ c.args.others.items)) (ap (λ (h : Past). h.entries) same ∙ sym c.into_entries.ensures ∙ sym c.new.ensures) whole

pub loop-pass-init : goal.loop-pass-init
loop-pass-init c =
    let first = c.args.first in
    let z = c.args.self.board.shared.table_id in
    record {
      place = all_head (λ (q : Pass). table_of q ≡ z) first c.args.others.items c.requires.own;
      mine = all_tail (λ (q : Pass). table_of q ≡ z) first c.args.others.items c.requires.own;
      empty = first.empty;
      here = first.here;
      number = first.numbered ∙ c.requires.first;
      free = first.free;
      base = refl;
      made = refl;
      calls = refl;
      seen = inl refl;
      others = ([], sym (append-nil c.args.others.items), All-nil (IsIn (knows first).joined));
    }

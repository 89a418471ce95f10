use Rattle.std.proofs.Common.{◌==◌, ◌∙◌, sym, ap, Some, cond}
use Rattle.std.proofs.lemmas.Result.{on_ok_weaker}
use Rattle.std.specs.Option.{option_map}
use Rattle.std.specs.Ordering.{nat_cmp}
use Rattle.std.specs.BTreeMap.{is_at}
use Rattle.std.specs.Map.{lookup}
use Rattle.overlay_disk.specs.declared.tree.Node.{out-Node}
use Rattle.overlay_disk.specs.Trees.{node_entries, entries_of, sector_in}
use Rattle.overlay_disk.proofs.Sown.{node_entries-roll, lookup-sown, lookup-node, with_odd, with_even}
use Rattle.overlay_disk.proofs.tree.+put.Goals as goal

pub returns-then-sector-eq1-clause-ok : goal.returns-then-sector-eq1-clause-ok
returns-then-sector-eq1-clause-ok t c =
    let n = out-Node c.in-Some-get_mut.node.now in
    let s = c.args.sector in
    let b = c.args.fresh.value.bytes in
    let odd = c.put.new.tree in
    on_ok_weaker c.put.result
    (λ wrote k.
    ap (lookup (is_at (nat_cmp k))) (node_entries-roll n.here odd n.even) ∙ lookup-sown n.here (entries_of odd) (entries_of n.even) k
    ∙ with_odd k s (option_map (λ s. s.value.bytes) n.here) (sector_in n.odd) (sector_in odd) (sector_in n.even) b c.if-sector-eq0.false c.if-sector-eq1.true wrote
    ∙ ap (cond (k == s) (Some b)) (sym (lookup-node c.in-Some-get_mut.node.now k)
    ∙ ap (λ n. lookup (is_at (nat_cmp k)) (node_entries n)) c.in-Some-get_mut.ensures.value
    ∙ ap (λ t. sector_in t k) (sym c.in-Some.is) ∙ ap (lookup (is_at (nat_cmp k))) c.own_root.ensures.same))
    c.put.ensures.ok

pub returns-else-sector-eq1-clause-ok : goal.returns-else-sector-eq1-clause-ok
returns-else-sector-eq1-clause-ok t c =
    let n = out-Node c.in-Some-get_mut.node.now in
    let s = c.args.sector in
    let b = c.args.fresh.value.bytes in
    let even = c.put-else-sector-eq1.new.tree in
    on_ok_weaker c.put-else-sector-eq1.result
    (λ wrote k.
    ap (lookup (is_at (nat_cmp k))) (node_entries-roll n.here n.odd even) ∙ lookup-sown n.here (entries_of n.odd) (entries_of even) k
    ∙ with_even k s (option_map (λ s. s.value.bytes) n.here) (sector_in n.odd) (sector_in n.even) (sector_in even) b c.if-sector-eq0.false c.if-sector-eq1.false wrote
    ∙ ap (cond (k == s) (Some b)) (sym (lookup-node c.in-Some-get_mut.node.now k)
    ∙ ap (λ n. lookup (is_at (nat_cmp k)) (node_entries n)) c.in-Some-get_mut.ensures.value
    ∙ ap (λ t. sector_in t k) (sym c.in-Some.is) ∙ ap (lookup (is_at (nat_cmp k))) c.own_root.ensures.same))
    c.put-else-sector-eq1.ensures.ok

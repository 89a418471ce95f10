-- What is shown once the packets that were taken are put back.
use Rattle.std.proofs.Common.{◌≡◌, ℕ, List, [], ◌++◌, Bool, true, false, cond, nat_eq, ap, refl, append_assoc, append-nil}
use Rattle.vio_mmio.specs.Registers.{queue_of, live_of}
use Rattle.virtio_net.specs.Card.{Card, Scene, after_drain, after_fill, after_refill, joined, notified, received}
use Rattle.virtio_net.specs.Packets.{Waiting, drained, fill_of, refilled}
use Rattle.virtio_net.specs.Shown.{shown, scene_shown}

by_test : (taken : List (List ℕ)) (b : Bool) (x y u v : Scene) → x ≡ scene_shown taken u → y ≡ scene_shown taken v → cond b x y ≡ scene_shown taken (cond b u v)
by_test taken true x y u v left right = left
by_test taken false x y u v left right = right

drain_is : (taken : List (List ℕ)) (c : Card) (w : Waiting) → after_drain (shown taken c) w ≡ scene_shown taken (after_drain c w)
drain_is taken c w = ap (λ l. record { card = record { transport = w.transport; backlog = c.backlog; sent = l }; ram = w.ram }) (append_assoc taken c.sent w.packets)

pub notify_is_shown : (taken : List (List ℕ)) (c : Card) (ram : List ℕ) (q : ℕ) → notified (shown taken c) ram q ≡ scene_shown taken (notified c ram q)
notify_is_shown taken c ram q =
    let back = refilled (queue_of c.transport 0).size (record { ram = ram; transport = c.transport; packets = c.backlog }) in
    let out = drained (queue_of c.transport 1).size ram c.transport in
    let same : Scene = record { card = c; ram = ram } in
    by_test taken (nat_eq q 0) _ _ (after_refill c back) (cond (nat_eq q 1) (after_drain c out) same) refl
    (by_test taken (nat_eq q 1) _ _ (after_drain c out) same (drain_is taken c out) refl)

pub receive_is_shown : (taken : List (List ℕ)) (c : Card) (ram packet : List ℕ) → received (shown taken c) ram packet ≡ scene_shown taken (received c ram packet)
receive_is_shown taken c ram packet =
    by_test taken (live_of c.transport 0) _ _ (after_fill c packet (fill_of ram c.transport packet)) (record { card = record c { backlog = joined c.backlog packet }; ram = ram }) refl refl

pub take_is_shown : (taken : List (List ℕ)) (c : Card) → shown (taken ++ c.sent) (record c { sent = [] }) ≡ shown taken c
take_is_shown taken c = ap (λ l. record c { sent = l }) (append-nil (taken ++ c.sent))

-- A device as it is once the packets that were taken before are put back.
use Rattle.std.specs.Prelude.{◌≡◌, ℕ, List, [], ◌++◌}
use Rattle.virtio_net.specs.Card.{Card, Scene, notified, received}

-- the card with all packets sent so far, of which these were taken
abbrev pub shown : List (List ℕ) → Card → Card
shown taken c = record c { sent = taken ++ c.sent }

-- what the device and its memory show then
abbrev pub scene_shown : List (List ℕ) → Scene → Scene
scene_shown taken s = record { card = shown taken s.card; ram = s.ram }

-- a notify does to what is shown what it does to the card
abbrev pub NotifyIsShown : Type 0
NotifyIsShown =
    (taken : List (List ℕ)) (c : Card) (ram : List ℕ) (q : ℕ)
    → notified (shown taken c) ram q ≡ scene_shown taken (notified c ram q)

-- a packet that arrives does to what is shown what it does to the card
abbrev pub ReceiveIsShown : Type 0
ReceiveIsShown =
    (taken : List (List ℕ)) (c : Card) (ram packet : List ℕ)
    → received (shown taken c) ram packet ≡ scene_shown taken (received c ram packet)

-- taking the packets away changes nothing that is shown
abbrev pub TakeIsShown : Type 0
TakeIsShown =
    (taken : List (List ℕ)) (c : Card)
    → shown (taken ++ c.sent) (record c { sent = [] }) ≡ shown taken c

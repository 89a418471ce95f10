use Rattle.std.proofs.Common.{◌∙◌, ◌++◌, ◌∷◌, [], ap, sym, drop, take, map, cond, length, append-nil}
use Rattle.std.proofs.lemmas.List.{map-append}
use Rattle.vio_mmio.specs.Spread.{gathered}
use Rattle.virtio_net.specs.Card.{bytes_of}
use Rattle.virtio_net.specs.Packets.{is_packet}
use Rattle.virtio_net.proofs.Sends.{packet_of_first}
use Rattle.virtio_net.proofs.transmit.add_packet.Goals as goal

pub returns-then-not-is_length-clause-packet : goal.returns-then-not-is_length-clause-packet
returns-then-not-is_length-clause-packet c =
    let old = map bytes_of c.args.sent.now.items in
    let all = drop 12 (gathered c.args.draft.now.bytes c.args.chain.now.readable.items) in
    let bytes = c.in_ok-bytes.bytes.items in
    let is = c.in_ok-bytes.ensures ∙ ap (λ s. take 1515 (drop 12 (gathered c.args.draft.now.bytes s))) c.as_slice.ensures.value in
    let short = ap (λ l. is_packet (length l)) (sym is ∙ sym c.as_slice-2.ensures.value) ∙ sym c.if-not-is_length.ensures in
    sym (append-nil old) ∙ ap (λ l. old ++ l) (sym (ap (λ b. cond b (take 1515 all ∷ []) []) short) ∙ packet_of_first all)

pub returns-clause-packet : goal.returns-clause-packet
returns-clause-packet c =
    let old = map bytes_of c.args.sent.now.items in
    let all = drop 12 (gathered c.args.draft.now.bytes c.args.chain.now.readable.items) in
    let bytes = c.in_ok-bytes.bytes.items in
    let is = c.in_ok-bytes.ensures ∙ ap (λ s. take 1515 (drop 12 (gathered c.args.draft.now.bytes s))) c.as_slice.ensures.value in
    let long = ap (λ l. is_packet (length l)) (sym is ∙ sym c.as_slice-2.ensures.value) ∙ sym c.if-not-is_length.ensures in
    ap (map bytes_of) c.in_ok-push.ensures.items ∙ map-append bytes_of c.args.sent.now.items _
    ∙ ap (λ l. old ++ (l ∷ [])) is ∙ ap (λ l. old ++ l) (sym (ap (λ b. cond b (take 1515 all ∷ []) []) long) ∙ packet_of_first all)

use Rattle.std.proofs.Common.{◌≡◌, ◌+◌, []}
use Rattle.std.specs.Prelude.{vec_len}
use Rattle.replay_mutex.specs.Views.{newcomer}
use Rattle.replay_mutex.proofs.Rows.{AreOthers}
use Rattle.replay_mutex.proofs.open.make.Given as goal

-- the passes before this number were made
abbrev pub invariant-loop-number : goal.invariant-loop-number
invariant-loop-number l = (l.seat.table_id ≡ l.board.shared.table_id) × (l.seat.me ≡ (newcomer l.fn.mark 0 l.number, [])) × (vec_len l.passes + 1 ≡ l.number) × AreOthers l.board.shared.table_id l.fn.mark l.passes.items

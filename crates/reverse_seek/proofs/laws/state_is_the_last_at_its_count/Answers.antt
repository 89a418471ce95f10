use Rattle.reverse_seek.proofs.LastAt.{last-at-its-count}
use Rattle.reverse_seek.proofs.laws.state_is_the_last_at_its_count.Goals as goal

pub returns : goal.returns
returns c = last-at-its-count

use Rattle.board.proofs.ClockLaws.{resumes}
use Rattle.board.proofs.laws.resumes_at_deadline.Goals as goal

pub returns : goal.returns
returns c = resumes

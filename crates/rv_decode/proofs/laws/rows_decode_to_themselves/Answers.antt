use Rattle.rv_decode.proofs.OwnWords.{decode_themselves}
use Rattle.rv_decode.proofs.laws.rows_decode_to_themselves.Goals as goal

pub returns : goal.returns
returns c = decode_themselves

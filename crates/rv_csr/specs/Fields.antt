-- The fields of mstatus as the code keeps them.
use Rattle.rv_csr.specs.declared.status.Status.{Status as Kept}
use Rattle.rv_csr.specs.Control.{Status}

-- the fields as contracts see them
abbrev pub shown_status : Kept → Status
shown_status s = record { mie = s.mie; mpie = s.mpie; mpp = s.mpp; mprv = s.mprv; tw = s.tw }

-- the fields as they are kept
abbrev pub inner_status : Status → Kept
inner_status s = record { mie = s.mie; mpie = s.mpie; mpp = s.mpp; mprv = s.mprv; tw = s.tw }

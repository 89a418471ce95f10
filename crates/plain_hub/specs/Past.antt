-- What contracts see of a hub.
use Rattle.std.specs.Prelude.{ℕ, List, [], ◌∷◌, ◌++◌}
use Rattle.plain_hub.specs.declared.base.Base.{Base}
use Rattle.plain_hub.specs.declared.entry.Call.{Call}
use Rattle.plain_hub.specs.declared.entry.Entry.{Entry}
use Rattle.plain_hub.specs.Hub.{entry}

-- its base, which never changes, and all calls that left an entry
pub record Past : Type 0 where
  pub base : Base
  pub entries : List Entry

-- a hub with this base and history
abbrev pub past : Base → List Entry → Past
past b es = record { base = b; entries = es }

-- a hub that no pass has called
abbrev pub fresh : Base → Past
fresh b = past b []

-- the hub with one entry more
abbrev pub and_then : Past → ℕ → Call → Past
and_then h p c = record h { entries = h.entries ++ entry p c ∷ [] }

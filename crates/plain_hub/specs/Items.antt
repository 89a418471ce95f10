-- What the history keeps of an item.
use Rattle.std.specs.Prelude.{ℕ, Bool, false, ◌==◌, is_some}
use Rattle.plain_hub.specs.declared.item.Item.{Item}
use Rattle.plain_hub.specs.declared.item.Item.TheVariants as item
use Rattle.plain_hub.specs.declared.item.Short.{Short}
use Rattle.plain_hub.specs.declared.item.Short.TheVariants.{Done, Console, Packet}

-- of a Done whether it has bytes, and else all
abbrev pub short : Item → Short
short (item.Done id read) = Done id (is_some read)
short (item.Console b) = Console b
short (item.Packet b) = Packet b

-- whether it is the Done of this id
abbrev pub is_done : ℕ → Item → Bool
is_done number (item.Done id read) = id == number
is_done number (item.Console b) = false
is_done number (item.Packet b) = false

-- whether it is a Done with bytes
abbrev pub has_bytes : Item → Bool
has_bytes (item.Done id read) = is_some read
has_bytes (item.Console b) = false
has_bytes (item.Packet b) = false

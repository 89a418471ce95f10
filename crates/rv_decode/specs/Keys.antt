-- What a search among rows of one mask gives, by the bits of a word under it.
use Rattle.std.specs.Prelude.{ℕ, List, [], ◌∷◌, ◌==◌, Option, Some, None, if◌then◌else◌}
use Rattle.rv_decode.specs.declared.op.Op.{Op}
use Rattle.rv_decode.specs.declared.format.Format.{Format}
use Rattle.std.specs.Option.{option_map}
use Rattle.rv_decode.specs.Table.{Row}

-- the operation and format of the first row with these bits
abbrev pub keyed : List Row → ℕ → Option (Op × Format)
keyed [] key = None
keyed (row ∷ rows) key =
    if key == row.bits then Some (row.op, row.format) else keyed rows key

-- the operation and format of a row, where there is one
abbrev pub meaning : Option Row → Option (Op × Format)
meaning None = None
meaning (Some row) = Some (row.op, row.format)

-- an operation with the format of its opcode, where there is one
abbrev pub of_format : Format → Option Op → Option (Op × Format)
of_format format found = option_map (λ op. (op, format)) found

-- Bit inputs and bit outputs of blocks.
use Rattle.std.specs.Prelude.{ℕ, ◌+◌, ◌*◌, pos, Bool, false, slice_index_or, if◌then◌else◌}
use Rattle.pb_buses.specs.declared.Inputs.{Inputs}
use Rattle.pb_buses.specs.declared.Outputs.{Outputs}

-- the bit input at this place among those of the block
abbrev pub bit_input : ℕ → Inputs → Bool
bit_input place inputs = slice_index_or inputs.bits place false

-- 1 for a bit that is set, and 0 for one that isn't
abbrev pub digit : Bool → ℕ
digit bit = if bit then 1 else 0

-- what a block shows that has one bit output
abbrev pub one_bit : Bool → Outputs
one_bit out = record { bits = digit out; position = pos 0 }

-- what a block shows that has two bit outputs
abbrev pub two_bits : Bool → Bool → Outputs
two_bits first second = record { bits = digit first + 2 * digit second; position = pos 0 }

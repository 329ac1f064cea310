-- Words of private helpers: no public clause cites them.
-- How the names of blocks are hashed.
use Rattle.std.specs.Prelude.{ℕ, ◌*◌, ◌%◌, ◌^◌, List, [], ◌∷◌, bit_xor}
use Rattle.pb_fields.specs.declared.hashing.NameHasher.{NameHasher}

-- A byte of a name is mixed in. What is written of more than one byte is the length of the name, which isn't.
unfoldable pub mixed : NameHasher → List ℕ → NameHasher
mixed hasher (byte ∷ []) = record { state = (bit_xor hasher.state byte * 0x9e37_79b9_7f4a_7c15) % 2 ^ 64 }
mixed hasher bytes = hasher

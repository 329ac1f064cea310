-- Words of private helpers: no public clause cites them.
use Rattle.std.specs.Prelude.{ℕ, ◌+◌, List, [], ◌∷◌}
use Rattle.pb_encode.specs.declared.quantities.Quantity.{Quantity}
use Rattle.pb_encode.specs.Encoding.{number_size}

-- how many bytes these numbers of an entry take
abbrev pub numbers_size : ℕ → List Quantity → ℕ
numbers_size entry [] = 0
numbers_size entry (quantity ∷ others) = number_size entry quantity + numbers_size entry others

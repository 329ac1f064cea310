use Rattle.std.proofs.Common.{◌≢◌, ℕ, ◌<◌, map, slice_get, Some}
use Rattle.pb_fields.proofs.labels.place_of.Given as goal

abbrev pub invariant-loop-i : goal.invariant-loop-i
invariant-loop-i l = (k : ℕ) → k < l.i → slice_get (map (λ s. s.now) l.labels) k ≢ Some l.text

use Rattle.std.proofs.Common.{◌+◌, ◌*◌, length}
use Rattle.pb_lut.proofs.expressions.+expression.Given as goal

abbrev pub decreases-read_ors : goal.decreases-read_ors
decreases-read_ors l = 5 * length l.text.now + 4

abbrev pub decreases-read_xors : goal.decreases-read_xors
decreases-read_xors l = 5 * length l.text.now + 3

abbrev pub decreases-read_ands : goal.decreases-read_ands
decreases-read_ands l = 5 * length l.text.now + 2

abbrev pub decreases-read_nots : goal.decreases-read_nots
decreases-read_nots l = 5 * length l.text.now + 1

abbrev pub decreases-read_atoms : goal.decreases-read_atoms
decreases-read_atoms l = 5 * length l.text.now

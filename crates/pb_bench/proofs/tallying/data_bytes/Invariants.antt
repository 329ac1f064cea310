use Rattle.std.proofs.Common.{◌≡◌, ◌+◌, ◌-◌, ◌≤◌, length}
use Rattle.pb_bench.specs.Sections.{first_sections, sections_in}
use Rattle.pb_bench.specs.Tally.{data_bytes}
use Rattle.pb_bench.proofs.tallying.data_bytes.Given as goal

abbrev pub invariant-loop-section : goal.invariant-loop-section
invariant-loop-section l =
    record {
      left : l.total + data_bytes (first_sections (length l.output - l._section) l.rest) ≡ data_bytes (sections_in l.output);
      fits : l.total + length l.rest ≤ length l.output;
    }

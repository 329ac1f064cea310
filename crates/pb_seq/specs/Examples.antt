-- The blocks and inputs of the worked examples.
use Rattle.std.specs.Prelude.{ℕ, pos, Bool, true, false, List, [], ◌∷◌, replicate}
use Rattle.pb_buses.specs.declared.Inputs.{Inputs}
use Rattle.pb_buses.specs.declared.Outputs.{Outputs}
use Rattle.pb_buses.specs.Rules.{after}
use Rattle.pb_seq.specs.Seq.{Sequencer, opening, rules, shown, with_table}
use Rattle.pb_seq.specs.declared.settings.SeqSettings.{SeqSettings}

-- ENABLE and BITA as a sequencer sees them
abbrev pub seen : Bool → Bool → Inputs
seen enable bita =
    record {
      bits = enable ∷ bita ∷ replicate 3 false;
      positions = replicate 3 (pos 0);
      words = replicate 4 0;
      bus = replicate 32 (pos 0);
    }

-- a sequencer with these settings and this table, written before the last tick, at which ENABLE was 0
abbrev pub ready : SeqSettings → List ℕ → Sequencer
ready settings table =
    rules.next (with_table (record opening { settings = settings }) table) (seen false false) 0

-- two rows without phase 1, run twice in units of two ticks: three repeats of one unit with OUTA, and one
-- of two units without
abbrev pub two_rows : Sequencer
two_rows = ready (record { prescale = 2; repeats = 2 }) (67108867 ∷ 0 ∷ 0 ∷ 1 ∷ 1 ∷ 0 ∷ 0 ∷ 2 ∷ [])

-- after so many ticks with ENABLE at 1
abbrev pub run : ℕ → Sequencer
run ticks = after rules (seen true false) 0 ticks two_rows

-- an empty table is written after so many ticks, and one more tick goes by
abbrev pub emptied : ℕ → Sequencer
emptied ticks = rules.next (with_table (run ticks) []) (seen true false) 0

-- one row that waits for BITA: OUTA for two ticks, and then OUTB for three
abbrev pub one_row : Sequencer
one_row = ready (record { prescale = 0; repeats = 1 }) (135397377 ∷ 0 ∷ 2 ∷ 3 ∷ [])

-- with ENABLE at 1 for so many ticks
abbrev pub waiting : ℕ → Sequencer
waiting ticks = after rules (seen true false) 0 ticks one_row

-- then BITA at 1 for one tick, and after so many more
abbrev pub triggered : ℕ → ℕ → Sequencer
triggered before later = after rules (seen true false) 0 later (rules.next (waiting before) (seen true true) 0)

-- what is shown then
abbrev pub shows : ℕ → ℕ → Outputs
shows before later = shown (triggered before later)

-- these outputs and ACTIVE as bits
abbrev pub bits : ℕ → Outputs
bits number = record { bits = number; position = pos 0 }

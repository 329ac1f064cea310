-- What changes and puts leave agrees as before.
use Rattle.std.proofs.Common.{ℕ, ◌+◌, ◌<◌, Bool, ℤ, List, set, sym, ap, subst, ◌∙◌}
use Rattle.pb_buses.specs.declared.Bus.{Bus}
use Rattle.pb_buses.specs.Buses.{with_bit, with_position, AgreesWithPast, IsUnchangedAt}
use Rattle.pb_buses.proofs.ChangeLemmas.{bit_agrees, position_agrees}
use Rattle.pb_model.specs.declared.changes.Change.{Change}
use Rattle.pb_model.specs.declared.changes.Change.TheVariants as changes
use Rattle.pb_model.specs.Tick.{Standing, Box, put_bit, put_position}
use Rattle.pb_model.specs.Kept.{Kept, Agrees, with_buses}
use Rattle.pb_model.specs.Settings.{settings_with, blocks_with, changed, changed_box}
use Rattle.pb_model.specs.Arming.{blocks_armed, blocks_disarmed}
use Rattle.pb_model.specs.Tables.{blocks_with_table, with_table, box_with_table}
use Rattle.pb_model.proofs.BusLemmas.{bit-bus, position-bus}

pub change_agrees : (kept : Kept) (box : Box) (change : Change) → Agrees kept box → Agrees (changed kept change) (changed_box box change)
change_agrees kept box (changes.Set slot raw) h =
    record {
      stands =
          ap (λ (s : Standing). record {
            tick = s.tick;
            bus = s.bus;
            settings = settings_with slot raw s.settings;
            blocks = blocks_with slot raw s.blocks;
          }) h.stands;
      ticks = h.ticks;
      changes = h.changes;
    }
change_agrees kept box (changes.Arm room) h =
    record {
      stands = ap (λ (s : Standing). record { tick = s.tick; bus = s.bus; settings = s.settings; blocks = blocks_armed room s.blocks }) h.stands;
      ticks = h.ticks;
      changes = h.changes;
    }
change_agrees kept box changes.Disarm h =
    record {
      stands = ap (λ (s : Standing). record { tick = s.tick; bus = s.bus; settings = s.settings; blocks = blocks_disarmed s.blocks }) h.stands;
      ticks = h.ticks;
      changes = h.changes;
    }

pub table_agrees : (kept : Kept) (box : Box) (number : ℕ) (words : List ℕ) → Agrees kept box →
    Agrees (with_table kept number words) (box_with_table box number words)
table_agrees kept box number words h =
    record {
      stands =
          ap (λ (s : Standing). record {
            tick = s.tick;
            bus = s.bus;
            settings = s.settings;
            blocks = blocks_with_table number words s.blocks;
          }) h.stands;
      ticks = h.ticks;
      changes = h.changes;
    }

pub bit_put_agrees : (kept : Kept) (box : Box) (entry : ℕ) (value : Bool) → Agrees kept box → entry < 128 →
    IsUnchangedAt kept.buses entry kept.tick →
    Agrees (with_buses kept (with_bit kept.buses entry value kept.tick)) (put_bit box entry value)
bit_put_agrees kept box entry value h small once =
    record {
      stands =
          ap (λ (b : Bus). record { tick = kept.tick; bus = b; settings = kept.settings; blocks = kept.blocks })
          (bit-bus kept.buses entry value kept.tick)
          ∙ ap (λ (s : Standing). record {
            tick = s.tick;
            bus = record { bits = set s.bus.bits entry value; positions = s.bus.positions };
            settings = s.settings;
            blocks = s.blocks;
          }) h.stands;
      ticks = h.ticks;
      changes =
          subst (λ (n : ℕ). AgreesWithPast (with_bit kept.buses entry value n) box.past) h.ticks
          (bit_agrees kept.buses box.past entry value h.changes small
          (subst (λ (n : ℕ). IsUnchangedAt kept.buses entry n) (sym h.ticks) once));
    }

pub position_put_agrees : (kept : Kept) (box : Box) (entry : ℕ) (value : ℤ) → Agrees kept box → entry < 32 →
    IsUnchangedAt kept.buses (128 + entry) kept.tick →
    Agrees (with_buses kept (with_position kept.buses entry value kept.tick)) (put_position box entry value)
position_put_agrees kept box entry value h small once =
    record {
      stands =
          ap (λ (b : Bus). record { tick = kept.tick; bus = b; settings = kept.settings; blocks = kept.blocks })
          (position-bus kept.buses entry value kept.tick)
          ∙ ap (λ (s : Standing). record {
            tick = s.tick;
            bus = record { bits = s.bus.bits; positions = set s.bus.positions entry value };
            settings = s.settings;
            blocks = s.blocks;
          }) h.stands;
      ticks = h.ticks;
      changes =
          subst (λ (n : ℕ). AgreesWithPast (with_position kept.buses entry value n) box.past) h.ticks
          (position_agrees kept.buses box.past entry value h.changes small
          (subst (λ (n : ℕ). IsUnchangedAt kept.buses (128 + entry) n) (sym h.ticks) once));
    }

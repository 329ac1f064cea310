use Rattle.std.proofs.Common.{◌≡◌, ◌-◌, ◌<◌, ◌++◌, All}
use Rattle.std.specs.List.{flat_map, range_with_len}
use Rattle.pb_pcap.specs.declared.Field.{Field}
use Rattle.pb_config.specs.Capturing.{captured_position, captured_own, layout_of}
use Rattle.pb_config.proofs.configs.Config.layout.Given as goal

-- With the positions still to come these are all, and they lie before the next.
abbrev pub invariant-loop-entry : goal.invariant-loop-entry
invariant-loop-entry l =
    record {
      made : l.layout ++ flat_map (captured_position l.self.settings) (range_with_len l.entry (12 - l.entry))
          ≡ flat_map (captured_position l.self.settings) (range_with_len 0 12);
      below : All (λ (field : Field). field.entry < l.entry) l.layout;
    }

abbrev pub invariant-loop-entry-2 : goal.invariant-loop-entry-2
invariant-loop-entry-2 l =
    record {
      made : l.layout ++ flat_map (captured_own l.self.settings) (range_with_len l.entry (40 - l.entry)) ≡ layout_of l.self.settings;
      below : All (λ (field : Field). field.entry < l.entry) l.layout;
    }

-- Fields added one after the other, and slots cleared one after the other.
use Rattle.std.proofs.Common.{◌≡◌, ℕ, suc, ◌+◌, ◌-◌, ◌<◌, ◌≤◌, List, ◌++◌, map, refl, sym, ap, ◌∙◌, arith, append_assoc}
use Rattle.std.specs.List.{flat_map, range_with_len}
use Rattle.std.proofs.lemmas.List.{append-nil}
use Rattle.pb_fields.specs.declared.Slot.{Slot}
use Rattle.pb_pcap.specs.declared.Field.{Field}
use Rattle.pb_config.specs.Settings.{Settings}
use Rattle.pb_config.specs.Capturing.{position_output, own_output, capture_of, captured_position, captured_own, layout_of, capture_slots, cleared}
use Rattle.pb_config.specs.Numbers.{all_noted}
use Rattle.pb_config.specs.KeptConfig.{KeptConfig, with_clearing}
use Rattle.pb_config.specs.KeptParts.{with_raw}

-- With the fields still to come these are all.

pub one_more : (f : ℕ → List Field) (fields new whole : List Field) (entry end : ℕ) → entry < end → new ≡ fields ++ f entry →
    fields ++ flat_map f (range_with_len entry (end - entry)) ≡ whole →
    new ++ flat_map f (range_with_len (entry + 1) (end - (entry + 1))) ≡ whole
one_more f fields new whole entry end h e so =
    let n : suc (end - (entry + 1)) ≡ end - entry = omega arith in
    ap (λ l. l ++ flat_map f (range_with_len (entry + 1) (end - (entry + 1)))) e
    ∙ (append_assoc fields (f entry) (flat_map f (range_with_len (entry + 1) (end - (entry + 1))))
    ∙ (ap (λ m. fields ++ flat_map f (range_with_len entry m)) n ∙ so))

pub all_there : (f : ℕ → List Field) (fields whole : List Field) (entry end : ℕ) → end ≤ entry →
    fields ++ flat_map f (range_with_len entry (end - entry)) ≡ whole → fields ≡ whole
all_there f fields whole entry end h so =
    let none : end - entry ≡ 0 = omega arith in
    sym (append-nil fields) ∙ (sym (ap (λ n. fields ++ flat_map f (range_with_len entry n)) none) ∙ so)

pub own_to_come : (settings : Settings) (fields : List Field) → fields ≡ flat_map (captured_position settings) (range_with_len 0 12) →
    fields ++ flat_map (captured_own settings) (range_with_len 32 8) ≡ layout_of settings
unfolding layout_of
own_to_come settings fields e = ap (λ l. l ++ flat_map (captured_own settings) (range_with_len 32 8)) e

-- With the slots still to come all are cleared.

abbrev pub positions : ℕ → Slot
positions entry = capture_of (position_output entry)

abbrev pub own : ℕ → Slot
own entry = capture_of (own_output entry)

-- these slots are cleared and noted
abbrev pub with_cleared : List Slot → KeptConfig → KeptConfig
with_cleared slots kept = record { settings = cleared slots kept.settings; numbers = all_noted kept.numbers slots }

pub all_slots : (kept : KeptConfig) → with_cleared (map positions (range_with_len 0 12) ++ map own (range_with_len 32 8)) kept ≡ with_clearing kept
unfolding capture_slots
all_slots kept = refl

pub one_cleared : (f : ℕ → Slot) (rest : List Slot) (kept new whole : KeptConfig) (entry end : ℕ) → entry < end →
    new ≡ with_raw kept (f entry) 0 →
    with_cleared (map f (range_with_len entry (end - entry)) ++ rest) kept ≡ whole →
    with_cleared (map f (range_with_len (entry + 1) (end - (entry + 1))) ++ rest) new ≡ whole
one_cleared f rest kept new whole entry end h e so =
    let n : suc (end - (entry + 1)) ≡ end - entry = omega arith in
    ap (with_cleared (map f (range_with_len (entry + 1) (end - (entry + 1))) ++ rest)) e
    ∙ (ap (λ m. with_cleared (map f (range_with_len entry m) ++ rest) kept) n ∙ so)

pub all_cleared : (f : ℕ → Slot) (rest : List Slot) (kept whole : KeptConfig) (entry end : ℕ) → end ≤ entry →
    with_cleared (map f (range_with_len entry (end - entry)) ++ rest) kept ≡ whole → with_cleared rest kept ≡ whole
all_cleared f rest kept whole entry end h so =
    let none : end - entry ≡ 0 = omega arith in
    sym (ap (λ n. with_cleared (map f (range_with_len entry n) ++ rest) kept) none) ∙ so

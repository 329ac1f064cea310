-- Tables: which slots are theirs, and what a table write leaves of a core.
use Rattle.std.proofs.Common.{◌≡◌, ℕ, ◌-◌, ◌<◌, ◌≤◌, ◌||◌, ◌==◌, Bool, true, false, leb, List, length, get_or, set, Option, Some, None, Result, Ok, Err, slice_index_or, refl, sym, ap, subst, ◌∙◌, arith}
use Rattle.std.specs.Prelude.{if◌then◌else◌}
use Rattle.std.specs.List.{list_all}
use Rattle.std.proofs.lemmas.Bool.{eqb-true, leb-true}
use Rattle.std.proofs.lemmas.List.{length-set}
use Rattle.pb_words.specs.declared.Refusal.{Refusal}
use Rattle.pb_words.specs.Refusing.{result_map}
use Rattle.pb_names.specs.declared.seq.TheConstants as seq
use Rattle.pb_fields.specs.declared.Slot.{Slot}
use Rattle.pb_fields.specs.declared.FieldType.{FieldType}
use Rattle.pb_fields.specs.declared.FieldType.TheVariants as types
use Rattle.pb_fields.specs.declared.Attribute.{Attribute}
use Rattle.pb_fields.specs.declared.Attribute.TheVariants as attributes
use Rattle.pb_fields.specs.declared.Role.TheVariants as roles
use Rattle.pb_names.specs.declared.TheConstants.{ITSELF}
use Rattle.pb_fields.specs.Types.{attributes_of, role_of}
use Rattle.pb_fields.specs.Catalogue.{catalogue}
use Rattle.pb_fields.specs.Places.{count_of, fields_of, type_of}
use Rattle.pb_fields.specs.Slots.{IsSlot, type_at, attributes_at, attribute_at, role_at}
use Rattle.pb_fields.proofs.RowLemmas.{all_within}
use Rattle.pb_config.specs.Settings.{Settings}
use Rattle.pb_config.proofs.KindLemmas.{which, unlike}
use Rattle.pb_config.proofs.TextLemmas.{all_of, at_each}
use Rattle.pb_tables.specs.Computed.{answer_of}
use Rattle.pb_model.specs.declared.Block.{Block}
use Rattle.pb_names.specs.declared.pcap.TheConstants as pcap
use Rattle.pb_model.specs.declared.Unit.{Unit as AnyUnit}
use Rattle.pb_model.specs.Arming.{capture, with_unit}
use Rattle.pb_model.specs.Machines.{machines, place_in, with_named}
use Rattle.pb_model.specs.Tick.{opening_block}
use Rattle.pb_model.specs.Settings.{block_of_slot}
use Rattle.pb_model.specs.Tables.{sequencer, block_with_words, blocks_with_table}
use Rattle.pb_model.proofs.PlaceLemmas.{machines_are_many, named_is_set}
use Rattle.pb_model.proofs.TableLemmas.{two_sequencers}
use Rattle.pb_core.specs.declared.events.Answer.TheVariants as answers
use Rattle.pb_core.specs.Writing.{left_to, is_table_by, is_table}
use Rattle.pb_core.specs.Answer.{done}
use Rattle.pb_core.proofs.MuxLemmas.{Holds, all_set, keeps_list}

-- A table and its attributes belong to a sequencer.

abbrev is_other : Attribute → Bool
is_other attributes.Length = false
is_other attributes.Base64 = false
is_other _ = true

-- no field but one of SEQ has them
abbrev is_of_seq : ℕ → ℕ → ℕ → Bool
is_of_seq b f a = list_all is_other (attributes_of (type_of b f)) || (b == seq.BLOCK || leb (length (fields_of b)) f)

all_of_seq : all_of is_of_seq ≡ true
unfolding catalogue
all_of_seq = refl

of_seq_by : (b : Bool) (block n f : ℕ) → b ≡ false → f < n → (b || (block == seq.BLOCK || leb n f)) ≡ true → block ≡ seq.BLOCK
of_seq_by true block n f e lt h = cc
of_seq_by false block n f e lt h = by (block == seq.BLOCK) refl h
  where
    by : (c : Bool) → (block == seq.BLOCK) ≡ c → (c || leb n f) ≡ true → block ≡ seq.BLOCK
    by true k g = eqb-true block seq.BLOCK k
    by false k g = let more : n ≤ f = leb-true n f g in absurd (omega (arith, more, lt))

seq_block : (slot : Slot) → IsSlot slot → list_all is_other (attributes_of (type_at slot)) ≡ false → slot.block ≡ seq.BLOCK
seq_block slot s e =
    of_seq_by (list_all is_other (attributes_of (type_at slot))) slot.block (length (fields_of slot.block)) slot.field e s.in_fields
    (at_each is_of_seq all_of_seq slot s)

two_by : (slot : Slot) → IsSlot slot → slot.block ≡ seq.BLOCK → slot.instance ≤ seq.INSTANCES
two_by slot s e =
    let count : count_of slot.block ≡ seq.INSTANCES = ap count_of e ∙ two_sequencers in
    omega (arith, s.in_count, count)

other_false : (slot : Slot) (a : Attribute) → IsSlot slot → attribute_at slot ≡ Some a → is_other a ≡ false →
    list_all is_other (attributes_of (type_at slot)) ≡ false
other_false slot a s e other = by (list_all is_other (attributes_of (type_at slot))) refl
  where
    by : (b : Bool) → list_all is_other (attributes_of (type_at slot)) ≡ b → b ≡ false
    by true k =
        let w = which slot a s e in
        absurd (unlike is_other _ _ (all_within is_other (attributes_of (type_at slot)) attributes.Info (slot.attr - 1) k w.0) w.1 other)
    by false k = refl

attribute_number : (slot : Slot) (a : Attribute) → IsSlot slot → attribute_at slot ≡ Some a → is_other a ≡ false → slot.instance ≤ seq.INSTANCES
attribute_number slot a s e other = two_by slot s (seq_block slot s (other_false slot a s e other))

pub table_length : (slot : Slot) → IsSlot slot → attribute_at slot ≡ Some attributes.Length → slot.instance ≤ seq.INSTANCES
table_length slot s e = attribute_number slot attributes.Length s e refl

pub table_base64 : (slot : Slot) → IsSlot slot → attribute_at slot ≡ Some attributes.Base64 → slot.instance ≤ seq.INSTANCES
table_base64 slot s e = attribute_number slot attributes.Base64 s e refl

pub table_field : (slot : Slot) → IsSlot slot → type_at slot ≡ types.Table → slot.instance ≤ seq.INSTANCES
table_field slot s e = two_by slot s (seq_block slot s (ap (λ t. list_all is_other (attributes_of t)) e))

pub table_number : (slot : Slot) → IsSlot slot → is_table slot ≡ true → slot.instance ≤ seq.INSTANCES
table_number slot s h = table_field slot s (by (type_at slot) (attribute_at slot) h)
  where
    by : (t : FieldType) (o : Option Attribute) → is_table_by t o ≡ true → t ≡ types.Table
    by types.Table o e = refl
    by _ o e = absurd (cc)

pub table_role : (slot : Slot) → is_table slot ≡ true → role_at slot ≡ roles.Table
table_role slot h = by (slot.attr == ITSELF) (type_at slot) (slice_index_or (attributes_at slot) (slot.attr - 1) attributes.Info) h
  where
    by : (b : Bool) (t : FieldType) (a : Attribute) → is_table_by t (if b then None else Some a) ≡ true → (if b then role_of t else roles.Attr) ≡ roles.Table
    by true types.Table a e = refl
    by true _ a e = absurd (cc)
    by false types.Table a e = absurd (cc)
    by false _ a e = absurd (cc)

-- What a table write answers and leaves.

pub table_done : (left : Result (List ℕ) Refusal) (slot : Slot) → Ok tt ≡ answer_of left → answers.Ok ≡ done (result_map (left_to slot) left)
table_done (Ok words) slot e = refl
table_done (Err refusal) slot e = absurd (cc)

pub table_refused : (left : Result (List ℕ) Refusal) (slot : Slot) (refusal : Refusal) → Err refusal ≡ answer_of left →
    answers.Error refusal ≡ done (result_map (left_to slot) left)
table_refused (Ok words) slot refusal e = absurd (cc)
table_refused (Err other) slot refusal e = let same : refusal ≡ other = cc in ap answers.Error same

-- the muxes stay as they are
pub holds_table : (settings : Settings) (blocks : List Block) (number : ℕ) (words : List ℕ) → Holds settings blocks →
    Holds settings (blocks_with_table number words blocks)
holds_table settings blocks number words h =
    let k : ℕ = place_in machines (sequencer number) in
    let d : Block = opening_block seq.BLOCK in
    let named : blocks_with_table number words blocks ≡ set blocks k (block_with_words words (get_or blocks k d)) =
    named_is_set machines (sequencer number) (block_with_words words) blocks d (h.many ∙ sym machines_are_many) in
    subst (λ l. Holds settings l) (sym named)
    (record {
      many = length-set blocks k (block_with_words words (get_or blocks k d)) ∙ h.many;
      full = all_set blocks k (block_with_words words) d (λ b. refl) h.full;
      selections = λ slot m.
          keeps_list (λ x. x.select) (block_with_words words) (λ b q. refl) blocks k (place_in machines (block_of_slot slot)) slot.field d (opening_block slot.block)
          ∙ h.selections slot m;
      delays = λ slot m.
          keeps_list (λ x. x.delay) (block_with_words words) (λ b q. refl) blocks k (place_in machines (block_of_slot slot)) slot.field d (opening_block slot.block)
          ∙ h.delays slot m;
    })

-- and so they do where PCAP is armed or disarmed
pub holds_capture : (settings : Settings) (blocks : List Block) (change : AnyUnit → AnyUnit) → Holds settings blocks →
    Holds settings (with_named machines capture (with_unit change) blocks)
holds_capture settings blocks change h =
    let k : ℕ = place_in machines capture in
    let d : Block = opening_block pcap.BLOCK in
    let named : with_named machines capture (with_unit change) blocks ≡ set blocks k (with_unit change (get_or blocks k d)) =
    named_is_set machines capture (with_unit change) blocks d (h.many ∙ sym machines_are_many) in
    subst (λ l. Holds settings l) (sym named)
    (record {
      many = length-set blocks k (with_unit change (get_or blocks k d)) ∙ h.many;
      full = all_set blocks k (with_unit change) d (λ b. refl) h.full;
      selections = λ slot m.
          keeps_list (λ x. x.select) (with_unit change) (λ b q. refl) blocks k (place_in machines (block_of_slot slot)) slot.field d (opening_block slot.block)
          ∙ h.selections slot m;
      delays = λ slot m.
          keeps_list (λ x. x.delay) (with_unit change) (λ b q. refl) blocks k (place_in machines (block_of_slot slot)) slot.field d (opening_block slot.block)
          ∙ h.delays slot m;
    })

-- What a table write leaves of a unit, of its block and of the box.
use Rattle.std.proofs.Common.{◌≡◌, ℕ, ◌<◌, ◌≤◌, Bool, List, length, map, get_or, set, refl, sym, ap, ◌∙◌, Result, Ok, Err, arith}
use Rattle.std.proofs.lemmas.List.{set-get_or, get_or-map, get_or_default}
use Rattle.std.proofs.Math.Seq.{map-set_same}
use Rattle.pb_words.specs.declared.Refusal.{Refusal}
use Rattle.pb_names.specs.declared.seq.TheConstants as seq
use Rattle.pb_fields.specs.Catalogue.{catalogue}
use Rattle.pb_fields.specs.Places.{count_of}
use Rattle.std.specs.Prelude.{OnErr}
use Rattle.pb_tables.specs.Computed.{answer_of}
use Rattle.pb_seq.specs.Seq as sequencers
use Rattle.pb_model.specs.declared.units.Unit.{Unit as AnyUnit}
use Rattle.pb_model.specs.declared.units.Unit.TheVariants as units
use Rattle.pb_model.specs.declared.blocks.Block.{Block}
use Rattle.pb_model.specs.Units.{place_of, words_of, with_words}
use Rattle.pb_model.specs.Machines.{machines, machine_kinds, place_in}
use Rattle.pb_model.specs.Tick.{opening_block, kind_of}
use Rattle.pb_model.specs.Kept.{Kept, IsWhole}
use Rattle.pb_model.specs.Tables.{sequencer, table_of, block_with_words, unit_left, block_left, table_left}
use Rattle.pb_model.proofs.PlaceLemmas.{in_turn, in_few, kind_at, machines_are_many, named_is_set, named_is_got}
use Rattle.pb_model.proofs.TickLemmas.{are_35}

pub sequencer_left : (block : sequencers.Sequencer) (result : Result (List ℕ) Refusal) →
    units.Seq (sequencers.with_written result block) ≡ unit_left (units.Seq block) result
sequencer_left block (Ok words) = refl
sequencer_left block (Err refusal) = refl

pub block_is_left : (block : Block) (result : Result (List ℕ) Refusal) →
    record { unit = unit_left block.unit result; bits = block.bits; positions = block.positions } ≡ block_left block result
block_is_left block (Ok words) = refl
block_is_left block (Err refusal) = refl

-- there are two sequencers
pub two_sequencers : count_of seq.BLOCK ≡ seq.INSTANCES
unfolding catalogue
two_sequencers = refl

-- a table write leaves the kind of a unit as it is
unit_stays : (unit : AnyUnit) (words : List ℕ) → place_of (with_words words unit) ≡ place_of unit
unit_stays (units.Lut block) words = refl
unit_stays (units.Srgate block) words = refl
unit_stays (units.Div block) words = refl
unit_stays (units.Pulse block) words = refl
unit_stays (units.Counter block) words = refl
unit_stays (units.Clock block) words = refl
unit_stays (units.Seq block) words = refl
unit_stays (units.Pcomp block) words = refl
unit_stays (units.Pcap block) words = refl

block_stays : (block : Block) (result : Result (List ℕ) Refusal) → kind_of (block_left block result) ≡ kind_of block
block_stays block (Ok words) = unit_stays block.unit words
block_stays block (Err refusal) = refl

-- The sequencer at its place.

pub sequencer_inside : (blocks : List Block) (number : ℕ) → map kind_of blocks ≡ machine_kinds → 1 ≤ number → number ≤ seq.INSTANCES →
    place_in machines (sequencer number) < length blocks
sequencer_inside blocks number h from to =
    let count : number ≤ count_of seq.BLOCK = omega (arith, two_sequencers) in
    omega (
      arith,
      are_35 blocks h,
      in_turn seq.BLOCK number (omega arith) (omega arith) from count,
      in_few seq.BLOCK number (omega arith) (omega arith) from count,
    )

pub sequencer_there : (blocks : List Block) (number : ℕ) (d : Block) → map kind_of blocks ≡ machine_kinds → 1 ≤ number → number ≤ seq.INSTANCES →
    kind_of (get_or blocks (place_in machines (sequencer number)) d) ≡ seq.BLOCK
sequencer_there blocks number d h from to =
    let at : ℕ = place_in machines (sequencer number) in
    let count : number ≤ count_of seq.BLOCK = omega (arith, two_sequencers) in
    sym (get_or-map kind_of blocks at d 0 (sequencer_inside blocks number h from to))
    ∙ (ap (λ l. get_or l at 0) h ∙ kind_at seq.BLOCK number (omega arith) (omega arith) from count)

pub table_is : (blocks : List Block) (number : ℕ) (d : Block) → map kind_of blocks ≡ machine_kinds → 1 ≤ number → number ≤ seq.INSTANCES →
    words_of (get_or blocks (place_in machines (sequencer number)) d).unit ≡ table_of blocks number
table_is blocks number d h from to =
    let at : ℕ = place_in machines (sequencer number) in
    let many : length blocks ≡ length machines = are_35 blocks h ∙ sym machines_are_many in
    ap (λ (b : Block). words_of b.unit)
    (get_or_default blocks at d (opening_block seq.BLOCK) (sequencer_inside blocks number h from to)
    ∙ sym (named_is_got machines (sequencer number) blocks (opening_block seq.BLOCK) many))

-- The box after a table write.

pub left_stays : (blocks : List Block) (settings : List Bool) (place : ℕ) (new d : Block) (result : Result (List ℕ) Refusal) →
    IsWhole blocks settings → new ≡ block_left (get_or blocks place d) result → IsWhole (set blocks place new) settings
left_stays blocks settings place new d result w e =
    record {
      kinds = map-set_same kind_of blocks place new d (ap kind_of e ∙ block_stays (get_or blocks place d) result) ∙ w.kinds;
      four = w.four;
    }

abbrev with_blocks : Kept → List Block → Kept
with_blocks kept blocks = record { tick = kept.tick; buses = kept.buses; settings = kept.settings; blocks = blocks }

pub set_table : (kept : Kept) (number place : ℕ) (new d : Block) (result : Result (List ℕ) Refusal) → IsWhole kept.blocks kept.settings →
    place ≡ place_in machines (sequencer number) → new ≡ block_left (get_or kept.blocks place d) result →
    with_blocks kept (set kept.blocks place new) ≡ table_left kept number result
set_table kept number place new d (Ok words) w p e =
    let many : length kept.blocks ≡ length machines = are_35 kept.blocks w.kinds ∙ sym machines_are_many in
    ap (with_blocks kept)
    (ap (set kept.blocks place) e
    ∙ (ap (λ n. set kept.blocks n (block_with_words words (get_or kept.blocks n d))) p
    ∙ sym (named_is_set machines (sequencer number) (block_with_words words) kept.blocks d many)))
set_table kept number place new d (Err refusal) w p e =
    ap (with_blocks kept) (ap (set kept.blocks place) e ∙ set-get_or kept.blocks place d)

-- a refused table write changes nothing
pub refused_same : (told : Result (Unit {0}) Refusal) (left : Result (List ℕ) Refusal) (kept new : Kept) (number : ℕ) → told ≡ answer_of left →
    new ≡ table_left kept number left → OnErr told (new ≡ kept)
refused_same (Ok done) left kept new number e is = tt
refused_same (Err refusal) (Ok words) kept new number e is = absurd (cc)
refused_same (Err refusal) (Err other) kept new number e is = is

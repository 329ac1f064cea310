-- The lazy block at the place of a name.
use Rattle.std.proofs.Common.{◌≡◌, ℕ, ◌<◌, ◌≤◌, length, get_or, sym, ap, subst, ◌∙◌, arith}
use Rattle.std.proofs.lemmas.List.{get_or-map, length-map}
use Rattle.pb_names.specs.declared.lut.TheConstants as lut
use Rattle.pb_names.specs.declared.pcap.TheConstants as pcap
use Rattle.pb_names.specs.declared.seq.TheConstants as seq
use Rattle.pb_fields.specs.declared.Slot.{Slot}
use Rattle.pb_fields.specs.Slots.{IsSlot}
use Rattle.pb_model.specs.declared.Block.{Block}
use Rattle.pb_model.specs.Units.{is_idle, words_of, value_read}
use Rattle.pb_model.specs.Machines.{machines, place_in}
use Rattle.pb_model.specs.Tick.{kind_of}
use Rattle.pb_model.specs.Settings.{block_of_slot, read_of}
use Rattle.pb_model.specs.Tables.{sequencer, table_of}
use Rattle.pb_model.specs.Arming.{capture, is_capture_idle}
use Rattle.pb_model.proofs.UnitLemmas.{place_inside, kind_named, read_is}
use Rattle.pb_model.proofs.ArmLemmas.{place_of_capture, capture_inside, capture_there, idle_there}
use Rattle.pb_model.proofs.TableLemmas.{sequencer_inside, sequencer_there, table_is}
use Rattle.pb_lazy.specs.declared.Lazy.{Lazy}
use Rattle.pb_lazy.specs.Lazy.{caught_up, unit_at, IsSound}
use Rattle.pb_going.specs.Sims.{Going, IsGoing, now_of}
use Rattle.pb_jump.proofs.GoingLemmas.{all_get, many_lazies}

pub lazy_sound : (g : Going) (place : ℕ) (lazy : Lazy) → IsGoing g → place < length g.lazies → lazy ≡ get_or g.lazies place lazy → IsSound g.tick g.first lazy
lazy_sound g place lazy is inside e =
    subst (λ (l : Lazy). IsSound g.tick g.first l) (sym e) (all_get (IsSound g.tick g.first) g.lazies place lazy is.sound inside)

-- what it stands for is the block at that place
pub stands_there : (g : Going) (place : ℕ) (lazy : Lazy) → place < length g.lazies → lazy ≡ get_or g.lazies place lazy →
    get_or (now_of g).blocks place (caught_up g.tick lazy) ≡ caught_up g.tick lazy
stands_there g place lazy inside e =
    get_or-map (caught_up g.tick) g.lazies place lazy (caught_up g.tick lazy) inside ∙ ap (caught_up g.tick) (sym e)

long : (g : Going) → length (now_of g).blocks ≡ length g.lazies
long g = length-map g.lazies (caught_up g.tick)

pub any_inside : (g : Going) (place : ℕ) → IsGoing g → place < 35 → place < length g.lazies
any_inside g place is few = omega (arith, many_lazies g.tick g.lazies is.whole.kinds)

-- The block of a slot.

pub slot_inside : (g : Going) (slot : Slot) → IsGoing g → IsSlot slot → lut.BLOCK ≤ slot.block → place_in machines (block_of_slot slot) < length g.lazies
slot_inside g slot is s from = omega (arith, long g, place_inside (now_of g).blocks slot is.whole.kinds s from)

pub slot_kind : (g : Going) (slot : Slot) (place : ℕ) (lazy : Lazy) → IsGoing g → IsSlot slot → lut.BLOCK ≤ slot.block →
    place ≡ place_in machines (block_of_slot slot) → lazy ≡ get_or g.lazies place lazy → kind_of (caught_up g.tick lazy) ≡ slot.block
slot_kind g slot place lazy is s from p e =
    let inside : place < length g.lazies = omega (arith, slot_inside g slot is s from) in
    ap kind_of (sym (stands_there g place lazy inside e))
    ∙ (ap (λ n. kind_of (get_or (now_of g).blocks n (caught_up g.tick lazy))) p
    ∙ kind_named (now_of g).blocks slot (caught_up g.tick lazy) is.whole.kinds s from)

pub slot_read : (g : Going) (slot : Slot) (place : ℕ) (lazy : Lazy) → IsGoing g → IsSlot slot → lut.BLOCK ≤ slot.block →
    place ≡ place_in machines (block_of_slot slot) → lazy ≡ get_or g.lazies place lazy →
    value_read (unit_at g.tick lazy) slot.field ≡ read_of (now_of g).blocks slot
slot_read g slot place lazy is s from p e =
    let inside : place < length g.lazies = omega (arith, slot_inside g slot is s from) in
    ap (λ (b : Block). value_read b.unit slot.field) (sym (stands_there g place lazy inside e))
    ∙ read_is (now_of g) slot place (caught_up g.tick lazy) is.whole s from p

-- PCAP.

pub capture_in : (g : Going) → IsGoing g → place_in machines capture < length g.lazies
capture_in g is = omega (arith, long g, place_of_capture, capture_inside (now_of g).blocks is.whole.kinds)

pub capture_kind : (g : Going) (place : ℕ) (lazy : Lazy) → IsGoing g → place ≡ place_in machines capture → lazy ≡ get_or g.lazies place lazy →
    kind_of (caught_up g.tick lazy) ≡ pcap.BLOCK
capture_kind g place lazy is p e =
    let inside : place < length g.lazies = omega (arith, capture_in g is) in
    ap kind_of (sym (stands_there g place lazy inside e))
    ∙ (ap (λ n. kind_of (get_or (now_of g).blocks n (caught_up g.tick lazy))) (p ∙ place_of_capture)
    ∙ capture_there (now_of g).blocks (caught_up g.tick lazy) is.whole.kinds)

pub capture_idle : (g : Going) (place : ℕ) (lazy : Lazy) → IsGoing g → place ≡ place_in machines capture → lazy ≡ get_or g.lazies place lazy →
    is_idle (unit_at g.tick lazy) ≡ is_capture_idle (now_of g).blocks
capture_idle g place lazy is p e =
    let inside : place < length g.lazies = omega (arith, capture_in g is) in
    ap (λ (b : Block). is_idle b.unit) (sym (stands_there g place lazy inside e))
    ∙ (ap (λ n. is_idle (get_or (now_of g).blocks n (caught_up g.tick lazy)).unit) (p ∙ place_of_capture)
    ∙ sym (idle_there (now_of g).blocks (caught_up g.tick lazy) is.whole.kinds))

-- The sequencers.

pub table_in : (g : Going) (number : ℕ) → IsGoing g → 1 ≤ number → number ≤ seq.INSTANCES → place_in machines (sequencer number) < length g.lazies
table_in g number is from to = omega (arith, long g, sequencer_inside (now_of g).blocks number is.whole.kinds from to)

pub table_kind : (g : Going) (number place : ℕ) (lazy : Lazy) → IsGoing g → 1 ≤ number → number ≤ seq.INSTANCES →
    place ≡ place_in machines (sequencer number) → lazy ≡ get_or g.lazies place lazy → kind_of (caught_up g.tick lazy) ≡ seq.BLOCK
table_kind g number place lazy is from to p e =
    let inside : place < length g.lazies = omega (arith, table_in g number is from to) in
    ap kind_of (sym (stands_there g place lazy inside e))
    ∙ (ap (λ n. kind_of (get_or (now_of g).blocks n (caught_up g.tick lazy))) p
    ∙ sequencer_there (now_of g).blocks number (caught_up g.tick lazy) is.whole.kinds from to)

pub table_here : (g : Going) (number place : ℕ) (lazy : Lazy) → IsGoing g → 1 ≤ number → number ≤ seq.INSTANCES →
    place ≡ place_in machines (sequencer number) → lazy ≡ get_or g.lazies place lazy →
    words_of (unit_at g.tick lazy) ≡ table_of (now_of g).blocks number
table_here g number place lazy is from to p e =
    let inside : place < length g.lazies = omega (arith, table_in g number is from to) in
    ap (λ (b : Block). words_of b.unit) (sym (stands_there g place lazy inside e))
    ∙ (ap (λ n. words_of (get_or (now_of g).blocks n (caught_up g.tick lazy)).unit) p
    ∙ table_is (now_of g).blocks number (caught_up g.tick lazy) is.whole.kinds from to)

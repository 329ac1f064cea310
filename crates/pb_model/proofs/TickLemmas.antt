-- One tick: what is kept goes on as the box does.
use Rattle.std.proofs.Common.{◌≡◌, ℕ, suc, ◌+◌, ◌-◌, ◌<◌, ◌≤◌, Bool, false, ℤ, List, [], ◌∷◌, ◌++◌, length, get_or, take, drop, map, refl, sym, ap, subst, ◌∙◌, arith, append_assoc, add-one, length-append, drop-cons, set, replicate}
use Rattle.std.proofs.lemmas.List.{append-nil, length-map, length-take-le, get_or-append-add, map-append, take_more}
use Rattle.std.proofs.Math.Seq.{set-append_seam}
use Rattle.std.specs.List.{flat_map, sum_by, range_with_len}
use Rattle.pb_fields.specs.Catalogue.{catalogue}
use Rattle.pb_fields.specs.Places.{count_of}
use Rattle.pb_buses.specs.declared.Inputs.{Inputs}
use Rattle.pb_buses.specs.declared.Emit.{Emit}
use Rattle.pb_buses.specs.declared.Bus.{Bus}
use Rattle.pb_buses.specs.declared.Buses.{Buses}
use Rattle.pb_buses.specs.Buses.{AgreesWithPast, opening_buses}
use Rattle.pb_buses.proofs.ChangeLemmas.{tick_agrees, unchanged_at, opening_agrees}
use Rattle.pb_model.specs.declared.blocks.Block.{Block}
use Rattle.pb_model.specs.declared.units.Unit.{Unit as AnyUnit}
use Rattle.pb_model.specs.declared.units.Unit.TheVariants as units
use Rattle.pb_model.specs.Machines.{machines, machine_kinds}
use Rattle.pb_model.specs.Units.{place_of, next, bit_outputs, position_outputs}
use Rattle.pb_model.specs.Tick.{Standing, Box, kind_of, bits_of, positions_of, block_after, standing_after, tick, inputs_of, emitted_by, or_before, handed_on, opening_block, opening_box}
use Rattle.pb_model.specs.Kept.{Kept, IsWhole, Agrees, stands_of, kept_after, opening, with_bits, with_positions, buses_with}
use Rattle.pb_model.proofs.ShownLemmas.{count_bits, count_positions, bits-append}
use Rattle.pb_model.proofs.BusLemmas.{spliced, spliced-is, bits-bus, positions-bus, AreUnchanged, bits_agree, positions_agree}

-- A block stays of its kind.

pub unit_stays : (unit : AnyUnit) (inputs : Inputs) (tick : ℕ) → place_of (next unit inputs tick) ≡ place_of unit
unit_stays (units.Lut block) inputs tick = refl
unit_stays (units.Srgate block) inputs tick = refl
unit_stays (units.Div block) inputs tick = refl
unit_stays (units.Pulse block) inputs tick = refl
unit_stays (units.Counter block) inputs tick = refl
unit_stays (units.Clock block) inputs tick = refl
unit_stays (units.Seq block) inputs tick = refl
unit_stays (units.Pcomp block) inputs tick = refl
unit_stays (units.Pcap block) inputs tick = refl

pub kinds_stay : (bus : Bus) (tick : ℕ) (blocks : List Block) → map kind_of (map (block_after bus tick) blocks) ≡ map kind_of blocks
kinds_stay bus tick [] = refl
kinds_stay bus tick (block ∷ blocks) =
    ap (λ k. k ∷ map kind_of (map (block_after bus tick) blocks)) (unit_stays block.unit (inputs_of bus block) tick)
    ∙ ap (λ l. kind_of block ∷ l) (kinds_stay bus tick blocks)

-- How many outputs the blocks have.

bits_of_all : sum_by bit_outputs machine_kinds ≡ 53
unfolding bit_outputs machines machine_kinds catalogue
bits_of_all = refl

positions_of_all : sum_by position_outputs machine_kinds ≡ 8
unfolding position_outputs machines machine_kinds catalogue
positions_of_all = refl

pub many_bits : (blocks : List Block) → map kind_of blocks ≡ machine_kinds → length (flat_map bits_of blocks) ≡ 53
many_bits blocks h = count_bits blocks ∙ (ap (sum_by bit_outputs) h ∙ bits_of_all)

pub many_positions : (blocks : List Block) → map kind_of blocks ≡ machine_kinds → length (flat_map positions_of blocks) ≡ 8
many_positions blocks h = count_positions blocks ∙ (ap (sum_by position_outputs) h ∙ positions_of_all)

pub length-machine_kinds : length machine_kinds ≡ 35
unfolding machines machine_kinds catalogue
length-machine_kinds = refl

-- The bus.

bus_is : (buses : Buses) (tick : ℕ) (bits settings : List Bool) (positions : List ℤ) →
    length bits ≡ 53 → length settings ≡ 4 → length positions ≡ 8 → length buses.bus.bits ≡ 128 → length buses.bus.positions ≡ 32 →
    (with_positions 4 positions tick (with_bits 6 (bits ++ settings) tick buses)).bus
    ≡ record {
      bits = take 6 buses.bus.bits ++ bits ++ settings ++ drop 63 buses.bus.bits;
      positions = take 4 buses.bus.positions ++ positions ++ drop 12 buses.bus.positions;
    }
bus_is buses tick bits settings positions a b c d e =
    let sum : length (bits ++ settings) ≡ 57 = length-append bits settings ∙ omega arith in
    let bus : Bus = record { bits = spliced 6 (bits ++ settings) buses.bus.bits; positions = buses.bus.positions } in
    let shown : (with_bits 6 (bits ++ settings) tick buses).bus ≡ bus = bits-bus 6 (bits ++ settings) tick buses (omega arith) in
    let same : length (with_bits 6 (bits ++ settings) tick buses).bus.positions ≡ length buses.bus.positions =
    ap (λ (b : Bus). length b.positions) shown in
    let to_63 : 6 + length (bits ++ settings) ≡ 63 = omega arith in
    let to_12 : 4 + length positions ≡ 12 = omega arith in
    positions-bus 4 positions tick (with_bits 6 (bits ++ settings) tick buses) (omega arith)
    ∙ (ap (λ (b : Bus). record { bits = b.bits; positions = spliced 4 positions b.positions }) shown
    ∙ (ap (λ l. record { bits = l; positions = spliced 4 positions buses.bus.positions })
    (spliced-is 6 (bits ++ settings) buses.bus.bits
    ∙ (ap (λ n. take 6 buses.bus.bits ++ (bits ++ settings) ++ drop n buses.bus.bits) to_63
    ∙ ap (λ l. l ++ drop 63 buses.bus.bits) (sym (append_assoc (take 6 buses.bus.bits) bits settings))))
    ∙ ap (λ l. record { bits = take 6 buses.bus.bits ++ bits ++ settings ++ drop 63 buses.bus.bits; positions = l })
    (spliced-is 4 positions buses.bus.positions
    ∙ ap (λ n. take 4 buses.bus.positions ++ positions ++ drop n buses.bus.positions) to_12)))

-- What stands.

stands_after : (kept : Kept) → IsWhole kept.blocks kept.settings → length kept.buses.bus.bits ≡ 128 → length kept.buses.bus.positions ≡ 32 →
    stands_of (kept_after kept) ≡ standing_after (stands_of kept)
stands_after kept w a b =
    let blocks : List Block = map (block_after kept.buses.bus kept.tick) kept.blocks in
    let kinds : map kind_of blocks ≡ machine_kinds = kinds_stay kept.buses.bus kept.tick kept.blocks ∙ w.kinds in
    ap (λ (bus : Bus). record { tick = kept.tick + 1; bus = bus; settings = kept.settings; blocks = blocks })
    (bus_is kept.buses (kept.tick + 1) (flat_map bits_of blocks) kept.settings (flat_map positions_of blocks)
    (many_bits blocks kinds) w.four (many_positions blocks kinds) a b)

-- The ticks of the last changes.

agree_with : (buses : Buses) (past : List Bus) (bits : List Bool) (positions : List ℤ) → length bits ≡ 57 → length positions ≡ 8 →
    AgreesWithPast buses past →
    AgreesWithPast
    (with_positions 4 positions (length (buses.bus ∷ past)) (with_bits 6 bits (length (buses.bus ∷ past)) buses))
    (buses.bus ∷ past)
agree_with buses past bits positions a b h =
    let begun : AgreesWithPast buses (buses.bus ∷ past) = tick_agrees buses past h in
    let still : AreUnchanged buses 6 (length (buses.bus ∷ past)) =
    λ entry from below. unchanged_at buses buses.bus past entry begun below refl in
    let after : AgreesWithPast (with_bits 6 bits (length (buses.bus ∷ past)) buses) (buses.bus ∷ past)
    × AreUnchanged (with_bits 6 bits (length (buses.bus ∷ past)) buses) (6 + length bits) (length (buses.bus ∷ past)) =
    bits_agree 6 bits buses (buses.bus ∷ past) begun still (omega arith) in
    positions_agree 4 positions (with_bits 6 bits (length (buses.bus ∷ past)) buses) (buses.bus ∷ past) after.0
    (λ entry from below. after.1 entry (omega arith) below) (omega arith)

-- A tick.

pub agrees_after : (kept : Kept) → IsWhole kept.blocks kept.settings → (box : Box) → Agrees kept box → Agrees (kept_after kept) (tick box)
agrees_after kept w box h =
    let blocks : List Block = map (block_after kept.buses.bus kept.tick) kept.blocks in
    let kinds : map kind_of blocks ≡ machine_kinds = kinds_stay kept.buses.bus kept.tick kept.blocks ∙ w.kinds in
    let many : length (flat_map bits_of blocks ++ kept.settings) ≡ 57 =
    length-append (flat_map bits_of blocks) kept.settings ∙ omega (arith, many_bits blocks kinds, w.four) in
    let now : length (kept.buses.bus ∷ box.past) ≡ kept.tick + 1 = omega (arith, h.ticks) in
    let past : kept.buses.bus ∷ box.past ≡ box.stands.bus ∷ box.past = ap (λ (s : Standing). s.bus ∷ box.past) h.stands in
    record {
      stands = stands_after kept w h.changes.bits h.changes.positions ∙ ap standing_after h.stands;
      ticks = omega (arith, h.ticks);
      changes =
          subst (λ (l : List Bus). AgreesWithPast (buses_with (kept.tick + 1) blocks kept.settings kept.buses) l) past
          (subst (λ (n : ℕ). AgreesWithPast (buses_with n blocks kept.settings kept.buses) (kept.buses.bus ∷ box.past)) now
          (agree_with kept.buses box.past (flat_map bits_of blocks ++ kept.settings) (flat_map positions_of blocks)
          many (many_positions blocks kinds) h.changes));
    }

-- The pieces of a tick, one after the other.

pub kinds_after : (bus : Bus) (tick : ℕ) (blocks stepped : List Block) → map kind_of blocks ≡ machine_kinds →
    stepped ≡ map (block_after bus tick) blocks → map kind_of stepped ≡ machine_kinds
kinds_after bus tick blocks stepped h e = ap (map kind_of) e ∙ (kinds_stay bus tick blocks ∙ h)

pub are_35 : (blocks : List Block) → map kind_of blocks ≡ machine_kinds → length blocks ≡ 35
are_35 blocks h = sym (length-map blocks kind_of) ∙ (ap length h ∙ length-machine_kinds)

pub pieces : (kept : Kept) (stepped : List Block) (a b c : Buses) (entry : ℕ) →
    stepped ≡ map (block_after kept.buses.bus kept.tick) kept.blocks →
    a ≡ with_bits 6 (flat_map bits_of stepped) (kept.tick + 1) kept.buses →
    entry ≡ 6 + length (flat_map bits_of stepped) →
    b ≡ with_bits entry kept.settings (kept.tick + 1) a →
    c ≡ with_positions 4 (flat_map positions_of stepped) (kept.tick + 1) b →
    record { tick = kept.tick + 1; buses = c; settings = kept.settings; blocks = stepped } ≡ kept_after kept
pieces kept stepped a b c entry is_stepped is_a is_entry is_b is_c =
    let bits : List Bool = flat_map bits_of stepped in
    let positions : List ℤ = flat_map positions_of stepped in
    let after : ℕ = kept.tick + 1 in
    let shown : c ≡ buses_with (kept.tick + 1) stepped kept.settings kept.buses =
    is_c
    ∙ ap (with_positions 4 positions after)
    (is_b
    ∙ (ap (λ n. with_bits n kept.settings after a) is_entry
    ∙ (ap (with_bits (6 + length bits) kept.settings after) is_a
    ∙ sym (bits-append 6 bits kept.settings after kept.buses)))) in
    ap (λ (buses : Buses). record { tick = kept.tick + 1; buses = buses; settings = kept.settings; blocks = stepped }) shown
    ∙ ap (λ (blocks : List Block). record {
      tick = kept.tick + 1;
      buses = buses_with (kept.tick + 1) blocks kept.settings kept.buses;
      settings = kept.settings;
      blocks = blocks;
    }) is_stepped

pub agrees_along : (kept was now : Kept) → kept ≡ was → IsWhole kept.blocks kept.settings → now ≡ kept_after kept →
    (box : Box) → Agrees was box → Agrees now (tick box)
agrees_along kept was now e w n box h =
    subst (λ k. Agrees k (tick box)) (sym n) (agrees_after kept w box (subst (λ k. Agrees k box) (sym e) h))

-- One block's step.

from_here : (blocks : List Block) (i : ℕ) (d : Block) → i < length blocks → drop i blocks ≡ get_or blocks i d ∷ drop (i + 1) blocks
from_here blocks i d h = rw (add-one, drop-cons blocks i d) refl

pub one_emits : (bus : Bus) (tick i : ℕ) (blocks : List Block) (d : Block) (before emit after : Emit) → i < length blocks →
    emit ≡ emitted_by bus tick (get_or blocks i d) → after ≡ or_before before emit →
    handed_on after (map (emitted_by bus tick) (drop (i + 1) blocks)) ≡ handed_on before (map (emitted_by bus tick) (drop i blocks))
one_emits bus tick i blocks d before emit after h e is =
    ap (λ x. handed_on x (map (emitted_by bus tick) (drop (i + 1) blocks))) (is ∙ ap (or_before before) e)
    ∙ sym (ap (λ l. handed_on before (map (emitted_by bus tick) l)) (from_here blocks i d h))

pub item_is : (f : Block → Block) (blocks items : List Block) (i : ℕ) (d : Block) → i < length blocks →
    items ≡ map f (take i blocks) ++ drop i blocks → get_or items i d ≡ get_or blocks i d
item_is f blocks items i d h e =
    let done : List Block = map f (take i blocks) in
    let long : length (map f (take i blocks)) ≡ i = length-map (take i blocks) f ∙ length-take-le i blocks (omega arith) in
    let at : i ≡ length (map f (take i blocks)) + 0 = omega (arith, long) in
    ap (λ l. get_or l i d) e
    ∙ (ap (λ n. get_or (done ++ drop i blocks) n d) at
    ∙ (get_or-append-add done (drop i blocks) 0 d
    ∙ ap (λ l. get_or l 0 d) (from_here blocks i d h)))

pub item_stepped : (f : Block → Block) (blocks items : List Block) (i : ℕ) (new d : Block) → i < length blocks →
    items ≡ map f (take i blocks) ++ drop i blocks → new ≡ f (get_or items i d) →
    set items i new ≡ map f (take (i + 1) blocks) ++ drop (i + 1) blocks
item_stepped f blocks items i new d h e n =
    let done : List Block = map f (take i blocks) in
    let rest : List Block = drop (i + 1) blocks in
    let here : Block = get_or blocks i d in
    let long : i ≡ length (map f (take i blocks)) =
    sym (length-map (take i blocks) f ∙ length-take-le i blocks (omega arith)) in
    let is : new ≡ f here = n ∙ ap f (item_is f blocks items i d h e) in
    ap (λ l. set l i new) (e ∙ ap (λ l. done ++ l) (from_here blocks i d h))
    ∙ (ap (λ k. set (done ++ here ∷ rest) k new) long
    ∙ (set-append_seam done here rest new
    ∙ (ap (λ x. done ++ x ∷ rest) is
    ∙ (sym (append_assoc done (f here ∷ []) rest)
    ∙ ap (λ l. l ++ rest) (sym (map-append f (take i blocks) (here ∷ [])) ∙ ap (map f) (sym (take_more blocks i d h)))))))

-- As the box opens.

pub all_opened : flat_map (λ kind. replicate (count_of kind) (opening_block kind)) (range_with_len 3 9) ≡ map opening_block machine_kinds
unfolding machines machine_kinds catalogue
all_opened = refl

pub more_opened : (items new : List Block) (kind : ℕ) → kind < 12 → new ≡ items ++ replicate (count_of kind) (opening_block kind) →
    new ++ flat_map (λ k. replicate (count_of k) (opening_block k)) (range_with_len (kind + 1) (12 - (kind + 1)))
    ≡ items ++ flat_map (λ k. replicate (count_of k) (opening_block k)) (range_with_len kind (12 - kind))
more_opened items new kind h e =
    let f : ℕ → List Block = λ k. replicate (count_of k) (opening_block k) in
    let rest : List Block = flat_map f (range_with_len (kind + 1) (12 - (kind + 1))) in
    let n : suc (12 - (kind + 1)) ≡ 12 - kind = omega arith in
    ap (λ l. l ++ rest) e
    ∙ (append_assoc items (f kind) rest
    ∙ ap (λ m. items ++ flat_map f (range_with_len kind m)) n)

opened_kinds : map kind_of (map opening_block machine_kinds) ≡ machine_kinds
unfolding opening_block machines machine_kinds catalogue
opened_kinds = refl

pub opening_whole : (blocks : List Block) (settings : List Bool) → blocks ≡ map opening_block machine_kinds → length settings ≡ 4 →
    IsWhole blocks settings
opening_whole blocks settings e h = record { kinds = ap (map kind_of) e ∙ opened_kinds; four = h }

opening_agreed : Agrees opening opening_box
opening_agreed = record { stands = refl; ticks = refl; changes = opening_agrees }

pub opening_along : (kept : Kept) → kept ≡ opening → Agrees kept opening_box
opening_along kept e = subst (λ k. Agrees k opening_box) (sym e) opening_agreed

pub all_done : (items : List Block) (kind : ℕ) → 12 ≤ kind →
    items ++ flat_map (λ k. replicate (count_of k) (opening_block k)) (range_with_len kind (12 - kind)) ≡ map opening_block machine_kinds →
    items ≡ map opening_block machine_kinds
all_done items kind h e =
    let none : 12 - kind ≡ 0 = omega arith in
    sym (append-nil items)
    ∙ (sym (ap (λ n. items ++ flat_map (λ k. replicate (count_of k) (opening_block k)) (range_with_len kind n)) none)
    ∙ e)

pub is_opening : (buses : Buses) (blocks : List Block) → buses ≡ opening_buses → blocks ≡ map opening_block machine_kinds →
    record { tick = 0; buses = buses; settings = false ∷ false ∷ false ∷ false ∷ []; blocks = blocks } ≡ opening
is_opening buses blocks a b =
    ap (λ (x : Buses). record { tick = 0; buses = x; settings = false ∷ false ∷ false ∷ false ∷ []; blocks = blocks }) a
    ∙ ap (λ (l : List Block). record { tick = 0; buses = opening_buses; settings = false ∷ false ∷ false ∷ false ∷ []; blocks = l }) b

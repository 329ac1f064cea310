-- Outputs that stand on the bus, and what shows the same.
use Rattle.std.proofs.Common.{◌≡◌, ℕ, zero, suc, ◌+◌, ◌-◌, ◌<◌, ◌≤◌, Bool, true, false, ℤ, pos, List, [], ◌∷◌, ◌++◌, length, get_or, set, take, drop, map, refl, sym, ap, subst, ◌∙◌, arith, append_assoc, length-append, drop-cons, add-one}
use Rattle.std.specs.List.{flat_map, sum_by, take-map}
use Rattle.std.proofs.lemmas.List.{length-take-le, take-append-drop, take_more, get_or-take}
use Rattle.pb_buses.specs.declared.Bus.{Bus}
use Rattle.pb_buses.specs.declared.Buses.{Buses}
use Rattle.pb_buses.specs.Buses.{with_bit, with_position}
use Rattle.pb_buses.proofs.ChangeLemmas.{same_bit, same_position}
use Rattle.pb_model.specs.declared.blocks.Block.{Block}
use Rattle.pb_model.specs.Machines.{machine_kinds}
use Rattle.pb_model.specs.Units.{bit_outputs, position_outputs}
use Rattle.pb_model.specs.Tick.{kind_of, bits_of, positions_of, bus_after}
use Rattle.pb_model.specs.Kept.{with_bits, with_positions, buses_with}
use Rattle.pb_model.specs.Parts.{bit_entry, position_entry, shown_at}
use Rattle.pb_model.proofs.ShownLemmas.{bits-append, positions-append, length-bits_of, length-positions_of, count_bits, count_positions}
use Rattle.pb_model.proofs.BusLemmas.{spliced, spliced-is, bits-bus, positions-bus}
use Rattle.pb_model.proofs.TickLemmas.{many_bits, many_positions}
use Rattle.pb_model.proofs.PlacedLemmas.{Stand, stand_first, stand_last, spliced_same, spliced_stands, stand_before, stand_behind}

-- the outputs of the blocks and the settings of BITS stand at their entries
pub record OutputsStand (bus : Bus) (blocks : List Block) (settings : List Bool) : Type 0 where
  pub bits : Stand false bus.bits 6 (flat_map bits_of blocks ++ settings)
  pub positions : Stand (pos 0) bus.positions 4 (flat_map positions_of blocks)

-- A put of what stands.

pub bits_again : (entry : ℕ) (values : List Bool) (tick : ℕ) (buses : Buses) → Stand false buses.bus.bits entry values →
    with_bits entry values tick buses ≡ buses
bits_again entry [] tick buses h = refl
bits_again entry (v ∷ values) tick buses h =
    let zero_more : entry + 0 ≡ entry = omega arith in
    let here : v ≡ get_or buses.bus.bits entry false = sym (h 0 (omega arith)) ∙ ap (λ n. get_or buses.bus.bits n false) zero_more in
    let same : with_bit buses entry v tick ≡ buses = ap (λ x. with_bit buses entry x tick) here ∙ same_bit buses entry tick in
    ap (with_bits (entry + 1) values tick) same
    ∙ bits_again (entry + 1) values tick buses (stand_last false buses.bus.bits entry (v ∷ []) values h)

pub positions_again : (entry : ℕ) (values : List ℤ) (tick : ℕ) (buses : Buses) → Stand (pos 0) buses.bus.positions entry values →
    with_positions entry values tick buses ≡ buses
positions_again entry [] tick buses h = refl
positions_again entry (v ∷ values) tick buses h =
    let zero_more : entry + 0 ≡ entry = omega arith in
    let here : v ≡ get_or buses.bus.positions entry (pos 0) =
    sym (h 0 (omega arith)) ∙ ap (λ n. get_or buses.bus.positions n (pos 0)) zero_more in
    let same : with_position buses entry v tick ≡ buses =
    ap (λ x. with_position buses entry x tick) here ∙ same_position buses entry tick in
    ap (with_positions (entry + 1) values tick) same
    ∙ positions_again (entry + 1) values tick buses (stand_last (pos 0) buses.bus.positions entry (v ∷ []) values h)

-- outputs that stand are shown already
pub shown_again : (tick : ℕ) (buses : Buses) (blocks : List Block) (settings : List Bool) →
    OutputsStand buses.bus blocks settings → buses_with tick blocks settings buses ≡ buses
shown_again tick buses blocks settings h =
    ap (with_positions 4 (flat_map positions_of blocks) tick) (bits_again 6 (flat_map bits_of blocks ++ settings) tick buses h.bits)
    ∙ positions_again 4 (flat_map positions_of blocks) tick buses h.positions

-- The bus of the next tick.

pub record IsWide (bus : Bus) : Type 0 where
  pub bits : length bus.bits ≡ 128
  pub positions : length bus.positions ≡ 32

module _ (blocks : List Block) (settings : List Bool) (kinds : map kind_of blocks ≡ machine_kinds) (four : length settings ≡ 4) where
  many : length (flat_map bits_of blocks ++ settings) ≡ 57
  many = length-append (flat_map bits_of blocks) settings ∙ omega (arith, many_bits blocks kinds, four)

  many_positions_here : length (flat_map positions_of blocks) ≡ 8
  many_positions_here = many_positions blocks kinds

  -- it has these at their entries, and else what stands
  pub after_is : (bus : Bus) →
      bus_after bus blocks settings
      ≡ record {
        bits = spliced 6 (flat_map bits_of blocks ++ settings) bus.bits;
        positions = spliced 4 (flat_map positions_of blocks) bus.positions;
      }
  after_is bus =
      let to_63 : 63 ≡ 6 + length (flat_map bits_of blocks ++ settings) = omega (arith, many) in
      let to_12 : 12 ≡ 4 + length (flat_map positions_of blocks) = omega (arith, many_positions_here) in
      let shown : List Bool = flat_map bits_of blocks in
      ap (λ l. record { bits = l; positions = take 4 bus.positions ++ flat_map positions_of blocks ++ drop 12 bus.positions })
      (ap (λ l. l ++ drop 63 bus.bits) (append_assoc (take 6 bus.bits) shown settings)
      ∙ (ap (λ n. take 6 bus.bits ++ (shown ++ settings) ++ drop n bus.bits) to_63
      ∙ sym (spliced-is 6 (shown ++ settings) bus.bits)))
      ∙ ap (λ l. record { bits = spliced 6 (shown ++ settings) bus.bits; positions = l })
      (ap (λ n. take 4 bus.positions ++ flat_map positions_of blocks ++ drop n bus.positions) to_12
      ∙ sym (spliced-is 4 (flat_map positions_of blocks) bus.positions))

  pub stands_after : (bus : Bus) → IsWide bus → OutputsStand (bus_after bus blocks settings) blocks settings
  stands_after bus wide =
      subst (λ (b : Bus). OutputsStand b blocks settings) (sym (after_is bus))
      (record {
        bits = spliced_stands false (flat_map bits_of blocks ++ settings) bus.bits 6 (omega (arith, wide.bits));
        positions = spliced_stands (pos 0) (flat_map positions_of blocks) bus.positions 4 (omega (arith, wide.positions));
      })

  pub stands_to : (bus : Bus) → IsWide bus → OutputsStand bus blocks settings → bus_after bus blocks settings ≡ bus
  stands_to bus wide h =
      after_is bus
      ∙ (ap (λ l. record { bits = l; positions = spliced 4 (flat_map positions_of blocks) bus.positions })
      (spliced_same false (flat_map bits_of blocks ++ settings) bus.bits 6 (omega (arith, many, wide.bits)) h.bits)
      ∙ ap (λ l. record { bits = bus.bits; positions = l })
      (spliced_same (pos 0) (flat_map positions_of blocks) bus.positions 4 (omega (arith, many_positions_here, wide.positions)) h.positions))

  pub stands_from : (bus : Bus) → IsWide bus → bus_after bus blocks settings ≡ bus → OutputsStand bus blocks settings
  stands_from bus wide e = subst (λ (b : Bus). OutputsStand b blocks settings) e (stands_after bus wide)

-- Where only the entries of TTLIN and INENC change, the outputs stand.

pub driven_stands : (bus new : Bus) (blocks : List Block) (settings : List Bool) →
    ((entry : ℕ) → 6 ≤ entry → get_or new.bits entry false ≡ get_or bus.bits entry false) →
    ((entry : ℕ) → 4 ≤ entry → get_or new.positions entry (pos 0) ≡ get_or bus.positions entry (pos 0)) →
    OutputsStand bus blocks settings → OutputsStand new blocks settings
driven_stands bus new blocks settings bits positions h =
    record {
      bits = λ k below. bits (6 + k) (omega arith) ∙ h.bits k below;
      positions = λ k below. positions (4 + k) (omega arith) ∙ h.positions k below;
    }

-- Blocks that show the same.

pub same_shown : {Y : Type 0} (f : Block → List Y) (new old : List Block) → map f new ≡ map f old → flat_map f new ≡ flat_map f old
same_shown f [] [] h = refl
same_shown f [] (b ∷ old) h = cc
same_shown f (a ∷ new) [] h = cc
same_shown f (a ∷ new) (b ∷ old) h =
    let here : f a ≡ f b = cc in
    let rest : map f new ≡ map f old = cc in
    ap (λ l. l ++ flat_map f new) here ∙ ap (λ l. f b ++ l) (same_shown f new old rest)

pub same_stand : (bus : Bus) (new old : List Block) (settings : List Bool) → map bits_of old ≡ map bits_of new →
    map positions_of old ≡ map positions_of new → OutputsStand bus old settings → OutputsStand bus new settings
same_stand bus new old settings e f h =
    record {
      bits = subst (λ (l : List Bool). Stand false bus.bits 6 (l ++ settings)) (same_shown bits_of old new e) h.bits;
      positions = subst (λ (l : List ℤ). Stand (pos 0) bus.positions 4 l) (same_shown positions_of old new f) h.positions;
    }

-- One block shows something new.

around : {Y : Type 0} (f : Block → List Y) (blocks : List Block) (i : ℕ) (new : Block) → i < length blocks →
    flat_map f (set blocks i new) ≡ flat_map f (take i blocks) ++ (f new ++ flat_map f (drop (i + 1) blocks))
around f [] i new h = absurd (omega arith)
around f (b ∷ blocks) zero new h = refl
around f (b ∷ blocks) (suc i) new h =
    let more : suc i + 1 ≡ suc (i + 1) = omega arith in
    rw more
    (ap (λ l. f b ++ l) (around f blocks i new (omega arith))
    ∙ sym (append_assoc (f b) (flat_map f (take i blocks)) (f new ++ flat_map f (drop (i + 1) blocks))))

around_old : {Y : Type 0} (f : Block → List Y) (blocks : List Block) (i : ℕ) (d : Block) → i < length blocks →
    flat_map f blocks ≡ flat_map f (take i blocks) ++ (f (get_or blocks i d) ++ flat_map f (drop (i + 1) blocks))
around_old f [] i d h = absurd (omega arith)
around_old f (b ∷ blocks) zero d h = refl
around_old f (b ∷ blocks) (suc i) d h =
    let more : suc i + 1 ≡ suc (i + 1) = omega arith in
    rw more
    (ap (λ l. f b ++ l) (around_old f blocks i d (omega arith))
    ∙ sym (append_assoc (f b) (flat_map f (take i blocks)) (f (get_or blocks i d) ++ flat_map f (drop (i + 1) blocks))))

entry_is : (blocks : List Block) (i : ℕ) → map kind_of blocks ≡ machine_kinds → 6 + length (flat_map bits_of (take i blocks)) ≡ bit_entry i
entry_is blocks i h =
    ap (λ n. 6 + n)
    (count_bits (take i blocks)
    ∙ (ap (sum_by bit_outputs) (sym (take-map kind_of i blocks)) ∙ ap (λ l. sum_by bit_outputs (take i l)) h))

position_is : (blocks : List Block) (i : ℕ) → map kind_of blocks ≡ machine_kinds →
    4 + length (flat_map positions_of (take i blocks)) ≡ position_entry i
position_is blocks i h =
    ap (λ n. 4 + n)
    (count_positions (take i blocks)
    ∙ (ap (sum_by position_outputs) (sym (take-map kind_of i blocks)) ∙ ap (λ l. sum_by position_outputs (take i l)) h))

-- values in front that stand, one part that is new, and values behind that stand
part_bits : (entry tick : ℕ) (front old new behind : List Bool) (buses : Buses) → length new ≡ length old →
    entry + length (front ++ (old ++ behind)) ≤ length buses.bus.bits → Stand false buses.bus.bits entry (front ++ (old ++ behind)) →
    with_bits entry (front ++ (new ++ behind)) tick buses ≡ with_bits (entry + length front) new tick buses
part_bits entry tick front old new behind buses long fits h =
    let total : length (front ++ (old ++ behind)) ≡ length front + (length old + length behind) =
    length-append front (old ++ behind) ∙ ap (λ n. length front + n) (length-append old behind) in
    let later : Stand false buses.bus.bits (entry + length front) (old ++ behind) = stand_last false buses.bus.bits entry front (old ++ behind) h in
    let last : Stand false buses.bus.bits (entry + length front + length new) behind =
    subst (λ (n : ℕ). Stand false buses.bus.bits (entry + length front + n) behind) (sym long)
    (stand_last false buses.bus.bits (entry + length front) old behind later) in
    let left : Buses = with_bits (entry + length front) new tick buses in
    let is : left.bus ≡ record { bits = spliced (entry + length front) new buses.bus.bits; positions = buses.bus.positions } =
    bits-bus (entry + length front) new tick buses (omega (arith, total, long, fits)) in
    let stays : Stand false left.bus.bits (entry + length front + length new) behind =
    subst (λ (b : Bus). Stand false b.bits (entry + length front + length new) behind) (sym is)
    (stand_behind false new buses.bus.bits behind (entry + length front) (omega (arith, total, fits)) last) in
    bits-append entry front (new ++ behind) tick buses
    ∙ (ap (with_bits (entry + length front) (new ++ behind) tick)
    (bits_again entry front tick buses (stand_first false buses.bus.bits entry front (old ++ behind) h))
    ∙ (bits-append (entry + length front) new behind tick buses
    ∙ bits_again (entry + length front + length new) behind tick left stays))

part_positions : (entry tick : ℕ) (front old new behind : List ℤ) (buses : Buses) → length new ≡ length old →
    entry + length (front ++ (old ++ behind)) ≤ length buses.bus.positions →
    Stand (pos 0) buses.bus.positions entry (front ++ (old ++ behind)) →
    with_positions entry (front ++ (new ++ behind)) tick buses ≡ with_positions (entry + length front) new tick buses
part_positions entry tick front old new behind buses long fits h =
    let total : length (front ++ (old ++ behind)) ≡ length front + (length old + length behind) =
    length-append front (old ++ behind) ∙ ap (λ n. length front + n) (length-append old behind) in
    let later : Stand (pos 0) buses.bus.positions (entry + length front) (old ++ behind) =
    stand_last (pos 0) buses.bus.positions entry front (old ++ behind) h in
    let last : Stand (pos 0) buses.bus.positions (entry + length front + length new) behind =
    subst (λ (n : ℕ). Stand (pos 0) buses.bus.positions (entry + length front + n) behind) (sym long)
    (stand_last (pos 0) buses.bus.positions (entry + length front) old behind later) in
    let left : Buses = with_positions (entry + length front) new tick buses in
    let is : left.bus ≡ record { bits = buses.bus.bits; positions = spliced (entry + length front) new buses.bus.positions } =
    positions-bus (entry + length front) new tick buses (omega (arith, total, long, fits)) in
    let stays : Stand (pos 0) left.bus.positions (entry + length front + length new) behind =
    subst (λ (b : Bus). Stand (pos 0) b.positions (entry + length front + length new) behind) (sym is)
    (stand_behind (pos 0) new buses.bus.positions behind (entry + length front) (omega (arith, total, fits)) last) in
    positions-append entry front (new ++ behind) tick buses
    ∙ (ap (with_positions (entry + length front) (new ++ behind) tick)
    (positions_again entry front tick buses (stand_first (pos 0) buses.bus.positions entry front (old ++ behind) h))
    ∙ (positions-append (entry + length front) new behind tick buses
    ∙ positions_again (entry + length front + length new) behind tick left stays))

module _ (buses : Buses) (blocks : List Block) (settings : List Bool) (kinds : map kind_of blocks ≡ machine_kinds)
    (four : length settings ≡ 4) (wide : IsWide buses.bus) (stand : OutputsStand buses.bus blocks settings) where
  all_bits_old : (i : ℕ) (d : Block) → i < length blocks →
      flat_map bits_of blocks ++ settings
      ≡ flat_map bits_of (take i blocks) ++ (bits_of (get_or blocks i d) ++ (flat_map bits_of (drop (i + 1) blocks) ++ settings))
  all_bits_old i d h =
      let rest : List Bool = flat_map bits_of (drop (i + 1) blocks) in
      let front : List Bool = flat_map bits_of (take i blocks) in
      ap (λ l. l ++ settings) (around_old bits_of blocks i d h)
      ∙ (append_assoc front (bits_of (get_or blocks i d) ++ rest) settings
      ∙ ap (λ l. front ++ l) (append_assoc (bits_of (get_or blocks i d)) rest settings))

  all_bits_new : (i : ℕ) (new : Block) → i < length blocks →
      flat_map bits_of (set blocks i new) ++ settings
      ≡ flat_map bits_of (take i blocks) ++ (bits_of new ++ (flat_map bits_of (drop (i + 1) blocks) ++ settings))
  all_bits_new i new h =
      let rest : List Bool = flat_map bits_of (drop (i + 1) blocks) in
      let front : List Bool = flat_map bits_of (take i blocks) in
      ap (λ l. l ++ settings) (around bits_of blocks i new h)
      ∙ (append_assoc front (bits_of new ++ rest) settings
      ∙ ap (λ l. front ++ l) (append_assoc (bits_of new) rest settings))

  -- where the outputs of the blocks stand, and one block is new, its outputs alone have to be shown
  pub one_shown : (i tick : ℕ) (new d : Block) → i < length blocks → kind_of new ≡ kind_of (get_or blocks i d) →
      buses_with tick (set blocks i new) settings buses ≡ shown_at i new tick buses
  one_shown i tick new d h kind =
      let old : Block = get_or blocks i d in
      let front : List Bool = flat_map bits_of (take i blocks) in
      let behind : List Bool = flat_map bits_of (drop (i + 1) blocks) ++ settings in
      let positions_front : List ℤ = flat_map positions_of (take i blocks) in
      let positions_behind : List ℤ = flat_map positions_of (drop (i + 1) blocks) in
      let long : length (bits_of new) ≡ length (bits_of (get_or blocks i d)) =
      length-bits_of new ∙ (ap bit_outputs kind ∙ sym (length-bits_of (get_or blocks i d))) in
      let positions_long : length (positions_of new) ≡ length (positions_of (get_or blocks i d)) =
      length-positions_of new ∙ (ap position_outputs kind ∙ sym (length-positions_of (get_or blocks i d))) in
      let all : length (front ++ (bits_of (get_or blocks i d) ++ behind)) ≡ 57 =
      ap length (sym (all_bits_old i d h)) ∙ many blocks settings kinds four in
      let positions_all : length (positions_front ++ (positions_of (get_or blocks i d) ++ positions_behind)) ≡ 8 =
      ap length (sym (around_old positions_of blocks i d h)) ∙ many_positions blocks kinds in
      let put : Buses = with_bits (6 + length front) (bits_of new) tick buses in
      let bits : with_bits 6 (flat_map bits_of (set blocks i new) ++ settings) tick buses ≡ put =
      ap (λ l. with_bits 6 l tick buses) (all_bits_new i new h)
      ∙ part_bits 6 tick front (bits_of (get_or blocks i d)) (bits_of new) behind buses long (omega (arith, all, wide.bits))
      (subst (λ (l : List Bool). Stand false buses.bus.bits 6 l) (all_bits_old i d h) stand.bits) in
      let same : put.bus.positions ≡ buses.bus.positions =
      ap (λ (b : Bus). b.positions)
      (bits-bus (6 + length front) (bits_of new) tick buses
      (omega (arith, all, long, length-append front (bits_of (get_or blocks i d) ++ behind), length-append (bits_of (get_or blocks i d)) behind, wide.bits))) in
      let positions_stand : Stand (pos 0) put.bus.positions 4 (positions_front ++ (positions_of (get_or blocks i d) ++ positions_behind)) =
      subst (λ (xs : List ℤ). Stand (pos 0) xs 4 (positions_front ++ (positions_of (get_or blocks i d) ++ positions_behind))) (sym same)
      (subst (λ (l : List ℤ). Stand (pos 0) buses.bus.positions 4 l) (around_old positions_of blocks i d h) stand.positions) in
      ap (with_positions 4 (flat_map positions_of (set blocks i new)) tick) bits
      ∙ (ap (λ l. with_positions 4 l tick put) (around positions_of blocks i new h)
      ∙ part_positions 4 tick positions_front (positions_of (get_or blocks i d)) (positions_of new) positions_behind put positions_long
      (omega (arith, positions_all, ap length same, wide.positions)) positions_stand
      ∙ (ap (λ n. with_positions n (positions_of new) tick put) (position_is blocks i kinds)
      ∙ ap (λ n. with_positions (position_entry i) (positions_of new) tick (with_bits n (bits_of new) tick buses)) (entry_is blocks i kinds)))

  -- and of new settings of BITS these alone
  pub values_shown : (tick : ℕ) (values : List Bool) → length values ≡ 4 →
      buses_with tick blocks values buses ≡ with_bits 59 values tick buses
  values_shown tick values long =
      let front : List Bool = flat_map bits_of blocks in
      let to_59 : 6 + length (flat_map bits_of blocks) ≡ 59 = omega (arith, many_bits blocks kinds) in
      let fits : 59 + length values ≤ length buses.bus.bits = omega (arith, wide.bits) in
      let bits : with_bits 6 (front ++ values) tick buses ≡ with_bits 59 values tick buses =
      bits-append 6 front values tick buses
      ∙ (ap (with_bits (6 + length front) values tick) (bits_again 6 front tick buses (stand_first false buses.bus.bits 6 front settings stand.bits))
      ∙ ap (λ n. with_bits n values tick buses) to_59) in
      let same : (with_bits 59 values tick buses).bus.positions ≡ buses.bus.positions =
      ap (λ (b : Bus). b.positions) (bits-bus 59 values tick buses fits) in
      ap (with_positions 4 (flat_map positions_of blocks) tick) bits
      ∙ positions_again 4 (flat_map positions_of blocks) tick (with_bits 59 values tick buses)
      (subst (λ (xs : List ℤ). Stand (pos 0) xs 4 (flat_map positions_of blocks)) (sym same) stand.positions)

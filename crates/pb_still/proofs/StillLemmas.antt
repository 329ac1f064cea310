-- Quiet ticks are one coast.
use Rattle.std.proofs.Common.{◌≡◌, ℕ, zero, suc, ◌+◌, ◌<◌, ◌||◌, ◌==◌, nat_lt, pos, Bool, true, false, List, [], ◌∷◌, ◌++◌, ℤ, map, take, drop, replicate, refl, sym, ap, subst, ◌∙◌, arith, inl, Some, if◌then◌else◌}
use Rattle.std.specs.Prelude.{Option}
use Rattle.std.specs.List.{AllByRecursion, flat_map}
use Rattle.pb_buses.specs.declared.Bus.{Bus}
use Rattle.pb_buses.specs.declared.Inputs.{Inputs}
use Rattle.pb_buses.specs.declared.Outputs.{Outputs}
use Rattle.pb_buses.specs.Rules.{after, AreCalm}
use Rattle.pb_buses.specs.Buses.{selected, words, position}
use Rattle.pb_buses.specs.Delay.{BitInput, pushed, digits}
use Rattle.pb_buses.proofs.CoastLemmas.{first_calm, rest_calm, shows_the_same}
use Rattle.pb_buses.proofs.LineLemmas.{pushed-twice}
use Rattle.pb_names.specs.declared.pcap.TheConstants as pcap
use Rattle.pb_names.specs.declared.position_bus.TheConstants as position_bus
use Rattle.pb_model.specs.declared.units.Unit.{Unit as AnyUnit}
use Rattle.pb_model.specs.declared.units.Unit.TheVariants as units
use Rattle.pb_model.specs.declared.Block.{Block}
use Rattle.pb_model.specs.Units.{rules, next, place_of, shown, counts_unseen, bit_outputs, position_outputs}
use Rattle.pb_model.specs.Tick.{Standing, Box, kind_of, sees_all, seen_on, inputs_of, bits_of, positions_of, bus_after}
use Rattle.pb_model.specs.Tick as model
use Rattle.pb_still.specs.Driving.{driven, stimulated}
use Rattle.pb_still.specs.Eventful.{Moment, seen_in, next_moment, moment_after, AreBusy, IsStill, Run}
use Rattle.pb_still.specs.Coasting.{input_later, coasted_block, coasted, coasted_moment, IsQuietFor, StaysFor}

-- A unit keeps its kind.

place_stays : (unit : AnyUnit) (inputs : Inputs) (tick : ℕ) → place_of (next unit inputs tick) ≡ place_of unit
place_stays (units.Lut block) inputs tick = refl
place_stays (units.Srgate block) inputs tick = refl
place_stays (units.Div block) inputs tick = refl
place_stays (units.Pulse block) inputs tick = refl
place_stays (units.Counter block) inputs tick = refl
place_stays (units.Clock block) inputs tick = refl
place_stays (units.Seq block) inputs tick = refl
place_stays (units.Pcomp block) inputs tick = refl
place_stays (units.Pcap block) inputs tick = refl

pub place_after : (n : ℕ) (inputs : Inputs) (tick : ℕ) (unit : AnyUnit) → place_of (after rules inputs tick n unit) ≡ place_of unit
place_after zero inputs tick unit = refl
place_after (suc n) inputs tick unit = place_after n inputs (tick + 1) (next unit inputs tick) ∙ place_stays unit inputs tick

-- What is shown.

pub same_bits : (bus : Bus) (tick n : ℕ) (block : Block) → AreCalm rules (inputs_of bus block) tick n block.unit →
    bits_of (coasted_block bus tick n block) ≡ bits_of block
same_bits bus tick n block calm =
    let later : AnyUnit = after rules (inputs_of bus block) tick n block.unit in
    ap (λ k. digits (bit_outputs k) (shown later).bits) (place_after n (inputs_of bus block) tick block.unit)
    ∙ ap (λ (o : Outputs). digits (bit_outputs (kind_of block)) o.bits) (shows_the_same rules (inputs_of bus block) shown counts_unseen tick n block.unit calm)

pub same_positions : (bus : Bus) (tick n : ℕ) (block : Block) → AreCalm rules (inputs_of bus block) tick n block.unit →
    positions_of (coasted_block bus tick n block) ≡ positions_of block
same_positions bus tick n block calm =
    let later : AnyUnit = after rules (inputs_of bus block) tick n block.unit in
    ap (λ k. take (position_outputs k) ((shown later).position ∷ [])) (place_after n (inputs_of bus block) tick block.unit)
    ∙ ap (λ (o : Outputs). take (position_outputs (kind_of block)) (o.position ∷ [])) (shows_the_same rules (inputs_of bus block) shown counts_unseen tick n block.unit calm)

all_bits_same : (bus : Bus) (tick n : ℕ) (blocks : List Block) → AllByRecursion (IsQuietFor bus tick n) blocks →
    flat_map bits_of (map (coasted_block bus tick n) blocks) ≡ flat_map bits_of blocks
all_bits_same bus tick n [] h = refl
all_bits_same bus tick n (block ∷ blocks) h =
    ap (λ (l : List Bool). l ++ flat_map bits_of (map (coasted_block bus tick n) blocks)) (same_bits bus tick n block h.0.calm)
    ∙ ap (λ (l : List Bool). bits_of block ++ l) (all_bits_same bus tick n blocks h.1)

all_positions_same : (bus : Bus) (tick n : ℕ) (blocks : List Block) → AllByRecursion (IsQuietFor bus tick n) blocks →
    flat_map positions_of (map (coasted_block bus tick n) blocks) ≡ flat_map positions_of blocks
all_positions_same bus tick n [] h = refl
all_positions_same bus tick n (block ∷ blocks) h =
    ap (λ (l : List ℤ). l ++ flat_map positions_of (map (coasted_block bus tick n) blocks)) (same_positions bus tick n block h.0.calm)
    ∙ ap (λ (l : List ℤ). positions_of block ++ l) (all_positions_same bus tick n blocks h.1)

pub bus_stays : (bus : Bus) (tick n : ℕ) (blocks : List Block) (settings : List Bool) → AllByRecursion (IsQuietFor bus tick n) blocks →
    bus_after bus (map (coasted_block bus tick n) blocks) settings ≡ bus_after bus blocks settings
bus_stays bus tick n blocks settings h =
    ap (λ (l : List Bool). record {
      bits = take 6 bus.bits ++ l ++ settings ++ drop 63 bus.bits;
      positions = take 4 bus.positions ++ flat_map positions_of (map (coasted_block bus tick n) blocks) ++ drop 12 bus.positions;
    }) (all_bits_same bus tick n blocks h)
    ∙ ap (λ (l : List ℤ). record {
      bits = take 6 bus.bits ++ flat_map bits_of blocks ++ settings ++ drop 63 bus.bits;
      positions = take 4 bus.positions ++ l ++ drop 12 bus.positions;
    }) (all_positions_same bus tick n blocks h)

-- Two parts of a coast.

pub map-two : {X Y Z : Type 0} (f : Y → Z) (g : X → Y) (h : X → Z) → ((x : X) → f (g x) ≡ h x) → (xs : List X) →
    map f (map g xs) ≡ map h xs
map-two f g h e [] = refl
map-two f g h e (x ∷ xs) = ap (λ z. z ∷ map f (map g xs)) (e x) ∙ ap (λ l. h x ∷ l) (map-two f g h e xs)

pub input_twice : (bus : Bus) (m n : ℕ) (input : BitInput) → input_later bus n (input_later bus m input) ≡ input_later bus (m + n) input
input_twice bus m n input =
    let e : n + m ≡ m + n = omega arith in
    ap (λ (l : List Bool). record { select = input.select; delay = input.delay; line = l })
    (pushed-twice input.line (selected bus input.select) m n ∙ ap (pushed input.line (selected bus input.select)) e)

pub inputs_twice : (bus : Bus) (m n : ℕ) (inputs : List BitInput) →
    map (input_later bus n) (map (input_later bus m) inputs) ≡ map (input_later bus (m + n)) inputs
inputs_twice bus m n inputs = map-two (input_later bus n) (input_later bus m) (input_later bus (m + n)) (input_twice bus m n) inputs

-- What is seen.

-- what a block of a kind sees, with these bits and positions
abbrev sight : Bus → ℕ → List Bool → List ℤ → Inputs
sight bus kind bits positions =
    record {
      bits = bits;
      positions = positions;
      words = if kind == pcap.BLOCK then words bus else replicate 4 0;
      bus = if kind == pcap.BLOCK then bus.positions else replicate position_bus.WIDTH (pos 0);
    }

pub sees_the_same : (bus : Bus) (tick n k : ℕ) (block : Block) → IsQuietFor bus tick n block → k < n →
    inputs_of bus (coasted_block bus tick k block) ≡ inputs_of bus block
sees_the_same bus tick n k block h below =
    let bits : map (seen_on bus) (map (input_later bus k) block.bits) ≡ map (seen_on bus) block.bits =
    map-two (seen_on bus) (input_later bus k) (λ input. seen_on bus (input_later bus k input)) (λ input. refl) block.bits
    ∙ h.steady k below in
    ap (λ (l : List Bool). sight bus (kind_of (coasted_block bus tick k block)) l (map (position bus) block.positions)) bits
    ∙ ap (λ (kind : ℕ). sight bus kind (map (seen_on bus) block.bits) (map (position bus) block.positions))
    (place_after k (inputs_of bus block) tick block.unit)

-- The first of many quiet ticks.

pub block_twice : (bus : Bus) (tick n : ℕ) (block : Block) → IsQuietFor bus tick (suc (suc n)) block →
    coasted_block bus (tick + 1) (suc n) (coasted_block bus tick 1 block) ≡ coasted_block bus tick (suc (suc n)) block
block_twice bus tick n block h =
    let same : inputs_of bus (coasted_block bus tick 1 block) ≡ inputs_of bus block = sees_the_same bus tick (suc (suc n)) 1 block h (omega arith) in
    let e : 1 + suc n ≡ suc (suc n) = omega arith in
    ap (λ (inputs : Inputs). record {
      unit = after rules inputs (tick + 1) (suc n) (next block.unit (inputs_of bus block) tick);
      bits = map (input_later bus (suc n)) (map (input_later bus 1) block.bits);
      positions = block.positions;
    }) same
    ∙ ap (λ (l : List BitInput). record {
      unit = after rules (inputs_of bus block) tick (suc (suc n)) block.unit;
      bits = l;
      positions = block.positions;
    }) (inputs_twice bus 1 (suc n) block.bits ∙ ap (λ (m : ℕ). map (input_later bus m) block.bits) e)

pub blocks_twice : (bus : Bus) (tick n : ℕ) (blocks : List Block) → AllByRecursion (IsQuietFor bus tick (suc (suc n))) blocks →
    map (coasted_block bus (tick + 1) (suc n)) (map (coasted_block bus tick 1) blocks) ≡ map (coasted_block bus tick (suc (suc n))) blocks
blocks_twice bus tick n [] h = refl
blocks_twice bus tick n (block ∷ blocks) h =
    ap (λ (b : Block). b ∷ map (coasted_block bus (tick + 1) (suc n)) (map (coasted_block bus tick 1) blocks)) (block_twice bus tick n block h.0)
    ∙ ap (λ (l : List Block). coasted_block bus tick (suc (suc n)) block ∷ l) (blocks_twice bus tick n blocks h.1)

quiet_rest : (bus : Bus) (tick n : ℕ) (block : Block) → IsQuietFor bus tick (suc n) block →
    IsQuietFor bus (tick + 1) n (coasted_block bus tick 1 block)
quiet_rest bus tick zero block h = record { calm = λ k below. absurd (omega arith); steady = λ k below. absurd (omega arith) }
quiet_rest bus tick (suc n) block h =
    let later : Block = coasted_block bus tick 1 block in
    let same : inputs_of bus later ≡ inputs_of bus block = sees_the_same bus tick (suc (suc n)) 1 block h (omega arith) in
    record {
      calm =
          subst (λ (inputs : Inputs). AreCalm rules inputs (tick + 1) (suc n) later.unit) (sym same)
          (rest_calm rules (inputs_of bus block) (suc n) tick block.unit h.calm);
      steady = λ k below.
          let e : 1 + k ≡ k + 1 = omega arith in
          map-two (λ (input : BitInput). seen_on bus (input_later bus k input)) (input_later bus 1)
          (λ (input : BitInput). seen_on bus (input_later bus (k + 1) input))
          (λ input. ap (seen_on bus) (input_twice bus 1 k input ∙ ap (λ (m : ℕ). input_later bus m input) e)) block.bits
          ∙ (h.steady (k + 1) (omega arith)
          ∙ sym (map-two (seen_on bus) (input_later bus 1) (λ (input : BitInput). seen_on bus (input_later bus 1 input)) (λ input. refl) block.bits
          ∙ h.steady 1 (omega arith)));
    }

all_quiet_rest : (bus : Bus) (tick n : ℕ) (blocks : List Block) → AllByRecursion (IsQuietFor bus tick (suc n)) blocks →
    AllByRecursion (IsQuietFor bus (tick + 1) n) (map (coasted_block bus tick 1) blocks)
all_quiet_rest bus tick n [] h = tt
all_quiet_rest bus tick n (block ∷ blocks) h = (quiet_rest bus tick n block h.0, all_quiet_rest bus tick n blocks h.1)

seen_again : (bus : Bus) (tick n : ℕ) (blocks : List Block) → AllByRecursion (IsQuietFor bus tick (suc (suc n))) blocks →
    map (λ (block : Block). Some (inputs_of bus block)) (map (coasted_block bus tick 1) blocks)
    ≡ map (λ (block : Block). Some (inputs_of bus block)) blocks
seen_again bus tick n [] h = refl
seen_again bus tick n (block ∷ blocks) h =
    ap (λ (i : Inputs). Some i ∷ map (λ (b : Block). Some (inputs_of bus b)) (map (coasted_block bus tick 1) blocks))
    (sees_the_same bus tick (suc (suc n)) 1 block h.0 (omega arith))
    ∙ ap (λ (l : List (Option Inputs)). Some (inputs_of bus block) ∷ l) (seen_again bus tick n blocks h.1)

-- The moment one tick later.

one_tick : (n : ℕ) (moment : Moment) → StaysFor (suc n) moment → model.tick moment.box ≡ coasted 1 moment.box
one_tick n moment h =
    let box : Box = moment.box in
    ap (λ (bus : Bus). record {
      stands = record {
        tick = box.stands.tick + 1;
        bus = bus;
        settings = box.stands.settings;
        blocks = map (coasted_block box.stands.bus box.stands.tick 1) box.stands.blocks;
      };
      past = box.stands.bus ∷ box.past;
    })
    (bus_stays box.stands.bus box.stands.tick 1 box.stands.blocks box.stands.settings (fewer box.stands.blocks h.blocks) ∙ h.shown)
  where
    one : (block : Block) → IsQuietFor moment.box.stands.bus moment.box.stands.tick (suc n) block →
        IsQuietFor moment.box.stands.bus moment.box.stands.tick 1 block
    one block q = record { calm = λ k below. q.calm k (omega arith); steady = λ k below. q.steady k (omega arith) }

    fewer : (blocks : List Block) → AllByRecursion (IsQuietFor moment.box.stands.bus moment.box.stands.tick (suc n)) blocks →
        AllByRecursion (IsQuietFor moment.box.stands.bus moment.box.stands.tick 1) blocks
    fewer [] q = tt
    fewer (block ∷ blocks) q = (one block q.0, fewer blocks q.1)

-- the moment one tick later, of which more ticks are quiet
abbrev stepped : Moment → Moment
stepped moment =
    record { rows = moment.rows; box = coasted 1 moment.box; before = seen_in moment.box.stands; stood = false }

next_is : (n : ℕ) (moment : Moment) → StaysFor (suc (suc n)) moment → next_moment moment ≡ stepped moment
next_is n moment h =
    ap (λ (b : Box). record { rows = moment.rows; box = stimulated moment.rows b; before = seen_in moment.box.stands; stood = false })
    (one_tick (suc n) moment h)
    ∙ ap (λ (bus : Bus). record {
      rows = moment.rows;
      box = record {
        stands = record {
          tick = moment.box.stands.tick + 1;
          bus = bus;
          settings = moment.box.stands.settings;
          blocks = map (coasted_block moment.box.stands.bus moment.box.stands.tick 1) moment.box.stands.blocks;
        };
        past = moment.box.stands.bus ∷ moment.box.past;
      };
      before = seen_in moment.box.stands;
      stood = false;
    }) (h.levels 1 (omega arith))

stays_on : (n : ℕ) (moment : Moment) → StaysFor (suc (suc n)) moment → StaysFor (suc n) (stepped moment)
stays_on n moment h =
    let box : Box = moment.box in
    record {
      blocks = all_quiet_rest box.stands.bus box.stands.tick (suc n) box.stands.blocks h.blocks;
      shown =
          bus_stays box.stands.bus box.stands.tick 1 box.stands.blocks box.stands.settings (fewer box.stands.blocks h.blocks) ∙ h.shown;
      levels = λ k below.
          let e : box.stands.tick + 1 + k ≡ box.stands.tick + suc k = omega arith in
          ap (λ (t : ℕ). driven moment.rows t box.stands.bus) e ∙ h.levels (suc k) (omega arith);
    }
  where
    one : (block : Block) → IsQuietFor moment.box.stands.bus moment.box.stands.tick (suc (suc n)) block →
        IsQuietFor moment.box.stands.bus moment.box.stands.tick 1 block
    one block q = record { calm = λ k below. q.calm k (omega arith); steady = λ k below. q.steady k (omega arith) }

    fewer : (blocks : List Block) → AllByRecursion (IsQuietFor moment.box.stands.bus moment.box.stands.tick (suc (suc n))) blocks →
        AllByRecursion (IsQuietFor moment.box.stands.bus moment.box.stands.tick 1) blocks
    fewer [] q = tt
    fewer (block ∷ blocks) q = (one block q.0, fewer blocks q.1)

-- a state more in the past
past_more : (n : ℕ) (bus : Bus) (past : List Bus) → replicate n bus ++ (bus ∷ past) ≡ replicate (suc n) bus ++ past
past_more zero bus past = refl
past_more (suc n) bus past = ap (λ (l : List Bus). bus ∷ l) (past_more n bus past)

box_twice : (n : ℕ) (moment : Moment) → StaysFor (suc (suc n)) moment →
    coasted (suc n) (coasted 1 moment.box) ≡ coasted (suc (suc n)) moment.box
box_twice n moment h =
    let box : Box = moment.box in
    let e : box.stands.tick + 1 + suc n ≡ box.stands.tick + suc (suc n) = omega arith in
    ap (λ (t : ℕ). record {
      stands = record {
        tick = t;
        bus = box.stands.bus;
        settings = box.stands.settings;
        blocks = map (coasted_block box.stands.bus (box.stands.tick + 1) (suc n)) (map (coasted_block box.stands.bus box.stands.tick 1) box.stands.blocks);
      };
      past = replicate (suc n) box.stands.bus ++ (box.stands.bus ∷ box.past);
    }) e
    ∙ (ap (λ (l : List Block). record {
      stands = record { tick = box.stands.tick + suc (suc n); bus = box.stands.bus; settings = box.stands.settings; blocks = l };
      past = replicate (suc n) box.stands.bus ++ (box.stands.bus ∷ box.past);
    }) (blocks_twice box.stands.bus box.stands.tick n box.stands.blocks h.blocks)
    ∙ ap (λ (l : List Bus). record {
      stands = record {
        tick = box.stands.tick + suc (suc n);
        bus = box.stands.bus;
        settings = box.stands.settings;
        blocks = map (coasted_block box.stands.bus box.stands.tick (suc (suc n))) box.stands.blocks;
      };
      past = l;
    }) (past_more (suc n) box.stands.bus box.past))

-- Many quiet ticks are one coast.

pub coasts : (n : ℕ) (moment : Moment) → StaysFor (suc n) moment → moment_after (suc n) moment ≡ coasted_moment (suc n) moment
coasts zero moment h =
    ap (λ (b : Box). record { rows = moment.rows; box = stimulated moment.rows b; before = seen_in moment.box.stands; stood = false })
    (one_tick zero moment h)
coasts (suc n) moment h =
    ap (moment_after (suc n)) (next_is n moment h)
    ∙ (coasts n (stepped moment) (stays_on n moment h)
    ∙ (ap (λ (b : Box). record {
      rows = moment.rows;
      box = stimulated moment.rows b;
      before = seen_in (coasted 1 moment.box).stands;
      stood = false;
    }) (box_twice n moment h)
    ∙ ap (λ (l : List (Option Inputs)). record {
      rows = moment.rows;
      box = stimulated moment.rows (coasted (suc (suc n)) moment.box);
      before = l;
      stood = false;
    }) (seen_again moment.box.stands.bus moment.box.stands.tick n moment.box.stands.blocks h.blocks)))

-- And none of them is eventful.

idle_on : (bus : Bus) (tick n : ℕ) (blocks : List Block) → AllByRecursion (IsQuietFor bus tick (suc (suc n))) blocks →
    AreBusy bus (tick + 1) (map (λ (block : Block). Some (inputs_of bus block)) blocks) (map (coasted_block bus tick 1) blocks) 0
idle_on bus tick n [] h = refl
idle_on bus tick n (block ∷ blocks) h =
    let rest : IsQuietFor bus (tick + 1) (suc n) (coasted_block bus tick 1 block) = quiet_rest bus tick (suc n) block h.0 in
    inl (
      record {
        calm = first_calm rules (inputs_of bus (coasted_block bus tick 1 block)) n (tick + 1) (coasted_block bus tick 1 block).unit rest.calm;
        same = ap (λ (i : Inputs). Some i) (sym (sees_the_same bus tick (suc (suc n)) 1 block h.0 (omega arith)));
      },
      idle_on bus tick n blocks h.1,
    )

none_here : (b : Bool) → b ≡ false → 0 ≡ (if b || nat_lt 0 0 then 1 else 0) + 0
none_here false e = refl
none_here true e = cc

pub none_eventful : (n : ℕ) (moment : Moment) → StaysFor n moment → IsStill moment → Run n moment 0 0
none_eventful zero moment h still = (refl, refl)
none_eventful (suc zero) moment h still =
    (0, 0, 0, still.idle, (refl, refl), none_here moment.stood still.untouched, refl)
none_eventful (suc (suc n)) moment h still =
    let on : IsStill (stepped moment) =
    record { untouched = refl; idle = idle_on moment.box.stands.bus moment.box.stands.tick n moment.box.stands.blocks h.blocks } in (
      0,
      0,
      0,
      still.idle,
      subst (λ (m : Moment). Run (suc n) m 0 0) (sym (next_is n moment h)) (none_eventful (suc n) (stepped moment) (stays_on n moment h) on),
      none_here moment.stood still.untouched,
      refl,
    )

-- One tick of all blocks.
use Rattle.std.proofs.Common.{◌≡◌, ℕ, ◌+◌, ◌-◌, ◌≤◌, Bool, false, ℤ, List, [], ◌∷◌, ◌++◌, length, map, take, refl, sym, ap, subst, ◌∙◌, arith}
use Rattle.std.specs.Prelude.{Option}
use Rattle.std.specs.List.{AllByRecursion, flat_map}
use Rattle.pb_buses.specs.declared.Buses.{Buses}
use Rattle.pb_buses.specs.declared.Inputs.{Inputs}
use Rattle.pb_buses.specs.declared.Outputs.{Outputs}
use Rattle.pb_buses.specs.declared.Emit.{Emit}
use Rattle.pb_buses.specs.Delay.{digits}
use Rattle.pb_buses.proofs.CoastLemmas.{shows_the_same}
use Rattle.pb_stim.specs.declared.Row.{Row}
use Rattle.pb_model.specs.declared.Block.{Block}
use Rattle.pb_model.specs.Units.{rules, shown, counts_unseen, bit_outputs, position_outputs}
use Rattle.pb_model.specs.Tick.{Standing, Box, IsInputEntry, kind_of, inputs_of, bits_of, positions_of, block_after, emitted_by, emitted_of, handed_on, bus_after, blocks_after}
use Rattle.pb_model.specs.Tick as definition
use Rattle.pb_model.specs.Kept.{Kept, IsWhole, stands_of, kept_after, with_buses, buses_with}
use Rattle.pb_model.specs.Kept as model
use Rattle.pb_model.proofs.TickLemmas.{agrees_after, kinds_stay}
use Rattle.pb_model.proofs.InputLemmas.{inputs_stay}
use Rattle.pb_still.specs.Current.{IsCurrent, values_at, with_values}
use Rattle.pb_still.proofs.LevelLemmas.{values_at-front, values_at-later}
use Rattle.pb_lazy.proofs.ListLemmas.{all_map}
use Rattle.pb_still.specs.Current as current
use Rattle.pb_still.specs.Eventful.{Moment, seen_in, next_moment, AreBusy}
use Rattle.pb_still.proofs.PutLemmas.{values_agree}
use Rattle.pb_still.proofs.StillLemmas.{place_after}
use Rattle.pb_lazy.specs.declared.Lazy.{Lazy}
use Rattle.pb_lazy.specs.Lazy.{caught_up, unit_at, saw, IsSound}
use Rattle.pb_lazy.specs.Meeting.{MetSoFar}
use Rattle.pb_going.specs.Sims.{Going, going, Agrees, IsGoing, now_of, block_in}
use Rattle.pb_going.specs.Moving.{StepsTo}
use Rattle.pb_going.proofs.BusLemmas.{driven_again, shown_after}

-- A block that is behind shows what it would show now.

pub lazy_bits : (tick : ℕ) (first : Bool) (lazy : Lazy) → IsSound tick first lazy → bits_of lazy.block ≡ bits_of (caught_up tick lazy)
lazy_bits tick first lazy sound =
    let n : ℕ = tick - lazy.own in
    sym (ap (λ k. digits (bit_outputs k) (shown (unit_at tick lazy)).bits) (place_after n lazy.kept lazy.own lazy.block.unit)
    ∙ ap (λ (o : Outputs). digits (bit_outputs (kind_of lazy.block)) o.bits)
    (shows_the_same rules lazy.kept shown counts_unseen lazy.own n lazy.block.unit sound.calm))

pub lazy_positions : (tick : ℕ) (first : Bool) (lazy : Lazy) → IsSound tick first lazy → positions_of lazy.block ≡ positions_of (caught_up tick lazy)
lazy_positions tick first lazy sound =
    let n : ℕ = tick - lazy.own in
    sym (ap (λ k. take (position_outputs k) ((shown (unit_at tick lazy)).position ∷ [])) (place_after n lazy.kept lazy.own lazy.block.unit)
    ∙ ap (λ (o : Outputs). take (position_outputs (kind_of lazy.block)) (o.position ∷ []))
    (shows_the_same rules lazy.kept shown counts_unseen lazy.own n lazy.block.unit sound.calm))

pub all_bits : (tick : ℕ) (first : Bool) (lazies : List Lazy) → AllByRecursion (IsSound tick first) lazies →
    flat_map bits_of (map block_in lazies) ≡ flat_map bits_of (map (caught_up tick) lazies)
all_bits tick first [] h = refl
all_bits tick first (lazy ∷ lazies) h =
    ap (λ (l : List Bool). l ++ flat_map bits_of (map block_in lazies)) (lazy_bits tick first lazy h.0)
    ∙ ap (λ (l : List Bool). bits_of (caught_up tick lazy) ++ l) (all_bits tick first lazies h.1)

pub all_positions : (tick : ℕ) (first : Bool) (lazies : List Lazy) → AllByRecursion (IsSound tick first) lazies →
    flat_map positions_of (map block_in lazies) ≡ flat_map positions_of (map (caught_up tick) lazies)
all_positions tick first [] h = refl
all_positions tick first (lazy ∷ lazies) h =
    ap (λ (l : List ℤ). l ++ flat_map positions_of (map block_in lazies)) (lazy_positions tick first lazy h.0)
    ∙ ap (λ (l : List ℤ). positions_of (caught_up tick lazy) ++ l) (all_positions tick first lazies h.1)

-- what is put on the buses of blocks that are behind is what the blocks show now
pub shown_now : (tick at : ℕ) (first : Bool) (lazies : List Lazy) (settings : List Bool) (buses : Buses) → AllByRecursion (IsSound tick first) lazies →
    buses_with at (map block_in lazies) settings buses ≡ buses_with at (map (caught_up tick) lazies) settings buses
shown_now tick at first lazies settings buses h =
    ap (λ (l : List Bool). model.with_positions 4 (flat_map positions_of (map block_in lazies)) at (model.with_bits 6 (l ++ settings) at buses))
    (all_bits tick first lazies h)
    ∙ ap (λ (l : List ℤ). model.with_positions 4 l at (model.with_bits 6 (flat_map bits_of (map (caught_up tick) lazies) ++ settings) at buses))
    (all_positions tick first lazies h)

-- The tick.

module _ (g : Going) (moment : Moment) (h : Agrees g moment) (is : IsGoing g) (news : List Lazy) (emit : Emit) (was spent : ℕ)
    (met : MetSoFar g.buses.bus g.tick g.first g.lazies news emit was spent)
    (shown_on driven_on : Buses) (values : List ℤ)
    (shows : shown_on ≡ buses_with (g.tick + 1) (map block_in news) g.settings g.buses)
    (levels : values ≡ values_at g.rows (g.tick + 1))
    (drives : driven_on ≡ current.buses_with values (g.tick + 1) shown_on) where
  -- what is kept after the blocks and before the stimulus
  kept_is : record { tick = g.tick + 1; buses = shown_on; settings = g.settings; blocks = map (caught_up (g.tick + 1)) news } ≡ kept_after (now_of g)
  kept_is =
      ap (λ (b : Buses). record { tick = g.tick + 1; buses = b; settings = g.settings; blocks = map (caught_up (g.tick + 1)) news })
      (shows ∙ shown_now (g.tick + 1) (g.tick + 1) false news g.settings g.buses met.sound)
      ∙ ap (λ (l : List Block). record {
        tick = g.tick + 1;
        buses = buses_with (g.tick + 1) l g.settings g.buses;
        settings = g.settings;
        blocks = l;
      }) met.blocks

  kept_new : now_of (going g.rows (g.tick + 1) driven_on g.settings news false false) ≡ with_values values (kept_after (now_of g))
  kept_new =
      ap (λ (b : Buses). record { tick = g.tick + 1; buses = b; settings = g.settings; blocks = map (caught_up (g.tick + 1)) news }) drives
      ∙ ap (with_values values) kept_is

  box_agrees : model.Agrees (now_of (going g.rows (g.tick + 1) driven_on g.settings news false false)) (next_moment moment).box
  box_agrees =
      subst (λ (k : Kept). model.Agrees k (next_moment moment).box) (sym kept_new)
      (values_agree moment.rows values (kept_after (now_of g)) (definition.tick moment.box)
      (levels ∙ ap (λ (r : List Row). values_at r (g.tick + 1)) h.rows)
      (agrees_after (now_of g) is.whole moment.box h.box)
      (λ entry input. inputs_stay (now_of g) is.whole moment.box h.box entry input))

  same_tick : moment.box.stands.tick ≡ g.tick
  same_tick = sym (ap (λ (s : Standing). s.tick) h.box.stands)

  pub stepped : StepsTo moment (going g.rows (g.tick + 1) driven_on g.settings news false false) emit was spent
  stepped =
      let stands : stands_of (now_of g) ≡ moment.box.stands = h.box.stands in
      record {
        agrees =
            record {
              rows = h.rows;
              box = box_agrees;
              before = met.kept ∙ ap seen_in stands;
              stood = refl;
              driven = driven_again moment.rows (moment.box.stands.tick + 1) (moment.box.stands.tick + 1)
                  (bus_after moment.box.stands.bus (blocks_after moment.box.stands) moment.box.stands.settings);
              shown = λ a b. shown_after moment.rows (moment.box.stands.tick + 1) moment.box.stands (is_whole stands) (wide stands);
            };
        emits = met.emits ∙ ap emitted_of stands;
        busy = met.busy;
        counted =
            subst (λ (l : List (Option Inputs)). AreBusy moment.box.stands.bus moment.box.stands.tick l moment.box.stands.blocks met.busy) h.before
            (subst (λ (s : Standing). AreBusy s.bus s.tick (map (saw g.first) g.lazies) s.blocks met.busy) stands met.counted);
        few = met.few;
      }
    where
      is_whole : stands_of (now_of g) ≡ moment.box.stands → IsWhole moment.box.stands.blocks moment.box.stands.settings
      is_whole e = subst (λ (s : Standing). IsWhole s.blocks s.settings) e is.whole

      wide : stands_of (now_of g) ≡ moment.box.stands → (length moment.box.stands.bus.bits ≡ 128) × (length moment.box.stands.bus.positions ≡ 32)
      wide e = (
        subst (λ (s : Standing). length s.bus.bits ≡ 128) e h.box.changes.bits,
        subst (λ (s : Standing). length s.bus.positions ≡ 32) e h.box.changes.positions,
      )

-- the blocks stay those of the catalogue
pub goes_on : (g : Going) (buses : Buses) (news : List Lazy) (emit : Emit) (was spent : ℕ) → IsGoing g →
    MetSoFar g.buses.bus g.tick g.first g.lazies news emit was spent → IsGoing (going g.rows (g.tick + 1) buses g.settings news false false)
goes_on g buses news emit was spent is met =
    record {
      whole =
          record {
            kinds =
                ap (map kind_of) met.blocks
                ∙ (kinds_stay g.buses.bus g.tick (map (caught_up g.tick) g.lazies) ∙ is.whole.kinds);
            four = is.whole.four;
          };
      sound = met.sound;
    }

-- The values that the next ticks begin with.
pub values_later : (rows : List Row) (place : ℕ) (values : List ℤ) (now later : ℕ) → IsCurrent rows place values now → now ≤ later →
    values ≡ values_at (take place rows) later
values_later rows place values now later is from =
    is.levels
    ∙ (sym (values_at-front rows place now is.coming) ∙ values_at-later (take place rows) now later from is.past)

pub past_later : (rows : List Row) (place : ℕ) (values : List ℤ) (now later : ℕ) → IsCurrent rows place values now → now ≤ later →
    AllByRecursion (λ (row : Row). row.tick ≤ later) (take place rows)
past_later rows place values now later is from =
    all_map (λ (row : Row). row.tick ≤ now) (λ (row : Row). row.tick ≤ later) (λ row h. omega arith) (take place rows) is.past

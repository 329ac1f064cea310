-- The bus of a tick: it has the values of the stimulus, and shows the outputs.
use Rattle.std.proofs.Common.{◌≡◌, ℕ, ◌+◌, Bool, ℤ, List, [], ◌∷◌, ◌++◌, length, take, drop, refl, sym, ap, ◌∙◌, arith, append_assoc, length-append}
use Rattle.std.specs.List.{flat_map}
use Rattle.std.proofs.lemmas.List.{length-take-le}
use Rattle.pb_buses.specs.declared.Bus.{Bus}
use Rattle.pb_stim.specs.declared.Row.{Row}
use Rattle.pb_model.specs.declared.Block.{Block}
use Rattle.pb_model.specs.Tick.{Standing, bits_of, positions_of, bus_after, blocks_after}
use Rattle.pb_model.specs.Kept.{IsWhole}
use Rattle.pb_model.proofs.TickLemmas.{kinds_stay, many_bits, many_positions}
use Rattle.pb_still.specs.Driving.{driven, levels_at, encoders_at}

-- the values of a later tick hide those before
pub driven_again : (rows : List Row) (tick later : ℕ) (bus : Bus) → driven rows later (driven rows tick bus) ≡ driven rows later bus
driven_again rows tick later bus = refl

-- Parts of a list.

front_len : {X : Type 0} (xs ys : List X) → take (length xs) (xs ++ ys) ≡ xs
front_len [] [] = refl
front_len [] (y ∷ ys) = refl
front_len (x ∷ xs) ys = ap (λ l. x ∷ l) (front_len xs ys)

rest_len : {X : Type 0} (xs ys : List X) → drop (length xs) (xs ++ ys) ≡ ys
rest_len [] [] = refl
rest_len [] (y ∷ ys) = refl
rest_len (x ∷ xs) ys = rest_len xs ys

front_is : {X : Type 0} (n : ℕ) (xs ys : List X) → length xs ≡ n → take n (xs ++ ys) ≡ xs
front_is n xs ys e = ap (λ k. take k (xs ++ ys)) (sym e) ∙ front_len xs ys

rest_is : {X : Type 0} (n : ℕ) (xs ys : List X) → length xs ≡ n → drop n (xs ++ ys) ≡ ys
rest_is n xs ys e = ap (λ k. drop k (xs ++ ys)) (sym e) ∙ rest_len xs ys

-- A list with other values from a place on, where they stand already, and where its front is another.

module _ {X : Type 0} (front mid end : List X) (a b : ℕ) (first : length front ≡ a) (all : length (front ++ mid) ≡ b) where
  again : take a ((front ++ mid) ++ end) ++ mid ++ drop b ((front ++ mid) ++ end) ≡ (front ++ mid) ++ end
  again =
      ap (λ l. take a l ++ mid ++ drop b ((front ++ mid) ++ end)) (append_assoc front mid end)
      ∙ (ap (λ l. l ++ mid ++ drop b ((front ++ mid) ++ end)) (front_is a front (mid ++ end) first)
      ∙ ap (λ l. front ++ mid ++ l) (rest_is b (front ++ mid) end all))

-- the bus after a tick shows the outputs already
module _ (bus : Bus) (blocks : List Block) (settings : List Bool) (whole : IsWhole blocks settings)
    (wide : length bus.bits ≡ 128) (far : length bus.positions ≡ 32) where
  bits : List Bool
  bits = flat_map bits_of blocks ++ settings

  -- with other levels in front
  pub shown_with : (levels : List Bool) (encoders : List ℤ) → length levels ≡ 6 → length encoders ≡ 4 →
      bus_after (record {
        bits = levels ++ (flat_map bits_of blocks ++ settings ++ drop 63 bus.bits);
        positions = encoders ++ (flat_map positions_of blocks ++ drop 12 bus.positions);
      }) blocks settings
      ≡ record {
        bits = levels ++ (flat_map bits_of blocks ++ settings ++ drop 63 bus.bits);
        positions = encoders ++ (flat_map positions_of blocks ++ drop 12 bus.positions);
      }
  shown_with levels encoders six four =
      let outs : List Bool = flat_map bits_of blocks in
      let places : List ℤ = flat_map positions_of blocks in
      let end : List Bool = drop 63 bus.bits in
      let last : List ℤ = drop 12 bus.positions in
      let all : length (levels ++ (outs ++ settings)) ≡ 63 =
      length-append levels (outs ++ settings) ∙ (ap (λ n. length levels + n) (length-append outs settings) ∙ omega (arith, six, many_bits blocks whole.kinds, whole.four)) in
      let many : length (encoders ++ places) ≡ 12 = length-append encoders places ∙ omega (arith, four, many_positions blocks whole.kinds) in
      let whole_bits : levels ++ (outs ++ settings ++ end) ≡ (levels ++ (outs ++ settings)) ++ end = sym (append_assoc levels (outs ++ settings) end) in
      let whole_positions : encoders ++ (places ++ last) ≡ (encoders ++ places) ++ last = sym (append_assoc encoders places last) in
      ap (λ (l : List Bool). record {
        bits = take 6 l ++ outs ++ settings ++ drop 63 l;
        positions = take 4 (encoders ++ (places ++ last)) ++ places ++ drop 12 (encoders ++ (places ++ last));
      }) whole_bits
      ∙ (ap (λ (l : List ℤ). record {
        bits = take 6 ((levels ++ (outs ++ settings)) ++ end) ++ outs ++ settings ++ drop 63 ((levels ++ (outs ++ settings)) ++ end);
        positions = take 4 l ++ places ++ drop 12 l;
      }) whole_positions
      ∙ (ap (λ (l : List Bool). record {
        bits = l;
        positions = take 4 ((encoders ++ places) ++ last) ++ places ++ drop 12 ((encoders ++ places) ++ last);
      })
      (ap (λ l. l ++ drop 63 ((levels ++ (outs ++ settings)) ++ end)) (append_assoc (take 6 ((levels ++ (outs ++ settings)) ++ end)) outs settings)
      ∙ (again levels (outs ++ settings) end 6 63 six all ∙ sym whole_bits))
      ∙ ap (λ (l : List ℤ). record { bits = levels ++ (outs ++ settings ++ end); positions = l })
      (again encoders places last 4 12 four many ∙ sym whole_positions)))

  -- the bus after a tick, with the values of the stimulus
  pub driven_is : (rows : List Row) (tick : ℕ) →
      driven rows tick (bus_after bus blocks settings)
      ≡ record {
        bits = levels_at rows tick ++ (flat_map bits_of blocks ++ settings ++ drop 63 bus.bits);
        positions = encoders_at rows tick ++ (flat_map positions_of blocks ++ drop 12 bus.positions);
      }
  driven_is rows tick =
      let outs : List Bool = flat_map bits_of blocks in
      let places : List ℤ = flat_map positions_of blocks in
      let six : length (take 6 bus.bits) ≡ 6 = length-take-le 6 bus.bits (omega (arith, wide)) in
      let four : length (take 4 bus.positions) ≡ 4 = length-take-le 4 bus.positions (omega (arith, far)) in
      ap (λ (l : List Bool). record {
        bits = levels_at rows tick ++ l;
        positions = encoders_at rows tick ++ drop 4 (take 4 bus.positions ++ places ++ drop 12 bus.positions);
      })
      (ap (drop 6)
      (ap (λ l. l ++ settings ++ drop 63 bus.bits) refl
      ∙ (append_assoc (take 6 bus.bits ++ outs) settings (drop 63 bus.bits)
      ∙ (append_assoc (take 6 bus.bits) outs (settings ++ drop 63 bus.bits))))
      ∙ (rest_is 6 (take 6 bus.bits) (outs ++ (settings ++ drop 63 bus.bits)) six
      ∙ sym (append_assoc outs settings (drop 63 bus.bits))))
      ∙ ap (λ (l : List ℤ). record {
        bits = levels_at rows tick ++ (outs ++ settings ++ drop 63 bus.bits);
        positions = encoders_at rows tick ++ l;
      })
      (ap (drop 4) (append_assoc (take 4 bus.positions) places (drop 12 bus.positions))
      ∙ rest_is 4 (take 4 bus.positions) (places ++ drop 12 bus.positions) four)

  pub shown_driven : (rows : List Row) (tick : ℕ) →
      bus_after (driven rows tick (bus_after bus blocks settings)) blocks settings ≡ driven rows tick (bus_after bus blocks settings)
  shown_driven rows tick =
      ap (λ (b : Bus). bus_after b blocks settings) (driven_is rows tick)
      ∙ (shown_with (levels_at rows tick) (encoders_at rows tick) refl refl ∙ sym (driven_is rows tick))

-- after a tick of the box
pub shown_after : (rows : List Row) (tick : ℕ) (box : Standing) → IsWhole box.blocks box.settings →
    (length box.bus.bits ≡ 128) × (length box.bus.positions ≡ 32) →
    bus_after (driven rows tick (bus_after box.bus (blocks_after box) box.settings)) (blocks_after box) box.settings
    ≡ driven rows tick (bus_after box.bus (blocks_after box) box.settings)
shown_after rows tick box whole wide =
    shown_driven box.bus (blocks_after box) box.settings
    (record { kinds = kinds_stay box.bus box.tick box.blocks ∙ whole.kinds; four = whole.four }) wide.0 wide.1 rows tick

-- where the bus shows the outputs, it goes on to with other values of the stimulus
pub shown_on : (rows : List Row) (tick : ℕ) (bus : Bus) (blocks : List Block) (settings : List Bool) → IsWhole blocks settings →
    length bus.bits ≡ 128 → length bus.positions ≡ 32 → bus_after bus blocks settings ≡ bus →
    bus_after (driven rows tick bus) blocks settings ≡ driven rows tick bus
shown_on rows tick bus blocks settings whole wide far shown =
    ap (λ (b : Bus). bus_after (driven rows tick b) blocks settings) (sym shown)
    ∙ (shown_driven bus blocks settings whole wide far rows tick ∙ ap (driven rows tick) shown)

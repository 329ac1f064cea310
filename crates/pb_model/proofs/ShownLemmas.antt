-- What the outputs of blocks do to the buses.
use Rattle.std.proofs.Common.{◌≡◌, ℕ, zero, suc, ◌+◌, ◌-◌, ◌/◌, ◌%◌, ◌<◌, ◌≤◌, ◌==◌, Bool, ℤ, List, [], ◌∷◌, ◌++◌, length, get_or, take, drop, map, refl, sym, ap, ◌∙◌, arith, drop-cons, length-append, add-one}
use Rattle.std.specs.List.{flat_map, sum_by}
use Rattle.std.proofs.lemmas.List.Sums.{sum_by-cons}
use Rattle.pb_buses.specs.declared.Buses.{Buses}
use Rattle.pb_buses.specs.Buses.{with_bit, with_position}
use Rattle.pb_buses.specs.Delay.{digits}
use Rattle.pb_model.specs.Kept.{with_bits, with_positions}
use Rattle.pb_model.specs.declared.blocks.Block.{Block}
use Rattle.pb_model.specs.Units.{place_of, bit_outputs, position_outputs, shown}
use Rattle.pb_fields.specs.Catalogue.{catalogue}
use Rattle.pb_model.specs.declared.units.Unit.{Unit as AnyUnit}
use Rattle.pb_model.specs.declared.units.Unit.TheVariants as units
use Rattle.pb_model.specs.Tick.{kind_of, bits_of, positions_of}

-- one more digit
digits-suc : (k n : ℕ) → digits (suc k) n ≡ (n % 2 == 1) ∷ digits k (n / 2)
unfolding digits
digits-suc k n = refl

digits-more : (n k rest : ℕ) → k < n → digits (n - k) rest ≡ (rest % 2 == 1) ∷ digits (n - (k + 1)) (rest / 2)
digits-more n k rest h =
    let e : n - k ≡ suc (n - (k + 1)) = omega arith in
    ap (λ m. digits m rest) e ∙ digits-suc (n - (k + 1)) rest

digits-none : (n k rest : ℕ) → n ≤ k → digits (n - k) rest ≡ []
unfolding digits
digits-none n k rest h = let e : n - k ≡ 0 = omega arith in ap (λ m. digits m rest) e

-- one bit further
pub one_bit : (entry n k rest tick : ℕ) (buses : Buses) → k < n →
    with_bits (entry + (k + 1)) (digits (n - (k + 1)) (rest / 2)) tick (with_bit buses (entry + k) (rest % 2 == 1) tick)
    ≡ with_bits (entry + k) (digits (n - k) rest) tick buses
one_bit entry n k rest tick buses h =
    let e : entry + (k + 1) ≡ entry + k + 1 = omega arith in
    ap (λ i. with_bits i (digits (n - (k + 1)) (rest / 2)) tick (with_bit buses (entry + k) (rest % 2 == 1) tick)) e
    ∙ sym (ap (λ bits. with_bits (entry + k) bits tick buses) (digits-more n k rest h))

-- no bit left
pub no_bits : (entry n k rest tick : ℕ) (buses : Buses) → n ≤ k → with_bits (entry + k) (digits (n - k) rest) tick buses ≡ buses
no_bits entry n k rest tick buses h = ap (λ bits. with_bits (entry + k) bits tick buses) (digits-none n k rest h)

-- all bits to come
pub all_bits : (entry n m bits shown tick : ℕ) (buses : Buses) → n ≡ m → bits ≡ shown →
    with_bits (entry + 0) (digits (n - 0) bits) tick buses ≡ with_bits entry (digits m shown) tick buses
all_bits entry n m bits shown tick buses h g =
    let a : entry + 0 ≡ entry = omega arith in
    let b : n - 0 ≡ m = omega arith in
    ap (λ i. with_bits i (digits (n - 0) bits) tick buses) a
    ∙ (ap (λ k. with_bits entry (digits k bits) tick buses) b
    ∙ ap (λ v. with_bits entry (digits m v) tick buses) g)

-- two lists of values, one after the other
pub bits-append : (entry : ℕ) (xs ys : List Bool) (tick : ℕ) (buses : Buses) →
    with_bits entry (xs ++ ys) tick buses ≡ with_bits (entry + length xs) ys tick (with_bits entry xs tick buses)
bits-append entry [] ys tick buses =
    let e : entry + 0 ≡ entry = omega arith in
    ap (λ i. with_bits i ys tick buses) (sym e)
bits-append entry (x ∷ xs) ys tick buses =
    let e : entry + 1 + length xs ≡ entry + length (x ∷ xs) = omega arith in
    bits-append (entry + 1) xs ys tick (with_bit buses entry x tick)
    ∙ ap (λ i. with_bits i ys tick (with_bits (entry + 1) xs tick (with_bit buses entry x tick))) e

pub positions-append : (entry : ℕ) (xs ys : List ℤ) (tick : ℕ) (buses : Buses) →
    with_positions entry (xs ++ ys) tick buses ≡ with_positions (entry + length xs) ys tick (with_positions entry xs tick buses)
positions-append entry [] ys tick buses =
    let e : entry + 0 ≡ entry = omega arith in
    ap (λ i. with_positions i ys tick buses) (sym e)
positions-append entry (x ∷ xs) ys tick buses =
    let e : entry + 1 + length xs ≡ entry + length (x ∷ xs) = omega arith in
    positions-append (entry + 1) xs ys tick (with_position buses entry x tick)
    ∙ ap (λ i. with_positions i ys tick (with_positions (entry + 1) xs tick (with_position buses entry x tick))) e

-- a block and those behind it
pub from_here : {Y : Type 0} (f : Block → List Y) (blocks : List Block) (i : ℕ) (d : Block) → i < length blocks →
    flat_map f (drop i blocks) ≡ f (get_or blocks i d) ++ flat_map f (drop (i + 1) blocks)
from_here f blocks i d h = rw (add-one, drop-cons blocks i d) refl

-- how many values blocks show

length-digits : (k n : ℕ) → length (digits k n) ≡ k
unfolding digits
length-digits zero n = refl
length-digits (suc k) n = let h = length-digits k (n / 2) in omega arith

pub length-bits_of : (block : Block) → length (bits_of block) ≡ bit_outputs (kind_of block)
length-bits_of block = length-digits (bit_outputs (kind_of block)) (shown block.unit).bits

pub count_bits : (blocks : List Block) → length (flat_map bits_of blocks) ≡ sum_by bit_outputs (map kind_of blocks)
count_bits [] = refl
count_bits (block ∷ blocks) =
    length-append (bits_of block) (flat_map bits_of blocks)
    ∙ (ap (λ n. n + length (flat_map bits_of blocks)) (length-bits_of block)
    ∙ (ap (λ n. bit_outputs (kind_of block) + n) (count_bits blocks)
    ∙ sym (sum_by-cons bit_outputs (kind_of block) (map kind_of blocks))))

length-positions_of_unit : (unit : AnyUnit) →
    length (take (position_outputs (place_of unit)) ((shown unit).position ∷ [])) ≡ position_outputs (place_of unit)
unfolding position_outputs catalogue
length-positions_of_unit (units.Lut block) = refl
length-positions_of_unit (units.Srgate block) = refl
length-positions_of_unit (units.Div block) = refl
length-positions_of_unit (units.Pulse block) = refl
length-positions_of_unit (units.Counter block) = refl
length-positions_of_unit (units.Clock block) = refl
length-positions_of_unit (units.Seq block) = refl
length-positions_of_unit (units.Pcomp block) = refl
length-positions_of_unit (units.Pcap block) = refl

pub length-positions_of : (block : Block) → length (positions_of block) ≡ position_outputs (kind_of block)
length-positions_of block = length-positions_of_unit block.unit

pub count_positions : (blocks : List Block) → length (flat_map positions_of blocks) ≡ sum_by position_outputs (map kind_of blocks)
count_positions [] = refl
count_positions (block ∷ blocks) =
    length-append (positions_of block) (flat_map positions_of blocks)
    ∙ (ap (λ n. n + length (flat_map positions_of blocks)) (length-positions_of block)
    ∙ (ap (λ n. position_outputs (kind_of block) + n) (count_positions blocks)
    ∙ sym (sum_by-cons position_outputs (kind_of block) (map kind_of blocks))))

-- A block more is shown.

pub count_here : {Y : Type 0} (f : Block → List Y) (blocks : List Block) (i : ℕ) (block : Block) → i < length blocks →
    block ≡ get_or blocks i block →
    length (flat_map f (drop i blocks)) ≡ length (f block) + length (flat_map f (drop (i + 1) blocks))
count_here f blocks i block h e =
    ap length (from_here f blocks i block h)
    ∙ (length-append (f (get_or blocks i block)) (flat_map f (drop (i + 1) blocks))
    ∙ ap (λ b. length (f b) + length (flat_map f (drop (i + 1) blocks))) (sym e))

pub block_bits : (blocks : List Block) (i : ℕ) (block : Block) (entry after tick : ℕ) (buses shown_on : Buses) →
    i < length blocks → block ≡ get_or blocks i block →
    after ≡ entry + bit_outputs (kind_of block) → shown_on ≡ with_bits entry (bits_of block) tick buses →
    with_bits after (flat_map bits_of (drop (i + 1) blocks)) tick shown_on
    ≡ with_bits entry (flat_map bits_of (drop i blocks)) tick buses
block_bits blocks i block entry after tick buses shown_on h e next is =
    let rest : List Bool = flat_map bits_of (drop (i + 1) blocks) in
    ap (λ n. with_bits n rest tick shown_on) (next ∙ ap (λ n. entry + n) (sym (length-bits_of block)))
    ∙ (ap (with_bits (entry + length (bits_of block)) rest tick) is
    ∙ (sym (bits-append entry (bits_of block) rest tick buses)
    ∙ (ap (λ b. with_bits entry (bits_of b ++ rest) tick buses) e
    ∙ ap (λ values. with_bits entry values tick buses) (sym (from_here bits_of blocks i block h)))))

pub block_positions : (blocks : List Block) (i : ℕ) (block : Block) (entry after tick : ℕ) (buses shown_on : Buses) →
    i < length blocks → block ≡ get_or blocks i block →
    after ≡ entry + position_outputs (kind_of block) → shown_on ≡ with_positions entry (positions_of block) tick buses →
    with_positions after (flat_map positions_of (drop (i + 1) blocks)) tick shown_on
    ≡ with_positions entry (flat_map positions_of (drop i blocks)) tick buses
block_positions blocks i block entry after tick buses shown_on h e next is =
    let rest : List ℤ = flat_map positions_of (drop (i + 1) blocks) in
    ap (λ n. with_positions n rest tick shown_on) (next ∙ ap (λ n. entry + n) (sym (length-positions_of block)))
    ∙ (ap (with_positions (entry + length (positions_of block)) rest tick) is
    ∙ (sym (positions-append entry (positions_of block) rest tick buses)
    ∙ (ap (λ b. with_positions entry (positions_of b ++ rest) tick buses) e
    ∙ ap (λ values. with_positions entry values tick buses) (sym (from_here positions_of blocks i block h)))))

-- Outputs put on the buses.
use Rattle.std.proofs.Common.{◌≡◌, ℕ, zero, suc, ◌+◌, ◌<◌, Bool, List, [], ◌∷◌, length, get_or, map, refl, sym, ap, ◌∙◌, arith}
use Rattle.std.specs.List.{flat_map}
use Rattle.std.proofs.lemmas.List.{length-map}
use Rattle.pb_buses.specs.declared.Buses.{Buses}
use Rattle.pb_model.specs.declared.Block.{Block}
use Rattle.pb_model.specs.Tick.{kind_of, bits_of, positions_of}
use Rattle.pb_model.specs.Kept.{with_bits, with_positions, buses_with}
use Rattle.pb_model.proofs.ShownLemmas.{bits-append}
use Rattle.pb_lazy.specs.declared.Lazy.{Lazy}
use Rattle.pb_going.specs.Sims.{block_in}
use Rattle.pb_lazy.specs.Lazy.{caught_up}
use Rattle.pb_lazy.proofs.LazyLemmas.{kind_stays}

pub inside_map : (lazies : List Lazy) (i : ℕ) → i < length lazies → i < length (map block_in lazies)
inside_map lazies i h = omega (arith, length-map lazies block_in)

pub is_in_map : (lazies : List Lazy) (i : ℕ) (lazy : Lazy) → i < length lazies → lazy ≡ get_or lazies i lazy →
    lazy.block ≡ get_or (map block_in lazies) i lazy.block
is_in_map [] i lazy h e = absurd (omega arith)
is_in_map (l ∷ lazies) zero lazy h e = ap block_in e
is_in_map (l ∷ lazies) (suc i) lazy h e = is_in_map lazies i lazy (omega arith) e

-- all of them, one after the other
pub all_shown : (blocks : List Block) (settings : List Bool) (tick entry : ℕ) (old a b c : Buses) →
    a ≡ with_bits 6 (flat_map bits_of blocks) tick old → entry ≡ 6 + length (flat_map bits_of blocks) →
    b ≡ with_bits entry settings tick a → c ≡ with_positions 4 (flat_map positions_of blocks) tick b →
    c ≡ buses_with tick blocks settings old
all_shown blocks settings tick entry old a b c is_a is_entry is_b is_c =
    let bits : List Bool = flat_map bits_of blocks in
    is_c
    ∙ ap (with_positions 4 (flat_map positions_of blocks) tick)
    (is_b
    ∙ (ap (λ n. with_bits n settings tick a) is_entry
    ∙ (ap (with_bits (6 + length bits) settings tick) is_a
    ∙ sym (bits-append 6 bits settings tick old))))

-- the kinds are those of the blocks that are stood for
pub kinds_in : (tick : ℕ) (lazies : List Lazy) → map kind_of (map block_in lazies) ≡ map kind_of (map (caught_up tick) lazies)
kinds_in tick [] = refl
kinds_in tick (lazy ∷ lazies) =
    ap (λ k. k ∷ map kind_of (map block_in lazies)) (sym (kind_stays tick lazy))
    ∙ ap (λ l. kind_of (caught_up tick lazy) ∷ l) (kinds_in tick lazies)

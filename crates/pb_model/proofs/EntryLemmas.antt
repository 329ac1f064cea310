-- Where the outputs of a block stand, by its place.
use Rattle.std.proofs.Common.{◌≡◌, ℕ, ◌+◌, ◌-◌, ◌<◌, ◌≤◌, min, Bool, true, leb, List, [], ◌∷◌, length, map, get_or, refl, sym, ap, ◌∙◌, arith}
use Rattle.std.specs.List.{range_with_len}
use Rattle.std.proofs.lemmas.Bool.{leb-true}
use Rattle.std.proofs.lemmas.List.FromFn.{get_or-map-range_with_len}
use Rattle.pb_fields.specs.Catalogue.{catalogue}
use Rattle.pb_model.specs.Units.{bit_outputs, position_outputs}
use Rattle.pb_model.specs.Machines.{machines, machine_kinds}
use Rattle.pb_model.specs.Parts.{bit_entry, position_entry}
use Rattle.pb_model.proofs.SettableLemmas.{at_place}

-- the entries of the first bit outputs of the 35 blocks
unfoldable pub bit_entries : List ℕ
bit_entries =
    6 ∷ 7 ∷ 8 ∷ 9 ∷ 10 ∷ 11 ∷ 12 ∷ 13 ∷ 14 ∷ 15 ∷ 16 ∷ 17 ∷ 18 ∷ 20 ∷ 22 ∷ 24 ∷ 26 ∷ 27 ∷ 28 ∷ 29 ∷ 30 ∷ 31 ∷ 32 ∷ 33 ∷ 34
    ∷ 35 ∷ 36 ∷ 37 ∷ 38 ∷ 39 ∷ 40 ∷ 47 ∷ 54 ∷ 56 ∷ 58 ∷ []

all_bit_entries : map bit_entry (range_with_len 0 35) ≡ bit_entries
unfolding bit_entries bit_outputs machine_kinds machines catalogue
all_bit_entries = refl

pub bit_entry_is : (place : ℕ) → place < 35 → get_or bit_entries place 0 ≡ bit_entry place
bit_entry_is place h =
    ap (λ l. get_or l place 0) (sym all_bit_entries)
    ∙ get_or-map-range_with_len bit_entry 0 35 place place 0 h (omega arith)

counter_entry : ℕ → ℕ
counter_entry place = 4 + min (place - 20) 8

all_position_entries : map counter_entry (range_with_len 0 35) ≡ map position_entry (range_with_len 0 35)
unfolding counter_entry position_outputs machine_kinds machines catalogue
all_position_entries = refl

pub position_entry_is : (place : ℕ) → place < 35 → 4 + min (place - 20) 8 ≡ position_entry place
unfolding counter_entry
position_entry_is place h =
    sym (get_or-map-range_with_len counter_entry 0 35 place place 0 h (omega arith))
    ∙ (ap (λ l. get_or l place 0) all_position_entries
    ∙ get_or-map-range_with_len position_entry 0 35 place place 0 h (omega arith))

-- All outputs have their entries on the buses.

bits_fit : ℕ → Bool
bits_fit place = leb (bit_entry place + bit_outputs (get_or machine_kinds place 0)) 128

positions_fit : ℕ → Bool
positions_fit place = leb (position_entry place + position_outputs (get_or machine_kinds place 0)) 32

all_bits_fit : map bits_fit (range_with_len 0 35) ≡ map (λ _. true) (range_with_len 0 35)
unfolding bits_fit bit_outputs machine_kinds machines catalogue
all_bits_fit = refl

all_positions_fit : map positions_fit (range_with_len 0 35) ≡ map (λ _. true) (range_with_len 0 35)
unfolding positions_fit position_outputs machine_kinds machines catalogue
all_positions_fit = refl

pub bits_within : (place : ℕ) → place < 35 → bit_entry place + bit_outputs (get_or machine_kinds place 0) ≤ 128
unfolding bits_fit
bits_within place h = leb-true _ _ (at_place bits_fit 35 all_bits_fit place h)

pub positions_within : (place : ℕ) → place < 35 → position_entry place + position_outputs (get_or machine_kinds place 0) ≤ 32
unfolding positions_fit
positions_within place h = leb-true _ _ (at_place positions_fit 35 all_positions_fit place h)

-- The blocks that have a machine, by their names and in the order of the catalogue.
use Rattle.std.specs.Prelude.{ℕ, suc, ◌==◌, ◌&&◌, Bool, List, [], ◌∷◌, map, if◌then◌else◌}
use Rattle.std.specs.List.{flat_map, range_with_len}
use Rattle.pb_fields.specs.Places.{count_of}
use Rattle.pb_names.specs.declared.lut.TheConstants as lut
use Rattle.pb_names.specs.declared.srgate.TheConstants as srgate
use Rattle.pb_names.specs.declared.div.TheConstants as div
use Rattle.pb_names.specs.declared.pulse.TheConstants as pulse
use Rattle.pb_names.specs.declared.counter.TheConstants as counter
use Rattle.pb_names.specs.declared.clock.TheConstants as clock
use Rattle.pb_names.specs.declared.seq.TheConstants as seq
use Rattle.pb_names.specs.declared.pcomp.TheConstants as pcomp
use Rattle.pb_names.specs.declared.pcap.TheConstants as pcap

-- a block's name: the place of its kind in the catalogue, and its number from 1
pub record Name : Type 0 where
  pub kind : ℕ
  pub number : ℕ

abbrev pub name : ℕ → ℕ → Name
name k n = record { kind = k; number = n }

abbrev pub is_name : Name → Name → Bool
is_name a b = a.kind == b.kind && a.number == b.number

-- the kinds that have a machine
abbrev pub kinds : List ℕ
kinds =
    lut.BLOCK ∷ srgate.BLOCK ∷ div.BLOCK ∷ pulse.BLOCK ∷ counter.BLOCK ∷ clock.BLOCK ∷ seq.BLOCK ∷ pcomp.BLOCK
    ∷ pcap.BLOCK ∷ []

-- the blocks of a kind, by rising number
abbrev pub named : ℕ → List Name
named kind = map (name kind) (range_with_len 1 (count_of kind))

-- the 35 blocks: LUT1, LUT2, and so on up to PCAP
unfoldable pub machines : List Name
machines = flat_map named kinds

-- how many of these names stand before this one
abbrev pub place_in : List Name → Name → ℕ
place_in [] of = 0
place_in (n ∷ names) of = if is_name of n then 0 else suc (place_in names of)

-- one for each of these names: that of one name changed, and no other
abbrev pub with_named : {X : Type 0} → List Name → Name → (X → X) → List X → List X
with_named [] of change xs = xs
with_named (n ∷ names) of change [] = []
with_named (n ∷ names) of change (x ∷ xs) =
    if is_name of n then change x ∷ xs else x ∷ with_named names of change xs

-- one for each of these names: that of one name
abbrev pub of_name : {X : Type 0} → List Name → Name → List X → X → X
of_name [] of xs other = other
of_name (n ∷ names) of [] other = other
of_name (n ∷ names) of (x ∷ xs) other = if is_name of n then x else of_name names of xs other

-- their kinds
unfoldable pub machine_kinds : List ℕ
machine_kinds = map (λ (of : Name). of.kind) machines

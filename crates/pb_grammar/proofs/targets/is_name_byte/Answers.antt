use Rattle.std.proofs.Common.{◌≡◌, ℕ, ◌<◌, false, not, nat_eq, List, length, map, get_or, refl, sym, ap, ◌∙◌, arith}
use Rattle.std.specs.List.{range_with_len}
use Rattle.std.proofs.lemmas.List.{get_or-map}
use Rattle.std.proofs.lemmas.List.FromFn.{get_or-map-range_with_len}
use Rattle.pb_grammar.specs.declared.targets.TheConstants.{NAME_BYTES}
use Rattle.pb_grammar.specs.Targets.{is_name_byte}
use Rattle.pb_grammar.proofs.targets.is_name_byte.Goals as goal

-- the table is that of the test, so each of its places is
at_place : (table : List ℕ) (b : ℕ) → b < length table → b < 256 → map (λ k. not (nat_eq k 46)) table ≡ map is_name_byte (range_with_len 0 256) → not (nat_eq (get_or table b 0) 46) ≡ is_name_byte b
at_place table b within small same =
    sym (get_or-map (λ k. not (nat_eq k 46)) table b 0 false within)
    ∙ ap (λ t. get_or t b false) same
    ∙ get_or-map-range_with_len is_name_byte 0 256 b b false small (omega arith)

pub returns : goal.returns
returns c = at_place NAME_BYTES c.args.b (omega arith) (omega arith) refl

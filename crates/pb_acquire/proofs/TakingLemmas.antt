-- What readers need before and after they take.
use Rattle.std.proofs.Common.{◌≡◌, refl, ap, subst, ℕ, ◌+◌, ◌<◌, Bool, true, false, cond, not, ◌&&◌, ◌==◌, leb, nat_lt, length, List, Option, Some, None, arith}
use Rattle.std.proofs.lemmas.Bool.{both_ways, cond_both, eqb-true, eq-eqb}
use Rattle.pb_encode.specs.declared.options.Options.{Options}
use Rattle.pb_buses.specs.declared.Condition.{Condition}
use Rattle.pb_acquire.specs.declared.readers.Reader.{Reader}
use Rattle.pb_acquire.specs.declared.readers.Taken.{Taken}
use Rattle.pb_acquire.specs.declared.readers.Taken.TheVariants as takes
use Rattle.pb_acquire.specs.Readers.{reader_from, needs, open_needs, after_end}
use Rattle.pb_acquire.specs.Acquisitions.{Acquisition}
use Rattle.pb_acquire.specs.Taking.{taken, taken_if_armed, header_taken, records_taken, end_taken}

-- a new reader needs none that is over
never : (one_shot : Bool) (n place : ℕ) → place < n → cond one_shot (n == place) (leb n place) ≡ true → ⊥
never true n place below need = let same : n ≡ place = eqb-true n place need in omega (arith, same, below)
never false n place below need = grind arith

pub new_needs_none : (options : Options) (n place : ℕ) → place < n → open_needs place (Some (reader_from options n)) ≡ true → ⊥
new_needs_none options n place below need = never options.one_shot n place below need

own_needed : (ended one_shot : Bool) (n : ℕ) → ended ≡ false → (not ended && cond one_shot (n == n) (leb n n)) ≡ true
own_needed true one_shot n alive = absurd (both_ways true alive refl)
own_needed false true n alive = eq-eqb n n refl
own_needed false false n alive = grind arith

-- its own is needed, until it ended
pub needs_its_own : (reader : Reader) → reader.has_ended ≡ false → needs reader reader.before ≡ true
needs_its_own reader alive = own_needed reader.has_ended reader.options.one_shot reader.before alive

abbrev pub reader_after : Reader → Taken → Reader
reader_after reader takes.Done = reader
reader_after reader takes.NotYet = reader
reader_after reader (takes.Bytes text after) = after

later :
    (one_shot ended : Bool) (before place : ℕ) → one_shot ≡ false → ended ≡ false →
    cond one_shot (before + 1 == place) (leb (before + 1) place) ≡ true →
    (not ended && cond one_shot (before == place) (leb before place)) ≡ true
later true ended before place all alive need = absurd (both_ways true all refl)
later false true before place all alive need = absurd (both_ways true alive refl)
later false false before place all alive need = grind arith

NeedsNoMore : ℕ → Reader → Reader → Type 0
NeedsNoMore place reader after = needs after place ≡ true → needs reader place ≡ true

end_needs : (reader : Reader) (place : ℕ) → reader.has_ended ≡ false → NeedsNoMore place reader (after_end reader)
unfolding NeedsNoMore
end_needs reader place alive =
    cond_both reader.options.one_shot (record reader { has_ended = true }) (reader_from reader.options (reader.before + 1)) (NeedsNoMore place reader)
    (λ alone need. absurd (both_ways false refl need))
    (λ others need. later reader.options.one_shot reader.has_ended reader.before place others alive need)

ended_needs : (reader : Reader) (count place : ℕ) (condition : Option Condition) → reader.has_ended ≡ false →
    NeedsNoMore place reader (reader_after reader (end_taken reader count condition))
unfolding NeedsNoMore
ended_needs reader count place None alive need = need
ended_needs reader count place (Some condition) alive need = end_needs reader place alive need

armed_needs : (reader : Reader) (own : Option Acquisition) (place : ℕ) → reader.has_ended ≡ false →
    NeedsNoMore place reader (reader_after reader (taken_if_armed reader own))
unfolding NeedsNoMore
armed_needs reader None place alive = λ need. need
armed_needs reader (Some own) place alive =
    cond_both reader.header_is_owed (header_taken reader own) _ (λ t. NeedsNoMore place reader (reader_after reader t))
    (λ _ need. need)
    (λ _. cond_both (nat_lt reader.given (length own.records)) (records_taken reader own) _ (λ t. NeedsNoMore place reader (reader_after reader t))
    (λ _ need. need)
    (λ _. ended_needs reader (length own.records) place own.condition alive))

-- who takes needs no more than before
needs_after : (reader : Reader) (own : Option Acquisition) (place : ℕ) → NeedsNoMore place reader (reader_after reader (taken reader own))
unfolding NeedsNoMore
needs_after reader own place =
    cond_both reader.has_ended takes.Done (taken_if_armed reader own) (λ t. NeedsNoMore place reader (reader_after reader t))
    (λ _ need. need)
    (λ alive. armed_needs reader own place alive)

pub taken_needs :
    (reader after : Reader) (own : Option Acquisition) (text : List ℕ) (place : ℕ) → takes.Bytes text after ≡ taken reader own →
    needs after place ≡ true → needs reader place ≡ true
unfolding NeedsNoMore
taken_needs reader after own text place e need =
    let same : after ≡ reader_after reader (taken reader own) = ap (reader_after reader) e in
    needs_after reader own place (subst (λ r. needs r place ≡ true) same need)

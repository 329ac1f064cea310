-- A text is read in one way as a signed number, and what is written of a number is read as it.
use Rattle.std.proofs.Common.{◌≡◌, ℕ, suc, ◌<◌, ◌^◌, List, ◌∷◌, ◌++◌, drop, get_or, ℤ, pos, negsuc, neg_ℤ, FitsSigned, Result, Ok, Err, sym, ap, subst, ◌∙◌, refl, arith}
use Rattle.std.specs.Fmt.{signed_decimal}
use Rattle.std.specs.Int.{w32}
use lib.Signed.{mag}
use Rattle.pb_words.specs.declared.numbers.NumFault.{NumFault}
use Rattle.pb_words.specs.declared.numbers.NumFault.TheVariants as faults
use Rattle.pb_words.specs.declared.signed.Sign.{Sign}
use Rattle.pb_words.specs.declared.signed.Sign.TheVariants as signs
use Rattle.pb_words.specs.Signed.{Int, WritesInt, ReadsInt, sign_text, int_value}
use Rattle.pb_words.specs.Parts.{BeginsNoSign}
use Rattle.pb_words.proofs.NumberLemmas.{decimal_writes}
use Rattle.pb_words.proofs.SignedLemmas.{begins_no_sign}

two_signs : (r r' : List ℕ) → 43 ∷ r ≡ 45 ∷ r' → ⊥
two_signs r r' e = let same : ◌≡◌ {A = ℕ} 43 45 = ap (λ xs. get_or xs 0 0) e in omega arith

-- a sign before what begins with none is cut off in one way
pub sign_once : (s s' : Sign) (r r' : List ℕ) → BeginsNoSign r → BeginsNoSign r' → sign_text s ++ r ≡ sign_text s' ++ r' → (s ≡ s') × (r ≡ r')
sign_once signs.Absent signs.Absent r r' n n' e = (refl, e)
sign_once signs.Absent signs.Plus r r' n n' e = absurd ((subst BeginsNoSign e n).0 refl)
sign_once signs.Absent signs.Minus r r' n n' e = absurd ((subst BeginsNoSign e n).1 refl)
sign_once signs.Plus signs.Absent r r' n n' e = absurd ((subst BeginsNoSign (sym e) n').0 refl)
sign_once signs.Plus signs.Plus r r' n n' e = (refl, ap (drop 1) e)
sign_once signs.Plus signs.Minus r r' n n' e = absurd (two_signs r r' e)
sign_once signs.Minus signs.Absent r r' n n' e = absurd ((subst BeginsNoSign (sym e) n').1 refl)
sign_once signs.Minus signs.Plus r r' n n' e = absurd (two_signs r' r (sym e))
sign_once signs.Minus signs.Minus r r' n n' e = (refl, ap (drop 1) e)

pub int_once : (text : List ℕ) (i j : Int) → WritesInt text i → WritesInt text j → i ≡ j
int_once text i j v w =
    let same = sign_once i.sign j.sign i.digits j.digits (begins_no_sign i.digits v.grammar.digits) (begins_no_sign j.digits w.grammar.digits) (sym v.printed ∙ w.printed) in
    let first : i ≡ record { sign = j.sign; digits = i.digits } = ap (λ (s : Sign). let x : Int = record { sign = s; digits = i.digits } in x) same.0 in
    first ∙ ap (λ (ds : List ℕ). let x : Int = record { sign = j.sign; digits = ds } in x) same.1

-- the number that is written
pub signed_writes : (z : ℤ) → mag z < 2 ^ 32 → (i : Int) × WritesInt (signed_decimal z) i × (int_value i ≡ z)
signed_writes (pos n) h =
    let w = decimal_writes n (omega arith) in
    (record { sign = signs.Absent; digits = _ }, record { grammar = w.grammar; printed = refl }, ap pos w.value)
signed_writes (negsuc n) h =
    let w = decimal_writes (suc n) (omega arith) in
    (record { sign = signs.Minus; digits = _ }, record { grammar = w.grammar; printed = refl }, ap (λ m. neg_ℤ (pos m)) w.value)

pub signed_read_back : (z : ℤ) (read : Result ℤ NumFault) → FitsSigned w32 z → ReadsInt (signed_decimal z) read → read ≡ Ok z
signed_read_back z (Ok x) f h =
    let w = signed_writes z (omega (arith, f.sfits)) in
    ap Ok (sym h.2 ∙ ap int_value (int_once _ h.0 w.0 h.1 w.1) ∙ w.2)
signed_read_back z (Err faults.Malformed) f h =
    let w = signed_writes z (omega (arith, f.sfits)) in
    absurd (h w.0 w.1)
signed_read_back z (Err faults.TooLarge) f h =
    let w = signed_writes z (omega (arith, f.sfits)) in
    absurd (h.2 (subst (FitsSigned w32) (sym w.2 ∙ sym (ap int_value (int_once _ h.0 w.0 h.1 w.1))) f))

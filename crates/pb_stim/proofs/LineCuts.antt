-- Bytes are cut into lines in one way.
use Rattle.std.proofs.Common.{◌≡◌, ◌≢◌, ℕ, Bool, true, false, cond, eqb, List, [], ◌∷◌, ◌++◌, refl, sym, ap, ◌∙◌}
use Rattle.std.specs.List.{onto_first}
use Rattle.std.proofs.lemmas.Bool.{ne_eqb, eqb-true, eqb-false}
use Rattle.std.proofs.lemmas.List.Elements.{All-nil, All-cons}
use Rattle.std.proofs.lemmas.List.Splits.{slice_split_at, slice_split_none}
use Rattle.pb_grammar.specs.Grammar.{IsText}
use Rattle.pb_stim.specs.declared.places.Place.{Place}
use Rattle.pb_stim.specs.Faults.{cut_lines, cause_of, after, or_later, fault_from}

-- the first line ends at the first newline
pub cut_at : (text rest : List ℕ) → IsText text → cut_lines (text ++ 10 ∷ rest) ≡ text ∷ cut_lines rest
cut_at text rest h = slice_split_at (λ b. eqb b 10) text 10 rest (λ k d l. ne_eqb _ 10 (h k d l)) refl

-- what has no newline is not cut
pub cut_end : (text : List ℕ) → IsText text → cut_lines text ≡ text ∷ []
cut_end text h = slice_split_none (λ b. eqb b 10) text (λ k d l. ne_eqb _ 10 (h k d l))

-- there is always a first part
pub cut_some : (bytes : List ℕ) → (first : List ℕ) × (others : List (List ℕ)) × (cut_lines bytes ≡ first ∷ others)
cut_some [] = ([], [], refl)
cut_some (b ∷ bs) = by_byte (eqb b 10) (cut_some bs)
  where
    by_byte : (t : Bool) → (first : List ℕ) × (others : List (List ℕ)) × (cut_lines bs ≡ first ∷ others) → (first : List ℕ) × (others : List (List ℕ)) × (cond t ([] ∷ cut_lines bs) (onto_first b (cut_lines bs)) ≡ first ∷ others)
    by_byte true h = ([], cut_lines bs, refl)
    by_byte false h = (b ∷ h.0, h.1, ap (onto_first b) h.2)

-- Bytes have a first line, or no newline.
pub data IsLineCut (bytes : List ℕ) : Type 0 where
  NoNewline : IsText bytes → IsLineCut bytes
  First : (text rest : List ℕ) → IsText text → bytes ≡ text ++ 10 ∷ rest → IsLineCut bytes

pub line_cut : (bytes : List ℕ) → IsLineCut bytes
line_cut [] = NoNewline (All-nil (λ b. b ≢ 10))
line_cut (b ∷ bs) = by_byte (eqb b 10) refl (line_cut bs)
  where
    put : IsLineCut bs → (b ≢ 10) → IsLineCut (b ∷ bs)
    put (NoNewline h) other = NoNewline (All-cons (λ x. x ≢ 10) b bs other h)
    put (First text rest h e) other = First (b ∷ text) rest (All-cons (λ x. x ≢ 10) b text other h) (ap (λ t. b ∷ t) e)

    by_byte : (t : Bool) → eqb b 10 ≡ t → IsLineCut bs → IsLineCut (b ∷ bs)
    by_byte true e more = First [] bs (All-nil (λ x. x ≢ 10)) (ap (λ x. x ∷ bs) (eqb-true b 10 e))
    by_byte false e more = put more (eqb-false b 10 e)

-- the fault of a line, or a later one
on_more : (place : Place) (text : List ℕ) (ps : List (List ℕ)) → (first : List ℕ) × (others : List (List ℕ)) × (ps ≡ first ∷ others) → fault_from place (text ∷ ps) ≡ or_later place.number (cause_of place text) (fault_from (after place text) ps)
on_more place text ps h =
    ap (λ q. fault_from place (text ∷ q)) h.2 ∙ sym (ap (λ q. or_later place.number (cause_of place text) (fault_from (after place text) q)) h.2)

pub fault_step : (place : Place) (text rest : List ℕ) → IsText text → fault_from place (cut_lines (text ++ 10 ∷ rest)) ≡ or_later place.number (cause_of place text) (fault_from (after place text) (cut_lines rest))
fault_step place text rest h = ap (fault_from place) (cut_at text rest h) ∙ on_more place text (cut_lines rest) (cut_some rest)

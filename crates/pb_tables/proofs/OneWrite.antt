-- A table write means one thing.
use Rattle.std.proofs.Common.{◌≡◌, ◌≢◌, ℕ, ◌+◌, ◌*◌, ◌%◌, ◌<◌, ◌≤◌, ◌⊎◌, Bool, List, ◌++◌, length, slice_index, refl, sym, ap, subst, ◌∙◌, inl, inr, arith}
use Rattle.pb_words.specs.declared.refusals.Refusal.{Refusal}
use Rattle.pb_words.specs.declared.refusals.Refusal.TheVariants as refusals
use Rattle.pb_tables.specs.Tables.{CanFollow, CannotFollow, IsWritten, IsRefused, kept, trigger_of}
use Rattle.pb_tables.proofs.OneReading.{one_saying, one_reason, not_both}

-- why words can't follow, in its three cases
record TooManyWords (before : ℕ) (words : List ℕ) : Type 0 where
  whole : length words % 4 ≡ 0
  long : 16384 < before + length words

record BadTrigger (before : ℕ) (words : List ℕ) : Type 0 where
  whole : length words % 4 ≡ 0
  short : before + length words ≤ 16384
  row : ℕ
  within : 4 * row < length words
  trigger : 12 < trigger_of (slice_index words (4 * row))

three : (before : ℕ) (words : List ℕ) (refusal : Refusal) → CannotFollow before words refusal
    → ((refusal ≡ refusals.NotWholeRows) × (length words % 4 ≢ 0)) ⊎ (((refusal ≡ refusals.TableTooLong) × TooManyWords before words) ⊎ ((refusal ≡ refusals.ValueOutOfRange) × BadTrigger before words))
three before words refusals.NotWholeRows h = inl (refl, h)
three before words refusals.TableTooLong h = inr (inl (refl, record { whole = h.0; long = h.1 }))
three before words refusals.ValueOutOfRange h = inr (inr (refl, record { whole = h.0; short = h.1; row = h.2.0; within = h.2.1; trigger = h.2.2 }))
three before words _ h = absurd h

fits_or_not : (before : ℕ) (words : List ℕ) (refusal : Refusal) → CanFollow before words → CannotFollow before words refusal → ⊥
fits_or_not before words refusal can cannot = elim (three before words refusal cannot) [
  | inl q ↦ q.1 can.whole
  | inr q ↦ elim q [
    | inl r ↦ omega (arith, r.1.long, can.short)
    | inr r ↦ omega (arith, r.1.trigger, can.triggers r.1.row r.1.within)
  ]
]

one_obstacle : (before : ℕ) (words : List ℕ) (refusal other : Refusal) → CannotFollow before words refusal → CannotFollow before words other → refusal ≡ other
one_obstacle before words refusal other a b = elim (three before words refusal a) [
  | inl p ↦ elim (three before words other b) [
    | inl q ↦ p.0 ∙ sym q.0
    | inr q ↦ elim q [ inl r ↦ absurd (p.1 r.1.whole) | inr r ↦ absurd (p.1 r.1.whole) ]
  ]
  | inr p ↦ elim p [
    | inl r ↦ elim (three before words other b) [
      | inl q ↦ absurd (q.1 r.1.whole)
      | inr q ↦ elim q [ inl s ↦ r.0 ∙ sym s.0 | inr s ↦ absurd (omega (arith, r.1.long, s.1.short)) ]
    ]
    | inr r ↦ elim (three before words other b) [
      | inl q ↦ absurd (q.1 r.1.whole)
      | inr q ↦ elim q [ inl s ↦ absurd (omega (arith, s.1.long, r.1.short)) | inr s ↦ r.0 ∙ sym s.0 ]
    ]
  ]
]

pub one_table : (old : List ℕ) (append base64 : Bool) (body new other : List ℕ) → IsWritten old append base64 body new → IsWritten old append base64 body other → new ≡ other
one_table old append base64 body new other a b =
    a.left ∙ ap (λ words. kept append old ++ words) (one_saying base64 body a.words b.words a.said b.said) ∙ sym b.left

pub one_refusal : (old : List ℕ) (append base64 : Bool) (body : List ℕ) (refusal other : Refusal) → IsRefused old append base64 body refusal → IsRefused old append base64 body other → refusal ≡ other
one_refusal old append base64 body refusal other (inl a) (inl b) = one_reason base64 body refusal other a b
one_refusal old append base64 body refusal other (inl a) (inr b) = absurd (not_both base64 body b.0 refusal b.1 a)
one_refusal old append base64 body refusal other (inr a) (inl b) = absurd (not_both base64 body a.0 other a.1 b)
one_refusal old append base64 body refusal other (inr a) (inr b) =
    let same : b.0 ≡ a.0 = one_saying base64 body b.0 a.0 b.1 a.1 in
    one_obstacle (length (kept append old)) a.0 refusal other a.2 (subst (λ words. CannotFollow (length (kept append old)) words other) same b.2)

pub written_or_refused : (old : List ℕ) (append base64 : Bool) (body new : List ℕ) (refusal : Refusal) → IsWritten old append base64 body new → IsRefused old append base64 body refusal → ⊥
written_or_refused old append base64 body new refusal a (inl b) = not_both base64 body a.words refusal a.said b
written_or_refused old append base64 body new refusal a (inr b) =
    let same : b.0 ≡ a.words = one_saying base64 body b.0 a.words b.1 a.said in
    fits_or_not (length (kept append old)) a.words refusal a.fit (subst (λ words. CannotFollow (length (kept append old)) words refusal) same b.2)

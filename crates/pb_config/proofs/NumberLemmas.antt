-- The kept numbers are those of the list of all assignments.
use Rattle.std.proofs.Common.{◌≡◌, ◌≢◌, ℕ, suc, ◌+◌, ◌<◌, ◌==◌, Bool, true, false, cond, List, [], ◌∷◌, ◌++◌, reverse, length, get_or, set, refl, sym, ap, inl, inr, subst, ◌∙◌, arith, append_assoc}
use Rattle.std.specs.List.{AllByRecursion}
use Rattle.std.proofs.lemmas.Bool.{eq-eqb, eqb-true, cases_eq}
use Rattle.std.proofs.lemmas.Grind.{reverse_onto}
use Rattle.std.proofs.lemmas.List.{length-set, length-replicate, get_or-replicate, get_or-set_same, get_or-set_other}
use Rattle.pb_fields.specs.declared.Slot.{Slot}
use Rattle.pb_fields.specs.Slots.{IsSlot}
use Rattle.pb_fields.specs.Assigned.{is_same, last_assignment, told_place}
use Rattle.pb_fields.proofs.RowLemmas.{and_left, and_right}
use Rattle.pb_config.specs.Settings.{place}
use Rattle.pb_config.specs.Numbers.{Numbers, none_of, no_numbers, next_number, noted, all_noted, number_of, AgreesWithAssigned}
use Rattle.pb_config.specs.Capturing.{IsCapture, capture_slots}
use Rattle.pb_config.proofs.PlaceLemmas.{place_within, same_slot, one_place}
use Rattle.pb_config.proofs.ClearingLemmas.{all_captures}

-- the numbers of no assignments

pub none_length : (n : ℕ) → length (none_of n) ≡ n
unfolding none_of
none_length n = length-replicate n 0

none_at : (n i : ℕ) → i < n → get_or (none_of n) i 0 ≡ 0
unfolding none_of
none_at n i lt = get_or-replicate n i 0 0 lt

pub none_agree : AgreesWithAssigned no_numbers []
none_agree = record {
  places = none_length 14112;
  total = refl;
  each = λ slot s. none_at 14112 (place slot) (place_within slot s);
}

-- whether two slots are the same

same_itself : (s : Slot) → is_same s s ≡ true
same_itself s = rw (eq-eqb s.block s.block refl, eq-eqb s.instance s.instance refl, eq-eqb s.field s.field refl, eq-eqb s.attr s.attr refl) refl

same_is : (s t : Slot) → is_same s t ≡ true → s ≡ t
same_is s t h =
    let three = and_left _ (s.attr == t.attr) h in
    let two = and_left _ (s.field == t.field) three in
    same_slot s t
    (eqb-true s.block t.block (and_left _ (s.instance == t.instance) two))
    (eqb-true s.instance t.instance (and_right _ (s.instance == t.instance) two))
    (eqb-true s.field t.field (and_right _ (s.field == t.field) three))
    (eqb-true s.attr t.attr (and_right _ (s.attr == t.attr) h))

not_true : (b : Bool) → (b ≡ true → ⊥) → b ≡ false
not_true true h = absurd (h refl)
not_true false h = refl

last_here : (s t : Slot) (past : List Slot) → s ≡ t → last_assignment s (t ∷ past) ≡ suc (length past)
last_here s t past e =
    let same : is_same s t ≡ true = subst (λ (x : Slot). is_same s x ≡ true) e (same_itself s) in
    ap (λ b. cond b (suc (length past)) (last_assignment s past)) same

last_before : (s t : Slot) (past : List Slot) → s ≢ t → last_assignment s (t ∷ past) ≡ last_assignment s past
last_before s t past n =
    let other : is_same s t ≡ false = not_true (is_same s t) (λ h. n (same_is s t h)) in
    ap (λ b. cond b (suc (length past)) (last_assignment s past)) other

-- one assignment more

next_told : (count n : ℕ) → count ≡ told_place n → told_place (count + 1) ≡ told_place (suc n)
next_told count n e = omega arith

each_noted : (numbers : Numbers) (assigned : List Slot) (slot other : Slot) → AgreesWithAssigned numbers assigned → IsSlot slot → IsSlot other →
    number_of (noted numbers slot) other ≡ told_place (last_assignment other (slot ∷ assigned))
each_noted numbers assigned slot other a s o =
    let next : next_number numbers ≡ told_place (suc (length assigned)) = next_told numbers.count (length assigned) a.total in
    elim (cases_eq (place other) (place slot)) [
      | inl e ↦
          let size : length numbers.last ≡ 14112 = a.places in
          let within : place slot < 14112 = place_within slot s in
          let lt : place slot < length numbers.last = subst (λ n. place slot < n) (sym size) within in
          ap (λ p. get_or (set numbers.last (place slot) (next_number numbers)) p 0) e
          ∙ (get_or-set_same numbers.last (place slot) (next_number numbers) 0 lt
          ∙ (next ∙ ap told_place (sym (last_here other slot assigned (one_place other slot o s e)))))
      | inr n ↦
          get_or-set_other numbers.last (place slot) (place other) (next_number numbers) 0 n
          ∙ (a.each other o ∙ ap told_place (sym (last_before other slot assigned (λ (e : other ≡ slot). n (ap place e)))))
    ]

pub one_more_agrees : (numbers : Numbers) (assigned : List Slot) (slot : Slot) → AgreesWithAssigned numbers assigned → IsSlot slot →
    AgreesWithAssigned (noted numbers slot) (slot ∷ assigned)
one_more_agrees numbers assigned slot a s = record {
  places = length-set numbers.last (place slot) (next_number numbers) ∙ a.places;
  total = next_told numbers.count (length assigned) a.total;
  each = λ other o. each_noted numbers assigned slot other a s o;
}

-- several more

reversed : (slot : Slot) (slots assigned : List Slot) → reverse (slot ∷ slots) ++ assigned ≡ reverse slots ++ (slot ∷ assigned)
reversed slot slots assigned = ap (λ l. l ++ assigned) (reverse_onto slots slot []) ∙ append_assoc (reverse slots) (slot ∷ []) assigned

pub more_agree : (numbers : Numbers) (assigned slots : List Slot) → AgreesWithAssigned numbers assigned → AllByRecursion IsSlot slots →
    AgreesWithAssigned (all_noted numbers slots) (reverse slots ++ assigned)
more_agree numbers assigned [] a s = a
more_agree numbers assigned (slot ∷ slots) a s =
    let rest = more_agree (noted numbers slot) (slot ∷ assigned) slots (one_more_agrees numbers assigned slot a s.0) s.1 in
    subst (λ past. AgreesWithAssigned (all_noted (noted numbers slot) slots) past) (sym (reversed slot slots assigned)) rest

captures_are : (slots : List Slot) → AllByRecursion IsCapture slots → AllByRecursion IsSlot slots
captures_are [] c = tt
captures_are (slot ∷ slots) c = (c.0.in_catalogue, captures_are slots c.1)

pub cleared_agree : (numbers : Numbers) (assigned : List Slot) → AgreesWithAssigned numbers assigned →
    AgreesWithAssigned (all_noted numbers capture_slots) (reverse capture_slots ++ assigned)
cleared_agree numbers assigned a = more_agree numbers assigned capture_slots a (captures_are capture_slots all_captures)

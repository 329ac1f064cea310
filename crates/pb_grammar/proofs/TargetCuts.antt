-- A text is one target, and whether it is one is computed.
use Rattle.std.proofs.Common.{◌≡◌, ◌==◌, ℕ, ◌<◌, ◌≤◌, true, false, cond, not, nat_lt, nat_le, List, [], ◌∷◌, ◌++◌, length, append-nil, length-append, All, codes, Option, Some, None, ◌↔◌, refl, sym, ap, subst, ◌∙◌, arith}
use Rattle.std.specs.List.{list_all}
use Rattle.std.specs.Option.{option_map_or}
use Rattle.std.proofs.lemmas.Bool.{cond_both, and_from, and_parts, both_ways, le-leb, leb-true, ltb-true}
use Rattle.std.proofs.lemmas.Bool.Decides.{nat_tests}
use Rattle.std.proofs.lemmas.List.Elements.{All-cons, All-nil}
use Rattle.std.proofs.lemmas.List.Folds.{list_all-append}
use Rattle.std.proofs.lemmas.List.Splits.{join_with_byte-slice_split, slice_split_none, slice_split_at}
use Rattle.pb_grammar.specs.Targets.{is_name_byte, is_name, AreNames, Target, Field, Attribute, Fields, Attributes, Star, IsTarget, dotted, target_text, WritesTarget, IsTargetText}
use Rattle.pb_grammar.specs.Grammar.{after_front, before_end, pieces, names_in, is_within, is_plain_target, is_listed, is_star, is_target}
use Rattle.pb_grammar.proofs.Fronts.{Follows, after_front_follows, after_front_of, Precedes, before_end_precedes, before_end_of}

-- Names have no point and no star.

no_point_byte : (b : ℕ) → is_name_byte b ≡ true → (b == 46) ≡ false
no_point_byte b h = grind (arith, nat_tests)

no_star_byte : (b : ℕ) → is_name_byte b ≡ true → not (b == 42) ≡ true
no_star_byte b h = grind (arith, nat_tests)

no_point : (text : List ℕ) → list_all is_name_byte text ≡ true → All (λ b. (b == 46) ≡ false) text
no_point [] h = All-nil (λ b. (b == 46) ≡ false)
no_point (b ∷ bs) h =
    let parts = and_parts (is_name_byte b) (list_all is_name_byte bs) h in
    All-cons (λ c. (c == 46) ≡ false) b bs (no_point_byte b parts.0) (no_point bs parts.1)

-- no byte is a star
abbrev NoStar : List ℕ → Type 0
NoStar text = list_all (λ b. not (b == 42)) text ≡ true

no_star : (text : List ℕ) → list_all is_name_byte text ≡ true → NoStar text
no_star [] h = refl
no_star (b ∷ bs) h =
    let parts = and_parts (is_name_byte b) (list_all is_name_byte bs) h in
    and_from (not (b == 42)) (list_all (λ c. not (c == 42)) bs) (no_star_byte b parts.0) (no_star bs parts.1)

-- the first name, and the others
name_parts : (p : List ℕ) (ps : List (List ℕ)) → AreNames (p ∷ ps) → (0 < length p) × (list_all is_name_byte p ≡ true) × AreNames ps
name_parts p ps h =
    let parts = and_parts (is_name p) (list_all is_name ps) h in
    let name = and_parts (nat_lt 0 (length p)) (list_all is_name_byte p) parts.0 in
    (ltb-true 0 (length p) name.0, name.1, parts.1)

-- Names with points between them are cut into themselves.

pieces_dotted : (p : List ℕ) (ps : List (List ℕ)) → AreNames (p ∷ ps) → pieces (dotted (p ∷ ps)) ≡ p ∷ ps
pieces_dotted p [] h = slice_split_none (λ b. b == 46) p (no_point p (name_parts p [] h).1)
pieces_dotted p (q ∷ qs) h =
    let parts = name_parts p (q ∷ qs) h in
    slice_split_at (λ b. b == 46) p 46 (dotted (q ∷ qs)) (no_point p parts.1) refl ∙ ap (λ x. p ∷ x) (pieces_dotted q qs parts.2)

names_dotted : (p : List ℕ) (ps : List (List ℕ)) → AreNames (p ∷ ps) → names_in (dotted (p ∷ ps)) ≡ length (p ∷ ps)
unfolding names_in
names_dotted p ps h =
    ap (λ x. cond (list_all is_name x) (length x) 0) (pieces_dotted p ps h) ∙ ap (λ t. cond t (length (p ∷ ps)) 0) h

no_star_dotted : (p : List ℕ) (ps : List (List ℕ)) → AreNames (p ∷ ps) → NoStar (dotted (p ∷ ps))
no_star_dotted p [] h = no_star p (name_parts p [] h).1
no_star_dotted p (q ∷ qs) h =
    let parts = name_parts p (q ∷ qs) h in
    list_all-append (λ b. not (b == 42)) p (46 ∷ dotted (q ∷ qs))
    ∙ and_from (list_all (λ b. not (b == 42)) p) (list_all (λ b. not (b == 42)) (dotted (q ∷ qs))) (no_star p parts.1) (no_star_dotted q qs parts.2)

some_dotted : (p : List ℕ) (ps : List (List ℕ)) → AreNames (p ∷ ps) → 0 < length (dotted (p ∷ ps))
some_dotted p [] h = (name_parts p [] h).0
some_dotted p (q ∷ qs) h = omega (arith, (name_parts p (q ∷ qs) h).0, length-append p (46 ∷ dotted (q ∷ qs)))

-- What stands at the front and at the end.

star_first : (front more rest : List ℕ) → NoStar front → 0 < length front → front ++ more ≡ 42 ∷ rest → ⊥
star_first [] more rest h some e = absurd (omega arith)
star_first (b ∷ bs) more rest h some e =
    let same : b ≡ 42 = cc in
    both_ways (not (b == 42)) (ap (λ c. not (c == 42)) same) (and_parts (not (b == 42)) (list_all (λ c. not (c == 42)) bs) h).0

none_found : (front more : List ℕ) → NoStar front → 0 < length front → (found : Option (List ℕ)) → Follows (codes "*") (front ++ more) found → found ≡ None
none_found front more h some None p = refl
none_found front more h some (Some rest) p = absurd (star_first front more rest h some p)

front_none : (front more : List ℕ) → NoStar front → 0 < length front → after_front (codes "*") (front ++ more) ≡ None
front_none front more h some =
    none_found front more h some (after_front (codes "*") (front ++ more)) (after_front_follows (codes "*") (front ++ more))

none_before : (text : List ℕ) → NoStar text → (found : Option (List ℕ)) → Precedes (codes ".*") text found → found ≡ None
none_before text h None p = refl
none_before text h (Some rest) p =
    let all = sym (list_all-append (λ b. not (b == 42)) rest (codes ".*")) ∙ ap (list_all (λ b. not (b == 42))) (sym p) ∙ h in
    absurd (both_ways false refl (and_parts (list_all (λ b. not (b == 42)) rest) false all).1)

end_none : (text : List ℕ) → NoStar text → before_end (codes ".*") text ≡ None
end_none text h = none_before text h (before_end (codes ".*") text) (before_end_precedes (codes ".*") text)

-- A target is read as itself.

listed : List (List ℕ) → Target
listed [] = Star []
listed (block ∷ []) = Fields block
listed (block ∷ field ∷ more) = Attributes block field

plain : List (List ℕ) → Target
plain [] = Star []
plain (block ∷ []) = Star []
plain (block ∷ field ∷ []) = Field block field
plain (block ∷ field ∷ attribute ∷ more) = Attribute block field attribute

-- the target that a text is, where it is one
cut : List ℕ → Target
cut text =
    option_map_or (λ name. Star (pieces name))
    (after_front (codes "*") text)
    (option_map_or (λ front. listed (pieces front)) (before_end (codes ".*") text) (plain (pieces text)))

-- the text is this target to the two functions
record Cuts (text : List ℕ) (target : Target) : Type 0 where
  test : is_target text ≡ true
  same : cut text ≡ target

within : (low high : ℕ) (p : List ℕ) (ps : List (List ℕ)) → AreNames (p ∷ ps) → low ≤ length (p ∷ ps) → length (p ∷ ps) ≤ high → is_within low high (names_in (dotted (p ∷ ps))) ≡ true
within low high p ps h least most =
    ap (is_within low high) (names_dotted p ps h)
    ∙ and_from (nat_le low (length (p ∷ ps))) (nat_le (length (p ∷ ps)) high) (le-leb low (length (p ∷ ps)) least) (le-leb (length (p ∷ ps)) high most)

cuts_star : (names : List (List ℕ)) → AreNames names → 1 ≤ length names → length names ≤ 4 → Cuts (codes "*" ++ dotted names) (Star names)
unfolding is_target cut
cuts_star [] h least most = absurd (omega arith)
cuts_star (p ∷ ps) h least most =
    let text : List ℕ = codes "*" ++ dotted (p ∷ ps) in
    let front = after_front_of (codes "*") (dotted (p ∷ ps)) in
    record {
      test =
          ap (λ o. option_map_or is_star o (option_map_or is_listed (before_end (codes ".*") text) (is_plain_target text))) front
          ∙ within 1 4 p ps h least most;
      same =
          ap (λ o. option_map_or (λ name. Star (pieces name)) o (option_map_or (λ front. listed (pieces front)) (before_end (codes ".*") text) (plain (pieces text)))) front
          ∙ ap (λ names. Star names) (pieces_dotted p ps h);
    }

cuts_listed : (p : List ℕ) (ps : List (List ℕ)) → AreNames (p ∷ ps) → length (p ∷ ps) ≤ 2 → Cuts (dotted (p ∷ ps) ++ codes ".*") (listed (p ∷ ps))
unfolding is_target cut
cuts_listed p ps h most =
    let text : List ℕ = dotted (p ∷ ps) ++ codes ".*" in
    let front = front_none (dotted (p ∷ ps)) (codes ".*") (no_star_dotted p ps h) (some_dotted p ps h) in
    let end = before_end_of (dotted (p ∷ ps)) (codes ".*") in
    record {
      test =
          ap (λ o. option_map_or is_star o (option_map_or is_listed (before_end (codes ".*") text) (is_plain_target text))) front
          ∙ ap (λ o. option_map_or is_listed o (is_plain_target text)) end
          ∙ within 1 2 p ps h (omega arith) most;
      same =
          ap (λ o. option_map_or (λ name. Star (pieces name)) o (option_map_or (λ front. listed (pieces front)) (before_end (codes ".*") text) (plain (pieces text)))) front
          ∙ ap (λ o. option_map_or (λ front. listed (pieces front)) o (plain (pieces text))) end
          ∙ ap listed (pieces_dotted p ps h);
    }

cuts_plain : (p : List ℕ) (ps : List (List ℕ)) → AreNames (p ∷ ps) → 2 ≤ length (p ∷ ps) → length (p ∷ ps) ≤ 3 → Cuts (dotted (p ∷ ps)) (plain (p ∷ ps))
unfolding is_target cut
cuts_plain p ps h least most =
    let text : List ℕ = dotted (p ∷ ps) in
    let bare = no_star_dotted p ps h in
    let front = ap (after_front (codes "*")) (sym (append-nil text)) ∙ front_none text [] bare (some_dotted p ps h) in
    let end = end_none text bare in
    record {
      test =
          ap (λ o. option_map_or is_star o (option_map_or is_listed (before_end (codes ".*") text) (is_plain_target text))) front
          ∙ ap (λ o. option_map_or is_listed o (is_plain_target text)) end
          ∙ within 2 3 p ps h least most;
      same =
          ap (λ o. option_map_or (λ name. Star (pieces name)) o (option_map_or (λ front. listed (pieces front)) (before_end (codes ".*") text) (plain (pieces text)))) front
          ∙ ap (λ o. option_map_or (λ front. listed (pieces front)) o (plain (pieces text))) end
          ∙ ap plain (pieces_dotted p ps h);
    }

target_cuts : (target : Target) → IsTarget target → Cuts (target_text target) target
unfolding listed plain
target_cuts (Field block field) h = cuts_plain block (field ∷ []) h (omega arith) (omega arith)
target_cuts (Attribute block field attribute) h = cuts_plain block (field ∷ attribute ∷ []) h (omega arith) (omega arith)
target_cuts (Fields block) h = cuts_listed block [] h (omega arith)
target_cuts (Attributes block field) h = cuts_listed block (field ∷ []) h (omega arith)
target_cuts (Star names) h = cuts_star names h.0 h.1 h.2

written_cuts : (text : List ℕ) (target : Target) → WritesTarget text target → Cuts text target
written_cuts text target w = subst (λ t. Cuts t target) (sym w.printed) (target_cuts target w.grammar)

-- no text is two targets
pub target_once : (text : List ℕ) (s t : Target) → WritesTarget text s → WritesTarget text t → s ≡ t
target_once text s t v w = sym (written_cuts text s v).same ∙ (written_cuts text t w).same

-- What passes the test is a target.

parts_of : (low high : ℕ) (text : List ℕ) → 0 < low → is_within low high (names_in text) ≡ true → AreNames (pieces text) × (low ≤ length (pieces text)) × (length (pieces text) ≤ high)
unfolding names_in
parts_of low high text some h =
    cond_both (list_all is_name (pieces text)) (length (pieces text)) 0
    (λ n. is_within low high n ≡ true → AreNames (pieces text) × (low ≤ length (pieces text)) × (length (pieces text) ≤ high))
    (λ all is.
    let parts = and_parts (nat_le low (length (pieces text))) (nat_le (length (pieces text)) high) is in
    (all, leb-true low (length (pieces text)) parts.0, leb-true (length (pieces text)) high parts.1))
    (λ _ is. absurd (omega (arith, leb-true low 0 (and_parts (nat_le low 0) (nat_le 0 high) is).0)))
    h

joined : (text : List ℕ) → text ≡ dotted (pieces text)
joined text = sym (join_with_byte-slice_split 46 text)

-- a target with this text
abbrev Written : List ℕ → Type 0
Written text = (target : Target) × IsTarget target × (text ≡ target_text target)

listed_shape : (names : List (List ℕ)) → AreNames names → 1 ≤ length names → length names ≤ 2 → Written (dotted names ++ codes ".*")
listed_shape [] h least most = absurd (omega arith)
listed_shape (block ∷ []) h least most = (Fields block, h, refl)
listed_shape (block ∷ field ∷ []) h least most = (Attributes block field, h, refl)
listed_shape (block ∷ field ∷ other ∷ more) h least most = absurd (omega arith)

plain_shape : (names : List (List ℕ)) → AreNames names → 2 ≤ length names → length names ≤ 3 → Written (dotted names)
plain_shape [] h least most = absurd (omega arith)
plain_shape (block ∷ []) h least most = absurd (omega arith)
plain_shape (block ∷ field ∷ []) h least most = (Field block field, h, refl)
plain_shape (block ∷ field ∷ attribute ∷ []) h least most = (Attribute block field attribute, h, refl)
plain_shape (block ∷ field ∷ attribute ∷ other ∷ more) h least most = absurd (omega arith)

written : (text same : List ℕ) → text ≡ same → Written same → IsTargetText text
written text same e w = (w.0, record { grammar = w.1; printed = e ∙ w.2 })

listed_written : (text : List ℕ) (found : Option (List ℕ)) → Precedes (codes ".*") text found → option_map_or is_listed found (is_plain_target text) ≡ true → IsTargetText text
listed_written text None p h =
    let parts = parts_of 2 3 text (omega arith) h in
    written text _ (joined text) (plain_shape (pieces text) parts.0 parts.1 parts.2)
listed_written text (Some front) p h =
    let parts = parts_of 1 2 front (omega arith) h in
    written text _ (p ∙ ap (λ t. t ++ codes ".*") (joined front)) (listed_shape (pieces front) parts.0 parts.1 parts.2)

star_written : (text : List ℕ) (found : Option (List ℕ)) → Follows (codes "*") text found → option_map_or is_star found (option_map_or is_listed (before_end (codes ".*") text) (is_plain_target text)) ≡ true → IsTargetText text
star_written text None p h = listed_written text (before_end (codes ".*") text) (before_end_precedes (codes ".*") text) h
star_written text (Some name) p h =
    let parts = parts_of 1 4 name (omega arith) h in
    written text _ (p ∙ ap (λ t. codes "*" ++ t) (joined name)) (Star (pieces name), parts, refl)

target_written : (text : List ℕ) → is_target text ≡ true → IsTargetText text
unfolding is_target
target_written text h = star_written text (after_front (codes "*") text) (after_front_follows (codes "*") text) h

-- a text is a target where the test is true of it, and nowhere else
pub target_iff : (text : List ℕ) → IsTargetText text ↔ (is_target text ≡ true)
target_iff text = (λ w. (written_cuts text w.0 w.1).test, target_written text)

-- two or three names with points between them are one
pub plain_is_target : (text : List ℕ) → is_within 2 3 (names_in text) ≡ true → is_target text ≡ true
plain_is_target text h =
    let parts = parts_of 2 3 text (omega arith) h in
    (target_iff text).0 (written text _ (joined text) (plain_shape (pieces text) parts.0 parts.1 parts.2))

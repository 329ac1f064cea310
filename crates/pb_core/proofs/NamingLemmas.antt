-- Which star targets there are not.
use Rattle.std.proofs.Common.{◌≡◌, ◌≢◌, ℕ, Bool, true, false, List, ◌++◌, codes, Option, Some, None, Result, Err, refl, ap, inl, inr, ◌⊎◌, ◌∙◌}
use Rattle.std.specs.Cmp.Lexicographic.{bytes_decides}
use Rattle.std.specs.Option.{option_map_or}
use Rattle.pb_words.specs.declared.Refusal.{Refusal}
use Rattle.pb_words.specs.declared.Refusal.TheVariants as refusals
use Rattle.pb_grammar.specs.Grammar.{after_front}
use Rattle.pb_grammar.proofs.Fronts.{Follows, after_front_follows, after_front_of}
use Rattle.pb_model.specs.Tick.{Standing}
use Rattle.pb_config.specs.Settings.{Settings}
use Rattle.pb_acquire.specs.Acquisitions.{AllAcquisitions}
use Rattle.std.specs.List.{AllByRecursion}
use Rattle.pb_changes.specs.declared.Group.{Group}
use Rattle.pb_core.specs.declared.targets.Named.{Named}
use Rattle.pb_core.specs.Naming.{is_same, labels_named, capture_named, changes_named, plain_names, group_names, capture_names, star_named, block_named, named_by}
use Rattle.pb_core.specs.Queries.{query_reply}
use Rattle.pb_core.specs.Assignments.{assignment}

bool_either : (b : Bool) → (b ≡ true) ⊎ (b ≡ false)
bool_either true = inl refl
bool_either false = inr refl

pub is_same-false : (text other : List ℕ) → text ≢ other → is_same text other ≡ false
is_same-false text other n =
    elim (bool_either (is_same text other)) [
      | inl e ↦ absurd (n ((bytes_decides text other).0 e))
      | inr e ↦ e
    ]

none_where : (front text : List ℕ) (found : Option (List ℕ)) → Follows front text found → ((rest : List ℕ) → text ≢ front ++ rest) → found ≡ None
none_where front text None h n = refl
none_where front text (Some rest) h n = absurd (n rest h)

no_front : (front text : List ℕ) → ((rest : List ℕ) → text ≢ front ++ rest) → after_front front text ≡ None
no_front front text n = none_where front text (after_front front text) (after_front_follows front text) n

-- none of these names stands behind the star

abbrev IsNone : List ℕ → List (List ℕ) → Type 0
IsNone name known = AllByRecursion (λ other. name ≢ other) known

-- what stands after the point is no command of capture, and no group

no_capture : (rest : List ℕ) → rest ≢ codes "ARM" → rest ≢ codes "DISARM" → rest ≢ codes "STATUS" → rest ≢ codes "CAPTURED" → rest ≢ codes "COMPLETION" → capture_named rest ≡ Err refusals.NoSuchField
no_capture rest a d s c o =
    rw (is_same-false rest (codes "ARM") a, is_same-false rest (codes "DISARM") d, is_same-false rest (codes "STATUS") s, is_same-false rest (codes "CAPTURED") c, is_same-false rest (codes "COMPLETION") o) refl

capture_by : (name : List ℕ) (found : Option (List ℕ)) (other : Result Named Refusal) → Follows (codes "PCAP.") name found → IsNone name capture_names → other ≡ Err refusals.NoSuchField → option_map_or capture_named found other ≡ Err refusals.NoSuchField
capture_by name None other h n e = e
capture_by name (Some rest) other h n e =
    let with = λ (what : List ℕ) (q : rest ≡ what). h ∙ ap (λ r. codes "PCAP." ++ r) q in
    no_capture rest (λ q. n.0 (with (codes "ARM") q)) (λ q. n.1.0 (with (codes "DISARM") q)) (λ q. n.1.1.0 (with (codes "STATUS") q))
    (λ q. n.1.1.1.0 (with (codes "CAPTURED") q)) (λ q. n.1.1.1.1.0 (with (codes "COMPLETION") q))

no_group : (rest : List ℕ) → rest ≢ codes "CONFIG" → rest ≢ codes "ATTR" → rest ≢ codes "TABLE" → rest ≢ codes "BITS" → rest ≢ codes "POSN" → rest ≢ codes "READ" → changes_named rest ≡ Err refusals.NoSuchField
no_group rest c a t b p r =
    rw (is_same-false rest (codes "CONFIG") c, is_same-false rest (codes "ATTR") a, is_same-false rest (codes "TABLE") t, is_same-false rest (codes "BITS") b, is_same-false rest (codes "POSN") p, is_same-false rest (codes "READ") r) refl

group_by : (name : List ℕ) (found : Option (List ℕ)) (other : Result Named Refusal) → Follows (codes "CHANGES.") name found → IsNone name group_names → other ≡ Err refusals.NoSuchField → option_map_or changes_named found other ≡ Err refusals.NoSuchField
group_by name None other h n e = e
group_by name (Some rest) other h n e =
    let with = λ (what : List ℕ) (q : rest ≡ what). h ∙ ap (λ r. codes "CHANGES." ++ r) q in
    no_group rest (λ q. n.0 (with (codes "CONFIG") q)) (λ q. n.1.0 (with (codes "ATTR") q)) (λ q. n.1.1.0 (with (codes "TABLE") q))
    (λ q. n.1.1.1.0 (with (codes "BITS") q)) (λ q. n.1.1.1.1.0 (with (codes "POSN") q)) (λ q. n.1.1.1.1.1.0 (with (codes "READ") q))

none_of : (name : List ℕ) → IsNone name plain_names → IsNone name group_names → IsNone name capture_names →
    ((target : List ℕ) → name ≢ codes "ENUMS." ++ target) → star_named name ≡ Err refusals.NoSuchField
none_of name p g k d =
    let labels : option_map_or labels_named (after_front (codes "ENUMS.") name) (Err refusals.NoSuchField) ≡ Err refusals.NoSuchField =
    ap (λ found. option_map_or labels_named found (Err refusals.NoSuchField)) (no_front (codes "ENUMS.") name d) in
    let capture : option_map_or capture_named (after_front (codes "PCAP.") name) (option_map_or labels_named (after_front (codes "ENUMS.") name) (Err refusals.NoSuchField)) ≡ Err refusals.NoSuchField =
    capture_by name (after_front (codes "PCAP.") name) _ (after_front_follows (codes "PCAP.") name) k labels in
    rw (is_same-false name (codes "IDN") p.0, is_same-false name (codes "WHO") p.1.0, is_same-false name (codes "BLOCKS") p.1.1.0, is_same-false name (codes "POSITIONS") p.1.1.1.0, is_same-false name (codes "CAPTURE") p.1.1.1.1.0, is_same-false name (codes "CHANGES") p.1.1.1.1.1.0)
    (group_by name (after_front (codes "CHANGES.") name) _ (after_front_follows (codes "CHANGES.") name) g capture)

named_star : (name : List ℕ) → named_by (codes "*" ++ name) ≡ star_named name
unfolding named_by
named_star name = ap (λ found. option_map_or star_named found (block_named (codes "*" ++ name))) (after_front_of (codes "*") name)

pub unknown_star : (settings : Settings) (box : Standing) (is_open_at : List Bool) (all : AllAcquisitions) (reports : Option Group → List ℕ) (name value : List ℕ) →
    IsNone name plain_names → IsNone name group_names → IsNone name capture_names → ((target : List ℕ) → name ≢ codes "ENUMS." ++ target) →
    (query_reply settings box is_open_at all reports (codes "*" ++ name) ≡ Err refusals.NoSuchField) × (assignment settings all (codes "*" ++ name) value ≡ Err refusals.NoSuchField)
unknown_star settings box is_open_at all reports name value p g k d =
    let e = named_star name ∙ none_of name p g k d in
    (rw e refl, rw e refl)

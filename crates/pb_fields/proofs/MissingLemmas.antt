-- A target that names no slot is refused by what its names lack.
use Rattle.std.proofs.Common.{◌≡◌, ◌≢◌, ◌⊎◌, ℕ, ◌+◌, ◌<◌, Bool, true, false, cond, List, [], ◌∷◌, ◌++◌, get_or, refl, sym, ap, subst, ◌∙◌, arith, Option, Some, None, Result, Ok, Err, Contains, position, nat_eq, eq-eqb, inl, inr, ◌↔◌}
use Rattle.std.specs.List.{list_all, position_or_len}
use Rattle.std.specs.Option.{option_map}
use Rattle.std.specs.Char.{is_ascii_digit}
use Rattle.std.specs.Cmp.Lexicographic.{pointwise, same_text}
use Rattle.std.proofs.lemmas.List.{take-append-drop, get_or_default}
use Rattle.std.proofs.lemmas.List.Elements.{Contains-get_or}
use Rattle.std.proofs.lemmas.List.Quantifiers.{position-Some}
use Rattle.pb_words.specs.declared.refusals.Refusal.{Refusal}
use Rattle.pb_words.specs.declared.refusals.Refusal.TheVariants as refusals
use Rattle.pb_fields.specs.declared.slots.Slot.{Slot}
use Rattle.pb_fields.specs.declared.types.Attribute.{Attribute}
use Rattle.pb_fields.specs.declared.types.Attribute.TheVariants as attributes
use Rattle.pb_fields.specs.Types.{attributes_of, attribute_text}
use Rattle.pb_fields.specs.Places.{block_of, count_of, type_of}
use Rattle.pb_fields.specs.Order.{slot_at}
use Rattle.pb_fields.specs.Finding.{before_point, after_point, stem_of, number_of, block_with, block_named, instance_numbered, field_named, attribute_named, or_refused, slot_of_rest, found_of, block_numbered, block_found}
use Rattle.pb_fields.specs.Missing.{IsOfBlock, IsOfInstance, NamesInstance, NamesField, after_field, IsNoBlock, IsNoInstance, HasNoField, HasNoAttribute, IsWronglyNumbered}
use Rattle.pb_fields.proofs.RowLemmas.{instances_some}
use Rattle.pb_fields.proofs.TargetLemmas.{number-cut, block_letters, digit_read}
use Rattle.pb_fields.proofs.PrintedLemmas.{block_named-text, field_named-name, attribute_place}
use Rattle.pb_fields.proofs.NamedLemmas.{block_by, field_told, number_told}

none_some : {A : Type 0} (x : A) → None ≡ Some x → ⊥
none_some x h = cc

-- Blocks.

block-found : (name : List ℕ) (b : ℕ) (number : List ℕ) → IsOfBlock name b number → (block_named name ≡ Some b) × (number_of name ≡ number)
block-found name b number h = (
  ap block_named h.1 ∙ block_named-text b number h.0 h.2,
  ap number_of h.1 ∙ number-cut (block_of b).name number (block_letters b) h.2,
)

block-is : (name : List ℕ) (b : ℕ) → block_named name ≡ Some b → IsOfBlock name b (number_of name)
block-is name b h = by (list_all is_ascii_digit (number_of name)) refl h
  where
    by : (t : Bool) → list_all is_ascii_digit (number_of name) ≡ t → cond {A = Option ℕ} t (block_with (stem_of name)) None ≡ Some b → IsOfBlock name b (number_of name)
    by true e g =
        let told = block_by name b true g in (
          told.0,
          sym (take-append-drop (position_or_len is_ascii_digit name) name)
              ∙ ap (λ l. l ++ number_of name) (sym told.1),
          e,
        )
    by false e g = cc

no_block : (name : List ℕ) → block_named name ≡ None → IsNoBlock name
no_block name h b number g = none_some b (sym h ∙ (block-found name b number g).0)

block-none : (name : List ℕ) → IsNoBlock name → block_named name ≡ None
block-none name h = by (block_named name) refl
  where
    by : (o : Option ℕ) → block_named name ≡ o → o ≡ None
    by None e = refl
    by (Some b) e = absurd (h b (number_of name) (block-is name b e))

-- Instances.

instance-found : (b : ℕ) (number : List ℕ) (i : ℕ) → IsOfInstance b number i → instance_numbered (count_of b) number ≡ Some i
instance-found b number i (from_one, in_count, inl (one, none)) =
    let first : 1 ≡ i = omega (arith, from_one, in_count, one) in
    ap (instance_numbered (count_of b)) none
    ∙ ap (λ t. cond {A = Option ℕ} t (Some 1) None) (eq-eqb (count_of b) 1 one)
    ∙ ap (λ (n : ℕ). Some n) first
instance-found b number i (from_one, in_count, inr digit) =
    ap (instance_numbered (count_of b)) digit ∙ digit_read (count_of b) i from_one in_count

no_instance : (b : ℕ) (number : List ℕ) → instance_numbered (count_of b) number ≡ None → (i : ℕ) → ¬ (IsOfInstance b number i)
no_instance b number h i g = none_some i (sym h ∙ instance-found b number i g)

instance-none : (b : ℕ) (number : List ℕ) → ((i : ℕ) → ¬ (IsOfInstance b number i)) → instance_numbered (count_of b) number ≡ None
instance-none b number h = by (instance_numbered (count_of b) number) refl
  where
    by : (o : Option ℕ) → instance_numbered (count_of b) number ≡ o → o ≡ None
    by None e = refl
    by (Some i) e = absurd (h i (number_told (count_of b) i number e))

-- Fields.

field-found : (b : ℕ) (rest : List ℕ) (f : ℕ) → b < 12 → NamesField b (Some rest) f → field_named b (before_point rest) ≡ Some f
field-found b rest f in_blocks h =
    ap (field_named b) h.1
    ∙ field_named-name (slot_at b 1 f 0) (record {
      in_blocks = in_blocks;
      from_one = omega arith;
      in_count = instances_some b in_blocks;
      in_fields = h.0;
      in_attributes = omega arith;
    })

field-is : (b : ℕ) (rest : List ℕ) (f : ℕ) → field_named b (before_point rest) ≡ Some f → NamesField b (Some rest) f
field-is b rest f h = let told = field_told b f (before_point rest) h in (told.0, sym told.1)

field-none : (b : ℕ) (rest : List ℕ) → ((f : ℕ) → ¬ (NamesField b (Some rest) f)) → field_named b (before_point rest) ≡ None
field-none b rest h = by (field_named b (before_point rest)) refl
  where
    by : (o : Option ℕ) → field_named b (before_point rest) ≡ o → o ≡ None
    by None e = refl
    by (Some f) e = absurd (h f (field-is b rest f e))

-- Attributes.

no_attribute : (b f : ℕ) (name : List ℕ) → attribute_named b f (Some name) ≡ None → (a : Attribute) → Contains (attributes_of (type_of b f)) a → name ≢ attribute_text a
no_attribute b f name h a (k, within, at) same =
    let all : List Attribute = attributes_of (type_of b f) in
    let this : attribute_text (get_or all k attributes.Info) ≡ name =
    ap attribute_text (get_or_default all k attributes.Info a within ∙ at) ∙ sym same in
    let found : position (λ x. pointwise nat_eq (attribute_text x) name) all ≡ Some k =
    ap (λ text. position (λ x. pointwise nat_eq (attribute_text x) text) all) (sym this)
    ∙ attribute_place (type_of b f) k within in
    none_some (k + 1) (sym h ∙ ap (option_map (λ i. i + 1)) found)

attribute-none : (b f : ℕ) (name : List ℕ) → ((a : Attribute) → Contains (attributes_of (type_of b f)) a → name ≢ attribute_text a) → attribute_named b f (Some name) ≡ None
attribute-none b f name h = by (position (λ x. pointwise nat_eq (attribute_text x) name) (attributes_of (type_of b f))) refl
  where
    by : (o : Option ℕ) → position (λ x. pointwise nat_eq (attribute_text x) name) (attributes_of (type_of b f)) ≡ o → option_map (λ i. i + 1) o ≡ None
    by None e = refl
    by (Some k) e =
        let all : List Attribute = attributes_of (type_of b f) in
        let told = position-Some (λ x. pointwise nat_eq (attribute_text x) name) all k attributes.Info e in
        let same : attribute_text (get_or all k attributes.Info) ≡ name = same_text _ name (sym told.1) in
        absurd (h (get_or all k attributes.Info) (Contains-get_or all k attributes.Info told.0) (sym same))

-- Why a target is refused.

err_of : {B : Type 0} (x y : Refusal) (p : Result B Refusal) → p ≡ Err x → p ≡ Err y → y ≡ x
err_of x y p h g = cc

ok_err : {B : Type 0} (x : B) (r : Refusal) (p : Result B Refusal) → p ≡ Ok x → p ≡ Err r → ⊥
ok_err x r p h g = cc

-- a step is refused where it finds nothing, or later
Err-or_refused : {A B : Type 0} (o : Option A) (e r : Refusal) (next : A → Result B Refusal) → or_refused o e next ≡ Err r → ((o ≡ None) × (r ≡ e)) ⊎ ((x : A) × (o ≡ Some x) × (next x ≡ Err r))
Err-or_refused {B} None e r next h =
    let p : Result B Refusal = Err e in
    inl (refl, err_of e r p refl h)
Err-or_refused (Some x) e r next h = inr (x, refl, h)

data Why (text : List ℕ) : Refusal → Type 0 where
  why_block : IsNoBlock (before_point text) → Why text refusals.NoSuchBlock
  why_number : IsNoInstance (before_point text) → Why text refusals.BlockNumberOutOfRange
  why_field : HasNoField text → Why text refusals.NoSuchField
  why_attribute : HasNoAttribute text → Why text refusals.NoSuchAttribute

module _ (text : List ℕ) (r : Refusal) where
  by_attribute : (b i f : ℕ) (rest : List ℕ) (o : Option (List ℕ)) → NamesInstance (before_point text) b i → after_point text ≡ Some rest → NamesField b (Some rest) f → after_point rest ≡ o → or_refused (attribute_named b f o) refusals.NoSuchAttribute (λ a. Ok (slot_at b i f a)) ≡ Err r → Why text r
  by_attribute b i f rest None instance after field end h =
      let slot : Slot = slot_at b i f 0 in
      let p : Result Slot Refusal = Ok slot in
      absurd (ok_err slot r p refl h)
  by_attribute b i f rest (Some name) instance after field end h =
      elim (Err-or_refused (attribute_named b f (Some name)) refusals.NoSuchAttribute r (λ a. Ok (slot_at b i f a)) h) [
        | inl none ↦ subst (Why text) (sym none.1) (why_attribute (
          b,
          i,
          f,
          name,
          instance,
          subst (λ o. NamesField b o f) (sym after) field,
          ap after_field after ∙ end,
          no_attribute b f name none.0,
        ))
        | inr found ↦ absurd (ok_err (slot_at b i f found.0) r (Ok (slot_at b i f found.0)) refl found.2)
      ]

  by_field : (b i : ℕ) (o : Option (List ℕ)) → NamesInstance (before_point text) b i → after_point text ≡ o → slot_of_rest b i o ≡ Err r → Why text r
  by_field b i None instance after h =
      let p : Result Slot Refusal = Err refusals.NoSuchField in
      subst (Why text) (sym (err_of refusals.NoSuchField r p refl h))
      (why_field (b, i, instance, λ f g. subst (λ o. NamesField b o f) after g))
  by_field b i (Some rest) instance after h =
      elim (Err-or_refused (field_named b (before_point rest)) refusals.NoSuchField r (λ f. or_refused (attribute_named b f (after_point rest)) refusals.NoSuchAttribute (λ a. Ok (slot_at b i f a))) h) [
        | inl none ↦ subst (Why text) (sym none.1) (why_field (
          b,
          i,
          instance,
          λ f g. none_some f (sym none.0 ∙ field-found b rest f instance.1.0 (subst (λ o. NamesField b o f) after g)),
        ))
        | inr found ↦ by_attribute b i found.0 rest (after_point rest) instance after (field-is b rest found.0 found.1) refl found.2
      ]

  by_number : (b : ℕ) → block_named (before_point text) ≡ Some b → or_refused (instance_numbered (count_of b) (number_of (before_point text))) refusals.BlockNumberOutOfRange (λ i. slot_of_rest b i (after_point text)) ≡ Err r → Why text r
  by_number b named h =
      let number : List ℕ = number_of (before_point text) in
      let of_block : IsOfBlock (before_point text) b number = block-is (before_point text) b named in
      elim (Err-or_refused (instance_numbered (count_of b) number) refusals.BlockNumberOutOfRange r (λ i. slot_of_rest b i (after_point text)) h) [
        | inl none ↦ subst (Why text) (sym none.1) (why_number (b, number, of_block, no_instance b number none.0))
        | inr found ↦ by_field b found.0 (after_point text) (number, of_block, number_told (count_of b) found.0 number found.1) refl found.2
      ]

  why : found_of text ≡ Err r → Why text r
  why h =
      elim (Err-or_refused (block_named (before_point text)) refusals.NoSuchBlock r (λ b. or_refused (instance_numbered (count_of b) (number_of (before_point text))) refusals.BlockNumberOutOfRange (λ i. slot_of_rest b i (after_point text))) h) [
        | inl none ↦ subst (Why text) (sym none.1) (why_block (no_block (before_point text) none.0))
        | inr found ↦ by_number found.0 found.1 found.2
      ]

because_block : (text : List ℕ) → Why text refusals.NoSuchBlock → IsNoBlock (before_point text)
because_block text (why_block h) = h

because_number : (text : List ℕ) → Why text refusals.BlockNumberOutOfRange → IsNoInstance (before_point text)
because_number text (why_number h) = h

because_field : (text : List ℕ) → Why text refusals.NoSuchField → HasNoField text
because_field text (why_field h) = h

because_attribute : (text : List ℕ) → Why text refusals.NoSuchAttribute → HasNoAttribute text
because_attribute text (why_attribute h) = h

-- What is refused where a name is missing.

module _ (text : List ℕ) where
  after_block : ℕ → Result Slot Refusal
  after_block b =
      or_refused (instance_numbered (count_of b) (number_of (before_point text))) refusals.BlockNumberOutOfRange (λ i. slot_of_rest b i (after_point text))

  refused_block : IsNoBlock (before_point text) → found_of text ≡ Err refusals.NoSuchBlock
  unfolding after_block
  refused_block h = ap (λ o. or_refused o refusals.NoSuchBlock after_block) (block-none (before_point text) h)

  found_block : (b : ℕ) (number : List ℕ) (o : Option ℕ) → IsOfBlock (before_point text) b number → instance_numbered (count_of b) number ≡ o → found_of text ≡ or_refused o refusals.BlockNumberOutOfRange (λ i. slot_of_rest b i (after_point text))
  unfolding after_block
  found_block b number o h e =
      let found = block-found (before_point text) b number h in
      ap (λ o. or_refused o refusals.NoSuchBlock after_block) found.0
      ∙ ap (λ n. or_refused (instance_numbered (count_of b) n) refusals.BlockNumberOutOfRange (λ i. slot_of_rest b i (after_point text))) found.1
      ∙ ap (λ o. or_refused o refusals.BlockNumberOutOfRange (λ i. slot_of_rest b i (after_point text))) e

  refused_number : IsNoInstance (before_point text) → found_of text ≡ Err refusals.BlockNumberOutOfRange
  refused_number (b, number, h, none) = found_block b number None h (instance-none b number none)

  found_instance : (b i : ℕ) (o : Option (List ℕ)) → NamesInstance (before_point text) b i → after_point text ≡ o → found_of text ≡ slot_of_rest b i o
  found_instance b i o (number, h, instance) e =
      found_block b number (Some i) h (instance-found b number i instance) ∙ ap (slot_of_rest b i) e

  no_field : (b i : ℕ) (o : Option (List ℕ)) → ((f : ℕ) → ¬ (NamesField b o f)) → slot_of_rest b i o ≡ Err refusals.NoSuchField
  no_field b i None h = refl
  no_field b i (Some rest) h =
      ap (λ o. or_refused o refusals.NoSuchField (λ f. or_refused (attribute_named b f (after_point rest)) refusals.NoSuchAttribute (λ a. Ok (slot_at b i f a)))) (field-none b rest h)

  refused_field : HasNoField text → found_of text ≡ Err refusals.NoSuchField
  refused_field (b, i, instance, none) = found_instance b i (after_point text) instance refl ∙ no_field b i (after_point text) none

  without_attribute : (b i f : ℕ) (name : List ℕ) (o : Option (List ℕ)) → b < 12 → NamesField b o f → after_field o ≡ Some name → ((a : Attribute) → Contains (attributes_of (type_of b f)) a → name ≢ attribute_text a) → slot_of_rest b i o ≡ Err refusals.NoSuchAttribute
  without_attribute b i f name None in_blocks field end none = absurd field
  without_attribute b i f name (Some rest) in_blocks field end none =
      ap (λ o. or_refused o refusals.NoSuchField (λ f. or_refused (attribute_named b f (after_point rest)) refusals.NoSuchAttribute (λ a. Ok (slot_at b i f a)))) (field-found b rest f in_blocks field)
      ∙ ap (λ o. or_refused (attribute_named b f o) refusals.NoSuchAttribute (λ a. Ok (slot_at b i f a))) end
      ∙ ap (λ o. or_refused o refusals.NoSuchAttribute (λ a. Ok (slot_at b i f a))) (attribute-none b f name none)

  refused_attribute : HasNoAttribute text → found_of text ≡ Err refusals.NoSuchAttribute
  refused_attribute (b, i, f, name, instance, field, end, none) =
      found_instance b i (after_point text) instance refl
      ∙ without_attribute b i f name (after_point text) instance.1.0 field end none

pub target_without_block : (text : List ℕ) → (found_of text ≡ Err refusals.NoSuchBlock) ↔ IsNoBlock (before_point text)
target_without_block text = (λ h. because_block text (why text refusals.NoSuchBlock h), refused_block text)

pub target_without_number : (text : List ℕ) → (found_of text ≡ Err refusals.BlockNumberOutOfRange) ↔ IsNoInstance (before_point text)
target_without_number text = (λ h. because_number text (why text refusals.BlockNumberOutOfRange h), refused_number text)

pub target_without_field : (text : List ℕ) → (found_of text ≡ Err refusals.NoSuchField) ↔ HasNoField text
target_without_field text = (λ h. because_field text (why text refusals.NoSuchField h), refused_field text)

pub target_without_attribute : (text : List ℕ) → (found_of text ≡ Err refusals.NoSuchAttribute) ↔ HasNoAttribute text
target_without_attribute text = (λ h. because_attribute text (why text refusals.NoSuchAttribute h), refused_attribute text)

-- Blocks without a field.

unlike : refusals.BlockNumberOutOfRange ≡ refusals.NoSuchBlock → ⊥
unlike h = cc

numbered_right : (b : ℕ) (number : List ℕ) → block_numbered b number ≡ Err refusals.NoSuchBlock → ⊥
numbered_right b [] h = ok_err b refusals.NoSuchBlock (Ok b) refl h
numbered_right b (digit ∷ more) h =
    elim (Err-or_refused (instance_numbered (count_of b) (digit ∷ more)) refusals.BlockNumberOutOfRange refusals.NoSuchBlock (λ i. Ok b) h) [
      | inl none ↦ unlike (sym none.1)
      | inr found ↦ ok_err b refusals.NoSuchBlock (Ok b) refl found.2
    ]

numbered_wrong : (b : ℕ) (number : List ℕ) → block_numbered b number ≡ Err refusals.BlockNumberOutOfRange → (number ≢ []) × ((i : ℕ) → ¬ (IsOfInstance b number i))
numbered_wrong b [] h = absurd (ok_err b refusals.BlockNumberOutOfRange (Ok b) refl h)
numbered_wrong b (digit ∷ more) h =
    elim (Err-or_refused (instance_numbered (count_of b) (digit ∷ more)) refusals.BlockNumberOutOfRange refusals.BlockNumberOutOfRange (λ i. Ok b) h) [
      | inl none ↦ ((λ e. some_none digit more e), no_instance b (digit ∷ more) none.0)
      | inr found ↦ absurd (ok_err b refusals.BlockNumberOutOfRange (Ok b) refl found.2)
    ]
  where
    some_none : (x : ℕ) (xs : List ℕ) → (x ∷ xs) ≡ [] → ⊥
    some_none x xs e = cc

numbered_none : (b : ℕ) (number : List ℕ) → number ≢ [] → ((i : ℕ) → ¬ (IsOfInstance b number i)) → block_numbered b number ≡ Err refusals.BlockNumberOutOfRange
numbered_none b [] some none = absurd (some refl)
numbered_none b (digit ∷ more) some none =
    ap (λ o. or_refused o refusals.BlockNumberOutOfRange (λ i. Ok b)) (instance-none b (digit ∷ more) none)

pub block_without_name : (name : List ℕ) → (block_found name ≡ Err refusals.NoSuchBlock) ↔ IsNoBlock name
block_without_name name = (
  λ h. elim (Err-or_refused (block_named name) refusals.NoSuchBlock refusals.NoSuchBlock (λ b. block_numbered b (number_of name)) h) [
    | inl none ↦ no_block name none.0
    | inr found ↦ absurd (numbered_right found.0 (number_of name) found.2)
  ],
  λ h. ap (λ o. or_refused o refusals.NoSuchBlock (λ b. block_numbered b (number_of name))) (block-none name h),
)

wrongly_numbered : (name : List ℕ) → IsWronglyNumbered name → block_found name ≡ Err refusals.BlockNumberOutOfRange
wrongly_numbered name (b, number, h, some, none) =
    let found = block-found name b number h in
    ap (λ o. or_refused o refusals.NoSuchBlock (λ b. block_numbered b (number_of name))) found.0
    ∙ ap (block_numbered b) found.1
    ∙ numbered_none b number some none

why_wrongly_numbered : (name : List ℕ) → block_found name ≡ Err refusals.BlockNumberOutOfRange → IsWronglyNumbered name
why_wrongly_numbered name h =
    elim (Err-or_refused (block_named name) refusals.NoSuchBlock refusals.BlockNumberOutOfRange (λ b. block_numbered b (number_of name)) h) [
      | inl none ↦ absurd (unlike none.1)
      | inr found ↦ given found.0 found.1 (numbered_wrong found.0 (number_of name) found.2)
    ]
  where
    given : (b : ℕ) → block_named name ≡ Some b → (number_of name ≢ []) × ((i : ℕ) → ¬ (IsOfInstance b (number_of name) i)) → IsWronglyNumbered name
    given b named wrong = (b, number_of name, block-is name b named, wrong.0, wrong.1)

pub block_without_number : (name : List ℕ) → (block_found name ≡ Err refusals.BlockNumberOutOfRange) ↔ IsWronglyNumbered name
block_without_number name = (why_wrongly_numbered name, wrongly_numbered name)

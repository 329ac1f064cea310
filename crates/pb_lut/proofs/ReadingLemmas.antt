-- A text is cut in one way into an expression and what follows it.
use Rattle.std.proofs.Common.{◌≡◌, ℕ, ◌-◌, ◌<◌, ◌≤◌, List, [], ◌∷◌, ◌++◌, length, get_or, take, drop, bit_and, bit_or, bit_xor, Option, Some, None, IfNone, refl, ap, sym, ◌∙◌, arith, append_assoc}
use Rattle.std.specs.Option.{option_map}
use Rattle.std.proofs.lemmas.List.{take_all}
use Rattle.std.proofs.lemmas.Bool.Decides.{nat_tests}
use Rattle.pb_lut.specs.Expressions.{Level, Letter, input_a, input_b, input_c, input_d, input_e, zero_bit, one_bit, Tree, ors, xors, ands, nots, atoms, only_xor, or_of, only_and, xor_of, only_not, and_of, only_atom, not_of, letter, parens, code_of, print, number, letter_number}
use Rattle.pb_lut.specs.Readings.{BeginsWith, Ends, Reads, ReadsNothing}
use Rattle.pb_lut.specs.Computed.{letter_of}

pub letter_of-code : (y : Letter) → letter_of (code_of y) ≡ Some y
letter_of-code input_a = refl
letter_of-code input_b = refl
letter_of-code input_c = refl
letter_of-code input_d = refl
letter_of-code input_e = refl
letter_of-code zero_bit = refl
letter_of-code one_bit = refl

pub code_of-letter : (c : ℕ) (y : Letter) → letter_of c ≡ Some y → code_of y ≡ c
code_of-letter c y h = grind (arith, nat_tests)

-- two letters of one character are one
same_letter : (x y : Letter) → code_of x ≡ code_of y → x ≡ y
same_letter x y h =
    let found = sym (letter_of-code x) ∙ ap letter_of h ∙ letter_of-code y in cc

pub code-ge : (y : Letter) → 48 ≤ code_of y
code-ge input_a = omega arith
code-ge input_b = omega arith
code-ge input_c = omega arith
code-ge input_d = omega arith
code-ge input_e = omega arith
code-ge zero_bit = omega arith
code-ge one_bit = omega arith

pub code-le : (y : Letter) → code_of y ≤ 69
code-le input_a = omega arith
code-le input_b = omega arith
code-le input_c = omega arith
code-le input_d = omega arith
code-le input_e = omega arith
code-le zero_bit = omega arith
code-le one_bit = omega arith

-- an operator between two expressions, seen from the first one's end
pub joined : (a b rest : List ℕ) (c : ℕ) → (a ++ c ∷ [] ++ b) ++ rest ≡ a ++ c ∷ (b ++ rest)
joined a b rest c = simp append_assoc

pub first_same : (xs ys : List ℕ) → xs ≡ ys → get_or xs 0 0 ≡ get_or ys 0 0
first_same xs ys e = ap (λ zs. get_or zs 0 0) e

rest_same : (c d : ℕ) (xs ys : List ℕ) → c ∷ xs ≡ d ∷ ys → xs ≡ ys
rest_same c d xs ys e = ap (drop 1) e

-- a text that doesn't begin with b
not_after : (b : ℕ) (x rest : List ℕ) → ¬ (BeginsWith b x) → x ≡ b ∷ rest → ⊥
not_after b [] rest h e = cc
not_after b (d ∷ x) rest h e = h (first_same (d ∷ x) (b ∷ rest) e)

atom_begins : (t : Tree atoms) (x rest : List ℕ) → print t ++ x ≡ 126 ∷ rest → ⊥
atom_begins (letter y) x rest e = omega (arith, code-le y, first_same (code_of y ∷ x) (126 ∷ rest) e)
atom_begins (parens t) x rest e = omega (arith, first_same (40 ∷ ((print t ++ 41 ∷ []) ++ x)) (126 ∷ rest) e)

-- an operator ends what binds tighter, and a bracket ends all
pub bar_ends : (rest : List ℕ) → Ends xors (124 ∷ rest)
bar_ends rest = (λ h. omega (arith, h), λ h. omega (arith, h))

pub hat_ends : (rest : List ℕ) → Ends ands (94 ∷ rest)
hat_ends rest = λ h. omega (arith, h)

pub bracket_ends : (rest : List ℕ) → Ends ors (41 ∷ rest)
bracket_ends rest = (λ h. omega (arith, h), λ h. omega (arith, h), λ h. omega (arith, h))

-- a text is an expression and a rest in one way only, where the rest doesn't go on with the expression
pub cut : {l : Level} → (s t : Tree l) (x y : List ℕ) → Ends l x → Ends l y → print s ++ x ≡ print t ++ y → (s ≡ t) × (x ≡ y)
cut (only_xor s) (only_xor t) x y p q e =
    let r = cut s t x y (p.1, p.2) (q.1, q.2) e in (ap only_xor r.0, r.1)
cut (only_xor s) (or_of t v) x y p q e =
    let r = cut s t x (124 ∷ (print v ++ y)) (p.1, p.2) (bar_ends (print v ++ y)) (e ∙ joined (print t) (print v) y 124) in
    absurd (not_after 124 x _ p.0 r.1)
cut (or_of s u) (only_xor t) x y p q e =
    let r = cut s t (124 ∷ (print u ++ x)) y (bar_ends (print u ++ x)) (q.1, q.2) (sym (joined (print s) (print u) x 124) ∙ e) in
    absurd (not_after 124 y _ q.0 (sym r.1))
cut (or_of s u) (or_of t v) x y p q e =
    let r = cut s t (124 ∷ (print u ++ x)) (124 ∷ (print v ++ y)) (bar_ends (print u ++ x)) (bar_ends (print v ++ y)) (sym (joined (print s) (print u) x 124) ∙ e ∙ joined (print t) (print v) y 124) in
    let w = cut u v x y p q (rest_same 124 124 _ _ r.1) in
    (ap (λ z. or_of z u) r.0 ∙ ap (or_of t) w.0, w.1)
cut (only_and s) (only_and t) x y p q e =
    let r = cut s t x y p.1 q.1 e in (ap only_and r.0, r.1)
cut (only_and s) (xor_of t v) x y p q e =
    let r = cut s t x (94 ∷ (print v ++ y)) p.1 (hat_ends (print v ++ y)) (e ∙ joined (print t) (print v) y 94) in
    absurd (not_after 94 x _ p.0 r.1)
cut (xor_of s u) (only_and t) x y p q e =
    let r = cut s t (94 ∷ (print u ++ x)) y (hat_ends (print u ++ x)) q.1 (sym (joined (print s) (print u) x 94) ∙ e) in
    absurd (not_after 94 y _ q.0 (sym r.1))
cut (xor_of s u) (xor_of t v) x y p q e =
    let r = cut s t (94 ∷ (print u ++ x)) (94 ∷ (print v ++ y)) (hat_ends (print u ++ x)) (hat_ends (print v ++ y)) (sym (joined (print s) (print u) x 94) ∙ e ∙ joined (print t) (print v) y 94) in
    let w = cut u v x y p q (rest_same 94 94 _ _ r.1) in
    (ap (λ z. xor_of z u) r.0 ∙ ap (xor_of t) w.0, w.1)
cut (only_not s) (only_not t) x y p q e =
    let r = cut s t x y tt tt e in (ap only_not r.0, r.1)
cut (only_not s) (and_of t v) x y p q e =
    let r = cut s t x (38 ∷ (print v ++ y)) tt tt (e ∙ joined (print t) (print v) y 38) in
    absurd (not_after 38 x _ p r.1)
cut (and_of s u) (only_not t) x y p q e =
    let r = cut s t (38 ∷ (print u ++ x)) y tt tt (sym (joined (print s) (print u) x 38) ∙ e) in
    absurd (not_after 38 y _ q (sym r.1))
cut (and_of s u) (and_of t v) x y p q e =
    let r = cut s t (38 ∷ (print u ++ x)) (38 ∷ (print v ++ y)) tt tt (sym (joined (print s) (print u) x 38) ∙ e ∙ joined (print t) (print v) y 38) in
    let w = cut u v x y p q (rest_same 38 38 _ _ r.1) in
    (ap (λ z. and_of z u) r.0 ∙ ap (and_of t) w.0, w.1)
cut (only_atom s) (only_atom t) x y p q e =
    let r = cut s t x y tt tt e in (ap only_atom r.0, r.1)
cut (only_atom s) (not_of t) x y p q e = absurd (atom_begins s x _ e)
cut (not_of s) (only_atom t) x y p q e = absurd (atom_begins t y _ (sym e))
cut (not_of s) (not_of t) x y p q e =
    let r = cut s t x y tt tt (rest_same 126 126 _ _ e) in (ap not_of r.0, r.1)
cut (letter a) (letter b) x y p q e =
    let same = same_letter a b (first_same (code_of a ∷ x) (code_of b ∷ y) e) in (ap letter same, rest_same (code_of a) (code_of b) x y e)
cut (letter a) (parens t) x y p q e =
    absurd (omega (arith, code-ge a, first_same (code_of a ∷ x) (40 ∷ ((print t ++ 41 ∷ []) ++ y)) e))
cut (parens s) (letter b) x y p q e =
    absurd (omega (arith, code-ge b, first_same (40 ∷ ((print s ++ 41 ∷ []) ++ x)) (code_of b ∷ y) e))
cut (parens s) (parens t) x y p q e =
    let e' = sym (append_assoc (print s) (41 ∷ []) x) ∙ rest_same 40 40 _ _ e ∙ append_assoc (print t) (41 ∷ []) y in
    let r = cut s t (41 ∷ x) (41 ∷ y) (bracket_ends x) (bracket_ends y) e' in (ap parens r.0, rest_same 41 41 x y r.1)

-- an expression alone
pub print-injective : (s t : Tree ors) → print s ≡ print t → s ≡ t
print-injective s t e =
    let ends : Ends ors [] = (λ h. h, λ h. h, λ h. h) in
    (cut s t [] [] ends ends (ap (λ text. text ++ []) e)).0

-- a fact that holds, in either case
pub IfNone-from : {X P : Type 0} → (o : Option X) → P → IfNone o P
IfNone-from None p = p
IfNone-from (Some x) p = tt

-- a fact where nothing is, made from another
pub IfNone-by : {X P Q : Type 0} (o : Option X) → (P → Q) → IfNone o P → IfNone o Q
IfNone-by None f p = f p
IfNone-by (Some x) f p = tt

-- the first byte and the rest, as a slice's pattern has them
pub front : (text : List ℕ) → 0 < length text → text ≡ get_or text 0 0 ∷ take (length text - 1) (drop 1 text)
front [] h = absurd (omega arith)
front (c ∷ text) h = ap (λ z. c ∷ z) (sym (take_all (length (c ∷ text) - 1) text (omega arith)))

pub Reads-only_xor : {text rest : List ℕ} {n : ℕ} → Reads xors text n rest → ¬ (BeginsWith 124 rest) → Reads ors text n rest
Reads-only_xor r h = record { tree = only_xor r.tree; written = r.written; value = r.value; ends = (h, r.ends.0, r.ends.1) }

pub Reads-or_of : {text between after rest : List ℕ} {m n : ℕ} → Reads xors text m between → between ≡ 124 ∷ after → Reads ors after n rest → Reads ors text (bit_or m n) rest
Reads-or_of {rest = rest} {m = m} r e w =
    record {
      tree = or_of r.tree w.tree;
      written = r.written ∙ ap (λ z. print r.tree ++ z) (e ∙ ap (λ z. 124 ∷ z) w.written) ∙ sym (joined (print r.tree) (print w.tree) rest 124);
      value = ap (λ z. bit_or z (number w.tree)) r.value ∙ ap (bit_or m) w.value;
      ends = w.ends;
    }

no_ors : (text : List ℕ) → ReadsNothing xors text → (t : Tree ors) (rest : List ℕ) → Ends ors rest → text ≡ print t ++ rest → ⊥
no_ors text h (only_xor s) rest p e = h (number s) rest (record { tree = s; written = e; value = refl; ends = (p.1, p.2) })
no_ors text h (or_of s u) rest p e =
    h (number s) (124 ∷ (print u ++ rest)) (record { tree = s; written = e ∙ joined (print s) (print u) rest 124; value = refl; ends = (bar_ends (print u ++ rest)) })

pub ReadsNothing-ors : {text : List ℕ} → ReadsNothing xors text → ReadsNothing ors text
ReadsNothing-ors {text} h n rest r = no_ors text h r.tree rest r.ends r.written

no_ors_after : (text between after : List ℕ) (m : ℕ) → Reads xors text m between → between ≡ 124 ∷ after → ReadsNothing ors after → (t : Tree ors) (rest : List ℕ) → Ends ors rest → text ≡ print t ++ rest → ⊥
no_ors_after text between after m r b h (only_xor s) rest p e =
    let same = cut r.tree s between rest r.ends (p.1, p.2) (sym r.written ∙ e) in
    not_after 124 rest after p.0 (sym same.1 ∙ b)
no_ors_after text between after m r b h (or_of s u) rest p e =
    let same = cut r.tree s between (124 ∷ (print u ++ rest)) r.ends (bar_ends (print u ++ rest)) (sym r.written ∙ e ∙ joined (print s) (print u) rest 124) in
    h (number u) rest (record { tree = u; written = rest_same 124 124 _ _ (sym b ∙ same.1); value = refl; ends = p })

pub ReadsNothing-ors_after : {text between after : List ℕ} {m : ℕ} → Reads xors text m between → between ≡ 124 ∷ after → ReadsNothing ors after → ReadsNothing ors text
ReadsNothing-ors_after {text} {between} {after} {m} r b h n rest w = no_ors_after text between after m r b h w.tree rest w.ends w.written

pub Reads-only_and : {text rest : List ℕ} {n : ℕ} → Reads ands text n rest → ¬ (BeginsWith 94 rest) → Reads xors text n rest
Reads-only_and r h = record { tree = only_and r.tree; written = r.written; value = r.value; ends = (h, r.ends) }

pub Reads-xor_of : {text between after rest : List ℕ} {m n : ℕ} → Reads ands text m between → between ≡ 94 ∷ after → Reads xors after n rest → Reads xors text (bit_xor m n) rest
Reads-xor_of {rest = rest} {m = m} r e w =
    record {
      tree = xor_of r.tree w.tree;
      written = r.written ∙ ap (λ z. print r.tree ++ z) (e ∙ ap (λ z. 94 ∷ z) w.written) ∙ sym (joined (print r.tree) (print w.tree) rest 94);
      value = ap (λ z. bit_xor z (number w.tree)) r.value ∙ ap (bit_xor m) w.value;
      ends = w.ends;
    }

no_xors : (text : List ℕ) → ReadsNothing ands text → (t : Tree xors) (rest : List ℕ) → Ends xors rest → text ≡ print t ++ rest → ⊥
no_xors text h (only_and s) rest p e = h (number s) rest (record { tree = s; written = e; value = refl; ends = p.1 })
no_xors text h (xor_of s u) rest p e =
    h (number s) (94 ∷ (print u ++ rest)) (record { tree = s; written = e ∙ joined (print s) (print u) rest 94; value = refl; ends = (hat_ends (print u ++ rest)) })

pub ReadsNothing-xors : {text : List ℕ} → ReadsNothing ands text → ReadsNothing xors text
ReadsNothing-xors {text} h n rest r = no_xors text h r.tree rest r.ends r.written

no_xors_after : (text between after : List ℕ) (m : ℕ) → Reads ands text m between → between ≡ 94 ∷ after → ReadsNothing xors after → (t : Tree xors) (rest : List ℕ) → Ends xors rest → text ≡ print t ++ rest → ⊥
no_xors_after text between after m r b h (only_and s) rest p e =
    let same = cut r.tree s between rest r.ends p.1 (sym r.written ∙ e) in
    not_after 94 rest after p.0 (sym same.1 ∙ b)
no_xors_after text between after m r b h (xor_of s u) rest p e =
    let same = cut r.tree s between (94 ∷ (print u ++ rest)) r.ends (hat_ends (print u ++ rest)) (sym r.written ∙ e ∙ joined (print s) (print u) rest 94) in
    h (number u) rest (record { tree = u; written = rest_same 94 94 _ _ (sym b ∙ same.1); value = refl; ends = p })

pub ReadsNothing-xors_after : {text between after : List ℕ} {m : ℕ} → Reads ands text m between → between ≡ 94 ∷ after → ReadsNothing xors after → ReadsNothing xors text
ReadsNothing-xors_after {text} {between} {after} {m} r b h n rest w = no_xors_after text between after m r b h w.tree rest w.ends w.written

pub Reads-only_not : {text rest : List ℕ} {n : ℕ} → Reads nots text n rest → ¬ (BeginsWith 38 rest) → Reads ands text n rest
Reads-only_not r h = record { tree = only_not r.tree; written = r.written; value = r.value; ends = h }

pub Reads-and_of : {text between after rest : List ℕ} {m n : ℕ} → Reads nots text m between → between ≡ 38 ∷ after → Reads ands after n rest → Reads ands text (bit_and m n) rest
Reads-and_of {rest = rest} {m = m} r e w =
    record {
      tree = and_of r.tree w.tree;
      written = r.written ∙ ap (λ z. print r.tree ++ z) (e ∙ ap (λ z. 38 ∷ z) w.written) ∙ sym (joined (print r.tree) (print w.tree) rest 38);
      value = ap (λ z. bit_and z (number w.tree)) r.value ∙ ap (bit_and m) w.value;
      ends = w.ends;
    }

no_ands : (text : List ℕ) → ReadsNothing nots text → (t : Tree ands) (rest : List ℕ) → Ends ands rest → text ≡ print t ++ rest → ⊥
no_ands text h (only_not s) rest p e = h (number s) rest (record { tree = s; written = e; value = refl; ends = tt })
no_ands text h (and_of s u) rest p e =
    h (number s) (38 ∷ (print u ++ rest)) (record { tree = s; written = e ∙ joined (print s) (print u) rest 38; value = refl; ends = tt })

pub ReadsNothing-ands : {text : List ℕ} → ReadsNothing nots text → ReadsNothing ands text
ReadsNothing-ands {text} h n rest r = no_ands text h r.tree rest r.ends r.written

no_ands_after : (text between after : List ℕ) (m : ℕ) → Reads nots text m between → between ≡ 38 ∷ after → ReadsNothing ands after → (t : Tree ands) (rest : List ℕ) → Ends ands rest → text ≡ print t ++ rest → ⊥
no_ands_after text between after m r b h (only_not s) rest p e =
    let same = cut r.tree s between rest r.ends tt (sym r.written ∙ e) in
    not_after 38 rest after p (sym same.1 ∙ b)
no_ands_after text between after m r b h (and_of s u) rest p e =
    let same = cut r.tree s between (38 ∷ (print u ++ rest)) r.ends tt (sym r.written ∙ e ∙ joined (print s) (print u) rest 38) in
    h (number u) rest (record { tree = u; written = rest_same 38 38 _ _ (sym b ∙ same.1); value = refl; ends = p })

pub ReadsNothing-ands_after : {text between after : List ℕ} {m : ℕ} → Reads nots text m between → between ≡ 38 ∷ after → ReadsNothing ands after → ReadsNothing ands text
ReadsNothing-ands_after {text} {between} {after} {m} r b h n rest w = no_ands_after text between after m r b h w.tree rest w.ends w.written

pub Reads-only_atom : {text rest : List ℕ} {n : ℕ} → Reads atoms text n rest → Reads nots text n rest
Reads-only_atom r = record { tree = only_atom r.tree; written = r.written; value = r.value; ends = tt }

pub Reads-not_of : {text after rest : List ℕ} {n : ℕ} → text ≡ 126 ∷ after → Reads nots after n rest → Reads nots text (0xffff_ffff - n) rest
Reads-not_of e r =
    record {
      tree = not_of r.tree;
      written = e ∙ ap (λ z. 126 ∷ z) r.written;
      value = ap (λ z. 0xffff_ffff - z) r.value;
      ends = tt;
    }

no_nots : (text : List ℕ) → ¬ (BeginsWith 126 text) → ReadsNothing atoms text → (t : Tree nots) (rest : List ℕ) → text ≡ print t ++ rest → ⊥
no_nots text b h (only_atom s) rest e = h (number s) rest (record { tree = s; written = e; value = refl; ends = tt })
no_nots text b h (not_of s) rest e = not_after 126 text _ b e

pub ReadsNothing-nots : {text : List ℕ} → ¬ (BeginsWith 126 text) → ReadsNothing atoms text → ReadsNothing nots text
ReadsNothing-nots {text} b h n rest r = no_nots text b h r.tree rest r.written

no_nots_after : (text after : List ℕ) → text ≡ 126 ∷ after → ReadsNothing nots after → (t : Tree nots) (rest : List ℕ) → text ≡ print t ++ rest → ⊥
no_nots_after text after b h (only_atom s) rest e = atom_begins s rest after (sym e ∙ b)
no_nots_after text after b h (not_of s) rest e = h (number s) rest (record { tree = s; written = rest_same 126 126 _ _ (sym b ∙ e); value = refl; ends = tt })

pub ReadsNothing-nots_after : {text after : List ℕ} → text ≡ 126 ∷ after → ReadsNothing nots after → ReadsNothing nots text
ReadsNothing-nots_after {text} {after} b h n rest r = no_nots_after text after b h r.tree rest r.written

option_map_some : {A B : Type 0} (f : A → B) (o : Option A) (y : B) → option_map f o ≡ Some y → (x : A) × (o ≡ Some x) × (f x ≡ y)
option_map_some f None y h = absurd (cc)
option_map_some f (Some x) y h = (x, refl, cc)

pub Reads-letter : {text rest : List ℕ} {c n : ℕ} → text ≡ c ∷ rest → option_map letter_number (letter_of c) ≡ Some n → Reads atoms text n rest
Reads-letter {rest = rest} {c} {n} e h =
    let found = option_map_some letter_number (letter_of c) n h in
    record {
      tree = letter found.0;
      written = e ∙ ap (λ z. z ∷ rest) (sym (code_of-letter c found.0 found.1));
      value = found.2;
      ends = tt;
    }

no_letter : (text rest : List ℕ) (c : ℕ) → text ≡ c ∷ rest → ¬ (BeginsWith 40 text) → option_map letter_number (letter_of c) ≡ None → (t : Tree atoms) (more : List ℕ) → text ≡ print t ++ more → ⊥
no_letter text rest c b h none (letter y) more e =
    let same : c ≡ code_of y = first_same (c ∷ rest) (code_of y ∷ more) (sym b ∙ e) in
    let some = ap (λ o. option_map letter_number o) (ap letter_of same ∙ letter_of-code y) in cc
no_letter text rest c b h none (parens s) more e = not_after 40 text _ h e

pub ReadsNothing-letter : {text rest : List ℕ} {c : ℕ} → text ≡ c ∷ rest → ¬ (BeginsWith 40 text) → option_map letter_number (letter_of c) ≡ None → ReadsNothing atoms text
ReadsNothing-letter {text} {rest} {c} e b h n more r = no_letter text rest c e b h r.tree more r.written

no_atom : (t : Tree atoms) (rest : List ℕ) → 0 < length (print t ++ rest)
no_atom (letter y) rest = omega arith
no_atom (parens s) rest = omega arith

pub ReadsNothing-empty : (text : List ℕ) → length text ≡ 0 → ReadsNothing atoms text
ReadsNothing-empty text h n rest r = omega (arith, no_atom r.tree rest, ap length r.written)

pub Reads-parens : {text after between rest : List ℕ} {n : ℕ} → text ≡ 40 ∷ after → Reads ors after n between → between ≡ 41 ∷ rest → Reads atoms text n rest
Reads-parens {rest = rest} e r b =
    record {
      tree = parens r.tree;
      written = e ∙ ap (λ z. 40 ∷ z) (r.written ∙ ap (λ z. print r.tree ++ z) b ∙ sym (append_assoc (print r.tree) (41 ∷ []) rest));
      value = r.value;
      ends = tt;
    }

no_parens : (text after : List ℕ) → text ≡ 40 ∷ after → ((s : Tree ors) (rest : List ℕ) → after ≡ print s ++ 41 ∷ rest → ⊥) → (t : Tree atoms) (rest : List ℕ) → text ≡ print t ++ rest → ⊥
no_parens text after b h (letter y) rest e = omega (arith, code-ge y, first_same (40 ∷ after) (code_of y ∷ rest) (sym b ∙ e))
no_parens text after b h (parens s) rest e = h s rest (rest_same 40 40 _ _ (sym b ∙ e) ∙ append_assoc (print s) (41 ∷ []) rest)

pub ReadsNothing-parens : {text after : List ℕ} → text ≡ 40 ∷ after → ReadsNothing ors after → ReadsNothing atoms text
ReadsNothing-parens {text} {after} b h n rest r =
    no_parens text after b (λ s more e. h (number s) (41 ∷ more) (record { tree = s; written = e; value = refl; ends = bracket_ends more })) r.tree rest r.written

pub ReadsNothing-unclosed : {text after between : List ℕ} {m : ℕ} → text ≡ 40 ∷ after → Reads ors after m between → ¬ (BeginsWith 41 between) → ReadsNothing atoms text
ReadsNothing-unclosed {text} {after} {between} b w h n rest r =
    no_parens text after b (λ s more e. not_after 41 between more h (cut w.tree s between (41 ∷ more) w.ends (bracket_ends more) (sym w.written ∙ e)).1) r.tree rest r.written

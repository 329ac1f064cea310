-- Streams are cut into whole commands in one way.
use Rattle.std.proofs.Common.{◌≡◌, ℕ, List, [], ◌∷◌, ◌++◌, length, ◌⊎◌, inl, inr, refl, sym, ap, subst, ◌∙◌, arith, length-append, append_assoc, append-nil}
use Rattle.pb_grammar.specs.Grammar.{Opens, body_text, opening_text}
use Rattle.pb_grammar.specs.Streams.{IsBegun, IsWhole, IsWholeLine, IsWholeTable, Commands}
use Rattle.std.proofs.lemmas.List.{append_cancel_right}
use Rattle.pb_grammar.proofs.TableTexts.{body_cut, first_cut}
use Rattle.pb_grammar.proofs.TableLemmas.{opening_is_text}

-- No whole command is a front of another.

table_more : (a more : List ℕ) (h : IsWholeTable a) → a ++ more ≡ opening_text h.opening ++ 10 ∷ (body_text h.lines ++ 10 ∷ more)
table_more a more h =
    ap (λ t. t ++ more) h.table.printed
    ∙ append_assoc (opening_text h.opening) (10 ∷ (body_text h.lines ++ 10 ∷ [])) more
    ∙ ap (λ t. opening_text h.opening ++ 10 ∷ t) (append_assoc (body_text h.lines) (10 ∷ []) more)

line_more : (a more : List ℕ) (h : IsWholeLine a) → a ++ more ≡ h.text ++ 10 ∷ more
line_more a more h = ap (λ t. t ++ more) h.line.1 ∙ append_assoc h.text (10 ∷ []) more

line_or_table : (a b x y : List ℕ) → IsWholeLine a → IsWholeTable b → a ++ x ≡ b ++ y → ⊥
line_or_table a b x y h k e =
    let o = k.opening in
    let cut = first_cut h.text (opening_text o) x (body_text k.lines ++ 10 ∷ y) h.line.0 (opening_is_text (opening_text o) o k.table.opens) (sym (line_more a x h) ∙ e ∙ table_more b y k) in
    h.closed o (subst (λ t. Opens t o) (sym cut.front) k.table.opens)

-- what stands behind two whole commands at the front of the same bytes
pub one_behind : (a b x y : List ℕ) → IsWhole a → IsWhole b → a ++ x ≡ b ++ y → x ≡ y
one_behind a b x y (inl h) (inl k) e = (first_cut h.text k.text x y h.line.0 k.line.0 (sym (line_more a x h) ∙ e ∙ line_more b y k)).behind
one_behind a b x y (inl h) (inr k) e = absurd (line_or_table a b x y h k e)
one_behind a b x y (inr h) (inl k) e = absurd (line_or_table b a y x k h (sym e))
one_behind a b x y (inr h) (inr k) e =
    let cut = first_cut (opening_text h.opening) (opening_text k.opening) (body_text h.lines ++ 10 ∷ x) (body_text k.lines ++ 10 ∷ y) (opening_is_text (opening_text h.opening) h.opening h.table.opens) (opening_is_text (opening_text k.opening) k.opening k.table.opens) (sym (table_more a x h) ∙ e ∙ table_more b y k) in
    body_cut h.lines k.lines x y h.table.body k.table.body cut.behind

cancel : (a b x : List ℕ) → a ++ x ≡ b ++ x → a ≡ b
cancel a b x e = append_cancel_right a b x e

-- Lists of commands.

pub record Same (xs ys : List (List ℕ)) (r s : List ℕ) : Type 0 where
  pub list : xs ≡ ys
  pub rest : r ≡ s

pub one_list : (stream : List ℕ) (xs ys : List (List ℕ)) (r s : List ℕ) → Commands stream xs r → Commands stream ys s → Same xs ys r s
one_list stream [] [] r s h k = record { list = refl; rest = sym h.0 ∙ k.0 }
one_list stream [] (y ∷ ys) r s h k = absurd (h.1 y k.0 (sym h.0 ∙ k.2) k.1)
one_list stream (x ∷ xs) [] r s h k = absurd (k.1 x h.0 (sym k.0 ∙ h.2) h.1)
one_list stream (x ∷ xs) (y ∷ ys) r s h k =
    let e = sym h.2 ∙ k.2 in
    let behind = one_behind x y h.0 k.0 h.1 k.1 e in
    let front = cancel x y h.0 (e ∙ ap (λ t. y ++ t) (sym behind)) in
    let others = one_list k.0 xs ys r s (subst (λ t. Commands t xs r) behind h.3) k.3 in
    record { list = ap (λ t. t ∷ xs) front ∙ ap (λ t. y ∷ t) others.list; rest = others.rest }

-- A stream and one byte more.

whole_some : IsWhole [] → ⊥
whole_some (inl h) = absurd (omega (arith, ap length h.line.1, length-append h.text (10 ∷ [])))
whole_some (inr h) = absurd (omega (arith, ap length h.table.printed, length-append (opening_text h.opening) (10 ∷ (body_text h.lines ++ 10 ∷ []))))

pub begun_none : IsBegun []
begun_none [] behind e h = whole_some h
begun_none (f ∷ fs) behind e h = absurd (omega (arith, ap length e))

-- a front of bytes and one more is all of them, or a front of the bytes
fronts : (rest front behind : List ℕ) (b : ℕ) → rest ++ b ∷ [] ≡ front ++ behind → (front ≡ rest ++ b ∷ []) ⊎ ((more : List ℕ) × (rest ≡ front ++ more))
fronts rest [] behind b e = inr (rest, refl)
fronts [] (f ∷ []) behind b e = inl cc
fronts [] (f ∷ (g ∷ gs)) behind b e = absurd (omega (arith, ap length e))
fronts (r ∷ rs) (f ∷ fs) behind b e =
    let same : r ≡ f = cc in
    elim (fronts rs fs behind b cc) [
      | inl all ↦ inl (ap (λ t. f ∷ t) all ∙ ap (λ c. c ∷ (rs ++ b ∷ [])) (sym same))
      | inr part ↦ inr (part.0, ap (λ c. c ∷ rs) same ∙ ap (λ t. f ∷ t) part.1)
    ]

begun_more : (rest : List ℕ) (b : ℕ) → IsBegun rest → ¬ (IsWhole (rest ++ b ∷ [])) → IsBegun (rest ++ b ∷ [])
begun_more rest b h none front behind e whole =
    elim (fronts rest front behind b e) [
      | inl all ↦ none (subst IsWhole all whole)
      | inr part ↦ h front part.0 part.1 whole
    ]

pub one_more : (stream : List ℕ) (list : List (List ℕ)) (rest : List ℕ) (b : ℕ) → Commands stream list rest → IsWhole (rest ++ b ∷ []) → Commands (stream ++ b ∷ []) (list ++ (rest ++ b ∷ []) ∷ []) []
one_more stream [] rest b h whole =
    ([], whole, ap (λ t. t ++ b ∷ []) h.0 ∙ sym (append-nil (rest ++ b ∷ [])), (refl, begun_none))
one_more stream (x ∷ xs) rest b h whole =
    (h.0 ++ b ∷ [], h.1, ap (λ t. t ++ b ∷ []) h.2 ∙ append_assoc x h.0 (b ∷ []), one_more h.0 xs rest b h.3 whole)

pub none_more : (stream : List ℕ) (list : List (List ℕ)) (rest : List ℕ) (b : ℕ) → Commands stream list rest → ¬ (IsWhole (rest ++ b ∷ [])) → Commands (stream ++ b ∷ []) list (rest ++ b ∷ [])
none_more stream [] rest b h none = (ap (λ t. t ++ b ∷ []) h.0, begun_more rest b h.1 none)
none_more stream (x ∷ xs) rest b h none =
    (h.0 ++ b ∷ [], h.1, ap (λ t. t ++ b ∷ []) h.2 ∙ append_assoc x h.0 (b ∷ []), none_more h.0 xs rest b h.3 none)

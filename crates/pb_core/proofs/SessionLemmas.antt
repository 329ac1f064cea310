-- The ids that are left, their lines and their count.
use Rattle.std.proofs.Common.{◌≡◌, ℕ, suc, ◌+◌, ◌-◌, ◌<◌, ◌≤◌, Bool, true, false, List, [], ◌∷◌, ◌++◌, length, codes, decimal, if◌then◌else◌, refl, sym, ap, ◌∙◌, arith, append_assoc, append-nil}
use Rattle.std.specs.List.{range_with_len, filter, flat_map}
use Rattle.pb_replies.specs.Replies.{listed}
use Rattle.pb_core.specs.Captures.{so_many}
use Rattle.pb_core.specs.Who.{session_line}

-- the ids from this one on
abbrev pub ids_from : ℕ → List ℕ
ids_from id = range_with_len id (9 - id)

ids_more : (id : ℕ) → id < 9 → ids_from id ≡ id ∷ ids_from (id + 1)
ids_more id h =
    let left : 9 - id ≡ suc (9 - (id + 1)) = omega arith in
    ap (range_with_len id) left

ids_none : (id : ℕ) → 9 ≤ id → ids_from id ≡ []
ids_none id h =
    let left : 9 - id ≡ 0 = omega arith in
    ap (range_with_len id) left

-- Lines: what is listed so far, and the lines of the ids that are left, are all.

line_by : (letter : List ℕ) (is_there : Bool) (id : ℕ) (more : List ℕ) → List ℕ
line_by letter is_there id more = (if is_there then listed (letter ++ codes " " ++ decimal id) else []) ++ more

lines_by : (letter : List ℕ) (test : ℕ → Bool) (id : ℕ) (is_there : Bool) → id < 9 → test id ≡ is_there →
    flat_map (session_line letter test) (ids_from id) ≡ line_by letter is_there id (flat_map (session_line letter test) (ids_from (id + 1)))
unfolding line_by
lines_by letter test id is_there h e =
    ap (flat_map (session_line letter test)) (ids_more id h)
    ∙ ap (λ b. line_by letter b id (flat_map (session_line letter test) (ids_from (id + 1)))) e

-- a session that is open
pub one_listed : (letter : List ℕ) (test : ℕ → Bool) (id : ℕ) (text next all : List ℕ) → id < 9 → test id ≡ true →
    next ≡ text ++ listed (letter ++ codes " " ++ decimal id) → text ++ flat_map (session_line letter test) (ids_from id) ≡ all →
    next ++ flat_map (session_line letter test) (ids_from (id + 1)) ≡ all
unfolding line_by
one_listed letter test id text next all h e more before =
    let rest : List ℕ = flat_map (session_line letter test) (ids_from (id + 1)) in
    ap (λ t. t ++ rest) more
    ∙ (append_assoc text (listed (letter ++ codes " " ++ decimal id)) rest
    ∙ (ap (λ t. text ++ t) (sym (lines_by letter test id true h e)) ∙ before))

-- one that isn't
pub none_listed : (letter : List ℕ) (test : ℕ → Bool) (id : ℕ) (text all : List ℕ) → id < 9 → test id ≡ false →
    text ++ flat_map (session_line letter test) (ids_from id) ≡ all → text ++ flat_map (session_line letter test) (ids_from (id + 1)) ≡ all
unfolding line_by
none_listed letter test id text all h e before = ap (λ t. text ++ t) (sym (lines_by letter test id false h e)) ∙ before

pub all_listed : (letter : List ℕ) (test : ℕ → Bool) (id : ℕ) (text all : List ℕ) → 9 ≤ id →
    text ++ flat_map (session_line letter test) (ids_from id) ≡ all → text ≡ all
all_listed letter test id text all h before =
    sym (ap (λ ids. text ++ flat_map (session_line letter test) ids) (ids_none id h) ∙ append-nil text) ∙ before

-- Counts: so many so far, and so many of the ids that are left, are all.

one_left : (test : ℕ → Bool) (id : ℕ) → id < 9 → test id ≡ true → length (filter test (ids_from id)) ≡ suc (length (filter test (ids_from (id + 1))))
one_left test id h e = ap (λ ids. length (filter test ids)) (ids_more id h) ∙ rw e refl

same_left : (test : ℕ → Bool) (id : ℕ) → id < 9 → test id ≡ false → length (filter test (ids_from id)) ≡ length (filter test (ids_from (id + 1)))
same_left test id h e = ap (λ ids. length (filter test ids)) (ids_more id h) ∙ rw e refl

pub one_counted : (test : ℕ → Bool) (id count : ℕ) → id < 9 → test id ≡ true → count + length (filter test (ids_from id)) ≡ so_many test →
    (count + 1) + length (filter test (ids_from (id + 1))) ≡ so_many test
one_counted test id count h e before = omega (arith, one_left test id h e, before)

pub none_counted : (test : ℕ → Bool) (id count : ℕ) → id < 9 → test id ≡ false → count + length (filter test (ids_from id)) ≡ so_many test →
    count + length (filter test (ids_from (id + 1))) ≡ so_many test
none_counted test id count h e before = omega (arith, same_left test id h e, before)

pub all_counted : (test : ℕ → Bool) (id count : ℕ) → 9 ≤ id → count + length (filter test (ids_from id)) ≡ so_many test → count ≡ so_many test
all_counted test id count h before = omega (arith, ap (λ ids. length (filter test ids)) (ids_none id h), before)

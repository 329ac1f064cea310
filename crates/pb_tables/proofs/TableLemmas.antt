-- Words behind the words of a table.
use Rattle.std.proofs.Common.{◌≡◌, ℕ, ◌+◌, ◌-◌, ◌*◌, ◌/◌, ◌%◌, ◌<◌, ◌≤◌, Bool, true, false, List, [], ◌++◌, length, take, drop, slice_index, refl, sym, ap, subst, ◌∙◌, inl, inr, arith}
use Rattle.std.proofs.lemmas.Bool.{cases_lt}
use Rattle.std.proofs.lemmas.List.{length-append, get_or_append_left, get_or-append_right, take_all, take_at, length-take-le}
use Rattle.pb_tables.specs.declared.drafts.Draft.{Draft}
use Rattle.pb_words.specs.declared.refusals.Refusal.{Refusal}
use Rattle.pb_tables.specs.Tables.{IsTable, CanFollow, CannotFollow, IsRefused, kept, trigger_of}
use Rattle.pb_tables.specs.Held.{Holds, IsRead, IsBad}

-- words that can follow a table make one with it
pub IsTable-append : (old words : List ℕ) → IsTable old → CanFollow (length old) words → IsTable (old ++ words)
IsTable-append old words table follow =
    let len = length-append old words in
    record {
      whole = omega (arith, table.whole, follow.whole);
      short = omega (arith, follow.short);
      triggers = λ i within. elim (cases_lt (4 * i) (length old)) [
        | inl lt ↦
            let same = get_or_append_left old words 0 (4 * i) lt in
            rw same (table.triggers i lt)
        | inr ge ↦
            let same = get_or-append_right old words (length old) (4 * i) 0 refl (omega arith) in
            let whole = table.whole in
            let place : 4 * i - length old ≡ 4 * (i - length old / 4) = omega arith in
            rw (same, place) (follow.triggers (i - length old / 4) (omega arith))
      ];
    }

pub IsTable-nil : IsTable []
IsTable-nil = record { whole = refl; short = omega arith; triggers = λ i within. absurd (omega arith) }

pub IsTable-kept : (append : Bool) (old : List ℕ) → IsTable old → IsTable (kept append old)
IsTable-kept true old table = table
IsTable-kept false old table = IsTable-nil

-- all words are held, where they aren't too many for a table
pub held_all : (draft : Draft) (words : List ℕ) → Holds draft words → draft.count ≤ 16384 → take draft.count draft.words.items ≡ words
held_all draft words h few = h.held ∙ take_all 16384 words (omega (arith, h.counted))

-- what is found in the words held is so in the words
pub found_bad : (draft : Draft) (words held : List ℕ) (before i : ℕ) → Holds draft words → draft.count ≤ 16384 - before → before ≤ 16384 → draft.count % 4 ≡ 0
    → held ≡ take draft.count draft.words.items → IsBad held i
    → (length words % 4 ≡ 0) × (before + length words ≤ 16384) × ((k : ℕ) × (4 * k < length words) × (12 < trigger_of (slice_index words (4 * k))))
found_bad draft words held before i h few below whole is bad =
    let counted = h.counted in
    let same : held ≡ words = is ∙ held_all draft words h (omega arith) in
    let found : IsBad words i = subst (λ w. IsBad w i) same bad in
    (omega arith, omega arith, (i, found.within, found.trigger))

pub none_bad : (draft : Draft) (words held : List ℕ) (before : ℕ) → Holds draft words → draft.count ≤ 16384 - before → before ≤ 16384 → draft.count % 4 ≡ 0
    → held ≡ take draft.count draft.words.items → ((i : ℕ) → 4 * i < length held → trigger_of (slice_index held (4 * i)) ≤ 12) → CanFollow before words
none_bad draft words held before h few below whole is good =
    let counted = h.counted in
    let same : held ≡ words = is ∙ held_all draft words h (omega arith) in
    let all : (i : ℕ) → 4 * i < length words → trigger_of (slice_index words (4 * i)) ≤ 12 = subst (λ (w : List ℕ). (i : ℕ) → 4 * i < length w → trigger_of (slice_index w (4 * i)) ≤ 12) same good in
    record { whole = omega arith; short = omega arith; triggers = all }

-- the front of the table that stays
front_kept : (append : Bool) (table old : List ℕ) (used start : ℕ) → used ≤ length table → old ≡ take used table → start ≡ length (kept append old)
    → take start table ≡ kept append old
front_kept true table old used start fits is len =
    let size : length (take used table) ≡ used = length-take-le used table fits in
    let same : start ≡ used = omega (arith, len, ap length is, size) in
    rw same (sym is)
front_kept false table old used start fits is len =
    let none : start ≡ 0 = omega (arith, len) in
    rw none refl

-- what stands in the table after the words are put into it
pub table_left : (append : Bool) (table new old put held words : List ℕ) (used start size : ℕ) (draft : Draft) → used ≤ 16384 → length table ≡ 16384 → size ≡ 16384 → length new ≡ 16384
    → old ≡ take used table → start ≡ length (kept append old) → Holds draft words → CanFollow start words
    → put ≡ table → held ≡ draft.words.items
    → take (start + length (take draft.count held)) new ≡ take start put ++ take draft.count held
    → take (start + draft.count) (take size (new ++ drop (length new) table)) ≡ kept append old ++ words
table_left append table new old put held words used start size draft few sized sizes same is len holds follow ep eh written =
    let counted = holds.counted in
    let short = follow.short in
    let all : take draft.count held ≡ words = ap (λ items. take draft.count items) eh ∙ held_all draft words holds (omega arith) in
    let front : take start put ≡ kept append old = ap (λ t. take start t) ep ∙ front_kept append table old used start (omega arith) is len in
    let whole : take size (new ++ drop (length new) table) ≡ new = take_at new (drop (length new) table) size (omega arith) in
    let n : start + draft.count ≡ start + length (take draft.count held) = omega (arith, ap length all) in
    rw (whole, n, written, front, all) refl

-- words that can't follow what is kept refuse a body that says them
pub refused_words : (old : List ℕ) (append base64 : Bool) (body : List ℕ) (refusal : Refusal) (draft : Draft) (start : ℕ) → IsRead base64 body draft → start ≡ length (kept append old)
    → ((words : List ℕ) → Holds draft words → CannotFollow start words refusal) → IsRefused old append base64 body refusal
refused_words old append base64 body refusal draft start read e why =
    inr (read.words, read.said, subst (λ n. CannotFollow n read.words refusal) e (why read.words read.held))

-- The groups one after the other: their lines, and the marks that they leave.
use Rattle.std.proofs.Common.{◌≡◌, ℕ, ◌+◌, ◌<◌, List, [], ◌∷◌, ◌++◌, length, get_or, take, Option, ap, sym, ◌∙◌}
use Rattle.std.specs.List.{flat_map, fold}
use Rattle.std.proofs.lemmas.List.{append-nil, take_more}
use Rattle.std.proofs.lemmas.List.Sums.{fold_more}
use Rattle.std.proofs.lemmas.Grind.{flat_map-append}
use Rattle.pb_fields.specs.Order.{slots}
use Rattle.pb_replies.specs.Replies.{listed}
use Rattle.pb_changes.specs.declared.groups.Group.{Group}
use Rattle.pb_changes.specs.declared.marks.Marks.{Marks}
use Rattle.pb_changes.specs.Past.{Past, Told}
use Rattle.pb_changes.specs.Report.{Reported, lines, noted}
use Rattle.pb_changes.specs.Kept.{Keeps}
use Rattle.pb_changes.specs.Helpers.{lines_due}

-- the lines of a group that is known
pub at_group : (g known : Group) (mark : Option ℕ) (told : Told) (past : Past) (reported : Reported) → g ≡ known → lines_due known mark told slots ≡ flat_map listed (lines reported past told.shows known) → lines_due g mark told slots ≡ flat_map listed (lines reported past told.shows g)
at_group g known mark told past reported e h = rw e h

-- one group more is noted
pub noted_more : (told told' : Told) (past : Past) (reported : Reported) (gs xs : List Group) (i : ℕ) (d : Group) (marks : Marks) → i < length gs → xs ≡ gs → told' ≡ told → Keeps marks (noted past told'.shows (fold (noted past told.shows) reported (take i gs)) (get_or xs i d)) → Keeps marks (fold (noted past told.shows) reported (take (i + 1) gs))
noted_more told told' past reported gs xs i d marks h e same keeps =
    let k = rw (e, same) at keeps in
    rw (fold_more (noted past told.shows) reported gs i d h) k

-- the lines of one group more
pub lines_more : (told told' : Told) (past : Past) (reported : Reported) (gs xs : List Group) (i : ℕ) (d : Group) (text text' : List ℕ) → i < length gs → xs ≡ gs → told' ≡ told → text ≡ flat_map listed (flat_map (lines reported past told.shows) (take i gs)) → text' ≡ text ++ flat_map listed (lines reported past told'.shows (get_or xs i d)) → text' ≡ flat_map listed (flat_map (lines reported past told.shows) (take (i + 1) gs))
lines_more told told' past reported gs xs i d text text' h e same so_far added =
    let of : Group → List (List ℕ) = lines reported past told.shows in
    let more = rw (e, same, so_far) at added in
    let front : List (List ℕ) = flat_map of (take i gs) in
    let last : List (List ℕ) = of (get_or gs i d) in
    more
    ∙ sym (flat_map-append listed front last)
    ∙ ap (λ l. flat_map listed (front ++ l)) (sym (append-nil last))
    ∙ ap (flat_map listed) (sym (flat_map-append of (take i gs) (get_or gs i d ∷ [])))
    ∙ ap (λ l. flat_map listed (flat_map of l)) (sym (take_more gs i d h))

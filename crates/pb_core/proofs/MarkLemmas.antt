-- What the marks of the sessions keep.
use Rattle.std.proofs.Common.{◌≡◌, ℕ, zero, suc, ◌-◌, List, [], ◌∷◌, get_or, set, replicate, Option, Some, None, is_some, refl, sym, ap, subst, ◌∙◌}
use Rattle.std.specs.Option.{unwrap_or}
use Rattle.pb_changes.specs.declared.Marks.{Marks}
use Rattle.pb_changes.specs.Report.{Reported, opening}
use Rattle.pb_changes.specs.Kept.{Keeps}
use Rattle.pb_core.specs.Kept.{KeptCore, IsKept, AreKept, Agrees}
use Rattle.pb_core.specs.Core.{CoreState}
use Rattle.pb_core.specs.Sessions.{open_of, is_listed, is_open, with_session}
use Rattle.pb_core.specs.Telling.{with_reported}

-- none is open
pub none_kept : (n : ℕ) → AreKept (replicate n None) (replicate n None)
none_kept zero = tt
none_kept (suc n) = (tt, none_kept n)

-- one of them is another now
pub one_kept : (kept : List (Option Marks)) (sessions : List (Option Reported)) (i : ℕ) (marks : Option Marks) (reported : Option Reported) →
    IsKept marks reported → AreKept kept sessions → AreKept (set kept i marks) (set sessions i reported)
one_kept [] [] i marks reported one all = tt
one_kept (k ∷ kept) (s ∷ sessions) zero marks reported one all = (one, all.1)
one_kept (k ∷ kept) (s ∷ sessions) (suc i) marks reported one all = (all.0, one_kept kept sessions i marks reported one all.1)
one_kept [] (s ∷ sessions) i marks reported one all = absurd all
one_kept (k ∷ kept) [] i marks reported one all = absurd all

-- each of them
pub kept_at : (kept : List (Option Marks)) (sessions : List (Option Reported)) (i : ℕ) → AreKept kept sessions →
    IsKept (get_or kept i None) (get_or sessions i None)
kept_at [] [] i all = tt
kept_at (k ∷ kept) (s ∷ sessions) zero all = all.0
kept_at (k ∷ kept) (s ∷ sessions) (suc i) all = kept_at kept sessions i all.1
kept_at [] (s ∷ sessions) i all = absurd all
kept_at (k ∷ kept) [] i all = absurd all

-- the same sessions are open
open_alike : (marks : Option Marks) (reported : Option Reported) → IsKept marks reported → is_some marks ≡ is_some reported
open_alike None None h = refl
open_alike (Some marks) (Some reported) h = refl
open_alike None (Some reported) h = absurd h
open_alike (Some marks) None h = absurd h

pub same_open : (kept : List (Option Marks)) (sessions : List (Option Reported)) → AreKept kept sessions → open_of kept ≡ open_of sessions
same_open [] [] all = refl
same_open (k ∷ kept) (s ∷ sessions) all =
    ap (λ b. b ∷ open_of kept) (open_alike k s all.0) ∙ ap (λ l. is_some s ∷ l) (same_open kept sessions all.1)
same_open [] (s ∷ sessions) all = absurd all
same_open (k ∷ kept) [] all = absurd all

pub open_same : (kept : List (Option Marks)) (sessions : List (Option Reported)) (id : ℕ) → AreKept kept sessions → is_open kept id ≡ is_open sessions id
open_same kept sessions id all = ap (λ o. is_listed o id) (same_open kept sessions all)

-- the marks of a session

marks_by : (found : Option Marks) (reported : Option Reported) (marks : Marks) → found ≡ Some marks → IsKept found reported → Keeps marks (unwrap_or reported opening)
marks_by (Some one) (Some reported) marks e h = let same : one ≡ marks = cc in subst (λ m. Keeps m reported) same h
marks_by (Some one) None marks e h = absurd h
marks_by None reported marks e h = absurd (cc)

new_by : (found : Option Marks) (reported : Option Reported) (marks : Marks) → found ≡ None → IsKept found reported → Keeps marks opening → Keeps marks (unwrap_or reported opening)
new_by None None marks e h new = new
new_by None (Some reported) marks e h new = absurd h
new_by (Some one) reported marks e h new = absurd (cc)

pub marks_found : (kept : List (Option Marks)) (sessions : List (Option Reported)) (i : ℕ) (marks : Marks) → get_or kept i None ≡ Some marks →
    AreKept kept sessions → Keeps marks (unwrap_or (get_or sessions i None) opening)
marks_found kept sessions i marks e all = marks_by (get_or kept i None) (get_or sessions i None) marks e (kept_at kept sessions i all)

pub marks_new : (kept : List (Option Marks)) (sessions : List (Option Reported)) (i : ℕ) (marks : Marks) → get_or kept i None ≡ None →
    Keeps marks opening → AreKept kept sessions → Keeps marks (unwrap_or (get_or sessions i None) opening)
marks_new kept sessions i marks e new all = new_by (get_or kept i None) (get_or sessions i None) marks e (kept_at kept sessions i all) new

-- what is kept where this was reported to a session
pub told_agrees : (kept next : KeptCore) (core : CoreState) (id : ℕ) (marks : Marks) (reported : Reported) → Keeps marks reported →
    next ≡ record kept { sessions = with_session id (Some marks) kept.sessions } → Agrees kept core → Agrees next (with_reported core id reported)
told_agrees kept next core id marks reported one e h =
    subst (λ k. Agrees k (with_reported core id reported)) (sym e)
    (record {
      settings = h.settings;
      assigned = h.assigned;
      run = h.run;
      sessions = one_kept kept.sessions core.sessions (id - 1) (Some marks) (Some reported) one h.sessions;
      acquisitions = h.acquisitions;
    })

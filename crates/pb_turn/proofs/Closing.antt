-- What is at home once a pass has every part.
use Rattle.std.proofs.Common.{◌≡◌, ℕ, ◌<◌, false, List, ◌++◌, refl, sym, ap, ◌∙◌, subst, arith, Some}
use Rattle.std.specs.Prelude.{Option, option_map}
use mathlib.Core.Option as maybe
use lib.ListN.{get_elem?}
use Rattle.atomic_table.specs.Table.{Final, Seen}
use Rattle.pb_turn.specs.Turning.{OneHistory}
use Rattle.pb_turn.specs.declared.views.View.{View}
use Rattle.pb_turn.proofs.Seats.{two_terms}
use Rattle.pb_turn.proofs.Keeps.{not_holder}

module _ {E V O : Type 0} (origin : V → O) (stands : V → List E → Type 0) (opened : V) (all : ℕ) where
  -- the value at home stands for a history that begins with what was seen
  pub record Left (slots : List (Option V)) (v : View E V) : Type 0 where
    pub value : V
    pub there : get_elem? slots 0 ≡ maybe.some (Some value)
    pub more : List E
    pub holds : stands value (v.seen ++ more)
    pub same : option_map origin v.opened ≡ Some (origin value)

  pub left : (id : ℕ) (v : View E V) (words : List ℕ) (slots : List (Option V)) → Final (Seen (OneHistory origin stands opened all) id v) words slots
      → 0 < v.parts → v.parts ≡ v.all → v.holds ≡ false → Left slots v
  left id v words slots (s, (r, at), _, _, values) some every free = by_holder r.holder refl
    where
      by_holder : (h : maybe.Option ℕ) → r.holder ≡ h → Left slots v
      by_holder maybe.none e = let home = r.home e in let f = r.views id v at some in record {
        value = home.value;
        there = values 0 (Some home.value) home.home;
        more = f.front.0;
        holds = subst (stands home.value) (sym f.front.1) home.holds;
        same = ap (option_map origin) f.same ∙ ap Some (sym home.same);
      }
      by_holder (maybe.some j) e =
          let h = r.held j e in
          let f = r.views id v at some in
          let ne = not_holder origin stands opened all s.views id j v at free h in
          let two = two_terms (λ (u : View E V). u.parts) s.views id j v h.view ne at h.stands in
          let q = r.parts in let a = f.parts in let b = h.parts in absurd (omega arith)

-- Entries that a pass adds to its own calls.
use Rattle.std.proofs.Common.{◌≡◌, ◌++◌, ◌∷◌, [], List, Option, Some, None, option_map, sym, ap, ◌∙◌, subst, append_assoc}
use mathlib.Core.List.{IsPrefix}
use Rattle.pb_turn.specs.Seeing.{Known, calls_of}
use Rattle.pb_turn.specs.Entering.{Holding, Holds, after_leaving}
use Rattle.pb_core.specs.declared.Entry.{Entry}
use Rattle.pb_core.specs.Answer.{CoreState}
use Rattle.pb_core.specs.History.{IsLegal, IsNext, after_entry, core_after}
use Rattle.pb_session.specs.Calls.{Adds, Keeps, knowing}

-- what begins a list begins a longer one
pub begins_more : (xs ys zs : List Entry) → IsPrefix xs ys → IsPrefix xs (ys ++ zs)
begins_more xs ys zs p = (p.0 ++ zs, sym (append_assoc xs p.0 zs) ∙ ap (λ (l : List Entry). l ++ zs) p.1)

-- the last entry of a legal history is one that can stand there
pub last_is_next : (core : CoreState) (history : List Entry) (e : Entry) → IsLegal core (history ++ e ∷ []) → IsNext (core_after core history) e
last_is_next core [] e legal = legal.0
last_is_next core (x ∷ history) e legal = last_is_next (after_entry core x) history e legal.1

module _ {V O : Type 0} (origin : V → O) (stands : V → List Entry → Type 0) (opening : V → CoreState)
    (same_opening : (v w : V) → origin v ≡ origin w → opening v ≡ opening w)
    (legal : (v : V) (history : List Entry) → stands v history → IsLegal (opening v) history) where
  from_opened : (opened : Option V) (o : O) (v : V) → option_map origin opened ≡ Some o → opened ≡ Some v → origin v ≡ o
  from_opened opened o v is at = some_same (sym (ap (option_map origin) at) ∙ is)
    where
      other : Option O → O
      other (Some x) = x
      other None = o

      some_same : Some (origin v) ≡ Some o → origin v ≡ o
      some_same e = ap other e

  -- who had the turn and gave it back has added the entry
  pub has_added : (pass : Known Entry V) (held : Holding Entry V) (x : V) (e : Entry) → Holds origin stands pass held → origin x ≡ origin held.value
      → stands x (held.pass.seen ++ e ∷ []) → calls_of (after_leaving held.pass e) ≡ calls_of held.pass ++ e ∷ []
      → Adds opening pass (after_leaving held.pass e) (e ∷ [])
  has_added pass held x e holds from ok calls =
      let new : Known Entry V = after_leaving held.pass e in
      record {
        same = ap (λ (p : Known Entry V). knowing p new.seen new.made new.lost) holds.same;
        begins = begins_more pass.seen held.pass.seen (e ∷ []) holds.begins;
        calls = calls ∙ ap (λ (es : List Entry). es ++ e ∷ []) holds.calls;
        legal = λ v at.
            subst (λ (c : CoreState). IsLegal c (held.pass.seen ++ e ∷ []))
            (same_opening x v (from ∙ sym (from_opened pass.opened (origin held.value) v holds.has_origin at)))
            (legal x (held.pass.seen ++ e ∷ []) ok);
      }

-- entries that are added, and more
pub adds_more : {V : Type 0} (opening : V → CoreState) (start pass new : Known Entry V) (xs ys : List Entry) → Adds opening start pass xs → Adds opening pass new ys → Adds opening start new (xs ++ ys)
adds_more opening start pass new xs ys a b =
    record {
      same = b.same ∙ ap (λ (p : Known Entry _). knowing p new.seen new.made new.lost) a.same;
      begins = (a.begins.0 ++ b.begins.0, sym (append_assoc start.seen a.begins.0 b.begins.0) ∙ (ap (λ (l : List Entry). l ++ b.begins.0) a.begins.1 ∙ b.begins.1));
      calls = b.calls ∙ (ap (λ (l : List Entry). l ++ ys) a.calls ∙ append_assoc (calls_of start) xs ys);
      legal = λ value at. b.legal value (ap (λ (p : Known Entry _). p.opened) a.same ∙ at);
    }

pub keeps_twice : {V : Type 0} (start pass new : Known Entry V) → Keeps start pass → Keeps pass new → Keeps start new
keeps_twice start pass new a b = b ∙ ap (λ (p : Known Entry _). knowing p new.seen new.made new.lost) a

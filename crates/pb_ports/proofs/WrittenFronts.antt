-- Writes one after the other, at a writer that may tell its bytes.
use Rattle.std.proofs.Common.{◌≡◌, ℕ, List, [], ◌++◌, take, drop, subst, sym, ap, ◌∙◌, refl, append_assoc, append-nil}
use Rattle.std.proofs.lemmas.List.{take-append-drop}
use Rattle.std.proofs.KnownBytes.{Appends-nil, Appends-trans, Appends-kept}
use Rattle.std.specs.declared.option.Option.{Option}
use Rattle.std.specs.Io.KnownBytes.{Keeps, Appends}

-- of these bytes a front was written, and this rest is left
pub record IsWritten (old : Option (List ℕ)) (bytes rest : List ℕ) (new : Option (List ℕ)) : Type 0 where
  pub front : List ℕ
  pub split : bytes ≡ front ++ rest
  pub adds : Appends old new front

pub IsWritten-start : (a : Option (List ℕ)) (bytes : List ℕ) → IsWritten a bytes bytes a
IsWritten-start a bytes = record { front = []; split = refl; adds = Appends-nil a }

pub IsWritten-more : (a b c : Option (List ℕ)) (bytes rest : List ℕ) (n : ℕ) → IsWritten a bytes rest b → Appends b c (take n rest) → IsWritten a bytes (drop n rest) c
IsWritten-more a b c bytes rest n w h =
    record {
      front = w.front ++ take n rest;
      split = w.split ∙ ap (λ l. w.front ++ l) (sym (take-append-drop n rest)) ∙ sym (append_assoc w.front (take n rest) (drop n rest));
      adds = Appends-trans a b c w.front (take n rest) w.adds h;
    }

pub IsWritten-kept : (a b c : Option (List ℕ)) (bytes rest : List ℕ) → IsWritten a bytes rest b → Keeps b c → IsWritten a bytes rest c
IsWritten-kept a b c bytes rest w k =
    record { front = w.front; split = w.split; adds = Appends-kept a b c w.front w.adds k }

pub IsWritten-all : (a b : Option (List ℕ)) (bytes rest : List ℕ) → IsWritten a bytes rest b → rest ≡ [] → Appends a b bytes
IsWritten-all a b bytes rest w none =
    subst (Appends a b) (sym (w.split ∙ ap (λ l. w.front ++ l) none ∙ append-nil w.front)) w.adds

pub ruleset writing = (IsWritten-start, IsWritten-more, IsWritten-kept, IsWritten-all)

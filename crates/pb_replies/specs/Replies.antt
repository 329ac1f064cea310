-- The forms of a reply.
use Rattle.std.specs.Prelude.{ℕ, List, ◌++◌, codes}
use Rattle.std.specs.List.{flat_map}

-- a value is one line
abbrev pub value_reply : List ℕ → List ℕ
value_reply value = codes "OK =" ++ value ++ codes "\n"

-- one of several values
abbrev pub listed : List ℕ → List ℕ
listed value = codes "!" ++ value ++ codes "\n"

-- several values are a line each, and a point ends them
abbrev pub list_reply : List (List ℕ) → List ℕ
list_reply values = flat_map listed values ++ codes ".\n"

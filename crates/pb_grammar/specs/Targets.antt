-- Targets: what a command names, and how it is written.
use Rattle.std.specs.Prelude.{◌≡◌, ℕ, ◌≤◌, ◌==◌, ◌&&◌, ◌||◌, nat_lt, Bool, true, List, [], ◌∷◌, ◌++◌, length, codes}
use Rattle.std.specs.List.{list_all, join_with_byte}
use Rattle.std.specs.Char.{is_ascii_alphanumeric}

-- a letter, a digit or `_`
abbrev pub is_name_byte : ℕ → Bool
is_name_byte b = is_ascii_alphanumeric b || b == 95

-- one or more of them
abbrev pub is_name : List ℕ → Bool
is_name text = nat_lt 0 (length text) && list_all is_name_byte text

-- each of these is a name
abbrev pub AreNames : List (List ℕ) → Type 0
AreNames names = list_all is_name names ≡ true

-- what a command names
pub data Target : Type 0 where
  -- `LUT1.INPA`
  Field : (block : List ℕ) (field : List ℕ) → Target
  -- `LUT1.INPA.DELAY`
  Attribute : (block : List ℕ) (field : List ℕ) (attribute : List ℕ) → Target
  -- all fields of a block: `LUT1.*`
  Fields : (block : List ℕ) → Target
  -- all attributes of a field: `LUT1.INPA.*`
  Attributes : (block : List ℕ) (field : List ℕ) → Target
  -- what isn't of a block: `*IDN`, `*ENUMS.LUT1.INPA`
  Star : (names : List (List ℕ)) → Target

-- each part is a name, and behind a star stand one to four
abbrev pub IsTarget : Target → Type 0
IsTarget (Field block field) = AreNames (block ∷ field ∷ [])
IsTarget (Attribute block field attribute) = AreNames (block ∷ field ∷ attribute ∷ [])
IsTarget (Fields block) = AreNames (block ∷ [])
IsTarget (Attributes block field) = AreNames (block ∷ field ∷ [])
IsTarget (Star names) = AreNames names × (1 ≤ length names) × (length names ≤ 4)

-- the parts with a point between each two
abbrev pub dotted : List (List ℕ) → List ℕ
dotted names = join_with_byte 46 names

-- how a target is written
abbrev pub target_text : Target → List ℕ
target_text (Field block field) = dotted (block ∷ field ∷ [])
target_text (Attribute block field attribute) = dotted (block ∷ field ∷ attribute ∷ [])
target_text (Fields block) = block ++ codes ".*"
target_text (Attributes block field) = dotted (block ∷ field ∷ []) ++ codes ".*"
target_text (Star names) = codes "*" ++ dotted names

-- the text is this target as it is written
pub record WritesTarget (text : List ℕ) (target : Target) : Type 0 where
  pub grammar : IsTarget target
  pub printed : text ≡ target_text target

-- the text is a target
abbrev pub IsTargetText : List ℕ → Type 0
IsTargetText text = (target : Target) × WritesTarget text target

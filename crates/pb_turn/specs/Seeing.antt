-- What a pass knows of the history, and which entries of it are its own.
use Rattle.std.specs.Prelude.{ℕ, ◌<◌, nat_lt, cond, List, [], ◌∷◌, All, slice_get, Option, Some, None, option_map}
use Rattle.atomic_table.specs.Seated.{TableId}

-- What a pass knows. No call changes `turn`, `all` and `opened`
pub record Known (E V : Type 0) : Type 0 where
  -- which turn it is a pass of
  pub turn : TableId
  -- the history, as far as the pass has seen it
  pub seen : List E
  -- where its own entries stand in the history, counted from 0
  pub made : List ℕ
  -- its parts, and the parts of all passes of the turn together
  pub parts : ℕ
  pub all : ℕ
  -- how often an exchange of its own found the turn taken
  pub lost : ℕ
  -- the value that the turn was made of
  pub opened : Option V

-- each number is below all that follow
abbrev pub Rising : List ℕ → Type 0
Rising [] = Unit {0}
Rising (n ∷ ns) = All (λ m. n < m) ns × Rising ns

-- n, put into its place
abbrev pub placed : ℕ → List ℕ → List ℕ
placed n [] = n ∷ []
placed n (m ∷ ms) = cond (nat_lt n m) (n ∷ m ∷ ms) (m ∷ placed n ms)

-- the positions of both, in rising order
abbrev pub together : List ℕ → List ℕ → List ℕ
together [] ms = ms
together (n ∷ ns) ms = placed n (together ns ms)

-- an entry before others, if there is one
abbrev pub before : {E : Type 0} → Option E → List E → List E
before None es = es
before (Some e) es = e ∷ es

-- the entries at these positions
abbrev pub entries_at : {E : Type 0} → List E → List ℕ → List E
entries_at history [] = []
entries_at history (n ∷ ns) = before (slice_get history n) (entries_at history ns)

-- what the value was opened with that the turn was made of
abbrev pub origin_of : {E V O : Type 0} → (V → O) → Known E V → Option O
origin_of origin pass = option_map origin pass.opened

-- the entries that are a pass's own, in their order
abbrev pub calls_of : {E V : Type 0} → Known E V → List E
calls_of pass = entries_at pass.seen pass.made

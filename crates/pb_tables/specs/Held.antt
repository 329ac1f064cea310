-- Words of private helpers: no public clause cites them.
-- What the code holds of the words of a body.
use Rattle.std.specs.Prelude.{◌≡◌, ◌<◌, ◌%◌, ◌*◌, ℕ, Bool, List, ◌++◌, length, slice_index, take}
use Rattle.base64.specs.Engines.{standard}
use Rattle.base64.specs.GeneralPurpose.{encode_of}
use Rattle.pb_tables.specs.declared.drafts.Draft.{Draft}
use Rattle.pb_tables.specs.Bodies.{Says, AreWords, bytes_of}
use Rattle.pb_tables.specs.Tables.{most, last_trigger, trigger_of}

-- the number of these words, and the first of them, as many as a table has at most
pub record Holds (draft : Draft) (words : List ℕ) : Type 0 where
  pub counted : draft.count ≡ length words
  pub held : take draft.count draft.words.items ≡ take most words

-- it holds the words that the body says
pub record IsRead (base64 : Bool) (body : List ℕ) (draft : Draft) : Type 0 where
  pub words : List ℕ
  pub said : Says base64 body words
  pub held : Holds draft words

-- the letters are those of the words held, three and three, and those that wait
pub record AreLetters (draft : Draft) (letters waiting : List ℕ) : Type 0 where
  pub words : List ℕ
  pub threes : length words % 3 ≡ 0
  pub are : AreWords words
  pub held : Holds draft words
  pub printed : letters ≡ encode_of standard (bytes_of words) ++ waiting

-- row i has a trigger that there isn't
pub record IsBad (words : List ℕ) (i : ℕ) : Type 0 where
  pub within : 4 * i < length words
  pub trigger : last_trigger < trigger_of (slice_index words (4 * i))

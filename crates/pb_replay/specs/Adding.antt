-- Words of private helpers: no public clause cites them.
-- A line that is added to a draft, and where its text stands among the bytes of the script.
use Rattle.std.specs.Prelude.{◌≡◌, ℕ, ◌-◌, ◌≤◌, List, length, slice_range}
use Rattle.pb_grammar.specs.Grammar.{IsText}
use Rattle.pb_replay.specs.declared.lines.ReadDeed.{ReadDeed}
use Rattle.pb_replay.specs.declared.lines.ReadDeed.TheVariants as deeds
use Rattle.pb_replay.specs.declared.lines.ReadLine.{ReadLine}
use Rattle.pb_replay.specs.declared.lines.ReadLine.TheVariants as lines

-- the text has no newline, and stands before this place of the bytes
pub record EndsAt (bytes : List ℕ) (end : ℕ) (text : List ℕ) : Type 0 where
  pub room : length text ≤ end
  pub within : end ≤ length bytes
  pub same : slice_range bytes (end - length text) end ≡ text
  pub plain : IsText text

-- the text of the deed does, if it has one
abbrev pub TextEndsAt : List ℕ → ℕ → ReadDeed → Type 0
TextEndsAt bytes end (deeds.Level input value) = Unit {0}
TextEndsAt bytes end (deeds.Command session text) = EndsAt bytes end text.now
TextEndsAt bytes end (deeds.CloseControl session) = Unit {0}
TextEndsAt bytes end (deeds.OpenData session options) = EndsAt bytes end options.now
TextEndsAt bytes end (deeds.Take session) = Unit {0}
TextEndsAt bytes end (deeds.CloseData session) = Unit {0}
TextEndsAt bytes end deeds.End = Unit {0}

-- the line may be added behind a last tick
abbrev pub MayBeAdded : List ℕ → ℕ → ℕ → ReadLine → Type 0
MayBeAdded bytes end last lines.Skipped = Unit {0}
MayBeAdded bytes end last (lines.Timed tick deed) = (last ≤ tick) × TextEndsAt bytes end deed

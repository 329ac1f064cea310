use Rattle.std.proofs.Common.{◌≡◌, map, take, All}
use Rattle.std.specs.Str.{IsUtf8}
use Rattle.pb_cli.proofs.texts.texts_of.Given as goal

abbrev pub invariant-loop-word : goal.invariant-loop-word
invariant-loop-word l =
    (map (λ s. s.now) l.texts.items ≡ take l.word-index l.words) × All IsUtf8 (take l.word-index l.words)

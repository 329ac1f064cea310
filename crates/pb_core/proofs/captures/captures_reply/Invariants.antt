use Rattle.std.proofs.Common.{◌≡◌, [], map}
use Rattle.pb_replies.proofs.ListedLemmas.{after}
use Rattle.pb_core.specs.Captures.{capture_line}
use Rattle.pb_core.proofs.captures.captures_reply.Given as goal

-- the lines of the fields so far
abbrev pub invariant-loop-i : goal.invariant-loop-i
invariant-loop-i l = l.text ≡ after [] (map capture_line l.layout) l.i

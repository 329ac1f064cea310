use Rattle.std.proofs.Common.{[], ◌∷◌, refl, sym, ◌∙◌}
use Rattle.pb_core.specs.Answer.{after}
use Rattle.pb_replay.specs.Events.{going_to}
use Rattle.pb_replay.specs.Tallies.{tally}
use Rattle.pb_replay.proofs.PendingLemmas.{played_ok}
use Rattle.pb_replay.proofs.TallyLemmas.{went_more, went_stops, quiet_makes_none}
use Rattle.pb_replay.proofs.players.Player.happens_at.Goals as goal

pub returns-in-Ok-clause-core : goal.returns-in-Ok-clause-core
returns-in-Ok-clause-core g c = λ there state h.
    c.happens.ensures.core (played_ok c.happens.result (sym c.played.ensures ∙ there)) (after state (going_to c.args.tick)) (c.in-Ok.ensures.core refl state h)

pub returns-in-Ok-clause-went : goal.returns-in-Ok-clause-went
returns-in-Ok-clause-went g c = λ state h ready.
    went_more 0 (Unit {0}) c.happens.result c.played.result state (going_to c.args.tick ∷ []) (c.args.event.now ∷ []) _ _ _ c.played.ensures
    (quiet_makes_none c.args.event.now c.requires.quiet) (c.in-Ok.ensures.went state h ready)
    (c.happens.ensures.calls (after state (going_to c.args.tick)) (c.in-Ok.ensures.core refl state h))

pub returns-in_default-clause-went : goal.returns-in_default-clause-went
returns-in_default-clause-went g c = λ state h ready.
    went_stops 0 (Unit {0}) c.advance.result state (going_to c.args.tick ∷ []) (c.args.event.now ∷ []) _ _ c.in_default.not-Ok c.advance.ensures.known tt
    (quiet_makes_none c.args.event.now c.requires.quiet) (c.advance.ensures.went state h ready)

-- Change reports of a core: what is shown in them, what a session is told, and what that leaves.
use Rattle.std.specs.Prelude.{ℕ, Bool, List, ◌∷◌, Option, Some}
use Rattle.pb_fields.specs.declared.Slot.{Slot}
use Rattle.pb_fields.specs.declared.Role.{Role}
use Rattle.pb_fields.specs.declared.Role.TheVariants as roles
use Rattle.pb_fields.specs.Slots.{role_at}
use Rattle.pb_model.specs.Tick.{Standing}
use Rattle.pb_config.specs.Settings.{Settings}
use Rattle.pb_config.specs.Showing.{shown_at}
use Rattle.pb_changes.specs.declared.Group.{Group}
use Rattle.pb_changes.specs.Past.{Past}
use Rattle.pb_changes.specs.Report.{Reported, report, after_report, after_reset}
use Rattle.pb_core.specs.Core.{CoreState, with_sessions}
use Rattle.pb_core.specs.Sessions.{reported_to, with_session}
use Rattle.pb_core.specs.Queries.{level_shown, position_shown, read_shown}

-- the accepted assignments, and the states of both buses up to now
abbrev pub past_of : CoreState → Past
past_of core = record { assigned = core.assigned; states = core.box.stands.bus ∷ core.box.past }

abbrev pub shown_as : Settings → Standing → Slot → Role → List ℕ
shown_as settings box slot roles.BitOut = level_shown box slot
shown_as settings box slot roles.PosOut = position_shown box slot
shown_as settings box slot roles.Read = read_shown box slot
shown_as settings box slot _ = shown_at settings slot

-- what is shown of a slot: the value with which its query is answered
abbrev pub shown_now : Settings → Standing → Slot → List ℕ
shown_now settings box slot = shown_as settings box slot (role_at slot)

abbrev pub shows_of : CoreState → Slot → List ℕ
shows_of core = shown_now core.settings core.box.stands

-- the report of a group, or of all, to a session
abbrev pub reports_to : CoreState → ℕ → Option Group → List ℕ
reports_to core id group = report (reported_to core.sessions id) (past_of core) (shows_of core) group

-- the core where this was reported to a session
abbrev pub with_reported : CoreState → ℕ → Reported → CoreState
with_reported core id reported = with_sessions core (with_session id (Some reported) core.sessions)

-- the core after a report to a session
abbrev pub after_telling : CoreState → ℕ → Option Group → CoreState
after_telling core id group =
    with_reported core id (after_report (reported_to core.sessions id) (past_of core) (shows_of core) group)

-- the core after a reset of a session: all is reported next, or nothing up to now is
abbrev pub after_resetting : CoreState → ℕ → Option Group → Bool → CoreState
after_resetting core id group all =
    with_reported core id (after_reset (reported_to core.sessions id) (past_of core) (shows_of core) group all)

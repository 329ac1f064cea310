-- What a command of capture leaves.
use Rattle.std.proofs.Common.{◌≡◌, ℕ, ◌==◌, true, List, length, Option, Some, None, IsSome, is_some, Result, Ok, Err, sym, ap, subst, ◌∙◌}
use Rattle.std.specs.Prelude.{if◌then◌else◌}
use Rattle.pb_words.specs.declared.Refusal.{Refusal}
use Rattle.pb_words.specs.declared.Refusal.TheVariants as refusals
use Rattle.pb_words.specs.Refusing.{result_map}
use Rattle.pb_pcap.specs.declared.Field.{Field}
use Rattle.pb_buses.specs.declared.Condition.TheVariants as conditions
use Rattle.pb_model.specs.declared.Change.TheVariants as changes
use Rattle.pb_still.specs.Eventful.{Moment}
use Rattle.pb_going.specs.Sims as sims
use Rattle.pb_jump.specs.Changing.{changed_moment}
use Rattle.pb_config.specs.Capturing.{layout_of}
use Rattle.pb_acquire.specs.declared.ArmFault.{ArmFault}
use Rattle.pb_acquire.specs.declared.ArmFault.TheVariants as faults
use Rattle.pb_acquire.specs.Acquisitions.{AllAcquisitions, arm_refusal, armed, ended, room_of}
use Rattle.pb_acquire.specs.Kept.{IsFault}
use Rattle.pb_acquire.specs.Kept as acquire
use Rattle.pb_core.specs.Core.{CoreState}
use Rattle.pb_core.specs.Kept.{KeptCore, Agrees, Stands}
use Rattle.pb_core.specs.Captures.{CaptureDeed, disarms, without_value, armed_or_refused, arming, disarming}
use Rattle.pb_core.specs.Assignments.{captures}
use Rattle.pb_core.specs.Answer.{left_by}
use Rattle.pb_core.proofs.RunLemmas.{stands_same}
use Rattle.pb_core.proofs.CoreLemmas.{arms_stands, disarms_stands}

-- without a value it does what it says
pub valueless : (next : KeptCore) (core : CoreState) (id : ℕ) (value : List ℕ) (r : Result CaptureDeed Refusal) → (length value == 0) ≡ true →
    Stands next (left_by core id (result_map captures r)) → Stands next (left_by core id (result_map captures (without_value value r)))
valueless next core id value r e h =
    subst (λ b. Stands next (left_by core id (result_map captures (if b then r else Err refusals.MalformedValue)))) (sym e) h

-- an acquisition is armed
pub armed_stands : (kept next : KeptCore) (core : CoreState) (id room : ℕ) (value : List ℕ) (layout : List Field) → (length value == 0) ≡ true →
    layout ≡ layout_of kept.config.settings → next.config ≡ kept.config → next.sessions ≡ kept.sessions → room ≡ room_of layout →
    ((moment : Moment) → sims.Agrees kept.sim moment → sims.Agrees next.sim (changed_moment moment (changes.Arm room))) →
    ((all : AllAcquisitions) → acquire.Agrees kept.acquisitions all → (arm_refusal all layout ≡ None) × acquire.Agrees next.acquisitions (armed layout all)) →
    Agrees kept core → Stands next (left_by core id (result_map captures (without_value value (arming core.acquisitions (layout_of core.settings)))))
armed_stands kept next core id room value layout empty by_settings config sessions r runs arms h =
    let told = arms core.acquisitions h.acquisitions in
    valueless next core id value (arming core.acquisitions (layout_of core.settings)) empty
    (subst (λ (l : List Field). Stands next (left_by core id (result_map captures (arming core.acquisitions l)))) (by_settings ∙ ap layout_of h.settings)
    (subst (λ (o : Option Refusal). Stands next (left_by core id (result_map captures (armed_or_refused layout o)))) (sym told.0)
    (arms_stands kept next core id layout config sessions
    (subst (λ (n : ℕ). (moment : Moment) → sims.Agrees kept.sim moment → sims.Agrees next.sim (changed_moment moment (changes.Arm n))) r runs)
    told.1 h)))

refusal_is : (o : Option Refusal) (refusal : Refusal) → IsFault o (faults.Refused refusal) → Some refusal ≡ o
refusal_is (Some other) refusal e = let same : refusal ≡ other = cc in ap Some same
refusal_is None refusal e = absurd (cc)

-- or it is refused, which changes nothing
pub refused_stands : (kept next : KeptCore) (core : CoreState) (id : ℕ) (value : List ℕ) (layout : List Field) (fault : ArmFault) (refusal : Refusal) →
    (length value == 0) ≡ true → layout ≡ layout_of kept.config.settings → next ≡ kept → fault ≡ faults.Refused refusal →
    ((all : AllAcquisitions) → acquire.Agrees kept.acquisitions all → IsFault (arm_refusal all layout) fault) →
    Agrees kept core → Stands next (left_by core id (result_map captures (without_value value (arming core.acquisitions (layout_of core.settings)))))
refused_stands kept next core id value layout fault refusal empty by_settings same e refuses h =
    let why : Some refusal ≡ arm_refusal core.acquisitions layout =
    refusal_is (arm_refusal core.acquisitions layout) refusal
    (subst (λ f. IsFault (arm_refusal core.acquisitions layout) f) e (refuses core.acquisitions h.acquisitions)) in
    valueless next core id value (arming core.acquisitions (layout_of core.settings)) empty
    (subst (λ (l : List Field). Stands next (left_by core id (result_map captures (arming core.acquisitions l)))) (by_settings ∙ ap layout_of h.settings)
    (subst (λ (o : Option Refusal). Stands next (left_by core id (result_map captures (armed_or_refused layout o)))) why
    (subst (λ k. Stands k core) (sym same) (stands_same kept core h))))

-- the one that is armed or running is over
pub disarmed_stands : (kept next : KeptCore) (core : CoreState) (id : ℕ) (value : List ℕ) → (length value == 0) ≡ true →
    next.config ≡ kept.config → next.sessions ≡ kept.sessions →
    ((moment : Moment) → sims.Agrees kept.sim moment → sims.Agrees next.sim (changed_moment moment changes.Disarm)) →
    ((all : AllAcquisitions) → acquire.Agrees kept.acquisitions all → IsSome all.running × acquire.Agrees next.acquisitions (ended conditions.Disarmed all)) →
    Agrees kept core → Stands next (left_by core id (result_map captures (without_value value (disarming core.acquisitions))))
disarmed_stands kept next core id value empty config sessions runs disarm h =
    let told = disarm core.acquisitions h.acquisitions in
    let ran : is_some core.acquisitions.running ≡ true = told.0 in
    valueless next core id value (disarming core.acquisitions) empty
    (subst (λ b. Stands next (left_by core id (result_map captures (if b then Ok disarms else Err refusals.NotArmed)))) (sym ran)
    (disarms_stands kept next core id config sessions runs told.1 h))

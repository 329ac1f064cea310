-- Each status has its cause, on an input that tells its bytes.
use Rattle.std.proofs.Common.{◌≡◌, ◌≢◌, ℕ, List, [], ◌++◌, length, Option, Some, None, refl, sym, ap, subst, inl, inr, ◌∙◌, arith}
use Rattle.std.proofs.lemmas.List.{append-nil, length-append}
use Rattle.pb_ports.specs.Ports.{Takes, IsSpent, Rose}
use Rattle.panda_sim.specs.declared.statuses.Status.{Status}
use Rattle.panda_sim.specs.declared.statuses.Status.TheVariants as statuses
use Rattle.pb_stim.specs.declared.Cause.{Cause}
use Rattle.pb_replay.specs.Script.{Line, IsScript}
use Rattle.pb_replay.specs.Faults.{first_fault}
use Rattle.pb_replay.proofs.ScriptLaws.{script_has_none}
use Rattle.panda_sim.specs.Run.{Replays, ReadsNoScript, Leaves, EndsOnNoScript, EndsOnScript}
use Rattle.panda_sim.proofs.LongInputs.{same_fault}

-- what was taken of told bytes, and what is left
taken_of : (bytes read : List ℕ) (left : Option (List ℕ)) → Takes (Some bytes) read left → IsSpent left → read ≡ bytes
taken_of bytes read left h spent =
    let nothing : h.0 ≡ [] = subst IsSpent h.2 spent in
    sym (h.1 ∙ (ap (λ rest. read ++ rest) nothing ∙ append-nil read))

-- a script that was read to its end
replays_told : (bytes : List ℕ) (given left : Option (List ℕ)) (Holds : List Line → Type 0) → given ≡ Some bytes → Replays given left Holds → (lines : List Line) × IsScript bytes lines
replays_told bytes given left Holds e r =
    let same = taken_of bytes r.bytes left (subst (λ g. Takes g r.bytes left) e r.taken) r.spent in
    (r.lines, subst (λ b. IsScript b r.lines) same r.script)

none_is_not_some : {X : Type 0} {x : X} → ¬ (None ≡ Some x)
none_is_not_some e = cc

-- what was read is no script, so all of it is none
no_script_told : (line : ℕ) (cause : Cause) (bytes : List ℕ) (given left : Option (List ℕ)) → given ≡ Some bytes → ReadsNoScript line cause given left → (lines : List Line) → ¬ (IsScript bytes lines)
no_script_told line cause bytes given left e r lines s =
    let told : Takes (Some bytes) r.bytes left = subst (λ g. Takes g r.bytes left) e r.taken in
    elim r.enough [
      | inl spent ↦
          let none = script_has_none r.bytes lines (subst (λ b. IsScript b lines) (sym (taken_of bytes r.bytes left told spent)) s) in
          absurd (none_is_not_some (sym none ∙ r.fault))
      | inr long ↦ omega (arith, long, s.size, ap length told.1, length-append r.bytes told.0)
    ]

-- an input that is no script
pub ends_on_no_script : (status : Status) (bytes : List ℕ) (given left held now : Option (List ℕ)) → Leaves status given left held now → status ≢ statuses.Usage → given ≡ Some bytes → ((lines : List Line) → ¬ (IsScript bytes lines)) → EndsOnNoScript status
ends_on_no_script statuses.Ok bytes given left held now h known e none = let s = replays_told bytes given left _ e h in none s.0 s.1
ends_on_no_script statuses.Usage bytes given left held now h known e none = known refl
ends_on_no_script (statuses.Script line cause) bytes given left held now h known e none = tt
ends_on_no_script statuses.ReadFault bytes given left held now h known e none = tt
ends_on_no_script statuses.WriteFault bytes given left held now h known e none = let s = replays_told bytes given left _ e h in none s.0 s.1
ends_on_no_script statuses.OutOfMemory bytes given left held now h known e none = tt
ends_on_no_script (statuses.EventLimit tick) bytes given left held now h known e none = let s = replays_told bytes given left _ e h in none s.0 s.1
ends_on_no_script statuses.PortFault bytes given left held now h known e none = h
ends_on_no_script statuses.SpawnFault bytes given left held now h known e none = h

-- a script where nothing fails
pub ends_on_script : (status : Status) (bytes : List ℕ) (lines : List Line) (given left held now : Option (List ℕ)) (in_old in_new out_old out_new : ℕ) → Leaves status given left held now → status ≢ statuses.Usage → (status ≡ statuses.ReadFault → Rose in_old in_new) → (status ≡ statuses.WriteFault → Rose out_old out_new) → given ≡ Some bytes → IsScript bytes lines → ¬ (Rose in_old in_new) → ¬ (Rose out_old out_new) → EndsOnScript status
ends_on_script statuses.Ok bytes lines given left held now a b c d h known r w e s i o = tt
ends_on_script statuses.Usage bytes lines given left held now a b c d h known r w e s i o = known refl
ends_on_script (statuses.Script line cause) bytes lines given left held now a b c d h known r w e s i o = no_script_told line cause bytes given left e h.0 lines s
ends_on_script statuses.ReadFault bytes lines given left held now a b c d h known r w e s i o = i (r refl)
ends_on_script statuses.WriteFault bytes lines given left held now a b c d h known r w e s i o = o (w refl)
ends_on_script statuses.OutOfMemory bytes lines given left held now a b c d h known r w e s i o = tt
ends_on_script (statuses.EventLimit tick) bytes lines given left held now a b c d h known r w e s i o = tt
ends_on_script statuses.PortFault bytes lines given left held now a b c d h known r w e s i o = h
ends_on_script statuses.SpawnFault bytes lines given left held now a b c d h known r w e s i o = h

-- the first fault of what was read is that of all
fault_told : (line : ℕ) (cause : Cause) (bytes : List ℕ) (given left : Option (List ℕ)) → given ≡ Some bytes → ReadsNoScript line cause given left → first_fault bytes ≡ Some (line, cause)
fault_told line cause bytes given left e r =
    let told : Takes (Some bytes) r.bytes left = subst (λ g. Takes g r.bytes left) e r.taken in
    elim r.enough [
      | inl spent ↦ subst (λ b. first_fault b ≡ Some (line, cause)) (taken_of bytes r.bytes left told spent) r.fault
      | inr long ↦ ap first_fault told.1 ∙ same_fault r.bytes told.0 long ∙ r.fault
    ]

pub fault_of_all : (status : Status) (line : ℕ) (cause : Cause) (bytes : List ℕ) (given left held now : Option (List ℕ)) → Leaves status given left held now → status ≡ statuses.Script line cause → given ≡ Some bytes → first_fault bytes ≡ Some (line, cause)
fault_of_all status line cause bytes given left held now h is e =
    fault_told line cause bytes given left e (subst (λ s. Leaves s given left held now) is h).0

-- the words are known, so the status isn't that of a wrong use
pub not_usage : (status : Status) (Known : Type 0) → (status ≡ statuses.Usage → ¬ Known) → Known → status ≢ statuses.Usage
not_usage status Known h k e = h e k

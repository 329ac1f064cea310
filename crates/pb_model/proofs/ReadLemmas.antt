-- What a block reports.
use Rattle.std.proofs.Common.{◌≡◌, ◌≢◌, ℕ, zero, suc, ◌<◌, ◌≤◌, ◌==◌, inl, inr, Bool, true, false, leb, ◌&&◌, ◌^◌, map, if◌then◌else◌, refl, sym, ap, subst, ◌∙◌, arith}
use Rattle.std.proofs.lemmas.Bool.{eqb-true}
use Rattle.std.specs.List.{range_with_len}
use Rattle.std.proofs.lemmas.Bool.{leb-true, eqb-false}
use Rattle.pb_fields.proofs.RowLemmas.{and_left, and_right}
use Rattle.pb_fields.specs.Catalogue.{block}
use Rattle.pb_fields.specs.declared.Role.{Role}
use Rattle.pb_names.specs.declared.pulse.TheConstants as pulse
use Rattle.pb_names.specs.declared.seq.TheConstants as seq
use Rattle.pb_names.specs.declared.pcap.TheConstants as pcap
use Rattle.pb_pcomp.specs.declared.registers.PcompState.{PcompState}
use Rattle.pb_pcomp.specs.declared.registers.PcompState.TheVariants as states
use Rattle.pb_model.proofs.SettableLemmas.{fields_at, fields_of_lut, fields_of_srgate, fields_of_div, fields_of_counter, fields_of_clock, fields_of_pcomp, fields_of_pulse, fields_of_seq, fields_of_pcap, at_place, implied}
use Rattle.pb_names.specs.declared.TheConstants.{ITSELF}
use Rattle.pb_names.specs.declared.lut.TheConstants as lut
use Rattle.pb_names.specs.declared.srgate.TheConstants as srgate
use Rattle.pb_names.specs.declared.div.TheConstants as div
use Rattle.pb_logic.specs.Div as dividers
use Rattle.pb_names.specs.declared.counter.TheConstants as counter
use Rattle.pb_names.specs.declared.clock.TheConstants as clock
use Rattle.pb_names.specs.declared.pcomp.TheConstants as pcomp
use Rattle.pb_pcomp.specs.Pcomp as compares
use Rattle.pb_pulse.specs.Pulse as pulses
use Rattle.pb_seq.specs.Seq as sequencers
use Rattle.pb_seq.specs.declared.registers.SeqState.{SeqState}
use Rattle.pb_seq.specs.declared.registers.SeqState.TheVariants as seq_states
use Rattle.pb_fields.specs.declared.Slot.{Slot}
use Rattle.pb_fields.specs.declared.Role.TheVariants as roles
use Rattle.pb_fields.specs.Catalogue.{catalogue}
use Rattle.pb_fields.specs.Places.{type_of}
use Rattle.pb_fields.specs.Types.{field_kind, role_of}
use Rattle.pb_fields.specs.Labels.{label_list}
use Rattle.pb_fields.specs.Slots.{IsSlot, type_at, kind_of, role_at}
use Rattle.pb_fields.specs.Values.{IsRaw}
use Rattle.pb_model.specs.declared.units.Unit.{Unit as AnyUnit}
use Rattle.pb_model.specs.declared.units.Unit.TheVariants as units
use Rattle.pb_model.specs.Units.{place_of, IsRead, value_read}
use Rattle.pb_model.proofs.SettingLemmas.{read_at}

nothing_read_of_lut : (f : ℕ) → f < 7 → role_of (type_of lut.BLOCK f) ≡ roles.Read → ⊥
unfolding catalogue
nothing_read_of_lut zero small h = cc
nothing_read_of_lut (suc zero) small h = cc
nothing_read_of_lut (suc (suc zero)) small h = cc
nothing_read_of_lut (suc (suc (suc zero))) small h = cc
nothing_read_of_lut (suc (suc (suc (suc zero)))) small h = cc
nothing_read_of_lut (suc (suc (suc (suc (suc zero))))) small h = cc
nothing_read_of_lut (suc (suc (suc (suc (suc (suc zero)))))) small h = cc
nothing_read_of_lut (suc (suc (suc (suc (suc (suc (suc f))))))) small h = absurd (omega arith)

nothing_read_of_srgate : (f : ℕ) → f < 9 → role_of (type_of srgate.BLOCK f) ≡ roles.Read → ⊥
unfolding catalogue
nothing_read_of_srgate zero small h = cc
nothing_read_of_srgate (suc zero) small h = cc
nothing_read_of_srgate (suc (suc zero)) small h = cc
nothing_read_of_srgate (suc (suc (suc zero))) small h = cc
nothing_read_of_srgate (suc (suc (suc (suc zero)))) small h = cc
nothing_read_of_srgate (suc (suc (suc (suc (suc zero))))) small h = cc
nothing_read_of_srgate (suc (suc (suc (suc (suc (suc zero)))))) small h = cc
nothing_read_of_srgate (suc (suc (suc (suc (suc (suc (suc zero))))))) small h = cc
nothing_read_of_srgate (suc (suc (suc (suc (suc (suc (suc (suc zero)))))))) small h = cc
nothing_read_of_srgate (suc (suc (suc (suc (suc (suc (suc (suc (suc f))))))))) small h = absurd (omega arith)

nothing_read_of_counter : (f : ℕ) → f < 9 → role_of (type_of counter.BLOCK f) ≡ roles.Read → ⊥
unfolding catalogue
nothing_read_of_counter zero small h = cc
nothing_read_of_counter (suc zero) small h = cc
nothing_read_of_counter (suc (suc zero)) small h = cc
nothing_read_of_counter (suc (suc (suc zero))) small h = cc
nothing_read_of_counter (suc (suc (suc (suc zero)))) small h = cc
nothing_read_of_counter (suc (suc (suc (suc (suc zero))))) small h = cc
nothing_read_of_counter (suc (suc (suc (suc (suc (suc zero)))))) small h = cc
nothing_read_of_counter (suc (suc (suc (suc (suc (suc (suc zero))))))) small h = cc
nothing_read_of_counter (suc (suc (suc (suc (suc (suc (suc (suc zero)))))))) small h = cc
nothing_read_of_counter (suc (suc (suc (suc (suc (suc (suc (suc (suc f))))))))) small h = absurd (omega arith)

nothing_read_of_clock : (f : ℕ) → f < 4 → role_of (type_of clock.BLOCK f) ≡ roles.Read → ⊥
unfolding catalogue
nothing_read_of_clock zero small h = cc
nothing_read_of_clock (suc zero) small h = cc
nothing_read_of_clock (suc (suc zero)) small h = cc
nothing_read_of_clock (suc (suc (suc zero))) small h = cc
nothing_read_of_clock (suc (suc (suc (suc f)))) small h = absurd (omega arith)

nothing_read_of_pcap : (f : ℕ) → f < 13 → role_of (type_of pcap.BLOCK f) ≡ roles.Read → ⊥
unfolding catalogue
nothing_read_of_pcap zero small h = cc
nothing_read_of_pcap (suc zero) small h = cc
nothing_read_of_pcap (suc (suc zero)) small h = cc
nothing_read_of_pcap (suc (suc (suc zero))) small h = cc
nothing_read_of_pcap (suc (suc (suc (suc zero)))) small h = cc
nothing_read_of_pcap (suc (suc (suc (suc (suc zero))))) small h = cc
nothing_read_of_pcap (suc (suc (suc (suc (suc (suc zero)))))) small h = cc
nothing_read_of_pcap (suc (suc (suc (suc (suc (suc (suc zero))))))) small h = cc
nothing_read_of_pcap (suc (suc (suc (suc (suc (suc (suc (suc zero)))))))) small h = cc
nothing_read_of_pcap (suc (suc (suc (suc (suc (suc (suc (suc (suc zero))))))))) small h = cc
nothing_read_of_pcap (suc (suc (suc (suc (suc (suc (suc (suc (suc (suc zero)))))))))) small h = cc
nothing_read_of_pcap (suc (suc (suc (suc (suc (suc (suc (suc (suc (suc (suc zero))))))))))) small h = cc
nothing_read_of_pcap (suc (suc (suc (suc (suc (suc (suc (suc (suc (suc (suc (suc zero)))))))))))) small h = cc
nothing_read_of_pcap (suc (suc (suc (suc (suc (suc (suc (suc (suc (suc (suc (suc (suc f))))))))))))) small h = absurd (omega arith)

div_read : (f : ℕ) → f < 7 → role_of (type_of div.BLOCK f) ≡ roles.Read → f ≡ div.COUNT
unfolding catalogue
div_read zero small h = cc
div_read (suc zero) small h = cc
div_read (suc (suc zero)) small h = cc
div_read (suc (suc (suc zero))) small h = cc
div_read (suc (suc (suc (suc zero)))) small h = refl
div_read (suc (suc (suc (suc (suc zero))))) small h = cc
div_read (suc (suc (suc (suc (suc (suc zero)))))) small h = cc
div_read (suc (suc (suc (suc (suc (suc (suc f))))))) small h = absurd (omega arith)

is_reported : Role → Bool
is_reported roles.Read = true
is_reported _ = false

-- the fields that a kind reports stand one after the other, from one place to another
reported_from : ℕ → ℕ → ℕ → ℕ → Bool
reported_from b low high f = if is_reported (role_of (type_of b f)) then leb low f && leb f high else true

reported_between : (b low high n : ℕ) → map (reported_from b low high) (range_with_len 0 n) ≡ map (λ _. true) (range_with_len 0 n) →
    (f : ℕ) → f < n → role_of (type_of b f) ≡ roles.Read → (low ≤ f) × (f ≤ high)
unfolding reported_from is_reported
reported_between b low high n h f lt read =
    let t : (leb low f && leb f high) ≡ true =
    implied (is_reported (role_of (type_of b f))) (leb low f && leb f high) (at_place (reported_from b low high) n h f lt) (ap is_reported read) in
    (leb-true low f (and_left _ _ t), leb-true f high (and_right _ _ t))

pulse_reported : map (reported_from pulse.BLOCK pulse.QUEUED pulse.DROPPED) (range_with_len 0 10) ≡ map (λ _. true) (range_with_len 0 10)
unfolding reported_from is_reported catalogue
pulse_reported = refl

pulse_read : (f : ℕ) → f < 10 → role_of (type_of pulse.BLOCK f) ≡ roles.Read → pulses.IsRead f
pulse_read f small h =
    let within : (pulse.QUEUED ≤ f) × (f ≤ pulse.DROPPED) =
    reported_between pulse.BLOCK pulse.QUEUED pulse.DROPPED 10 pulse_reported f small h in
    first (f == pulse.QUEUED) refl within.0 within.1
  where
    first : (b : Bool) → (f == pulse.QUEUED) ≡ b → pulse.QUEUED ≤ f → f ≤ pulse.DROPPED → pulses.IsRead f
    first true e low high = inl (eqb-true f pulse.QUEUED e)
    first false e low high = inr (let other : f ≢ pulse.QUEUED = eqb-false f pulse.QUEUED e in omega (arith, other))

seq_reported : map (reported_from seq.BLOCK seq.STATE seq.TABLE_REPEAT) (range_with_len 0 21) ≡ map (λ _. true) (range_with_len 0 21)
unfolding reported_from is_reported catalogue
seq_reported = refl

seq_read : (f : ℕ) → f < 21 → role_of (type_of seq.BLOCK f) ≡ roles.Read → sequencers.IsRead f
seq_read f small h =
    let within : (seq.STATE ≤ f) × (f ≤ seq.TABLE_REPEAT) =
    reported_between seq.BLOCK seq.STATE seq.TABLE_REPEAT 21 seq_reported f small h in
    which (f == seq.STATE) (f == seq.TABLE_LINE) (f == seq.LINE_REPEAT) refl refl refl within.0 within.1
  where
    which : (a b c : Bool) → (f == seq.STATE) ≡ a → (f == seq.TABLE_LINE) ≡ b → (f == seq.LINE_REPEAT) ≡ c →
        seq.STATE ≤ f → f ≤ seq.TABLE_REPEAT → sequencers.IsRead f
    which true b c x y z low high = inl (eqb-true f seq.STATE x)
    which false true c x y z low high = inr (inl (eqb-true f seq.TABLE_LINE y))
    which false false true x y z low high = inr (inr (inl (eqb-true f seq.LINE_REPEAT z)))
    which false false false x y z low high =
        let no_state : f ≢ seq.STATE = eqb-false f seq.STATE x in
        let no_line : f ≢ seq.TABLE_LINE = eqb-false f seq.TABLE_LINE y in
        let no_repeat : f ≢ seq.LINE_REPEAT = eqb-false f seq.LINE_REPEAT z in
        inr (inr (inr (omega (arith, no_state, no_line, no_repeat))))

pcomp_reported : map (reported_from pcomp.BLOCK pcomp.STATE pcomp.PRODUCED) (range_with_len 0 13) ≡ map (λ _. true) (range_with_len 0 13)
unfolding reported_from is_reported catalogue
pcomp_reported = refl

pcomp_read : (f : ℕ) → f < 13 → role_of (type_of pcomp.BLOCK f) ≡ roles.Read → compares.IsRead f
pcomp_read f small h =
    let within : (pcomp.STATE ≤ f) × (f ≤ pcomp.PRODUCED) =
    reported_between pcomp.BLOCK pcomp.STATE pcomp.PRODUCED 13 pcomp_reported f small h in
    first (f == pcomp.STATE) refl within.0 within.1
  where
    first : (b : Bool) → (f == pcomp.STATE) ≡ b → pcomp.STATE ≤ f → f ≤ pcomp.PRODUCED → compares.IsRead f
    first true e low high = inl (eqb-true f pcomp.STATE e)
    first false e low high = inr (let other : f ≢ pcomp.STATE = eqb-false f pcomp.STATE e in omega (arith, other))

read_of_kind : (slot : Slot) (b : ℕ) → role_at slot ≡ roles.Read → b ≡ slot.block → role_of (type_of b slot.field) ≡ roles.Read
read_of_kind slot b h e = ap (λ (k : ℕ). role_of (type_of k slot.field)) e ∙ read_at slot h

pub readable : (unit : AnyUnit) (slot : Slot) → IsSlot slot → role_at slot ≡ roles.Read → place_of unit ≡ slot.block → IsRead unit slot.field
readable (units.Lut block) slot s h e = nothing_read_of_lut slot.field (subst (λ (k : ℕ). slot.field < k) fields_of_lut (fields_at slot lut.BLOCK s e)) (read_of_kind slot lut.BLOCK h e)
readable (units.Srgate block) slot s h e = nothing_read_of_srgate slot.field (subst (λ (k : ℕ). slot.field < k) fields_of_srgate (fields_at slot srgate.BLOCK s e)) (read_of_kind slot srgate.BLOCK h e)
readable (units.Div block) slot s h e = div_read slot.field (subst (λ (k : ℕ). slot.field < k) fields_of_div (fields_at slot div.BLOCK s e)) (read_of_kind slot div.BLOCK h e)
readable (units.Counter block) slot s h e = nothing_read_of_counter slot.field (subst (λ (k : ℕ). slot.field < k) fields_of_counter (fields_at slot counter.BLOCK s e)) (read_of_kind slot counter.BLOCK h e)
readable (units.Clock block) slot s h e = nothing_read_of_clock slot.field (subst (λ (k : ℕ). slot.field < k) fields_of_clock (fields_at slot clock.BLOCK s e)) (read_of_kind slot clock.BLOCK h e)
readable (units.Pulse block) slot s h e = pulse_read slot.field (subst (λ (k : ℕ). slot.field < k) fields_of_pulse (fields_at slot pulse.BLOCK s e)) (read_of_kind slot pulse.BLOCK h e)
readable (units.Seq block) slot s h e = seq_read slot.field (subst (λ (k : ℕ). slot.field < k) fields_of_seq (fields_at slot seq.BLOCK s e)) (read_of_kind slot seq.BLOCK h e)
readable (units.Pcomp block) slot s h e = pcomp_read slot.field (subst (λ (k : ℕ). slot.field < k) fields_of_pcomp (fields_at slot pcomp.BLOCK s e)) (read_of_kind slot pcomp.BLOCK h e)
readable (units.Pcap block) slot s h e = nothing_read_of_pcap slot.field (subst (λ (k : ℕ). slot.field < k) fields_of_pcap (fields_at slot pcap.BLOCK s e)) (read_of_kind slot pcap.BLOCK h e)

-- What is read is in the range of its field.

state_number : (state : PcompState) → compares.state_label state < 5
state_number states.WaitEnable = omega arith
state_number states.WaitDir = omega arith
state_number states.WaitPreStart = omega arith
state_number states.WaitRising = omega arith
state_number states.WaitFalling = omega arith

div_raw : (raw : ℕ) → raw < 2 ^ 32 → IsRaw (field_kind (type_of div.BLOCK div.COUNT)) raw
unfolding catalogue
div_raw raw small = omega arith

pcomp_raw : (block : compares.Compare) (f : ℕ) → compares.IsRead f → compares.value_read block f < 2 ^ 32 →
    IsRaw (field_kind (type_of pcomp.BLOCK f)) (compares.value_read block f)
unfolding catalogue label_list
pcomp_raw block f (inl e) small = rw e (state_number block.registers.state)
pcomp_raw block f (inr e) small = rw e (omega (arith, rw e at small))

pulse_raw : (block : pulses.Generator) (f : ℕ) → pulses.IsRead f → pulses.value_read block f < 2 ^ 32 →
    IsRaw (field_kind (type_of pulse.BLOCK f)) (pulses.value_read block f)
unfolding catalogue
pulse_raw block f (inl e) small = rw e (omega (arith, rw e at small))
pulse_raw block f (inr e) small = rw e (omega (arith, rw e at small))

seq_state_number : (state : SeqState) → sequencers.state_label state < 5
seq_state_number seq_states.Unready = omega arith
seq_state_number seq_states.WaitEnable = omega arith
seq_state_number seq_states.WaitTrigger = omega arith
seq_state_number seq_states.Phase1 = omega arith
seq_state_number seq_states.Phase2 = omega arith

seq_raw : (block : sequencers.Sequencer) (f : ℕ) → sequencers.IsRead f → sequencers.value_read block f < 2 ^ 32 →
    IsRaw (field_kind (type_of seq.BLOCK f)) (sequencers.value_read block f)
unfolding catalogue label_list
seq_raw block f (inl e) small = rw e (seq_state_number block.registers.state)
seq_raw block f (inr (inl e)) small = rw e (omega (arith, rw e at small))
seq_raw block f (inr (inr (inl e))) small = rw e (omega (arith, rw e at small))
seq_raw block f (inr (inr (inr e))) small = rw e (omega (arith, rw e at small))

-- what a unit reports is in the range of the field
in_range : (unit : AnyUnit) (f : ℕ) → IsRead unit f → value_read unit f < 2 ^ 32 →
    IsRaw (field_kind (type_of (place_of unit) f)) (value_read unit f)
in_range (units.Div block) f r small = rw r (div_raw (dividers.value_read block f) small)
in_range (units.Pcomp block) f r small = pcomp_raw block f r small
in_range (units.Pulse block) f r small = pulse_raw block f r small
in_range (units.Seq block) f r small = seq_raw block f r small
in_range (units.Pcap block) f r small = absurd r
in_range (units.Lut block) f r small = absurd r
in_range (units.Srgate block) f r small = absurd r
in_range (units.Counter block) f r small = absurd r
in_range (units.Clock block) f r small = absurd r

read_kind : (slot : Slot) → role_at slot ≡ roles.Read → kind_of slot ≡ field_kind (type_at slot)
read_kind slot h = by (slot.attr == ITSELF) refl h
  where
    by : (b : Bool) → (slot.attr == ITSELF) ≡ b → role_at slot ≡ roles.Read → kind_of slot ≡ field_kind (type_at slot)
    by true e g = rw e refl
    by false e g = let k : roles.Attr ≡ roles.Read = rw e at g in cc

pub read_in_range : (unit : AnyUnit) (slot : Slot) (raw : ℕ) → IsSlot slot → role_at slot ≡ roles.Read → place_of unit ≡ slot.block →
    raw ≡ value_read unit slot.field → raw < 2 ^ 32 → IsRaw (kind_of slot) raw
read_in_range unit slot raw s h e is small =
    let below : value_read unit slot.field < 2 ^ 32 = subst (λ n. n < 2 ^ 32) is small in
    let raw_there : IsRaw (field_kind (type_of (place_of unit) slot.field)) (value_read unit slot.field) =
    in_range unit slot.field (readable unit slot s h e) below in
    let there : IsRaw (field_kind (type_at slot)) (value_read unit slot.field) =
    subst (λ (b : ℕ). IsRaw (field_kind (type_of b slot.field)) (value_read unit slot.field)) e raw_there in
    subst (λ k. IsRaw k raw) (sym (read_kind slot h))
    (subst (λ n. IsRaw (field_kind (type_at slot)) n) (sym is) there)

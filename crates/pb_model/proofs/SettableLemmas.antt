-- What a change sets belongs to the unit.
use Rattle.std.proofs.Common.{◌≡◌, ◌≢◌, ℕ, zero, suc, ◌<◌, ◌≤◌, ◌==◌, inl, inr, ◌^◌, ◌⊎◌, ◌&&◌, leb, Bool, true, false, length, map, get_or, if◌then◌else◌, refl, sym, ap, subst, ◌∙◌, arith}
use Rattle.std.proofs.lemmas.Bool.{eqb-true, eqb-false, leb-true}
use Rattle.std.proofs.lemmas.List.FromFn.{get_or-map-range_with_len}
use Rattle.std.specs.List.{range_with_len}
use Rattle.pb_fields.proofs.RowLemmas.{and_left, and_right}
use Rattle.pb_names.specs.declared.TheConstants.{ITSELF}
use Rattle.pb_names.specs.declared.lut.TheConstants as lut
use Rattle.pb_logic.specs.Lut as luts
use Rattle.pb_names.specs.declared.srgate.TheConstants as srgate
use Rattle.pb_logic.specs.Srgate as gates
use Rattle.pb_names.specs.declared.div.TheConstants as div
use Rattle.pb_logic.specs.Div as dividers
use Rattle.pb_names.specs.declared.counter.TheConstants as counter
use Rattle.pb_logic.specs.Counter as counters
use Rattle.pb_names.specs.declared.clock.TheConstants as clock
use Rattle.pb_names.specs.declared.pcomp.TheConstants as pcomp
use Rattle.pb_pcomp.specs.Pcomp as compares
use Rattle.pb_names.specs.declared.pulse.TheConstants as pulse
use Rattle.pb_pulse.specs.Pulse as pulses
use Rattle.pb_names.specs.declared.seq.TheConstants as seq
use Rattle.pb_seq.specs.Seq as sequencers
use Rattle.pb_names.specs.declared.pcap.TheConstants as pcap
use Rattle.pb_pcap.specs.Pcap as captures
use Rattle.pb_logic.specs.Clock as clocks
use Rattle.pb_fields.specs.declared.Slot.{Slot}
use Rattle.pb_fields.specs.declared.FieldType.{FieldType}
use Rattle.pb_fields.specs.declared.FieldType.TheVariants as types
use Rattle.pb_fields.specs.Catalogue.{catalogue}
use Rattle.pb_fields.specs.Places.{fields_of, type_of}
use Rattle.pb_fields.specs.Types.{field_kind, role_of}
use Rattle.pb_fields.specs.Labels.{label_list}
use Rattle.pb_fields.specs.Slots.{IsSlot, type_at, kind_of}
use Rattle.pb_fields.specs.Values.{IsRaw}
use Rattle.pb_model.specs.declared.units.Unit.{Unit as AnyUnit}
use Rattle.pb_model.specs.declared.units.Unit.TheVariants as units
use Rattle.pb_model.specs.Changes.{is_taken_role, IsSet}
use Rattle.pb_model.specs.Units.{place_of, IsSettable}
use Rattle.pb_model.proofs.SettingLemmas.{field_taken}

-- the unit's own: a param, a time or a write field
pub is_own : FieldType → Bool
is_own types.BitMux = false
is_own types.PosMux = false
is_own t = is_taken_role (role_of t)

pub own_field : (t : FieldType) → is_taken_role (role_of t) ≡ true → t ≢ types.BitMux → t ≢ types.PosMux → is_own t ≡ true
unfolding is_own
own_field types.BitMux h a b = absurd (a refl)
own_field types.PosMux h a b = absurd (b refl)
own_field (types.ParamUint limit) h a b = h
own_field types.ParamInt h a b = h
own_field types.ParamBit h a b = h
own_field (types.ParamEnum labels) h a b = h
own_field types.ParamLut h a b = h
own_field types.ReadUint h a b = h
own_field (types.ReadEnum labels) h a b = h
own_field types.WriteAction h a b = h
own_field (types.Time limit) h a b = h
own_field types.BitOut h a b = h
own_field types.PosOut h a b = h
own_field types.ExtOut h a b = h
own_field types.BitWord h a b = h
own_field types.Table h a b = h

-- a test that holds of each of the first places
pub at_place : (test : ℕ → Bool) (n : ℕ) → map test (range_with_len 0 n) ≡ map (λ _. true) (range_with_len 0 n) → (f : ℕ) → f < n → test f ≡ true
at_place test n h f lt =
    sym (get_or-map-range_with_len test 0 n f f true lt (omega arith))
    ∙ (ap (λ l. get_or l f true) h
    ∙ get_or-map-range_with_len (λ _. true) 0 n f f true lt (omega arith))

pub implied : (b c : Bool) → (if b then c else true) ≡ true → b ≡ true → c ≡ true
implied true c h g = h
implied false c h g = cc

lut_settable : (block : luts.LutState) (f raw : ℕ) → f < 7 → is_own (type_of lut.BLOCK f) ≡ true → IsRaw (field_kind (type_of lut.BLOCK f)) raw →
    luts.IsSettable block f raw
unfolding catalogue is_own label_list
lut_settable block zero raw small own h = cc
lut_settable block (suc zero) raw small own h = cc
lut_settable block (suc (suc zero)) raw small own h = cc
lut_settable block (suc (suc (suc zero))) raw small own h = cc
lut_settable block (suc (suc (suc (suc zero)))) raw small own h = cc
lut_settable block (suc (suc (suc (suc (suc zero))))) raw small own h = (refl, h)
lut_settable block (suc (suc (suc (suc (suc (suc zero)))))) raw small own h = cc
lut_settable block (suc (suc (suc (suc (suc (suc (suc f))))))) raw small own h = absurd (omega arith)

srgate_settable : (block : gates.SrgateState) (f raw : ℕ) → f < 9 → is_own (type_of srgate.BLOCK f) ≡ true → IsRaw (field_kind (type_of srgate.BLOCK f)) raw →
    gates.IsSettable block f raw
unfolding catalogue is_own label_list
srgate_settable block zero raw small own h = cc
srgate_settable block (suc zero) raw small own h = cc
srgate_settable block (suc (suc zero)) raw small own h = cc
srgate_settable block (suc (suc (suc zero))) raw small own h = inl (inl refl, h)
srgate_settable block (suc (suc (suc (suc zero)))) raw small own h = inl (inr (inl refl), h)
srgate_settable block (suc (suc (suc (suc (suc zero))))) raw small own h = inl (inr (inr refl), h)
srgate_settable block (suc (suc (suc (suc (suc (suc zero)))))) raw small own h = inr (inl refl, h)
srgate_settable block (suc (suc (suc (suc (suc (suc (suc zero))))))) raw small own h = inr (inr refl, h)
srgate_settable block (suc (suc (suc (suc (suc (suc (suc (suc zero)))))))) raw small own h = cc
srgate_settable block (suc (suc (suc (suc (suc (suc (suc (suc (suc f))))))))) raw small own h = absurd (omega arith)

div_settable : (block : dividers.DivState) (f raw : ℕ) → f < 7 → is_own (type_of div.BLOCK f) ≡ true → IsRaw (field_kind (type_of div.BLOCK f)) raw →
    dividers.IsSettable block f raw
unfolding catalogue is_own label_list
div_settable block zero raw small own h = cc
div_settable block (suc zero) raw small own h = cc
div_settable block (suc (suc zero)) raw small own h = inl (refl, omega arith)
div_settable block (suc (suc (suc zero))) raw small own h = inr (refl, h)
div_settable block (suc (suc (suc (suc zero)))) raw small own h = cc
div_settable block (suc (suc (suc (suc (suc zero))))) raw small own h = cc
div_settable block (suc (suc (suc (suc (suc (suc zero)))))) raw small own h = cc
div_settable block (suc (suc (suc (suc (suc (suc (suc f))))))) raw small own h = absurd (omega arith)

counter_settable : (block : counters.CounterState) (f raw : ℕ) → f < 9 → is_own (type_of counter.BLOCK f) ≡ true → IsRaw (field_kind (type_of counter.BLOCK f)) raw →
    counters.IsSettable block f raw
unfolding catalogue is_own label_list
counter_settable block zero raw small own h = cc
counter_settable block (suc zero) raw small own h = cc
counter_settable block (suc (suc zero)) raw small own h = cc
counter_settable block (suc (suc (suc zero))) raw small own h = inl (inl refl, h.0, h.1)
counter_settable block (suc (suc (suc (suc zero)))) raw small own h = inr (refl, omega arith)
counter_settable block (suc (suc (suc (suc (suc zero))))) raw small own h = inl (inr (inl refl), h.0, h.1)
counter_settable block (suc (suc (suc (suc (suc (suc zero)))))) raw small own h = inl (inr (inr refl), h.0, h.1)
counter_settable block (suc (suc (suc (suc (suc (suc (suc zero))))))) raw small own h = cc
counter_settable block (suc (suc (suc (suc (suc (suc (suc (suc zero)))))))) raw small own h = cc
counter_settable block (suc (suc (suc (suc (suc (suc (suc (suc (suc f))))))))) raw small own h = absurd (omega arith)

clock_settable : (block : clocks.ClockState) (f raw : ℕ) → f < 4 → is_own (type_of clock.BLOCK f) ≡ true → IsRaw (field_kind (type_of clock.BLOCK f)) raw →
    clocks.IsSettable block f raw
unfolding catalogue is_own label_list
clock_settable block zero raw small own h = cc
clock_settable block (suc zero) raw small own h = (inl refl, omega arith)
clock_settable block (suc (suc zero)) raw small own h = (inr refl, omega arith)
clock_settable block (suc (suc (suc zero))) raw small own h = cc
clock_settable block (suc (suc (suc (suc f)))) raw small own h = absurd (omega arith)

pulse_settable : (block : pulses.Generator) (f raw : ℕ) → f < 10 → is_own (type_of pulse.BLOCK f) ≡ true → IsRaw (field_kind (type_of pulse.BLOCK f)) raw →
    pulses.IsSettable block f raw
unfolding catalogue is_own label_list
pulse_settable block zero raw small own h = cc
pulse_settable block (suc zero) raw small own h = cc
pulse_settable block (suc (suc zero)) raw small own h = inl (inl refl, omega arith)
pulse_settable block (suc (suc (suc zero))) raw small own h = inl (inr (inl refl), omega arith)
pulse_settable block (suc (suc (suc (suc zero)))) raw small own h = inr (inl (refl, omega arith))
pulse_settable block (suc (suc (suc (suc (suc zero))))) raw small own h = inl (inr (inr refl), omega arith)
pulse_settable block (suc (suc (suc (suc (suc (suc zero)))))) raw small own h = inr (inr (refl, h))
pulse_settable block (suc (suc (suc (suc (suc (suc (suc zero))))))) raw small own h = cc
pulse_settable block (suc (suc (suc (suc (suc (suc (suc (suc zero)))))))) raw small own h = cc
pulse_settable block (suc (suc (suc (suc (suc (suc (suc (suc (suc zero))))))))) raw small own h = cc
pulse_settable block (suc (suc (suc (suc (suc (suc (suc (suc (suc (suc f)))))))))) raw small own h = absurd (omega arith)

-- the own fields of SEQ stand one after the other
seq_own : ℕ → Bool
seq_own f = if is_own (type_of seq.BLOCK f) then leb seq.PRESCALE f && leb f seq.REPEATS else true

seq_owns : map seq_own (range_with_len 0 21) ≡ map (λ _. true) (range_with_len 0 21)
unfolding seq_own is_own catalogue
seq_owns = refl

seq_raw : (f raw : ℕ) → (f ≡ seq.PRESCALE) ⊎ (f ≡ seq.REPEATS) → IsRaw (field_kind (type_of seq.BLOCK f)) raw → raw < 2 ^ 32
unfolding catalogue
seq_raw f raw (inl e) h =
    let there : IsRaw (field_kind (type_of seq.BLOCK seq.PRESCALE)) raw =
    subst (λ (n : ℕ). IsRaw (field_kind (type_of seq.BLOCK n)) raw) e h in
    omega (arith, there)
seq_raw f raw (inr e) h =
    let there : IsRaw (field_kind (type_of seq.BLOCK seq.REPEATS)) raw =
    subst (λ (n : ℕ). IsRaw (field_kind (type_of seq.BLOCK n)) raw) e h in
    omega (arith, there)

seq_settable : (block : sequencers.Sequencer) (f raw : ℕ) → f < 21 → is_own (type_of seq.BLOCK f) ≡ true → IsRaw (field_kind (type_of seq.BLOCK f)) raw →
    sequencers.IsSettable block f raw
unfolding seq_own
seq_settable block f raw small own h =
    let t : (leb seq.PRESCALE f && leb f seq.REPEATS) ≡ true =
    implied (is_own (type_of seq.BLOCK f)) (leb seq.PRESCALE f && leb f seq.REPEATS) (at_place seq_own 21 seq_owns f small) own in
    let which : (f ≡ seq.PRESCALE) ⊎ (f ≡ seq.REPEATS) =
    first (f == seq.PRESCALE) refl (leb-true seq.PRESCALE f (and_left _ _ t)) (leb-true f seq.REPEATS (and_right _ _ t)) in
    (which, seq_raw f raw which h)
  where
    first : (b : Bool) → (f == seq.PRESCALE) ≡ b → seq.PRESCALE ≤ f → f ≤ seq.REPEATS → (f ≡ seq.PRESCALE) ⊎ (f ≡ seq.REPEATS)
    first true e low high = inl (eqb-true f seq.PRESCALE e)
    first false e low high = inr (let other : f ≢ seq.PRESCALE = eqb-false f seq.PRESCALE e in omega (arith, other))

pcomp_settable : (block : compares.Compare) (f raw : ℕ) → f < 13 → is_own (type_of pcomp.BLOCK f) ≡ true → IsRaw (field_kind (type_of pcomp.BLOCK f)) raw →
    compares.IsSettable block f raw
unfolding catalogue is_own label_list
pcomp_settable block zero raw small own h = cc
pcomp_settable block (suc zero) raw small own h = cc
pcomp_settable block (suc (suc zero)) raw small own h = inl (inl refl, omega arith)
pcomp_settable block (suc (suc (suc zero))) raw small own h = inr (inl (refl, h.0, h.1))
pcomp_settable block (suc (suc (suc (suc zero)))) raw small own h = inl (inr (inl refl), omega arith)
pcomp_settable block (suc (suc (suc (suc (suc zero))))) raw small own h = inl (inr (inr (inl refl)), omega arith)
pcomp_settable block (suc (suc (suc (suc (suc (suc zero)))))) raw small own h = inl (inr (inr (inr refl)), omega arith)
pcomp_settable block (suc (suc (suc (suc (suc (suc (suc zero))))))) raw small own h = inr (inr (inl (refl, h)))
pcomp_settable block (suc (suc (suc (suc (suc (suc (suc (suc zero)))))))) raw small own h = inr (inr (inr (refl, h)))
pcomp_settable block (suc (suc (suc (suc (suc (suc (suc (suc (suc zero))))))))) raw small own h = cc
pcomp_settable block (suc (suc (suc (suc (suc (suc (suc (suc (suc (suc zero)))))))))) raw small own h = cc
pcomp_settable block (suc (suc (suc (suc (suc (suc (suc (suc (suc (suc (suc zero))))))))))) raw small own h = cc
pcomp_settable block (suc (suc (suc (suc (suc (suc (suc (suc (suc (suc (suc (suc zero)))))))))))) raw small own h = cc
pcomp_settable block (suc (suc (suc (suc (suc (suc (suc (suc (suc (suc (suc (suc (suc f))))))))))))) raw small own h = absurd (omega arith)

pcap_settable : (block : captures.Capture) (f raw : ℕ) → f < 13 → is_own (type_of pcap.BLOCK f) ≡ true → IsRaw (field_kind (type_of pcap.BLOCK f)) raw →
    captures.IsSettable block f raw
unfolding catalogue is_own label_list
pcap_settable block zero raw small own h = cc
pcap_settable block (suc zero) raw small own h = cc
pcap_settable block (suc (suc zero)) raw small own h = cc
pcap_settable block (suc (suc (suc zero))) raw small own h = (refl, h)
pcap_settable block (suc (suc (suc (suc zero)))) raw small own h = cc
pcap_settable block (suc (suc (suc (suc (suc zero))))) raw small own h = cc
pcap_settable block (suc (suc (suc (suc (suc (suc zero)))))) raw small own h = cc
pcap_settable block (suc (suc (suc (suc (suc (suc (suc zero))))))) raw small own h = cc
pcap_settable block (suc (suc (suc (suc (suc (suc (suc (suc zero)))))))) raw small own h = cc
pcap_settable block (suc (suc (suc (suc (suc (suc (suc (suc (suc zero))))))))) raw small own h = cc
pcap_settable block (suc (suc (suc (suc (suc (suc (suc (suc (suc (suc zero)))))))))) raw small own h = cc
pcap_settable block (suc (suc (suc (suc (suc (suc (suc (suc (suc (suc (suc zero))))))))))) raw small own h = cc
pcap_settable block (suc (suc (suc (suc (suc (suc (suc (suc (suc (suc (suc (suc zero)))))))))))) raw small own h = cc
pcap_settable block (suc (suc (suc (suc (suc (suc (suc (suc (suc (suc (suc (suc (suc f))))))))))))) raw small own h = absurd (omega arith)

pub fields_at : (slot : Slot) (b : ℕ) → IsSlot slot → b ≡ slot.block → slot.field < length (fields_of b)
fields_at slot b s e = subst (λ (k : ℕ). slot.field < length (fields_of k)) (sym e) s.in_fields

own_at : (slot : Slot) (b : ℕ) → b ≡ slot.block → is_own (type_at slot) ≡ true → is_own (type_of b slot.field) ≡ true
own_at slot b e h = ap (λ (k : ℕ). is_own (type_of k slot.field)) e ∙ h

raw_at : (slot : Slot) (raw b : ℕ) → IsSet slot raw → slot.attr ≡ ITSELF → b ≡ slot.block → IsRaw (field_kind (type_of b slot.field)) raw
raw_at slot raw b s a e =
    let is : kind_of slot ≡ field_kind (type_of b slot.field) = rw (a, e) refl in
    subst (λ k. IsRaw k raw) is s.in_range

pub fields_of_lut : length (fields_of lut.BLOCK) ≡ 7
unfolding catalogue
fields_of_lut = refl

pub fields_of_srgate : length (fields_of srgate.BLOCK) ≡ 9
unfolding catalogue
fields_of_srgate = refl

pub fields_of_div : length (fields_of div.BLOCK) ≡ 7
unfolding catalogue
fields_of_div = refl

pub fields_of_counter : length (fields_of counter.BLOCK) ≡ 9
unfolding catalogue
fields_of_counter = refl

pub fields_of_clock : length (fields_of clock.BLOCK) ≡ 4
unfolding catalogue
fields_of_clock = refl

pub fields_of_pulse : length (fields_of pulse.BLOCK) ≡ 10
unfolding catalogue
fields_of_pulse = refl

pub fields_of_seq : length (fields_of seq.BLOCK) ≡ 21
unfolding catalogue
fields_of_seq = refl

pub fields_of_pcomp : length (fields_of pcomp.BLOCK) ≡ 13
unfolding catalogue
fields_of_pcomp = refl

pub fields_of_pcap : length (fields_of pcap.BLOCK) ≡ 13
unfolding catalogue
fields_of_pcap = refl

-- what is set belongs to the unit
pub settable : (unit : AnyUnit) (slot : Slot) (raw : ℕ) → IsSet slot raw → slot.attr ≡ ITSELF → place_of unit ≡ slot.block →
    type_at slot ≢ types.BitMux → type_at slot ≢ types.PosMux → IsSettable unit slot.field raw
settable (units.Lut block) slot raw s a e b p =
    lut_settable block slot.field raw (subst (λ (k : ℕ). slot.field < k) fields_of_lut (fields_at slot lut.BLOCK s.in_catalogue e))
    (own_at slot lut.BLOCK e (own_field (type_at slot) (field_taken slot raw s) b p)) (raw_at slot raw lut.BLOCK s a e)
settable (units.Srgate block) slot raw s a e b p =
    srgate_settable block slot.field raw (subst (λ (k : ℕ). slot.field < k) fields_of_srgate (fields_at slot srgate.BLOCK s.in_catalogue e))
    (own_at slot srgate.BLOCK e (own_field (type_at slot) (field_taken slot raw s) b p)) (raw_at slot raw srgate.BLOCK s a e)
settable (units.Div block) slot raw s a e b p =
    div_settable block slot.field raw (subst (λ (k : ℕ). slot.field < k) fields_of_div (fields_at slot div.BLOCK s.in_catalogue e))
    (own_at slot div.BLOCK e (own_field (type_at slot) (field_taken slot raw s) b p)) (raw_at slot raw div.BLOCK s a e)
settable (units.Counter block) slot raw s a e b p =
    counter_settable block slot.field raw (subst (λ (k : ℕ). slot.field < k) fields_of_counter (fields_at slot counter.BLOCK s.in_catalogue e))
    (own_at slot counter.BLOCK e (own_field (type_at slot) (field_taken slot raw s) b p)) (raw_at slot raw counter.BLOCK s a e)
settable (units.Clock block) slot raw s a e b p =
    clock_settable block slot.field raw (subst (λ (k : ℕ). slot.field < k) fields_of_clock (fields_at slot clock.BLOCK s.in_catalogue e))
    (own_at slot clock.BLOCK e (own_field (type_at slot) (field_taken slot raw s) b p)) (raw_at slot raw clock.BLOCK s a e)
settable (units.Pulse block) slot raw s a e b p =
    pulse_settable block slot.field raw (subst (λ (k : ℕ). slot.field < k) fields_of_pulse (fields_at slot pulse.BLOCK s.in_catalogue e))
    (own_at slot pulse.BLOCK e (own_field (type_at slot) (field_taken slot raw s) b p)) (raw_at slot raw pulse.BLOCK s a e)
settable (units.Seq block) slot raw s a e b p =
    seq_settable block slot.field raw (subst (λ (k : ℕ). slot.field < k) fields_of_seq (fields_at slot seq.BLOCK s.in_catalogue e))
    (own_at slot seq.BLOCK e (own_field (type_at slot) (field_taken slot raw s) b p)) (raw_at slot raw seq.BLOCK s a e)
settable (units.Pcomp block) slot raw s a e b p =
    pcomp_settable block slot.field raw (subst (λ (k : ℕ). slot.field < k) fields_of_pcomp (fields_at slot pcomp.BLOCK s.in_catalogue e))
    (own_at slot pcomp.BLOCK e (own_field (type_at slot) (field_taken slot raw s) b p)) (raw_at slot raw pcomp.BLOCK s a e)
settable (units.Pcap block) slot raw s a e b p =
    pcap_settable block slot.field raw (subst (λ (k : ℕ). slot.field < k) fields_of_pcap (fields_at slot pcap.BLOCK s.in_catalogue e))
    (own_at slot pcap.BLOCK e (own_field (type_at slot) (field_taken slot raw s) b p)) (raw_at slot raw pcap.BLOCK s a e)

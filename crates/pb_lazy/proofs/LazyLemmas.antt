-- Lazy blocks: what they stand for as time goes on.
use Rattle.std.proofs.Common.{◌≡◌, ℕ, zero, suc, ◌+◌, ◌-◌, ◌<◌, ◌≤◌, ◌==◌, Bool, false, List, [], ◌∷◌, ℤ, pos, map, take, replicate, get_or, refl, sym, ap, subst, ◌∙◌, arith, if◌then◌else◌}
use Rattle.pb_names.specs.declared.pcap.TheConstants as pcap
use Rattle.pb_names.specs.declared.position_bus.TheConstants as position_bus
use Rattle.pb_buses.specs.declared.Bus.{Bus}
use Rattle.pb_buses.specs.declared.Inputs.{Inputs}
use Rattle.pb_buses.specs.Rules.{Rules, after, IsCalm, AreCalm}
use Rattle.pb_buses.specs.Buses.{selected, position, words}
use Rattle.pb_buses.specs.Delay.{BitInput, seen, shifted, latest, pushed}
use Rattle.pb_buses.proofs.RuleLemmas.{after-two}
use Rattle.pb_buses.proofs.LineLemmas.{pushed-twice}
use Rattle.pb_buses.proofs.NextChangeLemmas.{latest_is}
use Rattle.pb_model.specs.declared.units.Unit.{Unit as AnyUnit}
use Rattle.pb_model.specs.Units.{rules}
use Rattle.pb_model.specs.Tick.{kind_of, seen_on, inputs_of}
use Rattle.pb_still.specs.Coasting.{input_later, coasted_block, IsQuietFor}
use Rattle.pb_still.proofs.StillLemmas.{place_after, map-two}
use Rattle.pb_lazy.specs.declared.lazies.Lazy.{Lazy}
use Rattle.pb_lazy.specs.Lazy.{lately, lately_seen, unit_at, caught_up, IsDue, IsSound, IsUnmoved}

-- Calm steps in two parts.

module _ {B : Type 0} (rules : Rules B) (inputs : Inputs) where
  pub calm_rest : (m n t : ℕ) (b : B) → AreCalm rules inputs t (m + n) b → AreCalm rules inputs (t + m) n (after rules inputs t m b)
  calm_rest m n t b calm k below =
      let e : t + (m + k) ≡ t + m + k = omega arith in
      subst (λ (x : B). IsCalm rules inputs (t + m + k) x) (after-two rules inputs m k t b)
      (subst (λ (s : ℕ). IsCalm rules inputs s (after rules inputs t (m + k) b)) e (calm (m + k) (omega arith)))

  pub calm_front : (m n t : ℕ) (b : B) → m ≤ n → AreCalm rules inputs t n b → AreCalm rules inputs t m b
  calm_front m n t b h calm k below = calm k (omega arith)

-- The unit later on.

pub unit_later : (tick n : ℕ) (lazy : Lazy) → lazy.own ≤ tick → unit_at (tick + n) lazy ≡ after rules lazy.kept tick n (unit_at tick lazy)
unit_later tick n lazy h =
    let e : tick + n - lazy.own ≡ (tick - lazy.own) + n = omega arith in
    let f : lazy.own + (tick - lazy.own) ≡ tick = omega arith in
    ap (λ (k : ℕ). after rules lazy.kept lazy.own k lazy.block.unit) e
    ∙ (after-two rules lazy.kept (tick - lazy.own) n lazy.own lazy.block.unit
    ∙ ap (λ (t : ℕ). after rules lazy.kept t n (unit_at tick lazy)) f)

-- from the tick of a block's own up to a deadline the steps are calm, so they are from any tick between
pub calm_from : (tick n : ℕ) (lazy : Lazy) → lazy.own ≤ tick → IsDue tick lazy → tick + n ≤ lazy.due →
    AreCalm rules lazy.kept tick n (unit_at tick lazy)
calm_from tick n lazy own due within =
    let e : lazy.due - lazy.own ≡ (tick - lazy.own) + (lazy.due - tick) = omega (arith, due.from_now) in
    let f : lazy.own + (tick - lazy.own) ≡ tick = omega arith in
    let all : AreCalm rules lazy.kept lazy.own ((tick - lazy.own) + (lazy.due - tick)) lazy.block.unit =
    subst (λ (k : ℕ). AreCalm rules lazy.kept lazy.own k lazy.block.unit) e due.calm in
    let here : AreCalm rules lazy.kept tick (lazy.due - tick) (unit_at tick lazy) =
    subst (λ (t : ℕ). AreCalm rules lazy.kept t (lazy.due - tick) (unit_at tick lazy)) f
    (calm_rest rules lazy.kept (tick - lazy.own) (lazy.due - tick) lazy.own lazy.block.unit all) in
    calm_front rules lazy.kept n (lazy.due - tick) tick (unit_at tick lazy) (omega arith) here

pub calm_up_to : (tick later : ℕ) (lazy : Lazy) → lazy.own ≤ tick → tick ≤ later → IsDue tick lazy → later ≤ lazy.due →
    AreCalm rules lazy.kept lazy.own (later - lazy.own) lazy.block.unit
calm_up_to tick later lazy own from due within =
    calm_front rules lazy.kept (later - lazy.own) (lazy.due - lazy.own) lazy.own lazy.block.unit (omega arith) due.calm

-- The bit inputs later on.

front_of : (line : List Bool) → get_or (take 31 line) 0 false ≡ get_or line 0 false
front_of [] = refl
front_of (x ∷ line) = refl

latest_stays : (n : ℕ) (input : BitInput) → latest (lately n input) ≡ latest input
unfolding pushed
latest_stays zero input = front_of input.line
latest_stays (suc n) input = latest_is input (latest input) (suc n) (omega arith)

pub lately_twice : (m n : ℕ) (input : BitInput) → lately n (lately m input) ≡ lately (m + n) input
lately_twice m n input =
    let e : n + m ≡ m + n = omega arith in
    ap (λ (v : Bool). shifted (lately m input) v n) (latest_stays m input)
    ∙ ap (λ (l : List Bool). record { select = input.select; delay = input.delay; line = l })
    (pushed-twice input.line (latest input) m n ∙ ap (pushed input.line (latest input)) e)

-- a fact of every element, by two maps that agree
pub map_by : {X Y Z : Type 0} (f g : X → Y) (h : X → Y → Z) (xs : List X) → map f xs ≡ map g xs →
    map (λ x. h x (f x)) xs ≡ map (λ x. h x (g x)) xs
map_by f g h [] e = refl
map_by f g h (x ∷ xs) e =
    let first : f x ≡ g x = cc in
    let rest : map f xs ≡ map g xs = cc in
    ap (λ y. h x y ∷ map (λ z. h z (f z)) xs) first ∙ ap (λ l. h x (g x) ∷ l) (map_by f g h xs rest)

-- What is seen.

-- what a block of a kind sees, with these bits and positions
abbrev pub sight : Bus → ℕ → List Bool → List ℤ → Inputs
sight bus kind bits positions =
    record {
      bits = bits;
      positions = positions;
      words = if kind == pcap.BLOCK then words bus else replicate 4 0;
      bus = if kind == pcap.BLOCK then bus.positions else replicate position_bus.WIDTH (pos 0);
    }

pub kind_stays : (tick : ℕ) (lazy : Lazy) → kind_of (caught_up tick lazy) ≡ kind_of lazy.block
kind_stays tick lazy = place_after (tick - lazy.own) lazy.kept lazy.own lazy.block.unit

-- the bit inputs of an unmoved block, so many ticks after their own tick
pub seen_later : (bus : Bus) (n : ℕ) (lazy : Lazy) → IsUnmoved bus lazy →
    map (seen_on bus) (map (lately n) lazy.block.bits) ≡ map (lately_seen n) lazy.block.bits
seen_later bus n lazy h =
    map-two (seen_on bus) (lately n) (λ (input : BitInput). seen (lately n input) (selected bus input.select)) (λ input. refl) lazy.block.bits
    ∙ map_by (λ (input : BitInput). selected bus input.select) latest (λ (input : BitInput) (v : Bool). seen (lately n input) v) lazy.block.bits h.bits

pub inputs_later : (bus : Bus) (m n : ℕ) (lazy : Lazy) → IsUnmoved bus lazy →
    map (input_later bus n) (map (lately m) lazy.block.bits) ≡ map (lately (m + n)) lazy.block.bits
inputs_later bus m n lazy h =
    map-two (input_later bus n) (lately m) (λ (input : BitInput). shifted (lately m input) (selected bus input.select) n) (λ input. refl) lazy.block.bits
    ∙ (map_by (λ (input : BitInput). selected bus input.select) latest (λ (input : BitInput) (v : Bool). shifted (lately m input) v n) lazy.block.bits h.bits
    ∙ map_same (λ (input : BitInput). shifted (lately m input) (latest input) n) (lately (m + n)) (λ input.
    ap (λ (v : Bool). shifted (lately m input) v n) (sym (latest_stays m input)) ∙ lately_twice m n input) lazy.block.bits)
  where
    map_same : {X Y : Type 0} (f g : X → Y) → ((x : X) → f x ≡ g x) → (xs : List X) → map f xs ≡ map g xs
    map_same f g e [] = refl
    map_same f g e (x ∷ xs) = ap (λ y. y ∷ map f xs) (e x) ∙ ap (λ l. g x ∷ l) (map_same f g e xs)

-- an unmoved block sees what it saw
pub sees_kept : (bus : Bus) (tick : ℕ) (first : Bool) (lazy : Lazy) → IsUnmoved bus lazy → IsSound tick first lazy → tick < lazy.turn →
    inputs_of bus (caught_up tick lazy) ≡ lazy.kept
sees_kept bus tick first lazy h sound below =
    let e : lazy.at + (tick - lazy.at) ≡ tick = omega (arith, sound.at) in
    let inside : lazy.at + (tick - lazy.at) < lazy.turn = omega (arith, sound.at) in
    let bits : map (seen_on bus) (map (lately (tick - lazy.at)) lazy.block.bits) ≡ lazy.kept.bits =
    seen_later bus (tick - lazy.at) lazy h ∙ sound.steady (tick - lazy.at) inside in
    ap (λ (l : List Bool). sight bus (kind_of (caught_up tick lazy)) l (map (position bus) lazy.block.positions)) bits
    ∙ (ap (λ (kind : ℕ). sight bus kind lazy.kept.bits (map (position bus) lazy.block.positions)) (kind_stays tick lazy)
    ∙ ap (λ (i : Inputs). record { bits = lazy.kept.bits; positions = i.positions; words = i.words; bus = i.bus }) h.others)

-- Many ticks of an unmoved block.

module _ (bus : Bus) (tick n : ℕ) (lazy : Lazy) (h : IsUnmoved bus lazy) (sound : IsSound tick false lazy) (known : lazy.outdated ≡ false)
    (due : tick + n ≤ lazy.due) (turn : tick + n ≤ lazy.turn) (some : tick < lazy.turn) where
  pub quiet_for : IsQuietFor bus tick n (caught_up tick lazy)
  quiet_for =
      let m : ℕ = tick - lazy.at in
      let same : inputs_of bus (caught_up tick lazy) ≡ lazy.kept = sees_kept bus tick false lazy h sound some in
      record {
        calm =
            subst (λ (i : Inputs). AreCalm rules i tick n (unit_at tick lazy)) (sym same)
            (calm_from tick n lazy sound.own (sound.deadline refl known) due);
        steady = λ k below.
            let inside : lazy.at + (m + k) < lazy.turn = omega (arith, sound.at) in
            sym (map-two (seen_on bus) (input_later bus k) (λ (input : BitInput). seen_on bus (input_later bus k input)) (λ input. refl) (map (lately m) lazy.block.bits))
            ∙ (ap (map (seen_on bus)) (inputs_later bus m k lazy h)
            ∙ (seen_later bus (m + k) lazy h
            ∙ (sound.steady (m + k) inside
            ∙ sym (ap (λ (i : Inputs). i.bits) same))));
      }

  pub coasts_on : caught_up (tick + n) lazy ≡ coasted_block bus tick n (caught_up tick lazy)
  coasts_on =
      let same : inputs_of bus (caught_up tick lazy) ≡ lazy.kept = sees_kept bus tick false lazy h sound some in
      let e : tick + n - lazy.at ≡ (tick - lazy.at) + n = omega (arith, sound.at) in
      let bits : map (lately (tick + n - lazy.at)) lazy.block.bits ≡ map (input_later bus n) (map (lately (tick - lazy.at)) lazy.block.bits) =
      ap (λ (k : ℕ). map (lately k) lazy.block.bits) e ∙ sym (inputs_later bus (tick - lazy.at) n lazy h) in
      ap (λ (u : AnyUnit). record { unit = u; bits = map (lately (tick + n - lazy.at)) lazy.block.bits; positions = lazy.block.positions })
      (unit_later tick n lazy sound.own ∙ ap (λ (i : Inputs). after rules i tick n (unit_at tick lazy)) (sym same))
      ∙ ap (λ (l : List BitInput). record {
        unit = after rules (inputs_of bus (caught_up tick lazy)) tick n (unit_at tick lazy);
        bits = l;
        positions = lazy.block.positions;
      }) bits

  pub stays_sound : IsSound (tick + n) false lazy
  stays_sound =
      let known_due : IsDue tick lazy = sound.deadline refl known in
      record {
        own = omega (arith, sound.own);
        at = omega (arith, sound.at);
        calm = calm_up_to tick (tick + n) lazy sound.own (omega arith) known_due due;
        steady = sound.steady;
        narrow = sound.narrow;
        loose = sound.loose;
        deadline = λ a b. record { from_now = due; within = known_due.within; calm = known_due.calm; ends = known_due.ends };
      }

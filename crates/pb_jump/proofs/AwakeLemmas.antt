-- Blocks with read fields: which they are, and that all of them are brought to the tick.
use Rattle.std.proofs.Common.{◌≡◌, ℕ, ◌+◌, ◌-◌, ◌<◌, ◌≤◌, ◌==◌, ◌||◌, ◌⊎◌, inl, inr, Bool, true, false, leb, map, length, get_or, refl, sym, ap, subst, ◌∙◌, arith, Some, if◌then◌else◌}
use Rattle.std.proofs.lemmas.Bool.{eqb-true, leb-true, leb-false}
use Rattle.pb_names.specs.declared.div.TheConstants as div
use Rattle.pb_names.specs.declared.pulse.TheConstants as pulse
use Rattle.pb_names.specs.declared.seq.TheConstants as seq
use Rattle.pb_names.specs.declared.pcomp.TheConstants as pcomp
use Rattle.pb_fields.specs.Catalogue.{catalogue}
use Rattle.pb_fields.specs.Places.{count_of, type_of}
use Rattle.pb_fields.specs.Slots.{IsSlot, role_at, type_at}
use Rattle.pb_fields.specs.Types.{role_of}
use Rattle.pb_fields.specs.declared.Role.{Role}
use Rattle.pb_fields.specs.declared.Role.TheVariants as roles
use Rattle.pb_fields.specs.declared.Slot.{Slot}
use Rattle.pb_fields.proofs.RunLemmas.{of_fields}
use Rattle.pb_buses.specs.Rules.{after}
use Rattle.pb_model.specs.Units.{rules}
use Rattle.pb_model.specs.Machines.{Name, name, machines, place_in}
use Rattle.pb_model.specs.Settings.{block_of_slot}
use Rattle.pb_model.proofs.SettingLemmas.{always, holds_by, implied, read_at}
use Rattle.pb_lazy.specs.declared.Lazy.{Lazy}
use Rattle.pb_lazy.specs.Lazy.{saw, unit_at, opening_lazy}
use Rattle.pb_going.specs.Sims.{Going, IsGoing}
use Rattle.pb_jump.specs.Changing.{own_of, IsBrought, AreAwake}
use Rattle.pb_jump.proofs.GoingLemmas.{many_lazies, own_there}

-- Blocks brought one after the other.

pub brought_none : (g : Going) → IsBrought g g
brought_none g =
    record {
      now = refl;
      rows = refl;
      first = refl;
      stood = refl;
      before = refl;
      known = refl;
      stays = λ other h. h;
    }

pub brought_twice : (a b c : Going) → IsBrought a b → IsBrought b c → IsBrought a c
brought_twice a b c one two =
    record {
      now = two.now ∙ one.now;
      rows = two.rows ∙ one.rows;
      first = two.first ∙ one.first;
      stood = two.stood ∙ one.stood;
      before =
          subst (λ (f : Bool). map (saw f) c.lazies ≡ map (saw f) b.lazies) one.first two.before
          ∙ one.before;
      known = two.known ∙ one.known;
      stays = λ other h. two.stays other (one.stays other h);
    }

-- all blocks of this kind stand at the tick
abbrev pub OfKind : ℕ → Going → Type 0
OfKind kind g = (number : ℕ) → 1 ≤ number → number ≤ count_of kind → own_of g (name kind number) ≡ g.tick

pub kind_stays_awake : (kind : ℕ) (a b : Going) → IsBrought a b → OfKind kind a → OfKind kind b
kind_stays_awake kind a b one h number from to = one.stays (name kind number) (h number from to)

-- one block more of a kind
pub one_more : (kind before : ℕ) (a b : Going) → IsBrought a b → ((number : ℕ) → 1 ≤ number → number ≤ before → own_of a (name kind number) ≡ a.tick) →
    own_of b (name kind (before + 1)) ≡ b.tick → (number : ℕ) → 1 ≤ number → number ≤ before + 1 → own_of b (name kind number) ≡ b.tick
one_more kind before a b one h e number from to = by (leb number before) refl
  where
    by : (t : Bool) → leb number before ≡ t → own_of b (name kind number) ≡ b.tick
    by true k = one.stays (name kind number) (h number from (leb-true number before k))
    by false k =
        let above : before < number = leb-false number before k in
        let same : before + 1 ≡ number = omega (arith, above, to) in
        subst (λ (n : ℕ). own_of b (name kind n) ≡ b.tick) same e

-- Which have read fields.

is_read : Role → Bool
is_read roles.Read = true
is_read _ = false

abbrev has_read : ℕ → Bool
has_read b = b == div.BLOCK || (b == pulse.BLOCK || (b == seq.BLOCK || b == pcomp.BLOCK))

tested : ℕ → ℕ → ℕ → Bool
tested b i f = if is_read (role_of (type_of b f)) then has_read b else true

tested-rows : of_fields (λ b i f. Some (tested b i f)) ≡ of_fields always
unfolding tested always is_read catalogue
tested-rows = refl

tested-all : (slot : Slot) → IsSlot slot → (if is_read (role_of (type_at slot)) then has_read slot.block else true) ≡ true
unfolding tested
tested-all slot s = holds_by tested tested-rows slot s

read_kind : (slot : Slot) → IsSlot slot → role_at slot ≡ roles.Read → has_read slot.block ≡ true
unfolding is_read
read_kind slot s h =
    implied (is_read (role_of (type_at slot))) _ (tested-all slot s) (ap is_read (read_at slot h))

either : (a b : Bool) → (a || b) ≡ true → (a ≡ true) ⊎ (b ≡ true)
either true b h = inl refl
either false b h = inr h

pub all_awake : (g : Going) → OfKind div.BLOCK g → OfKind pulse.BLOCK g → OfKind seq.BLOCK g → OfKind pcomp.BLOCK g → AreAwake g
all_awake g d p s c =
    record { own = λ slot is read. by slot is (either (slot.block == div.BLOCK) _ (read_kind slot is read)) }
  where
    here : (slot : Slot) (kind : ℕ) → IsSlot slot → OfKind kind g → (slot.block == kind) ≡ true → own_of g (block_of_slot slot) ≡ g.tick
    here slot kind is h e =
        let same : slot.block ≡ kind = eqb-true slot.block kind e in
        subst (λ (k : ℕ). slot.instance ≤ count_of k → own_of g (name k slot.instance) ≡ g.tick) (sym same) (h slot.instance is.from_one) is.in_count

    last : (slot : Slot) → IsSlot slot → ((slot.block == seq.BLOCK) ≡ true) ⊎ ((slot.block == pcomp.BLOCK) ≡ true) →
        own_of g (block_of_slot slot) ≡ g.tick
    last slot is (inl e) = here slot seq.BLOCK is s e
    last slot is (inr e) = here slot pcomp.BLOCK is c e

    next : (slot : Slot) → IsSlot slot → ((slot.block == pulse.BLOCK) ≡ true) ⊎ ((slot.block == seq.BLOCK || slot.block == pcomp.BLOCK) ≡ true) →
        own_of g (block_of_slot slot) ≡ g.tick
    next slot is (inl e) = here slot pulse.BLOCK is p e
    next slot is (inr e) = last slot is (either (slot.block == seq.BLOCK) _ e)

    by : (slot : Slot) → IsSlot slot →
        ((slot.block == div.BLOCK) ≡ true) ⊎ ((slot.block == pulse.BLOCK || (slot.block == seq.BLOCK || slot.block == pcomp.BLOCK)) ≡ true) →
        own_of g (block_of_slot slot) ≡ g.tick
    by slot is (inl e) = here slot div.BLOCK is d e
    by slot is (inr e) = next slot is (either (slot.block == pulse.BLOCK) _ e)

-- all kinds that have them, one after the other
pub woken : (a b c d e : Going) → IsBrought a b → IsBrought b c → IsBrought c d → IsBrought d e → OfKind div.BLOCK b → OfKind pulse.BLOCK c →
    OfKind seq.BLOCK d → OfKind pcomp.BLOCK e → IsBrought a e × AreAwake e
woken a b c d e ab bc cd de divs pulses seqs pcomps =
    let ce : IsBrought c e = brought_twice c d e cd de in
    let be : IsBrought b e = brought_twice b c e bc ce in (
      brought_twice a b e ab be,
      all_awake e (kind_stays_awake div.BLOCK b e be divs) (kind_stays_awake pulse.BLOCK c e ce pulses) (kind_stays_awake seq.BLOCK d e de seqs) pcomps,
    )

-- How many they are.

pub twelve : count_of div.BLOCK + count_of pulse.BLOCK + count_of seq.BLOCK + count_of pcomp.BLOCK ≡ 12
unfolding catalogue
twelve = refl

-- A block that stands at the tick is as it is.
pub stands : (g : Going) (place : ℕ) (lazy : Lazy) (of : Name) → IsGoing g → place < length g.lazies → place ≡ place_in machines of →
    lazy ≡ get_or g.lazies place lazy → own_of g of ≡ g.tick → lazy.block.unit ≡ unit_at g.tick lazy
stands g place lazy of is inside named here own =
    let many : length g.lazies ≡ 35 = many_lazies g.tick g.lazies is.whole.kinds in
    let at : lazy.own ≡ g.tick = ap (λ (l : Lazy). l.own) here ∙ (sym (own_there g.lazies place lazy inside of (opening_lazy of.kind) many named) ∙ own) in
    let none : 0 ≡ g.tick - lazy.own = omega (arith, at) in
    ap (λ (n : ℕ). after rules lazy.kept lazy.own n lazy.block.unit) none

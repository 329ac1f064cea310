-- The box as it opens, with lazy blocks.
use Rattle.std.proofs.Common.{◌≡◌, ℕ, suc, ◌+◌, ◌-◌, ◌<◌, ◌≤◌, Bool, true, false, List, [], ◌∷◌, ◌++◌, ℤ, map, replicate, inr, refl, sym, ap, subst, ◌∙◌, arith, append_assoc, cond, None}
use Rattle.std.specs.Prelude.{count_by}
use Rattle.std.specs.List.{AllByRecursion, flat_map, range_with_len}
use Rattle.std.proofs.lemmas.List.{append-nil}
use Rattle.std.proofs.lemmas.List.Sums.{sum_by-cons}
use Rattle.pb_fields.specs.Catalogue.{catalogue}
use Rattle.pb_fields.specs.Places.{count_of}
use Rattle.pb_stim.specs.declared.Row.{Row}
use Rattle.pb_buses.specs.declared.Buses.{Buses}
use Rattle.pb_buses.specs.Buses.{opening_buses}
use Rattle.pb_buses.specs.Delay.{BitInput, wired, opening_input, pushed, line_after}
use Rattle.pb_model.specs.declared.Block.{Block}
use Rattle.pb_model.specs.Units.{opening_unit}
use Rattle.pb_model.specs.Machines.{machines, machine_kinds}
use Rattle.pb_model.specs.Tick.{opening_block, opening_selections, opening_box}
use Rattle.pb_model.specs.Kept.{Kept, IsWhole, with_buses}
use Rattle.pb_model.specs.Kept as model
use Rattle.pb_model.specs.Arming.{is_capture_idle}
use Rattle.pb_model.proofs.TickLemmas.{opening_whole, opening_along}
use Rattle.pb_model.proofs.ArmLemmas.{opening_idle}
use Rattle.pb_still.specs.Eventful.{opening}
use Rattle.pb_still.specs.Driving.{stimulated}
use Rattle.pb_still.specs.Current.{values_at, buses_with, with_values}
use Rattle.pb_still.proofs.PutLemmas.{values_agree}
use Rattle.pb_lazy.specs.declared.Lazy.{Lazy}
use Rattle.pb_lazy.specs.Lazy.{lately, caught_up, saw, opening_lazy, IsSound}
use Rattle.pb_going.specs.Sims.{going, IsGoing, Agrees, now_of, outdated}

-- One of each block.

module _ {X : Type 0} (f : ℕ → X) where
  pub all_opened : flat_map (λ kind. replicate (count_of kind) (f kind)) (range_with_len 3 9) ≡ map f machine_kinds
  unfolding machines machine_kinds catalogue
  all_opened = refl

  pub more_opened : (items new : List X) (kind : ℕ) → kind < 12 → new ≡ items ++ replicate (count_of kind) (f kind) →
      new ++ flat_map (λ k. replicate (count_of k) (f k)) (range_with_len (kind + 1) (12 - (kind + 1)))
      ≡ items ++ flat_map (λ k. replicate (count_of k) (f k)) (range_with_len kind (12 - kind))
  more_opened items new kind h e =
      let rest : List X = flat_map (λ k. replicate (count_of k) (f k)) (range_with_len (kind + 1) (12 - (kind + 1))) in
      let n : suc (12 - (kind + 1)) ≡ 12 - kind = omega arith in
      ap (λ l. l ++ rest) e
      ∙ (append_assoc items (replicate (count_of kind) (f kind)) rest
      ∙ ap (λ m. items ++ flat_map (λ k. replicate (count_of k) (f k)) (range_with_len kind m)) n)

  pub all_done : (items : List X) (kind : ℕ) → 12 ≤ kind →
      items ++ flat_map (λ k. replicate (count_of k) (f k)) (range_with_len kind (12 - kind)) ≡ map f machine_kinds →
      items ≡ map f machine_kinds
  all_done items kind h e =
      let none : 12 - kind ≡ 0 = omega arith in
      sym (append-nil items)
      ∙ (sym (ap (λ n. items ++ flat_map (λ k. replicate (count_of k) (f k)) (range_with_len kind n)) none)
      ∙ e)

-- What they stand for.

opening_rests : lately 0 opening_input ≡ opening_input
unfolding pushed line_after
opening_rests = refl

opened_bits : (selections : List ℕ) → map (lately 0) (map (wired opening_input) selections) ≡ map (wired opening_input) selections
opened_bits [] = refl
opened_bits (select ∷ selections) =
    ap (λ x. x ∷ map (lately 0) (map (wired opening_input) selections)) (ap (λ (i : BitInput). wired i select) opening_rests)
    ∙ ap (λ l. wired opening_input select ∷ l) (opened_bits selections)

opened_block : (kind : ℕ) → caught_up 0 (opening_lazy kind) ≡ opening_block kind
unfolding opening_block
opened_block kind =
    ap (λ (l : List BitInput). record { unit = opening_unit kind; bits = l; positions = (opening_block kind).positions })
    (opened_bits (opening_selections kind))

opened_blocks : (kinds : List ℕ) → map (caught_up 0) (map opening_lazy kinds) ≡ map opening_block kinds
opened_blocks [] = refl
opened_blocks (kind ∷ kinds) =
    ap (λ b. b ∷ map (caught_up 0) (map opening_lazy kinds)) (opened_block kind)
    ∙ ap (λ l. opening_block kind ∷ l) (opened_blocks kinds)

opened_sound : (kind : ℕ) → IsSound 0 true (opening_lazy kind)
opened_sound kind =
    record {
      own = omega arith;
      at = omega arith;
      calm = λ k below. absurd (omega arith);
      steady = λ k below. absurd (omega arith);
      narrow = λ none. record { words = refl; bus = refl };
      loose = λ e. absurd (true_is_false e);
      deadline = λ a b. absurd (true_is_false a);
    }
  where
    true_is_false : true ≡ false → ⊥
    true_is_false e = cc

all_sound : (kinds : List ℕ) → AllByRecursion (IsSound 0 true) (map opening_lazy kinds)
all_sound [] = tt
all_sound (kind ∷ kinds) = (opened_sound kind, all_sound kinds)

saw_nothing : (kinds : List ℕ) → map (saw true) (map opening_lazy kinds) ≡ map (λ (block : Block). None) (map opening_block kinds)
saw_nothing [] = refl
saw_nothing (kind ∷ kinds) = ap (λ l. None ∷ l) (saw_nothing kinds)

none_outdated : (kinds : List ℕ) → count_by (λ (lazy : Lazy). lazy.outdated) (map opening_lazy kinds) ≡ 0
none_outdated [] = refl
none_outdated (kind ∷ kinds) =
    sum_by-cons (λ (lazy : Lazy). cond lazy.outdated 1 0) (opening_lazy kind) (map opening_lazy kinds)
    ∙ omega (arith, none_outdated kinds)

abbrev low : List Bool
low = false ∷ false ∷ false ∷ false ∷ []

module _ (rows : List Row) (values : List ℤ) (buses : Buses) (lazies : List Lazy) (all : lazies ≡ map opening_lazy machine_kinds)
    (levels : values ≡ values_at rows 0) (put : buses ≡ buses_with values 0 opening_buses) where
  blocks_are : map (caught_up 0) lazies ≡ map opening_block machine_kinds
  blocks_are = ap (map (caught_up 0)) all ∙ opened_blocks machine_kinds

  kept_are : now_of (going rows 0 buses low lazies true false) ≡ with_values values model.opening
  kept_are =
      ap (λ (l : List Block). record { tick = 0; buses = buses; settings = low; blocks = l }) blocks_are
      ∙ ap (λ (b : Buses). record { tick = 0; buses = b; settings = low; blocks = map opening_block machine_kinds }) put

  pub sim_agrees : Agrees (going rows 0 buses low lazies true false) (opening rows)
  sim_agrees =
      record {
        rows = refl;
        box =
            subst (λ (k : Kept). model.Agrees k (stimulated rows opening_box)) (sym kept_are)
            (values_agree rows values model.opening opening_box levels (opening_along model.opening refl) (λ entry input. inr refl));
        before = ap (map (saw true)) all ∙ saw_nothing machine_kinds;
        stood = refl;
        driven = refl;
        shown = λ a b. absurd (true_is_false a);
      }
    where
      true_is_false : true ≡ false → ⊥
      true_is_false e = cc

  pub sim_going : IsGoing (going rows 0 buses low lazies true false)
  sim_going =
      record {
        whole = opening_whole (map (caught_up 0) lazies) low blocks_are refl;
        sound = subst (λ (l : List Lazy). AllByRecursion (IsSound 0 true) l) (sym all) (all_sound machine_kinds);
      }

  pub sim_known : outdated (going rows 0 buses low lazies true false) ≡ 0
  sim_known = ap (count_by (λ (lazy : Lazy). lazy.outdated)) all ∙ none_outdated machine_kinds

  pub sim_idle : is_capture_idle (now_of (going rows 0 buses low lazies true false)).blocks ≡ true
  sim_idle = ap is_capture_idle blocks_are ∙ opening_idle

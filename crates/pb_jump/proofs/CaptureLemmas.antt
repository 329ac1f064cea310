-- An advance that captures, part by part.
use Rattle.std.proofs.Common.{◌≡◌, ℕ, ◌+◌, List, [], ◌∷◌, ◌++◌, map, refl, sym, ap, subst, ◌∙◌, arith, Some, None, append_assoc, length-append}
use Rattle.std.specs.Prelude.{Option}
use Rattle.std.proofs.lemmas.List.{append-nil, map-append}
use Rattle.std.proofs.lemmas.Grind.{flat_map-append}
use Rattle.pb_buses.specs.declared.Emit.{Emit}
use Rattle.pb_buses.specs.declared.Emit.TheVariants as emits
use Rattle.pb_buses.specs.declared.Condition.{Condition}
use Rattle.pb_buses.specs.declared.Record.{Record}
use Rattle.pb_pcap.specs.Records.{Held, record_bytes, records_bytes}
use Rattle.pb_still.specs.Eventful.{Moment, IsEventful, IsStill}
use Rattle.pb_going.specs.Sims.{Going, Agrees}
use Rattle.pb_going.specs.Moving.{JumpsTo, StepsTo}
use Rattle.pb_going.specs.Advanced.{something, completion}
use Rattle.pb_going.specs.Coming.{Comes}
use Rattle.pb_going.proofs.AdvanceLemmas.{comes_first, comes_jump, comes_eventful, comes_still}
use Rattle.pb_jump.specs.Taking.{IsTaken, Captures}

-- what was pushed, as it was handed out
abbrev pub handed : List Record → List Emit
handed rows = map (λ (row : Record). emits.Record row) rows

pub captures_first : (start : Moment) (g : Going) (old : Held) (was : ℕ) → Agrees g start → Captures start g 0 None old old was was
captures_first start g old was h =
    record {
      rows = [];
      comes = comes_first start g was h;
      layout = refl;
      bytes = sym (append-nil old.bytes);
      count = omega arith;
    }

module _ (start : Moment) (g new : Going) (count : ℕ) (completed : Option Condition) (old now : Held) (was spent : ℕ)
    (c : Captures start g count completed old now was spent) where
  pub captures_jump : ((moment : Moment) → Agrees g moment → JumpsTo moment new) → Captures start new count completed old now was spent
  captures_jump jumps =
      record {
        rows = c.rows;
        comes = comes_jump start g new count (handed c.rows ++ completion completed) was spent c.comes jumps;
        layout = c.layout;
        bytes = c.bytes;
        count = c.count;
      }

  -- a still tick
  pub captures_still : (emit : Emit) (spent' : ℕ) → emit ≡ emits.Nothing →
      ((moment : Moment) → Agrees g moment → StepsTo moment new emit spent spent') → ((moment : Moment) → Agrees g moment → IsStill moment) →
      new.tick ≡ g.tick + 1 → Captures start new count completed old now was spent'
  captures_still emit spent' e steps still at =
      record {
        rows = c.rows;
        comes =
            subst (λ (l : List Emit). Comes start new count l was spent')
            (ap (λ x. (handed c.rows ++ completion completed) ++ something x) e ∙ append-nil (handed c.rows ++ completion completed))
            (comes_still start g new count (handed c.rows ++ completion completed) was spent c.comes emit spent' steps still at);
        layout = c.layout;
        bytes = c.bytes;
        count = c.count;
      }

  -- an eventful one
  module _ (spent' : ℕ) (eventful : (moment : Moment) → Agrees g moment → IsEventful moment) (at : new.tick ≡ g.tick + 1)
      (result : Option Condition) (next : Held) where
    pub captures_eventful : (emit : Emit) → ((condition : Condition) → completed ≡ Some condition → emit ≡ emits.Nothing) →
        ((moment : Moment) → Agrees g moment → StepsTo moment new emit spent spent') → IsTaken emit completed result now next →
        Captures start new (count + 1) result old next was spent'
    captures_eventful emits.Nothing over steps taken =
        record {
          rows = c.rows;
          comes =
              subst (λ (l : List Emit). Comes start new (count + 1) l was spent')
              (append-nil (handed c.rows ++ completion completed) ∙ ap (λ x. handed c.rows ++ completion x) (sym taken.0))
              (comes_eventful start g new count (handed c.rows ++ completion completed) was spent c.comes emits.Nothing spent' steps eventful at);
          layout = taken.1.layout ∙ c.layout;
          bytes = taken.1.bytes ∙ c.bytes;
          count = taken.1.count ∙ c.count;
        }
    captures_eventful (emits.Record row) over steps taken =
        let none : completed ≡ None = not_over completed (λ condition e. record_is_something (over condition e)) in
        record {
          rows = c.rows ++ row ∷ [];
          comes =
              subst (λ (l : List Emit). Comes start new (count + 1) l was spent')
              (ap (λ x. (handed c.rows ++ completion x) ++ emits.Record row ∷ []) none
              ∙ (ap (λ l. l ++ emits.Record row ∷ []) (append-nil (handed c.rows))
              ∙ (sym (map-append (λ (r : Record). emits.Record r) c.rows (row ∷ []))
              ∙ (sym (append-nil (handed (c.rows ++ row ∷ [])))
              ∙ ap (λ x. handed (c.rows ++ row ∷ []) ++ completion x) (sym (taken.0 ∙ none))))))
              (comes_eventful start g new count (handed c.rows ++ completion completed) was spent c.comes (emits.Record row) spent' steps eventful at);
          layout = taken.1.layout ∙ c.layout;
          bytes =
              taken.1.bytes
              ∙ (ap (λ l. l ++ record_bytes now.layout row) c.bytes
              ∙ (ap (λ l. (old.bytes ++ records_bytes old.layout c.rows) ++ record_bytes l row) c.layout
              ∙ (append_assoc old.bytes (records_bytes old.layout c.rows) (record_bytes old.layout row)
              ∙ ap (λ l. old.bytes ++ l)
              (ap (λ l. records_bytes old.layout c.rows ++ l) (sym (append-nil (record_bytes old.layout row)))
              ∙ sym (flat_map-append (record_bytes old.layout) c.rows (row ∷ []))))));
          count = omega (arith, taken.1.count, c.count, length-append c.rows (row ∷ []));
        }
      where
        record_is_something : emits.Record row ≡ emits.Nothing → ⊥
        record_is_something e = cc

        not_over : (o : Option Condition) → ((condition : Condition) → o ≡ Some condition → ⊥) → o ≡ None
        not_over None h = refl
        not_over (Some condition) h = absurd (h condition refl)
    captures_eventful (emits.Completed condition) over steps taken =
        let none : completed ≡ None = not_over completed (λ other e. completed_is_something (over other e)) in
        record {
          rows = c.rows;
          comes =
              subst (λ (l : List Emit). Comes start new (count + 1) l was spent')
              (ap (λ x. (handed c.rows ++ completion x) ++ emits.Completed condition ∷ []) none
              ∙ (ap (λ l. l ++ emits.Completed condition ∷ []) (append-nil (handed c.rows))
              ∙ ap (λ x. handed c.rows ++ completion x) (sym taken.0)))
              (comes_eventful start g new count (handed c.rows ++ completion completed) was spent c.comes (emits.Completed condition) spent' steps eventful at);
          layout = taken.1.layout ∙ c.layout;
          bytes = taken.1.bytes ∙ c.bytes;
          count = taken.1.count ∙ c.count;
        }
      where
        completed_is_something : emits.Completed condition ≡ emits.Nothing → ⊥
        completed_is_something e = cc

        not_over : (o : Option Condition) → ((other : Condition) → o ≡ Some other → ⊥) → o ≡ None
        not_over None h = refl
        not_over (Some other) h = absurd (h other refl)

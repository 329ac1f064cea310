-- What a change, a table write and a read leave agrees as before.
use Rattle.std.proofs.Common.{◌≡◌, ℕ, Bool, true, false, List, map, sym, ap, subst, ◌∙◌, Result, Ok, Err}
use Rattle.pb_words.specs.declared.Refusal.{Refusal}
use Rattle.pb_model.specs.declared.Change.{Change}
use Rattle.pb_model.specs.declared.Change.TheVariants as changes
use Rattle.pb_model.specs.Tick.{Box}
use Rattle.pb_model.specs.Kept.{Kept}
use Rattle.pb_model.specs.Kept as model
use Rattle.pb_model.specs.Settings.{changed_box}
use Rattle.pb_model.specs.Tables.{box_with_table}
use Rattle.pb_model.proofs.AgreeLemmas.{change_agrees, table_agrees}
use Rattle.pb_stim.specs.declared.Row.{Row}
use Rattle.pb_still.specs.Driving.{driven}
use Rattle.pb_still.specs.Eventful.{Moment}
use Rattle.pb_lazy.specs.Lazy.{saw}
use Rattle.pb_going.specs.Sims.{Going, Agrees, now_of}
use Rattle.pb_jump.specs.Changing.{changed_moment, written_moment, IsLeft, IsWritten, IsBrought}

true_is_false : true ≡ false → ⊥
true_is_false e = cc

driven_left : (change : Change) (rows : List Row) (box : Box) → driven rows box.stands.tick box.stands.bus ≡ box.stands.bus →
    driven rows (changed_box box change).stands.tick (changed_box box change).stands.bus ≡ (changed_box box change).stands.bus
driven_left (changes.Set slot raw) rows box h = h
driven_left (changes.Arm room) rows box h = h
driven_left changes.Disarm rows box h = h

pub left_agrees : (change : Change) (old new : Going) (was spent : ℕ) → IsLeft change old new was spent → (moment : Moment) →
    Agrees old moment → Agrees new (changed_moment moment change)
left_agrees change old new was spent is moment h =
    record {
      rows = is.rows ∙ h.rows;
      box = subst (λ (k : Kept). model.Agrees k (changed_box moment.box change)) (sym is.now) (change_agrees (now_of old) moment.box change h.box);
      before = ap (λ (b : Bool). map (saw b) new.lazies) is.first ∙ (is.before ∙ h.before);
      stood = is.stood;
      driven = driven_left change moment.rows moment.box h.driven;
      shown = λ a b. absurd (true_is_false (sym is.stood ∙ b));
    }

pub written_agrees : (number : ℕ) (left : Result (List ℕ) Refusal) (old new : Going) (was spent : ℕ) → IsWritten number left old new was spent →
    (moment : Moment) → Agrees old moment → Agrees new (written_moment moment number left)
written_agrees number (Ok words) old new was spent is moment h =
    record {
      rows = is.rows ∙ h.rows;
      box =
          subst (λ (k : Kept). model.Agrees k (box_with_table moment.box number words)) (sym is.now)
          (table_agrees (now_of old) moment.box number words h.box);
      before = ap (λ (b : Bool). map (saw b) new.lazies) is.first ∙ (is.before ∙ h.before);
      stood = is.stood;
      driven = h.driven;
      shown = λ a b. absurd (true_is_false (sym is.stood ∙ b));
    }
written_agrees number (Err refusal) old new was spent is moment h =
    record {
      rows = is.rows ∙ h.rows;
      box = subst (λ (k : Kept). model.Agrees k moment.box) (sym is.now) h.box;
      before = ap (λ (b : Bool). map (saw b) new.lazies) is.first ∙ (is.before ∙ h.before);
      stood = is.stood ∙ h.stood;
      driven = h.driven;
      shown = λ a b. h.shown (sym is.first ∙ a) (sym is.stood ∙ b);
    }

pub brought_agrees : (old new : Going) → IsBrought old new → (moment : Moment) → Agrees old moment → Agrees new moment
brought_agrees old new is moment h =
    record {
      rows = is.rows ∙ h.rows;
      box = subst (λ (k : Kept). model.Agrees k moment.box) (sym is.now) h.box;
      before = ap (λ (b : Bool). map (saw b) new.lazies) is.first ∙ (is.before ∙ h.before);
      stood = is.stood ∙ h.stood;
      driven = h.driven;
      shown = λ a b. h.shown (sym is.first ∙ a) (sym is.stood ∙ b);
    }

use Rattle.std.proofs.Common.{◌<◌, sym, ap, subst, ◌∙◌, arith}
use Rattle.pb_model.specs.Arming.{is_capture_idle}
use Rattle.pb_going.specs.Sims.{Going, going, Agrees, now_of}
use Rattle.pb_going.specs.Moving.{IsPlain}
use Rattle.pb_going.proofs.StepLemmas.{values_later, past_later}
use Rattle.pb_going.proofs.JumpLemmas.{all_known}
use Rattle.pb_jump.proofs.SteppingLemmas.{Lands, lands, jump_going, jump_moves, jump_idle}
use Rattle.pb_jump.proofs.sims.Sim.jump.Goals as goal

pub put_rows-self-inside-requires : goal.put_rows-self-inside-requires
put_rows-self-inside-requires c =
    let s = c.self.inside in
    let g : Going = going s.stimulus s.tick s.buses s.settings s.lazies.items s.first s.stood in
    let later = c.next_row-self-inside.result in
    let l : Lands g later s.place s.values =
    lands g c.args.to c.first_due-due.result later s.place s.values c.deref.result.now c.self.invariant.0
    (subst IsPlain (sym c.self.view_is) c.requires.plain) c.self.invariant.1 (subst (λ (x : Going). x.tick < c.args.to) (sym c.self.view_is) c.requires.ahead)
    c.deref.ensures.value c.first_due-due.ensures.ahead c.first_due-due.ensures.each c.next_row-self-inside.ensures.within
    c.next_row-self-inside.ensures.ahead c.next_row-self-inside.ensures.coming in
    record {
      within = c.self.invariant.1.within;
      past = past_later s.stimulus s.place s.values s.tick later c.self.invariant.1 (omega (arith, l.ahead));
      levels = values_later s.stimulus s.place s.values s.tick later c.self.invariant.1 (omega (arith, l.ahead));
      small = omega (arith, c.next_row-self-inside.ensures.within, c.first_due-due.ensures.within, c.requires.small);
    }

pub invariant_of-self : goal.invariant_of-self
invariant_of-self c =
    let s = c.self.inside in
    let g : Going = going s.stimulus s.tick s.buses s.settings s.lazies.items s.first s.stood in
    let later = c.next_row-self-inside.result in
    let l : Lands g later s.place s.values =
    lands g c.args.to c.first_due-due.result later s.place s.values c.deref.result.now c.self.invariant.0
    (subst IsPlain (sym c.self.view_is) c.requires.plain) c.self.invariant.1 (subst (λ (x : Going). x.tick < c.args.to) (sym c.self.view_is) c.requires.ahead)
    c.deref.ensures.value c.first_due-due.ensures.ahead c.first_due-due.ensures.each c.next_row-self-inside.ensures.within
    c.next_row-self-inside.ensures.ahead c.next_row-self-inside.ensures.coming in (
      jump_going g later s.place s.values c.put_rows-self-inside.new.values c.put_values.new.buses l c.put_rows-self-inside.ensures.levels c.put_values.ensures,
      c.put_rows-self-inside.ensures,
    )

pub returns-clause-ahead : goal.returns-clause-ahead
returns-clause-ahead c =
    let s = c.self.inside in
    let g : Going = going s.stimulus s.tick s.buses s.settings s.lazies.items s.first s.stood in
    let later = c.next_row-self-inside.result in
    let l : Lands g later s.place s.values =
    lands g c.args.to c.first_due-due.result later s.place s.values c.deref.result.now c.self.invariant.0
    (subst IsPlain (sym c.self.view_is) c.requires.plain) c.self.invariant.1 (subst (λ (x : Going). x.tick < c.args.to) (sym c.self.view_is) c.requires.ahead)
    c.deref.ensures.value c.first_due-due.ensures.ahead c.first_due-due.ensures.each c.next_row-self-inside.ensures.within
    c.next_row-self-inside.ensures.ahead c.next_row-self-inside.ensures.coming in
    subst (λ (x : Going). x.tick < later) c.self.view_is l.ahead

pub returns-clause-known : goal.returns-clause-known
returns-clause-known c =
    let s = c.self.inside in
    let g : Going = going s.stimulus s.tick s.buses s.settings s.lazies.items s.first s.stood in
    all_known g (subst IsPlain (sym c.self.view_is) c.requires.plain)

pub returns-clause-moved : goal.returns-clause-moved
returns-clause-moved c = λ moment h.
    let s = c.self.inside in
    let g : Going = going s.stimulus s.tick s.buses s.settings s.lazies.items s.first s.stood in
    let later = c.next_row-self-inside.result in
    let l : Lands g later s.place s.values =
    lands g c.args.to c.first_due-due.result later s.place s.values c.deref.result.now c.self.invariant.0
    (subst IsPlain (sym c.self.view_is) c.requires.plain) c.self.invariant.1 (subst (λ (x : Going). x.tick < c.args.to) (sym c.self.view_is) c.requires.ahead)
    c.deref.ensures.value c.first_due-due.ensures.ahead c.first_due-due.ensures.each c.next_row-self-inside.ensures.within
    c.next_row-self-inside.ensures.ahead c.next_row-self-inside.ensures.coming in
    jump_moves g later s.place s.values c.put_rows-self-inside.new.values c.put_values.new.buses l c.put_rows-self-inside.ensures.levels c.put_values.ensures moment
    (subst (λ (x : Going). Agrees x moment) (sym c.self.view_is) h)

pub returns-clause-idle : goal.returns-clause-idle
returns-clause-idle c =
    let s = c.self.inside in
    let g : Going = going s.stimulus s.tick s.buses s.settings s.lazies.items s.first s.stood in
    let later = c.next_row-self-inside.result in
    let l : Lands g later s.place s.values =
    lands g c.args.to c.first_due-due.result later s.place s.values c.deref.result.now c.self.invariant.0
    (subst IsPlain (sym c.self.view_is) c.requires.plain) c.self.invariant.1 (subst (λ (x : Going). x.tick < c.args.to) (sym c.self.view_is) c.requires.ahead)
    c.deref.ensures.value c.first_due-due.ensures.ahead c.first_due-due.ensures.each c.next_row-self-inside.ensures.within
    c.next_row-self-inside.ensures.ahead c.next_row-self-inside.ensures.coming in
    jump_idle g later s.place s.values c.put_rows-self-inside.new.values c.put_values.new.buses l c.put_rows-self-inside.ensures.levels c.put_values.ensures
    ∙ ap (λ (x : Going). is_capture_idle (now_of x).blocks) c.self.view_is

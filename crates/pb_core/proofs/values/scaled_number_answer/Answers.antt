use Rattle.std.proofs.Common.{◌≡◌, ℤ, take, IfOk, ap, subst, sym, ◌∙◌}
use Rattle.std.specs.Int.{w32}
use Rattle.std.proofs.lemmas.Int.{to_z-of_z}
use Rattle.std.proofs.lemmas.List.{take_at}
use Rattle.pb_config.specs.Settings.{Settings}
use Rattle.pb_config.specs.KeptConfig.{KeptConfig}
use Rattle.pb_config.specs.Showing.{scaled_shown}
use Rattle.pb_replies.specs.Replies.{value_reply}
use Rattle.pb_core.specs.declared.events.Answer.TheVariants as answers
use Rattle.pb_core.proofs.values.scaled_number_answer.Goals as goal

pub returns : goal.returns
returns c =
    let same = to_z-of_z w32 c.args.value c.ranges.value in
    let text = λ (settings : Settings) (value : ℤ). scaled_shown settings c.args.slot value in
    let front = ap (take c.show_scaled-len.result) c.show_scaled-len.ensures.written ∙ take_at _ _ _ (sym c.show_scaled-len.ensures.len) in
    let shown = front ∙ ap (text c.settings.result.now.settings) same ∙ ap (λ (kept : KeptConfig). text kept.settings c.args.value) c.settings.ensures in
    subst (λ bytes. IfOk c.shown_answer.result (λ told. told ≡ answers.Reply (value_reply bytes))) shown c.shown_answer.ensures

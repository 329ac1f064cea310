use Rattle.std.proofs.Common.{◌++◌, length, drop, replicate, ℕ, List, ap, ◌∙◌}
use Rattle.std.proofs.lemmas.List.{drop-replicate}
use Rattle.pb_pcap.specs.declared.fields.Units.{Units}
use Rattle.pb_pcap.proofs.fields.Units.new.Goals as goal

held : List ℕ → ℕ → Units
held text len = record { text = text; len = len }

pub returns : goal.returns
unfolding held
returns c =
    ap (λ text. held text (length c.args.text.now))
    (ap (λ front. front ++ drop (length c.args.text.now) (replicate 32 0)) c.copy_from_slice.ensures.after
    ∙ ap (λ zeros. c.args.text.now ++ zeros) (drop-replicate (length c.args.text.now) 32 0))

-- What a table write leaves of a sequencer, by what it answers.
use Rattle.std.proofs.Common.{◌≡◌, ℕ, List, Result, Ok, Err, refl, ap}
use Rattle.std.specs.Result.{result_unwrap_or}
use Rattle.pb_words.specs.declared.Refusal.{Refusal}
use Rattle.pb_tables.specs.Computed.{answer_of}
use Rattle.pb_seq.specs.Seq.{Sequencer, with_table, with_written}

pub written_left : (sequencer : Sequencer) (left : Result (List ℕ) Refusal) (words : List ℕ) → Ok tt ≡ answer_of left →
    words ≡ result_unwrap_or left sequencer.table → with_table sequencer words ≡ with_written left sequencer
written_left sequencer (Ok new) words e is = ap (with_table sequencer) is
written_left sequencer (Err refusal) words e is = cc

pub refused_left : (sequencer : Sequencer) (left : Result (List ℕ) Refusal) (refusal : Refusal) → Err refusal ≡ answer_of left →
    sequencer ≡ with_written left sequencer
refused_left sequencer (Ok new) refusal e = cc
refused_left sequencer (Err other) refusal e = refl

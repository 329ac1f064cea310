-- Steps one after the other, of which each may be refused.
use Rattle.std.specs.Prelude.{Result, Ok, Err}
use Rattle.pb_words.specs.declared.refusals.Refusal.{Refusal}

-- the next step, where this one gives something
abbrev pub result_then : {A B : Type 0} → Result A Refusal → (A → Result B Refusal) → Result B Refusal
result_then (Ok found) next = next found
result_then (Err refusal) next = Err refusal

-- what is made of what this step gives
abbrev pub result_map : {A B : Type 0} → (A → B) → Result A Refusal → Result B Refusal
result_map make (Ok found) = Ok (make found)
result_map make (Err refusal) = Err refusal

use Rattle.pb_fields.proofs.spelling.spell_function.Goals as goal

pub returns-in-Err-clause-refused : goal.returns-in-Err-clause-refused
returns-in-Err-clause-refused c n w = let h = c.in-Err.ensures.only n w in cc

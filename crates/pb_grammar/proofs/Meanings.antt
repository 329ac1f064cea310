-- From the text of a line to the bytes of a command: they say one thing, and it is computed.
use Rattle.std.proofs.Common.{◌≡◌, ◌<◌, ◌≤◌, ℕ, false, cond, not, ltb, List, length, Option, Some, None, ◌↔◌, ◌⊎◌, inl, inr, refl, sym, ap, subst, ◌∙◌}
use Rattle.std.specs.List.{list_all}
use Rattle.std.specs.Option.{option_map_or}
use Rattle.std.proofs.lemmas.Bool.{cond_both, cond-true, le-ltb, lt-ltb, ltb-true, ltb-false, not-true, not-false}
use Rattle.pb_words.specs.declared.refusals.Refusal.{Refusal}
use Rattle.pb_words.specs.declared.refusals.Refusal.TheVariants as refusals
use Rattle.pb_grammar.specs.Grammar.{Said, Query, Assign, Table, Echo, Bad, Says, IsBad, IsCommand, IsLine, IsLineCommand, IsNoTable, IsTable, IsTableCommand, Opening, IsSaid, IsSound, is_printable, longest, malformed, line_text, said_in, table_in, command_of}
use Rattle.pb_grammar.proofs.Lines.{Found, line_of, line_text_found, no_line, one_line}
use Rattle.pb_grammar.proofs.TableLemmas.{command_table, no_table_in, table_no_line, table_or_none}
use Rattle.pb_grammar.proofs.Sayings.{Speaks, saying, saying_speaks, says_saying}

-- what the text of a line says, by what it is
pub sound_said : (text : List ℕ) → IsSound text → said_in text ≡ saying text
unfolding said_in
sound_said text sound =
    ap (λ t. cond t (Bad refusals.LineTooLong) (cond (not (list_all is_printable text)) (Bad refusals.NotPrintable) (saying text)))
    (le-ltb longest (length text) sound.short)
    ∙ ap (λ t. cond (not t) (Bad refusals.NotPrintable) (saying text)) sound.printable

pub long_said : (text : List ℕ) → longest < length text → said_in text ≡ Bad refusals.LineTooLong
unfolding said_in
long_said text long = cond-true (ltb longest (length text)) (Bad refusals.LineTooLong) _ (lt-ltb longest (length text) long)

unprintable_said : (text : List ℕ) → length text ≤ longest → list_all is_printable text ≡ false → said_in text ≡ Bad refusals.NotPrintable
unfolding said_in
unprintable_said text short other =
    ap (λ t. cond t (Bad refusals.LineTooLong) (cond (not (list_all is_printable text)) (Bad refusals.NotPrintable) (saying text)))
    (le-ltb longest (length text) short)
    ∙ ap (λ t. cond (not t) (Bad refusals.NotPrintable) (saying text)) other

-- what the bytes of a line say; other bytes are malformed
abbrev line_said : List ℕ → Said
line_said bytes = option_map_or said_in (line_text bytes) malformed

line_command : (bytes text : List ℕ) → IsLine bytes text → line_said bytes ≡ said_in text
line_command bytes text line = ap (λ found. option_map_or said_in found malformed) (line_of bytes text line)

-- What is said is computed.

sound_command : (bytes : List ℕ) (said : Said) → IsSaid bytes said → line_said bytes ≡ said
sound_command bytes said h = line_command bytes h.0 h.1 ∙ sound_said h.0 h.2 ∙ says_saying h.0 said h.3

-- a text that says nothing is malformed
nothing_said : (text : List ℕ) (said : Said) → Speaks text said → ((other : Said) → ¬ (Says text other)) → said ≡ malformed
nothing_said text (Query target) h none = absurd (none (Query target) h)
nothing_said text (Assign target value) h none = absurd (none (Assign target value) h)
nothing_said text (Table target append base64 body) h none = absurd (none (Table target append base64 body) h)
nothing_said text (Echo words) h none = absurd (none (Echo words) h)
nothing_said text (Bad refusal) h none = ap (λ r. Bad r) h

malformed_found : (bytes : List ℕ) → IsBad bytes refusals.MalformedCommand → (found : Option (List ℕ)) → Found bytes found → option_map_or said_in found malformed ≡ malformed
malformed_found bytes h None f = refl
malformed_found bytes h (Some text) line =
    sound_said text (h text line).0 ∙ nothing_said text (saying text) (saying_speaks text) (h text line).1

malformed_command : (bytes : List ℕ) → IsBad bytes refusals.MalformedCommand → line_said bytes ≡ malformed
malformed_command bytes h = malformed_found bytes h (line_text bytes) (line_text_found bytes)

bad_command : (bytes : List ℕ) (refusal : Refusal) → IsBad bytes refusal → line_said bytes ≡ Bad refusal
bad_command bytes refusals.LineTooLong h = line_command bytes h.0 h.1 ∙ long_said h.0 h.2
bad_command bytes refusals.NotPrintable h = line_command bytes h.0 h.1 ∙ unprintable_said h.0 h.2 h.3
bad_command bytes refusals.MalformedCommand h = malformed_command bytes h
bad_command bytes refusal h = absurd h

command_computed : (bytes : List ℕ) (said : Said) → IsLineCommand bytes said → line_said bytes ≡ said
command_computed bytes (Query target) h = sound_command bytes (Query target) h
command_computed bytes (Assign target value) h = sound_command bytes (Assign target value) h
command_computed bytes (Table target append base64 body) h = sound_command bytes (Table target append base64 body) h
command_computed bytes (Echo words) h = sound_command bytes (Echo words) h
command_computed bytes (Bad refusal) h = bad_command bytes refusal h

-- What is computed is said.

sound_says : (bytes text : List ℕ) → IsLine bytes text → IsSound text → (said : Said) → saying text ≡ said → Speaks text said → IsLineCommand bytes said
sound_says bytes text line sound (Query target) e h = (text, line, sound, h)
sound_says bytes text line sound (Assign target value) e h = (text, line, sound, h)
sound_says bytes text line sound (Table target append base64 body) e h = (text, line, sound, h)
sound_says bytes text line sound (Echo words) e h = (text, line, sound, h)
sound_says bytes text line sound (Bad refusal) e h =
    subst (IsBad bytes) (sym h)
    (λ other k.
    subst (λ t. IsSound t × ((said : Said) → ¬ (Says t said))) (one_line bytes text other line k)
    (sound, λ said says. subst (Says text) (sym (says_saying text said says) ∙ e) says))

line_says : (bytes text : List ℕ) → IsLine bytes text → IsLineCommand bytes (said_in text)
unfolding said_in
line_says bytes text line =
    cond_both (ltb longest (length text)) (Bad refusals.LineTooLong) (cond (not (list_all is_printable text)) (Bad refusals.NotPrintable) (saying text)) (IsLineCommand bytes)
    (λ long. (text, line, ltb-true longest (length text) long))
    (λ short.
    cond_both (not (list_all is_printable text)) (Bad refusals.NotPrintable) (saying text) (IsLineCommand bytes)
    (λ other. (text, line, ltb-false longest (length text) short, not-true (list_all is_printable text) other))
    (λ all.
    sound_says bytes text line
    (record { short = ltb-false longest (length text) short; printable = not-false (list_all is_printable text) all })
    (saying text) refl (saying_speaks text)))

found_says : (bytes : List ℕ) (found : Option (List ℕ)) → Found bytes found → IsLineCommand bytes (option_map_or said_in found malformed)
found_says bytes None h = λ text line. absurd (h text line)
found_says bytes (Some text) line = line_says bytes text line

command_said : (bytes : List ℕ) → IsLineCommand bytes (line_said bytes)
command_said bytes = found_says bytes (line_text bytes) (line_text_found bytes)

-- Table writes.

line_or_table : (bytes : List ℕ) → IsNoTable bytes → command_of bytes ≡ line_said bytes
unfolding command_of
line_or_table bytes none = ap (option_map_or said_in (line_text bytes)) (no_table_in bytes none)

pub table_is_said : (bytes : List ℕ) (o : Opening) (lines : List (List ℕ)) → IsTable bytes o lines → command_of bytes ≡ table_in bytes
unfolding command_of
table_is_said bytes o lines h =
    ap (λ found. option_map_or said_in found (table_in bytes)) (no_line bytes (table_no_line bytes o lines h))

pub line_is_said : (bytes text : List ℕ) → IsLine bytes text → command_of bytes ≡ said_in text
unfolding command_of
line_is_said bytes text line = ap (λ found. option_map_or said_in found (table_in bytes)) (line_of bytes text line)

said_of_bytes : (bytes : List ℕ) (said : Said) → IsCommand bytes said → command_of bytes ≡ said
said_of_bytes bytes said (inl h) = table_is_said bytes h.opening h.lines h.table ∙ command_table bytes said h
said_of_bytes bytes said (inr h) = line_or_table bytes h.0 ∙ command_computed bytes said h.1

bytes_say : (bytes : List ℕ) → IsTableCommand bytes (table_in bytes) ⊎ IsNoTable bytes → IsCommand bytes (command_of bytes)
bytes_say bytes (inl h) =
    inl (subst (IsTableCommand bytes) (sym (table_is_said bytes h.opening h.lines h.table)) h)
bytes_say bytes (inr none) =
    inr (none, subst (IsLineCommand bytes) (sym (line_or_table bytes none)) (command_said bytes))

-- bytes say what is computed, and nothing else
pub command_iff : (bytes : List ℕ) (said : Said) → IsCommand bytes said ↔ (command_of bytes ≡ said)
command_iff bytes said = (said_of_bytes bytes said, λ e. subst (IsCommand bytes) e (bytes_say bytes (table_or_none bytes)))

-- The options line of a data session: words with spaces between them, from left to right.
use Rattle.std.specs.Prelude.{ℕ, nat_eq, nat_lt, not, ◌==◌, ◌&&◌, Bool, true, false, List, [], ◌∷◌, length, Some, None, Result, Ok, Err, codes, if◌then◌else◌}
use Rattle.std.specs.List.{list_all, slice_split}
use Rattle.std.specs.Option.{unwrap_or}
use Rattle.std.specs.Cmp.Lexicographic.{pointwise}
use Rattle.pb_words.specs.declared.Refusal.{Refusal}
use Rattle.pb_words.specs.declared.Refusal.TheVariants as refusals
use Rattle.pb_words.specs.Refusing.{result_then}
use Rattle.pb_grammar.specs.Grammar.{is_printable, longest}
use Rattle.pb_encode.specs.declared.options.Form.{Form}
use Rattle.pb_encode.specs.declared.options.Form.TheVariants as forms
use Rattle.pb_encode.specs.declared.options.Options.{Options}
use Rattle.pb_encode.specs.declared.choosing.Chosen.{Chosen}

-- at the start: ASCII without flags, and no process is chosen
abbrev pub at_start : Chosen
at_start = record { form = forms.Ascii; scaled = None; header = true; status = true; one_shot = false }

-- the raw bytes and nothing else
abbrev pub bare : Chosen
bare = record { form = forms.Unframed; scaled = Some false; header = false; status = false; one_shot = true }

abbrev pub is_same : List ℕ → List ℕ → Bool
is_same text other = pointwise nat_eq text other

abbrev pub in_form : Chosen → Form → Chosen
in_form chosen form = record chosen { form = form }

abbrev pub by_process : Chosen → Bool → Chosen
by_process chosen is_scaled = record chosen { scaled = Some is_scaled }

-- what is chosen after a word that chooses neither form nor process alone
abbrev pub after_flag : Chosen → List ℕ → Result Chosen Refusal
after_flag chosen word =
    if is_same word (codes "NO_HEADER") then Ok (record chosen { header = false })
    else (if is_same word (codes "NO_STATUS") then Ok (record chosen { status = false })
    else (if is_same word (codes "ONE_SHOT") then Ok (record chosen { one_shot = true })
    else (if is_same word (codes "BARE") then Ok bare
    else (if is_same word (codes "DEFAULT") then Ok at_start
    else Err refusals.UnknownOption))))

-- What is chosen after a word. Between two spaces there may be nothing, which changes nothing.
abbrev pub after_word : Chosen → List ℕ → Result Chosen Refusal
after_word chosen word =
    if is_same word [] then Ok chosen
    else (if is_same word (codes "UNFRAMED") then Ok (in_form chosen forms.Unframed)
    else (if is_same word (codes "FRAMED") then Ok (in_form chosen forms.Framed)
    else (if is_same word (codes "BASE64") then Ok (in_form chosen forms.Base64)
    else (if is_same word (codes "ASCII") then Ok (in_form chosen forms.Ascii)
    else (if is_same word (codes "UNSCALED") then Ok (by_process chosen false)
    else (if is_same word (codes "SCALED") then Ok (by_process chosen true)
    else after_flag chosen word))))))

-- what is chosen after the words, from left to right
abbrev pub after_words : Chosen → List (List ℕ) → Result Chosen Refusal
after_words chosen [] = Ok chosen
after_words chosen (word ∷ words) = result_then (after_word chosen word) (λ next. after_words next words)

-- what stands before, between and behind spaces
abbrev pub words : List ℕ → List (List ℕ)
words line = slice_split (λ b. b == 32) line

abbrev pub is_ascii : Form → Bool
is_ascii forms.Ascii = true
is_ascii _ = false

-- Without a chosen process ASCII is scaled, and the other forms aren't. They can't be chosen to be.
abbrev pub options_by : Chosen → Result Options Refusal
options_by chosen =
    if unwrap_or chosen.scaled false && not (is_ascii chosen.form) then Err refusals.ScaledNeedsAscii
    else Ok (record {
      form = chosen.form;
      scaled = unwrap_or chosen.scaled (is_ascii chosen.form);
      header = chosen.header;
      status = chosen.status;
      one_shot = chosen.one_shot;
    })

-- the options that a line says, or the first refusal that fits
unfoldable pub options_of : List ℕ → Result Options Refusal
options_of line =
    if nat_lt longest (length line) then Err refusals.LineTooLong
    else (if not (list_all is_printable line) then Err refusals.NotPrintable
    else result_then (after_words at_start (words line)) options_by)

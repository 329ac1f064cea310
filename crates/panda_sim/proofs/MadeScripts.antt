-- What the generator makes is a script, whatever the seed is.
use Rattle.std.proofs.Common.{◌≡◌, ◌≢◌, ℕ, zero, suc, ◌+◌, ◌*◌, ◌/◌, ◌<◌, ◌≤◌, ◌^◌, not, Bool, true, false, nat_eq, List, [], ◌∷◌, ◌++◌, length, All, codes, decimal, Option, Some, pos, refl, sym, ap, subst, ◌∙◌, inl, inr, arith, append_assoc, length-append}
use Rattle.std.specs.List.{list_all}
use Rattle.std.proofs.lemmas.Fmt.{length-decimal-le}
use Rattle.std.proofs.lemmas.Bool.{and_parts, false≢true, cases_eq}
use Rattle.std.proofs.lemmas.Option.{none-some}
use Rattle.std.proofs.lemmas.List.Elements.{All-append, All-cons, All-nil}
use Rattle.pb_words.specs.Numbers.{IsDigit, WritesNumber, value_of}
use Rattle.pb_words.proofs.NumberLemmas.{decimal_writes}
use Rattle.pb_stim.specs.declared.Cause.{Cause}
use Rattle.pb_stim.specs.Making.{drawn_after, drawn, tick_of, settings, line_at, point, points, ending, made}
use Rattle.pb_replay.specs.Inputs.{inputs, MayHave}
use Rattle.pb_replay.specs.Script.{Deed, Line, Timed, Level, Command, OpenData, End, IsName, WritesSigned, Says, IsLine, WritesLines, KeepRules, IsScript, is_end, IsSession}
use Rattle.pb_replay.specs.Faults.{first_fault}
use Rattle.pb_replay.proofs.FormLemmas.{number_is}
use Rattle.pb_replay.proofs.ScriptLaws.{script_has_none}
use Rattle.pb_words.specs.Signed.{is_uint}

-- The lines.

-- what session 1 sends at tick 0
abbrev setting_texts : List (List ℕ)
setting_texts =
    codes "COUNTER1.TRIG=TTLIN1.VAL"
    ∷ codes "PCAP.TRIG=TTLIN1.VAL"
    ∷ codes "COUNTER1.OUT.CAPTURE=Value"
    ∷ codes "PCAP.TS_TRIG.CAPTURE=Value"
    ∷ codes "PCAP.ENABLE=ONE"
    ∷ codes "*PCAP.ARM="
    ∷ []

-- its lines, and then the opening of the data session
abbrev lines_of : List (List ℕ) → List Line
lines_of [] = Timed 0 (OpenData 1 (codes "BARE")) ∷ []
lines_of (text ∷ texts) = Timed 0 (Command 1 text) ∷ lines_of texts

abbrev bytes_of : List (List ℕ) → List ℕ
bytes_of [] = codes "0 D 1 BARE\n"
bytes_of (text ∷ texts) = (codes "0 C 1 " ++ (text ++ 10 ∷ [])) ++ bytes_of texts

-- those of a point
abbrev point_lines : ℕ → List Line
point_lines tick = Timed tick (Level (codes "TTLIN1") (pos 1)) ∷ Timed (tick + 1) (Level (codes "TTLIN1") (pos 0)) ∷ []

abbrev points_lines : ℕ → ℕ → List Line
points_lines seed zero = []
points_lines seed (suc n) = points_lines seed n ++ point_lines (tick_of seed (suc n))

abbrev ending_lines : ℕ → List Line
ending_lines tick = Timed tick (Command 1 (codes "*PCAP.DISARM=")) ∷ Timed tick End ∷ []

abbrev made_lines : ℕ → ℕ → List Line
made_lines n seed = lines_of setting_texts ++ points_lines seed n ++ ending_lines (tick_of seed n + 10)

-- How far the points go.

drawn_small : (x : ℕ) → drawn_after x / 2 ^ 54 < 1024
drawn_small x = omega arith

tick_near : (seed n : ℕ) → tick_of seed n ≤ 10 + 1025 * n
tick_near seed zero = omega arith
tick_near seed (suc n) = omega (arith, tick_near seed n, drawn_small (drawn seed n))

-- How long the script is.

line_short : (tick : ℕ) (text : List ℕ) → tick < 10 ^ 9 → length (line_at tick text) ≤ 10 + length text
line_short tick text h =
    let size : length (line_at tick text) ≡ length (decimal tick) + length text + 1 =
    length-append (decimal tick ++ text) (codes "\n") ∙ ap (λ n. n + 1) (length-append (decimal tick) text) in
    omega (arith, size, length-decimal-le 9 tick (omega arith) h (omega arith))

point_short : (tick : ℕ) → tick + 1 < 10 ^ 9 → length (point tick) ≤ 42
point_short tick h =
    omega (arith, length-append (line_at tick (codes " S TTLIN1 1")) (line_at (tick + 1) (codes " S TTLIN1 0")), line_short tick (codes " S TTLIN1 1") (omega (arith, h)), line_short (tick + 1) (codes " S TTLIN1 0") h)

points_short : (seed n : ℕ) → n ≤ 100000 → length (points seed n) ≤ 42 * n
points_short seed zero h = omega arith
points_short seed (suc n) h =
    omega (arith, h, points_short seed n (omega (arith, h)), length-append (points seed n) (point (tick_of seed (suc n))), point_short (tick_of seed (suc n)) (omega (arith, h, tick_near seed (suc n))))

ending_short : (tick : ℕ) → tick < 10 ^ 9 → length (ending tick) ≤ 40
ending_short tick h =
    omega (arith, length-append (line_at tick (codes " C 1 *PCAP.DISARM=")) (line_at tick (codes " E")), line_short tick (codes " C 1 *PCAP.DISARM=") h, line_short tick (codes " E") h)

settings_short : length settings ≤ 1000
unfolding settings
settings_short = omega arith

made_short : (n seed : ℕ) → n ≤ 100000 → length (made n seed) ≤ 16777216
made_short n seed h =
    let tick = tick_of seed n + 10 in
    let size : length (made n seed) ≡ length settings + length (points seed n) + length (ending tick) =
    length-append (settings ++ points seed n) (ending tick) ∙ ap (λ k. k + length (ending tick)) (length-append settings (points seed n)) in
    omega (arith, h, size, settings_short, points_short seed n h, ending_short tick (omega (arith, h, tick_near seed n)))

-- How it is written.

abbrev HasNoNewline : List ℕ → Type 0
HasNoNewline text = All (λ b. b ≢ 10) text

-- a text without a newline, by a test
no_newline : (text : List ℕ) → list_all (λ b. not (nat_eq b 10)) text ≡ true → HasNoNewline text
no_newline [] h = All-nil (λ b. b ≢ 10)
no_newline (b ∷ bs) h =
    let p = and_parts _ _ h in
    All-cons (λ b. b ≢ 10) b bs (λ e. absurd (false≢true (sym (ap (λ x. not (nat_eq x 10)) e) ∙ p.0))) (no_newline bs p.1)

-- and one without a space
no_space : (text : List ℕ) → list_all (λ b. not (nat_eq b 32)) text ≡ true → All (λ b. b ≢ 32) text
no_space [] h = All-nil (λ b. b ≢ 32)
no_space (b ∷ bs) h =
    let p = and_parts _ _ h in
    All-cons (λ b. b ≢ 32) b bs (λ e. absurd (false≢true (sym (ap (λ x. not (nat_eq x 32)) e) ∙ p.0))) (no_space bs p.1)

digits_no_newline : (text : List ℕ) → All IsDigit text → HasNoNewline text
digits_no_newline text h = λ k d room e. let digit = h k d room in omega (arith, digit.0, e)

-- one line
one_written : (text : List ℕ) (line : Line) → HasNoNewline text → IsLine text line → WritesLines (text ++ 10 ∷ []) (line ∷ [])
one_written text line t is = (text, [], t, is, refl, refl)

-- some lines and then others
both_written : (a b : List ℕ) (xs ys : List Line) → WritesLines a xs → WritesLines b ys → WritesLines (a ++ b) (xs ++ ys)
both_written a b [] ys h k = subst (λ t. WritesLines (t ++ b) ys) (sym h) k
both_written a b (x ∷ xs) ys h k =
    (h.0, h.1 ++ b, h.2, h.3, ap (λ t. t ++ b) h.4 ∙ append_assoc h.0 (10 ∷ h.1) b, both_written h.1 b xs ys h.5 k)

-- a line at a tick
written_at : (tick : ℕ) (text rest : List ℕ) (deed : Deed) → tick < 2 ^ 64 → text ≡ 32 ∷ rest → HasNoNewline text → Says rest deed → WritesLines (line_at tick text) (Timed tick deed ∷ [])
written_at tick text rest deed h is t says =
    let number = decimal_writes tick h in
    one_written (decimal tick ++ text) (Timed tick deed)
    (All-append (λ b. b ≢ 10) (decimal tick) text (digits_no_newline (decimal tick) number.grammar.digits) t)
    (decimal tick, rest, number, says, ap (λ x. decimal tick ++ x) is)

-- a row of TTL input 1
row_says : (digit : List ℕ) (level : ℕ) → WritesNumber digit level → Says (codes "S TTLIN1 " ++ digit) (Level (codes "TTLIN1") (pos level))
row_says digit level w =
    (digit, record { some = omega arith; spaceless = no_space (codes "TTLIN1") refl }, record { digits = digit; size = level; number = w; signed = inl (refl, refl) }, refl)

point_written : (tick : ℕ) → tick + 1 < 2 ^ 64 → WritesLines (point tick) (point_lines tick)
point_written tick h =
    both_written (line_at tick (codes " S TTLIN1 1")) (line_at (tick + 1) (codes " S TTLIN1 0")) (Timed tick (Level (codes "TTLIN1") (pos 1)) ∷ []) (Timed (tick + 1) (Level (codes "TTLIN1") (pos 0)) ∷ [])
    (written_at tick (codes " S TTLIN1 1") (codes "S TTLIN1 1") (Level (codes "TTLIN1") (pos 1)) (omega (arith, h)) refl (no_newline (codes " S TTLIN1 1") refl) (row_says (codes "1") 1 (number_is (codes "1") refl)))
    (written_at (tick + 1) (codes " S TTLIN1 0") (codes "S TTLIN1 0") (Level (codes "TTLIN1") (pos 0)) h refl (no_newline (codes " S TTLIN1 0") refl) (row_says (codes "0") 0 (number_is (codes "0") refl)))

points_written : (seed n : ℕ) → n ≤ 100000 → WritesLines (points seed n) (points_lines seed n)
points_written seed zero h = refl
points_written seed (suc n) h =
    both_written (points seed n) (point (tick_of seed (suc n))) (points_lines seed n) (point_lines (tick_of seed (suc n)))
    (points_written seed n (omega (arith, h))) (point_written (tick_of seed (suc n)) (omega (arith, h, tick_near seed (suc n))))

-- what session 1 sends
command_says : (text : List ℕ) → Says (codes "C 1 " ++ text) (Command 1 text)
command_says text = (codes "1", 32 ∷ text, number_is (codes "1") refl, inr refl, refl)

ending_written : (tick : ℕ) → tick < 2 ^ 64 → WritesLines (ending tick) (ending_lines tick)
ending_written tick h =
    both_written (line_at tick (codes " C 1 *PCAP.DISARM=")) (line_at tick (codes " E")) (Timed tick (Command 1 (codes "*PCAP.DISARM=")) ∷ []) (Timed tick End ∷ [])
    (written_at tick (codes " C 1 *PCAP.DISARM=") (codes "C 1 *PCAP.DISARM=") (Command 1 (codes "*PCAP.DISARM=")) h refl (no_newline (codes " C 1 *PCAP.DISARM=") refl) (command_says (codes "*PCAP.DISARM=")))
    (written_at tick (codes " E") (codes "E") End h refl (no_newline (codes " E") refl) refl)

-- what it sends at tick 0
set_written : (text : List ℕ) → list_all (λ b. not (nat_eq b 10)) text ≡ true → WritesLines (codes "0 C 1 " ++ (text ++ 10 ∷ [])) (Timed 0 (Command 1 text) ∷ [])
set_written text t = one_written (codes "0 C 1 " ++ text) (Timed 0 (Command 1 text)) (no_newline (codes "0 C 1 " ++ text) t) (codes "0", codes "C 1 " ++ text, number_is (codes "0") refl, command_says text, refl)

open_written : WritesLines (codes "0 D 1 BARE\n") (Timed 0 (OpenData 1 (codes "BARE")) ∷ [])
open_written = one_written (codes "0 D 1 BARE") (Timed 0 (OpenData 1 (codes "BARE"))) (no_newline (codes "0 D 1 BARE") refl) (codes "0", codes "D 1 BARE", number_is (codes "0") refl, (codes "1", codes " BARE", number_is (codes "1") refl, inr refl, refl), refl)

texts_written : (texts : List (List ℕ)) → list_all (list_all (λ b. not (nat_eq b 10))) texts ≡ true → WritesLines (bytes_of texts) (lines_of texts)
texts_written [] h = open_written
texts_written (text ∷ texts) h =
    let p = and_parts _ _ h in
    both_written (codes "0 C 1 " ++ (text ++ 10 ∷ [])) (bytes_of texts) (Timed 0 (Command 1 text) ∷ []) (lines_of texts) (set_written text p.0) (texts_written texts p.1)

settings_written : WritesLines settings (lines_of setting_texts)
unfolding settings
settings_written = texts_written setting_texts refl

made_written : (n seed : ℕ) → n ≤ 100000 → WritesLines (made n seed) (made_lines n seed)
made_written n seed h =
    both_written (settings ++ points seed n) (ending (tick_of seed n + 10)) (lines_of setting_texts ++ points_lines seed n) (ending_lines (tick_of seed n + 10))
    (both_written settings (points seed n) (lines_of setting_texts) (points_lines seed n) settings_written (points_written seed n h))
    (ending_written (tick_of seed n + 10) (omega (arith, h, tick_near seed n)))

-- That it keeps the rules.

-- the last tick of the first n points
abbrev last_of : ℕ → ℕ → ℕ
last_of seed zero = 0
last_of seed (suc n) = tick_of seed (suc n) + 1

last_before : (seed n : ℕ) → last_of seed n ≤ tick_of seed n + 1
last_before seed zero = omega arith
last_before seed (suc n) = omega arith

session_one : IsSession 1
session_one = (omega arith, omega arith)

level_one : MayHave (codes "TTLIN1") (pos 1)
unfolding inputs
level_one = (0, refl, inl (omega arith, inr refl))

level_zero : MayHave (codes "TTLIN1") (pos 0)
unfolding inputs
level_zero = (0, refl, inl (omega arith, inl refl))

points_keep : (seed n : ℕ) (rest : List Line) → n ≤ 100000 → KeepRules false (last_of seed n) rest → KeepRules false 0 (points_lines seed n ++ rest)
points_keep seed zero rest h keep = keep
points_keep seed (suc n) rest h keep =
    let tick = tick_of seed (suc n) in
    let near : tick ≤ 10 + 1025 * suc n = tick_near seed (suc n) in
    let keeps : KeepRules false (last_of seed n) (point_lines tick ++ rest) =
    (refl, omega (arith, near, h), omega (arith, last_before seed n), level_one, (refl, omega (arith, near, h), omega arith, level_zero, keep)) in
    subst (KeepRules false 0) (sym (append_assoc (points_lines seed n) (point_lines tick) rest)) (points_keep seed n (point_lines tick ++ rest) (omega (arith, h)) keeps)

ending_keeps : (last tick : ℕ) → last ≤ tick → tick < 2 ^ 62 → KeepRules false last (ending_lines tick)
ending_keeps last tick h fits = (refl, fits, h, session_one, (refl, fits, omega arith, tt, refl))

texts_keep : (texts : List (List ℕ)) (rest : List Line) → KeepRules false 0 rest → KeepRules false 0 (lines_of texts ++ rest)
texts_keep [] rest keep = (refl, omega arith, omega arith, session_one, keep)
texts_keep (text ∷ texts) rest keep = (refl, omega arith, omega arith, session_one, texts_keep texts rest keep)

made_keeps : (n seed : ℕ) → n ≤ 100000 → KeepRules false 0 (made_lines n seed)
made_keeps n seed h =
    texts_keep setting_texts (points_lines seed n ++ ending_lines (tick_of seed n + 10))
    (points_keep seed n (ending_lines (tick_of seed n + 10)) h
    (ending_keeps (last_of seed n) (tick_of seed n + 10) (omega (arith, last_before seed n)) (omega (arith, h, tick_near seed n))))

pub made_is_script : (n seed : ℕ) → n ≤ 100000 → (lines : List Line) × IsScript (made n seed) lines
made_is_script n seed h = (made_lines n seed, record { size = made_short n seed h; spelled = made_written n seed h; rules = made_keeps n seed h })

-- so no line of it breaks a rule
pub made_has_no_fault : (n seed : ℕ) (bytes : List ℕ) (line : ℕ) (cause : Cause) → n ≤ 100000 → bytes ≡ made n seed → ¬ (first_fault bytes ≡ Some (line, cause))
made_has_no_fault n seed bytes line cause h is fault =
    let script = made_is_script n seed h in
    none-some (line, cause) (sym (script_has_none (made n seed) script.0 script.1) ∙ (ap first_fault (sym is) ∙ fault))

-- The letter of a port, and the number of a session, which is one digit.
use Rattle.std.proofs.Common.{◌≡◌, ℕ, ◌+◌, ◌<◌, List, [], ◌∷◌, ◌++◌, codes, decimal, ap, ◌∙◌, arith}
use Rattle.std.proofs.lemmas.Fmt.{decimal_digit}
use Rattle.pb_core.specs.Sessions.{IsSession}
use Rattle.pb_replay.specs.declared.sections.Port.{Port}
use Rattle.pb_replay.specs.Output.{port_text}

one_digit : (session : ℕ) → IsSession session → decimal session ≡ (48 + session) ∷ []
one_digit session s = decimal_digit session (omega (arith, s.in_count))

pub receiver_is : (port : Port) (letter session : ℕ) → port_text port ≡ 32 ∷ letter ∷ 32 ∷ [] → IsSession session →
    port_text port ++ decimal session ++ codes " " ≡ 32 ∷ letter ∷ 32 ∷ (48 + session) ∷ 32 ∷ []
receiver_is port letter session e s =
    ap (λ front. front ++ decimal session ++ codes " ") e ∙ ap (λ digits. 32 ∷ letter ∷ 32 ∷ (digits ++ codes " ")) (one_digit session s)

-- and fewer than ten bytes
pub receiver_of_few_is : (port : Port) (letter session len : ℕ) → port_text port ≡ 32 ∷ letter ∷ 32 ∷ [] → IsSession session → len < 10 →
    port_text port ++ decimal session ++ codes " " ++ decimal len ++ codes "\n" ≡ 32 ∷ letter ∷ 32 ∷ (48 + session) ∷ 32 ∷ (48 + len) ∷ 10 ∷ []
receiver_of_few_is port letter session len e s few =
    ap (λ front. front ++ decimal session ++ codes " " ++ decimal len ++ codes "\n") e
    ∙ ap (λ digits. 32 ∷ letter ∷ 32 ∷ (digits ++ codes " " ++ decimal len ++ codes "\n")) (one_digit session s)
    ∙ ap (λ digits. 32 ∷ letter ∷ 32 ∷ (48 + session) ∷ 32 ∷ (digits ++ codes "\n")) (decimal_digit len few)

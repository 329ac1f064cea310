-- Words that are written out, and the ports at which they start the server.
use Rattle.std.proofs.Common.{◌≡◌, ℕ, ◌≤◌, true, List, [], ◌∷◌, All, codes, refl, arith}
use Rattle.std.specs.Str.{IsUtf8}
use Rattle.std.specs.Char.{encode_utf8}
use Rattle.std.proofs.lemmas.List.Elements.{All-nil, All-cons}
use Rattle.clap.proofs.OnLiterals.{clap_on_literals}
use Rattle.pb_words.specs.Numbers.{value_of}
use Rattle.pb_words.specs.Signed.{is_uint}
use Rattle.pb_words.proofs.ComputedLemmas.{uint_decides}
use Rattle.pb_cli.specs.ServeWords.{Finds, IsPort, StartsAt}

-- digits are the number that they write
is_port : (text : List ℕ) → is_uint text ≡ true → 1 ≤ value_of text → value_of text ≤ 65535 → IsPort text (value_of text)
is_port text h least most = record { number = record { grammar = (uint_decides text).0 h; value = refl }; least = least; most = most }

abbrev usual : List (List ℕ)
usual = codes "serve" ∷ []

abbrev given : List (List ℕ)
given = codes "serve" ∷ codes "--data=9001" ∷ codes "--control" ∷ codes "09000" ∷ []

usual_control : Finds usual (codes "control") (codes "8888")
unfolding clap_on_literals
usual_control = record { taken = refl; value = refl }

usual_records : Finds usual (codes "data") (codes "8889")
unfolding clap_on_literals
usual_records = record { taken = refl; value = refl }

given_control : Finds given (codes "control") (codes "09000")
unfolding clap_on_literals
given_control = record { taken = refl; value = refl }

given_records : Finds given (codes "data") (codes "9001")
unfolding clap_on_literals
given_records = record { taken = refl; value = refl }

usual_texts : All IsUtf8 usual
unfolding encode_utf8
usual_texts = All-cons IsUtf8 (codes "serve") [] (codes "serve", (refl, refl)) (All-nil IsUtf8)

given_texts : All IsUtf8 given
unfolding encode_utf8
given_texts =
    All-cons IsUtf8 (codes "serve") (codes "--data=9001" ∷ codes "--control" ∷ codes "09000" ∷ []) (codes "serve", (refl, refl))
    (All-cons IsUtf8 (codes "--data=9001") (codes "--control" ∷ codes "09000" ∷ []) (codes "--data=9001", (refl, refl))
    (All-cons IsUtf8 (codes "--control") (codes "09000" ∷ []) (codes "--control", (refl, refl))
    (All-cons IsUtf8 (codes "09000") [] (codes "09000", (refl, refl)) (All-nil IsUtf8))))

pub usual_ports : StartsAt usual (record { control = 8888; records = 8889 })
usual_ports =
    record {
      first = refl;
      texts = usual_texts;
      control = record { text = codes "8888"; found = usual_control; port_is = is_port (codes "8888") refl (omega arith) (omega arith) };
      records = record { text = codes "8889"; found = usual_records; port_is = is_port (codes "8889") refl (omega arith) (omega arith) };
      apart = λ e. absurd (omega (arith, e));
    }

pub given_ports : StartsAt given (record { control = 9000; records = 9001 })
given_ports =
    record {
      first = refl;
      texts = given_texts;
      control = record { text = codes "09000"; found = given_control; port_is = is_port (codes "09000") refl (omega arith) (omega arith) };
      records = record { text = codes "9001"; found = given_records; port_is = is_port (codes "9001") refl (omega arith) (omega arith) };
      apart = λ e. absurd (omega (arith, e));
    }

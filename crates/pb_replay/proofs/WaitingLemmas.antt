-- What waits of the sessions after one of them sent something.
use Rattle.std.proofs.Common.{◌≡◌, ◌≢◌, ℕ, ◌-◌, ◌<◌, List, [], length, get_or, set, refl, sym, subst, inl, inr, ◌∙◌, arith}
use Rattle.std.proofs.lemmas.List.{length-set, get_or-set_same, get_or-set_other, get_or-replicate}
use Rattle.std.proofs.lemmas.Bool.{cases_lt}
use Rattle.pb_grammar.specs.Feeding.{Kept, Fed, nothing}
use Rattle.pb_core.specs.Sessions.{IsSession}
use Rattle.pb_replay.specs.Events.{nothing_waits, waits_of, with_waiting}
use Rattle.pb_replay.specs.Waiting.{AreFed, kept_of}

-- two sessions that aren't the same
other_one : (assemblers : List Kept) (waiting : List (List ℕ)) (session other : ℕ) (kept : Kept) (bytes : List ℕ) → other - 1 ≢ session - 1 → Fed (kept_of assemblers other) (waits_of waiting other) →
    Fed (kept_of (set assemblers (session - 1) kept) other) (waits_of (with_waiting session bytes waiting) other)
other_one assemblers waiting session other kept bytes apart h =
    subst (λ k. Fed k (waits_of (with_waiting session bytes waiting) other)) (sym (get_or-set_other assemblers (session - 1) (other - 1) kept nothing apart))
    (subst (λ w. Fed (kept_of assemblers other) w) (sym (get_or-set_other waiting (session - 1) (other - 1) bytes [] apart)) h)

same_one : (assemblers : List Kept) (waiting : List (List ℕ)) (session : ℕ) (kept : Kept) (bytes : List ℕ) → session - 1 < length assemblers → session - 1 < length waiting → Fed kept bytes →
    Fed (kept_of (set assemblers (session - 1) kept) session) (waits_of (with_waiting session bytes waiting) session)
same_one assemblers waiting session kept bytes room place h =
    subst (λ k. Fed k (waits_of (with_waiting session bytes waiting) session)) (sym (get_or-set_same assemblers (session - 1) kept nothing room))
    (subst (λ w. Fed kept w) (sym (get_or-set_same waiting (session - 1) bytes [] place)) h)

-- the assembler of a session was fed other bytes
pub fed_set : (assemblers : List Kept) (waiting : List (List ℕ)) (session : ℕ) (kept : Kept) (bytes : List ℕ) → length assemblers ≡ 8 → IsSession session → AreFed assemblers waiting → Fed kept bytes →
    AreFed (set assemblers (session - 1) kept) (with_waiting session bytes waiting)
fed_set assemblers waiting session kept bytes eight is fed h =
    record {
      eight = length-set waiting (session - 1) bytes ∙ fed.eight;
      each = λ other there.
          elim (cases_lt other session) [
            | inl below ↦ other_one assemblers waiting session other kept bytes (λ e. omega (arith, e, below, there.from_one, is.from_one)) (fed.each other there)
            | inr least ↦ elim (cases_lt session other) [
              | inl above ↦ other_one assemblers waiting session other kept bytes (λ e. omega (arith, e, above, there.from_one, is.from_one)) (fed.each other there)
              | inr most ↦
                  let same : session ≡ other = omega (arith, least, most) in
                  subst (λ s. Fed (kept_of (set assemblers (session - 1) kept) s) (waits_of (with_waiting session bytes waiting) s)) same
                  (same_one assemblers waiting session kept bytes (omega (arith, eight, is.from_one, is.in_count)) (omega (arith, fed.eight, is.from_one, is.in_count)) h)
            ]
          ];
    }

-- nothing was fed to any of them
pub none_fed_of : (assemblers : List Kept) → ((i : ℕ) → i < 8 → Fed (get_or assemblers i nothing) []) → AreFed assemblers nothing_waits
none_fed_of assemblers h =
    record {
      eight = refl;
      each = λ session is.
          let place : session - 1 < 8 = omega (arith, is.from_one, is.in_count) in
          subst (λ w. Fed (kept_of assemblers session) w) (sym (get_or-replicate 8 (session - 1) [] [] place)) (h (session - 1) place);
    }

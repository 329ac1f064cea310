-- What has been written of a script's output, or put together to be written, event by event and line by line.
use Rattle.std.proofs.Common.{◌≡◌, ◌≢◌, ℕ, ◌+◌, ◌<◌, ◌≤◌, List, [], ◌∷◌, ◌++◌, length, Option, Some, None, refl, sym, ap, subst, inl, inr, ◌∙◌, arith}
use Rattle.std.proofs.lemmas.List.{append_assoc, append-nil}
use Rattle.pb_ports.specs.Ports.{Adds, Rose}
use Rattle.pb_core.specs.declared.Event.{Event}
use Rattle.pb_core.specs.Answer.{CoreState, after, after_all}
use Rattle.pb_replay.specs.declared.played.Told.{Told}
use Rattle.pb_replay.specs.declared.played.Told.TheVariants as ends
use Rattle.pb_replay.specs.declared.played.Played.{Played}
use Rattle.pb_replay.specs.declared.played.Played.TheVariants as plays
use Rattle.pb_replay.specs.Output.{written, sections}
use Rattle.pb_replay.specs.Plays.{AddsFront}
use Rattle.pb_replay.specs.Pending.{PlaysOn, PlaysLine, played_of}

-- Pieces, one after the other.

pub adds_twice : (old mid new : Option (List ℕ)) (a b : List ℕ) → Adds old a mid → Adds mid b new → Adds old (a ++ b) new
adds_twice None None new a b h k = k
adds_twice None (Some held) new a b h k = cc
adds_twice (Some held) None new a b h k = cc
adds_twice (Some held) (Some more) new a b h k =
    let same : more ≡ held ++ a = cc in
    k ∙ ap Some (ap (λ x. x ++ b) same ∙ append_assoc held a b)

pub adds_none : (old : Option (List ℕ)) → Adds old [] old
adds_none None = refl
adds_none (Some held) = ap Some (sym (append-nil held))

-- what the second of two parts leaves, said of both
two_parts : (before a b front mid more rest : List ℕ) → before ++ a ≡ front ++ mid → mid ++ b ≡ more ++ rest → before ++ (a ++ b) ≡ (front ++ more) ++ rest
two_parts before a b front mid more rest h k =
    sym (append_assoc before a b)
    ∙ (ap (λ x. x ++ b) h
    ∙ (append_assoc front mid b
    ∙ (ap (λ x. front ++ x) k ∙ sym (append_assoc front more rest))))

-- a part that was played, and the next one
pub plays_on_twice : (end : Told) (a b p0 p1 p2 : List ℕ) (h0 h1 h2 : Option (List ℕ)) → PlaysOn a ends.Ok p0 h0 p1 h1 → PlaysOn b end p1 h1 p2 h2 → PlaysOn (a ++ b) end p0 h0 p2 h2
plays_on_twice ends.Ok a b p0 p1 p2 h0 h1 h2 m k = (m.0 ++ k.0, two_parts p0 a b m.0 p1 k.0 p2 m.1 k.1, adds_twice h0 h1 h2 m.0 k.0 m.2 k.2)
plays_on_twice ends.WriteFault a b p0 p1 p2 h0 h1 h2 m k = (m.0 ++ k.0, k.1, two_parts p0 a b m.0 p1 k.0 k.1 m.1 k.2, adds_twice h0 h1 h2 m.0 k.0 m.2 k.3)
plays_on_twice ends.OutOfMemory a b p0 p1 p2 h0 h1 h2 m k = (m.0 ++ k.0, k.1, two_parts p0 a b m.0 p1 k.0 k.1 m.1 k.2, adds_twice h0 h1 h2 m.0 k.0 m.2 k.3)

front_more : (before a b : List ℕ) (h0 h1 : Option (List ℕ)) → AddsFront h0 (before ++ a) h1 → AddsFront h0 (before ++ (a ++ b)) h1
front_more before a b h0 h1 f =
    (f.0, f.1 ++ b, sym (append_assoc before a b) ∙ (ap (λ x. x ++ b) f.2 ∙ append_assoc f.0 f.1 b), f.3)

-- a part that breaks off, and what would have come behind it
pub plays_on_break : (end : Told) (a b p0 p1 : List ℕ) (h0 h1 : Option (List ℕ)) → end ≢ ends.Ok → PlaysOn a end p0 h0 p1 h1 → PlaysOn (a ++ b) end p0 h0 p1 h1
plays_on_break ends.Ok a b p0 p1 h0 h1 other m = absurd (other refl)
plays_on_break ends.WriteFault a b p0 p1 h0 h1 other m = front_more p0 a b h0 h1 m
plays_on_break ends.OutOfMemory a b p0 p1 h0 h1 other m = front_more p0 a b h0 h1 m

-- nothing is played
pub plays_on_nothing : (p : List ℕ) (h : Option (List ℕ)) → PlaysOn [] ends.Ok p h p h
plays_on_nothing p h = ([], append-nil p, adds_none h)

-- nothing is written
pub front_none : (bytes : List ℕ) (h : Option (List ℕ)) → AddsFront h bytes h
front_none bytes h = ([], bytes, refl, adds_none h)

pub rose_later : (old mid new : ℕ) → old ≤ mid → Rose mid new → Rose old new
rose_later old mid new le (inl h) = inl (omega arith)
rose_later old mid new le (inr h) = inr h

-- Events.

-- the sections of some events, and then of more
pub sections-append : (events more : List Event) (core : CoreState) → sections core (events ++ more) ≡ sections core events ++ sections (after_all core events) more
sections-append [] more core = refl
sections-append (event ∷ events) more core =
    ap (λ x. written core event ++ x) (sections-append events more (after core event))
    ∙ sym (append_assoc (written core event) (sections (after core event) events) (sections (after_all (after core event) events) more))

pub after_all-append : (events more : List Event) (core : CoreState) → after_all core (events ++ more) ≡ after_all (after_all core events) more
after_all-append [] more core = refl
after_all-append (event ∷ events) more core = after_all-append events more (after core event)

-- what was told is how a line is played
pub line_plays : (told : Told) (end : Played) (bytes before p : List ℕ) (old now : Option (List ℕ)) → end ≡ played_of told → PlaysOn bytes told before old p now → PlaysLine bytes end before old p now
line_plays told end bytes before p old now is h = subst (λ e. PlaysLine bytes e before old p now) (sym is) (by told h)
  where
    by : (t : Told) → PlaysOn bytes t before old p now → PlaysLine bytes (played_of t) before old p now
    by ends.Ok k = k
    by ends.WriteFault k = k
    by ends.OutOfMemory k = k

-- it was played where all was told
pub played_ok : (told : Told) → played_of told ≡ plays.Ok → told ≡ ends.Ok
played_ok ends.Ok e = refl
played_ok ends.WriteFault e = cc
played_ok ends.OutOfMemory e = cc

-- nothing is written where an advance ends it
pub line_stops : (end : Played) (bytes before p : List ℕ) (old : Option (List ℕ)) → end ≢ plays.Ok → ¬ (end ≡ plays.WriteFault) → PlaysLine bytes end before old p old
line_stops plays.Ok bytes before p old other known = absurd (other refl)
line_stops plays.WriteFault bytes before p old other known = absurd (known refl)
line_stops plays.OutOfMemory bytes before p old other known = front_none (before ++ bytes) old
line_stops (plays.EventLimit tick) bytes before p old other known = tt

-- nor where memory is wanting for what no session is told
pub told_stops : (told : Told) (bytes before p : List ℕ) (old : Option (List ℕ)) → told ≢ ends.Ok → ¬ (told ≡ ends.WriteFault) → PlaysOn bytes told before old p old
told_stops ends.Ok bytes before p old other known = absurd (other refl)
told_stops ends.WriteFault bytes before p old other known = absurd (known refl)
told_stops ends.OutOfMemory bytes before p old other known = front_none (before ++ bytes) old

pub told_from : (told : Told) (bytes before p q : List ℕ) (old now : Option (List ℕ)) → p ≡ before → PlaysOn bytes told p old q now → PlaysOn bytes told before old q now
told_from told bytes before p q old now same h = subst (λ b. PlaysOn bytes told b old q now) same h

-- What a reader is handed over time: one event more.
use Rattle.std.proofs.Common.{◌≡◌, refl, sym, ap, subst, ◌∙◌, ℕ, zero, suc, ◌+◌, ◌/◌, true, false, cond, nat_lt, List, [], ◌∷◌, ◌++◌, length, map, take, drop, Option, Some, None, All, arith, append_assoc, append-nil, length-append}
use Rattle.std.proofs.lemmas.Bool.{cond_both, cond-true, cond-false}
use Rattle.std.proofs.lemmas.List.{map-append, length-map, drop_at, take-append-drop}
use Rattle.std.proofs.lemmas.List.Elements.{All-push}
use Rattle.std.proofs.lemmas.Grind.{flat_map-append}
use Rattle.std.specs.List.{flat_map, slice_get}
use Rattle.std.specs.Option.{option_to_list, unwrap_or}
use Rattle.pb_buses.specs.declared.Condition.{Condition}
use Rattle.pb_buses.specs.declared.Record.{Record}
use Rattle.pb_pcap.specs.Records.{records_bytes}
use Rattle.pb_encode.specs.declared.options.Options.{Options}
use Rattle.pb_encode.specs.Encoding.{header, piece, end}
use Rattle.pb_pcap.specs.Fields.{size_of}
use Rattle.pb_acquire.specs.declared.acquiring.TheConstants as limits
use Rattle.pb_acquire.specs.declared.readers.Reader.{Reader}
use Rattle.pb_acquire.specs.declared.readers.Taken.{Taken}
use Rattle.pb_acquire.specs.declared.readers.Taken.TheVariants as takes
use Rattle.pb_acquire.specs.Readers.{reader_from, after_records, after_end}
use Rattle.pb_acquire.specs.Acquisitions.{Acquisition, with_record, with_condition}
use Rattle.pb_acquire.specs.Taking.{taken, taken_if_armed, header_taken, records_taken, end_taken, next_records}
use Rattle.pb_acquire.specs.Streams.{bytes_in, Share, joined, IsWhole, raw_pieces, share_bytes, front_bytes, next_of, reader_within, HasFront, at_its_end, at_a_start, within, IsGiven, RunsOn}
use Rattle.pb_acquire.proofs.TakingLemmas.{reader_after}

-- The next acquisition, when something happens to the one that runs.

next_armed : (others : List Acquisition) (running : Option Acquisition) (more a : Acquisition) → running ≡ None → next_of others running ≡ Some a →
    next_of others (Some more) ≡ Some a
next_armed [] running more a none is = absurd (none_some a (sym none ∙ is))
  where
    none_some : (x : Acquisition) → None ≡ Some x → ⊥
    none_some x e = cc
next_armed (x ∷ others) running more a none is = is

pub front_armed :
    (options : Options) (place : ℕ) (others : List Acquisition) (running : Option Acquisition) (more : Acquisition) (reader : Reader) (bytes : List ℕ) →
    running ≡ None → HasFront options place (next_of others running) reader bytes → HasFront options place (next_of others (Some more)) reader bytes
front_armed options place others running more reader bytes none (at_its_end e b) = at_its_end e b
front_armed options place others running more reader bytes none (at_a_start e b) = at_a_start e b
front_armed options place others running more reader bytes none (within a cut left is r rows b) =
    within a cut left (next_armed others running more a none is) r rows b

pub front_recorded :
    (options : Options) (place : ℕ) (others : List Acquisition) (running : Option Acquisition) (row : Record) (reader : Reader) (bytes : List ℕ) →
    HasFront options place (next_of others running) reader bytes → HasFront options place (next_of others (with_record row running)) reader bytes
front_recorded options place others running row reader bytes (at_its_end e b) = at_its_end e b
front_recorded options place others running row reader bytes (at_a_start e b) = at_a_start e b
front_recorded options place (x ∷ others) running row reader bytes (within a cut left is r rows b) = within a cut left is r rows b
front_recorded options place [] None row reader bytes (within a cut left is r rows b) = cc
front_recorded options place [] (Some x) row reader bytes (within a cut left is r rows b) =
    let same : x ≡ a = ap (λ o. unwrap_or o x) is in
    within (record { number = x.number; layout = x.layout; records = x.records ++ row ∷ []; condition = x.condition }) cut (left ++ row ∷ []) refl r
    (sym (append_assoc (joined cut) left (row ∷ [])) ∙ ap (λ rs. rs ++ row ∷ []) (rows ∙ ap (λ y. y.records) (sym same)))
    (b ∙ ap (λ y. front_bytes options y cut) (sym same))

pub front_ended :
    (options : Options) (place : ℕ) (others : List Acquisition) (running : Option Acquisition) (condition : Condition) (reader : Reader) (bytes : List ℕ) →
    HasFront options place (next_of others running) reader bytes → HasFront options place (next_of (others ++ with_condition condition running) None) reader bytes
front_ended options place others running condition reader bytes (at_its_end e b) = at_its_end e b
front_ended options place others running condition reader bytes (at_a_start e b) = at_a_start e b
front_ended options place (x ∷ others) running condition reader bytes (within a cut left is r rows b) = within a cut left is r rows b
front_ended options place [] None condition reader bytes (within a cut left is r rows b) = cc
front_ended options place [] (Some x) condition reader bytes (within a cut left is r rows b) =
    let same : x ≡ a = ap (λ o. unwrap_or o x) is in
    within (record { number = x.number; layout = x.layout; records = x.records; condition = Some condition }) cut left refl r
    (rows ∙ ap (λ y. y.records) (sym same))
    (b ∙ ap (λ y. front_bytes options y cut) (sym same))

-- A reader's own is the next one.

first_running : (running : Option Acquisition) → slice_get (option_to_list running) 0 ≡ running
first_running None = refl
first_running (Some a) = refl

own_next :
    (front others : List Acquisition) (running : Option Acquisition) (i : ℕ) → i ≡ length front →
    slice_get (front ++ others ++ option_to_list running) i ≡ next_of others running
own_next [] [] running i e = rw e (first_running running)
own_next [] (x ∷ others) running i e = rw e refl
own_next (x ∷ front) others running zero e = absurd (omega (arith, e))
own_next (x ∷ front) others running (suc i) e = own_next front others running i (omega (arith, e))

-- A reader takes.

abbrev Took : Options → ℕ → List Acquisition → Option Acquisition → List ℕ → Reader → Taken → Type 0
Took options before completed running bytes reader t =
    IsGiven options before (Some (reader_after reader t)) completed running (bytes ++ bytes_in t)

-- the records that were taken, and those that are left
cut_more : (cut : List (List Record)) (left : List Record) (records : List Record) (most : ℕ) → joined cut ++ left ≡ records →
    (drop (length (joined cut)) records ≡ left)
    × (joined (cut ++ take most left ∷ []) ++ drop most left ≡ records)
    × (length (joined cut) + length (take most left) ≡ length (joined (cut ++ take most left ∷ [])))
cut_more cut left records most rows =
    let joined_is : joined (cut ++ take most left ∷ []) ≡ joined cut ++ take most left =
    flat_map-append (λ rs. rs) cut (take most left ∷ []) ∙ ap (λ rs. joined cut ++ rs) (append-nil (take most left)) in (
      rw (← rows) (drop_at (joined cut) left (length (joined cut)) refl),
      rw joined_is (append_assoc (joined cut) (take most left) (drop most left) ∙ ap (λ rs. joined cut ++ rs) (take-append-drop most left) ∙ rows),
      rw joined_is (sym (length-append (joined cut) (take most left))),
    )

front_more : (options : Options) (a : Acquisition) (cut : List (List Record)) (rows : List Record) →
    front_bytes options a cut ++ piece options a.layout (records_bytes a.layout rows) ≡ front_bytes options a (cut ++ rows ∷ [])
front_more options a cut rows =
    let raw : raw_pieces a (cut ++ rows ∷ []) ≡ raw_pieces a cut ++ records_bytes a.layout rows ∷ [] = map-append (records_bytes a.layout) cut (rows ∷ []) in
    let pieces : flat_map (piece options a.layout) (raw_pieces a (cut ++ rows ∷ [])) ≡ flat_map (piece options a.layout) (raw_pieces a cut) ++ piece options a.layout (records_bytes a.layout rows) =
    ap (flat_map (piece options a.layout)) raw ∙ flat_map-append (piece options a.layout) (raw_pieces a cut) (records_bytes a.layout rows ∷ [])
    ∙ ap (λ bs. flat_map (piece options a.layout) (raw_pieces a cut) ++ bs) (append-nil (piece options a.layout (records_bytes a.layout rows))) in
    append_assoc (cond options.header (header options a.layout) []) (flat_map (piece options a.layout) (raw_pieces a cut)) (piece options a.layout (records_bytes a.layout rows))
    ∙ ap (λ bs. cond options.header (header options a.layout) [] ++ bs) (sym pieces)

-- nothing changes
took_nothing : (options : Options) (before : ℕ) (completed : List Acquisition) (running : Option Acquisition) (bytes : List ℕ) (reader : Reader) →
    IsGiven options before (Some reader) completed running bytes → IsGiven options before (Some reader) completed running (bytes ++ [])
took_nothing options before completed running bytes reader given =
    subst (λ bs. IsGiven options before (Some reader) completed running bs) (sym (append-nil bytes)) given

-- a reader that is further with the next one
further :
    (options : Options) (before : ℕ) (completed : List Acquisition) (running : Option Acquisition) (bytes more : List ℕ) (reader after : Reader) (front : List ℕ) →
    (given : IsGiven options before (Some reader) completed running bytes) → after.has_ended ≡ reader.has_ended → given.front ++ more ≡ front →
    HasFront options (before + length given.shares) (next_of given.others running) after front →
    IsGiven options before (Some after) completed running (bytes ++ more)
further options before completed running bytes more reader after front given as_ended added stands =
    let same : reader ≡ given.its = ap (λ o. unwrap_or o reader) given.is in
    record {
      earlier = given.earlier;
      shares = given.shares;
      others = given.others;
      front = front;
      its = after;
      is = refl;
      since = given.since;
      they_are = given.they_are;
      whole = given.whole;
      alone = λ one. given.alone one ∙ ap (λ b. cond b 1 0) (ap (λ rd. rd.has_ended) (sym same) ∙ sym as_ended);
      stands = stands;
      told =
          ap (λ bs. bs ++ more) given.told ∙ append_assoc (flat_map (share_bytes options) given.shares) given.front more
          ∙ ap (λ bs. flat_map (share_bytes options) given.shares ++ bs) added;
    }

records_step :
    (options : Options) (before : ℕ) (completed : List Acquisition) (running : Option Acquisition) (bytes : List ℕ) (place : ℕ) (a : Acquisition)
    (cut : List (List Record)) (left : List Record) →
    (given : IsGiven options before (Some (reader_within options place (length (joined cut)))) completed running bytes) →
    place ≡ before + length given.shares → next_of given.others running ≡ Some a → joined cut ++ left ≡ a.records →
    given.front ≡ front_bytes options a cut →
    Took options before completed running bytes (reader_within options place (length (joined cut)))
    (records_taken (reader_within options place (length (joined cut))) a)
records_step options before completed running bytes place a cut left given at is rows front =
    let most = limits.PIECE_LIMIT / size_of a.layout in
    let now : Reader = reader_within options place (length (joined cut)) in
    let taken_rows : List Record = take most left in
    let m = cut_more cut left a.records most rows in
    let rows_is : next_records now a ≡ taken_rows = ap (take most) m.0 in
    let more : List (List Record) = cut ++ taken_rows ∷ [] in
    let after : Reader = reader_within options place (length (joined more)) in
    let stands : HasFront options (before + length given.shares) (next_of given.others running) after (front_bytes options a more) =
    within a more (drop most left) is (ap (λ p. reader_within options p (length (joined more))) at) m.1 refl in
    let added = ap (λ bs. bs ++ piece options a.layout (records_bytes a.layout taken_rows)) front ∙ front_more options a cut taken_rows in
    let f = further options before completed running bytes (piece options a.layout (records_bytes a.layout taken_rows)) now after (front_bytes options a more) given refl added stands in
    let g = subst (λ rd. IsGiven options before (Some rd) completed running (bytes ++ piece options a.layout (records_bytes a.layout taken_rows)))
    (sym (ap (reader_within options place) m.2)) f in
    subst (λ rs. IsGiven options before (Some (after_records now (length rs))) completed running (bytes ++ piece options a.layout (records_bytes a.layout rs)))
    (sym rows_is) g

over_not_running : (running : Option Acquisition) (a : Acquisition) (condition : Condition) → running ≡ Some a → RunsOn running →
    a.condition ≡ Some condition → ⊥
over_not_running None a condition is runs over = cc
over_not_running (Some x) a condition is runs over =
    let same : x ≡ a = ap (λ o. unwrap_or o x) is in
    let never : None ≡ Some condition = sym runs ∙ ap (λ y. y.condition) same ∙ over in
    none_is_some condition never
  where
    none_is_some : (c : Condition) → None ≡ Some c → ⊥
    none_is_some c e = cc

abbrev share : Acquisition → List (List Record) → Condition → Share
share a cut condition = record { acquisition = a; cut = cut; condition = condition }

ended_given :
    (options : Options) (before : ℕ) (earlier : List Acquisition) (shares : List Share) (others completed : List Acquisition) (running : Option Acquisition)
    (front bytes : List ℕ) (a : Acquisition) (cut : List (List Record)) (condition : Condition) (after : Reader) →
    length earlier ≡ before → completed ≡ earlier ++ map (λ s. s.acquisition) shares ++ others → All IsWhole shares →
    (options.one_shot ≡ true → length shares ≡ 0) → after.has_ended ≡ options.one_shot →
    next_of others running ≡ Some a → RunsOn running → joined cut ≡ a.records → a.condition ≡ Some condition →
    front ≡ front_bytes options a cut → bytes ≡ flat_map (share_bytes options) shares ++ front →
    ((next : Option Acquisition) → HasFront options (before + length (shares ++ share a cut condition ∷ [])) next after []) →
    IsGiven options before (Some after) completed running (bytes ++ end options (length a.records) condition)
ended_given options before earlier shares [] completed running front bytes a cut condition after since they_are whole none as_ended is runs rows over fronted told stands =
    absurd (over_not_running running a condition is runs over)
ended_given options before earlier shares (x ∷ others) completed running front bytes a cut condition after since they_are whole none as_ended is runs rows over fronted told stands =
    let same : x ≡ a = ap (λ o. unwrap_or o x) is in
    let s : Share = share a cut condition in
    let those : List Acquisition = map (λ y. y.acquisition) shares in
    let m : map (λ y. y.acquisition) (shares ++ s ∷ []) ≡ those ++ a ∷ [] = map-append (λ y. y.acquisition) shares (s ∷ []) in
    let given : List ℕ = flat_map (share_bytes options) shares in
    let the_end : List ℕ = end options (length a.records) condition in
    let all : flat_map (share_bytes options) (shares ++ s ∷ []) ≡ given ++ share_bytes options s =
    flat_map-append (share_bytes options) shares (s ∷ []) ∙ ap (λ bs. given ++ bs) (append-nil (share_bytes options s)) in
    record {
      earlier = earlier;
      shares = shares ++ s ∷ [];
      others = others;
      front = [];
      its = after;
      is = refl;
      since = since;
      they_are =
          they_are ∙ ap (λ y. (earlier ++ those) ++ y ∷ others) same ∙ sym (append_assoc (earlier ++ those) (a ∷ []) others)
          ∙ ap (λ z. z ++ others) (append_assoc earlier those (a ∷ [])) ∙ ap (λ z. (earlier ++ z) ++ others) (sym m);
      whole = All-push IsWhole shares s whole (record { all_records = rows; over = over });
      alone = λ one. (let longer = length-append shares (s ∷ []) in let zero_before = none one in rw (as_ended, one) (omega (arith, longer, zero_before)));
      stands = stands (next_of others running);
      told =
          ap (λ b. b ++ the_end) told ∙ append_assoc given front the_end ∙ ap (λ f. given ++ (f ++ the_end)) fronted
          ∙ sym (append-nil (flat_map (share_bytes options) (shares ++ s ∷ [])) ∙ all);
    }

none_left : (front left records : List Record) → front ++ left ≡ records → nat_lt (length front) (length records) ≡ false → front ≡ records
none_left front [] records e at_most = sym (append-nil front) ∙ e
none_left front (r ∷ left) records e at_most =
    let more : length records ≡ length front + suc (length left) = sym (ap length e) ∙ length-append front (r ∷ left) in
    absurd (grind (arith, more, at_most))

end_step :
    (options : Options) (before : ℕ) (completed : List Acquisition) (running : Option Acquisition) (bytes : List ℕ) (place : ℕ) (a : Acquisition)
    (cut : List (List Record)) (condition : Option Condition) →
    (given : IsGiven options before (Some (reader_within options place (length (joined cut)))) completed running bytes) → RunsOn running →
    place ≡ before + length given.shares → next_of given.others running ≡ Some a → joined cut ≡ a.records →
    given.front ≡ front_bytes options a cut → a.condition ≡ condition →
    Took options before completed running bytes (reader_within options place (length (joined cut)))
    (end_taken (reader_within options place (length (joined cut))) (length a.records) condition)
end_step options before completed running bytes place a cut None given runs at is rows front over =
    took_nothing options before completed running bytes (reader_within options place (length (joined cut))) given
end_step options before completed running bytes place a cut (Some condition) given runs at is rows front over =
    let now : Reader = reader_within options place (length (joined cut)) in
    let s : Share = share a cut condition in
    let same : now ≡ given.its = ap (λ o. unwrap_or o now) given.is in
    let longer : length (given.shares ++ s ∷ []) ≡ length given.shares + 1 = length-append given.shares (s ∷ []) in
    let next_place : place + 1 ≡ before + length (given.shares ++ s ∷ []) = omega (arith, at, longer) in
    ended_given options before given.earlier given.shares given.others completed running given.front bytes a cut condition (after_end now)
    given.since given.they_are given.whole
    (λ one. given.alone one ∙ ap (λ rd. cond rd.has_ended 1 0) (sym same))
    (cond_both options.one_shot (record now { has_ended = true }) (reader_from options (place + 1)) (λ rd. rd.has_ended ≡ options.one_shot) (λ one. sym one) (λ many. sym many))
    is runs rows over front given.told
    (λ next. cond_both options.one_shot (record now { has_ended = true }) (reader_from options (place + 1))
    (λ rd. HasFront options (before + length (given.shares ++ s ∷ [])) next rd [])
    (λ _. at_its_end refl refl)
    (λ _. at_a_start (ap (reader_from options) next_place) refl))

-- of one whose header isn't owed
abbrev taken_within : Reader → Acquisition → Taken
taken_within reader a =
    cond (nat_lt reader.given (length a.records)) (records_taken reader a) (end_taken reader (length a.records) a.condition)

within_step :
    (options : Options) (before : ℕ) (completed : List Acquisition) (running : Option Acquisition) (bytes : List ℕ) (place : ℕ) (a : Acquisition)
    (cut : List (List Record)) (left : List Record) →
    (given : IsGiven options before (Some (reader_within options place (length (joined cut)))) completed running bytes) → RunsOn running →
    place ≡ before + length given.shares → next_of given.others running ≡ Some a → joined cut ++ left ≡ a.records →
    given.front ≡ front_bytes options a cut →
    Took options before completed running bytes (reader_within options place (length (joined cut)))
    (taken_within (reader_within options place (length (joined cut))) a)
within_step options before completed running bytes place a cut left given runs at is rows front =
    let now : Reader = reader_within options place (length (joined cut)) in
    cond_both (nat_lt (length (joined cut)) (length a.records)) (records_taken now a) (end_taken now (length a.records) a.condition)
    (Took options before completed running bytes now)
    (λ _. records_step options before completed running bytes place a cut left given at is rows front)
    (λ none. end_step options before completed running bytes place a cut a.condition given runs at is (none_left (joined cut) left a.records rows none) front refl)

-- the same of an equal reader
abbrev as_reader :
    (options : Options) (before : ℕ) (completed : List Acquisition) (running : Option Acquisition) (bytes : List ℕ) (reader after : Reader) →
    (given : IsGiven options before (Some reader) completed running bytes) → reader ≡ after → IsGiven options before (Some after) completed running bytes
as_reader options before completed running bytes reader after given e =
    let same : reader ≡ given.its = ap (λ o. unwrap_or o reader) given.is in
    record {
      earlier = given.earlier;
      shares = given.shares;
      others = given.others;
      front = given.front;
      its = after;
      is = refl;
      since = given.since;
      they_are = given.they_are;
      whole = given.whole;
      alone = λ one. given.alone one ∙ ap (λ rd. cond rd.has_ended 1 0) (sym same ∙ e);
      stands = subst (λ rd. HasFront options (before + length given.shares) (next_of given.others running) rd given.front) (sym same ∙ e) given.stands;
      told = given.told;
    }

start_step :
    (options : Options) (before : ℕ) (completed : List Acquisition) (running next : Option Acquisition) (bytes : List ℕ) (place : ℕ) →
    (given : IsGiven options before (Some (reader_from options place)) completed running bytes) → RunsOn running →
    place ≡ before + length given.shares → next_of given.others running ≡ next → given.front ≡ [] →
    Took options before completed running bytes (reader_from options place) (taken_if_armed (reader_from options place) next)
start_step options before completed running None bytes place given runs at is front =
    took_nothing options before completed running bytes (reader_from options place) given
start_step options before completed running (Some a) bytes place given runs at is front =
    let fresh : Reader = reader_from options place in
    cond_both options.header (header_taken fresh a) (taken_within fresh a) (Took options before completed running bytes fresh)
    (λ wanted.
    (let shown : front_bytes options a [] ≡ header options a.layout =
    append-nil (cond options.header (header options a.layout) []) ∙ cond-true options.header (header options a.layout) [] wanted in
    further options before completed running bytes (header options a.layout) fresh (reader_within options place 0) (front_bytes options a []) given refl
    (ap (λ bs. bs ++ header options a.layout) front ∙ sym shown)
    (within a [] a.records is (ap (λ p. reader_within options p 0) at) refl refl)))
    (λ unwanted.
    (let same : fresh ≡ reader_within options place 0 = ap (λ b. record (reader_from options place) { header_is_owed = b }) unwanted in
    let shown : front_bytes options a [] ≡ [] =
    append-nil (cond options.header (header options a.layout) []) ∙ cond-false options.header (header options a.layout) [] unwanted in
    let given_within = as_reader options before completed running bytes fresh (reader_within options place 0) given same in
    subst (λ rd. Took options before completed running bytes rd (taken_within rd a)) (sym same)
    (within_step options before completed running bytes place a [] a.records given_within runs at is refl (front ∙ sym shown))))

-- A reader takes of what is its own.

abbrev taken_at : List Acquisition → Option Acquisition → Reader → Taken
taken_at completed running reader = taken reader (slice_get (completed ++ option_to_list running) reader.before)

own_is :
    (options : Options) (before : ℕ) (completed : List Acquisition) (running : Option Acquisition) (bytes : List ℕ) (reader : Option Reader) →
    (given : IsGiven options before reader completed running bytes) →
    slice_get (completed ++ option_to_list running) (before + length given.shares) ≡ next_of given.others running
own_is options before completed running bytes reader given =
    let those : List Acquisition = map (λ y. y.acquisition) given.shares in
    let so_many : before + length given.shares ≡ length (given.earlier ++ those) =
    omega (arith, given.since, length-append given.earlier those, length-map given.shares (λ y. y.acquisition)) in
    ap (λ xs. slice_get (xs ++ option_to_list running) (before + length given.shares)) given.they_are
    ∙ own_next (given.earlier ++ those) given.others running (before + length given.shares) so_many

pub take_by :
    (options : Options) (before : ℕ) (completed : List Acquisition) (running : Option Acquisition) (bytes : List ℕ) (reader : Reader) →
    (given : IsGiven options before (Some reader) completed running bytes) → RunsOn running →
    HasFront options (before + length given.shares) (next_of given.others running) reader given.front →
    Took options before completed running bytes reader (taken_at completed running reader)
take_by options before completed running bytes reader given runs (at_its_end ended front) =
    subst (Took options before completed running bytes reader)
    (sym (cond-true reader.has_ended takes.Done (taken_if_armed reader (slice_get (completed ++ option_to_list running) reader.before)) ended))
    (took_nothing options before completed running bytes reader given)
take_by options before completed running bytes reader given runs (at_a_start r front) =
    let place = before + length given.shares in
    let fresh : Reader = reader_from options place in
    let given_fresh = as_reader options before completed running bytes reader fresh given r in
    let own_now = own_is options before completed running bytes (Some reader) given in
    let step = start_step options before completed running (next_of given.others running) bytes place given_fresh runs refl refl front in
    subst (λ rd. Took options before completed running bytes rd (taken_at completed running rd)) (sym r)
    (subst (λ o. Took options before completed running bytes fresh (taken_if_armed fresh o)) (sym own_now) step)
take_by options before completed running bytes reader given runs (within a cut left is r rows front) =
    let place = before + length given.shares in
    let now : Reader = reader_within options place (length (joined cut)) in
    let given_now = as_reader options before completed running bytes reader now given r in
    let own_now = own_is options before completed running bytes (Some reader) given ∙ is in
    let step = within_step options before completed running bytes place a cut left given_now runs refl is rows front in
    subst (λ rd. Took options before completed running bytes rd (taken_at completed running rd)) (sym r)
    (subst (λ o. Took options before completed running bytes now (taken_if_armed now o)) (sym own_now) step)

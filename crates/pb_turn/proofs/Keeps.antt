-- Each of the six kinds of step keeps the rule.
use Rattle.std.proofs.Common.{◌≡◌, ℕ, zero, suc, ◌+◌, ◌%◌, ◌^◌, ◌<◌, ◌≤◌, ◌≢◌, Bool, true, false, cond, List, [], ◌∷◌, ◌++◌, length, set, get_or, eqb, ltb, eq-eqb, ne_eqb, ltb-true, ltb-false, refl, sym, ap, ◌∙◌, subst, ⊎_elim, arith, length-append, append-nil, Some}
use Rattle.std.specs.Prelude.{Option, option_map}
use Rattle.std.specs.List.{sum_by}
use Rattle.std.proofs.lemmas.List.Elements.{All-nil, All-push, All-weaker}
use Rattle.std.proofs.lemmas.List.Sums.{sum_by-cons, sum_by_push}
use mathlib.Core.Bool.{false≢true}
use mathlib.Core.List.{IsPrefix}
use mathlib.Core.Option as maybe
use mathlib.Core.Option.{some-injective, none-ne-some, some-ne-none}
use prog.Atomic.{either}
use lib.ListN.{get_elem?}
use Rattle.atomic_table.specs.Table.{State, Me, opening, keeps, takes, gives, Allows, Splits, Joins}
use Rattle.atomic_table.proofs.Lists.{set_again, set_here, set_else, at_longer, at_snoc}
use Rattle.pb_turn.specs.Turning.{taken, Fits, Holder, OneHistory}
use Rattle.pb_turn.specs.Steps.{Loads, Outs, Adds, AddsSaid, Homes, fresh, holding, losing, adding, leaving, keeping, getting, joined, spent, longer, shorter}
use Rattle.pb_turn.specs.declared.views.View.{View}
use Rattle.pb_turn.proofs.Positions.{choose, rising_more, all_together, rising_together}
use Rattle.pb_turn.proofs.Fronts.{prefix_refl, prefix_trans, shorter_front, front_length}
use Rattle.pb_turn.proofs.Seats.{each_after, set_there, one_view, sum_set}

-- word 1 from 0 to 1, and found at 1
out_won : (ws : List ℕ) (n : ℕ) → ws ≡ n ∷ 0 ∷ [] → set ws 1 (either (eqb (get_or ws 1 0) 0) 1 (get_or ws 1 0)) ≡ n ∷ 1 ∷ []
out_won ws n e = subst (λ (l : List ℕ). set l 1 (either (eqb (get_or l 1 0) 0) 1 (get_or l 1 0)) ≡ n ∷ 1 ∷ []) (sym e) refl

out_lost : (ws : List ℕ) (n : ℕ) → ws ≡ n ∷ 1 ∷ [] → set ws 1 (either (eqb (get_or ws 1 0) 0) 1 (get_or ws 1 0)) ≡ n ∷ 1 ∷ []
out_lost ws n e = subst (λ (l : List ℕ). set l 1 (either (eqb (get_or l 1 0) 0) 1 (get_or l 1 0)) ≡ n ∷ 1 ∷ []) (sym e) refl

home_word : (ws : List ℕ) (n t : ℕ) → ws ≡ n ∷ t ∷ [] → set ws 1 0 ≡ n ∷ 0 ∷ []
home_word ws n t e = subst (λ (l : List ℕ). set l 1 0 ≡ n ∷ 0 ∷ []) (sym e) refl

load_word : (ws : List ℕ) (n t : ℕ) → ws ≡ n ∷ t ∷ [] → set ws 0 (get_or ws 0 0) ≡ n ∷ t ∷ []
load_word ws n t e = subst (λ (l : List ℕ). set l 0 (get_or l 0 0) ≡ n ∷ t ∷ []) (sym e) refl

one_more : (n : ℕ) → (n % 18446744073709551616 + 1) % 18446744073709551616 ≡ (n + 1) % 18446744073709551616
one_more n = omega arith

add_word : (ws : List ℕ) (n t : ℕ) → ws ≡ n % 18446744073709551616 ∷ t ∷ [] → set ws 0 ((get_or ws 0 0 + 1) % 18446744073709551616) ≡ (n + 1) % 18446744073709551616 ∷ t ∷ []
add_word ws n t e = subst (λ (l : List ℕ). set l 0 ((get_or l 0 0 + 1) % 18446744073709551616) ≡ (n + 1) % 18446744073709551616 ∷ t ∷ []) (sym e) (ap (λ (k : ℕ). k ∷ t ∷ []) (one_more n))

-- of two lists, a fact of both holds of the longer
both_long : {E : Type 0} (F : List E → Type 0) (xs ys : List E) → F xs → F ys → F (longer xs ys)
both_long F xs ys p q = choose F (ltb (length xs) (length ys)) ys xs (λ _. q) (λ _. p)

longer_than : {E : Type 0} (xs ys : List E) → (length xs ≤ length (longer xs ys)) × (length ys ≤ length (longer xs ys))
longer_than xs ys = choose (λ zs. (length xs ≤ length zs) × (length ys ≤ length zs)) (ltb (length xs) (length ys)) ys xs
    (λ is. let lt = ltb-true (length xs) (length ys) is in (omega arith, omega arith))
    (λ is. let ge = ltb-false (length xs) (length ys) is in (omega arith, omega arith))

pub shorter_begins : {E : Type 0} (xs ys log : List E) → IsPrefix xs log → IsPrefix ys log → IsPrefix (shorter xs ys) (longer xs ys)
shorter_begins {E} xs ys log p q = by_test (ltb (length xs) (length ys)) refl
  where
    by_test : (b : Bool) → ltb (length xs) (length ys) ≡ b → IsPrefix (cond b xs ys) (cond b ys xs)
    by_test true is = let lt = ltb-true (length xs) (length ys) is in shorter_front xs ys log p q (omega arith)
    by_test false is = let ge = ltb-false (length xs) (length ys) is in shorter_front ys xs log q p (omega arith)

-- where the shorter of two lists begins the longer, both do
pub both_begin : {E : Type 0} (xs ys : List E) → IsPrefix (shorter xs ys) (longer xs ys) → IsPrefix xs (longer xs ys) × IsPrefix ys (longer xs ys)
both_begin {E} xs ys = by_test (ltb (length xs) (length ys))
  where
    by_test : (b : Bool) → IsPrefix (cond b xs ys) (cond b ys xs) → IsPrefix xs (cond b ys xs) × IsPrefix ys (cond b ys xs)
    by_test true h = (h, prefix_refl ys)
    by_test false h = (prefix_refl xs, h)

module _ {E V O : Type 0} (origin : V → O) (stands : V → List E → Type 0) (opened : V) (all : ℕ) where
  abbrev Rule : State (Option V) (View E V) → Type 0
  Rule = OneHistory origin stands opened all

  abbrev Seated : Type 0
  Seated = Me (Option V) (View E V)

  abbrev parts_of : View E V → ℕ
  parts_of v = v.parts

  -- who doesn't hold the turn isn't the holder
  pub not_holder : (views : List (View E V)) (id seat : ℕ) (v : View E V) → get_elem? views id ≡ maybe.some v → v.holds ≡ false → Holder views seat → seat ≢ id
  not_holder views id seat v at free h e = false≢true (sym free ∙ (ap (λ (w : View E V). w.holds) (one_view views id v h.view at (subst (λ (k : ℕ). get_elem? views k ≡ maybe.some h.view) e h.stands)) ∙ h.holds))

  -- a holder stays one while another's view changes
  still_holds : (views : List (View E V)) (id seat : ℕ) (w : View E V) → seat ≢ id → Holder views seat → Holder (set views id w) seat
  still_holds views id seat w ne h = record { view = h.view; stands = set_else views id seat w ne ∙ h.stands; parts = h.parts; holds = h.holds }

  -- the table at the start
  pub opens : (parts : ℕ) → stands opened [] → all ≡ parts → Rule (opening (0 ∷ 0 ∷ []) (Some opened ∷ []) (fresh opened parts))
  opens parts ok same = record {
    log = [];
    holder = maybe.none;
    maker = λ n. 0;
    words = refl;
    views = only_view;
    parts = omega (arith, sum_by-cons parts_of (fresh {E = E} opened parts) []);
    held = λ seat is. absurd (none-ne-some seat is);
    home = λ _. record { value = opened; home = refl; holds = ok; same = refl };
  }
    where
      only_view : (seat : ℕ) (v : View E V) → get_elem? (fresh {E = E} opened parts ∷ []) seat ≡ maybe.some v → 0 < v.parts → Fits [] maybe.none (λ n. 0) opened all seat v
      only_view zero v at p = subst (Fits [] maybe.none (λ n. 0) opened all 0) (some-injective (fresh opened parts) v at)
          (record { front = ([], refl); heard = ([], refl); rises = tt; below = All-nil (λ n. n < 0); own = All-nil (λ n. 0 ≡ 0); same = refl; parts = sym same; holds = λ h. absurd (false≢true h) })
      only_view (suc seat) v at p = absurd (none-ne-some v at)

  -- load
  pub loads : (slots id : ℕ) (m : Seated) → 0 < m.0.parts → Allows Rule slots id m 0 (λ n. n) (λ _ n. Loads m n)
  loads slots id m p s r wide at low =
      let f = r.views id m.0 at p in
      let same = set_again s.views id m.0 at in (
        m.0,
        keeps,
        tt,
        record {
          log = r.log;
          holder = r.holder;
          maker = r.maker;
          words = load_word s.words _ _ r.words;
          views = subst (λ (vs : List (View E V)). (seat : ℕ) (v : View E V) → get_elem? vs seat ≡ maybe.some v → 0 < v.parts → Fits r.log r.holder r.maker opened all seat v) (sym same) r.views;
          parts = subst (λ (vs : List (View E V)). sum_by parts_of vs ≡ all) (sym same) r.parts;
          held = subst (λ (vs : List (View E V)). (seat : ℕ) → r.holder ≡ maybe.some seat → Holder vs seat) (sym same) r.held;
          home = r.home;
        },
        (refl, f.heard, f.rises, f.below),
      )

  -- out
  pub outs : (slots id : ℕ) (m : Seated) → 0 < m.0.parts → m.0.holds ≡ false → Allows Rule slots id m 1 (λ n. either (eqb n 0) 1 n) (Outs origin stands m)
  outs slots id m p free s r wide at low = by_holder r.holder refl
    where
      f : Fits r.log r.holder r.maker opened all id m.0
      f = r.views id m.0 at p

      found : (h : maybe.Option ℕ) → r.holder ≡ h → get_or s.words 1 0 ≡ taken h
      found h e = ap (λ (l : List ℕ). get_or l 1 0) r.words ∙ ap taken e

      by_holder : (h : maybe.Option ℕ) → r.holder ≡ h
          → (w : View E V) × (a : Rattle.atomic_table.specs.Table.Act (Option V)) × Rattle.atomic_table.specs.Table.Valid s.homes m.1 a × Rule (Rattle.atomic_table.specs.Table.stepped s 1 (either (eqb (get_or s.words 1 0) 0) 1 (get_or s.words 1 0)) id m.1 w a)
          × Outs origin stands m (get_or s.words 1 0) (w, Rattle.atomic_table.specs.Table.carried_after m.1 a)
      by_holder maybe.none e =
          let home = r.home e in
          let w = holding m.0 r.log in (
            w,
            takes 0 (Some home.value),
            home.home,
            record {
              log = r.log;
              holder = maybe.some id;
              maker = r.maker;
              words = out_won s.words _ (r.words ∙ ap (λ (t : ℕ). (length r.log % 18446744073709551616) ∷ t ∷ []) (ap taken e));
              views = each_after (λ seat v. 0 < v.parts → Fits r.log (maybe.some id) r.maker opened all seat v) s.views id w
                  (λ _. record {
                    front = prefix_refl r.log;
                    heard = (r.log, refl);
                    rises = f.rises;
                    below = All-weaker (λ n. n < length m.0.seen) (λ n. n < length r.log) (λ n lt. let le = front_length m.0.seen r.log f.front in omega arith) m.0.made f.below;
                    own = f.own;
                    same = f.same;
                    parts = f.parts;
                    holds = λ _. (refl, refl);
                  })
                  (λ j v ne at' q. let g = r.views j v at' q in record {
                    front = g.front;
                    heard = g.heard;
                    rises = g.rises;
                    below = g.below;
                    own = g.own;
                    same = g.same;
                    parts = g.parts;
                    holds = λ h. absurd (none-ne-some j (sym e ∙ (g.holds h).0));
                  });
              parts = let t = sum_set parts_of s.views id m.0 w at in let q = r.parts in omega arith;
              held = λ seat is. let same = some-injective id seat is in subst (Holder (set s.views id w)) same (record { view = w; stands = set_there s.views id m.0 w at; parts = p; holds = refl });
              home = λ is. absurd (some-ne-none id is);
            },
            ((λ zero. (r.log, home.value, refl, f.front, home.holds, ap (option_map origin) f.same ∙ ap Some (sym home.same))), (λ ne. absurd (ne (found maybe.none e)))),
          )
      by_holder (maybe.some j) e =
          let w = losing m.0 in (
            w,
            keeps,
            tt,
            record {
              log = r.log;
              holder = r.holder;
              maker = r.maker;
              words = out_lost s.words _ (r.words ∙ ap (λ (t : ℕ). (length r.log % 18446744073709551616) ∷ t ∷ []) (ap taken e)) ∙ ap (λ (t : ℕ). (length r.log % 18446744073709551616) ∷ t ∷ []) (sym (ap taken e));
              views = each_after (λ seat v. 0 < v.parts → Fits r.log r.holder r.maker opened all seat v) s.views id w
                  (λ _. record { front = f.front; heard = f.heard; rises = f.rises; below = f.below; own = f.own; same = f.same; parts = f.parts; holds = f.holds })
                  (λ k v ne at' q. r.views k v at' q);
              parts = let t = sum_set parts_of s.views id m.0 w at in let q = r.parts in omega arith;
              held = λ seat is. let h = r.held seat is in still_holds s.views id seat w (not_holder s.views id seat m.0 at free h) h;
              home = r.home;
            },
            ((λ zero. let one = found (maybe.some j) e in absurd (omega arith)), (λ ne. refl)),
          )

  -- add
  pub adds : (slots id : ℕ) (m : Seated) (entry : E) → 0 < m.0.parts → m.0.holds ≡ true → Allows Rule slots id m 0 (λ n. (n + 1) % 2 ^ 64) (λ _ n. Adds entry m n)
  adds slots id m entry p busy s r wide at low =
      let f = r.views id m.0 at p in
      let mine = (f.holds busy).0 in
      let whole : m.0.seen ≡ r.log = (f.holds busy).1 in
      let here = length r.log in
      let there : length m.0.seen ≡ here = ap length whole in
      let w = adding m.0 entry in
      let log : List E = r.log ++ entry ∷ [] in
      let grown : length log ≡ here + 1 = length-append r.log (entry ∷ []) in
      let maker : ℕ → ℕ = λ n. cond (eqb n here) id (r.maker n) in
      let old : (n : ℕ) → n < here → maker n ≡ r.maker n = λ n lt. ap (λ (b : Bool). cond b id (r.maker n)) (ne_eqb n here (λ e. omega arith)) in (
        w,
        keeps,
        tt,
        record {
          log = log;
          holder = r.holder;
          maker = maker;
          words = add_word s.words here _ r.words ∙ ap (λ (k : ℕ). (k % 18446744073709551616) ∷ taken r.holder ∷ []) (sym grown);
          views = each_after (λ seat v. 0 < v.parts → Fits log r.holder maker opened all seat v) s.views id w
              (λ _. record {
                front = ([], append-nil (m.0.seen ++ entry ∷ []) ∙ ap (λ (l : List E). l ++ entry ∷ []) whole);
                heard = (w.seen, refl);
                rises = rising_more m.0.made (length m.0.seen) f.rises f.below;
                below = let long : length w.seen ≡ length m.0.seen + 1 = length-append m.0.seen (entry ∷ []) in
                    All-push (λ n. n < length w.seen) m.0.made (length m.0.seen) (All-weaker (λ n. n < length m.0.seen) (λ n. n < length w.seen) (λ n lt. omega arith) m.0.made f.below) (omega arith);
                own = All-push (λ n. maker n ≡ id) m.0.made (length m.0.seen)
                    (λ k d lt. let b : get_or m.0.made k d < length m.0.seen = f.below k d lt in old (get_or m.0.made k d) (omega arith) ∙ f.own k d lt)
                    (ap (λ (b : Bool). cond b id (r.maker (length m.0.seen))) (eq-eqb (length m.0.seen) here there));
                same = f.same;
                parts = f.parts;
                holds = λ _. (mine, ap (λ (l : List E). l ++ entry ∷ []) whole);
              })
              (λ j v ne at' q. let g = r.views j v at' q in record {
                front = prefix_trans v.seen r.log log g.front (entry ∷ [], refl);
                heard = g.heard;
                rises = g.rises;
                below = g.below;
                own = λ k d lt. let b : get_or v.made k d < length v.seen = g.below k d lt in let le = front_length v.seen r.log g.front in old (get_or v.made k d) (omega arith) ∙ g.own k d lt;
                same = g.same;
                parts = g.parts;
                holds = λ h. absurd (ne (some-injective j id (sym (g.holds h).0 ∙ mine)));
              });
          parts = let t = sum_set parts_of s.views id m.0 w at in let q = r.parts in omega arith;
          held = λ seat is. subst (Holder (set s.views id w)) (some-injective id seat (sym mine ∙ is)) (record { view = w; stands = set_there s.views id m.0 w at; parts = p; holds = busy });
          home = λ is. absurd (some-ne-none id (sym mine ∙ is));
        },
        refl,
      )

  -- add, of an entry that is told to the proof alone
  pub adds_said : (slots id : ℕ) (m : Seated) (entry : E) (said : Option E) → said ≡ Some entry → 0 < m.0.parts → m.0.holds ≡ true → Allows Rule slots id m 0 (λ n. (n + 1) % 2 ^ 64) (λ _ n. AddsSaid said m n)
  adds_said slots id m entry said is p busy s r wide at low = let t = adds slots id m entry p busy s r wide at low in
      (t.0, t.1, t.2, t.3, λ other is'. let same : entry ≡ other = cc (is, is') in subst (λ (x : E). Adds x m (t.0, Rattle.atomic_table.specs.Table.carried_after m.1 t.1)) same t.4)

  -- home
  pub homes : (slots id : ℕ) (m : Seated) (value : V) → slots ≡ 1 → m.1 ≡ (0, Some value) ∷ [] → 0 < m.0.parts → m.0.holds ≡ true → stands value m.0.seen → option_map origin m.0.opened ≡ Some (origin value)
      → Allows Rule slots id m 1 (λ _. 0) (λ _ n. Homes m n)
  homes slots id m value one carries p busy ok from s r wide at low =
      let f = r.views id m.0 at p in
      let mine = (f.holds busy).0 in
      let w = leaving m.0 in (
        w,
        gives,
        tt,
        record {
          log = r.log;
          holder = maybe.none;
          maker = r.maker;
          words = home_word s.words _ _ r.words;
          views = each_after (λ seat v. 0 < v.parts → Fits r.log maybe.none r.maker opened all seat v) s.views id w
              (λ _. record { front = f.front; heard = f.heard; rises = f.rises; below = f.below; own = f.own; same = f.same; parts = f.parts; holds = λ h. absurd (false≢true h) })
              (λ j v ne at' q. let g = r.views j v at' q in record {
                front = g.front;
                heard = g.heard;
                rises = g.rises;
                below = g.below;
                own = g.own;
                same = g.same;
                parts = g.parts;
                holds = λ h. absurd (ne (some-injective j id (sym (g.holds h).0 ∙ mine)));
              });
          parts = let t = sum_set parts_of s.views id m.0 w at in let q = r.parts in omega arith;
          held = λ seat is. absurd (none-ne-some seat is);
          home = λ _. record {
            value = value;
            home = subst (λ (c : List (ℕ × Option V)). get_elem? (Rattle.atomic_table.specs.Table.put_back s.homes c) 0 ≡ maybe.some (maybe.some (Some value))) (sym carries) (set_here s.homes 0 (maybe.some (Some value)) (omega arith));
            holds = subst (stands value) (f.holds busy).1 ok;
            same = some_same (origin value) (origin opened) (sym from ∙ ap (option_map origin) f.same);
          };
        },
        refl,
      )
    where
      some_same : (a b : O) → Some a ≡ Some b → a ≡ b
      some_same a b e = cc e

  -- split
  pub splits : (id : ℕ) (v : View E V) (k : ℕ) → 0 < k → k < v.parts → v.holds ≡ false → Splits Rule id v (keeping v k) (getting v k)
  splits id v k some fewer free s r at =
      let f = r.views id v at (omega arith) in
      let left = keeping v k in
      let right = getting v k in
      record {
        log = r.log;
        holder = r.holder;
        maker = r.maker;
        words = r.words;
        views = λ j u at'. ⊎_elim
            (λ (here : get_elem? (set s.views id left) j ≡ maybe.some u). each_after (λ seat v. 0 < v.parts → Fits r.log r.holder r.maker opened all seat v) s.views id left
            (λ _. record { front = f.front; heard = f.heard; rises = f.rises; below = f.below; own = f.own; same = f.same; parts = f.parts; holds = f.holds })
            (λ j v ne at q. r.views j v at q) j u here)
            (λ (is : right ≡ u). subst (λ (x : View E V). 0 < x.parts → Fits r.log r.holder r.maker opened all j x) is (λ _. record {
              front = f.front;
              heard = (v.seen, refl);
              rises = tt;
              below = All-nil (λ n. n < length v.seen);
              own = All-nil (λ n. r.maker n ≡ j);
              same = f.same;
              parts = f.parts;
              holds = λ h. absurd (false≢true h);
            }))
            (at_snoc (set s.views id left) right u j at');
        parts = let t = sum_set parts_of s.views id v left at in let u = sum_by_push parts_of (set s.views id left) right in let q = r.parts in omega arith;
        held = λ seat is. let h = r.held seat is in let ne = not_holder s.views id seat v at free h in let h' = still_holds s.views id seat left ne h in
            record { view = h'.view; stands = at_longer (set s.views id left) (right ∷ []) seat h'.view h'.stands; parts = h'.parts; holds = h'.holds };
        home = r.home;
      }

  -- join
  pub joins : (id : ℕ) (v : View E V) (other : ℕ) (w : View E V) → 0 < v.parts → 0 < w.parts → v.holds ≡ false → w.holds ≡ false → Joins Rule id v other w (joined v w) spent
  joins id v other w some_v some_w free_v free_w s r at apart there' =
      let both = joined v w in
      let there : get_elem? s.views other ≡ maybe.some w = sym (set_else s.views id other both apart) ∙ there' in
      let f = r.views id v at some_v in
      let g = r.views other w there some_w in
      let maker : ℕ → ℕ = λ n. cond (eqb (r.maker n) other) id (r.maker n) in
      let Fit : ℕ → View E V → Type 0 = λ seat v. 0 < v.parts → Fits r.log r.holder maker opened all seat v in
      let keeps_maker : (n j : ℕ) → j ≢ other → r.maker n ≡ j → maker n ≡ j = λ n j ne is. ap (λ (b : Bool). cond b id (r.maker n)) (ne_eqb (r.maker n) other (λ e. ne (sym is ∙ e))) ∙ is in
      let long = longer_than v.seen w.seen in
      record {
        log = r.log;
        holder = r.holder;
        maker = maker;
        words = r.words;
        views = each_after Fit (set s.views id both) other spent (λ none. absurd (omega arith))
            (λ j u ne at'. each_after (λ seat v. seat ≢ other → Fit seat v) s.views id both
            (λ _ _. record {
              front = both_long (λ l. IsPrefix l r.log) v.seen w.seen f.front g.front;
              heard = shorter_begins v.seen w.seen r.log f.front g.front;
              rises = rising_together v.made w.made f.rises g.rises
                  (λ k d lt k' d' lt' e. apart (sym (g.own k' d' lt') ∙ (ap r.maker e ∙ f.own k d lt)));
              below = all_together (λ n. n < length both.seen) v.made w.made
                  (All-weaker (λ n. n < length v.seen) (λ n. n < length both.seen) (λ n lt. let le = long.0 in omega arith) v.made f.below)
                  (All-weaker (λ n. n < length w.seen) (λ n. n < length both.seen) (λ n lt. let le = long.1 in omega arith) w.made g.below);
              own = all_together (λ n. maker n ≡ id) v.made w.made
                  (All-weaker (λ n. r.maker n ≡ id) (λ n. maker n ≡ id) (λ n is. keeps_maker n id (λ e. apart (sym e)) is) v.made f.own)
                  (All-weaker (λ n. r.maker n ≡ other) (λ n. maker n ≡ id) (λ n is. ap (λ (b : Bool). cond b id (r.maker n)) (eq-eqb (r.maker n) other is)) w.made g.own);
              same = f.same;
              parts = f.parts;
              holds = λ h. absurd (false≢true h);
            })
            (λ j u ne at' ne' q. let h = r.views j u at' q in record {
              front = h.front;
              heard = h.heard;
              rises = h.rises;
              below = h.below;
              own = All-weaker (λ n. r.maker n ≡ j) (λ n. maker n ≡ j) (λ n is. keeps_maker n j ne' is) u.made h.own;
              same = h.same;
              parts = h.parts;
              holds = h.holds;
            }) j u at' ne);
        parts = let t = sum_set parts_of s.views id v both at in let u = sum_set parts_of (set s.views id both) other w spent there' in let q = r.parts in omega arith;
        held = λ seat is. let h = r.held seat is in
            still_holds (set s.views id both) other seat spent (not_holder s.views other seat w there free_w h) (still_holds s.views id seat both (not_holder s.views id seat v at free_v h) h);
        home = r.home;
      }

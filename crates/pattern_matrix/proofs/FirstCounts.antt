-- What values come to in the rows of a match's arms.
use Rattle.std.proofs.Common.{◌≡◌, ◌<◌, ℕ, zero, suc, ◌+◌, Bool, true, false, not, ◌&&◌, ◌||◌, List, [], ◌∷◌, ◌++◌, map, length, nat_eq, refl, sym, ap, subst, ◌∙◌, arith}
use Rattle.std.proofs.lemmas.List.{length-map}
use Rattle.std.specs.List.{list_any}
use Rattle.std.proofs.lemmas.Bool.Decides.{nat_tests}
use Rattle.match_model.specs.Values.{MValue}
use Rattle.match_model.specs.Ways.{Way}
use Rattle.match_model.specs.ArenaPatterns.{MDeArm}
use Rattle.match_model.specs.ArenaWays.{arena_ways, arena_arm, match_arms}
use Rattle.match_model.specs.Match.{ArmWays, is_empty_list, arm_covers, arm_matches, is_covered, comes_to, comes_through, counting_ways, goes_through}
use Rattle.match_model.specs.Matrices.{first_rows}
use Rattle.match_model.proofs.Basics.{nat_itself}
use Rattle.pattern_matrix.specs.Covering.{is_some_there}
use Rattle.pattern_matrix.specs.Counting.{Question, WantedRow, counts, all_wanted, row_behind, to_arm, through_alternative}
use Rattle.pattern_matrix.specs.ReachLaws.{RowsTell}

-- the rows of these arms, numbered from `i`, and the row of number `n` behind them
abbrev rows_from : {T : Type 0} → ℕ → ℕ → List (MDeArm T) → List (WantedRow T)
rows_from n i arms = all_wanted (first_rows i arms ++ row_behind n ∷ [])

some_way : (ws : List Way) → is_some_there ws ≡ not (is_empty_list ws)
some_way [] = refl
some_way (w ∷ ws) = refl

-- the value comes to the arm with this number as asked, or to the place behind all arms
abbrev comes_by : (whole : Bool) → (id : ℕ) → List ArmWays → ℕ → MValue → Bool
comes_by w id [] zero v = w
comes_by w id [] (suc j) v = false
comes_by w id (a ∷ rest) zero v = arm_matches v a && (w || list_any (goes_through id) (counting_ways a.guarded (a.ways_of v)))
comes_by w id (a ∷ rest) (suc j) v = not (arm_covers v a) && comes_by w id rest j v

same_nat : (i : ℕ) → nat_eq (i + 0) i ≡ true
same_nat i = grind (arith, nat_tests)

later_nat : (i j : ℕ) → nat_eq (i + suc j) i ≡ false
later_nat i j = grind (arith, nat_tests)

earlier_nat : (i j : ℕ) → nat_eq (i + 0) (suc i + j) ≡ false
earlier_nat i j = grind (arith, nat_tests)

none_left : (a : Bool) → (not a && false) ≡ false
none_left true = refl
none_left false = refl

or_none : (a : Bool) → (a || false) ≡ a
or_none true = refl
or_none false = refl

and_none : (a : Bool) → (a && false) ≡ false
and_none true = refl
and_none false = refl

shape : (here s w l g k : Bool) →
    ((here && ((s && true) && ((w || false) || (l || false)))) || (not (not g && (s && true)) && k))
    ≡ ((here && (s && (w || l))) || (not (not g && s) && k))
shape here s w l g k = ap (λ x. (here && (x && ((w || false) || (l || false)))) || (not (not g && x) && k)) (one s)
    ∙ ap (λ x. (here && (s && (x || (l || false)))) || (not (not g && s) && k)) (or_none w)
    ∙ ap (λ x. (here && (s && (w || x))) || (not (not g && s) && k)) (or_none l)
  where
    one : (a : Bool) → (a && true) ≡ a
    one true = refl
    one false = refl

-- what counts of an arm and of those behind it
from_arm : {T : Type 0} (q : Question) (n i : ℕ) (a : MDeArm T) (rest : List (MDeArm T)) (v : MValue) →
    counts q (rows_from n i (a ∷ rest)) (v ∷ [])
    ≡ ((nat_eq q.arm i && (arm_matches v (arena_arm a) && (q.whole || list_any (goes_through q.id) (counting_ways a.guarded (arena_ways a.pat v)))))
    || (not (arm_covers v (arena_arm a)) && counts q (rows_from n (suc i) rest) (v ∷ [])))
from_arm q n i a rest v =
    let ws = arena_ways a.pat v in
    let l = list_any (goes_through q.id) (counting_ways a.guarded ws) in
    let k = counts q (rows_from n (suc i) rest) (v ∷ []) in
    shape (nat_eq q.arm i) (is_some_there ws) q.whole l a.guarded k
    ∙ ap (λ s. (nat_eq q.arm i && (s && (q.whole || l))) || (not (not a.guarded && s) && k)) (some_way ws)

-- no arm from a later number on is asked for
none_later : {T : Type 0} (q : Question) (n i : ℕ) (arms : List (MDeArm T)) (v : MValue) → i + length arms ≡ n →
    ((k : ℕ) → nat_eq q.arm (i + k) ≡ false) → counts q (rows_from n i arms) (v ∷ []) ≡ false
none_later q n i [] v e f =
    let here : nat_eq q.arm n ≡ false = subst (λ x. nat_eq q.arm x ≡ false) e (f 0) in
    ap (λ b. (b && (true && ((q.whole || false) || false))) || false) here
none_later q n i (a ∷ rest) v e f =
    let here : nat_eq q.arm i ≡ false = let e : i + 0 ≡ i = omega arith in subst (λ n. nat_eq q.arm n ≡ false) e (f 0) in
    let x = arm_matches v (arena_arm a) && (q.whole || list_any (goes_through q.id) (counting_ways a.guarded (arena_ways a.pat v))) in
    let c = arm_covers v (arena_arm a) in
    from_arm q n i a rest v
    ∙ ap (λ b. (b && x) || (not c && counts q (rows_from n (suc i) rest) (v ∷ []))) here
    ∙ ap (λ b. not c && b) (none_later q n (suc i) rest v (omega (arith, e)) (λ k. let e : i + suc k ≡ suc i + k = omega arith in subst (λ x. nat_eq q.arm x ≡ false) e (f (suc k))))
    ∙ none_left c

come_by : {T : Type 0} (q : Question) (n i j : ℕ) (arms : List (MDeArm T)) (v : MValue) → i + length arms ≡ n → q.arm ≡ i + j →
    counts q (rows_from n i arms) (v ∷ []) ≡ comes_by q.whole q.id (map arena_arm arms) j v
come_by q n i zero [] v e a =
    let here : nat_eq q.arm n ≡ true = let x : q.arm ≡ n = omega (arith, e, a) in ap (λ y. nat_eq y n) x ∙ nat_itself n in
    ap (λ b. (b && ((q.whole || false) || false)) || false) here ∙ or_none ((q.whole || false) || false) ∙ or_none (q.whole || false) ∙ or_none q.whole
come_by q n i (suc j) [] v e a =
    let here : nat_eq q.arm n ≡ false = ap (nat_eq q.arm) (sym e) ∙ ap (λ y. nat_eq y (i + 0)) a ∙ differ i j in
    ap (λ b. (b && ((q.whole || false) || false)) || false) here
  where
    differ : (i j : ℕ) → nat_eq (i + suc j) (i + 0) ≡ false
    differ i j = grind (arith, nat_tests)
come_by q n i zero (x ∷ rest) v e a =
    let here : nat_eq q.arm i ≡ true = ap (λ y. nat_eq y i) a ∙ same_nat i in
    let z = arm_matches v (arena_arm x) && (q.whole || list_any (goes_through q.id) (counting_ways x.guarded (arena_ways x.pat v))) in
    let c = arm_covers v (arena_arm x) in
    let later : counts q (rows_from n (suc i) rest) (v ∷ []) ≡ false = none_later q n (suc i) rest v (omega (arith, e)) (λ k. ap (λ y. nat_eq y (suc i + k)) a ∙ earlier_nat i k) in
    from_arm q n i x rest v
    ∙ ap (λ b. (b && z) || (not c && counts q (rows_from n (suc i) rest) (v ∷ []))) here
    ∙ ap (λ b. z || (not c && b)) later
    ∙ ap (λ b. z || b) (none_left c)
    ∙ or_none z
come_by q n i (suc j) (x ∷ rest) v e a =
    let here : nat_eq q.arm i ≡ false = ap (λ y. nat_eq y i) a ∙ later_nat i j in
    let z = arm_matches v (arena_arm x) && (q.whole || list_any (goes_through q.id) (counting_ways x.guarded (arena_ways x.pat v))) in
    let c = arm_covers v (arena_arm x) in
    from_arm q n i x rest v
    ∙ ap (λ b. (b && z) || (not c && counts q (rows_from n (suc i) rest) (v ∷ []))) here
    ∙ ap (λ b. not c && b) (come_by q n (suc i) j rest v (omega (arith, e)) (omega (arith, a)))

-- by whole arms, by alternatives, and behind all

whole_arm : (id : ℕ) (arms : List ArmWays) (j : ℕ) (v : MValue) → j < length arms → comes_by true id arms j v ≡ comes_to arms j v
whole_arm id [] j v l = absurd (omega (arith, l))
whole_arm id (a ∷ rest) zero v l = one (arm_matches v a)
  where
    one : (a : Bool) → (a && true) ≡ a
    one true = refl
    one false = refl
whole_arm id (a ∷ rest) (suc j) v l = ap (λ b. not (arm_covers v a) && b) (whole_arm id rest j v (omega (arith, l)))

some_through : (id : ℕ) (g : Bool) (ws : List Way) →
    (not (is_empty_list ws) && list_any (goes_through id) (counting_ways g ws)) ≡ list_any (goes_through id) (counting_ways g ws)
some_through id true [] = refl
some_through id false [] = refl
some_through id g (w ∷ ws) = refl

one_alternative : (id : ℕ) (arms : List ArmWays) (j : ℕ) (v : MValue) → comes_by false id arms j v ≡ comes_through arms j id v
one_alternative id [] zero v = refl
one_alternative id [] (suc j) v = refl
one_alternative id (a ∷ rest) zero v = some_through id a.guarded (a.ways_of v)
one_alternative id (a ∷ rest) (suc j) v = ap (λ b. not (arm_covers v a) && b) (one_alternative id rest j v)

behind_all : (id : ℕ) (arms : List ArmWays) (v : MValue) → comes_by true id arms (length arms) v ≡ not (is_covered arms v)
behind_all id [] v = refl
behind_all id (a ∷ rest) v = ap (λ b. not (arm_covers v a) && b) (behind_all id rest v) ∙ neither (arm_covers v a) (is_covered rest v)
  where
    neither : (a b : Bool) → (not a && not b) ≡ not (a || b)
    neither true b = refl
    neither false b = refl

pub rows_tell : {T : Type 0} → RowsTell T
rows_tell {T} = record {
  arm = λ m j v l.
      come_by (to_arm j) (length m.arms) 0 j m.arms v (omega arith) (omega arith)
      ∙ whole_arm 0 (match_arms m) j v (let e = length-map m.arms arena_arm in omega (arith, l, e));
  alternative = λ m j id v.
      come_by (through_alternative j id) (length m.arms) 0 j m.arms v (omega arith) (omega arith) ∙ one_alternative id (match_arms m) j v;
  behind = λ m v.
      come_by (to_arm (length m.arms)) (length m.arms) 0 (length m.arms) m.arms v (omega arith) (omega arith)
      ∙ ap (λ k. comes_by true 0 (match_arms m) k v) (sym (length-map m.arms arena_arm))
      ∙ behind_all 0 (match_arms m) v;
}

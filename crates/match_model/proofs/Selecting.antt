-- What a match does with a value when guards refuse.
use Rattle.std.proofs.Common.{◌≡◌, ℕ, suc, ◌+◌, Bool, true, false, not, ◌&&◌, ◌||◌, ◌↔◌, List, [], ◌∷◌, ◌++◌, map, length, refl, sym, ◌∙◌, ap, arith, append_assoc, add-zero, zero-add}
use Rattle.std.specs.Prelude.{replicate}
use Rattle.std.specs.List.{list_any}
use Rattle.std.proofs.lemmas.List.Folds.{list_any-append}
use Rattle.match_model.specs.Values.{MValue}
use Rattle.match_model.specs.Ways.{Way}
use Rattle.match_model.specs.Match.{ArmWays, is_empty_list, is_covered}
use Rattle.match_model.specs.Select.{Try, try_of, tries_from, Outcome, Took, Missed, Short, select_one, select_from, select}

-- the try needs no answer
abbrev pub is_free : Try → Bool
is_free t = not t.guarded

abbrev is_missed : Outcome → Bool
is_missed Missed = true
is_missed _ = false

is_missed_eq : (o : Outcome) → is_missed o ≡ true → o ≡ Missed
is_missed_eq (Took j bs) e = cc
is_missed_eq Missed e = refl
is_missed_eq Short e = cc

-- when all guards refuse, the end is missed unless a try needs no answer
missed-select_from : (tries : List Try) →
    is_missed (select_from tries (replicate (length tries) false)).outcome ≡ not (list_any is_free tries)
missed-select_from [] = refl
missed-select_from (t ∷ rest) =
    elim t.guarded as
    (λ b. is_missed (select_one t b (false ∷ replicate (length rest) false) (λ left. select_from rest left)).outcome
    ≡ not (not b || list_any is_free rest))
    [ true ↦ missed-select_from rest | false ↦ refl ]

-- the tries of one arm
free-arm : (j : ℕ) (b : Bool) (ws : List Way) →
    list_any is_free (map (try_of j b) ws) ≡ (not b && not (is_empty_list ws))
free-arm j true [] = refl
free-arm j true (w ∷ ws) = free-arm j true ws
free-arm j false [] = refl
free-arm j false (w ∷ ws) = refl

-- a try needs no answer exactly where an arm covers the value
pub free-tries_from : (j : ℕ) (arms : List ArmWays) (v : MValue) →
    list_any is_free (tries_from j arms v) ≡ is_covered arms v
free-tries_from j [] v = refl
free-tries_from j (a ∷ rest) v =
    list_any-append is_free (map (try_of j a.guarded) (a.ways_of v)) (tries_from (suc j) rest v)
    ∙ rw (free-arm j a.guarded (a.ways_of v), free-tries_from (suc j) rest v)

pub missed : (arms : List ArmWays) (v : MValue) →
    let answers : List Bool = replicate (length (tries_from 0 arms v)) false in
    ((select arms v answers).outcome ≡ Missed) ↔ (is_covered arms v ≡ false)
missed arms v =
    let e : is_missed (select arms v (replicate (length (tries_from 0 arms v)) false)).outcome ≡ not (is_covered arms v) =
    missed-select_from (tries_from 0 arms v) ∙ ap not (free-tries_from 0 arms v) in
    ((λ h. not_true (is_covered arms v) (sym e ∙ ap is_missed h)), (λ h. is_missed_eq _ (e ∙ ap not h)))
  where
    not_true : (b : Bool) → not b ≡ true → b ≡ false
    not_true b h = grind arith

-- tries that all ask, and are refused, are passed over
passed : (tries rest : List Try) (more : List Bool) → list_any is_free tries ≡ false →
    (select_from (tries ++ rest) (replicate (length tries) false ++ more)).outcome ≡ (select_from rest more).outcome
passed [] rest more = λ h. refl
passed (t ∷ tries) rest more =
    elim t.guarded as
    (λ b. (not b || list_any is_free tries) ≡ false →
    (select_one t b (false ∷ (replicate (length tries) false ++ more)) (λ left. select_from (tries ++ rest) left)).outcome
    ≡ (select_from rest more).outcome)
    [ true ↦ passed tries rest more | false ↦ λ h. cc ]

tries_from-append : (before arms : List ArmWays) (v : MValue) (j n : ℕ) → n ≡ j + length before →
    tries_from j (before ++ arms) v ≡ tries_from j before v ++ tries_from n arms v
tries_from-append [] arms v j n h = let e : n ≡ j = h ∙ add-zero j in rw e refl
tries_from-append (a ∷ before) arms v j n h =
    let e : n ≡ suc j + length before = omega (arith, h) in
    rw (tries_from-append before arms v (suc j) n e)
    (sym (append_assoc (map (try_of j a.guarded) (a.ways_of v)) (tries_from (suc j) before v) (tries_from n arms v)))

-- the first of the tries of an arm without a guard is taken
first_of_arm : (n : ℕ) (b : Bool) (ws : List Way) (w : Way) (us : List Way) (rest : List Try) (more : List Bool) → b ≡ false → ws ≡ w ∷ us →
    (select_from (map (try_of n b) ws ++ rest) more).outcome ≡ Took n w.bindings
first_of_arm n b ws w us rest more e h = rw (e, h) refl

pub first_taken : (before : List ArmWays) (a : ArmWays) (rest : List ArmWays) (v : MValue) (w : Way) (ws : List Way) (more : List Bool) →
    is_covered before v ≡ false → a.guarded ≡ false → a.ways_of v ≡ w ∷ ws →
    (select (before ++ a ∷ rest) v (replicate (length (tries_from 0 before v)) false ++ more)).outcome ≡ Took (length before) w.bindings
first_taken before a rest v w ws more h g e =
    ap (λ ts. (select_from ts (replicate (length (tries_from 0 before v)) false ++ more)).outcome)
    (tries_from-append before (a ∷ rest) v 0 (length before) (sym (zero-add (length before))))
    ∙ passed (tries_from 0 before v) (tries_from (length before) (a ∷ rest) v) more (free-tries_from 0 before v ∙ h)
    ∙ first_of_arm (length before) a.guarded (a.ways_of v) w ws (tries_from (suc (length before)) rest v) more g e

-- The ways of elaborated alternatives and forms.
use Rattle.std.proofs.Common.{◌≡◌, ℕ, suc, Bool, true, false, not, ◌&&◌, List, [], ◌∷◌, ◌++◌, map, length, Option, Some, None, nat_eq, if◌then◌else◌, refl, sym, ap, ◌∙◌, arith}
use Rattle.std.proofs.lemmas.Bool.Decides.{nat_tests}
use Rattle.match_model.specs.Types.{MType, MTypes, no_types, more_types, types_list}
use Rattle.match_model.specs.Values.{MValue, Node, MValues, no_values, more_values, values_list}
use Rattle.match_model.specs.Declarations.{MProgram, node_types}
use Rattle.match_model.specs.Typing.{is_value, are_values}
use Rattle.match_model.specs.RustTypes.{rust_set}
use Rattle.match_model.specs.Constructors.{MCtor, NumbersCtor, OrCtor, MSet, SingleSet}
use Rattle.match_model.specs.Numbers.{MRange, has_one_number}
use Rattle.match_model.specs.Ways.{Way}
use Rattle.match_model.specs.Matching.{span_way, parts_ways, form_ways, are_parts}
use Rattle.match_model.specs.ArenaPatterns.{MBound, de_pat, MDePats, more_de_pats, no_de_pats, uid_of, at_of}
use Rattle.match_model.specs.ArenaWays.{arena_ways, subs_ways, numbered_from, with_bounds, ways_where, parts_built, with_spans_of, chosen_of}
use Rattle.match_model.specs.Places.{some_if}
use Rattle.pattern_rules.specs.Builders.{Built, over, types_or_none, parts_from, node_ctor, form}
use Rattle.pattern_rules.specs.Elaborated.{standing_at, is_wide_ctor}
use Rattle.pattern_rules.proofs.SameTypes.{both_left, both_right, numbers_are_one}
use Rattle.pattern_laws.proofs.KeptLeaves.{with_none, EachType}

-- a lone alternative is no choice
lone_ways : (p : Built) (uid : ℕ) (ws : List Way) → map (chosen_of (more_de_pats p no_de_pats) uid) ws ++ [] ≡ ws
lone_ways p uid [] = refl
lone_ways p uid (w ∷ ws) = ap (λ r. w ∷ r) (lone_ways p uid ws)

-- a range of one number has no span, whatever its offset
span_alike : (r : MRange) (a b : ℕ) → (not (has_one_number r) && not (nat_eq a b)) ≡ false →
    span_way a r ≡ span_way b r
span_alike r a b h = go (has_one_number r) refl
  where
    go : (c : Bool) → has_one_number r ≡ c → span_way a r ≡ span_way b r
    go true e = rw e refl
    go false e =
        let same : nat_eq a b ≡ true = grind (arith) in
        ap (λ x. span_way x r) (numbers_are_one a b same)

-- the offset matters only of a range of more than one number
at_alike : (c : MCtor) (t : MType) (u w a b : ℕ) (subs : MDePats MType) (binds : List MBound) (v : MValue) →
    (is_wide_ctor c && not (nat_eq a b)) ≡ false →
    arena_ways (de_pat c t u a subs binds) v ≡ arena_ways (de_pat c t w b subs binds) v
at_alike (NumbersCtor r) t u w a b subs binds v h =
    ap (λ s. map (with_bounds binds v)
    (map (with_spans_of s) (ways_where (parts_built (NumbersCtor r) v) (λ parts. subs_ways subs parts))))
    (span_alike r a b h)
at_alike c t u w a b subs binds v h = refl

-- an alternative, or an arm's pattern, has the ways of what it is made of, and stands at the offset
pub standing_keeps : (here : ℕ) (p : Built) (v : MValue) →
    (arena_ways (standing_at here p) v ≡ arena_ways p v) × (uid_of (standing_at here p) ≡ here)
    × (at_of (standing_at here p) ≡ here)
standing_keeps here (de_pat c t uid at subs binds) v = go (is_wide_ctor c && not (nat_eq here at)) refl
  where
    go : (b : Bool) → b ≡ (is_wide_ctor c && not (nat_eq here at)) →
        (arena_ways (if b then de_pat OrCtor t here here
        (more_de_pats (de_pat c t at at subs binds) no_de_pats) [] else de_pat c t here here subs binds) v
        ≡ arena_ways (de_pat c t uid at subs binds) v)
        × (uid_of (if b then de_pat OrCtor t here here
        (more_de_pats (de_pat c t at at subs binds) no_de_pats) [] else de_pat c t here here subs binds) ≡ here)
        × (at_of (if b then de_pat OrCtor t here here
        (more_de_pats (de_pat c t at at subs binds) no_de_pats) [] else de_pat c t here here subs binds) ≡ here)
    go true e = (
      with_none v (map (chosen_of (more_de_pats (de_pat c t at at subs binds) no_de_pats) at)
          (arena_ways (de_pat c t at at subs binds) v) ++ [])
          ∙ lone_ways (de_pat c t at at subs binds) at (arena_ways (de_pat c t at at subs binds) v),
      refl,
      refl,
    )
    go false e = (at_alike c t here uid here at subs binds v (sym e), refl, refl)

-- the parts one by one
pub parts_keep : (program : MProgram) (sure : Bool) (Q : ℕ → MType → Type 0) (f : ℕ → MType → Built)
    (g : ℕ → MValue → List Way) →
    ((i : ℕ) (w : MType) (v : MValue) → Q i w → is_value program sure w v ≡ true → arena_ways (f i w) v ≡ g i v) →
    (i : ℕ) (ts : MTypes) (parts : MValues) → EachType Q i ts → are_values program sure ts parts ≡ true →
    subs_ways (parts_from f i ts) (numbered_from i (values_list parts)) ≡ parts_ways g i (values_list parts)
parts_keep program sure Q f g h i no_types no_values q e = refl
parts_keep program sure Q f g h i no_types (more_values v vs) q e = cc
parts_keep program sure Q f g h i (more_types t ts) no_values q e = cc
parts_keep program sure Q f g h i (more_types t ts) (more_values v vs) q e =
    rw (
      h i t v q.0 (both_left (is_value program sure t v) (are_values program sure ts vs) e),
      parts_keep program sure Q f g h (suc i) ts vs q.1
          (both_right (is_value program sure t v) (are_values program sure ts vs) e),
    ) refl

-- the order of two numbers does not matter
eq_swap : (a b : ℕ) → nat_eq a b ≡ nat_eq b a
eq_swap a b = grind (arith, nat_tests)

-- the ways of a node's pattern on a node
node_ways : (st : MSet) (k j : ℕ) (u : MType) (subs : MDePats MType) (parts : MValues) → (st ≡ SingleSet → k ≡ 0) →
    arena_ways (over (node_ctor st k) u subs) (Node j parts)
    ≡ ways_where (some_if (nat_eq k j) (numbered_from 0 (values_list parts))) (λ ps. subs_ways subs ps)
node_ways SingleSet k j u subs parts single =
    with_none (Node j parts) (ways_where (some_if (nat_eq j 0) (numbered_from 0 (values_list parts)))
    (λ ps. subs_ways subs ps))
    ∙ ap (λ b. ways_where (some_if b (numbered_from 0 (values_list parts))) (λ ps. subs_ways subs ps))
    (eq_swap j 0 ∙ ap (λ i. nat_eq i j) (sym (single refl)))
node_ways st k j u subs parts single =
    with_none (Node j parts) (ways_where (some_if (nat_eq j k) (numbered_from 0 (values_list parts)))
    (λ ps. subs_ways subs ps))
    ∙ ap (λ b. ways_where (some_if b (numbered_from 0 (values_list parts))) (λ ps. subs_ways subs ps)) (eq_swap j k)

-- the value is no node
abbrev IsNoNode : MValue → Type 0
IsNoNode (Node k parts) = ⊥
IsNoNode _ = Unit {0}

-- a node's pattern has no way on anything else
other_ways : (st : MSet) (k : ℕ) (u : MType) (subs : MDePats MType) (v : MValue) → IsNoNode v →
    arena_ways (over (node_ctor st k) u subs) v ≡ []
other_ways st k u subs (Node j parts) r = absurd r
other_ways SingleSet k u subs v r = refl
other_ways st k u subs v r = refl

-- what an optional list of types says where the test of it holds
types_there : (program : MProgram) (sure : Bool) (parts : MValues) (o : Option MTypes) →
    elim o as (λ x. Bool) [ None ↦ false | Some types ↦ are_values program sure types parts ] ≡ true → (ts : MTypes)
    × (o ≡ Some ts) × (are_values program sure ts parts ≡ true)
types_there program sure parts None e = cc
types_there program sure parts (Some ts) e = (ts, refl, e)

-- there are as many values as types
pub count_keeps : (program : MProgram) (sure : Bool) (ts : MTypes) (parts : MValues) →
    are_values program sure ts parts ≡ true →
    length (types_list ts) ≡ length (values_list parts)
count_keeps program sure no_types no_values e = refl
count_keeps program sure no_types (more_values v vs) e = cc
count_keeps program sure (more_types t ts) no_values e = cc
count_keeps program sure (more_types t ts) (more_values v vs) e =
    ap suc (count_keeps program sure ts vs (both_right (is_value program sure t v) (are_values program sure ts vs) e))

-- a form's written fields are among its parts, and a struct has the number 0
pub record FormFits (program : MProgram) (u : MType) (k : ℕ) (written : List ℕ) : Type 0 where
  pub single : rust_set program u ≡ SingleSet → k ≡ 0
  pub fields : are_parts written (length (types_list (types_or_none (node_types program u k)))) ≡ true

-- a form has the source's ways, where its parts have
pub form_keeps : (program : MProgram) (sure : Bool) (Q : ℕ → MType → Type 0) (f : ℕ → MType → Built)
    (g : ℕ → MValue → List Way) →
    ((i : ℕ) (w : MType) (v : MValue) → Q i w → is_value program sure w v ≡ true → arena_ways (f i w) v ≡ g i v) →
    (k : ℕ) (written : List ℕ) (u : MType) (v : MValue) → FormFits program u k written →
    EachType Q 0 (types_or_none (node_types program u k)) → is_value program sure u v ≡ true →
    arena_ways (form program k f u) v ≡ form_ways k written g v
form_keeps program sure Q f g h k written u (Node j parts) fit q e = go (nat_eq k j) refl
    (types_there program sure parts (node_types program u j) e)
  where
    go : (b : Bool) → nat_eq k j ≡ b → (ts : MTypes) × (node_types program u j ≡ Some ts)
        × (are_values program sure ts parts ≡ true) →
        arena_ways (form program k f u) (Node j parts) ≡ form_ways k written g (Node j parts)
    go true s (ts, n, a) =
        let kj : k ≡ j = numbers_are_one k j s in
        let n' : node_types program u k ≡ Some ts = ap (λ i. node_types program u i) kj ∙ n in
        let q' : EachType Q 0 ts = rw n' at q in
        let w : are_parts written (length (values_list parts)) ≡ true =
        ap (λ c. are_parts written c) (sym (count_keeps program sure ts parts a))
        ∙ (ap (λ o. are_parts written (length (types_list (types_or_none o)))) (sym n') ∙ fit.fields) in
        node_ways (rust_set program u) k j u
        (parts_from f 0 (types_or_none (node_types program u k))) parts fit.single
        ∙ rw (s, n', w) (parts_keep program sure Q f g h 0 ts parts q' a)
    go false s n =
        node_ways (rust_set program u) k j u
        (parts_from f 0 (types_or_none (node_types program u k))) parts fit.single
        ∙ rw s refl
form_keeps program sure Q f g h k written u v fit q e =
    other_ways (rust_set program u) k u (parts_from f 0 (types_or_none (node_types program u k))) v tt

-- The parts of a node, each with the written field of its number.
use Rattle.std.proofs.Common.{◌≡◌, ℕ, zero, suc, ◌+◌, ◌≤◌, true, false, List, [], ◌∷◌, ◌++◌, map, set, take, nat_eq, Option, Some, None, refl, sym, ap, subst, ◌∙◌, arith, if◌then◌else◌}
use Rattle.std.proofs.lemmas.List.{map-set, map-append}
use Rattle.std.specs.Prelude.{slice_get}
use Rattle.type_table.specs.Tables.{part_of}
use Rattle.std.proofs.lemmas.Bool.Decides.{nat_tests}
use Rattle.match_model.specs.Types.{MType, MTypes, no_types, more_types, types_list}
use Rattle.match_model.specs.Constructors.{MCtor, WildCtor, MSet, SingleSet}
use Rattle.match_model.specs.Declarations.{MProgram, node_types}
use Rattle.match_model.specs.RustTypes.{rust_set}
use Rattle.match_model.specs.Lists.{Every}
use Rattle.match_model.specs.ArenaPatterns.{MDePat, de_pat, no_de_pats, more_de_pats, de_pats_of, type_of}
use Rattle.match_model.specs.WellTyped.{uids_in, uids_in_all}
use Rattle.pattern_arena.specs.declared.pattern.DePat.{DePat}
use Rattle.pattern_arena.specs.Trees.{tree}
use Rattle.pattern_rules.specs.ArenaForms.{all_within, all_below}
use Rattle.pattern_rules.specs.Builders.{Built, leaf, parts_from, types_or_none, node_ctor, form}
use Rattle.pattern_rules.specs.Shown.{settled, settled_all}
use Rattle.pattern_elaboration.specs.Numbered.{times, once_within, IsMade, AreMade}
use Rattle.pattern_elaboration.specs.Written.{built_there}
use Rattle.pattern_elaboration.specs.Given.{trees, given, field_trees, given_fields, filled}
use Rattle.pattern_elaboration.proofs.Settling.{IsNoOr, parts_settled}
use Rattle.pattern_elaboration.proofs.Numbering.{times_both, every_both, made_more}

pub every_left : {A : Type 0} (E : A → Type 0) (xs ys : List A) → Every E (xs ++ ys) → Every E xs
every_left E [] ys h = tt
every_left E (x ∷ xs) ys h = (h.0, every_left E xs ys h.1)

pub every_right : {A : Type 0} (E : A → Type 0) (xs ys : List A) → Every E (xs ++ ys) → Every E ys
every_right E [] ys h = h
every_right E (x ∷ xs) ys h = every_right E xs ys h.1

-- the numbers of two stretches, one behind the other
pub once_joined : (a b c u : ℕ) → a ≤ b → b ≤ c → once_within a b u + once_within b c u ≤ once_within a c u
once_joined a b c u h k = grind (arith, nat_tests)

-- the patterns of parts, one by one, as they are given
pub given_settled : {T : Type 0} (type : T → MType) (c : MCtor) (ps : List (DePat T)) → IsNoOr c →
    settled_all type c (de_pats_of (trees ps)) ≡ de_pats_of (given type ps)
given_settled {T} type c ps h = parts_settled type c (trees ps) h ∙ ap de_pats_of (mapped ps)
  where
    mapped : (ps : List (DePat T)) → map (settled type 0) (map tree ps) ≡ given type ps
    mapped [] = refl
    mapped (p ∷ ps) = ap (λ qs. settled type 0 (tree p) ∷ qs) (mapped ps)

-- one thing for each type, the parts being numbered from `i`
abbrev pub parts_list : (ℕ → MType → Built) → ℕ → List MType → List Built
parts_list f i [] = []
parts_list f i (t ∷ ts) = f i t ∷ parts_list f (suc i) ts

pub parts_are : (f : ℕ → MType → Built) (i : ℕ) (ts : MTypes) →
    de_pats_of (parts_list f i (types_list ts)) ≡ parts_from f i ts
parts_are f i no_types = refl
parts_are f i (more_types t ts) = ap (more_de_pats (f i t)) (parts_are f (suc i) ts)

wild_parts : (i : ℕ) (ts : List MType) → map (leaf WildCtor) ts ≡ parts_list (built_there []) i ts
wild_parts i [] = refl
wild_parts i (t ∷ ts) = ap (λ qs. leaf WildCtor t ∷ qs) (wild_parts (suc i) ts)

-- parts that are the same at each number from `i` on
same_parts : (f g : ℕ → MType → Built) (i : ℕ) (ts : List MType) → ((j : ℕ) (t : MType) → i ≤ j → f j t ≡ g j t) →
    parts_list f i ts ≡ parts_list g i ts
same_parts f g i [] h = refl
same_parts f g i (t ∷ ts) h = rw (h i t (omega arith), same_parts f g (suc i) ts (λ j u l. h j u (omega arith))) refl

-- one part put in its place
set_part : (g : ℕ → MType → Built) (q : Built) (i j : ℕ) (ts : List MType) →
    set (parts_list g i ts) j q ≡ parts_list (λ k t. if nat_eq k (i + j) then q else g k t) i ts
set_part g q i j [] = refl
set_part g q i zero (t ∷ ts) = rw (
  here,
  same_parts (λ k t. if nat_eq k (i + 0) then q else g k t) g
      (suc i) ts behind,
) refl
  where
    here : nat_eq i (i + 0) ≡ true
    here = grind (arith, nat_tests)

    other : (k : ℕ) → suc i ≤ k → nat_eq k (i + 0) ≡ false
    other k l = grind (arith, nat_tests)

    behind : (k : ℕ) (t : MType) → suc i ≤ k → (if nat_eq k (i + 0) then q else g k t) ≡ g k t
    behind k t l = rw (other k l) refl
set_part g q i (suc j) (t ∷ ts) =
    rw (
      other,
      set_part g q (suc i) j ts,
      same_parts (λ k t. if nat_eq k (suc i + j) then q else g k t)
          (λ k t. if nat_eq k (i + suc j) then q else g k t) (suc i) ts moved,
    ) refl
  where
    other : nat_eq i (i + suc j) ≡ false
    other = grind (arith, nat_tests)

    moved : (k : ℕ) (t : MType) → suc i ≤ k → (if nat_eq k (suc i + j) then q else g k t) ≡
        (if nat_eq k (i + suc j) then q else g k t)
    moved k t l = let e : suc i + j ≡ i + suc j = omega arith in rw e refl

-- all fields put in their places
pub filled_parts : {T : Type 0} (type : T → MType) (fs : List (ℕ × DePat T)) (ws : List (DePat T)) (ts : List MType) →
    given type ws ≡ map (leaf WildCtor) ts → given type (filled fs ws) ≡ parts_list
    (built_there (given_fields type fs)) 0 ts
filled_parts type [] ws ts h = h ∙ wild_parts 0 ts
filled_parts {T} type (f ∷ fs) ws ts h =
    map-set (λ (p : DePat T). settled type 0 (tree p)) (filled fs ws) f.0 f.1
    ∙ (ap (λ (qs : List Built). set qs f.0 (settled type 0 (tree f.1))) (filled_parts type fs ws ts h)
    ∙ (set_part (built_there (given_fields type fs)) (settled type 0 (tree f.1)) 0 f.0 ts
    ∙ same_parts (λ k t. if nat_eq k (0 + f.0) then settled type 0 (tree f.1) else built_there
    (given_fields type fs) k t) (built_there (given_fields type (f ∷ fs))) 0 ts from_none))
  where
    from_none : (k : ℕ) (t : MType) → 0 ≤ k →
        (if nat_eq k (0 + f.0) then settled type 0 (tree f.1) else built_there (given_fields type fs) k t)
        ≡ (if nat_eq k f.0 then settled type 0 (tree f.1) else built_there (given_fields type fs) k t)
    from_none k t l = let e : 0 + f.0 ≡ f.0 = omega arith in rw e refl

node_no_or : (st : MSet) (k : ℕ) → IsNoOr (node_ctor st k)
node_no_or SingleSet k = tt
node_no_or st k = tt

-- the whole node
pub form_shown : {T : Type 0} (type : T → MType) (program : MProgram) (k : ℕ) (fs : List (ℕ × DePat T))
    (ws ps : List (DePat T)) (ty : T)
    (c : MCtor) (n : ℕ) (p : MDePat T) → c ≡ node_ctor (rust_set program (type ty)) k →
    given type ws ≡ map (leaf WildCtor) (types_list (types_or_none (node_types program (type ty) k))) →
    ps ≡ filled fs ws →
    p ≡ de_pat c ty n 0 (de_pats_of (trees ps)) [] → settled type 0 p ≡ form program k
    (built_there (given_fields type fs)) (type ty)
form_shown {T} type program k fs ws ps ty c n p is wilds filling made =
    rw (made, is, filling)
    (ap (λ qs. de_pat (node_ctor (rust_set program (type ty)) k) (type ty) 0 0 qs [])
    (given_settled type (node_ctor (rust_set program (type ty)) k) (filled fs ws)
    (node_no_or (rust_set program (type ty)) k)
    ∙ (ap de_pats_of (filled_parts type fs ws (types_list (types_or_none (node_types program (type ty) k))) wilds)
    ∙ parts_are (built_there (given_fields type fs)) 0 (types_or_none (node_types program (type ty) k)))))

-- the uids of a list with one pattern put in a place
times_set : {T : Type 0} (u : ℕ) (ps : List (MDePat T)) (i : ℕ) (p : MDePat T) →
    times u (uids_in_all (de_pats_of (set ps i p))) ≤ times u (uids_in p) + times u (uids_in_all (de_pats_of ps))
times_set u [] i p = omega arith
times_set u (q ∷ ps) zero p =
    let a : times u (uids_in p ++ uids_in_all (de_pats_of ps)) ≡ times u (uids_in p) + times u
    (uids_in_all (de_pats_of ps))
    = times_both u (uids_in p) (uids_in_all (de_pats_of ps)) in
    let b : times u (uids_in q ++ uids_in_all (de_pats_of ps)) ≡ times u (uids_in q) + times u
    (uids_in_all (de_pats_of ps))
    = times_both u (uids_in q) (uids_in_all (de_pats_of ps)) in
    omega arith
times_set u (q ∷ ps) (suc i) p =
    let a : times u (uids_in q ++ uids_in_all (de_pats_of (set ps i p))) ≡ times u (uids_in q) + times u
    (uids_in_all (de_pats_of (set ps i p)))
    = times_both u (uids_in q) (uids_in_all (de_pats_of (set ps i p))) in
    let b : times u (uids_in q ++ uids_in_all (de_pats_of ps)) ≡ times u (uids_in q) + times u
    (uids_in_all (de_pats_of ps))
    = times_both u (uids_in q) (uids_in_all (de_pats_of ps)) in
    let h : times u (uids_in_all (de_pats_of (set ps i p))) ≤ times u (uids_in p) + times u
    (uids_in_all (de_pats_of ps)) = times_set u ps i p in
    omega arith

every_set : {T : Type 0} (E : MDePat T → Type 0) (ps : List (MDePat T)) (i : ℕ) (p : MDePat T) →
    Every E (all_within p) →
    Every E (all_below (de_pats_of ps)) → Every E (all_below (de_pats_of (set ps i p)))
every_set E [] i p h k = k
every_set E (q ∷ ps) zero p h k = every_both E (all_within p) (all_below (de_pats_of ps)) h
    (every_right E (all_within q) (all_below (de_pats_of ps)) k)
every_set E (q ∷ ps) (suc i) p h k =
    every_both E (all_within q) (all_below (de_pats_of (set ps i p)))
    (every_left E (all_within q) (all_below (de_pats_of ps)) k)
    (every_set E ps i p h (every_right E (all_within q) (all_below (de_pats_of ps)) k))

module _ {T : Type 0} where
  tree_set : (ps : List (DePat T)) (i : ℕ) (p : DePat T) → trees (set ps i p) ≡ set (trees ps) i (tree p)
  tree_set ps i p = map-set (λ (q : DePat T). tree q) ps i p

  filled_times : (u : ℕ) (fs : List (ℕ × DePat T)) (ws : List (DePat T)) →
      times u (uids_in_all (de_pats_of (trees (filled fs ws)))) ≤ times u
      (uids_in_all (de_pats_of (field_trees fs))) + times u (uids_in_all (de_pats_of (trees ws)))
  filled_times u [] ws = omega arith
  filled_times u (f ∷ fs) ws =
      let e : times u (uids_in_all (de_pats_of (trees (filled (f ∷ fs) ws)))) ≡ times u
      (uids_in_all (de_pats_of (set (trees (filled fs ws)) f.0 (tree f.1))))
      = ap (λ (qs : List (MDePat T)). times u (uids_in_all (de_pats_of qs))) (tree_set (filled fs ws) f.0 f.1) in
      let s : times u (uids_in_all (de_pats_of (set (trees (filled fs ws)) f.0 (tree f.1)))) ≤ times u
      (uids_in (tree f.1)) + times u (uids_in_all (de_pats_of (trees (filled fs ws))))
      = times_set u (trees (filled fs ws)) f.0 (tree f.1) in
      let h : times u (uids_in_all (de_pats_of (trees (filled fs ws)))) ≤ times u
      (uids_in_all (de_pats_of (field_trees fs))) + times u (uids_in_all (de_pats_of (trees ws)))
      = filled_times u fs ws in
      let a : times u (uids_in (tree f.1) ++ uids_in_all (de_pats_of (field_trees fs))) ≡ times u
      (uids_in (tree f.1)) + times u (uids_in_all (de_pats_of (field_trees fs)))
      = times_both u (uids_in (tree f.1)) (uids_in_all (de_pats_of (field_trees fs))) in
      omega arith

  filled_every : (E : MDePat T → Type 0) (fs : List (ℕ × DePat T)) (ws : List (DePat T)) →
      Every E (all_below (de_pats_of (field_trees fs))) →
      Every E (all_below (de_pats_of (trees ws))) → Every E (all_below (de_pats_of (trees (filled fs ws))))
  filled_every E [] ws h k = k
  filled_every E (f ∷ fs) ws h k =
      subst (λ (qs : List (MDePat T)). Every E (all_below (de_pats_of qs))) (sym (tree_set (filled fs ws) f.0 f.1))
      (every_set E (trees (filled fs ws)) f.0 (tree f.1) (every_left E (all_within (tree f.1))
      (all_below (de_pats_of (field_trees fs))) h)
      (filled_every E fs ws (every_right E (all_within (tree f.1)) (all_below (de_pats_of (field_trees fs))) h) k))

  -- of all parts
  pub filled_made : (IsType : T → Type 0) (a b c : ℕ) (fs : List (ℕ × DePat T)) (ws : List (DePat T)) →
      AreMade IsType a b (field_trees fs) →
      AreMade IsType b c (trees ws) → AreMade IsType a c (trees (filled fs ws))
  filled_made IsType a b c fs ws h k = record {
    uids = record {
      ordered = omega (arith, h.uids.ordered, k.uids.ordered);
      once = λ u.
          let t : times u (uids_in_all (de_pats_of (trees (filled fs ws)))) ≤ times u
          (uids_in_all (de_pats_of (field_trees fs))) + times u (uids_in_all (de_pats_of (trees ws)))
          = filled_times u fs ws in
          let p : times u (uids_in_all (de_pats_of (field_trees fs))) ≤ once_within a b u = h.uids.once u in
          let q : times u (uids_in_all (de_pats_of (trees ws))) ≤ once_within b c u = k.uids.once u in
          let j : once_within a b u + once_within b c u ≤ once_within a c u =
          once_joined a b c u h.uids.ordered k.uids.ordered in
          omega arith;
    };
    types = filled_every (λ q. IsType (type_of q)) fs ws h.types k.types;
  }

-- the types of parts one by one
pub part_in : (o : Option MTypes) (i : ℕ) (u : MType) → part_of o i ≡ Some u →
    slice_get (types_list (types_or_none o)) i ≡ Some u
part_in None i u h = absurd cc
part_in (Some ts) i u h = h

take_there : {A : Type 0} (ts : List A) (i : ℕ) (t : A) → slice_get ts i ≡ Some t →
    take (suc i) ts ≡ take i ts ++ t ∷ []
take_there [] i t h = absurd cc
take_there (u ∷ ts) zero t h = let e : u ≡ t = cc in rw e refl
take_there {A = A} (u ∷ ts) (suc i) t h = ap (λ (xs : List A). u ∷ xs) (take_there ts i t h)

-- one more wildcard, for the part of this number
pub wild_more : {T : Type 0} (type : T → MType) (ps : List (DePat T)) (p : DePat T) (ts : List MType) (i n : ℕ)
    (t : T) →
    given type ps ≡ map (leaf WildCtor) (take i ts) → slice_get ts i ≡ Some (type t) →
    tree p ≡ de_pat WildCtor t n 0 no_de_pats [] →
    given type (ps ++ p ∷ []) ≡ map (leaf WildCtor) (take (i + 1) ts)
wild_more {T} type ps p ts i n t h there is =
    let e : i + 1 ≡ suc i = omega arith in
    map-append (λ (q : DePat T). settled type 0 (tree q)) ps (p ∷ [])
    ∙ (rw (h, is, e) (sym (ap (map (leaf WildCtor)) (take_there ts i (type t) there)
    ∙ map-append (leaf WildCtor) (take i ts) (type t ∷ []))))

pub wild_field : {T : Type 0} (type : T → MType) (ps : List (DePat T)) (p : DePat T) (o : Option MTypes) (i n : ℕ)
    (t : T) →
    given type ps ≡ map (leaf WildCtor) (take i (types_list (types_or_none o))) → part_of o i ≡ Some (type t) →
    tree p ≡ de_pat WildCtor t n 0 no_de_pats [] →
    given type (ps ++ p ∷ []) ≡ map (leaf WildCtor) (take (i + 1) (types_list (types_or_none o)))
wild_field type ps p o i n t h there is = wild_more type ps p (types_list (types_or_none o)) i n t h
    (part_in o i (type t) there) is

pub made_trees : {T : Type 0} (IsType : T → Type 0) (a b c : ℕ) (ps : List (DePat T)) (p : DePat T) →
    AreMade IsType a b (trees ps) →
    IsMade IsType b c (tree p) → AreMade IsType a c (trees (ps ++ p ∷ []))
made_trees {T} IsType a b c ps p h k =
    subst (AreMade IsType a c) (sym (map-append (λ (q : DePat T). tree q) ps (p ∷ [])))
    (made_more IsType a b c (trees ps) (tree p) h k)

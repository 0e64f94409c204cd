-- The parts of rows and tuples, by their items.
use Rattle.std.proofs.Common.{◌≡◌, ℕ, zero, suc, ◌+◌, ◌-◌, ◌≤◌, true, List, [], ◌∷◌, ◌++◌, map, length, take, drop, replicate, refl, sym, ap, subst, ◌∙◌, arith}
use Rattle.std.proofs.lemmas.List.{map-append, length-map}
use Rattle.std.specs.Prelude.{slice_get, Option, Some}
use Rattle.type_table.specs.Tables.{part_of}
use Rattle.match_model.specs.declared.Mode.{Mode}
use Rattle.match_model.specs.Types.{MType, TupleType, SliceType, ArrayType, MTypes, no_types, more_types, types_list}
use Rattle.match_model.specs.Constructors.{WildCtor, SingleCtor, RowCtor, MShape}
use Rattle.match_model.specs.Declarations.{MProgram, node_types}
use Rattle.match_model.specs.RustTypes.{rust_arity, count_of_types}
use Rattle.match_model.specs.Lists.{Every}
use Rattle.match_model.specs.Patterns.{MRest, NoRest, SomeRest, BoundRest}
use Rattle.match_model.specs.Matching.{laid_out}
use Rattle.match_model.specs.ArenaPatterns.{MBound, MDePat, de_pat, no_de_pats, more_de_pats, de_pats_of, type_of}
use Rattle.match_model.specs.WellTyped.{uids_in_all}
use Rattle.pattern_arena.specs.declared.pattern.DePat.{DePat}
use Rattle.pattern_arena.specs.Trees.{tree}
use Rattle.pattern_rules.specs.ArenaForms.{all_below}
use Rattle.pattern_rules.specs.NodeRules.{is_row, is_tuple}
use Rattle.pattern_rules.specs.Builders.{Built, Maker, leaf, wild_maker, types_or_none, made, made_at, shape, rest_bound, and_pats, row_of, list_of}
use Rattle.pattern_rules.specs.Shown.{settled}
use Rattle.pattern_elaboration.specs.Numbered.{times, once_within, AreMade}
use Rattle.pattern_elaboration.specs.Given.{trees, given}
use Rattle.pattern_elaboration.specs.Rests.{fixed, where_rest}
use Rattle.pattern_elaboration.proofs.Numbering.{times_both, every_both, uids_both, below_both}
use Rattle.pattern_elaboration.proofs.FieldLists.{every_left, every_right, once_joined, given_settled, wild_more, part_in}

fixed_at : (ps : List Built) (item : MType) → made_at (fixed ps) item ≡ de_pats_of ps
fixed_at [] item = refl
fixed_at (p ∷ ps) item = ap (more_de_pats p) (fixed_at ps item)

and_joined : (ps qs : List Built) → and_pats (de_pats_of ps) (de_pats_of qs) ≡ de_pats_of (ps ++ qs)
and_joined [] qs = refl
and_joined (p ∷ ps) qs = ap (more_de_pats p) (and_joined ps qs)

module _ {T : Type 0} (type : T → MType) where
  given_append : (ps qs : List (DePat T)) → given type (ps ++ qs) ≡ given type ps ++ given type qs
  given_append ps qs = map-append (λ (p : DePat T). settled type 0 (tree p)) ps qs

  pub given_length : (ps : List (DePat T)) → length (given type ps) ≡ length ps
  given_length ps = length-map ps (λ (p : DePat T). settled type 0 (tree p))

  pub fixed_length : (ps : List (DePat T)) → length (fixed (given type ps)) ≡ length ps
  fixed_length [] = refl
  fixed_length (p ∷ ps) = ap suc (fixed_length ps)

  -- a row
  pub row_shown : (program : MProgram) (fs bs : List (DePat T)) (w : MRest) (m : Mode) (ty : T) (n : ℕ) (sh : MShape)
      (binds : List MBound) (p : MDePat T) →
      is_row (type ty) ≡ true → sh ≡ shape (length fs) (length bs) w → binds ≡ rest_bound (length fs) (length bs) w m →
      p ≡ de_pat (RowCtor sh) ty n 0 (de_pats_of (trees (fs ++ bs))) binds →
      settled type 0 p ≡ list_of program (fixed (given type fs)) w (fixed (given type bs)) (type ty) m
  row_shown program fs bs w m ty n sh binds p row is bound made =
      ap (settled type 0) made ∙ (rw (
        is,
        bound,
        given_settled type (RowCtor (shape (length fs) (length bs) w))
            (fs ++ bs) tt,
        given_append fs bs,
      ) (at (type ty) row))
    where
      by_item : (t item : MType) →
          de_pat (RowCtor (shape (length fs) (length bs) w)) t 0 0 (de_pats_of (given type fs ++ given type bs))
          (rest_bound (length fs) (length bs) w m)
          ≡ row_of (fixed (given type fs)) w (fixed (given type bs)) t item m
      by_item t item =
          rw (
            fixed_at (given type fs) item,
            fixed_at (given type bs) item,
            and_joined (given type fs)
                (given type bs),
            fixed_length fs,
            fixed_length bs,
          ) refl

      at : (t : MType) → is_row t ≡ true →
          de_pat (RowCtor (shape (length fs) (length bs) w)) t 0 0 (de_pats_of (given type fs ++ given type bs))
          (rest_bound (length fs) (length bs) w m)
          ≡ list_of program (fixed (given type fs)) w (fixed (given type bs)) t m
      at (SliceType item) h = by_item (SliceType item) item
      at (ArrayType item n) h = by_item (ArrayType item n) item
      at t h = absurd cc

-- one pattern for each type, by makers one by one, as a list
abbrev made_list : List Maker → List MType → List Built
made_list [] ts = []
made_list (f ∷ fs) [] = []
made_list (f ∷ fs) (t ∷ ts) = f t ∷ made_list fs ts

made_is : (fs : List Maker) (ts : MTypes) → made fs ts ≡ de_pats_of (made_list fs (types_list ts))
made_is [] ts = refl
made_is (f ∷ fs) no_types = refl
made_is (f ∷ fs) (more_types t ts) = ap (more_de_pats (f t)) (made_is fs ts)

made_fixed : (ps : List Built) (fs : List Maker) (ts : List MType) → length ps ≤ length ts →
    made_list (fixed ps ++ fs) ts ≡ ps ++ made_list fs (drop (length ps) ts)
made_fixed [] fs ts h = refl
made_fixed (p ∷ ps) fs [] h = absurd (omega arith)
made_fixed (p ∷ ps) fs (t ∷ ts) h = ap (λ qs. p ∷ qs) (made_fixed ps fs ts (omega arith))

made_wild : (k : ℕ) (fs : List Maker) (ts : List MType) → k ≤ length ts →
    made_list (replicate k wild_maker ++ fs) ts ≡ map (leaf WildCtor) (take k ts) ++ made_list fs (drop k ts)
made_wild zero fs ts h = refl
made_wild (suc k) fs [] h = absurd (omega arith)
made_wild (suc k) fs (t ∷ ts) h = ap (λ qs. leaf WildCtor t ∷ qs) (made_wild k fs ts (omega arith))

made_last : (ps : List Built) (ts : List MType) → length ps ≤ length ts → made_list (fixed ps) ts ≡ ps
made_last [] ts h = refl
made_last (p ∷ ps) [] h = absurd (omega arith)
made_last (p ∷ ps) (t ∷ ts) h = ap (λ qs. p ∷ qs) (made_last ps ts (omega arith))

fixed_count : (ps : List Built) → length (fixed ps) ≡ length ps
fixed_count [] = refl
fixed_count (p ∷ ps) = ap suc (fixed_count ps)

length_dropped : {A : Type 0} (k : ℕ) (ts : List A) → length (drop k ts) ≡ length ts - k
length_dropped zero ts = omega arith
length_dropped (suc k) [] = omega arith
length_dropped (suc k) (t ∷ ts) = let h : length (drop k ts) ≡ length ts - k = length_dropped k ts in omega arith

laid_rest : (fs bs : List Built) (ts : List MType) → length fs + length bs ≤ length ts →
    made_list (fixed fs ++ (replicate (length ts - (length (fixed fs) + length (fixed bs))) wild_maker ++ fixed bs)) ts
    ≡ fs ++ (map (leaf WildCtor) (take (length ts - (length fs + length bs)) (drop (length fs) ts)) ++ bs)
laid_rest fs bs ts h = rw (fixed_count fs, fixed_count bs) (by (length ts - (length fs + length bs)) refl)
  where
    by : (k : ℕ) → length ts - (length fs + length bs) ≡ k →
        made_list (fixed fs ++ (replicate k wild_maker ++ fixed bs)) ts ≡ fs ++
        (map (leaf WildCtor) (take k (drop (length fs) ts)) ++ bs)
    by k e =
        let d : length (drop (length fs) ts) ≡ length ts - length fs = length_dropped (length fs) ts in
        let l : length (drop k (drop (length fs) ts)) ≡ length (drop (length fs) ts) - k = length_dropped k
        (drop (length fs) ts) in
        made_fixed fs (replicate k wild_maker ++ fixed bs) ts (omega arith)
        ∙ ap (λ qs. fs ++ qs) (made_wild k (fixed bs) (drop (length fs) ts) (omega arith)
        ∙ ap (λ qs. map (leaf WildCtor) (take k (drop (length fs) ts)) ++ qs)
        (made_last bs (drop k (drop (length fs) ts)) (omega arith)))

laid : (fs bs : List Built) (w : MRest) (ts : List MType) → length fs + length bs ≤ length ts →
    made_list (laid_out wild_maker (fixed fs) w (fixed bs) (length ts)) ts
    ≡ fs ++ (where_rest w (map (leaf WildCtor) (take (length ts - (length fs + length bs))
    (drop (length fs) ts))) ++ bs)
laid fs bs NoRest ts h =
    let d : length (drop (length fs) ts) ≡ length ts - length fs = length_dropped (length fs) ts in
    made_fixed fs (fixed bs) ts (omega arith) ∙ ap (λ qs. fs ++ qs) (made_last bs (drop (length fs) ts) (omega arith))
laid fs bs SomeRest ts h = laid_rest fs bs ts h
laid fs bs (BoundRest name written) ts h = laid_rest fs bs ts h

-- a tuple
module _ {T : Type 0} (type : T → MType) where
  pub tuple_shown : (program : MProgram) (fs ws bs ps : List (DePat T)) (w : MRest) (m : Mode) (ty : T) (n : ℕ)
      (p : MDePat T) →
      is_tuple (type ty) ≡ true → length fs + length bs ≤ rust_arity program SingleCtor (type ty) →
      given type ws ≡ where_rest w (map (leaf WildCtor) (take
      (count_of_types (node_types program (type ty) 0) - (length fs + length bs))
      (drop (length fs) (types_list (types_or_none (node_types program (type ty) 0)))))) →
      ps ≡ fs ++ (ws ++ bs) → p ≡ de_pat SingleCtor ty n 0 (de_pats_of (trees ps)) [] →
      settled type 0 p ≡ list_of program (fixed (given type fs)) w (fixed (given type bs)) (type ty) m
  tuple_shown program fs ws bs ps w m ty n p tuple fits wilds parts node =
      ap (settled type 0) node
      ∙ (rw (
        parts,
        given_settled type SingleCtor (fs ++ (ws ++ bs)) tt,
        given_append type fs
            (ws ++ bs),
        given_append type ws bs,
      ) (at (type ty) tuple fits wilds))
    where
      at : (t : MType) → is_tuple t ≡ true → length fs + length bs ≤ rust_arity program SingleCtor t →
          given type ws ≡ where_rest w (map (leaf WildCtor) (take
          (count_of_types (node_types program t 0) - (length fs + length bs))
          (drop (length fs) (types_list (types_or_none (node_types program t 0)))))) →
          de_pat SingleCtor t 0 0 (de_pats_of (given type fs ++ (given type ws ++ given type bs))) []
          ≡ list_of program (fixed (given type fs)) w (fixed (given type bs)) t m
      at (TupleType ts) h k e =
          let f : length (given type fs) ≡ length fs = given_length type fs in
          let b : length (given type bs) ≡ length bs = given_length type bs in
          let l = laid (given type fs) (given type bs) w (types_list ts) (omega arith) in
          ap (λ qs. de_pat SingleCtor (TupleType ts) 0 0 qs [])
          (rw (
            made_is (laid_out wild_maker (fixed (given type fs)) w (fixed (given type bs))
                (length (types_list ts))) ts,
            l,
            f,
            b,
            e,
          ) refl)
      at t h k e = absurd cc

-- the uids and types of the parts of a tuple
module _ {T : Type 0} where
  pub tuple_made : (IsType : T → Type 0) (a b c : ℕ) (fs ws bs : List (DePat T)) →
      AreMade IsType a b (trees fs ++ trees bs) → AreMade IsType b c (trees ws) →
      AreMade IsType a c (trees (fs ++ (ws ++ bs)))
  tuple_made IsType a b c fs ws bs h k =
      subst (AreMade IsType a c) (sym (all fs ws bs)) (put (trees fs) (trees ws) (trees bs) h k)
    where
      all : (fs ws bs : List (DePat T)) → trees (fs ++ (ws ++ bs)) ≡ trees fs ++ (trees ws ++ trees bs)
      all fs ws bs = map-append (λ (p : DePat T). tree p) fs (ws ++ bs)
          ∙ ap (λ qs. trees fs ++ qs) (map-append (λ (p : DePat T). tree p) ws bs)

      Typed : MDePat T → Type 0
      Typed q = IsType (type_of q)

      put : (fs ws bs : List (MDePat T)) → AreMade IsType a b (fs ++ bs) → AreMade IsType b c ws →
          AreMade IsType a c (fs ++ (ws ++ bs))
      put fs ws bs h k = record {
        uids = record {
          ordered = omega (arith, h.uids.ordered, k.uids.ordered);
          once = λ u.
              let p : times u (uids_in_all (de_pats_of (fs ++ bs))) ≤ once_within a b u = h.uids.once u in
              let q : times u (uids_in_all (de_pats_of ws)) ≤ once_within b c u = k.uids.once u in
              let j : once_within a b u + once_within b c u ≤ once_within a c u =
              once_joined a b c u h.uids.ordered k.uids.ordered in
              let x : times u (uids_in_all (de_pats_of (fs ++ bs))) ≡ times u (uids_in_all (de_pats_of fs)) + times u
              (uids_in_all (de_pats_of bs)) = split u fs bs in
              let y : times u (uids_in_all (de_pats_of (fs ++ (ws ++ bs)))) ≡ times u
              (uids_in_all (de_pats_of fs)) + times u (uids_in_all (de_pats_of (ws ++ bs))) = split u fs (ws ++ bs) in
              let z : times u (uids_in_all (de_pats_of (ws ++ bs))) ≡ times u (uids_in_all (de_pats_of ws)) + times u
              (uids_in_all (de_pats_of bs)) = split u ws bs in
              omega arith;
        };
        types =
            let x : Every Typed (all_below (de_pats_of fs) ++ all_below (de_pats_of bs)) = subst (Every Typed)
            (below_both IsType fs bs) h.types in
            subst (Every Typed) (sym (below_both IsType fs (ws ++ bs)
            ∙ ap (λ qs. all_below (de_pats_of fs) ++ qs) (below_both IsType ws bs)))
            (every_both Typed (all_below (de_pats_of fs)) (all_below (de_pats_of ws) ++ all_below (de_pats_of bs))
            (every_left Typed (all_below (de_pats_of fs)) (all_below (de_pats_of bs)) x)
            (every_both Typed (all_below (de_pats_of ws)) (all_below (de_pats_of bs)) k.types
            (every_right Typed (all_below (de_pats_of fs)) (all_below (de_pats_of bs)) x)));
      }
        where
          split : (u : ℕ) (ps qs : List (MDePat T)) → times u (uids_in_all (de_pats_of (ps ++ qs))) ≡ times u
              (uids_in_all (de_pats_of ps)) + times u (uids_in_all (de_pats_of qs))
          split u ps qs = ap (times u) (uids_both IsType ps qs)
              ∙ times_both u (uids_in_all (de_pats_of ps)) (uids_in_all (de_pats_of qs))

-- one more wildcard for a part behind the items at the front
pub wild_between : {T : Type 0} (type : T → MType) (ps : List (DePat T)) (p : DePat T) (o : Option MTypes)
    (front i n : ℕ) (t : T) → front ≤ i →
    given type ps ≡ map (leaf WildCtor) (take (i - front) (drop front (types_list (types_or_none o)))) →
    part_of o i ≡ Some (type t) →
    tree p ≡ de_pat WildCtor t n 0 no_de_pats [] →
    given type (ps ++ p ∷ []) ≡ map (leaf WildCtor) (take (i + 1 - front) (drop front (types_list (types_or_none o))))
wild_between type ps p o front i n t le h there is =
    let e : i + 1 - front ≡ (i - front) + 1 = omega arith in
    let s : front + (i - front) ≡ i = omega arith in
    rw e (wild_more type ps p (drop front (types_list (types_or_none o))) (i - front) n t h
    (dropped front (types_list (types_or_none o)) (i - front)
    ∙ (ap (slice_get (types_list (types_or_none o))) s ∙ part_in o i (type t) there)) is)
  where
    dropped : {A : Type 0} (k : ℕ) (xs : List A) (j : ℕ) → slice_get (drop k xs) j ≡ slice_get xs (k + j)
    dropped zero xs j = let e : j ≡ zero + j = omega arith in ap (slice_get xs) e
    dropped (suc k) [] j = refl
    dropped (suc k) (x ∷ xs) j = let e : suc (k + j) ≡ suc k + j = omega arith in dropped k xs j
        ∙ ap (slice_get (x ∷ xs)) e

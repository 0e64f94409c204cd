-- The ways of elaborated lists: of rows and of tuples.
use Rattle.std.proofs.Common.{◌≡◌, ℕ, zero, suc, ◌+◌, ◌-◌, ◌≤◌, Bool, true, false, List, [], ◌∷◌, ◌++◌, length, map, take, drop, replicate, nat_eq, nat_le, refl, sym, ap, subst, ◌∙◌, arith, length-append, slice_get, Some, None}
use Rattle.std.proofs.lemmas.Bool.Decides.{nat_tests}
use Rattle.match_model.specs.declared.Mode.{Mode}
use Rattle.match_model.specs.Types.{MType, TupleType, SliceType, ArrayType, MTypes, no_types, more_types, types_list}
use Rattle.match_model.specs.Values.{MValue, Node, Row, Unseen, MValues, values_list}
use Rattle.match_model.specs.Declarations.{MProgram}
use Rattle.match_model.specs.RustTypes.{part_type, type_or}
use Rattle.match_model.specs.Patterns.{MRest, NoRest, SomeRest, BoundRest}
use Rattle.match_model.specs.Typing.{is_value, are_values, all_are_values}
use Rattle.match_model.specs.Ways.{Way, combine, under}
use Rattle.match_model.specs.Matching.{Matcher, wild, items_ways, laid_out, list_ways, bind_rest, to_move, middle_of}
use Rattle.match_model.specs.ArenaPatterns.{MDePats, more_de_pats, no_de_pats, de_pats_list}
use Rattle.match_model.specs.ArenaWays.{arena_ways, subs_ways, numbered_from, with_bounds, ways_where}
use Rattle.match_model.specs.Places.{some_if}
use Rattle.pattern_rules.specs.Builders.{Maker, made, made_at, and_pats, wild_maker, row_of, tuple_of, list_of, rest_bound}
use Rattle.pattern_laws.proofs.KeptLeaves.{with_none}
use Rattle.pattern_laws.proofs.KeptParts.{count_keeps}
use Rattle.pattern_laws.proofs.KeptLists.{AllKeep, PatsKeep, items_keep, row_keeps, round_keeps}
use Rattle.pattern_laws.proofs.Fitting.{IsUnbound, CountFits, ListFits}

-- makers have the ways of matchers one by one, each at the type with its number, from number `i` on
abbrev pub KeepFrom : MProgram → (sure : Bool) → (types : ℕ → MType) → (i : ℕ) → List Maker → List Matcher → Type 0
KeepFrom program sure types i [] [] = Unit {0}
KeepFrom program sure types i (f ∷ fs) (g ∷ gs) =
    ((v : MValue) → is_value program sure (types i) v ≡ true → arena_ways (f (types i)) v ≡ g v)
    × KeepFrom program sure types (suc i) fs gs
KeepFrom program sure types i _ _ = ⊥

-- there are as many makers as matchers
pub same_count : (program : MProgram) (sure : Bool) (types : ℕ → MType) (i : ℕ) (fs : List Maker)
    (gs : List Matcher) →
    KeepFrom program sure types i fs gs → length fs ≡ length gs
same_count program sure types i [] [] k = refl
same_count program sure types i (f ∷ fs) (g ∷ gs) k = ap suc (same_count program sure types (suc i) fs gs k.1)
same_count program sure types i [] (g ∷ gs) k = absurd k
same_count program sure types i (f ∷ fs) [] k = absurd k

pub next_number : (i n : ℕ) → suc i + n ≡ i + suc n
next_number i n = omega arith

pub no_more : (i : ℕ) → i + 0 ≡ i
no_more i = omega arith

-- two lists one after the other
both_keep : (program : MProgram) (sure : Bool) (types : ℕ → MType) (i : ℕ) (fs fs' : List Maker)
    (gs gs' : List Matcher) →
    KeepFrom program sure types i fs gs → KeepFrom program sure types (i + length fs) fs' gs' →
    KeepFrom program sure types i (fs ++ fs') (gs ++ gs')
both_keep program sure types i [] fs' [] gs' k l = subst (λ n. KeepFrom program sure types n fs' gs') (no_more i) l
both_keep program sure types i (f ∷ fs) fs' (g ∷ gs) gs' k l = (
  k.0,
  both_keep program sure types (suc i) fs fs' gs gs' k.1
      (subst (λ n. KeepFrom program sure types n fs' gs') (sym (next_number i (length fs))) l),
)
both_keep program sure types i [] fs' (g ∷ gs) gs' k l = absurd k
both_keep program sure types i (f ∷ fs) fs' [] gs' k l = absurd k

-- wildcards
wilds_keep : (program : MProgram) (sure : Bool) (types : ℕ → MType) (i n : ℕ) → KeepFrom program sure types i
    (replicate n wild_maker) (replicate n wild)
wilds_keep program sure types i zero = tt
wilds_keep program sure types i (suc n) = (λ v e. refl, wilds_keep program sure types (suc i) n)

pub replicate_length : {A : Type 0} (n : ℕ) (x : A) → length (replicate n x) ≡ n
replicate_length zero x = refl
replicate_length (suc n) x = ap suc (replicate_length n x)

-- the items round a rest of a fitting number, all of so many
laid_keep : (program : MProgram) (sure : Bool) (types : ℕ → MType) (rest : MRest) (n : ℕ) (fs bs : List Maker)
    (gs hs : List Matcher) →
    CountFits rest (length fs + length bs) n → KeepFrom program sure types 0 fs gs → KeepFrom program sure types
    (n - length bs) bs hs →
    KeepFrom program sure types 0 (laid_out wild_maker fs rest bs n) (laid_out wild gs rest hs n)
laid_keep program sure types rest n fs bs gs hs c k l = go rest c
  where
    there : (d : ℕ) → d ≡ n - length bs → KeepFrom program sure types d bs hs
    there d e = subst (λ x. KeepFrom program sure types x bs hs) (sym e) l

    around : (c : length fs + length bs ≤ n) →
        KeepFrom program sure types 0 (fs ++ (replicate (n - (length fs + length bs)) wild_maker ++ bs))
        (gs ++ (replicate (n - (length gs + length hs)) wild ++ hs))
    around c =
        rw (
          sym (same_count program sure types 0 fs gs k),
          sym (same_count program sure types (n - length bs) bs hs l),
        ) (both_keep program sure types 0 fs (replicate (n - (length fs + length bs)) wild_maker ++ bs) gs
        (replicate (n - (length fs + length bs)) wild ++ hs) k
        (both_keep program sure types (0 + length fs) (replicate (n - (length fs + length bs)) wild_maker) bs
        (replicate (n - (length fs + length bs)) wild) hs
        (wilds_keep program sure types (0 + length fs) (n - (length fs + length bs)))
        (there ((0 + length fs) + length (replicate (n - (length fs + length bs)) wild_maker))
        (ap (λ x. (0 + length fs) + x) (replicate_length (n - (length fs + length bs)) wild_maker)
        ∙ omega (arith, c)))))

    go : (rest : MRest) → CountFits rest (length fs + length bs) n →
        KeepFrom program sure types 0 (laid_out wild_maker fs rest bs n) (laid_out wild gs rest hs n)
    go NoRest c = both_keep program sure types 0 fs bs gs hs k (there (0 + length fs) (omega (arith, c)))
    go SomeRest c = around c
    go (BoundRest name written) c = around c

-- how many items are laid out
pub laid_count : {A : Type 0} (filler : A) (rest : MRest) (n : ℕ) (fs bs : List A) →
    CountFits rest (length fs + length bs) n → length (laid_out filler fs rest bs n) ≡ n
laid_count filler rest n fs bs c = go rest c
  where
    around : length fs + length bs ≤ n → length (fs ++ (replicate (n - (length fs + length bs)) filler ++ bs)) ≡ n
    around c =
        rw (
          length-append fs (replicate (n - (length fs + length bs)) filler ++ bs),
          length-append
              (replicate (n - (length fs + length bs)) filler) bs,
          replicate_length (n - (length fs + length bs)) filler,
        )
        (omega (arith, c))

    go : (rest : MRest) → CountFits rest (length fs + length bs) n → length (laid_out filler fs rest bs n) ≡ n
    go NoRest c = length-append fs bs ∙ c
    go SomeRest c = around c
    go (BoundRest name written) c = around c

-- the types of a list, by number
by_list : (program : MProgram) (sure : Bool) (types : ℕ → MType) (i : ℕ) (ts : MTypes) (fs : List Maker)
    (gs : List Matcher) →
    ((j : ℕ) (u : MType) → slice_get (types_list ts) j ≡ Some u → types (i + j) ≡ u) →
    length fs ≡ length (types_list ts) →
    KeepFrom program sure types i fs gs → AllKeep program sure fs ts gs
by_list program sure types i no_types [] [] at e k = tt
by_list program sure types i (more_types t ts) (f ∷ fs) (g ∷ gs) at e k =
    let first : types i ≡ t = ap types (sym (no_more i)) ∙ at 0 t refl in (
      subst (λ u. (v : MValue) → is_value program sure u v ≡ true → arena_ways (f u) v ≡ g v) first k.0,
      by_list program sure types (suc i) ts fs gs (λ j u s. ap types (next_number i j) ∙ at (suc j) u s)
          (omega (arith, e)) k.1,
    )
by_list program sure types i no_types (f ∷ fs) gs at e k = absurd (omega (arith, e))
by_list program sure types i (more_types t ts) [] gs at e k = absurd (omega (arith, e))
by_list program sure types i ts [] (g ∷ gs) at e k = absurd k
by_list program sure types i ts (f ∷ fs) [] at e k = absurd k

-- a value of a tuple type
tuple_value : (program : MProgram) (sure : Bool) (ts : MTypes) (v : MValue) → is_value program sure (TupleType ts) v
    ≡ true →
    (parts : MValues) × (v ≡ Node 0 parts) × (are_values program sure ts parts ≡ true)
tuple_value program sure ts (Node zero parts) e = (parts, refl, e)
tuple_value program sure ts (Node (suc k) parts) e = cc
tuple_value program true ts Unseen e = cc
tuple_value program false ts Unseen e = cc
tuple_value program sure ts v e = cc

-- a rest without a name binds nothing
unbound_ways : (rest : MRest) (m : Mode) (middle : MValue) (ws : List Way) → IsUnbound rest →
    map (bind_rest to_move rest m middle) ws ≡ ws
unbound_ways NoRest m middle [] r = refl
unbound_ways NoRest m middle (w ∷ ws) r = ap (λ l. w ∷ l) (unbound_ways NoRest m middle ws r)
unbound_ways SomeRest m middle [] r = refl
unbound_ways SomeRest m middle (w ∷ ws) r = ap (λ l. w ∷ l) (unbound_ways SomeRest m middle ws r)
unbound_ways (BoundRest name written) m middle ws r = absurd r

-- the part of a tuple with this number
pub part_there : (t : MType) (ts : MTypes) (j : ℕ) (u : MType) → slice_get (types_list ts) j ≡ Some u →
    part_type t (Some ts) (0 + j) ≡ u
part_there t ts j u e = ap (part_type t (Some ts)) zero_add ∙ ap (type_or t) e
  where
    zero_add : 0 + j ≡ j
    zero_add = omega arith

-- a tuple has the ways of its items
tuple_keeps : (program : MProgram) (sure : Bool) (rest : MRest) (m : Mode) (ts : MTypes) (fs bs : List Maker)
    (gs hs : List Matcher) (v : MValue) →
    IsUnbound rest → CountFits rest (length fs + length bs) (length (types_list ts)) →
    KeepFrom program sure (part_type (TupleType ts) (Some ts)) 0 fs gs →
    KeepFrom program sure (part_type (TupleType ts) (Some ts)) (length (types_list ts) - length bs) bs hs →
    is_value program sure (TupleType ts) v ≡ true →
    arena_ways (tuple_of fs rest bs (TupleType ts) ts) v ≡ list_ways to_move gs rest hs m v
tuple_keeps program sure rest m ts fs bs gs hs v r c k l e = go (tuple_value program sure ts v e)
  where
    go : (parts : MValues) × (v ≡ Node 0 parts) × (are_values program sure ts parts ≡ true) →
        arena_ways (tuple_of fs rest bs (TupleType ts) ts) v ≡ list_ways to_move gs rest hs m v
    go (parts, s, a) =
        rw s (with_none (Node 0 parts) (subs_ways (made (laid_out wild_maker fs rest bs (length (types_list ts))) ts)
        (numbered_from 0 (values_list parts)))
        ∙ items_keep program sure (laid_out wild_maker fs rest bs (length (types_list ts))) 0 ts
        (laid_out wild gs rest hs (length (types_list ts))) parts
        (by_list program sure (part_type (TupleType ts) (Some ts)) 0 ts
        (laid_out wild_maker fs rest bs (length (types_list ts))) (laid_out wild gs rest hs (length (types_list ts)))
        (part_there (TupleType ts) ts) (laid_count wild_maker rest (length (types_list ts)) fs bs c)
        (laid_keep program sure (part_type (TupleType ts) (Some ts)) rest
        (length (types_list ts)) fs bs gs hs c k l)) a
        ∙ ap (λ n. items_ways (laid_out wild gs rest hs n) 0 (values_list parts))
        (count_keeps program sure ts parts a)
        ∙ sym (unbound_ways rest m (middle_of (length gs) (length hs) (values_list parts))
        (items_ways (laid_out wild gs rest hs (length (values_list parts))) 0 (values_list parts)) r))

-- items at one type
at_one_type : (program : MProgram) (sure : Bool) (t : MType) (i : ℕ) (fs : List Maker) (gs : List Matcher) →
    KeepFrom program sure (λ j. t) i fs gs → PatsKeep program sure t (made_at fs t) gs
at_one_type program sure t i [] [] k = tt
at_one_type program sure t i (f ∷ fs) (g ∷ gs) k = (k.0, at_one_type program sure t (suc i) fs gs k.1)
at_one_type program sure t i [] (g ∷ gs) k = absurd k
at_one_type program sure t i (f ∷ fs) [] k = absurd k

-- patterns one after the other
pats_append : (program : MProgram) (sure : Bool) (t : MType) (ps qs : MDePats MType) (gs hs : List Matcher) →
    PatsKeep program sure t ps gs → PatsKeep program sure t qs hs → PatsKeep program sure t (and_pats ps qs)
    (gs ++ hs)
pats_append program sure t no_de_pats qs [] hs k l = l
pats_append program sure t (more_de_pats p ps) qs (g ∷ gs) hs k l =
    (k.0, pats_append program sure t ps qs gs hs k.1 l)
pats_append program sure t no_de_pats qs (g ∷ gs) hs k l = absurd k
pats_append program sure t (more_de_pats p ps) qs [] hs k l = absurd k

pub made_count : (fs : List Maker) (t : MType) → length (de_pats_list (made_at fs t)) ≡ length fs
made_count [] t = refl
made_count (f ∷ fs) t = ap suc (made_count fs t)

numbered_count : (i : ℕ) (vs : List MValue) → length (numbered_from i vs) ≡ length vs
numbered_count i [] = refl
numbered_count i (v ∷ vs) = ap suc (numbered_count (suc i) vs)

-- no way where there are not as many matchers as items
miscounted : (gs : List Matcher) (i : ℕ) (vs : List MValue) → nat_eq (length gs) (length vs) ≡ false →
    items_ways gs i vs ≡ []
miscounted [] i [] e = cc
miscounted [] i (v ∷ vs) e = refl
miscounted (g ∷ gs) i [] e = refl
miscounted (g ∷ gs) i (v ∷ vs) e =
    ap (λ ws. combine (map (under i) (g v)) ws) (miscounted gs (suc i) vs (grind (arith, nat_tests, e)))
    ∙ combine_none (map (under i) (g v))
  where
    combine_none : (ws : List Way) → combine ws [] ≡ []
    combine_none [] = refl
    combine_none (w ∷ ws) = combine_none ws

-- the values of a slice or an array
row_value : (program : MProgram) (sure : Bool) (t : MType) (v : MValue) → is_value program sure (SliceType t) v
    ≡ true →
    (items : MValues) × (v ≡ Row items) × (all_are_values program sure t items ≡ true)
row_value program sure t (Row items) e = (items, refl, e)
row_value program true t Unseen e = cc
row_value program false t Unseen e = cc
row_value program sure t v e = cc

array_value : (program : MProgram) (sure : Bool) (t : MType) (n : ℕ) (v : MValue) → is_value program sure
    (ArrayType t n) v ≡ true →
    (items : MValues) × (v ≡ Row items) × (all_are_values program sure t items ≡ true)
array_value program sure t n (Row items) e = go (nat_eq (length (values_list items)) n) e
  where
    go : (b : Bool) → elim (some_if b t) as
        (λ x. Bool) [ None ↦ false | Some item ↦ all_are_values program sure item items ] ≡ true →
        (is : MValues) × (Row items ≡ Row is) × (all_are_values program sure t is ≡ true)
    go true e = (items, refl, e)
    go false e = cc
array_value program true t n Unseen e = cc
array_value program false t n Unseen e = cc
array_value program sure t n v e = cc

-- the items of a row of one length
fixed_ways : (program : MProgram) (sure : Bool) (t : MType) (n : ℕ) (ps : MDePats MType) (gs : List Matcher)
    (items : MValues) →
    PatsKeep program sure t ps gs → n ≡ length gs → all_are_values program sure t items ≡ true →
    ways_where (some_if (nat_eq n (length (values_list items))) (numbered_from 0 (values_list items)))
    (λ parts. subs_ways ps parts)
    ≡ items_ways gs 0 (values_list items)
fixed_ways program sure t n ps gs items k c a = go (nat_eq n (length (values_list items))) refl
  where
    go : (b : Bool) → nat_eq n (length (values_list items)) ≡ b →
        ways_where (some_if b (numbered_from 0 (values_list items))) (λ parts. subs_ways ps parts) ≡ items_ways gs 0
        (values_list items)
    go true e = row_keeps program sure t 0 ps gs items k a
    go false e = sym (miscounted gs 0 (values_list items) (ap (λ x. nat_eq x (length (values_list items))) (sym c)
        ∙ e))

-- the items of a row with a rest, so many in front and so many behind
longer_ways : (program : MProgram) (sure : Bool) (t : MType) (fs bs : List Maker) (gs hs : List Matcher)
    (items : MValues) →
    KeepFrom program sure (λ j. t) 0 fs gs → KeepFrom program sure (λ j. t) 0 bs hs →
    all_are_values program sure t items ≡ true →
    ways_where (some_if (nat_le (length fs + length bs) (length (values_list items)))
    (take (length fs) (numbered_from 0 (values_list items)) ++ drop
    (length (numbered_from 0 (values_list items)) - length bs) (numbered_from 0 (values_list items))))
    (λ parts. subs_ways (and_pats (made_at fs t) (made_at bs t)) parts)
    ≡ items_ways (gs ++ (replicate (length (values_list items) - (length gs + length hs)) wild ++ hs)) 0
    (values_list items)
longer_ways program sure t fs bs gs hs items k l a = go
    (nat_le (length fs + length bs) (length (values_list items))) refl
  where
    len : ℕ
    len = length (values_list items)

    go : (b : Bool) → nat_le (length fs + length bs) (length (values_list items)) ≡ b →
        ways_where (some_if b
        (take (length fs) (numbered_from 0 (values_list items)) ++ drop
        (length (numbered_from 0 (values_list items)) - length bs) (numbered_from 0 (values_list items))))
        (λ parts. subs_ways (and_pats (made_at fs t) (made_at bs t)) parts)
        ≡ items_ways (gs ++ (replicate (length (values_list items) - (length gs + length hs)) wild ++ hs)) 0
        (values_list items)
    go true e =
        let le : length fs + length bs ≤ length (values_list items) = grind (arith, nat_tests, e) in
        rw (
          numbered_count 0 (values_list items),
          sym (same_count program sure (λ j. t) 0 fs gs k),
          sym (same_count program sure (λ j. t) 0 bs hs l),
        ) (
        ap (λ n. subs_ways (and_pats (made_at fs t) (made_at bs t))
        (take n (numbered_from 0 (values_list items)) ++ drop (length (values_list items) - length bs)
        (numbered_from 0 (values_list items))))
        (sym (made_count fs t))
        ∙ round_keeps program sure t (length (values_list items) - (length fs + length bs))
        (length (values_list items) - length bs) 0
        (made_at fs t) (made_at bs t) gs hs items (at_one_type program sure t 0 fs gs k)
        (at_one_type program sure t 0 bs hs l) a
        (omega (arith, le, made_count fs t)) (omega arith))
    go false e =
        let f : length fs ≡ length gs = same_count program sure (λ j. t) 0 fs gs k in
        let b : length bs ≡ length hs = same_count program sure (λ j. t) 0 bs hs l in
        let c : length (gs ++ (replicate (length (values_list items) - (length gs + length hs)) wild ++ hs))
        ≡ length gs + ((length (values_list items) - (length gs + length hs)) + length hs) =
        length-append gs (replicate (length (values_list items) - (length gs + length hs)) wild ++ hs)
        ∙ ap (λ x. length gs + x)
        (length-append (replicate (length (values_list items) - (length gs + length hs)) wild) hs
        ∙ ap (λ x. x + length hs) (replicate_length (length (values_list items) - (length gs + length hs)) wild)) in
        sym (miscounted (gs ++ (replicate (length (values_list items) - (length gs + length hs)) wild ++ hs)) 0
        (values_list items) (grind (arith, nat_tests, e, f, b, c)))

-- a row has the ways of its items
row_ways : (program : MProgram) (sure : Bool) (rest : MRest) (m : Mode) (u t : MType) (fs bs : List Maker)
    (gs hs : List Matcher) (items : MValues) →
    KeepFrom program sure (λ j. t) 0 fs gs → KeepFrom program sure (λ j. t) 0 bs hs →
    all_are_values program sure t items ≡ true →
    arena_ways (row_of fs rest bs u t m) (Row items) ≡ list_ways to_move gs rest hs m (Row items)
row_ways program sure NoRest m u t fs bs gs hs items k l a =
    let counts : length fs + length bs ≡ length (gs ++ hs) =
    rw (same_count program sure (λ j. t) 0 fs gs k, same_count program sure (λ j. t) 0 bs hs l)
    (sym (length-append gs hs)) in
    with_none (Row items)
    (ways_where (some_if (nat_eq (length fs + length bs) (length (values_list items)))
    (numbered_from 0 (values_list items))) (λ parts. subs_ways (and_pats (made_at fs t) (made_at bs t)) parts))
    ∙ fixed_ways program sure t (length fs + length bs) (and_pats (made_at fs t) (made_at bs t)) (gs ++ hs) items
    (pats_append program sure t (made_at fs t) (made_at bs t) gs hs (at_one_type program sure t 0 fs gs k)
    (at_one_type program sure t 0 bs hs l)) counts a
    ∙ sym (unbound_ways NoRest m (middle_of (length gs) (length hs) (values_list items))
    (items_ways (gs ++ hs) 0 (values_list items)) tt)
row_ways program sure SomeRest m u t fs bs gs hs items k l a =
    with_none (Row items) (ways_where (some_if (nat_le (length fs + length bs) (length (values_list items)))
    (take (length fs) (numbered_from 0 (values_list items)) ++ drop
    (length (numbered_from 0 (values_list items)) - length bs) (numbered_from 0 (values_list items))))
    (λ parts. subs_ways (and_pats (made_at fs t) (made_at bs t)) parts))
    ∙ longer_ways program sure t fs bs gs hs items k l a
    ∙ sym (unbound_ways SomeRest m (middle_of (length gs) (length hs) (values_list items))
    (items_ways (gs ++ (replicate (length (values_list items) - (length gs + length hs)) wild ++ hs)) 0
    (values_list items)) tt)
row_ways program sure (BoundRest name written) m u t fs bs gs hs items k l a =
    ap (map (with_bounds (rest_bound (length fs) (length bs) (BoundRest name written) m) (Row items)))
    (longer_ways program sure t fs bs gs hs items k l a)
    ∙ rw (same_count program sure (λ j. t) 0 fs gs k, same_count program sure (λ j. t) 0 bs hs l) refl

-- a list has the ways of its items
pub list_keeps : (program : MProgram) (front back : (ℕ → MType) → ℕ → Type 0) (fs bs : List Maker)
    (gs hs : List Matcher) →
    ((sure : Bool) (types : ℕ → MType) (i : ℕ) → front types i → KeepFrom program sure types i fs gs) →
    ((sure : Bool) (types : ℕ → MType) (i : ℕ) → back types i → KeepFrom program sure types i bs hs) →
    (rest : MRest) (u : MType) (m : Mode) (sure : Bool) (v : MValue) → ListFits front rest back (length fs)
    (length bs) u → is_value program sure u v ≡ true →
    arena_ways (list_of program fs rest bs u m) v ≡ list_ways to_move gs rest hs m v
list_keeps program front back fs bs gs hs h k rest (SliceType t) m sure v q e = go (row_value program sure t v e)
  where
    go : (items : MValues) × (v ≡ Row items) × (all_are_values program sure t items ≡ true) →
        arena_ways (list_of program fs rest bs (SliceType t) m) v ≡ list_ways to_move gs rest hs m v
    go (items, s, a) = rw s (row_ways program sure rest m (SliceType t) t fs bs gs hs items (h sure (λ j. t) 0 q.1)
        (k sure (λ j. t) 0 q.2) a)
list_keeps program front back fs bs gs hs h k rest (ArrayType t n) m sure v q e = go
    (array_value program sure t n v e)
  where
    go : (items : MValues) × (v ≡ Row items) × (all_are_values program sure t items ≡ true) →
        arena_ways (list_of program fs rest bs (ArrayType t n) m) v ≡ list_ways to_move gs rest hs m v
    go (items, s, a) = rw s (row_ways program sure rest m (ArrayType t n) t fs bs gs hs items (h sure (λ j. t) 0 q.2)
        (k sure (λ j. t) 0 q.3) a)
list_keeps program front back fs bs gs hs h k rest (TupleType ts) m sure v q e =
    tuple_keeps program sure rest m ts fs bs gs hs v q.0 q.1
    (h sure (part_type (TupleType ts) (Some ts)) 0 q.2)
    (k sure (part_type (TupleType ts) (Some ts)) (length (types_list ts) - length bs) q.3) e
list_keeps program front back fs bs gs hs h k rest u m sure v q e = absurd q

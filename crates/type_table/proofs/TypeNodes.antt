-- Written types and the nodes that stand for them.
use Rattle.std.proofs.Common.{◌≡◌, ℕ, ◌<◌, Bool, true, false, List, [], ◌∷◌, ◌++◌, map, length, Option, Some, refl, sym, ap, ◌∙◌, arith}
use Rattle.std.specs.Prelude.{slice_get, nat_lt, nat_eq}
use Rattle.std.proofs.lemmas.List.{map-append}
use Rattle.std.proofs.lemmas.Bool.Decides.{nat_tests}
use Rattle.std.proofs.lemmas.Bool.{and_from, lt-ltb}
use Rattle.match_model.specs.Types.{MType, TupleType, MTypes, no_types, more_types, types_list}
use Rattle.match_model.specs.Types.{types_of as types_of_list}
use Rattle.decl_syntax.specs.Types.{TypeTree, types_from as trees_from}
use Rattle.decl_syntax.specs.Types as written
use Rattle.type_names.specs.declared.meanings.Meaning.{Meaning}
use Rattle.type_names.specs.declared.meanings.Meaning.TheVariants as meanings
use Rattle.type_names.specs.declared.meanings.Base.{Base}
use Rattle.type_names.specs.declared.meanings.Base.TheVariants as bases
use Rattle.type_names.specs.Meanings.{Means, argument_count, arguments_sized}
use Rattle.type_names.specs.Meanings as plain_meanings
use Rattle.type_names.specs.Views.{meaning_view, base_view}
use Rattle.type_names.specs.Written.{type_of, types_of, named_type, meant_type, base_type, broken_type}
use Rattle.type_table.specs.declared.nodes.Node.{Node}
use Rattle.type_table.specs.Nodes.{type_at, type_there, types_in, are_below, Extends}
use Rattle.type_table.specs.Readings.{head_of, type_with}
use Rattle.type_table.proofs.NodeLemmas.{get_below, count_types, type_stays}

pub id_below : (ks : List Node) (i : ℕ) (t : MType) → slice_get (types_in ks) i ≡ Some t → i < length ks
id_below ks i t h =
    let below : i < length (types_in ks) = get_below (types_in ks) i t h in
    let count : length (types_in ks) ≡ length ks = count_types ks [] ∙ omega arith in
    omega arith

pub ids_below : (ks : List Node) (ids : List ℕ) (ts : List MType) → map (slice_get (types_in ks)) ids ≡ map Some ts → are_below ids (length ks) ≡ true
ids_below ks [] ts h = refl
ids_below ks (i ∷ ids) [] h = absurd cc
ids_below ks (i ∷ ids) (t ∷ ts) h =
    let here : slice_get (types_in ks) i ≡ Some t = cc in
    let others : map (slice_get (types_in ks)) ids ≡ map Some ts = cc in
    and_from (nat_lt i (length ks)) (are_below ids (length ks)) (lt-ltb i (length ks) (id_below ks i t here)) (ids_below ks ids ts others)

pub ids_types : (types : List MType) (ids : List ℕ) (ts : List MType) → map (slice_get types) ids ≡ map Some ts → map (type_at types) ids ≡ ts
ids_types types [] [] h = refl
ids_types types (i ∷ ids) (t ∷ ts) h =
    let here : slice_get types i ≡ Some t = cc in
    let others : map (slice_get types) ids ≡ map Some ts = cc in
    ap (λ (o : Option MType). type_there o ∷ map (type_at types) ids) here ∙ ap (λ (us : List MType). t ∷ us) (ids_types types ids ts others)
ids_types types _ _ h = absurd cc

pub ids_stay : (old new : List Node) (ids : List ℕ) (ts : List MType) → Extends old new → map (slice_get (types_in old)) ids ≡ map Some ts → map (slice_get (types_in new)) ids ≡ map Some ts
ids_stay old new [] ts more h = h
ids_stay old new (i ∷ ids) [] more h = absurd cc
ids_stay old new (i ∷ ids) (t ∷ ts) more h =
    let here : slice_get (types_in old) i ≡ Some t = cc in
    let others : map (slice_get (types_in old)) ids ≡ map Some ts = cc in
    ap (λ (o : Option MType). o ∷ map (slice_get (types_in new)) ids) (type_stays old new i t more here)
    ∙ ap (λ (os : List (Option MType)). Some t ∷ os) (ids_stay old new ids ts more others)

pub ids_push : (ks : List Node) (ids : List ℕ) (ts : List MType) (i : ℕ) (t : MType) → map (slice_get (types_in ks)) ids ≡ map Some ts → slice_get (types_in ks) i ≡ Some t →
    map (slice_get (types_in ks)) (ids ++ i ∷ []) ≡ map Some (ts ++ t ∷ [])
ids_push ks ids ts i t h at =
    map-append (slice_get (types_in ks)) ids (i ∷ [])
    ∙ (ap (λ (os : List (Option MType)). os ++ slice_get (types_in ks) i ∷ []) h
    ∙ (ap (λ (o : Option MType). map Some ts ++ o ∷ []) at ∙ sym (map-append Some ts (t ∷ []))))

pub written_push : (names : Means) (sized : Bool) (xs : List TypeTree) (y : TypeTree) →
    types_list (types_of names sized (trees_from (xs ++ y ∷ []))) ≡ types_list (types_of names sized (trees_from xs)) ++ type_of names sized y ∷ []
written_push names sized [] y = refl
written_push names sized (x ∷ xs) y = ap (λ ts. type_of names sized x ∷ ts) (written_push names sized xs y)

pub list_there : (ts : MTypes) → types_of_list (types_list ts) ≡ ts
list_there no_types = refl
list_there (more_types t ts) = ap (more_types t) (list_there ts)

pub list_back : (ts : List MType) → types_list (types_of_list ts) ≡ ts
list_back [] = refl
list_back (t ∷ ts) = ap (λ us. t ∷ us) (list_back ts)

-- with another number of arguments a name's type is broken
pub miscounted : (sized : Bool) (m : plain_meanings.Meaning) (args : List MType) → nat_eq (length args) (argument_count m) ≡ false → named_type sized (Some m) (types_of_list args) ≡ broken_type
miscounted sized m args e = rw (list_back args, e) refl

-- with the right number it is that of the head
pub counted : (sized : Bool) (m : Meaning) (args : List MType) → nat_eq (length args) (argument_count (meaning_view m)) ≡ true →
    type_with (head_of sized m) args ≡ named_type sized (Some (meaning_view m)) (types_of_list args)
counted sized m args e = meant sized m args ∙ sym (rw (list_back args, e) refl)
  where
    base : (b : Base) (args : List MType) → type_with (head_of true (meanings.Base b)) args ≡ base_type true (base_view b)
    base bases.Str args = refl
    base _ args = refl

    meant : (sized : Bool) (m : Meaning) (args : List MType) → type_with (head_of sized m) args ≡ meant_type sized (meaning_view m) (types_of_list args)
    meant sized (meanings.Item i) args = refl
    meant true (meanings.Base b) args = base b args
    meant _ _ args = refl

pub differ_test : (k n a b : ℕ) → k ≡ n → a ≡ b → (n ≡ a → ⊥) → nat_eq k b ≡ false
differ_test k n a b e f ne = grind (arith, nat_tests)

pub same_test : (k n a b : ℕ) → k ≡ n → a ≡ b → n ≡ a → nat_eq k b ≡ true
same_test k n a b e f g = grind (arith, nat_tests)

pub tuple_seen : (names : Means) (sized : Bool) (trees : List TypeTree) (t : TypeTree) → t ≡ written.Tuple (trees_from trees) →
    TupleType (types_of names true (trees_from trees)) ≡ type_of names sized t
tuple_seen names sized trees t e = ap (type_of names sized) (sym e)

pub named_seen : (names : Means) (sized : Bool) (o : Option plain_meanings.Meaning) (b : Bool) (n : List ℕ) (trees : List TypeTree) (t : TypeTree) →
    o ≡ names n → b ≡ arguments_sized (names n) → t ≡ written.Named n (trees_from trees) →
    named_type sized o (types_of names b (trees_from trees)) ≡ type_of names sized t
named_seen names sized o b n trees t e f g = rw (e, f, g) refl

-- the numbers of a list of types that is one longer
pub ids_more : (old new : List Node) (ids more : List ℕ) (names : Means) (sized : Bool) (xs ys : List TypeTree) (y : TypeTree) (i : ℕ) → Extends old new →
    map (slice_get (types_in old)) ids ≡ map Some (types_list (types_of names sized (trees_from xs))) →
    slice_get (types_in new) i ≡ Some (type_of names sized y) → more ≡ ids ++ i ∷ [] → ys ≡ xs ++ y ∷ [] →
    map (slice_get (types_in new)) more ≡ map Some (types_list (types_of names sized (trees_from ys)))
ids_more old new ids more names sized xs ys y i ext h at pushed longer =
    ap (map (slice_get (types_in new))) pushed
    ∙ (ids_push new ids (types_list (types_of names sized (trees_from xs))) i (type_of names sized y) (ids_stay old new ids (types_list (types_of names sized (trees_from xs))) ext h) at
    ∙ ap (map Some) (sym (written_push names sized xs y) ∙ ap (λ (zs : List TypeTree). types_list (types_of names sized (trees_from zs))) (sym longer)))

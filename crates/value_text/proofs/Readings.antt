-- What is left of a list of written values behind a place in it.
use Rattle.std.proofs.Common.{◌≡◌, Vec, ℕ, zero, suc, ◌+◌, ◌<◌, ◌≤◌, Bool, true, false, nat_eq, List, [], ◌∷◌, ◌++◌, map, length, drop, get_or, Option, Some, None, is_some, slice_get, refl, sym, ap, subst, ◌∙◌, append_assoc, append-nil, cond, arith}
use Rattle.std.specs.Prelude.{option_map}
use Rattle.std.proofs.Math.Seq.{drop-cons}
use Rattle.std.proofs.lemmas.List.{drop_all}
use Rattle.match_model.specs.Types.{MType, MTypes, types_list}
use Rattle.match_model.specs.Declarations.{MField, MProgram}
use Rattle.match_model.specs.RustTypes.{count_of_types}
use Rattle.match_model.specs.Values.{MValue}
use Rattle.type_table.specs.Tables.{part_of}
use Rattle.std.specs.Global.{Global}
use Rattle.match_model.specs.Typing.{item_type}
use Rattle.tree_eval.specs.declared.value.Value.{Value}
use Rattle.tree_eval.specs.Views.{plain_value}
use Rattle.witness_text.specs.Trees.{NameTree}
use Rattle.value_syntax.specs.declared.value.WrittenValue.{WrittenValue}
use Rattle.value_syntax.specs.declared.value.WrittenField.{WrittenField}
use Rattle.value_syntax.specs.Trees.{WrittenTree, WrittenRow, WrittenBraceForm, WrittenTrees, no_values, more_values, WrittenFields, no_fields, more_fields, values_from, written_view, field_view, values_view, fields_view}
use Rattle.value_text.specs.Names.{field_found, form_named, brace_of}
use Rattle.value_text.specs.Fields.{in_front, given_number, only_one, in_order}
use Rattle.value_text.specs.Meanings.{count, node, row, numbered_front, node_of_fields, meant, meant_parts, meant_items, meant_fields}
use Rattle.value_text.specs.Lookups.{types_there, plain_values, plain_numbered}

-- these in front of those that may be there
abbrev pub before : {A : Type 0} → List A → Option (List A) → Option (List A)
before xs o = option_map (λ ys. xs ++ ys) o

module _ {A : Type 0} where
  pub begun : (o : Option (List A)) → before [] o ≡ o
  begun None = refl
  begun (Some xs) = refl

  moved : (xs : List A) (x : A) (next : Option (List A)) → before (xs ++ x ∷ []) next ≡ before xs (in_front (Some x) next)
  moved xs x None = refl
  moved xs x (Some ys) = ap Some (append_assoc xs (x ∷ []) ys)

  -- one goes from the rest to what is there
  pub stepped : (xs more : List A) (x : A) (rest next all : Option (List A)) → more ≡ xs ++ x ∷ [] → rest ≡ in_front (Some x) next →
      before xs rest ≡ all → before more next ≡ all
  stepped xs more x rest next all m r h = ap (λ ys. before ys next) m ∙ (moved xs x next ∙ (ap (before xs) (sym r) ∙ h))

  -- one is missing
  pub stopped : (xs : List A) (rest all : Option (List A)) → rest ≡ None → before xs rest ≡ all → None ≡ all
  stopped xs rest all r h = ap (before xs) (sym r) ∙ h

  -- nothing is left
  pub finished : (xs : List A) (rest all : Option (List A)) → rest ≡ Some [] → before xs rest ≡ all → Some xs ≡ all
  finished xs rest all r h = ap Some (sym (append-nil xs)) ∙ (ap (before xs) (sym r) ∙ h)

-- values from one on
values_behind : (ws : List WrittenValue) (i : ℕ) (w : WrittenValue) → i < length ws → w ≡ get_or ws i w →
    values_view (drop i ws) ≡ more_values (written_view w) (values_view (drop (i + 1) ws))
values_behind ws i w h e =
    let step : drop i ws ≡ get_or ws i w ∷ drop (suc i) ws = drop-cons ws i w h in
    let next : suc i ≡ i + 1 = omega arith in
    ap values_view step
    ∙ (ap (λ u. more_values (written_view u) (values_view (drop (suc i) ws))) (sym e)
    ∙ ap (λ k. more_values (written_view w) (values_view (drop k ws))) next)

-- fields from one on
fields_behind : (fs : List WrittenField) (i : ℕ) (f : WrittenField) → i < length fs → f ≡ get_or fs i f → (name : List ℕ) (w : WrittenTree) →
    field_view f ≡ record { name = name; value = w } →
    fields_view (drop i fs) ≡ more_fields name w (fields_view (drop (i + 1) fs))
fields_behind fs i f h e name w seen =
    let step : drop i fs ≡ get_or fs i f ∷ drop (suc i) fs = drop-cons fs i f h in
    let next : suc i ≡ i + 1 = omega arith in
    ap fields_view step
    ∙ (ap (λ g. more_fields (field_view g).name (field_view g).value (fields_view (drop (suc i) fs))) (sym e)
    ∙ (ap (λ g. more_fields g.name g.value (fields_view (drop (suc i) fs))) seen
    ∙ ap (λ k. more_fields name w (fields_view (drop k fs))) next))

pub counted : (ws : List WrittenValue) → count (values_view ws) ≡ length ws
counted [] = refl
counted (w ∷ ws) = ap suc (counted ws)

-- items

module _ (program : MProgram) (sure : Bool) (t : MType) (ws : List WrittenValue) (i : ℕ) where
  pub next_item : (w : WrittenValue) (v : Option MValue) → i < length ws → w ≡ get_or ws i w → v ≡ meant program sure t (written_view w) →
      meant_items program sure t (values_view (drop i ws)) ≡ in_front v (meant_items program sure t (values_view (drop (i + 1) ws)))
  next_item w v h e m =
      ap (meant_items program sure t) (values_behind ws i w h e)
      ∙ ap (λ u. in_front u (meant_items program sure t (values_view (drop (i + 1) ws)))) (sym m)

  pub no_item : length ws ≤ i → meant_items program sure t (values_view (drop i ws)) ≡ Some []
  no_item h = ap (λ us. meant_items program sure t (values_view us)) (drop_all i ws h)

-- parts

left_from : {A : Type 0} (xs : List A) (i : ℕ) (x : A) → slice_get xs i ≡ Some x → drop i xs ≡ x ∷ drop (suc i) xs
left_from [] i x h = cc
left_from (y ∷ ys) zero x h = cc
left_from (y ∷ ys) (suc i) x h = left_from ys i x h

types_from : (o : Option MTypes) (i : ℕ) (t : MType) → part_of o i ≡ Some t → drop i (types_there o) ≡ t ∷ drop (suc i) (types_there o)
types_from None i t h = cc
types_from (Some ts) i t h = left_from (types_list ts) i t h

item_there : {A : Type 0} (xs : List A) (i : ℕ) → i < length xs → is_some (slice_get xs i) ≡ true
item_there [] i h = absurd (omega (arith, h))
item_there (x ∷ xs) zero h = refl
item_there (x ∷ xs) (suc i) h = item_there xs i (omega (arith, h))

pub part_there : (o : Option MTypes) (i : ℕ) → i < count_of_types o → is_some (part_of o i) ≡ true
part_there None i h = absurd (omega (arith, h))
part_there (Some ts) i h = item_there (types_list ts) i h

types_counted : (o : Option MTypes) → length (types_there o) ≡ count_of_types o
types_counted None = refl
types_counted (Some ts) = refl

module _ (program : MProgram) (sure : Bool) (o : Option MTypes) (ws : List WrittenValue) (i k : ℕ) where
  pub next_part : (w : WrittenValue) (t : MType) (v : Option MValue) → k < length ws → w ≡ get_or ws k w → part_of o i ≡ Some t →
      v ≡ meant program sure t (written_view w) →
      meant_parts program sure (drop i (types_there o)) (values_view (drop k ws))
      ≡ in_front v (meant_parts program sure (drop (i + 1) (types_there o)) (values_view (drop (k + 1) ws)))
  next_part w t v h e at m =
      let next : suc i ≡ i + 1 = omega arith in
      ap (meant_parts program sure (drop i (types_there o))) (values_behind ws k w h e)
      ∙ (ap (λ ts. meant_parts program sure ts (more_values (written_view w) (values_view (drop (k + 1) ws)))) (types_from o i t at)
      ∙ (ap (λ u. in_front u (meant_parts program sure (drop (suc i) (types_there o)) (values_view (drop (k + 1) ws)))) (sym m)
      ∙ ap (λ j. in_front v (meant_parts program sure (drop j (types_there o)) (values_view (drop (k + 1) ws)))) next))

  pub no_part : length ws ≤ k → count_of_types o ≤ i → meant_parts program sure (drop i (types_there o)) (values_view (drop k ws)) ≡ Some []
  no_part h e =
      ap (λ us. meant_parts program sure (drop i (types_there o)) (values_view us)) (drop_all k ws h)
      ∙ ap (λ ts. meant_parts program sure ts no_values) (drop_all i (types_there o) (subst (λ n. n ≤ i) (sym (types_counted o)) e))

other_count : (program : MProgram) (sure : Bool) (ts : List MType) (ws : List WrittenValue) → (length ws ≡ length ts → ⊥) →
    meant_parts program sure ts (values_view ws) ≡ None
other_count program sure [] [] h = absurd (h refl)
other_count program sure [] (w ∷ ws) h = refl
other_count program sure (t ∷ ts) [] h = refl
other_count program sure (t ∷ ts) (w ∷ ws) h =
    ap (in_front (meant program sure t (written_view w))) (other_count program sure ts ws (λ e. h (ap suc e)))
    ∙ by (meant program sure t (written_view w))
  where
    by : (v : Option MValue) → in_front v None ≡ None
    by None = refl
    by (Some v) = refl

-- more or fewer parts than types
pub parts_differ : (program : MProgram) (sure : Bool) (o : Option MTypes) (ws : List WrittenValue) → (length ws ≡ count_of_types o → ⊥) →
    None ≡ meant_parts program sure (types_there o) (values_view ws)
parts_differ program sure o ws h = sym (other_count program sure (types_there o) ws (λ e. h (e ∙ types_counted o)))

-- fields

field_by : (o : Option (ℕ × MType)) (f : MType → Option MValue) (rest : Option (List (ℕ × MValue))) (k : ℕ) (t : MType) → o ≡ Some (k, t) →
    elim o [ None ↦ None | Some p ↦ numbered_front p.0 (f p.1) rest ] ≡ numbered_front k (f t) rest
field_by None f rest k t h = absurd cc
field_by (Some p) f rest k t h = let e : p ≡ (k, t) = cc in ap (λ (q : ℕ × MType). numbered_front q.0 (f q.1) rest) e

no_field_by : (o : Option (ℕ × MType)) (f : MType → Option MValue) (rest : Option (List (ℕ × MValue))) → o ≡ None →
    ◌≡◌ {A = Option (List (ℕ × MValue))} (elim o [ None ↦ None | Some p ↦ numbered_front p.0 (f p.1) rest ]) None
no_field_by None f rest h = refl
no_field_by (Some p) f rest h = absurd cc

module _ (program : MProgram) (sure : Bool) (fields : List MField) (fs : List WrittenField) (i : ℕ) (f : WrittenField) (below : i < length fs) (is : f ≡ get_or fs i f)
    (name : List ℕ) (w : WrittenTree) (seen : field_view f ≡ record { name = name; value = w }) where
  pub next_field : (k : ℕ) (t : MType) (v : Option MValue) → Some (k, t) ≡ field_found fields name → v ≡ meant program sure t w →
      meant_fields program sure fields (fields_view (drop i fs))
      ≡ numbered_front k v (meant_fields program sure fields (fields_view (drop (i + 1) fs)))
  next_field k t v at m =
      let rest = meant_fields program sure fields (fields_view (drop (i + 1) fs)) in
      ap (meant_fields program sure fields) (fields_behind fs i f below is name w seen)
      ∙ (field_by (field_found fields name) (λ u. meant program sure u w) rest k t (sym at) ∙ ap (λ u. numbered_front k u rest) (sym m))

  pub unknown_field : None ≡ field_found fields name → meant_fields program sure fields (fields_view (drop i fs)) ≡ None
  unknown_field at = ap (meant_fields program sure fields) (fields_behind fs i f below is name w seen) ∙ no_field_by (field_found fields name) (λ u. meant program sure u w) (meant_fields program sure fields (fields_view (drop (i + 1) fs))) (sym at)

pub no_field : (program : MProgram) (sure : Bool) (fields : List MField) (fs : List WrittenField) (i : ℕ) → length fs ≤ i →
    meant_fields program sure fields (fields_view (drop i fs)) ≡ Some []
no_field program sure fields fs i h = ap (λ gs. meant_fields program sure fields (fields_view gs)) (drop_all i fs h)

-- things that are given numbers, each replaced by what is made of it

module _ {A B : Type 0} (f : A → B) where
  abbrev made : ℕ × A → ℕ × B
  made g = (g.0, f g.1)

  number_made : (i : ℕ) (gs : List (ℕ × A)) → given_number i (map made gs) ≡ map f (given_number i gs)
  number_made i [] = refl
  number_made i (g ∷ gs) = by (nat_eq i g.0) (number_made i gs)
    where
      by : (b : Bool) → given_number i (map made gs) ≡ map f (given_number i gs) →
          (cond b (f g.1 ∷ given_number i (map made gs)) (given_number i (map made gs))) ≡ map f (cond b (g.1 ∷ given_number i gs) (given_number i gs))
      by true h = ap (λ ys. f g.1 ∷ ys) h
      by false h = h

  only_made : (xs : List A) → only_one (map f xs) ≡ option_map f (only_one xs)
  only_made [] = refl
  only_made (x ∷ []) = refl
  only_made (x ∷ (y ∷ xs)) = refl

  front_made : (o : Option A) (os : Option (List A)) → in_front (option_map f o) (option_map (map f) os) ≡ option_map (map f) (in_front o os)
  front_made None os = refl
  front_made (Some x) None = refl
  front_made (Some x) (Some xs) = refl

  pub order_made : (i n : ℕ) (gs : List (ℕ × A)) → in_order i n (map made gs) ≡ option_map (map f) (in_order i n gs)
  order_made i zero gs = refl
  order_made i (suc n) gs =
      rw (number_made i gs, only_made (given_number i gs), order_made (suc i) n gs) (front_made (only_one (given_number i gs)) (in_order (suc i) n gs))

-- whole values

pub items_of : (f : List Value → List MValue) (o : Option (Vec Value Global)) → option_map (λ v. f v.items) o ≡ option_map f (option_map (λ v. v.items) o)
items_of f None = refl
items_of f (Some v) = refl

brace_by : (o : Option (ℕ × List MField)) (f : List MField → Option (List (ℕ × MValue))) (k : ℕ) (fields : List MField) → o ≡ Some (k, fields) →
    elim o [ None ↦ None | Some p ↦ node_of_fields p.0 p.1 (f p.1) ] ≡ node_of_fields k fields (f fields)
brace_by None f k fields h = absurd cc
brace_by (Some p) f k fields h = let e : p ≡ (k, fields) = cc in ap (λ (q : ℕ × List MField). node_of_fields q.0 q.1 (f q.1)) e

row_by : (o : Option MType) (f : MType → Option (List MValue)) (item : MType) → o ≡ Some item →
    elim o [ None ↦ None | Some u ↦ option_map row (f u) ] ≡ option_map row (f item)
row_by None f item h = absurd cc
row_by (Some u) f item h = let e : u ≡ item = cc in ap (λ x. option_map row (f x)) e

no_row_by : (o : Option MType) (f : MType → Option (List MValue)) → o ≡ None →
    ◌≡◌ {A = Option MValue} (elim o [ None ↦ None | Some u ↦ option_map row (f u) ]) None
no_row_by None f h = refl
no_row_by (Some u) f h = absurd cc

-- a struct or variant with named fields
pub brace_meant : (program : MProgram) (sure : Bool) (t : MType) (path : NameTree) (fs : WrittenFields) (k n : ℕ) (fields : List MField) (given : List (ℕ × Value))
    (values : Option (List Value)) (o : Option MValue) → Some (k, fields) ≡ brace_of (form_named program t path) → Some (plain_numbered given) ≡ meant_fields program sure fields fs →
    n ≡ length fields → values ≡ in_order 0 n given → o ≡ option_map (node k) (option_map plain_values values) → o ≡ meant program sure t (WrittenBraceForm path fs)
brace_meant program sure t path fs k n fields given values o found meaning numbered order is =
    is ∙ (ap (option_map (node k)) (ap (option_map plain_values) (order ∙ ap (λ m. in_order 0 m given) numbered) ∙ sym (order_made plain_value 0 (length fields) given))
    ∙ (ap (node_of_fields k fields) meaning ∙ whole))
  where
    whole : node_of_fields k fields (meant_fields program sure fields fs) ≡ meant program sure t (WrittenBraceForm path fs)
    whole = sym (brace_by (brace_of (form_named program t path)) (λ (hs : List MField). meant_fields program sure hs fs) k fields (sym found))

-- a slice or array
pub row_meant : (program : MProgram) (sure : Bool) (t item : MType) (n : ℕ) (ws : List WrittenValue) (values : Option (List MValue)) (o : Option MValue) →
    Some item ≡ item_type t n → n ≡ length ws → values ≡ meant_items program sure item (values_view ws) → o ≡ option_map row values →
    o ≡ meant program sure t (WrittenRow (values_view ws))
row_meant program sure t item n ws values o found same meaning is =
    let there : item_type t (count (values_view ws)) ≡ Some item = ap (item_type t) (counted ws ∙ sym same) ∙ sym found in
    is ∙ (ap (option_map row) meaning ∙ whole there)
  where
    whole : item_type t (count (values_view ws)) ≡ Some item → option_map row (meant_items program sure item (values_view ws)) ≡ meant program sure t (WrittenRow (values_view ws))
    whole e = sym (row_by (item_type t (count (values_view ws))) (λ u. meant_items program sure u (values_view ws)) item e)

pub no_row : (program : MProgram) (sure : Bool) (t : MType) (n : ℕ) (ws : List WrittenValue) → None ≡ item_type t n → n ≡ length ws →
    None ≡ meant program sure t (WrittenRow (values_view ws))
no_row program sure t n ws none same = whole (ap (item_type t) (counted ws ∙ sym same) ∙ sym none)
  where
    whole : item_type t (count (values_view ws)) ≡ None → None ≡ meant program sure t (WrittenRow (values_view ws))
    whole e = sym (no_row_by (item_type t (count (values_view ws))) (λ u. meant_items program sure u (values_view ws)) e)

-- What is spelled has no more items, variants, arms and nodes of patterns than there are tokens.
use Rattle.std.proofs.Common.{◌≡◌, ℕ, zero, suc, ◌+◌, ◌*◌, ◌<◌, ◌≤◌, Bool, true, false, List, [], ◌∷◌, length, sum_by, Option, Some, None, refl, sym, ap, ◌∙◌, arith}
use Rattle.std.proofs.lemmas.List.{length-append}
use Rattle.std.proofs.lemmas.List.Sums.{sum_by-cons}
use Rattle.decl_lexer.specs.declared.marks.Mark.{Mark}
use Rattle.decl_lexer.specs.declared.marks.Mark.TheVariants as marks
use Rattle.decl_lexer.specs.declared.words.Word.TheVariants as words
use Rattle.decl_lexer.specs.Lexing.{Placed}
use Rattle.decl_syntax.specs.Units.{is_mark, is_word, units, halves, doubled_mark}
use Rattle.decl_syntax.specs.Patterns.{PathTree, PatternTree, Shape, FieldTree, patterns_from, fields_from}
use Rattle.decl_syntax.specs.Grammar.{Spelling, CommaList, closed, last, next, Separated, only, further}
use Rattle.decl_syntax.specs.FieldNames.{SpellsLabel, label}
use Rattle.decl_syntax.specs.EndGrammar.{SpellsRange, both_ends, path_of}
use Rattle.decl_syntax.specs.PatternGrammar.{shape_by_names, AltForm, a_range, a_plain, PatternForm, one, several, ItemForm, a_rest, a_pattern, SpellsBoundRest, bound_rest, SliceItemForm, a_bound_rest, an_item, FieldForm, labelled, shorthand, FieldList, all_closed, all_dotted, last_field, next_field, PlainForm, bound_as, bound, path, tuple_form, brace_form, group, tuple, slice, point, SpellsPlain, SpellsPattern}
use Rattle.decl_syntax.proofs.Joined.{maybe_shrinks}
use Rattle.decl_syntax.proofs.EndLaws.{ranges, paths}
use Rattle.decl_syntax.proofs.PatternLaws.{bindings}
use Rattle.decl_syntax.specs.Items.{KindTree, ItemTree}
use Rattle.decl_parser.specs.DeclarationGrammar.{SpellsVariant}
use Rattle.decl_parser.specs.ItemGrammar as grammar
use Rattle.decl_parser.specs.ItemGrammar.{SpellsKind, an_enum, a_struct, an_import, a_function, SpellsItem, item, SpellsItems}
use Rattle.decl_parser.specs.FileGrammar as file
use Rattle.decl_parser.specs.FileGrammar.{SkipsAttributes, IsFile}
use Rattle.decl_parser.specs.Counts.{pattern_nodes, nodes_within, list_nodes, field_nodes, kind_variants, kind_arms, kind_nodes, HasAtMost}
use Rattle.decl_parser.proofs.NameLaws.{attributes_within}
use Rattle.decl_parser.proofs.FieldLaws.{visibilities}
use Rattle.decl_parser.proofs.VariantLaws.{one_variant, heads}
use Rattle.decl_parser.proofs.FunctionLaws.{function_arms_count, function_weighs}
use Rattle.decl_parser.proofs.ItemLaws.{kind_shrinks, items}
use Rattle.decl_parser.proofs.FileLaws.{attribute_shrinks}

-- what is spelled weighs no more than the tokens that it takes
abbrev Light : {A : Type 0} → Spelling A → (A → ℕ) → Type 0
Light {A} P weight = (ts rest : List Placed) (x : A) → P ts x rest → weight x + length rest ≤ length ts

-- ---- lists

module _ {A : Type 0} (close : Mark) (Item : Spelling A) (weight : A → ℕ) (light : Light Item weight) where
  comma_light : (ts rest : List Placed) (xs : List A) → CommaList close Item ts xs rest → sum_by weight xs + length rest < length ts
  comma_light _ _ _ (closed t rest e) = omega arith
  comma_light _ _ _ (last ts rest x t i e) = omega (arith, sum_by-cons weight x [], light ts (t ∷ rest) x i)
  comma_light _ _ _ (next ts us rest x xs t i e others) = omega (arith, sum_by-cons weight x xs, light ts (t ∷ us) x i, comma_light us rest xs others)

  separated_light : (ts rest : List Placed) (xs : List A) → Separated close Item ts xs rest → sum_by weight xs + length rest ≤ length ts
  separated_light _ _ _ (only ts rest x i n) = omega (arith, sum_by-cons weight x [], light ts rest x i)
  separated_light _ _ _ (further ts us rest x xs t i e others) = omega (arith, sum_by-cons weight x xs, light ts (t ∷ us) x i, separated_light us rest xs others)

  several_light : (ts rest : List Placed) (x y : A) (xs : List A) → Separated close Item ts (x ∷ y ∷ xs) rest → sum_by weight (x ∷ y ∷ xs) + length rest < length ts
  several_light _ _ _ y more (further ts us rest x _ t i e others) = omega (arith, sum_by-cons weight x (y ∷ more), light ts (t ∷ us) x i, separated_light us rest (y ∷ more) others)

list_is : (ps : List PatternTree) → list_nodes (patterns_from ps) ≡ sum_by pattern_nodes ps
list_is [] = refl
list_is (p ∷ ps) = ap (λ n. pattern_nodes p + n) (list_is ps) ∙ sym (sum_by-cons pattern_nodes p ps)

abbrev field_weight : FieldTree → ℕ
field_weight f = pattern_nodes f.pattern

fields_are : (fs : List FieldTree) → field_nodes (fields_from fs) ≡ sum_by field_weight fs
fields_are [] = refl
fields_are (f ∷ fs) = ap (λ n. pattern_nodes f.pattern + n) (fields_are fs) ∙ sym (sum_by-cons field_weight f fs)

-- ---- patterns

range_leaf : (ts rest : List Placed) (x : Shape) → SpellsRange ts x rest → nodes_within x ≡ 0
range_leaf _ _ _ (both_ends ts us rest mark low high closed_ a m b) = refl
range_leaf _ _ _ _ = refl

path_leaf : (p : PathTree) (b : Bool) (names : List (List ℕ)) → nodes_within (shape_by_names p b names) ≡ 0
path_leaf p true (x ∷ []) = refl
path_leaf p false [] = refl
path_leaf p _ _ = refl

abbrev plain_weight : Shape → ℕ
plain_weight x = suc (nodes_within x)

bound_rest_light : Light SpellsBoundRest pattern_nodes
bound_rest_light _ _ _ (bound_rest ts rest at dots b s e f n) = omega (arith, bindings.shrinks ts (at ∷ dots ∷ rest) b s)

module _ (Plain : Spelling Shape) (light : Light Plain plain_weight) where
  alt_light : Light (AltForm Plain) pattern_nodes
  alt_light _ _ _ (a_range ts rest shape s) = omega (arith, range_leaf ts rest shape s, ranges.shrinks ts rest shape s)
  alt_light _ _ _ (a_plain ts rest shape free s) = light ts rest shape s

  whole_light : Light (PatternForm Plain) pattern_nodes
  whole_light _ _ _ (one ts us rest bar p b s) = omega (arith, maybe_shrinks (is_mark marks.Bar) ts us bar b, separated_light marks.Bar (AltForm Plain) pattern_nodes alt_light us rest (p ∷ []) s, sum_by-cons pattern_nodes p [])
  whole_light _ _ _ (several ts us rest bar p q ps b s) =
      omega (arith, maybe_shrinks (is_mark marks.Bar) ts us bar b, several_light marks.Bar (AltForm Plain) pattern_nodes alt_light us rest p q ps s, list_is ps, sum_by-cons pattern_nodes p (q ∷ ps), sum_by-cons pattern_nodes q ps)

  item_light : Light (ItemForm Plain) pattern_nodes
  item_light _ _ _ (a_rest dots rest e n) = omega arith
  item_light _ _ _ (a_pattern ts rest p s) = whole_light ts rest p s

  slice_light : Light (SliceItemForm Plain) pattern_nodes
  slice_light _ _ _ (a_bound_rest ts rest p s) = bound_rest_light ts rest p s
  slice_light _ _ _ (an_item ts rest p free s) = item_light ts rest p s

  label_light : (ts rest : List Placed) (name : List ℕ) → SpellsLabel ts name rest → length rest ≤ length ts
  label_light _ _ _ (label t colon rest name n c) = omega arith

  field_light : Light (FieldForm Plain) field_weight
  field_light _ _ _ (labelled ts us vs rest attrs name p a l s) = omega (arith, attributes_within ts us attrs a, label_light us vs name l, whole_light vs rest p s)
  field_light _ _ _ (shorthand ts us rest attrs b a free s) = omega (arith, attributes_within ts us attrs a, bindings.shrinks us rest b s)

  fields_light : (ts rest : List Placed) (x : List FieldTree × Bool) → FieldList Plain ts x rest → sum_by field_weight x.0 + length rest < length ts
  fields_light _ _ _ (all_closed t rest e) = omega arith
  fields_light _ _ _ (all_dotted dots t rest e f) = omega arith
  fields_light _ _ _ (last_field ts rest f t s e) = omega (arith, sum_by-cons field_weight f [], field_light ts (t ∷ rest) f s)
  fields_light _ _ _ (next_field ts us rest f fs dotted t s e others) = omega (arith, sum_by-cons field_weight f fs, field_light ts (t ∷ us) f s, fields_light us rest (fs, dotted) others)

  form_light : Light (PlainForm Plain) plain_weight
  form_light _ _ _ (bound_as ts us rest at b p s e a) = omega (arith, bindings.shrinks ts (at ∷ us) b s, alt_light us rest p a)
  form_light _ _ _ (bound ts rest b s e n) = omega (arith, bindings.shrinks ts rest b s)
  form_light _ _ _ (path ts rest segments s n m k) = omega (arith, paths.shrinks ts rest segments s, path_leaf (path_of segments) (path_of segments).plain (path_of segments).names)
  form_light _ _ _ (tuple_form ts us rest segments opening ps s e l) =
      omega (arith, paths.shrinks ts (opening ∷ us) segments s, comma_light marks.CloseRound (ItemForm Plain) pattern_nodes item_light us rest ps l, list_is ps)
  form_light _ _ _ (brace_form ts us rest segments opening fs dotted s e l) =
      omega (arith, paths.shrinks ts (opening ∷ us) segments s, fields_light us rest (fs, dotted) l, fields_are fs)
  form_light _ _ _ (group opening closing ts rest p e s f) = omega (arith, whole_light ts (closing ∷ rest) p s)
  form_light _ _ _ (tuple opening comma ts us rest first others e s f l) =
      omega (arith, item_light ts (comma ∷ us) first s, comma_light marks.CloseRound (ItemForm Plain) pattern_nodes item_light us rest others l, list_is others)
  form_light _ _ _ (slice opening ts rest ps e l) = omega (arith, comma_light marks.CloseSquare (SliceItemForm Plain) pattern_nodes slice_light ts rest ps l, list_is ps)
  form_light _ _ _ (point and ts us rest mutable inner e m s) = omega (arith, maybe_shrinks (is_word words.Mut) ts us mutable m, light us rest inner s)
  form_light _ _ _ _ = omega arith

plain_light : (n : ℕ) → Light (SpellsPlain n) plain_weight
unfolding SpellsPlain
plain_light zero ts rest x s = absurd s
plain_light (suc n) ts rest x s = form_light (SpellsPlain n) (plain_light n) ts rest x s

pattern_light : Light SpellsPattern pattern_nodes
unfolding SpellsPattern
pattern_light ts rest p s = whole_light (SpellsPlain 64) (plain_light 64) ts rest p s.0

-- ---- items

variant_light : Light SpellsVariant (λ v. 1)
variant_light ts rest x s = omega (arith, one_variant.shrinks ts rest x s)

ones : {A : Type 0} (xs : List A) → sum_by (λ x. 1) xs ≡ length xs
ones [] = refl
ones (x ∷ xs) = omega (arith, sum_by-cons (λ y. 1) x xs, ones xs)

variants_light : Light SpellsKind kind_variants
variants_light _ _ _ (an_enum ts us rest opening name xs h o l) =
    omega (arith, (heads words.Enum).shrinks ts (opening ∷ us) name h, comma_light marks.CloseCurly SpellsVariant (λ v. 1) variant_light us rest xs l, ones xs)
variants_light _ _ _ (a_struct ts us rest name form h f) = omega (arith, kind_shrinks _ _ _ (a_struct ts us rest name form h f))
variants_light _ _ _ (an_import keyword owner separator semicolon ts rest name raw names k o p n c) =
    omega (arith, kind_shrinks _ _ _ (an_import keyword owner separator semicolon ts rest name raw names k o p n c))
variants_light _ _ _ (a_function ts us rest name body h f) = omega (arith, kind_shrinks _ _ _ (a_function ts us rest name body h f))

nodes_light : Light SpellsKind kind_nodes
nodes_light _ _ _ (an_enum ts us rest opening name xs h o l) = omega (arith, kind_shrinks _ _ _ (an_enum ts us rest opening name xs h o l))
nodes_light _ _ _ (a_struct ts us rest name form h f) = omega (arith, kind_shrinks _ _ _ (a_struct ts us rest name form h f))
nodes_light _ _ _ (an_import keyword owner separator semicolon ts rest name raw names k o p n c) =
    omega (arith, kind_shrinks _ _ _ (an_import keyword owner separator semicolon ts rest name raw names k o p n c))
nodes_light _ _ _ (a_function ts us rest name body h f) = omega (arith, (heads words.Fn).shrinks ts us name h, function_weighs pattern_nodes pattern_light us rest body f)

arms_light : Light SpellsKind kind_arms
arms_light _ _ _ (an_enum ts us rest opening name xs h o l) = omega (arith, kind_shrinks _ _ _ (an_enum ts us rest opening name xs h o l))
arms_light _ _ _ (a_struct ts us rest name form h f) = omega (arith, kind_shrinks _ _ _ (a_struct ts us rest name form h f))
arms_light _ _ _ (an_import keyword owner separator semicolon ts rest name raw names k o p n c) =
    omega (arith, kind_shrinks _ _ _ (an_import keyword owner separator semicolon ts rest name raw names k o p n c))
arms_light _ _ _ (a_function ts us rest name body h f) = omega (arith, (heads words.Fn).shrinks ts us name h, function_arms_count us rest body f)

module _ (weight : KindTree → ℕ) (light : Light SpellsKind weight) where
  item_by_kind : Light SpellsItem (λ i. weight i.kind)
  item_by_kind _ _ _ (item ts us vs rest attrs given_ kind a v k) = omega (arith, attributes_within ts us attrs a, visibilities.within us vs given_ v, light vs rest kind k)

module _ (weight : ItemTree → ℕ) (light : Light SpellsItem weight) where
  items_light : (ts rest : List Placed) (xs : List ItemTree) → SpellsItems ts xs rest → sum_by weight xs + length rest ≤ length ts
  items_light _ _ _ (grammar.nothing ts) = omega arith
  items_light _ _ _ (grammar.one_more ts us rest x xs s others) = omega (arith, sum_by-cons weight x xs, light ts us x s, items_light us rest xs others)

one_light : Light SpellsItem (λ i. 1)
one_light ts rest x s = omega (arith, items.shrinks ts rest x s)

-- ---- files

start_light : (ts start : List Placed) → SkipsAttributes ts start → length start ≤ length ts
start_light _ _ (file.no_more ts n) = omega arith
start_light _ _ (file.one_more ts us rest a s) = omega (arith, attribute_shrinks ts us a, start_light us rest s)

halves_few : (t : Placed) (o : Option Mark) → length (halves t o) ≤ 2
halves_few t None = omega arith
halves_few t (Some mark) = omega arith

units_few : (ts : List Placed) → length (units ts) ≤ 2 * length ts
unfolding units
units_few [] = omega arith
units_few (t ∷ ts) = omega (arith, length-append (halves t (doubled_mark t.lexeme)) (units ts), halves_few t (doubled_mark t.lexeme), units_few ts)

pub file_has_at_most : (ts : List Placed) (n : ℕ) (xs : List ItemTree) → length ts ≡ n → IsFile (units ts) xs → HasAtMost (2 * n) xs
file_has_at_most ts n xs e f =
    let few : length f.start ≤ 2 * n = omega (arith, start_light (units ts) f.start f.head, units_few ts) in
    record {
      few_items = omega (arith, items_light (λ i. 1) one_light f.start [] xs f.spelled, ones xs);
      few_variants = omega (arith, items_light (λ i. kind_variants i.kind) (item_by_kind kind_variants variants_light) f.start [] xs f.spelled);
      few_arms = omega (arith, items_light (λ i. kind_arms i.kind) (item_by_kind kind_arms arms_light) f.start [] xs f.spelled);
      few_nodes = omega (arith, items_light (λ i. kind_nodes i.kind) (item_by_kind kind_nodes nodes_light) f.start [] xs f.spelled);
    }

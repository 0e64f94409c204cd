-- The names of the items that tokens spell are those of name tokens.
use Rattle.std.proofs.Common.{ℕ, Bool, true, false, List, [], ◌∷◌, Option, subst}
use Rattle.decl_lexer.specs.declared.marks.Mark.TheVariants as marks
use Rattle.decl_lexer.specs.declared.words.Word.{Word}
use Rattle.decl_lexer.specs.declared.words.Word.TheVariants as words
use Rattle.decl_lexer.specs.Lexing.{Placed}
use Rattle.decl_syntax.specs.Units.{units}
use Rattle.decl_syntax.specs.Items.{FieldItem}
use Rattle.decl_parser.specs.declared.runs.Until.TheVariants as until
use Rattle.decl_parser.specs.DeclarationGrammar.{SpellsLifetime, a_lifetime, SpellsParam, free, bounded}
use Rattle.decl_parser.specs.DeclarationGrammar.{SpellsParams, no_params, params, SpellsVisibility, private, public}
use Rattle.decl_parser.specs.DeclarationGrammar.{public_in_scope, public_in_path, FieldLabel, no_label, label}
use Rattle.decl_parser.specs.DeclarationGrammar.{SpellsField, field, SpellsForm, unit_form, tuple_form, brace_form}
use Rattle.decl_parser.specs.DeclarationGrammar.{SpellsNumber, no_number, number, SpellsVariant, variant}
use Rattle.decl_parser.specs.DeclarationGrammar.{SpellsStructForm, ended, braced, SpellsHead, head, SpellsName}
use Rattle.decl_parser.specs.DeclarationGrammar.{a_name, SpellsNames, all_names, some_names}
use Rattle.decl_parser.specs.FileGrammar as file
use Rattle.decl_parser.specs.FileGrammar.{SpellsFileAttribute, SkipsAttributes}
use Rattle.decl_parser.specs.ItemGrammar as items
use Rattle.decl_parser.specs.ItemGrammar.{SpellsKind, an_enum, a_struct, an_import, a_function, SpellsItem, item}
use Rattle.decl_parser.specs.ItemGrammar.{SpellsItems}
use Rattle.match_model.specs.Lists.{Every}
use Rattle.value_syntax.specs.Canonical.{IsName}
use Rattle.file_names.specs.Items.{IsNamed, IsGiven, IsFormNamed, IsVariantNamed, AreImportsNamed, IsKindNamed}
use Rattle.file_names.specs.Items.{IsItemNamed}
use Rattle.file_names.specs.Laws.{ItemNamesAreNames}
use Rattle.file_names.proofs.Functions.{function_kept}
use Rattle.file_names.proofs.Kept.{AreNamed, Kept, Gives, list_kept, list_gives, separated_kept, attributes_kept}
use Rattle.file_names.proofs.Kept.{run_kept}
use Rattle.file_names.proofs.Tokens.{units_named, token_names_are_names}
use Rattle.file_names.proofs.Types.{type_kept}

-- ---- parameters, visibility and numbers

lifetime_kept : Kept SpellsLifetime
lifetime_kept _ _ _ (a_lifetime t rest e) g = g.1

param_kept : Kept SpellsParam
param_kept _ _ _ (free ts rest l n) g = lifetime_kept ts rest tt l g
param_kept _ _ _ (bounded ts us rest colon bounds l e more) g =
    separated_kept marks.Plus SpellsLifetime lifetime_kept us rest bounds more (lifetime_kept ts (colon ∷ us) tt l g).1

params_kept : Kept SpellsParams
params_kept _ _ _ (no_params ts n) g = g
params_kept _ _ _ (params less ts rest all e more) g =
    list_kept marks.Greater SpellsParam param_kept ts rest all more g.1

visibility_kept : Kept SpellsVisibility
visibility_kept _ _ _ (private ts n) g = g
visibility_kept _ _ _ (public word ts e r) g = g.1
visibility_kept _ _ _ (public_in_scope word opening scope closing rest e o s c) g = g.1.1.1.1
visibility_kept _ _ _ (public_in_path word opening within closing ts rest e o w r c) g =
    (run_kept until.Bracket ts (closing ∷ rest) r g.1.1.1).1

number_kept : Kept SpellsNumber
number_kept _ _ _ (no_number ts n) g = g
number_kept _ _ _ (number equal ts rest e r) g = run_kept until.Comma ts rest r g.1

-- ---- fields, forms and variants

-- the name of a field of a brace form
abbrev IsLabel : Bool → Option (List ℕ) → Type 0
IsLabel false name = Unit {0}
IsLabel true name = IsGiven name

label_named : (braces : Bool) → Gives (IsLabel braces) (FieldLabel braces)
label_named _ _ _ _ (no_label ts) g = (tt, g)
label_named _ _ _ _ (label word colon rest name raw e c) g = (subst IsNamed e g.0, g.1.1)

abbrev IsLabelled : Bool → FieldItem → Type 0
IsLabelled braces f = IsLabel braces f.name

field_named : (braces : Bool) → Gives (IsLabelled braces) (SpellsField braces)
field_named braces _ _ _ (field ts us vs ws rest attrs given name type a v l t) g =
    let k = label_named braces vs ws name l (visibility_kept us vs given v (attributes_kept ts us attrs a g)) in
    (k.0, type_kept 64 ws rest type t k.1)

form_named : Gives IsFormNamed SpellsForm
form_named _ _ _ (unit_form ts n m) g = (tt, g)
form_named _ _ _ (tuple_form opening ts rest fields o more) g =
    let gives = list_gives marks.CloseRound (SpellsField false) (IsLabelled false) (field_named false) in
    (tt, (gives ts rest fields more g.1).1)
form_named _ _ _ (brace_form opening ts rest fields o more) g =
    list_gives marks.CloseCurly (SpellsField true) (IsLabelled true) (field_named true) ts rest fields more g.1

variant_named : Gives IsVariantNamed SpellsVariant
variant_named _ _ _ (variant ts us vs rest word attrs name raw form numbered a e f n) g =
    let k = attributes_kept ts (word ∷ us) attrs a g in
    let h = form_named us vs form f k.1 in
    ((subst IsNamed e k.0, h.0), number_kept vs rest numbered n h.1)

struct_form_named : Gives IsFormNamed SpellsStructForm
struct_form_named _ _ _ (ended ts rest form semicolon f e s) g =
    let h = form_named ts (semicolon ∷ rest) form f g in (h.0, h.1.1)
struct_form_named _ _ _ (braced ts rest form f e) g = form_named ts rest form f g

-- ---- items

head_named : (keyword : Word) → Gives IsName (SpellsHead keyword)
head_named keyword _ _ _ (head first word ts rest name raw given e n p) g =
    (subst IsNamed n g.1.0, params_kept ts rest given p g.1.1)

name_named : Gives IsName SpellsName
name_named _ _ _ (a_name word rest name raw e) g = (subst IsNamed e g.0, g.1)

imports_named : Gives AreImportsNamed SpellsNames
imports_named _ _ _ (all_names star rest e) g = (tt, g.1)
imports_named _ _ _ (some_names opening ts rest names o more) g =
    list_gives marks.CloseCurly SpellsName IsName name_named ts rest names more g.1

kind_named : Gives IsKindNamed SpellsKind
kind_named _ _ _ (an_enum ts us rest opening name variants h o more) g =
    let k = head_named words.Enum ts (opening ∷ us) name h g in
    let m = list_gives marks.CloseCurly SpellsVariant IsVariantNamed variant_named us rest variants more k.1.1 in
    ((k.0, m.0), m.1)
kind_named _ _ _ (a_struct ts us rest name form h f) g =
    let k = head_named words.Struct ts us name h g in
    let m = struct_form_named us rest form f k.1 in
    ((k.0, m.0), m.1)
kind_named _ _ _ (an_import keyword owner separator semicolon ts rest name raw names k o s n c) g =
    let m = imports_named ts (semicolon ∷ rest) names n g.1.1.1 in
    ((subst IsNamed o g.1.0, m.0), m.1.1)
kind_named _ _ _ (a_function ts us rest name body h f) g =
    let k = head_named words.Fn ts us name h g in
    (k.0, function_kept us rest body f k.1)

item_named : Gives IsItemNamed SpellsItem
item_named _ _ _ (item ts us vs rest attrs given kind a v k) g =
    kind_named vs rest kind k (visibility_kept us vs given v (attributes_kept ts us attrs a g))

items_named : Gives (Every IsItemNamed) SpellsItems
items_named _ _ _ (items.nothing ts) g = (tt, g)
items_named _ _ _ (items.one_more ts us rest first others i more) g =
    let k = item_named ts us first i g in
    let m = items_named us rest others more k.1 in
    ((k.0, m.0), m.1)

-- ---- files

file_attribute_kept : (ts rest : List Placed) → SpellsFileAttribute ts rest → AreNamed ts → AreNamed rest
file_attribute_kept _ _ (file.file_attribute hash bang opening closing ts rest h b o r c) g =
    (run_kept until.Bracket ts (closing ∷ rest) r g.1.1.1).1

start_kept : (ts start : List Placed) → SkipsAttributes ts start → AreNamed ts → AreNamed start
start_kept _ _ (file.no_more ts n) g = g
start_kept _ _ (file.one_more ts us rest a more) g = start_kept us rest more (file_attribute_kept ts us a g)

pub item_names_are_names : ItemNamesAreNames
item_names_are_names bytes tokens xs h f =
    let all = units_named tokens (token_names_are_names bytes tokens h) in
    (items_named f.start [] xs f.spelled (start_kept (units tokens) f.start f.head all)).0

-- Items that tokens in order spell: what stands behind them stands in order, and the arms of functions are spelled.
use Rattle.std.proofs.Common.{◌≡◌, ℕ, zero, suc, ◌+◌, ◌<◌, ◌≤◌, Bool, true, false, ◌||◌, List, [], ◌∷◌, ◌++◌, length, Option, Some, refl, ap, subst, arith}
use Rattle.match_model.specs.Lists.{Every}
use Rattle.match_model.specs.SourcePatterns.{ascend}
use Rattle.decl_lexer.specs.declared.marks.Mark.TheVariants as marks
use Rattle.decl_lexer.specs.declared.words.Word.{Word}
use Rattle.decl_lexer.specs.declared.words.Word.TheVariants as words
use Rattle.decl_lexer.specs.Lexing.{Placed}
use Rattle.decl_syntax.specs.Units.{is_mark, is_word, is_lifetime}
use Rattle.decl_syntax.specs.Types.{TypeTree}
use Rattle.decl_syntax.specs.Patterns.{AttrTree}
use Rattle.decl_syntax.specs.Widths.{type_is_wide, pattern_is_wide}
use Rattle.decl_syntax.specs.Grammar.{Spelling}
use Rattle.decl_syntax.specs.Runs.{SpellsAttribute, SpellsAttributes}
use Rattle.decl_syntax.specs.TypeGrammar as types
use Rattle.decl_syntax.specs.TypeGrammar.{ArgumentForm, TypeForm, SpellsType}
use Rattle.decl_syntax.specs.Items.{FieldItem, FormTree, VariantTree, ArmTree, KindTree, Enum, Struct, Import, Function, ItemTree}
use Rattle.decl_syntax.specs.Functions.{FunctionTree}
use Rattle.decl_parser.specs.declared.runs.Until.{Until}
use Rattle.decl_parser.specs.declared.runs.Until.TheVariants as until
use Rattle.decl_parser.specs.RunGrammar as runs
use Rattle.decl_parser.specs.RunGrammar.{SpellsRun}
use Rattle.decl_parser.specs.DeclarationGrammar as declarations
use Rattle.decl_parser.specs.DeclarationGrammar.{SpellsLifetime, SpellsParam, SpellsParams, SpellsVisibility, FieldLabel, SpellsField, SpellsForm, SpellsNumber, SpellsVariant, SpellsStructForm, SpellsHead, SpellsName, SpellsNames}
use Rattle.decl_parser.specs.ArmGrammar as arms
use Rattle.decl_parser.specs.ArmGrammar.{SpellsGuard, SpellsBody, SpellsArm, SpellsArms}
use Rattle.decl_parser.specs.FunctionGrammar as functions
use Rattle.decl_parser.specs.FunctionGrammar.{Parameter, SpellsParameter, SpellsReturned, Scrutinee, SpellsScrutinee, BodyTree, SpellsFunction}
use Rattle.decl_parser.specs.ItemGrammar as items
use Rattle.decl_parser.specs.ItemGrammar.{SpellsKind, SpellsItem, SpellsItems}
use Rattle.decl_parser.specs.ItemWidths.{some_arm_is_wide, kind_is_wide}
use Rattle.decl_parser.specs.FileGrammar as files
use Rattle.decl_parser.specs.FileGrammar.{SpellsFileAttribute, SkipsAttributes, AreNarrow, IsFile}
use Rattle.pattern_rules.specs.Faults.{function_of}
use Rattle.pattern_rules.specs.Spelled.{is_spelled, choice_offsets}
use Rattle.pattern_laws.proofs.TokenStanding.{is_half, Stand, between_least, between_ascends, Moves, Read, stay, one_token, both_move, run_moves, maybe_moves, comma_moves, separated_moves, many_moves}
use Rattle.pattern_laws.proofs.SpelledPatterns.{attribute_moves, pattern_reads}

-- several tokens
two_tokens : (t u : Placed) (ts : List Placed) → Moves (t ∷ u ∷ ts) ts
two_tokens t u ts = both_move (t ∷ u ∷ ts) (u ∷ ts) ts (one_token t (u ∷ ts)) (one_token u ts)

three_tokens : (t u v : Placed) (ts : List Placed) → Moves (t ∷ u ∷ v ∷ ts) ts
three_tokens t u v ts = both_move (t ∷ u ∷ v ∷ ts) (u ∷ v ∷ ts) ts (one_token t (u ∷ v ∷ ts)) (two_tokens u v ts)

-- a token, and what is behind it
past_one : (t : Placed) (us rest : List Placed) → Moves us rest → Moves (t ∷ us) rest
past_one t us rest f = both_move (t ∷ us) us rest (one_token t us) f

-- something, and a token behind it
and_one : (ts rest : List Placed) (t : Placed) → Moves ts (t ∷ rest) → Moves ts rest
and_one ts rest t f = both_move ts (t ∷ rest) rest f (one_token t rest)

attributes_move : (ts rest : List Placed) (as_ : List AttrTree) → SpellsAttributes ts as_ rest → Moves ts rest
attributes_move ts rest as_ s = many_moves marks.Hash SpellsAttribute attribute_moves ts rest as_ s

spelled_run_moves : (stop : Until) (ts rest : List Placed) → SpellsRun stop ts rest → Moves ts rest
spelled_run_moves stop ts rest (runs.spelled first run us p n e) = past_one first (run ++ us) us (run_moves run us)

-- ---- types

module _ (Inner : Spelling TypeTree) (inner : (ts rest : List Placed) (t : TypeTree) → Inner ts t rest → Moves ts rest)
  where
    argument_moves : (ts rest : List Placed) (x : Option TypeTree) → ArgumentForm Inner ts x rest → Moves ts rest
    argument_moves ts rest x (types.lifetime t us e) = one_token t us
    argument_moves ts rest x (types.argument us vs y s) = inner us vs y s

    type_form_moves : (ts rest : List Placed) (t : TypeTree) → TypeForm Inner ts t rest → Moves ts rest
    type_form_moves ts rest t (types.never bang us e) = one_token bang us
    type_form_moves ts rest t (types.unit opening closing us e f) = two_tokens opening closing us
    type_form_moves ts rest t (types.round opening closing us vs x e s f) = past_one opening us vs
        (and_one us vs closing (inner us (closing ∷ vs) x s))
    type_form_moves ts rest t (types.tuple opening comma us vs ws first others e s f l) =
        past_one opening us ws
        (both_move us vs ws (and_one us vs comma (inner us (comma ∷ vs) first s))
        (comma_moves marks.CloseRound Inner inner vs ws others l))
    type_form_moves ts rest t (types.point and us vs ws xs named mutable x e m n s) =
        past_one and us xs
        (both_move us vs xs (maybe_moves is_lifetime us vs named m)
        (both_move vs ws xs (maybe_moves (is_word words.Mut) vs ws mutable n) (inner ws xs x s)))
    type_form_moves ts rest t (types.slice opening closing us vs item e s f) = past_one opening us vs
        (and_one us vs closing (inner us (closing ∷ vs) item s))
    type_form_moves ts rest t (types.array opening semicolon number closing us vs item len suffix decimal e s f n g) =
        past_one opening us vs
        (both_move us (semicolon ∷ number ∷ closing ∷ vs) vs (inner us (semicolon ∷ number ∷ closing ∷ vs) item s)
        (three_tokens semicolon number closing vs))
    type_form_moves ts rest t (types.named word us name raw e n) = one_token word us
    type_form_moves ts rest t (types.applied word less us vs name raw args e f l) =
        both_move (word ∷ less ∷ us) us vs (two_tokens word less us)
        (comma_moves marks.Greater (ArgumentForm Inner) argument_moves us vs args l)

type_moves : (n : ℕ) (ts rest : List Placed) (t : TypeTree) → SpellsType n ts t rest → Moves ts rest
unfolding SpellsType
type_moves zero ts rest t s = absurd s
type_moves (suc n) ts rest t s = type_form_moves (SpellsType n) (type_moves n) ts rest t s

-- ---- declarations

lifetime_moves : (ts rest : List Placed) (x : Unit {0}) → SpellsLifetime ts x rest → Moves ts rest
lifetime_moves ts rest x (declarations.a_lifetime t us e) = one_token t us

param_moves : (ts rest : List Placed) (x : Unit {0}) → SpellsParam ts x rest → Moves ts rest
param_moves ts rest x (declarations.free us vs s n) = lifetime_moves us vs tt s
param_moves ts rest x (declarations.bounded us vs ws colon bounds s e l) =
    both_move us vs ws (and_one us vs colon (lifetime_moves us (colon ∷ vs) tt s))
    (separated_moves marks.Plus SpellsLifetime lifetime_moves vs ws bounds l)

params_move : (ts rest : List Placed) (b : Bool) → SpellsParams ts b rest → Moves ts rest
params_move ts rest b (declarations.no_params us n) = stay us
params_move ts rest b (declarations.params less us vs all e l) = past_one less us vs
    (comma_moves marks.Greater SpellsParam param_moves us vs all l)

visibility_moves : (ts rest : List Placed) (b : Bool) → SpellsVisibility ts b rest → Moves ts rest
visibility_moves ts rest b (declarations.private us n) = stay us
visibility_moves ts rest b (declarations.public word us e n) = one_token word us
visibility_moves ts rest b (declarations.public_in_scope word opening scope closing us e f s g) =
    both_move (word ∷ opening ∷ scope ∷ closing ∷ us) (scope ∷ closing ∷ us) us
    (two_tokens word opening (scope ∷ closing ∷ us)) (two_tokens scope closing us)
visibility_moves ts rest b (declarations.public_in_path word opening within closing us vs e f g s h) =
    both_move (word ∷ opening ∷ within ∷ us) us vs (three_tokens word opening within us)
    (and_one us vs closing (spelled_run_moves until.Bracket us (closing ∷ vs) s))

label_moves : (braced : Bool) (ts rest : List Placed) (x : Option (List ℕ)) → FieldLabel braced ts x rest →
    Moves ts rest
label_moves braced ts rest x (declarations.no_label us) = stay us
label_moves braced ts rest x (declarations.label word colon us name raw e f) = two_tokens word colon us

field_moves : (braced : Bool) (ts rest : List Placed) (x : FieldItem) → SpellsField braced ts x rest → Moves ts rest
field_moves braced ts rest x (declarations.field us vs ws xs ys attrs public name type a v l t) =
    both_move us vs ys (attributes_move us vs attrs a)
    (both_move vs ws ys (visibility_moves vs ws public v) (both_move ws xs ys (label_moves braced ws xs name l)
    (type_moves 64 xs ys type t)))

form_moves : (ts rest : List Placed) (x : FormTree) → SpellsForm ts x rest → Moves ts rest
form_moves ts rest x (declarations.unit_form us n m) = stay us
form_moves ts rest x (declarations.tuple_form opening us vs fields e l) =
    past_one opening us vs (comma_moves marks.CloseRound (SpellsField false) (field_moves false) us vs fields l)
form_moves ts rest x (declarations.brace_form opening us vs fields e l) =
    past_one opening us vs (comma_moves marks.CloseCurly (SpellsField true) (field_moves true) us vs fields l)

number_moves : (ts rest : List Placed) (b : Bool) → SpellsNumber ts b rest → Moves ts rest
number_moves ts rest b (declarations.no_number us n) = stay us
number_moves ts rest b (declarations.number equal us vs e s) = past_one equal us vs
    (spelled_run_moves until.Comma us vs s)

variant_moves : (ts rest : List Placed) (x : VariantTree) → SpellsVariant ts x rest → Moves ts rest
variant_moves ts rest x (declarations.variant us vs ws xs word attrs name raw form numbered a e f n) =
    both_move us vs xs (and_one us vs word (attributes_move us (word ∷ vs) attrs a))
    (both_move vs ws xs (form_moves vs ws form f) (number_moves ws xs numbered n))

struct_form_moves : (ts rest : List Placed) (x : FormTree) → SpellsStructForm ts x rest → Moves ts rest
struct_form_moves ts rest x (declarations.ended us vs form semicolon f e m) = and_one us vs semicolon
    (form_moves us (semicolon ∷ vs) form f)
struct_form_moves ts rest x (declarations.braced us vs form f e) = form_moves us vs form f

head_moves : (keyword : Word) (ts rest : List Placed) (name : List ℕ) → SpellsHead keyword ts name rest → Moves ts rest
head_moves keyword ts rest name (declarations.head first word us vs n raw given_ e f p) =
    both_move (first ∷ word ∷ us) us vs (two_tokens first word us) (params_move us vs given_ p)

name_moves : (ts rest : List Placed) (name : List ℕ) → SpellsName ts name rest → Moves ts rest
name_moves ts rest name (declarations.a_name word us n raw e) = one_token word us

names_move : (ts rest : List Placed) (x : Option (List (List ℕ))) → SpellsNames ts x rest → Moves ts rest
names_move ts rest x (declarations.all_names star us e) = one_token star us
names_move ts rest x (declarations.some_names opening us vs names e l) =
    past_one opening us vs (comma_moves marks.CloseCurly SpellsName name_moves us vs names l)

-- ---- functions

parameter_moves : (ts rest : List Placed) (p : Parameter) → SpellsParameter ts p rest → Moves ts rest
parameter_moves ts rest p (functions.parameter opening word colon closing us vs ws xs mutable comma raw name type o m n
    c t l d) =
    past_one opening us xs
    (both_move us (word ∷ colon ∷ vs) xs (maybe_moves (is_word words.Mut) us (word ∷ colon ∷ vs) mutable m)
    (both_move (word ∷ colon ∷ vs) vs xs (two_tokens word colon vs)
    (both_move vs ws xs (type_moves 64 vs ws type t)
    (and_one ws xs closing (maybe_moves (is_mark marks.Comma) ws (closing ∷ xs) comma l)))))

returned_moves : (ts rest : List Placed) → SpellsReturned ts rest → Moves ts rest
returned_moves ts rest (functions.nothing us n) = stay us
returned_moves ts rest (functions.returned arrow us vs e s) = past_one arrow us vs
    (spelled_run_moves until.Block us vs s)

scrutinee_moves : (ts rest : List Placed) (s : Scrutinee) → SpellsScrutinee ts s rest → Moves ts rest
scrutinee_moves ts rest s (functions.plain keyword word us name raw e f) = two_tokens keyword word us
scrutinee_moves ts rest s (functions.dereferenced keyword star word us name raw e f g) =
    three_tokens keyword star word us

guard_moves : (ts rest : List Placed) (b : Bool) → SpellsGuard ts b rest → Moves ts rest
guard_moves ts rest b (arms.no_guard us n) = stay us
guard_moves ts rest b (arms.a_guard word us vs e s) = past_one word us vs (spelled_run_moves until.Arrow us vs s)

body_moves : (ts rest : List Placed) → SpellsBody ts rest → Moves ts rest
body_moves ts rest (arms.block opening closing inner us vs comma o p c m) =
    past_one opening (inner ++ closing ∷ us) vs
    (both_move (inner ++ closing ∷ us) us vs
    (and_one (inner ++ closing ∷ us) us closing (run_moves inner (closing ∷ us)))
    (maybe_moves (is_mark marks.Comma) us vs comma m))
body_moves ts rest (arms.before_comma us vs comma n s e) = and_one us vs comma
    (spelled_run_moves until.CommaOrArrow us (comma ∷ vs) s)
body_moves ts rest (arms.at_the_end us vs closing n s e) = spelled_run_moves until.CommaOrArrow us (closing ∷ vs) s

-- the arm is as tokens spell it
abbrev pub IsFineArm : ArmTree → Type 0
IsFineArm a = (is_spelled a.pattern ≡ true) × (ascend (choice_offsets a.pattern) ≡ true)

-- an arm, which takes a byte at least
abbrev ArmRead : (lo hi : ℕ) → List Placed → ArmTree → Type 0
ArmRead lo hi rest a = (mid : ℕ) × (lo < mid) × Stand mid hi rest × IsFineArm a

arm_reads : (ts rest : List Placed) (a : ArmTree) → SpellsArm ts a rest → pattern_is_wide a.pattern ≡ false →
    (lo hi : ℕ) → Stand lo hi ts →
    ArmRead lo hi rest a
arm_reads ts rest a (arms.spelled us vs ws xs ys arrow attrs pattern guarded as_ p g e b) narrow lo hi h =
    let before = attributes_move us vs attrs as_ lo hi h in
    let read : Read before.0 hi ws (choice_offsets pattern) (pattern_is_wide pattern) (is_spelled pattern) =
    pattern_reads vs ws pattern p before.0 hi before.2 in
    let guard = guard_moves ws (arrow ∷ xs) guarded g read.mid hi read.stands in
    let behind = body_moves xs ys b arrow.to hi guard.2.4 in
    let least = between_least before.0 read.mid (choice_offsets pattern) read.between in
    let less : arrow.from < arrow.to = guard.2.2 (ap is_half e) in (
      behind.0,
      omega (arith, before.1, least, guard.1, guard.2.0, less, behind.1),
      behind.2,
      (read.told narrow, between_ascends before.0 read.mid (choice_offsets pattern) read.between),
    )

-- arms, each of which takes a byte at least
record ArmsRead (lo hi : ℕ) (rest : List Placed) (as_ : List ArmTree) : Type 0 where
  mid : ℕ
  few : lo + length as_ ≤ mid
  stands : Stand mid hi rest
  fine : Every IsFineArm as_

first_narrow : (b c : Bool) → (b || c) ≡ false → b ≡ false
first_narrow true c e = e
first_narrow false c e = refl

others_narrow : (b c : Bool) → (b || c) ≡ false → c ≡ false
others_narrow true c e = cc
others_narrow false c e = e

arms_read : (ts rest : List Placed) (as_ : List ArmTree) → SpellsArms ts as_ rest → some_arm_is_wide as_ ≡ false →
    (lo hi : ℕ) →
    Stand lo hi ts → ArmsRead lo hi rest as_
arms_read ts rest as_ (arms.no_more closing us e) narrow lo hi h =
    let a = one_token closing us lo hi h in record { mid = a.0; few = omega (arith, a.1); stands = a.2; fine = tt }
arms_read ts rest as_ (arms.one_more us vs ws a bs n s others) narrow lo hi h =
    let one = arm_reads us vs a s (first_narrow (pattern_is_wide a.pattern) (some_arm_is_wide bs) narrow) lo hi h in
    let later : ArmsRead one.0 hi ws bs =
    arms_read vs ws bs others (others_narrow (pattern_is_wide a.pattern) (some_arm_is_wide bs) narrow)
    one.0 hi one.2 in
    record { mid = later.mid; few = omega (arith, one.1, later.few); stands = later.stands; fine = (one.3, later.fine) }

-- the function's arms are so, and are no more than these bytes
abbrev pub IsFineFunction : ℕ → FunctionTree → Type 0
IsFineFunction hi f = Every IsFineArm f.arms × (length f.arms ≤ hi)

-- so is the function that the item is, if it is one
abbrev pub IsFineKind : ℕ → KindTree → Type 0
IsFineKind hi kind = (f : FunctionTree) → function_of kind ≡ Some f → IsFineFunction hi f

-- what stands behind it stands in order
record KindRead (lo hi : ℕ) (rest : List Placed) (fine : Type 0) : Type 0 where
  mid : ℕ
  le : lo ≤ mid
  stands : Stand mid hi rest
  holds : fine

stand_ends : (lo hi : ℕ) (ts : List Placed) → Stand lo hi ts → lo ≤ hi
stand_ends lo hi [] h = h
stand_ends lo hi (t ∷ ts) h = omega (arith, h.0, h.1, stand_ends t.to hi ts h.4)

function_reads : (ts rest : List Placed) (b : BodyTree) → SpellsFunction ts b rest → some_arm_is_wide b.arms ≡ false →
    (lo hi : ℕ) →
    Stand lo hi ts → KindRead lo hi rest (Every IsFineArm b.arms × (length b.arms ≤ hi))
function_reads ts rest b (functions.spelled us vs ws xs ys opening inner closing p s as_ a r o c e i l d)
    narrow lo hi h =
    let param = parameter_moves us vs p a lo hi h in
    let result = and_one vs ws opening (returned_moves vs (opening ∷ ws) r) param.0 hi param.2 in
    let matched = and_one ws xs inner (scrutinee_moves ws (inner ∷ xs) s c) result.0 hi result.2 in
    let read : ArmsRead matched.0 hi (closing ∷ ys) as_ = arms_read xs (closing ∷ ys)
    as_ l narrow matched.0 hi matched.2 in
    let behind = one_token closing ys read.mid hi read.stands in
    record {
      mid = behind.0;
      le = omega (arith, param.1, result.1, matched.1, read.few, behind.1);
      stands = behind.2;
      holds = (read.fine, omega (arith, read.few, stand_ends read.mid hi (closing ∷ ys) read.stands));
    }

-- a kind that is no function
no_function : (lo hi : ℕ) (ts rest : List Placed) (kind : KindTree) → Moves ts rest → IsFineKind hi kind →
    Stand lo hi ts → KindRead lo hi rest (IsFineKind hi kind)
no_function lo hi ts rest kind f fine h = let a =
    f lo hi h in record { mid = a.0; le = a.1; stands = a.2; holds = fine }

kind_reads : (ts rest : List Placed) (kind : KindTree) → SpellsKind ts kind rest → kind_is_wide kind ≡ false →
    (lo hi : ℕ) → Stand lo hi ts →
    KindRead lo hi rest (IsFineKind hi kind)
kind_reads ts rest kind (items.an_enum us vs ws opening name variants s o l) narrow lo hi h =
    no_function lo hi us ws (Enum name variants)
    (both_move us vs ws (and_one us vs opening (head_moves words.Enum us (opening ∷ vs) name s))
    (comma_moves marks.CloseCurly SpellsVariant variant_moves vs ws variants l))
    (λ f e. absurd cc) h
kind_reads ts rest kind (items.a_struct us vs ws name form s f) narrow lo hi h =
    no_function lo hi us ws (Struct name form) (both_move us vs ws (head_moves words.Struct us vs name s)
    (struct_form_moves vs ws form f)) (λ f e. absurd cc) h
kind_reads ts rest kind (items.an_import keyword owner separator semicolon us vs name raw names k o p n c)
    narrow lo hi h =
    no_function lo hi (keyword ∷ owner ∷ separator ∷ us) vs (Import name names)
    (both_move (keyword ∷ owner ∷ separator ∷ us) us vs (three_tokens keyword owner separator us)
    (and_one us vs semicolon (names_move us (semicolon ∷ vs) names n)))
    (λ f e. absurd cc) h
kind_reads ts rest kind (items.a_function us vs ws name body s f) narrow lo hi h =
    let head = head_moves words.Fn us vs name s lo hi h in
    let read = function_reads vs ws body f (others_narrow (type_is_wide body.param) (some_arm_is_wide body.arms) narrow)
    head.0 hi head.2 in
    record {
      mid = read.mid;
      le = omega (arith, head.1, read.le);
      stands = read.stands;
      holds = λ g e. fine name body hi read.holds g e;
    }
  where
    fine : (name : List ℕ) (b : BodyTree) (hi : ℕ) → Every IsFineArm b.arms × (length b.arms ≤ hi) →
        IsFineKind hi (Function name b.param b.deref b.arms)
    fine name b hi k g e =
        let same : record { name = name; param = b.param; deref = b.deref; arms = b.arms } ≡ g = cc in
        subst (λ (x : FunctionTree). IsFineFunction hi x) same k

-- items
items_read : (ts rest : List Placed) (is : List ItemTree) → SpellsItems ts is rest → AreNarrow is → (lo hi : ℕ) →
    Stand lo hi ts →
    KindRead lo hi rest (Every (λ i. IsFineKind hi i.kind) is)
items_read ts rest is (items.nothing us) narrow lo hi h = record { mid = lo; le = omega arith; stands = h; holds = tt }
items_read ts rest is (items.one_more us vs ws first others (items.item xs ys zs qs attrs public kind a v k) more)
    narrow lo hi h =
    let attributes = attributes_move us ys attrs a lo hi h in
    let visible = visibility_moves ys zs public v attributes.0 hi attributes.2 in
    let one = kind_reads zs vs kind k narrow.0 visible.0 hi visible.2 in
    let later = items_read vs ws others more narrow.1 one.mid hi one.stands in
    record {
      mid = later.mid;
      le = omega (arith, attributes.1, visible.1, one.le, later.le);
      stands = later.stands;
      holds = (one.holds, later.holds);
    }

file_attribute_moves : (ts rest : List Placed) → SpellsFileAttribute ts rest → Moves ts rest
file_attribute_moves ts rest (files.file_attribute hash bang opening closing us vs e f g s c) =
    both_move (hash ∷ bang ∷ opening ∷ us) us vs (three_tokens hash bang opening us)
    (and_one us vs closing (spelled_run_moves until.Bracket us (closing ∷ vs) s))

skips_move : (ts rest : List Placed) → SkipsAttributes ts rest → Moves ts rest
skips_move ts rest (files.no_more us n) = stay us
skips_move ts rest (files.one_more us vs ws s more) = both_move us vs ws (file_attribute_moves us vs s)
    (skips_move vs ws more)

-- a file
pub file_reads : (ts : List Placed) (is : List ItemTree) (hi : ℕ) → IsFile ts is → Stand 0 hi ts →
    Every (λ i. IsFineKind hi i.kind) is
file_reads ts is hi f h =
    let start = skips_move ts f.start f.head 0 hi h in
    (items_read f.start [] is f.spelled f.narrow start.0 hi start.2).holds

-- An item that is read is spelled so, and one that is spelled so is read.
use Rattle.std.proofs.Common.{◌≡◌, ℕ, ◌<◌, Bool, false, List, ◌∷◌, length, Option, Some, None, refl, arith, inl, inr}
use Rattle.decl_lexer.specs.declared.marks.Mark.TheVariants as marks
use Rattle.decl_lexer.specs.declared.words.Word.{Word}
use Rattle.decl_lexer.specs.declared.words.Word.TheVariants as words
use Rattle.decl_lexer.specs.Begins.{Keyword, Named}
use Rattle.decl_lexer.specs.Lexing.{Placed}
use Rattle.decl_syntax.specs.Units.{behind, is_mark, is_word, token_at, name_of}
use Rattle.decl_syntax.specs.Grammar.{IsMark, IsWord, CommaList}
use Rattle.decl_syntax.specs.RunReading.{attributes_at}
use Rattle.decl_syntax.proofs.Joined.{bind_some, either_some, given, behind_first, behind_some, word_only, Joined}
use Rattle.decl_syntax.proofs.TypeLaws.{name_some}
use Rattle.decl_syntax.specs.Items as trees
use Rattle.decl_syntax.specs.Items.{VariantTree, KindTree, ItemTree}
use Rattle.decl_parser.specs.DeclarationGrammar.{SpellsVariant, SpellsHead, head, SpellsNames}
use Rattle.decl_parser.specs.DeclarationReading.{visibility_at, variants_at, struct_form_at, head_at, names_at}
use Rattle.decl_parser.specs.FunctionReading.{function_at}
use Rattle.decl_parser.specs.ItemGrammar.{SpellsKind, an_enum, a_struct, an_import, a_function, SpellsItem, item}
use Rattle.decl_parser.specs.ItemReading.{enum_at, struct_at, import_at, named_function_at, kind_at, item_at}
use Rattle.decl_parser.proofs.NameLaws.{word_it, attributes_within, listed}
use Rattle.decl_parser.proofs.PartLemmas.{attributes_read}
use Rattle.decl_parser.proofs.FieldLaws.{visibilities}
use Rattle.decl_parser.proofs.VariantLaws.{variants, structs, heads}
use Rattle.decl_parser.proofs.FunctionLaws.{functions}

enum_by : (ts us vs rest : List Placed) (opening : Placed) (name : List ℕ) (xs : List VariantTree) → SpellsHead words.Enum ts name us → us ≡ opening ∷ vs → IsMark marks.OpenCurly opening
    → CommaList marks.CloseCurly SpellsVariant vs xs rest → SpellsKind ts (trees.Enum name xs) rest
enum_by ts us vs rest opening name xs h w o l = an_enum ts vs rest opening name xs (rw w at h) o l

enum_sound : (ts : List Placed) (y : KindTree × List Placed) → enum_at ts ≡ Some y → SpellsKind ts y.0 y.1
unfolding enum_at
enum_sound ts y e =
    let n = bind_some (head_at words.Enum ts) _ y e in
    let q = bind_some (behind (is_mark marks.OpenCurly) n.0.1) _ y n.2 in
    let b = behind_some marks.OpenCurly n.0.1 q.0 q.1 in
    let x = bind_some (variants_at q.0) _ y q.2 in
    given SpellsKind ts _ y x.2 (enum_by ts n.0.1 q.0 x.0.1 b.first n.0.0 x.0.0 ((heads words.Enum).sound ts n.0 n.1) b.whole b.is (variants.sound q.0 x.0 x.1))

struct_sound : (ts : List Placed) (y : KindTree × List Placed) → struct_at ts ≡ Some y → SpellsKind ts y.0 y.1
unfolding struct_at
struct_sound ts y e =
    let n = bind_some (head_at words.Struct ts) _ y e in
    let f = bind_some (struct_form_at n.0.1) _ y n.2 in
    given SpellsKind ts _ y f.2 (a_struct ts n.0.1 f.0.1 n.0.0 f.0.0 ((heads words.Struct).sound ts n.0 n.1) (structs.sound n.0.1 f.0 f.1))

import_by : (keyword owner separator semicolon : Placed) (ts us vs ws xs rest : List Placed) (name : List ℕ) (raw : Bool) (names : Option (List (List ℕ))) → ts ≡ keyword ∷ us → IsWord words.Use keyword
    → us ≡ owner ∷ vs → owner.lexeme ≡ Named name raw → vs ≡ separator ∷ ws → IsMark marks.PathSeparator separator → SpellsNames ws names xs → xs ≡ semicolon ∷ rest → IsMark marks.Semicolon semicolon
    → SpellsKind ts (trees.Import name names) rest
import_by keyword owner separator semicolon ts us vs ws xs rest name raw names w k wu o wv p n wx c = rw (w, wu, wv) (an_import keyword owner separator semicolon ws rest name raw names k o p (rw wx at n) c)

import_sound : (ts : List Placed) (y : KindTree × List Placed) → import_at ts ≡ Some y → SpellsKind ts y.0 y.1
unfolding import_at
import_sound ts y e =
    let a = bind_some (behind (is_word words.Use) ts) _ y e in
    let f = behind_first (is_word words.Use) ts a.0 a.1 in
    let n = bind_some (token_at name_of a.0) _ y a.2 in
    let w = name_some a.0 n.0 n.1 in
    let q = bind_some (behind (is_mark marks.PathSeparator) n.0.1) _ y n.2 in
    let s = behind_some marks.PathSeparator n.0.1 q.0 q.1 in
    let x = bind_some (names_at q.0) _ y q.2 in
    let c = bind_some (behind (is_mark marks.Semicolon) x.0.1) _ y x.2 in
    let h = behind_some marks.Semicolon x.0.1 c.0 c.1 in
    given SpellsKind ts _ y c.2
    (import_by f.first w.first s.first h.first ts a.0 n.0.1 q.0 x.0.1 c.0 n.0.0 w.raw x.0.0 f.whole (word_only words.Use f.first.lexeme f.is) w.whole w.is s.whole s.is (listed.sound q.0 x.0 x.1) h.whole h.is)

function_sound : (ts : List Placed) (y : KindTree × List Placed) → named_function_at ts ≡ Some y → SpellsKind ts y.0 y.1
unfolding named_function_at
function_sound ts y e =
    let n = bind_some (head_at words.Fn ts) _ y e in
    let b = bind_some (function_at n.0.1) _ y n.2 in
    given SpellsKind ts _ y b.2 (a_function ts n.0.1 b.0.1 n.0.0 b.0.0 ((heads words.Fn).sound ts n.0 n.1) (functions.sound n.0.1 b.0 b.1))

kind_sound : (ts : List Placed) (y : KindTree × List Placed) → kind_at ts ≡ Some y → SpellsKind ts y.0 y.1
unfolding kind_at
kind_sound ts y e =
    elim (either_some (behind (is_word words.Enum) ts) _ _ y e) [
      | inl a ↦ enum_sound ts y a.2
      | inr o ↦ elim (either_some (behind (is_word words.Struct) ts) _ _ y o.1) [
        | inl a ↦ struct_sound ts y a.2
        | inr p ↦ elim (either_some (behind (is_word words.Use) ts) _ _ y p.1) [
          | inl a ↦ import_sound ts y a.2
          | inr q ↦ function_sound ts y q.1
        ]
      ]
    ]

-- a head begins with its keyword and with no other one
head_first : (keyword : Word) (ts rest : List Placed) (name : List ℕ) → SpellsHead keyword ts name rest → (us : List Placed) × (behind (is_word keyword) ts ≡ Some us)
head_first keyword _ _ _ (head first word ts rest name raw given_ e n p) = (word ∷ ts, rw (e, word_it keyword) refl)

head_other : (keyword other : Word) → is_word other (Keyword keyword) ≡ false → (ts rest : List Placed) (name : List ℕ) → SpellsHead keyword ts name rest → behind (is_word other) ts ≡ None
head_other keyword other differs _ _ _ (head first word ts rest name raw given_ e n p) = rw (e, differs) refl

kind_complete : (ts rest : List Placed) (x : KindTree) → SpellsKind ts x rest → kind_at ts ≡ Some (x, rest)
unfolding kind_at enum_at struct_at import_at named_function_at
kind_complete _ _ _ (an_enum ts us rest opening name xs h o l) =
    rw ((head_first words.Enum ts (opening ∷ us) name h).1, (heads words.Enum).complete ts (opening ∷ us) name h, o, variants.complete us rest xs l) refl
kind_complete _ _ _ (a_struct ts us rest name form h f) =
    rw (head_other words.Struct words.Enum refl ts us name h, (head_first words.Struct ts us name h).1, (heads words.Struct).complete ts us name h, structs.complete us rest form f) refl
kind_complete _ _ _ (an_import keyword owner separator semicolon ts rest name raw names k o p n c) =
    rw (k, o, p, listed.complete ts (semicolon ∷ rest) names n, c) refl
kind_complete _ _ _ (a_function ts us rest name body h f) =
    rw (
      head_other words.Fn words.Enum refl ts us name h,
      head_other words.Fn words.Struct refl ts us name h,
      head_other words.Fn words.Use refl ts us name h,
      (heads words.Fn).complete ts us name h,
      functions.complete us rest body f,
    ) refl

pub kind_shrinks : (ts rest : List Placed) (x : KindTree) → SpellsKind ts x rest → length rest < length ts
kind_shrinks _ _ _ (an_enum ts us rest opening name xs h o l) = omega (arith, (heads words.Enum).shrinks ts (opening ∷ us) name h, variants.shrinks us rest xs l)
kind_shrinks _ _ _ (a_struct ts us rest name form h f) = omega (arith, (heads words.Struct).shrinks ts us name h, structs.within us rest form f)
kind_shrinks _ _ _ (an_import keyword owner separator semicolon ts rest name raw names k o p n c) = omega (arith, listed.shrinks ts (semicolon ∷ rest) names n)
kind_shrinks _ _ _ (a_function ts us rest name body h f) = omega (arith, (heads words.Fn).shrinks ts us name h, functions.shrinks us rest body f)

item_sound : (ts : List Placed) (y : ItemTree × List Placed) → item_at ts ≡ Some y → SpellsItem ts y.0 y.1
unfolding item_at
item_sound ts y e =
    let a = bind_some (attributes_at ts) _ y e in
    let v = bind_some (visibility_at a.0.1) _ y a.2 in
    let k = bind_some (kind_at v.0.1) _ y v.2 in
    given SpellsItem ts _ y k.2 (item ts a.0.1 v.0.1 k.0.1 a.0.0 v.0.0 k.0.0 (attributes_read.sound ts a.0 a.1) (visibilities.sound a.0.1 v.0 v.1) (kind_sound v.0.1 k.0 k.1))

item_complete : (ts rest : List Placed) (x : ItemTree) → SpellsItem ts x rest → item_at ts ≡ Some (x, rest)
unfolding item_at
item_complete _ _ _ (item ts us vs rest attrs given_ kind a v k) =
    rw (attributes_read.complete ts us attrs a, visibilities.complete us vs given_ v, kind_complete vs rest kind k) refl

item_shrinks : (ts rest : List Placed) (x : ItemTree) → SpellsItem ts x rest → length rest < length ts
item_shrinks _ _ _ (item ts us vs rest attrs given_ kind a v k) = omega (arith, attributes_within ts us attrs a, visibilities.within us vs given_ v, kind_shrinks vs rest kind k)

pub items : Joined SpellsItem item_at
items = record { sound = item_sound; complete = item_complete; shrinks = item_shrinks }

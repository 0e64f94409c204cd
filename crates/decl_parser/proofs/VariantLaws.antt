-- Variants, structs and the heads of items that are read are spelled so, and those that are spelled so are read.
use Rattle.std.proofs.Common.{◌≡◌, ℕ, ◌<◌, ◌≤◌, Bool, true, false, cond, List, ◌∷◌, length, Some, None, refl, arith}
use Rattle.decl_lexer.specs.declared.marks.Mark.TheVariants as marks
use Rattle.decl_lexer.specs.declared.words.Word.{Word}
use Rattle.decl_lexer.specs.Begins.{Named}
use Rattle.decl_lexer.specs.Lexing.{Placed}
use Rattle.decl_syntax.specs.Units.{behind, is_mark, is_word, token_at, name_of}
use Rattle.decl_syntax.specs.Patterns.{AttrTree}
use Rattle.decl_syntax.specs.Grammar.{IsMark, IsWord, CommaList}
use Rattle.decl_syntax.specs.Runs.{SpellsAttributes}
use Rattle.decl_syntax.specs.Reading.{◌>>=◌}
use Rattle.decl_syntax.specs.RunReading.{attributes_at}
use Rattle.decl_syntax.proofs.ListLemmas.{Shrinks}
use Rattle.decl_syntax.proofs.Joined.{bind_some, given, behind_first, behind_some, word_only, Joined, read_shrinks, lists}
use Rattle.decl_syntax.proofs.TypeLaws.{name_some}
use Rattle.decl_syntax.specs.Items.{FormTree, VariantTree}
use Rattle.decl_parser.specs.DeclarationGrammar.{SpellsForm, SpellsNumber, SpellsVariant, variant, ends_in_semicolon, SpellsStructForm, ended, braced, SpellsParams, SpellsHead, head}
use Rattle.decl_parser.specs.DeclarationReading.{form_at, number_at, variant_at, variants_at, struct_form_at, params_at, head_at}
use Rattle.decl_parser.proofs.NameLaws.{Within, word_it, attributes_within}
use Rattle.decl_parser.proofs.PartLemmas.{attributes_read}
use Rattle.decl_parser.proofs.ParamLaws.{all_params}
use Rattle.decl_parser.proofs.FieldLaws.{attributes_pass, forms, numbers}

-- ---- variants

variant_by : (ts us vs ws rest : List Placed) (word : Placed) (attrs : List AttrTree) (name : List ℕ) (raw : Bool) (form : FormTree) (numbered : Bool) → SpellsAttributes ts attrs us → us ≡ word ∷ vs
    → word.lexeme ≡ Named name raw → SpellsForm vs form ws → SpellsNumber ws numbered rest → SpellsVariant ts (record { name = name; attrs = attrs; form = form }) rest
variant_by ts us vs ws rest word attrs name raw form numbered a w e f n = variant ts vs ws rest word attrs name raw form numbered (rw w at a) e f n

variant_sound : (ts : List Placed) (y : VariantTree × List Placed) → variant_at ts ≡ Some y → SpellsVariant ts y.0 y.1
unfolding variant_at
variant_sound ts y e =
    let a = bind_some (attributes_at ts) _ y e in
    let n = bind_some (token_at name_of a.0.1) _ y a.2 in
    let w = name_some a.0.1 n.0 n.1 in
    let f = bind_some (form_at n.0.1) _ y n.2 in
    let d = bind_some (number_at f.0.1) _ y f.2 in
    given SpellsVariant ts _ y d.2
    (variant_by ts a.0.1 n.0.1 f.0.1 d.0.1 w.first a.0.0 n.0.0 w.raw f.0.0 d.0.0 (attributes_read.sound ts a.0 a.1) w.whole w.is (forms.sound n.0.1 f.0 f.1) (numbers.sound f.0.1 d.0 d.1))

variant_complete : (ts rest : List Placed) (x : VariantTree) → SpellsVariant ts x rest → variant_at ts ≡ Some (x, rest)
unfolding variant_at
variant_complete _ _ _ (variant ts us vs rest word attrs name raw form numbered a e f n) =
    rw (attributes_read.complete ts (word ∷ us) attrs a, e, forms.complete us vs form f, numbers.complete vs rest numbered n) refl

variant_shrinks : (ts rest : List Placed) (x : VariantTree) → SpellsVariant ts x rest → length rest < length ts
variant_shrinks _ _ _ (variant ts us vs rest word attrs name raw form numbered a e f n) =
    omega (arith, attributes_within ts (word ∷ us) attrs a, forms.within us vs form f, numbers.within vs rest numbered n)

variant_opens : (ts rest : List Placed) (x : VariantTree) → SpellsVariant ts x rest → behind (is_mark marks.CloseCurly) ts ≡ None
variant_opens _ _ _ (variant ts us vs rest word attrs name raw form numbered a e f n) = attributes_pass marks.CloseCurly refl ts (word ∷ us) attrs a (rw e refl)

pub one_variant : Joined SpellsVariant variant_at
one_variant = record { sound = variant_sound; complete = variant_complete; shrinks = variant_shrinks }

pub variants_shrink : Shrinks variant_at
variants_shrink = read_shrinks SpellsVariant variant_at one_variant

pub variants : Joined (CommaList marks.CloseCurly SpellsVariant) variants_at
unfolding variants_at
variants = lists marks.CloseCurly refl SpellsVariant variant_at one_variant variant_opens

-- ---- the forms of structs

ended_by : (ts us rest : List Placed) (form : FormTree) (semicolon : Placed) → SpellsForm ts form us → us ≡ semicolon ∷ rest → ends_in_semicolon form ≡ true → IsMark marks.Semicolon semicolon → SpellsStructForm ts form rest
ended_by ts us rest form semicolon f w k e = ended ts rest form semicolon (rw w at f) k e

struct_sound : (ts : List Placed) (y : FormTree × List Placed) → struct_form_at ts ≡ Some y → SpellsStructForm ts y.0 y.1
unfolding struct_form_at
struct_sound ts y e =
    let f = bind_some (form_at ts) _ y e in
    by_case f.0 (forms.sound ts f.0 f.1) (ends_in_semicolon f.0.0) refl f.2
  where
    by_case : (x : FormTree × List Placed) → SpellsForm ts x.0 x.1 → (b : Bool) → ends_in_semicolon x.0 ≡ b
        → cond b (behind (is_mark marks.Semicolon) x.1 >>= λ rest. Some (x.0, rest)) (Some (x.0, x.1)) ≡ Some y → SpellsStructForm ts y.0 y.1
    by_case x s true k e =
        let c = bind_some (behind (is_mark marks.Semicolon) x.1) _ y e in
        let h = behind_some marks.Semicolon x.1 c.0 c.1 in
        given SpellsStructForm ts _ y c.2 (ended_by ts x.1 c.0 x.0 h.first s h.whole k h.is)
    by_case x s false k e = given SpellsStructForm ts _ y e (braced ts x.1 x.0 s k)

struct_complete : (ts rest : List Placed) (x : FormTree) → SpellsStructForm ts x rest → struct_form_at ts ≡ Some (x, rest)
unfolding struct_form_at
struct_complete _ _ _ (ended ts rest form semicolon f k e) = rw (forms.complete ts (semicolon ∷ rest) form f, k, e) refl
struct_complete _ _ _ (braced ts rest form f k) = rw (forms.complete ts rest form f, k) refl

struct_within : (ts rest : List Placed) (x : FormTree) → SpellsStructForm ts x rest → length rest ≤ length ts
struct_within _ _ _ (ended ts rest form semicolon f k e) = omega (arith, forms.within ts (semicolon ∷ rest) form f)
struct_within _ _ _ (braced ts rest form f k) = forms.within ts rest form f

pub structs : Within SpellsStructForm struct_form_at
structs = record { sound = struct_sound; complete = struct_complete; within = struct_within }

-- ---- the heads of items

head_by : (keyword : Word) (first word : Placed) (ts us vs rest : List Placed) (name : List ℕ) (raw given_ : Bool) → ts ≡ first ∷ us → us ≡ word ∷ vs → IsWord keyword first → word.lexeme ≡ Named name raw
    → SpellsParams vs given_ rest → SpellsHead keyword ts name rest
head_by keyword first word ts us vs rest name raw given_ w k e n p = rw (w, k) (head first word vs rest name raw given_ e n p)

head_sound : (keyword : Word) (ts : List Placed) (y : List ℕ × List Placed) → head_at keyword ts ≡ Some y → SpellsHead keyword ts y.0 y.1
unfolding head_at
head_sound keyword ts y e =
    let b = bind_some (behind (is_word keyword) ts) _ y e in
    let f = behind_first (is_word keyword) ts b.0 b.1 in
    let n = bind_some (token_at name_of b.0) _ y b.2 in
    let w = name_some b.0 n.0 n.1 in
    let p = bind_some (params_at n.0.1) _ y n.2 in
    given (SpellsHead keyword) ts _ y p.2
    (head_by keyword f.first w.first ts b.0 n.0.1 p.0.1 n.0.0 w.raw p.0.0 f.whole w.whole (word_only keyword f.first.lexeme f.is) w.is (all_params.sound n.0.1 p.0 p.1))

head_complete : (keyword : Word) (ts rest : List Placed) (x : List ℕ) → SpellsHead keyword ts x rest → head_at keyword ts ≡ Some (x, rest)
unfolding head_at
head_complete keyword _ _ _ (head first word ts rest name raw given_ e n p) = rw (e, word_it keyword, n, all_params.complete ts rest given_ p) refl

head_shrinks : (keyword : Word) (ts rest : List Placed) (x : List ℕ) → SpellsHead keyword ts x rest → length rest < length ts
head_shrinks keyword _ _ _ (head first word ts rest name raw given_ e n p) = omega (arith, all_params.within ts rest given_ p)

pub heads : (keyword : Word) → Joined (SpellsHead keyword) (head_at keyword)
heads keyword = record { sound = head_sound keyword; complete = head_complete keyword; shrinks = head_shrinks keyword }

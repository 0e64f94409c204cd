-- Visibilities, fields and forms that are read are spelled so, and those that are spelled so are read.
use Rattle.std.proofs.Common.{◌≡◌, ℕ, ◌<◌, ◌≤◌, Bool, true, false, cond, List, ◌∷◌, length, Option, Some, None, refl, arith, inl, inr}
use Rattle.decl_lexer.specs.declared.marks.Mark.{Mark}
use Rattle.decl_lexer.specs.declared.marks.Mark.TheVariants as marks
use Rattle.decl_lexer.specs.declared.words.Word.TheVariants as words
use Rattle.decl_lexer.specs.Begins.{Lexeme, Keyword, Marked, Named}
use Rattle.decl_lexer.specs.Lexing.{Placed}
use Rattle.decl_syntax.specs.Units.{behind, is_mark, is_word, token_at, name_of}
use Rattle.decl_syntax.specs.Types.{TypeTree}
use Rattle.decl_syntax.specs.Patterns.{AttrTree}
use Rattle.decl_syntax.specs.Grammar.{IsMark, IsWord, CommaList, no_more, one_more}
use Rattle.decl_syntax.specs.Runs.{SpellsAttributes}
use Rattle.decl_syntax.specs.TypeGrammar.{SpellsType}
use Rattle.decl_syntax.specs.Reading.{◌>>=◌}
use Rattle.decl_syntax.specs.RunReading.{attributes_at}
use Rattle.decl_syntax.specs.TypeReading.{type_at}
use Rattle.decl_syntax.proofs.ListLemmas.{Shrinks}
use Rattle.decl_syntax.proofs.Joined.{bind_some, either_some, given, behind_first, behind_some, word_only, none_behind, next_is_not, Joined, read_shrinks, lists}
use Rattle.decl_syntax.proofs.TypeLaws.{known_types, name_some}
use Rattle.decl_parser.specs.declared.runs.Until.TheVariants as until
use Rattle.decl_parser.specs.RunGrammar.{SpellsRun}
use Rattle.decl_parser.specs.RunReading.{run_at}
use Rattle.decl_syntax.specs.Items as trees
use Rattle.decl_syntax.specs.Items.{FieldItem, FormTree}
use Rattle.decl_parser.specs.DeclarationGrammar.{is_scope, begins_scope, restricts, SpellsVisibility, private, public, public_in_scope, public_in_path, FieldLabel, no_label, label, SpellsField, field, closing, SpellsForm, unit_form, tuple_form, brace_form, SpellsNumber, no_number, number}
use Rattle.decl_parser.specs.DeclarationReading.{scope_at, restriction_at, visibility_at, label_at, field_at, fields_at, form_at, number_at}
use Rattle.decl_parser.proofs.NameLaws.{Within, attributes_within}
use Rattle.decl_parser.proofs.PartLemmas.{attributes_read}
use Rattle.decl_parser.proofs.RunLaws.{run_complete, run_sound, run_shrinks}

-- ---- visibilities

scope_begins : (l : Lexeme) → is_scope l ≡ true → (begins_scope l ≡ true) × (is_word words.In l ≡ false)
scope_begins (Keyword words.Crate) e = (refl, refl)
scope_begins (Keyword words.SelfValue) e = (refl, refl)
scope_begins (Keyword words.Super) e = (refl, refl)
scope_begins _ e = absurd cc

in_path_by : (word opening within closing : Placed) (ts us vs rest : List Placed) → IsWord words.Pub word → IsMark marks.OpenRound opening → ts ≡ within ∷ us → IsWord words.In within
    → SpellsRun until.Bracket us vs → vs ≡ closing ∷ rest → IsMark marks.CloseRound closing → SpellsVisibility (word ∷ opening ∷ ts) true rest
in_path_by word opening within closing ts us vs rest p o w i run k c = rw w (public_in_path word opening within closing us rest p o i (rw k at run) c)

in_scope_by : (word opening scope closing : Placed) (ts us rest : List Placed) → IsWord words.Pub word → IsMark marks.OpenRound opening → ts ≡ scope ∷ us → is_scope scope.lexeme ≡ true
    → us ≡ closing ∷ rest → IsMark marks.CloseRound closing → SpellsVisibility (word ∷ opening ∷ ts) true rest
in_scope_by word opening scope closing ts us rest p o w i k c = rw (w, k) (public_in_scope word opening scope closing rest p o i c)

scope_sound : (word opening : Placed) (ts : List Placed) (y : Bool × List Placed) → IsWord words.Pub word → IsMark marks.OpenRound opening → scope_at ts ≡ Some y
    → SpellsVisibility (word ∷ opening ∷ ts) y.0 y.1
unfolding scope_at
scope_sound word opening ts y p o e =
    elim (either_some (behind (is_word words.In) ts) _ _ y e) [
      | inl a ↦ (
          let f = behind_first (is_word words.In) ts a.0 a.1 in
          let r = bind_some (run_at until.Bracket a.0) _ y a.2 in
          let c = bind_some (behind (is_mark marks.CloseRound) r.0) _ y r.2 in
          let h = behind_some marks.CloseRound r.0 c.0 c.1 in
          given SpellsVisibility (word ∷ opening ∷ ts) _ y c.2
          (in_path_by word opening f.first h.first ts a.0 r.0 c.0 p o f.whole (word_only words.In f.first.lexeme f.is) (run_sound until.Bracket a.0 r.0 r.1) h.whole h.is))
      | inr n ↦ (
          let a = bind_some (behind is_scope ts) _ y n.1 in
          let f = behind_first is_scope ts a.0 a.1 in
          let c = bind_some (behind (is_mark marks.CloseRound) a.0) _ y a.2 in
          let h = behind_some marks.CloseRound a.0 c.0 c.1 in
          given SpellsVisibility (word ∷ opening ∷ ts) _ y c.2 (in_scope_by word opening f.first h.first ts a.0 c.0 p o f.whole f.is h.whole h.is))
    ]

restricted_by : (word opening : Placed) (ts us : List Placed) (y : Bool × List Placed) → ts ≡ opening ∷ us → SpellsVisibility (word ∷ opening ∷ us) y.0 y.1 → SpellsVisibility (word ∷ ts) y.0 y.1
restricted_by word opening ts us y w s = rw w s

restriction_sound : (word : Placed) (ts : List Placed) (y : Bool × List Placed) → IsWord words.Pub word → restriction_at ts ≡ Some y → SpellsVisibility (word ∷ ts) y.0 y.1
unfolding restriction_at
restriction_sound word ts y p e = by_case (restricts (behind (is_mark marks.OpenRound) ts)) refl e
  where
    by_case : (b : Bool) → restricts (behind (is_mark marks.OpenRound) ts) ≡ b → cond b (behind (is_mark marks.OpenRound) ts >>= λ us. scope_at us) (Some (true, ts)) ≡ Some y
        → SpellsVisibility (word ∷ ts) y.0 y.1
    by_case true k e =
        let a = bind_some (behind (is_mark marks.OpenRound) ts) _ y e in
        let h = behind_some marks.OpenRound ts a.0 a.1 in
        restricted_by word h.first ts a.0 y h.whole (scope_sound word h.first a.0 y p h.is a.2)
    by_case false k e = given SpellsVisibility (word ∷ ts) _ y e (public word ts p k)

visible_by : (word : Placed) (ts us : List Placed) (y : Bool × List Placed) → ts ≡ word ∷ us → SpellsVisibility (word ∷ us) y.0 y.1 → SpellsVisibility ts y.0 y.1
visible_by word ts us y w s = rw w s

visibility_sound : (ts : List Placed) (y : Bool × List Placed) → visibility_at ts ≡ Some y → SpellsVisibility ts y.0 y.1
unfolding visibility_at
visibility_sound ts y e =
    elim (either_some (behind (is_word words.Pub) ts) _ _ y e) [
      | inl a ↦ (
          let f = behind_first (is_word words.Pub) ts a.0 a.1 in
          visible_by f.first ts a.0 y f.whole (restriction_sound f.first a.0 y (word_only words.Pub f.first.lexeme f.is) a.2))
      | inr o ↦ given SpellsVisibility ts _ y o.1 (private ts (next_is_not (is_word words.Pub) ts o.0))
    ]

visibility_complete : (ts rest : List Placed) (x : Bool) → SpellsVisibility ts x rest → visibility_at ts ≡ Some (x, rest)
unfolding visibility_at restriction_at scope_at
visibility_complete _ _ _ (private ts n) = rw (none_behind (is_word words.Pub) ts n) refl
visibility_complete _ _ _ (public word ts p n) = rw (p, n) refl
visibility_complete _ _ _ (public_in_scope word opening scope closing rest p o i c) =
    let b = scope_begins scope.lexeme i in rw (p, o, b.0, b.1, i, c) refl
visibility_complete _ _ _ (public_in_path word opening within closing ts rest p o i run c) =
    rw (p, o, i, run_complete until.Bracket ts (closing ∷ rest) run, c) refl

visibility_within : (ts rest : List Placed) (x : Bool) → SpellsVisibility ts x rest → length rest ≤ length ts
visibility_within _ _ _ (public_in_path word opening within closing ts rest p o i run c) = omega (arith, run_shrinks until.Bracket ts (closing ∷ rest) run)
visibility_within _ _ _ _ = omega arith

pub visibilities : Within SpellsVisibility visibility_at
visibilities = record { sound = visibility_sound; complete = visibility_complete; within = visibility_within }

-- ---- fields

label_by : (word colon : Placed) (ts us rest : List Placed) (name : List ℕ) (raw : Bool) → ts ≡ word ∷ us → us ≡ colon ∷ rest → word.lexeme ≡ Named name raw → IsMark marks.Colon colon
    → FieldLabel true ts (Some name) rest
label_by word colon ts us rest name raw w k e c = rw (w, k) (label word colon rest name raw e c)

label_sound : (braced : Bool) (ts : List Placed) (y : Option (List ℕ) × List Placed) → label_at braced ts ≡ Some y → FieldLabel braced ts y.0 y.1
unfolding label_at
label_sound true ts y e =
    let n = bind_some (token_at name_of ts) _ y e in
    let f = name_some ts n.0 n.1 in
    let c = bind_some (behind (is_mark marks.Colon) n.0.1) _ y n.2 in
    let h = behind_some marks.Colon n.0.1 c.0 c.1 in
    given (FieldLabel true) ts _ y c.2 (label_by f.first h.first ts n.0.1 c.0 n.0.0 f.raw f.whole h.whole f.is h.is)
label_sound false ts y e = given (FieldLabel false) ts _ y e (no_label ts)

label_complete : (braced : Bool) (ts rest : List Placed) (x : Option (List ℕ)) → FieldLabel braced ts x rest → label_at braced ts ≡ Some (x, rest)
unfolding label_at
label_complete _ _ _ _ (no_label ts) = refl
label_complete _ _ _ _ (label word colon rest name raw e c) = rw (e, c) refl

label_within : (braced : Bool) (ts rest : List Placed) (x : Option (List ℕ)) → FieldLabel braced ts x rest → length rest ≤ length ts
label_within _ _ _ _ (no_label ts) = omega arith
label_within _ _ _ _ (label word colon rest name raw e c) = omega arith

field_sound : (braced : Bool) (ts : List Placed) (y : FieldItem × List Placed) → field_at braced ts ≡ Some y → SpellsField braced ts y.0 y.1
unfolding field_at
field_sound braced ts y e =
    let a = bind_some (attributes_at ts) _ y e in
    let v = bind_some (visibility_at a.0.1) _ y a.2 in
    let n = bind_some (label_at braced v.0.1) _ y v.2 in
    let t = bind_some (type_at 64 n.0.1) _ y n.2 in
    given (SpellsField braced) ts _ y t.2
    (field ts a.0.1 v.0.1 n.0.1 t.0.1 a.0.0 v.0.0 n.0.0 t.0.0 (attributes_read.sound ts a.0 a.1) (visibility_sound a.0.1 v.0 v.1) (label_sound braced v.0.1 n.0 n.1) ((known_types 64).joined.sound n.0.1 t.0 t.1))

field_complete : (braced : Bool) (ts rest : List Placed) (x : FieldItem) → SpellsField braced ts x rest → field_at braced ts ≡ Some (x, rest)
unfolding field_at
field_complete braced _ _ _ (field ts us vs ws rest attrs given_ name type a v n t) =
    rw (attributes_read.complete ts us attrs a, visibility_complete us vs given_ v, label_complete braced vs ws name n, (known_types 64).joined.complete ws rest type t) refl

field_shrinks : (braced : Bool) (ts rest : List Placed) (x : FieldItem) → SpellsField braced ts x rest → length rest < length ts
field_shrinks braced _ _ _ (field ts us vs ws rest attrs given_ name type a v n t) =
    omega (arith, attributes_within ts us attrs a, visibility_within us vs given_ v, label_within braced vs ws name n, (known_types 64).joined.shrinks ws rest type t)

-- what no attribute, visibility or field begins with
pub attributes_pass : (m : Mark) → is_mark m (Marked marks.Hash) ≡ false → (ts us : List Placed) (xs : List AttrTree) → SpellsAttributes ts xs us → behind (is_mark m) us ≡ None → behind (is_mark m) ts ≡ None
attributes_pass m d _ _ _ (no_more ts e) s = s
attributes_pass m d _ _ _ (one_more t ts us rest a as_ e item others) s = rw (e, d) refl

visibility_passes : (m : Mark) (ts us : List Placed) (x : Bool) → SpellsVisibility ts x us → behind (is_mark m) us ≡ None → behind (is_mark m) ts ≡ None
visibility_passes m _ _ _ (private ts n) s = s
visibility_passes m _ _ _ (public word ts p n) s = rw p refl
visibility_passes m _ _ _ (public_in_scope word opening scope closing rest p o i c) s = rw p refl
visibility_passes m _ _ _ (public_in_path word opening within closing ts rest p o i run c) s = rw p refl

label_opens : (braced : Bool) (vs ws rest : List Placed) (x : Option (List ℕ)) (t : TypeTree) → FieldLabel braced vs x ws → SpellsType 64 ws t rest → behind (is_mark (closing braced)) vs ≡ None
label_opens _ _ _ rest _ t (no_label ts) s = ((known_types 64).starts ts rest t s).0
label_opens _ _ _ rest _ t (label word colon ws name raw e c) s = rw e refl

no_hash : (braced : Bool) → is_mark (closing braced) (Marked marks.Hash) ≡ false
no_hash true = refl
no_hash false = refl

no_comma : (braced : Bool) → is_mark (closing braced) (Marked marks.Comma) ≡ false
no_comma true = refl
no_comma false = refl

field_opens : (braced : Bool) (ts rest : List Placed) (x : FieldItem) → SpellsField braced ts x rest → behind (is_mark (closing braced)) ts ≡ None
field_opens braced _ _ _ (field ts us vs ws rest attrs given_ name type a v n t) =
    attributes_pass (closing braced) (no_hash braced) ts us attrs a (visibility_passes (closing braced) us vs given_ v (label_opens braced vs ws rest name type n t))

one_field : (braced : Bool) → Joined (SpellsField braced) (field_at braced)
one_field braced = record { sound = field_sound braced; complete = field_complete braced; shrinks = field_shrinks braced }

pub fields_shrink : (braced : Bool) → Shrinks (field_at braced)
fields_shrink braced = read_shrinks (SpellsField braced) (field_at braced) (one_field braced)

fields : (braced : Bool) → Joined (CommaList (closing braced) (SpellsField braced)) (fields_at braced)
unfolding fields_at
fields braced = lists (closing braced) (no_comma braced) (SpellsField braced) (field_at braced) (one_field braced) (field_opens braced)

-- ---- forms

tuple_by : (opening : Placed) (ts us rest : List Placed) (xs : List FieldItem) → ts ≡ opening ∷ us → IsMark marks.OpenRound opening → CommaList marks.CloseRound (SpellsField false) us xs rest
    → SpellsForm ts (trees.Tuple xs) rest
tuple_by opening ts us rest xs w e list = rw w (tuple_form opening us rest xs e list)

brace_by : (opening : Placed) (ts us rest : List Placed) (xs : List FieldItem) → ts ≡ opening ∷ us → IsMark marks.OpenCurly opening → CommaList marks.CloseCurly (SpellsField true) us xs rest
    → SpellsForm ts (trees.Brace xs) rest
brace_by opening ts us rest xs w e list = rw w (brace_form opening us rest xs e list)

form_sound : (ts : List Placed) (y : FormTree × List Placed) → form_at ts ≡ Some y → SpellsForm ts y.0 y.1
unfolding form_at
form_sound ts y e =
    elim (either_some (behind (is_mark marks.OpenRound) ts) _ _ y e) [
      | inl a ↦ (
          let b = behind_some marks.OpenRound ts a.0 a.1 in
          let x = bind_some (fields_at false a.0) _ y a.2 in
          given SpellsForm ts _ y x.2 (tuple_by b.first ts a.0 x.0.1 x.0.0 b.whole b.is ((fields false).sound a.0 x.0 x.1)))
      | inr o ↦ elim (either_some (behind (is_mark marks.OpenCurly) ts) _ _ y o.1) [
        | inl a ↦ (
            let b = behind_some marks.OpenCurly ts a.0 a.1 in
            let x = bind_some (fields_at true a.0) _ y a.2 in
            given SpellsForm ts _ y x.2 (brace_by b.first ts a.0 x.0.1 x.0.0 b.whole b.is ((fields true).sound a.0 x.0 x.1)))
        | inr p ↦ given SpellsForm ts _ y p.1 (unit_form ts (next_is_not (is_mark marks.OpenRound) ts o.0) (next_is_not (is_mark marks.OpenCurly) ts p.0))
      ]
    ]

form_complete : (ts rest : List Placed) (x : FormTree) → SpellsForm ts x rest → form_at ts ≡ Some (x, rest)
unfolding form_at
form_complete _ _ _ (unit_form ts r c) = rw (none_behind (is_mark marks.OpenRound) ts r, none_behind (is_mark marks.OpenCurly) ts c) refl
form_complete _ _ _ (tuple_form opening ts rest xs e list) = rw (e, (fields false).complete ts rest xs list) refl
form_complete _ _ _ (brace_form opening ts rest xs e list) = rw (e, (fields true).complete ts rest xs list) refl

form_within : (ts rest : List Placed) (x : FormTree) → SpellsForm ts x rest → length rest ≤ length ts
form_within _ _ _ (unit_form ts r c) = omega arith
form_within _ _ _ (tuple_form opening ts rest xs e list) = omega (arith, (fields false).shrinks ts rest xs list)
form_within _ _ _ (brace_form opening ts rest xs e list) = omega (arith, (fields true).shrinks ts rest xs list)

pub forms : Within SpellsForm form_at
forms = record { sound = form_sound; complete = form_complete; within = form_within }

-- ---- numbers of variants

number_by : (equal : Placed) (ts us rest : List Placed) → ts ≡ equal ∷ us → IsMark marks.Assign equal → SpellsRun until.Comma us rest → SpellsNumber ts true rest
number_by equal ts us rest w e run = rw w (number equal us rest e run)

number_sound : (ts : List Placed) (y : Bool × List Placed) → number_at ts ≡ Some y → SpellsNumber ts y.0 y.1
unfolding number_at
number_sound ts y e =
    elim (either_some (behind (is_mark marks.Assign) ts) _ _ y e) [
      | inl a ↦ (
          let b = behind_some marks.Assign ts a.0 a.1 in
          let r = bind_some (run_at until.Comma a.0) _ y a.2 in
          given SpellsNumber ts _ y r.2 (number_by b.first ts a.0 r.0 b.whole b.is (run_sound until.Comma a.0 r.0 r.1)))
      | inr o ↦ given SpellsNumber ts _ y o.1 (no_number ts (next_is_not (is_mark marks.Assign) ts o.0))
    ]

number_complete : (ts rest : List Placed) (x : Bool) → SpellsNumber ts x rest → number_at ts ≡ Some (x, rest)
unfolding number_at
number_complete _ _ _ (no_number ts n) = rw (none_behind (is_mark marks.Assign) ts n) refl
number_complete _ _ _ (number equal ts rest e run) = rw (e, run_complete until.Comma ts rest run) refl

number_within : (ts rest : List Placed) (x : Bool) → SpellsNumber ts x rest → length rest ≤ length ts
number_within _ _ _ (no_number ts n) = omega arith
number_within _ _ _ (number equal ts rest e run) = omega (arith, run_shrinks until.Comma ts rest run)

pub numbers : Within SpellsNumber number_at
numbers = record { sound = number_sound; complete = number_complete; within = number_within }

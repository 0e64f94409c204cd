-- A value that is read is spelled so, and one that is spelled so is read.
use Rattle.std.proofs.Common.{◌≡◌, ℕ, zero, suc, ◌-◌, ◌<◌, Bool, true, false, cond, List, ◌∷◌, length, Some}
use Rattle.std.proofs.Common.{None, refl, sym, ap, subst, ◌∙◌, arith, inl, inr}
use Rattle.std.specs.Str.{bytes_eq}
use Rattle.std.proofs.lemmas.Slice.Eq.{bytes_eq-Decides}
use lib.Chars.{codes}
use Rattle.decl_lexer.specs.declared.marks.Mark.{Mark}
use Rattle.decl_lexer.specs.declared.marks.Mark.TheVariants as marks
use Rattle.decl_lexer.specs.declared.words.Word.TheVariants as words
use Rattle.decl_lexer.specs.Begins.{Lexeme, Named, Keyword, Integer, Character, Byte, Text}
use Rattle.decl_lexer.specs.Lexing.{Placed}
use Rattle.decl_syntax.specs.Units.{behind, is_mark, is_word, flag_at, token_at, name_of}
use Rattle.decl_syntax.specs.Grammar.{Spelling, IsMark, NextIsNot, CommaList}
use Rattle.decl_syntax.specs.Reading.{◌>>=◌, either, Read, list_at}
use Rattle.decl_syntax.proofs.ListLemmas.{Shrinks}
use Rattle.decl_syntax.proofs.Joined.{some_is, bind_some, either_some, given, behind_some, none_behind, next_is_not}
use Rattle.decl_syntax.proofs.Joined.{token_some, flag_sound, flag_complete, maybe_shrinks, Joined, read_shrinks, lists}
use Rattle.decl_syntax.proofs.TypeLaws.{name_some}
use Rattle.witness_text.specs.Trees.{NameTree}
use Rattle.value_syntax.specs.Trees.{WrittenTree, WrittenInt}
use Rattle.value_syntax.specs.Trees.{WrittenText, WrittenOpaque, WrittenLater, WrittenUnseen, FieldTree}
use Rattle.value_syntax.specs.Grammar.{IsLiteral, a_true, a_false, a_char, a_byte, an_int, a_str, IsUnknown, an_opaque}
use Rattle.value_syntax.specs.Grammar.{a_later, an_unseen, SpellsName, plain_name, variant_name, FieldForm, a_field}
use Rattle.value_syntax.specs.Grammar.{ValueForm, literal, negative, referred, unknown, point, unit, round, tuple, row}
use Rattle.value_syntax.specs.Grammar.{unit_form, tuple_form, brace_form, SpellsValue}
use Rattle.value_syntax.specs.ValueReading.{literal_of, negated_of, referred_of, unknown_word, unknown_of, name_behind}
use Rattle.value_syntax.specs.ValueReading.{form_name_at, field_at, round_value, row_value, point_value, form_value}
use Rattle.value_syntax.specs.ValueReading.{value_form, value_at}

-- ---- tokens

literal_to : (l : Lexeme) (x : WrittenTree) → literal_of l ≡ Some x → IsLiteral l x
literal_to (Keyword words.True) x e = subst (λ s. IsLiteral (Keyword words.True) s) (some_is _ _ e) a_true
literal_to (Keyword words.False) x e = subst (λ s. IsLiteral (Keyword words.False) s) (some_is _ _ e) a_false
literal_to (Character c) x e = subst (λ s. IsLiteral (Character c) s) (some_is _ _ e) (a_char c)
literal_to (Byte b) x e = subst (λ s. IsLiteral (Byte b) s) (some_is _ _ e) (a_byte b)
literal_to (Integer (Some size) suffix decimal) x e =
    subst (λ s. IsLiteral (Integer (Some size) suffix decimal) s) (some_is _ _ e) (an_int size suffix decimal)
literal_to (Text text) x e = subst (λ s. IsLiteral (Text text) s) (some_is _ _ e) (a_str text)
literal_to _ x e = absurd cc

-- what is known of a literal
record LiteralFacts (l : Lexeme) (x : WrittenTree) : Type 0 where
  read : literal_of l ≡ Some x
  mark : (m : Mark) → is_mark m l ≡ false

literal_facts : (l : Lexeme) (x : WrittenTree) → IsLiteral l x → LiteralFacts l x
literal_facts _ _ a_true = record { read = refl; mark = λ m. refl }
literal_facts _ _ a_false = record { read = refl; mark = λ m. refl }
literal_facts _ _ (a_char c) = record { read = refl; mark = λ m. refl }
literal_facts _ _ (a_byte b) = record { read = refl; mark = λ m. refl }
literal_facts _ _ (an_int size suffix decimal) = record { read = refl; mark = λ m. refl }
literal_facts _ _ (a_str text) = record { read = refl; mark = λ m. refl }

-- an integer behind `-`
record IsNegated (l : Lexeme) (x : WrittenTree) : Type 0 where
  size : ℕ
  suffix : List ℕ
  decimal : Bool
  is : l ≡ Integer (Some size) suffix decimal
  whole : x ≡ WrittenInt true size suffix

negated_to : (l : Lexeme) (x : WrittenTree) → negated_of l ≡ Some x → IsNegated l x
negated_to (Integer (Some size) suffix decimal) x e =
    record { size = size; suffix = suffix; decimal = decimal; is = refl; whole = some_is _ _ (sym e) }
negated_to _ x e = absurd cc

-- a text behind `*`
record IsReferred (l : Lexeme) (x : WrittenTree) : Type 0 where
  text : List ℕ
  is : l ≡ Text text
  whole : x ≡ WrittenText text

referred_to : (l : Lexeme) (x : WrittenTree) → referred_of l ≡ Some x → IsReferred l x
referred_to (Text text) x e = record { text = text; is = refl; whole = some_is _ _ (sym e) }
referred_to _ x e = absurd cc

-- a word behind `?`
word_to : (name : List ℕ) (x : WrittenTree) → unknown_word name ≡ Some x → IsUnknown (Named name false) x
word_to name x e = first (bytes_eq name (codes "opaque")) refl e
  where
    same : (word : List ℕ) (w : WrittenTree) → bytes_eq name word ≡ true → IsUnknown (Named word false) w → w ≡ x
        → IsUnknown (Named name false) x
    same word w b i f = let n : name ≡ word = (bytes_eq-Decides name word).0 b in
        rw n (subst (λ y. IsUnknown (Named word false) y) f i)

    third : (b : Bool) → bytes_eq name (codes "unseen") ≡ b → cond b (Some WrittenUnseen) None ≡ Some x
        → IsUnknown (Named name false) x
    third true b e = same (codes "unseen") WrittenUnseen b an_unseen (some_is _ _ e)
    third false b e = absurd cc

    second : (b : Bool) → bytes_eq name (codes "later") ≡ b
        → cond b (Some WrittenLater) (cond (bytes_eq name (codes "unseen")) (Some WrittenUnseen) None) ≡ Some x
        → IsUnknown (Named name false) x
    second true b e = same (codes "later") WrittenLater b a_later (some_is _ _ e)
    second false b e = third (bytes_eq name (codes "unseen")) refl e

    first : (b : Bool) → bytes_eq name (codes "opaque") ≡ b
        → cond b (Some WrittenOpaque) (cond (bytes_eq name (codes "later")) (Some WrittenLater)
        (cond (bytes_eq name (codes "unseen")) (Some WrittenUnseen) None)) ≡ Some x → IsUnknown (Named name false) x
    first true b e = same (codes "opaque") WrittenOpaque b an_opaque (some_is _ _ e)
    first false b e = second (bytes_eq name (codes "later")) refl e

unknown_to : (l : Lexeme) (x : WrittenTree) → unknown_of l ≡ Some x → IsUnknown l x
unknown_to (Named name false) x e = word_to name x e
unknown_to _ x e = absurd cc

unknown_from : (l : Lexeme) (x : WrittenTree) → IsUnknown l x → unknown_of l ≡ Some x
unknown_from _ _ an_opaque = refl
unknown_from _ _ a_later = refl
unknown_from _ _ an_unseen = refl

-- ---- names

-- a name behind its first part
name_parts : (t : Placed) (ts : List Placed) (y : NameTree × List Placed) (name : List ℕ) (raw : Bool)
    → t.lexeme ≡ Named name raw → name_behind name ts ≡ Some y → SpellsName (t ∷ ts) y.0 y.1
name_parts t ts y name raw e r =
    elim (either_some (behind (is_mark marks.PathSeparator) ts) _ _ y r) [
      | inl a ↦ (
          let b = behind_some marks.PathSeparator ts a.0 a.1 in
          let m = bind_some (token_at name_of a.0) _ y a.2 in
          let u = name_some a.0 m.0 m.1 in
          let whole : ts ≡ b.first ∷ u.first ∷ m.0.1 = b.whole ∙ ap (λ us. b.first ∷ us) u.whole in
          given SpellsName (t ∷ ts) _ y m.2 (rw whole
          (variant_name t b.first u.first m.0.1 name m.0.0 raw u.raw e b.is u.is)))
      | inr o ↦ given SpellsName (t ∷ ts) _ y o.1
          (plain_name t ts name raw e (next_is_not (is_mark marks.PathSeparator) ts o.0))
    ]

name_sound : (ts : List Placed) (y : NameTree × List Placed) → form_name_at ts ≡ Some y → SpellsName ts y.0 y.1
unfolding form_name_at
name_sound ts y e =
    let n = bind_some (token_at name_of ts) _ y e in
    let w = name_some ts n.0 n.1 in
    rw w.whole (name_parts w.first n.0.1 y n.0.0 w.raw w.is n.2)

name_complete : (ts rest : List Placed) (x : NameTree) → SpellsName ts x rest → form_name_at ts ≡ Some (x, rest)
unfolding form_name_at
name_complete _ _ _ (plain_name word rest name raw e n) = rw (e, none_behind (is_mark marks.PathSeparator) rest n) refl
name_complete _ _ _ (variant_name first mark second rest owner name raw raw_too e f g) = rw (e, f, g) refl

name_shrinks : (ts rest : List Placed) (x : NameTree) → SpellsName ts x rest → length rest < length ts
name_shrinks _ _ _ (plain_name word rest name raw e n) = omega arith
name_shrinks _ _ _ (variant_name first mark second rest owner name raw raw_too e f g) = omega arith

names : Joined SpellsName form_name_at
names = record { sound = name_sound; complete = name_complete; shrinks = name_shrinks }

-- what a name does not begin with
record NameStarts (ts : List Placed) : Type 0 where
  mark : (m : Mark) → behind (is_mark m) ts ≡ None
  literal : token_at literal_of ts ≡ None

name_starts : (ts rest : List Placed) (x : NameTree) → SpellsName ts x rest → NameStarts ts
name_starts _ _ _ (plain_name word rest name raw e n) = record { mark = λ m. rw e refl; literal = rw e refl }
name_starts _ _ _ (variant_name first mark second rest owner name raw raw_too e f g) =
    record { mark = λ m. rw e refl; literal = rw e refl }

-- ---- values

-- what a value does not begin with
abbrev Starts : List Placed → Type 0
Starts ts = (behind (is_mark marks.CloseRound) ts ≡ None) × (behind (is_mark marks.CloseSquare) ts ≡ None)

module _ (Inner : Spelling WrittenTree) (inner : List Placed
    → Read WrittenTree) (h : Joined Inner inner) (starts : (ts rest : List Placed) (x : WrittenTree) → Inner ts x rest
    → Starts ts) where
  parts : Joined (CommaList marks.CloseRound Inner) (list_at marks.CloseRound inner)
  parts = lists marks.CloseRound refl Inner inner h (λ ts rest x i. (starts ts rest x i).0)

  items : Joined (CommaList marks.CloseSquare Inner) (list_at marks.CloseSquare inner)
  items = lists marks.CloseSquare refl Inner inner h (λ ts rest x i. (starts ts rest x i).1)

  -- a field behind `:`, and behind its name
  field_value : (t colon : Placed) (ts : List Placed) (y : FieldTree × List Placed) (name : List ℕ) (raw : Bool)
      → t.lexeme ≡ Named name raw → IsMark marks.Colon colon
      → (inner ts >>= λ x. Some (record { name = name; value = x.0 }, x.1)) ≡ Some y
      → FieldForm Inner (t ∷ colon ∷ ts) y.0 y.1
  field_value t colon ts y name raw e c r =
      let x = bind_some (inner ts) _ y r in
      given (FieldForm Inner) (t ∷ colon ∷ ts) _ y x.2
      (a_field t colon ts x.0.1 name raw x.0.0 e c (h.sound ts x.0 x.1))

  field_parts : (t : Placed) (ts : List Placed) (y : FieldTree × List Placed) (name : List ℕ) (raw : Bool)
      → t.lexeme ≡ Named name raw
      → (behind (is_mark marks.Colon) ts >>= λ us. inner us >>= λ x. Some (record { name = name; value = x.0 }, x.1))
      ≡ Some y → FieldForm Inner (t ∷ ts) y.0 y.1
  field_parts t ts y name raw e r =
      let c = bind_some (behind (is_mark marks.Colon) ts) _ y r in
      let b = behind_some marks.Colon ts c.0 c.1 in
      rw b.whole (field_value t b.first c.0 y name raw e b.is c.2)

  field_sound : (ts : List Placed) (y : FieldTree × List Placed) → field_at inner ts ≡ Some y
      → FieldForm Inner ts y.0 y.1
  field_sound ts y e =
      let n = bind_some (token_at name_of ts) _ y e in
      let w = name_some ts n.0 n.1 in
      rw w.whole (field_parts w.first n.0.1 y n.0.0 w.raw w.is n.2)

  field_complete : (ts rest : List Placed) (x : FieldTree) → FieldForm Inner ts x rest
      → field_at inner ts ≡ Some (x, rest)
  field_complete _ _ _ (a_field word colon ts rest name raw value e f item) =
      rw (e, f, h.complete ts rest value item) refl

  field_shrinks : (ts rest : List Placed) (x : FieldTree) → FieldForm Inner ts x rest → length rest < length ts
  field_shrinks _ _ _ (a_field word colon ts rest name raw value e f item) = omega (arith, h.shrinks ts rest value item)

  field_opens : (ts rest : List Placed) (x : FieldTree) → FieldForm Inner ts x rest
      → behind (is_mark marks.CloseCurly) ts ≡ None
  field_opens _ _ _ (a_field word colon ts rest name raw value e f item) = rw e refl

  pub one_field : Joined (FieldForm Inner) (field_at inner)
  one_field = record { sound = field_sound; complete = field_complete; shrinks = field_shrinks }

  fields : Joined (CommaList marks.CloseCurly (FieldForm Inner)) (list_at marks.CloseCurly (field_at inner))
  fields = lists marks.CloseCurly refl (FieldForm Inner) (field_at inner) one_field field_opens

  form_shrinks : (ts rest : List Placed) (x : WrittenTree) → ValueForm Inner ts x rest → length rest < length ts
  form_shrinks _ _ _ (literal t rest x e) = omega arith
  form_shrinks _ _ _ (negative minus t rest size suffix decimal e f) = omega arith
  form_shrinks _ _ _ (referred star t rest text e f) = omega arith
  form_shrinks _ _ _ (unknown question t rest x e f) = omega arith
  form_shrinks _ _ _ (point and ts us rest mutable x e m item) =
      omega (arith, maybe_shrinks (is_word words.Mut) ts us mutable m, h.shrinks us rest x item)
  form_shrinks _ _ _ (unit opening closing rest e f) = omega arith
  form_shrinks _ _ _ (round opening closing ts rest x e item f) = omega (arith, h.shrinks ts (closing ∷ rest) x item)
  form_shrinks _ _ _ (tuple opening comma ts us rest first others e item f list) =
      omega (arith, h.shrinks ts (comma ∷ us) first item, parts.shrinks us rest others list)
  form_shrinks _ _ _ (row opening ts rest xs e list) = omega (arith, items.shrinks ts rest xs list)
  form_shrinks _ _ _ (unit_form ts rest name s a b) = names.shrinks ts rest name s
  form_shrinks _ _ _ (tuple_form ts us rest opening name xs s e list) =
      omega (arith, names.shrinks ts (opening ∷ us) name s, parts.shrinks us rest xs list)
  form_shrinks _ _ _ (brace_form ts us rest opening name fs s e list) =
      omega (arith, names.shrinks ts (opening ∷ us) name s, fields.shrinks us rest fs list)

  form_starts : (ts rest : List Placed) (x : WrittenTree) → ValueForm Inner ts x rest → Starts ts
  form_starts _ _ _ (literal t rest x e) = let f = literal_facts t.lexeme x e in
      (rw (f.mark marks.CloseRound) refl, rw (f.mark marks.CloseSquare) refl)
  form_starts _ _ _ (negative minus t rest size suffix decimal e f) = (rw e refl, rw e refl)
  form_starts _ _ _ (referred star t rest text e f) = (rw e refl, rw e refl)
  form_starts _ _ _ (unknown question t rest x e f) = (rw e refl, rw e refl)
  form_starts _ _ _ (point and ts us rest mutable x e m item) = (rw e refl, rw e refl)
  form_starts _ _ _ (unit opening closing rest e f) = (rw e refl, rw e refl)
  form_starts _ _ _ (round opening closing ts rest x e item f) = (rw e refl, rw e refl)
  form_starts _ _ _ (tuple opening comma ts us rest first others e item f list) = (rw e refl, rw e refl)
  form_starts _ _ _ (row opening ts rest xs e list) = (rw e refl, rw e refl)
  form_starts _ _ _ (unit_form ts rest name s a b) = let k = name_starts ts rest name s in
      (k.mark marks.CloseRound, k.mark marks.CloseSquare)
  form_starts _ _ _ (tuple_form ts us rest opening name xs s e list) = let k = name_starts ts (opening ∷ us) name s in
      (k.mark marks.CloseRound, k.mark marks.CloseSquare)
  form_starts _ _ _ (brace_form ts us rest opening name fs s e list) = let k = name_starts ts (opening ∷ us) name s in
      (k.mark marks.CloseRound, k.mark marks.CloseSquare)

  form_complete : (ts rest : List Placed) (x : WrittenTree) → ValueForm Inner ts x rest
      → value_form inner ts ≡ Some (x, rest)
  form_complete _ _ _ (literal t rest x e) =
      let f = literal_facts t.lexeme x e in
      rw (
        f.mark marks.OpenRound,
        f.mark marks.OpenSquare,
        f.mark marks.Ampersand,
        f.mark marks.Minus,
        f.mark marks.Star,
        f.mark marks.Question,
        f.read,
      ) refl
  form_complete _ _ _ (negative minus t rest size suffix decimal e f) = rw (e, f) refl
  form_complete _ _ _ (referred star t rest text e f) = rw (e, f) refl
  form_complete _ _ _ (unknown question t rest x e f) = rw (e, unknown_from t.lexeme x f) refl
  form_complete _ _ _ (point and ts us rest mutable x e m item) =
      rw (e, flag_complete (is_word words.Mut) ts us mutable m, h.complete us rest x item) refl
  form_complete _ _ _ (unit opening closing rest e f) = rw (e, f) refl
  form_complete _ _ _ (round opening closing ts rest x e item f) =
      rw (e, (starts _ _ _ item).0, h.complete ts (closing ∷ rest) x item, f) refl
  form_complete _ _ _ (tuple opening comma ts us rest first others e item f list) =
      rw (e, (starts _ _ _ item).0, h.complete ts (comma ∷ us) first item, f, parts.complete us rest others list) refl
  form_complete _ _ _ (row opening ts rest xs e list) = rw (e, items.complete ts rest xs list) refl
  form_complete _ _ _ (unit_form ts rest name s a b) =
      let k = name_starts ts rest name s in
      rw (
        k.mark marks.OpenRound,
        k.mark marks.OpenSquare,
        k.mark marks.Ampersand,
        k.mark marks.Minus,
        k.mark marks.Star,
        k.mark marks.Question,
        k.literal,
        names.complete ts rest name s,
        none_behind (is_mark marks.OpenRound) rest a,
        none_behind (is_mark marks.OpenCurly) rest b,
      ) refl
  form_complete _ _ _ (tuple_form ts us rest opening name xs s e list) =
      let k = name_starts ts (opening ∷ us) name s in
      rw (
        k.mark marks.OpenRound,
        k.mark marks.OpenSquare,
        k.mark marks.Ampersand,
        k.mark marks.Minus,
        k.mark marks.Star,
        k.mark marks.Question,
        k.literal,
        names.complete ts (opening ∷ us) name s,
        e,
        parts.complete us rest xs list,
      ) refl
  form_complete _ _ _ (brace_form ts us rest opening name fs s e list) =
      let k = name_starts ts (opening ∷ us) name s in
      rw (
        k.mark marks.OpenRound,
        k.mark marks.OpenSquare,
        k.mark marks.Ampersand,
        k.mark marks.Minus,
        k.mark marks.Star,
        k.mark marks.Question,
        k.literal,
        names.complete ts (opening ∷ us) name s,
        e,
        fields.complete us rest fs list,
      ) refl

  abbrev Found : List Placed → WrittenTree × List Placed → Type 0
  Found ts y = ValueForm Inner ts y.0 y.1

  round_sound : (t : Placed) (ts : List Placed) (y : WrittenTree × List Placed) → IsMark marks.OpenRound t
      → round_value inner ts ≡ Some y → Found (t ∷ ts) y
  round_sound t ts y e r =
      elim (either_some (behind (is_mark marks.CloseRound) ts) _ _ y r) [
        | inl a ↦ (let b = behind_some marks.CloseRound ts a.0 a.1 in
            given (ValueForm Inner) (t ∷ ts) _ y a.2 (rw b.whole (unit t b.first a.0 e b.is)))
        | inr o ↦ (
            let x = bind_some (inner ts) _ y o.1 in
            let item = h.sound ts x.0 x.1 in
            elim (either_some (behind (is_mark marks.CloseRound) x.0.1) _ _ y x.2) [
              | inl a ↦ (let b = behind_some marks.CloseRound x.0.1 a.0 a.1 in
                  given (ValueForm Inner) (t ∷ ts) _ y a.2 (round t b.first ts a.0 x.0.0 e (rw b.whole at item) b.is))
              | inr f ↦ (
                  let q = bind_some (behind (is_mark marks.Comma) x.0.1) _ y f.1 in
                  let b = behind_some marks.Comma x.0.1 q.0 q.1 in
                  let l = bind_some (list_at marks.CloseRound inner q.0) _ y q.2 in
                  given (ValueForm Inner) (t ∷ ts) _ y l.2 (tuple t b.first ts q.0 l.0.1 x.0.0 l.0.0 e
                  (rw b.whole at item) b.is (parts.sound q.0 l.0 l.1)))
            ])
      ]

  row_sound : (t : Placed) (ts : List Placed) (y : WrittenTree × List Placed) → IsMark marks.OpenSquare t
      → row_value inner ts ≡ Some y → Found (t ∷ ts) y
  row_sound t ts y e r =
      let l = bind_some (list_at marks.CloseSquare inner ts) _ y r in
      given (ValueForm Inner) (t ∷ ts) _ y l.2 (row t ts l.0.1 l.0.0 e (items.sound ts l.0 l.1))

  point_sound : (t : Placed) (ts : List Placed) (y : WrittenTree × List Placed) → IsMark marks.Ampersand t
      → point_value inner ts ≡ Some y → Found (t ∷ ts) y
  point_sound t ts y e r =
      let m = flag_at (is_word words.Mut) ts in
      let x = bind_some (inner m.1) _ y r in
      given (ValueForm Inner) (t ∷ ts) _ y x.2 (point t ts m.1 x.0.1 m.0 x.0.0 e (flag_sound (is_word words.Mut) ts)
      (h.sound m.1 x.0 x.1))

  negative_parts : (t u : Placed) (rest : List Placed) (x : WrittenTree) → IsMark marks.Minus t → IsNegated u.lexeme x
      → ValueForm Inner (t ∷ u ∷ rest) x rest
  negative_parts t u rest x e i = subst (λ w. ValueForm Inner (t ∷ u ∷ rest) w rest) (sym i.whole)
      (negative t u rest i.size i.suffix i.decimal e i.is)

  negative_sound : (t : Placed) (ts : List Placed) (y : WrittenTree × List Placed) → IsMark marks.Minus t
      → token_at negated_of ts ≡ Some y → Found (t ∷ ts) y
  negative_sound t ts y e r =
      let n = token_some negated_of ts y r in
      rw n.whole (negative_parts t n.first y.1 y.0 e (negated_to n.first.lexeme y.0 n.is))

  referred_parts : (t u : Placed) (rest : List Placed) (x : WrittenTree) → IsMark marks.Star t → IsReferred u.lexeme x
      → ValueForm Inner (t ∷ u ∷ rest) x rest
  referred_parts t u rest x e i = subst (λ w. ValueForm Inner (t ∷ u ∷ rest) w rest) (sym i.whole)
      (referred t u rest i.text e i.is)

  referred_sound : (t : Placed) (ts : List Placed) (y : WrittenTree × List Placed) → IsMark marks.Star t
      → token_at referred_of ts ≡ Some y → Found (t ∷ ts) y
  referred_sound t ts y e r =
      let n = token_some referred_of ts y r in
      rw n.whole (referred_parts t n.first y.1 y.0 e (referred_to n.first.lexeme y.0 n.is))

  unknown_sound : (t : Placed) (ts : List Placed) (y : WrittenTree × List Placed) → IsMark marks.Question t
      → token_at unknown_of ts ≡ Some y → Found (t ∷ ts) y
  unknown_sound t ts y e r =
      let n = token_some unknown_of ts y r in
      rw n.whole (unknown t n.first y.1 y.0 e (unknown_to n.first.lexeme y.0 n.is))

  named_sound : (ts : List Placed) (y : WrittenTree × List Placed) → form_value inner ts ≡ Some y → Found ts y
  named_sound ts y r =
      let n = bind_some (form_name_at ts) _ y r in
      let s = names.sound ts n.0 n.1 in
      elim (either_some (behind (is_mark marks.OpenRound) n.0.1) _ _ y n.2) [
        | inl a ↦ (
            let b = behind_some marks.OpenRound n.0.1 a.0 a.1 in
            let l = bind_some (list_at marks.CloseRound inner a.0) _ y a.2 in
            given (ValueForm Inner) ts _ y l.2 (tuple_form ts a.0 l.0.1 b.first n.0.0 l.0.0 (rw b.whole at s) b.is
            (parts.sound a.0 l.0 l.1)))
        | inr o ↦ elim (either_some (behind (is_mark marks.OpenCurly) n.0.1) _ _ y o.1) [
          | inl a ↦ (
              let b = behind_some marks.OpenCurly n.0.1 a.0 a.1 in
              let l = bind_some (list_at marks.CloseCurly (field_at inner) a.0) _ y a.2 in
              given (ValueForm Inner) ts _ y l.2 (brace_form ts a.0 l.0.1 b.first n.0.0 l.0.0 (rw b.whole at s) b.is
              (fields.sound a.0 l.0 l.1)))
          | inr p ↦ given (ValueForm Inner) ts _ y p.1
              (unit_form ts n.0.1 n.0.0 s (next_is_not (is_mark marks.OpenRound) n.0.1 o.0)
              (next_is_not (is_mark marks.OpenCurly) n.0.1 p.0))
        ]
      ]

  -- behind the marks
  plain_sound : (ts : List Placed) (y : WrittenTree × List Placed)
      → either (token_at literal_of ts) (λ x. Some x) (form_value inner ts) ≡ Some y → Found ts y
  plain_sound ts y r =
      elim (either_some (token_at literal_of ts) _ _ y r) [
        | inl a ↦ (let n = token_some literal_of ts a.0 a.1 in
            given (ValueForm Inner) ts _ y a.2 (rw n.whole
            (literal n.first a.0.1 a.0.0 (literal_to n.first.lexeme a.0.0 n.is))))
        | inr o ↦ named_sound ts y o.1
      ]

  form_sound : (ts : List Placed) (y : WrittenTree × List Placed) → value_form inner ts ≡ Some y → Found ts y
  form_sound ts y r =
      elim (either_some (behind (is_mark marks.OpenRound) ts) _ _ y r) [
        | inl a ↦ (let b = behind_some marks.OpenRound ts a.0 a.1 in rw b.whole (round_sound b.first a.0 y b.is a.2))
        | inr o ↦ elim (either_some (behind (is_mark marks.OpenSquare) ts) _ _ y o.1) [
          | inl a ↦ (let b = behind_some marks.OpenSquare ts a.0 a.1 in rw b.whole (row_sound b.first a.0 y b.is a.2))
          | inr p ↦ elim (either_some (behind (is_mark marks.Ampersand) ts) _ _ y p.1) [
            | inl a ↦ (let b = behind_some marks.Ampersand ts a.0 a.1 in
                rw b.whole (point_sound b.first a.0 y b.is a.2))
            | inr q ↦ elim (either_some (behind (is_mark marks.Minus) ts) _ _ y q.1) [
              | inl a ↦ (let b = behind_some marks.Minus ts a.0 a.1 in
                  rw b.whole (negative_sound b.first a.0 y b.is a.2))
              | inr s ↦ elim (either_some (behind (is_mark marks.Star) ts) _ _ y s.1) [
                | inl a ↦ (let b = behind_some marks.Star ts a.0 a.1 in
                    rw b.whole (referred_sound b.first a.0 y b.is a.2))
                | inr t ↦ elim (either_some (behind (is_mark marks.Question) ts) _ _ y t.1) [
                  | inl a ↦ (let b = behind_some marks.Question ts a.0 a.1 in
                      rw b.whole (unknown_sound b.first a.0 y b.is a.2))
                  | inr u ↦ plain_sound ts y u.1
                ]
              ]
            ]
          ]
        ]
      ]

-- what is known at one number of levels
pub record Known (n : ℕ) : Type 0 where
  pub joined : Joined (SpellsValue n) (value_at n)
  pub starts : (ts rest : List Placed) (x : WrittenTree) → SpellsValue n ts x rest → Starts ts

-- at each number of levels
pub known_values : (n : ℕ) → Known n
unfolding value_at SpellsValue
known_values zero = record {
  joined = record {
    sound = λ ts y e. absurd cc;
    complete = λ ts rest x f. absurd f;
    shrinks = λ ts rest x f. absurd f;
  };
  starts = λ ts rest x f. absurd f;
}
known_values (suc n) = let k = known_values n in record {
  joined = record {
    sound = form_sound (SpellsValue n) (value_at n) k.joined k.starts;
    complete = form_complete (SpellsValue n) (value_at n) k.joined k.starts;
    shrinks = form_shrinks (SpellsValue n) (value_at n) k.joined k.starts;
  };
  starts = form_starts (SpellsValue n) (value_at n) k.joined k.starts;
}

pub values_shrink : (n : ℕ) → Shrinks (value_at n)
values_shrink n = read_shrinks (SpellsValue n) (value_at n) (known_values n).joined

pub fields_shrink : (n : ℕ) → Shrinks (field_at (value_at n))
fields_shrink n = read_shrinks (FieldForm (SpellsValue n)) (field_at (value_at n))
    (one_field (SpellsValue n) (value_at n) (known_values n).joined (known_values n).starts)

-- ---- no value begins with `mut`

literal_no_mut : (l : Lexeme) (x : WrittenTree) → IsLiteral l x → is_word words.Mut l ≡ false
literal_no_mut _ _ a_true = refl
literal_no_mut _ _ a_false = refl
literal_no_mut _ _ (a_char c) = refl
literal_no_mut _ _ (a_byte b) = refl
literal_no_mut _ _ (an_int size suffix decimal) = refl
literal_no_mut _ _ (a_str text) = refl

name_no_mut : (ts rest : List Placed) (x : NameTree) → SpellsName ts x rest → NextIsNot (is_word words.Mut) ts
name_no_mut _ _ _ (plain_name word rest name raw e n) = rw e refl
name_no_mut _ _ _ (variant_name first mark second rest owner name raw raw_too e f g) = rw e refl

form_no_mut : (Inner : Spelling WrittenTree) (ts rest : List Placed) (x : WrittenTree) → ValueForm Inner ts x rest
    → NextIsNot (is_word words.Mut) ts
form_no_mut Inner _ _ _ (literal t rest x e) = literal_no_mut t.lexeme x e
form_no_mut Inner _ _ _ (negative minus t rest size suffix decimal e f) = rw e refl
form_no_mut Inner _ _ _ (referred star t rest text e f) = rw e refl
form_no_mut Inner _ _ _ (unknown question t rest x e f) = rw e refl
form_no_mut Inner _ _ _ (point and ts us rest mutable x e m item) = rw e refl
form_no_mut Inner _ _ _ (unit opening closing rest e f) = rw e refl
form_no_mut Inner _ _ _ (round opening closing ts rest x e item f) = rw e refl
form_no_mut Inner _ _ _ (tuple opening comma ts us rest first others e item f list) = rw e refl
form_no_mut Inner _ _ _ (row opening ts rest xs e list) = rw e refl
form_no_mut Inner _ _ _ (unit_form ts rest name s a b) = name_no_mut ts rest name s
form_no_mut Inner _ _ _ (tuple_form ts us rest opening name xs s e list) = name_no_mut ts (opening ∷ us) name s
form_no_mut Inner _ _ _ (brace_form ts us rest opening name fs s e list) = name_no_mut ts (opening ∷ us) name s

pub no_mut : (n : ℕ) (ts rest : List Placed) (x : WrittenTree) → SpellsValue n ts x rest
    → NextIsNot (is_word words.Mut) ts
unfolding SpellsValue
no_mut zero ts rest x s = absurd s
no_mut (suc n) ts rest x s = form_no_mut (SpellsValue n) ts rest x s

-- behind an opening square bracket
pub row_reads : (n : ℕ) (ts us : List Placed) → 0 < n → None ≡ behind (is_mark marks.OpenRound) ts
    → Some us ≡ behind (is_mark marks.OpenSquare) ts → value_at n ts ≡ row_value (value_at (n - 1)) us
unfolding value_at
row_reads zero ts us lt a b = absurd (omega arith)
row_reads (suc n) ts us lt a b = let k : suc n - 1 ≡ n = omega arith in rw (k, ← a, ← b) refl

-- A type that is read is spelled so, and one that is spelled so is read.
use Rattle.std.proofs.Common.{◌≡◌, ℕ, zero, suc, ◌<◌, Bool, true, List, [], ◌∷◌, ◌++◌, length, Option, Some, None, refl, ap, subst, ◌∙◌, arith, inl, inr}
use Rattle.decl_lexer.specs.declared.marks.Mark.TheVariants as marks
use Rattle.decl_lexer.specs.declared.words.Word.TheVariants as words
use Rattle.decl_lexer.specs.Begins.{Lexeme, Named, Lifetime, Integer}
use Rattle.decl_lexer.specs.Lexing.{Placed}
use Rattle.decl_syntax.specs.Units.{behind, is_mark, is_word, is_lifetime, flag_at, token_at, name_of, integer_of}
use Rattle.decl_syntax.specs.Types as trees
use Rattle.decl_syntax.specs.Types.{TypeTree, types_from}
use Rattle.decl_syntax.specs.Grammar.{Spelling, IsMark, CommaList}
use Rattle.decl_syntax.specs.TypeGrammar.{ArgumentForm, lifetime, argument, somes, TypeForm, never, unit, round, tuple, point, slice, array, named, applied, SpellsType}
use Rattle.decl_syntax.specs.declared.stop.Stop.{Stop}
use Rattle.decl_syntax.specs.declared.stop.Stop.TheVariants as stops
use Rattle.decl_syntax.specs.Reading.{Read, Fails, list_at}
use Rattle.decl_syntax.specs.TypeReading.{argument_at, arguments_at, kept, round_type, square_type, point_type, named_type, type_form, type_at}
use Rattle.decl_syntax.proofs.ListLemmas.{Shrinks}
use Rattle.decl_syntax.proofs.Joined.{some_is, bind_some, either_some, map_some, given, behind_first, behind_some, none_behind, next_is_not, token_some, flag_sound, flag_complete, maybe_shrinks, Joined, read_shrinks, lists}

-- what a type does not begin with
abbrev pub Starts : List Placed → Type 0
Starts ts = (behind (is_mark marks.CloseRound) ts ≡ None) × (behind (is_mark marks.Greater) ts ≡ None) × (behind is_lifetime ts ≡ None)

pub lifetime_only : (l : Lexeme) → is_lifetime l ≡ true → l ≡ Lifetime
lifetime_only Lifetime e = refl
lifetime_only _ e = absurd cc

-- a name that comes first
pub record HeadsName (name : List ℕ) (ts rest : List Placed) : Type 0 where
  pub first : Placed
  pub raw : Bool
  pub is : first.lexeme ≡ Named name raw
  pub whole : ts ≡ first ∷ rest

name_lexeme : (l : Lexeme) (name : List ℕ) → name_of l ≡ Some name → (raw : Bool) × (l ≡ Named name raw)
name_lexeme (Named text raw) name e = (raw, ap (λ x. Named x raw) (some_is text name e))
name_lexeme _ name e = absurd cc

pub name_some : (ts : List Placed) (y : List ℕ × List Placed) → token_at name_of ts ≡ Some y → HeadsName y.0 ts y.1
name_some ts y e =
    let m = token_some name_of ts y e in
    let n = name_lexeme m.first.lexeme y.0 m.is in
    record { first = m.first; raw = n.0; is = n.1; whole = m.whole }

pub record IsInteger (l : Lexeme) (n : Option ℕ × List ℕ) : Type 0 where
  pub decimal : Bool
  pub is : l ≡ Integer n.0 n.1 decimal

integer_lexeme : (l : Lexeme) (n : Option ℕ × List ℕ) → integer_of l ≡ Some n → IsInteger l n
integer_lexeme (Integer value suffix decimal) n e = subst (λ m. IsInteger (Integer value suffix decimal) m) (some_is _ _ e) (record { decimal = decimal; is = refl })
integer_lexeme _ n e = absurd cc

module _ (Inner : Spelling TypeTree) (inner : List Placed → Read TypeTree) (h : Joined Inner inner) (starts : (ts rest : List Placed) (x : TypeTree) → Inner ts x rest → Starts ts) where
  parts : Joined (CommaList marks.CloseRound Inner) (list_at marks.CloseRound inner)
  parts = lists marks.CloseRound refl Inner inner h (λ ts rest x i. (starts ts rest x i).0)

  argument_sound : (ts : List Placed) (y : Option TypeTree × List Placed) → argument_at inner ts ≡ Some y → ArgumentForm Inner ts y.0 y.1
  argument_sound ts y e =
      elim (either_some (behind is_lifetime ts) _ _ y e) [
        | inl a ↦ (let b = behind_first is_lifetime ts a.0 a.1 in given (ArgumentForm Inner) ts _ y a.2 (rw b.whole (lifetime b.first a.0 (lifetime_only b.first.lexeme b.is))))
        | inr o ↦ (let r = bind_some (inner ts) _ y o.1 in given (ArgumentForm Inner) ts _ y r.2 (argument ts r.0.1 r.0.0 (h.sound ts r.0 r.1)))
      ]

  argument_complete : (ts rest : List Placed) (x : Option TypeTree) → ArgumentForm Inner ts x rest → argument_at inner ts ≡ Some (x, rest)
  argument_complete _ _ _ (lifetime t rest e) = rw e refl
  argument_complete _ _ _ (argument ts rest x i) = rw ((starts ts rest x i).2, h.complete ts rest x i) refl

  argument_shrinks : (ts rest : List Placed) (x : Option TypeTree) → ArgumentForm Inner ts x rest → length rest < length ts
  argument_shrinks _ _ _ (lifetime t rest e) = omega arith
  argument_shrinks _ _ _ (argument ts rest x i) = h.shrinks ts rest x i

  argument_opens : (ts rest : List Placed) (x : Option TypeTree) → ArgumentForm Inner ts x rest → behind (is_mark marks.Greater) ts ≡ None
  argument_opens _ _ _ (lifetime t rest e) = rw e refl
  argument_opens _ _ _ (argument ts rest x i) = (starts ts rest x i).1

  pub one_argument : Joined (ArgumentForm Inner) (argument_at inner)
  one_argument = record { sound = argument_sound; complete = argument_complete; shrinks = argument_shrinks }

  args : Joined (CommaList marks.Greater (ArgumentForm Inner)) (list_at marks.Greater (argument_at inner))
  args = lists marks.Greater refl (ArgumentForm Inner) (argument_at inner) one_argument argument_opens

  form_shrinks : (ts rest : List Placed) (x : TypeTree) → TypeForm Inner ts x rest → length rest < length ts
  form_shrinks _ _ _ (round opening closing ts rest x e item f) = omega (arith, h.shrinks ts (closing ∷ rest) x item)
  form_shrinks _ _ _ (tuple opening comma ts us rest first others e item f list) = omega (arith, h.shrinks ts (comma ∷ us) first item, parts.shrinks us rest others list)
  form_shrinks _ _ _ (point and ts us vs rest life mutable x e l m item) = omega (arith, maybe_shrinks is_lifetime ts us life l, maybe_shrinks (is_word words.Mut) us vs mutable m, h.shrinks vs rest x item)
  form_shrinks _ _ _ (slice opening closing ts rest x e item f) = omega (arith, h.shrinks ts (closing ∷ rest) x item)
  form_shrinks _ _ _ (array opening semi number closing ts rest x len suffix decimal e item f g i) = omega (arith, h.shrinks ts (semi ∷ number ∷ closing ∷ rest) x item)
  form_shrinks _ _ _ (applied word less ts rest name raw xs e f list) = omega (arith, args.shrinks ts rest xs list)
  form_shrinks _ _ _ _ = omega arith

  form_starts : (ts rest : List Placed) (x : TypeTree) → TypeForm Inner ts x rest → Starts ts
  form_starts _ _ _ (never bang rest e) = (rw e refl, rw e refl, rw e refl)
  form_starts _ _ _ (unit opening closing rest e f) = (rw e refl, rw e refl, rw e refl)
  form_starts _ _ _ (round opening closing ts rest x e item f) = (rw e refl, rw e refl, rw e refl)
  form_starts _ _ _ (tuple opening comma ts us rest first others e item f list) = (rw e refl, rw e refl, rw e refl)
  form_starts _ _ _ (point and ts us vs rest life mutable x e l m item) = (rw e refl, rw e refl, rw e refl)
  form_starts _ _ _ (slice opening closing ts rest x e item f) = (rw e refl, rw e refl, rw e refl)
  form_starts _ _ _ (array opening semi number closing ts rest x len suffix decimal e item f g i) = (rw e refl, rw e refl, rw e refl)
  form_starts _ _ _ (named word rest name raw e n) = (rw e refl, rw e refl, rw e refl)
  form_starts _ _ _ (applied word less ts rest name raw xs e f list) = (rw e refl, rw e refl, rw e refl)

  form_complete : (ts rest : List Placed) (x : TypeTree) → TypeForm Inner ts x rest → type_form inner ts ≡ Some (x, rest)
  form_complete _ _ _ (never bang rest e) = rw e refl
  form_complete _ _ _ (unit opening closing rest e f) = rw (e, f) refl
  form_complete _ _ _ (round opening closing ts rest x e item f) = rw (e, (starts _ _ _ item).0, h.complete ts (closing ∷ rest) x item, f) refl
  form_complete _ _ _ (tuple opening comma ts us rest first others e item f list) =
      rw (e, (starts _ _ _ item).0, h.complete ts (comma ∷ us) first item, f, parts.complete us rest others list) refl
  form_complete _ _ _ (point and ts us vs rest life mutable x e l m item) =
      rw (e, flag_complete is_lifetime ts us life l, flag_complete (is_word words.Mut) us vs mutable m, h.complete vs rest x item) refl
  form_complete _ _ _ (slice opening closing ts rest x e item f) = rw (e, h.complete ts (closing ∷ rest) x item, f) refl
  form_complete _ _ _ (array opening semi number closing ts rest x len suffix decimal e item f g i) = rw (e, h.complete ts (semi ∷ number ∷ closing ∷ rest) x item, f, g, i) refl
  form_complete _ _ _ (named word rest name raw e n) = rw (e, none_behind (is_mark marks.Less) rest n) refl
  form_complete _ _ _ (applied word less ts rest name raw xs e f list) = rw (e, f, args.complete ts rest xs list) refl

  abbrev Found : List Placed → TypeTree × List Placed → Type 0
  Found ts y = TypeForm Inner ts y.0 y.1

  round_sound : (t : Placed) (ts : List Placed) (y : TypeTree × List Placed) → IsMark marks.OpenRound t → round_type inner ts ≡ Some y → Found (t ∷ ts) y
  round_sound t ts y e r =
      elim (either_some (behind (is_mark marks.CloseRound) ts) _ _ y r) [
        | inl a ↦ (let b = behind_some marks.CloseRound ts a.0 a.1 in given (TypeForm Inner) (t ∷ ts) _ y a.2 (rw b.whole (unit t b.first a.0 e b.is)))
        | inr o ↦ (
            let x = bind_some (inner ts) _ y o.1 in
            let item = h.sound ts x.0 x.1 in
            elim (either_some (behind (is_mark marks.CloseRound) x.0.1) _ _ y x.2) [
              | inl a ↦ (let b = behind_some marks.CloseRound x.0.1 a.0 a.1 in given (TypeForm Inner) (t ∷ ts) _ y a.2 (round t b.first ts a.0 x.0.0 e (rw b.whole at item) b.is))
              | inr f ↦ (
                  let q = bind_some (behind (is_mark marks.Comma) x.0.1) _ y f.1 in
                  let b = behind_some marks.Comma x.0.1 q.0 q.1 in
                  let l = bind_some (list_at marks.CloseRound inner q.0) _ y q.2 in
                  given (TypeForm Inner) (t ∷ ts) _ y l.2 (tuple t b.first ts q.0 l.0.1 x.0.0 l.0.0 e (rw b.whole at item) b.is (parts.sound q.0 l.0 l.1)))
            ])
      ]

  square_sound : (t : Placed) (ts : List Placed) (y : TypeTree × List Placed) → IsMark marks.OpenSquare t → square_type inner ts ≡ Some y → Found (t ∷ ts) y
  square_sound t ts y e r =
      let x = bind_some (inner ts) _ y r in
      let item = h.sound ts x.0 x.1 in
      elim (either_some (behind (is_mark marks.CloseSquare) x.0.1) _ _ y x.2) [
        | inl a ↦ (let b = behind_some marks.CloseSquare x.0.1 a.0 a.1 in given (TypeForm Inner) (t ∷ ts) _ y a.2 (slice t b.first ts a.0 x.0.0 e (rw b.whole at item) b.is))
        | inr f ↦ (
            let q = bind_some (behind (is_mark marks.Semicolon) x.0.1) _ y f.1 in
            let b = behind_some marks.Semicolon x.0.1 q.0 q.1 in
            let n = bind_some (token_at integer_of q.0) _ y q.2 in
            let i = token_some integer_of q.0 n.0 n.1 in
            let j = integer_lexeme i.first.lexeme n.0.0 i.is in
            let d = bind_some (behind (is_mark marks.CloseSquare) n.0.1) _ y n.2 in
            let c = behind_some marks.CloseSquare n.0.1 d.0 d.1 in
            let whole : x.0.1 ≡ b.first ∷ i.first ∷ c.first ∷ d.0 = b.whole ∙ ap (λ us. b.first ∷ us) (i.whole ∙ ap (λ us. i.first ∷ us) c.whole) in
            given (TypeForm Inner) (t ∷ ts) _ y d.2 (array t b.first i.first c.first ts d.0 x.0.0 n.0.0.0 n.0.0.1 j.decimal e (rw whole at item) b.is j.is c.is))
      ]

  point_sound : (t : Placed) (ts : List Placed) (y : TypeTree × List Placed) → IsMark marks.Ampersand t → point_type inner ts ≡ Some y → Found (t ∷ ts) y
  point_sound t ts y e r =
      let us = (flag_at is_lifetime ts).1 in
      let m = flag_at (is_word words.Mut) us in
      let x = bind_some (inner m.1) _ y r in
      given (TypeForm Inner) (t ∷ ts) _ y x.2 (point t ts us m.1 x.0.1 (flag_at is_lifetime ts).0 m.0 x.0.0 e (flag_sound is_lifetime ts) (flag_sound (is_word words.Mut) us) (h.sound m.1 x.0 x.1))

  named_sound : (t : Placed) (ts : List Placed) (y : TypeTree × List Placed) (name : List ℕ) (raw : Bool) → t.lexeme ≡ Named name raw → named_type inner name ts ≡ Some y → Found (t ∷ ts) y
  named_sound t ts y name raw e r =
      elim (either_some (behind (is_mark marks.Less) ts) _ _ y r) [
        | inl a ↦ (
            let b = behind_some marks.Less ts a.0 a.1 in
            let x = bind_some (arguments_at inner a.0) _ y a.2 in
            let l = map_some (λ xs. (somes xs.0, xs.1)) (list_at marks.Greater (argument_at inner) a.0) x.0 x.1 in
            let spelled : Found (t ∷ b.first ∷ a.0) (trees.Named name (types_from (somes l.0.0)), l.0.1) = applied t b.first a.0 l.0.1 name raw l.0.0 e b.is (args.sound a.0 l.0 l.1) in
            let whole : Found (t ∷ ts) (trees.Named name (types_from (somes l.0.0)), l.0.1) = rw b.whole spelled in
            given (TypeForm Inner) (t ∷ ts) _ y x.2 (subst (λ w. Found (t ∷ ts) (trees.Named name (types_from w.0), w.1)) l.2 whole))
        | inr o ↦ given (TypeForm Inner) (t ∷ ts) _ y o.1 (named t ts name raw e (next_is_not (is_mark marks.Less) ts o.0))
      ]

  form_sound : (ts : List Placed) (y : TypeTree × List Placed) → type_form inner ts ≡ Some y → Found ts y
  form_sound ts y r =
      elim (either_some (behind (is_mark marks.Bang) ts) _ _ y r) [
        | inl a ↦ (let b = behind_some marks.Bang ts a.0 a.1 in given (TypeForm Inner) ts _ y a.2 (rw b.whole (never b.first a.0 b.is)))
        | inr o ↦ elim (either_some (behind (is_mark marks.OpenRound) ts) _ _ y o.1) [
          | inl a ↦ (let b = behind_some marks.OpenRound ts a.0 a.1 in rw b.whole (round_sound b.first a.0 y b.is a.2))
          | inr p ↦ elim (either_some (behind (is_mark marks.OpenSquare) ts) _ _ y p.1) [
            | inl a ↦ (let b = behind_some marks.OpenSquare ts a.0 a.1 in rw b.whole (square_sound b.first a.0 y b.is a.2))
            | inr q ↦ elim (either_some (behind (is_mark marks.Ampersand) ts) _ _ y q.1) [
              | inl a ↦ (let b = behind_some marks.Ampersand ts a.0 a.1 in rw b.whole (point_sound b.first a.0 y b.is a.2))
              | inr s ↦ (
                  let n = bind_some (token_at name_of ts) _ y s.1 in
                  let w = name_some ts n.0 n.1 in
                  rw w.whole (named_sound w.first n.0.1 y n.0.0 w.raw w.is n.2))
            ]
          ]
        ]
      ]

-- what is known at one number of levels
pub record Known (n : ℕ) : Type 0 where
  pub joined : Joined (SpellsType n) (type_at n)
  pub starts : (ts rest : List Placed) (x : TypeTree) → SpellsType n ts x rest → Starts ts

-- at each number of levels
pub known_types : (n : ℕ) → Known n
unfolding type_at SpellsType
known_types zero = record {
  joined = record { sound = λ ts y e. absurd cc; complete = λ ts rest x f. absurd f; shrinks = λ ts rest x f. absurd f };
  starts = λ ts rest x f. absurd f;
}
known_types (suc n) = let k = known_types n in record {
  joined = record {
    sound = form_sound (SpellsType n) (type_at n) k.joined k.starts;
    complete = form_complete (SpellsType n) (type_at n) k.joined k.starts;
    shrinks = form_shrinks (SpellsType n) (type_at n) k.joined k.starts;
  };
  starts = form_starts (SpellsType n) (type_at n) k.joined k.starts;
}

pub types_shrink : (n : ℕ) → Shrinks (type_at n)
types_shrink n = read_shrinks (SpellsType n) (type_at n) (known_types n).joined

pub arguments_shrink : (n : ℕ) → Shrinks (argument_at (type_at n))
arguments_shrink n = read_shrinks (ArgumentForm (SpellsType n)) (argument_at (type_at n)) (one_argument (SpellsType n) (type_at n) (known_types n).joined (known_types n).starts)

pub somes_push : {A : Type 0} (xs : List (Option A)) (x : Option A) → somes (xs ++ x ∷ []) ≡ somes xs ++ somes (x ∷ [])
somes_push [] x = refl
somes_push (None ∷ xs) x = somes_push xs x
somes_push (Some y ∷ xs) x = ap (λ ys. y ∷ ys) (somes_push xs x)

pub arguments_stuck : (e : Stop) (read : Read (List (Option TypeTree))) → Fails e read → Fails e (kept read)
arguments_stuck stops.Memory read f = tt
arguments_stuck stops.Syntax read f = rw f refl

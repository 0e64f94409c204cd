-- Attributes and names that are read are spelled so, and those that are spelled so are read.
use Rattle.std.proofs.Common.{◌≡◌, ℕ, ◌<◌, ◌≤◌, Bool, List, ◌∷◌, length, Option, Some, None, true, refl, arith, inl, inr}
use denote.Enum.Bare.{true_same}
use Rattle.decl_lexer.specs.declared.marks.Mark.TheVariants as marks
use Rattle.decl_lexer.specs.declared.words.Word.{Word}
use Rattle.decl_lexer.specs.contracts.words.Word as word_contract
use Rattle.decl_lexer.specs.Begins.{Keyword, Named}
use Rattle.decl_lexer.specs.Lexing.{Placed}
use Rattle.decl_syntax.specs.Patterns.{AttrTree}
use Rattle.decl_syntax.specs.Units.{behind, is_mark, is_word, token_at, name_of}
use Rattle.decl_syntax.specs.Grammar.{Spelling, IsMark, CommaList}
use Rattle.decl_syntax.specs.Runs.{SpellsAttribute, SpellsAttributes}
use Rattle.decl_syntax.specs.Reading.{Read}
use Rattle.decl_syntax.specs.RunReading.{attribute_at}
use Rattle.decl_syntax.proofs.ListLemmas.{Shrinks}
use Rattle.decl_syntax.proofs.Joined.{bind_some, either_some, given, behind_some, Joined, read_shrinks, lists, many_shrinks}
use Rattle.decl_syntax.proofs.RunLaws.{attributes}
use Rattle.decl_syntax.proofs.TypeLaws.{name_some}
use Rattle.decl_parser.specs.DeclarationGrammar.{SpellsName, a_name, SpellsNames, all_names, some_names}
use Rattle.decl_parser.specs.DeclarationReading.{name_list_at, names_at}

-- ---- attributes

pub attributes_within : (ts rest : List Placed) (xs : List AttrTree) → SpellsAttributes ts xs rest → length rest ≤ length ts
attributes_within ts rest xs s = many_shrinks marks.Hash SpellsAttribute attribute_at attributes ts rest xs s

-- what joins a relation and a reading of something that may be missing
pub record Within {A : Type 0} (P : Spelling A) (read : List Placed → Read A) : Type 0 where
  pub sound : (ts : List Placed) (y : A × List Placed) → read ts ≡ Some y → P ts y.0 y.1
  pub complete : (ts rest : List Placed) (x : A) → P ts x rest → read ts ≡ Some (x, rest)
  pub within : (ts rest : List Placed) (x : A) → P ts x rest → length rest ≤ length ts

-- ---- names

pub word_it : (m : Word) → is_word m (Keyword m) ≡ true
word_it m = true_same word_contract.the_type m m refl

name_by : (word : Placed) (ts rest : List Placed) (name : List ℕ) (raw : Bool) → ts ≡ word ∷ rest → word.lexeme ≡ Named name raw → SpellsName ts name rest
name_by word ts rest name raw w e = rw w (a_name word rest name raw e)

name_sound : (ts : List Placed) (y : List ℕ × List Placed) → token_at name_of ts ≡ Some y → SpellsName ts y.0 y.1
name_sound ts y e = let n = name_some ts y e in name_by n.first ts y.1 y.0 n.raw n.whole n.is

name_complete : (ts rest : List Placed) (name : List ℕ) → SpellsName ts name rest → token_at name_of ts ≡ Some (name, rest)
name_complete _ _ _ (a_name word rest name raw e) = rw e refl

name_shrinks : (ts rest : List Placed) (name : List ℕ) → SpellsName ts name rest → length rest < length ts
name_shrinks _ _ _ (a_name word rest name raw e) = omega arith

name_opens : (ts rest : List Placed) (name : List ℕ) → SpellsName ts name rest → behind (is_mark marks.CloseCurly) ts ≡ None
name_opens _ _ _ (a_name word rest name raw e) = rw e refl

pub names : Joined SpellsName (token_at name_of)
names = record { sound = name_sound; complete = name_complete; shrinks = name_shrinks }

pub names_shrink : Shrinks (token_at name_of)
names_shrink = read_shrinks SpellsName (token_at name_of) names

name_lists : Joined (CommaList marks.CloseCurly SpellsName) name_list_at
unfolding name_list_at
name_lists = lists marks.CloseCurly refl SpellsName (token_at name_of) names name_opens

all_by : (star : Placed) (ts rest : List Placed) → ts ≡ star ∷ rest → IsMark marks.Star star → SpellsNames ts None rest
all_by star ts rest w e = rw w (all_names star rest e)

some_by : (opening : Placed) (ts us rest : List Placed) (xs : List (List ℕ)) → ts ≡ opening ∷ us → IsMark marks.OpenCurly opening → CommaList marks.CloseCurly SpellsName us xs rest → SpellsNames ts (Some xs) rest
some_by opening ts us rest xs w e list = rw w (some_names opening us rest xs e list)

listed_sound : (ts : List Placed) (y : Option (List (List ℕ)) × List Placed) → names_at ts ≡ Some y → SpellsNames ts y.0 y.1
unfolding names_at
listed_sound ts y e =
    elim (either_some (behind (is_mark marks.Star) ts) _ _ y e) [
      | inl a ↦ (let b = behind_some marks.Star ts a.0 a.1 in given SpellsNames ts _ y a.2 (all_by b.first ts a.0 b.whole b.is))
      | inr o ↦ (
          let q = bind_some (behind (is_mark marks.OpenCurly) ts) _ y o.1 in
          let b = behind_some marks.OpenCurly ts q.0 q.1 in
          let x = bind_some (name_list_at q.0) _ y q.2 in
          given SpellsNames ts _ y x.2 (some_by b.first ts q.0 x.0.1 x.0.0 b.whole b.is (name_lists.sound q.0 x.0 x.1)))
    ]

listed_complete : (ts rest : List Placed) (x : Option (List (List ℕ))) → SpellsNames ts x rest → names_at ts ≡ Some (x, rest)
unfolding names_at
listed_complete _ _ _ (all_names star rest e) = rw e refl
listed_complete _ _ _ (some_names opening ts rest xs e list) = rw (e, name_lists.complete ts rest xs list) refl

listed_shrinks : (ts rest : List Placed) (x : Option (List (List ℕ))) → SpellsNames ts x rest → length rest < length ts
listed_shrinks _ _ _ (all_names star rest e) = omega arith
listed_shrinks _ _ _ (some_names opening ts rest xs e list) = omega (arith, name_lists.shrinks ts rest xs list)

pub listed : Joined SpellsNames names_at
listed = record { sound = listed_sound; complete = listed_complete; shrinks = listed_shrinks }

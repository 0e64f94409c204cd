-- A context seen through another: the types of the one stand for types of the other, one to one, and what is told of a
-- type is told of what it stands for (our own choice). The laws of a context carry over along such a view.
use Rattle.std.specs.Prelude.{◌≡◌, ◌<◌, ℕ, Bool, IsTrue}
use Rattle.match_model.specs.Values.{MValue}
use Rattle.match_model.specs.Constructors.{MShape, MCtor, RowCtor, Elementary, elementary_ctor, is_of_set, belongs}
use Rattle.match_model.specs.Contexts.{Context}
use Rattle.match_model.specs.ContextLaws.{parts_count, ValuesLaw, PartsLaw, EmptyLaw, UnsureLaw}

-- the context `cy` is `cx` seen through `f`: sets, arities and parts agree, parts of its types are its types, and no two
-- of its types stand for one
pub record View {S T : Type 0} (f : S → T) (IsTypeS : S → Type 0) (IsType : T → Type 0)
    (cy : Context S) (cx : Context T) : Type 0 where
  pub set : (s : S) → cx.set_of (f s) ≡ cy.set_of s
  pub arity : (c : MCtor) (s : S) → cx.arity c (f s) ≡ cy.arity c s
  pub sub : (c : MCtor) (s : S) (i : ℕ) → cx.sub c (f s) i ≡ f (cy.sub c s i)
  pub is_type : (s : S) → IsTypeS s → IsType (f s)
  pub part_type : (s : S) (e : Elementary) (i : ℕ) → IsTypeS s → IsTrue (is_of_set (cy.set_of s) e) →
      i < parts_count cy s e → IsTypeS (cy.sub (elementary_ctor e) s i)
  pub item_type : (s : S) (r : MShape) (i : ℕ) → IsTypeS s → IsTrue (belongs (cy.set_of s) (RowCtor r)) →
      IsTypeS (cy.sub (RowCtor r) s i)
  pub one : (a b : S) → IsTypeS a → IsTypeS b → f a ≡ f b → a ≡ b

-- the values of a type are those of what it stands for
abbrev pub Seen : {S T : Type 0} → (f : S → T) → (IsValue : T → Bool → MValue → Type 0) → S → Bool → MValue → Type 0
Seen f IsValue s sure v = IsValue (f s) sure v

-- the things that pass a test
abbrev pub Passing : {A : Type 0} → (A → Bool) → A → Type 0
Passing test a = IsTrue (test a)

-- the values of a type that pass a test
abbrev pub ValuesPassing : {T : Type 0} → (T → Bool → MValue → Bool) → T → Bool → MValue → Type 0
ValuesPassing test t sure v = IsTrue (test t sure v)

-- the four laws of a context carry over along a view, where tests tell types and values
pub record LawsAreCarried (S T : Type 0) : Type 0 where
  pub values : (f : S → T) (is_type_s : S → Bool) (is_type : T → Bool) (is_value : T → Bool → MValue → Bool)
      (cy : Context S) (cx : Context T) →
      View f (Passing is_type_s) (Passing is_type) cy cx → ValuesLaw (Passing is_type) (ValuesPassing is_value) cx →
      ValuesLaw (Passing is_type_s) (Seen f (ValuesPassing is_value)) cy
  pub parts : (f : S → T) (is_type_s : S → Bool) (is_type : T → Bool) (is_value : T → Bool → MValue → Bool)
      (cy : Context S) (cx : Context T) →
      View f (Passing is_type_s) (Passing is_type) cy cx → PartsLaw (Passing is_type) (ValuesPassing is_value) cx →
      PartsLaw (Passing is_type_s) (Seen f (ValuesPassing is_value)) cy
  pub empty : (f : S → T) (is_type_s : S → Bool) (is_type : T → Bool) (is_value : T → Bool → MValue → Bool)
      (cy : Context S) (cx : Context T) (is_empty : T → Bool) (variant_empty : T → ℕ → Bool) →
      View f (Passing is_type_s) (Passing is_type) cy cx →
      EmptyLaw (Passing is_type) (ValuesPassing is_value) cx is_empty variant_empty →
      EmptyLaw (Passing is_type_s) (Seen f (ValuesPassing is_value)) cy (λ s. is_empty (f s)) (λ s k. variant_empty (f s) k)
  pub unsure : (f : S → T) (is_type_s : S → Bool) (is_type : T → Bool) (is_value : T → Bool → MValue → Bool)
      (cy : Context S) (cx : Context T) →
      View f (Passing is_type_s) (Passing is_type) cy cx → UnsureLaw (Passing is_type) (ValuesPassing is_value) →
      UnsureLaw (Passing is_type_s) (Seen f (ValuesPassing is_value))

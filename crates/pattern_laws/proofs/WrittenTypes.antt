-- What a written type stands for is a type of the program, whichever rules it breaks: one that breaks a rule is opaque.
use Rattle.std.proofs.Common.{◌≡◌, ℕ, ◌<◌, ◌^◌, suc, Bool, true, false, ◌&&◌, List, [], ◌∷◌, map, length, Option, Some, None, slice_get, get_or, refl, sym, ap, ◌∙◌, arith}
use Rattle.std.specs.Prelude.{nat_eq, nat_le, nat_lt, position, option_map, if◌then◌else◌}
use Rattle.std.specs.List.{list_all}
use Rattle.std.specs.Str.{bytes_eq}
use Rattle.std.proofs.lemmas.Bool.Decides.{nat_tests}
use Rattle.std.proofs.lemmas.List.Quantifiers.{position-Some}
use Rattle.std.proofs.lemmas.Option.{slice_get-get_or, slice_get-map}
use Rattle.range_split.proofs.Basics.{either_false}
use Rattle.match_model.specs.declared.Width.{Width}
use Rattle.match_model.specs.Types.{MType, ArrayType, MTypes, types_list}
use Rattle.match_model.specs.Typing.{is_str}
use Rattle.match_model.specs.Declarations.{MItem, MProgram}
use Rattle.match_model.specs.RustTypes.{is_type, are_types, is_declared}
use Rattle.match_model.proofs.Basics.{both, and_true}
use Rattle.decl_syntax.specs.Types.{TypeTree, TypeTrees, none, more}
use Rattle.decl_syntax.specs.Types as written
use Rattle.decl_syntax.specs.Items.{KindTree, Enum, Struct, Import, Function, ItemTree}
use Rattle.decl_syntax.specs.Widths.{type_count, are_many, type_is_wide, some_type_is_wide}
use Rattle.type_names.specs.Meanings.{Meaning, ItemName, BaseName, OpaqueName, OptionName, ResultName, Means, means, declared_name, is_name, declared_at, built_in_types, entry_of, built_in, first_of_two, argument_count, arguments_sized}
use Rattle.type_names.specs.Written.{broken_type, is_length, array_type, base_type, meant_type, named_type, slice_type, type_of, types_of, is_marked_by, kind_of, item_of, program_of}

-- ---- names

-- what the name means gives a type of the program, once it has its arguments
abbrev is_meant : MProgram → Meaning → Bool
is_meant program (ItemName i) = is_declared (slice_get program.items i)
is_meant program (BaseName t) = is_type program t
is_meant program (OpaqueName o) = true
is_meant program OptionName = true
is_meant program ResultName = true

-- where a test passes that only declarations of types pass, there such a declaration stands
first_declares : {A : Type 0} (p : A → Bool) (f : A → MItem) → ((x : A) → p x ≡ true → is_declared (Some (f x)) ≡ true) →
    (xs : List A) (i : ℕ) → position p xs ≡ Some i → is_declared (slice_get (map f xs) i) ≡ true
first_declares p f each [] i e = absurd cc
first_declares {A} p f each (y ∷ ys) i e =
    let found = position-Some p (y ∷ ys) i y e in
    let x : A = get_or (y ∷ ys) i y in
    let there : slice_get (y ∷ ys) i ≡ Some x = slice_get-get_or (y ∷ ys) i y found.0 in
    ap is_declared (slice_get-map f (y ∷ ys) i ∙ ap (option_map f) there) ∙ each x found.1

named_declares : (names : Means) (name : List ℕ) (marked : Bool) (kind : KindTree) →
    is_name name (declared_name kind) ≡ true → is_declared (Some (kind_of names marked kind)) ≡ true
named_declares names name marked (Enum n variants) h = refl
named_declares names name marked (Struct n form) h = refl
named_declares names name marked (Import owner listed) h = absurd cc
named_declares names name marked (Function n param deref arms) h = absurd cc

-- what stands in a table of names passes a test that all passes
entry_passes : {K : Type 0} (p : K → Bool) (es : List (List ℕ × K)) (name : List ℕ) (m : K) →
    list_all (λ e. p e.1) es ≡ true → entry_of es name ≡ Some m → p m ≡ true
entry_passes p [] name m all e = absurd cc
entry_passes {K} p (x ∷ xs) name m all e = by (bytes_eq name x.0) e (entry_passes p xs name m)
  where
    halves : (p x.1 ≡ true) × (list_all (λ e. p e.1) xs ≡ true)
    halves = both (p x.1) (list_all (λ e. p e.1) xs) all

    by : (b : Bool) → (if b then Some x.1 else entry_of xs name) ≡ Some m →
        (list_all (λ e. p e.1) xs ≡ true → entry_of xs name ≡ Some m → p m ≡ true) → p m ≡ true
    by true h later = let same : x.1 ≡ m = cc in ap p (sym same) ∙ halves.0
    by false h later = later halves.1 h

built_in_is_meant : (program : MProgram) (name : List ℕ) (m : Meaning) → built_in name ≡ Some m →
    is_meant program m ≡ true
unfolding built_in
built_in_is_meant program name m e = entry_passes (is_meant program) built_in_types name m refl e

name_is_meant : (items : List ItemTree) (width : Width) (name : List ℕ) (m : Meaning) → means items name ≡ Some m →
    is_meant (program_of items width) m ≡ true
name_is_meant items width name m e = by (declared_at items name) refl e
  where
    by : (o : Option ℕ) → declared_at items name ≡ o →
        first_of_two (option_map ItemName o) (built_in name) ≡ Some m → is_meant (program_of items width) m ≡ true
    by None at h = built_in_is_meant (program_of items width) name m h
    by (Some i) at h =
        let same : ItemName i ≡ m = cc in
        ap (is_meant (program_of items width)) (sym same)
        ∙ first_declares {A = ItemTree} (λ x. is_name name (declared_name x.kind)) (item_of (means items))
        (λ x. named_declares (means items) name (is_marked_by x.attrs) x.kind) items i at

-- ---- types

-- no more than are allowed are fewer than 2^32
pub few_parts : (n m : ℕ) → n ≡ m → are_many m ≡ false → n < 4294967296
few_parts n m same few = grind (arith, nat_tests)

below : (n : ℕ) → n < 4294967296 → nat_lt n (2 ^ 32) ≡ true
below n lt = grind (arith, nat_tests)

short : (n : ℕ) → nat_le n 4294967295 ≡ true → nat_lt n (2 ^ 32) ≡ true
short n le = let lt : n < 4294967296 = grind (arith, nat_tests) in below n lt

types_counted : (names : Means) (sized : Bool) (ts : TypeTrees) →
    length (types_list (types_of names sized ts)) ≡ type_count ts
types_counted names sized none = refl
types_counted names sized (more t ts) = ap suc (types_counted names sized ts)

module _ (program : MProgram) where
  base_typed : (sized : Bool) (t : MType) → is_type program t ≡ true → is_type program (base_type sized t) ≡ true
  base_typed sized t h = by (sized && is_str t)
    where
      by : (b : Bool) → is_type program (if b then broken_type else t) ≡ true
      by true = refl
      by false = h

  meant_typed : (sized : Bool) (m : Meaning) (ts : MTypes) → is_meant program m ≡ true →
      nat_eq (length (types_list ts)) (argument_count m) ≡ true → are_types program ts ≡ true →
      is_type program (meant_type sized m ts) ≡ true
  meant_typed sized (ItemName i) ts d n h = and_true _ _ d h
  meant_typed sized (BaseName t) ts d n h = base_typed sized t d
  meant_typed sized (OpaqueName o) ts d n h = and_true _ _ h n
  meant_typed sized OptionName ts d n h = h
  meant_typed sized ResultName ts d n h = h

  named_typed : (sized : Bool) (o : Option Meaning) (ts : MTypes) →
      ((m : Meaning) → o ≡ Some m → is_meant program m ≡ true) → are_types program ts ≡ true →
      is_type program (named_type sized o ts) ≡ true
  named_typed sized None ts d h = refl
  named_typed sized (Some m) ts d h = by (nat_eq (length (types_list ts)) (argument_count m)) refl
    where
      by : (b : Bool) → nat_eq (length (types_list ts)) (argument_count m) ≡ b →
          is_type program (if b then meant_type sized m ts else broken_type) ≡ true
      by true n = meant_typed sized m ts (d m refl) n h
      by false n = refl

  slice_typed : (sized : Bool) (t : MType) → is_type program t ≡ true → is_type program (slice_type sized t) ≡ true
  slice_typed true t h = refl
  slice_typed false t h = h

  array_typed : (t : MType) (len : Option ℕ) (suffix : List ℕ) → is_type program t ≡ true →
      is_type program (array_type t len suffix) ≡ true
  array_typed t None suffix h = refl
  array_typed t (Some n) suffix h = by (is_length (Some n) suffix) refl
    where
      by : (b : Bool) → is_length (Some n) suffix ≡ b →
          is_type program (if b then ArrayType t n else broken_type) ≡ true
      by true e = and_true _ _ h (short n (both (nat_le n 4294967295) _ e).0)
      by false e = refl

  module _ (names : Means) (meant : (name : List ℕ) (m : Meaning) → names name ≡ Some m → is_meant program m ≡ true)
    where
      mutual
        typed : (sized : Bool) (t : TypeTree) → type_is_wide t ≡ false → is_type program (type_of names sized t) ≡ true
        typed sized written.Never narrow = refl
        typed sized (written.Tuple ts) narrow =
            let halves = either_false (are_many (type_count ts)) (some_type_is_wide ts) narrow in
            and_true _ _ (all_typed true ts halves.1)
            (below (length (types_list (types_of names true ts)))
            (few_parts (length (types_list (types_of names true ts))) (type_count ts) (types_counted names true ts)
            halves.0))
        typed sized (written.Point mutable t) narrow = typed false t narrow
        typed sized (written.Slice t) narrow = slice_typed sized (type_of names true t) (typed true t narrow)
        typed sized (written.Array t len suffix) narrow =
            array_typed (type_of names true t) len suffix (typed true t narrow)
        typed sized (written.Named name ts) narrow =
            named_typed sized (names name) (types_of names (arguments_sized (names name)) ts) (meant name)
            (all_typed (arguments_sized (names name)) ts narrow)

        all_typed : (sized : Bool) (ts : TypeTrees) → some_type_is_wide ts ≡ false →
            are_types program (types_of names sized ts) ≡ true
        all_typed sized none narrow = refl
        all_typed sized (more t ts) narrow =
            let halves = either_false (type_is_wide t) (some_type_is_wide ts) narrow in
            and_true _ _ (typed sized t halves.0) (all_typed sized ts halves.1)

-- so is what a written type of the file stands for, if no tuple in it has more parts than are allowed
pub written_is_type : (items : List ItemTree) (width : Width) (sized : Bool) (t : TypeTree) → type_is_wide t ≡ false →
    is_type (program_of items width) (type_of (means items) sized t) ≡ true
written_is_type items width sized t narrow =
    typed (program_of items width) (means items) (name_is_meant items width) sized t narrow

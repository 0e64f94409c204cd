-- What an elementary constructor builds, a constructor that has it builds too.
use Rattle.std.proofs.Common.{◌≡◌, ℕ, ℤ, Bool, true, false, not, List, length, int_le, ap, subst, arith}
use Rattle.std.specs.List.{list_any}
use Rattle.std.proofs.lemmas.Int.{ints}
use Rattle.match_model.specs.Values.{MValue, Flag, Num, Text, Node, Point, Row, Later, values_list}
use Rattle.match_model.specs.Numbers.{MRange, in_range, closed}
use Rattle.match_model.specs.Texts.{text_eq}
use Rattle.match_model.specs.Constructors.{MShape, SingleCtor, PointCtor, LaterCtor, OtherTextCtor, VariantCtor, FlagCtor, NumbersCtor, TextCtor, RowCtor, OneSingle, OnePoint, OneLater, OneVariant, OneFlag, OneNumber, OneText, OneLength, builds, builds_one, covers}
use Rattle.match_model.proofs.Basics.{both, untrue, nat_equal, text_equal}

pub single_built : (named : List (List ℕ)) (v : MValue) → builds_one OneSingle v ≡ true →
    builds named SingleCtor v ≡ true
single_built named (Node k parts) b = b
single_built named _ b = untrue b

pub variant_built : (named : List (List ℕ)) (k : ℕ) (v : MValue) → builds_one (OneVariant k) v ≡ true →
    builds named (VariantCtor k) v ≡ true
variant_built named k (Node j parts) b = b
variant_built named k _ b = untrue b

pub point_built : (named : List (List ℕ)) (v : MValue) → builds_one OnePoint v ≡ true → builds named PointCtor v ≡ true
point_built named (Point m w) b = b
point_built named _ b = untrue b

pub later_built : (named : List (List ℕ)) (v : MValue) → builds_one OneLater v ≡ true → builds named LaterCtor v ≡ true
later_built named Later b = b
later_built named _ b = untrue b

pub flag_built : (named : List (List ℕ)) (f : Bool) (v : MValue) → builds_one (OneFlag f) v ≡ true →
    builds named (FlagCtor f) v ≡ true
flag_built named f (Flag x) b = b
flag_built named f _ b = untrue b

pub number_built : (named : List (List ℕ)) (r : MRange) (n : ℤ) → in_range r n ≡ true → (v : MValue) →
    builds_one (OneNumber n) v ≡ true → builds named (NumbersCtor r) v ≡ true
number_built named r n h (Num k) b = subst (λ x. in_range r x ≡ true) (same n k b) h
  where
    same : (n k : ℤ) → in_range (closed n n) k ≡ true → n ≡ k
    same n k b = le_antisym n k (both (int_le n k) (int_le k n) b).0 (both (int_le n k) (int_le k n) b).1
      where
        le_antisym : (n k : ℤ) → int_le n k ≡ true → int_le k n ≡ true → n ≡ k
        le_antisym n k h g = grind (arith, ints)
number_built named r n h _ b = untrue b

pub text_built : (named : List (List ℕ)) (t : List ℕ) (v : MValue) → builds_one (OneText t) v ≡ true →
    builds named (TextCtor t) v ≡ true
text_built named t (Text u) b = b
text_built named t _ b = untrue b

pub other_built : (named : List (List ℕ)) (t : List ℕ) → list_any (text_eq t) named ≡ false → (v : MValue) →
    builds_one (OneText t) v ≡ true → builds named OtherTextCtor v ≡ true
other_built named t h (Text u) b = subst (λ x. not (list_any (text_eq x) named) ≡ true) (text_equal t u b) (ap not h)
other_built named t h _ b = untrue b

pub row_built : (named : List (List ℕ)) (s : MShape) (n : ℕ) → covers s n ≡ true → (v : MValue) →
    builds_one (OneLength n) v ≡ true → builds named (RowCtor s) v ≡ true
row_built named s n h (Row items) b = subst (λ x. covers s x ≡ true) (nat_equal n (length (values_list items)) b) h
row_built named s n h _ b = untrue b

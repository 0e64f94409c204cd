-- The parts of a piece, and the steps to them.
use Rattle.std.proofs.Common.{◌≡◌, ◌<◌, ◌^◌, ℕ, ◌+◌, Bool, ◌∷◌, [], ◌++◌, refl, add-one, IsTrue, inl, inr, arith, subst}
use Rattle.match_model.specs.Values.{MValue}
use Rattle.match_model.specs.Pieces.{each_below}
use Rattle.match_model.specs.Constructors.{MCtor, SingleCtor, PointCtor, LaterCtor, OtherTextCtor, VariantCtor, FlagCtor, NumbersCtor, TextCtor, RowCtor, WildCtor, OrCtor, MSet, SingleSet, PointSet, FlagSet, TextSet, OpaqueSet, NothingSet, VariantSet, NumberSet, RowSet, OneSingle, OneVariant, belongs, is_of_set, least_length}
use Rattle.match_model.specs.Contexts.{Context}
use Rattle.match_model.specs.ContextLaws.{PartsLaw}
use Rattle.keyed_matrix.specs.Columns.{IsStep}

pub each_below-more : {A : Type 0} (f : ℕ → A) (n : ℕ) → each_below f (n + 1) ≡ each_below f n ++ f n ∷ []
each_below-more f n = rw add-one refl

pub ruleset more_columns = each_below-more

single-of : (s : MSet) → IsTrue (belongs s SingleCtor) → IsTrue (is_of_set s OneSingle)
single-of SingleSet h = h
single-of PointSet h = h
single-of FlagSet h = h
single-of TextSet h = h
single-of OpaqueSet h = h
single-of NothingSet h = h
single-of (VariantSet count later) h = h
single-of (NumberSet first second) h = h
single-of (RowSet len) h = h

variant-of : (s : MSet) (k : ℕ) → IsTrue (belongs s (VariantCtor k)) → IsTrue (is_of_set s (OneVariant k))
variant-of SingleSet k h = h
variant-of PointSet k h = h
variant-of FlagSet k h = h
variant-of TextSet k h = h
variant-of OpaqueSet k h = h
variant-of NothingSet k h = h
variant-of (VariantSet count later) k h = h
variant-of (NumberSet first second) k h = h
variant-of (RowSet len) k h = h

none-below : (k n : ℕ) → n ≡ 0 → k < n → k < 2 ^ 32
none-below k n e l = absurd (omega (arith, e, l))

-- a part's number is one that a step can hold
pub part-fits : {T : Type 0} (IsType : T → Type 0) (IsValue : T → Bool → MValue → Type 0) (cx : Context T) →
    PartsLaw IsType IsValue cx → (t : T) (c : MCtor) (k : ℕ) → IsType t → IsTrue (belongs (cx.set_of t) c) →
    k < cx.arity c t → IsStep c k
part-fits IsType IsValue cx law t SingleCtor k ty b l =
    let few : cx.arity SingleCtor t < 2 ^ 32 = law.few t OneSingle ty (single-of (cx.set_of t) b) (inl refl) in
    omega (arith, few, l)
part-fits IsType IsValue cx law t PointCtor k ty b l = tt
part-fits IsType IsValue cx law t (VariantCtor j) k ty b l =
    let few : cx.arity (VariantCtor j) t < 2 ^ 32 =
    law.few t (OneVariant j) ty (variant-of (cx.set_of t) j b) (inr (j, refl)) in
    omega (arith, few, l)
part-fits IsType IsValue cx law t (RowCtor s) k ty b l =
    let long : cx.arity (RowCtor s) t ≡ least_length s = law.arity t (RowCtor s) ty b in
    subst (λ n. k < n) long l
part-fits IsType IsValue cx law t LaterCtor k ty b l = none-below k (cx.arity LaterCtor t) (law.arity t LaterCtor ty b) l
part-fits IsType IsValue cx law t OtherTextCtor k ty b l =
    none-below k (cx.arity OtherTextCtor t) (law.arity t OtherTextCtor ty b) l
part-fits IsType IsValue cx law t (FlagCtor f) k ty b l = none-below k (cx.arity (FlagCtor f) t) (law.arity t (FlagCtor f) ty b) l
part-fits IsType IsValue cx law t (NumbersCtor r) k ty b l =
    none-below k (cx.arity (NumbersCtor r) t) (law.arity t (NumbersCtor r) ty b) l
part-fits IsType IsValue cx law t (TextCtor u) k ty b l = none-below k (cx.arity (TextCtor u) t) (law.arity t (TextCtor u) ty b) l
part-fits IsType IsValue cx law t WildCtor k ty b l = none-below k (cx.arity WildCtor t) (law.arity t WildCtor ty b) l
part-fits IsType IsValue cx law t OrCtor k ty b l = none-below k (cx.arity OrCtor t) (law.arity t OrCtor ty b) l

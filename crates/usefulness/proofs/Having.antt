-- The leaves that have a piece, by their numbers.
use Rattle.std.proofs.Common.{◌≡◌, ℕ, zero, suc, Bool, true, false, List, [], ◌∷◌, ◌++◌, filter, cond, length, take, Option, Some, None, refl, ap, sym, subst, ◌∙◌, slice_get}
use Rattle.std.proofs.lemmas.List.{length-map}
use Rattle.std.proofs.lemmas.List.Elements.{All-nil, All-cons, All-head, All-tail}
use Rattle.std.specs.List.{All}
use Rattle.std.specs.Option.{option_to_list}
use Rattle.match_model.specs.Constructors.{MCtor}
use Rattle.match_model.specs.Contexts.{Context, Open}
use Rattle.match_model.specs.Rows.{part_open, parts_open}
use Rattle.pattern_matrix.specs.declared.rows.Column.{Column}
use Rattle.pattern_matrix.specs.Columns.{plain_column, plain_columns}
use Rattle.pattern_matrix.specs.Sparse.{SparseLeaf, columns_from, leaves_listed}
use Rattle.pattern_matrix.proofs.Places.{length-below}
use Rattle.usefulness.specs.declared.frames.OpenColumn.{OpenColumn}
use Rattle.usefulness.specs.Frames.{numbers}
use Rattle.usefulness.specs.States.{plain_open, plain_opens}
use Rattle.usefulness.proofs.RowFacts.{at_get}

pub all_take : {X : Type 0} (P : X → Type 0) (n : ℕ) (xs : List X) → All P xs → All P (take n xs)
all_take P zero xs a = All-nil P
all_take P (suc n) [] a = All-nil P
all_take P (suc n) (x ∷ xs) a = All-cons P x (take n xs) (All-head P x xs a) (all_take P n xs (All-tail P x xs a))

-- what holds of each that passes a test, holds of all that are filtered by it
pub all_filtered : {X : Type 0} (P : X → Type 0) (p : X → Bool) (xs : List X) → All (λ x. p x ≡ true → P x) xs → All P (filter p xs)
all_filtered P p [] a = All-nil P
all_filtered {X} P p (x ∷ xs) a = go (p x) refl (all_filtered P p xs (All-tail (λ x. p x ≡ true → P x) x xs a))
  where
    go : (b : Bool) → p x ≡ b → All P (filter p xs) → All P (cond b (x ∷ filter p xs) (filter p xs))
    go true e rest = All-cons P x (filter p xs) (All-head (λ x. p x ≡ true → P x) x xs a e) rest
    go false e rest = rest

-- what holds of all leaves holds of those with these numbers
pub all_listed : {T : Type 0} (P : SparseLeaf T → Type 0) (leaves : List (SparseLeaf T)) (ks : List ℕ) → All P leaves → All P (leaves_listed leaves ks)
all_listed P leaves [] a = All-nil P
all_listed {T} P leaves (k ∷ ks) a = go (slice_get leaves k) refl (all_listed P leaves ks a)
  where
    go : (o : Option (SparseLeaf T)) → slice_get leaves k ≡ o → All P (leaves_listed leaves ks) → All P (option_to_list o ++ leaves_listed leaves ks)
    go None e rest = rest
    go (Some l) e rest = All-cons P l (leaves_listed leaves ks) (at_get P leaves k l a e) rest

-- what holds of the leaves with these numbers
pub all_numbered : {T : Type 0} (P : SparseLeaf T → Type 0) (leaves : List (SparseLeaf T)) (ks : List ℕ) → All P (leaves_listed leaves ks) → All (λ k. (l : SparseLeaf T) → slice_get leaves k ≡ Some l → P l) ks
all_numbered {T} P leaves [] a = All-nil (λ k. (l : SparseLeaf T) → slice_get leaves k ≡ Some l → P l)
all_numbered {T} P leaves (k ∷ ks) a =
    let r = go (slice_get leaves k) refl a in
    All-cons (λ k. (l : SparseLeaf T) → slice_get leaves k ≡ Some l → P l) k ks r.0 (all_numbered P leaves ks r.1)
  where
    go : (o : Option (SparseLeaf T)) → slice_get leaves k ≡ o → All P (option_to_list o ++ leaves_listed leaves ks) →
        ((l : SparseLeaf T) → slice_get leaves k ≡ Some l → P l) × All P (leaves_listed leaves ks)
    go None e b = ((λ l f. absurd (none_some (sym e ∙ f))), b)
      where
        none_some : {l : SparseLeaf T} → None ≡ Some l → ⊥
        none_some f = cc
    go (Some x) e b = ((λ l f. let same : x ≡ l = some_same (sym e ∙ f) in subst P same (All-head P x (leaves_listed leaves ks) b)), All-tail P x (leaves_listed leaves ks) b)
      where
        some_same : {l : SparseLeaf T} → Some x ≡ Some l → x ≡ l
        some_same f = cc

-- how many columns a piece opens
pub columns_long : (first n : ℕ) → length (columns_from first n) ≡ n
columns_long first zero = refl
columns_long first (suc n) = ap suc (columns_long (suc first) n)

pub parts_count : {T : Type 0} (cx : Context T) (o : Open T) (piece : MCtor) (before after : List (Column T)) → plain_columns after ≡ plain_columns before ++ parts_open cx o piece → before ≡ [] →
    length after ≡ cx.arity piece o.type
parts_count cx o piece before after e f =
    sym (length-map after plain_column) ∙ ap length (e ∙ ap (λ os. plain_columns os ++ parts_open cx o piece) f) ∙ length-below (part_open cx o piece) (cx.arity piece o.type)

pub count_of : {T : Type 0} (vs : List (OpenColumn T)) (first n : ℕ) → numbers (plain_opens vs) ≡ columns_from first n → length vs ≡ n
count_of {T} vs first n e = sym (length-map (plain_opens vs) (λ (o : ℕ × Open T). o.0) ∙ length-map vs plain_open) ∙ ap length e ∙ columns_long first n

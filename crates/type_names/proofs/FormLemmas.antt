-- What paths find has a form.
use Rattle.std.proofs.Common.{◌≡◌, ℕ, ◌+◌, Bool, true, false, List, [], ◌∷◌, Option, Some, None, refl, sym, ap, ◌∙◌, suc, cond, arith}
use Rattle.std.specs.Prelude.{position, slice_get, is_some, codes, option_map}
use Rattle.std.specs.List.{list_all}
use Rattle.std.specs.Str.{bytes_eq}
use Rattle.match_model.specs.Types.{MOwner, OptionOwner, ResultOwner}
use Rattle.decl_syntax.specs.Patterns.{PathTree}
use Rattle.decl_syntax.specs.Items.{KindTree, Struct, Import, ItemTree}
use Rattle.type_names.specs.declared.meanings.FormKind.{FormKind}
use Rattle.type_names.specs.Meanings.{is_name}
use Rattle.type_names.specs.Imports.{variant_number, owner_variants, form_at, enum_of}
use Rattle.type_names.specs.NameRules.{is_among}
use Rattle.type_names.specs.Finding.{FoundTree, FoundNothing, FoundTwice, FoundStruct, FoundVariant, numbered, variant_in, path_variant, or_else, given_by, given_from, glob_owners, and_variant, variants_named, same_variant, agreed, globbed, prelude_variant, names_find, path_finds, found_form, is_found}
use Rattle.type_names.proofs.Places.{position_hit, position_skip}

-- what is found has a form exactly where it is a struct or a variant
pub HasForm : List ItemTree → FoundTree → Type 0
HasForm items f = is_some (found_form items f) ≡ is_found f

-- a first that passes is there
there : {A : Type 0} (p : A → Bool) (xs : List A) (k : ℕ) → position p xs ≡ Some k → is_some (slice_get xs k) ≡ true
there p [] k h = absurd cc
there {A} p (x ∷ xs) k h = by (p x) refl (there p xs) k h
  where
    moved : (o : Option ℕ) → ((n : ℕ) → o ≡ Some n → is_some (slice_get xs n) ≡ true) → (k : ℕ) → option_map suc o ≡ Some k → is_some (slice_get (x ∷ xs) k) ≡ true
    moved None rest k h = absurd cc
    moved (Some n) rest k h = let e : suc n ≡ k = cc in ap (λ (j : ℕ). is_some (slice_get (x ∷ xs) j)) (sym e) ∙ rest n refl

    by : (b : Bool) → p x ≡ b → ((n : ℕ) → position p xs ≡ Some n → is_some (slice_get xs n) ≡ true) →
        (k : ℕ) → position p (x ∷ xs) ≡ Some k → is_some (slice_get (x ∷ xs) k) ≡ true
    by true e rest k h = let z : Some 0 ≡ Some k = sym (position_hit p x xs e) ∙ h in let f : 0 ≡ k = cc in ap (λ (j : ℕ). is_some (slice_get (x ∷ xs) j)) (sym f)
    by false e rest k h = moved (position p xs) rest k (sym (position_skip p x xs e) ∙ h)

form_there : (vs : List (List ℕ × FormKind)) (k : ℕ) → is_some (slice_get vs k) ≡ true → is_some (form_at vs (Some k)) ≡ true
form_there vs k h = by (slice_get vs k) h
  where
    by : (o : Option (List ℕ × FormKind)) → is_some o ≡ true → is_some (option_map (λ v. v.1) o) ≡ true
    by None h = absurd cc
    by (Some v) h = refl

variant_has : (items : List ItemTree) (o : MOwner) (q : List ℕ) (k : ℕ) → variant_number items o q ≡ Some k → HasForm items (FoundVariant o k)
unfolding HasForm
variant_has items o q k e = form_there (owner_variants items o) k (there (λ v. is_name q (Some v.0)) (owner_variants items o) k e)

numbered_has : (items : List ItemTree) (o : MOwner) (q : List ℕ) → HasForm items (numbered o (variant_number items o q))
unfolding HasForm
numbered_has items o q = by (variant_number items o q) refl
  where
    by : (n : Option ℕ) → variant_number items o q ≡ n → HasForm items (numbered o n)
    by None e = refl
    by (Some k) e = variant_has items o q k e

path_has : (items : List ItemTree) (o : Option MOwner) (q : List ℕ) → HasForm items (variant_in items o q)
unfolding HasForm
path_has items None q = refl
path_has items (Some o) q = numbered_has items o q

or_has : (items : List ItemTree) (f g : FoundTree) → HasForm items f → HasForm items g → HasForm items (or_else f g)
unfolding HasForm
or_has items FoundNothing g f_has g_has = g_has
or_has items FoundTwice g f_has g_has = refl
or_has items _ g f_has g_has = f_has

given_has : (items : List ItemTree) (q : List ℕ) (n : ℕ) (item : ItemTree) → slice_get items n ≡ Some item → (k : KindTree) → item.kind ≡ k → HasForm items (given_by items q n k)
unfolding HasForm
given_has items q n item at (Struct name form) is = by (bytes_eq q name)
  where
    by : (b : Bool) → HasForm items (cond b (FoundStruct n) FoundNothing)
    by true = rw (at, is) refl
    by false = refl
given_has items q n item at (Import owner (Some names)) is = by (is_among q names)
  where
    by : (b : Bool) → HasForm items (cond b (path_variant items owner q) FoundNothing)
    by true = path_has items (enum_of items owner) q
    by false = refl
given_has items q n item at _ is = refl

from_has : (items : List ItemTree) (q : List ℕ) (n : ℕ) (xs : List ItemTree) → ((j : ℕ) → slice_get xs j ≡ slice_get items (n + j)) → HasForm items (given_from items q n xs)
unfolding HasForm
from_has items q n [] h = refl
from_has items q n (x ∷ xs) h =
    let first : n ≡ n + 0 = omega arith in
    let at : slice_get items n ≡ Some x = ap (slice_get items) first ∙ sym (h 0) in
    or_has items (given_by items q n x.kind) (given_from items q (n + 1) xs) (given_has items q n x at x.kind refl)
    (from_has items q (n + 1) xs (λ j. let next : n + suc j ≡ (n + 1) + j = omega arith in h (suc j) ∙ ap (slice_get items) next))

agreed_has : (items : List ItemTree) (q : List ℕ) (os : List MOwner) → HasForm items (agreed (variants_named items q os))
unfolding HasForm
agreed_has items q [] = refl
agreed_has items q (o ∷ os) = by (variant_number items o q) refl (agreed_has items q os)
  where
    first : (o : MOwner) (k : ℕ) → HasForm items (FoundVariant o k) → (b : Bool) → HasForm items (cond b (FoundVariant o k) FoundTwice)
    first o k h true = h
    first o k h false = refl

    by : (n : Option ℕ) → variant_number items o q ≡ n → HasForm items (agreed (variants_named items q os)) → HasForm items (agreed (and_variant o n (variants_named items q os)))
    by None e rest = rest
    by (Some k) e rest = first o k (variant_has items o q k e) (list_all (same_variant (o, k)) (variants_named items q os))

prelude_has : (items : List ItemTree) (q : List ℕ) → HasForm items (prelude_variant q)
unfolding HasForm
prelude_has items q = by (bytes_eq q (codes "Some")) (bytes_eq q (codes "None")) (bytes_eq q (codes "Ok")) (bytes_eq q (codes "Err"))
  where
    by : (a b c d : Bool) → HasForm items (cond a (FoundVariant OptionOwner 1) (cond b (FoundVariant OptionOwner 0) (cond c (FoundVariant ResultOwner 0) (cond d (FoundVariant ResultOwner 1) FoundNothing))))
    by true b c d = refl
    by false true c d = refl
    by false false true d = refl
    by false false false true = refl
    by false false false false = refl

names_have : (items : List ItemTree) (names : List (List ℕ)) → HasForm items (names_find items names)
unfolding HasForm
names_have items (q ∷ []) =
    or_has items (given_from items q 0 items) (or_else (globbed items q) (prelude_variant q)) (from_has items q 0 items (λ j. ap (slice_get items) (let e : j ≡ 0 + j = omega arith in e)))
    (or_has items (globbed items q) (prelude_variant q) (agreed_has items q (glob_owners items items)) (prelude_has items q))
names_have items (owner ∷ q ∷ []) = path_has items (enum_of items owner) q
names_have items _ = refl

path_finds_has : (items : List ItemTree) (path : PathTree) → HasForm items (path_finds items path)
unfolding HasForm
path_finds_has items path = by path.plain
  where
    by : (b : Bool) → HasForm items (cond b (names_find items path.names) FoundNothing)
    by true = names_have items path.names
    by false = refl

-- a target that a path finds
pub target_has : (items : List ItemTree) (path : PathTree) (found : FoundTree) (form : Option FormKind) → form ≡ found_form items found → found ≡ path_finds items path →
    is_some form ≡ is_found found
unfolding HasForm
target_has items path found form told is = ap is_some told ∙ (ap (λ (f : FoundTree). is_some (found_form items f)) is ∙ (path_finds_has items path ∙ ap is_found (sym is)))

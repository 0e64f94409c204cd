-- What names find, in loops over items, variants and listed names.
use Rattle.std.proofs.Common.{◌≡◌, ℕ, ◌+◌, Bool, true, false, ◌&&◌, ◌||◌, List, [], ◌∷◌, ◌++◌, map, ◌<◌, length, Option, Some, None, refl, sym, ap, ◌∙◌, take, get_or, cond, arith, suc, zero}
use Rattle.std.specs.Prelude.{slice_get}
use Rattle.std.specs.List.{list_any, list_all}
use Rattle.std.specs.Str.{bytes_eq}
use Rattle.std.proofs.lemmas.List.{append-nil}
use Rattle.std.proofs.lemmas.Slice.Eq.{bytes_eq-Decides}
use Rattle.std.proofs.lemmas.Bool.{and_parts}
use Rattle.std.proofs.Math.Bool.{and-true}
use Rattle.std.proofs.lemmas.List.Folds.{list_all-append}
use Rattle.std.specs.Cmp.Lexicographic.{nat_list_eq_equiv}
use Rattle.match_model.specs.Types.{MOwner, DeclaredItem}
use Rattle.decl_syntax.specs.Items.{VariantTree, KindTree, Enum, Struct, Import, Function, ItemTree}
use Rattle.type_names.specs.declared.meanings.FormKind.{FormKind}
use Rattle.type_names.specs.Meanings.{is_name}
use Rattle.type_names.specs.Imports.{named_variant, item_variants, variant_number, owner_variants, enum_item}
use Rattle.type_names.specs.NameRules.{is_among}
use Rattle.type_names.specs.Finding.{FoundTree, FoundNothing, FoundTwice, FoundVariant, numbered, variant_in, or_else, given_by, given_from, glob_owner, glob_owners, and_owner, and_variant, variants_named, same_owner, same_variant, agreed}
use Rattle.type_names.specs.declared.targets.Target.{Target}
use Rattle.type_names.specs.FindingViews.{with_variant, joined, masked, told, target_view}
use Rattle.type_names.proofs.Places.{front_more, length_front}
use Rattle.type_names.proofs.ItemTests.{none_first}
use Rattle.type_names.proofs.TakenLemmas.{among_push}
use Rattle.match_model.proofs.Basics.{nat_itself}

pub or_nothing : (f : FoundTree) → or_else f FoundNothing ≡ f
or_nothing FoundNothing = refl
or_nothing _ = refl

pub or_again : (f g : FoundTree) → or_else (or_else f g) g ≡ or_else f g
or_again FoundNothing FoundNothing = refl
or_again _ _ = refl

or_assoc : (f g h : FoundTree) → or_else f (or_else g h) ≡ or_else (or_else f g) h
or_assoc FoundNothing g h = refl
or_assoc _ g h = refl

pub owner_same : (o : MOwner) → same_owner o o ≡ true
owner_same (DeclaredItem i) = nat_itself i
owner_same _ = refl

pub variant_same : (o : MOwner) (k : ℕ) → same_variant (o, k) (o, k) ≡ true
variant_same o k = rw (owner_same o, nat_itself k) refl

pub joined_nothing : (f : FoundTree) → joined f FoundNothing ≡ f
joined_nothing f = refl

with_again : (f : FoundTree) (o : MOwner) (k : ℕ) → with_variant (with_variant f o k) o k ≡ with_variant f o k
with_again FoundNothing o k = rw (variant_same o k) refl
with_again (FoundVariant p l) o k = by (same_variant (p, l) (o, k)) refl
  where
    by : (b : Bool) → same_variant (p, l) (o, k) ≡ b → with_variant (cond b (FoundVariant p l) FoundTwice) o k ≡ cond b (FoundVariant p l) FoundTwice
    by true e = rw e refl
    by false e = refl
with_again _ o k = refl

pub joined_again : (f g : FoundTree) → joined (joined f g) g ≡ joined f g
joined_again f (FoundVariant o k) = with_again f o k
joined_again f _ = refl

-- one more name, of a list of names that find something
pub masked_step : (op : FoundTree → FoundTree → FoundTree) → ((f : FoundTree) → op f FoundNothing ≡ f) → ((f g : FoundTree) → op (op f g) g ≡ op f g) →
    (found : List ℕ → FoundTree) (names : List (List ℕ)) (n q : List ℕ) (first old new : FoundTree) →
    old ≡ op first (masked (is_among q names) (found q)) → new ≡ op old (masked (bytes_eq q n) (found n)) →
    new ≡ op first (masked (is_among q (names ++ n ∷ [])) (found q))
masked_step op unit again found names n q first old new old_is new_is =
    new_is ∙ (ap (λ (f : FoundTree). op f (masked (bytes_eq q n) (found n))) old_is
    ∙ (by (bytes_eq q n) refl (is_among q names)
    ∙ ap (λ b. op first (masked b (found q))) (sym (among_push names n q))))
  where
    by : (c : Bool) → bytes_eq q n ≡ c → (b : Bool) → op (op first (masked b (found q))) (masked c (found n)) ≡ op first (masked (b || c) (found q))
    by true e true = let same : q ≡ n = (bytes_eq-Decides q n).0 e in ap (λ (m : List ℕ). op (op first (found q)) (found m)) (sym same) ∙ again first (found q)
    by true e false = let same : q ≡ n = (bytes_eq-Decides q n).0 e in ap (λ (f : FoundTree). op f (found n)) (unit first) ∙ ap (λ (m : List ℕ). op first (found m)) (sym same)
    by false e true = unit (op first (found q))
    by false e false = unit (op first FoundNothing)

-- what is written at a name
pub masked_put : (op : FoundTree → FoundTree → FoundTree) → ((f : FoundTree) → op f FoundNothing ≡ f) →
    (old : List ℕ → FoundTree) (n q : List ℕ) (found new here : FoundTree) →
    here ≡ op (old n) found → new ≡ cond (bytes_eq q n) here (old q) → new ≡ op (old q) (masked (bytes_eq q n) found)
masked_put op unit old n q found new here here_is new_is = new_is ∙ by (bytes_eq q n) refl
  where
    by : (c : Bool) → bytes_eq q n ≡ c → cond c here (old q) ≡ op (old q) (masked c found)
    by true e = let same : q ≡ n = (bytes_eq-Decides q n).0 e in here_is ∙ ap (λ (m : List ℕ). op (old m) found) (sym same)
    by false e = sym (unit (old q))

given_push : (items : List ItemTree) (q : List ℕ) (n : ℕ) (xs : List ItemTree) (y : ItemTree) →
    given_from items q n (xs ++ y ∷ []) ≡ or_else (given_from items q n xs) (given_by items q (n + length xs) y.kind)
given_push items q n [] y =
    let e : n ≡ n + 0 = omega arith in
    or_nothing (given_by items q n y.kind) ∙ ap (λ (i : ℕ). given_by items q i y.kind) e
given_push items q n (x ∷ xs) y =
    let e : (n + 1) + length xs ≡ n + length (x ∷ xs) = omega arith in
    ap (or_else (given_by items q n x.kind)) (given_push items q (n + 1) xs y ∙ ap (λ (i : ℕ). or_else (given_from items q (n + 1) xs) (given_by items q i y.kind)) e)
    ∙ or_assoc (given_by items q n x.kind) (given_from items q (n + 1) xs) (given_by items q (n + length (x ∷ xs)) y.kind)

-- what a front that is one item longer gives to a name
pub given_more : {A : Type 0} (f : A → ItemTree) (all : List ItemTree) (xs : List A) (i : ℕ) (x : A) → i < length xs → x ≡ get_or xs i x →
    (q : List ℕ) (old new : FoundTree) → old ≡ given_from all q 0 (map f (take i xs)) → new ≡ or_else old (given_by all q i (f x).kind) →
    new ≡ given_from all q 0 (map f (take (i + 1) xs))
given_more {A} f all xs i x lt is q old new old_is new_is =
    let at : length (map f (take i xs)) ≡ i = length_front f xs i lt in
    let e : 0 + length (map f (take i xs)) ≡ i = omega arith in
    new_is
    ∙ (ap (λ (g : FoundTree). or_else g (given_by all q i (f x).kind)) old_is
    ∙ (ap (λ (j : ℕ). or_else (given_from all q 0 (map f (take i xs))) (given_by all q j (f x).kind)) (sym e)
    ∙ (sym (given_push all q 0 (map f (take i xs)) (f x))
    ∙ ap (given_from all q 0) (sym (front_more f xs i x lt is)))))

all_push : {A : Type 0} (p : A → Bool) (xs : List A) (y : A) → list_all p (xs ++ y ∷ []) ≡ (list_all p xs && p y)
all_push p xs y = list_all-append p xs (y ∷ []) ∙ ap (λ b. list_all p xs && b) (and-true (p y))

agreed_push : (vs : List (MOwner × ℕ)) (o : MOwner) (k : ℕ) → agreed (vs ++ (o, k) ∷ []) ≡ with_variant (agreed vs) o k
agreed_push [] o k = refl
agreed_push (v ∷ vs) o k =
    ap (λ b. cond b (FoundVariant v.0 v.1) FoundTwice) (all_push (same_variant v) vs (o, k)) ∙ by (list_all (same_variant v) vs)
  where
    by : (b : Bool) → cond (b && same_variant v (o, k)) (FoundVariant v.0 v.1) FoundTwice ≡ with_variant (cond b (FoundVariant v.0 v.1) FoundTwice) o k
    by true = refl
    by false = refl

named_push : (items : List ItemTree) (q : List ℕ) (os : List MOwner) (o : MOwner) →
    variants_named items q (os ++ o ∷ []) ≡ variants_named items q os ++ and_variant o (variant_number items o q) []
named_push items q [] o = refl
named_push items q (p ∷ os) o =
    ap (and_variant p (variant_number items p q)) (named_push items q os o)
    ∙ and_append p (variant_number items p q) (variants_named items q os) (and_variant o (variant_number items o q) [])
  where
    and_append : (p : MOwner) (n : Option ℕ) (vs ws : List (MOwner × ℕ)) → and_variant p n (vs ++ ws) ≡ and_variant p n vs ++ ws
    and_append p None vs ws = refl
    and_append p (Some k) vs ws = refl

agreed_and : (vs : List (MOwner × ℕ)) (o : MOwner) (n : Option ℕ) → agreed (vs ++ and_variant o n []) ≡ joined (agreed vs) (numbered o n)
agreed_and vs o None = ap agreed (append-nil vs)
agreed_and vs o (Some k) = agreed_push vs o k

-- what enums give to a name, with one enum more
pub owner_push : (items : List ItemTree) (q : List ℕ) (os : List MOwner) (o : MOwner) →
    agreed (variants_named items q (os ++ o ∷ [])) ≡ joined (agreed (variants_named items q os)) (numbered o (variant_number items o q))
owner_push items q os o = ap agreed (named_push items q os o) ∙ agreed_and (variants_named items q os) o (variant_number items o q)

glob_push : (all xs : List ItemTree) (y : ItemTree) → glob_owners all (xs ++ y ∷ []) ≡ glob_owners all xs ++ and_owner (glob_owner all y.kind) []
glob_push all [] y = refl
glob_push all (x ∷ xs) y =
    ap (and_owner (glob_owner all x.kind)) (glob_push all xs y)
    ∙ and_append (glob_owner all x.kind) (glob_owners all xs) (and_owner (glob_owner all y.kind) [])
  where
    and_append : (o : Option MOwner) (vs ws : List MOwner) → and_owner o (vs ++ ws) ≡ and_owner o vs ++ ws
    and_append None vs ws = refl
    and_append (Some o) vs ws = refl

maybe_push : (items : List ItemTree) (q : List ℕ) (os : List MOwner) (o : Option MOwner) →
    agreed (variants_named items q (os ++ and_owner o [])) ≡ joined (agreed (variants_named items q os)) (variant_in items o q)
maybe_push items q os None = ap (λ (ps : List MOwner). agreed (variants_named items q ps)) (append-nil os)
maybe_push items q os (Some o) = owner_push items q os o

-- what the globs of a front that is one item longer give to a name
pub globs_more : {A : Type 0} (f : A → ItemTree) (all : List ItemTree) (xs : List A) (i : ℕ) (x : A) → i < length xs → x ≡ get_or xs i x →
    (q : List ℕ) (old new : FoundTree) → old ≡ agreed (variants_named all q (glob_owners all (map f (take i xs)))) →
    new ≡ joined old (variant_in all (glob_owner all (f x).kind) q) → new ≡ agreed (variants_named all q (glob_owners all (map f (take (i + 1) xs))))
globs_more {A} f all xs i x lt is q old new old_is new_is =
    new_is
    ∙ (ap (λ (g : FoundTree). joined g (variant_in all (glob_owner all (f x).kind) q)) old_is
    ∙ (sym (maybe_push all q (glob_owners all (map f (take i xs))) (glob_owner all (f x).kind))
    ∙ ap (λ (os : List MOwner). agreed (variants_named all q os))
    (sym (glob_push all (map f (take i xs)) (f x)) ∙ ap (glob_owners all) (sym (front_more f xs i x lt is)))))

-- what the enums of a front that is one longer give to a name
pub owners_more : {A : Type 0} (f : A → MOwner) (all : List ItemTree) (xs : List A) (i : ℕ) (x : A) → i < length xs → x ≡ get_or xs i x →
    (q : List ℕ) (old new : FoundTree) → old ≡ agreed (variants_named all q (map f (take i xs))) →
    new ≡ joined old (numbered (f x) (variant_number all (f x) q)) → new ≡ agreed (variants_named all q (map f (take (i + 1) xs)))
owners_more {A} f all xs i x lt is q old new old_is new_is =
    new_is
    ∙ (ap (λ (g : FoundTree). joined g (numbered (f x) (variant_number all (f x) q))) old_is
    ∙ (sym (owner_push all q (map f (take i xs)) (f x))
    ∙ ap (λ (os : List MOwner). agreed (variants_named all q os)) (sym (front_more f xs i x lt is))))

-- a variant passes each test that all the variants pass
IsMember : (MOwner × ℕ) → List (MOwner × ℕ) → Type 0
IsMember w vs = (p : MOwner × ℕ → Bool) → list_all p vs ≡ true → p w ≡ true

member_named : {A : Type 0} (f : A → MOwner) (same : A → Bool) (o : MOwner) → ((a : A) → same a ≡ true → f a ≡ o) →
    (items : List ItemTree) (q : List ℕ) (k : ℕ) → variant_number items o q ≡ Some k →
    (xs : List A) → list_any same xs ≡ true → IsMember (o, k) (variants_named items q (map f xs))
unfolding IsMember
member_named f same o is items q k at [] h = absurd cc
member_named {A} f same o is items q k at (x ∷ xs) h = by (same x) refl (member_named f same o is items q k at xs)
  where
    here : f x ≡ o → (p : MOwner × ℕ → Bool) → list_all p (variants_named items q (map f (x ∷ xs))) ≡ true → p (o, k) ≡ true
    here e p all = (and_parts (p (o, k)) (list_all p (variants_named items q (map f xs))) (rw (e, at) at all)).0

    later : (n : Option ℕ) (p : MOwner × ℕ → Bool) → list_all p (and_variant (f x) n (variants_named items q (map f xs))) ≡ true → list_all p (variants_named items q (map f xs)) ≡ true
    later None p all = all
    later (Some j) p all = (and_parts (p (f x, j)) (list_all p (variants_named items q (map f xs))) all).1

    by : (b : Bool) → same x ≡ b → (list_any same xs ≡ true → (p : MOwner × ℕ → Bool) → list_all p (variants_named items q (map f xs)) ≡ true → p (o, k) ≡ true) →
        (p : MOwner × ℕ → Bool) → list_all p (variants_named items q (map f (x ∷ xs))) ≡ true → p (o, k) ≡ true
    by true e rest p all = here (is x e) p all
    by false e rest p all = rest (rw e at h) p (later (variant_number items (f x) q) p all)

absorbed : (vs : List (MOwner × ℕ)) (o : MOwner) (k : ℕ) → IsMember (o, k) vs → with_variant (agreed vs) o k ≡ agreed vs
unfolding IsMember
absorbed [] o k h = absurd (let e : false ≡ true = h (λ w. false) refl in cc)
absorbed (v ∷ vs) o k h = by (list_all (same_variant v) vs) refl
  where
    by : (b : Bool) → list_all (same_variant v) vs ≡ b → with_variant (cond b (FoundVariant v.0 v.1) FoundTwice) o k ≡ cond b (FoundVariant v.0 v.1) FoundTwice
    by true e =
        let first : same_variant v v ≡ true = variant_same v.0 v.1 in
        let there : same_variant v (o, k) ≡ true = h (same_variant v) (rw (first, e) refl) in
        rw there refl
    by false e = refl

-- an enum that is there gives nothing more
pub owner_again : {A : Type 0} (f : A → MOwner) (same : A → Bool) (o : MOwner) → ((a : A) → same a ≡ true → f a ≡ o) →
    (items : List ItemTree) (q : List ℕ) (xs : List A) → list_any same xs ≡ true →
    joined (agreed (variants_named items q (map f xs))) (numbered o (variant_number items o q)) ≡ agreed (variants_named items q (map f xs))
owner_again {A} f same o is items q xs h = by (variant_number items o q) refl
  where
    by : (n : Option ℕ) → variant_number items o q ≡ n → joined (agreed (variants_named items q (map f xs))) (numbered o n) ≡ agreed (variants_named items q (map f xs))
    by None e = refl
    by (Some k) e = absorbed (variants_named items q (map f xs)) o k (member_named f same o is items q k e xs h)

-- no variant has a name that none of their names is
among_map : {A : Type 0} (f : A → List ℕ) (q : List ℕ) (xs : List A) → is_among q (map f xs) ≡ list_any (λ x. is_name q (Some (f x))) xs
among_map f q [] = refl
among_map f q (x ∷ xs) = ap (λ b. bytes_eq q (f x) || b) (among_map f q xs)

pub unmasked : (items : List ItemTree) (o : MOwner) (q : List ℕ) (names : List (List ℕ)) → names ≡ map (λ v. v.0) (owner_variants items o) →
    masked (is_among q names) (numbered o (variant_number items o q)) ≡ numbered o (variant_number items o q)
unmasked items o q names are = by (is_among q names) refl
  where
    by : (b : Bool) → is_among q names ≡ b → masked b (numbered o (variant_number items o q)) ≡ numbered o (variant_number items o q)
    by true e = refl
    by false e =
        let none : list_any (λ v. is_name q (Some v.0)) (owner_variants items o) ≡ false =
        sym (among_map (λ (v : List ℕ × FormKind). v.0) q (owner_variants items o)) ∙ (ap (is_among q) (sym are) ∙ e) in
        ap (numbered o) (sym (none_first (λ v. is_name q (Some v.0)) (owner_variants items o) none))

names_of_variants : (vs : List VariantTree) → map (λ v. v.name) vs ≡ map (λ v. v.0) (map named_variant vs)
names_of_variants [] = refl
names_of_variants (v ∷ vs) = ap (λ (ns : List (List ℕ)). v.name ∷ ns) (names_of_variants vs)

-- the names of the variants of an item
pub item_names : (items : List ItemTree) (i : ℕ) (vs : List VariantTree) → vs ≡ item_variants (slice_get items i) →
    map (λ v. v.name) vs ≡ map (λ v. v.0) (owner_variants items (DeclaredItem i))
item_names items i vs are = names_of_variants vs ∙ ap (λ (ws : List VariantTree). map (λ v. v.0) (map named_variant ws)) are

-- an item of a list is the same with itself in place of what stands for none
pub get_or_same : {A : Type 0} (xs : List A) (i : ℕ) (d : A) → get_or xs i d ≡ get_or xs i (get_or xs i d)
get_or_same (x ∷ xs) (suc i) d = get_or_same xs i d
get_or_same _ _ d = refl

-- what is no enum has no variants
pub item_path : (items : List ItemTree) (i : ℕ) (q : List ℕ) → numbered (DeclaredItem i) (variant_number items (DeclaredItem i) q) ≡ variant_in items (enum_item i (slice_get items i)) q
item_path items i q = by (slice_get items i) refl
  where
    of_kind : (item : ItemTree) (k : KindTree) → item.kind ≡ k → slice_get items i ≡ Some item → numbered (DeclaredItem i) (variant_number items (DeclaredItem i) q) ≡ variant_in items (enum_item i (Some item)) q
    of_kind item (Enum n vs) k e = rw k refl
    of_kind item (Struct n form) k e = rw (e, k) refl
    of_kind item (Import owner names) k e = rw (e, k) refl
    of_kind item (Function n parameter deref arms) k e = rw (e, k) refl

    by : (o : Option ItemTree) → slice_get items i ≡ o → numbered (DeclaredItem i) (variant_number items (DeclaredItem i) q) ≡ variant_in items (enum_item i o) q
    by None e = rw e refl
    by (Some item) e = of_kind item item.kind refl e

-- a look-up of a name that is written
pub told_if : (n q : List ℕ) (target : Target) (old : Option Target) → told (cond (bytes_eq n q) (Some target) old) ≡ cond (bytes_eq q n) (target_view target) (told old)
told_if n q target old = by (bytes_eq n q) ∙ ap (λ b. cond b (target_view target) (told old)) (nat_list_eq_equiv.symm n q)
  where
    by : (b : Bool) → told (cond b (Some target) old) ≡ cond b (target_view target) (told old)
    by true = refl
    by false = refl

pub masked_nothing : (b : Bool) (f : FoundTree) → joined f (masked b FoundNothing) ≡ f
masked_nothing true f = refl
masked_nothing false f = refl

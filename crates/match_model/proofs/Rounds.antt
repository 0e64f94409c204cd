-- Every program whose fields are types has marks that tell emptiness. Whether a declared type has a value depends only on which of its
-- arguments have one, and is found in rounds.
use Rattle.std.proofs.Common.{◌≡◌, ◌⊎◌, inl, inr, ℕ, zero, suc, ◌+◌, ◌<◌, ◌≤◌, pos, Bool, true, false, not, ◌&&◌, ◌||◌, List, [], ◌∷◌, ◌++◌, map, Option, Some, None, nat_eq, length, refl, ap, sym, ◌∙◌, arith, slice_get}
use Rattle.std.specs.List.{list_any}
use Rattle.std.specs.Prelude.{⊤, option_map}
use Rattle.match_model.specs.Types.{MOwner, DeclaredItem, OptionOwner, ResultOwner, MOpaque, StringName, F32Name, F64Name, BoxName, VecName, RcName, ArcName, ParameterName, MType, BoolType, CharType, StrType, NeverType, IntType, OpaqueType, TupleType, PointType, SliceType, ArrayType, NamedType, MTypes, no_types, more_types, types_list}
use Rattle.match_model.specs.Declarations.{MVariant, MItem, MProgram, form_types, variant_types, item_variants, item_is_marked, item_is_bare, argument, filled, filled_all, filled_variant, declared, node_types}
use Rattle.match_model.specs.Values.{Flag, Num, Text, Node, Row, Thing, Later, Unseen, no_values, more_values}
use Rattle.match_model.specs.Typing.{is_value, are_values}
use Rattle.match_model.specs.RustTypes.{is_declared, is_type, are_types, FieldsAreTypes}
use Rattle.match_model.specs.Emptiness.{has_value, all_have_value, some_variant_has_value, AreMarks}
use Rattle.match_model.proofs.Basics.{both, and_true, or_left, or_right, untrue, form_filled, named_types}
use Rattle.match_model.proofs.Inhabited.{Found, AllFound, zero_is, not_zero, point_found, array_found, tuple_found, more_found}
use Rattle.match_model.proofs.RustParts.{filled_is, all_filled}

module _ (sure : Bool) where
  -- ---- which types have a value, where it is known of the parameters

  -- whether the argument with this number has a value
  abbrev bit : List Bool → ℕ → Bool
  bit [] n = true
  bit (b ∷ bs) zero = b
  bit (b ∷ bs) (suc n) = bit bs n

  -- of an item, and of which of its arguments have values, whether its type has one
  abbrev Marks : Type 0
  Marks = ℕ → List Bool → Bool

  abbrev opaque_bit : List Bool → MOpaque → Bool
  opaque_bit e (ParameterName n) = bit e n
  opaque_bit e _ = true

  abbrev owner_has : Marks → MOwner → List Bool → Bool
  owner_has m (DeclaredItem i) bs = m i bs
  owner_has m OptionOwner bs = true
  owner_has m ResultOwner bs = bit bs 0 || bit bs 1

  abbrev mutual
    has : Marks → List Bool → MType → Bool
    has m e NeverType = not sure
    has m e (OpaqueType name ts) = opaque_bit e name
    has m e (TupleType ts) = all_has m e ts
    has m e (PointType mutable t) = sure || has m e t
    has m e (ArrayType t n) = nat_eq n 0 || has m e t
    has m e (NamedType owner ts) = owner_has m owner (bits m e ts)
    has m e _ = true

    all_has : Marks → List Bool → MTypes → Bool
    all_has m e no_types = true
    all_has m e (more_types t ts) = has m e t && all_has m e ts

    bits : Marks → List Bool → MTypes → List Bool
    bits m e no_types = []
    bits m e (more_types t ts) = has m e t ∷ bits m e ts

  abbrev some_has : Marks → List Bool → List MVariant → Bool
  some_has m e vs = list_any (λ v. all_has m e (form_types v.form)) vs

  abbrev item_has : Marks → List Bool → Option MItem → Bool
  item_has m e o = item_is_marked o || ((item_is_bare o && not sure) || some_has m e (item_variants o))

  -- what is known after so many rounds
  abbrev round : MProgram → ℕ → Marks
  round program zero i e = false
  round program (suc n) i e = item_has (round program n) e (slice_get program.items i)

  -- ---- nothing is forgotten

  abbrev Leq : List Bool → List Bool → Type 0
  Leq e f = (k : ℕ) → bit e k ≡ true → bit f k ≡ true

  abbrev Below : Marks → Marks → Type 0
  Below m n = (i : ℕ) (e f : List Bool) → Leq e f → m i e ≡ true → n i f ≡ true

  or_up : (a b c : Bool) → (b ≡ true → c ≡ true) → (a || b) ≡ true → (a || c) ≡ true
  or_up true b c f h = refl
  or_up false b c f h = f h

  either_up : (a b c d : Bool) → (a ≡ true → c ≡ true) → (b ≡ true → d ≡ true) → (a || b) ≡ true → (c || d) ≡ true
  either_up true b c d f g h = or_left c d (f refl)
  either_up false b c d f g h = or_right c d (g h)

  module _ (m n : Marks) (up : Below m n) where
    opaque_up : (e f : List Bool) → Leq e f → (name : MOpaque) → opaque_bit e name ≡ true → opaque_bit f name ≡ true
    opaque_up e f l (ParameterName k) h = l k h
    opaque_up e f l _ h = refl

    owner_up : (owner : MOwner) (e f : List Bool) → Leq e f → owner_has m owner e ≡ true → owner_has n owner f ≡ true
    owner_up (DeclaredItem i) e f l h = up i e f l h
    owner_up OptionOwner e f l h = refl
    owner_up ResultOwner e f l h = either_up (bit e 0) (bit e 1) (bit f 0) (bit f 1) (l 0) (l 1) h

    mutual
      has_up : (e f : List Bool) → Leq e f → (t : MType) → has m e t ≡ true → has n f t ≡ true
      has_up e f l NeverType h = h
      has_up e f l (OpaqueType name ts) h = opaque_up e f l name h
      has_up e f l (TupleType ts) h = all_up e f l ts h
      has_up e f l (ArrayType t k) h = or_up (nat_eq k 0) (has m e t) (has n f t) (has_up e f l t) h
      has_up e f l (NamedType owner ts) h = owner_up owner (bits m e ts) (bits n f ts) (bits_up e f l ts) h
      has_up e f l BoolType h = refl
      has_up e f l CharType h = refl
      has_up e f l StrType h = refl
      has_up e f l (IntType kind) h = refl
      has_up e f l (PointType mutable t) h = or_up sure (has m e t) (has n f t) (has_up e f l t) h
      has_up e f l (SliceType t) h = refl

      all_up : (e f : List Bool) → Leq e f → (ts : MTypes) → all_has m e ts ≡ true → all_has n f ts ≡ true
      all_up e f l no_types h = refl
      all_up e f l (more_types t ts) h = let b = both (has m e t) _ h in and_true _ _ (has_up e f l t b.0) (all_up e f l ts b.1)

      bits_up : (e f : List Bool) → Leq e f → (ts : MTypes) (k : ℕ) → bit (bits m e ts) k ≡ true → bit (bits n f ts) k ≡ true
      bits_up e f l no_types k h = refl
      bits_up e f l (more_types t ts) zero h = has_up e f l t h
      bits_up e f l (more_types t ts) (suc k) h = bits_up e f l ts k h

    some_up : (e f : List Bool) → Leq e f → (vs : List MVariant) → some_has m e vs ≡ true → some_has n f vs ≡ true
    some_up e f l [] h = h
    some_up e f l (v ∷ vs) h = either_up _ _ _ _ (all_up e f l (form_types v.form)) (some_up e f l vs) h

  rounds_up : (program : MProgram) (n : ℕ) → Below (round program n) (round program (suc n))
  rounds_up program zero i e f l h = absurd (untrue h)
  rounds_up program (suc n) i e f l h =
      or_up (item_is_marked (slice_get program.items i)) _ _
      (or_up (item_is_bare (slice_get program.items i) && not sure) _ _
      (some_up (round program n) (round program (suc n)) (rounds_up program n) e f l (item_variants (slice_get program.items i)))) h

  -- ---- only lists of arguments that are written somewhere are asked

  abbrev mutual
    Narrow : ℕ → MType → Type 0
    Narrow w (TupleType ts) = AllNarrow w ts
    Narrow w (PointType mutable t) = Narrow w t
    Narrow w (ArrayType t n) = Narrow w t
    Narrow w (NamedType owner ts) = (length (types_list ts) ≤ w) × AllNarrow w ts
    Narrow w _ = ⊤

    AllNarrow : ℕ → MTypes → Type 0
    AllNarrow w no_types = ⊤
    AllNarrow w (more_types t ts) = Narrow w t × AllNarrow w ts

  abbrev VariantsNarrow : ℕ → List MVariant → Type 0
  VariantsNarrow w [] = ⊤
  VariantsNarrow w (v ∷ vs) = AllNarrow w (form_types v.form) × VariantsNarrow w vs

  -- there is a width, from which on all are narrow
  abbrev Wide : (ℕ → Type 0) → Type 0
  Wide P = (w : ℕ) × ((v : ℕ) → w ≤ v → P v)

  both_wide : {P Q : ℕ → Type 0} → Wide P → Wide Q → Wide (λ w. P w × Q w)
  both_wide (w, f) (v, g) = (w + v, λ u l. (f u (omega (arith, l)), g u (omega (arith, l))))

  mutual
    type_wide : (t : MType) → Wide (λ w. Narrow w t)
    type_wide (TupleType ts) = types_wide ts
    type_wide (ArrayType t n) = type_wide t
    type_wide (NamedType owner ts) = both_wide {P = λ w. length (types_list ts) ≤ w} (length (types_list ts), λ v l. l) (types_wide ts)
    type_wide BoolType = (0, λ v l. tt)
    type_wide CharType = (0, λ v l. tt)
    type_wide StrType = (0, λ v l. tt)
    type_wide NeverType = (0, λ v l. tt)
    type_wide (IntType kind) = (0, λ v l. tt)
    type_wide (OpaqueType name ts) = (0, λ v l. tt)
    type_wide (PointType mutable t) = type_wide t
    type_wide (SliceType t) = (0, λ v l. tt)

    types_wide : (ts : MTypes) → Wide (λ w. AllNarrow w ts)
    types_wide no_types = (0, λ v l. tt)
    types_wide (more_types t ts) = both_wide (type_wide t) (types_wide ts)

  variants_wide : (vs : List MVariant) → Wide (λ w. VariantsNarrow w vs)
  variants_wide [] = (0, λ v l. tt)
  variants_wide (v ∷ vs) = both_wide (types_wide (form_types v.form)) (variants_wide vs)

  items_wide : (items : List MItem) → Wide (λ w. (i : ℕ) → VariantsNarrow w (item_variants (slice_get items i)))
  items_wide [] = (0, λ v l i. tt)
  items_wide (x ∷ items) = by (variants_wide (item_variants (Some x))) (items_wide items)
    where
      by : Wide (λ w. VariantsNarrow w (item_variants (Some x))) → Wide (λ w. (i : ℕ) → VariantsNarrow w (item_variants (slice_get items i))) →
          Wide (λ w. (i : ℕ) → VariantsNarrow w (item_variants (slice_get (x ∷ items) i)))
      by (w, f) (v, g) = (w + v, λ u l i. at u (f u (omega (arith, l))) (g u (omega (arith, l))) i)
        where
          at : (u : ℕ) → VariantsNarrow u (item_variants (Some x)) → ((i : ℕ) → VariantsNarrow u (item_variants (slice_get items i))) → (i : ℕ) →
              VariantsNarrow u (item_variants (slice_get (x ∷ items) i))
          at u p q zero = p
          at u p q (suc i) = q i

  -- ---- what agrees on these agrees in the next round everywhere

  abbrev Agree : ℕ → Marks → Marks → Type 0
  Agree w m n = (i : ℕ) (e : List Bool) → length e ≤ w → m i e ≡ n i e

  module _ (w : ℕ) (m n : Marks) (agree : Agree w m n) where
    bits_count : (k : Marks) (e : List Bool) (ts : MTypes) → length (bits k e ts) ≡ length (types_list ts)
    bits_count k e no_types = refl
    bits_count k e (more_types t ts) = ap suc (bits_count k e ts)

    owner_same : (owner : MOwner) (e f : List Bool) → e ≡ f → length e ≤ w → owner_has m owner e ≡ owner_has n owner f
    owner_same (DeclaredItem i) e f s l = agree i e l ∙ ap (n i) s
    owner_same OptionOwner e f s l = refl
    owner_same ResultOwner e f s l = ap (λ g. bit g 0 || bit g 1) s

    mutual
      has_same : (e : List Bool) (t : MType) → Narrow w t → has m e t ≡ has n e t
      has_same e (TupleType ts) h = all_same e ts h
      has_same e (ArrayType t k) h = ap (λ b. nat_eq k 0 || b) (has_same e t h)
      has_same e (NamedType owner ts) h =
          owner_same owner (bits m e ts) (bits n e ts) (bits_same e ts h.1) (short (bits_count m e ts) h.0)
        where
          short : {a b c : ℕ} → a ≡ b → b ≤ c → a ≤ c
          short s l = omega (arith, s, l)
      has_same e BoolType h = refl
      has_same e CharType h = refl
      has_same e StrType h = refl
      has_same e NeverType h = refl
      has_same e (IntType kind) h = refl
      has_same e (OpaqueType name ts) h = refl
      has_same e (PointType mutable t) h = ap (λ b. sure || b) (has_same e t h)
      has_same e (SliceType t) h = refl

      all_same : (e : List Bool) (ts : MTypes) → AllNarrow w ts → all_has m e ts ≡ all_has n e ts
      all_same e no_types h = refl
      all_same e (more_types t ts) h = ap (λ b. b && all_has m e ts) (has_same e t h.0) ∙ ap (λ b. has n e t && b) (all_same e ts h.1)

      bits_same : (e : List Bool) (ts : MTypes) → AllNarrow w ts → bits m e ts ≡ bits n e ts
      bits_same e no_types h = refl
      bits_same e (more_types t ts) h = ap (λ (b : Bool). b ∷ bits m e ts) (has_same e t h.0) ∙ ap (λ (bs : List Bool). has n e t ∷ bs) (bits_same e ts h.1)

    some_same : (e : List Bool) (vs : List MVariant) → VariantsNarrow w vs → some_has m e vs ≡ some_has n e vs
    some_same e [] h = refl
    some_same e (v ∷ vs) h =
        ap (λ b. b || some_has m e vs) (all_same e (form_types v.form) h.0) ∙ ap (λ b. all_has n e (form_types v.form) || b) (some_same e vs h.1)

  -- ---- some round is the last

  abbrev Pair : Type 0
  Pair = ℕ × List Bool

  data Among {A : Type 0} (x : A) : List A → Type 0 where
    here : (xs : List A) → Among x (x ∷ xs)
    there : (y : A) (xs : List A) → Among x xs → Among x (y ∷ xs)

  among_left : {A : Type 0} (x : A) (xs ys : List A) → Among x xs → Among x (xs ++ ys)
  among_left x _ ys (here xs) = here (xs ++ ys)
  among_left x _ ys (there y xs a) = there y (xs ++ ys) (among_left x xs ys a)

  among_right : {A : Type 0} (x : A) (xs ys : List A) → Among x ys → Among x (xs ++ ys)
  among_right x [] ys a = a
  among_right x (y ∷ xs) ys a = there y (xs ++ ys) (among_right x xs ys a)

  among_map : {A B : Type 0} (f : A → B) (x : A) (xs : List A) → Among x xs → Among (f x) (map f xs)
  among_map f x _ (here xs) = here (map f xs)
  among_map f x _ (there y xs a) = there (f y) (map f xs) (among_map f x xs a)

  -- all lists of so many bits at most
  lists : ℕ → List (List Bool)
  lists zero = [] ∷ []
  lists (suc w) = [] ∷ (map (λ (e : List Bool). true ∷ e) (lists w) ++ map (λ (e : List Bool). false ∷ e) (lists w))

  all_lists : (w : ℕ) (e : List Bool) → length e ≤ w → Among e (lists w)
  unfolding lists
  all_lists zero [] l = here []
  all_lists zero (b ∷ e) l = absurd (omega (arith, l))
  all_lists (suc w) [] l = here _
  all_lists (suc w) (true ∷ e) l =
      there [] _ (among_left (true ∷ e) (map (λ (e : List Bool). true ∷ e) (lists w)) (map (λ (e : List Bool). false ∷ e) (lists w))
      (among_map (λ (e : List Bool). true ∷ e) e (lists w) (all_lists w e (omega (arith, l)))))
  all_lists (suc w) (false ∷ e) l =
      there [] _ (among_right (false ∷ e) (map (λ (e : List Bool). true ∷ e) (lists w)) (map (λ (e : List Bool). false ∷ e) (lists w))
      (among_map (λ (e : List Bool). false ∷ e) e (lists w) (all_lists w e (omega (arith, l)))))

  -- all pairs of a number below `n` and such a list
  pairs : (w n : ℕ) → List Pair
  pairs w zero = []
  pairs w (suc n) = map (λ (e : List Bool). (n, e)) (lists w) ++ pairs w n

  all_pairs : (w n i : ℕ) (e : List Bool) → i < n → length e ≤ w → Among (i, e) (pairs w n)
  unfolding pairs
  all_pairs w zero i e k l = absurd (omega (arith, k))
  all_pairs w (suc n) i e k l = go (less_or_same i n k) (λ m. all_pairs w n i e m l)
    where
      less_or_same : (i n : ℕ) → i < suc n → (i < n) ⊎ (i ≡ n)
      less_or_same i n l = grind (arith, l)

      go : (i < n) ⊎ (i ≡ n) → (i < n → Among (i, e) (pairs w n)) → Among (i, e) (map (λ (e : List Bool). (n, e)) (lists w) ++ pairs w n)
      go (inl m) f = among_right (i, e) (map (λ (e : List Bool). (n, e)) (lists w)) (pairs w n) (f m)
      go (inr s) f = rw s (among_left (n, e) (map (λ (e : List Bool). (n, e)) (lists w)) (pairs w n) (among_map (λ (e : List Bool). (n, e)) e (lists w) (all_lists w e l)))

  one : Bool → ℕ
  one true = 1
  one false = 0

  count : Marks → List Pair → ℕ
  count m [] = 0
  count m (p ∷ ps) = one (m p.0 p.1) + count m ps

  abbrev SameOn : Marks → Marks → List Pair → Type 0
  SameOn m n [] = ⊤
  SameOn m n (p ∷ ps) = (m p.0 p.1 ≡ n p.0 p.1) × SameOn m n ps

  same_at : (m n : Marks) (p : Pair) (ps : List Pair) → SameOn m n ps → Among p ps → m p.0 p.1 ≡ n p.0 p.1
  same_at m n p _ s (here ps) = s.0
  same_at m n p _ s (there q ps a) = same_at m n p ps s.1 a

  count_few : (m : Marks) (ps : List Pair) → count m ps ≤ length ps
  unfolding count one
  count_few m [] = omega arith
  count_few m (p ∷ ps) = by (m p.0 p.1) (count_few m ps)
    where
      by : (b : Bool) → count m ps ≤ length ps → one b + count m ps ≤ suc (length ps)
      by true l = omega (arith, l)
      by false l = omega (arith, l)

  record Counted (m n : Marks) (ps : List Pair) : Type 0 where
    le : count m ps ≤ count n ps
    either : SameOn m n ps ⊎ (count m ps < count n ps)

  same_or_more : (m n : Marks) → ((i : ℕ) (e : List Bool) → m i e ≡ true → n i e ≡ true) → (ps : List Pair) → Counted m n ps
  unfolding count one
  same_or_more m n up [] = record { le = omega arith; either = inl tt }
  same_or_more m n up (p ∷ ps) = by (m p.0 p.1) (n p.0 p.1) refl refl (same_or_more m n up ps)
    where
      by : (b c : Bool) → m p.0 p.1 ≡ b → n p.0 p.1 ≡ c → Counted m n ps → Counted m n (p ∷ ps)
      by true true e f r = record {
        le = let l = r.le in rw (e, f) (omega (arith, l));
        either = elim r.either [ inl s ↦ inl (e ∙ sym f, s) | inr l ↦ inr (rw (e, f) (omega (arith, l))) ];
      }
      by false false e f r = record {
        le = let l = r.le in rw (e, f) (omega (arith, l));
        either = elim r.either [ inl s ↦ inl (e ∙ sym f, s) | inr l ↦ inr (rw (e, f) (omega (arith, l))) ];
      }
      by false true e f r = record {
        le = let l = r.le in rw (e, f) (omega (arith, l));
        either = inr (let l = r.le in rw (e, f) (omega (arith, l)));
      }
      by true false e f r = absurd (untrue (sym f ∙ up p.0 p.1 e))

  module _ (program : MProgram) where
    none_at : (n i : ℕ) (e : List Bool) → slice_get program.items i ≡ None → round program n i e ≡ false
    none_at zero i e h = refl
    none_at (suc n) i e h = rw h refl

    leq_itself : (e : List Bool) → Leq e e
    leq_itself e k h = h

    up : (n i : ℕ) (e : List Bool) → round program n i e ≡ true → round program (suc n) i e ≡ true
    up n i e h = rounds_up program n i e e (leq_itself e) h

    find : (ps : List Pair) (fuel n : ℕ) → length ps < count (round program n) ps + fuel → (k : ℕ) × SameOn (round program k) (round program (suc k)) ps
    find ps zero n l = let few = count_few (round program n) ps in absurd (omega (arith, few, l))
    find ps (suc fuel) n l = by (same_or_more (round program n) (round program (suc n)) (up n) ps).either
        (λ more. find ps fuel (suc n) (omega (arith, more, l)))
      where
        by : SameOn (round program n) (round program (suc n)) ps ⊎ (count (round program n) ps < count (round program (suc n)) ps) →
            (count (round program n) ps < count (round program (suc n)) ps → (k : ℕ) × SameOn (round program k) (round program (suc k)) ps) →
            (k : ℕ) × SameOn (round program k) (round program (suc k)) ps
        by (inl s) more = (n, s)
        by (inr l) more = more l

  there_or_none : (items : List MItem) (i : ℕ) → (i < length items) ⊎ (slice_get items i ≡ None)
  there_or_none [] i = inr refl
  there_or_none (x ∷ items) zero = inl (omega arith)
  there_or_none (x ∷ items) (suc i) = by (there_or_none items i)
    where
      by : (i < length items) ⊎ (slice_get items i ≡ None) → (suc i < length (x ∷ items)) ⊎ (slice_get items i ≡ None)
      by (inl l) = inl (omega (arith, l))
      by (inr e) = inr e

  -- a round behind which nothing is new
  record IsLast (program : MProgram) (n : ℕ) : Type 0 where
    nothing_new : (i : ℕ) (e : List Bool) → round program (suc n) i e ≡ true → round program n i e ≡ true

  last_round : (program : MProgram) → (n : ℕ) × IsLast program n
  last_round program = (suc k, record { nothing_new = λ i e h. step i e ∙ h })
    where
      wide : Wide (λ w. (i : ℕ) → VariantsNarrow w (item_variants (slice_get program.items i)))
      wide = items_wide program.items

      w : ℕ
      w = wide.0

      ps : List Pair
      ps = pairs w (length program.items)

      found : (k : ℕ) × SameOn (round program k) (round program (suc k)) ps
      found = find program ps (suc (length ps)) 0 (omega arith)

      k : ℕ
      k = found.0

      agree : Agree w (round program k) (round program (suc k))
      agree i e l = elim (there_or_none program.items i) [
        | inl t ↦ same_at (round program k) (round program (suc k)) (i, e) ps found.1 (all_pairs w (length program.items) i e t l)
        | inr z ↦ none_at program k i e z ∙ sym (none_at program (suc k) i e z)
      ]

      step : (i : ℕ) (e : List Bool) → round program (suc k) i e ≡ round program (suc (suc k)) i e
      step i e =
          ap (λ b. item_is_marked (slice_get program.items i) || ((item_is_bare (slice_get program.items i) && not sure) || b))
          (some_same w (round program k) (round program (suc k)) agree e (item_variants (slice_get program.items i)) (wide.1 w (omega arith) i))

  -- ---- what is known of the parameters is known of the arguments

  module _ (m : Marks) where
    -- by the marks the type has a value
    abbrev holds : MType → Bool
    holds t = has m [] t

    opaque_holds : (name : MOpaque) → opaque_bit [] name ≡ true
    opaque_holds StringName = refl
    opaque_holds F32Name = refl
    opaque_holds F64Name = refl
    opaque_holds BoxName = refl
    opaque_holds VecName = refl
    opaque_holds RcName = refl
    opaque_holds ArcName = refl
    opaque_holds (ParameterName n) = refl

    mutual
      closed : (t : MType) → has_value sure holds t ≡ holds t
      closed BoolType = refl
      closed CharType = refl
      closed StrType = refl
      closed NeverType = refl
      closed (IntType kind) = refl
      closed (OpaqueType name ts) = sym (opaque_holds name)
      closed (TupleType ts) = all_closed ts
      closed (PointType mutable t) = ap (λ b. sure || b) (closed t)
      closed (SliceType t) = refl
      closed (ArrayType t n) = ap (λ b. nat_eq n 0 || b) (closed t)
      closed (NamedType owner ts) = refl

      all_closed : (ts : MTypes) → all_have_value sure holds ts ≡ all_has m [] ts
      all_closed no_types = refl
      all_closed (more_types t ts) = ap (λ b. b && all_have_value sure holds ts) (closed t) ∙ ap (λ b. has m [] t && b) (all_closed ts)

    argument_holds : (args : MTypes) (n : ℕ) → holds (argument args n) ≡ bit (bits m [] args) n
    argument_holds no_types n = refl
    argument_holds (more_types t ts) zero = refl
    argument_holds (more_types t ts) (suc n) = argument_holds ts n

    mutual
      filled_holds : (args : MTypes) (t : MType) → holds (filled args t) ≡ has m (bits m [] args) t
      filled_holds args BoolType = refl
      filled_holds args CharType = refl
      filled_holds args StrType = refl
      filled_holds args NeverType = refl
      filled_holds args (IntType kind) = refl
      filled_holds args (OpaqueType (ParameterName n) ts) = argument_holds args n
      filled_holds args (OpaqueType StringName ts) = refl
      filled_holds args (OpaqueType F32Name ts) = refl
      filled_holds args (OpaqueType F64Name ts) = refl
      filled_holds args (OpaqueType BoxName ts) = refl
      filled_holds args (OpaqueType VecName ts) = refl
      filled_holds args (OpaqueType RcName ts) = refl
      filled_holds args (OpaqueType ArcName ts) = refl
      filled_holds args (TupleType ts) = all_filled_hold args ts
      filled_holds args (PointType mutable t) = ap (λ b. sure || b) (filled_holds args t)
      filled_holds args (SliceType t) = refl
      filled_holds args (ArrayType t n) = ap (λ b. nat_eq n 0 || b) (filled_holds args t)
      filled_holds args (NamedType owner ts) = ap (owner_has m owner) (bits_filled args ts)

      all_filled_hold : (args ts : MTypes) → all_has m [] (filled_all args ts) ≡ all_has m (bits m [] args) ts
      all_filled_hold args no_types = refl
      all_filled_hold args (more_types t ts) =
          ap (λ b. b && all_has m [] (filled_all args ts)) (filled_holds args t) ∙ ap (λ b. has m (bits m [] args) t && b) (all_filled_hold args ts)

      bits_filled : (args ts : MTypes) → bits m [] (filled_all args ts) ≡ bits m (bits m [] args) ts
      bits_filled args no_types = refl
      bits_filled args (more_types t ts) =
          ap (λ (b : Bool). b ∷ bits m [] (filled_all args ts)) (filled_holds args t)
          ∙ ap (λ (bs : List Bool). has m (bits m [] args) t ∷ bs) (bits_filled args ts)

    variants_hold : (args : MTypes) (vs : List MVariant) →
        list_any (λ v. all_have_value sure holds (form_types v.form)) (map (filled_variant args) vs) ≡ some_has m (bits m [] args) vs
    variants_hold args [] = refl
    variants_hold args (v ∷ vs) =
        ap (λ b. b || list_any (λ v. all_have_value sure holds (form_types v.form)) (map (filled_variant args) vs))
        (ap (all_have_value sure holds) (form_filled args v.form) ∙ all_closed (filled_all args (form_types v.form)) ∙ all_filled_hold args (form_types v.form))
        ∙ ap (λ b. all_has m (bits m [] args) (form_types v.form) || b) (variants_hold args vs)

    named_holds : (program : MProgram) (owner : MOwner) (args : MTypes) →
        some_variant_has_value program sure holds (NamedType owner args) ≡ item_has m (bits m [] args) (declared program owner)
    named_holds program owner args = ap (λ b. item_is_marked (declared program owner) || ((item_is_bare (declared program owner) && not sure) || b)) (variants_hold args (item_variants (declared program owner)))

  -- ---- what is known is so

  abbrev Passing : Marks → List Bool → List MVariant → Type 0
  Passing m e vs = (k : ℕ) × (ts : MTypes) × (variant_types (slice_get vs k) ≡ Some ts) × (all_has m e ts ≡ true)

  passing_variant : (m : Marks) (e : List Bool) (vs : List MVariant) → some_has m e vs ≡ true → Passing m e vs
  passing_variant m e [] h = absurd (untrue h)
  passing_variant m e (v ∷ vs) h = go (all_has m e (form_types v.form)) refl h (passing_variant m e vs)
    where
      further : Passing m e vs → Passing m e (v ∷ vs)
      further (k, ts, is, all) = (suc k, ts, is, all)

      go : (b : Bool) → all_has m e (form_types v.form) ≡ b → (b || some_has m e vs) ≡ true → (some_has m e vs ≡ true → Passing m e vs) → Passing m e (v ∷ vs)
      go true f h rest = (0, form_types v.form, refl, f)
      go false f h rest = further (rest h)

  either_of : {A : Type 0} (a b : Bool) → (a || b) ≡ true → (a ≡ true → A) → (b ≡ true → A) → A
  either_of true b h f g = f refl
  either_of false b h f g = g h

  result_found : (program : MProgram) (args : MTypes) (a b : Bool) → (a || b) ≡ true → (a ≡ true → Found program sure (argument args 0)) →
      (b ≡ true → Found program sure (argument args 1)) → Found program sure (NamedType ResultOwner args)
  result_found program args a b h f g = either_of a b h (λ x. ok (f x)) (λ x. err (g x))
    where
      ok : Found program sure (argument args 0) → Found program sure (NamedType ResultOwner args)
      ok (v, h) = (Node 0 (more_values v no_values), and_true _ true h refl)

      err : Found program sure (argument args 1) → Found program sure (NamedType ResultOwner args)
      err (v, h) = (Node 1 (more_values v no_values), and_true _ true h refl)

  -- a value of a reference
  pointed : (program : MProgram) (mutable : Bool) (t : MType) (s : Bool) → sure ≡ s → (b : Bool) → (sure || b) ≡ true →
      (sure ≡ true → Found program false t) → (b ≡ true → Found program sure t) → Found program sure (PointType mutable t)
  pointed program mutable t true e b h f g = point_found program sure mutable t (f e)
  pointed program mutable t false e b h f g =
      let r = g (or_false sure b e h) in
      point_found program sure mutable t (r.0, ap (λ s. is_value program s t r.0) (sym e) ∙ r.1)
    where
      or_false : (a b : Bool) → a ≡ false → (a || b) ≡ true → b ≡ true
      or_false a b e h = grind (arith, e, h)

  -- every type has a value behind a reference that asks for none
  abbrev Behind : MProgram → Type 0
  Behind program = sure ≡ true → (t : MType) → is_type program t ≡ true → Found program false t

  module _ (program : MProgram) (fields : FieldsAreTypes program) (behind : Behind program) where
    -- by these marks an instance of an item has a value where its arguments have those that are told
    abbrev Tells : Marks → Type 0
    Tells m = (i : ℕ) (e : List Bool) (args : MTypes) → is_declared (slice_get program.items i) ≡ true → are_types program args ≡ true →
        ((k : ℕ) → bit e k ≡ true → Found program sure (argument args k)) → m i e ≡ true → Found program sure (NamedType (DeclaredItem i) args)

    module _ (m : Marks) (tells : Tells m) where
      module _ (e : List Bool) (args : MTypes) (fine : are_types program args ≡ true) (told : (k : ℕ) → bit e k ≡ true → Found program sure (argument args k)) where
        opaque_found : (name : MOpaque) (ts : MTypes) → opaque_bit e name ≡ true → Found program sure (filled args (OpaqueType name ts))
        opaque_found (ParameterName n) ts h = told n h
        opaque_found StringName ts h = (Thing, refl)
        opaque_found F32Name ts h = (Thing, refl)
        opaque_found F64Name ts h = (Thing, refl)
        opaque_found BoxName ts h = (Thing, refl)
        opaque_found VecName ts h = (Thing, refl)
        opaque_found RcName ts h = (Thing, refl)
        opaque_found ArcName ts h = (Thing, refl)

        mutual
          filled_found : (t : MType) → is_type program t ≡ true → has m e t ≡ true → Found program sure (filled args t)
          filled_found BoolType d h = (Flag true, refl)
          filled_found CharType d h = (Num (pos 0), refl)
          filled_found StrType d h = (Text [], refl)
          filled_found NeverType d h = (Unseen, and_true _ true h refl)
          filled_found (IntType kind) d h = (Num (pos 0), zero_is program.width kind)
          filled_found (OpaqueType name ts) d h = opaque_found name ts h
          filled_found (TupleType ts) d h = tuple_found program sure (filled_all args ts) (all_found ts (both _ _ d).0 h)
          filled_found (PointType mutable t) d h =
              pointed program mutable (filled args t) sure refl (has m e t) h (λ e. behind e (filled args t) (filled_is program args fine t d)) (λ g. filled_found t d g)
          filled_found (SliceType t) d h = (Row no_values, refl)
          filled_found (ArrayType t zero) d h = (Row no_values, refl)
          filled_found (ArrayType t (suc n)) d h =
              let r = filled_found t (both _ _ d).0 (not_zero n (has m e t) h) in
              array_found program sure (filled args t) (suc n) r.0 r.1
          filled_found (NamedType (DeclaredItem i) ts) d h =
              let b = both _ _ d in
              tells i (bits m e ts) (filled_all args ts) b.0 (all_filled program args fine ts b.1) (λ k g. part_found ts b.1 k g) h
          filled_found (NamedType OptionOwner ts) d h = (Node 0 no_values, refl)
          filled_found (NamedType ResultOwner ts) d h =
              result_found program (filled_all args ts) (bit (bits m e ts) 0) (bit (bits m e ts) 1) h (λ g. part_found ts d 0 g) (λ g. part_found ts d 1 g)

          all_found : (ts : MTypes) → are_types program ts ≡ true → all_has m e ts ≡ true → AllFound program sure (filled_all args ts)
          all_found no_types d h = (no_values, refl)
          all_found (more_types t ts) d h =
              let b = both (is_type program t) _ d in
              let k = both (has m e t) _ h in
              more_found program sure (filled args t) (filled_all args ts) (filled_found t b.0 k.0) (all_found ts b.1 k.1)

          part_found : (ts : MTypes) → are_types program ts ≡ true → (k : ℕ) → bit (bits m e ts) k ≡ true → Found program sure (argument (filled_all args ts) k)
          part_found no_types d k h = (Thing, refl)
          part_found (more_types t ts) d zero h = filled_found t (both (is_type program t) _ d).0 h
          part_found (more_types t ts) d (suc k) h = part_found ts (both (is_type program t) _ d).1 k h

      mutual
        type_found : (t : MType) → is_type program t ≡ true → has m [] t ≡ true → Found program sure t
        type_found BoolType d h = (Flag true, refl)
        type_found CharType d h = (Num (pos 0), refl)
        type_found StrType d h = (Text [], refl)
        type_found NeverType d h = (Unseen, and_true _ true h refl)
        type_found (IntType kind) d h = (Num (pos 0), zero_is program.width kind)
        type_found (OpaqueType name ts) d h = (Thing, refl)
        type_found (TupleType ts) d h = tuple_found program sure ts (types_found ts (both _ _ d).0 h)
        type_found (PointType mutable t) d h = pointed program mutable t sure refl (has m [] t) h (λ e. behind e t d) (λ g. type_found t d g)
        type_found (SliceType t) d h = (Row no_values, refl)
        type_found (ArrayType t zero) d h = (Row no_values, refl)
        type_found (ArrayType t (suc n)) d h =
            let r = type_found t (both _ _ d).0 (not_zero n (has m [] t) h) in
            array_found program sure t (suc n) r.0 r.1
        type_found (NamedType (DeclaredItem i) ts) d h =
            let b = both _ _ d in
            tells i (bits m [] ts) ts b.0 b.1 (λ k g. argument_is_found ts b.1 k g) h
        type_found (NamedType OptionOwner ts) d h = (Node 0 no_values, refl)
        type_found (NamedType ResultOwner ts) d h =
            result_found program ts (bit (bits m [] ts) 0) (bit (bits m [] ts) 1) h (λ g. argument_is_found ts d 0 g) (λ g. argument_is_found ts d 1 g)

        types_found : (ts : MTypes) → are_types program ts ≡ true → all_has m [] ts ≡ true → AllFound program sure ts
        types_found no_types d h = (no_values, refl)
        types_found (more_types t ts) d h =
            let b = both (is_type program t) _ d in
            let k = both (has m [] t) _ h in
            more_found program sure t ts (type_found t b.0 k.0) (types_found ts b.1 k.1)

        argument_is_found : (ts : MTypes) → are_types program ts ≡ true → (k : ℕ) → bit (bits m [] ts) k ≡ true → Found program sure (argument ts k)
        argument_is_found no_types d k h = (Thing, refl)
        argument_is_found (more_types t ts) d zero h = type_found t (both (is_type program t) _ d).0 h
        argument_is_found (more_types t ts) d (suc k) h = argument_is_found ts (both (is_type program t) _ d).1 k h

    rounds_tell : (n : ℕ) → Tells (round program n)
    rounds_tell zero i e args d fine told h = absurd (untrue h)
    rounds_tell (suc n) i e args d fine told h =
        either_of (item_is_marked (slice_get program.items i)) _ h
        (λ later. (Later, later))
        (λ rest. either_of (item_is_bare (slice_get program.items i) && not sure) (some_has (round program n) e (item_variants (slice_get program.items i))) rest
        (λ unseen. (Unseen, and_swapped (item_is_bare (slice_get program.items i)) (not sure) unseen))
        (λ some. by (passing_variant (round program n) e (item_variants (slice_get program.items i)) some)
        (λ ts typed all. all_found (round program n) (rounds_tell n) e args fine told ts typed all)))
      where
        and_swapped : (a b : Bool) → (a && b) ≡ true → (b && a) ≡ true
        and_swapped true true h = refl
        and_swapped true false h = h
        and_swapped false b h = cc

        node : (k : ℕ) (us : MTypes) → node_types program (NamedType (DeclaredItem i) args) k ≡ Some us → AllFound program sure us → Found program sure (NamedType (DeclaredItem i) args)
        node k us is (vs, g) = (Node k vs, go (node_types program (NamedType (DeclaredItem i) args) k) is)
          where
            go : (o : Option MTypes) → o ≡ Some us → (elim o [ None ↦ false | Some ts ↦ are_values program sure ts vs ]) ≡ true
            go o is = rw is g

        by : Passing (round program n) e (item_variants (slice_get program.items i)) →
            ((ts : MTypes) → are_types program ts ≡ true → all_has (round program n) e ts ≡ true → AllFound program sure (filled_all args ts)) →
            Found program sure (NamedType (DeclaredItem i) args)
        by (k, ts, is, all) f =
            node k (filled_all args ts) (named_types program (DeclaredItem i) args k ∙ ap (option_map (filled_all args)) is)
            (f ts (fields i k ts is) all)

    -- there are marks that tell emptiness
    pub marks_exist : (marked : MType → Bool) × AreMarks program sure marked
    marks_exist = (holds m, record { held = λ t d h. type_found m (rounds_tell n) t d h; stable = λ t h. stable t h })
      where
        last : (n : ℕ) × IsLast program n
        last = last_round program

        n : ℕ
        n = last.0

        m : Marks
        m = round program n

        result_by : (a b : Bool) → (false || ((a && true) || ((b && true) || false))) ≡ true → (a || b) ≡ true
        result_by true b h = refl
        result_by false true h = refl
        result_by false false h = h

        owner_stable : (owner : MOwner) (bs : List Bool) → item_has m bs (declared program owner) ≡ true → owner_has m owner bs ≡ true
        owner_stable (DeclaredItem i) bs h = last.1.nothing_new i bs h
        owner_stable OptionOwner bs h = refl
        owner_stable ResultOwner bs h = result_by (bit bs 0) (bit bs 1) h

        never : (b : Bool) → (false || ((true && b) || false)) ≡ true → b ≡ true
        never true h = refl
        never false h = h

        stable : (t : MType) → some_variant_has_value program sure (holds m) t ≡ true → holds m t ≡ true
        stable (NamedType owner args) h = owner_stable owner (bits m [] args) (sym (named_holds m program owner args) ∙ h)
        stable NeverType h = never (not sure) h
        stable _ h = absurd (untrue h)

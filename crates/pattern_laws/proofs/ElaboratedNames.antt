-- The elaborated pattern binds the names of the pattern of the definitions, and they differ.
use Rattle.std.proofs.Common.{◌⊎◌, inl, inr, ℕ, ◌+◌, ◌-◌, Bool, true, false, List, [], ◌∷◌, ◌++◌, length, nat_eq, refl, if◌then◌else◌}
use Rattle.match_model.specs.declared.Mode.{Mode}
use Rattle.match_model.specs.Types.{MType, SliceType, ArrayType, MTypes, no_types, more_types, types_list}
use Rattle.match_model.specs.Numbers.{closed, has_one_number}
use Rattle.match_model.specs.Declarations.{MProgram, node_types}
use Rattle.match_model.specs.Constructors.{OrCtor, NumbersCtor, FlagCtor, TextCtor, WildCtor, SingleCtor, RowCtor}
use Rattle.match_model.specs.RustTypes.{inner_type}
use Rattle.match_model.specs.Patterns.{MRest, NoRest, SomeRest, BoundRest, MPat, WildPat, NumPat, FlagPat, TextPat, SpanPat, BindPat, FormPat, ListPat, PointPat, OrPat, MPats, no_pats, more_pats, MNumbered, no_numbered, more_numbered}
use Rattle.match_model.specs.Matching.{to_move, mode_written, laid_out}
use Rattle.match_model.specs.ArenaPatterns.{WholePart, MiddlePart, MDePats}
use Rattle.match_model.specs.WellTyped.{are_apart, names_in_all, names_differ_in_each}
use Rattle.pattern_rules.specs.Builders.{Built, Maker, over, leaf, span, types_or_none, form, made, made_at, wild_maker, and_pats, row_of, tuple_of, list_of, shape}
use Rattle.pattern_rules.specs.Elaborated.{elaborated, elaborated_field, elaborated_alternatives, makers}
use Rattle.pattern_laws.proofs.NameLists.{In, Within, in_left, in_right, in_either, joined, AllApart, joined_left, joined_right, joined_either, without_apart, apart_within}
use Rattle.pattern_laws.proofs.PatNames.{rest_names, pat_names, names_of_numbered, names_of_pats, NamesDiffer, EachDiffers, PatsDiffer}
use Rattle.pattern_laws.proofs.MadeNames.{Binds, EachBinds, both_true, nothing_new, each_within, each_differ, over_binds, wider, leaf_binds, point_binds, through_binds, bound_binds, standing_binds, names_at, form_binds, MakersBind, laid_names, laid_bind, laid_apart, laid_within}

-- as many lists of names as types
abbrev cut : List (List (List ℕ)) → MTypes → List (List (List ℕ))
cut [] ts = []
cut (n ∷ ns) no_types = []
cut (n ∷ ns) (more_types t ts) = n ∷ cut ns ts

cut_within : (ns : List (List (List ℕ))) (ts : MTypes) → Within (joined (cut ns ts)) (joined ns)
cut_within [] ts x a = a
cut_within (n ∷ ns) no_types x a = absurd a
cut_within (n ∷ ns) (more_types t ts) x a = go (in_either x n (joined (cut ns ts)) a) (λ k. cut_within ns ts x k)
  where
    go : In x n ⊎ In x (joined (cut ns ts)) → (In x (joined (cut ns ts)) → In x (joined ns)) → In x (n ++ joined ns)
    go (inl k) rest = in_left x n (joined ns) k
    go (inr k) rest = in_right x n (joined ns) (rest k)

cut_apart : (ns : List (List (List ℕ))) (ts : MTypes) → AllApart ns → AllApart (cut ns ts)
cut_apart [] ts h = tt
cut_apart (n ∷ ns) no_types h = tt
cut_apart (n ∷ ns) (more_types t ts) h = (λ x a b. h.0 x a (cut_within ns ts x b), cut_apart ns ts h.1)

made_bind : (ns : List (List (List ℕ))) (fs : List Maker) (ts : MTypes) → MakersBind ns fs → EachBinds (cut ns ts)
    (made fs ts)
made_bind [] [] ts h = tt
made_bind (n ∷ ns) (f ∷ fs) no_types h = tt
made_bind (n ∷ ns) (f ∷ fs) (more_types t ts) h = (h.0 t, made_bind ns fs ts h.1)
made_bind [] (f ∷ fs) ts h = absurd h
made_bind (n ∷ ns) [] ts h = absurd h

tuple_binds : (rest : MRest) (ns ms : List (List (List ℕ))) (fs bs : List Maker) (t : MType) (ts : MTypes) →
    MakersBind ns fs → MakersBind ms bs → AllApart (ns ++ (rest_names rest ∷ ms)) →
    Binds (joined (ns ++ (rest_names rest ∷ ms))) (tuple_of fs rest bs t ts)
tuple_binds rest ns ms fs bs t ts h k a =
    wider (joined (cut (laid_names rest ns ms (length (types_list ts) - (length fs + length bs))) ts))
    (joined (ns ++ (rest_names rest ∷ ms))) (tuple_of fs rest bs t ts)
    (λ x q. laid_within rest ns ms (rest_names rest) (length (types_list ts) - (length fs + length bs)) x
    (cut_within (laid_names rest ns ms (length (types_list ts) - (length fs + length bs))) ts x q))
    (over_binds SingleCtor t (cut (laid_names rest ns ms (length (types_list ts) - (length fs + length bs))) ts)
    (made (laid_out wild_maker fs rest bs (length (types_list ts))) ts)
    (made_bind (laid_names rest ns ms (length (types_list ts) - (length fs + length bs)))
    (laid_out wild_maker fs rest bs (length (types_list ts))) ts
    (laid_bind rest ns ms fs bs (length (types_list ts)) h k))
    (cut_apart (laid_names rest ns ms (length (types_list ts) - (length fs + length bs))) ts
    (laid_apart rest ns ms (length (types_list ts) - (length fs + length bs))
    (without_apart ns ms (rest_names rest) a))))

items_bind : (ns ms : List (List (List ℕ))) (fs bs : List Maker) (t : MType) → MakersBind ns fs → MakersBind ms bs →
    EachBinds (ns ++ ms) (and_pats (made_at fs t) (made_at bs t))
items_bind [] [] [] [] t h k = tt
items_bind [] (m ∷ ms) [] (b ∷ bs) t h k = (k.0 t, items_bind [] ms [] bs t tt k.1)
items_bind (n ∷ ns) ms (f ∷ fs) bs t h k = (h.0 t, items_bind ns ms fs bs t h.1 k)
items_bind [] [] [] (b ∷ bs) t h k = absurd k
items_bind [] (m ∷ ms) [] [] t h k = absurd k
items_bind [] ms (f ∷ fs) bs t h k = absurd h
items_bind (n ∷ ns) ms [] bs t h k = absurd h

without_within : (ns ms : List (List (List ℕ))) (r : List (List ℕ)) → Within (joined (ns ++ ms))
    (joined (ns ++ (r ∷ ms)))
without_within ns ms r x a = go (joined_either x ns ms a)
  where
    go : In x (joined ns) ⊎ In x (joined ms) → In x (joined (ns ++ (r ∷ ms)))
    go (inl q) = joined_left x ns (r ∷ ms) q
    go (inr q) = joined_right x ns (r ∷ ms) (in_right x r (joined ms) q)

row_binds : (rest : MRest) (ns ms : List (List (List ℕ))) (fs bs : List Maker) (u t : MType) (m : Mode) →
    MakersBind ns fs → MakersBind ms bs → AllApart (ns ++ (rest_names rest ∷ ms)) →
    Binds (joined (ns ++ (rest_names rest ∷ ms))) (row_of fs rest bs u t m)
row_binds NoRest ns ms fs bs u t m h k a =
    wider (joined (ns ++ ms)) (joined (ns ++ ([] ∷ ms))) (row_of fs NoRest bs u t m) (without_within ns ms [])
    (over_binds (RowCtor (shape (length fs) (length bs) NoRest)) u (ns ++ ms) (and_pats (made_at fs t) (made_at bs t))
    (items_bind ns ms fs bs t h k) (without_apart ns ms [] a))
row_binds SomeRest ns ms fs bs u t m h k a =
    wider (joined (ns ++ ms)) (joined (ns ++ ([] ∷ ms))) (row_of fs SomeRest bs u t m) (without_within ns ms [])
    (over_binds (RowCtor (shape (length fs) (length bs) SomeRest)) u (ns ++ ms)
    (and_pats (made_at fs t) (made_at bs t)) (items_bind ns ms fs bs t h k) (without_apart ns ms [] a))
row_binds (BoundRest name written) ns ms fs bs u t m h k a =
    wider (name ∷ joined (ns ++ ms)) (joined (ns ++ ((name ∷ []) ∷ ms)))
    (row_of fs (BoundRest name written) bs u t m) named
    (bound_binds (joined (ns ++ ms)) name (mode_written to_move written m) (MiddlePart (length fs) (length bs))
    (over (RowCtor (shape (length fs) (length bs) (BoundRest name written))) u
    (and_pats (made_at fs t) (made_at bs t)))
    (λ q. apart_within ns ms (name ∷ []) a name (inl refl) q)
    (over_binds (RowCtor (shape (length fs) (length bs) (BoundRest name written))) u (ns ++ ms)
    (and_pats (made_at fs t) (made_at bs t)) (items_bind ns ms fs bs t h k) (without_apart ns ms (name ∷ []) a)))
  where
    named : (x : List ℕ) → In x (name ∷ joined (ns ++ ms)) → In x (joined (ns ++ ((name ∷ []) ∷ ms)))
    named x (inl e) = joined_right x ns ((name ∷ []) ∷ ms) (inl e)
    named x (inr q) = without_within ns ms (name ∷ []) x q

list_binds : (program : MProgram) (rest : MRest) (ns ms : List (List (List ℕ))) (fs bs : List Maker) (u : MType)
    (m : Mode) → MakersBind ns fs → MakersBind ms bs →
    AllApart (ns ++ (rest_names rest ∷ ms)) → Binds (joined (ns ++ (rest_names rest ∷ ms)))
    (list_of program fs rest bs u m)
list_binds program rest ns ms fs bs (SliceType t) m h k a = row_binds rest ns ms fs bs (SliceType t) t m h k a
list_binds program rest ns ms fs bs (ArrayType t n) m h k a = row_binds rest ns ms fs bs (ArrayType t n) t m h k a
list_binds program rest ns ms fs bs u m h k a = tuple_binds rest ns ms fs bs u
    (types_or_none (node_types program u 0)) h k a

-- alternatives may have the same names
or_binds : (t : MType) (ns : List (List (List ℕ))) (ps : MDePats MType) → EachBinds ns ps →
    Binds (joined ns) (over OrCtor t ps)
or_binds t ns ps h = record {
  within = each_within ns ps h;
  differ = both_true (are_apart [] (names_in_all ps)) (names_differ_in_each ps) (nothing_new (names_in_all ps))
      (each_differ ns ps h);
}

field_if : (b : Bool) (n m : List (List ℕ)) (p q : Built) → Binds n p → Binds m q → Binds (if b then n else m)
    (if b then p else q)
field_if true n m p q h k = h
field_if false n m p q h k = k

mutual
  pub binds : (program : MProgram) (p : MPat) (t : MType) (m : Mode) → NamesDiffer p →
      Binds (pat_names p) (elaborated program p t m)
  binds program WildPat t m h = leaf_binds WildCtor t 0
  binds program (NumPat n) t m h = through_binds [] (λ u m'. leaf (NumbersCtor (closed n n)) u)
      (λ u m'. leaf_binds (NumbersCtor (closed n n)) u 0) t m
  binds program (FlagPat b) t m h = through_binds [] (λ u m'. leaf (FlagCtor b) u)
      (λ u m'. leaf_binds (FlagCtor b) u 0) t m
  binds program (TextPat s) t m h = point_binds [] t (leaf (TextCtor s) (inner_type t))
      (leaf_binds (TextCtor s) (inner_type t) 0)
  binds program (SpanPat at r) t m h = through_binds [] (λ u m'. span at r u)
      (λ u m'. leaf_binds (NumbersCtor r) u (if has_one_number r then 0 else at)) t m
  binds program (BindPat name written p) t m h = bound_binds (pat_names p) name
      (mode_written to_move written m) WholePart (elaborated program p t m) h.0 (binds program p t m h.1)
  binds program (FormPat k fields) t m h =
      through_binds (joined (names_of_numbered fields))
      (λ u m'. form program k (λ i w. elaborated_field program fields i w m') u)
      (λ u m'. form_binds program k fields (λ i w. elaborated_field program fields i w m')
      (λ i w. field_binds program fields i w m' h.0) h.1 u) t m
  binds program (ListPat front rest back) t m h =
      through_binds (joined (names_of_pats front ++ (rest_names rest ∷ names_of_pats back)))
      (λ u m'. list_of program (makers program front m') rest (makers program back m') u m')
      (λ u m'. list_binds program rest (names_of_pats front) (names_of_pats back) (makers program front m')
      (makers program back m') u m' (pats_bind program front m' h.0) (pats_bind program back m' h.1) h.2) t m
  binds program (PointPat mutable p) t m h = point_binds (pat_names p) t
      (elaborated program p (inner_type t) (to_move m)) (binds program p (inner_type t) (to_move m) h)
  binds program (OrPat alternatives) t m h =
      or_binds t (names_of_numbered alternatives) (elaborated_alternatives program alternatives t m)
      (alternatives_bind program alternatives t m h)

  field_binds : (program : MProgram) (ps : MNumbered) (i : ℕ) (t : MType) (m : Mode) → EachDiffers ps →
      Binds (names_at ps i) (elaborated_field program ps i t m)
  field_binds program no_numbered i t m h = leaf_binds WildCtor t 0
  field_binds program (more_numbered j p ps) i t m h =
      field_if (nat_eq i j) (pat_names p) (names_at ps i) (elaborated program p t m)
      (elaborated_field program ps i t m) (binds program p t m h.0) (field_binds program ps i t m h.1)

  pats_bind : (program : MProgram) (ps : MPats) (m : Mode) → PatsDiffer ps → MakersBind (names_of_pats ps)
      (makers program ps m)
  pats_bind program no_pats m h = tt
  pats_bind program (more_pats p ps) m h = (λ t. binds program p t m h.0, pats_bind program ps m h.1)

  alternatives_bind : (program : MProgram) (ps : MNumbered) (t : MType) (m : Mode) → EachDiffers ps →
      EachBinds (names_of_numbered ps) (elaborated_alternatives program ps t m)
  alternatives_bind program no_numbered t m h = tt
  alternatives_bind program (more_numbered at p ps) t m h = (
    standing_binds (pat_names p) at (elaborated program p t m) (binds program p t m h.0),
    alternatives_bind program ps t m h.1,
  )

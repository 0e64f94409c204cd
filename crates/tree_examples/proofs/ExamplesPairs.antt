-- Worked examples: the printed trees of matches on two flags, with an or-pattern under a guard and with a shared node.
use Rattle.std.proofs.Common.{◌≡◌, ◌<◌, ◌≤◌, ◌⊎◌, inl, inr, ℕ, zero, suc, true, false, List, [], ◌∷◌, Some, slice_get, refl, sym, subst, arith, IsTrue}
use Rattle.std.specs.List.{Contains}
use Rattle.match_model.specs.declared.Mode.TheVariants.{Move}
use Rattle.match_model.specs.Types.{MType, BoolType}
use Rattle.match_model.specs.Values.{MValue, Flag, Unseen}
use Rattle.match_model.specs.Constructors.{MCtor, FlagCtor, SingleCtor, WildCtor, OrCtor, SingleSet, builds}
use Rattle.match_model.specs.ArenaPatterns.{MDePat, de_pat, no_de_pats, de_pats_of, MDeMatch, WholePart}
use Rattle.match_model.specs.Pieces.{ArePieces}
use Rattle.match_model.specs.Places.{FieldStep}
use Rattle.match_model.specs.Trees.{FlagCase, ElseCase, MBind, MNode, SwitchNode, AskNode, TakeNode}
use Rattle.match_model.specs.Matrices.{MColumn, MRow, first_matrix}
use Rattle.match_model.specs.RustTypes.{rust_context, RustValue}
use Rattle.match_model.specs.PieceStates.{is_present}
use Rattle.match_model.specs.DecisionTrees.{MTree, SwitchTree, AskTree, TakeTree, no_branch, more_branches}
use Rattle.match_model.specs.Lists.{Among}
use Rattle.match_model.specs.Keys.{Decision}
use Rattle.match_model.specs.Numbering.{match_decisions}
use Rattle.match_model.specs.Steps.{expand_head, specialise_head, default_head, rows_at}
use Rattle.match_model.specs.Lowering.{ctors_at, all_wild_at, Lowers, takes, asks, opens, switches, with_else, no_case, one_case}
use Rattle.match_model.specs.FewestBranches.{as_cases, nothing_missing, branch_of, is_asked}
use Rattle.match_model.specs.SharedTrees.{known, to_take, to_ask, to_switch, nothing, last_first, switch_of, ask_of, take_of}
use Rattle.match_model.specs.MatchTree.{IsMatchTree, lowered}
use Rattle.tree_laws.proofs.OneTree.{clash}
use Rattle.tree_laws.proofs.FewestPlaces.{fewest-of}
use Rattle.tree_examples.proofs.Small.{program, flag_pair, x_name, tuple, flag_pat, as_they_are}
use Rattle.tree_examples.proofs.ExamplesPrinted.{no_tree, Fewest, Count, alone, count_two, first_alternative}

-- the columns of a pair of flags, and of its parts
abbrev pair_column : MColumn MType
pair_column = record { place = []; type = flag_pair; sure = true }

abbrev part_column : ℕ → MColumn MType
part_column i = record { place = FieldStep 0 i ∷ []; type = BoolType; sure = true }

abbrev part_pair : List (MColumn MType)
part_pair = part_column 0 ∷ part_column 1 ∷ []

-- the parts take the place of a pair
abbrev opened : List (MRow MType) → List (MRow MType)
opened rows = rows_at (specialise_head SingleCtor 2) [] 0 (rows_at expand_head [] 0 rows)

abbrev two_true : MValue
two_true = tuple (Flag true ∷ Flag true ∷ [])

-- the place of a type with one constructor, where a head has it, has one branch
pub count_one : (t : MType) (v : MValue) → (rust_context program).set_of t ≡ SingleSet → RustValue program t true v →
    builds [] SingleCtor v ≡ true → (rows : List (MRow MType)) →
    all_wild_at 0 (rows_at expand_head [] 0 rows) ≡ false → IsTrue (is_present
    (ctors_at 0 (rows_at expand_head [] 0 rows)) SingleCtor) →
    Count 0 (record { place = []; type = t; sure = true }) rows 1
count_one t v set is built rows some present =
    as_cases (SingleCtor ∷ []) 1 some (subst
    (λ x. ArePieces x (ctors_at 0 (rows_at expand_head [] 0 rows)) (SingleCtor ∷ [])) (sym set) refl)
    (branch_of SingleCtor [] 0 present (v, is, built) (nothing_missing (λ p m h. there p m.0 m.1)))
  where
    there : (p : MCtor) → Contains (SingleCtor ∷ []) p → is_present (ctors_at 0
        (rows_at expand_head [] 0 rows)) p ≡ false → ⊥
    there p (zero, l, e) f =
        let same : SingleCtor ≡ p = e in
        clash (is_present (ctors_at 0 (rows_at expand_head [] 0 rows)) SingleCtor) present
        (subst (λ q. is_present (ctors_at 0 (rows_at expand_head [] 0 rows)) q ≡ false) (sym same) f)
    there p (suc n, l, e) f = absurd (omega (arith, l))

-- of two columns with two branches each the first is looked at; so it is where the first row asks it alone
first_of_two : (rows : List (MRow MType)) → IsTrue (is_asked 0 rows) → Count 0 (part_column 0) rows 2 →
    Count 1 (part_column 1) rows 2 ⊎ (is_asked 1 rows ≡ false) → Fewest part_pair rows 0
first_of_two rows asked here there =
    fewest-of (rust_context program) (RustValue program) part_pair rows 0 (part_column 0) 2 asked refl here
    (λ j d e h. by j d e h there)
  where
    some_is : (x y : MColumn MType) → Some x ≡ Some y → x ≡ y
    some_is x y e = cc

    by : (j : ℕ) (d : MColumn MType) → slice_get part_pair j ≡ Some d → IsTrue (is_asked j rows) →
        Count 1 (part_column 1) rows 2 ⊎ (is_asked 1 rows ≡ false) → (j ≡ 0)
        ⊎ ((m : ℕ) × Count j d rows m × (j < 0 → 2 < m) × (2 ≤ m))
    by zero d e h t = inl refl
    by (suc zero) d e h (inl b) =
        inr (2, subst (λ x. Count 1 x rows 2) (some_is (part_column 1) d e) b, (λ l. absurd (none l)), omega arith)
      where
        none : 1 < 0 → ⊥
        none l = omega (arith, l)
    by (suc zero) d e h (inr f) = clash (is_asked 1 rows) h f
    by (suc (suc j)) d e h t = cc

-- `(true, x) | (x, true) if g => .., _ => ..`: the guard may be asked twice, with what each way binds
abbrev x_wild : ℕ → MDePat MType
x_wild u = de_pat WildCtor BoolType u u no_de_pats (record { name = x_name; mode = Move; part = WholePart } ∷ [])

abbrev either_side : MDePat MType
either_side =
    de_pat OrCtor flag_pair 1 1 (de_pats_of (
    de_pat SingleCtor flag_pair 2 1 (de_pats_of (flag_pat 3 true ∷ x_wild 4 ∷ [])) []
    ∷ de_pat SingleCtor flag_pair 5 13 (de_pats_of (x_wild 6 ∷ flag_pat 7 true ∷ [])) [] ∷ [])) []

abbrev wild_pair : MDePat MType
wild_pair = de_pat WildCtor flag_pair 8 30 no_de_pats []

abbrev guarded_match : MDeMatch MType
guarded_match =
    record {
      type = flag_pair;
      sure = true;
      arms = record { pat = either_side; guarded = true } ∷ record
          { pat = wild_pair; guarded = false } ∷ [];
    }

abbrev x_at : ℕ → List MBind
x_at i = record { name = x_name; mode = Move; place = FieldStep 0 i ∷ [] } ∷ []

abbrev ask_first : MTree
ask_first = AskTree 0 (x_at 0) (TakeTree 1 [])

abbrev second : MTree
second =
    SwitchTree (FieldStep 0 1 ∷ []) (more_branches (FlagCase true) ask_first
    (more_branches ElseCase (TakeTree 1 []) no_branch))

abbrev ask_second : MTree
ask_second = AskTree 0 (x_at 1) second

abbrev guarded_tree : MTree
guarded_tree =
    SwitchTree (FieldStep 0 0 ∷ []) (more_branches (FlagCase true) ask_second (more_branches ElseCase second no_branch))

abbrev guarded_rows : List (MRow MType)
guarded_rows = (first_matrix guarded_match).rows

abbrev decides : ℕ → Decision
decides = match_decisions guarded_match

abbrev Lowered : List (MColumn MType) → List (MRow MType) → MTree → Type 0
Lowered cs rows t =
    Lowers (rust_context program) (RustValue program) decides Fewest
    ((u : MValue) → RustValue program flag_pair true u → u ≡ Unseen) cs rows t

-- what is left of the second alternative and the second arm, once `x` is known to be the first part
abbrev rest_rows : List (MRow MType)
rest_rows =
    rows_at default_head (FieldStep 0 0 ∷ []) 0 (rows_at expand_head (FieldStep 0 0 ∷ []) 0 (opened guarded_rows))

second_lowers : Lowered (part_column 1 ∷ []) rest_rows second
second_lowers =
    switches 0 (part_column 1) (part_column 1 ∷ []) rest_rows (rows_at expand_head (FieldStep 0 1 ∷ []) 0 rest_rows)
    (FlagCtor false ∷ FlagCtor true ∷ []) _
    (alone (part_column 1) rest_rows 2 refl (count_two 0 (FieldStep 0 1 ∷ []) rest_rows refl refl refl)) refl
    (as_they_are _ _ ((inl (omega arith), tt), (tt, tt))) refl refl refl
    (no_case 0 _ _ _ _ (FlagCtor false) (FlagCtor true ∷ []) _ (inl refl)
    (one_case 0 _ _ _ (rows_at (specialise_head (FlagCtor true) 0) (FieldStep 0 1 ∷ []) 0
    (rows_at expand_head (FieldStep 0 1 ∷ []) 0 rest_rows)) _ (FlagCtor true) [] ask_first _ refl
    (Flag true, refl, refl)
    (as_they_are _ _ ((inl (omega arith), tt), (tt, tt))) (asks [] _ _ (TakeTree 1 []) refl refl
    (takes [] _ [] refl refl))
    (with_else 0 _ _ _ (rows_at default_head (FieldStep 0 1 ∷ []) 0
    (rows_at expand_head (FieldStep 0 1 ∷ []) 0 rest_rows)) _ (FlagCtor false) (TakeTree 1 [])
    ((0, omega arith, refl), refl) (Flag false, refl, refl)
    (as_they_are _ _ (tt, tt)) (takes [] _ [] refl refl))))

guarded_lowers : Lowered (pair_column ∷ []) guarded_rows guarded_tree
guarded_lowers =
    opens 0 pair_column (pair_column ∷ []) guarded_rows (rows_at expand_head [] 0 guarded_rows)
    (opened guarded_rows) SingleCtor guarded_tree (alone pair_column guarded_rows 1 refl
    (count_one flag_pair two_true refl refl refl guarded_rows refl refl)) refl
    (as_they_are _ _ ((inr (refl, first_alternative), (inl (omega arith), tt)), ((inl (omega arith), tt), (tt, tt))))
    refl refl refl
    (as_they_are _ _ ((inr (refl, first_alternative), (inl (omega arith), tt)), ((inl (omega arith), tt), (tt, tt))))
    (switches 0 (part_column 0) part_pair (opened guarded_rows)
    (rows_at expand_head (FieldStep 0 0 ∷ []) 0 (opened guarded_rows)) (FlagCtor false ∷ FlagCtor true ∷ []) _
    (first_of_two (opened guarded_rows) refl (count_two 0 (FieldStep 0 0 ∷ []) (opened guarded_rows) refl refl refl)
    (inr refl)) refl
    (as_they_are _ _ ((inr (refl, first_alternative), (inl (omega arith), tt)), ((inl (omega arith), tt), (tt, tt))))
    refl refl refl
    (no_case 0 _ _ _ _ (FlagCtor false) (FlagCtor true ∷ []) _ (inl refl)
    (one_case 0 _ _ _ (rows_at (specialise_head (FlagCtor true) 0) (FieldStep 0 0 ∷ []) 0
    (rows_at expand_head (FieldStep 0 0 ∷ []) 0 (opened guarded_rows))) _ (FlagCtor true) [] ask_second _ refl
    (Flag true, refl, refl)
    (as_they_are _ _ ((inr (refl, first_alternative), (inl (omega arith), tt)), ((inl (omega arith), tt), (tt, tt))))
    (asks (part_column 1 ∷ []) _ _ second refl refl second_lowers)
    (with_else 0 _ _ _ rest_rows _ (FlagCtor false) second ((0, omega arith, refl), refl) (Flag false, refl, refl)
    (as_they_are _ _ ((inl (omega arith), tt), (tt, tt))) second_lowers))))

ask_is_no_take : ¬ Among ask_first (TakeTree 1 [] ∷ [])
ask_is_no_take (inl e) = differ e
  where
    differ : ask_first ≡ TakeTree 1 [] → ⊥
    differ e = cc
ask_is_no_take (inr a) = a

second_is_new : ¬ Among ask_second (second ∷ ask_first ∷ TakeTree 1 [] ∷ [])
second_is_new (inl e) = differ e
  where
    differ : ask_second ≡ second → ⊥
    differ e = cc
second_is_new (inr (inl e)) = differ e
  where
    differ : ask_second ≡ ask_first → ⊥
    differ e = cc
second_is_new (inr (inr (inl e))) = differ e
  where
    differ : ask_second ≡ TakeTree 1 [] → ⊥
    differ e = cc
second_is_new (inr (inr (inr a))) = a

abbrev guarded_nodes : List MNode
guarded_nodes =
    SwitchNode (FieldStep 0 0 ∷ [])
    (record { case = FlagCase true; next = 1 } ∷ record { case = ElseCase; next = 2 } ∷ [])
    ∷ AskNode 0 (x_at 1) 2
    ∷ SwitchNode (FieldStep 0 1 ∷ [])
    (record { case = FlagCase true; next = 3 } ∷ record { case = ElseCase; next = 4 } ∷ [])
    ∷ AskNode 0 (x_at 0) 4
    ∷ TakeNode 1 []
    ∷ []

pub guarded_pair : IsMatchTree (rust_context program) (RustValue program) guarded_match guarded_nodes
guarded_pair =
    lowered two_true guarded_tree guarded_nodes refl guarded_lowers
    (record {
      trees = guarded_tree ∷ ask_second ∷ second ∷ ask_first ∷ TakeTree 1 [] ∷ [];
      walk = to_switch [] _ (FieldStep 0 0 ∷ []) _ (no_tree guarded_tree)
          (last_first [] _ _ (FlagCase true) ask_second _
          (last_first [] _ _ ElseCase second no_branch (nothing [])
          (to_switch [] _ (FieldStep 0 1 ∷ []) _ (no_tree second)
          (last_first [] _ _ (FlagCase true) ask_first _ (last_first [] _ _ ElseCase (TakeTree 1 []) no_branch
          (nothing []) (to_take [] 1 [] (no_tree (TakeTree 1 []))))
          (to_ask (TakeTree 1 [] ∷ []) _ 0 (x_at 0) (TakeTree 1 []) ask_is_no_take
          (known _ (TakeTree 1 []) (inl refl))))))
          (to_ask _ _ 0 (x_at 1) second second_is_new (known _ second (inl refl))));
      are = (
        switch_of _ _ _ ((refl, refl), ((refl, refl), tt)),
        (
          ask_of 0 (x_at 1) second 2 refl,
          (
            switch_of _ _ _ ((refl, refl), ((refl, refl), tt)),
            (ask_of 0 (x_at 0) (TakeTree 1 []) 4 refl, (take_of 1 [], tt)),
          ),
        ),
      );
    })

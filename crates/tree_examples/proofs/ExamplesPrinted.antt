-- Worked examples: the printed trees of small matches over Rust's types.
use Rattle.std.proofs.Common.{◌≡◌, ◌<◌, ◌≤◌, ◌⊎◌, inl, inr, ℕ, zero, suc, true, false, List, [], ◌∷◌, Some, slice_get, refl, arith, IsTrue}
use Rattle.match_model.specs.Types.{MType, BoolType}
use Rattle.match_model.specs.Values.{MValue, Flag, Num, Text, Node, Point, Row, Thing, Later, Unseen}
use Rattle.match_model.specs.Constructors.{FlagCtor, WildCtor, OrCtor}
use Rattle.match_model.specs.ArenaPatterns.{MDePat, de_pat, no_de_pats, de_pats_of, MDeMatch}
use Rattle.match_model.specs.Places.{MStep}
use Rattle.match_model.specs.Trees.{FlagCase, ElseCase, SwitchNode, AskNode, TakeNode, MissNode, VoidNode}
use Rattle.match_model.specs.Matrices.{MColumn, MRow, first_matrix}
use Rattle.match_model.specs.RustTypes.{rust_context, RustValue}
use Rattle.match_model.specs.PieceStates.{is_present}
use Rattle.match_model.specs.DecisionTrees.{MTree, SwitchTree, AskTree, TakeTree, MissTree, VoidTree, no_branch, more_branches}
use Rattle.match_model.specs.Lists.{Among}
use Rattle.match_model.specs.Keys.{Decision, key_of, IsBefore}
use Rattle.match_model.specs.Numbering.{match_decisions}
use Rattle.match_model.specs.Steps.{expand_head, specialise_head, default_head, rows_at}
use Rattle.match_model.specs.Lowering.{ctors_at, all_wild_at, no_value_left, no_row_left, takes, asks, drops, switches, with_else, no_case, one_case}
use Rattle.match_model.specs.FewestBranches.{AreBranches, no_branches, as_cases, something_missing, no_branch_of, branch_of, is_asked, IsFewest}
use Rattle.match_model.specs.SharedTrees.{to_take, to_miss, to_void, to_ask, to_switch, nothing, last_first, switch_of, ask_of, take_of, miss_of, void_of}
use Rattle.match_model.specs.MatchTree.{IsMatchTree, lowered}
use Rattle.tree_laws.proofs.FewestPlaces.{fewest-of}
use Rattle.tree_examples.proofs.Small.{program, marked_enum, empty_enum, flag_pat, as_they_are}

-- no tree stands in an empty list, and trees of different kinds are different
pub no_tree : (t : MTree) → ¬ Among t []
no_tree t a = a

-- where there is one column it has the fewest branches
abbrev pub Fewest : List (MColumn MType) → List (MRow MType) → ℕ → Type 0
Fewest cs rows i = IsFewest (rust_context program) (RustValue program) cs rows i

abbrev pub Count : ℕ → MColumn MType → List (MRow MType) → ℕ → Type 0
Count i c rows n = AreBranches (rust_context program) (RustValue program) i c rows n

pub alone : (c : MColumn MType) (rows : List (MRow MType)) (n : ℕ) → IsTrue (is_asked 0 rows) → Count 0 c rows n →
    Fewest (c ∷ []) rows 0
alone c rows n asked b =
    fewest-of (rust_context program) (RustValue program) (c ∷ []) rows 0 c n asked refl b (λ j d e h. only j d e)
  where
    only : (j : ℕ) (d : MColumn MType) → slice_get (c ∷ []) j ≡ Some d → (j ≡ 0)
        ⊎ ((m : ℕ) × Count j d rows m × (j < 0 → n < m) × (n ≤ m))
    only zero d e = inl refl
    only (suc j) d e = cc

-- `match *x {}` on a reference to an enum without variants: only a bare unseen is there, and the tree is a lone void
abbrev no_arm : MDeMatch MType
no_arm = record { type = empty_enum; sure = false; arms = [] }

only_unseen : (v : MValue) → RustValue program empty_enum false v → v ≡ Unseen
only_unseen Unseen h = refl
only_unseen (Flag b) h = cc
only_unseen (Num n) h = cc
only_unseen (Text u) h = cc
only_unseen (Node k parts) h = cc
only_unseen (Point m v) h = cc
only_unseen (Row items) h = cc
only_unseen Thing h = cc
only_unseen Later h = cc

pub unseen_tree : IsMatchTree (rust_context program) (RustValue program) no_arm (VoidNode ∷ [])
unseen_tree =
    lowered Unseen VoidTree (VoidNode ∷ []) refl (no_value_left
    (record { place = []; type = empty_enum; sure = false } ∷ []) only_unseen)
    (record { trees = VoidTree ∷ []; walk = to_void [] (no_tree VoidTree); are = (void_of, tt) })

-- `_ if g => ..` on a marked enum without variants: the tree asks, and then misses
abbrev any_guarded : MDeMatch MType
any_guarded =
    record {
      type = marked_enum;
      sure = true;
      arms = record
          { pat = de_pat WildCtor marked_enum 1 1 no_de_pats []; guarded = true } ∷ [];
    }

later_seen : Later ≡ Unseen → ⊥
later_seen e = cc

pub marked_tree : IsMatchTree (rust_context program) (RustValue program) any_guarded (AskNode 0 [] 1 ∷ MissNode ∷ [])
marked_tree =
    lowered Later (AskTree 0 [] MissTree) (AskNode 0 [] 1 ∷ MissNode ∷ []) refl
    (asks (record { place = []; type = marked_enum; sure = true } ∷ []) _ [] MissTree refl refl
    (no_row_left _ (λ only. later_seen (only Later refl))))
    (record {
      trees = AskTree 0 [] MissTree ∷ MissTree ∷ [];
      walk = to_ask [] (MissTree ∷ []) 0 [] MissTree (no_tree (AskTree 0 [] MissTree)) (to_miss [] (no_tree MissTree));
      are = (ask_of 0 [] MissTree 1 refl, (miss_of, tt));
    })

-- `_ | _ => ..` on `bool`: the place is expanded and dropped
abbrev flag_column : MColumn MType
flag_column = record { place = []; type = BoolType; sure = true }

abbrev pub one_arm : MDePat MType → MDeMatch MType
one_arm p = record { type = BoolType; sure = true; arms = record { pat = p; guarded = false } ∷ [] }

abbrev either_wild : MDePat MType
either_wild =
    de_pat OrCtor BoolType 1 1 (de_pats_of
    (de_pat WildCtor BoolType 2 1 no_de_pats [] ∷ de_pat WildCtor BoolType 3 5 no_de_pats [] ∷ [])) []

abbrev wild_rows : List (MRow MType)
wild_rows = (first_matrix (one_arm either_wild)).rows

-- the first of the two alternatives comes first
abbrev wild_decides : ℕ → Decision
wild_decides = match_decisions (one_arm either_wild)

abbrev expanded_wild : List (MRow MType)
expanded_wild = rows_at expand_head [] 0 wild_rows

abbrev dropped_wild : List (MRow MType)
dropped_wild = rows_at default_head [] 0 expanded_wild

-- the first alternative of the first or-pattern comes before the second one
pub first_alternative : IsBefore (key_of (record { number = 0; alternative = 0 } ∷ []))
    (key_of (record { number = 0; alternative = 1 } ∷ []))
first_alternative =
    record {
      at = 0;
      one = 0;
      other = 1;
      first = refl;
      second = refl;
      less = omega arith;
      same = λ o l. absurd
          (none_below o l);
    }
  where
    none_below : (o : ℕ) → o < 0 → ⊥
    none_below o l = omega (arith, l)

pub wild_tree : IsMatchTree (rust_context program) (RustValue program) (one_arm either_wild) (TakeNode 0 [] ∷ [])
wild_tree =
    lowered (Flag true) (TakeTree 0 []) (TakeNode 0 [] ∷ []) refl
    (drops 0 flag_column (flag_column ∷ []) wild_rows expanded_wild dropped_wild (TakeTree 0 [])
    (alone flag_column wild_rows 0 refl (no_branches refl)) refl
    (as_they_are wild_decides expanded_wild ((inr (refl, first_alternative), tt), (tt, tt))) refl
    (as_they_are wild_decides dropped_wild ((inr (refl, first_alternative), tt), (tt, tt)))
    (takes [] _ _ refl refl))
    (record { trees = TakeTree 0 [] ∷ []; walk = to_take [] 0 [] (no_tree (TakeTree 0 [])); are = (take_of 0 [], tt) })

-- a place of flags of which a head has only `true` has two branches, the one and an else
pub count_two : (i : ℕ) (place : List MStep) (rows : List (MRow MType)) →
    all_wild_at i (rows_at expand_head place i rows) ≡ false →
    is_present (ctors_at i (rows_at expand_head place i rows)) (FlagCtor false) ≡ false →
    IsTrue (is_present (ctors_at i (rows_at expand_head place i rows)) (FlagCtor true)) →
    Count i (record { place = place; type = BoolType; sure = true }) rows 2
count_two i place rows some absent present =
    as_cases (FlagCtor false ∷ FlagCtor true ∷ []) 2 some refl
    (no_branch_of (FlagCtor false) _ 2 (inl absent)
    (branch_of (FlagCtor true) [] 1 present (Flag true, refl, refl)
    (something_missing (FlagCtor false) ((0, omega arith, refl), absent) (Flag false, refl, refl))))

-- `true => ..` on `bool`: a switch with its one case, and an else for `false`
abbrev true_rows : List (MRow MType)
true_rows = (first_matrix (one_arm (flag_pat 0 true))).rows

abbrev true_tree : MTree
true_tree = SwitchTree [] (more_branches (FlagCase true) (TakeTree 0 []) (more_branches ElseCase MissTree no_branch))

take_is_no_miss : ¬ Among (TakeTree 0 []) (MissTree ∷ [])
take_is_no_miss (inl e) = no e
  where
    no : TakeTree 0 [] ≡ MissTree → ⊥
    no e = cc
take_is_no_miss (inr a) = a

more_than_unseen : ((u : MValue) → RustValue program BoolType true u → u ≡ Unseen) → ⊥
more_than_unseen only = no_unseen (only (Flag true) refl)
  where
    no_unseen : Flag true ≡ Unseen → ⊥
    no_unseen e = cc

pub only_true : IsMatchTree (rust_context program) (RustValue program) (one_arm (flag_pat 0 true))
    (SwitchNode [] (record { case = FlagCase true; next = 1 } ∷ record { case = ElseCase; next = 2 } ∷ []) ∷ TakeNode 0
    [] ∷ MissNode ∷ [])
only_true =
    lowered (Flag true) true_tree _ refl
    (switches 0 flag_column (flag_column ∷ []) true_rows (rows_at expand_head [] 0 true_rows)
    (FlagCtor false ∷ FlagCtor true ∷ []) _ (alone flag_column true_rows 2 refl
    (count_two 0 [] true_rows refl refl refl)) refl
    (as_they_are _ _ (tt, tt)) refl refl refl
    (no_case 0 _ _ _ _ (FlagCtor false) (FlagCtor true ∷ []) _ (inl refl)
    (one_case 0 _ _ (rows_at expand_head [] 0 true_rows) (rows_at (specialise_head (FlagCtor true) 0) [] 0
    (rows_at expand_head [] 0 true_rows)) _ (FlagCtor true) [] (TakeTree 0 []) _ refl (Flag true, refl, refl)
    (as_they_are _ _ (tt, tt)) (takes [] _ [] refl refl)
    (with_else 0 _ _ (rows_at expand_head [] 0 true_rows) [] _ (FlagCtor false) MissTree ((0, omega arith, refl), refl)
    (Flag false, refl, refl)
    (as_they_are _ _ tt) (no_row_left [] more_than_unseen)))))
    (record {
      trees = true_tree ∷ TakeTree 0 [] ∷ MissTree ∷ [];
      walk = to_switch [] _ [] _ (no_tree true_tree)
          (last_first [] _ _ (FlagCase true) (TakeTree 0 []) _ (last_first [] _ _ ElseCase MissTree no_branch
          (nothing []) (to_miss [] (no_tree MissTree))) (to_take (MissTree ∷ []) 0 [] take_is_no_miss));
      are = (switch_of [] _ _ ((refl, refl), ((refl, refl), tt)), (take_of 0 [], (miss_of, tt)));
    })

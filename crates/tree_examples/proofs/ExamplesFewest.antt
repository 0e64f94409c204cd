-- A worked example: `(0, true) => .., (1, true) => .., (_, true) => .., (_, false) => ..` on a byte and a flag. The flag has
-- two branches and the byte three, so the flag is looked at first.
use Rattle.std.proofs.Common.{◌≡◌, ◌<◌, ◌≤◌, ◌↔◌, ◌⊎◌, inl, inr, ℕ, zero, suc, ℤ, pos, ◌-ℤ◌, Bool, true, false, ◌||◌, List, [], ◌∷◌, Some, slice_get, int_eq, refl, sym, ◌∙◌, subst, arith, IsTrue}
use Rattle.match_model.specs.declared.IntKind.TheVariants.{U8}
use Rattle.match_model.specs.Types.{MType, BoolType, IntType, TupleType, no_types, more_types}
use Rattle.match_model.specs.Values.{MValue, Flag, Num, Unseen}
use Rattle.match_model.specs.Numbers.{MRange, At}
use Rattle.match_model.specs.Constructors.{MCtor, FlagCtor, NumbersCtor, SingleCtor, WildCtor}
use Rattle.match_model.specs.ArenaPatterns.{MDePat, de_pat, no_de_pats, de_pats_of, MDeArm, MDeMatch}
use Rattle.match_model.specs.Pieces.{one_more, last_one, IsCut}
use Rattle.match_model.specs.Places.{MStep, FieldStep}
use Rattle.match_model.specs.Trees.{FlagCase, SpanCase, ElseCase, MNode, SwitchNode, TakeNode}
use Rattle.match_model.specs.PieceStates.{is_present}
use Rattle.match_model.specs.Matrices.{MColumn, MRow, first_matrix}
use Rattle.match_model.specs.RustTypes.{rust_context, RustValue}
use Rattle.match_model.specs.DecisionTrees.{IsMissing, MTree, SwitchTree, TakeTree, no_branch, more_branches}
use Rattle.match_model.specs.Lists.{Among}
use Rattle.match_model.specs.Numbering.{match_decisions}
use Rattle.match_model.specs.Steps.{expand_head, specialise_head, default_head, rows_at}
use Rattle.match_model.specs.Lowering.{ctors_at, Lowers, takes, opens, switches, no_else, with_else, no_case, one_case}
use Rattle.match_model.specs.FewestBranches.{as_cases, nothing_missing, something_missing, no_branch_of, branch_of}
use Rattle.match_model.specs.SharedTrees.{to_take, to_switch, nothing, last_first, switch_of, take_of}
use Rattle.match_model.specs.MatchTree.{IsMatchTree, lowered}
use Rattle.tree_laws.proofs.OneTree.{clash}
use Rattle.tree_laws.proofs.FewestPlaces.{fewest-of}
use Rattle.tree_examples.proofs.Small.{program, tuple, flag_pat, as_they_are}
use Rattle.tree_examples.proofs.ExamplesPrinted.{no_tree, Fewest, Count, alone}
use Rattle.tree_examples.proofs.ExamplesPairs.{count_one}

abbrev byte_flag : MType
byte_flag = TupleType (more_types (IntType U8) (more_types BoolType no_types))

abbrev span : ℕ → ℕ → MRange
span a b = record { low = At (pos a); high = At (pos b) }

abbrev byte : ℕ → ℕ → MDePat MType
byte u n = de_pat (NumbersCtor (span n n)) (IntType U8) u u no_de_pats []

abbrev any_byte : ℕ → MDePat MType
any_byte u = de_pat WildCtor (IntType U8) u u no_de_pats []

abbrev one_arm : ℕ → MDePat MType → MDePat MType → MDeArm MType
one_arm u p q = record { pat = de_pat SingleCtor byte_flag u u (de_pats_of (p ∷ q ∷ [])) []; guarded = false }

abbrev four_arms : MDeMatch MType
four_arms = record {
  type = byte_flag;
  sure = true;
  arms =
      one_arm 1 (byte 2 0) (flag_pat 3 true) ∷ one_arm 4 (byte 5 1) (flag_pat 6 true) ∷ one_arm 7 (any_byte 8)
      (flag_pat 9 true) ∷ one_arm 10 (any_byte 11) (flag_pat 12 false) ∷ [];
}

abbrev rows : List (MRow MType)
rows = (first_matrix four_arms).rows

abbrev whole_column : MColumn MType
whole_column = record { place = []; type = byte_flag; sure = true }

abbrev byte_place : List MStep
byte_place = FieldStep 0 0 ∷ []

abbrev flag_place : List MStep
flag_place = FieldStep 0 1 ∷ []

abbrev byte_column : MColumn MType
byte_column = record { place = byte_place; type = IntType U8; sure = true }

abbrev flag_column : MColumn MType
flag_column = record { place = flag_place; type = BoolType; sure = true }

abbrev columns : List (MColumn MType)
columns = byte_column ∷ flag_column ∷ []

-- the rows of the parts, those with `true`, and those with `false`
abbrev parts : List (MRow MType)
parts = rows_at (specialise_head SingleCtor 2) [] 0 (rows_at expand_head [] 0 rows)

abbrev spread : List (MRow MType)
spread = rows_at expand_head flag_place 1 parts

abbrev with_true : List (MRow MType)
with_true = rows_at (specialise_head (FlagCtor true) 0) flag_place 1 spread

abbrev with_false : List (MRow MType)
with_false = rows_at (specialise_head (FlagCtor false) 0) flag_place 1 spread

-- the pieces of the byte: 0, 1, and all others
abbrev byte_pieces : List MCtor
byte_pieces = NumbersCtor (span 0 0) ∷ NumbersCtor (span 1 1) ∷ NumbersCtor (span 2 255) ∷ []

cut_tests : (n : ℤ) → (int_eq n (pos 0) || (int_eq n (pos 1) || (int_eq n (pos 2) || false))) ≡ ((int_eq n
    (pos 0) || int_eq (n -ℤ pos 1) (pos 0)) || ((int_eq n (pos 1) || int_eq (n -ℤ pos 1) (pos 1)) || false))
cut_tests n =
    go (int_eq n (pos 0)) (int_eq n (pos 1)) (int_eq n (pos 2)) (int_eq (n -ℤ pos 1) (pos 0))
    (int_eq (n -ℤ pos 1) (pos 1)) refl refl refl refl
  where
    one_up : int_eq n (pos 1) ≡ true → int_eq (n -ℤ pos 1) (pos 0) ≡ false → ⊥
    one_up h k = grind arith

    one_down : int_eq n (pos 1) ≡ false → int_eq (n -ℤ pos 1) (pos 0) ≡ true → ⊥
    one_down h k = grind arith

    two_up : int_eq n (pos 2) ≡ true → int_eq (n -ℤ pos 1) (pos 1) ≡ false → ⊥
    two_up h k = grind arith

    two_down : int_eq n (pos 2) ≡ false → int_eq (n -ℤ pos 1) (pos 1) ≡ true → ⊥
    two_down h k = grind arith

    go : (p q r s t : Bool) → int_eq n (pos 1) ≡ q → int_eq n (pos 2) ≡ r → int_eq (n -ℤ pos 1) (pos 0) ≡ s →
        int_eq (n -ℤ pos 1) (pos 1) ≡ t → (p || (q || (r || false))) ≡ ((p || s) || ((q || t) || false))
    go p true r false t e f g h = absurd (one_up e g)
    go p false r true t e f g h = absurd (one_down e g)
    go p q true s false e f g h = absurd (two_up f h)
    go p q false s true e f g h = absurd (two_down f h)
    go true true true true true e f g h = refl
    go true true false true false e f g h = refl
    go true false true false true e f g h = refl
    go true false false false false e f g h = refl
    go false true true true true e f g h = refl
    go false true false true false e f g h = refl
    go false false true false true e f g h = refl
    go false false false false false e f g h = refl

byte_cut : IsCut (span 0 255) (span 0 0 ∷ span 1 1 ∷ []) (span 0 0 ∷ span 1 1 ∷ span 2 255 ∷ [])
byte_cut = record {
  together =
      one_more (At (pos 0)) (At (pos 255)) (pos 0) (span 1 1 ∷ span 2 255 ∷ []) refl
      (one_more (At (pos 1)) (At (pos 255)) (pos 1) (span 2 255 ∷ []) refl
      (last_one (At (pos 2)) (At (pos 255)) (pos 2) refl));
  cut = λ n a b. same (cut_tests n);
}
  where
    same : {x y : Bool} → x ≡ y → IsTrue x ↔ IsTrue y
    same e = ((λ h. sym e ∙ h), (λ h. e ∙ h))

byte_missing : IsMissing byte_pieces (NumbersCtor (span 0 0) ∷ NumbersCtor (span 1 1) ∷ []) (NumbersCtor (span 2 255))
byte_missing = ((2, omega arith, refl), refl)

byte_count : Count 0 byte_column parts 3
byte_count =
    as_cases byte_pieces 3 refl (span 0 0 ∷ span 1 1 ∷ span 2 255 ∷ [], [], byte_cut, refl, refl)
    (branch_of (NumbersCtor (span 0 0)) _ 2 refl (Num (pos 0), refl, refl)
    (branch_of (NumbersCtor (span 1 1)) _ 1 refl (Num (pos 1), refl, refl)
    (no_branch_of (NumbersCtor (span 2 255)) [] 1 (inl refl)
    (something_missing (NumbersCtor (span 2 255)) byte_missing (Num (pos 2), refl, refl)))))

later_byte_count : Count 0 byte_column with_true 3
later_byte_count =
    as_cases byte_pieces 3 refl (span 0 0 ∷ span 1 1 ∷ span 2 255 ∷ [], [], byte_cut, refl, refl)
    (branch_of (NumbersCtor (span 0 0)) _ 2 refl (Num (pos 0), refl, refl)
    (branch_of (NumbersCtor (span 1 1)) _ 1 refl (Num (pos 1), refl, refl)
    (no_branch_of (NumbersCtor (span 2 255)) [] 1 (inl refl)
    (something_missing (NumbersCtor (span 2 255)) byte_missing (Num (pos 2), refl, refl)))))

-- no piece of the flag is missing
abbrev flag_heads : List MCtor
flag_heads = ctors_at 1 spread

none_missing : (p : MCtor) → IsMissing (FlagCtor false ∷ FlagCtor true ∷ []) flag_heads p → ⊥
none_missing p ((zero, l, e), f) =
    let same : FlagCtor false ≡ p = e in clash (is_present flag_heads (FlagCtor false)) refl (subst
    (λ q. is_present flag_heads q ≡ false) (sym same) f)
none_missing p ((suc zero, l, e), f) =
    let same : FlagCtor true ≡ p = e in clash (is_present flag_heads (FlagCtor true)) refl (subst
    (λ q. is_present flag_heads q ≡ false) (sym same) f)
none_missing p ((suc (suc n), l, e), f) = absurd (omega (arith, l))

flag_count : Count 1 flag_column parts 2
flag_count =
    as_cases (FlagCtor false ∷ FlagCtor true ∷ []) 2 refl refl
    (branch_of (FlagCtor false) _ 1 refl (Flag false, refl, refl)
    (branch_of (FlagCtor true) [] 0 refl (Flag true, refl, refl) (nothing_missing (λ p m h. none_missing p m))))

flag_first : Fewest columns parts 1
flag_first =
    fewest-of (rust_context program) (RustValue program) columns parts 1 flag_column 2 refl refl flag_count
    (λ j d e h. by j d e)
  where
    some_is : (x y : MColumn MType) → Some x ≡ Some y → x ≡ y
    some_is x y e = cc

    by : (j : ℕ) (d : MColumn MType) → slice_get columns j ≡ Some d → (j ≡ 1)
        ⊎ ((m : ℕ) × Count j d parts m × (j < 1 → 2 < m) × (2 ≤ m))
    by zero d e =
        inr (3, subst (λ x. Count 0 x parts 3) (some_is byte_column d e) byte_count, (λ l. omega arith), omega arith)
    by (suc zero) d e = inl refl
    by (suc (suc j)) d e = cc

abbrev byte_tree : MTree
byte_tree =
    SwitchTree byte_place (more_branches (SpanCase (span 0 0)) (TakeTree 0 [])
    (more_branches (SpanCase (span 1 1)) (TakeTree 1 []) (more_branches ElseCase (TakeTree 2 []) no_branch)))

abbrev flag_tree : MTree
flag_tree =
    SwitchTree flag_place (more_branches (FlagCase false) (TakeTree 3 [])
    (more_branches (FlagCase true) byte_tree no_branch))

abbrev Lowered : List (MColumn MType) → List (MRow MType) → MTree → Type 0
Lowered cs rs t =
    Lowers (rust_context program) (RustValue program) (match_decisions four_arms) Fewest
    ((u : MValue) → RustValue program byte_flag true u → u ≡ Unseen) cs rs t

abbrev later : List (MRow MType)
later = rows_at expand_head byte_place 0 with_true

byte_lowers : Lowered (byte_column ∷ []) with_true byte_tree
byte_lowers =
    switches 0 byte_column (byte_column ∷ []) with_true later byte_pieces _
    (alone byte_column with_true 3 refl later_byte_count) refl
    (as_they_are _ _ ((inl (omega arith), (inl (omega arith), tt)), ((inl (omega arith), tt), (tt, tt)))) refl refl
    (span 0 0 ∷ span 1 1 ∷ span 2 255 ∷ [], [], byte_cut, refl, refl)
    (one_case 0 _ _ later (rows_at (specialise_head (NumbersCtor (span 0 0)) 0) byte_place 0 later) _
    (NumbersCtor (span 0 0)) _ (TakeTree 0 []) _ refl (Num (pos 0), refl, refl)
    (as_they_are _ _ ((inl (omega arith), tt), (tt, tt))) (takes [] _ _ refl refl)
    (one_case 0 _ _ later (rows_at (specialise_head (NumbersCtor (span 1 1)) 0) byte_place 0 later) _
    (NumbersCtor (span 1 1)) _ (TakeTree 1 []) _ refl (Num (pos 1), refl, refl)
    (as_they_are _ _ ((inl (omega arith), tt), (tt, tt))) (takes [] _ _ refl refl)
    (no_case 0 _ _ later _ (NumbersCtor (span 2 255)) [] _ (inl refl)
    (with_else 0 _ _ later (rows_at default_head byte_place 0 later) _ (NumbersCtor (span 2 255))
    (TakeTree 2 []) byte_missing (Num (pos 2), refl, refl)
    (as_they_are _ _ (tt, tt)) (takes [] _ [] refl refl)))))

abbrev zero_true : MValue
zero_true = tuple (Num (pos 0) ∷ Flag true ∷ [])

flag_lowers : Lowered (whole_column ∷ []) rows flag_tree
flag_lowers =
    opens 0 whole_column (whole_column ∷ []) rows (rows_at expand_head [] 0 rows) parts SingleCtor flag_tree
    (alone whole_column rows 1 refl (count_one byte_flag zero_true refl refl refl rows refl refl)) refl
    (as_they_are _ _ (
      (inl (omega arith), (inl (omega arith), (inl (omega arith), tt))),
      ((inl (omega arith), (inl (omega arith), tt)), ((inl (omega arith), tt), (tt, tt))),
    )) refl refl refl
    (as_they_are _ _ (
      (inl (omega arith), (inl (omega arith), (inl (omega arith), tt))),
      ((inl (omega arith), (inl (omega arith), tt)), ((inl (omega arith), tt), (tt, tt))),
    ))
    (switches 1 flag_column columns parts spread (FlagCtor false ∷ FlagCtor true ∷ []) _ flag_first refl
    (as_they_are _ _ (
      (inl (omega arith), (inl (omega arith), (inl (omega arith), tt))),
      ((inl (omega arith), (inl (omega arith), tt)), ((inl (omega arith), tt), (tt, tt))),
    )) refl refl refl
    (one_case 1 _ _ spread with_false _ (FlagCtor false) _ (TakeTree 3 []) _ refl (Flag false, refl, refl)
    (as_they_are _ _ (tt, tt)) (takes (byte_column ∷ []) _ [] refl refl)
    (one_case 1 _ _ spread with_true _ (FlagCtor true) [] byte_tree _ refl (Flag true, refl, refl)
    (as_they_are _ _ ((inl (omega arith), (inl (omega arith), tt)), ((inl (omega arith), tt), (tt, tt)))) byte_lowers
    (no_else 1 _ _ spread _ (λ p m h. none_missing p m)))))

take_one_new : ¬ Among (TakeTree 1 []) (TakeTree 2 [] ∷ [])
take_one_new (inl e) = differ e
  where
    differ : TakeTree 1 [] ≡ TakeTree 2 [] → ⊥
    differ e = cc
take_one_new (inr a) = a

take_zero_new : ¬ Among (TakeTree 0 []) (TakeTree 1 [] ∷ TakeTree 2 [] ∷ [])
take_zero_new (inl e) = differ e
  where
    differ : TakeTree 0 [] ≡ TakeTree 1 [] → ⊥
    differ e = cc
take_zero_new (inr (inl e)) = differ e
  where
    differ : TakeTree 0 [] ≡ TakeTree 2 [] → ⊥
    differ e = cc
take_zero_new (inr (inr a)) = a

take_three_new : ¬ Among (TakeTree 3 []) (byte_tree ∷ TakeTree 0 [] ∷ TakeTree 1 [] ∷ TakeTree 2 [] ∷ [])
take_three_new (inl e) = differ e
  where
    differ : TakeTree 3 [] ≡ byte_tree → ⊥
    differ e = cc
take_three_new (inr (inl e)) = differ e
  where
    differ : TakeTree 3 [] ≡ TakeTree 0 [] → ⊥
    differ e = cc
take_three_new (inr (inr (inl e))) = differ e
  where
    differ : TakeTree 3 [] ≡ TakeTree 1 [] → ⊥
    differ e = cc
take_three_new (inr (inr (inr (inl e)))) = differ e
  where
    differ : TakeTree 3 [] ≡ TakeTree 2 [] → ⊥
    differ e = cc
take_three_new (inr (inr (inr (inr a)))) = a

abbrev four_nodes : List MNode
four_nodes =
    SwitchNode flag_place (record { case = FlagCase false; next = 1 } ∷ record { case = FlagCase true; next = 2 } ∷ [])
    ∷ TakeNode 3 []
    ∷ SwitchNode byte_place (record { case = SpanCase (span 0 0); next = 3 } ∷ record
    { case = SpanCase (span 1 1); next = 4 } ∷ record { case = ElseCase; next = 5 } ∷ [])
    ∷ TakeNode 0 []
    ∷ TakeNode 1 []
    ∷ TakeNode 2 []
    ∷ []

pub fewest_first : IsMatchTree (rust_context program) (RustValue program) four_arms four_nodes
fewest_first =
    lowered zero_true flag_tree four_nodes refl flag_lowers
    (record {
      trees = flag_tree ∷ TakeTree 3 [] ∷ byte_tree ∷ TakeTree 0 [] ∷ TakeTree 1 [] ∷ TakeTree 2 [] ∷ [];
      walk = to_switch [] _ flag_place _ (no_tree flag_tree)
          (last_first [] _ _ (FlagCase false) (TakeTree 3 []) _
          (last_first [] _ _ (FlagCase true) byte_tree no_branch (nothing [])
          (to_switch [] _ byte_place _ (no_tree byte_tree)
          (last_first [] _ _ (SpanCase (span 0 0)) (TakeTree 0 []) _
          (last_first [] _ _ (SpanCase (span 1 1)) (TakeTree 1 []) _
          (last_first [] _ _ ElseCase (TakeTree 2 []) no_branch (nothing [])
          (to_take [] 2 [] (no_tree (TakeTree 2 []))))
          (to_take _ 1 [] take_one_new))
          (to_take _ 0 [] take_zero_new))))
          (to_take _ 3 [] take_three_new));
      are = (
        switch_of _ _ _ ((refl, refl), ((refl, refl), tt)),
        (
          take_of 3 [],
          (
            switch_of _ _ _ ((refl, refl), ((refl, refl), ((refl, refl), tt))),
            (take_of 0 [], (take_of 1 [], (take_of 2 [], tt))),
          ),
        ),
      );
    })

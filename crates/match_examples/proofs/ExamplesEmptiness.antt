-- Witness lists of matches with variants that have no value, a bare unseen, an enum that gets variants later, and wildcards.
use Rattle.std.proofs.Common.{◌≡◌, Bool, true, false, [], ◌∷◌, Some, refl, subst, IsTrue}
use Rattle.match_model.specs.Types.{ResultOwner, MType, BoolType, NeverType, NamedType, no_types, more_types}
use Rattle.match_model.specs.Values.{MValue, Flag, Num, Text, Node, Point, Row, Thing, Later, Unseen, MValues, no_values, more_values, values_of}
use Rattle.match_model.specs.Typing.{is_value}
use Rattle.match_model.specs.Witness.{AnyOf, FlagOf, NodeOf, witnesses_of}
use Rattle.match_model.specs.Constructors.{VariantCtor, FlagCtor, WildCtor, OrCtor, builds}
use Rattle.match_model.specs.ArenaPatterns.{MDePat, de_pat, no_de_pats, de_pats_of, MDeMatch}
use Rattle.match_model.specs.WitnessList.{IsWitnessList, nothing_to_match, by_rows, no_row, taken, anything, by_pieces, with_value, without_value, no_piece}
use Rattle.match_model.specs.RustTypes.{rust_context, RustValue}
use Rattle.match_examples.proofs.ExamplesValues.{program, declared}
use Rattle.match_examples.proofs.SmallMatches.{one, flag_pat}
use Rattle.match_model.proofs.Basics.{both, nat_equal, untrue}

-- `match *x {}` on a reference to an enum without variants: nothing is left out
abbrev no_variant : MDeMatch MType
no_variant = record { type = declared 3; sure = false; arms = [] }

only_unseen : (v : MValue) → RustValue program (declared 3) false v → v ≡ Unseen
only_unseen Unseen h = refl
only_unseen (Flag b) h = cc
only_unseen (Num n) h = cc
only_unseen (Text u) h = cc
only_unseen (Node k parts) h = cc
only_unseen (Point m v) h = cc
only_unseen (Row items) h = cc
only_unseen Thing h = cc
only_unseen Later h = cc

pub unseen_list : IsWitnessList (rust_context program) (RustValue program) no_variant []
unseen_list = nothing_to_match only_unseen

-- `_ if g => ..` on a marked enum without variants: what is left is anything
abbrev any_guarded : MDeMatch MType
any_guarded = record { type = declared 2; sure = true; arms = record { pat = de_pat WildCtor (declared 2) 1 1 no_de_pats []; guarded = true } ∷ [] }

later_seen : Later ≡ Unseen → ⊥
later_seen e = cc

pub marked_list : IsWitnessList (rust_context program) (RustValue program) any_guarded (AnyOf ∷ [])
marked_list = by_rows Later (AnyOf ∷ []) refl later_seen (no_row (record { type = declared 2; sure = true } ∷ []))

-- `Ok(true) => ..` on `Result<bool, !>`: at a sure place `Err` is left out, at an unsure place it is not
abbrev result : MType
result = NamedType ResultOwner (more_types BoolType (more_types NeverType no_types))

abbrev ok_pat : MDePat MType
ok_pat = de_pat (VariantCtor 0) result 1 1 (de_pats_of (flag_pat true ∷ [])) []

no_never : (v : MValue) → is_value program true NeverType v ≡ true → ⊥
no_never Unseen h = untrue h
no_never (Flag b) h = untrue h
no_never (Num n) h = untrue h
no_never (Text u) h = untrue h
no_never (Node k parts) h = untrue h
no_never (Point m v) h = untrue h
no_never (Row items) h = untrue h
no_never Thing h = untrue h
no_never Later h = untrue h

err_parts : (parts : MValues) → is_value program true result (Node 1 parts) ≡ true → ⊥
err_parts no_values h = untrue h
err_parts (more_values u us) h = no_never u (both _ _ h).0

no_err : (v : MValue) → RustValue program result true v → IsTrue (builds [] (VariantCtor 1) v) → ⊥
no_err (Node k parts) h b = err_parts parts (subst (λ j. is_value program true result (Node j parts) ≡ true) (nat_equal k 1 b) h)
no_err (Flag c) h b = untrue b
no_err (Num n) h b = untrue b
no_err (Text u) h b = untrue b
no_err (Point m v) h b = untrue b
no_err (Row items) h b = untrue b
no_err Thing h b = untrue b
no_err Later h b = untrue b
no_err Unseen h b = untrue b

abbrev ok_at : Bool → MDeMatch MType
ok_at sure = record { type = result; sure = sure; arms = record { pat = ok_pat; guarded = false } ∷ [] }

abbrev ok_true : MValue
ok_true = Node 0 (values_of (Flag true ∷ []))

ok_seen : ok_true ≡ Unseen → ⊥
ok_seen e = cc

pub sure_list : IsWitnessList (rust_context program) (RustValue program) (ok_at true) (NodeOf 0 (witnesses_of (FlagOf false ∷ [])) ∷ [])
sure_list =
    by_rows ok_true _ refl ok_seen
    (by_pieces (record { type = result; sure = true }) [] (Some ok_pat ∷ []) [] (VariantCtor 0 ∷ VariantCtor 1 ∷ []) _ refl refl
    (with_value _ _ _ _ (VariantCtor 0) _ ((FlagOf false ∷ []) ∷ []) _ (ok_true, refl, refl)
    (by_pieces (record { type = BoolType; sure = true }) [] (Some (flag_pat true) ∷ []) [] (FlagCtor false ∷ FlagCtor true ∷ []) _ refl refl
    (with_value _ _ _ _ (FlagCtor false) _ ([] ∷ []) _ (Flag false, refl, refl) (no_row [])
    (with_value _ _ _ _ (FlagCtor true) [] [] [] (Flag true, refl, refl) (taken [] []) (no_piece _ _ _ _))))
    (without_value _ _ _ _ (VariantCtor 1) [] [] (λ e. no_err e.0 e.1 e.2) (no_piece _ _ _ _))))

pub unsure_list : IsWitnessList (rust_context program) (RustValue program) (ok_at false) (NodeOf 0 (witnesses_of (FlagOf false ∷ [])) ∷ NodeOf 1 (witnesses_of (AnyOf ∷ [])) ∷ [])
unsure_list =
    by_rows ok_true _ refl ok_seen
    (by_pieces (record { type = result; sure = false }) [] (Some ok_pat ∷ []) [] (VariantCtor 0 ∷ VariantCtor 1 ∷ []) _ refl refl
    (with_value _ _ _ _ (VariantCtor 0) _ ((FlagOf false ∷ []) ∷ []) _ (ok_true, refl, refl)
    (by_pieces (record { type = BoolType; sure = false }) [] (Some (flag_pat true) ∷ []) [] (FlagCtor false ∷ FlagCtor true ∷ []) _ refl refl
    (with_value _ _ _ _ (FlagCtor false) _ ([] ∷ []) _ (Flag false, refl, refl) (no_row [])
    (with_value _ _ _ _ (FlagCtor true) [] [] [] (Flag true, refl, refl) (taken [] []) (no_piece _ _ _ _))))
    (with_value _ _ _ _ (VariantCtor 1) [] ((AnyOf ∷ []) ∷ []) [] (Node 1 (values_of (Unseen ∷ [])), refl, refl) (no_row (record { type = NeverType; sure = false } ∷ [])) (no_piece _ _ _ _))))

-- `_ | _ => ..` on `bool`: the place is expanded, and nothing is left
abbrev either_wild : MDePat MType
either_wild = de_pat OrCtor BoolType 1 1 (de_pats_of (de_pat WildCtor BoolType 2 1 no_de_pats [] ∷ de_pat WildCtor BoolType 3 5 no_de_pats [] ∷ [])) []

flag_seen : Flag true ≡ Unseen → ⊥
flag_seen e = cc

pub wild_list : IsWitnessList (rust_context program) (RustValue program) (one BoolType either_wild) []
wild_list = by_rows (Flag true) [] refl flag_seen (anything (record { type = BoolType; sure = true }) [] (Some either_wild ∷ []) [] [] refl (taken [] ([] ∷ [])))

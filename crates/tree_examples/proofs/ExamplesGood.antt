-- A worked example: what the theorem on trees asks is met by a match of Rust, so its printed tree is good.
use Rattle.std.proofs.Common.{◌≡◌, ◌<◌, ◌^◌, ℕ, zero, suc, true, false, [], ◌∷◌, length, nat_eq, Some, slice_get, refl, subst, arith, IsTrue}
use Rattle.std.specs.List.{Contains, IsDistinct}
use Rattle.match_model.specs.Types.{MType, BoolType, DeclaredItem, NamedType, MTypes, no_types, types_list}
use Rattle.match_model.specs.Values.{MValue, Later, Unseen}
use Rattle.match_model.specs.Declarations.{item_types}
use Rattle.match_model.specs.Typing.{is_value}
use Rattle.match_model.specs.RustTypes.{rust_context, RustValue, IsSoundProgram, are_types, is_declared}
use Rattle.match_model.specs.Emptiness.{IsRustType}
use Rattle.match_model.specs.ArenaPatterns.{MDeArm}
use Rattle.match_model.specs.WellTyped.{names_differ, IsTyped, IsWellTyped}
use Rattle.match_model.specs.Trees.{FlagCase, ElseCase, SwitchNode, TakeNode, MissNode}
use Rattle.match_model.specs.FewestBranches.{IsFewest}
use Rattle.match_model.proofs.RustParts.{rust_parts}
use Rattle.match_model.proofs.RustValues.{rust_values_law}
use Rattle.tree_laws.specs.Laws.{AreGoodFor}
use Rattle.tree_laws.proofs.Matches.{good-tree}
use Rattle.tree_examples.proofs.Small.{program, flag_pat}
use Rattle.tree_examples.proofs.ExamplesPrinted.{one_arm, only_true}

sound : IsSoundProgram program
sound = record { fields = fields; few = few; finite = finite }
  where
    fields : (i k : ℕ) (ts : MTypes) → item_types (slice_get program.items i) k ≡ Some ts →
        IsTrue (are_types program ts)
    fields zero k ts e = cc
    fields (suc zero) k ts e = cc
    fields (suc (suc i)) k ts e = cc

    few : (i k : ℕ) (ts : MTypes) → item_types (slice_get program.items i) k ≡ Some ts → length (types_list ts) < 2 ^ 32
    few zero k ts e = cc
    few (suc zero) k ts e = cc
    few (suc (suc i)) k ts e = cc

    finite : (i : ℕ) → IsTrue (is_declared (slice_get program.items i)) → (arguments : MTypes) × (v : MValue)
        × IsTrue (is_value program false (NamedType (DeclaredItem i) arguments) v)
    finite zero h = (no_types, Later, refl)
    finite (suc zero) h = (no_types, Unseen, refl)
    finite (suc (suc i)) h = cc

distinct : IsDistinct nat_eq (0 ∷ [])
unfolding IsDistinct
distinct = (tt, tt)

typed : IsWellTyped (IsRustType program) (rust_context program) (one_arm (flag_pat 0 true))
typed = record { type = refl; typed = arms; names = names; uids = distinct }
  where
    only : (n : ℕ) → suc n < 1 → ⊥
    only n l = omega (arith, l)

    arms : (a : MDeArm MType) → Contains (one_arm (flag_pat 0 true)).arms a →
        IsTyped (rust_context program) BoolType a.pat
    arms a (zero, l, e) =
        subst (λ (x : MDeArm MType). IsTyped (rust_context program) BoolType x.pat) e (refl, refl, (refl, refl, tt))
    arms a (suc n, l, e) = absurd (only n l)

    names : (a : MDeArm MType) → Contains (one_arm (flag_pat 0 true)).arms a → IsTrue (names_differ a.pat)
    names a (zero, l, e) = subst (λ (x : MDeArm MType). IsTrue (names_differ x.pat)) e refl
    names a (suc n, l, e) = absurd (only n l)

-- the nodes of `true => ..` on `bool`
pub only_true_is_good : AreGoodFor (RustValue program) (one_arm (flag_pat 0 true))
    (SwitchNode [] (record { case = FlagCase true; next = 1 } ∷ record { case = ElseCase; next = 2 } ∷ []) ∷ TakeNode 0
    [] ∷ MissNode ∷ [])
only_true_is_good =
    good-tree (IsRustType program) (rust_context program) (RustValue program) (rust_parts program sound)
    (rust_values_law program)
    (IsFewest (rust_context program) (RustValue program)) (one_arm (flag_pat 0 true)) _ typed ((tt, tt), tt) only_true

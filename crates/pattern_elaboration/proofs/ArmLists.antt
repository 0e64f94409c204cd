-- The arms of a match that is made, one by one.
use Rattle.std.proofs.Common.{◌≡◌, ℕ, zero, suc, ◌+◌, ◌<◌, ◌≤◌, List, [], ◌∷◌, ◌++◌, map, length, take, get_or, Some, nat_eq, refl, sym, ap, subst, ◌∙◌, arith}
use Rattle.std.specs.Prelude.{slice_get, is_none}
use Rattle.std.proofs.lemmas.List.{map-append, take_more}
use Rattle.std.specs.List.{Contains, IsDistinct, flat_map}
use Rattle.match_model.specs.declared.Mode.TheVariants.{Move}
use Rattle.match_model.specs.Types.{MType}
use Rattle.match_model.specs.Lists.{Each, Every}
use Rattle.match_model.specs.ArenaPatterns.{MDePat, de_pats_of, MDeArm, MDeMatch, type_of}
use Rattle.match_model.specs.WellTyped.{uids_in, uids_in_all}
use Rattle.decl_syntax.specs.declared.items.Arm.{Arm}
use Rattle.decl_syntax.specs.Functions.{FunctionTree}
use Rattle.decl_syntax.specs.Items.{ArmTree, arm_view}
use Rattle.decl_syntax.specs.Patterns.{PatternTree}
use Rattle.pattern_arena.specs.declared.matches.CheckedArm.{CheckedArm}
use Rattle.pattern_arena.specs.declared.pattern.DePat.{DePat}
use Rattle.pattern_arena.specs.Trees.{tree, plain_arm}
use Rattle.type_table.specs.declared.table.TypeTable.{TypeTable}
use Rattle.type_table.specs.declared.table.TyId.{TyId}
use Rattle.type_table.specs.Tables.{IsOf, table_type}
use Rattle.pattern_rules.specs.Settings.{Setting}
use Rattle.pattern_rules.specs.Nodes.{offset_of}
use Rattle.pattern_rules.specs.Faults.{scrutinee_type}
use Rattle.pattern_rules.specs.ArenaForms.{all_within, all_below}
use Rattle.pattern_rules.specs.Elaborated.{standing_at}
use Rattle.pattern_rules.specs.Shown.{shown}
use Rattle.pattern_rules.specs.ShownMatches.{IsSoundArm, IsShownMatch}
use Rattle.pattern_elaboration.specs.Arms.{IsArmShown, arm_trees, IsMatchMade}
use Rattle.pattern_elaboration.specs.Checking.{IsSettingOf}
use Rattle.pattern_elaboration.specs.Fitting.{Fits}
use Rattle.pattern_elaboration.specs.Numbered.{times, AreNumbered, AreMade}
use Rattle.pattern_elaboration.specs.Walking.{plain, PatternShown}
use Rattle.pattern_elaboration.specs.Written.{built}
use Rattle.pattern_elaboration.proofs.FieldLists.{every_left, every_right}
use Rattle.pattern_elaboration.proofs.Fittings.{arm_fits}
use Rattle.pattern_elaboration.proofs.Numbering.{times_both, numbered_distinct, arms_uids}

-- a pattern at the offset of the written one
pub arm_pattern : (table : TypeTable) (t : MType) (written : PatternTree) (below made : DePat TyId) →
    shown (table_type table) (tree made) ≡ standing_at (offset_of written) (plain table below) →
    PatternShown table t Move written below →
    (s : Setting) → IsSettingOf table s → Fits s t written →
    shown (table_type table) (tree made) ≡ standing_at (offset_of written) (built s t Move written)
arm_pattern table t written below made stands h s of fits = stands ∙ ap (standing_at (offset_of written)) (h s of fits)

-- one thing more on each side
pub each_more : {A B : Type 0} (R : A → B → Type 0) (xs : List A) (ys : List B) (x : A) (y : B) → Each R xs ys →
    R x y → Each R (xs ++ x ∷ []) (ys ++ y ∷ [])
each_more R [] [] x y h r = (r, tt)
each_more R [] (b ∷ ys) x y h r = absurd h
each_more R (a ∷ xs) [] x y h r = absurd h
each_more R (a ∷ xs) (b ∷ ys) x y h r = (h.0, each_more R xs ys x y h.1 r)

pub each_length : {A B : Type 0} (R : A → B → Type 0) (xs : List A) (ys : List B) → Each R xs ys → length ys ≡ length xs
each_length R [] [] h = refl
each_length R [] (b ∷ ys) h = absurd h
each_length R (a ∷ xs) [] h = absurd h
each_length R (a ∷ xs) (b ∷ ys) h = ap suc (each_length R xs ys h.1)

pub each_at : {A B : Type 0} (R : A → B → Type 0) (xs : List A) (ys : List B) (j : ℕ) (x : A) (y : B) → Each R xs ys →
    slice_get xs j ≡ Some x → slice_get ys j ≡ Some y → R x y
each_at R [] [] j x y h e f = absurd cc
each_at R [] (b ∷ ys) j x y h e f = absurd h
each_at R (a ∷ xs) [] j x y h e f = absurd h
each_at R (a ∷ xs) (b ∷ ys) zero x y h e f =
    let p : a ≡ x = cc in
    let q : b ≡ y = cc in
    subst (λ z. R z y) p (subst (λ z. R a z) q h.0)
each_at R (a ∷ xs) (b ∷ ys) (suc j) x y h e f = each_at R xs ys j x y h.1 e f

-- one arm more
pub arms_more : (R : ArmTree → MDeArm TyId → Type 0) (arms : List Arm) (i : ℕ) (a : Arm) (ds : List (CheckedArm TyId))
    (d : CheckedArm TyId) → i < length arms →
    a ≡ get_or arms i a → Each R (map arm_view (take i arms)) (map plain_arm ds) → R (arm_view a) (plain_arm d) →
    Each R (map arm_view (take (i + 1) arms)) (map plain_arm (ds ++ d ∷ []))
arms_more R arms i a ds d lt e h r =
    let xs : map arm_view (take (i + 1) arms) ≡ map arm_view (take i arms) ++ arm_view a ∷ []
    = ap (map arm_view) (take_more arms i a lt ∙ ap (λ (b : Arm). take i arms ++ b ∷ []) (sym e))
    ∙ map-append arm_view (take i arms) (a ∷ []) in
    rw (xs, map-append plain_arm ds (d ∷ [])) (each_more R (map arm_view (take i arms)) (map plain_arm ds)
    (arm_view a) (plain_arm d) h r)

pub arm_trees_more : (ds : List (CheckedArm TyId)) (d : CheckedArm TyId) →
    arm_trees (ds ++ d ∷ []) ≡ arm_trees ds ++ tree d.pat ∷ []
arm_trees_more ds d = map-append (λ (x : CheckedArm TyId). tree x.pat) ds (d ∷ [])

patterns_of : (ds : List (CheckedArm TyId)) → map (λ (d : MDeArm TyId). d.pat) (map plain_arm ds) ≡ arm_trees ds
patterns_of [] = refl
patterns_of (d ∷ ds) = ap (λ (ps : List (MDePat TyId)). tree d.pat ∷ ps) (patterns_of ds)

arms_every : (E : MDePat TyId → Type 0) (ds : List (CheckedArm TyId)) →
    Every E (all_below (de_pats_of (arm_trees ds))) →
    Every (λ (d : MDeArm TyId). Every E (all_within d.pat)) (map plain_arm ds)
arms_every E [] h = tt
arms_every E (d ∷ ds) h = (
  every_left E (all_within (tree d.pat)) (all_below (de_pats_of (arm_trees ds))) h,
  arms_every E ds
      (every_right E (all_within (tree d.pat)) (all_below (de_pats_of (arm_trees ds))) h),
)

-- each uid stands once at most
once_at_most : (a b u : ℕ) (us : List ℕ) → AreNumbered a b us → times u us ≤ 1
once_at_most a b u us h = grind (arith, h.once u)

pub match_made : (table : TypeTable) (to : ℕ) (m : MDeMatch TyId) (ds : List (CheckedArm TyId)) → IsOf table m.type →
    m.arms ≡ map plain_arm ds →
    AreMade (IsOf table) 0 to (arm_trees ds) → IsMatchMade table m
match_made table to m ds o e h = record {
  type = o;
  uids =
      subst (IsDistinct nat_eq) (sym (ap (flat_map (λ (d : MDeArm TyId). uids_in d.pat)) e
      ∙ (arms_uids (IsOf table) (map plain_arm ds) ∙ ap (λ (ps : List (MDePat TyId)). uids_in_all (de_pats_of ps))
      (patterns_of ds))))
      (numbered_distinct (uids_in_all (de_pats_of (arm_trees ds)))
      (λ u. once_at_most 0 to u (uids_in_all (de_pats_of (arm_trees ds))) h.uids));
  types = subst (Every (λ (d : MDeArm TyId). Every (λ q. IsOf table (type_of q)) (all_within d.pat))) (sym e)
      (arms_every (λ q. IsOf table (type_of q)) ds h.types);
}

-- a uid stands in one arm as often at most as in all
times_arm : (u : ℕ) (ds : List (CheckedArm TyId)) (j : ℕ) (d : MDeArm TyId) → slice_get (map plain_arm ds) j ≡ Some d →
    times u (uids_in d.pat) ≤ times u (uids_in_all (de_pats_of (arm_trees ds)))
times_arm u [] j d e = absurd cc
times_arm u (x ∷ ds) zero d e =
    let same : plain_arm x ≡ d = cc in
    subst (λ (y : MDeArm TyId). times u (uids_in y.pat) ≤ times u
    (uids_in_all (de_pats_of (arm_trees (x ∷ ds))))) same first
  where
    first : times u (uids_in (tree x.pat)) ≤ times u (uids_in_all (de_pats_of (arm_trees (x ∷ ds))))
    first = omega (arith, times_both u (uids_in (tree x.pat)) (uids_in_all (de_pats_of (arm_trees ds))))
times_arm u (x ∷ ds) (suc j) d e =
    let h : times u (uids_in d.pat) ≤ times u (uids_in_all (de_pats_of (arm_trees ds))) = times_arm u ds j d e in
    omega (arith, times_both u (uids_in (tree x.pat)) (uids_in_all (de_pats_of (arm_trees ds))))

arm_differs : (table : TypeTable) (to : ℕ) (ds : List (CheckedArm TyId)) (j : ℕ) (d : MDeArm TyId) →
    AreMade (IsOf table) 0 to (arm_trees ds) →
    slice_get (map plain_arm ds) j ≡ Some d → IsDistinct nat_eq (uids_in d.pat)
arm_differs table to ds j d h e =
    numbered_distinct (uids_in d.pat) (λ u.
    let one : times u (uids_in_all (de_pats_of (arm_trees ds))) ≤ 1 = once_at_most 0 to u
    (uids_in_all (de_pats_of (arm_trees ds))) h.uids in
    let part : times u (uids_in d.pat) ≤ times u (uids_in_all (de_pats_of (arm_trees ds))) = times_arm u ds j d e in
    omega arith)

contains_at : {A : Type 0} (xs : List A) (j : ℕ) (x : A) → slice_get xs j ≡ Some x → Contains xs x
contains_at {A} xs j x e = (j, (there xs j e).0, (there xs j e).1)
  where
    there : (xs : List A) (j : ℕ) → slice_get xs j ≡ Some x → (j < length xs) × (get_or xs j x ≡ x)
    there [] j e = absurd cc
    there (y ∷ ys) zero e = let same : y ≡ x = cc in (omega arith, same)
    there (y ∷ ys) (suc j) e = let h : (j < length ys) × (get_or ys j x ≡ x) = there ys j e in (omega arith, h.1)

-- the match shows the function's arms
pub match_shown : (table : TypeTable) (s : Setting) (f : FunctionTree) (t : MType) (to : ℕ) (m : MDeMatch TyId)
    (ds : List (CheckedArm TyId)) →
    IsSettingOf table s → ((a : ArmTree) → Contains f.arms a → IsSoundArm s f a) → t ≡ scrutinee_type s f →
    table_type table m.type ≡ t →
    m.sure ≡ is_none f.deref → m.arms ≡ map plain_arm ds → Each (IsArmShown table t) f.arms (map plain_arm ds) →
    AreMade (IsOf table) 0 to (arm_trees ds) → IsShownMatch (table_type table) s f m
match_shown table s f t to m ds of sound at type sure e h made = record {
  type_is = type ∙ at;
  sure_is = sure;
  count = ap length e ∙ each_length (IsArmShown table t) f.arms (map plain_arm ds) h;
  arms = λ j a d x y.
      let there : slice_get (map plain_arm ds) j ≡ Some d = ap (λ (zs : List (MDeArm TyId)). slice_get zs j) (sym e)
      ∙ y in
      let shows : IsArmShown table t a d = each_at (IsArmShown table t) f.arms (map plain_arm ds) j a d h x there in
      let fine : IsSoundArm s f a = sound a (contains_at f.arms j a x) in
      record {
        sound = fine;
        guard = shows.guard;
        pattern =
            shows.pattern s of (subst (λ u. Fits s u a.pattern) (sym at) (arm_fits s f a fine))
            ∙ ap (λ u. standing_at (offset_of a.pattern) (built s u Move a.pattern)) at;
        uids = arm_differs table to ds j d made there;
      };
}

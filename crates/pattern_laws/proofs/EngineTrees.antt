-- The tree of a match that shows a function is the function's.
use Rattle.std.proofs.Common.{◌≡◌, ℕ, zero, suc, ◌+◌, Bool, List, [], ◌∷◌, map, length, Some, slice_get, IsTrue, refl, sym, ap, subst, ◌∙◌}
use Rattle.std.specs.Prelude.{is_none}
use Rattle.std.specs.List.{flat_map, Contains}
use Rattle.std.proofs.lemmas.Option.{slice_get_read}
use Rattle.match_model.specs.declared.Mode.TheVariants.{Move}
use Rattle.match_model.specs.Types.{MType}
use Rattle.match_model.specs.Values.{MValue}
use Rattle.match_model.specs.RustTypes.{rust_context, is_type, IsSoundProgram, RustValue}
use Rattle.match_model.specs.Contexts.{Context}
use Rattle.match_model.specs.ContextViews.{Passing, Seen}
use Rattle.match_model.specs.Lists.{Each}
use Rattle.match_model.specs.Match.{arm_ways}
use Rattle.match_model.specs.Matching.{ways}
use Rattle.match_model.specs.Select.{try_of, tries_from, select}
use Rattle.match_model.specs.Trees.{MNode, Means}
use Rattle.match_model.specs.FewestBranches.{IsFewest}
use Rattle.match_model.specs.MatchTree.{IsMatchTree, AreGoodNodes}
use Rattle.match_model.specs.ArenaPatterns.{MDeArm, MDeMatch, at_of}
use Rattle.match_model.specs.ArenaWays.{arena_ways, arena_arm, match_arms}
use Rattle.match_model.specs.WellTyped.{uids_in, IsWellTyped}
use Rattle.match_model.proofs.RustValues.{rust_values_law}
use Rattle.match_model.proofs.RustParts.{rust_parts}
use Rattle.tree_laws.proofs.Matches.{good-tree, tree-of-type, one-match-tree}
use Rattle.decl_syntax.specs.Items.{ArmTree}
use Rattle.decl_syntax.specs.Functions.{FunctionTree}
use Rattle.pattern_rules.specs.Settings.{Setting, program}
use Rattle.pattern_rules.specs.Faults.{scrutinee_type}
use Rattle.pattern_rules.specs.Resolved.{resolved, resolved_arm}
use Rattle.pattern_rules.specs.ArenaForms.{by_offsets}
use Rattle.pattern_rules.specs.ShownMatches.{IsSoundArm, elaborated_arm, IsShownArm}
use Rattle.pattern_rules.specs.Verdicts.{Domain, written_arms}
use Rattle.pattern_laws.specs.NumberedMatch.{size, renumbered, arms_renumbered, numbered_match}
use Rattle.pattern_laws.specs.JudgedLaws.{IsEngineMatch}
use Rattle.pattern_laws.specs.TreeLaws.{IsTreeOn, TreeOfShownMatch, TreeOnIsOne}
use Rattle.pattern_laws.proofs.ShownKept.{shown_arm}
use Rattle.pattern_laws.proofs.JudgedShown.{each, in_domain, shown_typed}
use Rattle.pattern_laws.proofs.SomeVerdict.{engine}
use Rattle.pattern_laws.proofs.SameSelection.{SameTry, selected_same, tries_both, tries_renamed}
use Rattle.pattern_laws.proofs.MovedRows.{moved}
use Rattle.pattern_laws.proofs.MovedMatches.{arm_moved, match_moved, tree_moved}
use Rattle.pattern_laws.proofs.MovedUids.{Counts, number_in, numbers_apart, numbers_count, counts_first, counts_second, uids_count, size_settled, renumbered_moved}

-- ---- the match by constructors

module _ {T : Type 0} (type : T → MType) (g : ℕ → ℕ) (s : Setting) (f : FunctionTree) where
  abbrev plain_arm : ArmTree → MDeArm MType
  plain_arm a = record { pat = elaborated_arm s f a; guarded = a.guarded }

  arm_same : (n : ℕ) (a : ArmTree) (d : MDeArm T) → IsShownArm type s f a d → Counts g n (uids_in d.pat) →
      record { pat = renumbered n (elaborated_arm s f a); guarded = a.guarded } ≡ arm_moved type g d
  arm_same n a d h c =
      ap (λ p. record { pat = renumbered n p; guarded = a.guarded }) (sym h.pattern)
      ∙ (ap (λ p. record { pat = p; guarded = a.guarded }) (renumbered_moved type g (at_of d.pat) n d.pat c)
      ∙ ap (λ b. record { pat = moved type g d.pat; guarded = b }) (sym h.guard))

  arms_same : (n : ℕ) (bs : List ArmTree) (ds : List (MDeArm T)) → Each (λ d a. IsShownArm type s f a d) ds bs →
      Counts g n (flat_map (λ d. uids_in d.pat) ds) →
      arms_renumbered n (map plain_arm bs) ≡ map (arm_moved type g) ds
  arms_same n [] [] h c = refl
  arms_same n (a ∷ bs) [] h c = absurd h
  arms_same n [] (d ∷ ds) h c = absurd h
  arms_same n (a ∷ bs) (d ∷ ds) h c =
      ap (λ k. record { pat = renumbered n (elaborated_arm s f a); guarded = a.guarded }
      ∷ arms_renumbered (n + k) (map plain_arm bs))
      (ap size (sym h.0.pattern) ∙ size_settled type g (at_of d.pat) d.pat)
      ∙ (ap (λ x. x ∷ arms_renumbered (n + size d.pat) (map plain_arm bs))
      (arm_same n a d h.0 (counts_first g n (uids_in d.pat) (flat_map (λ e. uids_in e.pat) ds) c))
      ∙ ap (λ xs. arm_moved type g d ∷ xs) (arms_same (n + size d.pat) bs ds h.1
      (subst (λ k. Counts g (n + k) (flat_map (λ e. uids_in e.pat) ds)) (uids_count d.pat)
      (counts_second g n (uids_in d.pat) (flat_map (λ e. uids_in e.pat) ds) c))))

module _ {T : Type 0} (type : T → MType) (is_type_s : T → Bool) (cy : Context T) (s : Setting) (f : FunctionTree)
    (m : MDeMatch T) (k : IsEngineMatch type is_type_s cy s f m) where
  abbrev uids : List ℕ
  uids = flat_map (λ d. uids_in d.pat) m.arms

  abbrev number : ℕ → ℕ
  number u = number_in 0 uids u

  match_same : match_moved type number m ≡ numbered_match s f
  match_same =
      ap (λ t. record { type = t; sure = m.sure; arms = map (arm_moved type number) m.arms }) k.shown.type_is
      ∙ (ap (λ b. record { type = scrutinee_type s f; sure = b; arms = map (arm_moved type number) m.arms })
      k.shown.sure_is
      ∙ ap (λ xs. record { type = scrutinee_type s f; sure = is_none f.deref; arms = xs })
      (sym (arms_same type number s f 0 f.arms m.arms (each type is_type_s cy s f m k) (numbers_count 0 uids k.uids))))

  -- its tree is that of the match by constructors
  numbered_tree : (nodes : List MNode) → IsMatchTree cy (Seen type (RustValue (program s))) m nodes →
      IsMatchTree (rust_context (program s)) (RustValue (program s)) (numbered_match s f) nodes
  numbered_tree nodes h =
      subst (λ x. IsMatchTree (rust_context (program s)) (RustValue (program s)) x nodes) match_same
      (tree_moved type number (numbers_apart 0 uids) cy (rust_context (program s)) k.view.set k.view.arity k.view.sub
      (RustValue (program s)) m nodes h)

-- ---- what is selected

module _ {T : Type 0} (type : T → MType) (s : Setting) (f : FunctionTree) where
  tries_same : (v : MValue) → Domain s f v → (j : ℕ) (bs : List ArmTree) (ds : List (MDeArm T)) →
      Each (λ d a. IsShownArm type s f a d) ds bs →
      Each SameTry (tries_from j (map arena_arm ds) v)
      (tries_from j (map (λ a. arm_ways (resolved_arm s (scrutinee_type s f) a)) bs) v)
  tries_same v i j [] [] h = tt
  tries_same v i j (a ∷ bs) [] h = absurd h
  tries_same v i j [] (d ∷ ds) h = absurd h
  tries_same v i j (a ∷ bs) (d ∷ ds) h =
      let kept = shown_arm type s f a d h.0 in
      tries_both (map (try_of j d.guarded) (arena_ways d.pat v))
      (map (try_of j a.guarded) (ways (resolved s (scrutinee_type s f) a.pattern) Move v))
      (tries_from (suc j) (map arena_arm ds) v)
      (tries_from (suc j) (map (λ b. arm_ways (resolved_arm s (scrutinee_type s f) b)) bs) v)
      (subst (λ b. Each SameTry (map (try_of j d.guarded) (arena_ways d.pat v))
      (map (try_of j b) (ways (resolved s (scrutinee_type s f) a.pattern) Move v))) kept.guard
      (subst (λ ws. Each SameTry (map (try_of j d.guarded) (arena_ways d.pat v)) (map (try_of j d.guarded) ws))
      (kept.way v i)
      (tries_renamed (by_offsets d.pat) (λ w. refl) j d.guarded (arena_ways d.pat v))))
      (tries_same v i (suc j) bs ds h.1)

-- ---- the function

module _ (s : Setting) (f : FunctionTree) (sound : IsSoundProgram (program s))
    (type_is : IsTrue (is_type (program s) (scrutinee_type s f)))
    (arms : (a : ArmTree) → Contains f.arms a → IsSoundArm s f a) where
  abbrev whole : MDeMatch MType
  whole = numbered_match s f

  shows : IsEngineMatch (λ t. t) (is_type (program s)) (rust_context (program s)) s f whole
  shows = engine s f sound type_is arms

  typed : IsWellTyped (Passing (is_type (program s))) (rust_context (program s)) whole
  typed = shown_typed MType (λ t. t) (is_type (program s)) (rust_context (program s)) s f whole shows

  good_there : (nodes : List MNode) →
      IsMatchTree (rust_context (program s)) (RustValue (program s)) whole nodes →
      AreGoodNodes (Domain s f) (λ v answers. select (match_arms whole) v answers) nodes
  good_there nodes h =
      in_domain (λ t. t) (is_type (program s)) (rust_context (program s)) s f whole shows
      (λ D. AreGoodNodes D (λ v answers. select (match_arms whole) v answers) nodes)
      (good-tree (Passing (is_type (program s))) (rust_context (program s)) (RustValue (program s))
      (rust_parts (program s) sound) (rust_values_law (program s))
      (IsFewest (rust_context (program s)) (RustValue (program s))) whole nodes typed shows.made h)

  selected : (v : MValue) (answers : List Bool) → Domain s f v →
      select (match_arms whole) v answers ≡ select (written_arms s f) v answers
  selected v answers i =
      selected_same (tries_from 0 (match_arms whole) v) (tries_from 0 (written_arms s f) v)
      (tries_same (λ t. t) s f v i 0 f.arms whole.arms
      (each (λ t. t) (is_type (program s)) (rust_context (program s)) s f whole shows)) answers

  good_on : (nodes : List MNode) → IsMatchTree (rust_context (program s)) (RustValue (program s)) whole nodes →
      AreGoodNodes (Domain s f) (λ v answers. select (written_arms s f) v answers) nodes
  good_on nodes h =
      let g = good_there nodes h in
      record {
        means = λ v i answers. subst (λ x. Means nodes v answers x) (selected v answers i) (g.means v i answers);
        defined = g.defined;
        once = g.once;
        live = g.live;
        forward = g.forward;
        apart = g.apart;
      }

  -- the tree of the match by constructors is the function's
  pub tree_on : (nodes : List MNode) → IsMatchTree (rust_context (program s)) (RustValue (program s)) whole nodes →
      IsTreeOn s f nodes
  tree_on nodes h = record {
    good = good_on nodes h;
    of_type = tree-of-type (Passing (is_type (program s))) (rust_context (program s)) (RustValue (program s))
        (rust_parts (program s) sound) (rust_values_law (program s))
        (IsFewest (rust_context (program s)) (RustValue (program s))) whole nodes typed shows.made h;
    lowered = h;
  }

sound_each : {T : Type 0} (type : T → MType) (s : Setting) (f : FunctionTree) (bs : List ArmTree)
    (ds : List (MDeArm T)) → Each (λ d a. IsShownArm type s f a d) ds bs → (j : ℕ) (a : ArmTree) →
    slice_get bs j ≡ Some a → IsSoundArm s f a
sound_each type s f [] ds h j a e = absurd cc
sound_each type s f (b ∷ bs) [] h j a e = absurd h
sound_each type s f (b ∷ bs) (d ∷ ds) h zero a e =
    let same : b ≡ a = cc in subst (IsSoundArm s f) same h.0.sound
sound_each type s f (b ∷ bs) (d ∷ ds) h (suc j) a e = sound_each type s f bs ds h.1 j a e

pub tree_of_shown : (T : Type 0) → TreeOfShownMatch T
tree_of_shown T type is_type_s cy s f m nodes k h =
    tree_on s f k.sound (subst (λ t. IsTrue (is_type (program s) t)) k.shown.type_is (k.view.is_type m.type k.type_is))
    (λ a c. sound_each type s f f.arms m.arms (each type is_type_s cy s f m k) c.0 a
    (slice_get_read f.arms (length f.arms) c.0 a refl c.1 (sym c.2)))
    nodes (numbered_tree type is_type_s cy s f m k nodes h)

pub one_tree : TreeOnIsOne
one_tree s f ns ms h k =
    one-match-tree (Passing (is_type (program s))) (rust_context (program s)) (RustValue (program s))
    (numbered_match s f) ns ms h.lowered k.lowered

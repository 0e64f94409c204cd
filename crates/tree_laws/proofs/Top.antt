-- The shared nodes of a tree of a match select as the match does, are defined, look at nothing twice, and all live.
use Rattle.std.proofs.Common.{◌≡◌, ◌<◌, inl, inr, ℕ, suc, Bool, true, false, List, [], ◌∷◌, ◌++◌, map, Some, refl, sym, ap, ◌∙◌, arith, subst}
use Rattle.std.specs.List.{flat_map}
use Rattle.match_model.specs.Values.{MValue}
use Rattle.match_model.specs.Contexts.{Context}
use Rattle.match_model.specs.Ways.{Way, bare_way, combine}
use Rattle.match_model.specs.Select.{Try, try_of, select_from, select_one, select}
use Rattle.match_model.specs.Trees.{MNode}
use Rattle.match_model.specs.ArenaPatterns.{MDeArm, MDeMatch}
use Rattle.match_model.specs.ArenaWays.{arena_ways, match_arms, InMatchDomain}
use Rattle.match_model.specs.Matrices.{MColumn, MRow, under_all, heads_ways, row_way, row_tries, first_rows, first_matrix}
use Rattle.match_model.specs.DecisionTrees.{MTree}
use Rattle.match_model.proofs.Joins.{combine_bare_right}
use Rattle.match_model.proofs.FirstMatrix.{first_matrix_ways}
use Rattle.match_model.specs.Keys.{Decision, IsBefore}
use Rattle.match_model.specs.Lists.{Every, Ordered}
use Rattle.match_model.specs.Numbering.{IsNumbered, way_key}
use Rattle.keyed_rows.specs.Dividing.{AreFree}
use Rattle.match_model.specs.RowOrder.{row_key}
use Rattle.keyed_rows.specs.Parting.{RowParted}
use Rattle.match_model.specs.KeyedWays.{KeyedTry, keyed_try, row_keyed_tries, keyed_tries, TryFirst, select_keyed_one, select_keyed}
use Rattle.keyed_rows.proofs.Lists.{every-append, ordered-append, ordered-map}
use Rattle.keyed_rows.proofs.ArmWays.{pat-fine}
use Rattle.match_model.specs.SharedTrees.{IsShared}
use Rattle.match_model.specs.MatchTree.{AreGoodNodes}
use Rattle.tree_sharing.proofs.Whole.{good-nodes}
use Rattle.match_model.specs.Lowering.{Lowers}
use Rattle.keyed_steps.specs.Filled.{AreValues, ArePartsAt}
use Rattle.tree_sharing.specs.Runs.{Runs}
use Rattle.keyed_steps.specs.Engine.{AreCaught, IsEngine}
use Rattle.tree_laws.proofs.Meaning.{lowered-runs}
use Rattle.tree_laws.proofs.Lively.{lowered-lives}

outermost : (ws : List Way) → map (under_all []) ws ≡ ws
outermost [] = refl
outermost (w ∷ ws) = ap (λ l. w ∷ l) (outermost ws)

module _ {T : Type 0} (decides : ℕ → Decision) where
  -- what is tried first of ways is what is selected of them
  picks : (columns : List (MColumn T)) (v : MValue) (r : MRow T) (ws : List Way) (tried : List KeyedTry)
      (tries : List Try) → ((answers : List Bool) → select_keyed tried answers ≡ select_from tries answers) →
      (answers : List Bool) →
      select_keyed (map (keyed_try decides v r) ws ++ tried) answers ≡ select_from
      (map (try_of r.arm r.guarded) (map (row_way r.chosen r.caught v) ws) ++ tries) answers
  picks columns v r [] tried tries h answers = h answers
  picks columns v r (w ∷ ws) tried tries h answers =
      one (keyed_try decides v r w) (try_of r.arm r.guarded (row_way r.chosen r.caught v w)) refl refl r.guarded
      answers (map (keyed_try decides v r) ws ++ tried) (map (try_of r.arm r.guarded)
      (map (row_way r.chosen r.caught v) ws) ++ tries) (picks columns v r ws tried tries h)
    where
      one : (t : KeyedTry) (u : Try) → t.arm ≡ u.arm → t.bindings ≡ u.way.bindings →
          (g : Bool) (answers : List Bool) (rest : List KeyedTry) (others : List Try) →
          ((left : List Bool) → select_keyed rest left ≡ select_from others left) →
          select_keyed_one t g answers (λ left. select_keyed rest left) ≡ select_one u g answers
          (λ left. select_from others left)
      one t u e f false answers rest others k = rw (e, f) refl
      one t u e f true [] rest others k = refl
      one t u e f true (true ∷ answers) rest others k = rw (e, f) refl
      one t u e f true (false ∷ answers) rest others k = rw (e, f, k answers) refl

  picks-all : (columns : List (MColumn T)) (v : MValue) (rows : List (MRow T)) (answers : List Bool) →
      select_keyed (keyed_tries decides columns v rows) answers ≡ select_from
      (flat_map (row_tries columns v) rows) answers
  picks-all columns v [] answers = refl
  picks-all columns v (r ∷ rows) answers =
      picks columns v r (heads_ways columns r.heads v) (keyed_tries decides columns v rows)
      (flat_map (row_tries columns v) rows) (picks-all columns v rows) answers

  -- the first rows are in order, and nothing of them is decided
  arms-parted : (j : ℕ) (arms : List (MDeArm T)) → Ordered (RowParted decides) (first_rows j arms)
  arms-parted j [] = tt
  arms-parted j (a ∷ arms) = (later j (suc j) arms (omega arith), arms-parted (suc j) arms)
    where
      later : (j k : ℕ) (l : List (MDeArm T)) → j < k → Every (RowParted decides
          (record { heads = Some a.pat ∷ []; arm = j; guarded = a.guarded; chosen = []; caught = [] })) (first_rows k l)
      later j k [] h = tt
      later j k (b ∷ l) h = (inl h, later j (suc k) l (omega (arith, h)))

  abbrev pub AreArmsNumbered : List (MDeArm T) → Type 0
  AreArmsNumbered arms = Every (λ (a : MDeArm T). (n : ℕ) × IsNumbered decides n a.pat) arms

  arms-free : (j : ℕ) (arms : List (MDeArm T)) → AreArmsNumbered arms →
      Every (λ r. AreFree decides (row_key decides r) 0 r.heads) (first_rows j arms)
  arms-free j [] e = tt
  arms-free j (a ∷ arms) e = ((e.0.0, omega arith, e.0.1, (λ o p q. refl), tt), arms-free (suc j) arms e.1)

  -- the arms' ways are in order
  abbrev first_column : T → Bool → List (MColumn T)
  first_column t sure = record { place = []; type = t; sure = sure } ∷ []

  arm-ordered : (t : T) (sure : Bool) (j : ℕ) (a : MDeArm T) (v : MValue) (n : ℕ) → IsNumbered decides n a.pat →
      Ordered TryFirst (row_keyed_tries decides (first_column t sure) v
      (record { heads = Some a.pat ∷ []; arm = j; guarded = a.guarded; chosen = []; caught = [] }))
  arm-ordered t sure j a v n i =
      subst (λ ws. Ordered TryFirst (map (keyed_try decides v
      (record { heads = Some a.pat ∷ []; arm = j; guarded = a.guarded; chosen = []; caught = [] })) ws)) (sym ways)
      (ordered-map (λ w u. IsBefore (way_key decides w) (way_key decides u)) TryFirst
      (keyed_try decides v (record {
        heads = Some a.pat ∷ [];
        arm = j;
        guarded = a.guarded;
        chosen = [];
        caught = [];
      })) (arena_ways a.pat v) (λ w u b. inr (refl, b)) (pat-fine decides a.pat n v i).ordered)
    where
      ways : combine (map (under_all []) (arena_ways a.pat v)) (bare_way ∷ []) ≡ arena_ways a.pat v
      ways = combine_bare_right (map (under_all []) (arena_ways a.pat v)) ∙ outermost (arena_ways a.pat v)

  arms-ordered : (t : T) (sure : Bool) (j : ℕ) (arms : List (MDeArm T)) (v : MValue) → AreArmsNumbered arms →
      Ordered TryFirst (keyed_tries decides (first_column t sure) v (first_rows j arms))
  arms-ordered t sure j [] v e = tt
  arms-ordered t sure j (a ∷ arms) v e =
      ordered-append TryFirst (row_keyed_tries decides (first_column t sure) v first)
      (keyed_tries decides (first_column t sure) v (first_rows (suc j) arms))
      (arm-ordered t sure j a v e.0.0 e.0.1) (arms-ordered t sure (suc j) arms v e.1)
      (cross (heads_ways (first_column t sure) (Some a.pat ∷ []) v))
    where
      first : MRow T
      first = record { heads = Some a.pat ∷ []; arm = j; guarded = a.guarded; chosen = []; caught = [] }

      one : (w : Way) (r : MRow T) (ws : List Way) → j < r.arm → Every (TryFirst (keyed_try decides v first w)) (map
          (keyed_try decides v r) ws)
      one w r [] h = tt
      one w r (u ∷ ws) h = (inl h, one w r ws h)

      rows : (w : Way) (k : ℕ) (l : List (MDeArm T)) → j < k → Every (TryFirst (keyed_try decides v first w))
          (keyed_tries decides (first_column t sure) v (first_rows k l))
      rows w k [] h = tt
      rows w k (b ∷ l) h =
          every-append (TryFirst (keyed_try decides v first w)) (row_keyed_tries decides (first_column t sure) v
          (record { heads = Some b.pat ∷ []; arm = k; guarded = b.guarded; chosen = []; caught = [] }))
          (keyed_tries decides (first_column t sure) v (first_rows (suc k) l))
          (one w (record { heads = Some b.pat ∷ []; arm = k; guarded = b.guarded; chosen = []; caught = [] })
          (heads_ways (first_column t sure) (Some b.pat ∷ []) v) h) (rows w (suc k) l (omega (arith, h)))

      cross : (ws : List Way) → Every (λ x. Every (TryFirst x)
          (keyed_tries decides (first_column t sure) v (first_rows (suc j) arms))) (map (keyed_try decides v first) ws)
      cross [] = tt
      cross (w ∷ ws) = (rows w (suc j) arms (omega arith), cross ws)

-- nothing is caught at first
none_caught : {T : Type 0} (j : ℕ) (arms : List (MDeArm T)) (v : MValue) → AreCaught v (first_rows j arms)
none_caught j [] v = tt
none_caught j (a ∷ arms) v = (refl, none_caught (suc j) arms v)

-- the nodes of a match with a value in its domain: right, defined, nothing looked at twice, all alive, none twice
pub good-match : {T : Type 0} (cx : Context T) (V : T → Bool → MValue → Type 0) (decides : ℕ → Decision)
    (Good : List (MColumn T) → List (MRow T) → Type 0) (Ready : ℕ → List (MColumn T) → List (MRow T) → Type 0)
    (engine : IsEngine cx V decides Good Ready)
    (Chooses : List (MColumn T) → List (MRow T) → ℕ → Type 0) (BareOnly : Type 0) (m : MDeMatch T) (tree : MTree)
    (nodes : List MNode) (v : MValue) → InMatchDomain V m v → AreArmsNumbered decides m.arms →
    Good (first_matrix m).columns (first_matrix m).rows →
    Lowers cx V decides Chooses BareOnly (first_matrix m).columns (first_matrix m).rows tree → IsShared tree nodes →
    AreGoodNodes (InMatchDomain V m) (λ u answers. select (match_arms m) u answers) nodes
good-match cx V decides Good Ready engine Chooses BareOnly m tree nodes v inside numbered good lowers shared =
    good-nodes (InMatchDomain V m) (λ u answers. select (match_arms m) u answers) tree nodes shared
    (record {
      runs =
          λ u d answers. subst (Runs u [] tree answers) (picks-all decides (first_matrix m).columns u
          (first_matrix m).rows answers ∙ ap (λ l. select_from l answers) (first_matrix_ways m u))
          (lowered-runs cx V decides Good Ready engine Chooses BareOnly (first_matrix m).columns
          (first_matrix m).rows tree lowers u [] (keyed_tries decides (first_matrix m).columns u
          (first_matrix m).rows) answers (record {
            good = good;
            rows_are = record { free = arms-free decides 0 m.arms numbered; parted = arms-parted decides 0 m.arms };
            held = (u ∷ [], (d, tt), (refl, tt));
            caught = none_caught 0 m.arms u;
            ps = [] ∷ [];
            positions = (refl, tt);
            spread = record { fresh = (tt, tt); apart = (tt, tt) };
            ordered = arms-ordered decides m.type m.sure 0 m.arms u numbered;
            same = record { forth = λ x i. i; back = λ x i. i };
          }));
      lives =
          lowered-lives cx V decides Good Ready engine Chooses BareOnly (first_matrix m).columns
          (first_matrix m).rows tree lowers (InMatchDomain V m) good (record {
            held = λ u d. (u ∷ [], (d, tt), (refl, tt));
            filled = λ us a. fill us a;
            lives = (v ∷ [], (inside, tt));
          });
    })
  where
    fill : (us : List MValue) → AreValues V (first_matrix m).columns us → (u : MValue) × InMatchDomain V m u
        × ArePartsAt u (first_matrix m).columns us
    fill [] a = elim a [ ]
    fill (u ∷ []) a = (u, a.0, (refl, tt))
    fill (u ∷ (w ∷ us)) a = elim a.1 [ ]

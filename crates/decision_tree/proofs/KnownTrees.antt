-- What is known of finished trees stays so, and finishes the tree of a submatrix that is told alike.
use Rattle.std.proofs.Common.{◌≡◌, ℕ, Bool, List, [], ◌∷◌, nat_eq, refl, sym, subst, ◌⊎◌, inl, inr}
use Rattle.std.specs.List.{IsDistinct, flat_map}
use Rattle.match_model.specs.Values.{MValue}
use Rattle.match_model.specs.ArenaPatterns.{MDeMatch}
use Rattle.match_model.specs.Contexts.{Context}
use Rattle.match_model.specs.DecisionTrees.{MTree, SwitchTree, AskTree, MBranches, no_branch, more_branches}
use Rattle.match_model.specs.FewestBranches.{IsFewest}
use Rattle.match_model.specs.Keys.{Decision}
use Rattle.match_model.specs.Lists.{Each, Among}
use Rattle.match_model.specs.Lowering.{Lowers}
use Rattle.match_model.specs.Matrices.{MColumn, MRow}
use Rattle.match_model.specs.Places.{MStep}
use Rattle.match_model.specs.SharedTrees.{case_trees, Walks, known, WalksAll, nothing, last_first}
use Rattle.match_model.specs.Trees.{MBind, MBranch}
use Rattle.match_model.specs.WellTyped.{uids_in}
use Rattle.keyed_rows.proofs.Lists.{every-to}
use Rattle.keyed_rows.proofs.Parting.{among-every}
use Rattle.keyed_rows.proofs.RowOrder.{every-among}
use Rattle.tree_sharing.specs.Table.{IsAt, IsCaseAt, IsBuilt}
use Rattle.tree_sharing.proofs.Sharing.{at-among}
use Rattle.tree_eval.specs.Tables.{IsFinished, FinishesSwitch, FinishesAsk}
use Rattle.tree_eval.proofs.Keeping.{keeps-at}
use Rattle.decision_tree.specs.Known.{IsInScope, MKnownMatrix, known_matrix}
use Rattle.decision_tree.specs.KnownTrees.{IsKnown, AreKnown, Keeps}
use Rattle.decision_tree.proofs.Telling.{columns-told, rows-told}

among-here : (ts : List MTree) (i : ℕ) (t : MTree) → IsAt ts i t → Among t ts
among-here ts i t a = at-among ts t a.later a.there

-- the cases of a switch are finished already
all-known : (ts : List MTree) (branches : MBranches) (bs : List MBranch) → Each (IsCaseAt ts) (case_trees branches) bs →
    WalksAll ts branches ts
all-known ts no_branch bs e = nothing ts
all-known ts (more_branches c t rest) [] e = elim e [ ]
all-known ts (more_branches c t rest) (b ∷ bs) e =
    last_first ts ts ts c t rest (all-known ts rest bs e.1) (known ts t (among-here ts b.next t e.0.1))

-- a switch is finished in a walk from where its cases are
pub switch-after : (old new : List MTree) (place : List MStep) (branches : MBranches) (bs : List MBranch) (index : ℕ) →
    FinishesSwitch old place bs index new → IsBuilt old → Each (IsCaseAt old) (case_trees branches) bs →
    Walks old (SwitchTree place branches) new
switch-after old new place branches bs index f b e = (f old branches b (all-known old branches bs e) e).walk

-- a guard is finished in a walk from where the tree behind it is
pub ask-after : (old new : List MTree) (arm : ℕ) (binds : List MBind) (t : MTree) (refused index : ℕ) →
    FinishesAsk old arm binds refused index new → IsBuilt old → IsAt old refused t → Walks old (AskTree arm binds t) new
ask-after old new arm binds t refused index f b a = (f old t b (known old t (among-here old refused t a)) a).walk

-- a walk keeps the indices
pub keeps-walk : (old new : List MTree) (t : MTree) → Walks old t new → Keeps old new
keeps-walk old new t w i x a = keeps-at old t new i x w a

module _ {T : Type 0} (cx : Context T) (V : T → Bool → MValue → Type 0) (decides : ℕ → Decision) (BareOnly : Type 0)
    (m : MDeMatch T) where
  abbrev Makes : List (MColumn T) → List (MRow T) → MTree → Type 0
  Makes columns rows t = Lowers cx V decides (IsFewest cx V) BareOnly columns rows t

  -- what is known stays so where each tree keeps its index
  pub known-after : (old new : List MTree) (entries : List (MKnownMatrix × ℕ)) → Keeps old new →
      AreKnown cx V decides BareOnly m old entries → AreKnown cx V decides BareOnly m new entries
  known-after old new entries w h =
      every-to (λ (e : MKnownMatrix × ℕ). IsKnown cx V decides BareOnly m old e.0 e.1)
      (λ (e : MKnownMatrix × ℕ). IsKnown cx V decides BareOnly m new e.0 e.1) entries
      (λ e k. record {
        columns = k.columns;
        rows = k.rows;
        scope = k.scope;
        tells = k.tells;
        tree = k.tree;
        makes = k.makes;
        at = w e.1 k.tree k.at;
      }) h

  -- one more is noted
  pub known-more : (now : List MTree) (old new : List (MKnownMatrix × ℕ)) (told : MKnownMatrix) (index : ℕ) →
      AreKnown cx V decides BareOnly m now old → IsKnown cx V decides BareOnly m now told index →
      ((e : MKnownMatrix × ℕ) → Among e new → Among e old ⊎ (e ≡ (told, index))) →
      AreKnown cx V decides BareOnly m now new
  known-more now old new told index h k more =
      every-among (λ (e : MKnownMatrix × ℕ). IsKnown cx V decides BareOnly m now e.0 e.1) new (λ e i. one e (more e i))
    where
      one : (e : MKnownMatrix × ℕ) → Among e old ⊎ (e ≡ (told, index)) →
          IsKnown cx V decides BareOnly m now e.0 e.1
      one e (inl i) = among-every (λ (e : MKnownMatrix × ℕ). IsKnown cx V decides BareOnly m now e.0 e.1) old e h i
      one e (inr q) =
          subst (λ (e : MKnownMatrix × ℕ). IsKnown cx V decides BareOnly m now e.0 e.1) (sym q) k

  -- a finished tree may be noted
  pub known-new : (columns : List (MColumn T)) (rows : List (MRow T)) (t : MTree) (before now : List MTree)
      (index : ℕ) → IsInScope cx m columns rows → Makes columns rows t → IsFinished before t index now →
      IsKnown cx V decides BareOnly m now (known_matrix columns rows) index
  known-new columns rows t before now index s makes f = record {
    columns = columns;
    rows = rows;
    scope = s;
    tells = refl;
    tree = t;
    makes = makes;
    at = f.at;
  }

  -- what an entry that tells these rows gives: their tree, which no walk enters again
  pub record IsHit (now : List MTree) (columns : List (MColumn T)) (rows : List (MRow T)) (index : ℕ) : Type 0 where
    pub tree : MTree
    pub makes : Makes columns rows tree
    pub finished : IsFinished now tree index now

  pub known-hit : IsDistinct nat_eq (flat_map (λ a. uids_in a.pat) m.arms) → (now : List MTree)
      (columns : List (MColumn T)) (rows : List (MRow T)) (index : ℕ) → IsInScope cx m columns rows →
      IsKnown cx V decides BareOnly m now (known_matrix columns rows) index → IsHit now columns rows index
  known-hit uids now columns rows index s k =
      let cs : k.columns ≡ columns = sym (columns-told cx m uids columns k.columns rows k.rows s k.scope k.tells) in
      let rs : k.rows ≡ rows = sym (rows-told cx m uids columns k.columns rows k.rows s k.scope k.tells) in
      record {
        tree = k.tree;
        makes =
            subst (λ xs. Makes xs rows k.tree) cs (subst (λ (xs : List (MRow T)). Makes k.columns xs k.tree) rs k.makes);
        finished = record { walk = known now k.tree (among-here now index k.tree k.at); at = k.at };
      }

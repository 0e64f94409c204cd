-- A pattern's tree has the trees of the patterns below it.
use Rattle.std.proofs.Common.{◌≡◌, ℕ, zero, suc, List, [], ◌∷◌, map, Some, slice_get, refl, ap, ◌∙◌}
use Rattle.match_model.specs.ArenaPatterns.{MDePat, de_pat, de_pats_of, de_pats_list, ctor_of, subs_of}
use Rattle.pat_context.specs.Views.{plain_ctor}
use Rattle.pattern_arena.specs.declared.pattern.DePat.{DePat, fold_out-DePat, out-DePat}
use Rattle.pattern_arena.specs.Trees.{tree, tree_step, placed_ctor, placed_subs, plain_bound}

-- the tree of a pattern, one level opened
pub tree_out : {T : Type 0} (p : DePat T) →
    tree p ≡ de_pat (plain_ctor (out-DePat T p).form.now.ctor) (out-DePat T p).form.now.ty (out-DePat T p).uid (out-DePat T p).at (de_pats_of (map tree (placed_subs p))) (map plain_bound (out-DePat T p).form.now.binds.now)
tree_out {T} p = fold_out-DePat T (MDePat T) tree_step p

-- the constructor of a tree is the pattern's
pub ctor_of-tree : {T : Type 0} (p : DePat T) → ctor_of (tree p) ≡ placed_ctor p
ctor_of-tree p = ap ctor_of (tree_out p)

listed : {T : Type 0} (ps : List (MDePat T)) → de_pats_list (de_pats_of ps) ≡ ps
listed [] = refl
listed (p ∷ ps) = ap (λ qs. p ∷ qs) (listed ps)

-- the patterns below a tree are the trees of those below the pattern
pub subs_of-tree : {T : Type 0} (p : DePat T) → subs_of (tree p) ≡ map tree (placed_subs p)
subs_of-tree {T} p = ap subs_of (tree_out p) ∙ listed (map tree (placed_subs p))

mapped : {A B : Type 0} (f : A → B) (xs : List A) (i : ℕ) (x : A) → slice_get xs i ≡ Some x → slice_get (map f xs) i ≡ Some (f x)
mapped f [] i x e = cc
mapped f (y ∷ ys) zero x e = let same : y ≡ x = cc in ap (λ z. Some (f z)) same
mapped f (y ∷ ys) (suc i) x e = mapped f ys i x e

pub sub-tree : {T : Type 0} (p q : DePat T) (i : ℕ) → slice_get (placed_subs p) i ≡ Some q → slice_get (subs_of (tree p)) i ≡ Some (tree q)
sub-tree p q i e = rw (subs_of-tree p) (mapped tree (placed_subs p) i q e)

-- Dense heads as listed ones.
use Rattle.std.proofs.Common.{◌≡◌, ◌≢◌, ℕ, zero, suc, ◌+◌, ◌-◌, ◌<◌, ◌≤◌, min, subst, Bool, List, [], ◌∷◌, ◌++◌, map, take, drop, length, cond, Option, Some, None, refl, ap, sym, ◌∙◌, inl, inr, true, false, arith, append_assoc, append-nil}
use Rattle.match_model.specs.Constructors.{RowCtor, LongerShape}
use Rattle.match_model.specs.ArenaPatterns.{MDePat, de_pats_of, de_pats_list}
use Rattle.match_model.specs.Rows.{Head as MHead, is_wild, wildcards}
use Rattle.std.proofs.lemmas.Bool.{cases_lt}
use Rattle.std.proofs.lemmas.List.{take-map, drop-map, take_all, drop_all, length-map, length-take-le}
use Rattle.slice_split.proofs.Below.{map-map}
use Rattle.pattern_arena.specs.declared.pattern.DePat.{DePat}
use Rattle.pattern_arena.specs.Trees.{tree, placed_ctor, placed_subs}
use Rattle.pattern_arena.proofs.TreeFacts.{tree_out}
use Rattle.pattern_matrix.specs.Sparse.{listed, leaf_parts}
use Rattle.pattern_matrix.specs.Opening.{pattern_parts}

-- wildcards are not listed
pub listed-wildcards : {T : Type 0} (first n : ℕ) → listed {T = T} first (wildcards n) ≡ []
listed-wildcards first zero = refl
listed-wildcards first (suc n) = listed-wildcards (suc first) n

-- the heads behind others stand behind those columns
pub listed-append : {T : Type 0} (first next : ℕ) (xs ys : List (MHead T)) → first + length xs ≡ next →
    listed first (xs ++ ys) ≡ listed first xs ++ listed next ys
listed-append first next [] ys e = let same : first ≡ next = omega arith in ap (λ k. listed k ys) same
listed-append first next (None ∷ xs) ys e = listed-append (suc first) next xs ys (omega arith)
listed-append {T} first next (Some p ∷ xs) ys e =
    ap (λ zs. cond (is_wild (Some p)) [] ((first, p) ∷ []) ++ zs) (listed-append (suc first) next xs ys (omega arith))
    ∙ sym (append_assoc (cond (is_wild (Some p)) [] ((first, p) ∷ [])) (listed (suc first) xs) (listed next ys))

pub length-wildcards : (T : Type 0) (n : ℕ) → length (wildcards {T = T} n) ≡ n
length-wildcards T zero = refl
length-wildcards T (suc n) = ap suc (length-wildcards T n)

pub listed-wildcards-append : {T : Type 0} (first next n : ℕ) (ys : List (MHead T)) → first + n ≡ next → listed first (wildcards n ++ ys) ≡ listed next ys
listed-wildcards-append {T} first next n ys e =
    listed-append first next (wildcards n) ys (let long = length-wildcards T n in omega arith) ∙ ap (λ xs. xs ++ listed next ys) (listed-wildcards first n)

-- the parts in the pattern are those in its tree
listed_pats : {T : Type 0} (ps : List (MDePat T)) → de_pats_list (de_pats_of ps) ≡ ps
listed_pats [] = refl
listed_pats (p ∷ ps) = ap (λ qs. p ∷ qs) (listed_pats ps)

pub parts-tree : {T : Type 0} (count : ℕ) (p : DePat T) → leaf_parts count (Some (tree p)) ≡ pattern_parts count (placed_ctor p) (placed_subs p)
parts-tree {T} count p = rw (tree_out p, listed_pats (map tree (placed_subs p)), map-map {A = DePat T} {B = MDePat T} {C = MHead T} Some tree (placed_subs p)) refl

take_cut : {X : Type 0} (f cut : ℕ) (xs : List X) → cut ≡ min (length xs) f → take cut xs ≡ take f xs
take_cut f cut xs e = elim (cases_lt f (length xs)) [
  | inl h ↦ ap (λ k. take k xs) (let same : cut ≡ f = omega arith in same)
  | inr h ↦ take_all cut xs (omega arith) ∙ sym (take_all f xs h)
]

drop_cut : {X : Type 0} (f cut : ℕ) (xs : List X) → cut ≡ min (length xs) f → drop cut xs ≡ drop f xs
drop_cut f cut xs e = elim (cases_lt f (length xs)) [
  | inl h ↦ ap (λ k. drop k xs) (let same : cut ≡ f = omega arith in same)
  | inr h ↦ drop_all cut xs (omega arith) ∙ sym (drop_all f xs h)
]

-- the parts of a row with a rest, listed
pub items-listed : {T : Type 0} (first next f b count cut : ℕ) (subs : List (DePat T)) → cut ≡ min (length subs) f → first + (cut + (count - (f + b))) ≡ next →
    listed first (pattern_parts count (RowCtor (LongerShape f b)) subs)
    ≡ listed first (map (λ p. Some (tree p)) (take cut subs)) ++ listed next (map (λ p. Some (tree p)) (drop cut subs))
items-listed {T} first next f b count cut subs e h =
    let g = λ (p : DePat T). Some (tree p) in
    let hs = map g subs in
    let gap = count - (f + b) in
    let same_take : take f hs ≡ map g (take cut subs) = take-map g f subs ∙ ap (map g) (sym (take_cut f cut subs e)) in
    let same_drop : drop f hs ≡ map g (drop cut subs) = drop-map g f subs ∙ ap (map g) (sym (drop_cut f cut subs e)) in
    let long : length (map g (take cut subs)) ≡ cut = length-map (take cut subs) g ∙ length-take-le cut subs (omega arith) in
    ap (λ xs. listed first (xs ++ (wildcards gap ++ drop f hs))) same_take
    ∙ ap (λ xs. listed first (map g (take cut subs) ++ (wildcards gap ++ xs))) same_drop
    ∙ listed-append first (first + cut) (map g (take cut subs)) (wildcards gap ++ map g (drop cut subs)) (omega arith)
    ∙ ap (λ xs. listed first (map g (take cut subs)) ++ xs) (listed-wildcards-append (first + cut) next gap (map g (drop cut subs)) (omega arith))

pub ruleset leaf_heads = (parts-tree, listed-wildcards, append-nil)

pub ruleset listings = (listed-wildcards, append-nil, items-listed)

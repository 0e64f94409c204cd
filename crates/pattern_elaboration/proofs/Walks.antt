-- The steps of a walk over written patterns.
use Rattle.std.proofs.Common.{◌≡◌, ℕ, IfOk, Result, Ok, Err, ◌+◌, ◌<◌, ◌≤◌, add-one, true, false, zero, suc, List, [], ◌∷◌, map, length, drop, get_or, refl, ap, ◌∙◌, arith, rules, if◌then◌else◌}
use Rattle.std.proofs.Math.Seq.{drop-cons}
use Rattle.decl_syntax.specs.declared.tree.Pat.{Pat}
use Rattle.decl_syntax.specs.declared.tree.PatKind.{the_lemmas}
use Rattle.decl_syntax.specs.Patterns.{PatternTree, At, PatternTrees, more, pattern_view, shape_view, patterns_from}
use Rattle.pattern_rules.specs.Nodes.{shape_of, is_rest}
use Rattle.pattern_rules.specs.Resolved.{rest_in, rest_of}

-- what holds of an answer, where it is there, by what else does
pub if_ok : {A E : Type 0} (r : Result A E) (P Q : A → Type 0) → ((x : A) → P x → Q x) → IfOk r P → IfOk r Q
if_ok (Ok x) P Q f h = f x h
if_ok (Err e) P Q f h = tt

-- behind all items there is none
pub drop_past : {A : Type 0} (xs : List A) (i : ℕ) → length xs ≤ i → drop i xs ≡ []
drop_past [] zero le = refl
drop_past [] (suc i) le = refl
drop_past (x ∷ xs) zero le = absurd (omega arith)
drop_past (x ∷ xs) (suc i) le = drop_past xs i (omega arith)

-- the patterns of a list
abbrev pub list_of : List Pat → PatternTrees
list_of items = patterns_from (map pattern_view items)

-- a pattern by its parts
pub view_at : (p : Pat) → pattern_view p ≡ At p.from (shape_view p.kind)
view_at p = search (rules, the_lemmas)

-- the items from here on
pub from_here : (items : List Pat) (i : ℕ) (p : Pat) → i < length items → p ≡ get_or items i p →
    list_of (drop i items) ≡ more (pattern_view p) (list_of (drop (i + 1) items))
from_here items i p lt e = rw (drop-cons items i p, add-one, ← e) refl

rest_first : (q : PatternTree) (ps : PatternTrees) → rest_of (more q ps) ≡ (if is_rest q then rest_in (shape_of q)
    else rest_of ps)
rest_first (At from shape) ps = refl

-- the rest that stands here
pub rest_here : (items : List Pat) (i : ℕ) (p : Pat) → i < length items → p ≡ get_or items i p →
    is_rest (pattern_view p) ≡ true →
    rest_of (list_of (drop i items)) ≡ rest_in (shape_of (pattern_view p))
rest_here items i p lt e h = ap rest_of (from_here items i p lt e)
    ∙ (rest_first (pattern_view p) (list_of (drop (i + 1) items)) ∙ rw h refl)

-- no rest stands here
pub rest_later : (items : List Pat) (i : ℕ) (p : Pat) → i < length items → p ≡ get_or items i p →
    is_rest (pattern_view p) ≡ false →
    rest_of (list_of (drop i items)) ≡ rest_of (list_of (drop (i + 1) items))
rest_later items i p lt e h = ap rest_of (from_here items i p lt e)
    ∙ (rest_first (pattern_view p) (list_of (drop (i + 1) items)) ∙ rw h refl)

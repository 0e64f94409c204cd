-- The first pattern that binds a name, pattern by pattern.
use Rattle.std.proofs.Common.{◌≡◌, ℕ, ◌+◌, suc, ◌<◌, ◌≤◌, Bool, true, false, ◌||◌, cond, List, [], ◌∷◌, ◌++◌, map, length, drop, get_or, Option, Some, None, refl, sym, ap, ◌∙◌, arith}
use Rattle.std.specs.Prelude.{option_map}
use Rattle.std.specs.Option.{option_or, is_some}
use Rattle.std.specs.List.{find}
use Rattle.std.proofs.lemmas.List.{drop_all}
use Rattle.std.proofs.lemmas.List.Folds.{find-append}
use Rattle.std.proofs.Math.Seq.{drop-cons}
use Rattle.match_model.specs.Places.{some_if}
use Rattle.match_model.specs.Texts.{text_eq}
use Rattle.match_model.proofs.Basics.{text_equal}
use Rattle.match_model.specs.ArenaPatterns.{MBound, MDePat, de_pat, MDePats, no_de_pats, more_de_pats, de_pats_of, type_of}
use Rattle.pattern_arena.specs.declared.pattern.Bound.{Bound}
use Rattle.pattern_arena.specs.declared.pattern.DePat.{DePat, out-DePat}
use Rattle.pattern_arena.specs.Trees.{tree, placed_subs, plain_bound}
use Rattle.pattern_arena.proofs.TreeFacts.{tree_out}
use Rattle.bound_types.specs.Types.{patterns_in, patterns_in_all, has_name, binds_name, bound_type, bound_type_in}

both_mapped : {A B : Type 0} (f : A → B) (o p : Option A) →
    option_map f (option_or o p) ≡ option_or (option_map f o) (option_map f p)
both_mapped f None p = refl
both_mapped f (Some x) p = refl

-- the first of several patterns, or else the others
pub first_or_others : {T : Type 0} (p : MDePat T) (ps : MDePats T) (name : List ℕ) →
    bound_type_in (more_de_pats p ps) name ≡ option_or (bound_type p name) (bound_type_in ps name)
first_or_others p ps name =
    ap (option_map type_of) (find-append (binds_name name) (patterns_in p) (patterns_in_all ps))
    ∙ both_mapped type_of (find (binds_name name) (patterns_in p)) (find (binds_name name) (patterns_in_all ps))

-- the pattern itself, or else those below it
module _ {T : Type 0} (p : DePat T) (name : List ℕ) where
  abbrev Binds : List MBound
  Binds = map plain_bound (out-DePat T p).form.now.binds.now

  pub by_itself : has_name name Binds ≡ true → bound_type (tree p) name ≡ Some (out-DePat T p).form.now.ty
  by_itself e = rw (tree_out p, e) refl

  pub below_it : has_name name Binds ≡ false →
      bound_type (tree p) name ≡ bound_type_in (de_pats_of (map tree (placed_subs p))) name
  below_it e = rw (tree_out p, e) refl

-- the patterns from one on
module _ {T : Type 0} (ps : List (DePat T)) (name : List ℕ) where
  abbrev pub from_on : (i : ℕ) → Option T
  from_on i = bound_type_in (de_pats_of (map tree (drop i ps))) name

  one_on : (i : ℕ) (d : DePat T) → i < length ps →
      from_on i ≡ option_or (bound_type (tree (get_or ps i d)) name) (from_on (suc i))
  one_on i d h =
      ap (λ l. bound_type_in (de_pats_of (map tree l)) name) (drop-cons ps i d h)
      ∙ first_or_others (tree (get_or ps i d)) (de_pats_of (map tree (drop (suc i) ps))) name

  pub found_here : (i : ℕ) (d : DePat T) (o : Option T) → i < length ps → is_some o ≡ true →
      o ≡ bound_type (tree (get_or ps i d)) name → o ≡ from_on i
  found_here i d o h k e = there o k e
    where
      there : (p : Option T) → is_some p ≡ true → p ≡ bound_type (tree (get_or ps i d)) name → p ≡ from_on i
      there (Some t) f g = sym (one_on i d h ∙ ap (λ q. option_or q (from_on (suc i))) (sym g))
      there None f g = cc

  pub not_here : (i : ℕ) (d : DePat T) (o : Option T) → i < length ps → is_some o ≡ false →
      o ≡ bound_type (tree (get_or ps i d)) name →
      from_on (i + 1) ≡ from_on i
  not_here i d o h k e = there o k e
    where
      next : suc i ≡ i + 1
      next = omega arith

      there : (p : Option T) → is_some p ≡ false → p ≡ bound_type (tree (get_or ps i d)) name →
          from_on (i + 1) ≡ from_on i
      there None f g = ap from_on (sym next) ∙ sym (one_on i d h ∙ ap (λ q. option_or q (from_on (suc i))) (sym g))
      there (Some t) f g = cc

  pub none_there : (i : ℕ) → length ps ≤ i → None ≡ from_on i
  none_there i h = ap (λ l. bound_type_in (de_pats_of (map tree l)) name) (sym (drop_all i ps h))

-- a first of several, and then the others
pub noted_first : {T : Type 0} (old : Option T) (o p : Option T) →
    option_or (option_or old o) p ≡ option_or old (option_or o p)
noted_first (Some t) o p = refl
noted_first None o p = refl

-- the pattern's own names, and then those below it
pub own_or_below : {T : Type 0} (p : DePat T) (name : List ℕ) →
    bound_type (tree p) name
    ≡ option_or (some_if (has_name name (map plain_bound (out-DePat T p).form.now.binds.now)) (out-DePat T p).form.now.ty)
    (from_on (placed_subs p) name 0)
own_or_below {T} p name = go (has_name name (Binds p name)) refl
  where
    go : (b : Bool) → has_name name (Binds p name) ≡ b →
        bound_type (tree p) name ≡ option_or (some_if b (out-DePat T p).form.now.ty) (from_on (placed_subs p) name 0)
    go true e = by_itself p name e
    go false e = below_it p name e

-- one more pattern is noted
pub one_noted : {T : Type 0} (ps : List (DePat T)) (name : List ℕ) (i : ℕ) (d : DePat T) (old new : Option T)
    (all : Option T) → i < length ps →
    new ≡ option_or old (bound_type (tree (get_or ps i d)) name) → option_or old (from_on ps name i) ≡ all →
    option_or new (from_on ps name (i + 1)) ≡ all
one_noted ps name i d old new all h e k =
    let next : suc i ≡ i + 1 = omega arith in
    ap (λ o. option_or o (from_on ps name (i + 1))) e
    ∙ noted_first old (bound_type (tree (get_or ps i d)) name) (from_on ps name (i + 1))
    ∙ ap (λ n. option_or old (option_or (bound_type (tree (get_or ps i d)) name) (from_on ps name n))) (sym next)
    ∙ ap (option_or old) (sym (one_on ps name i d h)) ∙ k

-- a name is noted where none is yet
pub noted_or_old : {T : Type 0} (find : List ℕ → Option T) (n q : List ℕ) (t : T) → is_some (find n) ≡ true →
    find q ≡ option_or (find q) (some_if (text_eq n q) t)
noted_or_old {T} find n q t h = go (text_eq n q) refl
  where
    nothing_new : (o : Option T) → is_some o ≡ true → (u : Option T) → o ≡ option_or o u
    nothing_new (Some x) e u = refl
    nothing_new None e u = cc

    go : (b : Bool) → text_eq n q ≡ b → find q ≡ option_or (find q) (some_if b t)
    go true e = nothing_new (find q) (ap (λ m. is_some (find m)) (sym (text_equal n q e)) ∙ h) (Some t)
    go false e = sym (none_behind (find q))
      where
        none_behind : (o : Option T) → option_or o None ≡ o
        none_behind (Some x) = refl
        none_behind None = refl

pub noted_new : {T : Type 0} (find : List ℕ → Option T) (n q : List ℕ) (t : T) → is_some (find n) ≡ false →
    cond (text_eq n q) (Some t) (find q) ≡ option_or (find q) (some_if (text_eq n q) t)
noted_new {T} find n q t h = go (text_eq n q) refl
  where
    is_new : (o : Option T) → is_some o ≡ false → Some t ≡ option_or o (Some t)
    is_new (Some x) e = cc
    is_new None e = refl

    none_behind : (o : Option T) → o ≡ option_or o None
    none_behind (Some x) = refl
    none_behind None = refl

    go : (b : Bool) → text_eq n q ≡ b → cond b (Some t) (find q) ≡ option_or (find q) (some_if b t)
    go true e = is_new (find q) (ap (λ m. is_some (find m)) (sym (text_equal n q e)) ∙ h)
    go false e = none_behind (find q)

-- one more of the names of one type
pub names_noted : {T : Type 0} (bs : List Bound) (name : List ℕ) (t : T) (i : ℕ) (d : Bound) (old new : Option T)
    (all : Option T) → i < length bs →
    new ≡ option_or old (some_if (text_eq (get_or bs i d).name.now name) t) →
    option_or old (some_if (has_name name (map plain_bound (drop i bs))) t) ≡ all →
    option_or new (some_if (has_name name (map plain_bound (drop (i + 1) bs))) t) ≡ all
names_noted {T} bs name t i d old new all h e k =
    let next : suc i ≡ i + 1 = omega arith in
    let here = text_eq (get_or bs i d).name.now name in
    let rest = has_name name (map plain_bound (drop (suc i) bs)) in
    ap (λ o. option_or o (some_if (has_name name (map plain_bound (drop (i + 1) bs))) t)) e
    ∙ ap (λ n. option_or (option_or old (some_if here t)) (some_if (has_name name (map plain_bound (drop n bs))) t))
    (sym next)
    ∙ noted_first old (some_if here t) (some_if rest t)
    ∙ ap (option_or old) (either_of here rest)
    ∙ ap (λ l. option_or old (some_if (has_name name (map plain_bound l)) t)) (sym (drop-cons bs i d h)) ∙ k
  where
    either_of : (b c : Bool) → option_or (some_if b t) (some_if c t) ≡ some_if (b || c) t
    either_of true c = refl
    either_of false c = refl

pub none_behind : {T : Type 0} (o : Option T) → option_or o None ≡ o
none_behind (Some x) = refl
none_behind None = refl

-- the type of a pattern stands in the pattern
pub type_is : {T : Type 0} (p : DePat T) (t : T) → t ≡ type_of (tree p) → t ≡ (out-DePat T p).form.now.ty
type_is p t e = e ∙ ap type_of (tree_out p)

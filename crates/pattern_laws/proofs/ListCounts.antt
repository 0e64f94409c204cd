-- How many items a list pattern has at its two ends.
use Rattle.std.proofs.Common.{◌≡◌, ℕ, zero, suc, ◌+◌, ◌-◌, ◌≤◌, Bool, true, false, not, nat_lt, nat_le, nat_eq, refl, sym, ap, ◌∙◌, arith, if◌then◌else◌}
use Rattle.std.proofs.lemmas.Bool.Decides.{nat_tests}
use Rattle.match_model.specs.Types.{MType}
use Rattle.match_model.specs.Patterns.{MRest, NoRest, SomeRest, BoundRest, no_pats}
use Rattle.decl_syntax.specs.Patterns.{PatternTree, At, Shape, PatternTrees, none, more}
use Rattle.decl_syntax.specs.Patterns as patterns
use Rattle.decl_syntax.specs.Widths.{pattern_count, most_parts}
use Rattle.pattern_rules.specs.Settings.{Setting}
use Rattle.pattern_rules.specs.Nodes.{is_rest}
use Rattle.pattern_rules.specs.NodeRules.{rest_count, has_other_count, has_rests}
use Rattle.pattern_rules.specs.Resolved.{rest_in, rest_of, front_items, back_items}
use Rattle.pattern_rules.specs.Spelled.{is_bound_rest, has_bound_rest}
use Rattle.pattern_laws.proofs.Fitting.{IsUnbound, CountFits, IsNarrow, pats_count}
use Rattle.pattern_laws.proofs.FineNodes.{either_left, either_right}
use Rattle.pattern_laws.proofs.FieldNumbers.{untwice}

-- how many patterns stand behind the first rest
abbrev pub behind : PatternTrees → ℕ
behind none = 0
behind (more p ps) = if is_rest p then pattern_count ps else behind ps

-- there is a rest
abbrev pub HasRest : MRest → Type 0
HasRest NoRest = ⊥
HasRest SomeRest = Unit {0}
HasRest (BoundRest name written) = Unit {0}

rest_there : (from : ℕ) (shape : Shape) → is_rest (At from shape) ≡ true → HasRest (rest_in shape)
rest_there from patterns.Rest h = tt
rest_there from (patterns.BindAs name by_ref mutable (At at patterns.Rest)) h = tt
rest_there from (patterns.BindAs name by_ref mutable (At at shape)) h = cc
rest_there from shape h = cc

-- a list without a rest
pub record Restless (s : Setting) (types : ℕ → MType) (i parts : ℕ) (ps : PatternTrees) : Type 0 where
  pub fronts : pats_count (front_items s types i ps) ≡ pattern_count ps
  pub rest : rest_of ps ≡ NoRest
  pub backs : back_items s types parts ps ≡ no_pats

pub restless : (s : Setting) (types : ℕ → MType) (i parts : ℕ) (ps : PatternTrees) → rest_count ps ≡ 0 →
    Restless s types i parts ps
restless s types i parts none h = record { fronts = refl; rest = refl; backs = refl }
restless s types i parts (more (At from shape) ps) h = go (is_rest (At from shape)) refl h
    (λ e. restless s types (suc i) parts ps e)
  where
    go : (b : Bool) → is_rest (At from shape) ≡ b → (if b then 1 else 0) + rest_count ps ≡ 0 →
        (rest_count ps ≡ 0 → Restless s types (suc i) parts ps) → Restless s types i parts (more (At from shape) ps)
    go true e k rest = absurd (omega (arith, k))
    go false e k rest =
        let r = rest (omega (arith, k)) in
        record { fronts = rw e (ap suc r.fronts); rest = rw e r.rest; backs = rw e r.backs }

-- a list with one rest
pub record OneRest (s : Setting) (types : ℕ → MType) (i parts : ℕ) (ps : PatternTrees) : Type 0 where
  pub both : suc (pats_count (front_items s types i ps) + pats_count (back_items s types parts ps)) ≡ pattern_count ps
  pub rest : HasRest (rest_of ps)
  pub backs : pats_count (back_items s types parts ps) ≡ behind ps

suc_left : (a b : ℕ) → suc a + b ≡ suc (a + b)
suc_left a b = omega arith

pub one_rest : (s : Setting) (types : ℕ → MType) (i parts : ℕ) (ps : PatternTrees) → rest_count ps ≡ 1 →
    OneRest s types i parts ps
one_rest s types i parts none h = absurd (omega (arith, h))
one_rest s types i parts (more (At from shape) ps) h = go (is_rest (At from shape)) refl h
    (λ e. one_rest s types (suc i) parts ps e)
  where
    go : (b : Bool) → is_rest (At from shape) ≡ b → (if b then 1 else 0) + rest_count ps ≡ 1 →
        (rest_count ps ≡ 1 → OneRest s types (suc i) parts ps) → OneRest s types i parts (more (At from shape) ps)
    go true e k rest =
        let r = restless s types (parts - pattern_count ps) 0 ps (omega (arith, k)) in
        record {
          both = rw e (ap suc (zero_more (pats_count (front_items s types (parts - pattern_count ps) ps))
              ∙ r.fronts));
          rest = rw e (rest_there from shape e);
          backs = rw e r.fronts;
        }
      where
        zero_more : (n : ℕ) → 0 + n ≡ n
        zero_more n = omega arith
    go false e k rest =
        let r = rest (omega (arith, k)) in
        record {
          both = rw e (ap suc
              (suc_left (pats_count (front_items s types (suc i) ps)) (pats_count (back_items s types parts ps))
              ∙ r.both));
          rest = rw e r.rest;
          backs = rw e r.backs;
        }

few_rests : (ps : PatternTrees) → has_rests ps ≡ false → rest_count ps ≤ 1
few_rests ps h = grind (arith, nat_tests, h)

-- what is said of both kinds of lists
by_rests : (ps : PatternTrees) (P : Type 0) → has_rests ps ≡ false → (rest_count ps ≡ 0 → P) →
    (rest_count ps ≡ 1 → P) → P
by_rests ps P h f g = go (rest_count ps) refl (few_rests ps h)
  where
    go : (n : ℕ) → rest_count ps ≡ n → n ≤ 1 → P
    go zero e le = f e
    go (suc zero) e le = g e
    go (suc (suc n)) e le = absurd (omega (arith, le))

-- the items behind the rest
pub backs_behind : (s : Setting) (types : ℕ → MType) (parts : ℕ) (ps : PatternTrees) → has_rests ps ≡ false →
    pats_count (back_items s types parts ps) ≡ behind ps
backs_behind s types parts ps h =
    by_rests ps (pats_count (back_items s types parts ps) ≡ behind ps) h
    (λ e. ap pats_count (restless s types 0 parts ps e).backs ∙ sym (none_behind ps e))
    (λ e. (one_rest s types 0 parts ps e).backs)
  where
    none_behind : (ps : PatternTrees) → rest_count ps ≡ 0 → behind ps ≡ 0
    none_behind none e = refl
    none_behind (more p ps) e = go (is_rest p) e (none_behind ps)
      where
        go : (b : Bool) → (if b then 1 else 0) + rest_count ps ≡ 0 → (rest_count ps ≡ 0 → behind ps ≡ 0) →
            (if b then pattern_count ps else behind ps) ≡ 0
        go true k rest = absurd (omega (arith, k))
        go false k rest = rest (omega (arith, k))

with_rest : (rest : MRest) (ends parts : ℕ) → HasRest rest → ends ≤ parts → CountFits rest ends parts
with_rest NoRest ends parts r le = absurd r
with_rest SomeRest ends parts r le = le
with_rest (BoundRest name written) ends parts r le = le

-- the items at both ends fit the parts
pub count_fits : (s : Setting) (types : ℕ → MType) (parts : ℕ) (ps : PatternTrees) → has_rests ps ≡ false →
    has_other_count ps parts ≡ false →
    CountFits (rest_of ps) (pats_count (front_items s types 0 ps) + pats_count (back_items s types parts ps)) parts
count_fits s types parts ps h k = by_rests ps
    (CountFits (rest_of ps)
    (pats_count (front_items s types 0 ps) + pats_count (back_items s types parts ps)) parts) h without within
  where
    without : rest_count ps ≡ 0 → CountFits (rest_of ps)
        (pats_count (front_items s types 0 ps) + pats_count (back_items s types parts ps)) parts
    without e =
        let r = restless s types 0 parts ps e in
        let same : nat_eq (pattern_count ps) parts ≡ true = untwice (nat_eq (pattern_count ps) parts)
        (either_left (not (nat_eq (pattern_count ps) parts)) false (rw e at k)) in
        let count : pattern_count ps ≡ parts = grind (arith, nat_tests, same) in
        let none : pats_count (back_items s types parts ps) ≡ 0 = ap pats_count r.backs in
        rw r.rest (omega (arith, r.fronts, none, count))

    within : rest_count ps ≡ 1 → CountFits (rest_of ps)
        (pats_count (front_items s types 0 ps) + pats_count (back_items s types parts ps)) parts
    within e =
        let r = one_rest s types 0 parts ps e in
        let fits : nat_lt (suc parts) (pattern_count ps) ≡ false = rw e at k in
        let le : pattern_count ps ≤ suc parts = grind (arith, nat_tests, fits) in
        with_rest (rest_of ps)
        (pats_count (front_items s types 0 ps) + pats_count (back_items s types parts ps)) parts r.rest
        (omega (arith, r.both, le))

-- a list of few items is narrow
pub narrow_list : (s : Setting) (types : ℕ → MType) (parts : ℕ) (ps : PatternTrees) → has_rests ps ≡ false →
    nat_le (pattern_count ps) most_parts ≡ true →
    IsNarrow (pats_count (front_items s types 0 ps) + pats_count (back_items s types parts ps))
narrow_list s types parts ps h k = by_rests ps
    (IsNarrow (pats_count (front_items s types 0 ps) + pats_count (back_items s types parts ps))) h without within
  where
    few : pattern_count ps ≤ 256
    few = grind (arith, nat_tests, k)

    wide : (n : ℕ) → n ≤ 256 → IsNarrow n
    wide n le = grind (arith, nat_tests, le)

    without : rest_count ps ≡ 0 →
        IsNarrow (pats_count (front_items s types 0 ps) + pats_count (back_items s types parts ps))
    without e =
        let r = restless s types 0 parts ps e in
        let none : pats_count (back_items s types parts ps) ≡ 0 = ap pats_count r.backs in
        wide (pats_count (front_items s types 0 ps) + pats_count (back_items s types parts ps))
        (omega (arith, r.fronts, none, few))

    within : rest_count ps ≡ 1 →
        IsNarrow (pats_count (front_items s types 0 ps) + pats_count (back_items s types parts ps))
    within e =
        let r = one_rest s types 0 parts ps e in
        wide (pats_count (front_items s types 0 ps) + pats_count (back_items s types parts ps))
        (omega (arith, r.both, few))

-- without a name at a rest
pub unbound_rest : (ps : PatternTrees) → has_bound_rest ps ≡ false → IsUnbound (rest_of ps)
unbound_rest none h = tt
unbound_rest (more (At from shape) ps) h =
    go (is_rest (At from shape)) refl (one shape (either_left (is_bound_rest shape) (has_bound_rest ps) h))
    (unbound_rest ps (either_right (is_bound_rest shape) (has_bound_rest ps) h))
  where
    one : (shape : Shape) → is_bound_rest shape ≡ false → IsUnbound (rest_in shape)
    one (patterns.BindAs name by_ref mutable (At at patterns.Rest)) k = cc
    one (patterns.BindAs name by_ref mutable (At at shape)) k = tt
    one patterns.Rest k = tt
    one shape k = tt

    go : (b : Bool) → is_rest (At from shape) ≡ b → IsUnbound (rest_in shape) → IsUnbound (rest_of ps) →
        IsUnbound (if b then rest_in shape else rest_of ps)
    go true e x y = x
    go false e x y = y

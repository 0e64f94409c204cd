-- Parameters that are read are spelled so, and those that are spelled so are read.
use Rattle.std.proofs.Common.{◌≡◌, ◌<◌, ◌≤◌, Bool, true, List, ◌∷◌, length, Some, None, refl, ap, arith, inl, inr}
use Rattle.std.specs.Prelude.{option_map}
use Rattle.decl_lexer.specs.declared.marks.Mark.TheVariants as marks
use Rattle.decl_lexer.specs.Begins.{Lifetime}
use Rattle.decl_lexer.specs.Lexing.{Placed}
use Rattle.decl_syntax.specs.Units.{behind, is_mark, is_lifetime}
use Rattle.decl_syntax.specs.Grammar.{IsMark, CommaList, Separated}
use Rattle.decl_syntax.specs.Reading.{Read}
use Rattle.decl_syntax.proofs.ListLemmas.{Shrinks}
use Rattle.decl_syntax.proofs.Joined.{some_is, bind_some, either_some, given, behind_first, behind_some, behind_it, none_behind, next_is_not, Joined, read_shrinks, lists, parts}
use Rattle.decl_syntax.proofs.TypeLaws.{lifetime_only}
use Rattle.decl_parser.specs.DeclarationGrammar.{SpellsLifetime, a_lifetime, SpellsParam, free, bounded, SpellsParams, no_params, params}
use Rattle.decl_parser.specs.DeclarationReading.{lifetime_at, bounds_at, param_at, param_list_at, params_at}
use Rattle.decl_parser.proofs.NameLaws.{Within}

lifetime_by : (t : Placed) (ts us rest : List Placed) → ts ≡ t ∷ us → us ≡ rest → t.lexeme ≡ Lifetime → SpellsLifetime ts tt rest
lifetime_by t ts us rest w k e = rw (w, k) (a_lifetime t rest e)

lifetime_sound : (ts : List Placed) (y : Unit {0} × List Placed) → lifetime_at ts ≡ Some y → SpellsLifetime ts y.0 y.1
lifetime_sound ts y e =
    let b = bind_some (behind is_lifetime ts) _ y e in
    let f = behind_first is_lifetime ts b.0 b.1 in
    given SpellsLifetime ts _ y b.2 (lifetime_by f.first ts b.0 b.0 f.whole refl (lifetime_only f.first.lexeme f.is))

lifetime_complete : (ts rest : List Placed) (x : Unit {0}) → SpellsLifetime ts x rest → lifetime_at ts ≡ Some (x, rest)
lifetime_complete _ _ _ (a_lifetime t rest e) = rw e refl

lifetime_shrinks : (ts rest : List Placed) (x : Unit {0}) → SpellsLifetime ts x rest → length rest < length ts
lifetime_shrinks _ _ _ (a_lifetime t rest e) = omega arith

pub lifetimes : Joined SpellsLifetime lifetime_at
lifetimes = record { sound = lifetime_sound; complete = lifetime_complete; shrinks = lifetime_shrinks }

pub lifetimes_shrink : Shrinks lifetime_at
lifetimes_shrink = read_shrinks SpellsLifetime lifetime_at lifetimes

lifetime_heads : (ts rest : List Placed) (x : Unit {0}) → SpellsLifetime ts x rest → (behind (is_mark marks.Greater) ts ≡ None) × (behind is_lifetime ts ≡ Some rest)
lifetime_heads _ _ _ (a_lifetime t rest e) = (rw e refl, rw e refl)

bounds : Joined (Separated marks.Plus SpellsLifetime) bounds_at
unfolding bounds_at
bounds = parts marks.Plus SpellsLifetime lifetime_at lifetimes

param_sound : (ts : List Placed) (y : Unit {0} × List Placed) → param_at ts ≡ Some y → SpellsParam ts y.0 y.1
unfolding param_at
param_sound ts y e =
    let b = bind_some (behind is_lifetime ts) _ y e in
    let f = behind_first is_lifetime ts b.0 b.1 in
    let is = lifetime_only f.first.lexeme f.is in
    elim (either_some (behind (is_mark marks.Colon) b.0) _ _ y b.2) [
      | inl a ↦ (
          let c = behind_some marks.Colon b.0 a.0 a.1 in
          let x = bind_some (bounds_at a.0) _ y a.2 in
          given SpellsParam ts _ y x.2 (bounded ts a.0 x.0.1 c.first x.0.0 (lifetime_by f.first ts b.0 (c.first ∷ a.0) f.whole c.whole is) c.is (bounds.sound a.0 x.0 x.1)))
      | inr o ↦ given SpellsParam ts _ y o.1 (free ts b.0 (lifetime_by f.first ts b.0 b.0 f.whole refl is) (next_is_not (is_mark marks.Colon) b.0 o.0))
    ]

param_complete : (ts rest : List Placed) (x : Unit {0}) → SpellsParam ts x rest → param_at ts ≡ Some (x, rest)
unfolding param_at
param_complete _ _ _ (free ts rest l n) = rw ((lifetime_heads ts rest tt l).1, none_behind (is_mark marks.Colon) rest n) refl
param_complete _ _ _ (bounded ts us rest colon all l c b) = rw ((lifetime_heads ts (colon ∷ us) tt l).1, behind_it marks.Colon colon us c, bounds.complete us rest all b) refl

param_shrinks : (ts rest : List Placed) (x : Unit {0}) → SpellsParam ts x rest → length rest < length ts
param_shrinks _ _ _ (free ts rest l n) = lifetime_shrinks ts rest tt l
param_shrinks _ _ _ (bounded ts us rest colon all l c b) = omega (arith, lifetime_shrinks ts (colon ∷ us) tt l, bounds.shrinks us rest all b)

param_opens : (ts rest : List Placed) (x : Unit {0}) → SpellsParam ts x rest → behind (is_mark marks.Greater) ts ≡ None
param_opens _ _ _ (free ts rest l n) = (lifetime_heads ts rest tt l).0
param_opens _ _ _ (bounded ts us rest colon all l c b) = (lifetime_heads ts (colon ∷ us) tt l).0

one_param : Joined SpellsParam param_at
one_param = record { sound = param_sound; complete = param_complete; shrinks = param_shrinks }

pub params_shrink : Shrinks param_at
params_shrink = read_shrinks SpellsParam param_at one_param

param_lists : Joined (CommaList marks.Greater SpellsParam) param_list_at
unfolding param_list_at
param_lists = lists marks.Greater refl SpellsParam param_at one_param param_opens

params_by : (less : Placed) (ts us rest : List Placed) (all : List (Unit {0})) → ts ≡ less ∷ us → IsMark marks.Less less → CommaList marks.Greater SpellsParam us all rest → SpellsParams ts true rest
params_by less ts us rest all w l list = rw w (params less us rest all l list)

params_sound : (ts : List Placed) (y : Bool × List Placed) → params_at ts ≡ Some y → SpellsParams ts y.0 y.1
unfolding params_at
params_sound ts y e =
    elim (either_some (behind (is_mark marks.Less) ts) _ _ y e) [
      | inl a ↦ (
          let b = behind_some marks.Less ts a.0 a.1 in
          let x = bind_some (param_list_at a.0) _ y a.2 in
          given SpellsParams ts _ y x.2 (params_by b.first ts a.0 x.0.1 x.0.0 b.whole b.is (param_lists.sound a.0 x.0 x.1)))
      | inr o ↦ given SpellsParams ts _ y o.1 (no_params ts (next_is_not (is_mark marks.Less) ts o.0))
    ]

params_complete : (ts rest : List Placed) (x : Bool) → SpellsParams ts x rest → params_at ts ≡ Some (x, rest)
unfolding params_at
params_complete _ _ _ (no_params ts n) = rw (none_behind (is_mark marks.Less) ts n) refl
params_complete _ _ _ (params less ts rest all l list) = rw (l, param_lists.complete ts rest all list) refl

params_within : (ts rest : List Placed) (x : Bool) → SpellsParams ts x rest → length rest ≤ length ts
params_within _ _ _ (no_params ts n) = omega arith
params_within _ _ _ (params less ts rest all l list) = omega (arith, param_lists.shrinks ts rest all list)

pub all_params : Within SpellsParams params_at
all_params = record { sound = params_sound; complete = params_complete; within = params_within }

-- ---- what a place behind something says of what is read

abbrev second : Unit {0} × List Placed → List Placed
second x = x.1

pub lifetime_some : (ts us : List Placed) → behind is_lifetime ts ≡ Some us → lifetime_at ts ≡ Some (tt, us)
lifetime_some ts us e = rw e refl

pub lifetime_none : (ts : List Placed) → behind is_lifetime ts ≡ None → lifetime_at ts ≡ None
lifetime_none ts e = rw e refl

pub param_some : (ts us : List Placed) → option_map second (param_at ts) ≡ Some us → param_at ts ≡ Some (tt, us)
param_some ts us e = by_case (param_at ts) e
  where
    by_case : (o : Read (Unit {0})) → option_map second o ≡ Some us → o ≡ Some (tt, us)
    by_case None e = absurd cc
    by_case (Some y) e = ap (λ rest. Some (tt, rest)) (some_is y.1 us e)

pub param_none : (ts : List Placed) → option_map second (param_at ts) ≡ None → param_at ts ≡ None
param_none ts e = by_case (param_at ts) e
  where
    by_case : (o : Read (Unit {0})) → option_map second o ≡ None → o ≡ None
    by_case None e = refl
    by_case (Some y) e = absurd cc

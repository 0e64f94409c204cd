-- The match by constructors of a function, with a uid of its own for each pattern, by which a tree tells alternatives
-- apart.
use Rattle.std.specs.Prelude.{ℕ, suc, ◌+◌, List, [], ◌∷◌, map, is_none}
use Rattle.match_model.specs.Types.{MType}
use Rattle.match_model.specs.ArenaPatterns.{MDePat, de_pat, MDePats, no_de_pats, more_de_pats, MDeArm, MDeMatch}
use Rattle.decl_syntax.specs.Functions.{FunctionTree}
use Rattle.pattern_rules.specs.Settings.{Setting}
use Rattle.pattern_rules.specs.Faults.{scrutinee_type}
use Rattle.pattern_rules.specs.ShownMatches.{elaborated_arm}

abbrev mutual
  -- how many patterns it has, itself among them
  pub size : {T : Type 0} → MDePat T → ℕ
  size (de_pat c t uid at subs binds) = suc (sizes subs)

  -- how many the patterns have
  pub sizes : {T : Type 0} → MDePats T → ℕ
  sizes no_de_pats = 0
  sizes (more_de_pats p ps) = size p + sizes ps

abbrev mutual
  -- the pattern with uids from this one on, in preorder
  pub renumbered : {T : Type 0} → ℕ → MDePat T → MDePat T
  renumbered n (de_pat c t uid at subs binds) = de_pat c t n at (all_renumbered (suc n) subs) binds

  -- the patterns with uids from this one on, one pattern after the other
  pub all_renumbered : {T : Type 0} → ℕ → MDePats T → MDePats T
  all_renumbered n no_de_pats = no_de_pats
  all_renumbered n (more_de_pats p ps) = more_de_pats (renumbered n p) (all_renumbered (n + size p) ps)

-- the arms with uids from this one on, one arm after the other
abbrev pub arms_renumbered : {T : Type 0} → ℕ → List (MDeArm T) → List (MDeArm T)
arms_renumbered n [] = []
arms_renumbered n (a ∷ rest) =
    record { pat = renumbered n a.pat; guarded = a.guarded } ∷ arms_renumbered (n + size a.pat) rest

-- the match by constructors, whose patterns have uids from 0 on
abbrev pub numbered_match : Setting → FunctionTree → MDeMatch MType
numbered_match s f = record {
  type = scrutinee_type s f;
  sure = is_none f.deref;
  arms = arms_renumbered 0 (map (λ a. record { pat = elaborated_arm s f a; guarded = a.guarded }) f.arms);
}

-- The or-patterns of an arm are numbered in preorder, and each alternative knows what it decides (our own choice).
use Rattle.std.specs.Prelude.{◌≡◌, ⊤, ℕ, suc, ◌+◌, Bool, true, false, List, [], ◌∷◌, ◌++◌, map, nat_eq, cond}
use Rattle.std.specs.List.{flat_map}
use Rattle.match_model.specs.Ways.{Way}
use Rattle.match_model.specs.Constructors.{MCtor, OrCtor}
use Rattle.match_model.specs.ArenaPatterns.{MDePat, de_pat, MDePats, no_de_pats, more_de_pats, uid_of, MDeArm, MDeMatch}
use Rattle.match_model.specs.Lists.{Every}
use Rattle.match_model.specs.Keys.{Decision, Key, key_of}

-- one for an or-pattern of two or more alternatives, else none
abbrev pub own_count : {T : Type 0} → MCtor → MDePats T → ℕ
own_count OrCtor (more_de_pats p (more_de_pats q qs)) = 1
own_count _ subs = 0

abbrev mutual
  -- how many or-patterns of two or more alternatives are in the pattern
  pub or_count : {T : Type 0} → MDePat T → ℕ
  or_count (de_pat c t uid at subs binds) = own_count c subs + or_counts subs

  -- how many are in the patterns
  pub or_counts : {T : Type 0} → MDePats T → ℕ
  or_counts no_de_pats = 0
  or_counts (more_de_pats p ps) = or_count p + or_counts ps

-- the alternatives, the first of which has the number `k`, decide the or-pattern with the number `n`
abbrev pub AreAlternatives : {T : Type 0} → (decides : ℕ → Decision) → (n k : ℕ) → MDePats T → Type 0
AreAlternatives decides n k no_de_pats = ⊤
AreAlternatives decides n k (more_de_pats p ps) =
    (decides (uid_of p) ≡ record { number = n; alternative = k }) × AreAlternatives decides n (suc k) ps

-- an or-pattern of two or more alternatives has the number
abbrev pub IsDecided : {T : Type 0} → (decides : ℕ → Decision) → ℕ → MCtor → MDePats T → Type 0
IsDecided decides n OrCtor (more_de_pats p (more_de_pats q qs)) =
    AreAlternatives decides n 0 (more_de_pats p (more_de_pats q qs))
IsDecided decides n _ subs = ⊤

abbrev mutual
  -- the or-patterns of two or more alternatives in the pattern are numbered in preorder, the first being `n`
  pub IsNumbered : {T : Type 0} → (decides : ℕ → Decision) → ℕ → MDePat T → Type 0
  IsNumbered decides n (de_pat c t uid at subs binds) =
      IsDecided decides n c subs × AreNumbered decides (own_count c subs + n) subs

  -- those in the patterns, one pattern after the other
  pub AreNumbered : {T : Type 0} → (decides : ℕ → Decision) → ℕ → MDePats T → Type 0
  AreNumbered decides n no_de_pats = ⊤
  AreNumbered decides n (more_de_pats p ps) = IsNumbered decides n p × AreNumbered decides (or_count p + n) ps

-- in each arm the or-patterns are numbered in preorder
abbrev pub AreArmsNumbered : {T : Type 0} → (decides : ℕ → Decision) → List (MDeArm T) → Type 0
AreArmsNumbered {T} decides arms = Every (λ (a : MDeArm T). (n : ℕ) × IsNumbered decides n a.pat) arms

-- an alternative, by its uid, and what it decides
pub record Decided : Type 0 where
  pub uid : ℕ
  pub decision : Decision

-- the patterns are the alternatives of an or-pattern of two or more
abbrev pub is_choice : {T : Type 0} → MCtor → MDePats T → Bool
is_choice OrCtor (more_de_pats p (more_de_pats q qs)) = true
is_choice _ subs = false

-- what the alternative decides, where it is one
abbrev pub own_decision : (choice : Bool) → (uid n k : ℕ) → List Decided
own_decision choice uid n k =
    cond choice (record { uid = uid; decision = record { number = n; alternative = k } } ∷ []) []

abbrev mutual
  -- the alternatives in the pattern, its first or-pattern of two or more being number `n`
  pub decisions_in : {T : Type 0} → (n : ℕ) → MDePat T → List Decided
  decisions_in n (de_pat c t uid at subs binds) = decisions_below (is_choice c subs) n 0 (own_count c subs + n) subs

  -- the patterns, which may be the alternatives of or-pattern `n` from number `k` on, with those inside them, whose first
  -- or-pattern is number `m`
  pub decisions_below : {T : Type 0} → (choice : Bool) → (n k m : ℕ) → MDePats T → List Decided
  decisions_below choice n k m no_de_pats = []
  decisions_below choice n k m (more_de_pats p ps) =
      (own_decision choice (uid_of p) n k ++ decisions_in m p) ++ decisions_below choice n (suc k) (or_count p + m) ps

-- the decision of the first that has the uid
abbrev pub decision_of : List Decided → (uid : ℕ) → Decision
decision_of [] uid = record { number = 0; alternative = 0 }
decision_of (d ∷ ds) uid = cond (nat_eq d.uid uid) d.decision (decision_of ds uid)

-- what each alternative of the match decides, by its uid: in each arm the or-patterns are numbered from 0
abbrev pub match_decisions : {T : Type 0} → MDeMatch T → (uid : ℕ) → Decision
match_decisions m = decision_of (flat_map (λ a. decisions_in 0 a.pat) m.arms)

-- what a way decided
abbrev pub way_key : (decides : ℕ → Decision) → Way → Key
way_key decides w = key_of (map decides w.trace)

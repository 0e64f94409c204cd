-- Rows of which everything is marked that they may answer.
use Rattle.std.specs.Prelude.{ℕ, Bool, ◌&&◌, cond, List, [], ◌∷◌, ◌++◌}
use Rattle.std.specs.List.{list_all}
use Rattle.match_model.specs.ArenaPatterns.{MDePat, de_pat, MDePats, no_de_pats, more_de_pats, uid_of}
use Rattle.match_model.specs.Numbering.{is_choice}
use Rattle.pattern_matrix.specs.Sparse.{SparseRow}
use Rattle.pattern_matrix.specs.Counting.{Question, to_arm, through_alternative}

abbrev mutual
  -- the alternatives of the or-patterns in the pattern, by their uids; a lone alternative is no choice
  pub choices_within : {T : Type 0} → MDePat T → List ℕ
  choices_within (de_pat c t uid at subs binds) = choices_among (is_choice c subs) subs

  -- those in the patterns, and, where these are a choice, they themselves
  pub choices_among : {T : Type 0} → (choice : Bool) → MDePats T → List ℕ
  choices_among choice no_de_pats = []
  choices_among choice (more_de_pats p ps) = cond choice (uid_of p ∷ []) [] ++ (choices_within p ++ choices_among choice ps)

-- these alternatives of the arm are all marked
abbrev pub are_marked : (is_marked : Question → Bool) → (arm : ℕ) → List ℕ → Bool
are_marked is_marked arm ids = list_all (λ id. is_marked (through_alternative arm id)) ids

-- the row's arm is marked, and so are the alternatives that the row has chosen and those in its heads
abbrev pub is_done : {T : Type 0} → (is_marked : Question → Bool) → SparseRow T → Bool
is_done is_marked r =
    is_marked (to_arm r.arm)
    && (are_marked is_marked r.arm r.chosen && list_all (λ h. are_marked is_marked r.arm (choices_within h.1)) r.heads)

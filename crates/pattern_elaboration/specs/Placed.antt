-- Patterns of an engine with one more name, and as alternatives.
use Rattle.std.specs.Prelude.{◌≡◌, ℕ, not, ◌&&◌, List, [], ◌∷◌, nat_eq, if◌then◌else◌}
use Rattle.match_model.specs.Types.{MType}
use Rattle.match_model.specs.Constructors.{MCtor, OrCtor}
use Rattle.match_model.specs.ArenaPatterns.{MBound, MDePat, de_pat, no_de_pats, more_de_pats}
use Rattle.pat_context.specs.Views.{plain_ctor}
use Rattle.pattern_arena.specs.declared.pattern.Form.{Form}
use Rattle.pattern_rules.specs.Builders.{Built, point}
use Rattle.pattern_rules.specs.Elaborated.{is_wide_ctor}

-- the pattern with one more name
abbrev pub bound_on : {T : Type 0} → MBound → MDePat T → MDePat T
bound_on b (de_pat c t uid at subs binds) = de_pat c t uid at subs (b ∷ binds)

-- the pattern at the offset; a range of more than one number that stands elsewhere keeps its own, below an or-pattern
-- with this uid
abbrev pub standing_tree : {T : Type 0} → (uid here : ℕ) → MDePat T → MDePat T
standing_tree u here (de_pat c t uid at subs binds) =
    if is_wide_ctor c && not (nat_eq here at) then de_pat OrCtor t u here (more_de_pats (de_pat c t uid at subs binds)
    no_de_pats) []
    else de_pat c t uid here subs binds

-- the pattern behind references of these types, from the outside in
abbrev pub wrapped : List MType → Built → Built
wrapped [] p = p
wrapped (t ∷ ts) p = point t (wrapped ts p)

-- a form without names over these patterns
pub record IsFormOver {T P : Type 0} (c : MCtor) (t : T) (ps : List P) (f : Form T P) : Type 0 where
  pub ctor : plain_ctor f.ctor ≡ c
  pub ty : f.ty ≡ t
  pub subs : f.subs.now ≡ ps
  pub binds : f.binds.now ≡ []

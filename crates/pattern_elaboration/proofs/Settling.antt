-- What is built, without its uids, is what the elaborated patterns are built of.
use Rattle.std.proofs.Common.{◌≡◌, ℕ, Bool, true, false, not, ◌&&◌, List, [], ◌∷◌, map, nat_eq, refl, sym, ap, ◌∙◌, if◌then◌else◌}
use Rattle.match_model.specs.Types.{MType}
use Rattle.match_model.specs.Constructors.{MCtor, OrCtor}
use Rattle.match_model.specs.ArenaPatterns.{MBound, MDePat, de_pat, no_de_pats, more_de_pats, de_pats_of, at_of}
use Rattle.decl_syntax.specs.declared.tree.Pat.{Pat}
use Rattle.decl_syntax.specs.Patterns.{pattern_view}
use Rattle.pattern_rules.specs.Nodes.{offset_of}
use Rattle.pattern_rules.specs.Elaborated.{with_bound, is_wide_ctor, standing_at}
use Rattle.pattern_rules.specs.Shown.{uid_under, settled, settled_all, shown}
use Rattle.pattern_elaboration.specs.Placed.{bound_on, standing_tree}
use Rattle.pattern_elaboration.proofs.Walks.{view_at}

-- one more name
pub bound_settled : {T : Type 0} (type : T → MType) (u : ℕ) (b : MBound) (p : MDePat T) → settled type u
    (bound_on b p) ≡ with_bound b (settled type u p)
bound_settled type u b (de_pat c t uid at subs binds) = refl

-- an alternative, or an arm's pattern
standing_settled : {T : Type 0} (type : T → MType) (n here : ℕ) (p : MDePat T) → settled type here
    (standing_tree n here p) ≡ standing_at here (settled type 0 p)
standing_settled type n here (de_pat c t uid at subs binds) = go (is_wide_ctor c && not (nat_eq here at))
  where
    go : (b : Bool) →
        settled type here (if b then de_pat OrCtor t n here (more_de_pats (de_pat c t uid at subs binds) no_de_pats)
        [] else de_pat c t uid here subs binds)
        ≡ (if b then de_pat OrCtor (type t) here here (more_de_pats (de_pat c (type t) at at (settled_all type c subs)
        binds) no_de_pats) []
        else de_pat c (type t) here here (settled_all type c subs) binds)
    go true = refl
    go false = refl

standing_at_offset : {T : Type 0} (n here : ℕ) (p : MDePat T) → at_of (standing_tree n here p) ≡ here
standing_at_offset n here (de_pat c t uid at subs binds) = go (is_wide_ctor c && not (nat_eq here at))
  where
    go : (b : Bool) → at_of (if b then de_pat OrCtor t n here (more_de_pats (de_pat c t uid at subs binds) no_de_pats)
        [] else de_pat c t uid here subs binds) ≡ here
    go true = refl
    go false = refl

-- an alternative, or an arm's pattern, where the written one begins, with its offset for its uid
pub standing_shown : {T : Type 0} (type : T → MType) (n : ℕ) (written : Pat) (p q : MDePat T) →
    q ≡ standing_tree n written.from p →
    shown type q ≡ standing_at (offset_of (pattern_view written)) (settled type 0 p)
standing_shown type n written p q e =
    ap (shown type) e
    ∙ (ap (λ u. settled type u (standing_tree n written.from p)) (standing_at_offset n written.from p)
    ∙ (standing_settled type n written.from p
    ∙ ap (λ at. standing_at at (settled type 0 p)) (sym (ap offset_of (view_at written)))))

-- the constructor is no or-pattern
abbrev pub IsNoOr : MCtor → Type 0
IsNoOr OrCtor = ⊥
IsNoOr _ = Unit {0}

no_uid : {T : Type 0} (c : MCtor) (p : MDePat T) → IsNoOr c → uid_under c p ≡ 0
no_uid OrCtor p h = absurd h
no_uid c p h = refl

-- the patterns of parts, one by one
pub parts_settled : {T : Type 0} (type : T → MType) (c : MCtor) (ps : List (MDePat T)) → IsNoOr c → settled_all type c
    (de_pats_of ps) ≡ de_pats_of (map (settled type 0) ps)
parts_settled type c [] h = refl
parts_settled type c (p ∷ ps) h = rw (no_uid c p h, parts_settled type c ps h) refl

-- alternatives, each by its offset
pub choices_settled : {T : Type 0} (type : T → MType) (ps : List (MDePat T)) → settled_all type OrCtor (de_pats_of ps)
    ≡ de_pats_of (map (shown type) ps)
choices_settled type [] = refl
choices_settled type (p ∷ ps) = ap (more_de_pats (shown type p)) (choices_settled type ps)

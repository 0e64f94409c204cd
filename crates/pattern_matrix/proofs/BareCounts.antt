-- Submatrices whose rows are made bare say what they said.
use Rattle.std.proofs.Common.{◌≡◌, ◌↔◌, ℕ, Bool, true, false, not, ◌&&◌, ◌||◌, List, [], ◌∷◌, map, nat_eq, Some, None, refl, sym, ap, ◌∙◌}
use Rattle.std.specs.List.{list_any, list_all}
use Rattle.match_model.specs.Values.{MValue}
use Rattle.match_model.specs.Ways.{Way, bare_way}
use Rattle.match_model.specs.Match.{counting_ways, goes_through}
use Rattle.match_model.specs.Constructors.{WildCtor}
use Rattle.match_model.specs.Contexts.{Context}
use Rattle.match_model.specs.ArenaPatterns.{de_pat}
use Rattle.match_model.specs.ArenaWays.{with_bounds}
use Rattle.match_model.specs.Rows.{Head as MHead, is_wild, starts_wild}
use Rattle.match_model.specs.Matrices.{MColumn}
use Rattle.match_model.specs.WellTyped.{AreHeadsTyped, IsHeadTyped}
use Rattle.match_model.specs.Weights.{rows_weight}
use Rattle.pattern_matrix.specs.Covering.{head_takes, row_takes}
use Rattle.pattern_matrix.specs.HeadRows.{cols, AllTyped, AreMadeHeads, AreMadeRows, IsMadeHead}
use Rattle.pattern_matrix.specs.Counting.{Question, WantedRow, has_chosen, head_passes, heads_pass, counts}
use Rattle.pattern_matrix.specs.Searching.{Submatrix, heads_in, weight_of, IsFit, Comes}
use Rattle.pattern_matrix.specs.Sparse.{bare_head, bare_row}
use Rattle.pattern_matrix.specs.Wanted.{bare_wanted, bare_submatrix}
use Rattle.pattern_matrix.proofs.BareLaws.{bare_rows_weigh, bound_trace}

-- ---- heads

bare_takes : {T : Type 0} (h : MHead T) (v : MValue) → head_takes (bare_head h) v ≡ head_takes h v
bare_takes None v = refl
bare_takes (Some (de_pat WildCtor t uid at subs binds)) v = refl
bare_takes (Some (de_pat _ t uid at subs binds)) v = refl

bare_passes : {T : Type 0} (g : Bool) (id : ℕ) (h : MHead T) (v : MValue) → head_passes g id (bare_head h) v ≡ head_passes g id h v
bare_passes g id None v = refl
bare_passes {T} g id (Some (de_pat WildCtor t uid at subs binds)) v = go g
  where
    w : Way
    w = with_bounds binds v bare_way

    same : (list_any (nat_eq id) [] || false) ≡ (list_any (nat_eq id) w.trace || false)
    same = ap (λ ns. list_any (nat_eq id) ns || false) (sym (bound_trace binds v bare_way))

    go : (g : Bool) → list_any (goes_through id) (counting_ways g (bare_way ∷ [])) ≡ list_any (goes_through id) (counting_ways g (w ∷ []))
    go true = same
    go false = same
bare_passes g id (Some (de_pat _ t uid at subs binds)) v = refl

pub bare_wild : {T : Type 0} (h : MHead T) → is_wild (bare_head h) ≡ is_wild h
bare_wild None = refl
bare_wild (Some (de_pat WildCtor t uid at subs binds)) = refl
bare_wild (Some (de_pat _ t uid at subs binds)) = refl

bare_typed : {T : Type 0} (cx : Context T) (t : T) (h : MHead T) → IsHeadTyped cx t h → IsHeadTyped cx t (bare_head h)
bare_typed cx t None h = h
bare_typed cx t (Some (de_pat WildCtor u uid at subs binds)) h = tt
bare_typed cx t (Some (de_pat _ u uid at subs binds)) h = h

bare_made : {T : Type 0} (h : MHead T) → IsMadeHead h → IsMadeHead (bare_head h)
bare_made None h = h
bare_made (Some (de_pat WildCtor u uid at subs binds)) h = tt
bare_made (Some (de_pat _ u uid at subs binds)) h = h

-- ---- lists of heads

takes_bare : {T : Type 0} (hs : List (MHead T)) (vs : List MValue) → row_takes (map bare_head hs) vs ≡ row_takes hs vs
takes_bare [] vs = refl
takes_bare (h ∷ hs) [] = refl
takes_bare (h ∷ hs) (v ∷ vs) = ap (λ b. b && row_takes (map bare_head hs) vs) (bare_takes h v) ∙ ap (λ b. head_takes h v && b) (takes_bare hs vs)

passes_bare : {T : Type 0} (g : Bool) (id : ℕ) (hs : List (MHead T)) (vs : List MValue) → heads_pass g id (map bare_head hs) vs ≡ heads_pass g id hs vs
passes_bare g id [] vs = refl
passes_bare g id (h ∷ hs) [] = refl
passes_bare g id (h ∷ hs) (v ∷ vs) = ap (λ b. b || heads_pass g id (map bare_head hs) vs) (bare_passes g id h v) ∙ ap (λ b. head_passes g id h v || b) (passes_bare g id hs vs)

pub starts_bare : {T : Type 0} (hs : List (MHead T)) → starts_wild (map bare_head hs) ≡ starts_wild hs
starts_bare [] = refl
starts_bare (h ∷ hs) = bare_wild h

typed_bare : {T : Type 0} (cx : Context T) (columns : List (MColumn T)) (hs : List (MHead T)) → AreHeadsTyped cx columns hs →
    AreHeadsTyped cx columns (map bare_head hs)
typed_bare cx [] [] h = h
typed_bare cx [] (x ∷ hs) h = absurd h
typed_bare cx (c ∷ columns) [] h = absurd h
typed_bare cx (c ∷ columns) (x ∷ hs) h = (bare_typed cx c.type x h.0, typed_bare cx columns hs h.1)

made_bare : {T : Type 0} (hs : List (MHead T)) → AreMadeHeads hs → AreMadeHeads (map bare_head hs)
made_bare [] h = h
made_bare (x ∷ hs) h = (bare_made x h.0, made_bare hs h.1)

-- ---- rows

pub counts_bare : {T : Type 0} (q : Question) (rows : List (WantedRow T)) (vs : List MValue) → counts q (map bare_wanted rows) vs ≡ counts q rows vs
counts_bare q [] vs = refl
counts_bare q (x ∷ rows) vs =
    let t = row_takes (map bare_head x.row.heads) vs in
    let p = heads_pass x.row.guarded q.id (map bare_head x.row.heads) vs in
    ap (λ k. (x.wanted && (nat_eq q.arm x.row.arm && (t && (has_chosen q x.row.chosen || p)))) || (not (not x.row.guarded && t) && k)) (counts_bare q rows vs)
    ∙ ap (λ t. (x.wanted && (nat_eq q.arm x.row.arm && (t && (has_chosen q x.row.chosen || p)))) || (not (not x.row.guarded && t) && counts q rows vs)) (takes_bare x.row.heads vs)
    ∙ ap (λ p. (x.wanted && (nat_eq q.arm x.row.arm && (row_takes x.row.heads vs && (has_chosen q x.row.chosen || p)))) || (not (not x.row.guarded && row_takes x.row.heads vs) && counts q rows vs)) (passes_bare x.row.guarded q.id x.row.heads vs)

all_typed_bare : {T : Type 0} (cx : Context T) (columns : List (MColumn T)) (rows : List (WantedRow T)) → AllTyped cx columns (heads_in rows) →
    AllTyped cx columns (heads_in (map bare_wanted rows))
all_typed_bare cx columns [] h = tt
all_typed_bare cx columns (x ∷ rows) h = (typed_bare cx columns x.row.heads h.0, all_typed_bare cx columns rows h.1)

all_made_bare : {T : Type 0} (rows : List (WantedRow T)) → AreMadeRows (heads_in rows) → AreMadeRows (heads_in (map bare_wanted rows))
all_made_bare [] h = tt
all_made_bare (x ∷ rows) h = (made_bare x.row.heads h.0, all_made_bare rows h.1)

rows_in_bare : {T : Type 0} (rows : List (WantedRow T)) → map (λ x. x.row) (map bare_wanted rows) ≡ map bare_row (map (λ x. x.row) rows)
rows_in_bare [] = refl
rows_in_bare (x ∷ rows) = ap (λ rs. bare_row x.row ∷ rs) (rows_in_bare rows)

pub weighs_bare : {T : Type 0} (s : Submatrix T) → weight_of (bare_submatrix s) ≡ weight_of s
weighs_bare s = ap rows_weight (rows_in_bare s.rows) ∙ bare_rows_weigh (map (λ x. x.row) s.rows)

pub all_wild_bare : {T : Type 0} (rows : List (WantedRow T)) → list_all starts_wild (heads_in (map bare_wanted rows)) ≡ list_all starts_wild (heads_in rows)
all_wild_bare [] = refl
all_wild_bare (x ∷ rows) = ap (λ b. b && list_all starts_wild (heads_in (map bare_wanted rows))) (starts_bare x.row.heads) ∙ ap (λ b. starts_wild x.row.heads && b) (all_wild_bare rows)

-- ---- submatrices

module _ {T : Type 0} (IsType : T → Type 0) (IsValue : T → Bool → MValue → Type 0) (cx : Context T) where
  pub fit_bare : (s : Submatrix T) → IsFit IsType IsValue cx s → IsFit IsType IsValue cx (bare_submatrix s)
  fit_bare s f = record { types = f.types; typed = all_typed_bare cx (cols s.places) s.rows f.typed; made = all_made_bare s.rows f.made; some = f.some }

  pub comes_bare : (s : Submatrix T) (q : Question) → Comes IsValue q s ↔ Comes IsValue q (bare_submatrix s)
  comes_bare s q = (λ (vs, a, c). (vs, a, counts_bare q s.rows vs ∙ c), λ (vs, a, c). (vs, a, sym (counts_bare q s.rows vs) ∙ c))

-- Rows without names say what they said with them.
use Rattle.std.proofs.Common.{◌≡◌, ℕ, ◌+◌, Bool, true, false, ◌&&◌, ◌||◌, List, [], ◌∷◌, map, Some, None, refl, sym, ap, ◌∙◌}
use Rattle.match_model.specs.Values.{MValue}
use Rattle.match_model.specs.Contexts.{Context}
use Rattle.match_model.specs.Constructors.{WildCtor}
use Rattle.match_model.specs.Ways.{bare_way}
use Rattle.match_model.specs.ArenaPatterns.{de_pat}
use Rattle.match_model.specs.Rows.{Head}
use Rattle.match_model.specs.Matrices.{MColumn}
use Rattle.match_model.specs.WellTyped.{AreHeadsTyped}
use Rattle.match_model.specs.Weights.{heads_weight, rows_weight}
use Rattle.pattern_matrix.specs.Sparse.{bare_head}
use Rattle.pattern_matrix.proofs.BareLaws.{bound_trace, bare_weights}
use Rattle.pattern_matrix.specs.Covering.{head_takes, row_takes}
use Rattle.pattern_matrix.specs.HeadRows.{cols, AllTyped, AreMadeHeads, AreMadeRows}
use Rattle.pattern_matrix.specs.Counting.{Question, WantedRow, head_passes, heads_pass, counts}
use Rattle.pattern_matrix.specs.Searching.{Submatrix, weight_of, heads_in, IsFit, Comes}
use Rattle.usefulness.specs.Children.{bare_rows, bare_sub}

head_takes_bare : {T : Type 0} (h : Head T) (v : MValue) → head_takes (bare_head h) v ≡ head_takes h v
head_takes_bare None v = refl
head_takes_bare (Some (de_pat WildCtor t uid at subs binds)) v = refl
head_takes_bare (Some (de_pat _ t uid at subs binds)) v = refl

head_passes_bare : {T : Type 0} (g : Bool) (id : ℕ) (h : Head T) (v : MValue) → head_passes g id (bare_head h) v ≡ head_passes g id h v
head_passes_bare g id None v = refl
head_passes_bare true id (Some (de_pat WildCtor t uid at subs binds)) v = rw (bound_trace binds v bare_way) refl
head_passes_bare false id (Some (de_pat WildCtor t uid at subs binds)) v = rw (bound_trace binds v bare_way) refl
head_passes_bare g id (Some (de_pat _ t uid at subs binds)) v = refl

takes_bare : {T : Type 0} (hs : List (Head T)) (vs : List MValue) → row_takes (map bare_head hs) vs ≡ row_takes hs vs
takes_bare [] [] = refl
takes_bare [] (v ∷ vs) = refl
takes_bare (h ∷ hs) [] = refl
takes_bare (h ∷ hs) (v ∷ vs) = ap (λ b. b && row_takes (map bare_head hs) vs) (head_takes_bare h v) ∙ ap (λ b. head_takes h v && b) (takes_bare hs vs)

passes_bare : {T : Type 0} (g : Bool) (id : ℕ) (hs : List (Head T)) (vs : List MValue) → heads_pass g id (map bare_head hs) vs ≡ heads_pass g id hs vs
passes_bare g id [] vs = refl
passes_bare g id (h ∷ hs) [] = refl
passes_bare g id (h ∷ hs) (v ∷ vs) = ap (λ b. b || heads_pass g id (map bare_head hs) vs) (head_passes_bare g id h v) ∙ ap (λ b. head_passes g id h v || b) (passes_bare g id hs vs)

pub counts_bare : {T : Type 0} (q : Question) (xs : List (WantedRow T)) (vs : List MValue) → counts q (bare_rows xs) vs ≡ counts q xs vs
counts_bare q [] vs = refl
counts_bare q (x ∷ xs) vs =
    rw (takes_bare x.row.heads vs, passes_bare x.row.guarded q.id x.row.heads vs, counts_bare q xs vs) refl

typed_heads : {T : Type 0} (cx : Context T) (cs : List (MColumn T)) (hs : List (Head T)) → AreHeadsTyped cx cs hs → AreHeadsTyped cx cs (map bare_head hs)
typed_heads cx [] [] t = t
typed_heads cx [] (h ∷ hs) t = absurd t
typed_heads cx (c ∷ cs) [] t = t
typed_heads cx (c ∷ cs) (None ∷ hs) t = (tt, typed_heads cx cs hs t.1)
typed_heads cx (c ∷ cs) (Some (de_pat WildCtor u uid at subs binds) ∷ hs) t = (tt, typed_heads cx cs hs t.1)
typed_heads cx (c ∷ cs) (Some (de_pat _ u uid at subs binds) ∷ hs) t = (t.0, typed_heads cx cs hs t.1)

typed_bare : {T : Type 0} (cx : Context T) (cs : List (MColumn T)) (xs : List (WantedRow T)) → AllTyped cx cs (heads_in xs) → AllTyped cx cs (heads_in (bare_rows xs))
typed_bare cx cs [] t = tt
typed_bare cx cs (x ∷ xs) t = (typed_heads cx cs x.row.heads t.0, typed_bare cx cs xs t.1)

made_heads : {T : Type 0} (hs : List (Head T)) → AreMadeHeads hs → AreMadeHeads (map bare_head hs)
made_heads [] m = tt
made_heads (None ∷ hs) m = (tt, made_heads hs m.1)
made_heads (Some (de_pat WildCtor u uid at subs binds) ∷ hs) m = (tt, made_heads hs m.1)
made_heads (Some (de_pat _ u uid at subs binds) ∷ hs) m = (m.0, made_heads hs m.1)

made_bare : {T : Type 0} (xs : List (WantedRow T)) → AreMadeRows (heads_in xs) → AreMadeRows (heads_in (bare_rows xs))
made_bare [] m = tt
made_bare (x ∷ xs) m = (made_heads x.row.heads m.0, made_bare xs m.1)

rows_bare_weigh : {T : Type 0} (xs : List (WantedRow T)) → rows_weight (map (λ x. x.row) (bare_rows xs)) ≡ rows_weight (map (λ x. x.row) xs)
rows_bare_weigh [] = refl
rows_bare_weigh (x ∷ xs) =
    ap (λ n. n + rows_weight (map (λ y. y.row) (bare_rows xs))) (bare_weights x.row.heads) ∙ ap (λ n. heads_weight x.row.heads + n) (rows_bare_weigh xs)

pub weight_bare : {T : Type 0} (s : Submatrix T) → weight_of (bare_sub s) ≡ weight_of s
weight_bare s = rows_bare_weigh s.rows

module _ {T : Type 0} (IsType : T → Type 0) (IsValue : T → Bool → MValue → Type 0) (cx : Context T) where
  pub fit_bare : (s : Submatrix T) → IsFit IsType IsValue cx s → IsFit IsType IsValue cx (bare_sub s)
  fit_bare s f = record { types = f.types; typed = typed_bare cx (cols s.places) s.rows f.typed; made = made_bare s.rows f.made; some = f.some }

  pub comes_bare : (q : Question) (s : Submatrix T) → Comes IsValue q s → Comes IsValue q (bare_sub s)
  comes_bare q s (vs, a, c) = (vs, a, counts_bare q s.rows vs ∙ c)

  pub comes_named : (q : Question) (s : Submatrix T) → Comes IsValue q (bare_sub s) → Comes IsValue q s
  comes_named q s (vs, a, c) = (vs, a, sym (counts_bare q s.rows vs) ∙ c)

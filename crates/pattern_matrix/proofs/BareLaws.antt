-- Rows without the names that are caught and that wildcards bind.
use Rattle.std.proofs.Common.{◌≡◌, ◌+◌, ◌*◌, List, [], ◌∷◌, map, Some, None, refl, ap, ◌∙◌}
use Rattle.match_model.specs.Values.{MValue}
use Rattle.match_model.specs.Ways.{Way, bare_way}
use Rattle.match_model.specs.Constructors.{WildCtor}
use Rattle.match_model.specs.ArenaPatterns.{MBound, de_pat}
use Rattle.match_model.specs.ArenaWays.{with_bounds}
use Rattle.match_model.specs.Rows.{Head as MHead}
use Rattle.match_model.specs.Matrices.{MRow, head_ways}
use Rattle.match_model.specs.Weights.{head_weight, heads_weight, rows_weight}
use Rattle.pattern_matrix.specs.Sparse.{bare_head, bare_row}

pub bound_trace : (binds : List MBound) (v : MValue) (w : Way) → (with_bounds binds v w).trace ≡ w.trace
bound_trace [] v w = refl
bound_trace (b ∷ rest) v w = bound_trace rest v w

pub bare_traces : {T : Type 0} (h : MHead T) (v : MValue) → map (λ w. w.trace) (head_ways (bare_head h) v) ≡ map (λ w. w.trace) (head_ways h v)
bare_traces None v = refl
bare_traces (Some (de_pat WildCtor t uid at subs binds)) v = rw (bound_trace binds v bare_way) refl
bare_traces (Some (de_pat _ t uid at subs binds)) v = refl

bare_weight : {T : Type 0} (h : MHead T) → head_weight (bare_head h) ≡ head_weight h
bare_weight None = refl
bare_weight (Some (de_pat WildCtor t uid at subs binds)) = refl
bare_weight (Some (de_pat _ t uid at subs binds)) = refl

pub bare_weights : {T : Type 0} (hs : List (MHead T)) → heads_weight (map bare_head hs) ≡ heads_weight hs
bare_weights [] = refl
bare_weights (h ∷ hs) = ap (λ n. n * heads_weight (map bare_head hs)) (bare_weight h) ∙ ap (λ n. head_weight h * n) (bare_weights hs)

pub bare_rows_weigh : {T : Type 0} (rows : List (MRow T)) → rows_weight (map bare_row rows) ≡ rows_weight rows
bare_rows_weigh [] = refl
bare_rows_weigh (r ∷ rows) = ap (λ n. n + rows_weight (map bare_row rows)) (bare_weights r.heads) ∙ ap (λ n. heads_weight r.heads + n) (bare_rows_weigh rows)

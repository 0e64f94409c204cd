-- What is selected among things to try does not look at their traces.
use Rattle.std.proofs.Common.{◌≡◌, ℕ, Bool, true, false, List, [], ◌∷◌, ◌++◌, map, refl, sym, ap, ◌∙◌}
use Rattle.match_model.specs.Ways.{Way}
use Rattle.match_model.specs.Lists.{Each}
use Rattle.match_model.specs.Select.{Try, try_of, Selected, Took, also_asked, select_one, select_from}

-- the same arm, with or without a guard, with the same names bound
pub record SameTry (t u : Try) : Type 0 where
  pub arm : t.arm ≡ u.arm
  pub guarded : t.guarded ≡ u.guarded
  pub bindings : t.way.bindings ≡ u.way.bindings

one_same : (t u : Try) → SameTry t u → (b : Bool) (answers : List Bool) (others those : List Bool → Selected) →
    ((left : List Bool) → others left ≡ those left) → select_one t b answers others ≡ select_one u b answers those
one_same t u h false answers others those same =
    ap (λ n. record { asked = []; outcome = Took n t.way.bindings }) h.arm
    ∙ ap (λ bs. record { asked = []; outcome = Took u.arm bs }) h.bindings
one_same t u h true [] others those same = refl
one_same t u h true (true ∷ answers) others those same =
    ap (λ n. record { asked = record { arm = n; bindings = t.way.bindings } ∷ []; outcome = Took n t.way.bindings })
    h.arm
    ∙ ap (λ bs. record { asked = record { arm = u.arm; bindings = bs } ∷ []; outcome = Took u.arm bs }) h.bindings
one_same t u h true (false ∷ answers) others those same =
    ap (λ n. also_asked (record { arm = n; bindings = t.way.bindings }) (others answers)) h.arm
    ∙ (ap (λ bs. also_asked (record { arm = u.arm; bindings = bs }) (others answers)) h.bindings
    ∙ ap (also_asked (record { arm = u.arm; bindings = u.way.bindings })) (same answers))

pub selected_same : (ts us : List Try) → Each SameTry ts us → (answers : List Bool) →
    select_from ts answers ≡ select_from us answers
selected_same [] [] h answers = refl
selected_same [] (u ∷ us) h answers = absurd h
selected_same (t ∷ ts) [] h answers = absurd h
selected_same (t ∷ ts) (u ∷ us) h answers =
    one_same t u h.0 t.guarded answers (select_from ts) (select_from us) (selected_same ts us h.1)
    ∙ ap (λ b. select_one u b answers (select_from us)) h.0.guarded

pub tries_both : (ts us xs ys : List Try) → Each SameTry ts us → Each SameTry xs ys → Each SameTry (ts ++ xs) (us ++ ys)
tries_both [] [] xs ys h k = k
tries_both [] (u ∷ us) xs ys h k = absurd h
tries_both (t ∷ ts) [] xs ys h k = absurd h
tries_both (t ∷ ts) (u ∷ us) xs ys h k = (h.0, tries_both ts us xs ys h.1 k)

-- ways with other traces
pub tries_renamed : (f : Way → Way) → ((w : Way) → (f w).bindings ≡ w.bindings) → (j : ℕ) (b : Bool) (ws : List Way) →
    Each SameTry (map (try_of j b) ws) (map (try_of j b) (map f ws))
tries_renamed f keeps j b [] = tt
tries_renamed f keeps j b (w ∷ ws) = (
  record { arm = refl; guarded = refl; bindings = sym (keeps w) },
  tries_renamed f keeps j b ws,
)

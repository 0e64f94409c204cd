-- Whether names are left away before a step or behind it is the same.
use Rattle.std.proofs.Common.{◌≡◌, ℕ, Bool, true, false, not, ◌&&◌, List, [], ◌∷◌, ◌++◌, map, cond, Some, None, refl, ap, sym, ◌∙◌}
use Rattle.std.proofs.lemmas.List.{map-append}
use Rattle.match_model.specs.Constructors.{MCtor, WildCtor, has_piece}
use Rattle.match_model.specs.ArenaPatterns.{de_pat, de_pats_list}
use Rattle.match_model.specs.Rows.{Head, starts_wild, wildcards, heads_of}
use Rattle.match_model.specs.Steps.{default_head, specialise_head, replacements_at, row_replaced, with_others}
use Rattle.pattern_matrix.specs.Sparse.{bare_head, bare_row}
use Rattle.pattern_matrix.specs.Counting.{WantedRow, wanted_at}
use Rattle.pattern_matrix.specs.Searching.{settled}
use Rattle.usefulness.specs.Children.{bare_wanted, bare_rows, settled_if}
use Rattle.usefulness.proofs.ChildRows.{wild_bare, bare_twice, bare_behind}

-- one row that is left over, or specialised
default_one : {T : Type 0} (x : WantedRow T) (hs : List (Head T)) → x.row.heads ≡ hs →
    bare_rows (wanted_at default_head [] 0 (bare_wanted x ∷ [])) ≡ bare_rows (wanted_at default_head [] 0 (x ∷ []))
default_one x [] e = rw e refl
default_one x (None ∷ hs) e = rw (e, bare_twice hs) refl
default_one x (Some (de_pat WildCtor t uid at subs binds) ∷ hs) e = rw (e, bare_twice hs) refl
default_one x (Some (de_pat _ t uid at subs binds) ∷ hs) e = rw e refl

pub bare_default : {T : Type 0} (xs : List (WantedRow T)) → bare_rows (wanted_at default_head [] 0 (bare_rows xs)) ≡ bare_rows (wanted_at default_head [] 0 xs)
bare_default [] = refl
bare_default {T} (x ∷ xs) =
    let step : List (WantedRow T) → List (WantedRow T) = wanted_at default_head [] 0 in
    let one : WantedRow T → List (WantedRow T) = λ y. map (λ z. record { row = row_replaced [] y.row z; wanted = y.wanted }) (replacements_at default_head 0 y.row.heads) in
    map-append bare_wanted (one (bare_wanted x)) (step (bare_rows xs))
    ∙ ap (λ ys. bare_rows (one (bare_wanted x)) ++ ys) (bare_default xs)
    ∙ ap (λ ys. ys ++ bare_rows (step xs)) (alone (one (bare_wanted x)) (one x) (default_one x x.row.heads refl))
    ∙ sym (map-append bare_wanted (one x) (step xs))
  where
    none : (ys : List (WantedRow T)) → bare_rows (ys ++ []) ≡ bare_rows ys
    none [] = refl
    none (y ∷ ys) = ap (λ zs. bare_wanted y ∷ zs) (none ys)

    alone : (ys zs : List (WantedRow T)) → bare_rows (ys ++ []) ≡ bare_rows (zs ++ []) → bare_rows ys ≡ bare_rows zs
    alone ys zs e = sym (none ys) ∙ e ∙ none zs

special_one : {T : Type 0} (piece : MCtor) (n : ℕ) (x : WantedRow T) (hs : List (Head T)) → x.row.heads ≡ hs →
    bare_rows (wanted_at (specialise_head piece n) [] 0 (bare_wanted x ∷ [])) ≡ bare_rows (wanted_at (specialise_head piece n) [] 0 (x ∷ []))
special_one piece n x [] e = rw e refl
special_one piece n x (None ∷ hs) e = rw (e, bare_behind (wildcards n) hs) refl
special_one piece n x (Some (de_pat WildCtor t uid at subs binds) ∷ hs) e = rw (e, bare_behind (wildcards n) hs) refl
special_one {T} piece n x (Some (de_pat c t uid at subs binds) ∷ hs) e = rw e (go (has_piece c piece))
  where
    go : (b : Bool) →
        bare_rows (map (λ y. record { row = row_replaced [] (bare_row x.row) y; wanted = x.wanted }) (map (with_others (map bare_head hs)) (cond b (record { heads = heads_of c (map Some (de_pats_list subs)) n; chosen = []; binds = binds } ∷ []) [])) ++ [])
        ≡ bare_rows (map (λ y. record { row = row_replaced [] x.row y; wanted = x.wanted }) (map (with_others hs) (cond b (record { heads = heads_of c (map Some (de_pats_list subs)) n; chosen = []; binds = binds } ∷ []) [])) ++ [])
    go true = rw (bare_behind (heads_of c (map Some (de_pats_list subs)) n) hs) refl
    go false = refl

pub bare_special : {T : Type 0} (piece : MCtor) (n : ℕ) (xs : List (WantedRow T)) →
    bare_rows (wanted_at (specialise_head piece n) [] 0 (bare_rows xs)) ≡ bare_rows (wanted_at (specialise_head piece n) [] 0 xs)
bare_special piece n [] = refl
bare_special {T} piece n (x ∷ xs) =
    let step : List (WantedRow T) → List (WantedRow T) = wanted_at (specialise_head piece n) [] 0 in
    let one : WantedRow T → List (WantedRow T) = λ y. map (λ z. record { row = row_replaced [] y.row z; wanted = y.wanted }) (replacements_at (specialise_head piece n) 0 y.row.heads) in
    map-append bare_wanted (one (bare_wanted x)) (step (bare_rows xs))
    ∙ ap (λ ys. bare_rows (one (bare_wanted x)) ++ ys) (bare_special piece n xs)
    ∙ ap (λ ys. ys ++ bare_rows (step xs)) (alone (one (bare_wanted x)) (one x) (special_one piece n x x.row.heads refl))
    ∙ sym (map-append bare_wanted (one x) (step xs))
  where
    none : (ys : List (WantedRow T)) → bare_rows (ys ++ []) ≡ bare_rows ys
    none [] = refl
    none (y ∷ ys) = ap (λ zs. bare_wanted y ∷ zs) (none ys)

    alone : (ys zs : List (WantedRow T)) → bare_rows (ys ++ []) ≡ bare_rows (zs ++ []) → bare_rows ys ≡ bare_rows zs
    alone ys zs e = sym (none ys) ∙ e ∙ none zs

starts_bare : {T : Type 0} (hs : List (Head T)) → starts_wild (map bare_head hs) ≡ starts_wild hs
starts_bare [] = refl
starts_bare (h ∷ hs) = wild_bare h

pub bare_settled : {T : Type 0} (missing : Bool) (xs : List (WantedRow T)) → settled_if missing (bare_rows xs) ≡ bare_rows (settled_if missing xs)
bare_settled missing [] = refl
bare_settled missing (x ∷ xs) =
    ap (λ b. record { row = bare_row x.row; wanted = x.wanted && not (missing && b) } ∷ settled_if missing (bare_rows xs)) (starts_bare x.row.heads)
    ∙ ap (λ ys. record { row = bare_row x.row; wanted = x.wanted && not (missing && starts_wild x.row.heads) } ∷ ys) (bare_settled missing xs)

pub settled_all : {T : Type 0} (xs : List (WantedRow T)) → settled_if true xs ≡ settled xs
settled_all xs = refl

wanted_true : (b : Bool) → (b && true) ≡ b
wanted_true true = refl
wanted_true false = refl

pub settled_none : {T : Type 0} (xs : List (WantedRow T)) → settled_if false xs ≡ xs
settled_none [] = refl
settled_none (x ∷ xs) = ap (λ b. record { row = x.row; wanted = b } ∷ settled_if false xs) (wanted_true x.wanted) ∙ ap (λ ys. x ∷ ys) (settled_none xs)

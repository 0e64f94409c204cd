-- Reading a list item by item, as a loop does.
use Rattle.std.proofs.Common.{◌≡◌, ℕ, zero, suc, ◌<◌, Bool, true, false, cond, List, [], ◌∷◌, ◌++◌, length, Option, Some, None, refl, sym, ap, ◌∙◌, append_assoc, arith}
use Rattle.std.specs.Prelude.{option_map}
use Rattle.std.proofs.lemmas.List.{append-nil}
use Rattle.decl_lexer.specs.declared.marks.Mark.{Mark}
use Rattle.decl_lexer.specs.declared.marks.Mark.TheVariants as marks
use Rattle.decl_lexer.specs.Begins.{Lexeme}
use Rattle.decl_lexer.specs.Lexing.{Placed}
use Rattle.decl_syntax.specs.declared.stop.Stop.{Stop}
use Rattle.decl_syntax.specs.declared.stop.Stop.TheVariants as stops
use Rattle.decl_syntax.specs.Units.{behind, is_mark}
use Rattle.decl_syntax.specs.Reading.{◌>>=◌, either, Read, Fails, list_step, comma_list, list_at, part_step, part_list, parts_at, many_step, many_list, many_at}

-- what was read before, and what is still read
abbrev pub with_front : {A : Type 0} → List A → Read (List A) → Read (List A)
with_front front read = option_map (λ x. (front ++ x.0, x.1)) read

pub regroup : {A : Type 0} (front : List A) (x : A) (read : Read (List A)) → with_front front (read >>= λ xs. Some (x ∷ xs.0, xs.1)) ≡ with_front (front ++ x ∷ []) read
regroup front x None = refl
regroup front x (Some xs) = ap (λ ys. Some (ys, xs.1)) (sym (append_assoc front (x ∷ []) xs.0))

-- what a reading leaves is shorter
abbrev pub Shrinks : {A : Type 0} → (List Placed → Read A) → Type 0
Shrinks {A} read = (ts rest : List Placed) (x : A) → read ts ≡ Some (x, rest) → length rest < length ts

pub behind_shrinks : (p : Lexeme → Bool) (ts us : List Placed) → behind p ts ≡ Some us → length us < length ts
behind_shrinks p [] us e = absurd cc
behind_shrinks p (t ∷ ts) us e = by_case (p t.lexeme) e
  where
    by_case : (b : Bool) → cond b (Some ts) None ≡ Some us → length us < suc (length ts)
    by_case true e = let same : ts ≡ us = cc in rw same (omega arith)
    by_case false e = absurd cc

pub bind_same : {A B : Type 0} (r : Option A) (f g : A → Option B) → ((x : A) → r ≡ Some x → f x ≡ g x) → (r >>= f) ≡ (r >>= g)
bind_same None f g h = refl
bind_same (Some x) f g h = h x refl

pub either_same : {A B : Type 0} (r : Option A) (f g : A → Option B) (s t : Option B) → ((x : A) → r ≡ Some x → f x ≡ g x) → s ≡ t → either r f s ≡ either r g t
either_same None f g s t h e = e
either_same (Some x) f g s t h e = h x refl

module _ {A : Type 0} (mark : Mark) (read : List Placed → Read A) (h : Shrinks read) where
  step_same : (f g : List Placed → Read (List A)) (ts : List Placed) → ((us : List Placed) → length us < length ts → f us ≡ g us) → list_step mark read f ts ≡ list_step mark read g ts
  step_same f g ts same =
      ap (either (behind (is_mark mark) ts) (λ rest. Some ([], rest)))
      (bind_same (read ts) _ _ (λ x e.
      ap (either (behind (is_mark mark) x.1) (λ rest. Some (x.0 ∷ [], rest)))
      (bind_same (behind (is_mark marks.Comma) x.1) _ _ (λ us b.
      ap (λ o. o >>= λ xs. Some (x.0 ∷ xs.0, xs.1)) (same us (omega (arith, h ts x.1 x.0 e, behind_shrinks (is_mark marks.Comma) x.1 us b)))))))

  part_same : (f g : List Placed → Read (List A)) (ts : List Placed) → ((us : List Placed) → length us < length ts → f us ≡ g us) → part_step mark read f ts ≡ part_step mark read g ts
  part_same f g ts same =
      bind_same (read ts) _ _ (λ x e.
      either_same (behind (is_mark mark) x.1) _ _ _ _ (λ us b.
      ap (λ o. o >>= λ xs. Some (x.0 ∷ xs.0, xs.1)) (same us (omega (arith, h ts x.1 x.0 e, behind_shrinks (is_mark mark) x.1 us b)))) refl)

  list_enough : (n m : ℕ) (ts : List Placed) → length ts < n → length ts < m → comma_list mark read n ts ≡ comma_list mark read m ts
  list_enough zero m ts l k = absurd (omega arith)
  list_enough (suc n) zero ts l k = absurd (omega arith)
  list_enough (suc n) (suc m) ts l k = step_same _ _ ts (λ us s. list_enough n m us (omega arith) (omega arith))

  part_enough : (n m : ℕ) (ts : List Placed) → length ts < n → length ts < m → part_list mark read n ts ≡ part_list mark read m ts
  part_enough zero m ts l k = absurd (omega arith)
  part_enough (suc n) zero ts l k = absurd (omega arith)
  part_enough (suc n) (suc m) ts l k = part_same _ _ ts (λ us s. part_enough n m us (omega arith) (omega arith))

  -- one step of a list
  pub list_unfolds : (ts : List Placed) → list_at mark read ts ≡ list_step mark read (list_at mark read) ts
  unfolding list_at
  list_unfolds ts = step_same _ _ ts (λ us s. list_enough (length ts) (suc (length us)) us s (omega arith))

  pub parts_unfold : (ts : List Placed) → parts_at mark read ts ≡ part_step mark read (parts_at mark read) ts
  unfolding parts_at
  parts_unfold ts = part_same _ _ ts (λ us s. part_enough (length ts) (suc (length us)) us s (omega arith))

module _ {A : Type 0} (mark : Mark) (read : List Placed → Read A) (h : Shrinks read) where
  many_same : (f g : List Placed → Read (List A)) (ts : List Placed) → ((us : List Placed) → length us < length ts → f us ≡ g us) → many_step mark read f ts ≡ many_step mark read g ts
  many_same f g ts same =
      either_same (behind (is_mark mark) ts) _ _ _ _ (λ vs b.
      bind_same (read ts) _ _ (λ x e. ap (λ o. o >>= λ xs. Some (x.0 ∷ xs.0, xs.1)) (same x.1 (h ts x.1 x.0 e)))) refl

  many_enough : (n m : ℕ) (ts : List Placed) → length ts < n → length ts < m → many_list mark read n ts ≡ many_list mark read m ts
  many_enough zero m ts l k = absurd (omega arith)
  many_enough (suc n) zero ts l k = absurd (omega arith)
  many_enough (suc n) (suc m) ts l k = many_same _ _ ts (λ us s. many_enough n m us (omega arith) (omega arith))

  pub many_unfolds : (ts : List Placed) → many_at mark read ts ≡ many_step mark read (many_at mark read) ts
  unfolding many_at
  many_unfolds ts = many_same _ _ ts (λ us s. many_enough (length ts) (suc (length us)) us s (omega arith))

module _ {A : Type 0} (mark : Mark) (read : List Placed → Read A) (h : Shrinks read) (front : List A) (ts : List Placed) (total : Read (List A))
    (so_far : with_front front (many_at mark read ts) ≡ total) where
  many_read : with_front front (many_step mark read (many_at mark read) ts) ≡ total
  many_read = sym (ap (with_front front) (many_unfolds mark read h ts)) ∙ so_far

  pub many_end : None ≡ behind (is_mark mark) ts → total ≡ Some (front, ts)
  many_end b = sym many_read ∙ rw (← b) (ap (λ (xs : List A). Some (xs, ts)) (append-nil front))

  pub many_stuck : (e : Stop) (us : List Placed) → Some us ≡ behind (is_mark mark) ts → Fails e (read ts) → Fails e total
  many_stuck stops.Memory us b f = tt
  many_stuck stops.Syntax us b f = sym many_read ∙ rw (← b, f) refl

  pub many_go_on : (x : A) (us vs : List Placed) → Some us ≡ behind (is_mark mark) ts → read ts ≡ Some (x, vs) → with_front (front ++ x ∷ []) (many_at mark read vs) ≡ total
  many_go_on x us vs b r = sym (sym many_read ∙ rw (← b, r) (regroup front x (many_at mark read vs)))

module _ {A : Type 0} (close : Mark) (read : List Placed → Read A) (h : Shrinks read) (front : List A) (ts : List Placed) (total : Read (List A))
    (so_far : with_front front (list_at close read ts) ≡ total) where
  now_read : with_front front (list_step close read (list_at close read) ts) ≡ total
  now_read = sym (ap (with_front front) (list_unfolds close read h ts)) ∙ so_far

  pub list_closed : (rest : List Placed) → Some rest ≡ behind (is_mark close) ts → total ≡ Some (front, rest)
  list_closed rest b = sym now_read ∙ rw (← b) (ap (λ (xs : List A). Some (xs, rest)) (append-nil front))

  pub list_stuck : (e : Stop) → None ≡ behind (is_mark close) ts → Fails e (read ts) → Fails e total
  list_stuck stops.Memory b f = tt
  list_stuck stops.Syntax b f = sym now_read ∙ rw (← b, f) refl

  pub list_last : (x : A) (us rest : List Placed) → None ≡ behind (is_mark close) ts → read ts ≡ Some (x, us) → Some rest ≡ behind (is_mark close) us → total ≡ Some (front ++ x ∷ [], rest)
  list_last x us rest b r c = sym now_read ∙ rw (← b, r, ← c) refl

  pub list_torn : (x : A) (us : List Placed) → None ≡ behind (is_mark close) ts → read ts ≡ Some (x, us) → None ≡ behind (is_mark close) us → None ≡ behind (is_mark marks.Comma) us → total ≡ None
  list_torn x us b r c d = sym now_read ∙ rw (← b, r, ← c, ← d) refl

  pub list_goes_on : (x : A) (us vs : List Placed) → None ≡ behind (is_mark close) ts → read ts ≡ Some (x, us) → None ≡ behind (is_mark close) us → Some vs ≡ behind (is_mark marks.Comma) us
      → with_front (front ++ x ∷ []) (list_at close read vs) ≡ total
  list_goes_on x us vs b r c d = sym (sym now_read ∙ rw (← b, r, ← c, ← d) (regroup front x (list_at close read vs)))

  pub list_smaller : (x : A) (us vs : List Placed) → read ts ≡ Some (x, us) → Some vs ≡ behind (is_mark marks.Comma) us → length vs < length ts
  list_smaller x us vs r d = omega (arith, h ts us x r, behind_shrinks (is_mark marks.Comma) us vs (sym d))

module _ {A : Type 0} (mark : Mark) (read : List Placed → Read A) (h : Shrinks read) (front : List A) (ts : List Placed) (total : Read (List A))
    (so_far : with_front front (parts_at mark read ts) ≡ total) where
  part_read : with_front front (part_step mark read (parts_at mark read) ts) ≡ total
  part_read = sym (ap (with_front front) (parts_unfold mark read h ts)) ∙ so_far

  pub parts_stuck : (e : Stop) → Fails e (read ts) → Fails e total
  parts_stuck stops.Memory f = tt
  parts_stuck stops.Syntax f = sym part_read ∙ rw f refl

  pub parts_end : (x : A) (us : List Placed) → read ts ≡ Some (x, us) → None ≡ behind (is_mark mark) us → total ≡ Some (front ++ x ∷ [], us)
  parts_end x us r c = sym part_read ∙ rw (r, ← c) refl

  pub parts_go_on : (x : A) (us vs : List Placed) → read ts ≡ Some (x, us) → Some vs ≡ behind (is_mark mark) us → with_front (front ++ x ∷ []) (parts_at mark read vs) ≡ total
  parts_go_on x us vs r c = sym (sym part_read ∙ rw (r, ← c) (regroup front x (parts_at mark read vs)))

  pub parts_smaller : (x : A) (us vs : List Placed) → read ts ≡ Some (x, us) → Some vs ≡ behind (is_mark mark) us → length vs < length ts
  parts_smaller x us vs r c = omega (arith, h ts us x r, behind_shrinks (is_mark mark) us vs (sym c))

-- with nothing in front
pub no_front : {A : Type 0} (read : Read (List A)) → with_front [] read ≡ read
no_front None = refl
no_front (Some x) = refl

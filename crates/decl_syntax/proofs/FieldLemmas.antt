-- Reading fields one by one, as a loop does.
use Rattle.std.proofs.Common.{◌≡◌, ℕ, zero, suc, ◌<◌, Bool, true, false, List, [], ◌∷◌, ◌++◌, length, Some, None, refl, sym, ap, ◌∙◌, append_assoc, arith}
use Rattle.std.specs.Prelude.{option_map}
use Rattle.std.proofs.lemmas.List.{append-nil}
use Rattle.decl_lexer.specs.declared.marks.Mark.TheVariants as marks
use Rattle.decl_lexer.specs.Lexing.{Placed}
use Rattle.decl_syntax.specs.declared.stop.Stop.{Stop}
use Rattle.decl_syntax.specs.declared.stop.Stop.TheVariants as stops
use Rattle.decl_syntax.specs.Units.{behind, is_mark}
use Rattle.decl_syntax.specs.Patterns.{Shape, FieldTree}
use Rattle.decl_syntax.specs.Reading.{◌>>=◌, either, Read, Fails}
use Rattle.decl_syntax.specs.PatternReading.{field_at, fields_step, field_list, fields_at}
use Rattle.decl_syntax.proofs.ListLemmas.{Shrinks, behind_shrinks, bind_same}

-- what was read before, and what is still read
abbrev pub with_fields : List FieldTree → Read (List FieldTree × Bool) → Read (List FieldTree × Bool)
with_fields front read = option_map (λ x. ((front ++ x.0.0, x.0.1), x.1)) read

pub regroup_fields : (front : List FieldTree) (x : FieldTree) (read : Read (List FieldTree × Bool)) → with_fields front (read >>= λ xs. Some ((x ∷ xs.0.0, xs.0.1), xs.1)) ≡ with_fields (front ++ x ∷ []) read
regroup_fields front x None = refl
regroup_fields front x (Some xs) = ap (λ ys. Some ((ys, xs.0.1), xs.1)) (sym (append_assoc front (x ∷ []) xs.0.0))

module _ (read : List Placed → Read FieldTree) (h : Shrinks read) where
  fields_same : (f g : List Placed → Read (List FieldTree × Bool)) (ts : List Placed) → ((us : List Placed) → length us < length ts → f us ≡ g us) → fields_step read f ts ≡ fields_step read g ts
  fields_same f g ts same =
      ap (λ o. either (behind (is_mark marks.CloseCurly) ts) (λ rest. Some (([], false), rest)) (either (behind (is_mark marks.TwoDots) ts) (λ us. behind (is_mark marks.CloseCurly) us >>= λ rest. Some (([], true), rest)) o))
      (bind_same (read ts) _ _ (λ x e.
      ap (either (behind (is_mark marks.CloseCurly) x.1) (λ rest. Some ((x.0 ∷ [], false), rest)))
      (bind_same (behind (is_mark marks.Comma) x.1) _ _ (λ us b.
      ap (λ o. o >>= λ xs. Some ((x.0 ∷ xs.0.0, xs.0.1), xs.1)) (same us (omega (arith, h ts x.1 x.0 e, behind_shrinks (is_mark marks.Comma) x.1 us b)))))))

  fields_enough : (n m : ℕ) (ts : List Placed) → length ts < n → length ts < m → field_list read n ts ≡ field_list read m ts
  fields_enough zero m ts l k = absurd (omega arith)
  fields_enough (suc n) zero ts l k = absurd (omega arith)
  fields_enough (suc n) (suc m) ts l k = fields_same _ _ ts (λ us s. fields_enough n m us (omega arith) (omega arith))

  pub list_steps : (ts : List Placed) → field_list read (suc (length ts)) ts ≡ fields_step read (λ us. field_list read (suc (length us)) us) ts
  list_steps ts = fields_same _ _ ts (λ us s. fields_enough (length ts) (suc (length us)) us s (omega arith))

module _ (plain : List Placed → Read Shape) (h : Shrinks (field_at plain)) where
  pub fields_unfold : (ts : List Placed) → fields_at plain ts ≡ fields_step (field_at plain) (fields_at plain) ts
  unfolding fields_at
  fields_unfold ts = list_steps (field_at plain) h ts

module _ (plain : List Placed → Read Shape) (h : Shrinks (field_at plain)) (front : List FieldTree) (ts : List Placed) (total : Read (List FieldTree × Bool))
    (so_far : with_fields front (fields_at plain ts) ≡ total) where
  fields_read : with_fields front (fields_step (field_at plain) (fields_at plain) ts) ≡ total
  fields_read = sym (ap (with_fields front) (fields_unfold plain h ts)) ∙ so_far

  pub fields_closed : (rest : List Placed) → Some rest ≡ behind (is_mark marks.CloseCurly) ts → total ≡ Some ((front, false), rest)
  fields_closed rest b = sym fields_read ∙ rw (← b) (ap (λ (xs : List FieldTree). Some ((xs, false), rest)) (append-nil front))

  pub fields_dotted : (us rest : List Placed) → None ≡ behind (is_mark marks.CloseCurly) ts → Some us ≡ behind (is_mark marks.TwoDots) ts → Some rest ≡ behind (is_mark marks.CloseCurly) us → total ≡ Some ((front, true), rest)
  fields_dotted us rest b d c = sym fields_read ∙ rw (← b, ← d, ← c) (ap (λ (xs : List FieldTree). Some ((xs, true), rest)) (append-nil front))

  pub fields_cut : (us : List Placed) → None ≡ behind (is_mark marks.CloseCurly) ts → Some us ≡ behind (is_mark marks.TwoDots) ts → None ≡ behind (is_mark marks.CloseCurly) us → total ≡ None
  fields_cut us b d c = sym fields_read ∙ rw (← b, ← d, ← c) refl

  pub fields_stuck : (e : Stop) → None ≡ behind (is_mark marks.CloseCurly) ts → None ≡ behind (is_mark marks.TwoDots) ts → Fails e (field_at plain ts) → Fails e total
  fields_stuck stops.Memory b d f = tt
  fields_stuck stops.Syntax b d f = sym fields_read ∙ rw (← b, ← d, f) refl

  pub fields_last : (x : FieldTree) (us rest : List Placed) → None ≡ behind (is_mark marks.CloseCurly) ts → None ≡ behind (is_mark marks.TwoDots) ts → field_at plain ts ≡ Some (x, us) → Some rest ≡ behind (is_mark marks.CloseCurly) us
      → total ≡ Some ((front ++ x ∷ [], false), rest)
  fields_last x us rest b d r c = sym fields_read ∙ rw (← b, ← d, r, ← c) refl

  pub fields_torn : (x : FieldTree) (us : List Placed) → None ≡ behind (is_mark marks.CloseCurly) ts → None ≡ behind (is_mark marks.TwoDots) ts → field_at plain ts ≡ Some (x, us) → None ≡ behind (is_mark marks.CloseCurly) us
      → None ≡ behind (is_mark marks.Comma) us → total ≡ None
  fields_torn x us b d r c m = sym fields_read ∙ rw (← b, ← d, r, ← c, ← m) refl

  pub fields_go_on : (x : FieldTree) (us vs : List Placed) → None ≡ behind (is_mark marks.CloseCurly) ts → None ≡ behind (is_mark marks.TwoDots) ts → field_at plain ts ≡ Some (x, us) → None ≡ behind (is_mark marks.CloseCurly) us
      → Some vs ≡ behind (is_mark marks.Comma) us → with_fields (front ++ x ∷ []) (fields_at plain vs) ≡ total
  fields_go_on x us vs b d r c m = sym (sym fields_read ∙ rw (← b, ← d, r, ← c, ← m) (regroup_fields front x (fields_at plain vs)))

  pub fields_smaller : (x : FieldTree) (us vs : List Placed) → field_at plain ts ≡ Some (x, us) → Some vs ≡ behind (is_mark marks.Comma) us → length vs < length ts
  fields_smaller x us vs r m = omega (arith, h ts us x r, behind_shrinks (is_mark marks.Comma) us vs (sym m))

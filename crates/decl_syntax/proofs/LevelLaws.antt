-- A pattern that has at most 64 levels is spelled with at most so many forms around each other.
use Rattle.std.proofs.Common.{◌≡◌, ℕ, zero, suc, Bool, true, List, [], ◌∷◌, refl}
use Rattle.std.proofs.lemmas.Bool.{and_parts, and_from}
use Rattle.decl_lexer.specs.declared.marks.Mark.{Mark}
use Rattle.decl_lexer.specs.declared.marks.Mark.TheVariants as marks
use Rattle.decl_lexer.specs.Lexing.{Placed}
use Rattle.decl_syntax.specs.Units.{from_of}
use Rattle.decl_syntax.specs.Patterns.{PatternTree, At, Shape, BindAs, TupleForm, Brace, Tuple, Group, Slice, Point, Or, PatternTrees, none, more, FieldTrees, no_field, and_field, FieldTree, patterns_from, fields_from, fits, fits_within, all_fit, fields_fit}
use Rattle.decl_syntax.specs.Grammar.{Spelling, CommaList, closed, last, next, Separated, only, further}
use Rattle.decl_syntax.specs.PatternGrammar.{AltForm, a_range, a_plain, PatternForm, one, several, ItemForm, a_rest, a_pattern, SliceItemForm, a_bound_rest, an_item, PlainForm, wild, literal, negative, bound_as, bound, path, tuple_form, FieldForm, labelled, shorthand, FieldList, all_closed, all_dotted, last_field, next_field, brace_form, unit, only_rest, group, tuple, slice, point, SpellsPlain, LevelsSuffice}

-- what has at most so many levels has at most one more
mutual
  fits_more : (p : PatternTree) (n : ℕ) → fits p n ≡ true → fits p (suc n) ≡ true
  fits_more (At from shape) zero e = absurd cc
  fits_more (At from shape) (suc n) e = within_more shape n e

  within_more : (shape : Shape) (n : ℕ) → fits_within shape n ≡ true → fits_within shape (suc n) ≡ true
  within_more (BindAs name by_ref mutable p) n e = fits_more p n e
  within_more (TupleForm names ps) n e = all_more ps n e
  within_more (Brace names fs rest) n e = fields_more fs n e
  within_more (Tuple ps) n e = all_more ps n e
  within_more (Group p) n e = fits_more p n e
  within_more (Slice ps) n e = all_more ps n e
  within_more (Point mutable p) n e = fits_more p n e
  within_more (Or ps) n e = all_more ps n e
  within_more _ n e = refl

  all_more : (ps : PatternTrees) (n : ℕ) → all_fit ps n ≡ true → all_fit ps (suc n) ≡ true
  all_more none n e = refl
  all_more (more p ps) n e = let b = and_parts (fits p n) (all_fit ps n) e in and_from (fits p (suc n)) (all_fit ps (suc n)) (fits_more p n b.0) (all_more ps n b.1)

  fields_more : (fs : FieldTrees) (n : ℕ) → fields_fit fs n ≡ true → fields_fit fs (suc n) ≡ true
  fields_more no_field n e = refl
  fields_more (and_field name short attrs p fs) n e = let b = and_parts (fits p n) (fields_fit fs n) e in and_from (fits p (suc n)) (fields_fit fs (suc n)) (fits_more p n b.0) (fields_more fs n b.1)

or_fits : (from : ℕ) (ps : PatternTrees) (n : ℕ) → fits (At from (Or ps)) n ≡ true → all_fit ps n ≡ true
or_fits from ps zero e = absurd cc
or_fits from ps (suc n) e = all_more ps n e

module _ (m : ℕ) (close : Mark) (I J : Spelling PatternTree) (up : (ts rest : List Placed) (p : PatternTree) → I ts p rest → fits p m ≡ true → J ts p rest) where
  list_up : (ts rest : List Placed) (ps : List PatternTree) → CommaList close I ts ps rest → all_fit (patterns_from ps) m ≡ true → CommaList close J ts ps rest
  list_up _ _ _ (closed t rest e) f = closed t rest e
  list_up _ _ _ (last ts rest x t item e) f = last ts rest x t (up ts (t ∷ rest) x item (and_parts (fits x m) true f).0) e
  list_up _ _ _ (next ts us rest x xs t item e others) f =
      let b = and_parts (fits x m) (all_fit (patterns_from xs) m) f in next ts us rest x xs t (up ts (t ∷ us) x item b.0) e (list_up us rest xs others b.1)

module _ (Q R : Spelling Shape) (m : ℕ) (up : (us rest : List Placed) (y : Shape) (from : ℕ) → Q us y rest → fits (At from y) m ≡ true → R us y rest) where
  alt_up : (ts rest : List Placed) (p : PatternTree) → AltForm Q ts p rest → fits p m ≡ true → AltForm R ts p rest
  alt_up _ _ _ (a_range ts rest shape s) f = a_range ts rest shape s
  alt_up _ _ _ (a_plain ts rest shape free s) f = a_plain ts rest shape free (up ts rest shape (from_of ts) s f)

  alts_up : (ts rest : List Placed) (ps : List PatternTree) → Separated marks.Bar (AltForm Q) ts ps rest → all_fit (patterns_from ps) m ≡ true → Separated marks.Bar (AltForm R) ts ps rest
  alts_up _ _ _ (only ts rest x item e) f = only ts rest x (alt_up ts rest x item (and_parts (fits x m) true f).0) e
  alts_up _ _ _ (further ts us rest x xs t item e others) f =
      let b = and_parts (fits x m) (all_fit (patterns_from xs) m) f in further ts us rest x xs t (alt_up ts (t ∷ us) x item b.0) e (alts_up us rest xs others b.1)

  pub whole_up : (ts rest : List Placed) (p : PatternTree) → PatternForm Q ts p rest → fits p m ≡ true → PatternForm R ts p rest
  whole_up _ _ _ (one ts us rest bar p b s) f = one ts us rest bar p b (alts_up us rest (p ∷ []) s (and_from (fits p m) true f refl))
  whole_up _ _ _ (several ts us rest bar p q ps b s) f = several ts us rest bar p q ps b (alts_up us rest (p ∷ q ∷ ps) s (or_fits (from_of us) (more p (more q (patterns_from ps))) m f))

  item_up : (ts rest : List Placed) (p : PatternTree) → ItemForm Q ts p rest → fits p m ≡ true → ItemForm R ts p rest
  item_up _ _ _ (a_rest dots rest e n) f = a_rest dots rest e n
  item_up _ _ _ (a_pattern ts rest p s) f = a_pattern ts rest p (whole_up ts rest p s f)

  slice_up : (ts rest : List Placed) (p : PatternTree) → SliceItemForm Q ts p rest → fits p m ≡ true → SliceItemForm R ts p rest
  slice_up _ _ _ (a_bound_rest ts rest p s) f = a_bound_rest ts rest p s
  slice_up _ _ _ (an_item ts rest p free s) f = an_item ts rest p free (item_up ts rest p s f)

  field_up : (ts rest : List Placed) (x : FieldTree) → FieldForm Q ts x rest → fits x.pattern m ≡ true → FieldForm R ts x rest
  field_up _ _ _ (labelled ts us vs rest attrs name p a l s) f = labelled ts us vs rest attrs name p a l (whole_up vs rest p s f)
  field_up _ _ _ (shorthand ts us rest attrs b a free s) f = shorthand ts us rest attrs b a free s

  fields_up : (ts rest : List Placed) (fs : List FieldTree × Bool) → FieldList Q ts fs rest → fields_fit (fields_from fs.0) m ≡ true → FieldList R ts fs rest
  fields_up _ _ _ (all_closed t rest e) f = all_closed t rest e
  fields_up _ _ _ (all_dotted dots t rest d e) f = all_dotted dots t rest d e
  fields_up _ _ _ (last_field ts rest x t item e) f = last_field ts rest x t (field_up ts (t ∷ rest) x item (and_parts (fits x.pattern m) true f).0) e
  fields_up _ _ _ (next_field ts us rest x xs dotted t item e others) f =
      let b = and_parts (fits x.pattern m) (fields_fit (fields_from xs) m) f in next_field ts us rest x xs dotted t (field_up ts (t ∷ us) x item b.0) e (fields_up us rest (xs, dotted) others b.1)

  form_up : (ts rest : List Placed) (x : Shape) → PlainForm Q ts x rest → fits_within x m ≡ true → PlainForm R ts x rest
  form_up _ _ _ (wild t rest e) f = wild t rest e
  form_up _ _ _ (literal t rest x e) f = literal t rest x e
  form_up _ _ _ (negative minus t rest x e n) f = negative minus t rest x e n
  form_up _ _ _ (bound_as ts us rest at b p s e a) f = bound_as ts us rest at b p s e (alt_up us rest p a f)
  form_up _ _ _ (bound ts rest b s e n) f = bound ts rest b s e n
  form_up _ _ _ (path ts rest xs s a b c) f = path ts rest xs s a b c
  form_up _ _ _ (tuple_form ts us rest xs opening ps s e list) f = tuple_form ts us rest xs opening ps s e (list_up m marks.CloseRound (ItemForm Q) (ItemForm R) item_up us rest ps list f)
  form_up _ _ _ (brace_form ts us rest xs opening fs dotted s e list) f = brace_form ts us rest xs opening fs dotted s e (fields_up us rest (fs, dotted) list f)
  form_up _ _ _ (unit opening end rest e g) f = unit opening end rest e g
  form_up _ _ _ (only_rest opening dots end rest e d g) f = only_rest opening dots end rest e d g
  form_up _ _ _ (group opening end ts rest p e s g) f = group opening end ts rest p e (whole_up ts (end ∷ rest) p s f) g
  form_up _ _ _ (tuple opening comma ts us rest first others e s g list) f =
      let b = and_parts (fits first m) (all_fit (patterns_from others) m) f in
      tuple opening comma ts us rest first others e (item_up ts (comma ∷ us) first s b.0) g (list_up m marks.CloseRound (ItemForm Q) (ItemForm R) item_up us rest others list b.1)
  form_up _ _ _ (slice opening ts rest ps e list) f = slice opening ts rest ps e (list_up m marks.CloseSquare (SliceItemForm Q) (SliceItemForm R) slice_up ts rest ps list f)
  form_up _ _ _ (point and_ ts us rest mutable inner e n s) f = point and_ ts us rest mutable inner e n (up us rest inner (from_of us) s f)

-- what one number of forms spells, with fewer levels, so many forms spell
abbrev Up : ℕ → Type 0
Up n = (m : ℕ) (ts rest : List Placed) (x : Shape) → SpellsPlain n ts x rest → fits_within x m ≡ true → SpellsPlain (suc m) ts x rest

inner_up : (n : ℕ) → Up n → (m : ℕ) (ts rest : List Placed) (x : Shape) (from : ℕ) → SpellsPlain n ts x rest → fits (At from x) m ≡ true → SpellsPlain m ts x rest
inner_up n up zero ts rest x from s f = absurd cc
inner_up n up (suc m) ts rest x from s f = up m ts rest x s f

plain_up : (n : ℕ) → Up n
unfolding SpellsPlain
plain_up zero m ts rest x s f = absurd s
plain_up (suc n) m ts rest x s f = form_up (SpellsPlain n) (SpellsPlain m) m (λ us vs y from q g. inner_up n (plain_up n) m us vs y from q g) ts rest x s f

pub levels_suffice : LevelsSuffice
levels_suffice n ts rest p s f = whole_up (SpellsPlain n) (SpellsPlain 64) 64 (λ us vs y from q g. inner_up n (plain_up n) 64 us vs y from q g) ts rest p s f

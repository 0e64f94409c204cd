use Rattle.std.proofs.Common.{◌≡◌, ℕ, List, [], ◌∷◌, ◌++◌, Option, Some, None, refl, map, sym, ap, ◌∙◌, arith}
use Rattle.std.proofs.lemmas.Result.{err_from_is_err_and}
use Rattle.std.proofs.lemmas.List.{map_push}
use Rattle.decl_lexer.specs.declared.marks.Mark.TheVariants as marks
use Rattle.decl_lexer.specs.Lexing.{Placed}
use Rattle.decl_syntax.specs.declared.stop.Stop.{Stop}
use Rattle.decl_syntax.specs.declared.stop.Stop.TheVariants as stops
use Rattle.decl_syntax.specs.Units.{left, flag_at, is_mark, behind, from_of}
use Rattle.decl_syntax.specs.Patterns.{PatternTree, Shape, pattern_view, field_view}
use Rattle.decl_syntax.specs.Reading.{◌>>=◌, Read, Fails, list_at, parts_at}
use Rattle.decl_syntax.specs.PatternReading.{plain_at, alt_at, or_of, whole_at, element_at, closing, items_at, fields_at}
use Rattle.decl_syntax.proofs.ListLemmas.{Shrinks, with_front, no_front, list_closed, list_stuck, list_last, list_torn, list_goes_on, list_smaller, parts_stuck, parts_end, parts_go_on, parts_smaller}
use Rattle.decl_syntax.proofs.PatternLaws.{alts_shrink, elements_shrink, fields_shrink_at, plain_step}
use Rattle.decl_syntax.proofs.FieldLemmas.{fields_closed, fields_cut, fields_dotted, fields_stuck, fields_last, fields_torn, fields_smaller, fields_go_on}
use Rattle.decl_syntax.proofs.pattern.+patterns.Goals as goal

-- a pattern, where this is read behind a `|` that may stand first
module _ (plain : List Placed → Read Shape) (h : Shrinks (alt_at plain)) (ts us : List Placed) (bar : us ≡ (flag_at (is_mark marks.Bar) ts).1) where
  whole_stuck : (e : Stop) → Fails e (alt_at plain us) → Fails e (whole_at plain ts)
  whole_stuck stops.Memory f = tt
  whole_stuck stops.Syntax f =
      let none : parts_at marks.Bar (alt_at plain) us ≡ None = parts_stuck marks.Bar (alt_at plain) h [] us (parts_at marks.Bar (alt_at plain) us) (no_front _) stops.Syntax f in
      rw (← bar, none) refl

  module _ (x : PatternTree) (vs : List Placed) (r : alt_at plain us ≡ Some (x, vs)) where
    one_alone : None ≡ behind (is_mark marks.Bar) vs → whole_at plain ts ≡ Some (x, vs)
    one_alone b =
        let one : parts_at marks.Bar (alt_at plain) us ≡ Some (x ∷ [], vs) = parts_end marks.Bar (alt_at plain) h [] us (parts_at marks.Bar (alt_at plain) us) (no_front _) x vs r b in
        rw (← bar, one) refl

    module _ (ws : List Placed) (b : Some ws ≡ behind (is_mark marks.Bar) vs) (front : List PatternTree) (q : front ≡ x ∷ []) where
      several : with_front front (parts_at marks.Bar (alt_at plain) ws) ≡ parts_at marks.Bar (alt_at plain) us
      several =
          ap (λ (f : List PatternTree). with_front f (parts_at marks.Bar (alt_at plain) ws)) q
          ∙ parts_go_on marks.Bar (alt_at plain) h [] us (parts_at marks.Bar (alt_at plain) us) (no_front _) x vs ws r b

      others_stuck : (e : Stop) → Fails e (with_front front (parts_at marks.Bar (alt_at plain) ws)) → Fails e (whole_at plain ts)
      others_stuck stops.Memory f = tt
      others_stuck stops.Syntax f =
          let none : parts_at marks.Bar (alt_at plain) us ≡ None = sym several ∙ f in
          rw (← bar, none) refl

      all_read : (all : List PatternTree) (rest : List Placed) (o : Option PatternTree) → with_front front (parts_at marks.Bar (alt_at plain) ws) ≡ Some (all, rest) → or_of (from_of us) all ≡ o
          → whole_at plain ts ≡ (o >>= λ p. Some (p, rest))
      all_read all rest o f k =
          let found : parts_at marks.Bar (alt_at plain) us ≡ Some (all, rest) = sym several ∙ f in
          rw (← bar, found, k) refl

pub items_at-returns-in-Some : goal.items_at-returns-in-Some
unfolding items_at
items_at-returns-in-Some t c = list_closed (closing c.args.slice) (element_at c.args.slice (plain_at c.args.levels)) (elements_shrink c.args.slice c.args.levels) (map pattern_view c.parts.parts.items) (left c.parts.rest) (list_at (closing c.args.slice) (element_at c.args.slice (plain_at c.args.levels)) (left c.args.at)) c.parts.invariant _ (rw c.closing-close.ensures at c.in-Some.ensures)

pub items_at-returns-in_err-part : goal.items_at-returns-in_err-part
unfolding items_at
items_at-returns-in_err-part t c =
    let p = err_from_is_err_and c.from_residual.result c.from_residual.ensures.1 in
    rw (p.1, p.2) (list_stuck (closing c.args.slice) (element_at c.args.slice (plain_at c.args.levels)) (elements_shrink c.args.slice c.args.levels) (map pattern_view c.parts.parts.items) (left c.parts.rest) (list_at (closing c.args.slice) (element_at c.args.slice (plain_at c.args.levels)) (left c.args.at)) c.parts.invariant c.in_err-part.field-0.0 (rw c.closing-close.ensures at c.in_default.ensures) c.in_err-part.ensures)

pub items_at-returns-in-Some-behind : goal.items_at-returns-in-Some-behind
unfolding items_at
items_at-returns-in-Some-behind t c =
    rw (ap (map pattern_view) c.in_ok-push.ensures.items ∙ map_push pattern_view c.parts.parts.items c.in_ok-part.part) (list_last (closing c.args.slice) (element_at c.args.slice (plain_at c.args.levels)) (elements_shrink c.args.slice c.args.levels) (map pattern_view c.parts.parts.items) (left c.parts.rest) (list_at (closing c.args.slice) (element_at c.args.slice (plain_at c.args.levels)) (left c.args.at)) c.parts.invariant _ _ _ (rw c.closing-close.ensures at c.in_default.ensures) c.in_ok-part.ensures (rw c.closing-close.ensures at c.in-Some-behind.ensures))

pub items_at-returns-in_default-behind-2 : goal.items_at-returns-in_default-behind-2
unfolding items_at
items_at-returns-in_default-behind-2 t c =
    list_torn (closing c.args.slice) (element_at c.args.slice (plain_at c.args.levels)) (elements_shrink c.args.slice c.args.levels) (map pattern_view c.parts.parts.items) (left c.parts.rest) (list_at (closing c.args.slice) (element_at c.args.slice (plain_at c.args.levels)) (left c.args.at)) c.parts.invariant _ _ (rw c.closing-close.ensures at c.in_default.ensures) c.in_ok-part.ensures (rw c.closing-close.ensures at c.in_default-behind.ensures) c.in_default-behind-2.ensures

pub items_at-parts-smaller : goal.items_at-parts-smaller
items_at-parts-smaller t c = list_smaller (closing c.args.slice) (element_at c.args.slice (plain_at c.args.levels)) (elements_shrink c.args.slice c.args.levels) (map pattern_view c.parts.parts.items) (left c.parts.rest) (list_at (closing c.args.slice) (element_at c.args.slice (plain_at c.args.levels)) (left c.args.at)) c.parts.invariant _ _ _ c.in_ok-part.ensures c.in-Some-behind-2.ensures

pub items_at-parts-preserved : goal.items_at-parts-preserved
items_at-parts-preserved t c =
    rw (ap (map pattern_view) c.in_ok-push.ensures.items ∙ map_push pattern_view c.parts.parts.items c.in_ok-part.part) (list_goes_on (closing c.args.slice) (element_at c.args.slice (plain_at c.args.levels)) (elements_shrink c.args.slice c.args.levels) (map pattern_view c.parts.parts.items) (left c.parts.rest) (list_at (closing c.args.slice) (element_at c.args.slice (plain_at c.args.levels)) (left c.args.at)) c.parts.invariant _ _ _ (rw c.closing-close.ensures at c.in_default.ensures) c.in_ok-part.ensures (rw c.closing-close.ensures at c.in_default-behind.ensures) c.in-Some-behind-2.ensures)

pub add_alts-returns-in_err-one : goal.add_alts-returns-in_err-one
add_alts-returns-in_err-one t c =
    let p = err_from_is_err_and c.from_residual.result c.from_residual.ensures.1 in
    rw (p.1, p.2) (parts_stuck marks.Bar (alt_at (plain_at c.args.levels)) (alts_shrink c.args.levels) (map pattern_view c.alts.all.items) (left c.alts.rest) (with_front (map pattern_view c.args.all.now.items) (parts_at marks.Bar (alt_at (plain_at c.args.levels)) (left c.args.at))) c.alts.invariant c.in_err-one.field-0.0 c.in_err-one.ensures)

pub add_alts-alts-smaller : goal.add_alts-alts-smaller
add_alts-alts-smaller t c = parts_smaller marks.Bar (alt_at (plain_at c.args.levels)) (alts_shrink c.args.levels) (map pattern_view c.alts.all.items) (left c.alts.rest) (with_front (map pattern_view c.args.all.now.items) (parts_at marks.Bar (alt_at (plain_at c.args.levels)) (left c.args.at))) c.alts.invariant _ _ _ c.in_ok-one.ensures c.in-Some.ensures

pub add_alts-alts-preserved : goal.add_alts-alts-preserved
add_alts-alts-preserved t c = rw (ap (map pattern_view) c.in_ok-push.ensures.items ∙ map_push pattern_view c.alts.all.items c.in_ok-one.one) (parts_go_on marks.Bar (alt_at (plain_at c.args.levels)) (alts_shrink c.args.levels) (map pattern_view c.alts.all.items) (left c.alts.rest) (with_front (map pattern_view c.args.all.now.items) (parts_at marks.Bar (alt_at (plain_at c.args.levels)) (left c.args.at))) c.alts.invariant _ _ _ c.in_ok-one.ensures c.in-Some.ensures)

pub add_alts-returns-in-None : goal.add_alts-returns-in-None
add_alts-returns-in-None t c = rw (ap (map pattern_view) c.in_ok-push.ensures.items ∙ map_push pattern_view c.alts.all.items c.in_ok-one.one) (parts_end marks.Bar (alt_at (plain_at c.args.levels)) (alts_shrink c.args.levels) (map pattern_view c.alts.all.items) (left c.alts.rest) (with_front (map pattern_view c.args.all.now.items) (parts_at marks.Bar (alt_at (plain_at c.args.levels)) (left c.args.at))) c.alts.invariant _ _ c.in_ok-one.ensures c.in-None.ensures)

pub plain_at-returns : goal.plain_at-returns
plain_at-returns t c =
    rw (plain_step c.args.levels (left c.args.at) (omega (arith, c.if-levels-eq0.false)) (sym c.in_default.ensures) (sym c.in_default-marked_at.ensures)) c.unbound_at.ensures

pub fields_at-returns-in-Some : goal.fields_at-returns-in-Some
fields_at-returns-in-Some t c = fields_closed (plain_at c.args.levels) (fields_shrink_at c.args.levels) (map field_view c.fields.fields.items) (left c.fields.rest) (fields_at (plain_at c.args.levels) (left c.args.at)) c.fields.invariant _ c.in-Some.ensures

pub fields_at-returns-in_default-behind-2 : goal.fields_at-returns-in_default-behind-2
fields_at-returns-in_default-behind-2 t c = fields_cut (plain_at c.args.levels) (fields_shrink_at c.args.levels) (map field_view c.fields.fields.items) (left c.fields.rest) (fields_at (plain_at c.args.levels) (left c.args.at)) c.fields.invariant _ c.in_default.ensures c.in-Some-behind.ensures c.in_default-behind-2.ensures

pub fields_at-returns-in-Some-behind : goal.fields_at-returns-in-Some-behind
fields_at-returns-in-Some-behind t c = fields_dotted (plain_at c.args.levels) (fields_shrink_at c.args.levels) (map field_view c.fields.fields.items) (left c.fields.rest) (fields_at (plain_at c.args.levels) (left c.args.at)) c.fields.invariant _ _ c.in_default.ensures c.in-Some-behind.ensures c.in-Some-behind-2.ensures

pub fields_at-returns-in_err-field : goal.fields_at-returns-in_err-field
fields_at-returns-in_err-field t c =
    let p = err_from_is_err_and c.from_residual.result c.from_residual.ensures.1 in
    rw (p.1, p.2) (fields_stuck (plain_at c.args.levels) (fields_shrink_at c.args.levels) (map field_view c.fields.fields.items) (left c.fields.rest) (fields_at (plain_at c.args.levels) (left c.args.at)) c.fields.invariant c.in_err-field.field-0.0 c.in_default.ensures c.in_default-behind.ensures c.in_err-field.ensures)

pub fields_at-returns-in-Some-behind-3 : goal.fields_at-returns-in-Some-behind-3
fields_at-returns-in-Some-behind-3 t c =
    rw (ap (map field_view) c.in_ok-push.ensures.items ∙ map_push field_view c.fields.fields.items c.in_ok-field.field) (fields_last (plain_at c.args.levels) (fields_shrink_at c.args.levels) (map field_view c.fields.fields.items) (left c.fields.rest) (fields_at (plain_at c.args.levels) (left c.args.at)) c.fields.invariant _ _ _ c.in_default.ensures c.in_default-behind.ensures c.in_ok-field.ensures c.in-Some-behind-3.ensures)

pub fields_at-returns-in_default-behind-4 : goal.fields_at-returns-in_default-behind-4
fields_at-returns-in_default-behind-4 t c =
    fields_torn (plain_at c.args.levels) (fields_shrink_at c.args.levels) (map field_view c.fields.fields.items) (left c.fields.rest) (fields_at (plain_at c.args.levels) (left c.args.at)) c.fields.invariant _ _ c.in_default.ensures c.in_default-behind.ensures c.in_ok-field.ensures c.in_default-behind-3.ensures c.in_default-behind-4.ensures

pub fields_at-fields-smaller : goal.fields_at-fields-smaller
fields_at-fields-smaller t c = fields_smaller (plain_at c.args.levels) (fields_shrink_at c.args.levels) (map field_view c.fields.fields.items) (left c.fields.rest) (fields_at (plain_at c.args.levels) (left c.args.at)) c.fields.invariant _ _ _ c.in_ok-field.ensures c.in-Some-behind-4.ensures

pub fields_at-fields-preserved : goal.fields_at-fields-preserved
fields_at-fields-preserved t c =
    rw (ap (map field_view) c.in_ok-push.ensures.items ∙ map_push field_view c.fields.fields.items c.in_ok-field.field) (fields_go_on (plain_at c.args.levels) (fields_shrink_at c.args.levels) (map field_view c.fields.fields.items) (left c.fields.rest) (fields_at (plain_at c.args.levels) (left c.args.at)) c.fields.invariant _ _ _ c.in_default.ensures c.in_default-behind.ensures c.in_ok-field.ensures c.in_default-behind-3.ensures c.in-Some-behind-4.ensures)

pub whole_at-returns-in_err-one : goal.whole_at-returns-in_err-one
whole_at-returns-in_err-one t c =
    let p = err_from_is_err_and c.from_residual.result c.from_residual.ensures.1 in
    rw (p.1, p.2) (whole_stuck (plain_at c.args.levels) (alts_shrink c.args.levels) (left c.args.at) (left c.skip_mark-first.result) c.skip_mark-first.ensures c.in_err-one.field-0.0 c.in_err-one.ensures)

pub whole_at-returns-in_default : goal.whole_at-returns-in_default
whole_at-returns-in_default t c = one_alone (plain_at c.args.levels) (alts_shrink c.args.levels) (left c.args.at) (left c.skip_mark-first.result) c.skip_mark-first.ensures (pattern_view c.in_ok-one.one) (left c.in_ok-one.rest) c.in_ok-one.ensures c.in_default.ensures

pub whole_at-returns-in_err-rest : goal.whole_at-returns-in_err-rest
whole_at-returns-in_err-rest t c =
    let p = err_from_is_err_and c.from_residual-in_err-rest.result c.from_residual-in_err-rest.ensures.1 in
    rw (p.1, p.2) (others_stuck (plain_at c.args.levels) (alts_shrink c.args.levels) (left c.args.at) (left c.skip_mark-first.result) c.skip_mark-first.ensures (pattern_view c.in_ok-one.one) (left c.in_ok-one.rest) c.in_ok-one.ensures (left c.in-Some.rest) c.in-Some.ensures (map pattern_view c.push.new.self.items) (ap (map pattern_view) (c.in_ok-push.ensures.items ∙ ap (λ xs. xs ++ c.in_ok-one.one ∷ []) c.new-all.ensures.items)) c.in_err-rest.field-0.0 c.in_err-rest.ensures)

pub whole_at-returns-in-Some-or_of : goal.whole_at-returns-in-Some-or_of
whole_at-returns-in-Some-or_of t c =
    let kind = ap (λ (n : ℕ). or_of n (map pattern_view c.add_alts.new.all.items)) (sym c.from-from.ensures) ∙ sym c.in-Some-or_of.ensures in
    all_read (plain_at c.args.levels) (alts_shrink c.args.levels) (left c.args.at) (left c.skip_mark-first.result) c.skip_mark-first.ensures (pattern_view c.in_ok-one.one) (left c.in_ok-one.rest) c.in_ok-one.ensures (left c.in-Some.rest) c.in-Some.ensures (map pattern_view c.push.new.self.items) (ap (map pattern_view) (c.in_ok-push.ensures.items ∙ ap (λ xs. xs ++ c.in_ok-one.one ∷ []) c.new-all.ensures.items)) _ _ _ c.in_ok-rest.ensures kind

pub whole_at-returns-in-None : goal.whole_at-returns-in-None
whole_at-returns-in-None t c =
    let kind = ap (λ (n : ℕ). or_of n (map pattern_view c.add_alts.new.all.items)) (sym c.from-from.ensures) ∙ sym c.in-None.ensures in
    all_read (plain_at c.args.levels) (alts_shrink c.args.levels) (left c.args.at) (left c.skip_mark-first.result) c.skip_mark-first.ensures (pattern_view c.in_ok-one.one) (left c.in_ok-one.rest) c.in_ok-one.ensures (left c.in-Some.rest) c.in-Some.ensures (map pattern_view c.push.new.self.items) (ap (map pattern_view) (c.in_ok-push.ensures.items ∙ ap (λ xs. xs ++ c.in_ok-one.one ∷ []) c.new-all.ensures.items)) _ _ _ c.in_ok-rest.ensures kind

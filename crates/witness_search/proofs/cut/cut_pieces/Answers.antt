use Rattle.std.proofs.Common.{◌≡◌, ◌<◌, ◌∙◌, ◌∷◌, [], List, Bool, ℕ, map, length, true, false, refl, subst, sym, ap, arith, eqb, vec_len, IsTrue}
use Rattle.std.specs.List.{All}
use Rattle.std.proofs.lemmas.Bool.Decides.{nat_tests}
use Rattle.std.proofs.lemmas.List.{length-map}
use Rattle.match_model.specs.Constructors.{MCtor}
use Rattle.match_model.specs.PieceStates.{named_in}
use Rattle.constructor_sets.specs.Columns.{plain_ctors, plain_piece, IsColumnSplit}
use Rattle.constructor_sets.specs.Present.{is_sharp_head}
use Rattle.constructor_sets.specs.Spans.{AreSpans}
use Rattle.constructor_sets.specs.declared.piece.Piece.{Piece}
use Rattle.constructor_sets.specs.declared.piece.PieceState.{PieceState}
use Rattle.pat_context.specs.declared.ctor.Ctor.{Ctor}
use Rattle.pattern_matrix.specs.Columns.{plain_column}
use Rattle.pattern_matrix.specs.Halving.{leaf_ctors, AreLeafSpans}
use Rattle.pattern_matrix.specs.Parts.{plain_spans}
use Rattle.pattern_matrix.specs.Views.{plain_rows, plain_leaves}
use Rattle.pattern_matrix.specs.declared.rows.Leaf.{Leaf}
use Rattle.witnesses.specs.Views.{plain_stack, plain_names}
use Rattle.witness_search.specs.Found.{as_present}
use Rattle.witness_search.specs.Opened.{places_of, numbers_of}
use Rattle.witness_search.specs.Wells.{apart_heads}
use Rattle.witness_search.proofs.Cutting.{cut_is}
use Rattle.witness_search.proofs.Stepping.{apart_sharp}
use Rattle.witness_search.proofs.cut.cut_pieces.Goals as goal

zero_of : (r : Bool) (n : ℕ) → r ≡ eqb n 0 → r ≡ true → n ≡ 0
zero_of r n h k = grind (arith, nat_tests)

pos_of : (r : Bool) (n : ℕ) → r ≡ eqb n 0 → r ≡ false → 0 < n
pos_of r n h k = grind (arith, nat_tests)

pub listed_pieces-requires : goal.listed_pieces-requires
listed_pieces-requires g c =
    let cx = c.args.cx.now in
    let e = c.args.e.now in
    let others = c.args.others.now.items in
    record {
      ty = c.requires.apart.type;
      heads = subst (λ (ls : List (Leaf g.row.C-Ty.Denot)). All (λ h. IsTrue (is_sharp_head ((g.C.PatCx.context cx).set_of e.place.column.ty) h)) (leaf_ctors (plain_leaves ls))) (sym c.deref.ensures.value)
          (apart_sharp (g.C.PatCx.is_type cx) (g.C.PatCx.context cx) e.next e.place.number (plain_column e.place.column) (numbers_of others) (places_of others) (plain_rows e.rows.items) (plain_leaves e.leaves.items) (leaf_ctors (plain_leaves e.leaves.items)) c.requires.apart);
    }

nil_of : {A : Type 0} (xs : List A) → length xs ≡ 0 → xs ≡ []
nil_of [] e = refl
nil_of (x ∷ xs) e = absurd (omega (arith, e))

pub into_leaf_spans-requires : goal.into_leaf_spans-requires
into_leaf_spans-requires g c =
    let found = c.args.found in
    let e = c.args.e.now in
    subst (λ (cs : List Ctor). AreSpans (plain_ctors cs) (leaf_ctors (plain_leaves c.deref-5.result.now)) (plain_spans found.spans.items)) (sym c.deref-4.ensures.value)
    (subst (λ (ls : List (Leaf g.row.C-Ty.Denot)). AreSpans (plain_ctors found.ctors.items) (leaf_ctors (plain_leaves ls)) (plain_spans found.spans.items)) (sym c.deref-5.ensures.value)
    c.requires.found.each)

pub returns : goal.returns
returns g c =
    let cx = c.args.cx.now in
    let found = c.args.found in
    let e = c.args.e.now in
    let others = c.args.others.now.items in
    let behind = c.args.behind in
    let o = plain_column e.place.column in
    let pieces = c.in_ok-pieces.pieces.items in
    let a = c.requires.apart in
    cut_is (g.C.PatCx.context cx) (g.C.PatCx.is_value cx) o (places_of others) (apart_heads others e) (places_of others) (plain_leaves e.leaves.items) (plain_ctors found.ctors.items) (leaf_ctors (plain_leaves e.leaves.items)) (plain_ctors found.gaps.items)
    found.missing c.is_empty-none.result (plain_spans c.in_ok-spans.spans.items) (map plain_piece pieces) (plain_names c.in_ok-names.names.items) (map plain_stack behind.items)
    a.typed
    (subst (All (λ h. IsTrue (is_sharp_head ((g.C.PatCx.context cx).set_of e.place.column.ty) h))) a.column
    (apart_sharp (g.C.PatCx.is_type cx) (g.C.PatCx.context cx) e.next e.place.number o (numbers_of others) (places_of others) (plain_rows e.rows.items) (plain_leaves e.leaves.items) (leaf_ctors (plain_leaves e.leaves.items)) a))
    a.column c.requires.found.found
    (subst (λ (cs : List Ctor). AreLeafSpans (plain_ctors cs) (plain_leaves e.leaves.items) (plain_spans c.in_ok-spans.spans.items)) c.deref-4.ensures.value
    (subst (λ (ls : List (Leaf g.row.C-Ty.Denot)). AreLeafSpans (plain_ctors c.deref-4.result.now) (plain_leaves ls) (plain_spans c.in_ok-spans.spans.items)) c.deref-5.ensures.value c.in_ok-spans.ensures))
    (c.in_ok-names.ensures ∙ ap (λ (ps : List Piece). named_in (map (λ (p : MCtor × PieceState). p.0) (map plain_piece ps))) c.deref-3.ensures.value)
    (λ h. c.in_ok-pieces.ensures.present h ∙ ap (λ (cs : List Ctor). as_present (plain_ctors cs)) c.deref-2.ensures.value)
    (λ h. subst (λ (ls : List (Leaf g.row.C-Ty.Denot)). IsColumnSplit (g.C.PatCx.is_value cx) (g.C.PatCx.context cx) o (leaf_ctors (plain_leaves ls)) (map plain_piece pieces)) c.deref.ensures.value
    (c.in_ok-pieces.ensures.split h))
    (λ h. ap (map plain_stack) (nil_of behind.items (omega (arith, zero_of c.is_empty-none.result (vec_len behind) c.is_empty-none.ensures h, behind.ok.0))))
    (λ h. omega (arith, pos_of c.is_empty-none.result (vec_len behind) c.is_empty-none.ensures h, behind.ok.0, length-map behind.items plain_stack))
    c.requires.missing (λ h. ap (map plain_stack) (c.requires.none h))

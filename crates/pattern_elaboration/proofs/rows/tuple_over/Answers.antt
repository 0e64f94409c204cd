use Rattle.std.proofs.Common.{◌≡◌, List, [], ◌++◌, map, ap, sym, subst, ◌∙◌, append_assoc}
use Rattle.std.proofs.lemmas.Result.{IfOk-weaker}
use Rattle.match_model.specs.Constructors.{SingleCtor}
use Rattle.match_model.specs.ArenaPatterns.{de_pat, de_pats_of}
use Rattle.pattern_arena.specs.declared.pattern.DePat.{DePat}
use Rattle.pattern_arena.specs.Trees.{tree}
use Rattle.type_table.specs.declared.table.TyId.{TyId}
use Rattle.type_table.specs.Tables.{IsOf, table_program, table_type}
use Rattle.pattern_rules.specs.Builders.{list_of}
use Rattle.pattern_elaboration.specs.Given.{trees, given}
use Rattle.pattern_elaboration.specs.Rests.{fixed}
use Rattle.pattern_elaboration.specs.Numbered.{AreMade}
use Rattle.pattern_elaboration.specs.Walking.{plain}
use Rattle.pattern_elaboration.proofs.RowLists.{tuple_shown, tuple_made}
use Rattle.pattern_elaboration.proofs.rows.tuple_over.Goals as goal

pub returns-clause-shown : goal.returns-clause-shown
returns-clause-shown c = λ written m tuple fits is.
    let table = c.args.table.now in
    let front = c.args.front.now in
    let back = c.args.back.now in
    let between = c.in_ok-between.between.items in
    let parts : c.deref-2.result.now ≡ front ++ (between ++ back) =
    c.deref-2.ensures.value
    ∙ (c.in_ok-extend_from_slice-2.ensures.items
    ∙ (ap (λ (xs : List (DePat TyId)). xs ++ back) (c.in_ok-extend_from_slice.ensures.items
    ∙ (ap (λ (xs : List (DePat TyId)). xs ++ c.deref.result.now) c.in_ok-parts.ensures.items
    ∙ ap (λ (xs : List (DePat TyId)). front ++ xs) c.deref.ensures.value))
    ∙ append_assoc front between back)) in
    IfOk-weaker c.over.result
    (λ p. tree p ≡ de_pat SingleCtor c.args.ty c.between.new.next 0 (de_pats_of (map tree c.deref-2.result.now)) [])
    (λ p. plain table p ≡ list_of (table_program table) (fixed (given (table_type table) front)) written
    (fixed (given (table_type table) back)) (table_type table c.args.ty) m)
    (λ p e. tuple_shown (table_type table) (table_program table) front between back c.deref-2.result.now written m
    c.args.ty c.between.new.next (tree p) tuple fits
    (c.in_ok-between.ensures.shown written m is) parts e)
    c.over.ensures.tree

pub returns-clause-made : goal.returns-clause-made
returns-clause-made c = λ from h.
    let table = c.args.table.now in
    let front = c.args.front.now in
    let back = c.args.back.now in
    let between = c.in_ok-between.between.items in
    let parts : c.deref-2.result.now ≡ front ++ (between ++ back) =
    c.deref-2.ensures.value
    ∙ (c.in_ok-extend_from_slice-2.ensures.items
    ∙ (ap (λ (xs : List (DePat TyId)). xs ++ back) (c.in_ok-extend_from_slice.ensures.items
    ∙ (ap (λ (xs : List (DePat TyId)). xs ++ c.deref.result.now) c.in_ok-parts.ensures.items
    ∙ ap (λ (xs : List (DePat TyId)). front ++ xs) c.deref.ensures.value))
    ∙ append_assoc front between back)) in
    c.over.ensures.made table from c.requires
    (subst (λ (ps : List (DePat TyId)). AreMade (IsOf table) from c.between.new.next (trees ps)) (sym parts)
    (tuple_made (IsOf table) from c.args.next.now c.between.new.next front between back h c.in_ok-between.ensures.made))

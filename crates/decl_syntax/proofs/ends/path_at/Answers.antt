use Rattle.std.proofs.Common.{◌++◌, ◌∷◌, [], map, refl, ap, ◌∙◌}
use Rattle.std.specs.Rc.{rc_str_bytes}
use Rattle.std.proofs.lemmas.List.{map_push}
use Rattle.std.proofs.lemmas.Result.{err_from_is_err_and}
use Rattle.decl_lexer.specs.declared.marks.Mark.TheVariants as marks
use Rattle.decl_syntax.specs.Units.{left, token_at}
use Rattle.decl_syntax.specs.EndReading.{segment_of, segment_view, segments_at, path_tree_at}
use Rattle.decl_syntax.proofs.ListLemmas.{no_front, parts_stuck, parts_end, parts_go_on, parts_smaller}
use Rattle.decl_syntax.proofs.EndLaws.{segment_shrinks, gathered, path_fails}
use Rattle.decl_syntax.proofs.ends.path_at.Goals as goal

pub parts-init : goal.parts-init
unfolding segments_at
parts-init c = ([], rw c.in_ok-names.ensures.items refl, refl, no_front _)

pub returns-in_err-name : goal.returns-in_err-name
returns-in_err-name c =
    let p = err_from_is_err_and c.from_residual-in_err-name.result c.from_residual-in_err-name.ensures.1 in
    rw (p.1, p.2) (path_fails c.in_err-name.field-0.0 (left c.args.at)
    (parts_stuck marks.PathSeparator (token_at segment_of) segment_shrinks c.parts.invariant.0 (left c.parts.rest) (segments_at (left c.args.at)) c.parts.invariant.3 c.in_err-name.field-0.0 c.in_err-name.ensures))

pub parts-preserved : goal.parts-preserved
parts-preserved c =
    let g = gathered c.parts.invariant.0 (segment_view (rc_str_bytes c.in_ok-name.name) c.in_ok-name.is_name) (map rc_str_bytes c.parts.names.items) (map rc_str_bytes c.push.new.self.items) c.parts.plain c.parts.invariant.1 c.parts.invariant.2
    (ap (map rc_str_bytes) c.in_ok-push.ensures.items ∙ map_push rc_str_bytes c.parts.names.items c.in_ok-name.name) in
    (c.parts.invariant.0 ++ segment_view (rc_str_bytes c.in_ok-name.name) c.in_ok-name.is_name ∷ [], g.0, g.1, parts_go_on marks.PathSeparator (token_at segment_of) segment_shrinks c.parts.invariant.0 (left c.parts.rest) (segments_at (left c.args.at)) c.parts.invariant.3 _ _ _ c.in_ok-name.ensures c.in-Some.ensures)

pub parts-smaller : goal.parts-smaller
parts-smaller c = parts_smaller marks.PathSeparator (token_at segment_of) segment_shrinks c.parts.invariant.0 (left c.parts.rest) (segments_at (left c.args.at)) c.parts.invariant.3 _ _ _ c.in_ok-name.ensures c.in-Some.ensures

pub returns-in-None : goal.returns-in-None
unfolding path_tree_at
returns-in-None c =
    let g = gathered c.parts.invariant.0 (segment_view (rc_str_bytes c.in_ok-name.name) c.in_ok-name.is_name) (map rc_str_bytes c.parts.names.items) (map rc_str_bytes c.fitted-names.result.items) c.parts.plain c.parts.invariant.1 c.parts.invariant.2
    (ap (map rc_str_bytes) (c.fitted-names.ensures ∙ c.in_ok-push.ensures.items) ∙ map_push rc_str_bytes c.parts.names.items c.in_ok-name.name) in
    rw (parts_end marks.PathSeparator (token_at segment_of) segment_shrinks c.parts.invariant.0 (left c.parts.rest) (segments_at (left c.args.at)) c.parts.invariant.3 _ _ c.in_ok-name.ensures c.in-None.ensures, g.0, g.1) refl

use Rattle.std.proofs.Common.{◌∷◌, ◌++◌, ◌∙◌, [], reverse, subst, sym, ap, map}
use Rattle.pat_context.specs.Views.{plain_place}
use Rattle.constructor_sets.specs.Columns.{plain_ctors}
use Rattle.keyed_matrix.specs.Deciding.{table_decides}
use Rattle.tree_eval.specs.Nodes.{plain_bind, plain_branch}
use Rattle.tree_eval.specs.Trees.{table_trees}
use Rattle.tree_eval.specs.declared.tree.Case.TheVariants.{Else}
use Rattle.decision_tree.specs.declared.frames.Frame.TheVariants.{Guard, Switch, Last, Others, Note}
use Rattle.decision_tree.specs.declared.frames.Turn.TheVariants.{Lower, Finished}
use Rattle.decision_tree.specs.KnownViews.{known_entries, plain_known_matrix}
use Rattle.decision_tree.specs.Waiting.{IsBare, IsEnded, IsLeft, IsTurn}
use Rattle.decision_tree.proofs.Knowing.{note-resumed, ask-keeps}
use Rattle.decision_tree.proofs.KnownTrees.{known-after, known-more}
use Rattle.decision_tree.proofs.LastCases.{last-resumed, others-resumed}
use Rattle.decision_tree.proofs.Turning.{last-first, map-snoc, guard-resumed, switch-resumed, switch-cut}
use Rattle.decision_tree.proofs.lowering.resume.Goals as goal

pub next_case-requires : goal.next_case-requires
next_case-requires g c κs inside =
    let cx = c.args.cx.now in
    let IsType = g.C.PatCx.is_type cx in
    let context = g.C.PatCx.context cx in
    let V = g.C.PatCx.is_value cx in
    let decides = table_decides c.args.decisions.now in
    let frames = reverse c.args.frames.now.items in
    let now = table_trees c.args.table.now in
    let new = c.pop.new.self.items in
    let l = c.in-Some-Switch.looked in
    let case = c.in-Some-Switch.case in
    let index = c.args.index in
    let popped = last-first new c.args.frames.now.items (Switch l case)
    (c.in-Some-Switch.ensures.items ∙ ap (λ f. new ++ f ∷ []) c.in-Some-Switch.field-0-is) in (
      inside.0,
      (
        inside.1,
        (
          subst (IsLeft IsType context V decides g.root (reverse new) now l.matrix l.column (plain_ctors l.pieces.items))
              (sym (map-snoc plain_branch l.cases.items c.push-in-Some-Switch.new.self.items (case, index) c.in_ok-push-in-Some-Switch.ensures.items))
              (switch-resumed IsType context V decides g.root (reverse new) now l case index
              (subst (λ fs. IsTurn IsType context V decides g.root fs now (Finished index)) popped c.requires.1.1.0)),
          switch-cut IsType context V decides g.root (reverse new) now l case index
              (subst (λ fs. IsTurn IsType context V decides g.root fs now (Finished index)) popped c.requires.1.1.0),
        ),
      ),
    )

pub returns-in_ok-asked-in-Some-Guard-clause-turn : goal.returns-in_ok-asked-in-Some-Guard-clause-turn
returns-in_ok-asked-in-Some-Guard-clause-turn g c =
    let cx = c.args.cx.now in
    let IsType = g.C.PatCx.is_type cx in
    let context = g.C.PatCx.context cx in
    let V = g.C.PatCx.is_value cx in
    let decides = table_decides c.args.decisions.now in
    let frames = reverse c.args.frames.now.items in
    let now = table_trees c.args.table.now in
    let new = c.pop.new.self.items in
    let arm = c.in-Some-Guard.arm in
    let binds = c.in-Some-Guard.binds in
    let index = c.args.index in
    let popped = last-first new c.args.frames.now.items (Guard arm binds)
    (c.in-Some-Guard.ensures.items ∙ ap (λ f. new ++ f ∷ []) c.in-Some-Guard.field-0-is) in
    guard-resumed IsType context V decides g.root (reverse new) now (table_trees c.ask.new.self) arm binds index c.in_ok-asked-in-Some-Guard.asked
    (subst (λ fs. IsTurn IsType context V decides g.root fs now (Finished index)) popped c.requires.1.1.0) c.in_ok-asked-in-Some-Guard.ensures.finished

pub returns-in_ok-asked-in-Some-Guard-clause-known : goal.returns-in_ok-asked-in-Some-Guard-clause-known
returns-in_ok-asked-in-Some-Guard-clause-known g c =
    let cx = c.args.cx.now in
    let IsType = g.C.PatCx.is_type cx in
    let context = g.C.PatCx.context cx in
    let V = g.C.PatCx.is_value cx in
    let decides = table_decides c.args.decisions.now in
    let frames = reverse c.args.frames.now.items in
    let now = table_trees c.args.table.now in
    let new = c.pop.new.self.items in
    let arm = c.in-Some-Guard.arm in
    let binds = c.in-Some-Guard.binds in
    let index = c.args.index in
    let popped = last-first new c.args.frames.now.items (Guard arm binds)
    (c.in-Some-Guard.ensures.items ∙ ap (λ f. new ++ f ∷ []) c.in-Some-Guard.field-0-is) in
    known-after context V decides (IsBare V g.root) g.root now (table_trees c.ask.new.self) (known_entries c.args.known.now)
    (ask-keeps IsType context V decides g.root (reverse new) now (table_trees c.ask.new.self) arm binds (map plain_bind binds.items)
    index c.in_ok-asked-in-Some-Guard.asked
    (subst (λ fs. IsTurn IsType context V decides g.root fs now (Finished index)) popped c.requires.1.1.0)
    c.in_ok-asked-in-Some-Guard.ensures.finished) c.requires.1.1.1

pub returns-in_ok-note_known-in-Some-Note-clause-turn : goal.returns-in_ok-note_known-in-Some-Note-clause-turn
returns-in_ok-note_known-in-Some-Note-clause-turn g c =
    let cx = c.args.cx.now in
    let IsType = g.C.PatCx.is_type cx in
    let context = g.C.PatCx.context cx in
    let V = g.C.PatCx.is_value cx in
    let decides = table_decides c.args.decisions.now in
    let now = table_trees c.args.table.now in
    let new = c.pop.new.self.items in
    let matrix = c.in-Some-Note.matrix in
    let index = c.args.index in
    let popped = last-first new c.args.frames.now.items (Note matrix)
    (c.in-Some-Note.ensures.items ∙ ap (λ f. new ++ f ∷ []) c.in-Some-Note.field-0-is) in
    (note-resumed IsType context V decides g.root (reverse new) now matrix index
    (subst (λ fs. IsTurn IsType context V decides g.root fs now (Finished index)) popped c.requires.1.1.0)).0

pub returns-in_ok-note_known-in-Some-Note-clause-known : goal.returns-in_ok-note_known-in-Some-Note-clause-known
returns-in_ok-note_known-in-Some-Note-clause-known g c =
    let cx = c.args.cx.now in
    let IsType = g.C.PatCx.is_type cx in
    let context = g.C.PatCx.context cx in
    let V = g.C.PatCx.is_value cx in
    let decides = table_decides c.args.decisions.now in
    let now = table_trees c.args.table.now in
    let new = c.pop.new.self.items in
    let matrix = c.in-Some-Note.matrix in
    let index = c.args.index in
    let popped = last-first new c.args.frames.now.items (Note matrix)
    (c.in-Some-Note.ensures.items ∙ ap (λ f. new ++ f ∷ []) c.in-Some-Note.field-0-is) in
    known-more context V decides (IsBare V g.root) g.root now (known_entries c.args.known.now)
    (known_entries c.note_known.new.known) (plain_known_matrix matrix) index c.requires.1.1.1
    (note-resumed IsType context V decides g.root (reverse new) now matrix index
    (subst (λ fs. IsTurn IsType context V decides g.root fs now (Finished index)) popped c.requires.1.1.0)).1
    c.in_ok-note_known-in-Some-Note.ensures

pub returns-in_ok-turn-in-Some-Switch-clause-known : goal.returns-in_ok-turn-in-Some-Switch-clause-known
returns-in_ok-turn-in-Some-Switch-clause-known g c =
    let context = g.C.PatCx.context c.args.cx.now in
    let V = g.C.PatCx.is_value c.args.cx.now in
    known-after context V (table_decides c.args.decisions.now) (IsBare V g.root) g.root (table_trees c.args.table.now)
    (table_trees c.next_case.new.table) (known_entries c.args.known.now) c.in_ok-turn-in-Some-Switch.ensures.keeps
    c.requires.1.1.1

pub finish_switch-requires : goal.finish_switch-requires
finish_switch-requires g c κs inside =
    let cx = c.args.cx.now in
    let IsType = g.C.PatCx.is_type cx in
    let context = g.C.PatCx.context cx in
    let V = g.C.PatCx.is_value cx in
    let decides = table_decides c.args.decisions.now in
    let now = table_trees c.args.table.now in
    let new = c.pop.new.self.items in
    let place = c.in-Some-Last.place in
    let cases = c.in-Some-Last.cases in
    let case = c.in-Some-Last.case in
    let index = c.args.index in
    let popped = last-first new c.args.frames.now.items (Last place cases case)
    (c.in-Some-Last.ensures.items ∙ ap (λ f. new ++ f ∷ []) c.in-Some-Last.field-0-is) in (
      inside.0,
      (
        inside.1,
        subst (IsEnded IsType context V decides g.root (reverse new) now (plain_place place.now))
            (sym (map-snoc plain_branch cases.items c.push.new.self.items (case, index) c.in_ok-push-in-Some-Last.ensures.items))
            (last-resumed IsType context V decides g.root (reverse new) now place cases case index
            (subst (λ fs. IsTurn IsType context V decides g.root fs now (Finished index)) popped c.requires.1.1.0)),
      ),
    )

pub returns-in_ok-done-in-Some-Last-clause-known : goal.returns-in_ok-done-in-Some-Last-clause-known
returns-in_ok-done-in-Some-Last-clause-known g c =
    let context = g.C.PatCx.context c.args.cx.now in
    let V = g.C.PatCx.is_value c.args.cx.now in
    known-after context V (table_decides c.args.decisions.now) (IsBare V g.root) g.root (table_trees c.args.table.now)
    (table_trees c.finish_switch.new.table) (known_entries c.args.known.now) c.in_ok-done-in-Some-Last.ensures.keeps
    c.requires.1.1.1

pub lower_thin-requires : goal.lower_thin-requires
lower_thin-requires g c κs inside =
    let cx = c.args.cx.now in
    let IsType = g.C.PatCx.is_type cx in
    let context = g.C.PatCx.context cx in
    let V = g.C.PatCx.is_value cx in
    let decides = table_decides c.args.decisions.now in
    let now = table_trees c.args.table.now in
    let new = c.pop.new.self.items in
    let place = c.in-Some-Others.place in
    let case = c.in-Some-Others.case in
    let matrix = c.in-Some-Others.matrix in
    let index = c.args.index in
    let popped = last-first new c.args.frames.now.items (Others place case matrix)
    (c.in-Some-Others.ensures.items ∙ ap (λ f. new ++ f ∷ []) c.in-Some-Others.field-0-is) in (
      inside.0,
      (
        inside.1,
        subst (λ fs. IsTurn IsType context V decides g.root fs now (Lower matrix))
            (sym (last-first new _ _ c.in_ok-push-in-Some-Others-2.ensures.items))
            (others-resumed IsType context V decides g.root (reverse new) now place case matrix index c.push-in-Some-Others.new.self
            (subst (λ fs. IsTurn IsType context V decides g.root fs now (Finished index)) popped c.requires.1.1.0)
            (ap (map plain_branch) (c.in_ok-push-in-Some-Others.ensures.items
            ∙ ap (λ xs. xs ++ (Else, index) ∷ []) c.in_ok-cases-in-Some-Others.ensures.items))),
      ),
    )

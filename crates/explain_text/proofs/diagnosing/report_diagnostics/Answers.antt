use Rattle.std.proofs.Common.{subst, List}
use Rattle.explain_places.specs.declared.pieces.Piece.{Piece}
use Rattle.explain_report.specs.Arms.{read_arms}
use Rattle.explain_report.specs.Skimming.{read_skimmed}
use Rattle.explain_text.specs.Diagnosing.{Diagnoses, diagnosis_of}
use Rattle.explain_text.specs.Sources.{mark_length}
use Rattle.explain_text.proofs.Whole.{diagnosed, inside_all}
use Rattle.explain_text.proofs.diagnosing.report_diagnostics.Goals as goal

pub returns : goal.returns
returns c =
    let file = c.args.file.now in
    let report = read_skimmed c.args.json.now in
    let arms = read_arms c.args.arms.now in
    let ps = c.in_ok-pieces.pieces.items in
    let told = subst (λ (qs : List Piece). Diagnoses (diagnosis_of file report arms qs) c.both_diagnosed.result) c.as_slice.ensures.value c.both_diagnosed.ensures in
    record {
      exact = diagnosed file ps (diagnosis_of file report arms) c.both_diagnosed.result c.in_ok-pieces.ensures.exact told;
      inside = inside_all file (mark_length file) report arms ps c.both_diagnosed.result told;
    }

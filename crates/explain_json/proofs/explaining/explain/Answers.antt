use Rattle.std.proofs.Common.{sym, subst, ◌-◌, List, length, map}
use Rattle.std.specs.List.{All}
use Rattle.explain_report.specs.Arms.{read_arms}
use Rattle.explain_report.specs.Skimming.{read_skimmed}
use Rattle.explain_text.specs.Diagnosing.{diagnosis_of}
use Rattle.explain_text.specs.Diagnostics.{IsInside, diagnostic_view}
use Rattle.explain_text.specs.Sources.{mark_length}
use Rattle.explain_text.specs.declared.diagnostics.Diagnostic.{Diagnostic}
use Rattle.explain_json.specs.Texts.{IsTextOf}
use Rattle.explain_json.proofs.Told.{answered, failed}
use Rattle.explain_json.proofs.explaining.explain.Goals as goal

pub findings_explained-requires : goal.findings_explained-requires
findings_explained-requires c =
    subst (λ (l : List Diagnostic). All (IsInside (length c.args.file.now - mark_length c.args.file.now) (mark_length c.args.file.now)) (map diagnostic_view l))
    (sym c.as_slice.ensures.value) c.in-Ok.ensures.inside

pub returns-in_ok-findings_explained-in-Ok : goal.returns-in_ok-findings_explained-in-Ok
returns-in_ok-findings_explained-in-Ok c =
    answered c.args.name.now c.args.file.now (diagnosis_of c.args.file.now (read_skimmed c.args.json.now) (read_arms c.args.arms.now))
    c.in-Ok.found c.in_ok-findings_explained-in-Ok.field-0 c.in-Ok.ensures.exact
    (subst (λ (l : List Diagnostic). IsTextOf c.args.name.now c.args.file.now (map diagnostic_view l) c.in_ok-findings_explained-in-Ok.field-0) c.as_slice.ensures.value
    c.in_ok-findings_explained-in-Ok.ensures)

pub returns-in-Err : goal.returns-in-Err
returns-in-Err c =
    failed c.args.name.now c.args.file.now (diagnosis_of c.args.file.now (read_skimmed c.args.json.now) (read_arms c.args.arms.now)) c.in-Err.fault
    c.in-Err.ensures.exact
